use Rattle.std.proofs.Common.{◌≡◌, option_copied, refl, subst}
use Rattle.ace_lineck.proofs.Terms.{received, R}
use Rattle.ace_model.proofs.General.Options.{Some-injective}
use Rattle.ace_lineck.proofs.read_data.advance.Goals as goal

pub returns-clause-stands : goal.returns-clause-stands
returns-clause-stands c past l i resp word t s at kind =
    let h = c.args.header.now in
    let p = c.args.x.now.transaction.port in
    let xs = c.args.kept.now.holders.items in
    let whole = c.received-whole.ensures h past l p i resp word c.args.last t c.args.kept.now refl s at kind in
    record {
      used = s.stands.used;
      memory = record { memory = s.stands.memory.memory };
      grant = c.serve.ensures h past l p i resp word c.args.last t xs
          (record { step = s.step; grant = s.stands.grant; holders = s.stands.holders; memory = s.stands.memory }) c.ends_read-over.ensures;
      states = record { state = s.stands.states.state };
      holders = c.receive.ensures.stand h past l i resp word c.args.last t (record {
        step = s.step;
        room = s.room;
        whole = λ q port. subst (λ v. option_copied c.received-whole.result ≡ received past (R p i resp c.args.last word) v l) (Some-injective p q port) whole;
        stand = s.stands.holders;
      });
    }
