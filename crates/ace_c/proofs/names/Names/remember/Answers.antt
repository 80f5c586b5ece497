use Rattle.std.proofs.lemmas.List.Elements.{All-set}
use Rattle.ace_c.specs.Naming.{IsRecent}
use Rattle.ace_c.proofs.names.Names.remember.Goals as goal

pub returns : goal.returns
returns c = λ lines s named. record {
  recent = All-set (IsRecent lines) c.args.self.now.recent c.place_of.result (record { line = c.args.line; name = c.args.name }) (λ few. named) s.recent;
  places = s.places;
  count = s.count;
  few = s.few;
}
