use Rattle.std.proofs.Common.{◌≡◌, ◌∙◌, true, false, [], refl, subst, sym}
use Rattle.ace_event.specs.declared.header.Header.{Header}
use Rattle.ace_event.specs.Ports.{IsHeader}
use Rattle.ace_portck.specs.Stands as portck
use Rattle.ace_sysck.specs.Stands as sysck
use Rattle.ace_order.proofs.NextSenders.{none-at-first}
use Rattle.ace_order.proofs.order.Order.new.Goals as goal

pub returns : goal.returns
returns c =
    let right = c.requires in
    let e = c.header-header.ensures in
    record {
      current = record {
        legal = record { right = right; accepted = tt; follows = tt; lean = tt };
        header = e;
        ports = subst (λ (h : Header). portck.Stands c.in-Ok.ports (record { header = h; past = [] })) e (c.in-Ok.ensures.stands (subst IsHeader (sym e) right.header));
        snoops = c.in-Ok.ensures.room;
        system = subst (λ (h : Header). sysck.Stands c.in-Ok-with_room.system (record { header = h; past = [] })) e (c.in-Ok-with_room.ensures.stands (subst IsHeader (sym e) right.header));
        lines = c.in-Ok-with_room.ensures.room;
        waiting = λ p now. let bad : false ≡ true = sym (c.none.ensures p) ∙ now in cc;
        quiet = λ p now. refl;
        senders = λ q m low next. none-at-first c.args.plan.now.plan.header q m next;
      };
      answered = λ p k b there. cc;
      forwarded = λ q. ([], [], refl, refl);
    }
