use Rattle.std.proofs.Common.{◌≡◌, refl, sym, subst}
use Rattle.std.proofs.lemmas.List.Elements.{All-nil}
use Rattle.ace_lineck.proofs.Terms.{AreRoomFor}
use Rattle.ace_lineck.proofs.AllLines.{begins}
use Rattle.ace_lineck.proofs.lines.LineCheck.new.Goals as goal

pub returns : goal.returns
returns c is =
    begins _ c.args.header refl is c.empty_record.ensures c.new.ensures.empty refl
    (subst (AreRoomFor c.args.header.ports) (sym c.new-2.ensures.items) (All-nil (λ n. n ≡ c.args.header.ports)))
