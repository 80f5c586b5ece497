use Rattle.std.proofs.Common.{◌≡◌, ◌<◌, ◌∙◌, ◌∷◌, length, Some, slice_get, slice_index_or, sym, ap, subst, arith}
use Rattle.std.proofs.lemmas.Grind.{common_steps}
use Rattle.std.proofs.lemmas.List.{get_or_read}
use Rattle.std.proofs.lemmas.Option.{slice_get-get_or}
use Rattle.std.proofs.lemmas.List.Elements.{All-set}
use Rattle.ace_portck.proofs.Terms.{PortRecord, PortStands, record_at}
use Rattle.ace_portck.specs.Snoops as snoops
use Rattle.ace_portck.proofs.AllPorts.{ports_set, port_elsewhere}
use Rattle.ace_model.proofs.General.Options.{Some-injective}
use Rattle.ace_portck.proofs.ports.hear_at.Goals as goal

pub returns-in-Some-clause-stands : goal.returns-in-Some-clause-stands
returns-in-Some-clause-stands c = λ past outside heard bytes low room s.
    let h = c.args.header.now in
    let e = c.args.event.now in
    let i = c.args.port in
    let items = c.args.ports.now.items in
    let at : c.from.result ≡ i = c.from.ensures in
    let within : i < length items = grind (arith, common_steps) in
    let value : c.in-Some.kept.now ≡ slice_index_or items i c.in-Some.kept.now = grind (arith, common_steps) in
    let is : c.in-Some.kept.now ≡ record_at items outside i = get_or_read items i c.in-Some.kept.now within value outside in
    let there : slice_get items i ≡ Some c.in-Some.kept.now = slice_get-get_or items i c.in-Some.kept.now within ∙ ap Some (sym value) in
    let here = c.hear.ensures.stands past heard bytes (subst (PortStands h past i) (sym is) (s i)) (room c.in-Some.kept.now there) in
    rw at (ports_set h (e ∷ past) items outside c.hear.new.self i within here
    (λ p off. port_elsewhere h past p (record_at items outside p) e heard.accepted (λ own. off (Some-injective p i (sym own ∙ heard.port))) (s p)))

pub returns-in-Some-clause-room : goal.returns-in-Some-clause-room
returns-in-Some-clause-room c = λ n roomy.
    let i = c.args.port in
    let items = c.args.ports.now.items in
    let at : c.from.result ≡ i = c.from.ensures in
    let within : i < length items = grind (arith, common_steps) in
    let value : c.in-Some.kept.now ≡ slice_index_or items i c.in-Some.kept.now = grind (arith, common_steps) in
    let was : snoops.IsRoomy n c.in-Some.kept.now.snoops = subst (λ (k : PortRecord). snoops.IsRoomy n k.snoops) (sym value) (roomy i c.in-Some.kept.now within) in
    rw at (All-set (λ k. snoops.IsRoomy n k.snoops) items i c.hear.new.self (c.hear.ensures.room n was) roomy)
