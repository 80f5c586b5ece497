use Rattle.std.proofs.Common.{◌≡◌, false, Some, is_some, sym, ap, ◌∙◌}
use Rattle.std.proofs.lemmas.Bool.{false_from_ne_true}
use Rattle.std.specs.Option.{option_map}
use Rattle.ace_lineck.specs.Records.{name_of}
use Rattle.ace_runs.specs.Bursts.{is_kept}
use Rattle.ace_home.specs.Home.{grant_of}
use Rattle.ace_home.proofs.FirstEvents.{grant-not-kept}
use Rattle.ace_home.proofs.Firsts.{below-grant, ungranted-takes-none}
use Rattle.ace_home.proofs.Kept.{had, lines-stand, recording}
use Rattle.ace_home.proofs.Waiting.{kept-free}
use Rattle.ace_lineck.specs.Stands.{place_on}
use Rattle.ace_home.proofs.home.Home.least_waiting.Goals as goal

pub returns-then-is_some : goal.returns-then-is_some
returns-then-is_some c = λ among plan past p x t waits at.
    let h = plan.header in
    let y = x.transaction in
    let a = t.stands.legal.accepted in
    let lines = lines-stand c.args.self.now plan past c.lines.result.now t.stands c.lines.ensures in
    let here = at ∙ ap (λ l. place_on l (Some y.addr)) (sym c.lines.ensures) in
    let other = c.granted.ensures (recording plan past) y.addr lines here in
    ungranted-takes-none among h past y a p t.pending (had c.args.self.now plan past p x false t waits)
    (grant-not-kept h past a p y t.pending (false_from_ne_true (is_kept h past (grant_of y)) (λ kept.
    let free = ap (option_map name_of) (kept-free h past a p y t.pending kept) in
    let none : is_some c.granted.result ≡ false = ap (λ o. is_some o) (other ∙ free) in
    let some = c.if-is_some.true in cc)))

pub returns-else-is_some : goal.returns-else-is_some
returns-else-is_some c = λ among plan past p x t waits at. below-grant among plan.header past x.transaction
