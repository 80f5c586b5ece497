use Rattle.std.proofs.Common.{◌≡◌, true, nat_lt, sym, ap, ◌∙◌}
use Rattle.std.proofs.lemmas.Bool.{lt-ltb}
use Rattle.ace_model.specs.Transactions.{is_on}
use Rattle.ace_runs.specs.Bursts.{is_kept}
use Rattle.ace_home.proofs.FirstEvents.{kept-is}
use Rattle.ace_home.proofs.home.Home.goes_before.Goals as goal

pub returns : goal.returns
returns c = λ plan past s.
    let h = plan.header in
    let y = c.args.y.now in
    let x = c.args.x.now in
    let on : is_on y x.addr ≡ true = sym c.is_on.ensures ∙ c.if-not-is_on.false in
    let low : nat_lt y.place x.place ≡ true = lt-ltb y.place x.place c.if-y-x.false in
    let kept = kept-is h past c.grant_of.result c.keeps.result (c.keeps.ensures h past s.shares) ∙ ap (is_kept h past) c.grant_of.ensures in
    rw (on, low) kept
