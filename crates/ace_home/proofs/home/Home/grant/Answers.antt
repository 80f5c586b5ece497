use Rattle.std.proofs.Common.{◌≡◌, true, Some, sym, ap, ◌∙◌}
use Rattle.ace_event.specs.declared.event.Event.{Event}
use Rattle.ace_runs.specs.Bursts.{is_kept}
use Rattle.ace_home.specs.Home.{grant_of}
use Rattle.ace_home.proofs.FirstEvents.{grant-first, grant-later, grant-not-kept, kept-is}
use Rattle.ace_home.proofs.Waiting.{kept-free}
use Rattle.ace_home.proofs.home.Home.grant.Goals as goal

pub returns-then-not-keeps : goal.returns-then-not-keeps
returns-then-not-keeps c = λ plan past p t.
    let h = plan.header in
    let x = c.args.x.now.transaction in
    let none = sym (kept-is h past c.grant_of-grant.result c.keeps.result (c.keeps.ensures h past t.stands.shares)) ∙ c.if-not-keeps.true in
    sym (grant-not-kept h past t.stands.legal.accepted p x t.pending (ap (is_kept h past) (sym c.grant_of-grant.ensures) ∙ none))

pub returns-then-is_first_to_wait : goal.returns-then-is_first_to_wait
returns-then-is_first_to_wait c = λ plan past p t.
    let h = plan.header in
    let x = c.args.x.now.transaction in
    let a = t.stands.legal.accepted in
    let kept_now = sym (kept-is h past c.grant_of-grant.result c.keeps.result (c.keeps.ensures h past t.stands.shares)) ∙ c.if-not-keeps.false in
    let kept : is_kept h past (grant_of x) ≡ true = ap (is_kept h past) (sym c.grant_of-grant.ensures) ∙ kept_now in
    let first = sym (c.is_first_to_wait.ensures plan past t.stands (kept-free h past a p x t.pending kept)) ∙ c.if-is_first_to_wait.true in
    ap (λ (e : Event). Some e) c.grant_of-grant.ensures ∙ sym (grant-first h past a p x t.pending kept first)

pub returns-else-is_first_to_wait : goal.returns-else-is_first_to_wait
returns-else-is_first_to_wait c = λ plan past p t.
    let h = plan.header in
    let x = c.args.x.now.transaction in
    let a = t.stands.legal.accepted in
    let kept_now = sym (kept-is h past c.grant_of-grant.result c.keeps.result (c.keeps.ensures h past t.stands.shares)) ∙ c.if-not-keeps.false in
    let kept : is_kept h past (grant_of x) ≡ true = ap (is_kept h past) (sym c.grant_of-grant.ensures) ∙ kept_now in
    let later = sym (c.is_first_to_wait.ensures plan past t.stands (kept-free h past a p x t.pending kept)) ∙ c.if-is_first_to_wait.false in
    sym (grant-later h past a p x t.pending kept later)
