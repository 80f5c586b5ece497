use Rattle.std.proofs.Common.{◌≡◌, Some, None, sym, ap, subst, ◌∙◌}
use Rattle.std.specs.Option.{option_copied}
use Rattle.ace_model.specs.Exclusives.{has_failed}
use Rattle.ace_model.specs.Grants.{granted}
use Rattle.ace_model.specs.Trace.{is_some_and}
use Rattle.ace_model.specs.Transactions.{outstanding}
use Rattle.ace_portck.specs.Targets.{Recording}
use Rattle.ace_portck.specs.Stands as ports
use Rattle.ace_lineck.specs.Stands as lines
use Rattle.ace_check.proofs.Steps.{granted_named}
use Rattle.ace_check.proofs.WhatComes.{no-progress}
use Rattle.ace_explain.proofs.SnoopLetters.{made_of, none_named, nothing_granted}
use Rattle.ace_explain.proofs.snoop_clauses.clause_of_snoop.Goals as goal

pub returns-in_default : goal.returns-in_default
returns-in_default c = λ h past tell line.
    let r : Recording = record { header = h; past = past } in
    let l = subst (λ s. lines.Stands s r) (sym c.lines-lines.ensures) tell.lines in
    nothing_granted r c.args.port c.args.addr c.args.snoop line
    (none_named (granted h past c.args.addr) (sym (c.granted.ensures r c.args.addr l c.place-place.ensures) ∙ c.in_default.is))

pub returns-in_default-outstanding : goal.returns-in_default-outstanding
returns-in_default-outstanding c = λ h past tell line least.
    let r : Recording = record { header = h; past = past } in
    let l = subst (λ s. lines.Stands s r) (sym c.lines-lines.ensures) tell.lines in
    let p = subst (λ s. ports.Stands s r) (sym c.ports.ensures) tell.ports in
    let n = granted_named h past c.args.addr c.in-Some.owner c.in-Some.chan c.in-Some.id p.accepted
    (sym (c.granted.ensures r c.args.addr l c.place-place.ensures) ∙ c.in-Some.is) in
    let none = no-progress h past (outstanding h past c.in-Some.owner c.in-Some.chan c.in-Some.id) (sym (c.outstanding.ensures r p) ∙ ap option_copied c.in_default-outstanding.is) in
    let bad : None ≡ Some n.0 = sym none ∙ n.2 in cc

pub returns : goal.returns
returns c = λ h past tell line.
    let r : Recording = record { header = h; past = past } in
    let l = subst (λ s. lines.Stands s r) (sym c.lines-lines.ensures) tell.lines in
    let p = subst (λ s. ports.Stands s r) (sym c.ports.ensures) tell.ports in
    let y = c.in-Some-outstanding.x.now in
    let n = granted_named h past c.args.addr c.in-Some.owner c.in-Some.chan c.in-Some.id p.accepted
    (sym (c.granted.ensures r c.args.addr l c.place-place.ensures) ∙ c.in-Some.is) in
    let made = made_of h past (outstanding h past c.in-Some.owner c.in-Some.chan c.in-Some.id) y (sym (c.outstanding.ensures r p) ∙ ap option_copied c.in-Some-outstanding.is) in
    let on : granted h past c.args.addr ≡ Some y.transaction = n.1 ∙ sym n.2 ∙ made.0 in
    let failed = c.has_failed_at-failed.ensures h past c.args.addr tell (c.place-place.ensures ∙ ap (λ s. lines.place_on s (Some c.args.addr)) c.lines-lines.ensures) in
    c.clause_under_grant.ensures r c.args.addr l c.place-place.ensures line on made.1 (failed ∙ ap (λ o. is_some_and o (has_failed past)) on)
