use Rattle.std.proofs.Common.{Some, option_copied, sym, ap, subst, ◌∙◌}
use Rattle.ace_event.specs.declared.event.Channel.TheVariants.{Read}
use Rattle.ace_model.specs.Exclusives.{has_failed}
use Rattle.ace_model.specs.Trace.{is_some_and}
use Rattle.ace_model.specs.Transactions.{outstanding}
use Rattle.ace_portck.specs.Targets.{Recording}
use Rattle.ace_portck.specs.Stands as ports
use Rattle.ace_lineck.specs.Stands as lines
use Rattle.ace_explain.proofs.ReadLetters.{progress-none}
use Rattle.ace_explain.proofs.SnoopLetters.{made_of}
use Rattle.ace_explain.proofs.TransferLetters.{unkind_r, unnamed_r}
use Rattle.ace_explain.proofs.transfer_clauses.clause_of_r.Goals as goal

pub returns-in_default : goal.returns-in_default
returns-in_default c = λ h past resp word tell.
    let r : Recording = record { header = h; past = past } in
    let p = subst (λ s. ports.Stands s r) (sym c.ports-ports.ensures) tell.ports in
    unnamed_r r c.args.port c.args.id resp c.args.last word (progress-none h past _ (sym (c.outstanding.ensures r p) ∙ ap option_copied c.in_default.is))

pub returns-in_default-read_kind : goal.returns-in_default-read_kind
returns-in_default-read_kind c = λ h past resp word tell.
    let r : Recording = record { header = h; past = past } in
    let p = subst (λ s. ports.Stands s r) (sym c.ports-ports.ensures) tell.ports in
    let made = made_of h past (outstanding h past c.args.port Read c.args.id) c.in-Some.x.now (sym (c.outstanding.ensures r p) ∙ ap option_copied c.in-Some.is) in
    unkind_r r c.args.port c.args.id resp c.args.last word c.in-Some.x.now.transaction made.0 (sym c.read_kind.ensures ∙ c.in_default-read_kind.is)

pub returns : goal.returns
returns c = λ h past resp word tell.
    let r : Recording = record { header = h; past = past } in
    let p = subst (λ s. ports.Stands s r) (sym c.ports-ports.ensures) tell.ports in
    let l = subst (λ s. lines.Stands s r) (sym c.lines-lines.ensures) tell.lines in
    let y = c.in-Some.x.now in
    let made = made_of h past (outstanding h past c.args.port Read c.args.id) y (sym (c.outstanding.ensures r p) ∙ ap option_copied c.in-Some.is) in
    let failed = c.has_failed_at-failed.ensures h past y.transaction.addr tell (c.place.ensures ∙ ap (λ s. lines.place_on s (Some y.transaction.addr)) c.lines-lines.ensures) in
    c.clause_of_transfer.ensures r c.args.port c.args.id resp word l (c.header.ensures r p) made.0 made.1 (sym c.read_kind.ensures ∙ c.in-Some-read_kind.is)
    (λ on. failed ∙ ap (λ o. is_some_and o (has_failed past)) on)
