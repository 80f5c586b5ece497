use Rattle.std.proofs.Common.{sym, ap, ◌∙◌}
use Rattle.ace_event.specs.declared.header.Header.{Header}
use Rattle.ace_model.specs.Transactions.{is_ace}
use Rattle.ace_runs.specs.Bursts.{is_kept}
use Rattle.ace_home.proofs.FirstEvents.{kept-is}
use Rattle.ace_home.proofs.Snoops.{lite-not-kept}
use Rattle.ace_home.proofs.home.Home.may_snoop.Goals as goal

pub returns-then-not-is_ace : goal.returns-then-not-is_ace
returns-then-not-is_ace c = λ plan past s.
    let lite = ap (λ (h : Header). is_ace h c.args.port) (sym s.header) ∙ sym c.is_ace.ensures ∙ c.if-not-is_ace.true in
    sym (lite-not-kept plan.header past c.args.x.now c.args.kind c.args.port s.legal.accepted lite)

pub returns : goal.returns
returns c = λ plan past s.
    let h = plan.header in
    kept-is h past c.snoop_for.result c.keeps.result (c.keeps.ensures h past s.shares) ∙ ap (is_kept h past) c.snoop_for.ensures
