use Rattle.std.proofs.Common.{◌&&◌, not, sym, ap, ◌∙◌}
use Rattle.ace_event.specs.declared.event.Channel.TheVariants.{Read, Write}
use Rattle.ace_runs.specs.Requests.{is_free}
use Rattle.ace_master_state.specs.Identifiers.{has}
use Rattle.ace_master_state.proofs.FreeIdentifiers.{neither}
use Rattle.ace_master_state.proofs.LeastIdentifiers.{least-same}
use Rattle.ace_master_state.proofs.identifiers.Identifiers.free_on_both.Goals as goal

pub returns : goal.returns
returns c = λ h past p s.
    let reads = c.args.self.now.reads in
    let writes = c.args.self.now.writes in
    c.least_other.ensures
    ∙ least-same 16 (λ i. not (has c.or.result i)) (λ i. is_free h past p Read i && is_free h past p Write i)
    (λ i low.
    ap not (c.or.ensures i) ∙ neither (has reads i) (has writes i) ∙ ap (λ b. b && not (has writes i)) (sym (s.reads i low))
    ∙ ap (λ b. is_free h past p Read i && b) (sym (s.writes i low)))
