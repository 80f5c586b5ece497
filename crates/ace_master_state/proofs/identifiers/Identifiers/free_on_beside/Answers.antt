use Rattle.std.proofs.Common.{◌≡◌, ◌==◌, ◌&&◌, Bool, true, false, not, refl, sym, ap, ◌∙◌}
use Rattle.std.proofs.Math.Bool.{and-false}
use Rattle.ace_runs.specs.Requests.{is_free}
use Rattle.ace_master_state.specs.Identifiers.{has}
use Rattle.ace_master_state.proofs.FreeIdentifiers.{neither}
use Rattle.ace_master_state.proofs.LeastIdentifiers.{least-same}
use Rattle.ace_master_state.proofs.identifiers.Identifiers.free_on_beside.Goals as goal

swapped : (a b : Bool) → (a && b) ≡ (b && a)
swapped true true = refl
swapped true false = refl
swapped false b = sym (and-false b)

pub returns : goal.returns
returns c = λ h past p s.
    let taken = c.args.taken in
    c.least_other.ensures
    ∙ least-same 16 (λ i. not (has c.add.new.self i)) (λ i. not (taken == i) && is_free h past p c.args.chan i)
    (λ i low.
    ap not (c.add.ensures i low) ∙ neither (has c.on-used.result i) (taken == i) ∙ swapped (not (has c.on-used.result i)) (not (taken == i))
    ∙ ap (λ b. not (taken == i) && b) (sym (c.on-used.ensures h past p s i low)))
