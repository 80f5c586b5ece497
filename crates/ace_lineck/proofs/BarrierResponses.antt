-- A B of half of a barrier: it breaks no rule about lines, and leaves all lines as they are.
use Rattle.std.proofs.Common.{◌≡◌, ℕ, true, Some, None, is_none, option_map, refl, ap, ◌∙◌}
use Rattle.ace_lineck.proofs.Terms.{Transaction, least_broken, least_of, is_barrier_half, line_rules, Header, Trace, B, Write, outstanding, Recording, after, line_in, line_of, progress_of, LineCheck, Stands}
use Rattle.ace_model.proofs.Trace.Issued.{outstanding-name}
use Rattle.ace_portck.proofs.BarrierResponses.{write_half-kind, write_half-no_line}
use Rattle.ace_lineck.proofs.AllLines.{unchanged}

module _ (h : Header) (past : Trace) (p i resp : ℕ) (x : Transaction) (out : outstanding h past p Write i ≡ Some x) (half : is_barrier_half x ≡ true) where
  pub barrier_response-law : is_none (least_of line_rules h past (B p i resp)) ≡ true
  barrier_response-law =
      let kind = write_half-kind x (outstanding-name h past p Write i x out).chan half in
      rw (out, kind) refl

  pub response-off : line_in h past (B p i resp) ≡ None
  response-off =
      let off = write_half-no_line x (outstanding-name h past p Write i x out).chan half in
      ap (λ o. line_of (option_map (progress_of h past) o)) out ∙ (rw off refl)

pub lines_unmoved_by_response : (s : LineCheck) (r : Recording) (p i resp : ℕ) (x : Transaction) → Stands s r → outstanding r.header r.past p Write i ≡ Some x
    → is_barrier_half x ≡ true → least_broken r.header r.past (B p i resp) ≡ None → Stands s (after r (B p i resp))
lines_unmoved_by_response s r p i resp x st out half fine = unchanged s r (B p i resp) st fine (response-off r.header r.past p i resp x out half)
