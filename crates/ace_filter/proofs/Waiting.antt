-- The complete writes of an ACE port that wait for their WK, by the lines that they give up. Each is outstanding, and its
-- identifier isn't used again before its WK (K4), so the line that was kept at its B is that of the last write under the
-- identifier.
use Rattle.std.proofs.Common.{◌≡◌, ℕ, ◌≤◌, true, nat_eq, [], ◌∷◌, length, Option, Some, None, slice_get, refl, sym, ap, ◌∙◌, arith, inl, inr, length-append}
use Rattle.std.proofs.lemmas.Bool.{cases_Bool}
use Rattle.ace_filter.proofs.Terms.{Write, Event, B, Wk, Header, Transaction, Trace, IsAccepted, more, is_ace, issued, transaction_of, outstanding, completed, completes, acknowledgements, newest_named}
use Rattle.ace_filter.proofs.Terms.{completed_line, completed_lines, dropped_line}
use Rattle.ace_model.proofs.General.Booleans.{above_count}
use Rattle.ace_model.proofs.General.Lists.{slice_get-at_end, slice_get-grown, slice_get-more}
use Rattle.ace_model.proofs.General.Options.{some_if-is}
use Rattle.ace_model.proofs.Grants.Stays.{issued_apart}
use Rattle.ace_model.proofs.Trace.WriteQueue.{write_queue}

-- as many as writes were completed
pub lines-count : (past : Trace) (p : ℕ) → length (completed_lines past p) ≡ length (completed past p Write)
lines-count [] p = refl
lines-count (e ∷ past) p = by e (lines-count past p)
  where
    by : (e : Event) → length (completed_lines past p) ≡ length (completed past p Write)
        → length (completed_lines (e ∷ past) p) ≡ length (completed (e ∷ past) p Write)
    by (B q i resp) same =
        elim (cases_Bool (nat_eq p q)) [
          | inr f ↦ rw f same
          | inl t ↦
              let a = length-append (completed_lines past p) (dropped_line (transaction_of past p Write i) ∷ []) in
              let b = length-append (completed past p Write) (i ∷ []) in
              rw t (omega (arith, a, b, same))
        ]
    by e same = same

-- which are no more than there are events
pub lines-few : (past : Trace) (p : ℕ) → length (completed_lines past p) ≤ length past
lines-few [] p = omega arith
lines-few (e ∷ past) p = by e (lines-few past p)
  where
    by : (e : Event) → length (completed_lines past p) ≤ length past → length (completed_lines (e ∷ past) p) ≤ length (e ∷ past)
    by (B q i resp) low =
        elim (cases_Bool (nat_eq p q)) [
          | inr f ↦ rw f (omega (arith, low))
          | inl t ↦ let a = length-append (completed_lines past p) (dropped_line (transaction_of past p Write i) ∷ []) in rw t (omega (arith, a, low))
        ]
    by e low = omega (arith, low)

module _ (past : Trace) (p : ℕ) where
  fewer : (e : Event) (n : ℕ) → acknowledgements (e ∷ past) p Write ≤ n → acknowledgements past p Write ≤ n
  fewer (Wk q st) n low = above_count (nat_eq p q) (acknowledgements past p Write) n low
  fewer e n low = low

  -- the line of what an event completes
  completing : (e : Event) (i : ℕ) → completes e p Write ≡ Some i
      → (completed_line past e p ≡ Some (dropped_line (transaction_of past p Write i))) × (transaction_of (e ∷ past) p Write i ≡ transaction_of past p Write i)
  completing (B q j resp) i is =
      let s = some_if-is (nat_eq p q) j i is in
      (rw (s.0, s.1) refl, refl)
  completing e i is = cc

-- what waits has the line of the last write under its identifier
pub waits : (h : Header) (past : Trace) → IsAccepted h past → (p n i : ℕ) → is_ace h p ≡ true → acknowledgements past p Write ≤ n
    → slice_get (completed past p Write) n ≡ Some i → slice_get (completed_lines past p) n ≡ Some (dropped_line (transaction_of past p Write i))
waits h [] a p n i ace low is = cc
waits h (e ∷ past) a p n i ace low is =
    elim (slice_get-more (completed past p Write) (completes e p Write) n i is) [
      | inl old ↦
          let before = fewer past p e n low in
          let w = (write_queue h past a.0 p ace).stands n i before old in
          let was = waits h past a.0 p n i ace before old in
          slice_get-grown (completed_lines past p) (completed_line past e p) n _ (was ∙ ap (λ o. Some (dropped_line o)) (sym (same w.0 w.1)))
      | inr new ↦
          let c = completing past p e i new.1 in
          let at : n ≡ length (completed_lines past p) = new.0 ∙ sym (lines-count past p) in
          ap (λ o. slice_get (more (completed_lines past p) o) n) c.0 ∙ slice_get-at_end (completed_lines past p) n _ at
          ∙ ap (λ o. Some (dropped_line o)) (sym c.1)
    ]
  where
    same : (x : Transaction) → outstanding h past p Write i ≡ Some x → transaction_of (e ∷ past) p Write i ≡ transaction_of past p Write i
    same x o = by (issued (length past) e) refl
      where
        by : (new : Option Transaction) → issued (length past) e ≡ new
            → newest_named new p Write i (transaction_of past p Write i) ≡ transaction_of past p Write i
        by None s = refl
        by (Some y) s = let apart = issued_apart h past e a p Write i x y o s in rw apart refl
