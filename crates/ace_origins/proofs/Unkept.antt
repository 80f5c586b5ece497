-- Of a line of which no event is kept memory and the ports have zeros.
use Rattle.std.proofs.Common.{◌≡◌, ◌⊎◌, ◌&&◌, ◌∷◌, [], ℕ, false, suc, List, Some, None, nat_eq, slice_get, refl, sym, ap, ◌∙◌, inl, inr, arith}
use Rattle.std.proofs.lemmas.Bool.{cases_Bool, eq-eqb, eqb-true}
use Rattle.std.specs.Map.{keys_of, lookup}
use Rattle.indexmap.specs.IndexMap.{get}
use Rattle.ace_belongs.specs.Belongs.{event_line}
use Rattle.ace_event.specs.declared.event.Event.{Event}
use Rattle.ace_event.specs.declared.event.Event.TheVariants as event
use Rattle.ace_event.specs.declared.header.Header.{Header}
use Rattle.ace_journal.specs.Journals.{JournalStands, lines_of}
use Rattle.ace_journal.specs.Rows.{is_kept, is_same_line, kept_on}
use Rattle.ace_journal.specs.declared.journal.Journal.{Journal}
use Rattle.ace_lineck.proofs.OffLine.{off-copy, off-memory}
use Rattle.ace_lineck.proofs.OnLine.{IsOff}
use Rattle.ace_model.specs.Accepted.{IsAccepted}
use Rattle.ace_model.specs.Copies.{copy_of, memory_of, zero_line}
use Rattle.ace_model.specs.Trace.{Trace}
use Rattle.ace_since.proofs.Writes.{same-line}

-- a line stands among the keys, or has no value
among : {V : Type 0} (es : List (ℕ × V)) (l : ℕ) → ((i : ℕ) × (slice_get (keys_of es) i ≡ Some l)) ⊎ (lookup (nat_eq l) es ≡ None)
among [] l = inr refl
among (e ∷ es) l =
    elim (cases_Bool (nat_eq l e.0)) [
      | inl same ↦ inl (0, ap Some (sym (eqb-true l e.0 same)))
      | inr other ↦
          elim (among es l) [
            | inl there ↦ inl (suc there.0, there.1)
            | inr none ↦ inr (rw other none)
          ]
    ]

pub heard_or_not : (j : Journal) (l : ℕ) → ((i : ℕ) × (slice_get (lines_of j) i ≡ Some l)) ⊎ (get nat_eq j.lines l ≡ None)
heard_or_not j l = among j.lines.entries l

-- nothing was heard of a line without a value
pub unheard : (h : Header) (past : Trace) (j : Journal) (l : ℕ) → JournalStands h past j → get nat_eq j.lines l ≡ None → kept_on h past (Some l) ≡ 0
unheard h past j l s none = sym (s.heard (Some l)) ∙ rw none refl

module _ (h : Header) (past : Trace) (l : ℕ) where
  -- the event isn't one of the line
  off : (e : Event) → is_same_line (event_line h past e) (Some l) ≡ false → IsOff h past e l
  off e other on = let is = same-line h past e ∙ on in let same = eq-eqb l l refl in let no = rw is at other in cc

  -- so it leaves the line as it is, as does one that isn't kept
  left : (e : Event) → IsAccepted h (e ∷ past) → (is_kept e && is_same_line (event_line h past e) (Some l)) ≡ false
      → (memory_of (e ∷ past) l ≡ memory_of past l) × ((p : ℕ) → copy_of (e ∷ past) p l ≡ copy_of past p l)
  left (event.L p addr w x word) a other = (refl, λ q. refl)
  left (event.Op p k res) a other = (refl, λ q. refl)
  left e a other = (off-memory h past e a l (off e other), λ p. off-copy h past e a p l (λ port. off e other))

pub untouched : (h : Header) (past : Trace) (l : ℕ) → IsAccepted h past → kept_on h past (Some l) ≡ 0
    → (memory_of past l ≡ zero_line) × ((p : ℕ) → copy_of past p l ≡ zero_line)
untouched h [] l a none = (refl, λ p. refl)
untouched h (e ∷ past) l a none =
    elim (cases_Bool (is_kept e && is_same_line (event_line h past e) (Some l))) [
      | inl kept ↦ let more = rw kept at none in absurd (omega (arith, more))
      | inr other ↦
          let still = rw other at none in
          let before = untouched h past l a.0 still in
          let step = left h past l e a other in
          (step.0 ∙ before.0, λ p. step.1 p ∙ before.1 p)
    ]
