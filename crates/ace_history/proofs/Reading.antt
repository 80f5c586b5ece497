-- Events that are read from the newest on.
use Rattle.std.proofs.Common.{◌≡◌, ◌<◌, ℕ, suc, ◌+◌, ◌-◌, ◌==◌, List, [], ◌∷◌, Option, Some, None, length, reverse, take, unwrap_or, slice_index_or, refl, ap, ◌∙◌, arith, inl, inr}
use Rattle.std.proofs.lemmas.Bool.{cases_Bool}
use Rattle.std.proofs.lemmas.List.{reverse-append}
use lib.Seq.{take-suc}
use Rattle.ace_event.specs.declared.event.Event.{Event}
use Rattle.ace_event.specs.declared.event.Event.TheVariants as event
use Rattle.ace_event.specs.declared.event.Outcome.{Outcome}
use Rattle.ace_model.specs.declared.plans.PlanOp.{PlanOp}
use Rattle.ace_model.specs.Trace.{Trace}
use Rattle.ace_history.specs.declared.entry.Entry.{Entry}
use Rattle.ace_history.specs.Histories.{entry, word_loaded}
use Rattle.ace_history.specs.Newest.{last_entry, outcome_told, word_told}

-- of the first n + 1 events the newest, and then those before it
pub newest : {A : Type 0} → (xs : List A) (n : ℕ) (d : A) → n < length xs → reverse (take (n + 1) xs) ≡ slice_index_or xs n d ∷ reverse (take n xs)
newest xs n d low =
    let one : n + 1 ≡ suc n = omega arith in
    rw one (ap reverse (take-suc xs n d low) ∙ reverse-append (take n xs) (slice_index_or xs n d ∷ []))

word-goes : (e : Event) (past : Trace) (p : ℕ) → word_loaded (e ∷ past) p ≡ unwrap_or (word_told e p) (word_loaded past p)
word-goes (event.Op q k res) past p = elim (cases_Bool (p == q)) [ inl t ↦ rw t refl | inr f ↦ rw f refl ]
word-goes (event.L q addr w x word) past p = elim (cases_Bool (p == q)) [ inl t ↦ rw t refl | inr f ↦ rw f refl ]
word-goes e past p = refl

-- the entry where the newest event tells its outcome, else that of those before it
abbrev pub entry_by : PlanOp → Option Outcome → Trace → Entry
entry_by o (Some res) past = entry o.port res (word_loaded past o.port) o.op
entry_by o None past = last_entry o past

entry-goes : (o : PlanOp) (e : Event) (past : Trace) → last_entry o (e ∷ past) ≡ entry_by o (outcome_told e o.port) past
entry-goes o (event.Op q k res) past = elim (cases_Bool (o.port == q)) [ inl t ↦ rw t refl | inr f ↦ rw f refl ]
entry-goes o e past = refl

-- how many are left after i, and one more
left-one : {A : Type 0} → (xs : List A) (i : ℕ) → i < length xs → length xs - i ≡ length xs - 1 - i + 1
left-one xs i low = omega (arith, low)

-- at the i-th newest event
pub newest-at : {A : Type 0} → (xs : List A) (i : ℕ) (d : A) → i < length xs
    → reverse (take (length xs - i) xs) ≡ slice_index_or xs (length xs - 1 - i) d ∷ reverse (take (length xs - 1 - i) xs)
newest-at xs i d low = ap (λ n. reverse (take n xs)) (left-one xs i low) ∙ newest xs (length xs - 1 - i) d (omega (arith, low))

pub word-at : (xs : List Event) (p i : ℕ) (d : Event) → i < length xs
    → word_loaded (reverse (take (length xs - i) xs)) p
    ≡ unwrap_or (word_told (slice_index_or xs (length xs - 1 - i) d) p) (word_loaded (reverse (take (length xs - 1 - i) xs)) p)
word-at xs p i d low =
    ap (λ t. word_loaded t p) (newest-at xs i d low) ∙ word-goes (slice_index_or xs (length xs - 1 - i) d) (reverse (take (length xs - 1 - i) xs)) p

pub entry-at : (o : PlanOp) (xs : List Event) (i : ℕ) (d : Event) → i < length xs
    → last_entry o (reverse (take (length xs - i) xs))
    ≡ entry_by o (outcome_told (slice_index_or xs (length xs - 1 - i) d) o.port) (reverse (take (length xs - 1 - i) xs))
entry-at o xs i d low =
    ap (last_entry o) (newest-at xs i d low) ∙ entry-goes o (slice_index_or xs (length xs - 1 - i) d) (reverse (take (length xs - 1 - i) xs))
