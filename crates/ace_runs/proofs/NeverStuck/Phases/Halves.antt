-- Which act of a barrier a half is: the first on the read channel, the second on the write channel; and each act of a barrier is a half.
use Rattle.std.proofs.Common.{◌≡◌, ◌⊎◌, ℕ, zero, suc, Bool, true, false, ◌&&◌, ◌||◌, ◌==◌, List, [], ◌∷◌, Some, slice_get, inl, inr, refl, sym, ap, subst, ◌∙◌}
use Rattle.std.specs.List.{list_any}
use Rattle.std.proofs.lemmas.Bool.{and_parts, eqb-true, or_cases, or_left, or_right}
use Rattle.ace_codes.specs.Places.{is_at, is_barrier, is_domain}
use Rattle.ace_codes.specs.Reads.{ar_kind_of, read_place}
use Rattle.ace_codes.specs.Writes.{aw_kind_of, write_place}
use Rattle.ace_codes.specs.declared.kind.ArKind.TheVariants as read
use Rattle.ace_codes.specs.declared.kind.AwKind.TheVariants as write
use Rattle.ace_event.specs.declared.event.Channel.TheVariants.{Read, Write}
use Rattle.ace_event.specs.declared.event.Event.{Event}
use Rattle.ace_event.specs.declared.event.Event.TheVariants.{Ar, Aw}
use Rattle.ace_model.specs.declared.plans.Op.{Op}
use Rattle.ace_model.specs.declared.plans.Op.TheVariants.{Mb, Sb}
use Rattle.ace_model.specs.declared.transactions.Transaction.{Transaction}
use Rattle.ace_model.specs.Barriers.{is_barrier_half}
use Rattle.ace_model.specs.Kinds.{is_read_barrier, is_write_barrier}
use Rattle.ace_model.specs.Trace.{is_some_and}
use Rattle.ace_model.specs.Transactions.{issued}
use Rattle.ace_model.proofs.General.Options.{Some-injective}
use Rattle.ace_runs.specs.Acts.{acts_of, begins_on_reads, begins_on_writes}
use Rattle.ace_runs.proofs.NeverStuck.Barriers.Acts.{is_barrier_operation, not-both, read-act, read-barrier-bar, write-act, write-barrier-bar}
use Rattle.ace_runs.proofs.NeverStuck.Phases.OneOfTwo.{has_two_acts}

-- ---- what an event issues ----------------------------------------------------------------------------

-- an act of the operation is one of its acts
pub any-turn : (tests : List (Event → Bool)) (k : ℕ) (fits : Event → Bool) (e : Event) → slice_get tests k ≡ Some fits → fits e ≡ true → list_any (λ t. t e) tests ≡ true
any-turn [] k fits e there t = cc
any-turn (test ∷ tests) zero fits e there t = or_left (test e) _ (rw (Some-injective test fits there) t)
any-turn (test ∷ tests) (suc k) fits e there t = or_right (test e) _ (any-turn tests k fits e there t)

-- ---- acts of barriers --------------------------------------------------------------------------------

pub two-halves : (o : Op) → is_barrier_operation o ≡ true → has_two_acts o ≡ true
two-halves Mb b = refl
two-halves Sb b = refl
two-halves o b = cc

halves-of : (o : Op) → is_barrier_operation o ≡ true → (bar : ℕ) × (acts_of o ≡ begins_on_reads bar ∷ begins_on_writes bar ∷ [])
halves-of Mb b = (1, refl)
halves-of Sb b = (3, refl)
halves-of o b = cc

-- A half is the first act on the read channel, the second on the write channel.
abbrev pub IsTurnOfHalf : Transaction → ℕ → Type 0
IsTurnOfHalf x made = ((x.chan ≡ Read) × (made ≡ 0)) ⊎ ((x.chan ≡ Write) × (made ≡ 1))

turn-of : (bar made : ℕ) (fits : Event → Bool) (e : Event) (n : ℕ) (x : Transaction) → issued n e ≡ Some x
    → slice_get (begins_on_reads bar ∷ begins_on_writes bar ∷ []) made ≡ Some fits → fits e ≡ true → IsTurnOfHalf x made
turn-of bar zero fits (Ar q i a s d b l) n x new turn m = inl (sym (ap (λ (v : Transaction). v.chan) (Some-injective _ x new)), refl)
turn-of bar zero fits e n x new turn m = let bad : begins_on_reads bar e ≡ true = ap (λ f. f e) (Some-injective (begins_on_reads bar) fits turn) ∙ m in cc
turn-of bar (suc zero) fits (Aw q i a s d b) n x new turn m = inr (sym (ap (λ (v : Transaction). v.chan) (Some-injective _ x new)), refl)
turn-of bar (suc zero) fits e n x new turn m = let bad : begins_on_writes bar e ≡ true = ap (λ f. f e) (Some-injective (begins_on_writes bar) fits turn) ∙ m in cc
turn-of bar (suc (suc made)) fits e n x new turn m = cc

-- a half is an act of a barrier
pub half-of-barrier : (o : Op) (made : ℕ) (fits : Event → Bool) (e : Event) (n : ℕ) (x : Transaction) → issued n e ≡ Some x → is_barrier_half x ≡ true
    → slice_get (acts_of o) made ≡ Some fits → fits e ≡ true → is_barrier_operation o ≡ true
half-of-barrier o made fits (Ar q i a s d b l) n x new half turn m =
    let here : (is_some_and (ar_kind_of s d b) is_read_barrier || false) ≡ true = ap (λ (v : Transaction). is_barrier_half v) (Some-injective _ x new) ∙ half in
    elim (read-act o q i a s d b l (any-turn (acts_of o) made fits (Ar q i a s d b l) turn m)) [
      | inl is ↦ is
      | inr normal ↦ absurd (not-both b (read-barrier-bar s d b (or-false _ here)) normal)
    ]
  where
    or-false : (t : Bool) → (t || false) ≡ true → t ≡ true
    or-false true e = refl
    or-false false e = cc
half-of-barrier o made fits (Aw q i a s d b) n x new half turn m =
    let here : is_some_and (aw_kind_of s d b) is_write_barrier ≡ true = ap (λ (v : Transaction). is_barrier_half v) (Some-injective _ x new) ∙ half in
    elim (write-act o q i a s d b (any-turn (acts_of o) made fits (Aw q i a s d b) turn m)) [
      | inl is ↦ is
      | inr normal ↦ absurd (not-both b (write-barrier-bar s d b here) normal)
    ]
half-of-barrier o made fits e n x new half turn m = cc

-- and its turn is that of its channel
pub half-turn : (o : Op) (made : ℕ) (fits : Event → Bool) (e : Event) (n : ℕ) (x : Transaction) → issued n e ≡ Some x → is_barrier_operation o ≡ true
    → slice_get (acts_of o) made ≡ Some fits → fits e ≡ true → IsTurnOfHalf x made
half-turn o made fits e n x new barrier turn m =
    let acts = halves-of o barrier in
    turn-of acts.0 made fits e n x new (subst (λ tests. slice_get tests made ≡ Some fits) acts.1 turn) m

-- ---- each act of a barrier is a half -----------------------------------------------------------------

by-bar : (P : ℕ → Type 0) (bar : ℕ) → is_barrier bar ≡ true → P 1 → P 3 → P bar
by-bar P bar b one three =
    elim (or_cases (bar == 1) (bar == 3) b) [
      | inl t ↦ subst P (sym (eqb-true bar 1 t)) one
      | inr t ↦ subst P (sym (eqb-true bar 3 t)) three
    ]

read-half : (s d b : ℕ) → is_at (read_place read.Barrier) s d b ≡ true → (is_some_and (ar_kind_of s d b) is_read_barrier || false) ≡ true
unfolding ar_kind_of
read-half s d b at =
    let parts = and_parts (is_barrier b && is_domain d) (s == 0) at in
    let place = and_parts (is_barrier b) (is_domain d) parts.0 in
    subst (λ v. (is_some_and (ar_kind_of v d b) is_read_barrier || false) ≡ true) (sym (eqb-true s 0 parts.1))
    (by-bar (λ v. (is_some_and (ar_kind_of 0 d v) is_read_barrier || false) ≡ true) b place.0 (rw place.1 refl) (rw place.1 refl))

write-half : (s d b : ℕ) → is_at (write_place write.Barrier) s d b ≡ true → is_some_and (aw_kind_of s d b) is_write_barrier ≡ true
unfolding aw_kind_of
write-half s d b at =
    let parts = and_parts (is_barrier b && is_domain d) (s == 0) at in
    let place = and_parts (is_barrier b) (is_domain d) parts.0 in
    subst (λ v. is_some_and (aw_kind_of v d b) is_write_barrier ≡ true) (sym (eqb-true s 0 parts.1))
    (by-bar (λ v. is_some_and (aw_kind_of 0 d v) is_write_barrier ≡ true) b place.0 (rw place.1 refl) (rw place.1 refl))

act-half : (bar made : ℕ) (fits : Event → Bool) (e : Event) (n : ℕ)
    → slice_get (begins_on_reads bar ∷ begins_on_writes bar ∷ []) made ≡ Some fits → fits e ≡ true → is_some_and (issued n e) is_barrier_half ≡ true
act-half bar zero fits (Ar q i a s d b l) n turn m =
    let first : begins_on_reads bar (Ar q i a s d b l) ≡ true = ap (λ f. f (Ar q i a s d b l)) (Some-injective (begins_on_reads bar) fits turn) ∙ m in
    read-half s d b (and_parts (is_at (read_place read.Barrier) s d b) (b == bar) first).0
act-half bar zero fits e n turn m = let bad : begins_on_reads bar e ≡ true = ap (λ f. f e) (Some-injective (begins_on_reads bar) fits turn) ∙ m in cc
act-half bar (suc zero) fits (Aw q i a s d b) n turn m =
    let second : begins_on_writes bar (Aw q i a s d b) ≡ true = ap (λ f. f (Aw q i a s d b)) (Some-injective (begins_on_writes bar) fits turn) ∙ m in
    write-half s d b (and_parts (is_at (write_place write.Barrier) s d b) (b == bar) second).0
act-half bar (suc zero) fits e n turn m = let bad : begins_on_writes bar e ≡ true = ap (λ f. f e) (Some-injective (begins_on_writes bar) fits turn) ∙ m in cc
act-half bar (suc (suc made)) fits e n turn m = cc

pub barrier-half : (o : Op) (made : ℕ) (fits : Event → Bool) (e : Event) (n : ℕ) → is_barrier_operation o ≡ true → slice_get (acts_of o) made ≡ Some fits → fits e ≡ true
    → is_some_and (issued n e) is_barrier_half ≡ true
barrier-half o made fits e n barrier turn m =
    let acts = halves-of o barrier in
    act-half acts.0 made fits e n (subst (λ tests. slice_get tests made ≡ Some fits) acts.1 turn) m
