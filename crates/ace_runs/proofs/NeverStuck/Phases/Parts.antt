-- Which act a part of a DVM message is, of an operation with right fields: the one act of dvm or sync, which no second part follows, or the first
-- of dvm2, which one follows, or its second.
use Rattle.std.proofs.Common.{◌≡◌, ◌⊎◌, ℕ, zero, suc, Bool, true, false, not, ◌&&◌, ◌||◌, ◌==◌, Some, slice_get, inl, inr, refl, sym, ap, subst, ◌∙◌}
use Rattle.std.specs.List.{list_any}
use Rattle.std.proofs.lemmas.Bool.{and_parts, eqb-true, not-true, or_cases}
use Rattle.ace_codes.specs.Places.{is_at, is_normal, is_shareable}
use Rattle.ace_codes.specs.Reads.{ar_code, ar_kind_of, read_place}
use Rattle.ace_codes.specs.declared.kind.ArKind.{ArKind}
use Rattle.ace_codes.specs.declared.kind.ArKind.TheVariants as read
use Rattle.ace_event.specs.declared.event.Event.{Event}
use Rattle.ace_event.specs.declared.event.Event.TheVariants.{Ar, Aw}
use Rattle.ace_model.specs.declared.plans.Op.{Op}
use Rattle.ace_model.specs.declared.plans.Op.TheVariants as op
use Rattle.ace_model.specs.declared.transactions.Transaction.{Transaction}
use Rattle.ace_model.specs.Kinds.{is_dvm_message}
use Rattle.ace_model.specs.Messages.{has_second, is_message_part, is_message_word, is_sync_word}
use Rattle.ace_model.specs.Plans.{has_right_fields}
use Rattle.ace_model.specs.Trace.{is_some_and}
use Rattle.ace_model.specs.Transactions.{issued}
use Rattle.ace_model.proofs.General.Booleans.{not_both}
use Rattle.ace_model.proofs.General.Options.{Some-injective, is_some_and-is}
use Rattle.ace_runs.specs.Acts.{acts_of, begins_on_reads, begins_on_writes, issues_read}
use Rattle.ace_runs.proofs.NeverStuck.Barriers.Acts.{place-of-read}
use Rattle.ace_runs.proofs.NeverStuck.Phases.Halves.{any-turn}

-- the operation is a DVM message; it is one of two parts
abbrev pub is_message_operation : Op → Bool
is_message_operation (op.Dvm word) = true
is_message_operation (op.Sync word) = true
is_message_operation (op.Dvm2 word second) = true
is_message_operation _ = false

abbrev pub is_message_pair : Op → Bool
is_message_pair (op.Dvm2 word second) = true
is_message_pair _ = false

-- ---- the AR of a part --------------------------------------------------------------------------------

by-either : (P : ℕ → Type 0) (v a b : ℕ) → ((v == a) || (v == b)) ≡ true → P a → P b → P v
by-either P v a b t first second =
    elim (or_cases (v == a) (v == b) t) [
      | inl is ↦ subst P (sym (eqb-true v a is)) first
      | inr is ↦ subst P (sym (eqb-true v b is)) second
    ]

message-kind : (s d b : ℕ) → is_at (read_place read.DvmMessage) s d b ≡ true → is_some_and (ar_kind_of s d b) is_dvm_message ≡ true
unfolding ar_kind_of
message-kind s d b at =
    let parts = and_parts (is_normal b && is_shareable d) (s == 15) at in
    let place = and_parts (is_normal b) (is_shareable d) parts.0 in
    subst (λ v. is_some_and (ar_kind_of v d b) is_dvm_message ≡ true) (sym (eqb-true s 15 parts.1))
    (by-either (λ v. is_some_and (ar_kind_of 15 d v) is_dvm_message ≡ true) b 0 2 place.0
    (by-either (λ v. is_some_and (ar_kind_of 15 v 0) is_dvm_message ≡ true) d 1 2 place.1 refl refl)
    (by-either (λ v. is_some_and (ar_kind_of 15 v 2) is_dvm_message ≡ true) d 1 2 place.1 refl refl))

message-code : (s d b : ℕ) → is_some_and (ar_kind_of s d b) is_dvm_message ≡ true → s ≡ 15
message-code s d b m = of (is_some_and-is (ar_kind_of s d b) is_dvm_message m)
  where
    of : (k : ArKind) × (ar_kind_of s d b ≡ Some k) × (is_dvm_message k ≡ true) → s ≡ 15
    of (read.DvmMessage, is, m) = eqb-true s 15 (and_parts (is_normal b && is_shareable d) (s == 15) (place-of-read s d b read.DvmMessage is)).1
    of (k, is, m) = cc

-- an event that does so issues a part with the word
pub message-issued : (word : ℕ) (e : Event) (n : ℕ) → issues_read read.DvmMessage word e ≡ true
    → (x : Transaction) × (issued n e ≡ Some x) × (is_message_part x ≡ true) × (x.addr ≡ word)
message-issued word (Ar q i a s d b l) n m =
    let parts = and_parts (is_at (read_place read.DvmMessage) s d b) (a == word) m in
    (_, refl, message-kind s d b parts.0, eqb-true a word parts.1)
message-issued word e n m = cc

-- ---- operations --------------------------------------------------------------------------------------

other-code : (k : ArKind) (word q i a s d b : ℕ) (l : Bool) → s ≡ 15 → (15 == ar_code k) ≡ false → (issues_read k word (Ar q i a s d b l) || false) ≡ true → ⊥
other-code k word q i a s d b l is other m =
    elim (or_cases (issues_read k word (Ar q i a s d b l)) false m) [
      | inr f ↦ cc
      | inl t ↦
          let at = (and_parts (is_at (read_place k) s d b) (a == word) t).0 in
          let code = (and_parts _ (s == ar_code k) at).1 in
          let bad : (15 == ar_code k) ≡ true = subst (λ v. (v == ar_code k) ≡ true) is code in
          let no : false ≡ true = sym other ∙ bad in cc
    ]

barrier-code : (bar q i a s d b : ℕ) (l : Bool) → s ≡ 15 → (begins_on_reads bar (Ar q i a s d b l) || (begins_on_writes bar (Ar q i a s d b l) || false)) ≡ true → ⊥
barrier-code bar q i a s d b l is m =
    elim (or_cases (begins_on_reads bar (Ar q i a s d b l)) _ m) [
      | inr f ↦ cc
      | inl t ↦
          let at = (and_parts (is_at (read_place read.Barrier) s d b) (b == bar) t).0 in
          let code = (and_parts _ (s == 0) at).1 in
          let bad : false ≡ true = subst (λ v. (v == 0) ≡ true) is code in cc
    ]

-- a part is an act of a DVM message
read-of-message : (o : Op) (q i a s d b : ℕ) (l : Bool) → s ≡ 15 → list_any (λ fits. fits (Ar q i a s d b l)) (acts_of o) ≡ true → is_message_operation o ≡ true
read-of-message (op.Dvm word) q i a s d b l is m = refl
read-of-message (op.Sync word) q i a s d b l is m = refl
read-of-message (op.Dvm2 word second) q i a s d b l is m = refl
read-of-message op.Mb q i a s d b l is m = absurd (barrier-code 1 q i a s d b l is m)
read-of-message op.Sb q i a s d b l is m = absurd (barrier-code 3 q i a s d b l is m)
read-of-message (op.Ro w) q i a s d b l is m = absurd (other-code read.ReadOnce w q i a s d b l is refl m)
read-of-message (op.Cs w) q i a s d b l is m = absurd (other-code read.CleanShared w q i a s d b l is refl m)
read-of-message (op.Ci w) q i a s d b l is m = absurd (other-code read.CleanInvalid w q i a s d b l is refl m)
read-of-message (op.Mi w) q i a s d b l is m = absurd (other-code read.MakeInvalid w q i a s d b l is refl m)
read-of-message (op.Rn w) q i a s d b l is m = absurd (other-code read.ReadNoSnoop w q i a s d b l is refl m)
read-of-message o q i a s d b l is m = cc

pub part-of-message : (o : Op) (made : ℕ) (fits : Event → Bool) (e : Event) (n : ℕ) (x : Transaction) → issued n e ≡ Some x → is_message_part x ≡ true
    → slice_get (acts_of o) made ≡ Some fits → fits e ≡ true → is_message_operation o ≡ true
part-of-message o made fits (Ar q i a s d b l) n x new part turn m =
    let here : is_some_and (ar_kind_of s d b) is_dvm_message ≡ true = ap (λ (v : Transaction). is_message_part v) (Some-injective _ x new) ∙ part in
    read-of-message o q i a s d b l (message-code s d b here) (any-turn (acts_of o) made fits (Ar q i a s d b l) turn m)
part-of-message o made fits (Aw q i a s d b) n x new part turn m =
    let bad : false ≡ true = ap (λ (v : Transaction). is_message_part v) (Some-injective _ x new) ∙ part in cc
part-of-message o made fits e n x new part turn m = cc

-- ---- the turn of a part ------------------------------------------------------------------------------

-- The one part of a message, or the first of two, or the second.
abbrev pub IsTurnOfPart : Op → Transaction → ℕ → Type 0
IsTurnOfPart o x made =
    ((is_message_pair o ≡ false) × (made ≡ 0) × (has_second x.addr ≡ false))
    ⊎ (((is_message_pair o ≡ true) × (made ≡ 0) × (has_second x.addr ≡ true)) ⊎ ((is_message_pair o ≡ true) × (made ≡ 1)))

-- the part has the word of its act
pub part-word : (word : ℕ) (fits : Event → Bool) (e : Event) (n : ℕ) (x : Transaction) → issued n e ≡ Some x → Some (issues_read read.DvmMessage word) ≡ Some fits → fits e ≡ true → x.addr ≡ word
part-word word fits e n x new turn m =
    let act : issues_read read.DvmMessage word e ≡ true = ap (λ f. f e) (Some-injective (issues_read read.DvmMessage word) fits turn) ∙ m in
    let y = message-issued word e n act in
    let same : y.0 ≡ x = Some-injective y.0 x (sym y.1 ∙ new) in
    sym (ap (λ (v : Transaction). v.addr) same) ∙ y.3

pub part-turn : (o : Op) (made : ℕ) (fits : Event → Bool) (e : Event) (n : ℕ) (x : Transaction) → issued n e ≡ Some x → is_message_operation o ≡ true → has_right_fields o ≡ true
    → slice_get (acts_of o) made ≡ Some fits → fits e ≡ true → IsTurnOfPart o x made
part-turn (op.Dvm word) zero fits e n x new is right turn m =
    let lone = (and_parts (is_message_word word && not (is_sync_word word)) (not (has_second word)) right).1 in
    inl (refl, refl, ap has_second (part-word word fits e n x new turn m) ∙ not-true (has_second word) lone)
part-turn (op.Dvm word) (suc made) fits e n x new is right turn m = cc
part-turn (op.Sync word) zero fits e n x new is right turn m =
    let parts = and_parts (is_message_word word) (is_sync_word word) right in
    inl (refl, refl, ap has_second (part-word word fits e n x new turn m) ∙ not_both _ (is_sync_word word) (has_second word) parts.0 parts.1)
part-turn (op.Sync word) (suc made) fits e n x new is right turn m = cc
part-turn (op.Dvm2 word second) zero fits e n x new is right turn m =
    inr (inl (refl, refl, ap has_second (part-word word fits e n x new turn m) ∙ (and_parts (is_message_word word) (has_second word) right).1))
part-turn (op.Dvm2 word second) (suc zero) fits e n x new is right turn m = inr (inr (refl, refl))
part-turn (op.Dvm2 word second) (suc (suc made)) fits e n x new is right turn m = cc
part-turn o made fits e n x new is right turn m = cc

part-there : (word : ℕ) (fits : Event → Bool) (e : Event) (n : ℕ) → Some (issues_read read.DvmMessage word) ≡ Some fits → fits e ≡ true → is_some_and (issued n e) is_message_part ≡ true
part-there word fits e n turn m =
    let y = message-issued word e n (ap (λ f. f e) (Some-injective (issues_read read.DvmMessage word) fits turn) ∙ m) in
    ap (λ o. is_some_and o is_message_part) y.1 ∙ y.2

-- each act of a message of two parts issues a part
pub pair-part : (o : Op) (made : ℕ) (fits : Event → Bool) (e : Event) (n : ℕ) → is_message_pair o ≡ true → slice_get (acts_of o) made ≡ Some fits → fits e ≡ true
    → is_some_and (issued n e) is_message_part ≡ true
pair-part (op.Dvm2 word second) zero fits e n pair turn m = part-there word fits e n turn m
pair-part (op.Dvm2 word second) (suc zero) fits e n pair turn m = part-there second fits e n turn m
pair-part (op.Dvm2 word second) (suc (suc made)) fits e n pair turn m = cc
pair-part o made fits e n pair turn m = cc
