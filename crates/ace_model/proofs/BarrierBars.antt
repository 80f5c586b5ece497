-- A barrier half has bar 1 or 3.
use Rattle.std.proofs.Common.{◌≡◌, ℕ, Bool, true, false, nat_eq, ◌&&◌, if◌then◌else◌, Option, None, Some, inl, inr, refl, sym}
use Rattle.std.proofs.lemmas.Bool.{and_parts, or_cases, eqb-true, false_from_ne_true}
use Rattle.ace_codes.specs.declared.kind.ArKind.{ArKind}
use Rattle.ace_codes.specs.declared.kind.ArKind.TheVariants as read
use Rattle.ace_codes.specs.declared.kind.AwKind.{AwKind}
use Rattle.ace_codes.specs.declared.kind.AwKind.TheVariants as write
use Rattle.ace_codes.specs.Places.{is_at, is_barrier, is_domain}
use Rattle.ace_codes.specs.Reads.{ar_kind_of, read_place, reads}
use Rattle.ace_codes.specs.Writes.{aw_kind_of, write_place, writes}
use Rattle.ace_model.specs.Barriers.{is_barrier_half}
use Rattle.ace_model.specs.Kinds.{is_read_barrier, is_write_barrier}
use Rattle.ace_model.specs.Trace.{is_some_and}
use Rattle.ace_model.specs.Transactions.{is_read, read_kind, write_kind}
use Rattle.ace_model.specs.declared.transactions.Transaction.{Transaction}
use Rattle.ace_model.proofs.Outstanding.Issued.{find-some}

-- a kind stands at its place
read-at : (s d b : ℕ) (k : ArKind) → ar_kind_of s d b ≡ Some k → is_at (read_place k) s d b ≡ true
unfolding ar_kind_of
read-at s d b k e = (find-some (λ kind. is_at (read_place kind) s d b) reads k e).1

write-at : (s d b : ℕ) (k : AwKind) → aw_kind_of s d b ≡ Some k → is_at (write_place k) s d b ≡ true
unfolding aw_kind_of
write-at s d b k e = (find-some (λ kind. is_at (write_place kind) s d b) writes k e).1

then-some : {A : Type 0} → (b : Bool) (o : Option A) (k : A) → (if b then o else None) ≡ Some k → o ≡ Some k
then-some true o k e = e
then-some false o k e = cc

else-some : {A : Type 0} → (b : Bool) (o : Option A) (k : A) → (if b then None else o) ≡ Some k → o ≡ Some k
else-some true o k e = cc
else-some false o k e = e

bar-at : (s d b : ℕ) → (is_barrier b && is_domain d && nat_eq s 0) ≡ true → is_barrier b ≡ true
bar-at s d b e = (and_parts (is_barrier b) (is_domain d) (and_parts (is_barrier b && is_domain d) (nat_eq s 0) e).0).0

read-bar : (x : Transaction) (o : Option ArKind) → read_kind x ≡ o → is_some_and o is_read_barrier ≡ true → is_barrier x.bar ≡ true
read-bar x None e passes = let bad : false ≡ true = passes in cc
read-bar x (Some read.Barrier) e passes =
    bar-at x.snoop x.dom x.bar (read-at x.snoop x.dom x.bar read.Barrier (then-some (is_read x.chan) (ar_kind_of x.snoop x.dom x.bar) read.Barrier e))
read-bar x (Some k) e passes = let bad : false ≡ true = passes in cc

write-bar : (x : Transaction) (o : Option AwKind) → write_kind x ≡ o → is_some_and o is_write_barrier ≡ true → is_barrier x.bar ≡ true
write-bar x None e passes = let bad : false ≡ true = passes in cc
write-bar x (Some write.Barrier) e passes =
    bar-at x.snoop x.dom x.bar (write-at x.snoop x.dom x.bar write.Barrier (else-some (is_read x.chan) (aw_kind_of x.snoop x.dom x.bar) write.Barrier e))
write-bar x (Some k) e passes = let bad : false ≡ true = passes in cc

half-bar : (x : Transaction) → is_barrier_half x ≡ true → is_barrier x.bar ≡ true
half-bar x half =
    elim (or_cases (is_some_and (read_kind x) is_read_barrier) (is_some_and (write_kind x) is_write_barrier) half) [
      | inl is ↦ read-bar x (read_kind x) refl is
      | inr is ↦ write-bar x (write_kind x) refl is
    ]

-- a transaction with another bar is none
pub no_half : (x : Transaction) → (x.bar ≡ 1 → ⊥) → (x.bar ≡ 3 → ⊥) → false ≡ is_barrier_half x
no_half x one three =
    sym (false_from_ne_true (is_barrier_half x) (λ half. elim (or_cases (nat_eq x.bar 1) (nat_eq x.bar 3) (half-bar x half)) [
      | inl is ↦ one (eqb-true x.bar 1 is)
      | inr is ↦ three (eqb-true x.bar 3 is)
    ]))
