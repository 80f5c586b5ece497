-- A part of a message has ARSNOOP 15, and a DVM Complete has 14.
use Rattle.std.proofs.Common.{◌≡◌, ℕ, Bool, true, false, nat_eq, if◌then◌else◌, Option, None, Some, refl, sym}
use Rattle.std.proofs.lemmas.Bool.{and_parts, eqb-true, false_from_ne_true}
use Rattle.ace_sysck.proofs.Terms.{ArKind, is_in, ar_kind_of, read_place, reads, is_dvm_message, is_dvm_complete, is_message_part, is_dvm_completion, is_some_and, is_read, read_kind, Transaction}
use Rattle.ace_codes.specs.declared.kind.ArKind.TheVariants as read
use Rattle.ace_codes.specs.Places.{is_at}
use Rattle.ace_model.proofs.Outstanding.Issued.{find-some}

-- a kind stands at its place, so a read has the code of its kind
code-at : (s d b : ℕ) (k : ArKind) → ar_kind_of s d b ≡ Some k → nat_eq s (read_place k).2 ≡ true
unfolding ar_kind_of
code-at s d b k e = (and_parts (is_in (read_place k) d b) (nat_eq s (read_place k).2) (find-some (λ kind. is_at (read_place kind) s d b) reads k e).1).1

then-some : {A : Type 0} → (b : Bool) (o : Option A) (k : A) → (if b then o else None) ≡ Some k → o ≡ Some k
then-some true o k e = e
then-some false o k e = cc

code-of : (x : Transaction) (k : ArKind) → read_kind x ≡ Some k → x.snoop ≡ (read_place k).2
code-of x k e = eqb-true x.snoop (read_place k).2 (code-at x.snoop x.dom x.bar k (then-some (is_read x.chan) (ar_kind_of x.snoop x.dom x.bar) k e))

part-code : (x : Transaction) (o : Option ArKind) → read_kind x ≡ o → is_some_and o is_dvm_message ≡ true → x.snoop ≡ 15
part-code x None e passes = let bad : false ≡ true = passes in cc
part-code x (Some read.DvmMessage) e passes = code-of x read.DvmMessage e
part-code x (Some k) e passes = let bad : false ≡ true = passes in cc

completion-code : (x : Transaction) (o : Option ArKind) → read_kind x ≡ o → is_some_and o is_dvm_complete ≡ true → x.snoop ≡ 14
completion-code x None e passes = let bad : false ≡ true = passes in cc
completion-code x (Some read.DvmComplete) e passes = code-of x read.DvmComplete e
completion-code x (Some k) e passes = let bad : false ≡ true = passes in cc

-- a transaction with another code is none
pub no_part : (x : Transaction) → (x.snoop ≡ 15 → ⊥) → false ≡ is_message_part x
no_part x other = sym (false_from_ne_true (is_message_part x) (λ part. other (part-code x (read_kind x) refl part)))

pub no_completion : (x : Transaction) → (x.snoop ≡ 14 → ⊥) → false ≡ is_dvm_completion x
no_completion x other = sym (false_from_ne_true (is_dvm_completion x) (λ completes. other (completion-code x (read_kind x) refl completes)))
