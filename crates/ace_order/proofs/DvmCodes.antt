-- A part of a DVM message and a DVM Complete have an ARSNOOP above 13.
use Rattle.std.proofs.Common.{◌≡◌, ◌<◌, ℕ, true, false, Bool, nat_eq, nat_lt, if◌then◌else◌, Option, None, Some, inl, inr, sym, subst, ◌∙◌, arith}
use Rattle.std.proofs.lemmas.Bool.{and_parts, eqb-true, false_from_ne_true, lt-ltb, or_cases, or_left}
use Rattle.ace_codes.specs.declared.kind.ArKind.{ArKind}
use Rattle.ace_codes.specs.declared.kind.ArKind.TheVariants as read
use Rattle.ace_codes.specs.Places.{is_at, is_in}
use Rattle.ace_codes.specs.Reads.{ar_code, ar_kind_of, read_place, reads}
use Rattle.ace_model.specs.Kinds.{is_dvm_complete, is_dvm_message}
use Rattle.ace_model.specs.Messages.{is_dvm_completion, is_message_part}
use Rattle.ace_model.specs.Transactions.{is_read, read_kind}
use Rattle.ace_model.specs.declared.transactions.Transaction.{Transaction}
use Rattle.ace_model.proofs.General.Options.{is_some_and-is}
use Rattle.ace_model.proofs.Outstanding.Issued.{find-some}
use Rattle.ace_order.specs.Quiet.{is_dvm}

-- a kind stands at its code
code-at : (s d b : ℕ) (k : ArKind) → ar_kind_of s d b ≡ Some k → s ≡ ar_code k
unfolding ar_kind_of
code-at s d b k e = eqb-true s (ar_code k) (and_parts (is_in (read_place k) d b) (nat_eq s (ar_code k)) (find-some (λ kind. is_at (read_place kind) s d b) reads k e).1).1

then-some : {A : Type 0} → (b : Bool) (o : Option A) (k : A) → (if b then o else None) ≡ Some k → o ≡ Some k
then-some true o k e = e
then-some false o k e = cc

code-of : (x : Transaction) (k : ArKind) → read_kind x ≡ Some k → x.snoop ≡ ar_code k
code-of x k is = code-at x.snoop x.dom x.bar k (then-some (is_read x.chan) (ar_kind_of x.snoop x.dom x.bar) k is)

message-code : (k : ArKind) → is_dvm_message k ≡ true → 13 < ar_code k
message-code read.DvmMessage e = omega arith
message-code k e = cc

completion-code : (k : ArKind) → is_dvm_complete k ≡ true → 13 < ar_code k
completion-code read.DvmComplete e = omega arith
completion-code k e = cc

dvm-code : (x : Transaction) → is_dvm x ≡ true → 13 < x.snoop
dvm-code x dvm =
    elim (or_cases (is_message_part x) (is_dvm_completion x) dvm) [
      | inl message ↦
          let k = is_some_and-is (read_kind x) is_dvm_message message in
          subst (λ n. 13 < n) (sym (code-of x k.0 k.1)) (message-code k.0 k.2)
      | inr completion ↦
          let k = is_some_and-is (read_kind x) is_dvm_complete completion in
          subst (λ n. 13 < n) (sym (code-of x k.0 k.1)) (completion-code k.0 k.2)
    ]

-- a read with a lower one is none
pub no_dvm : (x : Transaction) → nat_lt 13 x.snoop ≡ false → false ≡ is_dvm x
no_dvm x low = sym (false_from_ne_true (is_dvm x) (λ dvm. let bad : true ≡ false = sym (lt-ltb 13 x.snoop (dvm-code x dvm)) ∙ low in cc))

pub no_part : (x : Transaction) → nat_lt 13 x.snoop ≡ false → false ≡ is_message_part x
no_part x low = sym (false_from_ne_true (is_message_part x) (λ part. let bad : true ≡ false = sym (or_left (is_message_part x) (is_dvm_completion x) part) ∙ sym (no_dvm x low) in cc))
