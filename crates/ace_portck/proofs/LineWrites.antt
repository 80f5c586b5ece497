-- What a line write is.
use Rattle.std.proofs.Common.{◌≡◌, true, false, if◌then◌else◌, Option, Some, None, option_and_then, refl, ap, subst}
use Rattle.ace_portck.proofs.Terms.{AwKind, aw_kind_of, is_barrier_half, is_line_write, is_write_barrier, is_message_part, is_line, is_read, write_kind, Transaction, line_write}
use Rattle.ace_codes.specs.declared.kind.AwKind.TheVariants as write
use Rattle.ace_model.proofs.General.Options.{none_if-is, some_if-is}

-- The transaction is a line write of the kind.
pub record IsLineWrite (x : Transaction) (k : AwKind) : Type 0 where
  pub chan : is_read x.chan ≡ false
  pub kind : write_kind x ≡ Some k
  pub line : is_line_write k ≡ true

from_kind : (o : Option AwKind) (k : AwKind) → option_and_then (λ j. if is_line_write j then Some j else None) o ≡ Some k → (o ≡ Some k) × (is_line_write k ≡ true)
from_kind None k is = cc
from_kind (Some j) k is =
    let t = some_if-is (is_line_write j) j k is in
    (ap Some t.1, subst (λ v. is_line_write v ≡ true) t.1 t.0)

pub line_write-is : (x : Transaction) (k : AwKind) → line_write x ≡ Some k → IsLineWrite x k
line_write-is x k is =
    let t = from_kind (write_kind x) k is in
    record { chan = (none_if-is (is_read x.chan) (aw_kind_of x.snoop x.dom x.bar) k t.0).0; kind = t.0; line = t.1 }

pub line-no_barrier : (k : AwKind) → is_line_write k ≡ true → is_write_barrier k ≡ false
line-no_barrier write.Barrier line = cc
line-no_barrier k line = refl

-- neither half of a barrier nor part of a DVM message
pub line_write-no_half : (x : Transaction) (k : AwKind) → IsLineWrite x k → is_barrier_half x ≡ false
line_write-no_half x k w = rw (w.kind, w.chan, line-no_barrier k w.line) refl

pub line_write-no_message : (x : Transaction) (k : AwKind) → IsLineWrite x k → is_message_part x ≡ false
line_write-no_message x k w = rw w.chan refl

pub line_write-line : (x : Transaction) (k : AwKind) → IsLineWrite x k → is_line x ≡ true
line_write-line x k w = rw (w.kind, w.chan, w.line) refl
