-- What half of a barrier on the write channel is.
use Rattle.std.proofs.Common.{◌≡◌, true, false, Option, Some, None, refl}
use Rattle.ace_portck.proofs.Terms.{AwKind, Write, is_barrier_half, is_write_barrier, is_some_and, is_line, read_kind, write_kind, Transaction}
use Rattle.ace_codes.specs.declared.kind.AwKind.TheVariants as write

write-is : (o : Option AwKind) → is_some_and o is_write_barrier ≡ true → o ≡ Some write.Barrier
write-is None b = cc
write-is (Some write.Barrier) b = refl
write-is (Some k) b = cc

pub write_half-kind : (x : Transaction) → x.chan ≡ Write → is_barrier_half x ≡ true → write_kind x ≡ Some write.Barrier
write_half-kind x chan half = let none : read_kind x ≡ None = rw chan refl in write-is (write_kind x) (rw none at half)

-- it is no line transaction
pub write_half-no_line : (x : Transaction) → x.chan ≡ Write → is_barrier_half x ≡ true → is_line x ≡ false
write_half-no_line x chan half = let kind = write_half-kind x chan half in rw (kind, chan) refl
