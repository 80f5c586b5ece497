-- The kinds that start where their port holds nothing.
use Rattle.std.proofs.Common.{◌≡◌, true, [], ◌∷◌, refl}
use Rattle.ace_model.proofs.Terms.{ArKind, AwKind, LineState, I, starts_read, starts_write, is_among, reads_a_line, is_granted_write}
use Rattle.ace_codes.specs.declared.kind.ArKind.TheVariants as read
use Rattle.ace_codes.specs.declared.kind.AwKind.TheVariants as write

only_invalid : (st : LineState) → is_among st (I ∷ []) ≡ true → st ≡ I
only_invalid I e = refl
only_invalid st e = cc

pub read_starts : (k : ArKind) (st : LineState) → reads_a_line k ≡ true → starts_read k st ≡ true → st ≡ I
read_starts read.Barrier st r s = cc
read_starts k st r s = first_of (cc, search only_invalid)

pub discard_starts : (st : LineState) → starts_read read.MakeInvalid st ≡ true → st ≡ I
discard_starts st s = only_invalid st s

pub write_starts : (k : AwKind) (st : LineState) → is_granted_write k ≡ true → starts_write k st ≡ true → st ≡ I
write_starts write.Barrier st r s = cc
write_starts k st r s = first_of (cc, search only_invalid)
