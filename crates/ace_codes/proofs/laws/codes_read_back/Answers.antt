use Rattle.std.proofs.Common.{◌≡◌, ℕ, Some, refl}
use Rattle.ace_codes.specs.declared.kind.ArKind.{ArKind}
use Rattle.ace_codes.specs.declared.kind.ArKind.TheVariants as read
use Rattle.ace_codes.specs.declared.kind.AwKind.{AwKind}
use Rattle.ace_codes.specs.declared.kind.AwKind.TheVariants as write
use Rattle.ace_codes.specs.declared.kind.SnoopKind.TheVariants as snoop
use Rattle.ace_codes.specs.Reads.{ar_kind_of, ar_code}
use Rattle.ace_codes.specs.Snoops.{ac_kind_of}
use Rattle.ace_codes.specs.Writes.{aw_kind_of, aw_code}
use Rattle.ace_codes.proofs.ReadBack.{normal_unshared, normal_shareable, in_each_domain, barrier_anywhere}
use Rattle.ace_codes.proofs.laws.codes_read_back.Goals as goal

-- the kind is read back at the domain and the bar
abbrev IsReadBack : ArKind → ℕ → ℕ → Type 0
IsReadBack kind domain bar = ar_kind_of (ar_code kind) domain bar ≡ Some kind

abbrev IsWrittenBack : AwKind → ℕ → ℕ → Type 0
IsWrittenBack kind domain bar = aw_kind_of (aw_code kind) domain bar ≡ Some kind

pub returns-clause-reads : goal.returns-clause-reads
unfolding ar_kind_of
returns-clause-reads c read.ReadNoSnoop = normal_unshared (IsReadBack read.ReadNoSnoop) refl refl refl refl
returns-clause-reads c read.Barrier =
    barrier_anywhere (IsReadBack read.Barrier) (in_each_domain (λ domain. IsReadBack read.Barrier domain 1) refl refl refl refl) (in_each_domain (λ domain. IsReadBack read.Barrier domain 3) refl refl refl refl)
returns-clause-reads c kind = normal_shareable (IsReadBack kind) refl refl refl refl

pub returns-clause-writes : goal.returns-clause-writes
unfolding aw_kind_of
returns-clause-writes c write.WriteNoSnoop = normal_unshared (IsWrittenBack write.WriteNoSnoop) refl refl refl refl
returns-clause-writes c write.Barrier =
    barrier_anywhere (IsWrittenBack write.Barrier) (in_each_domain (λ domain. IsWrittenBack write.Barrier domain 1) refl refl refl refl) (in_each_domain (λ domain. IsWrittenBack write.Barrier domain 3) refl refl refl refl)
returns-clause-writes c kind = normal_shareable (IsWrittenBack kind) refl refl refl refl

pub returns-clause-snoops : goal.returns-clause-snoops
unfolding ac_kind_of
returns-clause-snoops c snoop.ReadOnce = refl
returns-clause-snoops c _ = refl
