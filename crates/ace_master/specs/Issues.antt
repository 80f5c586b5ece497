-- The events by which a port issues transactions.
use Rattle.std.specs.Prelude.{ℕ, Bool, false}
use Rattle.ace_codes.specs.declared.kind.ArKind.{ArKind}
use Rattle.ace_codes.specs.declared.kind.ArKind.TheVariants as read
use Rattle.ace_codes.specs.declared.kind.AwKind.{AwKind}
use Rattle.ace_codes.specs.declared.kind.AwKind.TheVariants as write
use Rattle.ace_codes.specs.Reads.{ar_code}
use Rattle.ace_codes.specs.Writes.{aw_code}
use Rattle.ace_event.specs.declared.event.Event.{Event}
use Rattle.ace_event.specs.declared.event.Event.TheVariants.{Ar, Aw}
use Rattle.ace_model.specs.Kinds.{is_no_snoop_read, is_no_snoop_write}
use Rattle.ace_runs.specs.Requests.{domain_for}

-- the AR of a read of the line with this lock, the AW of a write of the line
abbrev pub ar_of : ℕ → ℕ → ArKind → ℕ → Bool → Event
ar_of p i k a lock = Ar p i a (ar_code k) (domain_for (is_no_snoop_read k)) 0 lock

abbrev pub aw_of : ℕ → ℕ → AwKind → ℕ → Event
aw_of p i k a = Aw p i a (aw_code k) (domain_for (is_no_snoop_write k)) 0

-- the halves of a barrier
abbrev pub barrier_ar : ℕ → ℕ → ℕ → Event
barrier_ar p i bar = Ar p i 0 (ar_code read.Barrier) 1 bar false

abbrev pub barrier_aw : ℕ → ℕ → ℕ → Event
barrier_aw p i bar = Aw p i 0 (aw_code write.Barrier) 1 bar
