-- The identifiers that the outstanding transactions of a port have.
use Rattle.std.specs.Prelude.{ℕ, ◌≡◌, ◌<◌, ◌==◌, Bool, not}
use Rattle.std.specs.Int.{bit_at}
use Rattle.ace_event.specs.declared.event.Channel.{Channel}
use Rattle.ace_event.specs.declared.event.Channel.TheVariants.{Read, Write}
use Rattle.ace_event.specs.declared.header.Header.{Header}
use Rattle.ace_model.specs.Trace.{Trace}
use Rattle.ace_runs.specs.Requests.{is_free}
use Rattle.ace_master_state.specs.declared.identifier_set.IdentifierSet.{IdentifierSet}
use Rattle.ace_master_state.specs.declared.identifiers.Identifiers.{Identifiers}

-- the identifier is one of the set
abbrev pub has : IdentifierSet → ℕ → Bool
has s i = bit_at s.word i == 1

-- Those of the sixteen identifiers that aren't free on the channel make the set.
abbrev pub AreTaken : Header → Trace → ℕ → Channel → IdentifierSet → Type 0
AreTaken h past p c s = (i : ℕ) → i < 16 → is_free h past p c i ≡ not (has s i)

pub record IdentifiersStand (h : Header) (past : Trace) (p : ℕ) (s : Identifiers) : Type 0 where
  pub reads : AreTaken h past p Read s.reads
  pub writes : AreTaken h past p Write s.writes
