-- What is kept of the exclusive stores of each port.
use Rattle.std.specs.Prelude.{ℕ, ◌≡◌, ◌+◌, ◌*◌, ◌<◌, None, length, slice_index_or}
use Rattle.ace_model.specs.Exclusives.{passed_at_grant}
use Rattle.ace_portck.specs.Targets.{Recording}
use Rattle.ace_sysck.specs.declared.results.Results.{Results}

-- the place of an identifier of a port in a table of 256 identifiers a port
abbrev pub slot_of : ℕ → ℕ → ℕ
slot_of p i = p * 256 + i

-- the table says of each identifier whether the exclusive store under it passed
pub record ResultsStand (r : Recording) (s : Results) : Type 0 where
  pub size : length s.passed.items ≡ r.header.ports * 256
  pub passed : (p i : ℕ) → i < 256
      → slice_index_or s.passed.items (slot_of p i) None ≡ passed_at_grant r.past p i
