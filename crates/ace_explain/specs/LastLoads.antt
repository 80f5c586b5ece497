-- What is kept of the last exclusive load of each port.
use Rattle.std.specs.Prelude.{ℕ, ◌≡◌, ◌<◌, true, length, slice_index_or, Option, Some, None, option_map}
use Rattle.ace_model.specs.Trace.{Trace}
use Rattle.ace_clauses.specs.CacheClauses.{last_exclusive_load, has_stored_since}
use Rattle.ace_explain.specs.declared.last_loads.LastLoad.{LastLoad}
use Rattle.ace_explain.specs.declared.last_loads.LastLoads.{LastLoads}

-- It is the port's last exclusive load, and says whether the port has made an exclusive store
-- since.
pub record LoadStands (past : Trace) (p : ℕ) (o : Option LastLoad) : Type 0 where
  pub line : last_exclusive_load past p ≡ option_map (λ (w : LastLoad). w.line) o
  pub stored : (w : LastLoad) → o ≡ Some w → w.stored ≡ has_stored_since past p

-- so it is of each port that a header can have
pub record LoadsStand (past : Trace) (s : LastLoads) : Type 0 where
  pub size : length s.ports ≡ 32
  pub ports : (p : ℕ) → p < 32 → LoadStands past p (slice_index_or s.ports p None)

-- the load, once its port has made an exclusive store
abbrev pub stored : Option LastLoad → Option LastLoad
stored o = option_map (λ (w : LastLoad). record w { stored = true }) o
