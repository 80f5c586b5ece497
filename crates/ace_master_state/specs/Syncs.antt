-- What is kept of the Syncs of a port says of a trace.
use Rattle.std.specs.Prelude.{ℕ, ◌≡◌, Bool, not, ◌&&◌, Option, Some, None, is_some}
use Rattle.std.specs.List.{count_by}
use Rattle.ace_codes.specs.Snoops.{ac_kind_of}
use Rattle.ace_model.specs.Kinds.{is_complete_snoop}
use Rattle.ace_model.specs.Messages.{first_waiting, has_second, is_sync_completed, is_sync_word}
use Rattle.ace_model.specs.Trace.{Trace, is_some_and}
use Rattle.ace_runs.specs.Retiring.{tells_completion, unanswered}
use Rattle.ace_master_state.specs.declared.syncs.Syncs.{Syncs}

pub record SyncsStand (past : Trace) (p : ℕ) (s : Syncs) : Type 0 where
  pub port : s.port ≡ p
  pub second : s.awaits_second ≡ is_some (first_waiting past p)
  pub completed : s.completed ≡ is_sync_completed past p
  pub unanswered : s.unanswered ≡ count_by tells_completion (unanswered past p)

-- the code is that of an AC DVM Complete
abbrev pub is_completion : ℕ → Bool
is_completion snoop = is_some_and (ac_kind_of snoop) is_complete_snoop

-- whether a first part waits for its second, after a part with this word, if there is one
abbrev pub waits_with : Bool → Option ℕ → Bool
waits_with waited None = waited
waits_with waited (Some word) = not waited && has_second word

-- whether the last Sync is completed, after that part
abbrev pub stays_complete : Bool → Bool → Option ℕ → Bool
stays_complete waited was None = was
stays_complete waited was (Some word) = not (not waited && is_sync_word word) && was
