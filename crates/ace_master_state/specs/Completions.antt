-- What is kept of the DVM Completes that a port owes says of a trace.
use Rattle.std.specs.Prelude.{ℕ, ◌≡◌, Bool, length, slice_get}
use Rattle.ace_model.specs.Messages.{answered_parts, answered_syncs, dvm_completes, is_second_part, parts_for}
use Rattle.ace_model.specs.Trace.{Trace, is_some_and}
use Rattle.ace_master_state.specs.declared.completions.Completions.{Completions}

-- the part of a message that the port answers next is a second one
abbrev pub awaits_second : Trace → ℕ → Bool
awaits_second past p =
    is_some_and (slice_get (parts_for past p) (length (answered_parts past p)))
    (is_second_part past)

pub record CompletionsStand (past : Trace) (p : ℕ) (s : Completions) : Type 0 where
  pub port : s.port ≡ p
  pub answered : s.answered ≡ answered_syncs past p
  pub issued : s.issued ≡ dvm_completes past p
  pub second : s.awaits_second ≡ awaits_second past p
