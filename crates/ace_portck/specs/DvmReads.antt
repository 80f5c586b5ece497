-- The reads of DVM.
use Rattle.std.specs.Prelude.{ℕ, Bool, not, ◌&&◌}
use Rattle.ace_codes.specs.Reads.{ar_kind_of}
use Rattle.ace_model.specs.Kinds.{is_dvm_complete, is_dvm_message}
use Rattle.ace_model.specs.Trace.{is_some_and}

-- the fields are those of the AR of a DVM Message with lock 0
abbrev pub is_message : ℕ → ℕ → ℕ → Bool → Bool
is_message snoop dom bar lock = is_some_and (ar_kind_of snoop dom bar) is_dvm_message && not lock

-- the fields are those of the AR of a DVM Complete with lock 0
abbrev pub is_completion : ℕ → ℕ → ℕ → Bool → Bool
is_completion snoop dom bar lock =
    is_some_and (ar_kind_of snoop dom bar) is_dvm_complete && not lock
