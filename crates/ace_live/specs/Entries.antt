-- What a call of a live system ends with.
use Rattle.std.specs.Prelude.{◌≡◌, ℕ, ◌==◌, if◌then◌else◌, List, [], ◌∷◌}
use Rattle.ace_model.specs.declared.plans.Op.{Op}
use Rattle.ace_history.specs.declared.entry.Entry.{Entry}
use Rattle.ace_history.specs.Histories.{IsLegalHistory}
use Rattle.ace_live.specs.declared.setting.Setting.{Setting}
use Rattle.ace_live.specs.Running.{blank}

-- the history is legal for the setting
abbrev pub Legal : Setting → List Entry → Type 0
Legal key history = IsLegalHistory (blank key) history

-- the entry is that of a call of the port that did the operation
abbrev pub IsEntryOf : ℕ → Op → Entry → Type 0
IsEntryOf port op e = (e.port ≡ port) × (e.op ≡ op)

-- the entries of one port
abbrev pub of_port : ℕ → List Entry → List Entry
of_port p [] = []
of_port p (e ∷ es) = if e.port == p then e ∷ of_port p es else of_port p es
