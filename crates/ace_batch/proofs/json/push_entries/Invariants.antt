use Rattle.std.proofs.Common.{◌≡◌, ◌++◌, drop, flat_map}
use Rattle.ace_batch.specs.Json.{entry_json}
use Rattle.ace_batch.proofs.json.push_entries.Given as goal

-- what was added, and the lines of the other traces
abbrev pub invariant-loop-entry : goal.invariant-loop-entry
invariant-loop-entry l =
    l.text.items ++ flat_map entry_json (drop l.entry-index l.entries)
    ≡ l.initial.text.items ++ flat_map entry_json l.entries
