use Rattle.std.proofs.Common.{◌≤◌, ◌-◌, ◌++◌, List, drop, length}
use Rattle.ace_batch.specs.Looked.{AreLookedAt}
use Rattle.ace_batch.specs.declared.entry.Entry.{Entry}
use Rattle.ace_tool.specs.Results.{IsResult}
use Rattle.ace_tool.specs.Told.{options_of}
use Rattle.ace_tool.proofs.many.all_results.Given as goal

-- what is right of the others is right behind those so far
abbrev pub invariant-loop-start : goal.invariant-loop-start
invariant-loop-start g l = record {
  within : l.start ≤ length l.paths;
  so_far : (entries : List Entry)
      → AreLookedAt l.fail_fast (λ path e. IsResult (options_of l.options) (g.X.Checks.knows l.checks) path.now e) (drop l.start l.paths) entries
      → AreLookedAt l.fail_fast (λ path e. IsResult (options_of l.options) (g.X.Checks.knows l.checks) path.now e) l.paths (l.entries.items ++ entries);
}

abbrev pub decreases-loop-start : goal.decreases-loop-start
decreases-loop-start g l = length l.paths - l.start
