use Rattle.std.proofs.Common.{◌≢◌, ◌<◌, ◌≤◌, ℕ}
use Rattle.ace_script.specs.Text.{cache_text}
use Rattle.ace_script.proofs.header.parse_cache.Given as goal

-- none of the numbers before it
abbrev pub invariant-loop-ways : goal.invariant-loop-ways
invariant-loop-ways l = record {
  from_one : 1 ≤ l.ways;
  to_the_most : l.ways ≤ 33;
  none : (ways : ℕ) → 1 ≤ ways → ways < l.ways → cache_text ways ≢ l.line;
}
