use Rattle.std.proofs.Common.{◌≡◌, ◌-◌, ◌≤◌}
use Rattle.ace_pages.specs.Named.{page_from, page_named}
use Rattle.ace_pages.proofs.names.page_of.Given as goal

-- no rule so far has the page
abbrev pub invariant-loop-rule : goal.invariant-loop-rule
invariant-loop-rule l = record {
  few : l.rule ≤ 41;
  page : page_from l.word l.rule (41 - l.rule) ≡ page_named l.word;
}
