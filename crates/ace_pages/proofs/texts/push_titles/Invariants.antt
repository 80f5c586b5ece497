use Rattle.std.proofs.Common.{◌≡◌, ◌++◌, ◌-◌, ◌≤◌}
use Rattle.ace_pages.specs.Pages.{all_titles, titles_from}
use Rattle.ace_pages.proofs.texts.push_titles.Given as goal

-- the lines so far, and those of the other rules
abbrev pub invariant-loop-rule : goal.invariant-loop-rule
invariant-loop-rule l = record {
  few : l.rule ≤ 41;
  titles : l.text.items ++ titles_from l.rule (41 - l.rule) ≡ l.initial.text.items ++ all_titles;
}
