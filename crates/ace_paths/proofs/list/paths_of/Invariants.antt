use Rattle.std.proofs.Common.{◌≡◌, filter, take}
use Rattle.ace_paths.specs.Lists.{is_some_text, texts_of}
use Rattle.ace_paths.proofs.list.paths_of.Given as goal

-- those of the lines so far
abbrev pub invariant-loop-line : goal.invariant-loop-line
invariant-loop-line l = texts_of l.paths.items ≡ filter is_some_text (texts_of (take l.line-index l.line-items))
