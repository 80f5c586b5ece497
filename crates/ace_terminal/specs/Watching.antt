-- What stands behind an input or an output whose progress is shown.
use Rattle.ace_terminal.specs.declared.watch.Watched.{Watched}
use Rattle.ace_terminal.specs.declared.clear.Clearing.{Clearing}

-- the reader that is watched
abbrev pub inner_of : {T R : Type 0} → Watched T R → T
inner_of w = w.inner

-- the sink before which the line is cleared
abbrev pub cleared_of : {K R : Type 0} → Clearing K R → K
cleared_of c = c.inner
