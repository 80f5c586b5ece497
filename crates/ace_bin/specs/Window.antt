-- What a window over a source has before it.
use Rattle.std.specs.Prelude.{ℕ, List, Option, ◌-◌, take, drop}
use Rattle.std.specs.Borrow.{MutBor}
use Rattle.ace_io.specs.Line.{in_front}
use Rattle.ace_io.specs.declared.outside.Source.{Ghosts}
use Rattle.ace_bin.specs.declared.window.Window.{Window}

-- the source that it takes bytes from
abbrev pub source_of : {S : Type 0} {g : Ghosts S} → Window S g → MutBor S
source_of window = window.source

-- the bytes that it holds
abbrev pub held : {S : Type 0} {g : Ghosts S} → Window S g → List ℕ
held window = take (window.end - window.start) (drop window.start window.buffer)

-- the bytes that it holds, and those that its source has left, where that tells
abbrev pub waiting : {S : Type 0} {g : Ghosts S} → (S → Option (List ℕ)) → Window S g
    → Option (List ℕ)
waiting left window = in_front (held window) (left window.source.now)
