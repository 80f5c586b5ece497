-- A source whose first bytes were looked at.
use Rattle.std.specs.Prelude.{ℕ, List, Option, drop}
use Rattle.std.specs.Borrow.{MutBor}
use Rattle.ace_io.specs.Line.{in_front}
use Rattle.ace_io.specs.declared.outside.Source.{Ghosts}
use Rattle.ace_tool.specs.declared.peeked.Peeked.{Peeked}

-- the source that its bytes come from
abbrev pub source_of : {S : Type 0} {g : Ghosts S} → Peeked S g → MutBor S
source_of p = p.source

-- the bytes that were taken from the source, and not given
abbrev pub front_of : {S : Type 0} {g : Ghosts S} → Peeked S g → List ℕ
front_of p = drop p.given p.front.items

-- the bytes that are left, where the source tells those that it has left
abbrev pub left_of : {S : Type 0} {g : Ghosts S} → (S → Option (List ℕ)) → Peeked S g
    → Option (List ℕ)
left_of left p = in_front (front_of p) (left p.source.now)
