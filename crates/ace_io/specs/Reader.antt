-- What a reader of lines has before it.
use Rattle.std.specs.Prelude.{ℕ, List, Option, ◌-◌, ◌==◌, if◌then◌else◌, take, drop}
use Rattle.std.specs.Borrow.{MutBor}
use Rattle.ace_io.specs.Line.{in_front}
use Rattle.ace_io.specs.declared.line_reader.LineReader.{LineReader}
use Rattle.ace_io.specs.declared.outside.Source.{Ghosts}

-- the source that it takes bytes from
abbrev pub source_of : {S : Type 0} {g : Ghosts S} → LineReader S g → MutBor S
source_of reader = reader.source

-- the bytes that it holds
abbrev pub held : {S : Type 0} {g : Ghosts S} → LineReader S g → List ℕ
held reader = take (reader.end - reader.start) (drop reader.start reader.buffer)

-- the bytes that no line has, where its source tells what it has left
abbrev pub waiting : {S : Type 0} {g : Ghosts S} → (S → Option (List ℕ))
    → LineReader S g → Option (List ℕ)
waiting left reader = in_front (held reader) (left reader.source.now)

-- how many bytes of its buffer stand before those that it holds
abbrev pub passed : {S : Type 0} {g : Ghosts S} → LineReader S g → ℕ
passed reader = reader.start

-- the line that it cut last: so many of those bytes are the line and its line feed, or, of none,
-- the line is the copy
abbrev pub line_at : {S : Type 0} {g : Ghosts S} → LineReader S g → ℕ → List ℕ → List ℕ
line_at reader lent copy =
    if lent == 0 then copy else take (lent - 1) (drop (reader.start - lent) reader.buffer)
