-- What a writer has given to its sink, and what it has in hand.
use Rattle.std.specs.Prelude.{◌≡◌, ◌-◌, ◌^◌, ℕ, Bool, false, List, Option, ◌++◌, length, min}
use Rattle.std.specs.Borrow.{MutBor}
use Rattle.std.specs.Io.KnownBytes.{Appends}
use Rattle.ace_bin.specs.declared.writer.BinWriter.{BinWriter}

-- the sink that it gives bytes to
abbrev pub sink_of : {K : Type 0} → BinWriter K → MutBor K
sink_of writer = writer.sink

-- the version of the trace that it writes
abbrev pub version_of : {K : Type 0} → BinWriter K → ℕ
version_of writer = writer.version

-- the bytes that it keeps until there are enough of them
abbrev pub in_hand : {K : Type 0} → BinWriter K → List ℕ
in_hand writer = writer.bytes

-- whether it met a write fault
abbrev pub has_failed : {K : Type 0} → BinWriter K → Bool
has_failed writer = writer.failed

-- how many bytes it says that it gave
abbrev pub given_of : {K : Type 0} → BinWriter K → ℕ
given_of writer = writer.given

-- a number of bytes, up to the last number of 64 bits
abbrev pub counted : ℕ → ℕ
counted bytes = min bytes (2 ^ 64 - 1)

-- A front of the bytes of a trace was given, to a sink that before held these bytes, and `given` is
-- its length. Until a write fault the rest is in hand.
pub record GivesFront {K : Type 0} (held : K → Option (List ℕ)) (before : Option (List ℕ))
    (bytes : List ℕ)
    (writer : BinWriter K) : Type 0 where
  pub front : List ℕ
  pub rest : List ℕ
  pub cut : bytes ≡ front ++ rest
  pub taken : Appends before (held (sink_of writer).now) front
  pub given : given_of writer ≡ counted (length front)
  pub waiting : has_failed writer ≡ false → in_hand writer ≡ rest
