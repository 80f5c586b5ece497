-- When a source or a sink may answer that it failed, and what it did to the bytes that are known of
-- it.
use Rattle.std.specs.Prelude.{◌≡◌, ◌<◌, ◌≤◌, ◌+◌, ◌-◌, ◌^◌, ℕ, Option, List, Result, take, length, min, OnOk, IfOk, OnErr}
use Rattle.std.specs.Io.KnownBytes.{Consumes, Appends, Keeps, IsAtEnd}

-- a count of faults went up, unless it stood at its last value
abbrev pub Rose : ℕ → ℕ → Type 0
Rose before now = before < 2 ^ 64 - 1 → before < now

-- one more, up to the last number of 64 bits
abbrev pub raised : ℕ → ℕ
raised count = min (count + 1) (2 ^ 64 - 1)

-- A count of faults never falls, and rises exactly in the calls that fail, or stands at its last
-- value.
pub record HasCause {T E : Type 0} (before now : ℕ) (result : Result T E) : Type 0 where
  pub later : before ≤ now
  pub steady : OnOk result (now ≡ before)
  pub failed : OnErr result (Rose before now)

-- At `Ok(n)` the first n of the bytes that are left were moved into the buffer, none only at the
-- end. At `Err` the bytes that are left stay.
pub record Takes {E : Type 0} (old new : Option (List ℕ)) (result : Result ℕ E)
    (buffer : List ℕ) : Type 0 where
  pub fits : IfOk result (λ n. n ≤ length buffer)
  pub moved : IfOk result (λ n. Consumes old new (take n buffer))
  pub end : IfOk result (λ n. n ≡ 0 → IsAtEnd new)
  pub err : OnErr result (Keeps old new)

-- At `Ok(n)` the first n bytes of the piece were appended, at least one where the piece has one. At
-- `Err` nothing was.
pub record Gives {E : Type 0} (old new : Option (List ℕ)) (result : Result ℕ E)
    (piece : List ℕ) : Type 0 where
  pub fits : IfOk result (λ n. n ≤ length piece)
  pub some : IfOk result (λ n. 0 < length piece → 0 < n)
  pub moved : IfOk result (λ n. Appends old new (take n piece))
  pub err : OnErr result (Keeps old new)
