-- Where a word that came stands: what has it now.
use Rattle.std.specs.Prelude.{◌≡◌, ◌<◌, ℕ, Bool, true, not, Option, Some, None}
use Rattle.ace_belongs.specs.Belongs.{event_line}
use Rattle.ace_clauses.specs.declared.letters.Letter.{Letter}
use Rattle.ace_event.specs.declared.event.Event.{Event}
use Rattle.ace_event.specs.declared.header.Header.{Header}
use Rattle.ace_model.specs.Copies.{copy_of, memory_of, word_of}
use Rattle.ace_model.specs.States.{state_of}
use Rattle.ace_model.specs.Trace.{Trace}
use Rattle.ace_origins.specs.Words.{wrong_word}
use Rattle.ace_origins.specs.declared.origins.Holder.{Holder}
use Rattle.ace_origins.specs.declared.origins.Holder.TheVariants.{Memory, Copy}
use Rattle.ace_origins.specs.declared.origins.Origin.{Origin}
use Rattle.ace_origins.specs.declared.origins.Origin.TheVariants.{Same, Zeros, OtherWord, OtherLine, Nowhere}
use Rattle.ace_origins.specs.declared.origins.SentWord.{SentWord}
use Rattle.ace_since.specs.Places.{memory_since}
use Rattle.ace_tables.specs.States.{is_invalid}

-- memory has the word as word k of the line; the port's copy has it: of zeros, with which copies
-- begin, only that of a port that holds the line
abbrev pub IsInMemory : Trace → ℕ → ℕ → ℕ → Type 0
IsInMemory past l k w = word_of (memory_of past l) k ≡ w

abbrev pub is_held : Header → Trace → ℕ → ℕ → Bool
is_held h past p l = not (is_invalid (state_of h past p l))

abbrev pub IsInCopy : Header → Trace → ℕ → ℕ → ℕ → ℕ → Type 0
IsInCopy h past l k w p =
    (word_of (copy_of past p l) k ≡ w) × (w ≡ 0 → is_held h past p l ≡ true)

-- the first of memory and of the ports by their numbers that has it there: memory with since when,
-- a port with whether it holds the line
abbrev pub IsHolder : Header → Trace → ℕ → ℕ → ℕ → Holder → Type 0
IsHolder h past l k w (Memory since) = IsInMemory past l k w × (since ≡ memory_since past l)
IsHolder h past l k w (Copy p held) =
    IsInCopy h past l k w p × (held ≡ is_held h past p l)
    × (IsInMemory past l k w → ⊥) × ((q : ℕ) → q < p → IsInCopy h past l k w q → ⊥)

-- neither memory nor a port has it there, and so of each word of the line
abbrev pub IsNotThere : Header → Trace → ℕ → ℕ → ℕ → Type 0
IsNotThere h past l k w =
    (IsInMemory past l k w → ⊥) × ((p : ℕ) → p < 32 → IsInCopy h past l k w p → ⊥)

abbrev pub IsNotOn : Header → Trace → ℕ → ℕ → Type 0
IsNotOn h past l w = (k : ℕ) → k < 4 → IsNotThere h past l k w

-- word k is the first of the line that is there, and this has it
abbrev pub IsFirstWord : Header → Trace → ℕ → ℕ → ℕ → Holder → Type 0
IsFirstWord h past l w k x =
    IsHolder h past l k w x × ((j : ℕ) → j < k → IsNotThere h past l j w)

-- The word that came as word k of the line is found there; or it is 0, and isn't found there; or
-- it is found as another word of the line, the first that is it; or on another line, the one with
-- the least address that has it; or nowhere. Zeros are looked for there alone, as they are
-- everywhere.
abbrev pub IsOrigin : Header → Trace → ℕ → ℕ → ℕ → Origin → Type 0
IsOrigin h past l k w (Same x) = IsHolder h past l k w x
IsOrigin h past l k w Zeros = (w ≡ 0) × IsNotThere h past l k w
IsOrigin h past l k w (OtherWord j x) =
    (w ≡ 0 → ⊥) × IsNotThere h past l k w × IsFirstWord h past l w j x
IsOrigin h past l k w (OtherLine q j x) =
    (w ≡ 0 → ⊥) × IsNotOn h past l w × IsFirstWord h past q w j x
    × ((r : ℕ) → r < q → IsNotOn h past r w)
IsOrigin h past l k w Nowhere = (w ≡ 0 → ⊥) × ((q : ℕ) → IsNotOn h past q w)

-- of the word that came on the line, where both are known
abbrev pub IsOriginIn : Header → Trace → Option ℕ → Option SentWord → Option Origin → Type 0
IsOriginIn h past (Some l) (Some s) (Some o) = IsOrigin h past l s.number s.word o
IsOriginIn h past (Some l) (Some s) None = ⊥
IsOriginIn h past _ _ o = o ≡ None

-- of the word that the event brings, where the clause of rule k asks for another one
abbrev pub IsOriginOf : Header → Trace → Event → ℕ → Letter → Option Origin → Type 0
IsOriginOf h past e k c o = IsOriginIn h past (event_line h past e) (wrong_word h past e k c) o
