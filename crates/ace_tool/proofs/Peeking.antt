-- The first bytes of a source.
use Rattle.std.proofs.Common.{◌≡◌, ◌<◌, ◌≤◌, ◌+◌, ◌-◌, ◌++◌, ℕ, List, [], ◌∷◌, Option, None, Some, Result, Ok, length, take, drop, arith, sym, subst}
use Rattle.std.proofs.lemmas.Grind.{common_steps}
use Rattle.std.proofs.lemmas.List.{drop-drop, length-drop, take_all}
use Rattle.std.proofs.KnownBytes.{Consumes-trans, Consumes-nil}
use Rattle.std.specs.Io.KnownBytes.{Consumes}
use Rattle.ace_io.proofs.Held.{passed}
use Rattle.ace_io.specs.Faults.{Takes}
use Rattle.ace_io.specs.Line.{in_front}

pub ruleset peeking = (Consumes-trans, Consumes-nil)

-- all bytes from one on
pub all_from : (bytes : List ℕ) (given : ℕ) → take (length bytes - given) (drop given bytes) ≡ drop given bytes
all_from bytes given = take_all (length bytes - given) (drop given bytes) (omega (arith, length-drop given bytes))

pub ruleset rests = (all_from)

-- what the source gives, where nothing of the front is left
pub from_behind : {E : Type 0} (front : List ℕ) (a b : Option (List ℕ)) (r : Result ℕ E) (into : List ℕ) → length front ≡ 0
    → Takes a b r into → Takes (in_front front a) (in_front front b) r into
from_behind [] None None r into none takes = takes
from_behind [] None (Some y) r into none takes = takes
from_behind [] (Some x) None r into none takes = takes
from_behind [] (Some x) (Some y) r into none takes = takes
from_behind (byte ∷ front) a b r into none takes = absurd (omega (arith, none))

-- the next bytes of the front
pub from_front : {E : Type 0} (front rest into : List ℕ) (given n : ℕ) (a : Option (List ℕ)) → rest ≡ drop given front → 0 < n
    → n ≤ length rest → n ≤ length into
    → Takes {E = E} (in_front (drop given front) a) (in_front (drop (given + n) front) a) (Ok n) (take n rest ++ drop n into)
from_front front rest into given n a is some in_rest in_into =
    let taken : take n (take n rest ++ drop n into) ≡ take n (drop given front) = grind (arith, common_steps) in
    record {
      fits = grind (arith, common_steps);
      moved = subst (Consumes _ _) (sym taken) (passed (drop given front) (drop (given + n) front) n a (drop-drop n given front));
      end = λ none. absurd (omega (arith, none, some));
      err = tt;
    }
