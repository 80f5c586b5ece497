-- Bytes that are taken piece after piece.
use Rattle.std.proofs.Common.{◌≡◌, ◌++◌, ℕ, Bool, false, List, Option, None, Some, ap, ◌∙◌, sym, subst, append-nil}
use Rattle.std.proofs.KnownBytes.{Consumes-trans, Consumes-nil}
use Rattle.std.specs.Io.KnownBytes.{Consumes, IsAtEnd}
use Rattle.ace_tool.specs.ListTexts.{IsWhole, TakesSome}

-- one more piece
pub takes_more : (first left left' : Option (List ℕ)) (before after : List ℕ) (some : Bool) → Consumes first left before
    → TakesSome left left' before after some → Consumes first left' after
takes_more first left left' before after some so_far takes =
    subst (Consumes first left') (sym takes.grown) (Consumes-trans first left left' before takes.more so_far takes.taken)

-- what was taken is all, where nothing is left
all_taken : (first left : Option (List ℕ)) (bytes : List ℕ) → Consumes first left bytes → IsAtEnd left → IsWhole first bytes
all_taken None left bytes taken end = tt
all_taken (Some told) None bytes taken end = absurd taken
all_taken (Some told) (Some rest) bytes taken end = taken ∙ ap (λ r. bytes ++ r) end ∙ append-nil bytes

-- there were no more
pub takes_all : (first left left' : Option (List ℕ)) (before after : List ℕ) (some : Bool) → Consumes first left before
    → TakesSome left left' before after some → some ≡ false → IsWhole first after
takes_all first left left' before after some so_far takes none =
    all_taken first left' after (takes_more first left left' before after some so_far takes) (takes.end none)

pub ruleset taking = (Consumes-nil, takes_more, takes_all)
