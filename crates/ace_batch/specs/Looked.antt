-- The traces of a list that are looked at: all of them; or where the call is to end with the first
-- that isn't accepted, that one and those before it.
use Rattle.std.specs.Prelude.{◌≡◌, ⊤, ◌&&◌, Bool, true, false, if◌then◌else◌, not, List, [], ◌∷◌}
use Rattle.ace_batch.specs.Outcomes.{is_accepted}
use Rattle.ace_batch.specs.declared.entry.Entry.{Entry}

-- the call ends with this trace
abbrev pub ends_with : Bool → Entry → Bool
ends_with fail_fast e = fail_fast && not (is_accepted e.outcome)

-- of the results of traces those of the ones that are looked at
abbrev pub looked_at : Bool → List Entry → List Entry
looked_at fail_fast [] = []
looked_at fail_fast (e ∷ entries) =
    e ∷ (if ends_with fail_fast e then [] else looked_at fail_fast entries)

-- Behind a trace come the others, or none of them where the call ends with it.
abbrev pub GoesOn : Bool → List Entry → Type 0 → Type 0
GoesOn true entries others = entries ≡ []
GoesOn false entries others = others

-- These are the results of those of these traces that are looked at, in their order, where this
-- says whether a result is right of a trace.
abbrev pub AreLookedAt : {X : Type 0} → Bool → (X → Entry → Type 0) → List X → List Entry → Type 0
AreLookedAt fail_fast Is [] [] = ⊤
AreLookedAt fail_fast Is [] (e ∷ entries) = ⊥
AreLookedAt fail_fast Is (x ∷ xs) [] = ⊥
AreLookedAt fail_fast Is (x ∷ xs) (e ∷ entries) = Is x e
    × GoesOn (ends_with fail_fast e) entries (AreLookedAt fail_fast Is xs entries)
