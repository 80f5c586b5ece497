-- The results of traces, each by its path.
use Rattle.std.proofs.Common.{◌≡◌, ℕ, List, [], ◌∷◌, Result, Ok, Err, IfOk, Vec, map, subst}
use Rattle.std.specs.Borrow.{Bor}
use Rattle.std.specs.List.{AllZip}
use Rattle.std.specs.Result.{MatchResult}
use Rattle.std.specs.declared.alloc.Global.{Global}
use Rattle.rayon.proofs.ToStd.{slice-AllZip}

-- what holds of each result that is there, where all are
all_ok : {X Y : Type 0} (E : Type 0) (R : X → Y → Type 0) (xs : List X) (ys : List Y)
    → AllZip (λ x (r : Result Y E). IfOk r (R x)) xs (map Ok ys) → AllZip R xs ys
all_ok E R [] [] h = tt
all_ok E R [] (y ∷ ys) h = absurd h
all_ok E R (x ∷ xs) [] h = absurd h
all_ok E R (x ∷ xs) (y ∷ ys) h = (h.0, all_ok E R xs ys h.1)

-- what a run of many threads tells is what may be told of each path
pub told_all : {Y E : Type 0} (tells : List ℕ → Y → Type 0) (paths : List (Bor (List ℕ))) (zs : List (Bor (Bor (List ℕ))))
    (xs : List (Result Y E)) (told : Result (Vec Y Global) E) (Q : E → Type 0) → map (λ z. z.now) zs ≡ paths
    → AllZip (λ z (r : Result Y E). IfOk r (tells z.now.now)) zs xs
    → MatchResult told (λ v. (ys : List Y) × (xs ≡ map Ok ys) × (v.items ≡ ys)) Q
    → IfOk told (λ v. AllZip (λ path y. tells path.now y) paths v.items)
told_all {Y = Y} {E = E} tells paths zs xs (Ok v) Q shown zipped (ys, all, items) =
    rw items (slice-AllZip zs paths shown (λ path y. tells path.now y) ys
    (all_ok E (λ z y. tells z.now.now y) zs ys (subst (λ rs. AllZip (λ z (r : Result Y E). IfOk r (tells z.now.now)) zs rs) all zipped)))
told_all tells paths zs xs (Err e) Q shown zipped gives = tt
