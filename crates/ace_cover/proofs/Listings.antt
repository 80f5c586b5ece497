-- The points of a group that were never hit, if there are any.
use Rattle.std.proofs.Common.{◌≡◌, ◌<◌, ◌++◌, ℕ, Bool, List, [], ◌∷◌, length, refl, arith}
use Rattle.ace_cover.specs.Tables.{missing_by, missing_head, missing_lines}
use Rattle.ace_cover.specs.declared.hit.Hit.{Hit}

pub none_missing : (every : Bool) (title : List ℕ) (missing : List Hit) → length missing ≡ 0 → missing_by every title missing ≡ []
none_missing every title [] none = refl
none_missing every title (h ∷ missing) none = absurd (omega (arith, none))

pub some_missing : (every : Bool) (title : List ℕ) (missing : List Hit) → 0 < length missing
    → missing_by every title missing ≡ missing_head title (length missing) ++ missing_lines every missing
some_missing every title [] some = absurd (omega (arith, some))
some_missing every title (h ∷ missing) some = refl

pub ruleset missings = (none_missing, some_missing)
