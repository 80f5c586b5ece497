-- What is cut from a line, against the fields of an operation.
use Rattle.std.proofs.Common.{◌≡◌, ◌≢◌, ℕ, List, [], ◌∷◌, Err, None, refl, sym, ap}
use Rattle.ace_grammar.proofs.Reasons.CutFields.{cut, cut_are_fields}
use Rattle.ace_script.specs.declared.reason.Reason.TheVariants.{P3}
use Rattle.ace_script.specs.Fields.{alone, no_field}

some_first : (l : List (List ℕ)) → l ≢ [] → (first : List ℕ) × (more : List (List ℕ)) × (l ≡ first ∷ more)
some_first [] some = absurd (some refl)
some_first (x ∷ l) some = (x, l, refl)

-- there is always a first field
first_cut : (bytes : List ℕ) → (first : List ℕ) × (more : List (List ℕ)) × (cut bytes ≡ first ∷ more)
first_cut bytes = some_first (cut bytes) (cut_are_fields bytes).some_field

pub no_field_more : (bytes : List ℕ) → no_field (cut bytes) ≡ Err P3
no_field_more bytes = ap no_field (first_cut bytes).2

pub alone_more : (first more : List ℕ) → None ≡ alone (first ∷ cut more)
alone_more first more = sym (ap (λ (l : List (List ℕ)). alone (first ∷ l)) (first_cut more).2)
