-- What is said where a trace could not be read on.
use Rattle.std.proofs.Common.{ℕ, List, Option, Some, None, IfSome}
use Rattle.ace_explanation.specs.Explanations.{IsOther, ShowsPlace}
use Rattle.ace_explanation.specs.declared.explanation.Explanation.{Explanation}
use Rattle.ace_explanation.specs.declared.explanation.Explanation.TheVariants.{Other}
use Rattle.ace_grammar.specs.Reading.{IfTold}
use Rattle.ace_malformed.specs.Cut.{IsLineOf}
use Rattle.ace_verdict.specs.declared.verdict.Verdict.{Verdict}

pub malformed_place : (told : Option (List ℕ)) (version number : ℕ) (line : List ℕ) (x : Explanation)
    → ((bytes : List ℕ) → IsLineOf bytes version number line → ShowsPlace bytes x) → IfTold told (λ bytes. IsLineOf bytes version number line)
    → IfSome told (λ bytes. ShowsPlace bytes x)
malformed_place None version number line x places shown = tt
malformed_place (Some bytes) version number line x places shown = places bytes shown

pub other_place : (told : Option (List ℕ)) (v : Verdict) → IsOther v → IfSome told (λ bytes. ShowsPlace bytes (Other v))
other_place None v other = tt
other_place (Some bytes) v other = other

pub ruleset unread = (malformed_place, other_place)
