-- What is found in the bytes of a file, of which the first are looked at before.
use Rattle.std.proofs.Common.{◌≡◌, ◌<◌, ℕ, List, Option, None, Some, IfSome, length, refl, sym, subst}
use Rattle.std.specs.Io.KnownBytes.{Consumes, IsAtEnd}
use Rattle.ace_explanation.specs.Explanations.{IsExplanationWithin, IsOther, ShowsPlace, outstanding_in, verdict_of}
use Rattle.ace_explanation.specs.declared.explanation.Explanation.{Explanation}
use Rattle.ace_explanation.specs.declared.explanation.Explanation.TheVariants.{Refused, Malformed, Accepted, Other}
use Rattle.ace_io.specs.Line.{in_front}
use Rattle.ace_verdict.specs.declared.limits.Limits.{Limits}
use Rattle.ace_verdict.specs.Ended.{IsOutstanding}
use Rattle.ace_verdict.specs.declared.verdict.Verdict.{Verdict}
use Rattle.ace_verdict.specs.declared.verdict.Verdict.TheVariants as verdict
use Rattle.ace_tool.specs.Checked.{IsOpened}
use Rattle.ace_tool.specs.Packing.{packing_of}
use Rattle.ace_tool.specs.Examined.{IsFoundFile, IsFoundWithin, report_of}
use Rattle.ace_tool.specs.declared.finding.Finding.{Finding}
use Rattle.ace_tool.specs.declared.finding.Finding.TheVariants.{Explained, Shut, Compressed}
use Rattle.ace_tool.specs.declared.packing.Packing.{Packing}
use Rattle.ace_tool.proofs.Reading.{reads_packing}

-- how they are compressed
pub finds_compressed : (limits : Limits) (old new : Option (List ℕ)) (front : List ℕ) (packing : Packing) → Consumes old new front
    → (length front < 4 → IsAtEnd new) → Some packing ≡ packing_of front
    → IfSome old (λ bytes. IsFoundWithin limits bytes (Compressed packing))
finds_compressed limits None new front packing taken whole is = tt
finds_compressed limits (Some bytes) new front packing taken whole is = reads_packing (Some bytes) new front (Some packing) taken whole is

-- the explanation is that of all of the bytes
pub finds_explanation : (limits : Limits) (old new : Option (List ℕ)) (front : List ℕ) (x : Explanation) → Consumes old new front
    → (length front < 4 → IsAtEnd new) → None ≡ packing_of front → IfSome (in_front front new) (λ bytes. IsExplanationWithin limits bytes x)
    → IfSome old (λ bytes. IsFoundWithin limits bytes (Explained x))
finds_explanation limits None new front x taken whole is told = tt
finds_explanation limits (Some bytes) None front x taken whole is told = absurd taken
finds_explanation limits (Some bytes) (Some rest) front x taken whole is told =
    (subst (λ b. IsExplanationWithin limits b x) (sym taken) told, λ due. reads_packing (Some bytes) (Some rest) front None taken whole is)

-- nothing more is known where the source failed
pub finds_fault : (limits : Limits) (old : Option (List ℕ)) → IfSome old (λ bytes. IsFoundWithin limits bytes (Explained (Other verdict.ReadFault)))
finds_fault limits None = tt
finds_fault limits (Some bytes) = ((tt, tt), λ due. absurd due)

-- what is found in a file that was opened
pub finds_open : (limits : Limits) (told : Option (List ℕ)) (found : Finding) → IfSome told (λ bytes. IsFoundWithin limits bytes found)
    → IsFoundFile limits told found
finds_open limits told (Explained x) found = found
finds_open limits told (Shut error) found = tt
finds_open limits told (Compressed packing) found = found

pub ruleset examining = (finds_compressed, finds_explanation, finds_fault, finds_open)

-- what is outstanding is what `check` tells
other_outstanding : (bytes : List ℕ) (v : Verdict) → IsOther v → IsOutstanding bytes v 0
other_outstanding bytes (verdict.Accepted events) other = absurd other
other_outstanding bytes (verdict.Refused index rule) other = refl
other_outstanding bytes (verdict.Malformed line reason) other = refl
other_outstanding bytes verdict.ReadFault other = refl
other_outstanding bytes verdict.LimitEvents other = refl
other_outstanding bytes verdict.LimitLines other = refl
other_outstanding bytes verdict.NoMemory other = refl

explained_outstanding : (bytes : List ℕ) (x : Explanation) → ShowsPlace bytes x → IsOutstanding bytes (verdict_of x) (outstanding_in x)
explained_outstanding bytes (Refused r) shown = refl
explained_outstanding bytes (Malformed b) shown = refl
explained_outstanding bytes (Accepted events outstanding) shown = shown
explained_outstanding bytes (Other v) shown = other_outstanding bytes v shown

-- what is found is what `check` tells
pub opened : (limits : Limits) (told : Option (List ℕ)) (found : Finding) → IsFoundFile limits told found
    → IsOpened limits told (report_of found)
opened limits told (Shut error) found = tt
opened limits None (Explained x) found = tt
opened limits None (Compressed packing) found = tt
opened limits (Some bytes) (Explained x) found = (found.0.0, explained_outstanding bytes x found.0.1, found.1)
opened limits (Some bytes) (Compressed packing) found = found
