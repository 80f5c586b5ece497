-- What is told of the bytes of a source, of which the first are looked at before.
use Rattle.std.proofs.Common.{◌≡◌, ◌<◌, ◌≤◌, ◌++◌, ℕ, List, [], Option, None, Some, IfSome, length, take, refl, arith, ap, ◌∙◌, sym, subst, append-nil, inl, inr}
use Rattle.std.proofs.lemmas.Bool.{cases_lt}
use Rattle.std.proofs.lemmas.List.{take-append-le}
use Rattle.std.specs.Io.KnownBytes.{Consumes, IsAtEnd}
use Rattle.ace_io.specs.Line.{in_front}
use Rattle.ace_verdict.specs.Ended.{IsOutstanding}
use Rattle.ace_verdict.specs.Verdict.{IsVerdictWithin}
use Rattle.ace_verdict.specs.declared.limits.Limits.{Limits}
use Rattle.ace_verdict.specs.declared.verdict.Verdict.{Verdict}
use Rattle.ace_verdict.specs.declared.verdict.Verdict.TheVariants.{ReadFault}
use Rattle.ace_tool.specs.Checked.{IsRead}
use Rattle.ace_tool.specs.Packing.{packing_of}
use Rattle.ace_tool.specs.declared.packing.Packing.{Packing}
use Rattle.ace_tool.specs.declared.report.Report.TheVariants.{Told, Compressed}

-- the first bytes are those of the whole, where they are enough or all
same_front : (front rest : List ℕ) (n : ℕ) → n ≤ 4 → (length front < 4 → rest ≡ []) → take n (front ++ rest) ≡ take n front
same_front front rest n few whole = elim (cases_lt (length front) 4) [
  | inl short ↦ ap (λ t. take n (front ++ t)) (whole short) ∙ ap (take n) (append-nil front)
  | inr long ↦ take-append-le n front rest (omega arith)
]

pub same_packing : (front rest : List ℕ) → (length front < 4 → rest ≡ []) → packing_of (front ++ rest) ≡ packing_of front
same_packing front rest whole =
    rw (same_front front rest 2 (omega arith) whole, same_front front rest 4 (omega arith) whole, same_front front rest 3 (omega arith) whole) refl

-- the front tells how the bytes are compressed
pub reads_packing : (old new : Option (List ℕ)) (front : List ℕ) (packing : Option Packing) → Consumes old new front
    → (length front < 4 → IsAtEnd new) → packing ≡ packing_of front → IfSome old (λ bytes. packing_of bytes ≡ packing)
reads_packing None new front packing taken whole is = tt
reads_packing (Some bytes) None front packing taken whole is = absurd taken
reads_packing (Some bytes) (Some rest) front packing taken whole is = ap packing_of taken ∙ same_packing front rest whole ∙ sym is

pub reads_compressed : (limits : Limits) (old new : Option (List ℕ)) (front : List ℕ) (packing : Packing) → Consumes old new front
    → (length front < 4 → IsAtEnd new) → Some packing ≡ packing_of front → IfSome old (λ bytes. IsRead limits bytes (Compressed packing))
reads_compressed limits None new front packing taken whole is = tt
reads_compressed limits (Some bytes) new front packing taken whole is = reads_packing (Some bytes) new front (Some packing) taken whole is

-- the verdict is that on all of the bytes
pub reads_verdict : (limits : Limits) (old new : Option (List ℕ)) (front : List ℕ) (verdict : Verdict) (outstanding : ℕ) → Consumes old new front
    → (length front < 4 → IsAtEnd new) → None ≡ packing_of front → IfSome (in_front front new) (λ bytes. IsVerdictWithin limits bytes verdict)
    → IfSome (in_front front new) (λ bytes. IsOutstanding bytes verdict outstanding)
    → IfSome old (λ bytes. IsRead limits bytes (Told verdict outstanding))
reads_verdict limits None new front verdict outstanding taken whole is told left = tt
reads_verdict limits (Some bytes) None front verdict outstanding taken whole is told left = absurd taken
reads_verdict limits (Some bytes) (Some rest) front verdict outstanding taken whole is told left = (
  subst (λ b. IsVerdictWithin limits b verdict) (sym taken) told,
  subst (λ b. IsOutstanding b verdict outstanding) (sym taken) left,
  λ due. reads_packing (Some bytes) (Some rest) front None taken whole is,
)

-- nothing more is known where the source failed
pub reads_fault : (limits : Limits) (old : Option (List ℕ)) → IfSome old (λ bytes. IsRead limits bytes (Told ReadFault 0))
reads_fault limits None = tt
reads_fault limits (Some bytes) = (tt, refl, λ due. absurd due)

pub ruleset reading = (reads_compressed, reads_verdict, reads_fault)
