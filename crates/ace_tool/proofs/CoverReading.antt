-- What is told and counted of the bytes of a source, of which the first are looked at before.
use Rattle.std.proofs.Common.{◌≡◌, ◌<◌, ◌++◌, ℕ, List, Option, None, Some, IfSome, length, subst, sym}
use Rattle.std.specs.Io.KnownBytes.{Consumes, IsAtEnd}
use Rattle.ace_cover.specs.Counts.{AreCounts}
use Rattle.ace_io.specs.Line.{in_front}
use Rattle.ace_points.specs.Points.{all_points}
use Rattle.ace_points.specs.declared.point.Point.{Point}
use Rattle.ace_verdict.specs.Verdict.{IsVerdictWithin}
use Rattle.ace_verdict.specs.declared.verdict.Verdict.{Verdict}
use Rattle.ace_verdict.specs.declared.verdict.Verdict.TheVariants.{ReadFault}
use Rattle.ace_tool.specs.Covered.{IsCountedIn}
use Rattle.ace_tool.specs.Explaining.{no_limits}
use Rattle.ace_tool.specs.Packing.{packing_of}
use Rattle.ace_tool.specs.declared.packing.Packing.{Packing}
use Rattle.ace_tool.specs.declared.report.Report.TheVariants.{Told, Compressed}
use Rattle.ace_tool.proofs.Reading.{reads_packing}

pub counts_compressed : (old new : Option (List ℕ)) (front hits : List ℕ) (packing : Packing) → Consumes old new front
    → (length front < 4 → IsAtEnd new) → Some packing ≡ packing_of front → IfSome old (λ bytes. IsCountedIn bytes (Compressed packing) hits)
counts_compressed None new front hits packing taken whole is = tt
counts_compressed (Some bytes) new front hits packing taken whole is = reads_packing (Some bytes) new front (Some packing) taken whole is

pub counts_verdict : (old new : Option (List ℕ)) (front hits : List ℕ) (points : List Point) (verdict : Verdict) (outstanding : ℕ)
    → points ≡ all_points → Consumes old new front → (length front < 4 → IsAtEnd new) → None ≡ packing_of front
    → IfSome (in_front front new) (λ bytes. IsVerdictWithin no_limits bytes verdict × AreCounts no_limits points bytes hits verdict)
    → IfSome old (λ bytes. IsCountedIn bytes (Told verdict outstanding) hits)
counts_verdict None new front hits points verdict outstanding all taken whole is told = tt
counts_verdict (Some bytes) None front hits points verdict outstanding all taken whole is told = absurd taken
counts_verdict (Some bytes) (Some rest) front hits points verdict outstanding all taken whole is told = (
  subst (λ b. IsVerdictWithin no_limits b verdict) (sym taken) told.0,
  subst (λ b. AreCounts no_limits all_points b hits verdict) (sym taken)
      (subst (λ p. AreCounts no_limits p (front ++ rest) hits verdict) all told.1),
  λ due. reads_packing (Some bytes) (Some rest) front None taken whole is,
)

-- nothing more is known where the source failed
pub counts_fault : (old : Option (List ℕ)) (hits : List ℕ) → IfSome old (λ bytes. IsCountedIn bytes (Told ReadFault 0) hits)
counts_fault None hits = tt
counts_fault (Some bytes) hits = (tt, tt, λ due. absurd due)

pub ruleset counting = (counts_compressed, counts_verdict, counts_fault)
