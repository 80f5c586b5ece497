-- What a window holds, and what is left behind it.
use Rattle.std.proofs.Common.{◌≡◌, ◌≢◌, ℕ, ◌<◌, ◌≤◌, List, [], ◌++◌, length, Option, Some, None, refl, sym, ap, subst, ◌∙◌, arith, append-nil, length-append, inl, inr}
use Rattle.std.specs.Io.KnownBytes.{Consumes, IsAtEnd}
use Rattle.std.proofs.KnownBytes.{Consumes-trans}
use Rattle.ace_io.specs.Line.{in_front}
use Rattle.ace_bin.specs.declared.reason.BinReason.{BinReason}
use Rattle.ace_bin.specs.declared.reason.BinReason.TheVariants.{Z1, Z2}
use Rattle.ace_bin.specs.Reading.{IsRightHeader, HasBadHeader, record_reason}
use Rattle.ace_bin.specs.Errors.{IfTold, TakesFront, HoldsNoRecord}
use Rattle.ace_bin.proofs.Headers.{right_stays}
use Rattle.ace_bin.proofs.RecordBytes.{malformed_stays, cut_is_short}

-- what is held was taken from the source
pub held_taken : (old left : Option (List ℕ)) (held : List ℕ) (P : List ℕ → Type 0) → Consumes old (in_front held left) [] → P held → TakesFront old left P
held_taken None left held P c p = (held, tt, p)
held_taken (Some bytes) None held P c p = absurd c
held_taken (Some bytes) (Some rest) held P c p = (held, c, p)

-- the same, with some bytes that were passed before
pub some_taken : (old left : Option (List ℕ)) (held : List ℕ) → Consumes old (in_front held left) [] → TakesFront old left (λ taken. Unit {0})
some_taken old left held c = held_taken old left held (λ taken. Unit {0}) c tt

-- what was told begins with what is held
pub told : (old left : Option (List ℕ)) (held : List ℕ) (P : List ℕ → Type 0) → Consumes old (in_front held left) [] → ((rest : List ℕ) → P (held ++ rest)) → IfTold old P
told None left held P c p = tt
told (Some bytes) None held P c p = absurd c
told (Some bytes) (Some rest) held P c p = subst P (sym c) (p rest)

-- at the end of the input it is what is held
pub told_all : (old left : Option (List ℕ)) (held : List ℕ) (P : List ℕ → Type 0) → Consumes old (in_front held left) [] → IsAtEnd left → P held → IfTold old P
told_all None left held P c end p = tt
told_all (Some bytes) None held P c end p = absurd c
told_all (Some bytes) (Some rest) held P c end p = subst P (sym (c ∙ ap (λ (l : List ℕ). held ++ l) end ∙ append-nil held)) p

-- ---- a header

pub cut_header : (old left : Option (List ℕ)) (held : List ℕ) → Consumes old (in_front held left) [] → IsAtEnd left → length held < 10
    → IfTold old (λ bytes. HasBadHeader bytes 0 Z1)
cut_header old left held c end short = told_all old left held (λ bytes. HasBadHeader bytes 0 Z1) c end (refl, short)

pub wrong_header : (old left : Option (List ℕ)) (held : List ℕ) → Consumes old (in_front held left) [] → 10 ≤ length held → (IsRightHeader held → ⊥)
    → IfTold old (λ bytes. HasBadHeader bytes 0 Z2)
wrong_header old left held c long wrong =
    told old left held (λ bytes. HasBadHeader bytes 0 Z2) c
    (λ rest. (refl, omega (arith, long, length-append held rest), λ right. wrong (right_stays held rest long right)))

-- ---- a record

-- bytes were passed behind none
pub passed : (old mid new : Option (List ℕ)) (text read : List ℕ) → Consumes old mid [] → Consumes mid new text → text ≡ read → Consumes old new read
passed old mid new text read kept took is = subst (Consumes old new) is (Consumes-trans old mid new [] text kept took)

pub malformed : (version : ℕ) (old left : Option (List ℕ)) (held : List ℕ) (reason : BinReason) → Consumes old (in_front held left) []
    → record_reason version held ≡ Some reason → reason ≢ Z1 → IfTold old (λ bytes. record_reason version bytes ≡ Some reason)
malformed version old left held reason c is other =
    told old left held (λ bytes. record_reason version bytes ≡ Some reason) c (λ rest. malformed_stays version held rest reason is other)

pub no_record_is_short : (version : ℕ) (held : List ℕ) → HoldsNoRecord version held → length held < 79
no_record_is_short version held (inl none) = omega (arith, ap length none)
no_record_is_short version held (inr cut) = cut_is_short version held cut
