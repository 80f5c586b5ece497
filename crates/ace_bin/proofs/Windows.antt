-- What a window holds once its source has given more.
use Rattle.std.proofs.Common.{◌≡◌, ℕ, ◌+◌, ◌-◌, ◌≤◌, List, [], ◌++◌, length, take, drop, Option, Some, None, sym, ap, subst, ◌∙◌, arith, append_assoc}
use borrow.Rule.Slice.PartMut.{put_mid}
use Rattle.std.specs.Io.KnownBytes.{Consumes, Keeps}
use Rattle.std.proofs.lemmas.List.{length-take}
use Rattle.std.proofs.lemmas.Slice.{take-put_mid_below}
use Rattle.std.proofs.lemmas.List.{take_at, take-append-le, drop_at}
use Rattle.ace_io.specs.Line.{in_front}
use Rattle.ace_bin.proofs.FieldBytes.{pieces}

-- the front of a buffer behind which a piece was written
pub from_first : (buffer into : List ℕ) (end count room : ℕ) → end ≤ length buffer → count ≤ length into
    → take (end + count) (put_mid end room buffer into) ≡ take end buffer ++ take count into
from_first buffer into end count room within fits =
    let post : List ℕ = drop room (drop end buffer) in
    let len : length (take end buffer) ≡ end = omega (arith, length-take end buffer) in
    sym (pieces end count (put_mid end room buffer into))
    ∙ ap (λ (l : List ℕ). l ++ take count (drop end (put_mid end room buffer into))) (take_at (take end buffer) (into ++ post) end len)
    ∙ ap (λ (l : List ℕ). take end buffer ++ take count l) (drop_at (take end buffer) (into ++ post) end len)
    ∙ ap (λ (l : List ℕ). take end buffer ++ l) (take-append-le count into post fits)

pub more_held : (buffer into : List ℕ) (start end count room : ℕ) → start ≡ 0 → end ≤ length buffer → count ≤ length into
    → take (end + count - start) (drop start (put_mid end room buffer into)) ≡ take (end - start) (drop start buffer) ++ take count into
more_held buffer into start end count room first within fits =
    let less : end + count - 0 ≡ end + count = omega arith in
    let none : end ≡ end - 0 = omega arith in
    let at_first : take (end + count - 0) (put_mid end room buffer into) ≡ take (end - 0) buffer ++ take count into =
    ap (λ n. take n (put_mid end room buffer into)) less ∙ from_first buffer into end count room within fits ∙ ap (λ n. take n buffer ++ take count into) none in
    subst (λ s. take (end + count - s) (drop s (put_mid end room buffer into)) ≡ take (end - s) (drop s buffer) ++ take count into) (sym first) at_first

pub same_held : (buffer into : List ℕ) (start end room : ℕ) → start ≡ 0 → end ≤ length buffer
    → take (end - start) (drop start (put_mid end room buffer into)) ≡ take (end - start) (drop start buffer)
same_held buffer into start end room first within =
    subst (λ s. take (end - s) (drop s (put_mid end room buffer into)) ≡ take (end - s) (drop s buffer)) (sym first)
    (take-put_mid_below end room buffer into (end - 0) (omega arith) within)

in_more : (held piece : List ℕ) (old new : Option (List ℕ)) → Consumes old new piece → Consumes (in_front held old) (in_front (held ++ piece) new) []
in_more held piece None new took = tt
in_more held piece (Some bytes) None took = absurd took
in_more held piece (Some bytes) (Some rest) took = ap (λ (l : List ℕ). held ++ l) took ∙ sym (append_assoc held piece rest)

in_same : (held : List ℕ) (old new : Option (List ℕ)) → Keeps old new → Consumes (in_front held old) (in_front held new) []
in_same held None new kept = tt
in_same held (Some bytes) None kept = absurd kept
in_same held (Some bytes) (Some rest) kept = ap (λ (l : List ℕ). held ++ l) (sym kept)

-- a piece came from the source, and is held
pub more_kept : (old mid new : Option (List ℕ)) (held moved now piece : List ℕ) → mid ≡ old → moved ≡ held → now ≡ moved ++ piece → Consumes mid new piece
    → Consumes (in_front held old) (in_front now new) []
more_kept old mid new held moved now piece source same is took =
    subst (λ (l : List ℕ). Consumes (in_front held old) (in_front l new) []) (sym (is ∙ ap (λ (l : List ℕ). l ++ piece) same))
    (in_more held piece old new (subst (λ (o : Option (List ℕ)). Consumes o new piece) source took))

-- nothing did
pub same_kept : (old mid new : Option (List ℕ)) (held moved now : List ℕ) → mid ≡ old → moved ≡ held → now ≡ moved → Keeps mid new
    → Consumes (in_front held old) (in_front now new) []
same_kept old mid new held moved now source same is kept =
    subst (λ (l : List ℕ). Consumes (in_front held old) (in_front l new) []) (sym (is ∙ same))
    (in_same held old new (subst (λ (o : Option (List ℕ)). Keeps o new) source kept))
