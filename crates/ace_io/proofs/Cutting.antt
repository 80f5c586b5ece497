-- The same bytes are cut in one way. Here l and m are two first lines of them, and r and s what is left after each.
use Rattle.std.proofs.Common.{◌≡◌, ◌≢◌, ℕ, ◌<◌, ◌≤◌, ◌+◌, List, [], ◌∷◌, ◌++◌, length, get_or, drop, Option, None, Some, arith, ap, refl, sym, ◌∙◌, subst}
use Rattle.std.proofs.lemmas.Grind.{common_steps}
use Rattle.std.proofs.lemmas.List.{append_assoc}
use Rattle.std.proofs.lemmas.List.Elements.{All-head, All-tail}
use Rattle.ace_io.specs.Line.{HasNoLf, CutsLine}
use Rattle.ace_io.specs.declared.line_buf.LineEnd.{LineEnd}
use Rattle.ace_io.specs.declared.line_buf.LineEnd.TheVariants.{Whole, NoLf, End}

-- the first byte of bytes without a line feed is none
pub first_byte : (y : ℕ) (m : List ℕ) → HasNoLf (y ∷ m) → y ≢ 10
first_byte y m q = All-head (λ b. b ≢ 10) y m q

-- nor are the others
pub other_bytes : (y : ℕ) (m : List ℕ) → HasNoLf (y ∷ m) → HasNoLf m
other_bytes y m q = All-tail (λ b. b ≢ 10) y m q

-- the first line feed of bytes stands at one place
pub first_lf : (l m r s : List ℕ) → HasNoLf l → HasNoLf m → l ++ 10 ∷ [] ++ r ≡ m ++ 10 ∷ [] ++ s → (l ≡ m) × (r ≡ s)
first_lf [] [] r s p q e = (refl, ap (λ b. drop 1 b) e)
first_lf [] (y ∷ m) r s p q e = absurd (first_byte y m q (sym (ap (λ b. get_or b 0 0) e)))
first_lf (x ∷ l) [] r s p q e = absurd (first_byte x l p (ap (λ b. get_or b 0 0) e))
first_lf (x ∷ l) (y ∷ m) r s p q e =
    let heads : x ≡ y = ap (λ b. get_or b 0 0) e in
    let tails : (l ≡ m) × (r ≡ s) = first_lf l m r s (other_bytes x l p) (other_bytes y m q) (ap (λ b. drop 1 b) e) in
    (grind (arith, heads, tails.0), tails.1)

-- bytes without a line feed don't reach past the first one
pub no_lf-before : (l m r s : List ℕ) → HasNoLf m → length l < length m → l ++ 10 ∷ [] ++ r ≡ m ++ s → ⊥
no_lf-before l [] r s q short e = omega (arith, short)
no_lf-before [] (y ∷ m) r s q short e = first_byte y m q (sym (ap (λ b. get_or b 0 0) e))
no_lf-before (x ∷ l) (y ∷ m) r s q short e = no_lf-before l m r s (other_bytes y m q) (omega (arith, short)) (ap (λ b. drop 1 b) e)

-- two fronts of one length of the same bytes are one
pub same_front : (l m r s : List ℕ) → length l ≡ length m → l ++ r ≡ m ++ s → (l ≡ m) × (r ≡ s)
same_front [] [] r s same e = (refl, e)
same_front [] (y ∷ m) r s same e = absurd (omega (arith, same))
same_front (x ∷ l) [] r s same e = absurd (omega (arith, same))
same_front (x ∷ l) (y ∷ m) r s same e =
    let heads : x ≡ y = ap (λ b. get_or b 0 0) e in
    let tails : (l ≡ m) × (r ≡ s) = same_front l m r s (omega (arith, same)) (ap (λ b. drop 1 b) e) in
    (grind (arith, heads, tails.0), tails.1)

-- a line with its line feed is shorter than a line without one, of the same bytes
shorter : (l m r s : List ℕ) → length l < 256 → (length m < 256 → s ≡ []) → l ++ 10 ∷ [] ++ r ≡ m ++ s → length l < length m
shorter l m r s short end e =
    let lengths : length l + 1 + length r ≡ length m + length s = grind (arith, common_steps, e, ap length e) in
    grind (arith, common_steps, lengths, end)

-- lines without a line feed, of the same bytes, have one length
alike : (l m r s : List ℕ) → length l ≤ 256 → (length l < 256 → r ≡ []) → length m ≤ 256 → (length m < 256 → s ≡ [])
    → l ++ r ≡ m ++ s → length l ≡ length m
alike l m r s bound_l end_l bound_m end_m e =
    let lengths : length l + length r ≡ length m + length s = grind (arith, common_steps, e, ap length e) in
    grind (arith, common_steps, lengths, end_l, end_m)

-- bytes with something in front aren't at their end
some_bytes : (b l m r s : List ℕ) → l ≡ [] → r ≡ [] → b ≡ l ++ r → 0 < length m → b ≡ m ++ s → ⊥
some_bytes b l m r s none end e some f = grind (arith, common_steps, ap length f)

-- cuttings of the same bytes that leave bytes
cuttings : (b l m r s : List ℕ) (e f : LineEnd) → HasNoLf l → CutsLine (Some b) l e (Some r)
    → HasNoLf m → CutsLine (Some b) m f (Some s) → (l ≡ m) × (e ≡ f) × (r ≡ s)
cuttings b l m r s Whole Whole p c q d = let same : (l ≡ m) × (r ≡ s) = first_lf l m r s p q (sym c.1 ∙ d.1) in (same.0, refl, same.1)
cuttings b l m r s Whole NoLf p c q d =
    let e : l ++ 10 ∷ [] ++ r ≡ m ++ s = sym c.1 ∙ d.3 in absurd (no_lf-before l m r s q (shorter l m r s c.0 d.2 e) e)
cuttings b l m r s Whole End p c q d = absurd (some_bytes b m (l ++ 10 ∷ []) s r d.0 d.1 d.2 (grind (arith, common_steps)) c.1)
cuttings b l m r s NoLf Whole p c q d =
    let e : m ++ 10 ∷ [] ++ s ≡ l ++ r = sym d.1 ∙ c.3 in absurd (no_lf-before m l s r p (shorter m l s r d.0 c.2 e) e)
cuttings b l m r s NoLf NoLf p c q d =
    let e : l ++ r ≡ m ++ s = sym c.3 ∙ d.3 in
    let same : (l ≡ m) × (r ≡ s) = same_front l m r s (alike l m r s c.1 c.2 d.1 d.2 e) e in (same.0, refl, same.1)
cuttings b l m r s NoLf End p c q d = absurd (some_bytes b m l s r d.0 d.1 d.2 c.0 c.3)
cuttings b l m r s End Whole p c q d = absurd (some_bytes b l (m ++ 10 ∷ []) r s c.0 c.1 c.2 (grind (arith, common_steps)) d.1)
cuttings b l m r s End NoLf p c q d = absurd (some_bytes b l m r s c.0 c.1 c.2 d.0 d.3)
cuttings b l m r s End End p c q d = (c.0 ∙ sym d.0, refl, c.1 ∙ sym d.1)

-- what is left of bytes that are told is told
rest_told : (b l : List ℕ) (e : LineEnd) (rest : Option (List ℕ)) → CutsLine (Some b) l e rest → (r : List ℕ) × (rest ≡ Some r)
rest_told b l e (Some r) c = (r, refl)
rest_told b l Whole None c = absurd c.1
rest_told b l NoLf None c = absurd c.3
rest_told b l End None c = absurd c.2

-- the same bytes are cut in one way
pub one_cutting : (bytes line1 line2 : List ℕ) (end1 end2 : LineEnd) (rest1 rest2 : Option (List ℕ))
    → HasNoLf line1 → CutsLine (Some bytes) line1 end1 rest1
    → HasNoLf line2 → CutsLine (Some bytes) line2 end2 rest2
    → (line1 ≡ line2) × (end1 ≡ end2) × (rest1 ≡ rest2)
one_cutting b l m e f rest1 rest2 p c q d =
    let told1 : (r : List ℕ) × (rest1 ≡ Some r) = rest_told b l e rest1 c in
    let told2 : (s : List ℕ) × (rest2 ≡ Some s) = rest_told b m f rest2 d in
    let same : (l ≡ m) × (e ≡ f) × (told1.0 ≡ told2.0) =
    cuttings b l m told1.0 told2.0 e f p (subst (λ rest. CutsLine (Some b) l e rest) told1.1 c) q (subst (λ rest. CutsLine (Some b) m f rest) told2.1 d) in
    (same.0, same.1, told1.1 ∙ ap (λ r. Some r) same.2 ∙ sym told2.1)

-- a line of fewer than 256 bytes before its line feed is cut whole
pub whole_line_cut : (line rest cut : List ℕ) (end : LineEnd) (left : Option (List ℕ)) → HasNoLf line → length line < 256
    → HasNoLf cut → CutsLine (Some (line ++ 10 ∷ rest)) cut end left → (cut ≡ line) × (end ≡ Whole) × (left ≡ Some rest)
whole_line_cut line rest cut end left p short q c =
    one_cutting (line ++ 10 ∷ rest) cut line end Whole left (Some rest) q c p (short, sym (append_assoc line (10 ∷ []) rest))
