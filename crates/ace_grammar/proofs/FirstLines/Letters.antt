-- The port letters of a header.
use Rattle.std.proofs.Common.{◌≡◌, ◌≢◌, ℕ, zero, suc, ◌+◌, ◌*◌, ◌/◌, ◌^◌, ◌<◌, ◌≤◌, Bool, true, false, cond, eqb, List, [], ◌∷◌, length, get_or, map, refl, sym, ap, subst, ◌∙◌, arith, inl, inr, ◌⊎◌}
use Rattle.std.specs.List.{count_by, range_with_len}
use Rattle.std.specs.Int.{bit_at}
use Rattle.std.proofs.Math.Nat.{pow-suc}
use Rattle.std.proofs.lemmas.Nat.Bits.{bit_at-lt, bit_at_lowest, bit_at-suc, same_from_bits_below}
use Rattle.std.proofs.lemmas.Bool.Decides.{eqb_tells}
use Rattle.std.proofs.lemmas.List.FromFn.{fill_by_all, length-map-range_with_len, get_or-map-range_with_len}
use Rattle.std.proofs.lemmas.List.Sums.{sum_by-cons}
use Rattle.ace_event.specs.declared.header.Header.{Header}
use Rattle.ace_event.specs.Ports.{IsHeader, port_letter, port_letters, most_letters}
use Rattle.ace_grammar.specs.Reading.{IsReadableHeader, IsVersion}
use Rattle.ace_grammar.specs.Letters.{ArePortLetters, ace_bits}
use Rattle.ace_grammar.proofs.General.Visible.{IsClean}

-- 1 for the letter, and 0 for another one
abbrev is_ace : ℕ → ℕ
is_ace letter = cond (eqb letter 65) 1 0

abbrev is_lite : ℕ → ℕ
is_lite letter = cond (eqb letter 76) 1 0

abbrev aces : List ℕ → ℕ
aces letters = count_by (λ letter. eqb letter 65) letters

abbrev lites : List ℕ → ℕ
lites letters = count_by (λ letter. eqb letter 76) letters

aces-cons : (x : ℕ) (xs : List ℕ) → aces (x ∷ xs) ≡ is_ace x + aces xs
aces-cons x xs = sum_by-cons is_ace x xs

lites-cons : (x : ℕ) (xs : List ℕ) → lites (x ∷ xs) ≡ is_lite x + lites xs
lites-cons x xs = sum_by-cons is_lite x xs

kind_of_letter : (x : ℕ) → ((x ≡ 65) × (is_ace x ≡ 1) × (is_lite x ≡ 0)) ⊎ (((x ≡ 76) × (is_ace x ≡ 0) × (is_lite x ≡ 1)) ⊎ ((is_ace x ≡ 0) × (is_lite x ≡ 0)))
kind_of_letter x =
    elim (eqb_tells x 65) [
      | inl p ↦ inl (p.1, ap (λ b. cond b 1 0) p.0, ap is_lite p.1)
      | inr q ↦
          elim (eqb_tells x 76) [
            | inl p ↦ inr (inl (p.1, ap (λ b. cond b 1 0) q.0, ap (λ b. cond b 1 0) p.0))
            | inr p ↦ inr (inr (ap (λ b. cond b 1 0) q.0, ap (λ b. cond b 1 0) p.0))
          ]
    ]

at_most_one : (x : ℕ) → is_ace x + is_lite x ≤ 1
at_most_one x = elim (kind_of_letter x) [ inl p ↦ omega (arith, p.1, p.2) | inr q ↦ elim q [ inl p ↦ omega (arith, p.1, p.2) | inr p ↦ omega (arith, p.0, p.1) ] ]

known-le-length : (letters : List ℕ) → aces letters + lites letters ≤ length letters
known-le-length [] = omega arith
known-le-length (x ∷ xs) = omega (arith, aces-cons x xs, lites-cons x xs, at_most_one x, known-le-length xs)

-- ---- the letters of ports

abbrev letter_of : Bool → ℕ
letter_of b = cond b 65 76

letter_of_bit : (b : Bool) → (is_ace (letter_of b) + is_lite (letter_of b) ≡ 1) × (letter_of b ≢ 10)
letter_of_bit true = (refl, λ e. absurd (omega (arith, e)))
letter_of_bit false = (refl, λ e. absurd (omega (arith, e)))

all_known : (ace : ℕ) (places : List ℕ) → aces (map (port_letter ace) places) + lites (map (port_letter ace) places) ≡ length (map (port_letter ace) places)
all_known ace [] = refl
all_known ace (p ∷ places) =
    let letters = map (port_letter ace) places in
    omega (arith, aces-cons (port_letter ace p) letters, lites-cons (port_letter ace p) letters, (letter_of_bit (eqb (bit_at ace p) 1)).0, all_known ace places)

pub letters-clean : (ace : ℕ) (places : List ℕ) → IsClean (map (port_letter ace) places)
letters-clean ace [] = tt
letters-clean ace (p ∷ places) = ((letter_of_bit (eqb (bit_at ace p) 1)).1, letters-clean ace places)

pub letters-length : (header : Header) → length (port_letters header) ≡ header.ports
letters-length header = length-map-range_with_len (port_letter header.ace) 0 header.ports

pub readable_are_letters : (header : Header) → IsReadableHeader header → ArePortLetters (most_letters header.version) (port_letters header)
readable_are_letters header h =
    (omega (arith, h.some_port, letters-length header), h.most_ace, h.most_lite, all_known header.ace (range_with_len 0 header.ports))

pub no_letters : (version : ℕ) (letters : List ℕ) → (ArePortLetters (most_letters version) letters → ⊥)
    → (header : Header) → IsReadableHeader header → header.version ≡ version → port_letters header ≢ letters
no_letters version letters not header h of same =
    not (subst (λ v. ArePortLetters (most_letters v) letters) of (subst (ArePortLetters (most_letters header.version)) same (readable_are_letters header h)))

-- ---- the header of letters

-- letters that are known, one by one
abbrev AreKnown : List ℕ → Type 0
AreKnown letters = aces letters + lites letters ≡ length letters

first_known : (x : ℕ) (xs : List ℕ) → AreKnown (x ∷ xs) → (((x ≡ 65) × (is_ace x ≡ 1)) ⊎ ((x ≡ 76) × (is_ace x ≡ 0))) × AreKnown xs
first_known x xs all =
    let sums : is_ace x + is_lite x + (aces xs + lites xs) ≡ suc (length xs) = omega (arith, aces-cons x xs, lites-cons x xs, all) in
    let most = known-le-length xs in
    elim (kind_of_letter x) [
      | inl p ↦ (inl (p.0, p.1), omega (arith, sums, p.1, p.2))
      | inr q ↦
          elim q [
            | inl p ↦ (inr (p.0, p.1), omega (arith, sums, p.1, p.2))
            | inr p ↦ absurd (omega (arith, sums, p.0, p.1, most))
          ]
    ]

pub bits_below : (letters : List ℕ) → ace_bits letters < 2 ^ length letters
unfolding ace_bits
bits_below [] = omega arith
bits_below (x ∷ xs) = rw pow-suc (omega (arith, bits_below xs, at_most_one x))

letter_of_digit : (x digit : ℕ) → ((x ≡ 65) × (digit ≡ 1)) ⊎ ((x ≡ 76) × (digit ≡ 0)) → x ≡ cond (eqb digit 1) 65 76
letter_of_digit x digit (inl p) = p.0 ∙ ap (λ d. cond (eqb d 1) 65 76) (sym p.1)
letter_of_digit x digit (inr p) = p.0 ∙ ap (λ d. cond (eqb d 1) 65 76) (sym p.1)

lowest_bit : (digit bits : ℕ) → digit ≤ 1 → bit_at (digit + 2 * bits) 0 ≡ digit
lowest_bit digit bits h = bit_at_lowest (digit + 2 * bits) ∙ omega (arith, h)

next_bit : (digit bits p : ℕ) → digit ≤ 1 → bit_at (digit + 2 * bits) (suc p) ≡ bit_at bits p
next_bit digit bits p h =
    let half : (digit + 2 * bits) / 2 ≡ bits = omega (arith, h) in
    bit_at-suc (digit + 2 * bits) p ∙ ap (λ n. bit_at n p) half

letter_is : (letters : List ℕ) (p : ℕ) → AreKnown letters → p < length letters → get_or letters p 0 ≡ port_letter (ace_bits letters) p
unfolding ace_bits
letter_is [] p all h = absurd (omega (arith, h))
letter_is (x ∷ xs) zero all h =
    letter_of_digit x (is_ace x) (first_known x xs all).0
    ∙ ap (λ d. cond (eqb d 1) 65 76) (sym (lowest_bit (is_ace x) (ace_bits xs) (omega (arith, at_most_one x))))
letter_is (x ∷ xs) (suc p) all h =
    letter_is xs p (first_known x xs all).1 (omega (arith, h))
    ∙ ap (λ d. cond (eqb d 1) 65 76) (sym (next_bit (is_ace x) (ace_bits xs) p (omega (arith, at_most_one x))))

-- the header of a version with these letters
abbrev pub header_of : ℕ → List ℕ → Header
header_of version letters = record { version = version; ports = length letters; ace = ace_bits letters }

written_again : (version : ℕ) (letters : List ℕ) → AreKnown letters → port_letters (header_of version letters) ≡ letters
written_again version letters all = sym (fill_by_all (port_letter (ace_bits letters)) letters (length letters) 0 refl (λ p lt. letter_is letters p all lt))

most_by : (one : Bool) → cond one 8 16 ≤ 16
most_by true = omega arith
most_by false = omega arith

pub made_letters : (version : ℕ) (letters : List ℕ) → IsVersion version → ArePortLetters (most_letters version) letters
    → IsReadableHeader (header_of version letters) × (port_letters (header_of version letters) ≡ letters)
made_letters version letters is h =
    let written = written_again version letters h.3 in
    let header : IsHeader (header_of version letters) = record {
      version = is;
      some_port = h.0;
      most_ports = omega (arith, h.1, h.2, h.3, most_by (eqb version 1));
      most_ace = rw written h.1;
      most_lite = rw written h.2;
      no_other = bits_below letters;
    } in
    (header, written)

-- ---- headers with the same letters

digit_of_letter : (a b : ℕ) → a < 2 → b < 2 → letter_of (eqb a 1) ≡ letter_of (eqb b 1) → a ≡ b
digit_of_letter zero zero h k e = refl
digit_of_letter zero (suc zero) h k e = absurd (omega (arith, e))
digit_of_letter (suc zero) zero h k e = absurd (omega (arith, e))
digit_of_letter (suc zero) (suc zero) h k e = refl
digit_of_letter (suc (suc a)) b h k e = absurd (omega (arith, h))
digit_of_letter a (suc (suc b)) h k e = absurd (omega (arith, k))

letter_at_place : (header : Header) (p : ℕ) → p < header.ports → get_or (port_letters header) p 0 ≡ port_letter header.ace p
letter_at_place header p h = get_or-map-range_with_len (port_letter header.ace) 0 header.ports p p 0 h (omega arith)

pub same_header : (one other : Header) → one.version ≡ other.version → IsReadableHeader one → IsReadableHeader other → port_letters one ≡ port_letters other → one ≡ other
same_header one other version h k same =
    let size : one.ports ≡ other.ports = sym (letters-length one) ∙ ap length same ∙ letters-length other in
    let bits : one.ace ≡ other.ace =
    same_from_bits_below one.ports one.ace other.ace h.no_other (rw size k.no_other)
    (λ p lt.
    let letters = sym (letter_at_place one p lt) ∙ ap (λ (l : List ℕ). get_or l p 0) same ∙ letter_at_place other p (omega (arith, lt, size)) in
    digit_of_letter (bit_at one.ace p) (bit_at other.ace p) (bit_at-lt one.ace p) (bit_at-lt other.ace p) letters) in
    ap (λ v. record { version = v; ports = one.ports; ace = one.ace }) version
    ∙ ap (λ p. record { version = other.version; ports = p; ace = one.ace }) size
    ∙ ap (λ a. record { version = other.version; ports = other.ports; ace = a }) bits
