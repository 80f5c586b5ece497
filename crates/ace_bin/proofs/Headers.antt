-- The header of a trace, as it is written and read.
use Rattle.std.proofs.Common.{◌≡◌, ◌↔◌, ℕ, ◌+◌, ◌/◌, ◌%◌, ◌^◌, ◌<◌, ◌≤◌, true, false, cond, eqb, map, List, [], ◌∷◌, ◌++◌, length, take, drop, refl, sym, ap, subst, ◌∙◌, arith, append-nil, inl, inr, ◌⊎◌}
use Rattle.std.specs.Int.{bit_at}
use Rattle.std.specs.List.{count_by, range_with_len}
use Rattle.std.proofs.Math.Nat.{div-lt_iff_lt-mul}
use Rattle.std.specs.Str.{bytes_eq}
use Rattle.std.proofs.lemmas.Bool.{cases_Bool, cases_eq, cases_lt}
use Rattle.std.proofs.lemmas.List.{take_at, append_cancel_left, take-append-le}
use Rattle.std.proofs.lemmas.List.FromFn.{map-range_with_len_more}
use Rattle.std.proofs.lemmas.List.Sums.{sum_by_push}
use Rattle.std.proofs.lemmas.Nat.{pow_below, pow_pos}
use Rattle.std.proofs.lemmas.Slice.Eq.{bytes_eq-Decides}
use Rattle.ace_event.specs.declared.header.Header.{Header}
use Rattle.ace_event.specs.Ports.{IsHeader, port_letter, port_letters, most_letters}
use Rattle.ace_bin.specs.Fields.{Bytes, number_bytes, number_onto, number_at}
use Rattle.ace_bin.specs.Binary.{magic, header_bytes}
use Rattle.ace_bin.specs.Reading.{AreBytes, header_at, IsRightHeader}
use Rattle.ace_bin.proofs.Numbers.{bytes_length, number_again, at_below}
use Rattle.ace_bin.proofs.FieldBytes.{pieces, fields_again, number_stays}

-- ---- written, and then read

version_is : (version ports : ℕ) (rest : List ℕ) → number_at 1 4 (65 ∷ 67 ∷ 69 ∷ 66 ∷ version ∷ ports ∷ rest) ≡ version
unfolding number_at number_onto
version_is version ports rest = omega arith

ports_is : (version ports : ℕ) (rest : List ℕ) → number_at 1 5 (65 ∷ 67 ∷ 69 ∷ 66 ∷ version ∷ ports ∷ rest) ≡ ports
unfolding number_at number_onto
ports_is version ports rest = omega arith

ace_is : (version ports ace : ℕ) (rest : List ℕ) → ace < 2 ^ 32 → number_at 4 6 (65 ∷ 67 ∷ 69 ∷ 66 ∷ version ∷ ports ∷ (number_bytes 4 ace ++ rest)) ≡ ace
unfolding number_at
ace_is version ports ace rest lt = ap (number_onto 0) (take_at (number_bytes 4 ace) rest 4 (bytes_length 4 ace)) ∙ number_again 4 ace lt

ace_below : (header : Header) → IsHeader header → header.ace < 2 ^ 32
ace_below header h =
    elim (cases_eq header.ports 32) [
      | inl is ↦ subst (λ n. header.ace < 2 ^ n) is h.no_other
      | inr other ↦
          let fewer : header.ports < 32 = omega (arith, h.most_ports, other) in
          omega (arith, h.no_other, pow_below header.ports 32 fewer)
    ]

abbrev header_of : ℕ → ℕ → ℕ → Header
header_of version ports ace = record { version = version; ports = ports; ace = ace }

pub header_again : (header : Header) (rest : List ℕ) → IsHeader header → header_at (header_bytes header ++ rest) ≡ header
header_again header rest h =
    let bytes : List ℕ = header_bytes header ++ rest in
    ap (λ v. header_of v (number_at 1 5 bytes) (number_at 4 6 bytes)) (version_is header.version header.ports (number_bytes 4 header.ace ++ rest))
    ∙ ap (λ p. header_of header.version p (number_at 4 6 bytes)) (ports_is header.version header.ports (number_bytes 4 header.ace ++ rest))
    ∙ ap (λ a. header_of header.version header.ports a) (ace_is header.version header.ports header.ace rest (ace_below header h))

pub header_right : (header : Header) (rest : List ℕ) → IsHeader header → IsRightHeader (header_bytes header ++ rest)
header_right header rest h = record { begins = refl; fits = subst IsHeader (sym (header_again header rest h)) h }

pub header_length : (header : Header) → length (header_bytes header) ≡ 10
header_length header = omega (arith, bytes_length 4 header.ace)

-- two headers before some bytes are one
pub same_header : (one other : Header) (rest rest' : List ℕ) → IsHeader one → IsHeader other → header_bytes one ++ rest ≡ header_bytes other ++ rest'
    → (one ≡ other) × (rest ≡ rest')
same_header one other rest rest' h k e =
    let header : one ≡ other = sym (header_again one rest h) ∙ ap header_at e ∙ header_again other rest' k in
    (header, append_cancel_left (header_bytes one) rest rest' (e ∙ ap (λ header. header_bytes header ++ rest') (sym header)))

-- ---- read, and then written

one_byte : (n : ℕ) → n < 256 → number_bytes 1 n ≡ n ∷ []
unfolding number_bytes
one_byte n lt =
    let same : n % 256 ≡ n = omega arith in
    ap (λ m. m ∷ []) same

pub header_is : (bytes : List ℕ) → AreBytes bytes → 10 ≤ length bytes → IsRightHeader bytes → take 10 bytes ≡ header_bytes (header_at bytes)
header_is bytes are le right =
    let version : ℕ = number_at 1 4 bytes in
    let ports : ℕ = number_at 1 5 bytes in
    let last : List ℕ = number_bytes 4 (number_at 4 6 bytes) in
    let read : number_bytes 1 version ++ (number_bytes 1 ports ++ (last ++ [])) ≡ take 6 (drop 4 bytes) = fields_again (Bytes 1 ∷ Bytes 1 ∷ Bytes 4 ∷ []) 4 bytes are (omega (arith, le)) in
    let first : number_bytes 1 version ≡ version ∷ [] = one_byte version (at_below 1 4 bytes are (omega (arith, le))) in
    let second : number_bytes 1 ports ≡ ports ∷ [] = one_byte ports (at_below 1 5 bytes are (omega (arith, le))) in
    let behind : version ∷ ports ∷ last ≡ take 6 (drop 4 bytes) =
    ap (λ (l : List ℕ). version ∷ ports ∷ l) (sym (append-nil last))
    ∙ ap (λ (l : List ℕ). version ∷ (l ++ (last ++ []))) (sym second)
    ∙ ap (λ (l : List ℕ). l ++ (number_bytes 1 ports ++ (last ++ []))) (sym first)
    ∙ read in
    sym (pieces 4 6 bytes) ∙ ap (λ (l : List ℕ). l ++ take 6 (drop 4 bytes)) right.begins ∙ ap (λ (l : List ℕ). magic ++ l) (sym behind)

-- ---- right or not

version_or_not : (version : ℕ) → ((version ≡ 1) ⊎ (version ≡ 2)) ⊎ (((version ≡ 1) ⊎ (version ≡ 2)) → ⊥)
version_or_not version =
    elim (cases_eq version 1) [
      | inl one ↦ inl (inl one)
      | inr not_one ↦
          elim (cases_eq version 2) [
            | inl two ↦ inl (inr two)
            | inr not_two ↦ inr (λ h. elim h [ inl one ↦ not_one one | inr two ↦ not_two two ])
          ]
    ]

fits_or_not : (header : Header) → IsHeader header ⊎ (IsHeader header → ⊥)
fits_or_not header =
    let aces : ℕ = count_by (λ letter. eqb letter 65) (port_letters header) in
    let lites : ℕ = count_by (λ letter. eqb letter 76) (port_letters header) in
    let most : ℕ = most_letters header.version in
    elim (version_or_not header.version) [
      | inr other ↦ inr (λ h. other h.version)
      | inl version ↦
          elim (cases_lt header.ports 1) [
            | inl none ↦ inr (λ h. omega (arith, none, h.some_port))
            | inr some ↦
                elim (cases_lt 32 header.ports) [
                  | inl many ↦ inr (λ h. omega (arith, many, h.most_ports))
                  | inr few ↦
                      elim (cases_lt most aces) [
                        | inl many ↦ inr (λ h. omega (arith, many, h.most_ace))
                        | inr few_ace ↦
                            elim (cases_lt most lites) [
                              | inl many ↦ inr (λ h. omega (arith, many, h.most_lite))
                              | inr few_lite ↦
                                  elim (cases_lt header.ace (2 ^ header.ports)) [
                                    | inr more ↦ inr (λ h. omega (arith, more, h.no_other))
                                    | inl below ↦
                                        inl (record { version = version; some_port = some; most_ports = few; most_ace = few_ace; most_lite = few_lite; no_other = below })
                                  ]
                            ]
                      ]
                ]
          ]
    ]

pub right_or_not : (bytes : List ℕ) → IsRightHeader bytes ⊎ (IsRightHeader bytes → ⊥)
right_or_not bytes =
    elim (cases_Bool (bytes_eq (take 4 bytes) magic)) [
      | inr other ↦
          inr (λ h. let clash : true ≡ false = sym ((bytes_eq-Decides (take 4 bytes) magic).1 h.begins) ∙ other in absurd cc)
      | inl same ↦
          elim (fits_or_not (header_at bytes)) [
            | inl fits ↦ inl (record { begins = (bytes_eq-Decides (take 4 bytes) magic).0 same; fits = fits })
            | inr not ↦ inr (λ h. not h.fits)
          ]
    ]

-- ---- more bytes behind

-- whether a header is right is said by its ten bytes
pub right_stays : (bytes rest : List ℕ) → 10 ≤ length bytes → IsRightHeader (bytes ++ rest) → IsRightHeader bytes
right_stays bytes rest le right =
    let same : header_at (bytes ++ rest) ≡ header_at bytes =
    ap (λ v. header_of v (number_at 1 5 (bytes ++ rest)) (number_at 4 6 (bytes ++ rest))) (number_stays 1 4 bytes rest (omega (arith, le)))
    ∙ ap (λ p. header_of (number_at 1 4 bytes) p (number_at 4 6 (bytes ++ rest))) (number_stays 1 5 bytes rest (omega (arith, le)))
    ∙ ap (λ a. header_of (number_at 1 4 bytes) (number_at 1 5 bytes) a) (number_stays 4 6 bytes rest (omega (arith, le))) in
    record { begins = sym (take-append-le 4 bytes rest (omega (arith, le))) ∙ right.begins; fits = subst IsHeader same right.fits }

-- ---- what the code counts

-- how many of the first ports have this letter
abbrev pub with_letter : ℕ → ℕ → ℕ → ℕ
with_letter letter ace ports = count_by (λ other. eqb other letter) (map (port_letter ace) (range_with_len 0 ports))

one_more : (letter ace port : ℕ) → with_letter letter ace (port + 1) ≡ with_letter letter ace port + cond (eqb (port_letter ace port) letter) 1 0
one_more letter ace port =
    ap (count_by (λ other. eqb other letter)) (map-range_with_len_more (port_letter ace) 0 port port (omega arith))
    ∙ sum_by_push (λ other. cond (eqb other letter) 1 0) (map (port_letter ace) (range_with_len 0 port)) (port_letter ace port)

-- an ACE port
pub ace_counted : (ace port : ℕ) → true ≡ eqb (bit_at ace port) 1
    → (with_letter 65 ace (port + 1) ≡ with_letter 65 ace port + 1) × (with_letter 76 ace (port + 1) ≡ with_letter 76 ace port)
ace_counted ace port is = (
  one_more 65 ace port ∙ ap (λ b. with_letter 65 ace port + cond (eqb (cond b 65 76) 65) 1 0) (sym is),
  one_more 76 ace port ∙ ap (λ b. with_letter 76 ace port + cond (eqb (cond b 65 76) 76) 1 0) (sym is) ∙ omega arith,
)

-- an ACE-Lite port
pub lite_counted : (ace port : ℕ) → false ≡ eqb (bit_at ace port) 1
    → (with_letter 65 ace (port + 1) ≡ with_letter 65 ace port) × (with_letter 76 ace (port + 1) ≡ with_letter 76 ace port + 1)
lite_counted ace port is = (
  one_more 65 ace port ∙ ap (λ b. with_letter 65 ace port + cond (eqb (cond b 65 76) 65) 1 0) (sym is) ∙ omega arith,
  one_more 76 ace port ∙ ap (λ b. with_letter 76 ace port + cond (eqb (cond b 65 76) 76) 1 0) (sym is),
)

pub no_bit_above : (ace ports : ℕ) → (ace / 2 ^ ports ≡ 0) ↔ (ace < 2 ^ ports)
no_bit_above ace ports =
    let below = div-lt_iff_lt-mul {k = 2 ^ ports} {x = ace} {y = 1} (pow_pos ports) in
    (λ none. omega (arith, below.0 (omega (arith, none))), λ lt. omega (arith, below.1 (omega (arith, lt))))
