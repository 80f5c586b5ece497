-- A burst has room for what the ports get of a message: there are at most eight ACE ports, and each gets at most two parts.
use Rattle.std.proofs.Common.{◌≡◌, ℕ, zero, suc, ◌+◌, ◌*◌, ◌<◌, ◌≤◌, Bool, true, false, ◌==◌, if◌then◌else◌, List, [], ◌∷◌, ◌++◌, length, length-append, map, nat_lt, Option, Some, None, refl, sym, ap, ◌∙◌, inl, inr, arith}
use Rattle.std.specs.Int.{bit_at}
use Rattle.std.specs.List.{count_by, range_with_len}
use Rattle.std.specs.Option.{option_to_list}
use Rattle.std.proofs.lemmas.Bool.{and_parts, cases_Bool, cases_eq, eq-eqb}
use Rattle.std.proofs.lemmas.List.{length-map}
use Rattle.std.proofs.lemmas.List.FromFn.{map-range_with_len_more}
use Rattle.ace_event.specs.declared.header.Header.{Header}
use Rattle.ace_event.specs.Ports.{IsHeader, most_letters, port_letter, port_letters}
use Rattle.ace_model.specs.declared.transactions.Transaction.{Transaction}
use Rattle.ace_model.specs.Trace.{Trace, is_some_and}
use Rattle.ace_model.specs.Transactions.{is_ace}
use Rattle.ace_model.proofs.General.Lists.{count_by-cons}
use Rattle.ace_sysck.specs.declared.inboxes.Message.{Message}
use Rattle.ace_sysck.specs.Inboxes.{next_message}
use Rattle.ace_order.specs.Messages.{forwarding, forwards_to, given_below, given_to, is_next_for, parts_of}

-- ---- ACE ports ---------------------------------------------------------------------------------------

-- how many of the ports below a number have a bit
abbrev aces_below : ℕ → ℕ → ℕ
aces_below ace zero = 0
aces_below ace (suc n) = aces_below ace n + (if port_letter ace n == 65 then 1 else 0)

count-last : (xs : List ℕ) (x : ℕ) → count_by (λ letter. letter == 65) (xs ++ x ∷ []) ≡ count_by (λ letter. letter == 65) xs + (if x == 65 then 1 else 0)
count-last [] x = count_by-cons (λ letter. letter == 65) x [] ∙ swapped (if x == 65 then 1 else 0)
  where
    swapped : (n : ℕ) → n + 0 ≡ 0 + n
    swapped n = omega arith
count-last (y ∷ xs) x =
    let rest = count-last xs x in
    let one = count_by-cons (λ letter. letter == 65) y (xs ++ x ∷ []) in
    let other = count_by-cons (λ letter. letter == 65) y xs in
    omega (arith, rest, one, other)

aces-are : (ace n : ℕ) → count_by (λ letter. letter == 65) (map (port_letter ace) (range_with_len 0 n)) ≡ aces_below ace n
aces-are ace zero = refl
aces-are ace (suc n) =
    let more : suc n ≡ n + 1 = omega arith in
    let at : 0 + n ≡ n = omega arith in
    ap (λ k. count_by (λ letter. letter == 65) (map (port_letter ace) (range_with_len 0 k))) more
    ∙ ap (count_by (λ letter. letter == 65)) (map-range_with_len_more (port_letter ace) 0 n n at)
    ∙ count-last (map (port_letter ace) (range_with_len 0 n)) (port_letter ace n)
    ∙ ap (λ k. k + (if port_letter ace n == 65 then 1 else 0)) (aces-are ace n)

few-aces : (h : Header) → IsHeader h → h.version ≡ 1 → aces_below h.ace h.ports ≤ 8
few-aces h is one =
    let most : count_by (λ letter. letter == 65) (port_letters h) ≤ most_letters h.version = is.most_ace in
    let eight : most_letters h.version ≡ 8 = rw one refl in
    let same = aces-are h.ace h.ports in
    omega (arith, most, eight, same)

no-more : (ace n k : ℕ) → k ≤ n → aces_below ace k ≤ aces_below ace n
no-more ace zero k low = let none : k ≡ 0 = omega (arith, low) in rw none (omega arith)
no-more ace (suc n) k low = elim (cases_eq k (suc n)) [
  | inl same ↦ rw same (omega arith)
  | inr apart ↦ let rest = no-more ace n k (omega (arith, low, apart)) in omega (arith, rest)
]

-- ---- the parts ---------------------------------------------------------------------------------------

one-or-two : (x : Transaction) (o : Option Transaction) → length (x ∷ option_to_list o) ≤ 2
one-or-two x None = omega arith
one-or-two x (Some y) = omega arith

pub next-ace : (h : Header) (past : Trace) (m : Message) (r : ℕ) → is_next_for h past m r ≡ true → is_ace h r ≡ true
next-ace h past m r next = by (is_ace h r) refl
  where
    by : (ace : Bool) → is_ace h r ≡ ace → is_ace h r ≡ true
    by true is = is
    by false is = let bad : false ≡ true = sym (ap (λ b. is_some_and (if b then next_message past r else None) (λ n. n.first.place == m.first.place)) is) ∙ next in cc

module _ (h : Header) (past : Trace) (m : Message) where
  one-ace : (r : ℕ) → is_next_for h past m r ≡ true → aces_below h.ace (suc r) ≡ aces_below h.ace r + 1
  one-ace r next =
      let bit = (and_parts (nat_lt r h.ports) (bit_at h.ace r == 1) (next-ace h past m r next)).1 in
      let letter : port_letter h.ace r ≡ 65 = rw bit refl in
      ap (λ b. aces_below h.ace r + (if b then 1 else 0)) (eq-eqb (port_letter h.ace r) 65 letter)

  short : (n : ℕ) → length (given_below h past m n) ≤ 2 * aces_below h.ace n
  short zero = omega arith
  short (suc n) =
      let rest = short n in
      let joined = length-append (given_below h past m n) (given_to h past m n) in
      let least = no-more h.ace (suc n) n (omega arith) in
      elim (cases_Bool (is_next_for h past m n)) [
        | inr none ↦
            let nothing : length (given_to h past m n) ≡ 0 = ap (λ b. length (if b then forwards_to n m else [])) none in
            omega (arith, rest, joined, least, nothing)
        | inl next ↦
            let block : length (given_to h past m n) ≡ length (forwards_to n m) = ap (λ b. length (if b then forwards_to n m else [])) next in
            let parts = length-map (parts_of m) (forwarding n) in
            let two = one-or-two m.first m.second in
            let one = one-ace n next in
            omega (arith, rest, joined, block, parts, two, one)
      ]

  module _ (is : IsHeader h) (one : h.version ≡ 1) where
    pub few-parts : length (given_below h past m h.ports) ≤ 16
    few-parts = let all = short h.ports in let few = few-aces h is one in omega (arith, all, few)

    -- there is room for the parts for one more port
    pub room-for-parts : (n : ℕ) → n < h.ports → is_next_for h past m n ≡ true → length (given_below h past m n) ≤ 14
    room-for-parts n low next =
        let here = short n in
        let more = one-ace n next in
        let within = no-more h.ace h.ports (suc n) (omega (arith, low)) in
        let few = few-aces h is one in
        omega (arith, here, more, within, few)
