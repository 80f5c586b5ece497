-- What at most so many events of each ACE port are in all.
use Rattle.std.proofs.Common.{◌≡◌, ℕ, zero, suc, ◌+◌, ◌*◌, ◌≤◌, ◌<◌, Bool, true, false, ◌==◌, nat_lt, List, [], ◌∷◌, length, map, filter, refl, inl, inr, arith, mul-le-mul_right, one-mul}
use Rattle.std.specs.Int.{bit_at}
use Rattle.std.specs.List.{range_with_len, count_by}
use Rattle.std.proofs.lemmas.Bool.{cases_Bool, and_parts, eq-eqb, ltb-true, cases_eq}
use Rattle.ace_event.specs.declared.event.Event.{Event}
use Rattle.ace_event.specs.declared.header.Header.{Header}
use Rattle.ace_event.specs.Ports.{IsHeader, port_letter, port_letters, most_letters}
use Rattle.ace_model.specs.Trace.{Trace}
use Rattle.ace_model.specs.Transactions.{is_ace}
use Rattle.ace_model.proofs.General.Lists.{count_by-cons}
use Rattle.ace_runs.specs.Counts.{counted, ace_ports}
use Rattle.ace_runs.proofs.Few.Sums.{times, each_bounds}
use Rattle.ace_runs.proofs.Few.Ports.{port_or_zero, at_port}
use Rattle.ace_runs.proofs.Few.Keys.{keys_of, all-keys, one-key}

-- those of the ports that are ACE ports
abbrev aces_among : ℕ → List ℕ → List ℕ
aces_among ace ps = filter (λ p. port_letter ace p == 65) ps

letters-counted : (ace : ℕ) (ps : List ℕ) → count_by (λ letter. letter == 65) (map (port_letter ace) ps) ≡ length (aces_among ace ps)
letters-counted ace [] = refl
letters-counted ace (p ∷ ps) =
    let rest = letters-counted ace ps in
    let cons = count_by-cons (λ letter. letter == 65) (port_letter ace p) (map (port_letter ace) ps) in
    elim (cases_Bool (port_letter ace p == 65)) [
      | inl t ↦ rw cons (rw t (omega (arith, rest)))
      | inr f ↦ rw cons (rw f (omega (arith, rest)))
    ]

pub few-aces : (h : Header) → IsHeader h → h.version ≡ 1 → length (ace_ports h) ≤ 8
few-aces h is one =
    let most : count_by (λ letter. letter == 65) (port_letters h) ≤ most_letters h.version = is.most_ace in
    let eight : most_letters h.version ≡ 8 = rw one refl in
    let same = letters-counted h.ace (range_with_len 0 h.ports) in
    omega (arith, most, eight, same)

-- an ACE port is one of them
ace-among : (ace p a n : ℕ) → port_letter ace p ≡ 65 → a ≤ p → p < a + n → 1 ≤ times p (aces_among ace (range_with_len a n))
ace-among ace p a zero letter low high = absurd (omega (arith, low, high))
ace-among ace p a (suc n) letter low high =
    elim (cases_eq a p) [
      | inl same ↦
          let first : (port_letter ace a == 65) ≡ true = rw same (eq-eqb (port_letter ace p) 65 letter) in
          let here : (a == p) ≡ true = eq-eqb a p same in
          rw first (rw here (omega arith))
      | inr other ↦
          let rest = ace-among ace p (a + 1) n letter (omega (arith, low, other)) (omega (arith, high)) in
          elim (cases_Bool (port_letter ace a == 65)) [
            | inr f ↦ rw f rest
            | inl t ↦ rw t (elim (cases_Bool (a == p)) [ inl u ↦ rw u (omega (arith, rest)) | inr v ↦ rw v rest ])
          ]
    ]

ace-times : (h : Header) (p : ℕ) → is_ace h p ≡ true → 1 ≤ times p (ace_ports h)
ace-times h p ace =
    let parts = and_parts (nat_lt p h.ports) (bit_at h.ace p == 1) ace in
    let letter : port_letter h.ace p ≡ 65 = rw parts.1 refl in
    let below = ltb-true p h.ports parts.0 in
    ace-among h.ace p 0 h.ports letter (omega arith) (omega (arith, below))

pub for-ace-ports : (n : ℕ) (test : Event → Bool) (h : Header) (past : Trace) → ((p : ℕ) → counted (at_port test p) past ≤ n)
    → ((p : ℕ) → is_ace h p ≡ false → counted (at_port test p) past ≡ 0) → counted test past ≤ length (ace_ports h) * n
for-ace-ports n test h past most none =
    let all = each_bounds n (keys_of port_or_zero test past) (ace_ports h)
    (λ p. rw (one-key port_or_zero test p past) (elim (cases_Bool (is_ace h p)) [
      | inr f ↦ let zero_there = none p f in omega (arith, zero_there)
      | inl t ↦
          let some : 1 * n ≤ times p (ace_ports h) * n = mul-le-mul_right n (ace-times h p t) in
          let few = most p in
          omega (arith, some, few, one-mul n)
    ])) in
    rw (all-keys port_or_zero test past) at all
