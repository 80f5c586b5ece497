-- In version 1 a header has at most sixteen ports: eight of each kind.
use Rattle.std.proofs.Common.{◌≡◌, ℕ, ◌+◌, ◌<◌, ◌≤◌, true, ◌==◌, List, [], ◌∷◌, length, map, Some, nat_lt, refl, inl, inr, arith}
use Rattle.std.specs.Int.{bit_at}
use Rattle.std.specs.List.{range_with_len, count_by}
use Rattle.std.proofs.lemmas.Bool.{cases_Bool, and_parts, ltb-true}
use Rattle.std.proofs.lemmas.List.FromFn.{length-map-range_with_len}
use Rattle.ace_event.specs.declared.event.Event.{Event}
use Rattle.ace_event.specs.declared.header.Header.{Header}
use Rattle.ace_event.specs.Ports.{IsHeader, port_letter, port_letters, most_letters}
use Rattle.ace_model.specs.AddressRules.{k1, may_have}
use Rattle.ace_model.specs.Trace.{Trace, port_of}
use Rattle.ace_model.proofs.General.Lists.{count_by-cons}
use Rattle.ace_model.proofs.General.Options.{is_none_or-at}

abbrev letters_of : ℕ → ℕ → List ℕ → ℕ
letters_of letter ace ps = count_by (λ l. l == letter) (map (port_letter ace) ps)

-- each port has one of the two letters
letters-known : (ace : ℕ) (ps : List ℕ) → letters_of 65 ace ps + letters_of 76 ace ps ≡ length (map (port_letter ace) ps)
letters-known ace [] = refl
letters-known ace (p ∷ ps) =
    let rest = letters-known ace ps in
    let aces = count_by-cons (λ l. l == 65) (port_letter ace p) (map (port_letter ace) ps) in
    let lites = count_by-cons (λ l. l == 76) (port_letter ace p) (map (port_letter ace) ps) in
    elim (cases_Bool (bit_at ace p == 1)) [
      | inl t ↦ rw (aces, lites) (rw t (omega (arith, rest)))
      | inr f ↦ rw (aces, lites) (rw f (omega (arith, rest)))
    ]

pub few-ports : (h : Header) → IsHeader h → h.version ≡ 1 → h.ports ≤ 16
few-ports h is one =
    let aces : count_by (λ letter. letter == 65) (port_letters h) ≤ most_letters h.version = is.most_ace in
    let lites : count_by (λ letter. letter == 76) (port_letters h) ≤ most_letters h.version = is.most_lite in
    let eight : most_letters h.version ≡ 8 = rw one refl in
    let known = letters-known h.ace (range_with_len 0 h.ports) in
    let all = length-map-range_with_len (port_letter h.ace) 0 h.ports in
    omega (arith, aces, lites, eight, known, all)

-- so the port of an event has one digit
pub port-low : (h : Header) (past : Trace) (e : Event) (p : ℕ) → h.ports ≤ 16 → k1 h past e ≡ true → port_of e ≡ Some p → p < 16
port-low h past e p few k is =
    let low = ltb-true p h.ports (and_parts (nat_lt p h.ports) _ (is_none_or-at (port_of e) (may_have h e) p k is)).0 in
    omega (arith, low, few)
