-- A header of version 1 has at most sixteen ports: at most eight of each kind.
use Rattle.std.proofs.Common.{◌≡◌, ℕ, ◌+◌, ◌≤◌, ◌==◌, Bool, List, [], ◌∷◌, length, map, refl, inl, inr, arith}
use Rattle.std.specs.Int.{bit_at}
use Rattle.std.specs.List.{count_by, range_with_len}
use Rattle.std.proofs.lemmas.Bool.{cases_Bool}
use Rattle.std.proofs.lemmas.List.FromFn.{length-range_with_len}
use Rattle.ace_event.specs.declared.header.Header.{Header}
use Rattle.ace_event.specs.Ports.{IsHeader, most_letters, port_letter}
use Rattle.ace_model.proofs.General.Lists.{count_by-cons}

abbrev is_a : ℕ → Bool
is_a letter = letter == 65

abbrev is_l : ℕ → Bool
is_l letter = letter == 76

each-kind : (ace : ℕ) (ps : List ℕ) → count_by is_a (map (port_letter ace) ps) + count_by is_l (map (port_letter ace) ps) ≡ length ps
each-kind ace [] = refl
each-kind ace (p ∷ ps) =
    let rest = each-kind ace ps in
    let one = count_by-cons is_a (port_letter ace p) (map (port_letter ace) ps) in
    let other = count_by-cons is_l (port_letter ace p) (map (port_letter ace) ps) in
    elim (cases_Bool (bit_at ace p == 1)) [
      | inl t ↦ rw (one, other) (rw t (omega (arith, rest)))
      | inr f ↦ rw (one, other) (rw f (omega (arith, rest)))
    ]

pub few-ports : (h : Header) → IsHeader h → h.version ≡ 1 → h.ports ≤ 16
few-ports h is one =
    let aces : count_by is_a (map (port_letter h.ace) (range_with_len 0 h.ports)) ≤ most_letters h.version = is.most_ace in
    let lites : count_by is_l (map (port_letter h.ace) (range_with_len 0 h.ports)) ≤ most_letters h.version = is.most_lite in
    let eight : most_letters h.version ≡ 8 = rw one refl in
    let all = each-kind h.ace (range_with_len 0 h.ports) in
    let long = length-range_with_len 0 h.ports in
    omega (arith, aces, lites, eight, all, long)
