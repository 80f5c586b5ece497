-- Behind the first letter of a line stands the rest of its record.
use Rattle.std.proofs.Common.{◌≡◌, ◌+◌, ◌-◌, ℕ, List, [], ◌∷◌, Option, Some, length, take, drop, slice_index, suc, refl, sym, subst, ◌∙◌, arith}
use Rattle.std.specs.Option.{option_map}
use Rattle.std.proofs.lemmas.List.{take_all}
use Rattle.ace_event.specs.declared.event.Event.{Event}
use Rattle.ace_grammar.specs.Front.{IsInFront}
use Rattle.ace_grammar.specs.Records.{a_at, b_event, b_fields, c_at, d_event, d_fields, event_at, g_event, g_fields, l_event, l_fields, m_at, o_at, r_at, s_event, s_fields, w_at}

-- an event in front of what stands behind the letter is in front of the whole
behind : (letter : ℕ) (read : List ℕ → Option Event) → ((rest : List ℕ) → event_at 1 (letter ∷ rest) ≡ read rest)
    → (bytes : List ℕ) (event : Event) (count : ℕ) → slice_index bytes 0 ≡ letter
    → IsInFront read (take (length bytes - 1) (drop 1 bytes)) event count → IsInFront (event_at 1) bytes event (count + 1)
behind letter read opens [] event count first front = absurd (omega (arith, front.within))
behind letter read opens (x ∷ rest) event count first front =
    let whole : take (length (x ∷ rest) - 1) (drop 1 (x ∷ rest)) ≡ rest = take_all _ rest (omega arith) in
    let behind : IsInFront read rest event count = subst (λ (l : List ℕ). IsInFront read l event count) whole front in
    let one : count + 1 ≡ suc count = omega arith in
    record {
      within = omega (arith, behind.within);
      lf = rw one behind.lf;
      is_read = rw one (subst (λ y. event_at 1 (y ∷ take count rest) ≡ Some event) (sym first) (opens (take count rest) ∙ behind.is_read));
    }

pub behind_a : (bytes : List ℕ) (event : Event) (count : ℕ) → slice_index bytes 0 ≡ 65
    → IsInFront (a_at 1) (take (length bytes - 1) (drop 1 bytes)) event count → IsInFront (event_at 1) bytes event (count + 1)
unfolding event_at
behind_a = behind 65 (a_at 1) (λ rest. refl)

pub behind_b : (bytes : List ℕ) (event : Event) (count : ℕ) → slice_index bytes 0 ≡ 66
    → IsInFront (λ line. option_map b_event (b_fields 1 line)) (take (length bytes - 1) (drop 1 bytes)) event count → IsInFront (event_at 1) bytes event (count + 1)
unfolding event_at
behind_b = behind 66 (λ line. option_map b_event (b_fields 1 line)) (λ rest. refl)

pub behind_c : (bytes : List ℕ) (event : Event) (count : ℕ) → slice_index bytes 0 ≡ 67
    → IsInFront (c_at 1) (take (length bytes - 1) (drop 1 bytes)) event count → IsInFront (event_at 1) bytes event (count + 1)
unfolding event_at
behind_c = behind 67 (c_at 1) (λ rest. refl)

pub behind_d : (bytes : List ℕ) (event : Event) (count : ℕ) → slice_index bytes 0 ≡ 68
    → IsInFront (λ line. option_map d_event (d_fields 1 line)) (take (length bytes - 1) (drop 1 bytes)) event count → IsInFront (event_at 1) bytes event (count + 1)
unfolding event_at
behind_d = behind 68 (λ line. option_map d_event (d_fields 1 line)) (λ rest. refl)

pub behind_g : (bytes : List ℕ) (event : Event) (count : ℕ) → slice_index bytes 0 ≡ 71
    → IsInFront (λ line. option_map g_event (g_fields 1 line)) (take (length bytes - 1) (drop 1 bytes)) event count → IsInFront (event_at 1) bytes event (count + 1)
unfolding event_at
behind_g = behind 71 (λ line. option_map g_event (g_fields 1 line)) (λ rest. refl)

pub behind_l : (bytes : List ℕ) (event : Event) (count : ℕ) → slice_index bytes 0 ≡ 76
    → IsInFront (λ line. option_map l_event (l_fields 1 line)) (take (length bytes - 1) (drop 1 bytes)) event count → IsInFront (event_at 1) bytes event (count + 1)
unfolding event_at
behind_l = behind 76 (λ line. option_map l_event (l_fields 1 line)) (λ rest. refl)

pub behind_m : (bytes : List ℕ) (event : Event) (count : ℕ) → slice_index bytes 0 ≡ 77
    → IsInFront (m_at 1) (take (length bytes - 1) (drop 1 bytes)) event count → IsInFront (event_at 1) bytes event (count + 1)
unfolding event_at
behind_m = behind 77 (m_at 1) (λ rest. refl)

pub behind_o : (bytes : List ℕ) (event : Event) (count : ℕ) → slice_index bytes 0 ≡ 79
    → IsInFront (o_at 1) (take (length bytes - 1) (drop 1 bytes)) event count → IsInFront (event_at 1) bytes event (count + 1)
unfolding event_at
behind_o = behind 79 (o_at 1) (λ rest. refl)

pub behind_r : (bytes : List ℕ) (event : Event) (count : ℕ) → slice_index bytes 0 ≡ 82
    → IsInFront (r_at 1) (take (length bytes - 1) (drop 1 bytes)) event count → IsInFront (event_at 1) bytes event (count + 1)
unfolding event_at
behind_r = behind 82 (r_at 1) (λ rest. refl)

pub behind_s : (bytes : List ℕ) (event : Event) (count : ℕ) → slice_index bytes 0 ≡ 83
    → IsInFront (λ line. option_map s_event (s_fields 1 line)) (take (length bytes - 1) (drop 1 bytes)) event count → IsInFront (event_at 1) bytes event (count + 1)
unfolding event_at
behind_s = behind 83 (λ line. option_map s_event (s_fields 1 line)) (λ rest. refl)

pub behind_w : (bytes : List ℕ) (event : Event) (count : ℕ) → slice_index bytes 0 ≡ 87
    → IsInFront (w_at 1) (take (length bytes - 1) (drop 1 bytes)) event count → IsInFront (event_at 1) bytes event (count + 1)
unfolding event_at
behind_w = behind 87 (w_at 1) (λ rest. refl)
