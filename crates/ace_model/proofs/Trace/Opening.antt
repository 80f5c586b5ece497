-- Before a MEM, and so right after one, there are MEM events alone (K3): nothing is outstanding, no line is granted, no port holds
-- one, and memory is the value.
use Rattle.std.proofs.Common.{◌≡◌, ℕ, true, ◌&&◌, nat_eq, [], ◌∷◌, None, unwrap_or, refl, ap}
use Rattle.std.proofs.lemmas.Bool.{and_parts}
use Rattle.ace_model.proofs.Terms.{Channel, Event, Header, I, IsAccepted, Line, Mem, Trace, granted, is_opened_below, memory_of, opened, outstanding, state_of, value_of}
use Rattle.ace_model.proofs.Rules.Keeps.{accepted_keeps}

module _ (h : Header) (addr : ℕ) where
  none_outstanding : (past : Trace) → is_opened_below past addr ≡ true → (p : ℕ) (c : Channel) (i : ℕ) → outstanding h past p c i ≡ None
  none_outstanding [] t p c i = refl
  none_outstanding (Mem before line ∷ past) t p c i = none_outstanding past (and_parts (is_opened_below past addr) _ t).0 p c i
  none_outstanding (e ∷ past) t p c i = cc

  none_granted : (past : Trace) → is_opened_below past addr ≡ true → (l : ℕ) → granted h past l ≡ None
  none_granted [] t l = refl
  none_granted (Mem before line ∷ past) t l = none_granted past (and_parts (is_opened_below past addr) _ t).0 l
  none_granted (e ∷ past) t l = cc

  none_held : (past : Trace) → is_opened_below past addr ≡ true → (p l : ℕ) → state_of h past p l ≡ I
  none_held [] t p l = refl
  none_held (Mem before line ∷ past) t p l = none_held past (and_parts (is_opened_below past addr) _ t).0 p l
  none_held (e ∷ past) t p l = cc

  memory_is : (past : Trace) → is_opened_below past addr ≡ true → (l : ℕ) → memory_of past l ≡ value_of past l
  memory_is [] t l = refl
  memory_is (Mem before line ∷ past) t l = ap (unwrap_or (opened (Mem before line) l)) (memory_is past (and_parts (is_opened_below past addr) _ t).0 l)
  memory_is (e ∷ past) t l = cc

-- The event opens memory of a line.
pub record Opens (h : Header) (past : Trace) (e : Event) : Type 0 where
  pub addr : ℕ
  pub line : Line
  pub is : e ≡ Mem addr line
  pub free : (p : ℕ) (c : Channel) (i : ℕ) → outstanding h past p c i ≡ None
  pub ungranted : (l : ℕ) → granted h past l ≡ None
  pub unheld : (p l : ℕ) → state_of h past p l ≡ I
  pub stored : (l : ℕ) → memory_of (e ∷ past) l ≡ value_of (e ∷ past) l

pub opens_of : (h : Header) (past : Trace) (addr : ℕ) (line : Line) → IsAccepted h (Mem addr line ∷ past) → Opens h past (Mem addr line)
opens_of h past addr line a =
    let may = (and_parts _ _ (accepted_keeps h past (Mem addr line) a).rule_3).1 in
    let below = (and_parts (nat_eq h.version 2) (is_opened_below past addr) (and_parts (nat_eq h.version 2 && is_opened_below past addr) _ may).0).1 in
    record {
      addr = addr;
      line = line;
      is = refl;
      free = none_outstanding h addr past below;
      ungranted = none_granted h addr past below;
      unheld = none_held h addr past below;
      stored = λ l. ap (unwrap_or (opened (Mem addr line) l)) (memory_is h addr past below l);
    }
