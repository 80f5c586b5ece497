-- The sets after an event, and the lines that are known.
use Rattle.std.proofs.Common.{◌≡◌, ◌≢◌, ℕ, ◌≤◌, ◌<◌, Bool, true, false, not, ◌&&◌, ◌||◌, nat_eq, [], ◌∷◌, length, Option, Some, None, refl, sym, ap, ◌∙◌, inl, inr, arith}
use Rattle.std.proofs.lemmas.Bool.{and_parts, cases_Bool, cases_eq, eq-eqb, false_from_ne_true, ne_eqb, eqb-true}
use Rattle.std.proofs.lemmas.Nat.Bits.{bit_at-zero}
use Rattle.ace_filter.proofs.Terms.{bit_at, Change, Cr, Event, G, Header, Transaction, Trace, Wk, IsAccepted, is_ace, is_some_and, issued, given, add_line, known_lines, names_new_line, port_of, IsChange, drops_at, is_dropped, is_take_of, is_taken, kept_ports, may_hold, takes_at}
use Rattle.ace_filter.proofs.Issuers.{taking}
use Rattle.ace_model.proofs.General.Options.{is_some_and-is}
use Rattle.ace_model.proofs.Trace.Issued.{transaction_of-name}

-- no more lines are known than there is room for
pub known-fits : (past : Trace) (e : Event) (n : ℕ) → length (known_lines past) ≤ n
    → (is_some_and (issued (length past) e) (names_new_line past) ≡ true → length (known_lines past) < n)
    → length (known_lines (e ∷ past)) ≤ n
known-fits past e n few room = by (issued (length past) e) room
  where
    by : (o : Option Transaction) → (is_some_and o (names_new_line past) ≡ true → length (known_lines past) < n)
        → length (add_line past o (known_lines past)) ≤ n
    by None room = few
    by (Some x) room =
        elim (cases_Bool (names_new_line past x)) [
          | inl t ↦ let low = room t in rw t (omega (arith, low))
          | inr f ↦ rw f few
        ]

-- an event of one port takes and drops nothing of another
takes-elsewhere : (past : Trace) (e : Event) (p l : ℕ) → port_of e ≢ Some p → takes_at past e p l ≡ false
takes-elsewhere past (G q c i) p l n =
    false_from_ne_true _ (λ t.
    let x = is_some_and-is (given past (G q c i)) (λ x. nat_eq x.port p && is_take_of x l) t in
    let own : x.0.port ≡ q = (transaction_of-name past q c i x.0 x.1).port in
    n (ap Some (sym own ∙ eqb-true x.0.port p (and_parts (nat_eq x.0.port p) _ x.2).0)))
takes-elsewhere past e p l n = refl

drops-elsewhere : (past : Trace) (e : Event) (p l : ℕ) → port_of e ≢ Some p → drops_at past e p l ≡ false
drops-elsewhere past (Cr q resp st) p l n = rw (ne_eqb p q (λ same. n (ap Some (sym same)))) refl
drops-elsewhere past (Wk q st) p l n = rw (ne_eqb p q (λ same. n (ap Some (sym same)))) refl
drops-elsewhere past e p l n = refl

kept-still : (past : Trace) (h : Header) (e : Event) (p l : ℕ) → port_of e ≢ Some p → kept_ports h (e ∷ past) l p ≡ kept_ports h past l p
kept-still past h e p l n = rw (takes-elsewhere past e p l n, drops-elsewhere past e p l n) refl

both-ways : (ace taken dropped held : Bool) → (taken ≡ true → ace ≡ true)
    → (taken || (not dropped && (ace && held))) ≡ (ace && (taken || (not dropped && held)))
both-ways true taken dropped held may = refl
both-ways false true dropped held may = let bad = may refl in cc
both-ways false false true held may = refl
both-ways false false false held may = refl

-- the sets after an event of a port
pub sets-after : (h : Header) (past : Trace) (e : Event) (port : ℕ) (c : Option Change) → IsAccepted h past → port_of e ≡ Some port → IsChange past e port c
    → (old new : ℕ → ℕ) → ((l p : ℕ) → nat_eq (bit_at (old l) p) 1 ≡ kept_ports h past l p)
    → ((l p : ℕ) → nat_eq (bit_at (new l) p) 1 ≡ ((nat_eq port p && is_taken c l) || (not (nat_eq port p && is_dropped c l) && nat_eq (bit_at (old l) p) 1)))
    → (l p : ℕ) → nat_eq (bit_at (new l) p) 1 ≡ kept_ports h (e ∷ past) l p
sets-after h past e port c a own change old new was is l p =
    elim (cases_eq port p) [
      | inl same ↦
          let here = eq-eqb port p same in
          let takes_it : is_taken c l ≡ takes_at past e p l = sym (change.takes_it l) ∙ ap (λ v. takes_at past e v l) same in
          let drops_it : is_dropped c l ≡ drops_at past e p l = sym (change.drops_it l) ∙ ap (λ v. drops_at past e v l) same in
          is l p ∙ rw (here, takes_it, drops_it, was l p)
          (both-ways (is_ace h p) (takes_at past e p l) (drops_at past e p l) (may_hold past p l) (λ t. (taking h past e p l a t).ace))
      | inr off ↦
          let other = ne_eqb port p off in
          is l p ∙ rw other (was l p) ∙ sym (kept-still past h e p l (λ q. off (let both = sym own ∙ q in port-same both)))
    ]
  where
    port-same : {a b : ℕ} → Some a ≡ Some b → a ≡ b
    port-same e = cc

-- and after an event of none
pub sets-still : (h : Header) (past : Trace) (e : Event) → ((p : ℕ) → port_of e ≢ Some p) → (l p : ℕ) → kept_ports h (e ∷ past) l p ≡ kept_ports h past l p
sets-still h past e n l p = kept-still past h e p l (n p)

-- before any event
pub sets-start : (h : Header) (l p : ℕ) → nat_eq (bit_at 0 p) 1 ≡ kept_ports h [] l p
sets-start h l p = rw (bit_at-zero p) (none (is_ace h p))
  where
    none : (b : Bool) → false ≡ (b && false)
    none true = refl
    none false = refl
