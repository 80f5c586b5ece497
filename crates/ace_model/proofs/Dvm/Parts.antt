-- The parts of messages for a port: they came before, and a longer trace adds to their end.
use Rattle.std.proofs.Common.{◌≡◌, ◌≢◌, ◌⊎◌, ℕ, zero, suc, ◌<◌, true, not, ◌&&◌, nat_eq, [], ◌∷◌, List, length, drop, Option, Some, None, refl, ap, arith, inl, inr}
use Rattle.std.specs.List.{All}
use Rattle.std.proofs.lemmas.Bool.{and_parts, cases_Bool, eq-eqb, eqb-true, ne_eqb, or_cases, or_left, or_right}
use Rattle.std.proofs.lemmas.List.Elements.{All-append, All-cons, All-head, All-nil, All-tail, All-weaker}
use Rattle.ace_model.proofs.Terms.{Transaction, Trace, issued, is_message_part, has_second, part_in, waits_after, first_waiting, parts_with, parts_in, parts_for, has_part}
use Rattle.ace_model.proofs.Trace.Issued.{issued-place}
use Rattle.ace_model.proofs.Trace.Growth.{IsIssued, issued-cases}
use Rattle.ace_model.proofs.General.Options.{some_where-is, option_filter-is}
use Rattle.ace_model.proofs.General.Lists.{IsStart, start-self, start-trans, start-append, any-left, any-right}

-- the transaction came before the event with so many before it
abbrev pub IsBelow : ℕ → Transaction → Type 0
IsBelow n x = x.place < n

-- a first part waited before, or is the new one
waiting-cases : (waiting new : Option Transaction) (x : Transaction) → waits_after waiting new ≡ Some x → (waiting ≡ Some x) ⊎ (new ≡ Some x)
waiting-cases waiting None x e = inl e
waiting-cases (Some first) (Some y) x e = cc
waiting-cases None (Some y) x e = inr (ap Some (some_where-is (λ z. has_second z.addr) y x e).0)

waiting-placed : (past : Trace) (p : ℕ) (x : Transaction) → first_waiting past p ≡ Some x → x.place < length past
waiting-placed [] p x w = cc
waiting-placed (e ∷ past) p x w =
    elim (waiting-cases (first_waiting past p) (part_in (issued (length past) e) p) x w) [
      | inl old ↦ let low = waiting-placed past p x old in omega arith
      | inr new ↦ let at = issued-place (length past) e x (option_filter-is _ (issued (length past) e) x new).0 in omega (arith, at)
    ]

-- what holds of both parts holds of all that the message has
parts_with-all : (P : Transaction → Type 0) (waiting : Option Transaction) (x : Transaction) → ((first : Transaction) → waiting ≡ Some first → P first) → P x
    → All P (parts_with waiting x)
parts_with-all P (Some first) x waits here = All-cons P first (x ∷ []) (waits first refl) (All-cons P x [] here (All-nil P))
parts_with-all P None x waits here =
    elim (cases_Bool (has_second x.addr)) [
      | inl t ↦ rw t (All-nil P)
      | inr f ↦ rw f (All-cons P x [] here (All-nil P))
    ]

-- the parts that an event adds came before it, or with it
parts_in-placed : (past : Trace) (new : Option Transaction) (q : ℕ) → ((x : Transaction) → new ≡ Some x → x.place ≡ length past)
    → All (IsBelow (suc (length past))) (parts_in past new q)
parts_in-placed past None q at = All-nil (IsBelow (suc (length past)))
parts_in-placed past (Some x) q at =
    let now = at x refl in
    elim (cases_Bool (is_message_part x && not (nat_eq x.port q))) [
      | inl t ↦
          rw t (parts_with-all (IsBelow (suc (length past))) (first_waiting past x.port) x
          (λ first w. let low = waiting-placed past x.port first w in omega arith) (omega arith))
      | inr f ↦ rw f (All-nil (IsBelow (suc (length past))))
    ]

-- each part for a port came before
pub parts-placed : (past : Trace) (q : ℕ) → All (IsBelow (length past)) (parts_for past q)
parts-placed [] q = All-nil (IsBelow 0)
parts-placed (e ∷ past) q =
    All-append (IsBelow (suc (length past))) (parts_for past q) (parts_in past (issued (length past) e) q)
    (All-weaker (IsBelow (length past)) (IsBelow (suc (length past))) (λ y low. omega arith) (parts_for past q) (parts-placed past q))
    (parts_in-placed past (issued (length past) e) q (issued-place (length past) e))

-- so a part that is among such came before
pub part-placed : (ys : List Transaction) (n : ℕ) (x : Transaction) → All (IsBelow n) ys → has_part ys x ≡ true → x.place < n
part-placed [] n x all has = cc
part-placed (y ∷ ys) n x all has =
    elim (or_cases (nat_eq y.place x.place) (has_part ys x) has) [
      | inl here ↦
          let low : y.place < n = All-head (IsBelow n) y ys all in
          let same = eqb-true y.place x.place here in
          omega arith
      | inr later ↦ part-placed ys n x (All-tail (IsBelow n) y ys all) later
    ]

-- the trace without its newest k events has the first of them
pub parts-before : (k : ℕ) (past : Trace) (q : ℕ) → IsStart (parts_for (drop k past) q) (parts_for past q)
parts-before zero past q = start-self (parts_for past q)
parts-before (suc k) [] q = start-self []
parts-before (suc k) (e ∷ past) q =
    start-trans (parts_for (drop k past) q) (parts_for past q) (parts_for (e ∷ past) q) (parts-before k past q)
    (start-append (parts_for past q) (parts_in past (issued (length past) e) q))

module _ (x : Transaction) (q : ℕ) (m : is_message_part x ≡ true) (other : x.port ≢ q) where
  -- a new part ends its message, or waits for its second
  new-part : (past : Trace) → (has_part (parts_in past (Some x) q) x ≡ true) ⊎ (waits_after (first_waiting past x.port) (part_in (Some x) x.port) ≡ Some x)
  new-part past = rw (m, ne_eqb x.port q other, eq-eqb x.port x.port refl) (ends_or_waits (first_waiting past x.port))
    where
      ends_or_waits : (waiting : Option Transaction) → (has_part (parts_with waiting x) x ≡ true) ⊎ (waits_after waiting (Some x) ≡ Some x)
      ends_or_waits (Some first) = inl (rw (eq-eqb x.place x.place refl) (or_right (nat_eq first.place x.place) true refl))
      ends_or_waits None =
          elim (cases_Bool (has_second x.addr)) [
            | inl t ↦ inr (rw t refl)
            | inr f ↦ inl (rw (f, eq-eqb x.place x.place refl) refl)
          ]

  -- one that waits is in the message that the port's next part ends
  waiting-part : (past : Trace) (new : Option Transaction) → first_waiting past x.port ≡ Some x
      → (has_part (parts_in past new q) x ≡ true) ⊎ (waits_after (Some x) (part_in new x.port) ≡ Some x)
  waiting-part past None w = inr refl
  waiting-part past (Some y) w =
      elim (cases_Bool (is_message_part y && nat_eq y.port x.port)) [
        | inl t ↦
            let parts = and_parts (is_message_part y) (nat_eq y.port x.port) t in
            let port = eqb-true y.port x.port parts.1 in
            inl (rw (parts.0, port, ne_eqb x.port q other, w) (or_left (nat_eq x.place x.place) _ (eq-eqb x.place x.place refl)))
        | inr f ↦ inr (rw f refl)
      ]

  -- a part of another port is for this one, unless it waits for its second
  pub parts-cases : (past : Trace) → IsIssued past x → (has_part (parts_for past q) x ≡ true) ⊎ (first_waiting past x.port ≡ Some x)
  parts-cases [] i = let low = i.before in absurd (omega arith)
  parts-cases (e ∷ past) i =
      elim (issued-cases e past x i) [
        | inl new ↦ now (rw new (new-part past))
        | inr old ↦
            elim (parts-cases past old) [
              | inl before ↦ inl (any-left (λ y. nat_eq y.place x.place) (parts_for past q) (parts_in past (issued (length past) e) q) before)
              | inr waits ↦ now (rw waits (waiting-part past (issued (length past) e) waits))
            ]
      ]
    where
      now : (has_part (parts_in past (issued (length past) e) q) x ≡ true) ⊎ (first_waiting (e ∷ past) x.port ≡ Some x)
          → (has_part (parts_for (e ∷ past) q) x ≡ true) ⊎ (first_waiting (e ∷ past) x.port ≡ Some x)
      now (inl ends) = inl (any-right (λ y. nat_eq y.place x.place) (parts_for past q) (parts_in past (issued (length past) e) q) ends)
      now (inr waits) = inr waits
