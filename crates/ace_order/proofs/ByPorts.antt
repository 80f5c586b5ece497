-- The burst that the engine puts for a message: the events of each port are next to each other, and are what the port gets.
use Rattle.std.proofs.Common.{◌≡◌, ℕ, zero, suc, ◌<◌, ◌≤◌, true, false, not, ◌||◌, ◌==◌, List, [], ◌∷◌, ◌++◌, filter, map, Option, Some, None, refl, sym, ap, subst, ◌∙◌, inl, inr, arith}
use Rattle.std.specs.List.{list_any}
use Rattle.std.proofs.lemmas.Bool.{and_from, and_parts, cases_Bool, cases_eq, eq-eqb, ne_eqb, not-true, or_cases, or_left, or_parts, or_right}
use Rattle.std.proofs.lemmas.List.{append-nil}
use Rattle.std.proofs.lemmas.List.Elements.{filter-append}
use Rattle.std.proofs.lemmas.List.Folds.{list_any-append}
use Rattle.ace_event.specs.declared.event.Event.{Event}
use Rattle.ace_event.specs.declared.header.Header.{Header}
use Rattle.ace_model.specs.declared.transactions.Transaction.{Transaction}
use Rattle.ace_model.specs.Trace.{Trace, is_none_or, is_some_and, port_of}
use Rattle.ace_runs.specs.OrderSteps.{begins_at, is_by_port}
use Rattle.ace_runs.specs.Segments.{is_at_port}
use Rattle.ace_sysck.specs.declared.inboxes.Message.{Message}
use Rattle.ace_order.specs.Messages.{forwarding, given_below, given_to, is_next_for, parts_of}

-- ---- the events of one port --------------------------------------------------------------------------

filter-own : (q r : ℕ) (parts : List Transaction) → (q == r) ≡ true → filter (is_at_port r) (map (forwarding q) parts) ≡ map (forwarding q) parts
filter-own q r [] own = refl
filter-own q r (x ∷ parts) own = let rest = filter-own q r parts own in rw own (ap (λ l. forwarding q x ∷ l) rest)

filter-other : (q r : ℕ) (parts : List Transaction) → (q == r) ≡ false → filter (is_at_port r) (map (forwarding q) parts) ≡ []
filter-other q r [] other = refl
filter-other q r (x ∷ parts) other = rw other (filter-other q r parts other)

module _ (h : Header) (past : Trace) (m : Message) where
  own-given : (q r : ℕ) → (q == r) ≡ true → filter (is_at_port r) (given_to h past m q) ≡ given_to h past m q
  own-given q r own = elim (cases_Bool (is_next_for h past m q)) [
    | inr none ↦ rw none refl
    | inl next ↦ rw next (filter-own q r (parts_of m) own)
  ]

  other-given : (q r : ℕ) → (q == r) ≡ false → filter (is_at_port r) (given_to h past m q) ≡ []
  other-given q r other = elim (cases_Bool (is_next_for h past m q)) [
    | inr none ↦ rw none refl
    | inl next ↦ rw next (filter-other q r (parts_of m) other)
  ]

  -- the ports from this one on have had nothing
  pub none-given : (n r : ℕ) → n ≤ r → filter (is_at_port r) (given_below h past m n) ≡ []
  none-given zero r low = refl
  none-given (suc n) r low =
      let apart : (n == r) ≡ false = ne_eqb n r (λ same. absurd (omega (arith, low, same))) in
      let rest = none-given n r (omega (arith, low)) in
      let here = other-given n r apart in
      filter-append (is_at_port r) (given_below h past m n) (given_to h past m n) ∙ ap (λ l. l ++ filter (is_at_port r) (given_to h past m n)) rest ∙ here

  -- those below have had what they get
  pub all-given : (n r : ℕ) → r < n → filter (is_at_port r) (given_below h past m n) ≡ given_to h past m r
  all-given zero r low = absurd (omega (arith, low))
  all-given (suc n) r low = elim (cases_eq n r) [
    | inl same ↦
        filter-append (is_at_port r) (given_below h past m n) (given_to h past m n)
        ∙ ap (λ l. l ++ filter (is_at_port r) (given_to h past m n)) (none-given n r (omega (arith, same)))
        ∙ own-given n r (eq-eqb n r same) ∙ ap (given_to h past m) same
    | inr apart ↦
        filter-append (is_at_port r) (given_below h past m n) (given_to h past m n)
        ∙ ap (λ l. l ++ filter (is_at_port r) (given_to h past m n)) (all-given n r (omega (arith, low, apart)))
        ∙ ap (λ l. given_to h past m r ++ l) (other-given n r (ne_eqb n r apart)) ∙ append-nil (given_to h past m r)
  ]

-- ---- next to each other ------------------------------------------------------------------------------

none-at : (q : ℕ) (burst : List Event) → filter (is_at_port q) burst ≡ [] → list_any (is_at_port q) burst ≡ false
none-at q [] none = refl
none-at q (e ∷ burst) none = elim (cases_Bool (is_at_port q e)) [
  | inl own ↦ let bad : e ∷ filter (is_at_port q) burst ≡ [] = rw own at none in cc
  | inr other ↦ rw other (none-at q burst (rw other at none))
]

block-by-port : (q : ℕ) (parts : List Transaction) → is_by_port (map (forwarding q) parts) ≡ true
block-by-port q [] = refl
block-by-port q (x ∷ []) = refl
block-by-port q (x ∷ y ∷ parts) = and_from _ _ (or_left _ _ (eq-eqb q q refl)) (block-by-port q (y ∷ parts))

block-elsewhere : (p q : ℕ) (parts : List Transaction) → (q == p) ≡ false → list_any (is_at_port p) (map (forwarding q) parts) ≡ false
block-elsewhere p q [] other = refl
block-elsewhere p q (x ∷ parts) other = rw other (block-elsewhere p q parts other)

-- an event of another port has none of its port in the block
later-none : (o : Option ℕ) (q : ℕ) (burst : List Event) (parts : List Transaction) → is_some_and o (λ p. p == q) ≡ false → is_none_or o (λ p. not (list_any (is_at_port p) burst)) ≡ true
    → is_none_or o (λ p. not (list_any (is_at_port p) (burst ++ map (forwarding q) parts))) ≡ true
later-none None q burst parts other none = refl
later-none (Some p) q burst parts other none =
    let apart : (q == p) ≡ false = ne_eqb q p (λ same. let t = eq-eqb p q (sym same) in let bad : true ≡ false = sym t ∙ other in cc) in
    ap not (list_any-append (is_at_port p) burst (map (forwarding q) parts)
    ∙ ap (λ b. b || list_any (is_at_port p) (map (forwarding q) parts)) (not-true (list_any (is_at_port p) burst) none)
    ∙ block-elsewhere p q parts apart)

nothing-later : (o : Option ℕ) → is_none_or o (λ p. not (list_any (is_at_port p) [])) ≡ true
nothing-later None = refl
nothing-later (Some p) = refl

-- a block of one port after a burst without it
by-port-with : (burst : List Event) (q : ℕ) (parts : List Transaction) → is_by_port burst ≡ true → list_any (is_at_port q) burst ≡ false → is_by_port (burst ++ map (forwarding q) parts) ≡ true
by-port-with [] q parts by none = block-by-port q parts
by-port-with (e ∷ []) q parts by none =
    let other = (or_parts (is_at_port q e) false none).0 in
    and_from _ _ (or_right (begins_at e (map (forwarding q) parts)) _ (later-none (port_of e) q [] parts other (nothing-later (port_of e)))) (block-by-port q parts)
by-port-with (e ∷ f ∷ burst) q parts by none =
    let parts_none = or_parts (is_at_port q e) (list_any (is_at_port q) (f ∷ burst)) none in
    let two = and_parts (begins_at e (f ∷ burst) || is_none_or (port_of e) (λ p. not (list_any (is_at_port p) (f ∷ burst)))) (is_by_port (f ∷ burst)) by in
    let rest = by-port-with (f ∷ burst) q parts two.1 parts_none.1 in
    and_from _ _ (elim (or_cases (begins_at e (f ∷ burst)) (is_none_or (port_of e) (λ p. not (list_any (is_at_port p) (f ∷ burst)))) two.0) [
      | inl beside ↦ or_left (begins_at e (f ∷ burst)) (is_none_or (port_of e) (λ p. not (list_any (is_at_port p) ((f ∷ burst) ++ map (forwarding q) parts)))) beside
      | inr last ↦ or_right (begins_at e (f ∷ burst)) _ (later-none (port_of e) q (f ∷ burst) parts parts_none.0 last)
    ]) rest

pub below-by-port : (h : Header) (past : Trace) (m : Message) (n : ℕ) → is_by_port (given_below h past m n) ≡ true
below-by-port h past m zero = refl
below-by-port h past m (suc n) = elim (cases_Bool (is_next_for h past m n)) [
  | inr none ↦ rw none (subst (λ l. is_by_port l ≡ true) (sym (append-nil (given_below h past m n))) (below-by-port h past m n))
  | inl next ↦
      rw next (by-port-with (given_below h past m n) n (parts_of m) (below-by-port h past m n) (none-at n (given_below h past m n) (none-given h past m n n (omega arith))))
]
