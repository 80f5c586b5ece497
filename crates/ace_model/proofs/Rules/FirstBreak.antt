-- The first break that the definition computes is the one that its sentence names.
use Rattle.std.proofs.Common.{◌≡◌, subst, ◌⊎◌, ℕ, zero, suc, ◌+◌, ◌<◌, true, List, [], ◌∷◌, ◌++◌, length, take, slice_get, reverse, Option, Some, None, refl, arith, inl, inr, ap, sym, ◌∙◌, append_assoc, append-nil}
use Rattle.std.proofs.lemmas.Bool.{cases_lt}
use Rattle.std.proofs.lemmas.List.{reverse-append}
use mathlib.Core.List.{reverse_aux}
use Rattle.ace_model.proofs.Terms.{Event, Header, Break, Trace, Rule, AreInOrder, breaks_of, least_of, IsAcceptedBy, break_or, first_break_after, first_break_by, BreaksAt, FirstBreakBy}
use Rattle.ace_model.proofs.General.Options.{Some-injective}
use Rattle.ace_model.proofs.Rules.Least.{least_of_is_least, none_is_broken}

-- the break is that of the first event, or a later one
now_or_later : (n : ℕ) (o : Option ℕ) (later : Option Break) (b : Break) → break_or n o later ≡ Some b → ((o ≡ Some b.rule) × (b.index ≡ n)) ⊎ ((o ≡ None) × (later ≡ Some b))
now_or_later n (Some k) later b e = inl (cc, cc)
now_or_later n None later b e = inr (refl, e)

neither : (n : ℕ) (o : Option ℕ) (later : Option Break) → break_or n o later ≡ None → (o ≡ None) × (later ≡ None)
neither n (Some k) later e = cc
neither n None later e = (refl, e)

neither_less : (n m : ℕ) → (n < m → ⊥) → (m < n → ⊥) → n ≡ m
neither_less n m a b =
    elim (cases_lt n m) [
      | inl less ↦ absurd (a less)
      | inr most ↦ elim (cases_lt m n) [
        | inl less ↦ absurd (b less)
        | inr least ↦ omega arith
      ]
    ]

same_break : (a b : Break) → a.index ≡ b.index → a.rule ≡ b.rule → a ≡ b
same_break a b e f =
    let at_index : ℕ → Break = λ i. record { index = i; rule = a.rule } in
    let at_rule : ℕ → Break = λ r. record { index = b.index; rule = r } in
    ap at_index e ∙ ap at_rule f

module _ (rs : List Rule) (h : Header) where
  -- after `past`, the event with n events before it in the list breaks rule k
  abbrev BreaksAfter : Trace → List Event → ℕ → ℕ → Type 0
  BreaksAfter past events n k = (e : Event) × (slice_get events n ≡ Some e) × (breaks_of rs h (reverse_aux (take n events) past) e k ≡ true)

  broken_first : (past : Trace) (e : Event) (events : List Event) (k : ℕ) → BreaksAfter past (e ∷ events) 0 k → breaks_of rs h past e k ≡ true
  broken_first past e events k b = subst (λ (x : Event). breaks_of rs h past x k ≡ true) (sym (Some-injective e b.0 b.1)) b.2

  -- it is the first of the list that breaks a rule, and the rule is the least
  record FirstAfter (past : Trace) (events : List Event) (b : Break) : Type 0 where
    before : ℕ
    number : b.index ≡ length past + before + 1
    broken : BreaksAfter past events before b.rule
    least_number : (n j : ℕ) → n < before → BreaksAfter past events n j → ⊥
    least_rule : (j : ℕ) → j < b.rule → BreaksAfter past events before j → ⊥

  earlier_or_rest : (past : Trace) (e : Event) (events : List Event) (m n j : ℕ) → least_of rs h past e ≡ None
      → ((n' j' : ℕ) → n' < m → BreaksAfter (e ∷ past) events n' j' → ⊥) → n < suc m → BreaksAfter past (e ∷ events) n j → ⊥
  earlier_or_rest past e events m zero j none rest below b = none_is_broken h past e rs j none (broken_first past e events j b)
  earlier_or_rest past e events m (suc n) j none rest below b = rest n j (omega arith) b

  first_after : (past : Trace) (events : List Event) (b : Break) → AreInOrder rs → first_break_after rs h past events ≡ Some b → FirstAfter past events b
  first_after past [] b order f = cc
  first_after past (e ∷ events) b order f =
      elim (now_or_later (length past + 1) (least_of rs h past e) (first_break_after rs h (e ∷ past) events) b f) [
        | inl now ↦
            let i = least_of_is_least h past e rs b.rule order now.0 in
            record {
              before = 0;
              number = omega arith;
              broken = (e, refl, i.broken);
              least_number = λ n j below _. absurd (omega arith);
              least_rule = λ j below at. let most = i.least j (broken_first past e events j at) in absurd (omega arith);
            }
        | inr later ↦
            let i = first_after (e ∷ past) events b order later.1 in
            record {
              before = suc i.before;
              number = omega arith;
              broken = i.broken;
              least_number = λ n j below at. earlier_or_rest past e events i.before n j later.0 i.least_number below at;
              least_rule = λ j below at. i.least_rule j below at;
            }
      ]

  -- where there is no break, no event of the list breaks a rule
  no_break_after : (past : Trace) (events : List Event) (n k : ℕ) → first_break_after rs h past events ≡ None → BreaksAfter past events n k → ⊥
  no_break_after past [] n k f b = let none = b.1 in cc
  no_break_after past (e ∷ events) n k f b =
      let none = neither (length past + 1) (least_of rs h past e) (first_break_after rs h (e ∷ past) events) f in
      earlier_or_rest past e events (suc n) n k none.0 (λ m j below at. no_break_after (e ∷ past) events m j none.1 at) (omega arith) b

  -- the break that is computed is the first break
  pub first_break_is_first : (events : List Event) (b : Break) → AreInOrder rs → first_break_by rs h events ≡ Some b → FirstBreakBy rs h events b.index b.rule
  first_break_is_first events b order f =
      let i = first_after [] events b order f in
      record { before = i.before; number = omega arith; broken = i.broken; least_number = i.least_number; least_rule = i.least_rule }

  some_of : (events : List Event) (o : Option Break) (n k : ℕ) → first_break_by rs h events ≡ o → BreaksAt rs h events n k → (b : Break) × (first_break_by rs h events ≡ Some b)
  some_of events None n k f at = absurd (no_break_after [] events n k f at)
  some_of events (Some b) n k f at = (b, f)

  -- there is one first break at most
  same_before : (events : List Event) (i j k l : ℕ) (a : FirstBreakBy rs h events i k) (b : FirstBreakBy rs h events j l) → a.before ≡ b.before
  same_before events i j k l a b =
      neither_less a.before b.before (λ less. b.least_number a.before k less a.broken) (λ less. a.least_number b.before l less b.broken)

  same_rule : (events : List Event) (i j k l : ℕ) (a : FirstBreakBy rs h events i k) (b : FirstBreakBy rs h events j l) → k ≡ l
  same_rule events i j k l a b =
      let same : a.before ≡ b.before = same_before events i j k l a b in
      neither_less k l (λ less. b.least_rule k less (rw (← same) a.broken)) (λ less. a.least_rule l less (rw same b.broken))

  -- and the first break is the one that is computed
  pub first_is_first_break : (events : List Event) (b : Break) → AreInOrder rs → FirstBreakBy rs h events b.index b.rule → first_break_by rs h events ≡ Some b
  first_is_first_break events b order i =
      let found = some_of events (first_break_by rs h events) i.before b.rule refl i.broken in
      let j = first_break_is_first events found.0 order found.1 in
      let place = same_before events b.index found.0.index b.rule found.0.rule i j in
      let number : found.0.index ≡ b.index = let n = i.number in let m = j.number in omega arith in
      found.1 ∙ ap Some (same_break found.0 b number (sym (same_rule events b.index found.0.index b.rule found.0.rule i j)))

  accepted_after : (past : Trace) (events : List Event) → IsAcceptedBy rs h past → first_break_after rs h past events ≡ None → IsAcceptedBy rs h (reverse_aux events past)
  accepted_after past [] a f = a
  accepted_after past (e ∷ events) a f =
      let parts = neither (length past + 1) (least_of rs h past e) (first_break_after rs h (e ∷ past) events) f in
      accepted_after (e ∷ past) events (a, parts.0) parts.1

  -- where there is no break, the trace is accepted
  pub no_break_accepted : (events : List Event) → first_break_by rs h events ≡ None → IsAcceptedBy rs h (reverse events)
  no_break_accepted events f = accepted_after [] events tt f

  -- after an accepted trace, the first break is the first of what comes after it
  pub first_break-accepted : (past : Trace) (rest : List Event) → IsAcceptedBy rs h past → first_break_by rs h (reverse past ++ rest) ≡ first_break_after rs h past rest
  first_break-accepted [] rest a = refl
  first_break-accepted (e ∷ past) rest a =
      ap (λ l. first_break_by rs h (l ++ rest)) (reverse-append (e ∷ []) past)
      ∙ ap (first_break_by rs h) (append_assoc (reverse past) (e ∷ []) rest)
      ∙ first_break-accepted past (e ∷ rest) a.0
      ∙ ap (λ b. break_or (length past + 1) b (first_break_after rs h (e ∷ past) rest)) a.1

  -- an accepted trace has no break
  pub accepted_no_break : (past : Trace) → IsAcceptedBy rs h past → first_break_by rs h (reverse past) ≡ None
  accepted_no_break past a = ap (first_break_by rs h) (sym (append-nil (reverse past))) ∙ first_break-accepted past [] a

  -- an event that breaks a rule after an accepted trace is its first break
  pub next_breaks : (past : Trace) (e : Event) (k : ℕ) → IsAcceptedBy rs h past → least_of rs h past e ≡ Some k
      → first_break_by rs h (reverse past ++ e ∷ []) ≡ Some (record { index = length past + 1; rule = k })
  next_breaks past e k a broken = first_break-accepted past (e ∷ []) a ∙ ap (λ b. break_or (length past + 1) b None) broken
