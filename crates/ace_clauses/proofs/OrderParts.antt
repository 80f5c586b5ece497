-- K34 to K40 are the conjunctions of their clauses.
use Rattle.std.proofs.Common.{◌≡◌, ℕ, Bool, true, false, not, ◌&&◌, ◌||◌, ◌==◌, List, [], ◌∷◌, take, drop, Option, Some, None, is_some, refl, ap, subst, ◌∙◌, arith}
use Rattle.std.proofs.lemmas.Bool.{or_left}
use Rattle.std.proofs.lemmas.List.{take-append-drop}
use Rattle.std.proofs.lemmas.List.Concat.{flat_map-append}
use Rattle.std.proofs.lemmas.List.Folds.{list_any-append}
use Rattle.std.specs.List.{list_all}
use Rattle.std.specs.Option.{option_to_list}
use Rattle.ace_codes.specs.Snoops.{ac_kind_of}
use Rattle.ace_event.specs.declared.event.Channel.TheVariants.{Read, Write}
use Rattle.ace_event.specs.declared.event.Event.{Event}
use Rattle.ace_event.specs.declared.event.Event.TheVariants.{B, R, Ac}
use Rattle.ace_event.specs.declared.header.Header.{Header}
use Rattle.ace_model.specs.declared.transactions.Transaction.{Transaction}
use Rattle.ace_model.specs.Trace.{Trace, implies, is_some_and, is_none_or}
use Rattle.ace_model.specs.Kinds.{is_message_snoop, is_complete_snoop}
use Rattle.ace_model.specs.Transactions.{outstanding}
use Rattle.ace_model.specs.Progress.{is_completed}
use Rattle.ace_model.specs.Grants.{ports_below}
use Rattle.ace_model.specs.Snoops.{answers}
use Rattle.ace_model.specs.Barriers.{Pair, may_answer, is_barrier_half, is_synchronisation, pair_of}
use Rattle.ace_model.specs.Messages.{is_message_part, is_second_part, next_part, is_other_ace, has_answered, has_part, parts_among, forwarded, last_sync, is_sync_completed}
use Rattle.ace_model.specs.OrderRules.{k34, k35, k36, k37, k38, k39, k40, is_answered_by_all, has_every_completion}
use Rattle.ace_clauses.specs.Clauses.{each_holds, clauses_of}
use Rattle.ace_clauses.specs.OrderClauses.{was_forwarded, is_forwarded_to_all}
use Rattle.ace_clauses.proofs.Parts.{all, parts_if_any, alone}

module _ (h : Header) (past : Trace) where
  -- a barrier is answered where both halves were issued, and what it waits for, as a memory or a synchronisation barrier, has come
  due : (half : Bool) (o : Option Pair) (synchronises may : Pair → Bool)
      → implies half (is_some_and o may)
      ≡ all
      (implies half (is_some o) ∷ implies half (is_none_or o (λ b. implies (not (synchronises b)) (may b)))
      ∷ implies half (is_none_or o (λ b. implies (synchronises b) (may b))) ∷ [])
  due half None synchronises may = grind arith
  due half (Some b) synchronises may = two half (synchronises b) (may b)
    where
      two : (half s m : Bool) → implies half m ≡ all (implies half true ∷ implies half (implies (not s) m) ∷ implies half (implies s m) ∷ [])
      two half s m = grind arith

  pub k34_parts : (e : Event) → k34 h past e ≡ each_holds (clauses_of 34) h past e
  k34_parts (R p i resp last word) =
      parts_if_any (outstanding h past p Read i) _ (_ ∷ _ ∷ _ ∷ [])
      (λ x. due (is_barrier_half x) (pair_of past x) is_synchronisation (may_answer past x.port))
  k34_parts (B p i resp) =
      parts_if_any (outstanding h past p Write i) _ (_ ∷ _ ∷ _ ∷ [])
      (λ x. due (is_barrier_half x) (pair_of past x) is_synchronisation (may_answer past x.port))
  k34_parts _ = refl

  pub k35_parts : (e : Event) → k35 h past e ≡ each_holds (clauses_of 35) h past e
  k35_parts e = alone (k35 h past e)

  pub k36_parts : (e : Event) → k36 h past e ≡ each_holds (clauses_of 36) h past e
  k36_parts (Ac p addr snoop) =
      parts_if_any (ac_kind_of snoop) _ (_ ∷ _ ∷ _ ∷ [])
      (λ k. three (is_message_snoop k) (next_part past p) (is_second_part past) (λ x. x.addr == addr))
    where
      three : (m : Bool) (o : Option Transaction) (second next : Transaction → Bool)
          → implies (m || is_some_and o second) (m && is_some_and o next)
          ≡ all
          (implies (is_some_and o second) (implies (m || is_some_and o second) (m && is_some_and o next)) ∷ implies m (is_some o)
          ∷ implies m (is_none_or o next) ∷ [])
      three m None second next = grind arith
      three m (Some x) second next = grind arith
  k36_parts _ = refl

  -- a part that a port has answered was forwarded to it
  answered_forwarded : (x : Transaction) (p : ℕ) → has_answered past x p ≡ true → was_forwarded past x p ≡ true
  answered_forwarded x p has =
      subst (λ parts. has_part (parts_among parts) x ≡ true) (take-append-drop (answers past p) (forwarded past p))
      (ap (λ parts. has_part parts x) (flat_map-append option_to_list (take (answers past p) (forwarded past p)) (drop (answers past p) (forwarded past p)))
      ∙ list_any-append (λ y. y.place == x.place) (parts_among (take (answers past p) (forwarded past p))) (parts_among (drop (answers past p) (forwarded past p)))
      ∙ or_left _ _ has)

  -- a stronger test of each of a list says what the weaker one does as well
  both_all : {A : Type 0} → (weaker stronger : A → Bool) → ((x : A) → stronger x ≡ true → weaker x ≡ true) → (xs : List A)
      → list_all stronger xs ≡ all (list_all weaker xs ∷ list_all stronger xs ∷ [])
  both_all weaker stronger w [] = refl
  both_all weaker stronger w (x ∷ xs) = step (weaker x) (stronger x) (list_all weaker xs) (list_all stronger xs) (w x) (both_all weaker stronger w xs)
    where
      step : (a b c d : Bool) → (b ≡ true → a ≡ true) → d ≡ all (c ∷ d ∷ []) → (b && d) ≡ all ((a && c) ∷ (b && d) ∷ [])
      step a false c d w same = grind arith
      step a true c d w same = let t = w refl in rw t same

  pub k37_parts : (e : Event) → k37 h past e ≡ each_holds (clauses_of 37) h past e
  k37_parts (R p i resp last word) =
      parts_if_any (outstanding h past p Read i) _ (_ ∷ _ ∷ [])
      (λ x. ap (implies (is_message_part x)) (to_all x) ∙ two (is_message_part x) (is_forwarded_to_all h past x) (is_answered_by_all h past x))
    where
      two : (m a b : Bool) → implies m (all (a ∷ b ∷ [])) ≡ all (implies m a ∷ implies m b ∷ [])
      two m a b = grind arith

      further : (other a b : Bool) → (b ≡ true → a ≡ true) → implies other b ≡ true → implies other a ≡ true
      further true a b w e = w e
      further false a b w e = refl

      to_all : (x : Transaction) → is_answered_by_all h past x ≡ all (is_forwarded_to_all h past x ∷ is_answered_by_all h past x ∷ [])
      to_all x =
          both_all (λ q. implies (is_other_ace h x.port q) (was_forwarded past x q)) (λ q. implies (is_other_ace h x.port q) (has_answered past x q))
          (λ q. further (is_other_ace h x.port q) (was_forwarded past x q) (has_answered past x q) (answered_forwarded x q)) (ports_below h.ports)
  k37_parts _ = refl

  pub k38_parts : (e : Event) → k38 h past e ≡ each_holds (clauses_of 38) h past e
  k38_parts e = alone (k38 h past e)

  pub k39_parts : (e : Event) → k39 h past e ≡ each_holds (clauses_of 39) h past e
  k39_parts (Ac p addr snoop) =
      parts_if_any (ac_kind_of snoop) _ (_ ∷ _ ∷ _ ∷ _ ∷ _ ∷ [])
      (λ k. five (is_complete_snoop k) (addr == 0) (last_sync past p) (is_completed past) (is_sync_completed past p) (has_every_completion h past))
    where
      five : (m a : Bool) (o : Option Transaction) (c : Transaction → Bool) (d : Bool) (e : Transaction → Bool)
          → implies m (a && is_some_and o (λ x. c x && not d && e x))
          ≡ all (implies m a ∷ implies m (is_some o) ∷ implies m (is_none_or o c) ∷ implies m (is_none_or o (λ x. not d)) ∷ implies m (is_none_or o e) ∷ [])
      five m a None c d e = grind arith
      five m a (Some x) c d e = grind arith
  k39_parts _ = refl

  pub k40_parts : (e : Event) → k40 h past e ≡ each_holds (clauses_of 40) h past e
  k40_parts e = alone (k40 h past e)
