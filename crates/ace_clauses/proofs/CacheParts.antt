-- K29 to K33 are the conjunctions of their clauses.
use Rattle.std.proofs.Common.{◌≡◌, ℕ, Bool, true, false, not, ◌&&◌, ◌||◌, ◌==◌, if◌then◌else◌, [], ◌∷◌, Option, Some, is_some, refl, ap, ◌∙◌, arith, inl, inr}
use Rattle.std.proofs.lemmas.Bool.{and_parts, cases_Bool}
use Rattle.ace_event.specs.declared.event.Event.{Event}
use Rattle.ace_event.specs.declared.event.Event.TheVariants.{S, L, D}
use Rattle.ace_event.specs.declared.header.Header.{Header}
use Rattle.ace_tables.specs.SilentTransitions.{is_silent_move}
use Rattle.ace_tables.specs.States.{is_invalid, is_unique}
use Rattle.ace_model.specs.declared.transactions.Transaction.{Transaction}
use Rattle.ace_model.specs.Trace.{Trace, implies, is_none_or}
use Rattle.ace_model.specs.Transactions.{has_outstanding_on}
use Rattle.ace_model.specs.Progress.{has_update}
use Rattle.ace_model.specs.States.{state_of, awaits_store, has_store, is_in_make_unique}
use Rattle.ace_model.specs.Values.{full_line}
use Rattle.ace_model.specs.Monitors.{is_monitored}
use Rattle.ace_model.specs.CacheRules.{k29, k30, k31, k32, k33, wants_store}
use Rattle.ace_model.proofs.Trace.Growth.{some_issued-weaker}
use Rattle.ace_model.proofs.Values.Passed.{no_make_unique}
use Rattle.ace_clauses.specs.Clauses.{each_holds, clauses_of}
use Rattle.ace_clauses.specs.CacheClauses.{last_exclusive_load, has_stored_since, has_held_since}
use Rattle.ace_clauses.proofs.Parts.{all, alone}

module _ (h : Header) (past : Trace) where
  pub k29_parts : (e : Event) → k29 h past e ≡ each_holds (clauses_of 29) h past e
  k29_parts (S p addr st) = two (is_silent_move (state_of h past p addr) st) (not (is_invalid st && has_update h past p addr))
    where
      two : (a b : Bool) → (a && b) ≡ all (a ∷ b ∷ [])
      two a b = grind arith
  k29_parts _ = refl

  pub k30_parts : (e : Event) → k30 h past e ≡ each_holds (clauses_of 30) h past e
  k30_parts e = alone (k30 h past e)

  pub k31_parts : (e : Event) → k31 h past e ≡ each_holds (clauses_of 31) h past e
  k31_parts e = alone (k31 h past e)

  -- what waits for its store is in a MakeUnique
  wanted : (p l : ℕ) → wants_store h past p l ≡ true → is_in_make_unique h past p l ≡ true
  wanted p l wants =
      some_issued-weaker past (λ x. awaits_store h past p l x && not (has_store h past x.port x.id)) (awaits_store h past p l)
      (λ (x : Transaction) both. (and_parts (awaits_store h past p l x) (not (has_store h past x.port x.id)) both).0) wants

  five : (make unique out wants x full : Bool) → ((unique && not out) ≡ true → make ≡ false) → (wants ≡ true → make ≡ true)
      → (unique && not out || (wants && not x && full))
      ≡ all ((make || unique) ∷ (make || not out) ∷ implies make wants ∷ implies make (not x) ∷ implies make full ∷ [])
  five true unique out wants x full free wanted =
      elim (cases_Bool (unique && not out)) [
        | inl t ↦ let no = free t in cc
        | inr f ↦ rw f (three wants x full)
      ]
    where
      three : (wants x full : Bool) → (wants && not x && full) ≡ all (true ∷ true ∷ wants ∷ not x ∷ full ∷ [])
      three wants x full = grind arith
  five false unique out true x full free wanted = let no = wanted refl in cc
  five false unique out false x full free wanted = two unique out
    where
      two : (unique out : Bool) → (unique && not out || false) ≡ all (unique ∷ not out ∷ true ∷ true ∷ true ∷ [])
      two unique out = grind arith

  pub k32_parts : (e : Event) → k32 h past e ≡ each_holds (clauses_of 32) h past e
  k32_parts (D p addr strobe x line) =
      five (is_in_make_unique h past p addr) (is_unique (state_of h past p addr)) (has_outstanding_on h past p addr) (wants_store h past p addr) x (strobe == full_line)
      (no_make_unique h past p addr) (wanted p addr)
  k32_parts _ = refl

-- the monitor is set for a line by the last exclusive load, if it is of the line, no exclusive store came since, and the line was held
monitored : (h : Header) (past : Trace) (p l : ℕ)
    → is_monitored h past p l
    ≡ all
    (is_some (last_exclusive_load past p) ∷ is_none_or (last_exclusive_load past p) (λ loaded. l == loaded) ∷ not (has_stored_since past p)
    ∷ has_held_since h past p l ∷ [])
monitored h [] p l = refl
monitored h (L q addr w x word ∷ past) p l = loads ((p == q) && x) _ (is_monitored h past p l) _ _ _ (monitored h past p l)
  where
    loads : (new now before : Bool) (o : Option ℕ) (stored held : Bool)
        → before ≡ all (is_some o ∷ is_none_or o (λ loaded. l == loaded) ∷ not stored ∷ held ∷ [])
        → ((if new then l == addr else before) && now)
        ≡ all
        (is_some (if new then Some addr else o) ∷ is_none_or (if new then Some addr else o) (λ loaded. l == loaded) ∷ not (not new && stored)
        ∷ ((new || held) && now) ∷ [])
    loads true now before o stored held same = two (l == addr) now
      where
        two : (a b : Bool) → (a && b) ≡ all (true ∷ a ∷ true ∷ b ∷ [])
        two a b = grind arith
    loads false now before o stored held same = grind arith
monitored h (D q addr strobe x line ∷ past) p l = stores ((p == q) && x) _ _ _ _ _ _ (monitored h past p l)
  where
    stores : (new now before a b stored held : Bool) → before ≡ all (a ∷ b ∷ not stored ∷ held ∷ [])
        → ((before && not new) && now) ≡ all (a ∷ b ∷ not (new || stored) ∷ (held && now) ∷ [])
    stores new now before a b stored held same = grind arith
monitored h (e ∷ past) p l =
    others (not (is_invalid (state_of h (e ∷ past) p l))) (is_monitored h past p l) (is_some (last_exclusive_load past p))
    (is_none_or (last_exclusive_load past p) (λ loaded. l == loaded)) (has_stored_since past p) (has_held_since h past p l) (monitored h past p l)
  where
    others : (now before a b stored held : Bool) → before ≡ all (a ∷ b ∷ not stored ∷ held ∷ []) → (before && now) ≡ all (a ∷ b ∷ not stored ∷ (held && now) ∷ [])
    others now before a b stored held same = grind arith

pub k33_parts : (h : Header) (past : Trace) (e : Event) → k33 h past e ≡ each_holds (clauses_of 33) h past e
k33_parts h past (D p addr strobe x line) = ap (implies x) (monitored h past p addr) ∙ four x _ _ _ _
  where
    four : (x a b c d : Bool) → implies x (all (a ∷ b ∷ c ∷ d ∷ [])) ≡ all (implies x a ∷ implies x b ∷ implies x c ∷ implies x d ∷ [])
    four x a b c d = grind arith
k33_parts h past _ = refl
