-- The clauses of K29 and K32 that are named, by what the port has of the line.
use Rattle.std.proofs.Common.{◌≡◌, ℕ, Bool, true, false, not, ◌&&◌, ◌||◌, ◌==◌, if◌then◌else◌, Option, Some, None, is_some, option_map, refl, sym, ap, ◌∙◌}
use Rattle.ace_codes.specs.declared.state.LineState.{LineState}
use Rattle.ace_event.specs.declared.event.Event.{Event}
use Rattle.ace_event.specs.declared.event.Event.TheVariants.{D, S}
use Rattle.ace_event.specs.declared.line.Line.{Line}
use Rattle.ace_tables.specs.States.{is_invalid, is_unique}
use Rattle.ace_tables.specs.SilentTransitions.{is_silent_move}
use Rattle.ace_model.specs.declared.transactions.Transaction.{Transaction}
use Rattle.ace_model.specs.Accepted.{IsAccepted, least_broken}
use Rattle.ace_model.specs.CacheRules.{wants_store}
use Rattle.ace_model.specs.Progress.{has_update}
use Rattle.ace_model.specs.States.{is_in_make_unique, state_of}
use Rattle.ace_model.specs.Trace.{is_some_and}
use Rattle.ace_model.specs.Transactions.{has_outstanding_on}
use Rattle.ace_model.specs.Values.{full_line}
use Rattle.ace_portck.specs.Targets.{Recording, own_of, own_on, progress_of}
use Rattle.ace_portck.specs.declared.target.Progress.{Progress}
use Rattle.ace_portck.proofs.Own.{awaits_own_store, in_make_unique-own}
use Rattle.ace_lineck.specs.Holders.{awaits_store}
use Rattle.ace_lineck.proofs.RuleLaws.{own-some, own-wants}
use Rattle.ace_clauses.specs.Clauses.{clause_of}
use Rattle.ace_clauses.specs.declared.letters.Letter.{Letter}
use Rattle.ace_clauses.specs.declared.letters.Letter.TheVariants as letter
use Rattle.ace_explain.specs.Names.{Names}
use Rattle.ace_explain.proofs.Broken.{has_clause, last_one, none_broken}

-- K32 by what there is to say of the port
abbrev Told : (makes alone busy wants x full : Bool) → Option Letter
Told makes alone busy wants x full =
    if makes || alone
    then (if makes || not busy
    then (if not makes || wants
    then (if not makes || not x
    then (if not makes || full then None else Some letter.E)
    else Some letter.D)
    else Some letter.C)
    else Some letter.B)
    else Some letter.A

module _ (makes alone busy wants x full : Bool) where
  abbrev Here : Option Letter
  Here = Told makes alone busy wants x full

  -- without a transaction on the line
  pick_free : makes ≡ false → busy ≡ false → is_some Here ≡ true → Here ≡ Some letter.A
  pick_free m b some = rw (m, b) (last_one alone letter.A (rw (m, b) at some))

  pick_a : makes ≡ false → alone ≡ false → Here ≡ Some letter.A
  pick_a m a = rw (m, a) refl

  pick_b : makes ≡ false → busy ≡ true → alone ≡ true → Here ≡ Some letter.B
  pick_b m b a = rw (m, b, a) refl

  pick_c : makes ≡ true → wants ≡ false → Here ≡ Some letter.C
  pick_c m w = rw (m, w) refl

  pick_d : makes ≡ true → wants ≡ true → x ≡ true → Here ≡ Some letter.D
  pick_d m w e = rw (m, w, e) refl

  pick_e : makes ≡ true → wants ≡ true → x ≡ false → is_some Here ≡ true → Here ≡ Some letter.E
  pick_e m w e some = rw (m, w, e) (last_one full letter.E (rw (m, w, e) at some))

module _ (r : Recording) where
  -- of an event that is no S, and of one that is no D
  pub k29_of_others : (e : Event) → ((p addr : ℕ) (st : LineState) → e ≡ S p addr st → ⊥) → Names r e 29 letter.A
  k29_of_others (S p addr st) s least = absurd (s p addr st refl)
  k29_of_others e s least = none_broken (has_clause r.header r.past e 29 least)

  pub k32_of_others : (e : Event) → ((p addr strobe : ℕ) (x : Bool) (line : Line) → e ≡ D p addr strobe x line → ⊥) → Names r e 32 letter.A
  k32_of_others (D p addr strobe x line) d least = absurd (d p addr strobe x line refl)
  k32_of_others e d least = none_broken (has_clause r.header r.past e 32 least)

  module _ (p addr : ℕ) (st : LineState) where
    pub loud_move : is_silent_move (state_of r.header r.past p addr) st ≡ false → Names r (S p addr st) 29 letter.A
    loud_move loud least = rw loud refl

    pub lost_update : is_silent_move (state_of r.header r.past p addr) st ≡ true → Names r (S p addr st) 29 letter.B
    lost_update silent least =
        rw silent (last_one (not (is_invalid st && has_update r.header r.past p addr)) letter.B (rw silent at (has_clause r.header r.past (S p addr st) 29 least)))

  module _ (p addr strobe : ℕ) (x : Bool) (line : Line) (a : IsAccepted r.header r.past) where
    told : clause_of r.header r.past (D p addr strobe x line) 32
        ≡ Told (is_in_make_unique r.header r.past p addr) (is_unique (state_of r.header r.past p addr)) (has_outstanding_on r.header r.past p addr)
        (wants_store r.header r.past p addr) x (strobe == full_line)
    told = refl

    left : least_broken r.header r.past (D p addr strobe x line) ≡ Some 32 → is_some (clause_of r.header r.past (D p addr strobe x line) 32) ≡ true
    left least = has_clause r.header r.past (D p addr strobe x line) 32 least

    -- the port's outstanding transaction tells whether a MakeUnique waits
    own-makes : (o : Option Progress) → own_on r.header r.past p (Some addr) ≡ o → is_in_make_unique r.header r.past p addr ≡ is_some_and o awaits_store
    own-makes o is = in_make_unique-own r.header r.past a p addr ∙ sym (by (own_of r.header r.past p addr)) ∙ ap (λ v. is_some_and v awaits_store) is
      where
        by : (w : Option Transaction) → is_some_and (option_map (progress_of r.header r.past) w) awaits_store ≡ is_some_and w (awaits_own_store r.past)
        by None = refl
        by (Some z) = refl

    pub free_store : own_on r.header r.past p (Some addr) ≡ None → Names r (D p addr strobe x line) 32 letter.A
    free_store none least =
        pick_free (is_in_make_unique r.header r.past p addr) (is_unique (state_of r.header r.past p addr)) (has_outstanding_on r.header r.past p addr)
        (wants_store r.header r.past p addr) x (strobe == full_line)
        (own-makes None none) (sym (own-some r.header r.past p addr None (sym none) a)) (left least)

    module _ (own : Progress) (is : own_on r.header r.past p (Some addr) ≡ Some own) where
      busy : has_outstanding_on r.header r.past p addr ≡ true
      busy = sym (own-some r.header r.past p addr (Some own) (sym is) a)

      module _ (other : awaits_store own ≡ false) where
        pub shared_store : is_unique (state_of r.header r.past p addr) ≡ false → Names r (D p addr strobe x line) 32 letter.A
        shared_store shared least =
            pick_a (is_in_make_unique r.header r.past p addr) (is_unique (state_of r.header r.past p addr)) (has_outstanding_on r.header r.past p addr)
            (wants_store r.header r.past p addr) x (strobe == full_line) (own-makes (Some own) is ∙ other) shared

        pub busy_store : is_unique (state_of r.header r.past p addr) ≡ true → Names r (D p addr strobe x line) 32 letter.B
        busy_store alone least =
            pick_b (is_in_make_unique r.header r.past p addr) (is_unique (state_of r.header r.past p addr)) (has_outstanding_on r.header r.past p addr)
            (wants_store r.header r.past p addr) x (strobe == full_line) (own-makes (Some own) is ∙ other) busy alone

      module _ (waits : awaits_store own ≡ true) where
        makes : is_in_make_unique r.header r.past p addr ≡ true
        makes = own-makes (Some own) is ∙ waits

        wants : wants_store r.header r.past p addr ≡ not own.stored
        wants = sym (own-wants r.header r.past p addr (Some own) (sym is) a) ∙ ap (λ b. b && not own.stored) waits

        pub second_store : own.stored ≡ true → Names r (D p addr strobe x line) 32 letter.C
        second_store had least =
            pick_c (is_in_make_unique r.header r.past p addr) (is_unique (state_of r.header r.past p addr)) (has_outstanding_on r.header r.past p addr)
            (wants_store r.header r.past p addr) x (strobe == full_line) makes (wants ∙ ap not had)

        module _ (first : own.stored ≡ false) where
          pub exclusive_store : x ≡ true → Names r (D p addr strobe x line) 32 letter.D
          exclusive_store e least =
              pick_d (is_in_make_unique r.header r.past p addr) (is_unique (state_of r.header r.past p addr)) (has_outstanding_on r.header r.past p addr)
              (wants_store r.header r.past p addr) x (strobe == full_line) makes (wants ∙ ap not first) e

          pub part_store : x ≡ false → Names r (D p addr strobe x line) 32 letter.E
          part_store e least =
              pick_e (is_in_make_unique r.header r.past p addr) (is_unique (state_of r.header r.past p addr)) (has_outstanding_on r.header r.past p addr)
              (wants_store r.header r.past p addr) x (strobe == full_line) makes (wants ∙ ap not first) e (left least)
