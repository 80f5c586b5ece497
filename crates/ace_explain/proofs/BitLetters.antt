-- The clauses of K19 that are named, by the outstanding read, where K18 is kept.
use Rattle.std.proofs.Common.{◌≡◌, ℕ, Bool, true, false, ◌&&◌, ◌||◌, ◌==◌, Option, Some, None, refl, sym, ap, ◌∙◌, inl, inr, arith}
use Rattle.std.proofs.lemmas.Bool.{and_parts, cases_Bool, false_from_ne_true}
use Rattle.ace_codes.specs.Responses.{passes_dirty, is_shared}
use Rattle.ace_codes.specs.declared.kind.ArKind.{ArKind}
use Rattle.ace_codes.specs.declared.kind.ArKind.TheVariants as read
use Rattle.ace_event.specs.declared.event.Channel.TheVariants.{Read}
use Rattle.ace_event.specs.declared.event.Event.{Event}
use Rattle.ace_event.specs.declared.event.Event.TheVariants.{R}
use Rattle.ace_model.specs.declared.transactions.Transaction.{Transaction}
use Rattle.ace_model.specs.Accepted.{IsAccepted, least_broken}
use Rattle.ace_model.specs.Grants.{granted, has_passed_data, is_granted}
use Rattle.ace_model.specs.Kinds.{is_line_read, may_be_shared}
use Rattle.ace_model.specs.ReadRules.{k18, must_be_shared, same_upper_bits}
use Rattle.ace_model.specs.Trace.{implies, is_none_or, is_some_and}
use Rattle.ace_model.specs.Transactions.{first_resp, is_ace, is_line, outstanding, read_kind}
use Rattle.ace_model.proofs.Grants.Granted.{granted_at}
use Rattle.ace_model.proofs.Holders.Law.{accepted_holds}
use Rattle.ace_portck.specs.Targets.{Recording}
use Rattle.ace_clauses.specs.ReadClauses.{has_not_both}
use Rattle.ace_clauses.specs.declared.letters.Letter.TheVariants as letter
use Rattle.ace_explain.specs.Names.{Names}
use Rattle.ace_explain.proofs.Broken.{has_clause, keeps_smaller, last_one, none_broken}
use Rattle.ace_explain.proofs.Kept.{kept_of}

-- a read without a line may not be shared
never_shared : (k : ArKind) → is_line_read k ≡ false → may_be_shared k ≡ false
never_shared read.Barrier line = refl
never_shared read.DvmMessage line = refl
never_shared read.DvmComplete line = refl
never_shared k line = cc

no_line_read : (x : Transaction) (k : ArKind) → read_kind x ≡ Some k → is_line x ≡ false → is_line_read k ≡ false
no_line_read x k kind none =
    false_from_ne_true (is_line_read k) (λ t. let bad : true ≡ false = rw (kind, t) at none in cc)

module _ (r : Recording) where
  -- of an event that is no R
  pub k19_of_others : (e : Event) → ((p i resp : ℕ) (last : Bool) (word : ℕ) → e ≡ R p i resp last word → ⊥) → Names r e 19 letter.A
  k19_of_others (R p i resp last word) reads least = absurd (reads p i resp last word refl)
  k19_of_others e reads least = none_broken (has_clause r.header r.past e 19 least)

  module _ (p i : ℕ) (x : Transaction) (out : outstanding r.header r.past p Read i ≡ Some x) where
    module _ (a : IsAccepted r.header r.past) where
      -- a transaction without a line isn't granted
      pub ungranted : is_line x ≡ false → is_granted r.header r.past x ≡ false
      ungranted none =
          false_from_ne_true (is_granted r.header r.past x)
          (λ t. let on = ((accepted_holds r.header r.past a).grants x.addr x (granted_at r.header r.past a p Read i x out t)).1 in
          let bad : true ≡ false = sym (and_parts (is_line x) (x.addr == x.addr) on).0 ∙ none in cc)

      pub passed-without : is_line x ≡ false → has_passed_data r.header r.past x ≡ false
      passed-without none = rw (ungranted none) refl

      module _ (may : implies (is_line x) (is_granted r.header r.past x) ≡ true) (line : is_line x ≡ true) where
        pub granted-here : granted r.header r.past x.addr ≡ Some x
        granted-here = granted_at r.header r.past a p Read i x out (rw line at may)

        pub passed-with : is_some_and (granted r.header r.past x.addr) (has_passed_data r.header r.past) ≡ has_passed_data r.header r.past x
        passed-with = ap (λ o. is_some_and o (has_passed_data r.header r.past)) granted-here

    pub shared-without : is_line x ≡ false → is_some_and (read_kind x) (must_be_shared r.header r.past x) ≡ false
    shared-without none = by (read_kind x) refl
      where
        by : (o : Option ArKind) → read_kind x ≡ o → is_some_and o (must_be_shared r.header r.past x) ≡ false
        by None is = refl
        by (Some k) is = elim (cases_Bool (is_ace r.header x.port)) [
          | inl t ↦ rw (t, never_shared k (no_line_read x k is none)) refl
          | inr f ↦ rw f refl
        ]

    module _ (resp : ℕ) (last : Bool) (word : ℕ) (k : ArKind) (kind : read_kind x ≡ Some k) where
      -- K18 is kept
      pub may_come : least_broken r.header r.past (R p i resp last word) ≡ Some 19 → implies (is_line x) (is_granted r.header r.past x) ≡ true
      may_come least =
          let kept = kept_of (k18 r.header r.past (R p i resp last word)) (keeps_smaller r.header r.past (R p i resp last word) 19 least 18 (omega arith)) in
          by (is_line x) (is_granted r.header r.past x) _ _ (and_parts _ _ (rw out at kept)).1
        where
          by : (line grant snoops passed : Bool) → implies line (grant && snoops && passed) ≡ true → implies line grant ≡ true
          by false grant snoops passed t = refl
          by true true snoops passed t = refl
          by true false snoops passed t = cc

      pub unpassed : implies (passes_dirty resp) (has_passed_data r.header r.past x) ≡ false → Names r (R p i resp last word) 19 letter.A
      unpassed fits least = rw (out, fits) refl

      module _ (one : implies (passes_dirty resp) (has_passed_data r.header r.past x) ≡ true) where
        pub unsharing : implies (is_shared resp) (may_be_shared k) ≡ false → Names r (R p i resp last word) 19 letter.B
        unsharing fits least = rw (out, one, kind, fits) refl

        module _ (two : implies (is_shared resp) (may_be_shared k) ≡ true) where
          pub both_bits : has_not_both resp k ≡ false → Names r (R p i resp last word) 19 letter.C
          both_bits fits least = rw (out, one, kind, two, fits) refl

          module _ (three : has_not_both resp k ≡ true) where
            pub of_lite : implies (passes_dirty resp || is_shared resp) (is_ace r.header x.port) ≡ false → Names r (R p i resp last word) 19 letter.D
            of_lite fits least = rw (out, one, kind, two, three, fits) refl

            module _ (four : implies (passes_dirty resp || is_shared resp) (is_ace r.header x.port) ≡ true) where
              pub untold : implies (must_be_shared r.header r.past x k) (is_shared resp) ≡ false → Names r (R p i resp last word) 19 letter.E
              untold fits least = rw (out, one, kind, two, three, four, fits) refl

              pub unlike_first_bits : implies (must_be_shared r.header r.past x k) (is_shared resp) ≡ true → Names r (R p i resp last word) 19 letter.F
              unlike_first_bits fits least =
                  rw (out, one, kind, two, three, four, fits)
                  (last_one (is_none_or (first_resp r.past x.port x.id) (same_upper_bits resp)) letter.F
                  (rw (out, one, kind, two, three, four, fits) at (has_clause r.header r.past (R p i resp last word) 19 least)))
