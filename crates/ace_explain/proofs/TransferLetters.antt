-- The clauses of K18 that are named, by the outstanding read and its snoops.
use Rattle.std.proofs.Common.{◌≡◌, ℕ, ◌+◌, Bool, true, false, not, ◌&&◌, ◌==◌, nat_lt, if◌then◌else◌, Option, Some, None, is_some, refl, sym, ap, ◌∙◌, inl, inr}
use Rattle.std.proofs.lemmas.Bool.{cases_Bool, and_parts}
use Rattle.ace_codes.specs.Responses.{passes_dirty}
use Rattle.ace_codes.specs.declared.kind.ArKind.{ArKind}
use Rattle.ace_event.specs.declared.event.Channel.TheVariants.{Read}
use Rattle.ace_event.specs.declared.event.Event.{Event}
use Rattle.ace_event.specs.declared.event.Event.TheVariants.{R}
use Rattle.ace_tables.specs.Answers.{same_test}
use Rattle.ace_model.specs.declared.transactions.Transaction.{Transaction}
use Rattle.ace_model.specs.Accepted.{IsAccepted, least_broken}
use Rattle.ace_model.specs.Grants.{are_passed_data_whole, granted, has_passed_data, is_granted}
use Rattle.ace_model.specs.Kinds.{beats_of, takes_passed_data}
use Rattle.ace_model.specs.Trace.{implies, is_none_or, is_some_and}
use Rattle.ace_model.specs.Transactions.{is_line, is_read, outstanding, read_kind, transfers}
use Rattle.ace_model.proofs.Grants.Granted.{granted_is}
use Rattle.ace_model.proofs.Holders.Law.{accepted_holds}
use Rattle.ace_model.proofs.Trace.Looks.{read_writes_none}
use Rattle.ace_portck.specs.Targets.{Recording}
use Rattle.ace_clauses.specs.Clauses.{clause_of}
use Rattle.ace_clauses.specs.ReadClauses.{are_holders_snooped, are_snoop_data_whole, are_snoops_answered, has_transfers_left, is_last_transfer}
use Rattle.ace_clauses.specs.declared.letters.Letter.{Letter}
use Rattle.ace_clauses.specs.declared.letters.Letter.TheVariants as letter
use Rattle.ace_explain.specs.Names.{Names}
use Rattle.ace_explain.proofs.Broken.{has_clause, none_broken}
use Rattle.ace_explain.proofs.Owed.{passed_whole}

-- the clause by what there is to say of the read
abbrev Told : (left counted line granted first answered sent snooped passed whole takes dirty : Bool) → Option Letter
Told left counted line granted first answered sent snooped passed whole takes dirty =
    if left
    then (if counted
    then (if implies line granted
    then (if implies (line && first) answered
    then (if implies (line && first) sent && implies (line && passed) whole
    then (if implies (line && first) snooped
    then (if implies (line && passed) takes
    then (if implies (line && passed) dirty then None else Some letter.I)
    else Some letter.H)
    else Some letter.G)
    else Some letter.F)
    else Some letter.E)
    else Some letter.D)
    else Some letter.C)
    else Some letter.B

module _ (left counted line granted first answered sent snooped passed whole takes dirty : Bool) where
  abbrev Here : Option Letter
  Here = Told left counted line granted first answered sent snooped passed whole takes dirty

  pick_b : left ≡ false → Here ≡ Some letter.B
  pick_b l = rw l refl

  module _ (l : left ≡ true) where
    pick_c : counted ≡ false → Here ≡ Some letter.C
    pick_c c = rw (l, c) refl

    module _ (c : counted ≡ true) where
      pick_d : implies line granted ≡ false → Here ≡ Some letter.D
      pick_d g = rw (l, c, g) refl

      -- without a line the rule is kept
      lineless : line ≡ false → is_some Here ≡ true → {A : Type 0} → A
      lineless n some = none_broken (rw (l, c, n) at some)

      module _ (n : line ≡ true) (g : granted ≡ true) where
        pick_e : implies first answered ≡ false → Here ≡ Some letter.E
        pick_e a = rw (l, c, n, g, a) refl

        module _ (a : implies first answered ≡ true) where
          pick_f : implies first sent ≡ false → Here ≡ Some letter.F
          pick_f s = rw (l, c, n, g, a, s) refl

          module _ (s : implies first sent ≡ true) (w : implies passed whole ≡ true) where
            pick_g : implies first snooped ≡ false → Here ≡ Some letter.G
            pick_g h = rw (l, c, n, g, a, s, w, h) refl

            module _ (h : implies first snooped ≡ true) where
              pick_h : takes ≡ false → is_some Here ≡ true → Here ≡ Some letter.H
              pick_h t some = rw (l, c, n, g, a, s, w, h, t) (by passed dirty (rw (l, c, n, g, a, s, w, h, t) at some))
                where
                  by : (passed dirty : Bool)
                      → is_some (if implies passed false then (if implies passed dirty then None else Some letter.I) else Some letter.H) ≡ true
                      → (if implies passed false then (if implies passed dirty then None else Some letter.I) else Some letter.H) ≡ Some letter.H
                  by true dirty some = refl
                  by false dirty some = none_broken some

              pick_i : takes ≡ true → is_some Here ≡ true → Here ≡ Some letter.I
              pick_i t some = rw (l, c, n, g, a, s, w, h, t) (by passed dirty (rw (l, c, n, g, a, s, w, h, t) at some))
                where
                  by : (passed dirty : Bool)
                      → is_some (if implies passed true then (if implies passed dirty then None else Some letter.I) else Some letter.H) ≡ true
                      → (if implies passed true then (if implies passed dirty then None else Some letter.I) else Some letter.H) ≡ Some letter.I
                  by true true some = none_broken some
                  by true false some = refl
                  by false dirty some = none_broken some

module _ (r : Recording) where
  -- of an event that is no R
  pub k18_of_others : (e : Event) → ((p i resp : ℕ) (last : Bool) (word : ℕ) → e ≡ R p i resp last word → ⊥) → Names r e 18 letter.A
  k18_of_others (R p i resp last word) reads least = absurd (reads p i resp last word refl)
  k18_of_others e reads least = none_broken (has_clause r.header r.past e 18 least)

  module _ (p i resp : ℕ) (last : Bool) (word : ℕ) where
    pub unnamed_r : outstanding r.header r.past p Read i ≡ None → Names r (R p i resp last word) 18 letter.A
    unnamed_r none least = rw none refl

    module _ (x : Transaction) (out : outstanding r.header r.past p Read i ≡ Some x) where
      pub unkind_r : read_kind x ≡ None → Names r (R p i resp last word) 18 letter.B
      unkind_r none least = rw (out, none) refl

      abbrev At : Option Letter
      At =
          Told (has_transfers_left r.past x) (is_none_or (read_kind x) (λ k. same_test last (is_last_transfer r.past x k))) (is_line x) (is_granted r.header r.past x) (transfers r.past x.port x.id == 0) (are_snoops_answered r.header r.past x) (are_snoop_data_whole r.header r.past x) (are_holders_snooped r.header r.past x) (has_passed_data r.header r.past x) (are_passed_data_whole r.header r.past x) (is_some_and (read_kind x) takes_passed_data) (passes_dirty resp)

      told : clause_of r.header r.past (R p i resp last word) 18 ≡ At
      told = rw out refl

      left : least_broken r.header r.past (R p i resp last word) ≡ Some 18 → is_some At ≡ true
      left least = ap is_some (sym told) ∙ has_clause r.header r.past (R p i resp last word) 18 least

      module _ (k : ArKind) (kind : read_kind x ≡ Some k) where
        reads : is_read x.chan ≡ true
        reads = (read_writes_none x k kind).1

        more : (b : Bool) → nat_lt (transfers r.past x.port x.id) (beats_of k) ≡ b → has_transfers_left r.past x ≡ b
        more b is = rw (kind, is) refl

        counts : (b : Bool) → same_test last (transfers r.past x.port x.id + 1 == beats_of k) ≡ b
            → is_none_or (read_kind x) (λ j. same_test last (is_last_transfer r.past x j)) ≡ b
        counts b is = ap (λ o. is_none_or o (λ j. same_test last (is_last_transfer r.past x j))) kind ∙ is

        may : (b : Bool) → takes_passed_data k ≡ b → is_some_and (read_kind x) takes_passed_data ≡ b
        may b is = ap (λ o. is_some_and o takes_passed_data) kind ∙ is

        pub surplus_r : nat_lt (transfers r.past x.port x.id) (beats_of k) ≡ false → Names r (R p i resp last word) 18 letter.B
        surplus_r none least = told ∙ pick_b (has_transfers_left r.past x) (is_none_or (read_kind x) (λ k. same_test last (is_last_transfer r.past x k))) (is_line x) (is_granted r.header r.past x) (transfers r.past x.port x.id == 0) (are_snoops_answered r.header r.past x) (are_snoop_data_whole r.header r.past x) (are_holders_snooped r.header r.past x) (has_passed_data r.header r.past x) (are_passed_data_whole r.header r.past x) (is_some_and (read_kind x) takes_passed_data) (passes_dirty resp) (more false none)

        module _ (some : nat_lt (transfers r.past x.port x.id) (beats_of k) ≡ true) where
          pub miscounted_r : same_test last (transfers r.past x.port x.id + 1 == beats_of k) ≡ false → Names r (R p i resp last word) 18 letter.C
          miscounted_r wrong least = told ∙ pick_c (has_transfers_left r.past x) (is_none_or (read_kind x) (λ k. same_test last (is_last_transfer r.past x k))) (is_line x) (is_granted r.header r.past x) (transfers r.past x.port x.id == 0) (are_snoops_answered r.header r.past x) (are_snoop_data_whole r.header r.past x) (are_holders_snooped r.header r.past x) (has_passed_data r.header r.past x) (are_passed_data_whole r.header r.past x) (is_some_and (read_kind x) takes_passed_data) (passes_dirty resp) (more true some) (counts false wrong)

          module _ (right : same_test last (transfers r.past x.port x.id + 1 == beats_of k) ≡ true) where
            pub ungranted_r : implies (is_line x) (is_granted r.header r.past x) ≡ false → Names r (R p i resp last word) 18 letter.D
            ungranted_r none least = told ∙ pick_d (has_transfers_left r.past x) (is_none_or (read_kind x) (λ k. same_test last (is_last_transfer r.past x k))) (is_line x) (is_granted r.header r.past x) (transfers r.past x.port x.id == 0) (are_snoops_answered r.header r.past x) (are_snoop_data_whole r.header r.past x) (are_holders_snooped r.header r.past x) (has_passed_data r.header r.past x) (are_passed_data_whole r.header r.past x) (is_some_and (read_kind x) takes_passed_data) (passes_dirty resp) (more true some) (counts true right) none

            pub lineless_r : is_line x ≡ false → (any : Letter) → Names r (R p i resp last word) 18 any
            lineless_r none any least = lineless (has_transfers_left r.past x) (is_none_or (read_kind x) (λ k. same_test last (is_last_transfer r.past x k))) (is_line x) (is_granted r.header r.past x) (transfers r.past x.port x.id == 0) (are_snoops_answered r.header r.past x) (are_snoop_data_whole r.header r.past x) (are_holders_snooped r.header r.past x) (has_passed_data r.header r.past x) (are_passed_data_whole r.header r.past x) (is_some_and (read_kind x) takes_passed_data) (passes_dirty resp) (more true some) (counts true right) none (left least)

            module _ (a : IsAccepted r.header r.past) (on : granted r.header r.past x.addr ≡ Some x) where
              line : is_line x ≡ true
              line = (and_parts (is_line x) _ ((accepted_holds r.header r.past a).grants x.addr x on).1).0

              given : is_granted r.header r.past x ≡ true
              given = granted_is r.header r.past x.addr x on refl

              pub unanswered_r : implies (transfers r.past x.port x.id == 0) (are_snoops_answered r.header r.past x) ≡ false → Names r (R p i resp last word) 18 letter.E
              unanswered_r lacks least = told ∙ pick_e (has_transfers_left r.past x) (is_none_or (read_kind x) (λ k. same_test last (is_last_transfer r.past x k))) (is_line x) (is_granted r.header r.past x) (transfers r.past x.port x.id == 0) (are_snoops_answered r.header r.past x) (are_snoop_data_whole r.header r.past x) (are_holders_snooped r.header r.past x) (has_passed_data r.header r.past x) (are_passed_data_whole r.header r.past x) (is_some_and (read_kind x) takes_passed_data) (passes_dirty resp) (more true some) (counts true right) line given lacks

              module _ (answered : implies (transfers r.past x.port x.id == 0) (are_snoops_answered r.header r.past x) ≡ true) where
                pub unsent_r : implies (transfers r.past x.port x.id == 0) (are_snoop_data_whole r.header r.past x) ≡ false → Names r (R p i resp last word) 18 letter.F
                unsent_r lacks least = told ∙ pick_f (has_transfers_left r.past x) (is_none_or (read_kind x) (λ k. same_test last (is_last_transfer r.past x k))) (is_line x) (is_granted r.header r.past x) (transfers r.past x.port x.id == 0) (are_snoops_answered r.header r.past x) (are_snoop_data_whole r.header r.past x) (are_holders_snooped r.header r.past x) (has_passed_data r.header r.past x) (are_passed_data_whole r.header r.past x) (is_some_and (read_kind x) takes_passed_data) (passes_dirty resp) (more true some) (counts true right) line given answered lacks

                module _ (sent : implies (transfers r.past x.port x.id == 0) (are_snoop_data_whole r.header r.past x) ≡ true) where
                  whole : implies (has_passed_data r.header r.past x) (are_passed_data_whole r.header r.past x) ≡ true
                  whole = elim (cases_Bool (has_passed_data r.header r.past x)) [
                    | inr none ↦ rw none refl
                    | inl passed ↦
                        let all = passed_whole r.header r.past a x on passed (λ unbegun. by (transfers r.past x.port x.id == 0) (rw reads at unbegun) sent) in
                        by_both (has_passed_data r.header r.past x) (are_passed_data_whole r.header r.past x) all
                  ]
                    where
                      by : (first : Bool) → not first ≡ false → implies first (are_snoop_data_whole r.header r.past x) ≡ true → are_snoop_data_whole r.header r.past x ≡ true
                      by true f t = t
                      by false f t = cc

                      by_both : (b c : Bool) → c ≡ true → implies b c ≡ true
                      by_both true c t = t
                      by_both false c t = refl

                  pub unsnooped_r : implies (transfers r.past x.port x.id == 0) (are_holders_snooped r.header r.past x) ≡ false → Names r (R p i resp last word) 18 letter.G
                  unsnooped_r lacks least = told ∙ pick_g (has_transfers_left r.past x) (is_none_or (read_kind x) (λ k. same_test last (is_last_transfer r.past x k))) (is_line x) (is_granted r.header r.past x) (transfers r.past x.port x.id == 0) (are_snoops_answered r.header r.past x) (are_snoop_data_whole r.header r.past x) (are_holders_snooped r.header r.past x) (has_passed_data r.header r.past x) (are_passed_data_whole r.header r.past x) (is_some_and (read_kind x) takes_passed_data) (passes_dirty resp) (more true some) (counts true right) line given answered sent whole lacks

                  module _ (snooped : implies (transfers r.past x.port x.id == 0) (are_holders_snooped r.header r.past x) ≡ true) where
                    pub untaken_r : takes_passed_data k ≡ false → Names r (R p i resp last word) 18 letter.H
                    untaken_r lacks least = told ∙ pick_h (has_transfers_left r.past x) (is_none_or (read_kind x) (λ k. same_test last (is_last_transfer r.past x k))) (is_line x) (is_granted r.header r.past x) (transfers r.past x.port x.id == 0) (are_snoops_answered r.header r.past x) (are_snoop_data_whole r.header r.past x) (are_holders_snooped r.header r.past x) (has_passed_data r.header r.past x) (are_passed_data_whole r.header r.past x) (is_some_and (read_kind x) takes_passed_data) (passes_dirty resp) (more true some) (counts true right) line given answered sent whole snooped (may false lacks) (left least)

                    pub clean_r : takes_passed_data k ≡ true → Names r (R p i resp last word) 18 letter.I
                    clean_r takes least = told ∙ pick_i (has_transfers_left r.past x) (is_none_or (read_kind x) (λ k. same_test last (is_last_transfer r.past x k))) (is_line x) (is_granted r.header r.past x) (transfers r.past x.port x.id == 0) (are_snoops_answered r.header r.past x) (are_snoop_data_whole r.header r.past x) (are_holders_snooped r.header r.past x) (has_passed_data r.header r.past x) (are_passed_data_whole r.header r.past x) (is_some_and (read_kind x) takes_passed_data) (passes_dirty resp) (more true some) (counts true right) line given answered sent whole snooped (may true takes) (left least)
