-- The clauses of K24 and K25 that are named, by the transaction for which an M writes memory.
use Rattle.std.proofs.Common.{◌≡◌, ℕ, Bool, true, false, not, ◌&&◌, ◌||◌, ◌==◌, if◌then◌else◌, Option, Some, None, is_some, refl, sym, ap, ◌∙◌}
use Rattle.std.proofs.lemmas.Bool.{false_from_ne_true}
use Rattle.ace_codes.specs.declared.kind.AwKind.{AwKind}
use Rattle.ace_codes.specs.declared.kind.AwKind.TheVariants as write
use Rattle.ace_event.specs.declared.event.Channel.{Channel}
use Rattle.ace_event.specs.declared.event.Event.{Event}
use Rattle.ace_event.specs.declared.event.Event.TheVariants.{M}
use Rattle.ace_event.specs.declared.header.Header.{Header}
use Rattle.ace_event.specs.declared.line.Line.{Line}
use Rattle.ace_model.specs.declared.transactions.Transaction.{Transaction}
use Rattle.ace_model.specs.Accepted.{IsAccepted, least_broken}
use Rattle.ace_model.specs.Copies.{same_line}
use Rattle.ace_model.specs.Grants.{are_passed_data_whole, granted, has_passed_data, is_begun, is_granted}
use Rattle.ace_model.specs.Kinds.{has_write_data, is_no_snoop_write}
use Rattle.ace_model.specs.Progress.{updates_memory}
use Rattle.ace_model.specs.Replies.{passed_data}
use Rattle.ace_model.specs.States.{are_snoops_done}
use Rattle.ace_model.specs.Trace.{Trace, implies, is_none_or, is_some_and}
use Rattle.ace_model.specs.Transactions.{is_read, outstanding, transfers, write_kind}
use Rattle.ace_model.specs.WriteRules.{data_of_write, is_update_due, is_write_due}
use Rattle.ace_model.specs.Writes.{has_memory_write, is_burst_whole}
use Rattle.ace_model.proofs.Grants.Granted.{granted_at, has_passed}
use Rattle.ace_portck.specs.Targets.{Recording, progress_of}
use Rattle.ace_portck.specs.declared.target.Progress.{Progress}
use Rattle.ace_clauses.specs.Clauses.{clause_of}
use Rattle.ace_clauses.specs.declared.letters.Letter.{Letter}
use Rattle.ace_clauses.specs.declared.letters.Letter.TheVariants as letter
use Rattle.ace_clauses.specs.WriteClauses.{is_write_unique}
use Rattle.ace_explain.specs.Names.{Names}
use Rattle.ace_explain.proofs.Broken.{has_clause, last_one, none_broken}
use Rattle.ace_explain.proofs.Owed.{passed_whole}
use Rattle.ace_explain.proofs.Written.{granted_sends}

-- how many transfers a read has had
pub read-transfers : (h : Header) (past : Trace) (x : Progress) → x ≡ progress_of h past x.transaction → is_read x.transaction.chan ≡ true
    → x.transfers ≡ transfers past x.transaction.port x.transaction.id
read-transfers h past x made reads = ap (λ (v : Progress). v.transfers) made ∙ rw reads refl

-- ---- K24 ----

-- the clause by what there is to say of the transaction
abbrev Told : (read sends granted passed whole first burst updates done written due : Bool) → Option Letter
Told read sends granted passed whole first burst updates done written due =
    if read || sends || granted
    then (if implies read passed
    then (if implies read whole
    then (if implies read first
    then (if implies (not read) burst
    then (if implies (not read && not updates) granted
    then (if implies (not read && not updates) done
    then (if implies (not read) (not written)
    then (if implies updates due then None else Some letter.I)
    else Some letter.H)
    else Some letter.G)
    else Some letter.F)
    else Some letter.E)
    else Some letter.D)
    else Some letter.C)
    else Some letter.B)
    else Some letter.A

module _ (read sends granted passed whole first burst updates done written due : Bool) where
  abbrev Here : Option Letter
  Here = Told read sends granted passed whole first burst updates done written due

  pick_a : read ≡ false → sends ≡ false → granted ≡ false → Here ≡ Some letter.A
  pick_a r d g = rw (r, d, g) refl

  pick_b : read ≡ true → passed ≡ false → Here ≡ Some letter.B
  pick_b r p = rw (r, p) refl

  pick_c : read ≡ true → updates ≡ false → passed ≡ true → first ≡ true → is_some Here ≡ true → Here ≡ Some letter.C
  pick_c r u p f some = rw (r, u, p, f) (last_one whole letter.C (rw (r, u, p, f) at some))

  pick_d : read ≡ true → passed ≡ true → whole ≡ true → first ≡ false → Here ≡ Some letter.D
  pick_d r p w f = rw (r, p, w, f) refl

  module _ (r : read ≡ false) (d : sends ≡ true) where
    pick_e : burst ≡ false → Here ≡ Some letter.E
    pick_e b = rw (r, d, b) refl

    module _ (b : burst ≡ true) where
      pick_f : (updates || granted) ≡ false → Here ≡ Some letter.F
      pick_f g = rw (r, d, b) (by updates granted g)
        where
          by : (updates granted : Bool) → (updates || granted) ≡ false
              → (if implies (not updates) granted then (if implies (not updates) done then (if not written then (if implies updates due then None else Some letter.I) else Some letter.H) else Some letter.G) else Some letter.F) ≡ Some letter.F
          by true granted g = cc
          by false true g = cc
          by false false g = refl

      module _ (g : (updates || granted) ≡ true) where
        waits : implies (not updates) granted ≡ true
        waits = by updates granted g
          where
            by : (updates granted : Bool) → (updates || granted) ≡ true → implies (not updates) granted ≡ true
            by true granted g = refl
            by false true g = refl
            by false false g = cc

        pick_g : (updates || done) ≡ false → Here ≡ Some letter.G
        pick_g n = rw (r, d, b, waits) (by updates done n)
          where
            by : (updates done : Bool) → (updates || done) ≡ false
                → (if implies (not updates) done then (if not written then (if implies updates due then None else Some letter.I) else Some letter.H) else Some letter.G) ≡ Some letter.G
            by true done n = cc
            by false true n = cc
            by false false n = refl

        module _ (n : (updates || done) ≡ true) where
          snoops : implies (not updates) done ≡ true
          snoops = by updates done n
            where
              by : (updates done : Bool) → (updates || done) ≡ true → implies (not updates) done ≡ true
              by true done n = refl
              by false true n = refl
              by false false n = cc

          pick_h : written ≡ true → Here ≡ Some letter.H
          pick_h w = rw (r, d, b, waits, snoops, w) refl

          pick_i : written ≡ false → is_some Here ≡ true → Here ≡ Some letter.I
          pick_i w some = rw (r, d, b, waits, snoops, w) (last_one (implies updates due) letter.I (rw (r, d, b, waits, snoops, w) at some))

module _ (r : Recording) where
  -- of an event that is no M
  pub k24_of_others : (e : Event) → ((p : ℕ) (c : Channel) (i : ℕ) (line : Line) → e ≡ M p c i line → ⊥) → Names r e 24 letter.A
  k24_of_others (M p c i line) m least = absurd (m p c i line refl)
  k24_of_others e m least = none_broken (has_clause r.header r.past e 24 least)

  pub k25_of_others : (e : Event) → ((p : ℕ) (c : Channel) (i : ℕ) (line : Line) → e ≡ M p c i line → ⊥) → Names r e 25 letter.A
  k25_of_others (M p c i line) m least = absurd (m p c i line refl)
  k25_of_others e m least = none_broken (has_clause r.header r.past e 25 least)

  module _ (p : ℕ) (c : Channel) (i : ℕ) (line : Line) where
    pub unnamed_m : outstanding r.header r.past p c i ≡ None → Names r (M p c i line) 24 letter.A
    unnamed_m none least = rw none refl

    pub unnamed_line : outstanding r.header r.past p c i ≡ None → Names r (M p c i line) 25 letter.A
    unnamed_line none least = none_broken (rw none at (has_clause r.header r.past (M p c i line) 25 least))

    module _ (x : Transaction) (out : outstanding r.header r.past p c i ≡ Some x) where
      abbrev At : Option Letter
      At =
          Told (is_read x.chan) (is_some_and (write_kind x) has_write_data) (is_granted r.header r.past x) (has_passed_data r.header r.past x)
          (are_passed_data_whole r.header r.past x) (transfers r.past x.port x.id == 0) (is_burst_whole r.past x) (updates_memory x)
          (are_snoops_done r.header r.past x) (has_memory_write r.past x.port x.chan x.id) (is_write_due r.header r.past x || is_update_due r.header r.past x)

      told : clause_of r.header r.past (M p c i line) 24 ≡ At
      told = rw out refl

      left : least_broken r.header r.past (M p c i line) ≡ Some 24 → is_some At ≡ true
      left least = ap is_some (sym told) ∙ has_clause r.header r.past (M p c i line) 24 least

      module _ (a : IsAccepted r.header r.past) where
        -- a read
        module _ (reads : is_read x.chan ≡ true) where
          pub unpassed_m : has_passed_data r.header r.past x ≡ false → Names r (M p c i line) 24 letter.B
          unpassed_m none least = told ∙ pick_b (is_read x.chan) (is_some_and (write_kind x) has_write_data) (is_granted r.header r.past x) (has_passed_data r.header r.past x) (are_passed_data_whole r.header r.past x) (transfers r.past x.port x.id == 0) (is_burst_whole r.past x) (updates_memory x) (are_snoops_done r.header r.past x) (has_memory_write r.past x.port x.chan x.id) (is_write_due r.header r.past x || is_update_due r.header r.past x) reads none

          module _ (passed : has_passed_data r.header r.past x ≡ true) where
            stands : granted r.header r.past x.addr ≡ Some x
            stands = granted_at r.header r.past a p c i x out (has_passed r.header r.past x passed).stands

            no_update : updates_memory x ≡ false
            no_update = rw reads refl

            pub short_passed : (transfers r.past x.port x.id == 0) ≡ true → Names r (M p c i line) 24 letter.C
            short_passed first least = told ∙ pick_c (is_read x.chan) (is_some_and (write_kind x) has_write_data) (is_granted r.header r.past x) (has_passed_data r.header r.past x) (are_passed_data_whole r.header r.past x) (transfers r.past x.port x.id == 0) (is_burst_whole r.past x) (updates_memory x) (are_snoops_done r.header r.past x) (has_memory_write r.past x.port x.chan x.id) (is_write_due r.header r.past x || is_update_due r.header r.past x) reads no_update passed first (left least)

            pub late_m : (transfers r.past x.port x.id == 0) ≡ false → Names r (M p c i line) 24 letter.D
            late_m some least =
                let begun : is_begun r.past x ≡ true = rw (reads, some) refl in
                let whole = passed_whole r.header r.past a x stands passed (λ unbegun. let bad : true ≡ false = sym begun ∙ unbegun in cc) in
                told ∙ pick_d (is_read x.chan) (is_some_and (write_kind x) has_write_data) (is_granted r.header r.past x) (has_passed_data r.header r.past x) (are_passed_data_whole r.header r.past x) (transfers r.past x.port x.id == 0) (is_burst_whole r.past x) (updates_memory x) (are_snoops_done r.header r.past x) (has_memory_write r.past x.port x.chan x.id) (is_write_due r.header r.past x || is_update_due r.header r.past x) reads passed whole some

        -- a write
        module _ (writes : is_read x.chan ≡ false) where
          pub dataless_m : is_some_and (write_kind x) has_write_data ≡ false → Names r (M p c i line) 24 letter.A
          dataless_m none least =
              let ungranted = false_from_ne_true (is_granted r.header r.past x) (λ g.
              let bad : false ≡ true = sym none ∙ granted_sends r.header r.past a p c i x out writes g in cc) in
              told ∙ pick_a (is_read x.chan) (is_some_and (write_kind x) has_write_data) (is_granted r.header r.past x) (has_passed_data r.header r.past x) (are_passed_data_whole r.header r.past x) (transfers r.past x.port x.id == 0) (is_burst_whole r.past x) (updates_memory x) (are_snoops_done r.header r.past x) (has_memory_write r.past x.port x.chan x.id) (is_write_due r.header r.past x || is_update_due r.header r.past x) writes none ungranted

          module _ (sends : is_some_and (write_kind x) has_write_data ≡ true) where
            pub short_m : is_burst_whole r.past x ≡ false → Names r (M p c i line) 24 letter.E
            short_m short least = told ∙ pick_e (is_read x.chan) (is_some_and (write_kind x) has_write_data) (is_granted r.header r.past x) (has_passed_data r.header r.past x) (are_passed_data_whole r.header r.past x) (transfers r.past x.port x.id == 0) (is_burst_whole r.past x) (updates_memory x) (are_snoops_done r.header r.past x) (has_memory_write r.past x.port x.chan x.id) (is_write_due r.header r.past x || is_update_due r.header r.past x) writes sends short

            module _ (whole : is_burst_whole r.past x ≡ true) where
              pub ungranted_m : (updates_memory x || is_granted r.header r.past x) ≡ false → Names r (M p c i line) 24 letter.F
              ungranted_m none least = told ∙ pick_f (is_read x.chan) (is_some_and (write_kind x) has_write_data) (is_granted r.header r.past x) (has_passed_data r.header r.past x) (are_passed_data_whole r.header r.past x) (transfers r.past x.port x.id == 0) (is_burst_whole r.past x) (updates_memory x) (are_snoops_done r.header r.past x) (has_memory_write r.past x.port x.chan x.id) (is_write_due r.header r.past x || is_update_due r.header r.past x) writes sends whole none

              module _ (given : (updates_memory x || is_granted r.header r.past x) ≡ true) where
                pub early_m : (updates_memory x || are_snoops_done r.header r.past x) ≡ false → Names r (M p c i line) 24 letter.G
                early_m none least = told ∙ pick_g (is_read x.chan) (is_some_and (write_kind x) has_write_data) (is_granted r.header r.past x) (has_passed_data r.header r.past x) (are_passed_data_whole r.header r.past x) (transfers r.past x.port x.id == 0) (is_burst_whole r.past x) (updates_memory x) (are_snoops_done r.header r.past x) (has_memory_write r.past x.port x.chan x.id) (is_write_due r.header r.past x || is_update_due r.header r.past x) writes sends whole given none

                module _ (done : (updates_memory x || are_snoops_done r.header r.past x) ≡ true) where
                  pub second_m : has_memory_write r.past x.port x.chan x.id ≡ true → Names r (M p c i line) 24 letter.H
                  second_m written least = told ∙ pick_h (is_read x.chan) (is_some_and (write_kind x) has_write_data) (is_granted r.header r.past x) (has_passed_data r.header r.past x) (are_passed_data_whole r.header r.past x) (transfers r.past x.port x.id == 0) (is_burst_whole r.past x) (updates_memory x) (are_snoops_done r.header r.past x) (has_memory_write r.past x.port x.chan x.id) (is_write_due r.header r.past x || is_update_due r.header r.past x) writes sends whole given done written

                  pub crossing_m : has_memory_write r.past x.port x.chan x.id ≡ false → Names r (M p c i line) 24 letter.I
                  crossing_m first least = told ∙ pick_i (is_read x.chan) (is_some_and (write_kind x) has_write_data) (is_granted r.header r.past x) (has_passed_data r.header r.past x) (are_passed_data_whole r.header r.past x) (transfers r.past x.port x.id == 0) (is_burst_whole r.past x) (updates_memory x) (are_snoops_done r.header r.past x) (has_memory_write r.past x.port x.chan x.id) (is_write_due r.header r.past x || is_update_due r.header r.past x) writes sends whole given done first (left least)

      -- ---- K25 ----

      -- by the kind of the write
      pub wrong_passed : write_kind x ≡ None → Names r (M p c i line) 25 letter.A
      wrong_passed none least =
          rw (out, none)
          (last_one (implies (is_read x.chan) (is_none_or (passed_data r.header r.past x.addr) (same_line line))) letter.A
          (rw (out, none) at (has_clause r.header r.past (M p c i line) 25 least)))

      module _ (k : AwKind) (kind : write_kind x ≡ Some k) where
        writes_it : is_read x.chan ≡ false
        writes_it = false_from_ne_true (is_read x.chan) (λ t. let bad : None ≡ Some k = rw t at kind in cc)

        pub wrong_data : (not (is_write_unique k) && not (is_no_snoop_write k)) ≡ true → Names r (M p c i line) 25 letter.B
        wrong_data own least = by k kind own (has_clause r.header r.past (M p c i line) 25 least)
          where
            by : (j : AwKind) → write_kind x ≡ Some j → (not (is_write_unique j) && not (is_no_snoop_write j)) ≡ true
                → is_some (clause_of r.header r.past (M p c i line) 25) ≡ true → clause_of r.header r.past (M p c i line) 25 ≡ Some letter.B
            by write.WriteUnique is own some = cc
            by write.WriteNoSnoop is own some = cc
            by j is own some =
                rw (out, is, writes_it) (last_one (same_line line (data_of_write r.header r.past x j)) letter.B (rw (out, is, writes_it) at some))

      pub wrong_unique : write_kind x ≡ Some write.WriteUnique → Names r (M p c i line) 25 letter.C
      wrong_unique kind least =
          let writes = writes_it write.WriteUnique kind in
          rw (out, kind, writes)
          (last_one (same_line line (data_of_write r.header r.past x write.WriteUnique)) letter.C
          (rw (out, kind, writes) at (has_clause r.header r.past (M p c i line) 25 least)))

      pub wrong_lineless : write_kind x ≡ Some write.WriteNoSnoop → Names r (M p c i line) 25 letter.D
      wrong_lineless kind least =
          let writes = writes_it write.WriteNoSnoop kind in
          rw (out, kind, writes)
          (last_one (same_line line (data_of_write r.header r.past x write.WriteNoSnoop)) letter.D
          (rw (out, kind, writes) at (has_clause r.header r.past (M p c i line) 25 least)))
