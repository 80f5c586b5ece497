-- The clauses of K23 that are named, by the read that an RK acknowledges.
use Rattle.std.proofs.Common.{◌≡◌, ℕ, Bool, true, false, not, ◌&&◌, ◌||◌, ◌==◌, if◌then◌else◌, Option, Some, None, option_map, unwrap_or, refl, sym, ap, ◌∙◌, inl, inr}
use Rattle.std.proofs.lemmas.Bool.{cases_Bool}
use Rattle.ace_codes.specs.Responses.{is_shared, passes_dirty}
use Rattle.ace_codes.specs.declared.kind.ArKind.{ArKind}
use Rattle.ace_codes.specs.declared.kind.ArKind.TheVariants.{MakeUnique}
use Rattle.ace_codes.specs.declared.state.LineState.{LineState}
use Rattle.ace_codes.specs.declared.state.LineState.TheVariants.{I, UC, UD, SC, SD}
use Rattle.ace_event.specs.declared.event.Channel.TheVariants.{Read}
use Rattle.ace_event.specs.declared.event.Event.{Event}
use Rattle.ace_event.specs.declared.event.Event.TheVariants.{Rk, S}
use Rattle.ace_tables.specs.EndStates.{ends_read}
use Rattle.ace_tables.specs.SilentTransitions.{is_silent_move}
use Rattle.ace_tables.specs.States.{is_invalid, is_unique}
use Rattle.ace_model.specs.Accepted.{least_of}
use Rattle.ace_model.specs.Exclusives.{has_failed}
use Rattle.ace_model.specs.Kinds.{is_line_read, is_make_unique}
use Rattle.ace_model.specs.Shares.{line_rules}
use Rattle.ace_model.specs.States.{state_of, has_store}
use Rattle.ace_model.specs.Trace.{implies, is_some_and}
use Rattle.ace_model.specs.Transactions.{acknowledged, first_resp, is_ace, is_read, read_kind}
use Rattle.ace_portck.specs.Targets.{Recording, progress_of}
use Rattle.ace_portck.specs.declared.target.Progress.{Progress}
use Rattle.ace_lineck.proofs.BeatLaws.{progress-from, progress-is}
use Rattle.ace_lineck.proofs.ReplyLaws.{kind-line}
use Rattle.ace_clauses.specs.Clauses.{clause_of}
use Rattle.ace_clauses.specs.ReadClauses.{ends_in}
use Rattle.ace_clauses.specs.declared.letters.Letter.TheVariants as letter
use Rattle.ace_explain.specs.Names.{Names}
use Rattle.ace_explain.proofs.Broken.{has_clause, last_one, none_broken}

-- ---- the state that is held ----

-- a port may move silently where the rule that is told of its S isn't K29
pub moves-where-fine : (r : Recording) (p l : ℕ) (st : LineState) (told : Option ℕ) → told ≡ least_of line_rules r.header r.past (S p l st) → is_invalid st ≡ false
    → not (is_some_and told (λ n. n == 29)) ≡ is_silent_move (state_of r.header r.past p l) st
moves-where-fine r p l st told same valid =
    ap (λ o. not (is_some_and o (λ n. n == 29))) same ∙ rw valid (by (is_silent_move (state_of r.header r.past p l) st))
  where
    by : (moves : Bool) → not (is_some_and (if moves && true then None else Some 29) (λ n. n == 29)) ≡ moves
    by true = refl
    by false = refl

pub alone-where-moves : (held : LineState) → (is_silent_move held SC || is_silent_move held SD) ≡ is_unique held
alone-where-moves UC = refl
alone-where-moves UD = refl
alone-where-moves held = refl

-- of the state that a MakeUnique finds it matters alone whether it is UC or UD
pub alike-ends : (held : LineState) (shared pass one two : Bool) (st : LineState)
    → ends_read MakeUnique (if is_unique held then UC else I) shared pass one st ≡ ends_read MakeUnique held shared pass two st
alike-ends I true true one two st = refl
alike-ends I true false one two st = refl
alike-ends I false true one two st = refl
alike-ends I false false one two st = refl
alike-ends UC shared pass one two st = refl
alike-ends UD shared pass one two st = refl
alike-ends SC true true one two st = refl
alike-ends SC true false one two st = refl
alike-ends SC false true one two st = refl
alike-ends SC false false one two st = refl
alike-ends SD true true one two st = refl
alike-ends SD true false one two st = refl
alike-ends SD false true one two st = refl
alike-ends SD false false one two st = refl

pub ends-alike : (held told : LineState) (alone shared pass one two : Bool) (st : LineState) → alone ≡ is_unique held → told ≡ (if alone then UC else I)
    → ends_read MakeUnique told shared pass one st ≡ ends_read MakeUnique held shared pass two st
ends-alike held told alone shared pass one two st is same =
    ap (λ v. ends_read MakeUnique v shared pass one st) (same ∙ ap (λ b. if b then UC else I) is) ∙ alike-ends held shared pass one two st

-- ---- the letters ----

module _ (r : Recording) where
  -- of an event that is no RK
  pub k23_of_others : (e : Event) → ((p : ℕ) (st : LineState) → e ≡ Rk p st → ⊥) → Names r e 23 letter.A
  k23_of_others (Rk p st) rk least = absurd (rk p st refl)
  k23_of_others e rk least = none_broken (has_clause r.header r.past e 23 least)

  module _ (p : ℕ) (st : LineState) (x : Progress) (k : ArKind)
      (own : option_map (progress_of r.header r.past) (if is_ace r.header p then acknowledged r.past p Read else None) ≡ Some x) (kind : read_kind x.transaction ≡ Some k) where
    -- the read, and how far it has come
    of_ace : (b : Bool) → option_map (progress_of r.header r.past) (if b then acknowledged r.past p Read else None) ≡ Some x
        → (acknowledged r.past p Read ≡ Some x.transaction) × (x ≡ progress_of r.header r.past x.transaction)
    of_ace true is = (progress-from r.header r.past _ x is, progress-is r.header r.past _ x is)
    of_ace false is = cc

    ack : acknowledged r.past p Read ≡ Some x.transaction
    ack = (of_ace (is_ace r.header p) own).0

    far : x ≡ progress_of r.header r.past x.transaction
    far = (of_ace (is_ace r.header p) own).1

    reads : is_read x.transaction.chan ≡ true
    reads = elim (cases_Bool (is_read x.transaction.chan)) [ inl t ↦ t | inr f ↦ let bad : None ≡ Some k = rw f at kind in cc ]

    stored : x.stored ≡ has_store r.header r.past x.transaction.port x.transaction.id
    stored = ap (λ (v : Progress). v.stored) far ∙ ap (λ b. b && has_store r.header r.past x.transaction.port x.transaction.id) reads

    no_make : (j : ArKind) → is_line_read j ≡ false → is_make_unique j ≡ false
    no_make MakeUnique line = cc
    no_make j line = refl

    pub end_without_line : is_line_read k ≡ false → Names r (Rk p st) 23 letter.C
    end_without_line line least =
        rw (ack, kind, line, no_make k line)
        (last_one _ letter.C (rw (ack, kind, line, no_make k line) at (has_clause r.header r.past (Rk p st) 23 least)))

    module _ (line : is_line_read k ≡ true) where
      has_it : (make store : Bool) → (make && not store) ≡ false → implies make store ≡ true
      has_it true true has = refl
      has_it true false has = cc
      has_it false store has = refl

      pub wrong_end : (is_make_unique k && not x.stored) ≡ false → Names r (Rk p st) 23 letter.A
      wrong_end has least =
          let kept : implies (is_make_unique k) (has_store r.header r.past x.transaction.port x.transaction.id) ≡ true =
          ap (implies (is_make_unique k)) (sym stored) ∙ has_it (is_make_unique k) x.stored has in
          rw (ack, kind, line, kept)
          (last_one _ letter.A (rw (ack, kind, line, kept) at (has_clause r.header r.past (Rk p st) 23 least)))

      module _ (lacks : (is_make_unique k && not x.stored) ≡ true) where
        lacks_it : (make store : Bool) → (make && not store) ≡ true → implies make store ≡ false
        lacks_it true true lacks = cc
        lacks_it true false lacks = refl
        lacks_it false store lacks = cc

        broken : implies (is_make_unique k) (has_store r.header r.past x.transaction.port x.transaction.id) ≡ false
        broken = ap (implies (is_make_unique k)) (sym stored) ∙ lacks_it (is_make_unique k) x.stored lacks

        makes : (j : ArKind) → (is_make_unique j && not x.stored) ≡ true → j ≡ MakeUnique
        makes MakeUnique some = refl
        makes j some = cc

        -- the bits of the first response
        bit : (test : ℕ → Bool) → test 0 ≡ false → test x.response ≡ is_some_and (first_resp r.past x.transaction.port x.transaction.id) test
        bit test zero_has_none =
            ap (λ (v : Progress). test v.response) far
            ∙ rw reads (by (first_resp r.past x.transaction.port x.transaction.id))
          where
            by : (o : Option ℕ) → test (unwrap_or o 0) ≡ is_some_and o test
            by None = zero_has_none
            by (Some n) = refl

        ends : ends_in r.header r.past st x.transaction k
            ≡ ends_read MakeUnique (state_of r.header r.past x.transaction.port x.transaction.addr) (is_shared x.response) (passes_dirty x.response) (has_failed r.past x.transaction) st
        ends =
            rw (bit is_shared refl, bit passes_dirty refl, makes k lacks, kind-line x.transaction k kind line) refl

        told : clause_of r.header r.past (Rk p st) 23
            ≡ (if ends_in r.header r.past st x.transaction k
            then (if implies (is_make_unique k) (has_store r.header r.past x.transaction.port x.transaction.id) then None else Some letter.B)
            else Some letter.A)
        told = rw (ack, kind, line) refl

        pub early_end : ends_read MakeUnique (state_of r.header r.past x.transaction.port x.transaction.addr) (is_shared x.response) (passes_dirty x.response) (has_failed r.past x.transaction) st ≡ true
            → Names r (Rk p st) 23 letter.B
        early_end does least = told ∙ rw (ends ∙ does, broken) refl

        pub wrong_end_early : ends_read MakeUnique (state_of r.header r.past x.transaction.port x.transaction.addr) (is_shared x.response) (passes_dirty x.response) (has_failed r.past x.transaction) st ≡ false
            → Names r (Rk p st) 23 letter.A
        wrong_end_early doesnt least = told ∙ rw (ends ∙ doesnt) refl
