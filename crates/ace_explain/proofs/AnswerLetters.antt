-- The clauses of K16 that are named.
use Rattle.std.proofs.Common.{◌≡◌, ℕ, Bool, true, false, not, ◌&&◌, if◌then◌else◌, Option, Some, None, is_some, refl, arith}
use Rattle.ace_codes.specs.Responses.{passes_dirty}
use Rattle.ace_codes.specs.Snoops.{ac_kind_of}
use Rattle.ace_codes.specs.declared.kind.SnoopKind.{SnoopKind}
use Rattle.ace_codes.specs.declared.state.LineState.{LineState}
use Rattle.ace_event.specs.declared.event.Event.{Event}
use Rattle.ace_event.specs.declared.event.Event.TheVariants.{Cr}
use Rattle.ace_tables.specs.Answers.{is_snoop_row, goes_with_update}
use Rattle.ace_tables.specs.States.{is_invalid}
use Rattle.ace_model.specs.declared.snoops.Snoop.{Snoop}
use Rattle.ace_model.specs.Progress.{has_update}
use Rattle.ace_model.specs.Accepted.{least_broken}
use Rattle.ace_model.specs.SnoopRules.{k15}
use Rattle.ace_model.specs.Snoops.{answered}
use Rattle.ace_model.specs.States.{state_of}
use Rattle.ace_model.specs.Trace.{Trace, implies}
use Rattle.ace_portck.specs.Targets.{Recording}
use Rattle.ace_clauses.specs.SnoopClauses.{is_hit}
use Rattle.ace_clauses.specs.declared.letters.Letter.{Letter}
use Rattle.ace_clauses.specs.declared.letters.Letter.TheVariants as letter
use Rattle.ace_explain.specs.Answers.{answered_kind}
use Rattle.ace_explain.specs.Names.{Names}
use Rattle.ace_explain.proofs.Broken.{has_clause, keeps_smaller, last_one, none_broken}
use Rattle.ace_explain.proofs.Kept.{kept_of}

-- the snoop that is answered, where its kind is known
answered_of : (past : Trace) (p : ℕ) (k : SnoopKind) → answered_kind past p ≡ Some k → (s : Snoop) × (answered past p ≡ Some s) × (ac_kind_of s.snoop ≡ Some k)
answered_of past p k is = by (answered past p) refl
  where
    by : (o : Option Snoop) → answered past p ≡ o → (s : Snoop) × (answered past p ≡ Some s) × (ac_kind_of s.snoop ≡ Some k)
    by None none = let bad : None ≡ Some k = rw none at is in cc
    by (Some s) some = (s, some, rw some at is)

module _ (r : Recording) where
  -- of an event that is no CR
  pub k16_of_others : (e : Event) → ((p resp : ℕ) (st : LineState) → e ≡ Cr p resp st → ⊥) → Names r e 16 letter.A
  k16_of_others (Cr p resp st) cr least = absurd (cr p resp st refl)
  k16_of_others e cr least = none_broken (has_clause r.header r.past e 16 least)

  module _ (p resp : ℕ) (st : LineState) where
    -- K16, by the kind of the snoop: the answer is a row of the snoop, since K15 is kept
    module _ (k : SnoopKind) (kind : answered_kind r.past p ≡ Some k) where
      abbrev Told : Bool → Bool → Bool → Bool → Bool → Bool → Option Letter
      Told update hit goes passes drops row =
          if implies update (implies hit goes)
          then (if implies update (implies hit (not passes))
          then (if implies update (implies hit (not drops) && row) then None else Some letter.C) else Some letter.B)
          else Some letter.A

      to_wait : (update hit passes drops row : Bool) → row ≡ true → is_some (Told update hit false passes drops row) ≡ true
          → Told update hit false passes drops row ≡ Some letter.A
      to_wait true true passes drops row is some = refl
      to_wait true false passes drops row is some = none_broken (rw is at some)
      to_wait false hit passes drops row is some = none_broken some

      to_write : (update hit drops row : Bool) → row ≡ true → is_some (Told update hit true true drops row) ≡ true
          → Told update hit true true drops row ≡ Some letter.B
      to_write true true drops row is some = refl
      to_write true false drops row is some = none_broken (rw is at some)
      to_write false hit drops row is some = none_broken some

      to_keep : (update hit drops row : Bool) → is_some (Told update hit true false drops row) ≡ true
          → Told update hit true false drops row ≡ Some letter.C
      to_keep true true drops row some = last_one (not drops && row) letter.C some
      to_keep true false drops row some = last_one row letter.C some
      to_keep false hit drops row some = none_broken some

      -- whether an update is outstanding, and what the port holds
      abbrev updates : Snoop → Bool
      updates s = has_update r.header r.past p s.addr

      abbrev held : Snoop → LineState
      held s = state_of r.header r.past p s.addr

      is_row : (s : Snoop) → answered r.past p ≡ Some s → ac_kind_of s.snoop ≡ Some k
          → least_broken r.header r.past (Cr p resp st) ≡ Some 16 → is_snoop_row k (held s) false resp st ≡ true
      is_row s is of least =
          rw (is, of) at (kept_of (k15 r.header r.past (Cr p resp st)) (keeps_smaller r.header r.past (Cr p resp st) 16 least 15 (omega arith)))

      pub waiting_snoop : goes_with_update k ≡ false → Names r (Cr p resp st) 16 letter.A
      waiting_snoop goes least =
          let s = answered_of r.past p k kind in
          rw (s.1, s.2, goes)
          (to_wait (updates s.0) (is_hit k (held s.0)) (passes_dirty resp) (is_invalid st) (is_snoop_row k (held s.0) false resp st)
          (is_row s.0 s.1 s.2 least) (rw (s.1, s.2, goes) at (has_clause r.header r.past (Cr p resp st) 16 least)))

      pub passed_beside : goes_with_update k ≡ true → passes_dirty resp ≡ true → Names r (Cr p resp st) 16 letter.B
      passed_beside goes passes least =
          let s = answered_of r.past p k kind in
          rw (s.1, s.2, goes, passes)
          (to_write (updates s.0) (is_hit k (held s.0)) (is_invalid st) (is_snoop_row k (held s.0) false resp st)
          (is_row s.0 s.1 s.2 least) (rw (s.1, s.2, goes, passes) at (has_clause r.header r.past (Cr p resp st) 16 least)))

      pub given_up_beside : goes_with_update k ≡ true → passes_dirty resp ≡ false → Names r (Cr p resp st) 16 letter.C
      given_up_beside goes passes least =
          let s = answered_of r.past p k kind in
          rw (s.1, s.2, goes, passes)
          (to_keep (updates s.0) (is_hit k (held s.0)) (is_invalid st) (is_snoop_row k (held s.0) false resp st)
          (rw (s.1, s.2, goes, passes) at (has_clause r.header r.past (Cr p resp st) 16 least)))
