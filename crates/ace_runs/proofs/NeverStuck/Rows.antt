-- A snoop of a port has a row, or is of a line on which a memory update of the port is outstanding: every line snoop has a row in
-- every state where there is none.
use Rattle.std.proofs.Common.{◌≡◌, ◌⊎◌, ℕ, Bool, true, false, not, ◌||◌, ◌==◌, [], ◌∷◌, length, Some, is_some, nat_lt, slice_get, refl, sym, subst, inl, inr}
use Rattle.std.proofs.lemmas.Bool.{and_parts, cases_Bool, eqb-true, or_left}
use Rattle.ace_codes.specs.declared.kind.SnoopKind.{SnoopKind}
use Rattle.ace_codes.specs.declared.kind.SnoopKind.TheVariants as snoop
use Rattle.ace_codes.specs.declared.state.LineState.{LineState}
use Rattle.ace_codes.specs.declared.state.LineState.TheVariants.{I, UC, UD, SC, SD}
use Rattle.ace_codes.specs.Snoops.{ac_kind_of}
use Rattle.ace_tables.specs.Answers.{snoop_rows, rows_to, rows_among}
use Rattle.ace_event.specs.declared.event.Event.{Event}
use Rattle.ace_event.specs.declared.event.Event.TheVariants.{Ac}
use Rattle.ace_event.specs.declared.header.Header.{Header}
use Rattle.ace_model.specs.declared.snoops.Snoop.{Snoop}
use Rattle.ace_model.specs.Accepted.{IsAccepted}
use Rattle.ace_model.specs.Kinds.{is_line_snoop}
use Rattle.ace_model.specs.Plans.{Plan}
use Rattle.ace_model.specs.Progress.{has_update}
use Rattle.ace_model.specs.Snoops.{snoop_at, snoops_of, snoops_a_line, answered, answers}
use Rattle.ace_model.specs.States.{state_of}
use Rattle.ace_model.specs.Trace.{Trace}
use Rattle.ace_model.specs.Transactions.{is_ace}
use Rattle.ace_model.proofs.General.Lists.{slice_get-more}
use Rattle.ace_model.proofs.General.Options.{some_is, some_if-is}
use Rattle.ace_model.proofs.Rules.Keeps.{accepted_keeps}
use Rattle.ace_runs.specs.MasterSteps.{has_row, may_answer_snoop}
use Rattle.ace_runs.specs.Steps.{is_enabled_by}

-- ---- the kind of a snoop -----------------------------------------------------------------------------

new-kind : (h : Header) (past : Trace) (e : Event) (p : ℕ) (s : Snoop) → IsAccepted h (e ∷ past) → snoop_at (length past) e p ≡ Some s → is_some (ac_kind_of s.snoop) ≡ true
new-kind h past (Ac q addr code) p s a is =
    subst (λ (v : Snoop). is_some (ac_kind_of v.snoop) ≡ true) (some_if-is _ _ s is).1 (accepted_keeps h past (Ac q addr code) a).rule_2
new-kind h past e p s a is = cc

pub has-kind : (h : Header) (past : Trace) (p n : ℕ) (s : Snoop) → IsAccepted h past → slice_get (snoops_of past p) n ≡ Some s → is_some (ac_kind_of s.snoop) ≡ true
has-kind h [] p n s a is = cc
has-kind h (e ∷ past) p n s a is =
    elim (slice_get-more (snoops_of past p) (snoop_at (length past) e p) n s is) [
      | inl old ↦ has-kind h past p n s a.0 old
      | inr new ↦ new-kind h past e p s a new.1
    ]

-- the port of a snoop is an ACE port
new-ace : (h : Header) (past : Trace) (e : Event) (p : ℕ) (s : Snoop) → IsAccepted h (e ∷ past) → snoop_at (length past) e p ≡ Some s → is_ace h p ≡ true
new-ace h past (Ac q addr code) p s a is =
    let same = eqb-true p q (some_if-is (p == q) _ s is).0 in
    subst (λ r. is_ace h r ≡ true) (sym same) (and_parts (nat_lt q h.ports) (is_ace h q) (accepted_keeps h past (Ac q addr code) a).rule_1).1
new-ace h past e p s a is = cc

pub snooped-ace : (h : Header) (past : Trace) (p n : ℕ) (s : Snoop) → IsAccepted h past → slice_get (snoops_of past p) n ≡ Some s → is_ace h p ≡ true
snooped-ace h [] p n s a is = cc
snooped-ace h (e ∷ past) p n s a is =
    elim (slice_get-more (snoops_of past p) (snoop_at (length past) e p) n s is) [
      | inl old ↦ snooped-ace h past p n s a.0 old
      | inr new ↦ new-ace h past e p s a new.1
    ]

-- ---- its rows ----------------------------------------------------------------------------------------

some-row : (k : SnoopKind) (st : LineState) → is_line_snoop k ≡ true → (length (snoop_rows k st false) == 0) ≡ false
unfolding snoop_rows rows_to rows_among
some-row snoop.DvmComplete st line = cc
some-row snoop.DvmMessage st line = cc
some-row k I line = refl
some-row k UC line = refl
some-row k UD line = refl
some-row k SC line = refl
some-row k SD line = refl

-- The snoop waits for a memory update of its port on its line.
abbrev pub WaitsForUpdate : Header → Trace → ℕ → Snoop → Type 0
WaitsForUpdate h past p s = (snoops_a_line s.snoop ≡ true) × (has_update h past p s.addr ≡ true)

by-kind : (k : SnoopKind) (st : LineState) (u : Bool)
    → ((not (is_line_snoop k) || not (length (snoop_rows k st u) == 0)) ≡ true) ⊎ ((is_line_snoop k ≡ true) × (u ≡ true))
by-kind k st u =
    elim (cases_Bool (is_line_snoop k)) [
      | inr f ↦ inl (rw f refl)
      | inl line ↦ elim (cases_Bool u) [
        | inl beside ↦ inr (line, beside)
        | inr alone ↦ inl (rw (line, alone, some-row k st line) refl)
      ]
    ]

pub row-or-update : (h : Header) (past : Trace) (p : ℕ) (s : Snoop) → IsAccepted h past → answered past p ≡ Some s
    → (has_row h past p s ≡ true) ⊎ WaitsForUpdate h past p s
row-or-update h past p s a is =
    let k = some_is (ac_kind_of s.snoop) (has-kind h past p (answers past p) s a is) in
    elim (by-kind k.0 (state_of h past p s.addr) (has_update h past p s.addr)) [
      | inl row ↦ inl (rw k.1 row)
      | inr waits ↦ inr (rw k.1 waits.0, waits.1)
    ]

-- A port is enabled by step 1, or its oldest unanswered snoop waits for a memory update.
pub answers-or-waits : (plan : Plan) (past : Trace) (p : ℕ) (s : Snoop) → IsAccepted plan.header past → answered past p ≡ Some s
    → (is_enabled_by (1 ∷ []) plan past p ≡ true) ⊎ WaitsForUpdate plan.header past p s
answers-or-waits plan past p s a is =
    elim (row-or-update plan.header past p s a is) [
      | inr waits ↦ inr waits
      | inl row ↦
          let may : may_answer_snoop plan.header past p ≡ true = rw is row in
          inl (or_left (may_answer_snoop plan.header past p) _ may)
    ]
