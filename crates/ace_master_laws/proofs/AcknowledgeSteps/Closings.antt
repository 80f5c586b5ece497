-- What ends an operation breaks no rule, once a transaction of it is acknowledged.
use Rattle.std.proofs.Common.{◌≡◌, ℕ, true, false, not, ◌&&◌, ◌==◌, ◌∷◌, length, slice_get, Some, inl, inr, refl, sym, ap, ◌∙◌, unwrap_or}
use Rattle.std.specs.Option.{option_map}
use Rattle.std.proofs.lemmas.Bool.{and_from, and_parts, cases_Bool, eq-eqb, false_from_ne_true}
use Rattle.ace_codes.specs.declared.kind.ArKind.TheVariants as read
use Rattle.ace_codes.specs.declared.kind.AwKind.{AwKind}
use Rattle.ace_codes.specs.declared.state.LineState.{LineState}
use Rattle.ace_codes.specs.declared.state.LineState.TheVariants.{I}
use Rattle.ace_event.specs.declared.event.Channel.{Channel}
use Rattle.ace_event.specs.declared.event.Outcome.TheVariants.{Ok}
use Rattle.ace_event.specs.declared.header.Header.{Header}
use Rattle.ace_tables.specs.States.{is_invalid}
use Rattle.ace_model.specs.declared.plans.Op.{Op}
use Rattle.ace_model.specs.declared.plans.Op.TheVariants as op
use Rattle.ace_model.specs.declared.transactions.Transaction.{Transaction}
use Rattle.ace_model.specs.Accepted.{IsAccepted}
use Rattle.ace_model.specs.Plans.{IsRight, Plan, line_named}
use Rattle.ace_model.specs.States.{state_of}
use Rattle.ace_model.specs.Trace.{Trace, is_some_and}
use Rattle.ace_model.specs.Transactions.{has_outstanding_on, is_on, is_outstanding, is_outstanding_on}
use Rattle.ace_model.proofs.General.Lists.{list_all-at}
use Rattle.ace_model.proofs.General.Options.{Some-injective}
use Rattle.ace_model.proofs.Outstanding.Only.{one_outstanding_on}
use Rattle.ace_model.proofs.Trace.Growth.{issued-cases, some_issued-is}
use Rattle.ace_runs.specs.Bursts.{are_kept}
use Rattle.ace_runs.specs.Closing.{closing_of, gives_access, state_named}
use Rattle.ace_runs.specs.Follows.{FollowsSoFar}
use Rattle.ace_runs.specs.Operations.{next_operation}
use Rattle.ace_runs.specs.Retiring.{may_retire}
use Rattle.ace_runs.specs.Segments.{acts_made, segment}
use Rattle.ace_runs.proofs.NeverStuck.Operations.Kept.ClosingKept.{closing-kept, has_access, retiring-kept}
use Rattle.ace_runs.proofs.NeverStuck.Operations.Lines.OfPlan.{IsPlanned, next-planned}
use Rattle.ace_master_laws.specs.Orderly.{IsFor, acts, brings, brings_line, clears, gives, is_write_back, line_used, owns, takes_line}
use Rattle.ace_master_laws.proofs.Acknowledges.Acknowledging.{gives-update, kind-on-line, on-line, read-of-line}
use Rattle.ace_master_laws.proofs.Acknowledges.Due.{IsDue, ack, ack-gentle, ack-made, ack-new, ack-over, brings-on-line}
use Rattle.ace_master_laws.proofs.Acknowledges.Settling.{wanted-taken}
use Rattle.ace_master_laws.proofs.GoesOn.Ready.{stored-named, wanted-named}
use Rattle.ace_master_laws.proofs.Progress.Come.{HasCome, no-read}
use Rattle.ace_master_laws.proofs.Progress.Ended.{nothing-new}
use Rattle.ace_master_laws.proofs.Progress.Endings.{access-no-acts, access-unmade, is_no_act}
use Rattle.ace_master_laws.proofs.Progress.UnderWay.{was-outstanding}

-- ---- operations that load or store -------------------------------------------------------------------

-- one of which a write clears a line brings its own in
used-by : (o : Op) (j : AwKind) (l : ℕ) → has_access o ≡ true → clears o j l ≡ true → (m : ℕ) × (line_used o ≡ Some m)
used-by (op.Ld a w) j l some t = (a, refl)
used-by (op.Ldx a w) j l some t = (a, refl)
used-by (op.St a w word) j l some t = (a, refl)
used-by (op.Fill a line) j l some t = (a, refl)
used-by (op.Stx a w word) j l some t = let bad = (and_parts (is_write_back j) false t).1 in cc
used-by o j l some t = cc

used-named : (o : Op) (l : ℕ) → line_used o ≡ Some l → line_named o ≡ Some l
used-named (op.Ld a w) l used = used
used-named (op.Ldx a w) l used = used
used-named (op.St a w word) l used = used
used-named (op.Fill a line) l used = used
used-named o l used = cc

-- and is given nothing by a line that isn't held
gives-nothing : (o : Op) (l : ℕ) (st : LineState) → line_used o ≡ Some l → is_invalid st ≡ true → gives_access o st ≡ false
gives-nothing (op.Ld a w) l I used inv = refl
gives-nothing (op.Ldx a w) l I used inv = refl
gives-nothing (op.St a w word) l I used inv = refl
gives-nothing (op.Fill a line) l I used inv = refl
gives-nothing o l st used inv = cc

module _ (plan : Plan) (past : Trace) (p : ℕ) (right : IsRight plan) (a : IsAccepted plan.header past) (f : FollowsSoFar plan past) (c : HasCome plan past p)
    (unended : is_some_and (next_operation plan past p) (λ o. may_retire plan.header past p o Ok) ≡ false) (o : Op) (next : next_operation plan past p ≡ Some o)
    (ch : Channel) (st : LineState) (x : Transaction) (d : IsDue plan.header past p ch x) (k : ℕ) (there : slice_get (segment past p) k ≡ Some x)
    (accepted : IsAccepted plan.header (ack ch p st ∷ past)) where
  abbrev h : Header
  h = plan.header

  abbrev now : Trace
  now = ack ch p st ∷ past

  planned : IsPlanned plan p o
  planned = next-planned plan past p o right next

  -- no transaction of the port is outstanding on the line of the one that ended
  line-free : (l : ℕ) → is_on x l ≡ true → has_outstanding_on h now p l ≡ false
  line-free l on =
      false_from_ne_true (has_outstanding_on h now p l) (λ some.
      let y = some_issued-is now (is_outstanding_on h now p l) some in
      let parts = and_parts ((y.0.port == p) && is_on y.0 l) (is_outstanding h now y.0) y.2 in
      elim (issued-cases (ack ch p st) past y.0 y.1) [
        | inl new ↦ nothing-new y.0 (sym (ack-new ch p (length past) st) ∙ new)
        | inr old ↦
            let was = was-outstanding h past (ack ch p st) y.0 accepted old parts.1 in
            let one = one_outstanding_on h past p l x y.0 a d.there old (and_from _ _ (and_from _ _ (eq-eqb x.port p d.port) on) d.out) (and_from _ _ parts.0 was) in
            let over = ack-over h past p ch st x accepted d in
            let bad : false ≡ true = sym over ∙ ap (is_outstanding h now) one ∙ parts.1 in cc
      ])

  unmade : has_access o ≡ true → acts_made now p ≡ 0
  unmade some =
      let stays : may_retire h past p o Ok ≡ false = sym (ap (λ n. is_some_and n (λ o. may_retire h past p o Ok)) next) ∙ unended in
      ack-made past ch p p st ∙ access-unmade plan past p o f next some stays

  retires : (has_access o ≡ true → gives_access o (state_named h now p o) ≡ false) → are_kept h now (closing_of h now p o) ≡ true
  retires none = retiring-kept h now p o planned.low none

  -- a transaction on the line of the operation
  on-own-line : (l : ℕ) → line_named o ≡ Some l → is_on x l ≡ true → are_kept h now (closing_of h now p o) ≡ true
  on-own-line l named on =
      elim (cases_Bool (has_access o)) [
        | inl some ↦
            closing-kept plan now p o planned (λ m line. ap (has_outstanding_on h now p) (Some-injective m l (sym line ∙ named)) ∙ line-free l on) (unmade some)
        | inr none ↦ retires (λ some. let bad : false ≡ true = sym none ∙ some in cc)
      ]

  -- a write that clears a line
  waits : (j : AwKind) → clears o j x.addr ≡ true → (brings_line x ≡ false) → ((m : ℕ) → line_used o ≡ Some m → is_invalid (state_of h past p m) ≡ true) → has_access o ≡ true
      → gives_access o (state_named h now p o) ≡ false
  waits j t none gone some =
      let u = used-by o j x.addr some t in
      let g = ack-gentle h past ch p st x accepted d.next none in
      ap (λ v. gives_access o (unwrap_or (option_map (state_of h now p) v) I)) (used-named o u.0 u.1) ∙ gives-nothing o u.0 (state_of h now p u.0) u.1 (g.raises u.0 (gone u.0 u.1))

  -- What ends the operation then.
  pub closings-kept : are_kept h now (closing_of h now p o) ≡ true
  closings-kept = by ((c.under_way o next).asked k x there)
    where
      by : IsFor o x → are_kept h now (closing_of h now p o) ≡ true
      by (acts act) =
          retires (λ some.
          let none = list_all-at is_no_act (segment past p) k x (access-no-acts plan past p o f next some) there in
          let bad : false ≡ true = ap not (sym act) ∙ none in cc)
      by (brings j l wanted is of) =
          let brings_x : brings_line x ≡ true = ap (λ v. is_some_and v takes_line) is ∙ wanted-taken o j l wanted planned.fields in
          on-own-line l (wanted-named o j l wanted) (on-line x l (brings-on-line x brings_x) (read-of-line j l x of))
      by (owns l lock wanted is addr locked) = on-own-line l (stored-named o l lock wanted) (on-line x l (kind-on-line x read.CleanUnique is refl) addr)
      by (gives j is t) =
          retires (waits j t (ap (λ v. is_some_and v takes_line) (no-read x j is)) (λ m used. (c.under_way o next).absent k x there d.out (gives-update x j o is t) m used))
