-- For a right plan a first part of a port waits for its second exactly where the port has made one act of a message of two parts. So in a run,
-- where messages are issued whole, it has made both acts or none.
use Rattle.std.proofs.Common.{◌≡◌, ℕ, ◌+◌, Bool, true, false, not, ◌&&◌, ◌==◌, if◌then◌else◌, [], ◌∷◌, length, Option, Some, None, is_some, inl, inr, refl, sym, ap, subst, ◌∙◌}
use Rattle.std.proofs.Math.Bool.{and-false}
use Rattle.std.proofs.lemmas.Bool.{cases_Bool, eqb-true}
use Rattle.std.proofs.lemmas.Bool.{or_left}
use Rattle.ace_codes.specs.declared.kind.ArKind.{ArKind}
use Rattle.ace_codes.specs.declared.kind.ArKind.TheVariants as read
use Rattle.ace_event.specs.declared.event.Event.{Event}
use Rattle.ace_event.specs.declared.event.Event.TheVariants.{Op as Retires}
use Rattle.ace_model.specs.declared.plans.Op.{Op}
use Rattle.ace_model.specs.declared.plans.Op.TheVariants.{Dvm2}
use Rattle.ace_model.specs.declared.transactions.Transaction.{Transaction}
use Rattle.ace_model.specs.Kinds.{is_dvm_message}
use Rattle.ace_model.specs.Messages.{first_waiting, has_second, is_message_part, part_in, waits_after}
use Rattle.ace_model.specs.Plans.{IsRight, Plan, has_right_fields}
use Rattle.ace_model.specs.Trace.{Trace, is_some_and}
use Rattle.ace_model.specs.Transactions.{issued, read_kind}
use Rattle.ace_model.proofs.General.Options.{is_none_or-at}
use Rattle.ace_runs.specs.Acts.{is_act_read, is_act_transaction}
use Rattle.ace_runs.specs.Counts.{is_retirement}
use Rattle.ace_runs.specs.Follows.{FollowsSoFar, obeys}
use Rattle.ace_runs.specs.Operations.{next_operation}
use Rattle.ace_runs.specs.Segments.{acts_made}
use Rattle.ace_runs.specs.Steps.{AreSteps}
use Rattle.ace_runs.proofs.NeverStuck.Phases.IssuedActs.{issued-turn, issues_of, none-issued}
use Rattle.ace_runs.proofs.NeverStuck.Messages.IssuedMessages.{next-right}
use Rattle.ace_runs.proofs.NeverStuck.Messages.WholeMessages.{after-part, issues-whole}
use Rattle.ace_runs.proofs.NeverStuck.Phases.OneOfTwo.{has_two_acts, none-made, one-if, one-then, one_made, other-retires, retires-none}
use Rattle.ace_runs.proofs.NeverStuck.Phases.Parts.{is_message_pair, pair-part, part-of-message, part-turn}

-- the port has made one act of a message of two parts
abbrev pub one_part : Plan → Trace → ℕ → Bool
one_part plan past p = one_made is_message_pair plan past p

-- A first part of the port waits exactly then.
abbrev pub WaitsAsMade : Plan → Trace → ℕ → Type 0
WaitsAsMade plan past p = is_some (first_waiting past p) ≡ one_part plan past p

two-parts : (o : Op) → is_message_pair o ≡ true → has_two_acts o ≡ true
two-parts (Dvm2 word second) pair = refl
two-parts o pair = cc

-- a part is an act
pub part-acts : (x : Transaction) → is_message_part x ≡ true → is_act_transaction x ≡ true
part-acts x part = or_left (is_some_and (read_kind x) is_act_read) _ (by (read_kind x) part)
  where
    by : (k : Option ArKind) → is_some_and k is_dvm_message ≡ true → is_some_and k is_act_read ≡ true
    by None m = cc
    by (Some read.DvmMessage) m = refl
    by (Some k) m = cc

-- ---- an event other than an OP -----------------------------------------------------------------------

no-part : (o : Option Transaction) (p : ℕ) → is_some_and o (λ x. is_message_part x && (x.port == p)) ≡ false → part_in o p ≡ None
no-part None p f = refl
no-part (Some x) p f = rw f refl

stays-waiting : (o : Option Transaction) → waits_after o None ≡ o
stays-waiting None = refl
stays-waiting (Some x) = refl

none-waits : (plan : Plan) (past : Trace) (p : ℕ) (e : Event) → obeys plan past e ≡ true → is_retirement e ≡ false → issues_of is_message_part past p e ≡ false → WaitsAsMade plan past p
    → WaitsAsMade plan (e ∷ past) p
none-waits plan past p e o other none waits =
    ap (λ part. is_some (waits_after (first_waiting past p) part)) (no-part (issued (length past) e) p none) ∙ ap is_some (stays-waiting (first_waiting past p)) ∙ waits
    ∙ sym (none-issued is_message_pair is_message_part plan past p e (λ t pair. pair-part t.of (acts_made past p) t.fits e (length past) pair t.turn t.passes) o other none)

part-waits : (plan : Plan) (past : Trace) (p : ℕ) (e : Event) → IsRight plan → obeys plan past e ≡ true → is_retirement e ≡ false → issues_of is_message_part past p e ≡ true → WaitsAsMade plan past p
    → WaitsAsMade plan (e ∷ past) p
part-waits plan past p e right o other some waits =
    let x = issued-turn is_message_part part-acts plan past p e o some in
    let t = x.turn in
    let message = part-of-message t.of (acts_made past p) t.fits e (length past) x.of x.is x.such t.turn t.passes in
    let fields = is_none_or-at (next_operation plan past p) has_right_fields t.of (next-right plan past p right) t.next in
    let sorted : (pair : Bool) → is_message_pair t.of ≡ pair → is_some_and (next_operation plan past p) is_message_pair ≡ pair =
    λ pair is. ap (λ next. is_some_and next is_message_pair) t.next ∙ is in
    let before : (made : ℕ) (pair : Bool) → acts_made past p ≡ made → is_message_pair t.of ≡ pair → one_part plan past p ≡ (pair && (made == 1)) =
    λ made pair is kind. one-if is_message_pair plan past p made pair (sorted pair kind) is in
    let after : (made : ℕ) (pair : Bool) → acts_made past p ≡ made → is_message_pair t.of ≡ pair → one_part plan (e ∷ past) p ≡ (pair && (made + 1 == 1)) =
    λ made pair is kind. one-then is_message_pair plan past p e made pair other x.act (sorted pair kind) is in
    let issues : part_in (issued (length past) e) p ≡ Some x.of = ap (λ o. part_in o p) x.is ∙ ap (λ b. if b then Some x.of else None) x.passes in
    let now : is_some (first_waiting (e ∷ past) p) ≡ (not (is_some (first_waiting past p)) && has_second x.of.addr) =
    ap (λ part. is_some (waits_after (first_waiting past p) part)) issues ∙ after-part (first_waiting past p) x.of in
    let given : (was later : Bool) → one_part plan past p ≡ was → has_second x.of.addr ≡ later → is_some (first_waiting (e ∷ past) p) ≡ (not was && later) =
    λ was later one second. now ∙ ap (λ b. not b && has_second x.of.addr) (waits ∙ one) ∙ ap (λ b. not was && b) second in
    elim (part-turn t.of (acts_made past p) t.fits e (length past) x.of x.is message fields t.turn t.passes) [
      | inl lone ↦ given false false (before 0 false lone.1 lone.0) lone.2 ∙ sym (after 0 false lone.1 lone.0)
      | inr (inl first) ↦ given false true (before 0 true first.1 first.0) first.2 ∙ sym (after 0 true first.1 first.0)
      | inr (inr second) ↦ given true (has_second x.of.addr) (before 1 true second.1 second.0) refl ∙ sym (after 1 true second.1 second.0)
    ]

event-waits : (plan : Plan) (past : Trace) (p : ℕ) (e : Event) → IsRight plan → obeys plan past e ≡ true → is_retirement e ≡ false → WaitsAsMade plan past p
    → WaitsAsMade plan (e ∷ past) p
event-waits plan past p e right o other waits =
    elim (cases_Bool (issues_of is_message_part past p e)) [
      | inl some ↦ part-waits plan past p e right o other some waits
      | inr none ↦ none-waits plan past p e o other none waits
    ]

-- ---- traces ------------------------------------------------------------------------------------------

pub waits-as-made : (plan : Plan) (past : Trace) (p : ℕ) → IsRight plan → FollowsSoFar plan past → WaitsAsMade plan past p
waits-as-made plan [] p right f = sym (and-false (is_some_and (next_operation plan [] p) is_message_pair))
waits-as-made plan (Retires q k res ∷ past) p right f =
    elim (cases_Bool (p == q)) [
      | inr n ↦ ap is_some (stays-waiting (first_waiting past p)) ∙ waits-as-made plan past p right f.0 ∙ sym (other-retires is_message_pair plan past p q k res n)
      | inl t ↦
          let own : obeys plan past (Retires p k res) ≡ true = subst (λ r. obeys plan past (Retires r k res) ≡ true) (sym (eqb-true p q t)) f.1 in
          ap is_some (stays-waiting (first_waiting past p)) ∙ waits-as-made plan past p right f.0 ∙ retires-none is_message_pair two-parts plan past p k res own
          ∙ sym (none-made is_message_pair plan past p q k res t)
    ]
waits-as-made plan (e ∷ past) p right f = event-waits plan past p e right f.1 refl (waits-as-made plan past p right f.0)

-- In a run that follows a right plan no port has made one act of a message of two parts alone.
pub both-parts : (plan : Plan) (past : Trace) (p : ℕ) → IsRight plan → AreSteps plan past → FollowsSoFar plan past → one_part plan past p ≡ false
both-parts plan past p right s f = sym (waits-as-made plan past p right f) ∙ ap is_some (issues-whole plan past right s p)
