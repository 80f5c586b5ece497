-- The acts of a port: each is the one whose turn it is of the port's next operation, so there are no more than that has.
use Rattle.std.proofs.Common.{◌≡◌, ℕ, ◌+◌, ◌≤◌, ◌<◌, Bool, true, false, ◌&&◌, ◌==◌, if◌then◌else◌, [], ◌∷◌, length, Some, slice_get, inl, inr, refl, sym, subst, ◌∙◌, arith}
use Rattle.std.proofs.lemmas.Bool.{and_parts, cases_Bool, eqb-true}
use Rattle.std.proofs.lemmas.Option.{slice_get_within}
use Rattle.ace_event.specs.declared.event.Event.{Event}
use Rattle.ace_event.specs.declared.event.Event.TheVariants.{Op as Retires}
use Rattle.ace_event.specs.declared.event.Outcome.{Outcome}
use Rattle.ace_model.specs.declared.plans.Op.{Op}
use Rattle.ace_model.specs.Plans.{Plan}
use Rattle.ace_model.specs.Trace.{Trace, is_some_and, more, option_filter, port_of}
use Rattle.ace_model.specs.Transactions.{issued}
use Rattle.ace_model.proofs.General.Options.{Some-injective, is_some_and-is}
use Rattle.ace_runs.specs.Acts.{acts_of, is_act}
use Rattle.ace_runs.specs.Counts.{is_retirement}
use Rattle.ace_runs.specs.Follows.{FollowsSoFar, acts_well, answers_well, carries_data, has_room_after, is_next_act, obeys, retires_well}
use Rattle.ace_runs.specs.Operations.{next_operation}
use Rattle.ace_runs.specs.Retiring.{may_retire}
use Rattle.ace_runs.specs.Segments.{acts_made, is_at_port, is_for_operation, segment}

-- ---- what an event of a trace that follows a plan does -----------------------------------------------

obeys-both : (plan : Plan) (past : Trace) (e : Event) → obeys plan past e ≡ true → (retires_well plan past e && acts_well plan past e) ≡ true
obeys-both plan past e o =
    let a = and_parts (retires_well plan past e && acts_well plan past e && carries_data plan past e && answers_well plan past e) (has_room_after plan past e) o in
    let b = and_parts (retires_well plan past e && acts_well plan past e && carries_data plan past e) (answers_well plan past e) a.0 in
    (and_parts (retires_well plan past e && acts_well plan past e) (carries_data plan past e) b.0).0

pub obeys-acts : (plan : Plan) (past : Trace) (e : Event) → obeys plan past e ≡ true → acts_well plan past e ≡ true
obeys-acts plan past e o = (and_parts (retires_well plan past e) (acts_well plan past e) (obeys-both plan past e o)).1

-- an OP retires the next operation
pub retires-next : (plan : Plan) (past : Trace) (p k : ℕ) (res : Outcome) → obeys plan past (Retires p k res) ≡ true
    → (o : Op) × (next_operation plan past p ≡ Some o) × (may_retire plan.header past p o res ≡ true)
retires-next plan past p k res o =
    is_some_and-is (next_operation plan past p) (λ op. may_retire plan.header past p op res)
    (and_parts (retires_well plan past (Retires p k res)) (acts_well plan past (Retires p k res)) (obeys-both plan past (Retires p k res) o)).0

-- The event is an act of the port's next operation, the one whose turn it is.
pub record IsTurn (plan : Plan) (past : Trace) (p : ℕ) (e : Event) : Type 0 where
  pub of : Op
  pub fits : Event → Bool
  pub next : next_operation plan past p ≡ Some of
  pub turn : slice_get (acts_of of) (acts_made past p) ≡ Some fits
  pub passes : fits e ≡ true

pub next-turn : (plan : Plan) (past : Trace) (p : ℕ) (e : Event) → obeys plan past e ≡ true → (is_at_port p e && is_act e) ≡ true → IsTurn plan past p e
next-turn plan past p e o both =
    let parts = and_parts (is_at_port p e) (is_act e) both in
    let well : is_some_and (port_of e) (is_next_act plan past e) ≡ true = rw parts.1 at (obeys-acts plan past e o) in
    let here = is_some_and-is (port_of e) (λ q. q == p) parts.0 in
    let there = is_some_and-is (port_of e) (is_next_act plan past e) well in
    let port : there.0 ≡ p = Some-injective there.0 here.0 (sym there.1 ∙ here.1) ∙ eqb-true here.0 p here.2 in
    let next : is_next_act plan past e p ≡ true = subst (λ q. is_next_act plan past e q ≡ true) port there.2 in
    let op = is_some_and-is (next_operation plan past p) (λ op. is_some_and (slice_get (acts_of op) (acts_made past p)) (λ fits. fits e)) next in
    let fits = is_some_and-is (slice_get (acts_of op.0) (acts_made past p)) (λ fits. fits e) op.2 in
    record { of = op.0; fits = fits.0; next = op.1; turn = fits.1; passes = fits.2 }

-- ---- events other than OP ----------------------------------------------------------------------------

-- the next operation stays
pub next-stays : (plan : Plan) (past : Trace) (p : ℕ) (e : Event) → is_retirement e ≡ false → next_operation plan (e ∷ past) p ≡ next_operation plan past p
next-stays plan past p (Retires q k res) none = cc
next-stays plan past p e none = refl

-- and an act of the port is one more
pub acts-more : (past : Trace) (p : ℕ) (e : Event) → is_retirement e ≡ false → acts_made (e ∷ past) p ≡ (if is_at_port p e && is_act e then acts_made past p + 1 else acts_made past p)
acts-more past p (Retires q k res) none = cc
acts-more past p e none = refl

-- and a transaction of the port, but a DVM Complete, is one more of the segment
pub segment-more : (past : Trace) (p : ℕ) (e : Event) → is_retirement e ≡ false → segment (e ∷ past) p ≡ more (segment past p) (option_filter (is_for_operation p) (issued (length past) e))
segment-more past p (Retires q k res) none = cc
segment-more past p e none = refl

-- ---- how many acts there are -------------------------------------------------------------------------

within-if : (b : Bool) (made most : ℕ) → made ≤ most → (b ≡ true → made < most) → (if b then made + 1 else made) ≤ most
within-if true made most low room = let r = room refl in omega (arith, r)
within-if false made most low room = low

-- A port has made no more acts for its next operation than that has.
pub acts-within : (plan : Plan) (past : Trace) (p : ℕ) → FollowsSoFar plan past → (o : Op) → next_operation plan past p ≡ Some o → acts_made past p ≤ length (acts_of o)
acts-within plan [] p f o next = omega arith
acts-within plan (Retires q k res ∷ past) p f o next =
    elim (cases_Bool (p == q)) [
      | inl t ↦ rw t (omega arith)
      | inr n ↦ rw n (acts-within plan past p f.0 o (rw n at next))
    ]
acts-within plan (e ∷ past) p f o next =
    within-if (is_at_port p e && is_act e) (acts_made past p) (length (acts_of o)) (acts-within plan past p f.0 o next)
    (λ both. let t = next-turn plan past p e f.1 both in
    let same : t.of ≡ o = Some-injective t.of o (sym t.next ∙ next) in
    let low = slice_get_within (acts_of t.of) (acts_made past p) t.fits t.turn in
    subst (λ (v : Op). acts_made past p < length (acts_of v)) same low)
