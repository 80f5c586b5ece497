-- The acts of each port: at most two for each of its operations; and its OPs, of which there is at most one for each.
use Rattle.std.proofs.Common.{◌≡◌, ℕ, ◌+◌, ◌*◌, ◌≤◌, ◌<◌, Bool, true, false, ◌&&◌, ◌==◌, if◌then◌else◌, [], ◌∷◌, length, slice_get, refl, sym, ap, subst, ◌∙◌, inl, inr, arith}
use Rattle.std.proofs.lemmas.Bool.{and_parts, cases_Bool, eqb-true, eq-eqb, ne_eqb}
use Rattle.std.proofs.lemmas.Option.{slice_get_within}
use Rattle.ace_event.specs.declared.event.Event.{Event}
use Rattle.ace_event.specs.declared.event.Event.TheVariants as event
use Rattle.ace_model.specs.declared.plans.Op.{Op}
use Rattle.ace_model.specs.declared.plans.Op.TheVariants.{Ld, Ldx, St, Stx, Fill, Pf, Wb, Wc, Ev, We, Ro, Cs, Ci, Mi, Rn, Wu, Wlu, Wn, Mb, Sb, Dvm, Sync, Dvm2}
use Rattle.ace_model.specs.Trace.{Trace, port_of, is_some_and}
use Rattle.ace_model.specs.OrderRules.{retired}
use Rattle.ace_model.specs.Plans.{Plan}
use Rattle.ace_model.proofs.General.Options.{is_some_and-is, Some-injective}
use Rattle.ace_runs.specs.Operations.{operations_of, next_operation}
use Rattle.ace_runs.specs.Acts.{is_act, acts_of}
use Rattle.ace_runs.specs.Segments.{is_at_port, acts_made}
use Rattle.ace_runs.specs.Follows.{obeys, retires_well, acts_well, carries_data, answers_well, has_room_after, is_next_act, FollowsSoFar}
use Rattle.ace_runs.specs.Counts.{counted, is_retirement}
use Rattle.ace_runs.proofs.Few.Paces.{IsPaced, paced_start, paced_more, paced_retire, paced_whole}
use Rattle.ace_runs.proofs.Few.Ports.{at_port, retires-within}
use Rattle.ace_runs.proofs.Few.Operations.{for-all}

two-acts : (op : Op) → length (acts_of op) ≤ 2
two-acts (Ld a w) = omega arith
two-acts (Ldx a w) = omega arith
two-acts (St a w word) = omega arith
two-acts (Stx a w word) = omega arith
two-acts (Fill a line) = omega arith
two-acts (Pf a k) = omega arith
two-acts (Wb a) = omega arith
two-acts (Wc a) = omega arith
two-acts (Ev a) = omega arith
two-acts (We a) = omega arith
two-acts (Ro a) = omega arith
two-acts (Cs a) = omega arith
two-acts (Ci a) = omega arith
two-acts (Mi a) = omega arith
two-acts (Rn a) = omega arith
two-acts (Wu a strobe line) = omega arith
two-acts (Wlu a line) = omega arith
two-acts (Wn a strobe line) = omega arith
two-acts Mb = omega arith
two-acts Sb = omega arith
two-acts (Dvm word) = omega arith
two-acts (Sync word) = omega arith
two-acts (Dvm2 word second) = omega arith

-- an act of the port is one of its next operation
act-room : (plan : Plan) (past : Trace) (e : Event) (p : ℕ) → obeys plan past e ≡ true → is_at_port p e ≡ true → is_act e ≡ true
    → (acts_made past p < 2) × (retired past p < length (operations_of plan p))
act-room plan past e p o same act =
    let a = and_parts (retires_well plan past e && acts_well plan past e && carries_data plan past e && answers_well plan past e) (has_room_after plan past e) o in
    let b = and_parts (retires_well plan past e && acts_well plan past e && carries_data plan past e) (answers_well plan past e) a.0 in
    let c = and_parts (retires_well plan past e && acts_well plan past e) (carries_data plan past e) b.0 in
    let d = and_parts (retires_well plan past e) (acts_well plan past e) c.0 in
    let well : is_some_and (port_of e) (is_next_act plan past e) ≡ true = rw act at d.1 in
    let here = is_some_and-is (port_of e) (λ q. q == p) same in
    let there = is_some_and-is (port_of e) (is_next_act plan past e) well in
    let port : there.0 ≡ p = Some-injective there.0 here.0 (sym there.1 ∙ here.1) ∙ eqb-true here.0 p here.2 in
    let next : is_next_act plan past e p ≡ true = subst (λ q. is_next_act plan past e q ≡ true) port there.2 in
    let op = is_some_and-is (next_operation plan past p) (λ op. is_some_and (slice_get (acts_of op) (acts_made past p)) (λ fits. fits e)) next in
    let fits = is_some_and-is (slice_get (acts_of op.0) (acts_made past p)) (λ fits. fits e) op.2 in
    let below = slice_get_within (acts_of op.0) (acts_made past p) fits.0 fits.1 in
    let two = two-acts op.0 in
    (omega (arith, below, two), slice_get_within (operations_of plan p) (retired past p) op.0 op.1)

-- of the port: how many acts it has made
abbrev pub TwoActs : Plan → Trace → ℕ → Type 0
TwoActs plan past p = IsPaced 2 (counted (at_port is_act p) past) (acts_made past p) (retired past p) (length (operations_of plan p))

-- a port makes an act, or another does, or the event is none
acted : (same act : Bool) (count made r n : ℕ) → IsPaced 2 count made r n → (same ≡ true → act ≡ true → (made < 2) × (r < n))
    → IsPaced 2 (if act && same then count + 1 else count) (if same && act then made + 1 else made) r n
acted true true count made r n i room = let s = room refl refl in paced_more 2 count made r n i s.0 s.1
acted true false count made r n i room = i
acted false true count made r n i room = i
acted false false count made r n i room = i

pub acts-each : (plan : Plan) (past : Trace) (p : ℕ) → FollowsSoFar plan past → TwoActs plan past p
acts-each plan [] p f = paced_start 2 (length (operations_of plan p))
acts-each plan (event.Op q k res ∷ past) p f =
    let i = acts-each plan past p f.0 in
    elim (cases_Bool (p == q)) [
      | inr n ↦ rw n i
      | inl t ↦
          let next : retired past p < length (operations_of plan p) =
          subst (λ r. retired past r < length (operations_of plan r)) (sym (eqb-true p q t)) (retires-within plan past q k res f.1) in
          rw t (paced_retire 2 (counted (at_port is_act p) past) (acts_made past p) (retired past p) (length (operations_of plan p)) i next)
    ]
acts-each plan (event.Mem addr line ∷ past) p f = acts-each plan past p f.0
acts-each plan (e ∷ past) p f =
    acted (is_at_port p e) (is_act e) (counted (at_port is_act p) past) (acts_made past p) (retired past p) (length (operations_of plan p))
    (acts-each plan past p f.0) (act-room plan past e p f.1)

-- the OPs of a port are as many as have retired, of its operations
pub retired-each : (plan : Plan) (past : Trace) (p : ℕ) → FollowsSoFar plan past
    → (counted (at_port is_retirement p) past ≡ retired past p) × (retired past p ≤ length (operations_of plan p))
retired-each plan [] p f = (refl, omega arith)
retired-each plan (event.Op q k res ∷ past) p f =
    let i = retired-each plan past p f.0 in
    elim (cases_Bool (p == q)) [
      | inr n ↦ let other : (q == p) ≡ false = ne_eqb q p (λ same. let back = eq-eqb p q (sym same) in cc) in rw (n, other) i
      | inl t ↦
          let same = eqb-true p q t in
          let back : (q == p) ≡ true = eq-eqb q p (sym same) in
          let next : retired past p < length (operations_of plan p) =
          subst (λ r. retired past r < length (operations_of plan r)) (sym same) (retires-within plan past q k res f.1) in
          rw (t, back) (ap (λ n. n + 1) i.0, omega (arith, next))
    ]
retired-each plan (_ ∷ past) p f = retired-each plan past p f.0

-- ---- all ports ---------------------------------------------------------------------------------------

pub two-acts-for-each : (plan : Plan) (past : Trace) → FollowsSoFar plan past → counted is_act past ≤ length plan.operations * 2
two-acts-for-each plan past f =
    for-all 2 is_act plan past
    (λ p. paced_whole 2 (counted (at_port is_act p) past) (acts_made past p) (retired past p) (length (operations_of plan p)) (acts-each plan past p f))

pub one-for-each : (plan : Plan) (past : Trace) → FollowsSoFar plan past → counted is_retirement past ≤ length plan.operations
one-for-each plan past f =
    let all = for-all 1 is_retirement plan past (λ p. let r = retired-each plan past p f in rw r.0 (omega (arith, r.1))) in omega (arith, all)
