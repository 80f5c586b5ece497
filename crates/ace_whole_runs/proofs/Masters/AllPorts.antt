-- What the masters of all ports keep that go by steps, and that each enabled step of one has a whole burst.
use Rattle.std.proofs.Common.{◌≡◌, ◌≢◌, ◌<◌, ℕ, true, false, ◌&&◌, List, [], ◌∷◌, None, refl, sym, subst, ◌∙◌, inl, inr}
use Rattle.std.proofs.Math.Bool.{and-false}
use Rattle.std.specs.List.{list_all}
use Rattle.std.proofs.lemmas.Bool.{and_parts, cases_Bool, cases_eq, lt-ltb, or_cases}
use Rattle.ace_event.specs.declared.event.Event.{Event}
use Rattle.ace_model.specs.Accepted.{IsAccepted, rules}
use Rattle.ace_model.specs.Plans.{Plan}
use Rattle.ace_model.specs.Trace.{Trace}
use Rattle.ace_model.specs.Transactions.{is_ace}
use Rattle.ace_runs.specs.Bursts.{onto}
use Rattle.ace_runs.specs.MasterSteps.{acknowledges, answers_snoop, goes_on, may_acknowledge, may_answer_snoop, may_go_on, may_send, sends}
use Rattle.ace_runs.specs.Operations.{next_operation}
use Rattle.ace_runs.specs.Segments.{is_at_port}
use Rattle.ace_runs.specs.Steps.{is_enabled_by, is_sound, is_step_by}
use Rattle.ace_runs.proofs.Accepting.{accepted-before}
use Rattle.ace_engine.specs.Engines.{IsLegal, Master, is_given_by, is_of_interconnect}
use Rattle.ace_engine.proofs.OwnEvents.{masters-apart}
use Rattle.ace_master_laws.proofs.MasterLaw.{orderly-first}
use Rattle.ace_master.specs.Lite.{own_steps}
use Rattle.ace_master.proofs.AcePorts.Heard.{tells-heard}
use Rattle.ace_master.proofs.LiteHeard.{tells-left}
use Rattle.ace_master.proofs.OtherEvents.{other-leaves}
use Rattle.ace_master.proofs.WriteData.UnsentData.{unsent-first}
use Rattle.ace_fabric.proofs.MasterEvents.{acknowledges-own, answers-own, goes-on-own, is_own, sends-own}
use Rattle.ace_whole_runs.specs.HasStep.{HasStep}
use Rattle.ace_whole_runs.proofs.Masters.Keeping.{Keeps, PortKeeps}
use Rattle.ace_whole_runs.proofs.Masters.AceMoves.{AceMove, ace-moves}
use Rattle.ace_whole_runs.proofs.Masters.LiteMoves.{LiteMove, lite-moves}

-- before the first event they keep it
pub keeps-first : (plan : Plan) → Keeps plan []
keeps-first plan p = record {
  ace = λ ace. record {
    unsent = None;
    tells = record { operations_are = refl; orderly = orderly-first plan p; answered = refl; unsent_is = unsent-first plan p None };
  };
  lite = λ low lite. record {
    reads = None;
    writes = None;
    unsent = None;
    tells = record {
      low = lt-ltb p plan.header.ports low;
      lite = lite;
      operations_are = refl;
      issued = record { segment_is = refl; made = refl; acts = refl; whole = refl };
      sent = refl;
    };
  };
}

-- ---- events of others --------------------------------------------------------------------------------

-- a port keeps it through an event that isn't one of its master
port-heard : (plan : Plan) (past : Trace) (p : ℕ) (e : Event) → IsAccepted plan.header (e ∷ past) → is_given_by Master past p e ≡ false
    → PortKeeps plan past p → PortKeeps plan (e ∷ past) p
port-heard plan past p e accepted other k = record {
  ace = λ ace. let a = k.ace ace in record { unsent = a.unsent; tells = tells-heard plan past p e _ a.unsent ace accepted other a.tells };
  lite = λ low lite. let l = k.lite low lite in record {
    reads = l.reads;
    writes = l.writes;
    unsent = l.unsent;
    tells = tells-left plan past p e _ l.reads l.writes l.unsent (other-leaves past p e other) l.tells;
  };
}

no-master : (past : Trace) (p : ℕ) (e : Event) → is_of_interconnect e ≡ true → is_given_by Master past p e ≡ false
unfolding is_given_by
no-master past p e t = rw t (and-false (is_at_port p e))

-- so do all through an event of the interconnect
pub keeps-heard : (plan : Plan) (past : Trace) (e : Event) → IsLegal plan (e ∷ past) → is_of_interconnect e ≡ true → Keeps plan past → Keeps plan (e ∷ past)
keeps-heard plan past e legal of keeps = λ p. port-heard plan past p e legal.accepted (no-master past p e of) (keeps p)

given-own : (past : Trace) (p : ℕ) (e : Event) → is_own p e ≡ true → is_given_by Master past p e ≡ true
unfolding is_given_by
given-own past p e own = own

-- and a port through a burst of another port's master
burst-heard : (plan : Plan) (p q : ℕ) (burst : List Event) (past : Trace) → p ≢ q → IsAccepted plan.header (onto burst past)
    → list_all (is_own p) burst ≡ true → PortKeeps plan past q
    → PortKeeps plan (onto burst past) q
burst-heard plan p q [] past apart accepted own k = k
burst-heard plan p q (e ∷ burst) past apart accepted own k =
    let parts = and_parts (is_own p e) (list_all (is_own p) burst) own in
    let other = masters-apart past p q e apart (given-own past p e parts.0) in
    burst-heard plan p q burst (e ∷ past) apart accepted parts.1
    (port-heard plan past q e (accepted-before rules plan.header burst (e ∷ past) accepted) other k)

-- ---- a step of a master ------------------------------------------------------------------------------

-- its events are the port's own
step-own : (plan : Plan) (past : Trace) (p : ℕ) (burst : List Event) → is_step_by own_steps plan past p burst ≡ true → list_all (is_own p) burst ≡ true
step-own plan past p burst step =
    let h = plan.header in
    let next = next_operation plan past p in
    let given = (and_parts (is_sound h past burst) _ step).1 in
    elim (or_cases (may_answer_snoop h past p && answers_snoop h past p burst) _ given) [
      | inl answers ↦ answers-own h past p burst (and_parts (may_answer_snoop h past p) (answers_snoop h past p burst) answers).1
      | inr rest ↦ elim (or_cases (may_send h past p && sends h past p burst) _ rest) [
        | inl sent ↦ sends-own h past p burst (and_parts (may_send h past p) (sends h past p burst) sent).1
        | inr rest ↦ elim (or_cases (may_acknowledge next h past p && acknowledges next h past p burst) _ rest) [
          | inl ends ↦ acknowledges-own next h past p burst (and_parts (may_acknowledge next h past p) (acknowledges next h past p burst) ends).1
          | inr rest ↦ elim (or_cases (may_go_on plan.ways next h past p && goes_on plan.ways next h past p burst) false rest) [
            | inl goes ↦
                goes-on-own plan.ways next h past p burst (and_parts (may_go_on plan.ways next h past p) (goes_on plan.ways next h past p burst) goes).1
            | inr none ↦ cc
          ]
        ]
      ]
    ]

-- after it all keep what they are to keep, where its port does
keeps-after : (plan : Plan) (past : Trace) (p : ℕ) (burst : List Event) → Keeps plan past → is_step_by own_steps plan past p burst ≡ true
    → IsLegal plan (onto burst past)
    → PortKeeps plan (onto burst past) p → Keeps plan (onto burst past)
keeps-after plan past p burst keeps step legal own = λ q.
    elim (cases_eq p q) [
      | inl same ↦ subst (PortKeeps plan (onto burst past)) same own
      | inr apart ↦ burst-heard plan p q burst past apart legal.accepted (step-own plan past p burst step) (keeps q)
    ]

-- An enabled step of a master has a whole burst, and after it all keep what they are to keep.
pub masters-move : (plan : Plan) (past : Trace) (p : ℕ) → p < plan.header.ports → IsLegal plan past → Keeps plan past
    → is_enabled_by own_steps plan past p ≡ true
    → (s : HasStep own_steps plan past p) × Keeps plan (onto s.burst past)
masters-move plan past p low legal keeps some = elim (cases_Bool (is_ace plan.header p)) [
  | inl ace ↦
      let m : AceMove plan past p = ace-moves plan past p ace legal ((keeps p).ace ace) some in
      let own : PortKeeps plan (onto m.burst past) p = record {
        ace = λ a. record { unsent = m.unsent; tells = m.taken.tells };
        lite = λ l lite. let bad : true ≡ false = sym ace ∙ lite in cc;
      } in
      (record { burst = m.burst; step = m.taken.step; legal = m.taken.legal }, keeps-after plan past p m.burst keeps m.taken.step m.taken.legal own)
  | inr lite ↦
      let m : LiteMove plan past p = lite-moves plan past p legal some ((keeps p).lite low lite) in
      let own : PortKeeps plan (onto m.burst past) p = record {
        ace = λ a. let bad : true ≡ false = sym a ∙ lite in cc;
        lite = λ l none. record { reads = m.reads; writes = m.writes; unsent = m.unsent; tells = m.taken.tells };
      } in
      (record { burst = m.burst; step = m.taken.step; legal = m.taken.legal }, keeps-after plan past p m.burst keeps m.taken.step m.taken.legal own)
]
