-- A turn of the port is one of its master, whose policy may pick the same rows as before.
use Rattle.std.proofs.Common.{◌≡◌, ◌==◌, ◌||◌, ℕ, Bool, true, false, List, Contains, refl, sym, subst, ◌∙◌}
use Rattle.std.proofs.lemmas.Bool.{eqb-true}
use Rattle.ace_codes.specs.declared.kind.SnoopKind.{SnoopKind}
use Rattle.ace_codes.specs.declared.state.LineState.{LineState}
use Rattle.ace_event.specs.declared.event.Event.{Event}
use Rattle.ace_tables.specs.declared.rows.Row.{Row}
use Rattle.ace_model.specs.Plans.{Plan}
use Rattle.ace_model.specs.Trace.{Trace}
use Rattle.ace_runs.specs.Bursts.{onto}
use Rattle.ace_runs.specs.MasterSteps.{may_acknowledge, may_answer_snoop, may_go_on, may_send}
use Rattle.ace_runs.specs.Operations.{next_operation}
use Rattle.ace_runs.specs.Steps.{is_enabled_by, is_step_by}
use Rattle.ace_master.specs.declared.ace_port.AcePort.{AcePort}
use Rattle.ace_master.specs.Ace.{AceStands}
use Rattle.ace_master.specs.AcePort.{IsAceTurn}
use Rattle.ace_master.specs.Lite.{own_steps}

abbrev Rows : Type 0
Rows = SnoopKind → LineState → Bool → List Row

pub turned-step : (s : AcePort) (plan : Plan) (past : Trace) (burst : List Event) (p q : ℕ) → (q == p) ≡ true → s.port ≡ p → IsAceTurn s plan past burst → is_step_by own_steps plan past q burst ≡ true
turned-step s plan past burst p q serves port t = subst (λ r. is_step_by own_steps plan past r burst ≡ true) (port ∙ sym (eqb-true q p serves)) t.step

pub turned-stands : (s before : AcePort) (plan : Plan) (past : Trace) (burst : List Event) (rows old : Rows) → ((k : SnoopKind) (st : LineState) (u : Bool) → rows k st u ≡ old k st u)
    → AceStands before old plan past → IsAceTurn s plan past burst → AceStands s rows plan (onto burst past)
turned-stands s before plan past burst rows old same m t =
    record { port = t.stands; picks = λ k st u r there. m.picks k st u r (subst (λ (rs : List Row). Contains rs r) (same k st u) there) }

none-of : (a b c d : Bool) → a ≡ false → b ≡ false → c ≡ false → d ≡ false → (a || (b || (c || (d || false)))) ≡ false
none-of true b c d f g h i = cc
none-of false true c d f g h i = cc
none-of false false true d f g h i = cc
none-of false false false true f g h i = cc
none-of false false false false f g h i = refl

-- none of the steps of a master is enabled
pub none-enabled : (plan : Plan) (past : Trace) (p q : ℕ) → (q == p) ≡ true → may_answer_snoop plan.header past p ≡ false → may_send plan.header past p ≡ false
    → may_acknowledge (next_operation plan past p) plan.header past p ≡ false → may_go_on plan.ways (next_operation plan past p) plan.header past p ≡ false → is_enabled_by own_steps plan past q ≡ false
none-enabled plan past p q serves one two four last =
    subst (λ r. is_enabled_by own_steps plan past r ≡ false) (sym (eqb-true q p serves))
    (none-of (may_answer_snoop plan.header past p) (may_send plan.header past p) (may_acknowledge (next_operation plan past p) plan.header past p)
    (may_go_on plan.ways (next_operation plan past p) plan.header past p) one two four last)
