-- What the master of an ACE port keeps stands after an event that isn't one of its own.
use Rattle.std.proofs.Common.{◌≡◌, ℕ, true, false, ◌&&◌, ◌==◌, List, ◌∷◌, Option, Some, sym, ap, ◌∙◌}
use Rattle.std.proofs.lemmas.Bool.{eq-eqb}
use Rattle.ace_event.specs.declared.event.Event.{Event}
use Rattle.ace_event.specs.declared.event.Event.TheVariants as event
use Rattle.ace_model.specs.declared.plans.Op.{Op}
use Rattle.ace_model.specs.Accepted.{IsAccepted}
use Rattle.ace_model.specs.Plans.{Plan}
use Rattle.ace_model.specs.Trace.{Trace, port_of}
use Rattle.ace_model.specs.Transactions.{is_ace}
use Rattle.ace_model.proofs.General.Options.{Some-injective}
use Rattle.ace_engine.specs.Engines.{Master, is_given_by}
use Rattle.ace_portck.specs.declared.target.WriteData.{WriteData}
use Rattle.ace_master_laws.proofs.Progress.Come.{orderly-heard}
use Rattle.ace_master_state.specs.Cached.{HasLowId}
use Rattle.ace_master.specs.AcePort.{AceTells}
use Rattle.ace_master.proofs.AnsweredSnoops.AnnouncedData.{data-sent-left, others-no-answer}
use Rattle.ace_master.proofs.OtherEvents.{other-leaves}
use Rattle.ace_master.proofs.WriteData.UnsentData.{unsent-left}

-- a read of the port is one of its master's
pub given-low : (past : Trace) (p : ℕ) (e : Event) → is_given_by Master past p e ≡ false → port_of e ≡ Some p → HasLowId e
unfolding is_given_by
given-low past p (event.Ar q i addr snoop dom bar lock) f own =
    let here : (q == p) ≡ true = eq-eqb q p (Some-injective q p own) in
    let bad : true ≡ false = sym (ap (λ b. b && true) here) ∙ f in
    cc
given-low past p e f own = tt

pub tells-heard : (plan : Plan) (past : Trace) (p : ℕ) (e : Event) (operations : List Op) (unsent : Option WriteData) → is_ace plan.header p ≡ true → IsAccepted plan.header (e ∷ past)
    → is_given_by Master past p e ≡ false → AceTells plan past p operations unsent → AceTells plan (e ∷ past) p operations unsent
tells-heard plan past p e operations unsent ace accepted f t =
    let l = other-leaves past p e f in
    record {
      operations_are = t.operations_are;
      orderly = orderly-heard plan past p e ace accepted f t.orderly;
      answered = data-sent-left past p e (others-no-answer past p e f) t.answered;
      unsent_is = unsent-left plan past p e unsent l.writes l.beats_are t.unsent_is;
    }
