-- Which events leave a port that has sent the data of its answers so: all but its answers and their data.
use Rattle.std.proofs.Common.{◌≡◌, ℕ, ◌+◌, ◌*◌, Bool, true, false, ◌&&◌, ◌==◌, if◌then◌else◌, ◌∷◌, length, None, refl, sym, ap, ◌∙◌}
use Rattle.std.specs.Option.{option_map}
use Rattle.std.proofs.lemmas.Bool.{eq-eqb, eqb-true, false_from_ne_true}
use Rattle.ace_codes.specs.Responses.{transfers_data}
use Rattle.ace_event.specs.declared.event.Event.{Event}
use Rattle.ace_event.specs.declared.event.Event.TheVariants.{Cr, Cd}
use Rattle.ace_model.specs.Copies.{copy_of}
use Rattle.ace_model.specs.Replies.{sent}
use Rattle.ace_model.specs.Snoops.{answered, data_beats}
use Rattle.ace_model.specs.Trace.{Trace, more}
use Rattle.ace_engine.specs.Engines.{Master, is_given_by}
use Rattle.ace_master.specs.Answering.{AreDataSent, is_answer_of}

pub data-sent-left : (past : Trace) (p : ℕ) (e : Event) → is_answer_of p e ≡ false → AreDataSent past p → AreDataSent (e ∷ past) p
data-sent-left past p (Cr q resp st) other all =
    all ∙ ap (λ b. 4 * length (more (sent past p) (if b && transfers_data resp then option_map (λ s. copy_of past p s.addr) (answered past p) else None))) (sym other)
data-sent-left past p (Cd q last word) other all = ap (λ b. if b then data_beats past p + 1 else data_beats past p) other ∙ all
data-sent-left past p e other all = all

alone : (b : Bool) → (b && true) ≡ false → b ≡ false
alone true f = cc
alone false f = refl

turned : (p q : ℕ) → (q == p) ≡ false → (p == q) ≡ false
turned p q f = false_from_ne_true (p == q) (λ t. let bad : false ≡ true = sym f ∙ eq-eqb q p (sym (eqb-true p q t)) in cc)

-- so an event that isn't one of the port's master does
pub others-no-answer : (past : Trace) (p : ℕ) (e : Event) → is_given_by Master past p e ≡ false → is_answer_of p e ≡ false
unfolding is_given_by
others-no-answer past p (Cr q resp st) f = turned p q (alone (q == p) f)
others-no-answer past p (Cd q last word) f = turned p q (alone (q == p) f)
others-no-answer past p e f = refl
