-- What the relation of the engine asks of the pairs and of what was forwarded stays with an event that is none of the engine's own.
use Rattle.std.proofs.Common.{◌≡◌, ℕ, true, false, not, ◌∷◌, [], refl, sym, ap, ◌∙◌, inl, inr}
use Rattle.std.proofs.lemmas.Bool.{and_from, cases_Bool}
use Rattle.ace_codes.specs.Snoops.{ac_kind_of}
use Rattle.ace_event.specs.declared.event.Event.{Event}
use Rattle.ace_event.specs.declared.event.Event.TheVariants.{Ac}
use Rattle.ace_model.specs.Kinds.{is_line_snoop, is_message_snoop}
use Rattle.ace_model.specs.Snoops.{snoops_a_line}
use Rattle.ace_model.specs.Trace.{Trace, is_some_and}
use Rattle.ace_model.proofs.General.Options.{is_some_and-is}
use Rattle.ace_runs.proofs.NeverStuck.Forwarding.Bursts.{still-between}
use Rattle.ace_runs.proofs.NeverStuck.Forwarding.Steps.{forwards_none, line-no-message}
use Rattle.ace_engine.specs.Engines.{Order, is_given_by, is_of_order}
use Rattle.ace_order.specs.Messages.{IsForwardedWhole}

pub no-order-event : (past : Trace) (e : Event) → is_given_by Order past 0 e ≡ false → is_of_order past e ≡ false
unfolding is_given_by
no-order-event past e none = none

-- it forwards no part of a message
pub others-forward-none : (past : Trace) (e : Event) → is_of_order past e ≡ false → forwards_none e ≡ true
others-forward-none past (Ac p addr code) none =
    elim (cases_Bool (snoops_a_line code)) [
      | inr f ↦ let bad : true ≡ false = sym (ap not f) ∙ none in cc
      | inl line ↦
          let k = is_some_and-is (ac_kind_of code) is_line_snoop line in
          ap (λ o. not (is_some_and o is_message_snoop)) k.1 ∙ ap not (line-no-message k.0 k.2)
    ]
others-forward-none past e none = refl

-- where the event forwards no part, what was forwarded to a port stays whole messages
pub whole-next : (past : Trace) (e : Event) (q : ℕ) → forwards_none e ≡ true → IsForwardedWhole past q → IsForwardedWhole (e ∷ past) q
whole-next past e q none w = still-between (e ∷ []) past q w (and_from _ _ none refl)
