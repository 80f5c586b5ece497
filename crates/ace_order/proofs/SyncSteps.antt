-- The AC that completes a Sync is a step 13 where it breaks no rule, and the rules of the system decide that alone at an ACE port.
use Rattle.std.proofs.Common.{◌≡◌, ℕ, Bool, true, false, not, if◌then◌else◌, [], ◌∷◌, Some, None, is_none, nat_lt, refl, sym, ap, ◌∙◌, inl, inr}
use Rattle.std.proofs.lemmas.Bool.{and_from, and_parts, cases_Bool, false_from_ne_true}
use Rattle.ace_codes.specs.declared.kind.SnoopKind.TheVariants as snoop
use Rattle.ace_codes.specs.Snoops.{ac_code, ac_kind_of}
use Rattle.ace_event.specs.declared.event.Event.{Event}
use Rattle.ace_event.specs.declared.event.Event.TheVariants.{Ac}
use Rattle.ace_event.specs.declared.header.Header.{Header}
use Rattle.ace_model.specs.Accepted.{IsAccepted, least_of}
use Rattle.ace_model.specs.AddressRules.{k1}
use Rattle.ace_model.specs.Kinds.{is_message_snoop}
use Rattle.ace_model.specs.OrderRules.{k36, k39}
use Rattle.ace_model.specs.Plans.{Plan}
use Rattle.ace_model.specs.Shares.{system_rules}
use Rattle.ace_model.specs.Trace.{Trace, is_some_and}
use Rattle.ace_model.specs.Transactions.{is_ace}
use Rattle.ace_model.proofs.Rules.Keeps.{accepted_keeps, kept}
use Rattle.ace_model.proofs.Tables.ReadSnoops.{kind_of_code}
use Rattle.ace_runs.specs.Bursts.{is_kept}
use Rattle.ace_runs.specs.OrderSteps.{gives_completion, may_give_completion}
use Rattle.ace_runs.specs.Steps.{is_sound, is_step_by}
use Rattle.ace_runs.proofs.Accepting.{kept-breaks-none}
use Rattle.ace_runs.proofs.NeverStuck.Forwarding.Steps.{forwards_none}
use Rattle.ace_runs.proofs.NeverStuck.Steps.SameBursts.{burst-self}
use Rattle.ace_runs.proofs.NeverStuck.Transactions.SnoopsKept.{ac-kept}
use Rattle.ace_engine.specs.Engines.{IsLegal}
use Rattle.ace_engine.proofs.OfInterconnect.{legal-with}
use Rattle.ace_order.proofs.FourSteps.{completes-sync}
use Rattle.ace_order.proofs.PlainReads.{nothing-broken}

-- the AC
abbrev pub completion : ℕ → Event
completion p = Ac p 0 (ac_code snoop.DvmComplete)

two-keep : (a b : Bool) → a ≡ true → b ≡ true → is_none {T = ℕ} (if a then (if b then None else Some 39) else Some 36) ≡ true
two-keep a b s t = rw (s, t) refl

pub completion-port : (h : Header) (past : Trace) (p : ℕ) → is_ace h p ≡ true → k1 h past (completion p) ≡ true
completion-port h past p ace = and_from _ _ (and_parts (nat_lt p h.ports) _ ace).0 ace

by-system : (h : Header) (past : Trace) (p : ℕ) → is_ace h p ≡ true → least_of system_rules h past (completion p) ≡ None → is_kept h past (completion p) ≡ true
unfolding ac_kind_of
by-system h past p ace none =
    let thirty_six : k36 h past (completion p) ≡ true = kept system_rules 36 h past (completion p) none in
    let thirty_nine : k39 h past (completion p) ≡ true = kept system_rules 39 h past (completion p) none in
    ac-kept h past p 0 (ac_code snoop.DvmComplete) (completion-port h past p ace) refl refl refl thirty_six thirty_nine

module _ (h : Header) (past : Trace) (a : IsAccepted h past) (p : ℕ) where
  in-system : is_kept h past (completion p) ≡ true → is_none (least_of system_rules h past (completion p)) ≡ true
  in-system k =
      let keeps = accepted_keeps h past (completion p) (a, kept-breaks-none h past (completion p) k) in
      two-keep (k36 h past (completion p)) (k39 h past (completion p)) keeps.rule_36 keeps.rule_39

  pub completion-decides : is_ace h p ≡ true → is_none (least_of system_rules h past (completion p)) ≡ may_give_completion h past p
  completion-decides ace =
      elim (cases_Bool (is_none (least_of system_rules h past (completion p)))) [
        | inl t ↦ t ∙ sym (by-system h past p ace (nothing-broken (least_of system_rules h past (completion p)) t))
        | inr f ↦ f ∙ sym (false_from_ne_true (is_kept h past (completion p)) (λ k. let bad : true ≡ false = sym (in-system k) ∙ f in cc))
      ]

  -- an ACE-Lite port has no Sync to complete
  pub no-completion : is_ace h p ≡ false → may_give_completion h past p ≡ false
  no-completion lite =
      false_from_ne_true (is_kept h past (completion p)) (λ k.
      let one : k1 h past (completion p) ≡ true = (accepted_keeps h past (completion p) (a, kept-breaks-none h past (completion p) k)).rule_1 in
      let bad : false ≡ true = sym lite ∙ (and_parts (nat_lt p h.ports) (is_ace h p) one).1 in cc)

-- it forwards no part of a message
pub completion-forwards-none : (p : ℕ) → forwards_none (completion p) ≡ true
completion-forwards-none p = ap (λ o. not (is_some_and o is_message_snoop)) (kind_of_code snoop.DvmComplete)

module _ (plan : Plan) (past : Trace) (legal : IsLegal plan past) (p : ℕ) (may : may_give_completion plan.header past p ≡ true) where
  pub legal-completion : IsLegal plan (completion p ∷ past)
  legal-completion = legal-with plan past (completion p) refl legal may

  pub completion-step : is_step_by (10 ∷ 11 ∷ 12 ∷ 13 ∷ []) plan past p (completion p ∷ []) ≡ true
  completion-step =
      let gives : gives_completion plan.header past p (completion p ∷ []) ≡ true = burst-self (completion p ∷ []) in
      let sound : is_sound plan.header past (completion p ∷ []) ≡ true = and_from _ _ may refl in
      completes-sync plan past p (completion p ∷ []) sound (and_from _ _ may gives)
