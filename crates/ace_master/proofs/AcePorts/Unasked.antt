-- An operation that writes past the cache can't ask where no identifier is free for a write, unless it gives a clean line up first.
use Rattle.std.proofs.Common.{◌≡◌, ℕ, Bool, true, false, ◌&&◌, ◌||◌, ◌==◌, if◌then◌else◌, List, [], ◌∷◌, length, map, None, option_map, unwrap_or, refl, ap, ◌∙◌, inl, inr}
use Rattle.std.proofs.lemmas.Bool.{cases_Bool}
use Rattle.ace_codes.specs.Writes.{aw_code}
use Rattle.ace_codes.specs.declared.kind.AwKind.{AwKind}
use Rattle.ace_codes.specs.declared.kind.AwKind.TheVariants as write
use Rattle.ace_codes.specs.declared.state.LineState.{LineState}
use Rattle.ace_codes.specs.declared.state.LineState.TheVariants.{I}
use Rattle.ace_event.specs.declared.event.Channel.TheVariants.{Write}
use Rattle.ace_event.specs.declared.event.Event.{Event}
use Rattle.ace_event.specs.declared.event.Event.TheVariants.{Aw}
use Rattle.ace_event.specs.declared.header.Header.{Header}
use Rattle.ace_tables.specs.States.{is_dirty, is_invalid}
use Rattle.ace_model.specs.declared.plans.Op.{Op}
use Rattle.ace_model.specs.AddressRules.{keeps_apart}
use Rattle.ace_model.specs.Kinds.{is_no_snoop_write}
use Rattle.ace_model.specs.States.{state_of}
use Rattle.ace_model.specs.Trace.{Trace}
use Rattle.ace_runs.specs.Acts.{acts_of}
use Rattle.ace_runs.specs.Closing.{and_closing, closing_of, state_named}
use Rattle.ace_runs.specs.Requests.{Drops, Writes, bursts_of, domain_for, ends_or_asks, free_on, gives_up_first, is_waiting, moves_of, request_of, with_identifier}
use Rattle.ace_runs.specs.Retiring.{is_met}
use Rattle.ace_master.proofs.AcePorts.Ends.{goes-free}
use Rattle.ace_master.proofs.LiteMoves.{closing-none}
use Rattle.ace_master.proofs.LiteOperations.{IsWrite}

module _ (ways : ℕ) (h : Header) (past : Trace) (p a : ℕ) (none : free_on h past p Write ≡ None) where
  no-burst : (k : AwKind) → bursts_of ways h past p (Writes k a) ≡ []
  no-burst k =
      ap (λ o. if keeps_apart h past p k then with_identifier o (λ i. Aw p i a (aw_code k) (domain_for (is_no_snoop_write k)) 0 ∷ []) else []) none ∙ by (keeps_apart h past p k) []
    where
      by : (b : Bool) (bursts : List (List Event)) → (if b then bursts else bursts) ≡ bursts
      by true bursts = refl
      by false bursts = refl

  pub write-unasked : (op : Op) (k : AwKind) → IsWrite op k a → ((st : LineState) → request_of op st ≡ gives_up_first a st (Writes k a))
      → (is_invalid (state_of h past p a) || is_dirty (state_of h past p a)) ≡ true → moves_of ways h past p op ≡ []
  write-unasked op k w asks held =
      elim (cases_Bool (is_waiting h past p op)) [
        | inl waits ↦ ap (λ b. if b then [] else ends_or_asks ways h past p op (closing_of h past p op)) waits
        | inr goes ↦
            let made = (goes-free h past p op goes).1 in
            let closed : closing_of h past p op ≡ [] =
            closing-none h past p op w.plain
            (ap (λ n. (n == length (acts_of op)) && is_met h past p op) made ∙ ap (λ (fs : List (Event → Bool)). (0 == length fs) && is_met h past p op) w.acts) in
            let st : state_named h past p op ≡ state_of h past p a = ap (λ o. unwrap_or (option_map (state_of h past p) o) I) w.line in
            ap (λ b. if b then [] else ends_or_asks ways h past p op (closing_of h past p op)) goes
            ∙ ap (ends_or_asks ways h past p op) closed
            ∙ ap (λ t. map (and_closing h past p op) (bursts_of ways h past p (request_of op t))) st
            ∙ ap (λ r. map (and_closing h past p op) (bursts_of ways h past p r)) (asks (state_of h past p a))
            ∙ by (is_invalid (state_of h past p a)) (is_dirty (state_of h past p a)) held
      ]
    where
      by : (i d : Bool) → (i || d) ≡ true
          → map (and_closing h past p op) (bursts_of ways h past p (if i then Writes k a else if d then Writes write.WriteBack a else Drops a)) ≡ []
      by true d t = ap (map (and_closing h past p op)) (no-burst k)
      by false true t = ap (map (and_closing h past p op)) (no-burst write.WriteBack)
      by false false t = cc
