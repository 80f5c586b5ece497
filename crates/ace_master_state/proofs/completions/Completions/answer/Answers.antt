use Rattle.std.proofs.Common.{◌≡◌, ◌∷◌, Bool, true, false, not, ◌&&◌, if◌then◌else◌, refl, sym, ap, ◌∙◌, arith}
use Rattle.ace_event.specs.declared.event.Event.TheVariants.{Cr}
use Rattle.ace_model.specs.Messages.{is_sync_word}
use Rattle.ace_sysck.proofs.SyncSteps.{answered-few}
use Rattle.ace_engine.proofs.Rooms.{few-events-there}
use Rattle.ace_master_state.specs.Completions.{awaits_second}
use Rattle.ace_master_state.proofs.SyncsAnswered.{answers-message, answers-no-message, awaits-stays, completes-stay, syncs-stay}
use Rattle.ace_master_state.proofs.completions.Completions.answer.Goals as goal

swap : (a b : Bool) → (not a && b) ≡ (b && not a)
swap true true = refl
swap true false = refl
swap false true = refl
swap false false = refl

pub returns-then-not-is_message : goal.returns-then-not-is_message
returns-then-not-is_message c = λ plan past p resp st legal at s.
    let same = answers-no-message plan.header past p resp st c.args.snoop.now legal.accepted at (sym c.is_message.ensures ∙ c.if-not-is_message.true) in
    record {
      port = s.port;
      answered = s.answered ∙ sym (syncs-stay past (Cr p resp st) p same);
      issued = s.issued ∙ sym (completes-stay past (Cr p resp st) p refl);
      second = s.second ∙ sym (awaits-stays past (Cr p resp st) p same);
    }

pub returns : goal.returns
returns c = λ plan past p resp st legal at s.
    let a = answers-message plan.header past p resp st c.args.snoop.now legal.accepted at (sym c.is_message.ensures ∙ c.if-not-is_message.false) in
    let few = few-events-there plan (Cr p resp st ∷ past) legal in
    let most = answered-few plan.header (Cr p resp st ∷ past) p legal.accepted in
    let count = c.one.ensures ∙ ap (λ b. if b then 1 else 0)
    (c.unless-is_sync.ensures ∙ ap (λ b. not b && c.is_sync_word.result) s.second ∙ ap (λ b. not (awaits_second past p) && b) c.is_sync_word.ensures ∙ swap (awaits_second past p) (is_sync_word c.args.snoop.now.addr)) in
    let syncs = a.syncs in
    let was = s.answered in
    record {
      port = s.port;
      answered = omega (arith, few, most, count, syncs, was);
      issued = s.issued ∙ sym (completes-stay past (Cr p resp st) p refl);
      second = c.unless-self.ensures ∙ ap (λ b. not b && c.has_second.result) s.second ∙ ap (λ b. not (awaits_second past p) && b) c.has_second.ensures ∙ sym a.awaits;
    }
