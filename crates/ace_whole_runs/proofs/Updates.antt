-- Step 3: a memory update that may write memory has its M and its B, and an Evict that may be answered its B.
use Rattle.std.proofs.Common.{◌≡◌, ℕ, true, false, Option, Some, None, List, [], ◌∷◌, refl, ◌∙◌, sym, inl, inr}
use Rattle.std.proofs.lemmas.Bool.{cases_Bool}
use Rattle.ace_event.specs.declared.event.Channel.{Channel}
use Rattle.ace_event.specs.declared.event.Channel.TheVariants.{Read, Write}
use Rattle.ace_event.specs.declared.event.Event.{Event}
use Rattle.ace_event.specs.declared.event.Event.TheVariants.{B, M}
use Rattle.ace_event.specs.declared.header.Header.{Header}
use Rattle.ace_model.specs.declared.transactions.Transaction.{Transaction}
use Rattle.ace_model.specs.Plans.{Plan}
use Rattle.ace_model.specs.Progress.{evicts, updates_memory}
use Rattle.ace_model.specs.Trace.{Trace}
use Rattle.ace_model.specs.Transactions.{is_read}
use Rattle.ace_runs.specs.Bursts.{may_begin, may_serve}
use Rattle.ace_runs.specs.LineSteps.{update_burst}
use Rattle.ace_runs.proofs.NeverStuck.Steps.StepShapes.{updates_write}
use Rattle.ace_runs.proofs.NeverStuck.Updates.EvictsMove.{evicts-write}
use Rattle.ace_engine.specs.Engines.{IsLegal, Update, numbers_of}
use Rattle.ace_portck.specs.declared.target.WriteData.{WriteData}
use Rattle.ace_portck.specs.Targets.{data_of_write as data_sent}
use Rattle.ace_update.proofs.DueWrites.{IsWrite, none-begins}
use Rattle.ace_update.proofs.UpdateSteps.{evict-step, update-sent, update-step}
use Rattle.ace_whole_runs.proofs.Interconnect.{GivesStep}
use Rattle.ace_whole_runs.proofs.Services.{MayServe, may-serve, pending}

write-of : (h : Header) (past : Trace) (x : Transaction) → may_begin h past (update_burst h past x) ≡ true → is_read x.chan ≡ false
write-of h past x begins =
    elim (cases_Bool (updates_memory x)) [
      | inl u ↦ updates_write x u
      | inr f ↦ elim (cases_Bool (evicts x)) [
        | inl e ↦ evicts-write x e
        | inr n ↦ let bad : false ≡ true = sym (none-begins h past x f n) ∙ begins in cc
      ]
    ]

is-write : (c : Channel) → is_read c ≡ false → c ≡ Write
is-write Read f = cc
is-write Write f = refl

pub gives-update : (plan : Plan) (past : Trace) (p : ℕ) → IsLegal plan past
    → may_serve update_burst plan.header past p ≡ true → GivesStep (numbers_of Update) plan past p
gives-update plan past p legal may =
    let s = may-serve update_burst plan.header past p may in
    let w : IsWrite plan.header past p s.of = pending update_burst plan.header past p s Write (is-write s.of.chan (write-of plan.header past s.of s.begins)) in
    elim (cases_Bool (updates_memory s.of)) [
      | inr f ↦ record {
        burst = B s.of.port s.of.id 0 ∷ [];
        step = evict-step plan past legal p s.of w s.begins f;
        own = refl;
      }
      | inl u ↦ by s w u (data_sent past s.of) refl
    ]
  where
    by : (s : MayServe update_burst plan.header past p) → IsWrite plan.header past p s.of → updates_memory s.of ≡ true
        → (o : Option WriteData) → data_sent past s.of ≡ o → GivesStep (numbers_of Update) plan past p
    by s w u None none = absurd (update-sent plan past legal p s.of w s.begins u none)
    by s w u (Some d) sent =
        let burst : List Event = M s.of.port s.of.chan s.of.id d.line ∷ B s.of.port s.of.id 0 ∷ [] in
        record {
          burst = burst;
          step = update-step plan past legal p s.of w s.begins u d sent;
          own = refl;
        }
