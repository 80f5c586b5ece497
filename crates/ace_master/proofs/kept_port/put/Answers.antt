use Rattle.std.proofs.Common.{◌<◌, ◌++◌, ◌∷◌, [], List, false, length, take, sym, ap, subst, ◌∙◌, append_assoc, length-append, length-take, arith}
use Rattle.std.proofs.Math.ListN.{get_or}
use Rattle.std.proofs.lemmas.List.{take_more}
use Rattle.ace_event.specs.declared.event.Event.{Event}
use Rattle.ace_event.specs.declared.event.Event.TheVariants.{Ar}
use Rattle.ace_runs.specs.Bursts.{onto}
use Rattle.ace_engine.proofs.Heard.{legal-next, onto-next}
use Rattle.ace_model.specs.Transactions.{is_ace}
use Rattle.ace_portck.specs.OnePort.{port_of}
use Rattle.ace_master_state.specs.Identifiers.{IdentifiersStand}
use Rattle.ace_master.specs.KeptPort.{KeepsPort}
use Rattle.ace_master.proofs.kept_port.put.Goals as goal

pub push-requires : goal.push-requires
push-requires c =
    let long = ap length c.loop-event.invariant.burst ∙ length-append c.args.out.now (take c.loop-event.event-index c.args.events.now) in
    let taken = length-take c.loop-event.event-index c.args.events.now in
    let room = c.requires in
    omega (arith, long, taken, room)

pub loop-event-preserved : goal.loop-event-preserved
loop-event-preserved c =
    let xs = c.args.events.now in
    let i = c.loop-event.event-index in
    let d : Event = Ar 0 0 0 0 0 0 false in
    let low : i < length xs = omega arith in
    record {
      kept = λ plan past k legal.
          subst (KeepsPort c.note.new.port plan) (sym (onto-next xs i d past low))
          (c.note.ensures.kept plan (onto (take i xs) past) (c.loop-event.invariant.kept plan past k legal) (legal-next plan xs i d past low legal));
      identifiers = λ plan past legal lite s.
          let q = c.loop-event.invariant.port in
          let now = subst (λ r. IdentifiersStand plan.header (onto (take i xs) past) r c.loop-event.identifiers) (sym q) (c.loop-event.invariant.identifiers plan past legal lite s) in
          let later = c.note.ensures.identifiers plan (onto (take i xs) past) (legal-next plan xs i d past low legal) (ap (is_ace plan.header) q ∙ lite) now in
          subst (λ t. IdentifiersStand plan.header t (port_of c.args.port.now) c.note.new.identifiers) (sym (onto-next xs i d past low))
          (subst (λ r. IdentifiersStand plan.header (get_or xs i d ∷ onto (take i xs) past) r c.note.new.identifiers) q later);
      port = c.note.ensures.port ∙ c.loop-event.invariant.port;
      burst =
          c.push.ensures ∙ ap (λ (es : List Event). es ++ get_or xs i d ∷ []) c.loop-event.invariant.burst ∙ append_assoc c.args.out.now (take i xs) (get_or xs i d ∷ [])
          ∙ ap (λ (es : List Event). c.args.out.now ++ es) (sym (take_more xs i d low));
    }
