-- Each right plan has a whole run in which only ports are snooped for a line that are kept for it.
use Rattle.std.proofs.Common.{◌≡◌, true, List, [], ◌∷◌, ◌++◌, reverse, refl, sym, ap, subst, ◌∙◌}
use Rattle.std.proofs.lemmas.List.{reverse-reverse}
use Rattle.ace_event.specs.declared.event.Event.{Event}
use Rattle.ace_model.specs.Kept.{kept_ports}
use Rattle.ace_model.specs.Plans.{IsRight, Plan}
use Rattle.ace_model.specs.Trace.{Trace}
use Rattle.ace_runs.specs.Bursts.{onto}
use Rattle.ace_runs.specs.Steps.{Turn}
use Rattle.ace_engine.specs.Engines.{IsLegal}
use Rattle.ace_engine.proofs.Heard.{legal-before, onto-append}
use Rattle.ace_filter.specs.Drain.{are_kept_snoops}
use Rattle.ace_filter.proofs.Draining.{kept-both, kept-now, reversed}
use Rattle.ace_filter.proofs.KeptSnoops.{step-kept-snoops}
use Rattle.ace_whole_runs.specs.Runs.{AreTurnsAmong, IsRunOf, SetsAt}
use Rattle.ace_whole_runs.proofs.WholeRuns.{whole-run-among}

-- The events of a trace, in order, each of which snoops no line at a port that isn't kept for it.
record IsSnooped (plan : Plan) (past : Trace) : Type 0 where
  events : List Event
  same : past ≡ onto events []
  kept : are_kept_snoops plan.header [] events ≡ true

module _ (plan : Plan) where
  sets : SetsAt
  sets past = kept_ports plan.header past

  snooped : (turns : List Turn) (past : Trace) → AreTurnsAmong (λ t. kept_ports plan.header t) plan turns past → IsLegal plan past → IsSnooped plan past
  snooped [] past is legal = record { events = []; same = is; kept = refl }
  snooped (turn ∷ turns) past (before, are, step, is) legal =
      let earlier = legal-before plan turn.burst before (subst (IsLegal plan) is legal) in
      let first = snooped turns before are earlier in
      let kept = step-kept-snoops (kept_ports plan.header before) plan before turn.port turn.burst earlier (λ l p. refl) step in
      record {
        events = first.events ++ turn.burst;
        same = is ∙ ap (onto turn.burst) first.same ∙ sym (onto-append first.events turn.burst []);
        kept = kept-both plan.header [] first.events turn.burst first.kept
            (subst (λ (t : Trace). are_kept_snoops plan.header t turn.burst ≡ true) first.same kept);
      }

pub kept-run : (plan : Plan) → IsRight plan → (past : Trace) × IsRunOf plan past × (are_kept_snoops plan.header [] (reverse past) ≡ true)
kept-run plan right =
    let w = whole-run-among (λ t. kept_ports plan.header t) plan right (λ past accepted l p ace held. kept-now plan.header past accepted l p held) in
    let s = snooped plan w.1.among.0 w.0 w.1.among.1 w.1.legal in
    let in_order : reverse w.0 ≡ s.events = ap reverse (s.same ∙ reversed s.events) ∙ reverse-reverse s.events in
    (w.0, w.1.run, subst (λ events. are_kept_snoops plan.header [] events ≡ true) (sym in_order) s.kept)
