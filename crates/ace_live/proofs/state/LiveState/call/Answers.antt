use Rattle.std.proofs.Common.{◌∷◌, ◌++◌, [], ap, sym, subst, ◌∙◌}
use Rattle.std.specs.List.{AllByRecursion}
use Rattle.ace_event.specs.Range.{FitsFields}
use Rattle.ace_history.specs.Histories.{history_of}
use Rattle.ace_history.specs.Newest.{last_entry}
use Rattle.ace_fabric.specs.Runs.{Run, continued}
use Rattle.ace_live.specs.Running.{Running, setting_of}
use Rattle.ace_live.proofs.States.{IsCalled, called-live, called-value, can-stand, first-fit, live-legal, seen-low, seen-room}
use Rattle.ace_live.proofs.state.LiveState.call.Goals as goal

pub push-requires-clause-right : goal.push-requires-clause-right
push-requires-clause-right c =
    let before = c.self.inside.system in
    can-stand before (record { port = c.args.port; op = c.args.op }) c.self.invariant
    (seen-low before c.args.self.now c.args.port c.self.view_is c.requires.port) c.requires.range c.requires.call

pub rest_fits-requires-clause-within : goal.rest_fits-requires-clause-within
rest_fits-requires-clause-within c =
    let before = c.self.inside.system in
    let kept = c.drain.ensures.kept in
    let after = c.trace.ensures ∙ ap (λ (r : Run). r.past) (kept.1 ∙ ap (continued kept.0) c.push.ensures) in
    (first-fit c.trace-before.result.now c.trace.result.now before.past kept.0 c.trace-before.ensures after c.self.invariant.settled.fits).0

pub rest_fits-requires-clause-first : goal.rest_fits-requires-clause-first
rest_fits-requires-clause-first c =
    let before = c.self.inside.system in
    let kept = c.drain.ensures.kept in
    let after = c.trace.ensures ∙ ap (λ (r : Run). r.past) (kept.1 ∙ ap (continued kept.0) c.push.ensures) in
    (first-fit c.trace-before.result.now c.trace.result.now before.past kept.0 c.trace-before.ensures after c.self.invariant.settled.fits).1

is-called : (c : goal.After-last_entry)
    → IsCalled c.self.inside.system c.drain.new.self (record { port = c.args.port; op = c.args.op })
is-called c =
    let kept = c.drain.ensures.kept in
    record {
      live = c.self.invariant;
      legal = c.keeps.ensures.legal;
      low = seen-low c.self.inside.system c.args.self.now c.args.port c.self.view_is c.requires.port;
      call = c.requires.call;
      range = c.requires.range;
      events = kept.0;
      is = kept.1 ∙ ap (continued kept.0) c.push.ensures;
      done = c.drain.ensures.done;
      legal_after = c.keeps-2.ensures.legal;
      fits = subst (AllByRecursion FitsFields) c.trace.ensures c.rest_fits.ensures;
    }

pub invariant_of-self : goal.invariant_of-self
invariant_of-self c =
    called-live c.self.inside.system c.drain.new.self (record { port = c.args.port; op = c.args.op }) (is-called c)

pub returns-clause-value : goal.returns-clause-value
returns-clause-value c =
    let before = c.self.inside.system in
    let after = c.drain.new.self in
    let some = seen-room before c.args.self.now c.self.view_is c.self.invariant c.requires.room in
    let last = c.last_entry.ensures ∙ ap (last_entry (record { port = c.args.port; op = c.args.op })) c.trace-2.ensures in
    called-value before after (record { port = c.args.port; op = c.args.op }) (is-called c) some
    ∙ ap (λ e. record { setting = setting_of before; history = history_of before.plan before.past ++ e ∷ [] }) (sym last)
    ∙ ap (λ (r : Running). record { setting = r.setting; history = r.history ++ c.last_entry.result ∷ [] }) c.self.view_is

pub returns-clause-legal : goal.returns-clause-legal
returns-clause-legal c =
    let after = c.drain.new.self in
    live-legal after (called-live c.self.inside.system after (record {
      port = c.args.port;
      op = c.args.op;
    }) (is-called c)) c.keeps-2.ensures.legal c.keeps-2.ensures.steps
