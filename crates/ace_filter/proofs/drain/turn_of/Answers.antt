use Rattle.std.proofs.Common.{◌≤◌, ◌∙◌, length, refl, reverse, take, ap, subst, sym}
use Rattle.ace_model.specs.Trace.{Trace}
use Rattle.ace_engine.specs.Engines.{IsLegal}
use Rattle.ace_fabric.specs.Runs.{Run}
use Rattle.ace_filter.specs.Filter.{FilterStands, room_of}
use Rattle.ace_filter.proofs.Draining.{first-events, has-holders}
use Rattle.ace_filter.proofs.drain.turn_of.Goals as goal

pub turn_among-requires-clause-holders : goal.turn_among-requires-clause-holders
turn_among-requires-clause-holders c = has-holders c.args.filter.now c.args.system.now.plan.header c.args.system.now.past c.requires.heard

pub returns-in-Idle-clause-idle : goal.returns-in-Idle-clause-idle
returns-in-Idle-clause-idle c = λ _. let i = c.turn_among.ensures.idle c.in-Idle.is in (i.0, refl, i.1)

pub returns-in-Idle-clause-heard : goal.returns-in-Idle-clause-heard
returns-in-Idle-clause-heard c =
    subst (λ (r : Run). FilterStands c.args.filter.now r.plan.header r.past) (sym (c.turn_among.ensures.idle c.in-Idle.is).0) c.requires.heard

pub returns-in-Moved-clause-moved : goal.returns-in-Moved-clause-moved
returns-in-Moved-clause-moved c = λ _. c.turn_among.ensures.moved c.in-Moved.is

pub returns-in-Moved-clause-heard : goal.returns-in-Moved-clause-heard
returns-in-Moved-clause-heard c =
    let old = c.args.system.now in
    let new = c.turn_among.new.self in
    let m = c.turn_among.ensures.moved c.in-Moved.is in
    let before = c.trace-heard.result.now in
    let after = c.trace.result.now in
    let first = first-events before after m.0 old.past c.trace-heard.ensures (c.trace.ensures ∙ ap (λ (r : Run). r.past) m.2) in
    let heard : FilterStands c.args.filter.now new.plan.header (reverse (take (length before) after)) =
    subst (λ (t : Trace). FilterStands c.args.filter.now new.plan.header t) (sym first.0)
    (subst (λ (r : Run). FilterStands c.args.filter.now r.plan.header old.past) (sym m.2) c.requires.heard) in
    let room : length new.plan.operations ≤ room_of c.args.filter.now = subst (λ (r : Run). length r.plan.operations ≤ room_of c.args.filter.now) (sym m.2) c.requires.room in
    let legal : IsLegal new.plan (reverse after) = subst (IsLegal new.plan) (sym c.trace.ensures) c.keeps.ensures.legal in
    subst (λ (t : Trace). FilterStands c.hear_from.new.filter new.plan.header t) c.trace.ensures (c.hear_from.ensures.stands new.plan legal room heard)
