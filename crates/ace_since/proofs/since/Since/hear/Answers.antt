use Rattle.std.proofs.Common.{◌∷◌, ◌∙◌, None, sym, subst}
use Rattle.ace_lineck.specs.Stands.{Stands}
use Rattle.ace_portck.specs.Targets.{Recording}
use Rattle.ace_since.proofs.Hearing.{change_heard, if_kept, lineless_heard, unchanged_heard}
use Rattle.ace_since.proofs.since.Since.hear.Goals as goal

pub returns-in_default : goal.returns-in_default
returns-in_default c most h past s t line =
    lineless_heard h past c.args.event.now c.args.self.now t.tell.lines.accepted (sym c.in_default.is ∙ line) s

pub returns-in-None : goal.returns-in-None
returns-in-None c most h past s t line =
    let r : Recording = record { header = h; past = c.args.event.now ∷ past } in
    let kept = subst (λ v. Stands v r) (sym c.lines.ensures) (c.shares.ensures most h (c.args.event.now ∷ past) None t).lines in
    unchanged_heard h past c.args.event.now c.in-Some.line c.args.self.now (sym c.in-None.is ∙ c.change_by.ensures r kept) s

pub returns-in-Some-change_by : goal.returns-in-Some-change_by
returns-in-Some-change_by c =
    if_kept c.put.result c.put.ensures.here c.put.ensures.others (λ here others most h past s t line.
    let r : Recording = record { header = h; past = c.args.event.now ∷ past } in
    let kept = subst (λ v. Stands v r) (sym c.lines.ensures) (c.shares.ensures most h (c.args.event.now ∷ past) None t).lines in
    change_heard h past c.args.event.now c.in-Some.line _ c.in-Some-change_by.change c.args.self.now _ kept.ports kept.accepted (sym c.in-Some.is ∙ line)
    (sym c.in-Some-change_by.is ∙ c.change_by.ensures r kept) (c.count.ensures most h (c.args.event.now ∷ past) None t) here others s)
