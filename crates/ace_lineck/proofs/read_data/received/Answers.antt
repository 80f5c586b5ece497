use Rattle.std.proofs.Common.{◌≡◌, true, false, Some, option_and_then, option_copied, sym, ap, ◌∙◌}
use Rattle.ace_lineck.proofs.Terms.{Grant, has_three}
use Rattle.ace_lineck.proofs.BeatSteps.{whole-some, whole-none}
use Rattle.ace_lineck.proofs.read_data.received.Goals as goal

pub returns-then-is_fourth : goal.returns-then-is_fourth
returns-then-is_fourth c h past l p i resp word last t kept same s at kind =
    let three : has_three (Some c.args.x.now) ≡ true = sym (c.is_fourth.ensures kind) ∙ c.if-is_fourth.true in
    let reply = c.settled_in.ensures.reply ∙ ap (option_and_then (λ (g : Grant). g.reply)) (sym same) in
    whole-some h past l p i resp last word t c.args.x.now at kept s (option_copied c.settled_in.result) reply c.settled_in.ensures.words three

pub returns-else-is_fourth : goal.returns-else-is_fourth
returns-else-is_fourth c h past l p i resp word last t kept same s at kind =
    let three : has_three (Some c.args.x.now) ≡ false = sym (c.is_fourth.ensures kind) ∙ c.if-is_fourth.false in
    whole-none h past l p i resp last word t c.args.x.now at kept s three
