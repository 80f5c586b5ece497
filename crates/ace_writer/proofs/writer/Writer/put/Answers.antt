use Rattle.std.proofs.Common.{refl, ◌∙◌, ap, append_assoc, ◌++◌, ◌∷◌, []}
use Rattle.ace_event.specs.Text.{line_text, event_text}
use Rattle.ace_writer.specs.Given.{in_hand}
use Rattle.ace_writer.proofs.Fronts.{line_added, line_lost}
use Rattle.ace_writer.proofs.writer.Writer.put.Goals as goal

pub returns-in_err-give_over-clause-text : goal.returns-in_err-give_over-clause-text
returns-in_err-give_over-clause-text g c = λ before text so_far.
    line_lost _ before text _ c.give_over.new.self (c.in_err-give_over.ensures.text before text so_far) c.in_err-give_over.ensures.failed

pub returns-clause-text : goal.returns-clause-text
returns-clause-text g c = λ before text so_far.
    line_added _ before text (line_text (event_text c.args.self.now.version c.args.event.now)) c.give_over.new.self _ (c.give_over.ensures.text before text so_far) c.in_ok-give_over.ensures.failed refl refl
    (c.push.ensures.value ∙ ap (λ l. l ++ 10 ∷ []) c.push_event.ensures.value ∙ append_assoc _ _ (10 ∷ [])
    ∙ ap (λ v. in_hand c.give_over.new.self ++ line_text (event_text v c.args.event.now)) c.give_over.ensures.same_version)
