use Rattle.std.proofs.Common.{sym, ap, ◌∙◌}
use Rattle.ace_lineck.proofs.Terms.{Header, is_ace}
use Rattle.ace_lineck.proofs.WriteResponses.{ace_response-still, response-port}
use Rattle.ace_lineck.proofs.lines.LineCheck.hear_response.Goals as goal

pub returns-then-is_ace-clause-stands : goal.returns-then-is_ace-clause-stands
returns-then-is_ace-clause-stands c = λ r p i resp k s out line fine few.
    let port = response-port r.header r.past p i c.args.x.now out in
    ace_response-still c.args.self.now r p i resp
    (ap (is_ace r.header) (sym port) ∙ ap (λ (h : Header). is_ace h c.args.x.now.transaction.port) (sym s.header) ∙ sym c.is_ace.ensures ∙ c.if-is_ace.true) s fine

pub returns-clause-stands : goal.returns-clause-stands
returns-clause-stands c = λ r p i resp k s out line fine few.
    let port = response-port r.header r.past p i c.args.x.now out in
    c.end_lite_write.ensures.stands r p i resp k s out line
    (ap (is_ace r.header) (sym port) ∙ ap (λ (h : Header). is_ace h c.args.x.now.transaction.port) (sym s.header) ∙ sym c.is_ace.ensures ∙ c.if-is_ace.false) fine few
