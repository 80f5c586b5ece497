use Rattle.std.proofs.Common.{ap, arith, ◌∙◌, option_map}
use Rattle.ace_filter.proofs.Terms.{Takes}
use Rattle.ace_filter.proofs.Ports.{read-granted, write-granted}
use Rattle.ace_filter.proofs.port.PortWatch.grant.Goals as goal

pub returns-in-Read : goal.returns-in-Read
returns-in-Read c = λ h past p heard s.
    read-granted past p c.args.id c.args.chan c.in-Read.is c.take_of.result
    (c.take_of.ensures ∙ ap (option_map Takes) (c.line_under.ensures ∙ s.reads c.args.id (grind arith)))

pub returns-in-Write : goal.returns-in-Write
returns-in-Write c = λ h past p heard s. write-granted past p c.args.id c.args.chan c.in-Write.is
