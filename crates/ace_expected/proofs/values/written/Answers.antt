use Rattle.std.proofs.Common.{ap, ◌∙◌}
use Rattle.std.specs.Option.{option_copied}
use Rattle.ace_model.specs.Copies.{zero_line}
use Rattle.ace_expected.proofs.Due.{burst_is, no_burst, whole_burst}
use Rattle.ace_expected.proofs.values.written.Goals as goal

pub returns-in-None : goal.returns-in-None
returns-in-None c r p l out =
    no_burst r.header r.past c.args.x.now c.args.port c.args.chan c.args.id zero_line out _ (c.burst.ensures r zero_line p) (ap option_copied c.in-None.is)

pub returns-in-Some : goal.returns-in-Some
returns-in-Some c r p l out =
    let some = ap option_copied c.in-Some.is in
    let burst = burst_is r.header r.past c.args.x.now c.args.port c.args.chan c.args.id zero_line out _ (c.burst.ensures r zero_line p) in
    whole_burst r.header r.past c.args.x.now c.args.port c.args.chan c.args.id zero_line out _ c.in-Some.burst.now c.written.result
    (c.burst.ensures r zero_line p) some (c.written.ensures r l c.place-place.ensures (burst ∙ some))
