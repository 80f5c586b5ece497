use Rattle.std.proofs.Common.{refl}
use Rattle.ace_cover.proofs.Ends.{no_header_right}
use Rattle.ace_cover.proofs.follow.cover_lines.Goals as goal
use Rattle.ace_io.specs.Reader.{waiting}
use Rattle.ace_verdict.proofs.ProgressLemmas.{stands_at_start}

pub returns-in-Ok-with_lines-clause-right : goal.returns-in-Ok-with_lines-clause-right
returns-in-Ok-with_lines-clause-right g c =
    let e = c.in-Ok.ensures in
    c.follow-verdict.ensures.right c.args.limits (waiting g.S.Source.left c.args.lines.now) refl (c.in-Ok-with_lines.ensures.stands, c.requires.fresh)
    (stands_at_start _ _ _ c.in-Ok.header e.readable e.header)

pub returns-in-Err-clause-right : goal.returns-in-Err-clause-right
returns-in-Err-clause-right g c =
    no_header_right c.args.limits c.in-Err.none.error c.refusal_of.result _ _ _ _ _ _ c.in-Err.ensures.none c.refusal_of.ensures
