use Rattle.std.proofs.Common.{rules, IfSome, subst}
use Rattle.ace_cover.specs.Counts.{AreCounts}
use Rattle.ace_io.specs.Line.{in_front}
use Rattle.ace_verdict.specs.Verdict.{IsVerdictWithin}
use Rattle.ace_tool.proofs.cover_read.cover_behind.Goals as goal

pub returns-clause-verdict : goal.returns-clause-verdict
returns-clause-verdict g c =
    subst (λ limits. IfSome (in_front c.args.front.items (g.S.Source.left c.args.source.now))
    (λ bytes. IsVerdictWithin limits bytes c.cover_within.result
    × AreCounts limits c.args.points.now bytes c.cover_within.new.hits.items c.cover_within.result))
    c.no_limits.ensures (search rules)
