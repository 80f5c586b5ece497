use Rattle.std.proofs.Common.{sym, refl, ◌∙◌}
use Rattle.ace_points.proofs.ends.read_end_of.Goals as goal

pub returns : goal.returns
returns c = λ r l s out.
    rw (
      sym c.is_line_read.ensures ∙ c.if-not-is_line_read.false,
      c.failed.ensures r c.args.x.now.transaction s out,
      c.state_at.ensures r l,
      c.is_shared.ensures,
      c.passes_dirty.ensures,
    ) refl
