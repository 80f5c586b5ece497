use Rattle.std.proofs.Common.{refl}
use Rattle.ace_points.proofs.asked_reads.asked_by_issue.Goals as goal

pub returns : goal.returns
returns c = λ r p l s.
    rw (
      c.asks.ensures,
      c.asks-2.ensures,
      c.asks-3.ensures,
      c.asks-4.ensures,
      c.asks-5.ensures,
      c.asks-6.ensures,
      c.asks-7.ensures,
      c.asks-8.ensures,
      c.has_another.ensures r p,
      c.begins_beside.ensures r p,
      c.starts_held.ensures r l,
      c.is_again.ensures r l,
      c.is_ordered.ensures r s,
      c.begins_apart.ensures r p,
      c.is_dvm_completion.ensures,
    )
    refl
