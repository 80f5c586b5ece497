use Rattle.std.proofs.Common.{rules, refl, ap, ◌∙◌}
use Rattle.std.proofs.lemmas.List.{drop_all}
use Rattle.std.specs.List.{flat_map}
use Rattle.ace_account.specs.Certificate.{order_lines}
use Rattle.ace_account.proofs.Rest.{piece_next, piece_failed, rest_from}
use Rattle.ace_report.proofs.Puts.{none_put, none_left, cause_kept, no_cause}
use Rattle.ace_account.proofs.put.put_orders.Goals as goal

pub loop-i-init : goal.loop-i-init
loop-i-init g c = record { puts = none_put _ _ _; steady = refl }

pub returns-in-Err-clause-part : goal.returns-in-Err-clause-part
returns-in-Err-clause-part g c = piece_failed _ _ _ _ _ _ _ _ _ (ap (flat_map order_lines) (rest_from _ c.loop-i.i _ c.get.ensures)) c.loop-i.invariant.puts c.in-Err.ensures.part

pub returns-in-Err-clause-cause : goal.returns-in-Err-clause-cause
returns-in-Err-clause-cause g c = cause_kept _ _ _ c.put_stores.result _ c.loop-i.invariant.steady c.in-Err.is c.put_stores.ensures.cause

pub loop-i-preserved : goal.loop-i-preserved
loop-i-preserved g c = record {
  puts = piece_next _ _ _ _ _ _ _ _ _ _ (ap (flat_map order_lines) (rest_from _ c.loop-i.i _ c.get.ensures)) c.loop-i.invariant.puts c.in-Ok.ensures.whole;
  steady = c.in-Ok.ensures.cause.steady ∙ c.loop-i.invariant.steady;
}

pub returns-clause-whole : goal.returns-clause-whole
returns-clause-whole g c = none_left _ _ _ _ _ _ (ap (flat_map order_lines) (drop_all c.loop-i.i c.args.lines.now (search rules))) c.loop-i.invariant.puts

pub returns-clause-cause : goal.returns-clause-cause
returns-clause-cause g c = no_cause _ _ _ c.loop-i.invariant.steady
