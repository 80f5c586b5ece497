use Rattle.std.proofs.Common.{rules, refl, ap, ◌∙◌}
use Rattle.std.proofs.lemmas.List.{drop_all}
use Rattle.std.specs.List.{flat_map}
use Rattle.ace_account.specs.Certificate.{place_line}
use Rattle.ace_account.proofs.Rest.{rest_from}
use Rattle.ace_report.proofs.Puts.{none_put, line_next, none_left, no_room, cause_kept, no_cause}
use Rattle.ace_account.proofs.put.put_places.Goals as goal

pub loop-i-init : goal.loop-i-init
loop-i-init g c = record { puts = none_put _ _ _; steady = refl }

pub returns-in-Err-clause-part : goal.returns-in-Err-clause-part
returns-in-Err-clause-part g c = no_room _ _ _ _ _ _ _ c.loop-i.invariant.puts c.in-Err.ensures.part

pub returns-in-Err-clause-cause : goal.returns-in-Err-clause-cause
returns-in-Err-clause-cause g c = cause_kept _ _ _ c.make_room.result _ c.loop-i.invariant.steady c.in-Err.is c.make_room.ensures.cause

pub loop-i-preserved : goal.loop-i-preserved
loop-i-preserved g c = record {
  puts = line_next _ _ _ _ _ _ _ _ _ _ _ (ap (flat_map place_line) (rest_from _ c.loop-i.i _ c.get.ensures)) c.loop-i.invariant.puts c.in-Ok.ensures.whole c.push_place.ensures;
  steady = c.in-Ok.ensures.cause.steady ∙ c.loop-i.invariant.steady;
}

pub returns-clause-whole : goal.returns-clause-whole
returns-clause-whole g c = none_left _ _ _ _ _ _ (ap (flat_map place_line) (drop_all c.loop-i.i c.args.reads.now (search rules))) c.loop-i.invariant.puts

pub returns-clause-cause : goal.returns-clause-cause
returns-clause-cause g c = no_cause _ _ _ c.loop-i.invariant.steady
