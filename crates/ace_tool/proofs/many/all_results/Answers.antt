use Rattle.std.proofs.Common.{◌++◌, ℕ, List, [], rules}
use Rattle.std.specs.Borrow.{Bor}
use Rattle.ace_batch.specs.Looked.{looked_at}
use Rattle.ace_batch.specs.declared.entry.Entry.{Entry}
use Rattle.ace_tool.specs.Results.{IsResult}
use Rattle.ace_tool.specs.Told.{options_of}
use Rattle.ace_tool.proofs.LookedSteps.{ends_within, goes_on_behind, grown, grown_before, grown_by_none, none_behind}
use Rattle.ace_tool.proofs.many.all_results.Goals as goal

pub returns-then-branch : goal.returns-then-branch
returns-then-branch g c =
    let fast = c.args.fail_fast in
    let Is = λ (path : Bor (List ℕ)) (e : Entry). IsResult (options_of c.args.options.now) (g.X.Checks.knows c.args.checks.now) path.now e in
    let more = c.in_ok-more.more.items in
    grown fast Is c.args.paths.now c.loop-start.entries.items _ (looked_at fast more) c.in_ok-add_looked_at.ensures.added
    (c.loop-start.invariant.so_far (looked_at fast more)
    (ends_within fast Is c.args.paths.now c.loop-start.start c.min-end.result more (search rules) c.in_ok-more.ensures (search rules)))

pub loop-start-preserved : goal.loop-start-preserved
loop-start-preserved g c =
    let fast = c.args.fail_fast in
    let Is = λ (path : Bor (List ℕ)) (e : Entry). IsResult (options_of c.args.options.now) (g.X.Checks.knows c.args.checks.now) path.now e in
    let more = c.in_ok-more.more.items in
    record {
      within = search rules;
      so_far = λ entries others.
          grown_before fast Is c.args.paths.now c.loop-start.entries.items _ (looked_at fast more) entries c.in_ok-add_looked_at.ensures.added
          (c.loop-start.invariant.so_far (looked_at fast more ++ entries)
          (goes_on_behind fast Is c.args.paths.now c.loop-start.start c.min-end.result more entries (search rules) c.in_ok-more.ensures (search rules) others));
    }

pub returns : goal.returns
returns g c =
    let fast = c.args.fail_fast in
    let Is = λ (path : Bor (List ℕ)) (e : Entry). IsResult (options_of c.args.options.now) (g.X.Checks.knows c.args.checks.now) path.now e in
    grown_by_none fast Is c.args.paths.now c.loop-start.entries.items
    (c.loop-start.invariant.so_far [] (none_behind fast Is c.args.paths.now c.loop-start.start (search rules)))
