use Rattle.std.proofs.Common.{◌≡◌, ◌++◌, ◌-◌, ℕ, List, length, rules, subst}
use Rattle.std.specs.Borrow.{Bor}
use Rattle.ace_batch.specs.Looked.{AreLookedAt}
use Rattle.ace_paths.specs.Lists.{paths_of, texts_of}
use Rattle.ace_tool.specs.Results.{IsResult}
use Rattle.ace_tool.specs.Told.{options_of}
use Rattle.ace_tool.proofs.BatchDone.{count_by_texts, results_by_texts}
use Rattle.ace_tool.proofs.batch_top.results_of.Goals as goal

pub returns-in-Ok-clause-right : goal.returns-in-Ok-clause-right
returns-in-Ok-clause-right g c =
    let options = options_of c.args.call.now.options in
    let knows = g.X.Checks.knows c.args.checks.now in
    let fast = c.args.call.now.extras.fail_fast in
    results_by_texts options knows fast c.args.call.now.extras.shard.part c.args.call.now.extras.shard.parts c.in_ok-all.all.items
    c.in_ok-paths.paths.items (texts_of c.args.call.now.traces.items ++ paths_of c.args.list.now) c.in-Ok.entries.items
    (search rules) (search rules)
    (subst (λ (l : List (Bor (List ℕ))). AreLookedAt fast (λ path e. IsResult options knows path.now e) l c.in-Ok.entries.items) c.as_slice-3.ensures.value c.in-Ok.ensures)

pub returns-in-Ok-clause-others : goal.returns-in-Ok-clause-others
returns-in-Ok-clause-others g c =
    subst (λ n. c.saturating_sub-left.result ≡ n - length c.in-Ok.entries.items)
    (count_by_texts c.args.call.now.extras.shard.part c.args.call.now.extras.shard.parts c.in_ok-all.all.items c.in_ok-paths.paths.items
    (texts_of c.args.call.now.traces.items ++ paths_of c.args.list.now) (search rules) (search rules))
    (search rules)
