use Rattle.std.proofs.Common.{◌≡◌, ◌||◌, sym, ap, ◌∙◌}
use Rattle.std.specs.List.{list_any}
use Rattle.ace_event.specs.declared.event.Channel.TheVariants.{Read, Write}
use Rattle.ace_model.specs.Transactions.{is_line}
use Rattle.ace_portck.specs.Pending.{pending_of}
use Rattle.ace_portck.specs.Targets.{progress_of}
use Rattle.ace_portck.specs.declared.target.Progress.{Progress}
use Rattle.ace_points.proofs.Lists.{list_any-map}
use Rattle.ace_points.proofs.outstanding.has_line_transaction.Goals as goal

pub returns-then-has_line : goal.returns-then-has_line
returns-then-has_line c = λ r p.
    let reads = pending_of r.header r.past c.args.port Read in
    let writes = pending_of r.header r.past c.args.port Write in
    let read : c.has_line.result ≡ list_any is_line reads =
    c.has_line.ensures ∙ ap (list_any (λ (x : Progress). is_line x.transaction)) (c.reads.ensures r p) ∙ list_any-map (λ x. is_line x.transaction) (progress_of r.header r.past) reads in
    c.if-has_line.true ∙ sym (ap (λ v. v || list_any is_line writes) (sym read ∙ c.if-has_line.true))

pub returns-else-has_line : goal.returns-else-has_line
returns-else-has_line c = λ r p.
    let reads = pending_of r.header r.past c.args.port Read in
    let writes = pending_of r.header r.past c.args.port Write in
    let read : c.has_line.result ≡ list_any is_line reads =
    c.has_line.ensures ∙ ap (list_any (λ (x : Progress). is_line x.transaction)) (c.reads.ensures r p) ∙ list_any-map (λ x. is_line x.transaction) (progress_of r.header r.past) reads in
    let write : c.has_line-else-has_line.result ≡ list_any is_line writes =
    c.has_line-else-has_line.ensures ∙ ap (list_any (λ (x : Progress). is_line x.transaction)) (c.writes.ensures r p) ∙ list_any-map (λ x. is_line x.transaction) (progress_of r.header r.past) writes in
    write ∙ sym (ap (λ v. v || list_any is_line writes) (sym read ∙ c.if-has_line.false))
