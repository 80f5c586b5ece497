use Rattle.std.proofs.Common.{false, ap, ◌∙◌}
use Rattle.ace_codes.specs.Responses.{is_shared}
use Rattle.ace_codes.specs.declared.kind.ArKind.TheVariants.{MakeUnique}
use Rattle.ace_tables.specs.EndStates.{ends_read}
use Rattle.ace_tables.specs.States.{is_among}
use Rattle.ace_model.specs.States.{state_of}
use Rattle.ace_explain.proofs.EndLetters.{ends-alike}
use Rattle.ace_explain.proofs.end_clauses.ends_make_unique.Goals as goal

pub returns : goal.returns
returns c = λ r failed l.
    let held = state_of r.header r.past c.args.x.now.transaction.port c.args.x.now.transaction.addr in
    c.has.ensures
    ∙ ap (is_among c.args.st) c.end_read.ensures
    ∙ ends-alike held c.state_alike-held.result c.holds_alone-alone.result c.is_shared-shared.result c.passes_dirty-pass.result false failed c.args.st (c.holds_alone-alone.ensures r l) c.state_alike-held.ensures
    ∙ ap (λ b. ends_read MakeUnique held b c.passes_dirty-pass.result failed c.args.st) c.is_shared-shared.ensures
    ∙ ap (λ b. ends_read MakeUnique held (is_shared c.args.x.now.response) b failed c.args.st) c.passes_dirty-pass.ensures
