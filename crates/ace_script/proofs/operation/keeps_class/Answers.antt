use Rattle.std.proofs.Common.{◌≡◌, not, take, sym, ap, ◌∙◌, arith}
use Rattle.std.specs.List.{list_all}
use Rattle.std.proofs.lemmas.Bool.{and_from}
use Rattle.std.proofs.lemmas.List.{take_all}
use Rattle.std.proofs.lemmas.List.Folds.{list_all_more}
use Rattle.std.proofs.lemmas.Option.{slice_get-get_or}
use Rattle.ace_script.proofs.Classes.{first-tells, name_one_line, none-named}
use Rattle.ace_script.proofs.operation.keeps_class.Goals as goal

pub returns-then-name_one_line : goal.returns-then-name_one_line
returns-then-name_one_line c =
    let xs = c.args.before.now in
    let k = c.loop-k.k in
    c.are_of_one_class.ensures
    ∙ first-tells c.args._header.now xs k _ c.args.op c.requires c.loop-k.invariant (slice_get-get_or xs k _ c.loop-k-test.true) (sym c.name_one_line.ensures ∙ c.if-name_one_line.true)

pub loop-k-preserved : goal.loop-k-preserved
loop-k-preserved c =
    list_all_more (λ other. not (name_one_line c.args.op other.op)) c.args.before.now c.loop-k.k _ c.loop-k-test.true
    ∙ and_from _ _ c.loop-k.invariant (ap not (sym c.name_one_line.ensures ∙ c.if-name_one_line.false))

pub returns : goal.returns
returns c =
    let xs = c.args.before.now in
    let all : take c.loop-k.k xs ≡ xs = take_all c.loop-k.k xs (omega (arith, c.loop-k-test.false)) in
    sym (none-named xs c.args.op (ap (list_all (λ other. not (name_one_line c.args.op other.op))) (sym all) ∙ c.loop-k.invariant))
