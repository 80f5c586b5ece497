use Rattle.std.proofs.Common.{◌&&◌, sym, ap, ◌∙◌}
use Rattle.ace_clauses.specs.ReadClauses.{are_holders_snooped, are_snoop_data_whole}
use Rattle.ace_explain.proofs.LineLooks.{done-parts}
use Rattle.ace_explain.proofs.line_looks.are_snoops_done.Goals as goal

pub returns-then-not-are_snoops_answered : goal.returns-then-not-are_snoops_answered
returns-then-not-are_snoops_answered c = λ r l head on failed.
    let x = c.args.x.now in
    let none = sym (c.are_snoops_answered.ensures r l head on failed) ∙ c.if-not-are_snoops_answered.true in
    ap (λ b. b && are_snoop_data_whole r.header r.past x && are_holders_snooped r.header r.past x) (sym none) ∙ done-parts r.header r.past x

pub returns-then-not-are_snoop_data_whole : goal.returns-then-not-are_snoop_data_whole
returns-then-not-are_snoop_data_whole c = λ r l head on failed.
    let x = c.args.x.now in
    let answered = sym (c.are_snoops_answered.ensures r l head on failed) ∙ c.if-not-are_snoops_answered.false in
    let none = sym (c.are_snoop_data_whole.ensures r l head on failed) ∙ c.if-not-are_snoop_data_whole.true in
    ap (λ b. b && are_holders_snooped r.header r.past x) (sym none)
    ∙ ap (λ b. b && are_snoop_data_whole r.header r.past x && are_holders_snooped r.header r.past x) (sym answered) ∙ done-parts r.header r.past x

pub returns : goal.returns
returns c = λ r l head on failed.
    let x = c.args.x.now in
    let answered = sym (c.are_snoops_answered.ensures r l head on failed) ∙ c.if-not-are_snoops_answered.false in
    let whole = sym (c.are_snoop_data_whole.ensures r l head on failed) ∙ c.if-not-are_snoop_data_whole.false in
    c.are_holders_snooped.ensures r l head on failed
    ∙ ap (λ b. b && are_holders_snooped r.header r.past x) (sym whole)
    ∙ ap (λ b. b && are_snoop_data_whole r.header r.past x && are_holders_snooped r.header r.past x) (sym answered) ∙ done-parts r.header r.past x
