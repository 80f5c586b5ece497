use Rattle.std.proofs.Common.{◌≡◌, true, false, ◌==◌, not, length, ap, subst, sym, ◌∙◌}
use Rattle.std.proofs.lemmas.Bool.{eqb-true, false_from_ne_true, or_right, true≢false}
use Rattle.ace_tables.specs.Answers.{snoop_rows}
use Rattle.ace_model.specs.Kinds.{is_line_snoop}
use Rattle.ace_model.proofs.General.Options.{Some-injective}
use Rattle.ace_master.specs.Answering.{IsRowFor}
use Rattle.ace_master.proofs.AnsweredSnoops.Rows.{contained-row, has-row, is-there}
use Rattle.ace_master.proofs.answering.row_for.Goals.{else-asked-via-then-asked+else-count-eq0, else-asked-via-else-asked}
use Rattle.ace_master.proofs.answering.row_for.Goals as goal

-- the snoop has a row: a memory update of the line is outstanding and the rows were counted, or none is
some : (g : _) (c : goal.After-pick-arg-3-1 g)
    → (length (snoop_rows c.args.asked.now.kind c.args.asked.now.held c.args.asked.now.update) == 0) ≡ false
some g c =
    let a = c.args.asked.now in
    has-row a.kind a.held a.update (sym c.is_line_snoop.ensures ∙ c.if-not-is_line_snoop.false) (λ update. elim c.else-asked.branch [
      | else-asked-via-then-asked+else-count-eq0 w ↦
          let rows = snoop_rows a.kind a.held true in
          false_from_ne_true (length rows == 0) (λ t. w.if-count-eq0.false (w.count.ensures.count ∙ ap length w.snoop_rows.ensures ∙ eqb-true (length rows) 0 t))
      | else-asked-via-else-asked w ↦ absurd (true≢false (sym update ∙ w.if-asked.false))
    ])

pub pick-requires : goal.pick-requires
pick-requires g c = is-there _ (some g c)

pub returns-clause-row : goal.returns-clause-row
returns-clause-row g c = λ r is.
    let a = c.args.asked.now in
    let there = g.P.Policy.permitted c.args.policy.now a.kind a.held a.update c.pick.result c.pick.ensures.picked in
    subst (IsRowFor (g.P.Policy.rows c.args.policy.now) a) (Some-injective c.pick.result r is)
    (record {
      can = or_right (not (is_line_snoop a.kind)) _ (ap not (some g c.before));
      row = contained-row a.kind a.held a.update c.pick.result there;
      picked = λ line. c.pick.ensures.picked;
    })
