use Rattle.std.proofs.Common.{option_map, ap, ◌∙◌, inl, inr}
use Rattle.ace_model.specs.Transactions.{issued}
use Rattle.ace_portck.specs.Targets.{begun, line_of}
use Rattle.ace_report.specs.Next.{absent_line, discarded_line}
use Rattle.ace_report.proofs.Tallies.{absent_is_new}
use Rattle.ace_report.proofs.lines.wanted_line.Goals as goal

pub returns-in-Ar : goal.returns-in-Ar
returns-in-Ar c = λ h past s stands.
    let lines = c.args.lines.now in
    let place = c.place.ensures (record { header = h; past = past }) s in
    let line = c.line_named.ensures
    ∙ ap (λ n. absent_line lines (line_of (option_map begun (issued n c.args.event.now)))) place
    ∙ absent_is_new past lines (line_of (option_map begun (issued _ c.args.event.now))) stands in
    elim (c.in-Ar.is) [
      | inl x ↦ rw x.7 (rw x.7 at line)
      | inr y ↦ rw y.6 (rw y.6 at line)
    ]

pub returns-in-R : goal.returns-in-R
returns-in-R c = λ h past s stands. rw c.in-R.is (c.line_discarded.ensures ∙ ap discarded_line (c.outstanding.ensures (record { header = h; past = past }) s))
