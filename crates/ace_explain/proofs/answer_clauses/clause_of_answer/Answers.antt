use Rattle.std.proofs.Common.{◌≡◌, true, option_copied, refl, sym, ap, ◌∙◌, arith}
use Rattle.ace_model.specs.AddressRules.{k1}
use Rattle.ace_event.specs.declared.event.Event.TheVariants.{Cr}
use Rattle.ace_clauses.specs.SnoopClauses.{is_hit}
use Rattle.ace_model.specs.States.{state_of}
use Rattle.ace_portck.specs.SnoopAnswers.{IsAnswered}
use Rattle.ace_explain.proofs.Broken.{keeps_smaller}
use Rattle.ace_explain.proofs.Kept.{kept_of}
use Rattle.ace_explain.proofs.RowLetters.{wrong_bits}
use Rattle.ace_explain.proofs.answer_clauses.clause_of_answer.Goals as goal

pub returns-then-may_leave : goal.returns-then-may_leave
returns-then-may_leave c = λ r resp p l least.
    let kept : k1 r.header r.past (Cr c.args.port resp c.args.st) ≡ true = kept_of (k1 r.header r.past (Cr c.args.port resp c.args.st)) (keeps_smaller r.header r.past (Cr c.args.port resp c.args.st) 15 least 1 (omega arith)) in
    let line = sym c.is_line_snoop.ensures ∙ c.if-not-is_line_snoop.false in
    let holds = sym (c.is_without.ensures r l kept) ∙ c.if-is_without.false in
    let is : IsAnswered r.past c.args.port c.in-Some.snoop.now c.in-Some-read_ac.kind = record { next = sym (c.answered.ensures r p) ∙ ap option_copied c.in-Some.is; kind = sym c.read_ac.ensures ∙ c.in-Some-read_ac.is } in
    let hit : is_hit c.in-Some-read_ac.kind (state_of r.header r.past c.args.port c.in-Some.snoop.now.addr) ≡ true = rw (line, holds) refl in
    wrong_bits r c.args.port resp c.args.st c.in-Some.snoop.now c.in-Some-read_ac.kind is line holds (sym (c.may_leave.ensures r p l is hit) ∙ c.if-may_leave.true) least
