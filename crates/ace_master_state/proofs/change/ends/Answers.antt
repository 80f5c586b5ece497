use Rattle.std.proofs.Common.{◌≡◌, true, false, List, Option, Some, None, option_map, refl, sym, ap, ◌∙◌}
use Rattle.ace_codes.specs.declared.state.LineState.{LineState}
use Rattle.ace_event.specs.declared.header.Header.{Header}
use Rattle.ace_event.specs.declared.line.Line.{Line}
use Rattle.ace_model.specs.declared.transactions.Transaction.{Transaction}
use Rattle.ace_model.specs.Trace.{Trace}
use Rattle.ace_model.specs.Transactions.{is_line}
use Rattle.ace_model.proofs.General.Options.{Some-injective}
use Rattle.ace_portck.specs.Targets.{progress_of}
use Rattle.ace_portck.specs.declared.target.Progress.{Progress}
use Rattle.ace_master_state.specs.Arriving.{line_under}
use Rattle.ace_master_state.specs.Change.{ends}
use Rattle.ace_master_state.specs.declared.change.Change.TheVariants.{Ends, Nothing}
use Rattle.ace_master_state.proofs.change.ends.Goals as goal

module _ (h : Header) (past : Trace) (arriving : List Line) (st : LineState) (x : Progress) where
  on-line : (o : Option Transaction) → Some x ≡ option_map (progress_of h past) o → is_line x.transaction ≡ true
      → Ends x.transaction.addr st (line_under arriving x.transaction.id) ≡ ends o st arriving
  on-line None is line = cc
  on-line (Some y) is line =
      let same : x.transaction ≡ y = ap (λ (v : Progress). v.transaction) (Some-injective x (progress_of h past y) is) in
      let there : is_line y ≡ true = ap is_line (sym same) ∙ line in
      rw there (ap (λ (v : Transaction). Ends v.addr st (line_under arriving v.id)) same)

  off-line : (o : Option Transaction) → Some x ≡ option_map (progress_of h past) o → is_line x.transaction ≡ false → Nothing ≡ ends o st arriving
  off-line None is line = cc
  off-line (Some y) is line =
      let same : x.transaction ≡ y = ap (λ (v : Progress). v.transaction) (Some-injective x (progress_of h past y) is) in
      let there : is_line y ≡ false = ap is_line (sym same) ∙ line in
      rw there refl

pub returns : goal.returns
returns c = λ h past x is.
    ap (Ends c.in-Some.x.transaction.addr c.args.st) c.get.ensures
    ∙ on-line h past c.args.arriving.now c.args.st c.in-Some.x x (sym c.in-Some.is ∙ is) (sym c.is_line.ensures ∙ c.if-not-is_line.false)

pub returns-then-not-is_line : goal.returns-then-not-is_line
returns-then-not-is_line c = λ h past x is.
    off-line h past c.args.arriving.now c.args.st c.in-Some.x x (sym c.in-Some.is ∙ is) (sym c.is_line.ensures ∙ c.if-not-is_line.true)
