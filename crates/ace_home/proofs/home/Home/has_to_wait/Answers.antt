use Rattle.std.proofs.Common.{false, sym, ◌∙◌, inl, inr}
use Rattle.std.proofs.lemmas.Bool.{not-true}
use Rattle.ace_model.specs.Grants.{granted}
use Rattle.ace_home.proofs.AtRest.{none-taken}
use Rattle.ace_home.proofs.Kept.{had}
use Rattle.ace_home.proofs.home.Home.has_to_wait.Goals as goal

pub returns-then-x : goal.returns-then-x
returns-then-x c = λ unbegun plan past p t. inr (inr (inr (c.is_unbegun.ensures unbegun c.if-x.true plan past p t)))

pub returns-then-is_taken : goal.returns-then-is_taken
returns-then-is_taken c = λ _ plan past p t.
    let x = c.args.x.now in
    inr (inl (record { waits = had c.args.self.now plan past p x false t c.if-x.false; taken = sym (c.is_taken.ensures plan past t.stands) ∙ c.if-is_taken.true }))

pub returns : goal.returns
returns c = λ later plan past p t.
    let x = c.args.x.now in
    let free = none-taken (granted plan.header past x.transaction.addr) (sym (c.is_taken.ensures plan past t.stands) ∙ c.if-is_taken.false) in
    inr (inr (inl (record {
      waits = had c.args.self.now plan past p x false t c.if-x.false;
      later = sym (c.is_first_to_wait.ensures plan past t.stands free) ∙ not-true c.is_first_to_wait.result later;
    })))
