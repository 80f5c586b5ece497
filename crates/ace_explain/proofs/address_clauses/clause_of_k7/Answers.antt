use Rattle.std.proofs.Common.{sym, ap, ◌∙◌}
use Rattle.ace_event.specs.declared.header.Header.{Header}
use Rattle.ace_model.specs.Transactions.{is_ace}
use Rattle.ace_explain.proofs.AddressLetters.{ace_lock, lite_lock, k7_of_others}
use Rattle.ace_explain.proofs.address_clauses.clause_of_k7.Goals as goal

pub returns-then-is_ace : goal.returns-then-is_ace
returns-then-is_ace c = λ r same.
    rw c.in-Ar.is (ace_lock r _ _ _ _ _ _ _ (ap (λ (h : Header). is_ace h c.in-Ar.port) (sym same) ∙ sym c.is_ace.ensures ∙ c.if-is_ace.true))

pub returns-else-is_ace : goal.returns-else-is_ace
returns-else-is_ace c = λ r same.
    rw c.in-Ar.is (lite_lock r _ _ _ _ _ _ _ (ap (λ (h : Header). is_ace h c.in-Ar.port) (sym same) ∙ sym c.is_ace.ensures ∙ c.if-is_ace.false))

pub returns-in_default : goal.returns-in_default
returns-in_default c = λ r same. k7_of_others r _ c.in_default.not-Ar
