use Rattle.std.proofs.Common.{sym, ◌∙◌}
use Rattle.ace_explain.proofs.AddressLetters.{ar_of_kind, aw_of_kind, k2_of_others}
use Rattle.ace_explain.proofs.address_clauses.clause_of_k2.Goals as goal

pub returns-in-Some : goal.returns-in-Some
returns-in-Some c = λ r. rw c.in-Ar.is (ar_of_kind r _ _ _ _ _ _ _ _ (sym c.read_ar.ensures ∙ c.in-Some.is))

pub returns-in-Some-read_aw : goal.returns-in-Some-read_aw
returns-in-Some-read_aw c = λ r. rw c.in-Aw.is (aw_of_kind r _ _ _ _ _ _ _ (sym c.read_aw.ensures ∙ c.in-Some-read_aw.is))

pub returns-in_default : goal.returns-in_default
returns-in_default c = λ r. k2_of_others r _ c.in_default.not-Ar c.in_default.not-R c.in_default.not-Aw c.in_default.not-B c.in_default.not-Cr
