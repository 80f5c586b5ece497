-- The fact that a trace is accepted, and its test.
use Rattle.std.proofs.Common.{◌≡◌, true, List, [], ◌∷◌, is_none}
use Rattle.std.proofs.lemmas.Bool.{and_parts}
use Rattle.ace_model.proofs.Terms.{Header, Trace, Rule, IsAcceptedBy, is_accepted_by, least_of}
use Rattle.ace_model.proofs.General.Options.{none_is}

-- a trace that passes the test is accepted
pub accepted_of : (rs : List Rule) (h : Header) (past : Trace) → is_accepted_by rs h past ≡ true → IsAcceptedBy rs h past
accepted_of rs h [] t = tt
accepted_of rs h (e ∷ past) t =
    let parts = and_parts (is_accepted_by rs h past) (is_none (least_of rs h past e)) t in
    (accepted_of rs h past parts.0, none_is (least_of rs h past e) parts.1)
