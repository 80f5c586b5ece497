-- What is told of a line and a port, by what is kept of the line.
use Rattle.std.proofs.Common.{◌≡◌, ℕ, Option, None, Some, option_map, sym, ap, ◌∙◌}
use Rattle.ace_event.specs.declared.header.Header.{Header}
use Rattle.ace_model.specs.declared.transactions.Transaction.{Transaction}
use Rattle.ace_model.specs.Grants.{granted, is_begun}
use Rattle.ace_model.specs.Trace.{Trace, is_some_and}
use Rattle.ace_lineck.specs.declared.grant.Grant.{Grant}
use Rattle.ace_lineck.specs.Grants.{GrantStands, stage_of, stage_under}

pub transaction-granted : (h : Header) (past : Trace) (l : ℕ) (g : Option Grant) → GrantStands h past l g → option_map (λ (v : Grant). v.transaction) g ≡ granted h past l
transaction-granted h past l None none = sym none
transaction-granted h past l (Some g) f = sym f.granted

pub begun-granted : (h : Header) (past : Trace) (l : ℕ) (g : Option Grant) → GrantStands h past l g → is_some_and g (λ (v : Grant). v.begun) ≡ is_some_and (granted h past l) (is_begun past)
begun-granted h past l None none = sym (ap (λ o. is_some_and o (is_begun past)) none)
begun-granted h past l (Some g) f = f.begun ∙ sym (ap (λ o. is_some_and o (is_begun past)) f.granted)

pub stage-granted : (h : Header) (past : Trace) (p l : ℕ) (x : Transaction) (g : Option Grant) → GrantStands h past l g → granted h past l ≡ Some x → stage_under g p ≡ stage_of past p l
stage-granted h past p l x None none is = let bad : None ≡ Some x = sym none ∙ is in cc
stage-granted h past p l x (Some g) f is = f.stages p
