-- What there is to say of the grant of a line and of the snoops under it.
use Rattle.std.proofs.Common.{◌≡◌, ℕ, Bool, true, not, ◌&&◌, ◌||◌, Some, is_none, sym, ap, ◌∙◌, arith}
use Rattle.ace_event.specs.declared.event.Channel.{Channel}
use Rattle.ace_event.specs.declared.header.Header.{Header}
use Rattle.ace_model.specs.declared.transactions.Transaction.{Transaction}
use Rattle.ace_model.specs.Accepted.{IsAccepted}
use Rattle.ace_model.specs.Exclusives.{has_failed}
use Rattle.ace_model.specs.Grants.{granted, has_passed_data, is_granted, owes_answer, owes_data, ports_below}
use Rattle.ace_model.specs.States.{are_snoops_done}
use Rattle.ace_model.specs.Trace.{Trace, is_some_and}
use Rattle.ace_model.specs.Transactions.{outstanding, snoop_of}
use Rattle.ace_model.proofs.Grants.Granted.{granted_at}
use Rattle.ace_clauses.specs.ReadClauses.{are_holders_snooped, are_snoop_data_whole, are_snoops_answered, needs_no_snoop}
use Rattle.ace_clauses.proofs.Parts.{all_of_three}

module _ (h : Header) (past : Trace) where
  -- the passed data of a granted transaction are those of its line
  pub passed-here : IsAccepted h past → (p : ℕ) (c : Channel) (i : ℕ) (x : Transaction) → outstanding h past p c i ≡ Some x → is_granted h past x ≡ true
      → is_some_and (granted h past x.addr) (has_passed_data h past) ≡ has_passed_data h past x
  passed-here a p c i x out t = ap (λ o. is_some_and o (has_passed_data h past)) (granted_at h past a p c i x out t)

  -- the snoops are done where they are answered, their data are whole, and each holder was snooped
  pub done-parts : (x : Transaction) → (are_snoops_answered h past x && are_snoop_data_whole h past x && are_holders_snooped h past x) ≡ are_snoops_done h past x
  done-parts x =
      sym (ap (λ b. is_none (snoop_of x) || has_failed past x || b)
      (all_of_three (λ q. not (owes_answer past q x.addr)) (λ q. not (owes_data past q x.addr)) (needs_no_snoop h past x) (ports_below h.ports))
      ∙ spread (is_none (snoop_of x) || has_failed past x) _ _ _)
    where
      spread : (s a b c : Bool) → (s || (a && b && c)) ≡ ((s || a) && (s || b) && (s || c))
      spread s a b c = grind arith
