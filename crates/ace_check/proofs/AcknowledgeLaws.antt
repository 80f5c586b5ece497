-- The transaction that an RK or WK belongs to; and where there is none, which rule it breaks.
use Rattle.std.proofs.Common.{◌≡◌, ℕ, Bool, true, false, if◌then◌else◌, Option, Some, None, is_some, unwrap_or, refl, sym, ap, subst, ◌∙◌}
use Rattle.ace_check.proofs.Terms.{LineState, Channel, Event, Read, Rk, Header, IsAccepted, Trace, outstanding, Recording, line_in, line_of, transaction_in, Progress, place_on, LineCheck, IsAcknowledge}
use Rattle.ace_model.proofs.Trace.Issued.{outstanding-name}
use Rattle.ace_model.proofs.Trace.Outstanding.{acknowledged_is, outstanding_own}
use Rattle.ace_portck.proofs.Found.{acknowledged_named}
use Rattle.ace_portck.proofs.Acknowledges.{acknowledge-ace, acknowledge-one}

module _ (h : Header) (past : Trace) (p : ℕ) (st : LineState) (accepted : IsAccepted h past) where
  -- where a read is to be acknowledged, it is outstanding
  pub read-outstanding : (x : Progress) → transaction_in h past (Rk p st) ≡ Some x → outstanding h past x.transaction.port Read x.transaction.id ≡ Some x.transaction
  read-outstanding x own =
      let y = x.transaction in
      let one = acknowledge-one h past p st x Read own in
      let n = acknowledged_is past p Read y one in
      let out : outstanding h past p Read n.id ≡ Some y = acknowledged_named h past p Read n.id accepted (acknowledge-ace h past p st x Read own) n.next ∙ one in
      subst (λ (c : Channel). outstanding h past y.port c y.id ≡ Some y) (outstanding-name h past p Read n.id y out).chan (outstanding_own h past p Read n.id y out)

-- what is known to be there isn't missing
pub not-missing : {A : Type 0} → (o : Option A) → is_some o ≡ true → o ≡ None → ⊥
not-missing None there none = cc
not-missing (Some v) there none = cc

-- what is found of one with a transaction
pub found-of : (s : LineCheck) (r : Recording) (e : Event) (x : Progress) (line place : Option ℕ) → line_of (transaction_in r.header r.past e) ≡ line_in r.header r.past e
    → transaction_in r.header r.past e ≡ Some x → line ≡ line_of (Some x) → place ≡ place_on s line → IsAcknowledge s r e x line place
found-of s r e x line place its own on at = let here = on ∙ ap line_of (sym own) ∙ its in record { own = own; on = here; at = at ∙ ap (place_on s) here }

-- one without a transaction breaks K1, or else the rule that asks for one
pub missing : (n : ℕ) (a b : Bool) (rest rule : Option ℕ) → rule ≡ (if a then (if b then None else Some n) else Some 1) → (a ≡ true → false ≡ b)
    → Some (unwrap_or rule n) ≡ (if a then (if b then rest else Some n) else Some 1)
missing n true true rest rule is absent = let bad : false ≡ true = absent refl in cc
missing n true false rest rule is absent = rw is refl
missing n false b rest rule is absent = rw is refl
