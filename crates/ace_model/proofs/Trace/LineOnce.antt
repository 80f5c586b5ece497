-- A port has one outstanding transaction on a line.
use Rattle.std.proofs.Common.{◌≡◌, ℕ, true, false, not, [], ◌∷◌, length, Some, refl, sym, ◌∙◌, inl, inr, nat_eq, ap}
use Rattle.std.proofs.lemmas.Bool.{and_parts, and_from, eq-eqb, eqb-true}
use Rattle.ace_model.proofs.Terms.{Channel, Header, Transaction, Trace, is_line, is_on, has_name, issued, outstanding, is_outstanding, is_outstanding_on, has_outstanding_on, has_free_line}
use Rattle.ace_model.proofs.Terms.{IsAccepted}
use Rattle.ace_model.proofs.Trace.Looks.{has_name-is}
use Rattle.ace_model.proofs.Trace.Issued.{issued_at, outstanding-origin, outstanding-named, transaction_of-stands}
use Rattle.ace_model.proofs.Trace.Growth.{IsIssued, some_issued-found}
use Rattle.ace_model.proofs.Rules.Keeps.{accepted_keeps}
use Rattle.ace_model.proofs.General.Options.{Some-injective, is_some_and-is, is_none_or-at}
use Rattle.ace_model.proofs.General.Booleans.{implies-at}
use Rattle.ace_model.proofs.Trace.Outstanding.{outstanding_own}

-- and one that was issued, where its name says that it is
pub outstanding_is : (h : Header) (past : Trace) (x : Transaction) → IsIssued past x → is_outstanding h past x ≡ true → outstanding h past x.port x.chan x.id ≡ Some x
outstanding_is h past x i o =
    let y = is_some_and-is (outstanding h past x.port x.chan x.id) (λ y. nat_eq y.place x.place) o in
    let s = transaction_of-stands past x.port x.chan x.id y.0 (outstanding-named h past x.port x.chan x.id y.0 y.1) in
    y.1 ∙ sym s.there ∙ ap (issued_at past) (eqb-true y.0.place x.place y.2) ∙ i.there

-- what is outstanding on the line is found there
pub outstanding_found : (h : Header) (past : Trace) (p : ℕ) (c : Channel) (i l : ℕ) (x : Transaction)
    → outstanding h past p c i ≡ Some x → is_on x l ≡ true → has_outstanding_on h past p l ≡ true
outstanding_found h past p c i l x o on =
    let s = transaction_of-stands past p c i x (outstanding-named h past p c i x o) in
    let out : is_outstanding h past x ≡ true = rw (outstanding_own h past p c i x o) (eq-eqb x.place x.place refl) in
    let port = eq-eqb x.port p (has_name-is x p c i s.named).port in
    some_issued-found past (is_outstanding_on h past p l) x.place x s.there (and_from _ _ (and_from _ _ port on) out)

-- a new transaction finds no other on its line
pub free_line : (h : Header) (past : Trace) (p : ℕ) (c d : Channel) (i j l : ℕ) (x y : Transaction)
    → has_free_line h past x ≡ true → has_name x p c i ≡ true → outstanding h past p d j ≡ Some y → is_on x l ≡ true → is_on y l ≡ true → ⊥
free_line h past p c d i j l x y free named o nx ny =
    let on = and_parts (is_line x) _ nx in
    let none = implies-at (is_line x) (not (has_outstanding_on h past x.port x.addr)) free on.0 in
    let bad : false ≡ true = rw ((has_name-is x p c i named).port, eqb-true x.addr l on.1, outstanding_found h past p d j l y o ny) at none in cc

pub one_on_line : (h : Header) (past : Trace) → IsAccepted h past → (p : ℕ) (c d : Channel) (i j l : ℕ) (x y : Transaction)
    → outstanding h past p c i ≡ Some x → outstanding h past p d j ≡ Some y → is_on x l ≡ true → is_on y l ≡ true → x ≡ y
one_on_line h [] a p c d i j l x y ox oy nx ny = cc
one_on_line h (e ∷ past) a p c d i j l x y ox oy nx ny =
    let free = λ (z : Transaction). is_none_or-at (issued (length past) e) (has_free_line h past) z (accepted_keeps h past e a).rule_5 in
    elim (outstanding-origin h past e p c i x ox) [
      | inl new ↦ elim (outstanding-origin h past e p d j y oy) [
        | inl newer ↦ Some-injective x y (sym new.0 ∙ newer.0)
        | inr old ↦ absurd (free_line h past p c d i j l x y (free x new.0) new.1 old.was nx ny)
      ]
      | inr old ↦ elim (outstanding-origin h past e p d j y oy) [
        | inl new ↦ absurd (free_line h past p d c j i l y x (free y new.0) new.1 old.was ny nx)
        | inr older ↦ one_on_line h past a.0 p c d i j l x y old.was older.was nx ny
      ]
    ]
