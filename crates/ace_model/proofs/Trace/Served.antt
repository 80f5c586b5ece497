-- What an event did for a transaction: the event that a transaction has had, and the transaction that it names.
use Rattle.std.proofs.Common.{◌≡◌, ℕ, ◌<◌, length, Bool, true, ◌&&◌, List, [], ◌∷◌, ◌++◌, Some, sym, ap, subst, ◌∙◌, inl, inr}
use Rattle.std.proofs.lemmas.Bool.{and_parts, or_cases, eqb-true}
use Rattle.ace_model.proofs.Terms.{Event, Channel, Header, Transaction, Trace, is_some_and, is_transaction, transaction_of, outstanding, served_by, has_had}
use Rattle.ace_model.proofs.Trace.Growth.{issued_at-later}
use Rattle.ace_model.proofs.Trace.Issued.{issued_at, transaction_of-stands, outstanding-named}
use Rattle.ace_model.proofs.Trace.Looks.{Named, has_name-is}
use Rattle.ace_model.proofs.General.Options.{Some-injective, is_some_and-is}

-- what holds where an event that the transaction has had is among those of the trace holds where it has had one
pub had_some : (test : Event → Bool) (P : Trace → Type 0) (past : Trace) (x : Transaction)
    → ((later : List Event) (e : Event) (before : Trace) → test e ≡ true → is_transaction (served_by before e) x ≡ true → P (later ++ e ∷ before))
    → has_had test past x ≡ true → P past
had_some test P [] x holds had = cc
had_some test P (e ∷ past) x holds had =
    elim (or_cases (test e && is_transaction (served_by past e) x) (has_had test past x) had) [
      | inl now ↦ let parts = and_parts (test e) (is_transaction (served_by past e) x) now in holds [] e past parts.0 parts.1
      | inr earlier ↦ had_some test (λ t. P (e ∷ t)) past x (λ later. holds (e ∷ later)) earlier
    ]

-- the outstanding transaction of a name, by what is known of it in the trace that grew
pub record Outstands (h : Header) (before : Trace) (p : ℕ) (c : Channel) (i : ℕ) (x : Transaction) : Type 0 where
  pub out : outstanding h before p c i ≡ Some x
  pub of_name : transaction_of before p c i ≡ Some x
  pub name : Named x p c i
  pub there : issued_at before x.place ≡ Some x
  pub earlier : x.place < length before

-- where something is outstanding under the name, and the event that names it is one that the transaction has had
pub outstands : (h : Header) (later : List Event) (e : Event) (before : Trace) (p : ℕ) (c : Channel) (i : ℕ) (test : Transaction → Bool) (x : Transaction)
    → is_some_and (outstanding h before p c i) test ≡ true → is_transaction (transaction_of before p c i) x ≡ true
    → issued_at (later ++ e ∷ before) x.place ≡ Some x → Outstands h before p c i x × (test x ≡ true)
outstands h later e before p c i test x some belongs there =
    let o = is_some_and-is (outstanding h before p c i) test some in
    let z : Transaction = o.0 in
    let of_name : transaction_of before p c i ≡ Some z = outstanding-named h before p c i z o.1 in
    let stands = transaction_of-stands before p c i z of_name in
    let same_place : z.place ≡ x.place = eqb-true z.place x.place (rw of_name at belongs) in
    let there_too = issued_at-later later e before z.place stands.before ∙ stands.there in
    let same : z ≡ x = Some-injective z x (sym there_too ∙ ap (issued_at (later ++ e ∷ before)) same_place ∙ there) in (
      record {
        out = o.1 ∙ ap Some same;
        of_name = of_name ∙ ap Some same;
        name = subst (λ (y : Transaction). Named y p c i) same (has_name-is z p c i stands.named);
        there = subst (λ (y : Transaction). issued_at before y.place ≡ Some y) same stands.there;
        earlier = subst (λ (y : Transaction). y.place < length before) same stands.before;
      },
      subst (λ (y : Transaction). test y ≡ true) same o.2,
    )
