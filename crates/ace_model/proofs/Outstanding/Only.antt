-- A look that finds the only transaction that passes a test: two such looks find the same one.
use Rattle.std.specs.List.{find}
use Rattle.std.proofs.Common.{◌≡◌, ℕ, Bool, true, ◌&&◌, ◌==◌, Option, Some, None, is_some, refl, sym, ap, ◌∙◌, inl, inr}
use Rattle.std.proofs.lemmas.Bool.{and_parts, and_from, cases_Bool, eqb-true, eq-eqb}
use Rattle.ace_model.proofs.Terms.{Channel, Header, Transaction, Trace, same_channel, is_on, outstanding, is_outstanding, is_outstanding_on, some_issued, transactions, IsAccepted}
use Rattle.ace_model.proofs.General.Options.{Some-injective}
use Rattle.ace_model.proofs.Trace.Looks.{same_channel-is, same_channel-self}
use Rattle.ace_model.proofs.Trace.Issued.{outstanding-named, outstanding-name}
use Rattle.ace_model.proofs.Trace.Growth.{IsIssued, named-issued, transaction-issued, some_issued-is, some_issued-found}
use Rattle.ace_model.proofs.Trace.LineOnce.{outstanding_is, one_on_line}
use Rattle.ace_model.proofs.Trace.Outstanding.{outstanding_own}
use Rattle.ace_model.proofs.Outstanding.Issued.{issued-place_in, find-some, find-none}

-- The look finds a transaction that passes the test, if the trace has one.
pub record IsFound (past : Trace) (test : Transaction → Bool) (o : Option Transaction) : Type 0 where
  pub some : (x : Transaction) → o ≡ Some x → IsIssued past x × (test x ≡ true)
  pub none : o ≡ None → (x : Transaction) → IsIssued past x → test x ≡ true → ⊥

pub find-found : (past : Trace) (test : Transaction → Bool) → IsFound past test (find test (transactions past))
find-found past test = record {
  some = λ x e. let s = find-some test (transactions past) x e in (transaction-issued past s.0.0 x s.0.1, s.1);
  none = λ e x i t. let k = issued-place_in past x i in let f = find-none test (transactions past) k.0 x e k.1 in cc;
}

pub found_same : (past : Trace) (test : Transaction → Bool) (o other : Option Transaction)
    → ((x y : Transaction) → IsIssued past x → IsIssued past y → test x ≡ true → test y ≡ true → x ≡ y)
    → IsFound past test o → IsFound past test other → o ≡ other
found_same past test None None only f g = refl
found_same past test None (Some y) only f g = let s = g.some y refl in absurd (f.none refl y s.0 s.1)
found_same past test (Some x) None only f g = let s = f.some x refl in absurd (g.none refl x s.0 s.1)
found_same past test (Some x) (Some y) only f g =
    let s = f.some x refl in let t = g.some y refl in ap Some (only x y s.0 t.0 s.1 t.1)

-- it is the port's, on the channel, and outstanding
abbrev pub is_outstanding_at : Header → Trace → ℕ → Channel → Transaction → Bool
is_outstanding_at h past p c x = (x.port == p) && same_channel x.chan c && is_outstanding h past x

-- then the name finds it
pub outstanding_at-is : (h : Header) (past : Trace) (p : ℕ) (c : Channel) (x : Transaction) → IsIssued past x → is_outstanding_at h past p c x ≡ true
    → outstanding h past p c x.id ≡ Some x
outstanding_at-is h past p c x i t =
    let a = and_parts ((x.port == p) && same_channel x.chan c) (is_outstanding h past x) t in
    let b = and_parts (x.port == p) (same_channel x.chan c) a.0 in
    let port = eqb-true x.port p b.0 in
    let chan = same_channel-is x.chan c b.1 in
    ap (λ q. outstanding h past q c x.id) (sym port) ∙ ap (λ d. outstanding h past x.port d x.id) (sym chan) ∙ outstanding_is h past x i a.1

-- what the name finds is it
pub outstanding_at-from : (h : Header) (past : Trace) (p : ℕ) (c : Channel) (i : ℕ) (x : Transaction) → outstanding h past p c i ≡ Some x
    → IsIssued past x × (is_outstanding_at h past p c x ≡ true) × (x.id ≡ i)
outstanding_at-from h past p c i x out =
    let n = outstanding-name h past p c i x out in
    let self : is_outstanding h past x ≡ true = rw (outstanding_own h past p c i x out) (eq-eqb x.place x.place refl) in (
      named-issued past p c i x (outstanding-named h past p c i x out),
      and_from _ _ (and_from _ _ (eq-eqb x.port p n.port) (rw n.chan (same_channel-self c))) self,
      n.id,
    )

-- a look at the list for the port's outstanding transaction under an identifier finds it
pub outstanding-find : (h : Header) (past : Trace) (p : ℕ) (c : Channel) (i : ℕ)
    → find (λ x. is_outstanding_at h past p c x && (x.id == i)) (transactions past) ≡ outstanding h past p c i
outstanding-find h past p c i =
    found_same past test (find test (transactions past)) (outstanding h past p c i) only (find-found past test) (record { some = some; none = none })
  where
    test : Transaction → Bool
    test x = is_outstanding_at h past p c x && (x.id == i)

    is : (x : Transaction) → IsIssued past x → test x ≡ true → outstanding h past p c i ≡ Some x
    is x issued t =
        let a = and_parts (is_outstanding_at h past p c x) (x.id == i) t in
        ap (outstanding h past p c) (sym (eqb-true x.id i a.1)) ∙ outstanding_at-is h past p c x issued a.0

    only : (x y : Transaction) → IsIssued past x → IsIssued past y → test x ≡ true → test y ≡ true → x ≡ y
    only x y ix iy tx ty = Some-injective x y (sym (is x ix tx) ∙ is y iy ty)

    some : (x : Transaction) → outstanding h past p c i ≡ Some x → IsIssued past x × (test x ≡ true)
    some x out = let f = outstanding_at-from h past p c i x out in (f.0, and_from _ _ f.1 (eq-eqb x.id i f.2))

    none : outstanding h past p c i ≡ None → (x : Transaction) → IsIssued past x → test x ≡ true → ⊥
    none out x issued t = let s = is x issued t in let no : None ≡ Some x = sym out ∙ s in cc

-- whether there is one
pub found_some : (past : Trace) (test : Transaction → Bool) (o : Option Transaction) → IsFound past test o → some_issued past test ≡ is_some o
found_some past test (Some x) f = let s = f.some x refl in some_issued-found past test x.place x s.0.there s.1
found_some past test None f =
    elim (cases_Bool (some_issued past test)) [
      | inr none ↦ none
      | inl t ↦ let x = some_issued-is past test t in absurd (f.none refl x.0 x.1 x.2)
    ]

-- the port's outstanding transaction on a line is the only one
pub one_outstanding_on : (h : Header) (past : Trace) (p l : ℕ) (x y : Transaction) → IsAccepted h past → IsIssued past x → IsIssued past y
    → is_outstanding_on h past p l x ≡ true → is_outstanding_on h past p l y ≡ true → x ≡ y
one_outstanding_on h past p l x y a ix iy tx ty =
    let ax = and_parts ((x.port == p) && is_on x l) (is_outstanding h past x) tx in
    let ay = and_parts ((y.port == p) && is_on y l) (is_outstanding h past y) ty in
    let bx = and_parts (x.port == p) (is_on x l) ax.0 in
    let by = and_parts (y.port == p) (is_on y l) ay.0 in
    one_on_line h past a p x.chan y.chan x.id y.id l x y
    (ap (λ q. outstanding h past q x.chan x.id) (sym (eqb-true x.port p bx.0)) ∙ outstanding_is h past x ix ax.1)
    (ap (λ q. outstanding h past q y.chan y.id) (sym (eqb-true y.port p by.0)) ∙ outstanding_is h past y iy ay.1)
    bx.1 by.1
