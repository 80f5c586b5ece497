-- Exclusive stores of histories: what a history with one entry more has reserved, and what a reserved line says of the entries before.
use Rattle.std.proofs.Common.{◌≡◌, ◌⊎◌, ℕ, Bool, true, false, not, ◌&&◌, ◌||◌, ◌==◌, List, [], ◌∷◌, ◌++◌, refl, sym, ap, subst, ◌∙◌, inl, inr, append_assoc}
use Rattle.std.specs.List.{AllByRecursion}
use Rattle.std.proofs.lemmas.Bool.{cases_Bool, eqb-true}
use Rattle.ace_event.specs.declared.event.Outcome.{Outcome}
use Rattle.ace_event.specs.declared.event.Outcome.TheVariants.{Ok, Skip, Fail}
use Rattle.ace_model.specs.declared.plans.Op.{Op}
use Rattle.ace_model.specs.declared.plans.Op.TheVariants.{Ldx, St, Stx}
use Rattle.ace_history.specs.declared.entry.Entry.{Entry}
use Rattle.ace_history.specs.Reserved.{AreExclusive, IsLoadedBefore, LeavesLine, MayEnd, is_reserved, is_store_to, reserved_after, reserved_by, reserves_line}
use Rattle.ace_history.specs.Stored.{is_ok}

pub reserved_after-snoc : (p a : ℕ) (was : Bool) (h : List Entry) (e : Entry)
    → reserved_after p a was (h ++ e ∷ []) ≡ reserved_by p a e.port e.op e.res (reserved_after p a was h)
reserved_after-snoc p a was [] e = refl
reserved_after-snoc p a was (x ∷ h) e = reserved_after-snoc p a (reserved_by p a x.port x.op x.res was) h e

-- lines that are reserved alike
pub may-of : (f g : ℕ → ℕ → Bool) (p : ℕ) (op : Op) (res : Outcome) → ((q a : ℕ) → f q a ≡ g q a) → MayEnd f p op res → MayEnd g p op res
may-of f g p (Stx a w word) Ok same may = sym (same p a) ∙ may
may-of f g p (Stx a w word) Skip same may = tt
may-of f g p (Stx a w word) Fail same may = tt
may-of f g p op res same may = tt

append-none : {A : Type 0} → (xs : List A) → xs ++ [] ≡ xs
append-none [] = refl
append-none (x ∷ xs) = ap (λ l. x ∷ l) (append-none xs)

pub exclusive-snoc : (before h : List Entry) (e : Entry) → AreExclusive before h → MayEnd (is_reserved (before ++ h)) e.port e.op e.res
    → AreExclusive before (h ++ e ∷ [])
exclusive-snoc before [] e all may = (subst (λ b. MayEnd (is_reserved b) e.port e.op e.res) (append-none before) may, tt)
exclusive-snoc before (x ∷ h) e all may =
    (all.0, exclusive-snoc (before ++ x ∷ []) h e all.1 (subst (λ b. MayEnd (is_reserved b) e.port e.op e.res) (sym (append_assoc before (x ∷ []) h)) may))

-- what is asked of an entry in the middle
exclusive-at : (earlier before rest : List Entry) (e : Entry) → AreExclusive earlier (before ++ e ∷ rest)
    → MayEnd (is_reserved (earlier ++ before)) e.port e.op e.res
exclusive-at earlier [] rest e all = subst (λ b. MayEnd (is_reserved b) e.port e.op e.res) (sym (append-none earlier)) all.0
exclusive-at earlier (x ∷ before) rest e all =
    subst (λ b. MayEnd (is_reserved b) e.port e.op e.res) (append_assoc earlier (x ∷ []) before) (exclusive-at (earlier ++ x ∷ []) before rest e all.1)

-- ---- a reserved line was loaded ----------------------------------------------------------------------

and-false : (b : Bool) → (b && false) ≡ false
and-false true = refl
and-false false = refl

-- the entry reserves the line for the port, or it was reserved before and the entry leaves it
abbrev pub Reserves : ℕ → ℕ → Entry → Bool → Type 0
Reserves p a e was = ((e.port ≡ p) × (reserves_line a e.op ≡ true)) ⊎ ((was ≡ true) × LeavesLine p a e)

store-leaves : (c x y : Bool) → (c && (x || y)) ≡ false → (not x && (c && y)) ≡ false
store-leaves true true y e = refl
store-leaves true false y e = e
store-leaves false x y e = and-false (not x)

by-operation : (p a q : ℕ) (op : Op) (res : Outcome) (was : Bool) → reserved_by p a q op res was ≡ true
    → ((q ≡ p) × (reserves_line a op ≡ true)) ⊎ ((was ≡ true) × ((not (p == q) && is_store_to a op res) ≡ false))
by-operation p a q (Ldx b w) res was r =
    elim (cases_Bool (p == q)) [
      | inl own ↦ let here : (a == b) ≡ true = rw own at r in inl (sym (eqb-true p q own), here)
      | inr other ↦ let before : was ≡ true = rw other at r in inr (before, and-false (not (p == q)))
    ]
by-operation p a q (St b w word) res was r =
    elim (cases_Bool (not (p == q) && (a == b))) [
      | inl ends ↦ let bad : false ≡ true = rw ends at r in cc
      | inr leaves ↦ let before : was ≡ true = rw leaves at r in inr (before, leaves)
    ]
by-operation p a q (Stx b w word) res was r =
    elim (cases_Bool (is_ok res && ((p == q) || (a == b)))) [
      | inl ends ↦ let bad : false ≡ true = rw ends at r in cc
      | inr leaves ↦ let before : was ≡ true = rw leaves at r in inr (before, store-leaves (is_ok res) (p == q) (a == b) leaves)
    ]
by-operation p a q op res was r = inr (r, and-false (not (p == q)))

one-more : (p a : ℕ) (e : Entry) (h : List Entry) → IsLoadedBefore h p a → IsLoadedBefore (e ∷ h) p a
one-more p a e h l = record {
  earlier = e ∷ l.earlier;
  load = l.load;
  between = l.between;
  parts = ap (λ t. e ∷ t) l.parts;
  port = l.port;
  line = l.line;
  undisturbed = l.undisturbed;
}

begun-with : (p a : ℕ) (e : Entry) (h : List Entry) → (e.port ≡ p) × (reserves_line a e.op ≡ true) → AllByRecursion (LeavesLine p a) h
    → IsLoadedBefore (e ∷ h) p a
begun-with p a e h is all = record {
  earlier = [];
  load = e;
  between = h;
  parts = refl;
  port = is.0;
  line = is.1;
  undisturbed = all;
}

reserved-loaded : (p a : ℕ) (was : Bool) (h : List Entry) → reserved_after p a was h ≡ true
    → IsLoadedBefore h p a ⊎ ((was ≡ true) × AllByRecursion (LeavesLine p a) h)
reserved-loaded p a was [] r = inr (r, tt)
reserved-loaded p a was (e ∷ h) r =
    elim (reserved-loaded p a (reserved_by p a e.port e.op e.res was) h r) [
      | inl loaded ↦ inl (one-more p a e h loaded)
      | inr rest ↦ elim (by-operation p a e.port e.op e.res was rest.0) [
        | inl own ↦ inl (begun-with p a e h own rest.1)
        | inr before ↦ inr (before.0, (before.1, rest.1))
      ]
    ]

pub loaded-before : (before rest : List Entry) (e : Entry) (a w word : ℕ) → AreExclusive [] (before ++ e ∷ rest) → e.op ≡ Stx a w word → e.res ≡ Ok
    → IsLoadedBefore before e.port a
loaded-before before rest e a w word all op ok =
    let may = exclusive-at [] before rest e all in
    let stored : MayEnd (is_reserved before) e.port (Stx a w word) Ok =
    subst (λ r. MayEnd (is_reserved before) e.port (Stx a w word) r) ok (subst (λ o. MayEnd (is_reserved before) e.port o e.res) op may) in
    elim (reserved-loaded e.port a false before stored) [
      | inl loaded ↦ loaded
      | inr never ↦ let bad : false ≡ true = never.0 in cc
    ]

pub store-is-exclusive : (history before rest : List Entry) (e : Entry) (a w word : ℕ) → AreExclusive [] history → history ≡ before ++ e ∷ rest
    → e.op ≡ Stx a w word → e.res ≡ Ok → IsLoadedBefore before e.port a
store-is-exclusive history before rest e a w word all parts op ok = loaded-before before rest e a w word (subst (AreExclusive []) parts all) op ok
