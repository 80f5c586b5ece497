-- Sums over the views, when one view changes.
use Rattle.std.proofs.Common.{◌≡◌, ◌≢◌, ℕ, zero, suc, ◌+◌, ◌≤◌, List, [], ◌∷◌, ◌++◌, set, sym, refl, ap, subst, arith, ⊎_elim}
use mathlib.Core.Option.{some, some-injective, some-ne-none}
use lib.ListN.{get_elem?}
use Rattle.ace_live.specs.declared.rule.View.{View}
use Rattle.ace_live.specs.Views.{total}
use Rattle.atomic_table.proofs.Lists.{at_set}

-- a fact about each view and its number stays where it holds of the new view and stays of the others
pub set_known : (K : View → Type 0) (vs : List View) (me : ℕ) (w : View) → K w → ((j : ℕ) (d : View) → j ≢ me → get_elem? vs j ≡ some d → K d)
    → (j : ℕ) (d : View) → get_elem? (set vs me w) j ≡ some d → K d
set_known K vs me w mine others j d e = ⊎_elim (λ (t : (j ≡ me) × (w ≡ d)). subst K t.1 mine)
    (λ (t : (j ≢ me) × (get_elem? vs j ≡ some d)). others j d t.0 t.1) (at_set vs me j w d e)

pub total_push : (f : View → ℕ) (vs : List View) (w : View) → total f (vs ++ w ∷ []) ≡ total f vs + f w
total_push f [] w = omega arith
total_push f (x ∷ xs) w = let h = total_push f xs w in omega arith

pub total_set : (f : View → ℕ) (vs : List View) (i : ℕ) (v w : View) → get_elem? vs i ≡ some v → total f (set vs i w) + f v ≡ total f vs + f w
total_set f [] i v w e = absurd (some-ne-none v (sym e))
total_set f (x ∷ xs) zero v w e = let p : f x ≡ f v = ap f (some-injective x v e) in omega arith
total_set f (x ∷ xs) (suc i) v w e = let h = total_set f xs i v w e in omega arith

pub total_same : (f : View → ℕ) (vs : List View) (i : ℕ) (v w : View) → get_elem? vs i ≡ some v → f w ≡ f v → total f (set vs i w) ≡ total f vs
total_same f vs i v w e s = let h = total_set f vs i v w e in omega arith

pub total_has : (f : View → ℕ) (vs : List View) (i : ℕ) (v : View) → get_elem? vs i ≡ some v → f v ≤ total f vs
total_has f [] i v e = absurd (some-ne-none v (sym e))
total_has f (x ∷ xs) zero v e = let p : f x ≡ f v = ap f (some-injective x v e) in omega arith
total_has f (x ∷ xs) (suc i) v e = let h = total_has f xs i v e in omega arith

-- two different views
pub total_two : (f : View → ℕ) (vs : List View) (i j : ℕ) (v w : View) → j ≢ i → get_elem? vs i ≡ some v → get_elem? vs j ≡ some w → f v + f w ≤ total f vs
total_two f [] i j v w n e g = absurd (some-ne-none v (sym e))
total_two f (x ∷ xs) zero zero v w n e g = absurd (n refl)
total_two f (x ∷ xs) zero (suc j) v w n e g = let p : f x ≡ f v = ap f (some-injective x v e) in let h = total_has f xs j w g in omega arith
total_two f (x ∷ xs) (suc i) zero v w n e g = let p : f x ≡ f w = ap f (some-injective x w g) in let h = total_has f xs i v e in omega arith
total_two f (x ∷ xs) (suc i) (suc j) v w n e g = let h = total_two f xs i j v w (λ q. n (ap suc q)) e g in omega arith

pub total_below : (f g : View → ℕ) (vs : List View) → ((j : ℕ) (x : View) → get_elem? vs j ≡ some x → f x ≤ g x) → total f vs ≤ total g vs
total_below f g [] h = omega arith
total_below f g (x ∷ xs) h = let a = h 0 x refl in let b = total_below f g xs (λ j y e. h (suc j) y e) in omega arith

-- where one sum is below another view by view, so it is without one view
pub total_beside : (f g : View → ℕ) (vs : List View) (i : ℕ) (v : View) → ((j : ℕ) (x : View) → get_elem? vs j ≡ some x → f x ≤ g x) → get_elem? vs i ≡ some v
    → total f vs + g v ≤ total g vs + f v
total_beside f g [] i v h e = absurd (some-ne-none v (sym e))
total_beside f g (x ∷ xs) zero v h e = let p : f x ≡ f v = ap f (some-injective x v e) in let q : g x
    ≡ g v = ap g (some-injective x v e) in let b = total_below f g xs (λ j y e. h (suc j) y e) in omega arith
total_beside f g (x ∷ xs) (suc i) v h e = let a = h 0 x refl in let b = total_beside f g xs i v (λ j y e. h (suc j) y e) e in omega arith

-- a sum that is not 0 has a view that is not 0
pub total_none : (f : View → ℕ) (vs : List View) → ((j : ℕ) (x : View) → get_elem? vs j ≡ some x → f x ≡ 0) → total f vs ≡ 0
total_none f [] h = refl
total_none f (x ∷ xs) h = let a = h 0 x refl in let b = total_none f xs (λ j y e. h (suc j) y e) in omega arith

-- a view is cut in two
pub total_cut : (f : View → ℕ) (vs : List View) (i : ℕ) (v left right : View) → get_elem? vs i ≡ some v → f left + f right ≡ f v
    → total f (set vs i left ++ right ∷ []) ≡ total f vs
total_cut f vs i v left right e s = let a = total_push f (set vs i left) right in let b = total_set f vs i v left e in omega arith

-- two views become one
pub total_glued : (f : View → ℕ) (vs : List View) (i j : ℕ) (v w both spent : View) → get_elem? vs i ≡ some v → get_elem? (set vs i both) j ≡ some w
    → f both + f spent ≡ f v + f w → total f (set (set vs i both) j spent) ≡ total f vs
total_glued f vs i j v w both spent e g s = let a = total_set f (set vs i both) j w spent g in let b = total_set f vs i v both e in omega arith
