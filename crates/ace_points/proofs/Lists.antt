-- Tests of lists.
use Rattle.std.proofs.Common.{◌≡◌, ◌||◌, ◌&&◌, ℕ, ◌+◌, Bool, List, [], ◌∷◌, map, refl, sym, ap, ◌∙◌, add-one}
use Rattle.std.specs.List.{list_any}
use Rattle.ace_model.specs.Grants.{ports_below}
use Rattle.ace_points.specs.Situations.{some_two}

pub list_any-map : {A B : Type 0} (test : B → Bool) (f : A → B) (xs : List A) → list_any test (map f xs) ≡ list_any (λ x. test (f x)) xs
list_any-map test f [] = refl
list_any-map test f (x ∷ xs) = ap (λ b. test (f x) || b) (list_any-map test f xs)

-- one more port, where the test is what the loop has found
pub any_next : (test : ℕ → Bool) (n : ℕ) (here any : Bool) → here ≡ test n → any ≡ list_any test (ports_below n)
    → (here || any) ≡ list_any test (ports_below (n + 1))
any_next test n here any h a =
    ap (λ b. b || any) h ∙ ap (λ b. test n || b) a ∙ sym (ap (λ k. list_any test (ports_below k)) (add-one n))

pub two_next : (test : ℕ → Bool) (n : ℕ) (here any two : Bool) → here ≡ test n → any ≡ list_any test (ports_below n) → two ≡ some_two test (ports_below n)
    → ((here && any) || two) ≡ some_two test (ports_below (n + 1))
two_next test n here any two h a t =
    ap (λ b. (b && any) || two) h ∙ ap (λ b. (test n && b) || two) a ∙ ap (λ b. (test n && list_any test (ports_below n)) || b) t
    ∙ sym (ap (λ k. some_two test (ports_below k)) (add-one n))
