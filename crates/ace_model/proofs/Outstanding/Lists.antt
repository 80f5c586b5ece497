-- Lists of which some elements are kept, each with what is known of it.
use Rattle.std.specs.List.{AllByRecursion, filter, find, list_any}
use Rattle.std.proofs.Common.{◌≡◌, ◌<◌, ℕ, suc, Bool, true, false, ◌&&◌, ◌||◌, List, [], ◌∷◌, ◌++◌, map, Option, Some, None, slice_get, option_map, refl, sym, ap, subst, ◌∙◌, inl, inr, arith}
use Rattle.std.proofs.lemmas.Bool.{cases_Bool, lt-ltb, le-ltb}
use Rattle.std.specs.Bool.{⊤}
use Rattle.ace_model.specs.Shares.{lesser}

-- what holds at each place holds of all elements
pub all_from_places : {A : Type 0} → (P : A → Type 0) (xs : List A) → ((k : ℕ) (x : A) → slice_get xs k ≡ Some x → P x) → AllByRecursion P xs
all_from_places P [] at = tt
all_from_places P (x ∷ xs) at = (at 0 x refl, all_from_places P xs (λ k y there. at (suc k) y there))

pub all_implies : {A : Type 0} → (P Q : A → Type 0) (xs : List A) → ((x : A) → P x → Q x) → AllByRecursion P xs → AllByRecursion Q xs
all_implies P Q [] step all = tt
all_implies P Q (x ∷ xs) step all = (step x all.0, all_implies P Q xs step all.1)

-- The element is kept by two tests alike, and the same is known of it.
pub record IsSame {A B : Type 0} (known known_then : A → B) (test test_then : A → Bool) (x : A) : Type 0 where
  pub kept : test x ≡ test_then x
  pub same : test x ≡ true → known x ≡ known_then x

pub kept_same : {A B : Type 0} → (known known_then : A → B) (test test_then : A → Bool) (xs : List A)
    → AllByRecursion (IsSame known known_then test test_then) xs → map known (filter test xs) ≡ map known_then (filter test_then xs)
kept_same known known_then test test_then [] all = refl
kept_same known known_then test test_then (x ∷ xs) all =
    let rest = kept_same known known_then test test_then xs all.1 in
    let s = all.0 in
    let k = s.kept in
    elim (cases_Bool (test x)) [
      | inl t ↦ let u : test_then x ≡ true = sym k ∙ t in let f = s.same t in rw (t, u, f, rest) refl
      | inr n ↦ let u : test_then x ≡ false = sym k ∙ n in rw (n, u) rest
    ]

-- What is known of the element is brought up to date, and then it goes exactly where the later test doesn't keep it.
pub record IsRenewed {A B : Type 0} (known known_then : A → B) (renewed : B → B) (stays : B → Bool) (test test_then : A → Bool) (x : A) : Type 0 where
  pub out : test x ≡ false → test_then x ≡ false
  pub kept : test x ≡ true → stays (renewed (known x)) ≡ test_then x
  pub same : test_then x ≡ true → renewed (known x) ≡ known_then x

pub kept_renewed : {A B : Type 0} → (known known_then : A → B) (renewed : B → B) (stays : B → Bool) (test test_then : A → Bool) (xs : List A)
    → AllByRecursion (IsRenewed known known_then renewed stays test test_then) xs
    → filter stays (map renewed (map known (filter test xs))) ≡ map known_then (filter test_then xs)
kept_renewed known known_then renewed stays test test_then [] all = refl
kept_renewed known known_then renewed stays test test_then (x ∷ xs) all =
    let rest = kept_renewed known known_then renewed stays test test_then xs all.1 in
    let s = all.0 in
    elim (cases_Bool (test x)) [
      | inr n ↦ let u = s.out n in rw (n, u) rest
      | inl t ↦
          let k = s.kept t in
          elim (cases_Bool (test_then x)) [
            | inl u ↦ let stay : stays (renewed (known x)) ≡ true = k ∙ u in let f = s.same u in rw (t, u) (rw stay (rw (f, rest) refl))
            | inr u ↦ let stay : stays (renewed (known x)) ≡ false = k ∙ u in rw (t, u) (rw stay rest)
          ]
    ]

-- a look for an element among those that a test keeps
pub find_kept : {A B : Type 0} → (known : A → B) (test : A → Bool) (look : B → Bool) (both : A → Bool) (xs : List A)
    → ((x : A) → both x ≡ (test x && look (known x))) → find look (map known (filter test xs)) ≡ option_map known (find both xs)
find_kept known test look both [] is = refl
find_kept known test look both (x ∷ xs) is =
    let rest = find_kept known test look both xs is in
    let b = is x in
    elim (cases_Bool (test x)) [
      | inr n ↦ let none : both x ≡ false = rw n at b in rw (n, none) rest
      | inl t ↦
          let look_too : both x ≡ look (known x) = rw t at b in
          elim (cases_Bool (look (known x))) [
            | inl l ↦ let some = look_too ∙ l in rw (t, some) (rw l refl)
            | inr l ↦ let none = look_too ∙ l in rw (t, none) (rw l rest)
          ]
    ]

pub any_kept : {A B : Type 0} → (known : A → B) (test : A → Bool) (look : B → Bool) (both : A → Bool) (xs : List A)
    → ((x : A) → both x ≡ (test x && look (known x))) → list_any look (map known (filter test xs)) ≡ list_any both xs
any_kept known test look both [] is = refl
any_kept known test look both (x ∷ xs) is =
    let rest = any_kept known test look both xs is in
    let b = is x in
    elim (cases_Bool (test x)) [
      | inr n ↦ let none : both x ≡ false = rw n at b in rw (n, none) rest
      | inl t ↦ let look_too : both x ≡ look (known x) = rw t at b in rw (t, look_too, rest) refl
    ]

-- a test that every element passes keeps all
pub kept_all : {A : Type 0} → (xs : List A) → filter (λ (x : A). true) xs ≡ xs
kept_all [] = refl
kept_all (x ∷ xs) = ap (λ l. x ∷ l) (kept_all xs)

-- The elements have numbers that rise.
abbrev pub Rises : {A : Type 0} → (A → ℕ) → List A → Type 0
Rises number [] = ⊤
Rises number (x ∷ xs) = AllByRecursion (λ y. number x < number y) xs × Rises number xs

all_more : {A : Type 0} → (P : A → Type 0) (xs : List A) (y : A) → AllByRecursion P xs → P y → AllByRecursion P (xs ++ y ∷ [])
all_more P [] y all here = (here, tt)
all_more P (x ∷ xs) y all here = (all.0, all_more P xs y all.1 here)

pub rises_more : {A : Type 0} → (number : A → ℕ) (xs : List A) (y : A) → Rises number xs → AllByRecursion (λ x. number x < number y) xs → Rises number (xs ++ y ∷ [])
rises_more number [] y rises below = (tt, tt)
rises_more number (x ∷ xs) y rises below = (all_more (λ z. number x < number z) xs y rises.0 below.0, rises_more number xs y rises.1 below.1)

-- The element passes the test exactly where it passes one of two others, and never both.
pub record IsSplit {A : Type 0} (test left right : A → Bool) (x : A) : Type 0 where
  pub either : test x ≡ (left x || right x)
  pub not_both : left x ≡ true → right x ≡ false

found_all : {A : Type 0} → (P : A → Type 0) (test : A → Bool) (xs : List A) (y : A) → AllByRecursion P xs → find test xs ≡ Some y → P y
found_all P test [] y all is = cc
found_all P test (x ∷ xs) y all is =
    elim (cases_Bool (test x)) [
      | inl t ↦ let s : Some x ≡ Some y = rw t at is in let one : x ≡ y = cc in subst P one all.0
      | inr f ↦ found_all P test xs y all.1 (rw f at is)
    ]

first_left : (n : ℕ) (o : Option ℕ) → ((m : ℕ) → o ≡ Some m → n < m) → Some n ≡ lesser (Some n) o
first_left n None low = refl
first_left n (Some m) low = let l = low m refl in let f = le-ltb m n (omega arith) in rw f refl

first_right : (n : ℕ) (o : Option ℕ) → ((m : ℕ) → o ≡ Some m → n < m) → Some n ≡ lesser o (Some n)
first_right n None low = refl
first_right n (Some m) low = let l = low m refl in let t = lt-ltb n m l in rw t refl

found_later : {A : Type 0} → (number : A → ℕ) (x : A) (xs : List A) → AllByRecursion (λ z. number x < number z) xs
    → (look : A → Bool) (o : Option A) → find look xs ≡ o → (m : ℕ) → option_map number o ≡ Some m → number x < m
found_later number x xs low look None is m e = cc
found_later number x xs low look (Some y) is m e = let n : number y ≡ m = cc in subst (λ k. number x < k) n (found_all (λ z. number x < number z) look xs y low is)

-- the first that passes the test is the first of those that pass one of the two
pub first_split : {A : Type 0} → (number : A → ℕ) (test left right : A → Bool) (xs : List A) → Rises number xs → AllByRecursion (IsSplit test left right) xs
    → option_map number (find test xs) ≡ lesser (option_map number (find left xs)) (option_map number (find right xs))
first_split number test left right [] rises all = refl
first_split number test left right (x ∷ xs) rises all =
    let rest = first_split number test left right xs rises.1 all.1 in
    let e = all.0.either in
    elim (cases_Bool (left x)) [
      | inl l ↦
          let r = all.0.not_both l in
          let t : test x ≡ true = rw l at e in
          rw (t, l, r) (first_left (number x) (option_map number (find right xs)) (found_later number x xs rises.0 right (find right xs) refl))
      | inr l ↦
          elim (cases_Bool (right x)) [
            | inl r ↦
                let t : test x ≡ true = rw (l, r) at e in
                rw (t, l, r) (first_right (number x) (option_map number (find left xs)) (found_later number x xs rises.0 left (find left xs) refl))
            | inr r ↦ let t : test x ≡ false = rw (l, r) at e in rw (t, l, r) rest
          ]
    ]
