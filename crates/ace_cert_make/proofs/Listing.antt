-- A list that is made of a map's entries, one after the other.
use Rattle.std.proofs.Common.{◌≡◌, List, [], ◌∷◌, ◌++◌, map, sym, ap, ◌∙◌, append_assoc, append-nil}

pub listed-next : {A B : Type 0} (f : A → B) (old new : List B) (s t : List A) (x : A) (whole : List B) → s ≡ x ∷ t → new ≡ old ++ f x ∷ []
    → old ++ map f s ≡ whole
    → new ++ map f t ≡ whole
listed-next f old new s t x whole first added before =
    ap (λ l. l ++ map f t) added ∙ append_assoc old (f x ∷ []) (map f t) ∙ sym (ap (λ l. old ++ map f l) first) ∙ before

pub listed-all : {A B : Type 0} (f : A → B) (list : List B) (s : List A) (whole : List B) → s ≡ [] → list ++ map f s ≡ whole → list ≡ whole
listed-all f list s whole none before = sym (append-nil list) ∙ sym (ap (λ l. list ++ map f l) none) ∙ before
