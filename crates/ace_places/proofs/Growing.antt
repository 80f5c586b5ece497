-- A map with one more line.
use Rattle.std.proofs.Common.{◌≡◌, ℕ, ◌+◌, Bool, true, false, not, if◌then◌else◌, nat_eq, List, [], ◌∷◌, ◌++◌, length, length-append, zip, Option, None, Some, is_some, refl, sym, ap, ◌∙◌, arith, eq-eqb}
use Rattle.std.proofs.lemmas.Bool.{ne_eqb}
use Rattle.std.specs.HashMap.{HashMap}
use Rattle.indexmap.specs.IndexMap.{get}
use Rattle.indexmap.specs.Layout.{hash_map}
use Rattle.ace_places.specs.Placed.{Placed, place_in}
use Rattle.ace_places.proofs.Maps.{seen-entries, seen-found}
use Rattle.ace_places.proofs.Zips.{push-apart, push-here, zip-push}

is-none : {X : Type 0} (o : Option X) → is_some o ≡ false → o ≡ None
is-none None is = refl
is-none (Some x) is = cc

module _ {V : Type 0} (p : Placed) (vs : List V) (m : HashMap ℕ V ℕ) (view : hash_map (zip p.lines vs) 0 p.room ≡ m) (even : length vs ≡ length p.lines) (line : ℕ) where
  -- it has a value, as its line has a place
  pub is-there : (o : Option ℕ) (b : Bool) → o ≡ place_in p.lines line → b ≡ is_some o → is_some (get nat_eq m line) ≡ b
  is-there o b is some = sym (seen-found p vs m view even line) ∙ ap is_some (sym is) ∙ sym some

  pub is-absent : (o : Option ℕ) (b : Bool) → o ≡ place_in p.lines line → b ≡ is_some o → b ≡ false → get nat_eq m line ≡ None
  is-absent o b is some off = is-none (get nat_eq m line) (is-there o b is some ∙ off)

  module _ (value : V) (q : Placed) (ws : List V) (b : Bool) (new : b ≡ not (is_some (place_in p.lines line))) (lines : q.lines ≡ (if b then p.lines ++ line ∷ [] else p.lines))
      (values : ws ≡ vs ++ value ∷ []) (none : get nat_eq m line ≡ None) where
    is-new : b ≡ true
    is-new = new ∙ ap not (seen-found p vs m view even line ∙ ap is_some none)

    now-lines : q.lines ≡ p.lines ++ line ∷ []
    now-lines = lines ∙ ap (λ c. if c then p.lines ++ line ∷ [] else p.lines) is-new

    pub still-even : length ws ≡ length q.lines
    still-even =
        let one = ap length values ∙ length-append vs (value ∷ []) in
        let two = ap length now-lines ∙ length-append p.lines (line ∷ []) in
        omega (arith, one, two, even)

    pub entries-new : zip q.lines ws ≡ m.entries ++ (line, value) ∷ []
    entries-new = (λ i. zip (now-lines i) (values i)) ∙ zip-push p.lines vs line value even ∙ ap (λ es. es ++ (line, value) ∷ []) (seen-entries p vs m view even)

    pub entries-with : zip q.lines ws ≡ (if is_some (get nat_eq m line) then m.entries else m.entries ++ (line, value) ∷ [])
    entries-with = entries-new ∙ ap (λ c. if c then m.entries else m.entries ++ (line, value) ∷ []) (sym (ap is_some none))

    abbrev pub grown : List (ℕ × V) → HashMap ℕ V ℕ
    grown es = hash_map es 0 q.room

    pub get-here : get nat_eq (grown (zip q.lines ws)) line ≡ Some value
    get-here = ap (λ es. get nat_eq (grown es) line) entries-new ∙ push-here (nat_eq line) line value m.entries none (eq-eqb line line refl)

    pub get-there : (k : ℕ) → nat_eq line k ≡ false → get nat_eq (grown (zip q.lines ws)) k ≡ get nat_eq m k
    get-there k apart =
        let other : nat_eq k line ≡ false = ne_eqb k line (λ same. let bad : true ≡ false = sym (eq-eqb line k (sym same)) ∙ apart in cc) in
        ap (λ es. get nat_eq (grown es) k) entries-new ∙ push-apart (nat_eq k) line value m.entries other

    pub one-more : length (zip q.lines ws) ≡ length m.entries + 1
    one-more = ap length entries-new ∙ length-append m.entries ((line, value) ∷ [])
