-- S and D: a silent transition, and a store.
use Rattle.std.proofs.Common.{◌≡◌, ℕ, Bool, true, false, not, ◌&&◌, ◌||◌, nat_eq, ◌∷◌, refl, sym, ◌∙◌, inl, inr}
use Rattle.std.proofs.lemmas.Bool.{and_parts, or_cases, cases_Bool, cases_eq, eqb-true}
use Rattle.ace_model.proofs.Terms.{LineState, UD, Header, Line, S, D, Trace, is_silent_move, is_unique, is_dirty, state_of, awaits_store}
use Rattle.ace_model.proofs.Terms.{is_in_make_unique, has_store, UniqueNow, OneDirtyNow, k29, k32, may_store, wants_store, full_line}
use Rattle.ace_model.proofs.Tables.States.{lessens-is, silent_lessens}
use Rattle.ace_model.proofs.Tables.Less.{Less, less-lessens, less-clean, less_where, unique_to_dirty, lessens_where}
use Rattle.ace_model.proofs.Trace.Growth.{some_issued-weaker}
use Rattle.ace_model.proofs.Holders.Kept.{LessenedAt, standing, arrive_kept, held_kept, one_dirty_kept}
use Rattle.ace_model.proofs.Holders.Facts.{OneHolder}

-- the test that a D names the port's state of the line
abbrev pub is_named_by_d : Header → Trace → ℕ → ℕ → ℕ → ℕ → Bool
is_named_by_d h past q addr r l = (nat_eq r q && nat_eq l addr) && not (is_in_make_unique h past r l)

module _ (h : Header) (past : Trace) (q addr : ℕ) where
  pub less_s : (st : LineState) → k29 h past (S q addr st) ≡ true → (r l : ℕ) → Less (state_of h past r l) (state_of h (S q addr st ∷ past) r l)
  less_s st k r l =
      less_where (nat_eq r q && nat_eq l addr) (state_of h past r l) st (λ t.
      let parts = and_parts (nat_eq r q) (nat_eq l addr) t in
      let moves = (and_parts (is_silent_move (state_of h past q addr) st) _ k).0 in
      rw (eqb-true r q parts.0, eqb-true l addr parts.1) (silent_lessens (state_of h past q addr) st moves))

  pub keeps_s : (st : LineState) → OneHolder h past → k29 h past (S q addr st) ≡ true → OneHolder h (S q addr st ∷ past)
  keeps_s st f k =
      let less : (l : ℕ) → LessenedAt h past (S q addr st) l = λ l r. less-lessens _ _ (less_s st k r l) in
      assumption (
        f,
        standing h past (S q addr st) f refl (λ l x g. less l),
        arrive_kept h past (S q addr st) f refl (λ l x g. less l) (λ p i. refl) (λ p i. refl),
        held_kept h past (S q addr st) less f,
        one_dirty_kept h past (S q addr st) (λ r l. less-clean _ _ (less_s st k r l)) f.one_dirty,
      )

  -- A D that names a state is of a port that may store: it holds the line in UC or UD.
  pub record Stores (r l : ℕ) : Type 0 where
    pub port : r ≡ q
    pub may : may_store h past r l ≡ true
    pub unique : is_unique (state_of h past r l) ≡ true

  module _ (strobe : ℕ) (x : Bool) (line : Line) (k : k32 h past (D q addr strobe x line) ≡ true) where
    pub stores : (r l : ℕ) → is_named_by_d h past q addr r l ≡ true → Stores r l
    stores r l t = record { port = port; may = may; unique = (and_parts (is_unique (state_of h past r l)) _ may).0 }
      where
        parts : ((nat_eq r q && nat_eq l addr) ≡ true) × (not (is_in_make_unique h past r l) ≡ true)
        parts = and_parts (nat_eq r q && nat_eq l addr) _ t

        port : r ≡ q
        port = eqb-true r q (and_parts (nat_eq r q) (nat_eq l addr) parts.0).0

        here : (may_store h past r l || ((wants_store h past r l && not x) && nat_eq strobe full_line)) ≡ true
        here = rw (port, eqb-true l addr (and_parts (nat_eq r q) (nat_eq l addr) parts.0).1) k

        may : may_store h past r l ≡ true
        may = elim (or_cases (may_store h past r l) _ here) [
          | inl fine ↦ fine
          | inr made ↦
              let wants = (and_parts (wants_store h past r l) (not x) (and_parts (wants_store h past r l && not x) _ made).0).0 in
              let within : is_in_make_unique h past r l ≡ true =
              some_issued-weaker past (λ y. awaits_store h past r l y && not (has_store h past y.port y.id)) (awaits_store h past r l)
              (λ y e. (and_parts (awaits_store h past r l y) _ e).0) wants in
              let bad : false ≡ true = rw within at parts.1 in cc
        ]

    pub lessened_d : (l : ℕ) → LessenedAt h past (D q addr strobe x line) l
    lessened_d l r =
        lessens_where (is_named_by_d h past q addr r l) (state_of h past r l) UD (λ t.
        lessens-is (state_of h past r l) UD (unique_to_dirty (state_of h past r l) (stores r l t).unique))

    -- another port than that of the store holds nothing of its line
    alone_d : UniqueNow h past → (l a b : ℕ) → is_named_by_d h past q addr a l ≡ true
        → is_dirty (state_of h (D q addr strobe x line ∷ past) b l) ≡ true → a ≡ b
    alone_d f l a b t d =
        elim (cases_eq a b) [
          | inl same ↦ same
          | inr apart ↦
              elim (cases_Bool (is_named_by_d h past q addr b l)) [
                | inl u ↦ (stores a l t).port ∙ sym (stores b l u).port
                | inr other ↦
                    let was : is_dirty (state_of h past b l) ≡ true = rw other at d in
                    let bad = rw (f l a b (stores a l t).unique apart) at was in cc
              ]
        ]

    one_dirty_d : OneHolder h past → OneDirtyNow h (D q addr strobe x line ∷ past)
    one_dirty_d f l a b da db =
        elim (cases_Bool (is_named_by_d h past q addr a l)) [
          | inl t ↦ alone_d f.unique l a b t db
          | inr other ↦ elim (cases_Bool (is_named_by_d h past q addr b l)) [
            | inl t ↦ sym (alone_d f.unique l b a t da)
            | inr neither ↦ f.one_dirty l a b (rw other at da) (rw neither at db)
          ]
        ]

    pub keeps_d : OneHolder h past → OneHolder h (D q addr strobe x line ∷ past)
    keeps_d f = assumption (
      f,
      standing h past (D q addr strobe x line) f refl (λ l x g. lessened_d l),
      arrive_kept h past (D q addr strobe x line) f refl (λ l x g. lessened_d l) (λ p i. refl) (λ p i. refl),
      held_kept h past (D q addr strobe x line) lessened_d f,
      one_dirty_d f,
    )
