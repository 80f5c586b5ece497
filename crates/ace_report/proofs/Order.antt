-- The known lines in order, and a map that has just these.
use Rattle.std.proofs.Common.{◌≡◌, ◌<◌, ℕ, Bool, true, false, ◌||◌, not, nat_eq, nat_lt, if◌then◌else◌, List, [], ◌∷◌, length, map, Option, Some, None, refl, sym, ap, subst, ◌∙◌, arith, inl, inr}
use Rattle.std.proofs.lemmas.Bool.{cases_Bool, cases_eq, eqb-true, ltb-true, and_parts, not-true}
use Rattle.std.specs.List.{AllByRecursion, list_any}
use Rattle.std.specs.List.Sorted.{IsStrictlySortedBy}
use Rattle.std.specs.Map.{lookup, keys_of}
use Rattle.std.specs.Cmp.{nat_cmp_is}
use Rattle.std.specs.Ordering.{nat_cmp, is_eq}
use Rattle.std.specs.declared.cmp.Ordering.TheVariants.{Less, Equal, Greater}
use Rattle.std.specs.BTreeMap.{BTreeMap, is_at, IsOrdered, get}
use Rattle.ace_model.specs.declared.transactions.Transaction.{Transaction}
use Rattle.ace_model.specs.Trace.{Trace, is_some_and}
use Rattle.ace_model.specs.Transactions.{issued, is_line, is_on}
use Rattle.ace_model.specs.Lines.{is_known, known_lines, names_new_line, add_line}
use Rattle.ace_model.proofs.General.Options.{Some-injective}
use Rattle.ace_report.specs.Report.{put_in_order, in_order}

-- the order of numbers
less : (a b : ℕ) → a < b → nat_cmp a b ≡ Less
less a b lt = sym (nat_cmp_is a b Less lt)

is_less : (a b : ℕ) → nat_cmp a b ≡ Less → a < b
is_less a b is = elim (cases_Bool (nat_lt a b)) [
  | inl t ↦ ltb-true a b t
  | inr f ↦ grind (arith, f, is, nat_cmp_is a b Equal, nat_cmp_is a b Greater)
]

at_number : (a b : ℕ) → is_eq (nat_cmp a b) ≡ nat_eq a b
at_number a b =
    elim (cases_eq a b) [
      | inl e ↦ let c : Equal ≡ nat_cmp a b = nat_cmp_is a b Equal e in grind (arith, c, e)
      | inr apart ↦ elim (cases_Bool (nat_lt a b)) [
        | inl t ↦ let c : Less ≡ nat_cmp a b = nat_cmp_is a b Less (ltb-true a b t) in grind (arith, c, apart)
        | inr f ↦ let c : Greater ≡ nat_cmp a b = nat_cmp_is a b Greater (grind (arith, f, apart)) in grind (arith, c, apart)
      ]
    ]

-- the line is one of the list
abbrev pub is_one : ℕ → List ℕ → Bool
is_one l ls = list_any (nat_eq l) ls

put-has : (q l : ℕ) (ms : List ℕ) → is_one q (put_in_order l ms) ≡ (nat_eq q l || is_one q ms)
put-has q l [] = refl
put-has q l (m ∷ ms) =
    elim (cases_Bool (nat_lt l m)) [
      | inl t ↦ rw t refl
      | inr f ↦ rw (f, put-has q l ms) (swap (nat_eq q m) (nat_eq q l) (is_one q ms))
    ]
  where
    swap : (a b c : Bool) → (a || (b || c)) ≡ (b || (a || c))
    swap true true c = refl
    swap true false c = refl
    swap false b c = refl

pub order-has : (q : ℕ) (ls : List ℕ) → is_one q (in_order ls) ≡ is_one q ls
order-has q [] = refl
order-has q (l ∷ ls) = put-has q l (in_order ls) ∙ ap (λ b. nat_eq q l || b) (order-has q ls)

put-all : (P : ℕ → Type 0) (l : ℕ) (ms : List ℕ) → P l → AllByRecursion P ms → AllByRecursion P (put_in_order l ms)
put-all P l [] p all = (p, tt)
put-all P l (m ∷ ms) p all =
    elim (cases_Bool (nat_lt l m)) [
      | inl t ↦ rw t (p, all)
      | inr f ↦ rw f (all.0, put-all P l ms p all.1)
    ]

below-all : (l m : ℕ) (ms : List ℕ) → l < m → AllByRecursion (λ y. nat_cmp m y ≡ Less) ms → AllByRecursion (λ y. nat_cmp l y ≡ Less) ms
below-all l m [] lt all = tt
below-all l m (y ∷ ys) lt all =
    let next : m < y = is_less m y all.0 in
    (less l y (omega (arith, lt, next)), below-all l m ys lt all.1)

put-sorted : (l : ℕ) (ms : List ℕ) → IsStrictlySortedBy nat_cmp ms → is_one l ms ≡ false → IsStrictlySortedBy nat_cmp (put_in_order l ms)
unfolding IsStrictlySortedBy
put-sorted l [] s new = (tt, tt)
put-sorted l (m ∷ ms) s new =
    elim (cases_Bool (nat_lt l m)) [
      | inl t ↦ let lt = ltb-true l m t in rw t ((less l m lt, below-all l m ms lt s.0), s)
      | inr f ↦ elim (cases_Bool (nat_eq l m)) [
        | inl e ↦ absurd (let bad : true ≡ false = rw e at new in cc)
        | inr apart ↦
            let rest : is_one l ms ≡ false = rw apart at new in
            let lt : m < l = grind (arith, f, apart) in
            rw f (put-all (λ y. nat_cmp m y ≡ Less) l ms (less m l lt) s.0, put-sorted l ms s.1 rest)
      ]
    ]

-- the known lines are those of the list
pub known-listed : (past : Trace) (q : ℕ) → is_one q (known_lines past) ≡ is_known past q
known-listed [] q = refl
known-listed (e ∷ past) q = by (known-listed past q) (issued (length past) e)
  where
    by : is_one q (known_lines past) ≡ is_known past q → (o : Option Transaction)
        → is_one q (add_line past o (known_lines past)) ≡ (is_some_and o (λ x. is_on x q) || is_known past q)
    by before None = before
    by before (Some x) =
        elim (cases_Bool (is_line x)) [
          | inr f ↦ rw f before
          | inl t ↦ elim (cases_Bool (is_known past x.addr)) [
            | inr new ↦ rw (t, new) (ap (λ b. nat_eq q x.addr || b) before ∙ ap (λ b. b || is_known past q) (turn q x.addr))
            | inl old ↦ rw (t, old) (before ∙ there q x.addr old)
          ]
        ]
      where
        turn : (a b : ℕ) → nat_eq a b ≡ nat_eq b a
        turn a b = grind arith

        there : (q l : ℕ) → is_known past l ≡ true → is_known past q ≡ (nat_eq l q || is_known past q)
        there q l old =
            elim (cases_Bool (nat_eq l q)) [
              | inr f ↦ rw f refl
              | inl t ↦ rw t (ap (is_known past) (sym (eqb-true l q t)) ∙ old)
            ]

sorted_nil : IsStrictlySortedBy nat_cmp []
unfolding IsStrictlySortedBy
sorted_nil = tt

-- in order they rise
pub lines-sorted : (past : Trace) → IsStrictlySortedBy nat_cmp (in_order (known_lines past))
lines-sorted [] = sorted_nil
lines-sorted (e ∷ past) = by (lines-sorted past) (issued (length past) e)
  where
    by : IsStrictlySortedBy nat_cmp (in_order (known_lines past)) → (o : Option Transaction) → IsStrictlySortedBy nat_cmp (in_order (add_line past o (known_lines past)))
    by before None = before
    by before (Some x) =
        elim (cases_Bool (names_new_line past x)) [
          | inr f ↦ rw f before
          | inl t ↦
              let new : is_known past x.addr ≡ false = not-true (is_known past x.addr) (and_parts (is_line x) (not (is_known past x.addr)) t).1 in
              rw t (put-sorted x.addr (in_order (known_lines past)) before (order-has x.addr (known_lines past) ∙ known-listed past x.addr ∙ new))
        ]

module _ {A : Type 0} (f : ℕ → A) where
  abbrev entry_of : ℕ → ℕ × A
  entry_of l = (l, f l)

  keys-listed : (ls : List ℕ) → keys_of (map entry_of ls) ≡ ls
  keys-listed [] = refl
  keys-listed (l ∷ ls) = ap (λ ks. l ∷ ks) (keys-listed ls)

  lookup-listed : (q : ℕ) (ls : List ℕ) → lookup (is_at (nat_cmp q)) (map entry_of ls) ≡ (if is_one q ls then Some (f q) else None)
  lookup-listed q [] = refl
  lookup-listed q (l ∷ ls) =
      elim (cases_Bool (nat_eq q l)) [
        | inr g ↦ rw (at_number q l, g) (lookup-listed q ls)
        | inl t ↦ rw (at_number q l, t) (ap (λ n. Some (f n)) (sym (eqb-true q l t)))
      ]

  look-head : (q k : ℕ) (v : A) (es : List (ℕ × A)) → nat_eq q k ≡ true → lookup (is_at (nat_cmp q)) ((k, v) ∷ es) ≡ Some v
  look-head q k v es t = rw (at_number q k, t) refl

  look-tail : (q k : ℕ) (v : A) (es : List (ℕ × A)) → nat_eq q k ≡ false → lookup (is_at (nat_cmp q)) ((k, v) ∷ es) ≡ lookup (is_at (nat_cmp q)) es
  look-tail q k v es t = rw (at_number q k, t) refl

  -- a number below all keys
  look-below : (q : ℕ) (es : List (ℕ × A)) → AllByRecursion (λ y. nat_cmp q y ≡ Less) (keys_of es) → lookup (is_at (nat_cmp q)) es ≡ None
  look-below q [] all = refl
  look-below q ((k, v) ∷ es) all =
      let lt = is_less q k all.0 in
      look-tail q k v es (grind (arith, lt)) ∙ look-below q es all.1

  -- entries in order with the same look-ups are the same
  same_entries : (xs ys : List (ℕ × A)) → IsStrictlySortedBy nat_cmp (keys_of xs) → IsStrictlySortedBy nat_cmp (keys_of ys)
      → ((q : ℕ) → lookup (is_at (nat_cmp q)) xs ≡ lookup (is_at (nat_cmp q)) ys) → xs ≡ ys
  unfolding IsStrictlySortedBy
  same_entries [] [] s t same = refl
  same_entries [] ((j, w) ∷ ys) s t same = let bad : None ≡ Some w = same j ∙ look-head j j w ys (grind arith) in absurd (cc)
  same_entries ((k, v) ∷ xs) [] s t same = let bad : None ≡ Some v = sym (same k) ∙ look-head k k v xs (grind arith) in absurd (cc)
  same_entries ((k, v) ∷ xs) ((j, w) ∷ ys) s t same =
      elim (cases_eq k j) [
        | inl e ↦
            let first : nat_eq k j ≡ true = grind (arith, e) in
            let value : v ≡ w = Some-injective v w (sym (look-head k k v xs (grind arith)) ∙ same k ∙ look-head k j w ys first) in
            let rest : xs ≡ ys = same_entries xs ys s.1 t.1 (λ q. later e q) in
            ap (λ n. (n, v) ∷ xs) e ∙ ap (λ u. (j, u) ∷ xs) value ∙ ap (λ es. (j, w) ∷ es) rest
        | inr apart ↦ absurd (elim (cases_Bool (nat_lt k j)) [
          | inl lt ↦
              let below = ltb-true k j lt in
              let bad : Some v ≡ None = sym (look-head k k v xs (grind arith)) ∙ same k ∙ look-below k ((j, w) ∷ ys) (less k j below, below-all k j (keys_of ys) below t.0) in cc
          | inr f ↦
              let below : j < k = grind (arith, f, apart) in
              let bad : None ≡ Some w = sym (look-below j ((k, v) ∷ xs) (less j k below, below-all j k (keys_of xs) below s.0)) ∙ same j ∙ look-head j j w ys (grind arith) in cc
        ])
      ]
    where
      later : k ≡ j → (q : ℕ) → lookup (is_at (nat_cmp q)) xs ≡ lookup (is_at (nat_cmp q)) ys
      later e q =
          elim (cases_eq q k) [
            | inl here ↦
                let none : lookup (is_at (nat_cmp k)) xs ≡ None = look-below k xs s.0 in
                let none_either : lookup (is_at (nat_cmp j)) ys ≡ None = look-below j ys t.0 in
                ap (λ n. lookup (is_at (nat_cmp n)) xs) here ∙ none ∙ sym none_either ∙ ap (λ n. lookup (is_at (nat_cmp n)) ys) (sym (here ∙ e))
            | inr apart ↦
                let one : nat_eq q k ≡ false = grind (arith, apart) in
                let two : nat_eq q j ≡ false = grind (arith, apart, e) in
                sym (look-tail q k v xs one) ∙ same q ∙ look-tail q j w ys two
          ]

  -- the entries of a map that has a value for each known line, and no other
  pub entries-in_order : (past : Trace) (m : BTreeMap ℕ A) → IsOrdered nat_cmp m → ((l : ℕ) → get nat_cmp m l ≡ (if is_known past l then Some (f l) else None))
      → m.entries ≡ map (λ l. (l, f l)) (in_order (known_lines past))
  entries-in_order past m ordered has =
      let ls = in_order (known_lines past) in
      let sorted : IsStrictlySortedBy nat_cmp (keys_of (map entry_of ls)) = subst (IsStrictlySortedBy nat_cmp) (sym (keys-listed ls)) (lines-sorted past) in
      same_entries m.entries (map entry_of ls) ordered sorted
      (λ q. has q ∙ ap (λ b. if b then Some (f q) else None) (sym (known-listed past q) ∙ sym (order-has q (known_lines past))) ∙ sym (lookup-listed q ls))
