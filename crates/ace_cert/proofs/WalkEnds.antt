-- What the looks at the end of a trace say.
use Rattle.std.proofs.Common.{◌≡◌, inl, inr, ℕ, zero, suc, ◌+◌, ◌-◌, ◌<◌, ◌≤◌, Bool, true, false, not, ◌&&◌, ◌||◌, nat_eq, nat_lt, if◌then◌else◌, List, [], ◌∷◌, ◌++◌, length, map, take, reverse, slice_get, slice_index, Option, Some, None, is_some, is_none, option_map, refl, sym, ap, subst, ◌∙◌, arith}
use Rattle.std.specs.Prelude.{find}
use Rattle.std.specs.List.{All, list_any}
use Rattle.std.proofs.lemmas.List.{take_more}
use Rattle.std.proofs.lemmas.Bool.{cases_Bool, cases_eq, cases_lt, eq-eqb, eqb-true}
use Rattle.std.proofs.lemmas.Option.{get_or_from_slice_get, slice_get-map, slice_get_within}
use Rattle.std.specs.Ordering.{nat_cmp}
use Rattle.std.specs.BTreeMap.{BTreeMap, get}
use Rattle.ace_event.specs.declared.event.Event.{Event}
use Rattle.ace_model.proofs.Terms.{Trace, is_known, is_some_and, newer}
use Rattle.ace_model.proofs.Trace.Growth.{at_point-end}
use Rattle.ace_model.proofs.General.Options.{Some-injective}
use Rattle.ace_model.proofs.General.Lists.{slice_get-all, slice_get-take, slice_get-within_take}
use Rattle.ace_cert.specs.declared.cert.LineOrder.{LineOrder}
use Rattle.ace_cert.specs.declared.cert.ReadPlace.{ReadPlace}
use Rattle.ace_cert.specs.declared.verification.lines.Facts.{Facts}
use Rattle.ace_cert.specs.declared.verification.lines.Lines.{Lines}
use Rattle.ace_cert.specs.declared.verification.places.Placed.{Placed}
use Rattle.ace_cert.specs.Certificates.{store_numbers}
use Rattle.ace_cert.specs.Checks.{AreInOrder, IsOrderOf, Reader, has_line, is_read_number, reader_at, same_reader}
use Rattle.ace_cert.specs.Walk.{AreLast, AreLinesKept, AreListed, ArePlacesKept, facts_behind, facts_of, head_of, nth_of, place_under, reader_key}
use Rattle.ace_cert.proofs.Elements.{all-from_places}
use Rattle.ace_cert.proofs.WalkKeys.{nth-same}
use Rattle.ace_cert.proofs.WalkLines.{few-stores}
use Rattle.ace_cert.proofs.WalkReads.{place-is, place-none}

pub mapped-at : {A : Type 0} → (f : A → ℕ) (xs : List A) (k : ℕ) (x : A) → slice_get xs k ≡ Some x → slice_index (map f xs) k ≡ f x
mapped-at f xs k x there = get_or_from_slice_get (map f xs) k (f x) 0 (slice_get-map f xs k ∙ ap (option_map f) there)

pub same-lists : (xs ys : List ℕ) → length xs ≡ length ys → ((k : ℕ) → k < length ys → slice_get xs k ≡ slice_get ys k) → xs ≡ ys
same-lists [] [] count same = refl
same-lists [] (y ∷ ys) count same = absurd (omega arith)
same-lists (x ∷ xs) [] count same = absurd (omega arith)
same-lists (x ∷ xs) (y ∷ ys) count same =
    let head : x ≡ y = Some-injective x y (same 0 (omega arith)) in
    let rest = same-lists xs ys (omega arith) (λ k low. same (suc k) (omega (arith, low))) in
    cc

-- A line

module _ (past : Trace) (lines : Lines) (o : LineOrder) (kept : AreLinesKept past lines.heads lines.marks.items lines.numbers) (point : ℕ) (is : length past ≡ point) where
  pub facts-now : facts_behind (reverse lines.marks.items) (head_of lines.heads o.addr) point ≡ facts_of past o.addr
  facts-now = kept.facts o.addr point ∙ ap (λ t. facts_of t o.addr) (at_point-end past point (sym is))

  -- the line is named, and has so many stores
  pub order-from : (f : Facts) → f ≡ facts_behind (reverse lines.marks.items) (head_of lines.heads o.addr) point → f.named ≡ true → f.stores ≡ length o.stores
      → point ≤ 1048576
      → ((j : ℕ) → j < length o.stores → get nat_cmp lines.numbers (nth_of o.addr j) ≡ slice_get o.stores j) → IsOrderOf past o
  order-from f same named count small each =
      let few = few-stores past o.addr in
      let now = same ∙ facts-now in
      let known : is_known past o.addr ≡ true = sym (ap (λ (g : Facts). g.named) now) ∙ named in
      let stores : length (store_numbers past o.addr) ≡ length o.stores = sym (ap (λ (g : Facts). g.stores) now) ∙ count in
      let lists = same-lists (store_numbers past o.addr) o.stores stores (λ k low. sym (kept.stored o.addr k (omega (arith, low, few, small, is, stores))) ∙ each k low) in
      (known, sym lists)

-- A read

find-none : {A : Type 0} → (test : A → Bool) (xs : List A) (k : ℕ) (x : A) → slice_get xs k ≡ Some x → find test xs ≡ None → test x ≡ false
find-none test [] k x there none = cc
find-none test (y ∷ ys) zero x there none =
    elim (cases_Bool (test y)) [
      | inl t ↦ let found : find test (y ∷ ys) ≡ Some y = rw t refl in let bad : Some y ≡ None = sym found ∙ none in absurd cc
      | inr f ↦ let same : y ≡ x = Some-injective y x there in subst (λ z. test z ≡ false) same f
    ]
find-none test (y ∷ ys) (suc k) x there none =
    elim (cases_Bool (test y)) [
      | inl t ↦ let found : find test (y ∷ ys) ≡ Some y = rw t refl in let bad : Some y ≡ None = sym found ∙ none in absurd cc
      | inr f ↦ let skip : find test (y ∷ ys) ≡ find test ys = rw f refl in find-none test ys k x there (sym skip ∙ none)
    ]

-- a read of the list has a place
pub has-place : (reads : List ReadPlace) (k : ℕ) (r : ReadPlace) → slice_get reads k ≡ Some r → place_under reads r.event ≡ None → ⊥
has-place reads k r there none =
    let missing : find (λ (v : ReadPlace). nat_eq v.event r.event) reads ≡ None = no_place (find (λ (v : ReadPlace). nat_eq v.event r.event) reads) none in
    let f = find-none (λ (v : ReadPlace). nat_eq v.event r.event) reads k r there missing in
    let t = eq-eqb r.event r.event (refl {a = r.event}) in
    cc
  where
    no_place : (o : Option ReadPlace) → option_map (λ (v : ReadPlace). v.place) o ≡ None → o ≡ None
    no_place None is = refl
    no_place (Some v) is = cc

-- Order

reader-same : (a b : Reader) → a.addr < 4294967296 → b.addr < 4294967296 → nat_eq (reader_key a) (reader_key b) ≡ same_reader a b
reader-same a b low_a low_b = nth-same a.port a.addr b.port b.addr low_a low_b

module _ (trace : List Event) (reads : List ReadPlace) where
  keys-same : (a b : ReadPlace) → (reader_at trace a).addr < 4294967296 → (reader_at trace b).addr < 4294967296
      → reader_key (reader_at trace a) ≡ reader_key (reader_at trace b) → same_reader (reader_at trace a) (reader_at trace b) ≡ true
  keys-same a b low_a low_b is =
      sym (reader-same (reader_at trace a) (reader_at trace b) low_a low_b) ∙ eq-eqb (reader_key (reader_at trace a)) (reader_key (reader_at trace b)) is

  same-keys : (a b : ReadPlace) → (reader_at trace a).addr < 4294967296 → (reader_at trace b).addr < 4294967296
      → same_reader (reader_at trace a) (reader_at trace b) ≡ true → reader_key (reader_at trace a) ≡ reader_key (reader_at trace b)
  same-keys a b low_a low_b is =
      eqb-true (reader_key (reader_at trace a)) (reader_key (reader_at trace b)) (reader-same (reader_at trace a) (reader_at trace b) low_a low_b ∙ is)

  -- one more read, not before the last of its reader
  pub order-more : (i : ℕ) (r : ReadPlace) (last : BTreeMap ℕ ℕ) → slice_get reads i ≡ Some r → (reader_at trace r).addr < 4294967296 → AreInOrder trace (take i reads) → AreLast trace (take i reads) last
      → ((place : ℕ) → get nat_cmp last (reader_key (reader_at trace r)) ≡ Some place → place ≤ r.place) → AreInOrder trace (take (i + 1) reads)
  order-more i r last there low_r order l least = λ j k a b less at_j at_k same.
      let low_k = slice_get-within_take reads (i + 1) k b at_k in
      let low_j = slice_get-within_take reads (i + 1) j a at_j in
      let in_k : slice_get reads k ≡ Some b = sym (slice_get-take reads (i + 1) k low_k) ∙ at_k in
      let in_j : slice_get reads j ≡ Some a = sym (slice_get-take reads (i + 1) j low_j) ∙ at_j in
      let old_j : slice_get (take i reads) j ≡ Some a = slice_get-take reads i j (omega (arith, low_k, less)) ∙ in_j in
      elim (cases_eq k i) [
        | inr apart ↦ order j k a b less old_j (slice_get-take reads i k (omega (arith, low_k, apart)) ∙ in_k) same
        | inl now ↦
            let one : r ≡ b = Some-injective r b (sym there ∙ ap (slice_get reads) (sym now) ∙ in_k) in
            let q = l.least j a old_j in
            let key : reader_key (reader_at trace a) ≡ reader_key (reader_at trace r) = same-keys a b (l.fits j a old_j) (subst (λ (v : ReadPlace). (reader_at trace v).addr < 4294967296) one low_r) same ∙ ap (λ v. reader_key (reader_at trace v)) (sym one) in
            let high = least q.0 (ap (get nat_cmp last) (sym key) ∙ q.1.0) in
            let place : r.place ≡ b.place = ap (λ (v : ReadPlace). v.place) one in
            let low = q.1.1 in
            omega (arith, high, place, low)
      ]

  -- the last of each reader, with one more
  pub last-more : (i : ℕ) (r : ReadPlace) (old new : BTreeMap ℕ ℕ) → slice_get reads i ≡ Some r → (reader_at trace r).addr < 4294967296 → AreLast trace (take i reads) old
      → ((place : ℕ) → get nat_cmp old (reader_key (reader_at trace r)) ≡ Some place → place ≤ r.place)
      → ((k : ℕ) → get nat_cmp new k ≡ (if nat_eq (reader_key (reader_at trace r)) k then Some r.place else get nat_cmp old k)) → AreLast trace (take (i + 1) reads) new
  last-more i r old new there low_r l least after = record {
    fits = λ k v at_k.
        let low_k = slice_get-within_take reads (i + 1) k v at_k in
        let in_k : slice_get reads k ≡ Some v = sym (slice_get-take reads (i + 1) k low_k) ∙ at_k in
        elim (cases_eq k i) [
          | inl same ↦
              let one : r ≡ v = Some-injective r v (sym there ∙ ap (slice_get reads) (sym same) ∙ in_k) in
              subst (λ (w : ReadPlace). (reader_at trace w).addr < 4294967296) one low_r
          | inr apart ↦ l.fits k v (slice_get-take reads i k (omega (arith, low_k, apart)) ∙ in_k)
        ];
    found = λ key place is.
        elim (cases_Bool (nat_eq (reader_key (reader_at trace r)) key)) [
          | inl t ↦
              let now : get nat_cmp new key ≡ Some r.place = after key ∙ rw t refl in
              (i, (r, (slice_get-take reads (i + 1) i (omega arith) ∙ there, eqb-true (reader_key (reader_at trace r)) key t, Some-injective r.place place (sym now ∙ is))))
          | inr f ↦
              let now : get nat_cmp new key ≡ get nat_cmp old key = after key ∙ rw f refl in
              let s = l.found key place (sym now ∙ is) in
              let low = slice_get-within_take reads i s.0 s.1.0 s.1.1.0 in
              (s.0, (s.1.0, (slice_get-take reads (i + 1) s.0 (omega (arith, low)) ∙ sym (slice_get-take reads i s.0 low) ∙ s.1.1.0, s.1.1.1, s.1.1.2)))
        ];
    least = λ k v at_k.
        let low_k = slice_get-within_take reads (i + 1) k v at_k in
        let in_k : slice_get reads k ≡ Some v = sym (slice_get-take reads (i + 1) k low_k) ∙ at_k in
        elim (cases_eq k i) [
          | inl same ↦
              let one : r ≡ v = Some-injective r v (sym there ∙ ap (slice_get reads) (sym same) ∙ in_k) in
              let key : nat_eq (reader_key (reader_at trace r)) (reader_key (reader_at trace v)) ≡ true =
              eq-eqb (reader_key (reader_at trace r)) (reader_key (reader_at trace v)) (ap (λ w. reader_key (reader_at trace w)) one) in
              let place : r.place ≡ v.place = ap (λ (w : ReadPlace). w.place) one in
              (r.place, (after (reader_key (reader_at trace v)) ∙ rw key refl, omega (arith, place)))
          | inr apart ↦
              let q = l.least k v (slice_get-take reads i k (omega (arith, low_k, apart)) ∙ in_k) in
              let low = q.1.1 in
              elim (cases_Bool (nat_eq (reader_key (reader_at trace r)) (reader_key (reader_at trace v)))) [
                | inl t ↦
                    let key = eqb-true (reader_key (reader_at trace r)) (reader_key (reader_at trace v)) t in
                    let high = least q.0 (ap (get nat_cmp old) key ∙ q.1.0) in
                    (r.place, (after (reader_key (reader_at trace v)) ∙ rw t refl, omega (arith, low, high)))
                | inr f ↦ (q.0, (after (reader_key (reader_at trace v)) ∙ rw f q.1.0, low))
              ]
        ];
  }

  -- a read before the last of its reader
  pub order-broken : (i : ℕ) (r : ReadPlace) (last : BTreeMap ℕ ℕ) (place : ℕ) → slice_get reads i ≡ Some r → (reader_at trace r).addr < 4294967296 → AreLast trace (take i reads) last
      → get nat_cmp last (reader_key (reader_at trace r)) ≡ Some place → r.place < place → AreInOrder trace reads → ⊥
  order-broken i r last place there low_r l is before order =
      let s = l.found (reader_key (reader_at trace r)) place is in
      let low = slice_get-within_take reads i s.0 s.1.0 s.1.1.0 in
      let in_s : slice_get reads s.0 ≡ Some s.1.0 = sym (slice_get-take reads i s.0 low) ∙ s.1.1.0 in
      let le = order s.0 i s.1.0 r low in_s there (keys-same s.1.0 r (l.fits s.0 s.1.0 s.1.1.0) low_r s.1.1.1) in
      let at = s.1.1.2 in
      omega (arith, le, at, before)

-- A list that increases

pub rise-more : {A : Type 0} → (f : A → ℕ) (xs : List A) (i : ℕ) (a b : A) → slice_get xs i ≡ Some a → slice_get xs (i - 1) ≡ Some b → f b < f a → 1 ≤ i
    → ((k : ℕ) → k + 1 < i → slice_index (map f xs) k < slice_index (map f xs) (k + 1))
    → (k : ℕ) → k + 1 < i + 1 → slice_index (map f xs) k < slice_index (map f xs) (k + 1)
rise-more f xs i a b at_a at_b less high before k low =
    elim (cases_lt (k + 1) i) [
      | inl under ↦ before k under
      | inr over ↦
          let here : k ≡ i - 1 = omega (arith, over, low) in
          let next : k + 1 ≡ i = omega (arith, over, low) in
          let first : slice_index (map f xs) k ≡ f b = ap (slice_index (map f xs)) here ∙ mapped-at f xs (i - 1) b at_b in
          let second : slice_index (map f xs) (k + 1) ≡ f a = ap (slice_index (map f xs)) next ∙ mapped-at f xs i a at_a in
          omega (arith, first, second, less)
    ]

-- Lists that are gone through

next-taken : {A : Type 0} → (xs : List A) (i : ℕ) (x : A) → slice_get xs i ≡ Some x → take (i + 1) xs ≡ take i xs ++ x ∷ []
next-taken xs i x there =
    let low = slice_get_within xs i x there in
    let more = take_more xs i x low in
    more ∙ ap (λ y. take i xs ++ y ∷ []) (get_or_from_slice_get xs i x x there)

any-more : {A : Type 0} → (test : A → Bool) (xs : List A) (x : A) → list_any test (xs ++ x ∷ []) ≡ (list_any test xs || test x)
any-more test [] x = elim (cases_Bool (test x)) [ inl t ↦ rw t refl | inr f ↦ rw f refl ]
any-more test (y ∷ ys) x = elim (cases_Bool (test y)) [ inl t ↦ rw t refl | inr f ↦ rw f (any-more test ys x) ]

-- the lines with one more
pub listed-more : (lines : List LineOrder) (i n : ℕ) (o : LineOrder) (old new : BTreeMap ℕ ℕ) → slice_get lines i ≡ Some o → AreListed (take i lines) old
    → ((k : ℕ) → get nat_cmp new k ≡ (if nat_eq o.addr k then Some n else get nat_cmp old k)) → AreListed (take (i + 1) lines) new
listed-more lines i n o old new there listed after = λ l.
    let whole : has_line (take (i + 1) lines) l ≡ (has_line (take i lines) l || nat_eq o.addr l) =
    ap (λ xs. has_line xs l) (next-taken lines i o there) ∙ any-more (λ (v : LineOrder). nat_eq v.addr l) (take i lines) o in
    ap is_some (after l) ∙ elim (cases_Bool (nat_eq o.addr l)) [
      | inl t ↦ rw (whole, t) (sym (or_true (has_line (take i lines) l)))
      | inr f ↦ rw (whole, f) (listed l ∙ sym (or_none (has_line (take i lines) l)))
    ]
  where
    or_true : (b : Bool) → (b || true) ≡ true
    or_true true = refl
    or_true false = refl

    or_none : (b : Bool) → (b || false) ≡ b
    or_none true = refl
    or_none false = refl

find-more : {A : Type 0} → (test : A → Bool) (xs : List A) (x : A) → find test (xs ++ x ∷ []) ≡ newer (find test xs) (if test x then Some x else None)
find-more test [] x = elim (cases_Bool (test x)) [ inl t ↦ rw t refl | inr f ↦ rw f refl ]
find-more test (y ∷ ys) x = elim (cases_Bool (test y)) [ inl t ↦ rw t refl | inr f ↦ rw f (find-more test ys x) ]

abbrev pub unseen : ℕ → Placed
unseen q = record { place = q; seen = false }

either-place : (o : Option ReadPlace) (b : Bool) (r : ReadPlace)
    → (if b && is_none (option_map unseen (option_map (λ (v : ReadPlace). v.place) o)) then Some (unseen r.place) else option_map unseen (option_map (λ (v : ReadPlace). v.place) o))
    ≡ option_map unseen (option_map (λ (v : ReadPlace). v.place) (newer o (if b then Some r else None)))
either-place None true r = refl
either-place None false r = refl
either-place (Some v) true r = refl
either-place (Some v) false r = refl

-- the places with one more read
pub place-more : (reads : List ReadPlace) (i : ℕ) (r : ReadPlace) (old new : BTreeMap ℕ Placed) → slice_get reads i ≡ Some r
    → ((number : ℕ) → get nat_cmp old number ≡ option_map (λ q. record { place = q; seen = false }) (place_under (take i reads) number))
    → ((k : ℕ) → get nat_cmp new k ≡ (if nat_eq r.event k && is_none (get nat_cmp old k) then Some (record { place = r.place; seen = false }) else get nat_cmp old k))
    → (number : ℕ) → get nat_cmp new number ≡ option_map (λ q. record { place = q; seen = false }) (place_under (take (i + 1) reads) number)
place-more reads i r old new there placed after number =
    let test : ReadPlace → Bool = λ v. nat_eq v.event number in
    let whole : find (λ (v : ReadPlace). nat_eq v.event number) (take (i + 1) reads)
    ≡ newer (find (λ (v : ReadPlace). nat_eq v.event number) (take i reads)) (if nat_eq r.event number then Some r else None) =
    ap (find (λ (v : ReadPlace). nat_eq v.event number)) (next-taken reads i r there) ∙ find-more (λ (v : ReadPlace). nat_eq v.event number) (take i reads) r in
    after number
    ∙ ap (λ o. if nat_eq r.event number && is_none o then Some (unseen r.place) else o) (placed number)
    ∙ either-place (find (λ (v : ReadPlace). nat_eq v.event number) (take i reads)) (nat_eq r.event number) r
    ∙ ap (λ o. option_map unseen (option_map (λ (v : ReadPlace). v.place) o)) (sym whole)

-- Reads that the trace has had

unseen-is : (reads : List ReadPlace) (past : Trace) (places : BTreeMap ℕ Placed) (kept : ArePlacesKept reads past places) (i : ℕ) (r : ReadPlace) → slice_get reads i ≡ Some r
    → (o : Option Placed) → get nat_cmp places r.event ≡ o → is_some_and o (λ (p : Placed). p.seen) ≡ false → is_read_number past r.event ≡ false
unseen-is reads past places kept i r there None is f = absurd (has-place reads i r there (place-none reads past places kept r.event is))
unseen-is reads past places kept i r there (Some p) is f = sym (place-is reads past places kept r.event p is).1 ∙ f

pub unseen-one : (reads : List ReadPlace) (past : Trace) (places : BTreeMap ℕ Placed) (kept : ArePlacesKept reads past places) (i : ℕ) (r : ReadPlace) → slice_get reads i ≡ Some r
    → is_some_and (get nat_cmp places r.event) (λ (p : Placed). p.seen) ≡ false → All (λ (v : ReadPlace). is_read_number past v.event ≡ true) reads → ⊥
unseen-one reads past places kept i r there f all =
    let no = unseen-is reads past places kept i r there (get nat_cmp places r.event) refl f in
    let yes : is_read_number past r.event ≡ true = slice_get-all (λ (v : ReadPlace). is_read_number past v.event ≡ true) reads i r all there in
    cc

pub seen-all : (reads : List ReadPlace) (past : Trace) → ((k : ℕ) (v : ReadPlace) → k < length reads → slice_get reads k ≡ Some v → is_read_number past v.event ≡ true)
    → All (λ (v : ReadPlace). is_read_number past v.event ≡ true) reads
seen-all reads past each = all-from_places (λ (v : ReadPlace). is_read_number past v.event ≡ true) reads (λ k v there. each k v (slice_get_within reads k v there) there)

-- A place and the last one of the same reader

pub back-is : (o : Option ℕ) (place : ℕ) → is_some_and o (λ p. nat_lt place p) ≡ true → (p : ℕ) × ((o ≡ Some p) × place < p)
back-is None place t = cc
back-is (Some p) place t = (p, (refl, grind (arith, t)))

pub not-back : (o : Option ℕ) (place : ℕ) → is_some_and o (λ p. nat_lt place p) ≡ false → (p : ℕ) → o ≡ Some p → p ≤ place
not-back None place f p is = cc
not-back (Some q) place f p is = let one = Some-injective q p is in grind (arith, f, one)

pub is-not : (b : Bool) → not b ≡ false → b ≡ true
is-not true e = cc
is-not false e = cc
