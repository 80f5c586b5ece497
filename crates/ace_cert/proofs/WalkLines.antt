-- What is known of the lines with one more event.
use Rattle.std.proofs.Common.{◌≡◌, inl, inr, ℕ, ◌+◌, ◌-◌, ◌<◌, ◌≤◌, Bool, true, false, ◌&&◌, ◌||◌, nat_eq, nat_le, if◌then◌else◌, List, [], ◌∷◌, ◌++◌, length, reverse, drop, slice_get, Option, Some, None, is_some, option_map, unwrap_or, refl, sym, ap, ◌∙◌, arith, length-append}
use Rattle.std.specs.Prelude.{option_and_then}
use Rattle.std.proofs.lemmas.Bool.{cases_Bool, cases_lt, eqb-true, eq-eqb, ne_eqb}
use Rattle.std.proofs.lemmas.List.{reverse-append, length-reverse}
use Rattle.std.specs.Ordering.{nat_cmp}
use Rattle.std.specs.BTreeMap.{BTreeMap, get}
use Rattle.ace_event.specs.declared.line.Line.{Line}
use Rattle.ace_model.proofs.Terms.{Event, Store, Trace, after_store, at_point, is_known, is_on, is_some_and, issued, memory_of, more, opened, store_at, value_of, written}
use Rattle.ace_model.proofs.General.Lists.{slice_get-at_end, slice_get-not_at_end}
use Rattle.ace_model.proofs.Trace.Growth.{at_point-before}
use Rattle.ace_cert.specs.Certificates.{store_numbers}
use Rattle.ace_cert.specs.declared.verification.lines.Change.{Change}
use Rattle.ace_cert.specs.declared.verification.lines.Facts.{Facts}
use Rattle.ace_cert.specs.declared.verification.lines.Lines.{Lines}
use Rattle.ace_cert.specs.declared.verification.lines.Mark.{Mark}
use Rattle.ace_cert.specs.Walk.{AreLinesKept, IsApplied, IsChangeOf, after_bytes, change_on, changed, facts_behind, facts_now, facts_of, head_of, nth_of, one_more}
use Rattle.ace_cert.proofs.WalkKeys.{nth-same}

-- a point past the end
pub at_point-past : (past : Trace) (q : ℕ) → length past ≤ q → at_point q past ≡ past
at_point-past past q low =
    let none : length past - q ≡ 0 = omega arith in
    ap (λ n. drop n past) none

pub few-stores : (past : Trace) (l : ℕ) → length (store_numbers past l) ≤ length past
few-stores [] l = omega arith
few-stores (e ∷ past) l = by (option_map (λ s. length past + 1) (store_at past e l)) (few-stores past l)
  where
    by : (o : Option ℕ) → length (store_numbers past l) ≤ length past → length (more (store_numbers past l) o) ≤ length (e ∷ past)
    by None low = omega arith
    by (Some n) low = let count = length-append (store_numbers past l) (n ∷ []) in omega arith

facts-are : (a b : Bool) (n m : ℕ) (u v x y : Line) → a ≡ b → n ≡ m → u ≡ v → x ≡ y → (f : Facts) → f ≡ record { named = a; stores = n; memory = u; value = x }
    → f ≡ record { named = b; stores = m; memory = v; value = y }
facts-are a b n m u v x y same_a same_n same_u same_x f is = rw (sym same_a, sym same_n, sym same_u, sym same_x) is

abbrev pub facts_after : Option Change → Facts → Facts
facts_after None f = f
facts_after (Some c) f = changed c f

stores-are : (xs : List ℕ) (s : Option Store) (n : ℕ) (b : Bool) → length xs < 4294967295 → is_some s ≡ b
    → length (more xs (option_map (λ v. n) s)) ≡ (if b then one_more (length xs) else length xs)
stores-are xs None n b few is = rw (sym is) refl
stores-are xs (Some s) n b few is =
    let count = length-append xs (n ∷ []) in
    let sum : length (xs ++ n ∷ []) ≡ one_more (length xs) = omega (arith, few, count) in
    rw (sym is) sum

no-store : (s : Option Store) → is_some s ≡ false → s ≡ None
no-store None is = refl
no-store (Some s) is = cc

-- what an event makes of what is known of a line
pub facts-grown : (past : Trace) (e : Event) (o : Option Change) (l : ℕ) → length past < 4294967295 → IsChangeOf past e o l
    → facts_of (e ∷ past) l ≡ facts_after (change_on o l) (facts_of past l)
facts-grown past e o l few c = by (change_on o l) c.named c.written c.opened c.store c.value
  where
    by : (v : Option Change) → is_some_and (issued (length past) e) (λ x. is_on x l) ≡ is_some_and v (λ (d : Change). d.named)
        → written past e l ≡ option_and_then (λ (d : Change). d.written) v → opened e l ≡ option_and_then (λ (d : Change). d.opened) v
        → is_some (store_at past e l) ≡ is_some (option_and_then (λ (d : Change). d.store) v)
        → ((line : Line) → after_store line (store_at past e l) ≡ after_bytes line (option_and_then (λ (d : Change). d.store) v))
        → facts_of (e ∷ past) l ≡ facts_after v (facts_of past l)
    by None named memory opening store value =
        let none = no-store (store_at past e l) store in
        rw (named, memory, opening, none) refl
    by (Some d) named memory opening store value =
        let low = few-stores past l in
        let stores = stores-are (store_numbers past l) (store_at past e l) (length past + 1) (is_some d.store) (omega arith) store in
        facts-are
        (is_some_and (issued (length past) e) (λ x. is_on x l) || is_known past l) (d.named || is_known past l)
        (length (more (store_numbers past l) (option_map (λ v. length past + 1) (store_at past e l)))) (if is_some d.store then one_more (length (store_numbers past l)) else length (store_numbers past l))
        (unwrap_or (written past e l) (memory_of past l)) (unwrap_or d.written (memory_of past l))
        (after_store (unwrap_or (opened e l) (value_of past l)) (store_at past e l)) (after_bytes (unwrap_or d.opened (value_of past l)) d.store)
        (ap (λ b. b || is_known past l) named) stores (ap (λ w. unwrap_or w (memory_of past l)) memory)
        (ap (λ w. after_store (unwrap_or w (value_of past l)) (store_at past e l)) opening ∙ value (unwrap_or d.opened (value_of past l)))
        (facts_of (e ∷ past) l) refl

-- what is known of a line that the event leaves
stands : (past : Trace) (e : Event) (o : Option Change) (l q : ℕ) → length past < 4294967295 → IsChangeOf past e o l → change_on o l ≡ None
    → facts_of (at_point q past) l ≡ facts_of (at_point q (e ∷ past)) l
stands past e o l q few c none =
    elim (cases_lt (length past) q) [
      | inr high ↦ ap (λ t. facts_of t l) (sym (at_point-before e past q high))
      | inl low ↦
          let same = facts-grown past e o l few c in
          ap (λ t. facts_of t l) (at_point-past past q (omega arith))
          ∙ sym (same ∙ ap (λ v. facts_after v (facts_of past l)) none)
          ∙ ap (λ t. facts_of t l) (sym (at_point-past (e ∷ past) q (omega arith)))
    ]

numbers-stand : (xs : List ℕ) (s : Option Store) (n k : ℕ) → s ≡ None → slice_get xs k ≡ slice_get (more xs (option_map (λ v. n) s)) k
numbers-stand xs s n k none = rw none refl

-- an event that changes no line
pub lines-stand : (past : Trace) (e : Event) (heads : BTreeMap ℕ ℕ) (marks : List Mark) (numbers : BTreeMap ℕ ℕ) → length past < 4294967295 → ((l : ℕ) → IsChangeOf past e None l)
    → AreLinesKept past heads marks numbers → AreLinesKept (e ∷ past) heads marks numbers
lines-stand past e heads marks numbers few c kept = record {
  facts = λ l q. kept.facts l q ∙ stands past e None l q few (c l) refl;
  newest = kept.newest;
  few = let low = kept.few in omega arith;
  stored = λ l k low.
      kept.stored l k low ∙ numbers-stand (store_numbers past l) (store_at past e l) (length past + 1) k (no-store (store_at past e l) (c l).store);
}

at-end : (xs : List ℕ) (s : Option Store) (n k : ℕ) (b : Bool) → is_some s ≡ b
    → (if b && nat_eq (length xs) k then Some n else slice_get xs k) ≡ slice_get (more xs (option_map (λ v. n) s)) k
at-end xs None n k b is = rw (sym is) refl
at-end xs (Some s) n k b is =
    elim (cases_Bool (nat_eq (length xs) k)) [
      | inl t ↦ rw (sym is, t) (sym (slice_get-at_end xs k n (sym (eqb-true (length xs) k t))))
      | inr f ↦ rw (sym is, f) (sym (slice_get-not_at_end xs k n (λ e. let t = eq-eqb (length xs) k (sym e) in cc)))
    ]

module _ (past : Trace) (e : Event) (c : Change) (old new : Lines) (few : length past < 4294967295) (is : (l : ℕ) → IsChangeOf past e (Some c) l)
    (kept : AreLinesKept past old.heads old.marks.items old.numbers) (a : IsApplied (length past + 1) c old new) where
  now : facts_now (length past + 1) c old ≡ facts_of past c.addr
  now = kept.facts c.addr (length past + 1) ∙ ap (λ t. facts_of t c.addr) (at_point-past past (length past + 1) (omega arith))

  abbrev pub mark : Mark
  mark = record { point = length past + 1; before = head_of old.heads c.addr; facts = changed c (facts_now (length past + 1) c old) }

  marks-are : reverse new.marks.items ≡ mark ∷ reverse old.marks.items
  marks-are = ap reverse a.marks ∙ reverse-append old.marks.items (mark ∷ [])

  changed-facts : (q : ℕ) → facts_behind (mark ∷ reverse old.marks.items) (length old.marks.items + 1) q ≡ facts_of (at_point q (e ∷ past)) c.addr
  changed-facts q =
      let count : length (reverse old.marks.items) ≡ length old.marks.items = length-reverse old.marks.items in
      let top = eq-eqb (length old.marks.items + 1) (length (reverse old.marks.items) + 1) (omega arith) in
      let same : change_on (Some c) c.addr ≡ Some c = rw (eq-eqb c.addr c.addr (refl {a = c.addr})) refl in
      elim (cases_Bool (nat_le (length past + 1) q)) [
        | inl t ↦
            let high : length past + 1 ≤ q = grind (arith, t) in
            rw (top, t)
            (ap (changed c) now ∙ sym (facts-grown past e (Some c) c.addr few (is c.addr) ∙ ap (λ v. facts_after v (facts_of past c.addr)) same)
            ∙ ap (λ t. facts_of t c.addr) (sym (at_point-past (e ∷ past) q (omega arith))))
        | inr f ↦
            let low : q ≤ length past = grind (arith, f) in
            rw (top, f) (kept.facts c.addr q ∙ ap (λ t. facts_of t c.addr) (sym (at_point-before e past q low)))
      ]

  facts-all : (l q : ℕ) → facts_behind (reverse new.marks.items) (head_of new.heads l) q ≡ facts_of (at_point q (e ∷ past)) l
  facts-all l q =
      elim (cases_Bool (nat_eq c.addr l)) [
        | inl t ↦
            let head : head_of new.heads l ≡ length old.marks.items + 1 = a.heads l ∙ rw t refl in
            let line : c.addr ≡ l = eqb-true c.addr l t in
            rw (marks-are, head) (changed-facts q ∙ ap (facts_of (at_point q (e ∷ past))) line)
        | inr f ↦
            let head : head_of new.heads l ≡ head_of old.heads l = a.heads l ∙ rw f refl in
            let count : length (reverse old.marks.items) ≡ length old.marks.items = length-reverse old.marks.items in
            let low = kept.newest l in
            let other = ne_eqb (head_of old.heads l) (length (reverse old.marks.items) + 1) (λ s. absurd (omega (arith, s, count, low))) in
            rw (marks-are, head, other) (kept.facts l q ∙ stands past e (Some c) l q few (is l) (rw f refl))
      ]

  heads-all : (l : ℕ) → head_of new.heads l ≤ length new.marks.items
  heads-all l =
      let count : length new.marks.items ≡ length old.marks.items + 1 = ap length a.marks ∙ length-append old.marks.items (mark ∷ []) in
      let low = kept.newest l in
      elim (cases_Bool (nat_eq c.addr l)) [
        | inl t ↦ let head : head_of new.heads l ≡ length old.marks.items + 1 = a.heads l ∙ rw t refl in omega arith
        | inr f ↦ let head : head_of new.heads l ≡ head_of old.heads l = a.heads l ∙ rw f refl in omega arith
      ]

  numbers-all : (l k : ℕ) → k < 4294967296 → get nat_cmp new.numbers (nth_of l k) ≡ slice_get (store_numbers (e ∷ past) l) k
  numbers-all l k low =
      let stores : (facts_now (length past + 1) c old).stores ≡ length (store_numbers past c.addr) = ap (λ (f : Facts). f.stores) now in
      let few_stores = few-stores past c.addr in
      let key = nth-same c.addr (length (store_numbers past c.addr)) l k (omega arith) low in
      let is_store = (is l).store in
      elim (cases_Bool (nat_eq c.addr l)) [
        | inl t ↦
            let line : c.addr ≡ l = eqb-true c.addr l t in
            let same : is_some (store_at past e l) ≡ is_some c.store = is_store ∙ rw t refl in
            a.numbers (nth_of l k) ∙ rw (stores, key, t, kept.stored l k low, line) (at-end (store_numbers past l) (store_at past e l) (length past + 1) k (is_some c.store) same)
        | inr f ↦
            let none : is_some (store_at past e l) ≡ false = is_store ∙ rw f refl in
            a.numbers (nth_of l k) ∙ rw (stores, key, f) (either (is_some c.store) (kept.stored l k low
            ∙ numbers-stand (store_numbers past l) (store_at past e l) (length past + 1) k (no-store (store_at past e l) none)))
      ]
    where
      either : (b : Bool) → get nat_cmp old.numbers (nth_of l k) ≡ slice_get (store_numbers (e ∷ past) l) k
          → (if b && false then Some (length past + 1) else get nat_cmp old.numbers (nth_of l k)) ≡ slice_get (store_numbers (e ∷ past) l) k
      either true is = is
      either false is = is

  pub lines-changed : AreLinesKept (e ∷ past) new.heads new.marks.items new.numbers
  lines-changed = record {
    facts = facts-all;
    newest = heads-all;
    few =
        let count : length new.marks.items ≡ length old.marks.items + 1 = ap length a.marks ∙ length-append old.marks.items (mark ∷ []) in
        let low = kept.few in
        omega arith;
    stored = numbers-all;
  }
