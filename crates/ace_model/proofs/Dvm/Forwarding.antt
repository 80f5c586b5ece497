-- The parts that a port's snoops forward, and those that it has answered, are the first of the parts for it, and what was
-- answered stays so.
use Rattle.std.proofs.Common.{◌≡◌, ◌⊎◌, ℕ, ◌-◌, ◌≤◌, true, ◌&&◌, nat_eq, List, [], ◌∷◌, ◌++◌, length, take, Option, Some, None, refl, sym, subst, arith, inl, inr}
use Rattle.std.specs.Option.{option_to_list}
use Rattle.std.proofs.lemmas.Bool.{cases_Bool, cases_lt}
use Rattle.std.proofs.lemmas.List.{append-nil}
use Rattle.std.proofs.lemmas.List.Concat.{flat_map-append}
use Rattle.ace_model.proofs.Terms.{Event, Transaction, Trace, Snoop, at_point, is_some_and, ac_kind_of, is_message_snoop, issued, snoop_at, answers, parts_in, parts_for, parts_among, next_after, forwards, add_forwarded}
use Rattle.ace_model.proofs.Terms.{forwarded, answered_parts, has_answered}
use Rattle.ace_model.proofs.Trace.Growth.{answers-grow}
use Rattle.ace_model.proofs.Trace.Places.{at_point-length}
use Rattle.ace_model.proofs.Dvm.Parts.{IsBelow, parts-placed, part-placed, parts-before}
use Rattle.ace_model.proofs.General.Lists.{IsStart, start-self, start-trans, start-append, start-flat_map, start-take, start-take-more, start-next, start-both, start-all, start-any}

-- a snoop forwards nothing, or the next part
forwards-cases : (next : Option Transaction) (s : Snoop) → (forwards next s ≡ None) ⊎ ((x : Transaction) × (next ≡ Some x) × (forwards next s ≡ Some x))
forwards-cases None s = inl refl
forwards-cases (Some x) s =
    elim (cases_Bool (is_some_and (ac_kind_of s.snoop) is_message_snoop && nat_eq x.addr s.addr)) [
      | inl t ↦ inr (x, refl, rw t refl)
      | inr f ↦ inl (rw f refl)
    ]

add-forwards : (past : Trace) (q : ℕ) (done : List (Option Transaction)) (new : Option Snoop) → IsStart (parts_among done) (parts_for past q)
    → IsStart (parts_among (add_forwarded past q done new)) (parts_for past q)
add-forwards past q done None start = start
add-forwards past q done (Some s) start =
    let next = next_after past q done in
    subst (λ l. IsStart l (parts_for past q)) (sym (flat_map-append option_to_list done (forwards next s ∷ []))) (elim (forwards-cases next s) [
      | inl none ↦ rw (none, append-nil (parts_among done)) start
      | inr some ↦ rw some.2 (start-next (parts_among done) (parts_for past q) some.0 start some.1)
    ])

-- the forwarded parts are the first of those for the port
forwarded-first : (past : Trace) (q : ℕ) → IsStart (parts_among (forwarded past q)) (parts_for past q)
forwarded-first [] q = start-self []
forwarded-first (e ∷ past) q =
    start-trans (parts_among (forwarded (e ∷ past) q)) (parts_for past q) (parts_for (e ∷ past) q)
    (add-forwards past q (forwarded past q) (snoop_at (length past) e q) (forwarded-first past q))
    (start-append (parts_for past q) (parts_in past (issued (length past) e) q))

-- and so are the answered ones
pub answered-first : (past : Trace) (q : ℕ) → IsStart (answered_parts past q) (parts_for past q)
answered-first past q =
    let n = answers past q in
    start-trans (answered_parts past q) (parts_among (forwarded past q)) (parts_for past q)
    (start-flat_map option_to_list (take n (forwarded past q)) (forwarded past q) (start-take n (forwarded past q))) (forwarded-first past q)

-- a longer trace has the answered parts, and maybe more
answered-grown : (e : Event) (past : Trace) (q : ℕ) → IsStart (answered_parts past q) (answered_parts (e ∷ past) q)
answered-grown e past q =
    start-flat_map option_to_list (take (answers past q) (forwarded past q)) (take (answers (e ∷ past) q) (forwarded (e ∷ past) q))
    (start-take-more (forwarded past q) (forwarded (e ∷ past) q) (answers past q) (answers (e ∷ past) q)
    (forwarded-grown (snoop_at (length past) e q)) (answers-grow e past q))
  where
    forwarded-grown : (new : Option Snoop) → IsStart (forwarded past q) (add_forwarded past q (forwarded past q) new)
    forwarded-grown None = start-self (forwarded past q)
    forwarded-grown (Some s) = start-append (forwarded past q) (forwards (next_after past q (forwarded past q)) s ∷ [])

pub has_answered-later : (later : List Event) (before : Trace) (x : Transaction) (q : ℕ) → has_answered before x q ≡ true → has_answered (later ++ before) x q ≡ true
has_answered-later [] before x q a = a
has_answered-later (e ∷ later) before x q a =
    start-any (λ y. nat_eq y.place x.place) (answered_parts (later ++ before) q) (answered_parts (e ∷ later ++ before) q)
    (answered-grown e (later ++ before) q) (has_answered-later later before x q a)

-- where the port has answered a part, it has answered all that were for it when that one was issued
pub answered-before : (past : Trace) (x : Transaction) (q : ℕ) → x.place ≤ length past → has_answered past x q ≡ true
    → IsStart (parts_for (at_point x.place past) q) (answered_parts past q)
answered-before past x q low a =
    let first = parts_for (at_point x.place past) q in
    let start = parts-before (length past - x.place) past q in
    let answered = answered-first past q in
    elim (cases_lt (length (answered_parts past q)) (length first)) [
      | inl few ↦
          let placed = start-all (IsBelow (length (at_point x.place past))) (answered_parts past q) first
          (start-both (answered_parts past q) first (parts_for past q) answered start (omega arith)) (parts-placed (at_point x.place past) q) in
          let before = part-placed (answered_parts past q) (length (at_point x.place past)) x placed a in
          let long = at_point-length past x.place low in
          absurd (omega arith)
      | inr many ↦ start-both first (answered_parts past q) (parts_for past q) start answered many
    ]
