-- Whether a barrier half may be answered, where the barriers of its port stand.
use Rattle.std.proofs.Common.{◌≡◌, ◌⊎◌, ℕ, zero, suc, ◌-◌, ◌<◌, Bool, true, false, not, ◌&&◌, ◌||◌, nat_eq, List, [], ◌∷◌, ◌++◌, length, map, slice_get, Option, Some, None, refl, sym, ap, subst, ◌∙◌, arith, inl, inr}
use Rattle.ace_sysck.proofs.Terms.{option_map, Read, Write, Transaction, Channel, Trace, at_point, is_some_and, issued, Pair, barriers, option_filter, is_barrier_of, pairs, pair_of, number_of, place_of, is_barrier_half, may_answer, is_completed, is_ordered, is_pair_complete, more, first_unordered, first_incomplete, is_ordered_by_barriers, OpenPair, Barrier, Idle, ReadHalf, WriteHalf, Open, BarrierStands, IsDone, IsOpen, TellsOpenPair, reads_of, writes_of, open_of, pair_in, may_answer_after, comes_far_enough}
use Rattle.std.proofs.lemmas.Bool.{cases_Bool, eq-eqb, ne_eqb}
use Rattle.std.proofs.lemmas.List.{append-nil, length-map}
use Rattle.std.proofs.lemmas.Option.{slice_get_past}
use Rattle.ace_model.proofs.Barriers.Pairs.{IsHalf, barriers-half, is_barrier_of-is}
use Rattle.ace_model.proofs.Trace.Growth.{IsIssued, issued-cases, at_point-before}
use Rattle.ace_model.proofs.Trace.Issued.{issued_at, issued-place}
use Rattle.ace_model.proofs.Trace.Places.{at_point-last}
use Rattle.ace_model.proofs.Trace.Looks.{same_channel-self}
use Rattle.ace_model.proofs.General.Options.{Some-injective}
use Rattle.ace_model.proofs.General.Lists.{slice_get-at_end, slice_get-grown, slice_get-append, slice_get-all, slice_get-more}
use Rattle.ace_sysck.proofs.FirstIssued.{each-before}
use Rattle.ace_sysck.proofs.BarrierRules.{pairs-of}

-- a barrier half of the trace stands among its port's at its number
pub half-there : (past : Trace) (x : Transaction) → IsIssued past x → is_barrier_half x ≡ true
    → slice_get (barriers past x.port x.chan) (number_of past x) ≡ Some x
half-there [] x i half = let low = i.before in absurd (omega arith)
half-there (e ∷ past) x i half =
    elim (issued-cases e past x i) [
      | inl new ↦
          let place = issued-place (length past) e x new in
          let own : is_barrier_of x x.port x.chan ≡ true = rw (half, eq-eqb x.port x.port refl) (same_channel-self x.chan) in
          ap (λ t. slice_get (barriers (e ∷ past) x.port x.chan) (length (barriers t x.port x.chan))) (at_point-last e past x.place place)
          ∙ rw (new, own) (slice_get-at_end (barriers past x.port x.chan) (length (barriers past x.port x.chan)) x refl)
      | inr old ↦
          let low = old.before in
          ap (λ t. slice_get (barriers (e ∷ past) x.port x.chan) (length (barriers t x.port x.chan))) (at_point-before e past x.place (omega arith))
          ∙ slice_get-grown (barriers past x.port x.chan) (option_filter (λ y. is_barrier_of y x.port x.chan) (issued (length past) e)) (number_of past x) x (half-there past x old half)
    ]

-- the halves of a pair and of a barrier on a channel
abbrev pub half_on : Channel → Pair → Transaction
half_on Read b = b.read
half_on Write b = b.write

abbrev pub halves_on : Channel → Barrier → List Transaction
halves_on Read b = reads_of b
halves_on Write b = writes_of b

module _ (past : Trace) (p : ℕ) (b : Barrier) (s : BarrierStands past p b) where
  pub halves : (c : Channel) → barriers past p c ≡ map (half_on c) s.done ++ halves_on c b
  halves Read = s.reads
  halves Write = s.writes

  -- the half of the barrier comes after those of the pairs that are done
  pub current : (c : Channel) (y : Transaction) → halves_on c b ≡ y ∷ [] → IsHalf past p c (length s.done) y
  current c y is =
      let m = length-map s.done (half_on c) in
      barriers-half past p c (length s.done) y
      (ap (λ l. slice_get l (length s.done)) (halves c ∙ ap (λ l. map (half_on c) s.done ++ l) is)
      ∙ slice_get-at_end (map (half_on c) s.done) (length s.done) y (sym m))

  -- a half of another number than that has another place
  pub apart : (x : Transaction) → IsIssued past x → x.port ≡ p → number_of past x < length s.done → (c : Channel) (y : Transaction) → halves_on c b ≡ y ∷ []
      → nat_eq x.place y.place ≡ false
  apart x i port low c y is =
      ne_eqb x.place y.place (λ same.
      let h = current c y is in
      let one : x ≡ y = Some-injective x y (sym i.there ∙ ap (issued_at past) same ∙ h.stands.there) in
      let own = is_barrier_of-is y p c h.barrier in
      let count : number_of past x ≡ length s.done =
      ap (λ (z : Transaction). number_of past z) one ∙ ap (λ q. length (barriers (at_point y.place past) q y.chan)) own.port
      ∙ ap (λ d. length (barriers (at_point y.place past) p d)) own.chan ∙ h.number in
      absurd (omega (arith, low, count)))

-- an element of two lists joined is in the first, or in the second
split : {A : Type 0} → (xs ys : List A) (k : ℕ) (z : A) → slice_get (xs ++ ys) k ≡ Some z → (k < length xs) ⊎ (slice_get ys (k - length xs) ≡ Some z)
split [] ys k z e = inr (ap (slice_get ys) (omega arith) ∙ e)
split (x ∷ xs) ys zero z e = inl (omega arith)
split (x ∷ xs) ys (suc k) z e =
    elim (split xs ys k z e) [
      | inl low ↦ inl (omega arith)
      | inr later ↦ inr (ap (slice_get ys) (omega arith) ∙ later)
    ]

-- the one element of a list
only : {A : Type 0} → (y : A) (k : ℕ) (z : A) → slice_get (y ∷ []) k ≡ Some z → (k ≡ 0) × (y ≡ z)
only y zero z e = (refl, Some-injective y z e)
only y (suc k) z e = cc

-- what is before an open pair has come far enough exactly where the first that hasn't isn't before it
pub come-is : (past : Trace) (p : ℕ) (o : OpenPair) (u n : Option ℕ) → u ≡ first_unordered past p → n ≡ first_incomplete past p
    → may_answer past p (pair_in o) ≡ comes_far_enough o u n
come-is past p o u n unordered incomplete =
    elim (cases_Bool (nat_eq o.read.bar 3)) [
      | inl sync ↦ rw (sync, incomplete) (each-before past (is_ordered_by_barriers p) (is_completed past) (place_of (pair_in o)))
      | inr other ↦ rw (other, unordered) (each-before past (is_ordered_by_barriers p) (is_ordered past) (place_of (pair_in o)))
    ]

module _ (past : Trace) (x : Transaction) (u n : Option ℕ) (i : IsIssued past x) (half : is_barrier_half x ≡ true)
    (unordered : u ≡ first_unordered past x.port) (incomplete : n ≡ first_incomplete past x.port) where
  -- a half of a pair that is done may be answered
  done-may : (b : Barrier) (s : BarrierStands past x.port b) → number_of past x < length s.done → is_some_and (pair_of past x) (may_answer past x.port) ≡ true
  done-may b s low =
      let d = get_at s.done (number_of past x) low in
      let pair : pair_of past x ≡ Some d.0 = ap (λ l. slice_get l (number_of past x)) (pairs-of past x.port b s) ∙ slice_get-append s.done _ (number_of past x) d.0 d.1 in
      ap (λ o. is_some_and o (may_answer past x.port)) pair ∙ (slice_get-all (IsDone past x.port) s.done (number_of past x) d.0 s.are_done d.1).answered
    where
      get_at : (xs : List Pair) (k : ℕ) → k < length xs → (z : Pair) × (slice_get xs k ≡ Some z)
      get_at [] k low = absurd (omega arith)
      get_at (z ∷ xs) zero low = (z, refl)
      get_at (z ∷ xs) (suc k) low = get_at xs k (omega arith)

  -- where it is the open half on its channel, whose partner wasn't issued
  alone-may : (b : Barrier) (s : BarrierStands past x.port b) → number_of past x ≡ length s.done → pairs past x.port ≡ s.done ++ [] → is_some_and (pair_of past x) (may_answer past x.port) ≡ false
  alone-may b s at none = ap (λ o. is_some_and o (may_answer past x.port)) (ap (λ l. slice_get l (number_of past x)) (none ∙ append-nil s.done) ∙ slice_get_past s.done (number_of past x) (omega arith))

  -- where it is a half of the open pair
  open-may : (o : OpenPair) (s : BarrierStands past x.port (Open o)) → number_of past x ≡ length s.done → is_some_and (pair_of past x) (may_answer past x.port) ≡ comes_far_enough o u n
  open-may o s at =
      ap (λ v. is_some_and v (may_answer past x.port)) (ap (λ l. slice_get l (number_of past x)) (pairs-of past x.port (Open o) s) ∙ slice_get-at_end s.done (number_of past x) (pair_in o) at)
      ∙ come-is past x.port o u n unordered incomplete

  -- where the half is, of the halves of its channel
  where-is : (b : Barrier) (s : BarrierStands past x.port b) → (number_of past x < length s.done) ⊎ (slice_get (halves_on x.chan b) (number_of past x - length s.done) ≡ Some x)
  where-is b s =
      let m = length-map s.done (half_on x.chan) in
      elim (split (map (half_on x.chan) s.done) (halves_on x.chan b) (number_of past x) x (ap (λ l. slice_get l (number_of past x)) (sym (halves past x.port b s x.chan)) ∙ half-there past x i half)) [
        | inl low ↦ inl (omega (arith, m, low))
        | inr at ↦ inr (ap (λ n. slice_get (halves_on x.chan b) (number_of past x - n)) (sym m) ∙ at)
      ]

  pub answer_is : (b : Barrier) → BarrierStands past x.port b → is_some_and (pair_of past x) (may_answer past x.port) ≡ may_answer_after b u n x
  answer_is b s = elim (where-is b s) [
    | inl low ↦ done-may b s low ∙ sym (off b s low)
    | inr at ↦ on x.chan refl b s at
  ]
    where
      off : (b : Barrier) (s : BarrierStands past x.port b) → number_of past x < length s.done → may_answer_after b u n x ≡ true
      off Idle s low = refl
      off (ReadHalf y) s low = rw (apart past x.port (ReadHalf y) s x i refl low Read y refl) refl
      off (WriteHalf y) s low = rw (apart past x.port (WriteHalf y) s x i refl low Write y refl) refl
      off (Open o) s low = rw (apart past x.port (Open o) s x i refl low Read o.read refl, apart past x.port (Open o) s x i refl low Write o.write refl) refl

      number : (b : Barrier) (s : BarrierStands past x.port b) (c : Channel) (y : Transaction) → halves_on c b ≡ y ∷ [] → y ≡ x → number_of past x ≡ length s.done
      number b s c y is one =
          let h = current past x.port b s c y is in
          let own = is_barrier_of-is y x.port c h.barrier in
          ap (λ (z : Transaction). number_of past z) (sym one) ∙ ap (λ q. length (barriers (at_point y.place past) q y.chan)) own.port
          ∙ ap (λ d. length (barriers (at_point y.place past) x.port d)) own.chan ∙ h.number

      same : (y : Transaction) → y ≡ x → nat_eq x.place y.place ≡ true
      same y one = eq-eqb x.place y.place (ap (λ (z : Transaction). z.place) (sym one))

      on : (c : Channel) → x.chan ≡ c → (b : Barrier) (s : BarrierStands past x.port b) → slice_get (halves_on x.chan b) (number_of past x - length s.done) ≡ Some x
          → is_some_and (pair_of past x) (may_answer past x.port) ≡ may_answer_after b u n x
      on Read chan Idle s at = let bad : None ≡ Some x = ap (λ c. slice_get (halves_on c Idle) (number_of past x - length s.done)) (sym chan) ∙ at in cc
      on Write chan Idle s at = let bad : None ≡ Some x = ap (λ c. slice_get (halves_on c Idle) (number_of past x - length s.done)) (sym chan) ∙ at in cc
      on Read chan (ReadHalf y) s at =
          let o = only y (number_of past x - length s.done) x (ap (λ c. slice_get (halves_on c (ReadHalf y)) (number_of past x - length s.done)) (sym chan) ∙ at) in
          alone-may (ReadHalf y) s (number (ReadHalf y) s Read y refl o.1) (pairs-of past x.port (ReadHalf y) s) ∙ rw (same y o.1) refl
      on Write chan (ReadHalf y) s at = let bad : None ≡ Some x = ap (λ c. slice_get (halves_on c (ReadHalf y)) (number_of past x - length s.done)) (sym chan) ∙ at in cc
      on Read chan (WriteHalf y) s at = let bad : None ≡ Some x = ap (λ c. slice_get (halves_on c (WriteHalf y)) (number_of past x - length s.done)) (sym chan) ∙ at in cc
      on Write chan (WriteHalf y) s at =
          let o = only y (number_of past x - length s.done) x (ap (λ c. slice_get (halves_on c (WriteHalf y)) (number_of past x - length s.done)) (sym chan) ∙ at) in
          alone-may (WriteHalf y) s (number (WriteHalf y) s Write y refl o.1) (pairs-of past x.port (WriteHalf y) s) ∙ rw (same y o.1) refl
      on Read chan (Open b) s at =
          let o = only b.read (number_of past x - length s.done) x (ap (λ c. slice_get (halves_on c (Open b)) (number_of past x - length s.done)) (sym chan) ∙ at) in
          open-may b s (number (Open b) s Read b.read refl o.1) ∙ rw (same b.read o.1) refl
      on Write chan (Open b) s at =
          let o = only b.write (number_of past x - length s.done) x (ap (λ c. slice_get (halves_on c (Open b)) (number_of past x - length s.done)) (sym chan) ∙ at) in
          open-may b s (number (Open b) s Write b.write refl o.1) ∙ rw (same b.write o.1) (second (nat_eq x.place b.read.place) (comes_far_enough b u n))
        where
          second : (a v : Bool) → v ≡ ((not a && false) || v)
          second true v = refl
          second false v = refl

-- ---- the pair that isn't complete --------------------------------------------------------------------

-- the pairs of the port are those that are done, and then the one that isn't complete
done-and-open : (past : Trace) (p : ℕ) (b : Barrier) (s : BarrierStands past p b) → pairs past p ≡ more s.done (option_map pair_in (open_of b))
done-and-open past p Idle s = pairs-of past p Idle s ∙ append-nil s.done
done-and-open past p (ReadHalf x) s = pairs-of past p (ReadHalf x) s ∙ append-nil s.done
done-and-open past p (WriteHalf x) s = pairs-of past p (WriteHalf x) s ∙ append-nil s.done
done-and-open past p (Open o) s = pairs-of past p (Open o) s

pub tells_open : (past : Trace) (p : ℕ) (b : Barrier) → BarrierStands past p b → TellsOpenPair past p (open_of b)
tells_open past p b s = record { there = there b s; is = is b s; only = only }
  where
    there : (b : Barrier) → BarrierStands past p b → (o : OpenPair) → open_of b ≡ Some o → (k : ℕ) × (slice_get (pairs past p) k ≡ Some (pair_in o))
    there (Open u) s o e =
        (length s.done, ap (λ l. slice_get l (length s.done)) (done-and-open past p (Open u) s) ∙ slice_get-at_end s.done (length s.done) (pair_in u) refl ∙ ap (λ v. Some (pair_in v)) (Some-injective u o e))
    there b s o e = cc

    is : (b : Barrier) → BarrierStands past p b → (o : OpenPair) → open_of b ≡ Some o → IsOpen past o
    is (Open u) s o e = subst (IsOpen past) (Some-injective u o e) s.under_way
    is b s o e = cc

    only : (k : ℕ) (d : Pair) → slice_get (pairs past p) k ≡ Some d → is_pair_complete past d ≡ false → option_map pair_in (open_of b) ≡ Some d
    only k d at undone =
        elim (slice_get-more s.done (option_map pair_in (open_of b)) k d (ap (λ l. slice_get l k) (sym (done-and-open past p b s)) ∙ at)) [
          | inl done ↦ let complete = (slice_get-all (IsDone past p) s.done k d s.are_done done).complete in let bad : true ≡ false = sym complete ∙ undone in cc
          | inr last ↦ last.1
        ]
