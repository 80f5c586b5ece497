-- What the rules on barriers say where the barriers of a port stand.
use Rattle.std.proofs.Common.{◌≡◌, ℕ, ◌+◌, Bool, true, false, not, ◌&&◌, ◌||◌, nat_eq, nat_le, nat_lt, List, [], ◌∷◌, ◌++◌, length, map, slice_get, Some, refl, sym, ap, ◌∙◌, arith, inl, inr, length-append}
use Rattle.ace_sysck.proofs.Terms.{All, list_all, Read, Write, Transaction, Channel, Trace, at_point, implies, is_none_or, is_read, Pair, barriers, paired, pairs, number_of, place_of, is_pair_complete, is_past_barriers, is_completed, other_channel, are_complete, begins_barrier, is_like_half, OpenPair, Barrier, Idle, ReadHalf, WriteHalf, Open, BarrierStands, IsDone, reads_of, writes_of, read_half, write_half, pair_in, begins_after, is_past}
use Rattle.std.proofs.lemmas.Bool.{cases_Bool, cases_lt, and_from, and_left, and_right, le-leb, lt-leb, lt-ltb, le-ltb}
use Rattle.std.proofs.lemmas.List.{append-nil, length-map, take_at, take_all}
use Rattle.std.proofs.lemmas.Option.{slice_get_past}
use Rattle.std.proofs.lemmas.List.Elements.{All-weaker}
use Rattle.std.proofs.lemmas.List.Folds.{list_all-append}
use Rattle.std.proofs.lemmas.List.Sums.{list_all-from_AllPass}
use Rattle.std.proofs.Math.Bool.{and-true}
use Rattle.ace_model.proofs.Trace.Growth.{at_point-end}
use Rattle.ace_model.proofs.Trace.Looks.{is_read-is, is_write-is}
use Rattle.ace_model.proofs.General.Lists.{slice_get-at_end}

paired-done : (done : List Pair) (rs ws : List Transaction) → paired (map read_half done ++ rs) (map write_half done ++ ws) ≡ done ++ paired rs ws
paired-done [] rs ws = refl
paired-done (b ∷ done) rs ws = ap (λ l. b ∷ l) (paired-done done rs ws)

-- the pairs of the port are those that are done, and the open one
pub pairs-of : (past : Trace) (p : ℕ) (b : Barrier) (s : BarrierStands past p b) → pairs past p ≡ s.done ++ paired (reads_of b) (writes_of b)
pairs-of past p b s =
    ap (λ l. paired l (barriers past p Write)) s.reads ∙ ap (paired (map read_half s.done ++ reads_of b)) s.writes
    ∙ paired-done s.done (reads_of b) (writes_of b)

pub count-reads : (past : Trace) (p : ℕ) (b : Barrier) (s : BarrierStands past p b) → length (barriers past p Read) ≡ length s.done + length (reads_of b)
count-reads past p b s =
    ap length s.reads ∙ length-append (map read_half s.done) (reads_of b) ∙ ap (λ n. n + length (reads_of b)) (length-map s.done read_half)

pub count-writes : (past : Trace) (p : ℕ) (b : Barrier) (s : BarrierStands past p b) → length (barriers past p Write) ≡ length s.done + length (writes_of b)
count-writes past p b s =
    ap length s.writes ∙ length-append (map write_half s.done) (writes_of b) ∙ ap (λ n. n + length (writes_of b)) (length-map s.done write_half)

all_complete : (past : Trace) (p : ℕ) (done : List Pair) → All (IsDone past p) done → list_all (is_pair_complete past) done ≡ true
all_complete past p done all =
    list_all-from_AllPass (is_pair_complete past) done (All-weaker (IsDone past p) (λ b. is_pair_complete past b ≡ true) (λ b d. d.complete) done all)

-- the pairs that are done are complete
complete-done : (past : Trace) (p n : ℕ) (done rest : List Pair) → All (IsDone past p) done → pairs past p ≡ done ++ rest → n ≡ length done
    → are_complete past p n ≡ true
complete-done past p n done rest all is count =
    rw is (let long = length-append done rest in
    and_from _ _ (le-leb n (length (done ++ rest)) (omega arith))
    (ap (list_all (is_pair_complete past)) (take_at done rest n (sym count)) ∙ all_complete past p done all))

-- and no more are, where there is no other pair, or the next isn't complete
complete-beyond : (past : Trace) (p n : ℕ) (done : List Pair) → pairs past p ≡ done ++ [] → n ≡ length done + 1 → are_complete past p n ≡ false
complete-beyond past p n done is count =
    rw (is, append-nil done) (and_left _ _ (lt-leb n (length done) (omega arith)))

complete-open : (past : Trace) (p n : ℕ) (done : List Pair) (b : Pair) → pairs past p ≡ done ++ b ∷ [] → is_pair_complete past b ≡ false → n ≡ length done + 1
    → are_complete past p n ≡ false
complete-open past p n done b is open_still count =
    rw is (let long = length-append done (b ∷ []) in
    and_right _ _ (ap (list_all (is_pair_complete past)) (take_all n (done ++ b ∷ []) (omega arith))
    ∙ list_all-append (is_pair_complete past) done (b ∷ [])
    ∙ and_right (list_all (is_pair_complete past) done) (list_all (is_pair_complete past) (b ∷ [])) (ap (λ v. v && true) open_still)))

and_grouped : (a b c d : Bool) → (b && c) ≡ d → (a && b && c) ≡ (a && d)
and_grouped true b c d e = e
and_grouped false b c d e = refl

-- an open pair isn't complete
open_pair : (past : Trace) (p : ℕ) (b : OpenPair) → BarrierStands past p (Open b) → is_pair_complete past (pair_in b) ≡ false
open_pair past p b s = ap (λ v. v && is_completed past b.write) s.under_way.read ∙ ap (λ v. b.read_answered && v) s.under_way.write ∙ s.under_way.open_still

-- what may begin after so many halves of its channel, where the other channel has these
module _ (past : Trace) (p : ℕ) (x : Transaction) where
  -- a half with so many before it on its channel
  abbrev Begins : Channel → ℕ → Bool
  Begins c n = are_complete past p n && is_none_or (slice_get (barriers past p (other_channel c)) n) (is_like_half x)

  begins-read : (b : Barrier) → BarrierStands past p b → (n : ℕ) → n ≡ length (barriers past p Read) → x.chan ≡ Read → Begins Read n ≡ begins_after b x
  begins-read Idle s n count chan =
      let c = count-reads past p Idle s in
      let w = count-writes past p Idle s in
      rw (complete-done past p n s.done [] s.are_done (pairs-of past p Idle s) (omega arith), slice_get_past (barriers past p Write) n (omega arith)) refl
  begins-read (ReadHalf y) s n count chan =
      let c = count-reads past p (ReadHalf y) s in
      rw (complete-beyond past p n s.done (pairs-of past p (ReadHalf y) s) (omega arith), chan) refl
  begins-read (WriteHalf y) s n count chan =
      let c = count-reads past p (WriteHalf y) s in
      let m = length-map s.done write_half in
      let partner : slice_get (barriers past p Write) n ≡ Some y = ap (λ l. slice_get l n) s.writes ∙ slice_get-at_end (map write_half s.done) n y (omega arith) in
      rw (complete-done past p n s.done [] s.are_done (pairs-of past p (WriteHalf y) s) (omega arith), partner, chan) refl
  begins-read (Open b) s n count chan =
      let c = count-reads past p (Open b) s in
      rw (complete-open past p n s.done (pair_in b) (pairs-of past p (Open b) s) (open_pair past p b s) (omega arith)) refl

  begins-write : (b : Barrier) → BarrierStands past p b → (n : ℕ) → n ≡ length (barriers past p Write) → x.chan ≡ Write → Begins Write n ≡ begins_after b x
  begins-write Idle s n count chan =
      let c = count-writes past p Idle s in
      let w = count-reads past p Idle s in
      rw (complete-done past p n s.done [] s.are_done (pairs-of past p Idle s) (omega arith), slice_get_past (barriers past p Read) n (omega arith)) refl
  begins-write (WriteHalf y) s n count chan =
      let c = count-writes past p (WriteHalf y) s in
      rw (complete-beyond past p n s.done (pairs-of past p (WriteHalf y) s) (omega arith), chan) refl
  begins-write (ReadHalf y) s n count chan =
      let c = count-writes past p (ReadHalf y) s in
      let m = length-map s.done read_half in
      let partner : slice_get (barriers past p Read) n ≡ Some y = ap (λ l. slice_get l n) s.reads ∙ slice_get-at_end (map read_half s.done) n y (omega arith) in
      rw (complete-done past p n s.done [] s.are_done (pairs-of past p (ReadHalf y) s) (omega arith), partner, chan) refl
  begins-write (Open b) s n count chan =
      let c = count-writes past p (Open b) s in
      rw (complete-open past p n s.done (pair_in b) (pairs-of past p (Open b) s) (open_pair past p b s) (omega arith)) refl

-- K9's part on barriers
pub begins_is : (past : Trace) (x : Transaction) (b : Barrier) → BarrierStands past x.port b → x.place ≡ length past
    → begins_barrier past x ≡ (nat_eq x.addr 0 && begins_after b x)
begins_is past x b s place =
    let now : at_point x.place past ≡ past = at_point-end past x.place place in
    and_grouped (nat_eq x.addr 0) _ _ (begins_after b x) (elim (cases_Bool (is_read x.chan)) [
      | inl t ↦
          let chan = is_read-is x.chan t in
          ap (λ c. are_complete past x.port (number_of past x) && is_none_or (slice_get (barriers past x.port (other_channel c)) (number_of past x)) (is_like_half x)) chan
          ∙ begins-read past x.port x b s (number_of past x) (ap (λ v. length (barriers v x.port x.chan)) now ∙ ap (λ c. length (barriers past x.port c)) chan) chan
      | inr f ↦
          let chan = is_write-is x.chan f in
          ap (λ c. are_complete past x.port (number_of past x) && is_none_or (slice_get (barriers past x.port (other_channel c)) (number_of past x)) (is_like_half x)) chan
          ∙ begins-write past x.port x b s (number_of past x) (ap (λ v. length (barriers v x.port x.chan)) now ∙ ap (λ c. length (barriers past x.port c)) chan) chan
    ])

-- all pairs that are done pass a test that complete pairs pass
all_pass : (past : Trace) (p : ℕ) (test : Pair → Bool) (done : List Pair) → All (IsDone past p) done → ((b : Pair) → IsDone past p b → test b ≡ true)
    → list_all test done ≡ true
all_pass past p test done all passes = list_all-from_AllPass test done (All-weaker (IsDone past p) (λ b. test b ≡ true) passes done all)

implied : (a b : Bool) → b ≡ true → implies a b ≡ true
implied true b t = t
implied false b t = refl

-- a pair that isn't complete comes no earlier than the place
comes_later : (n m : ℕ) → (not (nat_lt n m) || false) ≡ nat_le m n
comes_later n m =
    elim (cases_lt n m) [
      | inl low ↦ rw (lt-ltb n m low, lt-leb m n low) refl
      | inr high ↦ rw (le-ltb n m high, le-leb m n high) refl
    ]

-- K35
pub past_is : (past : Trace) (x : Transaction) (b : Barrier) → BarrierStands past x.port b → is_past_barriers past x ≡ is_past b x
past_is past x b s = rw (pairs-of past x.port b s, list_all-append test s.done (paired (reads_of b) (writes_of b)), all_pass past x.port test s.done s.are_done (λ d k. implied (nat_lt (place_of d) x.place) (is_pair_complete past d) k.complete)) (by b s)
  where
    test : Pair → Bool
    test d = implies (nat_lt (place_of d) x.place) (is_pair_complete past d)

    ordered : (a : Bool) → implies a true ≡ true
    ordered true = refl
    ordered false = refl

    by : (b : Barrier) → BarrierStands past x.port b → implies (nat_eq x.bar 0) (list_all test (paired (reads_of b) (writes_of b))) ≡ is_past b x
    by Idle s = ordered (nat_eq x.bar 0)
    by (ReadHalf y) s = ordered (nat_eq x.bar 0)
    by (WriteHalf y) s = ordered (nat_eq x.bar 0)
    by (Open o) s = rw (open_pair past x.port o s) (ap (λ v. not (nat_eq x.bar 0) || v) (and-true _ ∙ comes_later (place_of (pair_in o)) x.place))
