-- The barrier pair of a port that isn't complete.
use Rattle.std.proofs.Common.{◌≡◌, ℕ, Bool, true, false, not, ◌&&◌, ◌||◌, nat_lt, length, refl, sym, ap, ◌∙◌, arith}
use Rattle.std.specs.List.{list_any}
use Rattle.std.proofs.lemmas.Bool.{lt-ltb, le-ltb}
use Rattle.std.proofs.lemmas.List.Elements.{All-weaker}
use Rattle.std.proofs.lemmas.List.Folds.{list_any-append, list_any_none}
use Rattle.ace_event.specs.declared.event.Channel.{Channel}
use Rattle.ace_event.specs.declared.event.Channel.TheVariants.{Read, Write}
use Rattle.ace_model.specs.Barriers.{Pair, barriers, is_pair_complete, other_channel, paired}
use Rattle.ace_model.specs.Progress.{is_completed}
use Rattle.ace_model.specs.Trace.{Trace, is_some_and}
use Rattle.ace_sysck.proofs.BarrierRules.{count-reads, count-writes, pairs-of}
use Rattle.ace_sysck.specs.Barriers.{BarrierStands, IsDone, open_of, pair_in, reads_of, writes_of}
use Rattle.ace_sysck.specs.declared.barriers.Barrier.{Barrier}
use Rattle.ace_sysck.specs.declared.barriers.Barrier.TheVariants.{Idle, ReadHalf, WriteHalf, Open}
use Rattle.ace_sysck.specs.declared.barriers.OpenPair.{OpenPair}
use Rattle.ace_points.specs.Asked.{joins, some_open_pair}

pub joins_is : (past : Trace) (p : ℕ) (b : Barrier) (c : Channel) → BarrierStands past p b
    → joins b c ≡ nat_lt (length (barriers past p c)) (length (barriers past p (other_channel c)))
joins_is past p Idle Read s = sym (le-ltb _ _ (omega (arith, count-reads past p Idle s, count-writes past p Idle s)))
joins_is past p Idle Write s = sym (le-ltb _ _ (omega (arith, count-reads past p Idle s, count-writes past p Idle s)))
joins_is past p (ReadHalf x) Read s = sym (le-ltb _ _ (omega (arith, count-reads past p (ReadHalf x) s, count-writes past p (ReadHalf x) s)))
joins_is past p (ReadHalf x) Write s = sym (lt-ltb _ _ (omega (arith, count-reads past p (ReadHalf x) s, count-writes past p (ReadHalf x) s)))
joins_is past p (WriteHalf x) Read s = sym (lt-ltb _ _ (omega (arith, count-reads past p (WriteHalf x) s, count-writes past p (WriteHalf x) s)))
joins_is past p (WriteHalf x) Write s = sym (le-ltb _ _ (omega (arith, count-reads past p (WriteHalf x) s, count-writes past p (WriteHalf x) s)))
joins_is past p (Open b) Read s = sym (le-ltb _ _ (omega (arith, count-reads past p (Open b) s, count-writes past p (Open b) s)))
joins_is past p (Open b) Write s = sym (le-ltb _ _ (omega (arith, count-reads past p (Open b) s, count-writes past p (Open b) s)))

module _ (past : Trace) (p : ℕ) (test : Pair → Bool) where
  done_pass_not : (b : Pair) → IsDone past p b → (not (is_pair_complete past b) && test b) ≡ false
  done_pass_not b d = ap (λ v. not v && test b) d.complete

  -- those that are done don't count
  beyond_done : (b : Barrier) (s : BarrierStands past p b)
      → some_open_pair past p test ≡ list_any (λ v. not (is_pair_complete past v) && test v) (paired (reads_of b) (writes_of b))
  beyond_done b s =
      ap (list_any (λ v. not (is_pair_complete past v) && test v)) (pairs-of past p b s)
      ∙ list_any-append (λ v. not (is_pair_complete past v) && test v) s.done (paired (reads_of b) (writes_of b))
      ∙ ap (λ v. v || list_any (λ v. not (is_pair_complete past v) && test v) (paired (reads_of b) (writes_of b)))
      (list_any_none (λ v. not (is_pair_complete past v) && test v) s.done
      (All-weaker (IsDone past p) (λ v. (not (is_pair_complete past v) && test v) ≡ false) done_pass_not s.done s.are_done))

  still_open : (b : OpenPair) → BarrierStands past p (Open b) → is_pair_complete past (pair_in b) ≡ false
  still_open b s = ap (λ v. v && is_completed past b.write) s.under_way.read ∙ ap (λ v. b.read_answered && v) s.under_way.write ∙ s.under_way.open_still

  or_none : (b : Bool) → (b || false) ≡ b
  or_none true = refl
  or_none false = refl

  pub open_is : (b : Barrier) → BarrierStands past p b → some_open_pair past p test ≡ is_some_and (open_of b) (λ o. test (pair_in o))
  open_is Idle s = beyond_done Idle s
  open_is (ReadHalf x) s = beyond_done (ReadHalf x) s
  open_is (WriteHalf x) s = beyond_done (WriteHalf x) s
  open_is (Open b) s =
      beyond_done (Open b) s ∙ ap (λ v. (not v && test (pair_in b)) || false) (still_open b s) ∙ or_none (test (pair_in b))
