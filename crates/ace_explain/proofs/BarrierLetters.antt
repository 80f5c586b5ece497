-- The clauses of K9 that are named of the half of a barrier, by what is kept of the port's newest barrier.
use Rattle.std.proofs.Common.{◌≡◌, ℕ, ◌+◌, Bool, true, false, ◌&&◌, ◌||◌, ◌==◌, nat_le, List, [], ◌∷◌, ◌++◌, length, take, Option, Some, None, refl, sym, ap, ◌∙◌, arith, inl, inr, length-append}
use Rattle.std.specs.List.{All, list_all}
use Rattle.std.proofs.lemmas.Bool.{cases_Bool, le-leb, lt-leb, and_right}
use Rattle.std.proofs.lemmas.List.{append-nil, take_at, take_all}
use Rattle.std.proofs.lemmas.List.Elements.{All-weaker}
use Rattle.std.proofs.lemmas.List.Folds.{list_all-append}
use Rattle.std.proofs.lemmas.List.Sums.{list_all-from_AllPass}
use Rattle.ace_codes.specs.declared.kind.ArKind.{ArKind}
use Rattle.ace_codes.specs.declared.kind.ArKind.TheVariants.{Barrier as BarrierRead}
use Rattle.ace_event.specs.declared.event.Channel.{Channel}
use Rattle.ace_event.specs.declared.event.Channel.TheVariants.{Read, Write}
use Rattle.ace_event.specs.declared.event.Event.{Event}
use Rattle.ace_model.specs.declared.transactions.Transaction.{Transaction}
use Rattle.ace_model.specs.Trace.{Trace}
use Rattle.ace_model.specs.Kinds.{is_read_barrier}
use Rattle.ace_model.specs.Progress.{is_completed}
use Rattle.ace_model.specs.Transactions.{is_read, issued, read_kind, write_kind}
use Rattle.ace_model.specs.Barriers.{Pair, barriers, pairs, is_pair_complete, is_barrier_half, number_of}
use Rattle.ace_model.specs.Messages.{is_message_part, is_dvm_completion}
use Rattle.ace_model.proofs.Trace.Growth.{at_point-end}
use Rattle.ace_model.proofs.Trace.Issued.{issued-place}
use Rattle.ace_portck.specs.Targets.{Recording}
use Rattle.ace_sysck.specs.declared.barriers.Barrier.TheVariants.{Idle, ReadHalf, WriteHalf, Open}
use Rattle.ace_sysck.specs.declared.barriers.OpenPair.{OpenPair}
use Rattle.ace_sysck.specs.Barriers.{BarrierStands, IsDone, pair_in}
use Rattle.ace_sysck.proofs.BarrierRules.{pairs-of, count-reads, count-writes}
use Rattle.ace_clauses.specs.AddressClauses.{has_whole_pairs, has_answered_pairs, fits_partner}
use Rattle.ace_clauses.specs.declared.letters.Letter.TheVariants as letter
use Rattle.ace_explain.specs.Names.{Names}
use Rattle.ace_explain.proofs.Broken.{has_clause, last_one}

-- pairs that are done are complete
all_complete : (past : Trace) (p : ℕ) (done : List Pair) → All (IsDone past p) done → list_all (is_pair_complete past) done ≡ true
all_complete past p done all =
    list_all-from_AllPass (is_pair_complete past) done (All-weaker (IsDone past p) (λ b. is_pair_complete past b ≡ true) (λ b d. d.complete) done all)

-- of so many pairs, where these are done and those are the rest
module _ (past : Trace) (p n : ℕ) (done rest : List Pair) (all : All (IsDone past p) done) (is : pairs past p ≡ done ++ rest) where
  -- all were issued, and all are complete
  as_many : n ≡ length done → (nat_le n (length (pairs past p)) ≡ true) × (list_all (is_pair_complete past) (take n (pairs past p)) ≡ true)
  as_many count =
      let long = length-append done rest in (
        rw is (le-leb n (length (done ++ rest)) (omega arith)),
        rw is (ap (list_all (is_pair_complete past)) (take_at done rest n (sym count)) ∙ all_complete past p done all),
      )

  -- one more than there are was not
  too_many : rest ≡ [] → n ≡ length done + 1 → nat_le n (length (pairs past p)) ≡ false
  too_many none count = rw (is, none, append-nil done) (lt-leb n (length done) (omega arith))

  -- one more was issued, and isn't complete
  one_open : (b : Pair) → rest ≡ b ∷ [] → is_pair_complete past b ≡ false → n ≡ length done + 1
      → (nat_le n (length (pairs past p)) ≡ true) × (list_all (is_pair_complete past) (take n (pairs past p)) ≡ false)
  one_open b one open_still count =
      let long = length-append done (b ∷ []) in (
        rw (is, one) (le-leb n (length (done ++ b ∷ [])) (omega arith)),
        rw (is, one) (ap (list_all (is_pair_complete past)) (take_all n (done ++ b ∷ []) (omega arith))
            ∙ list_all-append (is_pair_complete past) done (b ∷ [])
            ∙ and_right (list_all (is_pair_complete past) done) (list_all (is_pair_complete past) (b ∷ [])) (ap (λ v. v && true) open_still)),
      )

-- a half of a barrier is no part of a message and no completion
half_is_no_dvm : (x : Transaction) → is_barrier_half x ≡ true → (is_message_part x ≡ false) × (is_dvm_completion x ≡ false)
half_is_no_dvm x half = by (read_kind x) refl
  where
    writes_none : (k : ArKind) → read_kind x ≡ Some k → write_kind x ≡ None
    writes_none k is =
        elim (cases_Bool (is_read x.chan)) [
          | inl t ↦ rw t refl
          | inr f ↦ let bad : None ≡ Some k = rw f at is in cc
        ]

    other : (k : ArKind) → read_kind x ≡ Some k → is_read_barrier k ≡ true
    other k is = let none = writes_none k is in both (is_read_barrier k) (rw (is, none) at half)
      where
        both : (b : Bool) → (b || false) ≡ true → b ≡ true
        both b t = grind arith

    by : (o : Option ArKind) → read_kind x ≡ o → (is_message_part x ≡ false) × (is_dvm_completion x ≡ false)
    by None is = (rw is refl, rw is refl)
    by (Some BarrierRead) is = (rw is refl, rw is refl)
    by (Some k) is = let bad = other k is in cc

module _ (r : Recording) (e : Event) (x : Transaction) (is : issued (length r.past) e ≡ Some x) (half : is_barrier_half x ≡ true) where
  pub addressed_half : (x.addr == 0) ≡ false → Names r e 9 letter.A
  addressed_half address least = rw (is, half, address) refl

  place : x.place ≡ length r.past
  place = issued-place (length r.past) e x is

  count : (c : Channel) → x.chan ≡ c → number_of r.past x ≡ length (barriers r.past x.port c)
  count c on = ap (λ v. length (barriers v x.port x.chan)) (at_point-end r.past x.place place) ∙ ap (λ d. length (barriers r.past x.port d)) on

  module _ (zero : (x.addr == 0) ≡ true) where
    lacks_half : has_whole_pairs r.past x ≡ false → Names r e 9 letter.B
    lacks_half whole least = rw (is, half, zero, whole) refl

    unanswered : (has_whole_pairs r.past x ≡ true) × (has_answered_pairs r.past x ≡ false) → Names r e 9 letter.C
    unanswered so least = rw (is, half, zero, so.0, so.1) refl

    unlike : (has_whole_pairs r.past x ≡ true) × (has_answered_pairs r.past x ≡ true) → Names r e 9 letter.D
    unlike so least =
        let no = half_is_no_dvm x half in
        rw (is, half, zero, so.0, so.1, no.0, no.1)
        (last_one (fits_partner r.past x) letter.D (rw (is, half, zero, so.0, so.1, no.0, no.1) at (has_clause r.header r.past e 9 least)))

    -- by the barrier of the port
    pub after_read_half : (y : Transaction) → BarrierStands r.past x.port (ReadHalf y) → x.chan ≡ Read → Names r e 9 letter.B
    after_read_half y s on =
        let n = count Read on in let c = count-reads r.past x.port (ReadHalf y) s in
        lacks_half (too_many r.past x.port (number_of r.past x) s.done [] s.are_done (pairs-of r.past x.port (ReadHalf y) s) refl (omega arith))

    pub after_write_half : (y : Transaction) → BarrierStands r.past x.port (WriteHalf y) → x.chan ≡ Write → Names r e 9 letter.B
    after_write_half y s on =
        let n = count Write on in let c = count-writes r.past x.port (WriteHalf y) s in
        lacks_half (too_many r.past x.port (number_of r.past x) s.done [] s.are_done (pairs-of r.past x.port (WriteHalf y) s) refl (omega arith))

    pub write_after_read : (y : Transaction) → BarrierStands r.past x.port (ReadHalf y) → x.chan ≡ Write → Names r e 9 letter.D
    write_after_read y s on =
        let n = count Write on in let c = count-writes r.past x.port (ReadHalf y) s in
        unlike (as_many r.past x.port (number_of r.past x) s.done [] s.are_done (pairs-of r.past x.port (ReadHalf y) s) (omega arith))

    pub read_after_write : (y : Transaction) → BarrierStands r.past x.port (WriteHalf y) → x.chan ≡ Read → Names r e 9 letter.D
    read_after_write y s on =
        let n = count Read on in let c = count-reads r.past x.port (WriteHalf y) s in
        unlike (as_many r.past x.port (number_of r.past x) s.done [] s.are_done (pairs-of r.past x.port (WriteHalf y) s) (omega arith))

    -- by either channel
    by_channel : (c : Channel) → x.chan ≡ c → {A : Type 0} → (x.chan ≡ Read → A) → (x.chan ≡ Write → A) → A
    by_channel Read on reads writes = reads on
    by_channel Write on reads writes = writes on

    pub after_none : BarrierStands r.past x.port Idle → Names r e 9 letter.D
    after_none s =
        by_channel x.chan refl
        (λ on. let n = count Read on in let c = count-reads r.past x.port Idle s in
        unlike (as_many r.past x.port (number_of r.past x) s.done [] s.are_done (pairs-of r.past x.port Idle s) (omega arith)))
        (λ on. let n = count Write on in let c = count-writes r.past x.port Idle s in
        unlike (as_many r.past x.port (number_of r.past x) s.done [] s.are_done (pairs-of r.past x.port Idle s) (omega arith)))

    pub after_open : (b : OpenPair) → BarrierStands r.past x.port (Open b) → Names r e 9 letter.C
    after_open b s =
        let open_still : is_pair_complete r.past (pair_in b) ≡ false =
        ap (λ v. v && is_completed r.past b.write) s.under_way.read ∙ ap (λ v. b.read_answered && v) s.under_way.write ∙ s.under_way.open_still in
        by_channel x.chan refl
        (λ on. let n = count Read on in let c = count-reads r.past x.port (Open b) s in
        unanswered (one_open r.past x.port (number_of r.past x) s.done (pair_in b ∷ []) s.are_done (pairs-of r.past x.port (Open b) s) (pair_in b) refl open_still (omega arith)))
        (λ on. let n = count Write on in let c = count-writes r.past x.port (Open b) s in
        unanswered (one_open r.past x.port (number_of r.past x) s.done (pair_in b ∷ []) s.are_done (pairs-of r.past x.port (Open b) s) (pair_in b) refl open_still (omega arith)))
