-- Both halves of a barrier break no rule where no barrier of the port is outstanding: each earlier pair of the port is complete.
use Rattle.std.proofs.Common.{◌≡◌, ℕ, zero, suc, ◌≤◌, Bool, true, false, ◌&&◌, ◌||◌, ◌==◌, nat_lt, if◌then◌else◌, List, [], ◌∷◌, ◌++◌, length, take, Some, None, slice_get, is_none, refl, sym, ap, subst, ◌∙◌, inl, inr, le-leb, arith}
use Rattle.std.specs.List.{list_all}
use Rattle.std.proofs.lemmas.Bool.{and_parts, and_from, cases_Bool, eq-eqb, eqb-true, or_cases, or_right}
use Rattle.ace_codes.specs.Places.{is_barrier}
use Rattle.ace_codes.specs.declared.kind.ArKind.TheVariants as read
use Rattle.ace_codes.specs.declared.kind.AwKind.TheVariants as write
use Rattle.ace_codes.specs.Reads.{ar_code, ar_kind_of}
use Rattle.ace_codes.specs.Writes.{aw_code, aw_kind_of}
use Rattle.ace_event.specs.declared.event.Channel.{Channel}
use Rattle.ace_event.specs.declared.event.Channel.TheVariants.{Read, Write}
use Rattle.ace_event.specs.declared.event.Event.{Event}
use Rattle.ace_event.specs.declared.event.Event.TheVariants.{Ar, Aw}
use Rattle.ace_event.specs.declared.header.Header.{Header}
use Rattle.ace_model.specs.declared.transactions.Transaction.{Transaction}
use Rattle.ace_model.specs.Accepted.{IsAccepted}
use Rattle.ace_model.specs.AddressRules.{are_complete, begins_barrier, is_aligned, is_like_half, k2, k3, k9, k10, keeps_apart, may_issue_read, may_issue_write}
use Rattle.ace_model.specs.Barriers.{Pair, barriers, is_barrier_half, is_barrier_of, is_pair_complete, number_of, paired, pairs, partner_of}
use Rattle.ace_model.specs.Kinds.{is_dvm_complete, is_dvm_message, is_lite_read, is_lite_write, is_line_read, is_line_write, is_read_barrier}
use Rattle.ace_model.specs.OrderRules.{k38}
use Rattle.ace_model.specs.Progress.{is_completed}
use Rattle.ace_model.specs.Trace.{Trace, at_point, is_none_or, is_some_and, more}
use Rattle.ace_model.specs.Transactions.{is_ace, is_line, is_outstanding, outstanding}
use Rattle.ace_model.proofs.Barriers.Pairs.{IsHalf, is_barrier_of-is, pairs-halves}
use Rattle.ace_model.proofs.General.Lists.{slice_get-at_end}
use Rattle.ace_model.proofs.Trace.Growth.{IsIssued, at_point-end}
use Rattle.ace_model.proofs.Trace.Outstanding.{read_issued, write_issued}
use Rattle.ace_runs.specs.Bursts.{is_kept}
use Rattle.ace_runs.specs.Requests.{is_free}
use Rattle.ace_runs.proofs.NeverStuck.Barriers.BothAnswered.{undone-outstanding}
use Rattle.ace_runs.proofs.NeverStuck.Barriers.DoneBefore.{completed-grown}
use Rattle.ace_runs.proofs.NeverStuck.Operations.Kept.AsksKept.{ar-kept, aw-kept, implies-none, implies-right}

-- ---- kinds -------------------------------------------------------------------------------------------

by-bar : (P : ℕ → Type 0) (bar : ℕ) → is_barrier bar ≡ true → P 1 → P 3 → P bar
by-bar P bar b one three =
    elim (or_cases (bar == 1) (bar == 3) b) [
      | inl t ↦ subst P (sym (eqb-true bar 1 t)) one
      | inr t ↦ subst P (sym (eqb-true bar 3 t)) three
    ]

pub read-half : (bar : ℕ) → is_barrier bar ≡ true → ar_kind_of (ar_code read.Barrier) 1 bar ≡ Some read.Barrier
unfolding ar_kind_of
read-half bar b = by-bar (λ n. ar_kind_of 0 1 n ≡ Some read.Barrier) bar b refl refl

pub write-half : (bar : ℕ) → is_barrier bar ≡ true → aw_kind_of (aw_code write.Barrier) 1 bar ≡ Some write.Barrier
unfolding aw_kind_of
write-half bar b = by-bar (λ n. aw_kind_of 0 1 n ≡ Some write.Barrier) bar b refl refl

-- ---- lists -------------------------------------------------------------------------------------------

all-from : {A : Type 0} → (test : A → Bool) (xs : List A) → ((k : ℕ) (x : A) → slice_get xs k ≡ Some x → test x ≡ true) → list_all test xs ≡ true
all-from test [] each = refl
all-from test (x ∷ xs) each = and_from _ _ (each 0 x refl) (all-from test xs (λ k y there. each (suc k) y there))

none-past : {A : Type 0} → (xs : List A) (k : ℕ) → length xs ≤ k → slice_get xs k ≡ None
none-past [] k long = refl
none-past (x ∷ xs) zero long = absurd (omega (arith, long))
none-past (x ∷ xs) (suc k) long = none-past xs k (omega (arith, long))

paired-length : (rs ws : List Transaction) → length rs ≡ length ws → length (paired rs ws) ≡ length rs
paired-length [] ws same = refl
paired-length (r ∷ rs) [] same = absurd (omega (arith, same))
paired-length (r ∷ rs) (w ∷ ws) same = let rest = paired-length rs ws (omega (arith, same)) in omega (arith, rest)

-- one more on one channel makes no pair
paired-more : (rs ws : List Transaction) (x : Transaction) → length rs ≡ length ws → paired (rs ++ x ∷ []) ws ≡ paired rs ws
paired-more [] [] x same = refl
paired-more [] (w ∷ ws) x same = absurd (omega (arith, same))
paired-more (r ∷ rs) [] x same = absurd (omega (arith, same))
paired-more (r ∷ rs) (w ∷ ws) x same = ap (λ bs. record { read = r; write = w } ∷ bs) (paired-more rs ws x (omega (arith, same)))

at-end : (past : Trace) → at_point (length past) past ≡ past
at-end past = at_point-end past (length past) refl

-- ---- the halves --------------------------------------------------------------------------------------

-- no half of a barrier of the port is outstanding
abbrev pub HasNoHalf : Header → Trace → ℕ → Type 0
HasNoHalf h past p = (x : Transaction) → IsIssued past x → is_barrier_half x ≡ true → x.port ≡ p → is_outstanding h past x ≡ false

module _ (h : Header) (past : Trace) (p : ℕ) (accepted : IsAccepted h past) (many : length (barriers past p Read) ≡ length (barriers past p Write)) (low : nat_lt p h.ports ≡ true) (no_half : HasNoHalf h past p) where
  half-done : (x : Transaction) (c : Channel) (k : ℕ) → IsHalf past p c k x → is_completed past x ≡ true
  half-done x c k half =
      elim (cases_Bool (is_completed past x)) [
        | inl done ↦ done
        | inr undone ↦
            let out = undone-outstanding h past x accepted half.stands undone in
            let of = is_barrier_of-is x p c half.barrier in
            let bad : false ≡ true = sym (no_half x half.stands of.barrier of.port) ∙ out in cc
      ]

  pair-done : (k : ℕ) (b : Pair) → slice_get (pairs past p) k ≡ Some b → is_pair_complete past b ≡ true
  pair-done k b there =
      let both = pairs-halves past p k b there in
      and_from _ _ (half-done b.read Read k both.read) (half-done b.write Write k both.write)

  -- so many pairs, all complete
  all-complete : (now : Trace) → pairs now p ≡ pairs past p → ((x : Transaction) → is_completed past x ≡ true → is_completed now x ≡ true)
      → are_complete now p (length (barriers past p Read)) ≡ true
  all-complete now same grown =
      let n = length (barriers past p Read) in
      let long : n ≤ length (pairs now p) = let l = paired-length (barriers past p Read) (barriers past p Write) many in let s = ap length same in omega (arith, l, s) in
      let each : list_all (is_pair_complete now) (pairs now p) ≡ true =
      subst (λ bs. list_all (is_pair_complete now) bs ≡ true) (sym same)
      (all-from (is_pair_complete now) (pairs past p) (λ k b there. let done = and_parts (is_completed past b.read) (is_completed past b.write) (pair-done k b there) in
      and_from _ _ (grown b.read done.0) (grown b.write done.1))) in
      and_from _ _ (le-leb n (length (pairs now p)) long) (all-taken (is_pair_complete now) n (pairs now p) each)
    where
      all-taken : {A : Type 0} → (test : A → Bool) (n : ℕ) (xs : List A) → list_all test xs ≡ true → list_all test (take n xs) ≡ true
      all-taken test zero xs all = refl
      all-taken test (suc n) [] all = refl
      all-taken test (suc n) (x ∷ xs) all = let parts = and_parts (test x) (list_all test xs) all in and_from _ _ parts.0 (all-taken test n xs parts.1)

  module _ (bar i : ℕ) (is : is_barrier bar ≡ true) where
    abbrev first : Event
    first = Ar p i 0 (ar_code read.Barrier) 1 bar false

    abbrev half_read : Transaction
    half_read = read_issued past p i 0 (ar_code read.Barrier) 1 bar false

    abbrev now : Trace
    now = first ∷ past

    abbrev half_written : Transaction
    half_written = write_issued now p i 0 (aw_code write.Barrier) 1 bar

    read-number : number_of past half_read ≡ length (barriers past p Read)
    read-number = ap (λ (t : Trace). length (barriers t p Read)) (at-end past)

    -- the half on the read channel begins a pair
    read-begins : begins_barrier past half_read ≡ true
    read-begins =
        let complete : are_complete past p (number_of past half_read) ≡ true = ap (are_complete past p) read-number ∙ all-complete past refl (λ x done. done) in
        let alone : partner_of past half_read ≡ None =
        ap (slice_get (barriers past p Write)) read-number ∙ none-past (barriers past p Write) (length (barriers past p Read)) (let same = many in omega (arith, same)) in
        and_from _ _ (and_from _ _ refl complete) (ap (λ o. is_none_or o (is_like_half half_read)) alone)

    pub read-half-kept : is_free h past p Read i ≡ true → is_kept h past first ≡ true
    read-half-kept free =
        let kind = read-half bar is in
        let none : is_line half_read ≡ false = ap (λ o. is_some_and o is_line_read || false) kind in
        let two : k2 h past first ≡ true = ap (λ o. is_some_and o (may_issue_read h p)) kind ∙ or_right (is_ace h p) (is_lite_read read.Barrier) refl in
        let three : k3 h past first ≡ true = ap (λ o. is_none_or (if is_some_and o is_line_read then Some 0 else None) is_aligned && true) kind in
        let nine : k9 h past first ≡ true =
        and_from _ _ (and_from _ _ (implies-right _ _ read-begins) (implies-none _ _ (ap (λ o. is_some_and o is_dvm_message) kind)))
        (implies-none _ _ (ap (λ o. is_some_and o is_dvm_complete) kind)) in
        let last : k38 h past first ≡ true = implies-none _ _ (ap (λ o. is_some_and o is_dvm_complete) kind) in
        ar-kept h past p i 0 (ar_code read.Barrier) 1 bar false low two three free (implies-none (is_line half_read) _ none) (implies-none (is_line half_read) _ none) refl
        (implies-none (is_line half_read) _ none) nine last

    is-half : is_barrier_half half_read ≡ true
    is-half = ap (λ o. is_some_and o is_read_barrier || false) (read-half bar is)

    reads-now : barriers now p Read ≡ barriers past p Read ++ half_read ∷ []
    reads-now =
        let here : is_barrier_of half_read p Read ≡ true = and_from _ _ (and_from _ _ is-half (eq-eqb p p refl)) refl in
        ap (λ b. more (barriers past p Read) (if b then Some half_read else None)) here

    writes-now : barriers now p Write ≡ barriers past p Write
    writes-now =
        let other : is_barrier_of half_read p Write ≡ false = none-second (is_barrier_half half_read && (p == p)) in
        ap (λ b. more (barriers past p Write) (if b then Some half_read else None)) other
      where
        none-second : (b : Bool) → (b && false) ≡ false
        none-second true = refl
        none-second false = refl

    pairs-now : pairs now p ≡ pairs past p
    pairs-now =
        ap (λ rs. paired rs (barriers now p Write)) reads-now ∙ ap (paired (barriers past p Read ++ half_read ∷ [])) writes-now
        ∙ paired-more (barriers past p Read) (barriers past p Write) half_read many

    write-number : number_of now half_written ≡ length (barriers past p Read)
    write-number = ap (λ (t : Trace). length (barriers t p Write)) (at-end now) ∙ ap length writes-now ∙ sym many

    -- the half on the write channel is like it
    write-begins : begins_barrier now half_written ≡ true
    write-begins =
        let complete : are_complete now p (number_of now half_written) ≡ true =
        ap (are_complete now p) write-number ∙ all-complete now pairs-now (λ x done. completed-grown first past x done) in
        let partner : partner_of now half_written ≡ Some half_read =
        ap (slice_get (barriers now p Read)) write-number ∙ ap (λ xs. slice_get xs (length (barriers past p Read))) reads-now
        ∙ slice_get-at_end (barriers past p Read) (length (barriers past p Read)) half_read refl in
        and_from _ _ (and_from _ _ refl complete) (ap (λ o. is_none_or o (is_like_half half_written)) partner ∙ and_from _ _ (eq-eqb bar bar refl) refl)

    write-free : is_free h past p Write i ≡ true → is_free h now p Write i ≡ true
    write-free free =
        let name : ((p == p) && false && (i == i)) ≡ false = ap (λ b. b && (i == i)) (none-second (p == p)) in
        ap (λ b. is_none (if b then Some half_read else outstanding h past p Write i)) name ∙ free
      where
        none-second : (b : Bool) → (b && false) ≡ false
        none-second true = refl
        none-second false = refl

    pub write-half-kept : is_free h past p Write i ≡ true → is_kept h now (Aw p i 0 (aw_code write.Barrier) 1 bar) ≡ true
    write-half-kept free =
        let e = Aw p i 0 (aw_code write.Barrier) 1 bar in
        let kind = write-half bar is in
        let none : is_line half_written ≡ false = ap (λ o. is_some_and o is_line_write) kind in
        let two : k2 h now e ≡ true = ap (λ o. is_some_and o (may_issue_write h p)) kind ∙ or_right (is_ace h p) (is_lite_write write.Barrier) refl in
        let three : k3 h now e ≡ true = ap (λ o. is_none_or (if is_some_and o is_line_write then Some 0 else None) is_aligned && true) kind in
        let nine : k9 h now e ≡ true = and_from _ _ (and_from _ _ (implies-right _ _ write-begins) refl) refl in
        let ten : k10 h now e ≡ true = ap (λ o. is_none_or o (keeps_apart h now p)) kind in
        aw-kept h now p i 0 (aw_code write.Barrier) 1 bar low two three (write-free free) (implies-none (is_line half_written) _ none) (implies-none (is_line half_written) _ none)
        (implies-none (is_line half_written) _ none) nine ten
