-- The halves of barrier pairs are answered together: they stay so at each event that completes no half, and with the R and the B of a pair.
use Rattle.std.proofs.Common.{◌≡◌, ◌⊎◌, ℕ, ◌+◌, Bool, true, false, not, ◌&&◌, ◌||◌, List, [], ◌∷◌, ◌++◌, length, length-append, map, Option, Some, None, slice_get, refl, sym, ap, ◌∙◌, inl, inr, arith}
use Rattle.std.specs.List.{list_all}
use Rattle.std.proofs.lemmas.Bool.{and_parts, cases_Bool}
use Rattle.std.proofs.lemmas.List.{length-map}
use Rattle.std.proofs.lemmas.Option.{slice_get_within}
use Rattle.ace_event.specs.declared.event.Channel.{Channel}
use Rattle.ace_event.specs.declared.event.Channel.TheVariants.{Read, Write}
use Rattle.ace_event.specs.declared.event.Event.{Event}
use Rattle.ace_event.specs.declared.event.Event.TheVariants.{R, B, Ac, Mem}
use Rattle.ace_model.specs.declared.transactions.Transaction.{Transaction}
use Rattle.ace_model.specs.Barriers.{Pair, barriers, is_barrier_half, is_barrier_of}
use Rattle.ace_model.specs.Progress.{is_completed, is_completion_event, served_by}
use Rattle.ace_model.specs.Trace.{Trace, is_some_and, option_filter}
use Rattle.ace_model.specs.Transactions.{is_line, is_transaction, issued, transaction_of}
use Rattle.ace_model.proofs.Barriers.Pairs.{pairs-halves}
use Rattle.ace_model.proofs.General.Lists.{slice_get-more}
use Rattle.ace_model.proofs.General.Options.{Some-injective, option_filter-is}
use Rattle.ace_model.proofs.Trace.Growth.{IsIssued, named-issued}
use Rattle.ace_model.proofs.Trace.Issued.{issued-place}
use Rattle.ace_runs.specs.Bursts.{onto}
use Rattle.ace_runs.proofs.NeverStuck.Barriers.Halves.{line-no-half}
use Rattle.ace_runs.proofs.NeverStuck.Barriers.OpenPairs.{paired-at}
use Rattle.ace_runs.proofs.NeverStuck.Barriers.Together.{half-in, none-second, other-served, same-completed}
use Rattle.ace_runs.proofs.NeverStuck.Forwarding.Bursts.{is_forwarding}
use Rattle.ace_runs.proofs.NeverStuck.Forwarding.NextMessage.{get-right}
use Rattle.ace_runs.proofs.NeverStuck.Reads.PlainTransfers.{half-there}
use Rattle.ace_engine.specs.Engines.{is_of_order}
use Rattle.ace_sysck.specs.declared.barriers.Barrier.{Barrier}
use Rattle.ace_sysck.specs.declared.barriers.Barrier.TheVariants.{Idle, ReadHalf, WriteHalf, Open}
use Rattle.ace_sysck.specs.Barriers.{BarrierStands, read_half, write_half}
use Rattle.ace_sysck.proofs.BarrierSteps.{issue-hits, new-incomplete}
use Rattle.ace_order.specs.Order.{AreAnsweredTogether}

-- ---- events that complete no half --------------------------------------------------------------------

abbrev pub CompletesNone : Trace → Event → Type 0
CompletesNone past e = (z : Transaction) → IsIssued past z → is_barrier_half z ≡ true → (is_completion_event e && is_transaction (served_by past e) z) ≡ false

served-line : (past : Trace) (q : ℕ) (c : Channel) (i : ℕ) (z : Transaction) → is_some_and (transaction_of past q c i) (λ x. not (is_line x)) ≡ false
    → IsIssued past z → is_barrier_half z ≡ true → is_transaction (transaction_of past q c i) z ≡ false
served-line past q c i z none iz half = by (transaction_of past q c i) refl none
  where
    by : (o : Option Transaction) → transaction_of past q c i ≡ o → is_some_and o (λ x. not (is_line x)) ≡ false → is_transaction o z ≡ false
    by None is all = refl
    by (Some x) is all =
        elim (cases_Bool (is_line x)) [
          | inl line ↦ other-served past x z (Some x) refl (named-issued past q c i x is) iz (line-no-half x line) half
          | inr f ↦ let bad : true ≡ false = sym (ap not f) ∙ all in cc
        ]

-- those of the other engines and of masters
pub others-complete-none : (past : Trace) (e : Event) → is_of_order past e ≡ false → CompletesNone past e
others-complete-none past (R q i resp last word) none z iz half = ap (λ b. last && b) (served-line past q Read i z none iz half) ∙ none-second last
others-complete-none past (B q i resp) none z iz half = served-line past q Write i z none iz half
others-complete-none past e none z iz half = refl

-- the response of a transaction that is no barrier
pub other-response : (past : Trace) (x : Transaction) (p i resp : ℕ) (last : Bool) (word : ℕ) → transaction_of past p Read i ≡ Some x → is_barrier_half x ≡ false
    → CompletesNone past (R p i resp last word)
other-response past x p i resp last word named none z iz half =
    ap (λ b. last && b) (other-served past x z (transaction_of past p Read i) named (named-issued past p Read i x named) iz none half) ∙ none-second last

-- ---- a half without its partner ----------------------------------------------------------------------

module _ (past : Trace) (p k : ℕ) where
  count-reads : (b : Barrier) (s : BarrierStands past p b) (ys : List Transaction) → barriers past p Read ≡ map read_half s.done ++ ys → length (barriers past p Read) ≡ length s.done + length ys
  count-reads b s ys is = ap length is ∙ length-append (map read_half s.done) ys ∙ ap (λ n. n + length ys) (length-map s.done read_half)

  count-writes : (b : Barrier) (s : BarrierStands past p b) (ys : List Transaction) → barriers past p Write ≡ map write_half s.done ++ ys → length (barriers past p Write) ≡ length s.done + length ys
  count-writes b s ys is = ap length is ∙ length-append (map write_half s.done) ys ∙ ap (λ n. n + length ys) (length-map s.done write_half)

  -- the last of the list is the half that the barrier has
  last-is : (done : List Pair) (half : Pair → Transaction) (z y : Transaction) → k ≡ length done → slice_get (map half done ++ z ∷ []) k ≡ Some y → z ≡ y
  last-is done half z y at there =
      Some-injective z y (sym (get-right (map half done) (z ∷ [])) ∙ ap (slice_get (map half done ++ z ∷ [])) (length-map done half ∙ sym at) ∙ there)

  lone-write : (b : Barrier) (y : Transaction) → BarrierStands past p b → k ≡ length (barriers past p Read) → slice_get (barriers past p Write) k ≡ Some y → is_completed past y ≡ false
  lone-write Idle y s at there =
      let low = slice_get_within (barriers past p Write) k y there in
      let r = count-reads Idle s [] s.reads in let w = count-writes Idle s [] s.writes in absurd (omega (arith, low, r, w, at))
  lone-write (ReadHalf x) y s at there =
      let low = slice_get_within (barriers past p Write) k y there in
      let r = count-reads (ReadHalf x) s (x ∷ []) s.reads in let w = count-writes (ReadHalf x) s [] s.writes in absurd (omega (arith, low, r, w, at))
  lone-write (Open o) y s at there =
      let low = slice_get_within (barriers past p Write) k y there in
      let r = count-reads (Open o) s (o.read ∷ []) s.reads in let w = count-writes (Open o) s (o.write ∷ []) s.writes in absurd (omega (arith, low, r, w, at))
  lone-write (WriteHalf z) y s at there =
      let r = count-reads (WriteHalf z) s [] s.reads in
      let same = last-is s.done write_half z y (omega (arith, r, at)) (ap (λ xs. slice_get xs k) (sym s.writes) ∙ there) in
      ap (is_completed past) (sym same) ∙ s.under_way

  lone-read : (b : Barrier) (x : Transaction) → BarrierStands past p b → k ≡ length (barriers past p Write) → slice_get (barriers past p Read) k ≡ Some x → is_completed past x ≡ false
  lone-read Idle x s at there =
      let low = slice_get_within (barriers past p Read) k x there in
      let r = count-reads Idle s [] s.reads in let w = count-writes Idle s [] s.writes in absurd (omega (arith, low, r, w, at))
  lone-read (WriteHalf z) x s at there =
      let low = slice_get_within (barriers past p Read) k x there in
      let r = count-reads (WriteHalf z) s [] s.reads in let w = count-writes (WriteHalf z) s (z ∷ []) s.writes in absurd (omega (arith, low, r, w, at))
  lone-read (Open o) x s at there =
      let low = slice_get_within (barriers past p Read) k x there in
      let r = count-reads (Open o) s (o.read ∷ []) s.reads in let w = count-writes (Open o) s (o.write ∷ []) s.writes in absurd (omega (arith, low, r, w, at))
  lone-read (ReadHalf z) x s at there =
      let w = count-writes (ReadHalf z) s [] s.writes in
      let same = last-is s.done read_half z x (omega (arith, w, at)) (ap (λ xs. slice_get xs k) (sym s.reads) ∙ there) in
      ap (is_completed past) (sym same) ∙ s.under_way

-- ---- the next event ----------------------------------------------------------------------------------

-- a half that is issued now isn't complete
fresh : (past : Trace) (e : Event) (x : Transaction) → issued (length past) e ≡ Some x → is_completed (e ∷ past) x ≡ false
fresh past e x new = ap (λ b. b || is_completed past x) (issue-hits past e x x new) ∙ new-incomplete past x (issued-place (length past) e x new)

-- the half was there before, or is issued now
abbrev WasOrIs : Trace → Event → ℕ → Channel → ℕ → Transaction → Type 0
WasOrIs past e p c k x =
    (slice_get (barriers past p c) k ≡ Some x) ⊎ ((k ≡ length (barriers past p c)) × (option_filter (λ y. is_barrier_of y p c) (issued (length past) e) ≡ Some x))

-- each pair stays answered together, where the event completes no half
pub together-next : (past : Trace) (e : Event) → ((p : ℕ) → (b : Barrier) × BarrierStands past p b) → AreAnsweredTogether past → CompletesNone past e → AreAnsweredTogether (e ∷ past)
together-next past e stand t none p k b there =
    let halves = pairs-halves (e ∷ past) p k b there in
    let r = half-there (e ∷ past) p Read k b.read halves.read in
    let w = half-there (e ∷ past) p Write k b.write halves.write in
    by (slice_get-more (barriers past p Read) (option_filter (λ y. is_barrier_of y p Read) (issued (length past) e)) k b.read r)
    (slice_get-more (barriers past p Write) (option_filter (λ y. is_barrier_of y p Write) (issued (length past) e)) k b.write w)
  where
    new-one : (c : Channel) (x : Transaction) → option_filter (λ y. is_barrier_of y p c) (issued (length past) e) ≡ Some x → is_completed (e ∷ past) x ≡ false
    new-one c x new = fresh past e x (option_filter-is (λ y. is_barrier_of y p c) (issued (length past) e) x new).0

    old-one : (c : Channel) (x : Transaction) → slice_get (barriers past p c) k ≡ Some x → is_completed (e ∷ past) x ≡ is_completed past x
    old-one c x there = let i = half-in past p c k x there in same-completed past e x (none x i.0 i.1)

    by : WasOrIs past e p Read k b.read → WasOrIs past e p Write k b.write → is_completed (e ∷ past) b.read ≡ is_completed (e ∷ past) b.write
    by (inl r) (inl w) =
        old-one Read b.read r ∙ t p k b (paired-at (barriers past p Read) (barriers past p Write) k b.read b.write r w) ∙ sym (old-one Write b.write w)
    by (inr r) (inl w) =
        new-one Read b.read r.1 ∙ sym (old-one Write b.write w ∙ lone-write past p k (stand p).0 b.write (stand p).1 r.0 w)
    by (inl r) (inr w) =
        old-one Read b.read r ∙ lone-read past p k (stand p).0 b.read (stand p).1 w.0 r ∙ sym (new-one Write b.write w.1)
    by (inr r) (inr w) = new-one Read b.read r.1 ∙ sym (new-one Write b.write w.1)

-- an AC changes nothing of them
pub together-forwarding : (burst : List Event) (past : Trace) → list_all is_forwarding burst ≡ true → AreAnsweredTogether past → AreAnsweredTogether (onto burst past)
together-forwarding [] past all t = t
together-forwarding (Ac p addr snoop ∷ burst) past all t =
    together-forwarding burst (Ac p addr snoop ∷ past) (and_parts (is_forwarding (Ac p addr snoop)) (list_all is_forwarding burst) all).1 t
together-forwarding (Mem addr line ∷ burst) past all t = together-forwarding burst (Mem addr line ∷ past) (and_parts true (list_all is_forwarding burst) all).1 t
together-forwarding (e ∷ burst) past all t = cc
