-- Where both halves of a barrier are issued at once, the halves of barriers stay together.
use Rattle.std.proofs.Common.{◌≡◌, ◌⊎◌, ℕ, ◌+◌, ◌<◌, ◌≤◌, Bool, true, false, ◌&&◌, ◌==◌, List, [], ◌∷◌, ◌++◌, length, Some, slice_get, inl, inr, refl, sym, ap, subst, ◌∙◌, arith, length-append}
use Rattle.std.specs.List.{list_all}
use Rattle.std.proofs.lemmas.Bool.{and_parts, and_from, or_cases, or_left, cases_Bool, eqb-true, false_from_ne_true}
use Rattle.std.proofs.lemmas.Option.{slice_get_within}
use Rattle.ace_codes.specs.Places.{is_barrier}
use Rattle.ace_codes.specs.Reads.{ar_code, ar_kind_of}
use Rattle.ace_codes.specs.Writes.{aw_code, aw_kind_of}
use Rattle.ace_codes.specs.declared.kind.ArKind.TheVariants as read
use Rattle.ace_codes.specs.declared.kind.AwKind.TheVariants as write
use Rattle.ace_event.specs.declared.event.Channel.{Channel}
use Rattle.ace_event.specs.declared.event.Channel.TheVariants.{Read, Write}
use Rattle.ace_event.specs.declared.event.Event.{Event}
use Rattle.ace_event.specs.declared.event.Event.TheVariants.{Ar, R, Aw, B, G, M}
use Rattle.ace_model.specs.declared.transactions.Transaction.{Transaction}
use Rattle.ace_model.specs.Barriers.{barriers, is_barrier_half, is_barrier_of}
use Rattle.ace_model.specs.Kinds.{is_read_barrier, is_write_barrier}
use Rattle.ace_model.specs.Progress.{has_had, is_completed, is_completion_event, served_by}
use Rattle.ace_model.specs.Trace.{Trace, is_some_and}
use Rattle.ace_model.specs.Transactions.{is_transaction, issued, same_channel, transaction_of}
use Rattle.ace_model.proofs.General.Lists.{slice_get-more}
use Rattle.ace_model.proofs.General.Options.{Some-injective, is_some_and-is}
use Rattle.ace_model.proofs.Trace.Issued.{issued-place, transaction_of-stands}
use Rattle.ace_model.proofs.Trace.Outstanding.{read_issued, write_issued}
use Rattle.ace_model.proofs.Trace.Served.{had_some}
use Rattle.ace_runs.specs.Bursts.{onto}
use Rattle.ace_runs.specs.Requests.{barrier_halves}
use Rattle.ace_runs.specs.SameEvents.{same_burst, same_event}
use Rattle.ace_runs.proofs.NeverStuck.Steps.SameBursts.{all-as}
use Rattle.ace_runs.proofs.NeverStuck.Steps.SameEvents.{equal-event}
use Rattle.ace_runs.proofs.NeverStuck.Barriers.GoesOn.{AsksBarrier}
use Rattle.ace_runs.proofs.NeverStuck.Barriers.Quiet.{is_quiet, same-quiet}
use Rattle.ace_runs.proofs.NeverStuck.Barriers.Together.{AreTogether, none-second, quiet-together, same-completed}

-- ---- the events --------------------------------------------------------------------------------------

-- The event issues a half of a barrier of the port on the channel.
record IssuesHalf (n p : ℕ) (c : Channel) (e : Event) : Type 0 where
  half : Transaction
  is : issued n e ≡ Some half
  barrier : is_barrier_half half ≡ true
  port : half.port ≡ p
  chan : half.chan ≡ c
  none : is_completion_event e ≡ false

by-bar : (P : ℕ → Type 0) (bar : ℕ) → is_barrier bar ≡ true → P 1 → P 3 → P bar
by-bar P bar b one three =
    elim (or_cases (bar == 1) (bar == 3) b) [
      | inl t ↦ subst P (sym (eqb-true bar 1 t)) one
      | inr t ↦ subst P (sym (eqb-true bar 3 t)) three
    ]

read-barrier : (bar : ℕ) → is_barrier bar ≡ true → is_some_and (ar_kind_of (ar_code read.Barrier) 1 bar) is_read_barrier ≡ true
unfolding ar_kind_of
read-barrier bar b = by-bar (λ n. is_some_and (ar_kind_of 0 1 n) is_read_barrier ≡ true) bar b refl refl

write-barrier : (bar : ℕ) → is_barrier bar ≡ true → is_some_and (aw_kind_of (aw_code write.Barrier) 1 bar) is_write_barrier ≡ true
unfolding aw_kind_of
write-barrier bar b = by-bar (λ n. is_some_and (aw_kind_of 0 1 n) is_write_barrier ≡ true) bar b refl refl

issues-read : (past : Trace) (p i bar : ℕ) (e : Event) → is_barrier bar ≡ true → same_event (Ar p i 0 (ar_code read.Barrier) 1 bar false) e ≡ true → IssuesHalf (length past) p Read e
issues-read past p i bar e is same =
    subst (λ v. IssuesHalf (length past) p Read v) (equal-event (Ar p i 0 (ar_code read.Barrier) 1 bar false) e same refl)
    (record { half = read_issued past p i 0 (ar_code read.Barrier) 1 bar false; is = refl; barrier = or_left _ _ (read-barrier bar is); port = refl; chan = refl; none = refl })

issues-write : (past : Trace) (p i bar : ℕ) (e : Event) → is_barrier bar ≡ true → same_event (Aw p i 0 (aw_code write.Barrier) 1 bar) e ≡ true → IssuesHalf (length past) p Write e
issues-write past p i bar e is same =
    subst (λ v. IssuesHalf (length past) p Write v) (equal-event (Aw p i 0 (aw_code write.Barrier) 1 bar) e same refl)
    (record { half = write_issued past p i 0 (aw_code write.Barrier) 1 bar; is = refl; barrier = write-barrier bar is; port = refl; chan = refl; none = refl })

-- ---- the halves --------------------------------------------------------------------------------------

half-of : (x : Transaction) (p q : ℕ) (c d : Channel) → is_barrier_half x ≡ true → x.port ≡ p → x.chan ≡ c → is_barrier_of x q d ≡ ((p == q) && same_channel c d)
half-of x p q c d half port chan = rw (half, port, chan) refl

added : (past : Trace) (e : Event) (p q : ℕ) (c d : Channel) (i : IssuesHalf (length past) p c e) → ((p == q) && same_channel c d) ≡ true
    → barriers (e ∷ past) q d ≡ barriers past q d ++ i.half ∷ []
added past e p q c d i t =
    let of : is_barrier_of i.half q d ≡ true = half-of i.half p q c d i.barrier i.port i.chan ∙ t in rw (i.is, of) refl

not-added : (past : Trace) (e : Event) (p q : ℕ) (c d : Channel) (i : IssuesHalf (length past) p c e) → ((p == q) && same_channel c d) ≡ false
    → barriers (e ∷ past) q d ≡ barriers past q d
not-added past e p q c d i f =
    let of : is_barrier_of i.half q d ≡ false = half-of i.half p q c d i.barrier i.port i.chan ∙ f in rw (i.is, of) refl

longer : (xs : List Transaction) (x : Transaction) → length (xs ++ x ∷ []) ≡ length xs + 1
longer xs x = length-append xs (x ∷ [])

early : (before : Trace) (p : ℕ) (c : Channel) (i : ℕ) (x : Transaction) → is_transaction (transaction_of before p c i) x ≡ true → x.place < length before
early before p c i x t =
    let z = is_some_and-is (transaction_of before p c i) (λ z. z.place == x.place) t in
    let low = (transaction_of-stands before p c i z.0 z.1).before in
    let same = eqb-true z.0.place x.place z.2 in
    omega (arith, low, same)

-- an event belongs to a transaction that came before it
served-early : (before : Trace) (e : Event) (x : Transaction) → is_transaction (served_by before e) x ≡ true → x.place < length before
served-early before (R q i resp last word) x t = early before q Read i x t
served-early before (B q i resp) x t = early before q Write i x t
served-early before (G q c i) x t = early before q c i x t
served-early before (M q c i line) x t = early before q c i x t
served-early before e x t = cc

-- so what isn't issued yet has had none
not-yet : (test : Event → Bool) (past : Trace) (x : Transaction) → length past ≤ x.place → has_had test past x ≡ false
not-yet test past x high =
    false_from_ne_true (has_had test past x) (λ had.
    let low = had_some test (λ (t : Trace). x.place < length t) past x (λ later e before passes belongs.
    let early = served-early before e x belongs in
    let whole = length-append later (e ∷ before) in
    omega (arith, early, whole)) had in
    omega (arith, low, high))

module _ (past : Trace) (p : ℕ) (e f : Event) (t : AreTogether past) (r : IssuesHalf (length past) p Read e) (w : IssuesHalf (length (e ∷ past)) p Write f) where
  abbrev later : Trace
  later = f ∷ e ∷ past

  -- what was complete is so, and nothing else
  same : (x : Transaction) → is_completed later x ≡ is_completed past x
  same x =
      same-completed (e ∷ past) f x (ap (λ b. b && is_transaction (served_by (e ∷ past) f) x) w.none)
      ∙ same-completed past e x (ap (λ b. b && is_transaction (served_by past e) x) r.none)

  reads-there : (q : ℕ) → (p == q) ≡ true → barriers later q Read ≡ barriers past q Read ++ r.half ∷ []
  reads-there q m =
      not-added (e ∷ past) f p q Write Read w (none-second (p == q)) ∙ added past e p q Read Read r (and_from _ _ m refl)

  writes-there : (q : ℕ) → (p == q) ≡ true → barriers later q Write ≡ barriers past q Write ++ w.half ∷ []
  writes-there q m =
      added (e ∷ past) f p q Write Write w (and_from _ _ m refl) ∙ ap (λ xs. xs ++ w.half ∷ []) (not-added past e p q Read Write r (none-second (p == q)))

  others-same : (q : ℕ) (c : Channel) → (p == q) ≡ false → barriers later q c ≡ barriers past q c
  others-same q c m =
      not-added (e ∷ past) f p q Write c w (ap (λ b. b && same_channel Write c) m) ∙ not-added past e p q Read c r (ap (λ b. b && same_channel Read c) m)

  as-many : (q : ℕ) → length (barriers later q Read) ≡ length (barriers later q Write)
  as-many q =
      elim (cases_Bool (p == q)) [
        | inl m ↦
            ap length (reads-there q m) ∙ longer (barriers past q Read) r.half ∙ ap (λ n. n + 1) (t.as_many q)
            ∙ sym (ap length (writes-there q m) ∙ longer (barriers past q Write) w.half)
        | inr m ↦ ap length (others-same q Read m) ∙ t.as_many q ∙ sym (ap length (others-same q Write m))
      ]

  new-undone : (x : Transaction) → length past ≤ x.place → is_completed past x ≡ false
  new-undone x low = not-yet is_completion_event past x low

  both-new : (k : ℕ) (q : ℕ) (x y : Transaction) → (slice_get (barriers past q Read) k ≡ Some x) ⊎ ((k ≡ length (barriers past q Read)) × (Some r.half ≡ Some x))
      → (slice_get (barriers past q Write) k ≡ Some y) ⊎ ((k ≡ length (barriers past q Write)) × (Some w.half ≡ Some y)) → is_completed past x ≡ is_completed past y
  both-new k q x y (inl a) (inl b) = t.both q k x y a b
  both-new k q x y (inl a) (inr b) = let low = slice_get_within (barriers past q Read) k x a in let many = t.as_many q in absurd (omega (arith, low, many, b.0))
  both-new k q x y (inr a) (inl b) = let low = slice_get_within (barriers past q Write) k y b in let many = t.as_many q in absurd (omega (arith, low, many, a.0))
  both-new k q x y (inr a) (inr b) =
      let px = issued-place (length past) e r.half r.is in
      let py = issued-place (length (e ∷ past)) f w.half w.is in
      let ux = new-undone r.half (omega (arith, px)) in
      let uy = new-undone w.half (omega (arith, py)) in
      ap (is_completed past) (sym (Some-injective r.half x a.1)) ∙ ux ∙ sym uy ∙ ap (is_completed past) (Some-injective w.half y b.1)

  both-of : (q k : ℕ) (x y : Transaction) → slice_get (barriers later q Read) k ≡ Some x → slice_get (barriers later q Write) k ≡ Some y → is_completed past x ≡ is_completed past y
  both-of q k x y a b =
      elim (cases_Bool (p == q)) [
        | inl m ↦
            both-new k q x y (slice_get-more (barriers past q Read) (Some r.half) k x (ap (λ xs. slice_get xs k) (sym (reads-there q m)) ∙ a))
            (slice_get-more (barriers past q Write) (Some w.half) k y (ap (λ xs. slice_get xs k) (sym (writes-there q m)) ∙ b))
        | inr m ↦ t.both q k x y (ap (λ xs. slice_get xs k) (sym (others-same q Read m)) ∙ a) (ap (λ xs. slice_get xs k) (sym (others-same q Write m)) ∙ b)
      ]

  issued-together : AreTogether later
  issued-together = record { as_many = as-many; both = λ q k x y a b. same x ∙ both-of q k x y a b ∙ sym (same y) }

-- ---- the burst ---------------------------------------------------------------------------------------

halves-issued : (past : Trace) (p i bar : ℕ) (rest burst : List Event) → AreTogether past → is_barrier bar ≡ true → list_all is_quiet rest ≡ true
    → same_burst (barrier_halves p bar i ++ rest) burst ≡ true → AreTogether (onto burst past)
halves-issued past p i bar rest [] t is quiet same = cc
halves-issued past p i bar rest (e ∷ []) t is quiet same = let bad = (and_parts _ false same).1 in cc
halves-issued past p i bar rest (e ∷ f ∷ burst) t is quiet same =
    let first = and_parts (same_event (Ar p i 0 (ar_code read.Barrier) 1 bar false) e) _ same in
    let second = and_parts (same_event (Aw p i 0 (aw_code write.Barrier) 1 bar) f) (same_burst rest burst) first.1 in
    quiet-together burst (f ∷ e ∷ past)
    (issued-together past p e f t (issues-read past p i bar e is first.0) (issues-write (e ∷ past) p i bar f is second.0))
    (all-as is_quiet same-quiet rest burst second.1 quiet)

pub barrier-together : (past : Trace) (p : ℕ) (burst : List Event) → AreTogether past → AsksBarrier p burst → AreTogether (onto burst past)
barrier-together past p burst t a = halves-issued past p a.id a.bar a.rest burst t a.is a.quiet a.same
