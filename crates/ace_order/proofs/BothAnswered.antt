-- The R and the B of a barrier pair leave the halves of all pairs answered together.
use Rattle.std.proofs.Common.{◌≡◌, ℕ, true, false, ◌||◌, ◌==◌, ◌∷◌, length, Some, slice_get, refl, sym, ap, subst, ◌∙◌, inl, inr}
use Rattle.std.proofs.lemmas.Bool.{cases_Bool, eqb-true, eq-eqb, ne_eqb}
use Rattle.ace_event.specs.declared.event.Channel.{Channel}
use Rattle.ace_event.specs.declared.event.Channel.TheVariants.{Read, Write}
use Rattle.ace_event.specs.declared.event.Event.TheVariants.{R, B}
use Rattle.ace_model.specs.declared.transactions.Transaction.{Transaction}
use Rattle.ace_model.specs.Barriers.{Pair, barriers, pairs}
use Rattle.ace_model.specs.Progress.{is_completed}
use Rattle.ace_model.specs.Trace.{Trace, at_point}
use Rattle.ace_model.specs.Transactions.{transaction_of}
use Rattle.ace_model.proofs.Barriers.Pairs.{barriers-half, is_barrier_of-is, pairs-halves}
use Rattle.ace_model.proofs.General.Options.{Some-injective}
use Rattle.ace_runs.proofs.NeverStuck.Barriers.Together.{half-in, one-place}
use Rattle.ace_runs.proofs.NeverStuck.Reads.PlainTransfers.{half-there}
use Rattle.ace_order.specs.Order.{AreAnsweredTogether}

same-port : (past : Trace) (p q : ℕ) (c : Channel) (k m : ℕ) (x y : Transaction) → slice_get (barriers past p c) k ≡ Some x → slice_get (barriers past q c) m ≡ Some y → x ≡ y → p ≡ q
same-port past p q c k m x y a b same =
    let i = is_barrier_of-is x p c (barriers-half past p c k x a).barrier in
    let j = is_barrier_of-is y q c (barriers-half past q c m y b).barrier in
    sym i.port ∙ ap (λ (v : Transaction). v.port) same ∙ j.port

same-number : (past : Trace) (p : ℕ) (c : Channel) (k m : ℕ) (x y : Transaction) → slice_get (barriers past p c) k ≡ Some x → slice_get (barriers past p c) m ≡ Some y → x ≡ y → k ≡ m
same-number past p c k m x y a b same =
    sym (barriers-half past p c k x a).number ∙ ap (λ (v : Transaction). length (barriers (at_point v.place past) p c)) same ∙ (barriers-half past p c m y b).number

chan-of : (past : Trace) (p : ℕ) (c : Channel) (k : ℕ) (x : Transaction) → slice_get (barriers past p c) k ≡ Some x → x.chan ≡ c
chan-of past p c k x a = (is_barrier_of-is x p c (barriers-half past p c k x a).barrier).chan

-- halves on the two channels aren't one
apart : (past : Trace) (p q k m : ℕ) (x y : Transaction) → slice_get (barriers past p Read) k ≡ Some x → slice_get (barriers past q Write) m ≡ Some y → x.place ≡ y.place → ⊥
apart past p q k m x y a b same =
    let one = one-place past x y (half-in past p Read k x a).0 (half-in past q Write m y b).0 same in
    let bad : Read ≡ Write = sym (chan-of past p Read k x a) ∙ ap (λ (v : Transaction). v.chan) one ∙ chan-of past q Write m y b in cc

module _ (past : Trace) (t : AreAnsweredTogether past) (p k : ℕ) (b : Pair) (there : slice_get (pairs past p) k ≡ Some b)
    (nx : transaction_of past p Read b.read.id ≡ Some b.read) (ny : transaction_of past p Write b.write.id ≡ Some b.write) where
  abbrev later : Trace
  later = B p b.write.id 0 ∷ R p b.read.id 0 true 0 ∷ past

  rx : slice_get (barriers past p Read) k ≡ Some b.read
  rx = half-there past p Read k b.read (pairs-halves past p k b there).read

  wy : slice_get (barriers past p Write) k ≡ Some b.write
  wy = half-there past p Write k b.write (pairs-halves past p k b there).write

  completed-then : (z : Transaction) → is_completed later z ≡ ((b.write.place == z.place) || ((b.read.place == z.place) || is_completed past z))
  completed-then z = rw (nx, ny) refl

  -- the same pair, or another
  read-cases : (q m : ℕ) (u v : Transaction) → slice_get (barriers past q Read) m ≡ Some u → slice_get (barriers past q Write) m ≡ Some v
      → (b.read.place == u.place) ≡ (b.write.place == v.place)
  read-cases q m u v ru wv =
      elim (cases_Bool (b.read.place == u.place)) [
        | inl here ↦
            let one = one-place past b.read u (half-in past p Read k b.read rx).0 (half-in past q Read m u ru).0 (eqb-true b.read.place u.place here) in
            let port = same-port past p q Read k m b.read u rx ru one in
            let at : slice_get (barriers past p Read) m ≡ Some u = subst (λ r. slice_get (barriers past r Read) m ≡ Some u) (sym port) ru in
            let number = same-number past p Read k m b.read u rx at one in
            let also : slice_get (barriers past q Write) m ≡ Some b.write = rw (← port, ← number) wy in
            let other = Some-injective b.write v (sym also ∙ wv) in
            here ∙ sym (eq-eqb b.write.place v.place (ap (λ (z : Transaction). z.place) other))
        | inr none ↦ elim (cases_Bool (b.write.place == v.place)) [
          | inr also ↦ none ∙ sym also
          | inl here ↦
              let one = one-place past b.write v (half-in past p Write k b.write wy).0 (half-in past q Write m v wv).0 (eqb-true b.write.place v.place here) in
              let port = same-port past p q Write k m b.write v wy wv one in
              let at : slice_get (barriers past p Write) m ≡ Some v = subst (λ r. slice_get (barriers past r Write) m ≡ Some v) (sym port) wv in
              let number = same-number past p Write k m b.write v wy at one in
              let also : slice_get (barriers past q Read) m ≡ Some b.read = rw (← port, ← number) rx in
              let other = Some-injective b.read u (sym also ∙ ru) in
              let bad = eq-eqb b.read.place u.place (ap (λ (z : Transaction). z.place) other) in cc
        ]
      ]

  both-then : (q m : ℕ) (c : Pair) → slice_get (pairs past q) m ≡ Some c → is_completed later c.read ≡ is_completed later c.write
  both-then q m c at =
      let u = c.read in
      let v = c.write in
      let ru = half-there past q Read m u (pairs-halves past q m c at).read in
      let wv = half-there past q Write m v (pairs-halves past q m c at).write in
      let crossed : (b.write.place == u.place) ≡ false = ne_eqb b.write.place u.place (λ same. apart past q p m k u b.write ru wy (sym same)) in
      let uncrossed : (b.read.place == v.place) ≡ false = ne_eqb b.read.place v.place (λ same. apart past p q k m b.read v rx wv same) in
      let same = read-cases q m u v ru wv in
      let old = t q m c at in
      completed-then u
      ∙ ap (λ w. w || ((b.read.place == u.place) || is_completed past u)) crossed
      ∙ ap (λ w. w || is_completed past u) same
      ∙ ap (λ w. (b.write.place == v.place) || w) old
      ∙ sym (completed-then v ∙ ap (λ w. (b.write.place == v.place) || (w || is_completed past v)) uncrossed)

  pub both-answered : AreAnsweredTogether (B p b.write.id 0 ∷ R p b.read.id 0 true 0 ∷ past)
  both-answered = both-then
