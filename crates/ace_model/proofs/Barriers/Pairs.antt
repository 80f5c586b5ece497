-- The halves of a barrier and its pair: which of the port's they are doesn't change while the trace grows.
use Rattle.std.proofs.Common.{◌≡◌, ℕ, zero, suc, ◌<◌, true, ◌&&◌, ◌==◌, List, [], ◌∷◌, ◌++◌, length, Some, slice_get, sym, ap, ◌∙◌, arith, inl, inr}
use Rattle.std.proofs.lemmas.Bool.{and_parts, eqb-true}
use Rattle.ace_model.proofs.Terms.{Event, Channel, Read, Write, Transaction, Trace, at_point, issued, same_channel, is_barrier_half, is_barrier_of, option_filter, barriers, Pair, paired, pairs, number_of}
use Rattle.ace_model.proofs.Trace.Growth.{at_point-before, at_point-later, IsIssued, issued-new, issued-old}
use Rattle.ace_model.proofs.Trace.Issued.{issued-place}
use Rattle.ace_model.proofs.Trace.Places.{at_point-last}
use Rattle.ace_model.proofs.Trace.Looks.{same_channel-is}
use Rattle.ace_model.proofs.General.Lists.{slice_get-grown, slice_get-more}
use Rattle.ace_model.proofs.General.Options.{option_filter-is, Some-injective}

-- the k-th of the port's barrier halves on the channel
pub record IsHalf (past : Trace) (p : ℕ) (c : Channel) (k : ℕ) (x : Transaction) : Type 0 where
  pub stands : IsIssued past x
  pub barrier : is_barrier_of x p c ≡ true
  pub number : length (barriers (at_point x.place past) p c) ≡ k

pub barriers-half : (past : Trace) (p : ℕ) (c : Channel) (k : ℕ) (x : Transaction)
    → slice_get (barriers past p c) k ≡ Some x → IsHalf past p c k x
barriers-half [] p c k x e = cc
barriers-half (e ∷ past) p c k x there =
    elim (slice_get-more (barriers past p c) (option_filter (λ y. is_barrier_of y p c) (issued (length past) e)) k x there) [
      | inl old ↦
          let i = barriers-half past p c k x old in
          record {
            stands = issued-old e past x i.stands;
            barrier = i.barrier;
            number = ap (λ (t : Trace). length (barriers t p c)) (at_point-before e past x.place (let b = i.stands.before in omega arith)) ∙ i.number;
          }
      | inr new ↦
          let b = option_filter-is (λ y. is_barrier_of y p c) (issued (length past) e) x new.1 in
          let place = issued-place (length past) e x b.0 in
          record {
            stands = issued-new e past x b.0;
            barrier = b.1;
            number =
                ap (λ (t : Trace). length (barriers t p c)) (at_point-last e past x.place place) ∙ sym new.0;
          }
    ]

barriers-grown : (later : List Event) (before : Trace) (p : ℕ) (c : Channel) (k : ℕ) (x : Transaction)
    → slice_get (barriers before p c) k ≡ Some x → slice_get (barriers (later ++ before) p c) k ≡ Some x
barriers-grown [] before p c k x there = there
barriers-grown (e ∷ later) before p c k x there =
    slice_get-grown (barriers (later ++ before) p c) (option_filter (λ y. is_barrier_of y p c) (issued (length (later ++ before)) e)) k x (barriers-grown later before p c k x there)

-- the k-th pair has the k-th halves
paired-halves : (rs ws : List Transaction) (k : ℕ) (b : Pair)
    → slice_get (paired rs ws) k ≡ Some b → (slice_get rs k ≡ Some b.read) × (slice_get ws k ≡ Some b.write)
paired-halves [] ws k b e = cc
paired-halves (r ∷ rs) [] k b e = cc
paired-halves (r ∷ rs) (w ∷ ws) zero b e =
    let first : Pair = record { read = r; write = w } in
    let same : first ≡ b = Some-injective first b e in
    (ap (λ (y : Pair). Some y.read) same, ap (λ (y : Pair). Some y.write) same)
paired-halves (r ∷ rs) (w ∷ ws) (suc k) b e = paired-halves rs ws k b e

paired-pair : (rs ws : List Transaction) (k : ℕ) (b : Pair)
    → slice_get rs k ≡ Some b.read → slice_get ws k ≡ Some b.write → slice_get (paired rs ws) k ≡ Some b
paired-pair [] ws k b r w = cc
paired-pair (x ∷ rs) [] k b r w = cc
paired-pair (x ∷ rs) (y ∷ ws) zero b r w =
    let at_read : Transaction → Pair = λ z. record { read = z; write = y } in
    let at_write : Transaction → Pair = λ z. record { read = b.read; write = z } in
    ap Some (ap at_read (Some-injective x b.read r) ∙ ap at_write (Some-injective y b.write w))
paired-pair (x ∷ rs) (y ∷ ws) (suc k) b r w = paired-pair rs ws k b r w

-- the two halves of a pair
pub record HasHalves (past : Trace) (p k : ℕ) (b : Pair) : Type 0 where
  pub read : IsHalf past p Read k b.read
  pub write : IsHalf past p Write k b.write

pub pairs-halves : (past : Trace) (p k : ℕ) (b : Pair) → slice_get (pairs past p) k ≡ Some b → HasHalves past p k b
pairs-halves past p k b there =
    let both = paired-halves (barriers past p Read) (barriers past p Write) k b there in
    record { read = barriers-half past p Read k b.read both.0; write = barriers-half past p Write k b.write both.1 }

-- a pair keeps its number
pub pairs-grown : (later : List Event) (before : Trace) (p k : ℕ) (b : Pair)
    → slice_get (pairs before p) k ≡ Some b → slice_get (pairs (later ++ before) p) k ≡ Some b
pairs-grown later before p k b there =
    let both = paired-halves (barriers before p Read) (barriers before p Write) k b there in
    paired-pair (barriers (later ++ before) p Read) (barriers (later ++ before) p Write) k b (barriers-grown later before p Read k b.read both.0) (barriers-grown later before p Write k b.write both.1)

-- what it says of a transaction that it is a half of the port's on the channel
pub record Halves (x : Transaction) (p : ℕ) (c : Channel) : Type 0 where
  pub barrier : is_barrier_half x ≡ true
  pub port : x.port ≡ p
  pub chan : x.chan ≡ c

pub is_barrier_of-is : (x : Transaction) (p : ℕ) (c : Channel) → is_barrier_of x p c ≡ true → Halves x p c
is_barrier_of-is x p c e =
    let a = and_parts (is_barrier_half x && x.port == p) (same_channel x.chan c) e in
    let b = and_parts (is_barrier_half x) (x.port == p) a.0 in
    record { barrier = b.0; port = eqb-true x.port p b.1; chan = same_channel-is x.chan c a.1 }

-- its number is the same at every point after it
pub half-number : (later : List Event) (e : Event) (before : Trace) (p : ℕ) (c : Channel) (k : ℕ) (x : Transaction)
    → IsHalf (later ++ e ∷ before) p c k x → x.place < length before → number_of before x ≡ k
half-number later e before p c k x i low =
    let is = is_barrier_of-is x p c i.barrier in
    let point = at_point-later later e before x.place (omega arith) in
    rw (is.port, is.chan, ← point) i.number
