-- The burst of a write: which beat of it an event adds, and that it has four once it is whole.
use Rattle.std.proofs.Common.{nat_lt, ◌≡◌, ◌⊎◌, ℕ, ◌+◌, ◌*◌, ◌/◌, ◌%◌, ◌<◌, ◌≤◌, Bool, true, ◌&&◌, nat_eq, List, [], ◌∷◌, length, take, drop, Option, Some, None, slice_get, refl, sym, ap, ◌∙◌, arith, inl, inr, length-append}
use Rattle.std.proofs.lemmas.Bool.{ltb-true, and_parts, eqb-true, eq-eqb}
use Rattle.ace_model.proofs.Terms.{Event, W, Transaction, Trace, at_point, is_some_and, more, has_write_data, issued, write_kind, is_data_write_of, option_filter, data_writes, next_write}
use Rattle.ace_model.proofs.Terms.{next_write_beat, is_burst_whole, Beat, beat_at, beats, burst_of}
use Rattle.ace_model.proofs.Trace.Growth.{at_point-before, IsIssued, issued-cases}
use Rattle.ace_model.proofs.Trace.Places.{at_point-last}
use Rattle.std.proofs.lemmas.Option.{slice_get_within}
use Rattle.ace_model.proofs.Trace.Issued.{issued-place}
use Rattle.ace_model.proofs.General.Lists.{slice_get-take, slice_get-drop, slice_get-within_take, start-more, start-length, slice_get-grown, slice_get-more, slice_get-at_end}
use Rattle.ace_model.proofs.General.Options.{some_if-is}

-- where its beats begin among those of its port
abbrev pub start_of : Trace → Transaction → ℕ
start_of past x = length (data_writes (at_point x.place past) x.port)

-- a write with data stands among those of its port where its beats begin
pub stands_at : (past : Trace) (x : Transaction) → IsIssued past x → is_some_and (write_kind x) has_write_data ≡ true
    → slice_get (data_writes past x.port) (start_of past x) ≡ Some x
stands_at [] x i sends = let there = i.there in cc
stands_at (e ∷ past) x i sends =
    elim (issued-cases e past x i) [
      | inl new ↦
          let at = at_point-last e past x.place (issued-place (length past) e x new) in
          let write : option_filter (is_data_write_of x.port) (issued (length past) e) ≡ Some x = rw (new, eq-eqb x.port x.port refl, sends) refl in
          rw (at, write) (slice_get-at_end (data_writes past x.port) (length (data_writes past x.port)) x refl)
      | inr old ↦
          let at = at_point-before e past x.place (let low = old.before in omega arith) in
          rw at (slice_get-grown (data_writes past x.port) (option_filter (is_data_write_of x.port) (issued (length past) e)) (start_of past x) x (stands_at past x old sends))
    ]

-- The beat that the event adds to the burst.
pub record IsBeat (past : Trace) (e : Event) (x : Transaction) (k : ℕ) (b : Beat) : Type 0 where
  pub last : Bool
  pub is : e ≡ W x.port b.strobe last b.word
  pub next : next_write past x.port ≡ Some x
  pub number : next_write_beat past x.port ≡ k

-- beat k of the burst that begins behind n others
beat_there : (bs : List Beat) (n k : ℕ) (b : Beat) → slice_get (take 4 (drop (4 * n) bs)) k ≡ Some b → slice_get bs (4 * n + k) ≡ Some b
beat_there bs n k b e =
    let low = slice_get-within_take (drop (4 * n) bs) 4 k b e in
    sym (slice_get-take (drop (4 * n) bs) 4 k low ∙ slice_get-drop bs (4 * n) k (4 * n + k) refl) ∙ e

-- a beat of the burst was there, or is the event
pub burst_grows : (past : Trace) (e : Event) (x : Transaction) (k : ℕ) (b : Beat) → IsIssued past x → is_some_and (write_kind x) has_write_data ≡ true
    → slice_get (burst_of (e ∷ past) x) k ≡ Some b → (slice_get (burst_of past x) k ≡ Some b) ⊎ IsBeat past e x k b
burst_grows past e x k b i sends is =
    let at = at_point-before e past x.place (let low = i.before in omega arith) in
    let here : slice_get (take 4 (drop (4 * start_of past x) (beats (e ∷ past) x.port))) k ≡ Some b = rw at at is in
    let n = start_of past x in
    let low : k < 4 = slice_get-within_take (drop (4 * n) (beats (e ∷ past) x.port)) 4 k b here in
    let first = slice_get-take (drop (4 * n) (beats past x.port)) 4 k low in
    elim (slice_get-more (beats past x.port) (beat_at (beats past x.port) (data_writes past x.port) e x.port) (4 * n + k) b (beat_there (beats (e ∷ past) x.port) n k b here)) [
      | inl old ↦ inl (first ∙ slice_get-drop (beats past x.port) (4 * n) k (4 * n + k) refl ∙ old)
      | inr new ↦
          let count : length (beats past x.port) ≡ 4 * n + k = sym new.0 in
          let whole : length (beats past x.port) / 4 ≡ n = omega (arith, count, low) in
          let part : length (beats past x.port) % 4 ≡ k = omega (arith, count, low) in
          inr (by e new.1 (ap (slice_get (data_writes past x.port)) whole ∙ stands_at past x i sends) part)
    ]
  where
    by : (d : Event) → beat_at (beats past x.port) (data_writes past x.port) d x.port ≡ Some b → next_write past x.port ≡ Some x → next_write_beat past x.port ≡ k → IsBeat past d x k b
    by (W q strb last word) w next number =
        let s = some_if-is (nat_eq x.port q && nat_lt (length (beats past x.port)) (4 * length (data_writes past x.port))) (record { strobe = strb; word = word }) b w in
        record {
          last = last;
          is = ap (λ q. W q strb last word) (sym (eqb-true x.port q (and_parts (nat_eq x.port q) _ s.0).0)) ∙ ap (λ (v : Beat). W x.port v.strobe last v.word) s.1;
          next = next;
          number = number;
        }
    by d w next number = cc

-- the beats of a port are at most four for each of its writes with data
pub few_beats : (past : Trace) (p : ℕ) → length (beats past p) ≤ 4 * length (data_writes past p)
few_beats [] p = omega arith
few_beats (e ∷ past) p = more_of (option_filter (is_data_write_of p) (issued (length past) e)) (beat_at (beats past p) (data_writes past p) e p) (few_beats past p) refl
  where
    more_of : (new : Option Transaction) (beat : Option Beat) → length (beats past p) ≤ 4 * length (data_writes past p)
        → beat_at (beats past p) (data_writes past p) e p ≡ beat → length (more (beats past p) beat) ≤ 4 * length (more (data_writes past p) new)
    more_of new None few is = let l = start-length (data_writes past p) (more (data_writes past p) new) (start-more (data_writes past p) new) in omega arith
    more_of new (Some b) few is =
        let l = start-length (data_writes past p) (more (data_writes past p) new) (start-more (data_writes past p) new) in
        let room = has_room e is in
        let one = length-append (beats past p) (b ∷ []) in
        omega arith
      where
        has_room : (d : Event) → beat_at (beats past p) (data_writes past p) d p ≡ Some b → length (beats past p) < 4 * length (data_writes past p)
        has_room (W q strb last word) is =
            ltb-true _ _ (and_parts (nat_eq p q) _ (some_if-is (nat_eq p q && nat_lt (length (beats past p)) (4 * length (data_writes past p))) _ b is).0).1
        has_room d is = cc

-- a new write has no beats
pub burst_new : (past : Trace) (e : Event) (x : Transaction) (k : ℕ) (b : Beat) → issued (length past) e ≡ Some x
    → slice_get (burst_of (e ∷ past) x) k ≡ Some b → ⊥
burst_new past e x k b new is =
    let place = issued-place (length past) e x new in
    let at = at_point-last e past x.place place in
    let here : slice_get (take 4 (drop (4 * length (data_writes past x.port)) (beats (e ∷ past) x.port))) k ≡ Some b = rw at at is in
    let there = no_beat e (4 * length (data_writes past x.port) + k) new (beat_there (beats (e ∷ past) x.port) (length (data_writes past x.port)) k b here) in
    let low = slice_get_within (beats past x.port) (4 * length (data_writes past x.port) + k) b there in
    let few = few_beats past x.port in
    absurd (omega arith)
  where
    no_beat : (d : Event) (n : ℕ) → issued (length past) d ≡ Some x → slice_get (beats (d ∷ past) x.port) n ≡ Some b → slice_get (beats past x.port) n ≡ Some b
    no_beat (W q strb last word) n s there = cc
    no_beat d n s there = there

-- a whole burst has four beats
pub record FourBeats (bs : List Beat) : Type 0 where
  pub b0 : Beat
  pub b1 : Beat
  pub b2 : Beat
  pub b3 : Beat
  pub is : bs ≡ b0 ∷ b1 ∷ b2 ∷ b3 ∷ []

pub four_beats : (past : Trace) (x : Transaction) → is_burst_whole past x ≡ true → FourBeats (burst_of past x)
four_beats past x whole =
    shape (drop (4 * start_of past x) (beats past x.port)) (eqb-true (length (burst_of past x)) 4 whole)
  where
    shape : (bs : List Beat) → length (take 4 bs) ≡ 4 → FourBeats (take 4 bs)
    shape [] l = cc
    shape (a ∷ []) l = cc
    shape (a ∷ b ∷ []) l = cc
    shape (a ∷ b ∷ c ∷ []) l = cc
    shape (a ∷ b ∷ c ∷ d ∷ bs) l = record { b0 = a; b1 = b; b2 = c; b3 = d; is = refl }
