-- The write data that are kept of a port after an event.
use Rattle.ace_portck.proofs.Terms.{All, filter, find, Channel, Read, Write, Event, Ar, Aw, W, M, Line, Header, Trace, IsAccepted, at_point, is_some_and, more, has_write_data, issued, write_kind, outstanding, option_filter, is_data_write_of, data_writes, next_write, next_write_beat, Beat, beats, burst_of, Transaction, Part, Burst, option_and_then, IsPart, data_of_burst, open_burst, filled, burst_as, BurstsStand, WritesStand, WriteBursts, deque_capacity, vec_capacity}
use Rattle.std.proofs.Common.{◌≡◌, ◌≢◌, ℕ, suc, ◌+◌, ◌*◌, ◌/◌, ◌<◌, ◌≤◌, Bool, true, false, not, nat_eq, List, [], ◌∷◌, ◌++◌, length, map, drop, Option, Some, None, option_map, slice_get, get_or, le_refl, refl, sym, ap, subst, ◌∙◌, arith, inl, inr, length-drop, length-append}
use Rattle.std.proofs.lemmas.Bool.{and_right, cases_Bool, eq-eqb, ne_eqb}
use Rattle.std.proofs.lemmas.List.{drop-append-le, drop-drop, drop_all, map-append, length-map}
use Rattle.std.proofs.lemmas.List.Elements.{All-push, All-filter, All-drop}
use Rattle.std.proofs.lemmas.Option.{slice_get-get_or}
use Rattle.ace_model.proofs.General.Lists.{slice_get-all, slice_get-drop}
use Rattle.ace_model.proofs.General.Options.{Some-injective, none_is}
use Rattle.ace_model.proofs.General.Pigeonhole.{AreApart, room_for_one}
use Rattle.ace_model.proofs.Outstanding.Lists.{find_kept, kept_all}
use Rattle.ace_model.proofs.Rules.Keeps.{accepted_keeps}
use Rattle.ace_model.proofs.Trace.UnwrittenWrites.{Unwritten, one_unwritten, data_write-at, filling_unwritten}
use Rattle.ace_model.proofs.Trace.WriteBursts.{few_beats}
use Rattle.ace_portck.specs.Targets.{data_of_write}
use Rattle.ace_portck.proofs.WriteLaws.{adds, fourth, whole_stays, unwritten-issued, filled_are, other_filled, filled_apart, filled-data}

-- events that the write data of a port care about
abbrev pub moves_writes : Event → ℕ → Bool
moves_writes (Aw q i addr snoop dom bar) p = nat_eq p q
moves_writes (W q strb last word) p = nat_eq p q
moves_writes (M q Write i line) p = nat_eq p q
moves_writes _ p = false

-- an event of another port or kind leaves all three as they are
same : (past : Trace) (e : Event) (p : ℕ) → moves_writes e p ≡ false
    → (data_writes (e ∷ past) p ≡ data_writes past p) × (beats (e ∷ past) p ≡ beats past p) × (filled (e ∷ past) p ≡ filled past p)
same past (Aw q i addr snoop dom bar) p f = let g = ne_eqb q p (λ is. let t = eq-eqb p q (sym is) in cc) in (rw g refl, refl, refl)
same past (Ar q i addr snoop dom bar lock) p f = (rw (and_right (nat_eq q p) false refl) refl, refl, refl)
same past (W q strb last word) p f = (refl, rw f refl, rw f refl)
same past (M q Write i line) p f = (refl, refl, rw f refl)
same past (M q Read i line) p f = (refl, refl, refl)
same past _ p f = (refl, refl, refl)

map_same : {A B : Type 0} → (f g : A → B) (xs : List A) → All (λ x. f x ≡ g x) xs → map f xs ≡ map g xs
map_same f g [] same = refl
map_same f g (x ∷ xs) same = rw (same 0 x (omega arith), map_same f g xs (λ k d low. same (suc k) d (omega (arith, low)))) refl

filter_map-is : {A B : Type 0} → (f : A → B) (test : B → Bool) (xs : List A) → filter test (map f xs) ≡ map f (filter (λ x. test (f x)) xs)
filter_map-is f test [] = refl
filter_map-is f test (x ∷ xs) =
    let rest = filter_map-is f test xs in
    elim (cases_Bool (test (f x))) [
      | inl t ↦ rw t (rw rest refl)
      | inr n ↦ rw n rest
    ]

find_map-is : {A B : Type 0} → (f : A → B) (test : B → Bool) (xs : List A) → find test (map f xs) ≡ option_map f (find (λ x. test (f x)) xs)
find_map-is f test xs = ap (λ l. find test (map f l)) (sym (kept_all xs)) ∙ find_kept f (λ x. true) test (λ x. test (f x)) xs (λ x. refl)

-- the beat of a W
abbrev pub beat_of : ℕ → ℕ → Beat
beat_of strb word = record { strobe = strb; word = word }

-- whether a new transaction is a write of the port with data
no_data_write : (x : Transaction) (p : ℕ) → is_some_and (write_kind x) has_write_data ≡ false → option_filter (is_data_write_of p) (Some x) ≡ None
no_data_write x p none = rw (none, and_right (nat_eq x.port p) false refl) refl

new_data_write : (x : Transaction) (p : ℕ) → x.port ≡ p → is_some_and (write_kind x) has_write_data ≡ true → option_filter (is_data_write_of p) (Some x) ≡ Some x
new_data_write x p port sends = rw (eq-eqb x.port p port, sends) refl

module _ (h : Header) (past : Trace) (p : ℕ) (q : WriteBursts) (s : WritesStand h past p q) where
  -- the whole bursts are the same after an event
  bursts_same : (e : Event) → map (burst_as (e ∷ past)) (filled past p) ≡ map (burst_as past) (filled past p)
  bursts_same e =
      map_same (burst_as (e ∷ past)) (burst_as past) (filled past p)
      (λ k d low.
      let x = get_or (filled past p) k d in
      let f = filled_are h past s.accepted p k d low in
      let same = whole_stays past e x (unwritten-issued h past p x.id x f.open') f.whole in
      rw same refl)

  -- what is kept after an event, by what it is then
  abbrev pub After : Event → List Transaction → Part → List Burst → ℕ → Type 0
  After e fl part wh room = BurstsStand h (e ∷ past) p fl part wh (deque_capacity q.filling) room

  after : (e : Event) → IsAccepted h (e ∷ past) → (fl : List Transaction) (part : Part) (wh : List Burst) (room : ℕ)
      → fl ≡ drop (length (beats (e ∷ past) p) / 4) (data_writes (e ∷ past) p) → IsPart (open_burst (e ∷ past) p) part
      → wh ≡ map (burst_as (e ∷ past)) (filled (e ∷ past) p) → All (λ (y : Transaction). y.id < 256) fl
      → All (λ (y : Transaction). y.id < 256) (filled (e ∷ past) p) → vec_capacity q.whole ≤ room → After e fl part wh room
  after e a fl part wh room filling_is part_is whole_is below whole_below more = record {
    accepted = a;
    filling_is = filling_is;
    part_is = part_is;
    whole_is = whole_is;
    filling_below = below;
    whole_below = whole_below;
    filling_fit = s.filling_fit;
    whole_fit = let fit = s.whole_fit in omega (arith, fit, more);
  }

  whole_then : (e : Event) → q.whole.items ≡ map (burst_as (e ∷ past)) (filled past p)
  whole_then e = s.whole_is ∙ sym (bursts_same e)

  -- where nothing is added or taken away
  quiet : (e : Event) → IsAccepted h (e ∷ past) → data_writes (e ∷ past) p ≡ data_writes past p → beats (e ∷ past) p ≡ beats past p
      → filled (e ∷ past) p ≡ filled past p → After e q.filling.items q.part q.whole.items (vec_capacity q.whole)
  quiet e a d b f =
      after e a q.filling.items q.part q.whole.items (vec_capacity q.whole) (rw (b, d) s.filling_is) (rw b s.part_is) (rw f (whole_then e))
      s.filling_below (rw f s.whole_below) (le_refl (vec_capacity q.whole))

  -- an event of another port or kind
  pub writes_stay : (e : Event) → IsAccepted h (e ∷ past) → moves_writes e p ≡ false → After e q.filling.items q.part q.whole.items (vec_capacity q.whole)
  writes_stay e a f = let k = same past e p f in quiet e a k.0 k.1 k.2

  -- the write that stands at a place of the queue
  at_place : (k : ℕ) (x : Transaction) → slice_get q.filling.items k ≡ Some x → slice_get (data_writes past p) (length (beats past p) / 4 + k) ≡ Some x
  at_place k x there =
      sym (ap (λ v. slice_get v k) s.filling_is ∙ slice_get-drop (data_writes past p) (length (beats past p) / 4) k (length (beats past p) / 4 + k) refl) ∙ there

  filling_open : (k : ℕ) (x : Transaction) → slice_get q.filling.items k ≡ Some x → Unwritten h past p x.id x
  filling_open k x there = filling_unwritten h past s.accepted p (length (beats past p) / 4 + k) x (omega arith) (at_place k x there)

  -- no two of the queue have one identifier
  filling_apart : AreApart (λ (x : Transaction). x.id) q.filling.items
  filling_apart i j d less low same =
      let x = get_or q.filling.items i d in
      let y = get_or q.filling.items j d in
      let xi = slice_get-get_or q.filling.items i d (omega (arith, less, low)) in
      let yj = slice_get-get_or q.filling.items j d low in
      let one : x ≡ y = one_unwritten h past p x.id y.id x y (filling_open i x xi) (filling_open j y yj) same in
      let sx = (data_write-at past p (length (beats past p) / 4 + i) x (at_place i x xi)).start in
      let sy = (data_write-at past p (length (beats past p) / 4 + j) y (at_place j y yj)).start in
      let places : length (beats past p) / 4 + i ≡ length (beats past p) / 4 + j =
      sym sx ∙ ap (λ (v : Transaction). length (data_writes (at_point v.place past) v.port)) one ∙ sy in
      omega (arith, places, less)

  module _ (i addr snoop dom bar : ℕ) (x : Transaction) (a : IsAccepted h (Aw p i addr snoop dom bar ∷ past))
      (new : issued (length past) (Aw p i addr snoop dom bar) ≡ Some x) where
    -- a write without data
    pub writes_aw_none : is_some_and (write_kind x) has_write_data ≡ false
        → After (Aw p i addr snoop dom bar) q.filling.items q.part q.whole.items (vec_capacity q.whole)
    writes_aw_none none =
        let d : option_filter (is_data_write_of p) (issued (length past) (Aw p i addr snoop dom bar)) ≡ None = ap (option_filter (is_data_write_of p)) new ∙ no_data_write x p none in
        quiet (Aw p i addr snoop dom bar) a (ap (more (data_writes past p)) d) refl refl

    -- the identifier of a new write is free
    other_filling : All (λ (y : Transaction). y.id ≢ x.id) q.filling.items
    other_filling k d low same =
        let y = get_or q.filling.items k d in
        let u = filling_open k y (slice_get-get_or q.filling.items k d low) in
        let id : i ≡ x.id = ap (λ (v : Transaction). v.id) (Some-injective _ x new) in
        let none = none_is (outstanding h past p Write i) (accepted_keeps h past (Aw p i addr snoop dom bar) a).rule_4 in
        let some : outstanding h past p Write i ≡ Some y = ap (outstanding h past p Write) (id ∙ sym same) ∙ u.out in
        let bad : None ≡ Some y = sym none ∙ some in cc

    -- a write with data, for which there is room
    pub writes_aw : is_some_and (write_kind x) has_write_data ≡ true → x.id < 256
        → (length q.filling.items < 256) × After (Aw p i addr snoop dom bar) (q.filling.items ++ x ∷ []) q.part q.whole.items (vec_capacity q.whole)
    writes_aw sends low =
        let port : x.port ≡ p = sym (ap (λ (v : Transaction). v.port) (Some-injective _ x new)) in
        let is : option_filter (is_data_write_of p) (issued (length past) (Aw p i addr snoop dom bar)) ≡ Some x = ap (option_filter (is_data_write_of p)) new ∙ new_data_write x p port sends in
        let d : data_writes (Aw p i addr snoop dom bar ∷ past) p ≡ data_writes past p ++ x ∷ [] = ap (more (data_writes past p)) is in
        let within = few_beats past p in (
          room_for_one (λ (y : Transaction). y.id) 256 q.filling.items x filling_apart s.filling_below other_filling low,
          after (Aw p i addr snoop dom bar) a (q.filling.items ++ x ∷ []) q.part q.whole.items (vec_capacity q.whole)
              (ap (λ v. v ++ x ∷ []) s.filling_is
              ∙ sym (drop-append-le (length (beats past p) / 4) (data_writes past p) (x ∷ []) (omega (arith, within)))
              ∙ ap (drop (length (beats past p) / 4)) (sym d))
              s.part_is (whole_then (Aw p i addr snoop dom bar)) (All-push (λ (y : Transaction). y.id < 256) q.filling.items x s.filling_below low)
              s.whole_below (le_refl (vec_capacity q.whole)),
        )

  -- the first of the queue is the write that a W belongs to
  pub next-is : slice_get q.filling.items 0 ≡ next_write past p
  next-is =
      ap (λ v. slice_get v 0) s.filling_is
      ∙ slice_get-drop (data_writes past p) (length (beats past p) / 4) 0 (length (beats past p) / 4) (omega arith)

  pub part_length : length (open_burst past p) ≡ next_write_beat past p
  part_length = let long = length-drop (4 * (length (beats past p) / 4)) (beats past p) in omega (arith, long)

  module _ (strb : ℕ) (last : Bool) (word : ℕ) (a : IsAccepted h (W p strb last word ∷ past)) where
    open_more : drop (4 * (length (beats past p) / 4)) (beats (W p strb last word ∷ past) p) ≡ open_burst past p ++ (beat_of strb word) ∷ []
    open_more =
        ap (drop (4 * (length (beats past p) / 4))) (adds h past p strb last word a).added
        ∙ drop-append-le (4 * (length (beats past p) / 4)) (beats past p) ((beat_of strb word) ∷ []) (omega arith)

    long_more : length (beats (W p strb last word ∷ past) p) ≡ length (beats past p) + 1
    long_more = ap length (adds h past p strb last word a).added ∙ length-append (beats past p) ((beat_of strb word) ∷ [])

    -- one of the first three beats of a burst
    pub writes_w : (part : Part) → IsPart (open_burst past p ++ (beat_of strb word) ∷ []) part → part.beats < 4
        → After (W p strb last word) q.filling.items part q.whole.items (vec_capacity q.whole)
    writes_w part is low =
        let longer = length-append (open_burst past p) ((beat_of strb word) ∷ []) in
        let beats' = is.beats_are in
        let pl = part_length in
        let lm = long_more in
        let n : length (beats (W p strb last word ∷ past) p) / 4 ≡ length (beats past p) / 4 = omega (arith, longer, beats', pl, lm, low) in
        let not_last : nat_eq (next_write_beat past p) 3 ≡ false = ne_eqb (next_write_beat past p) 3 (λ e. omega (arith, longer, beats', pl, low, e)) in
        let f : filled (W p strb last word ∷ past) p ≡ filled past p = rw (not_last, and_right (nat_eq p p) false refl) refl in
        after (W p strb last word) a q.filling.items part q.whole.items (vec_capacity q.whole) (rw n s.filling_is)
        (subst (λ v. IsPart (drop (4 * v) (beats (W p strb last word ∷ past) p)) part) (sym n) (rw open_more is)) (rw f (whole_then (W p strb last word)))
        s.filling_below (rw f s.whole_below) (le_refl (vec_capacity q.whole))

    -- the fourth beat
    pub writes_w_last : (part : Part) → IsPart (open_burst past p ++ (beat_of strb word) ∷ []) part → 4 ≤ part.beats → (none : Part) → IsPart [] none
        → (x : Transaction) → slice_get q.filling.items 0 ≡ Some x
        → (length q.whole.items < 256) × ((room : ℕ) → vec_capacity q.whole ≤ room
        → After (W p strb last word) (drop 1 q.filling.items) none
        (q.whole.items ++ (record { id = x.id; sent = data_of_burst (open_burst past p ++ (beat_of strb word) ∷ []) }) ∷ []) room)
    writes_w_last part is high none empty x front =
        let longer = length-append (open_burst past p) ((beat_of strb word) ∷ []) in
        let beats' = is.beats_are in
        let pl = part_length in
        let lm = long_more in
        let next : next_write past p ≡ Some x = sym next-is ∙ front in
        let beat : next_write_beat past p ≡ 3 = omega (arith, longer, beats', pl, high) in
        let n : length (beats past p) / 4 + 1 ≡ length (beats (W p strb last word ∷ past) p) / 4 = omega (arith, beat, lm) in
        let third = eq-eqb (next_write_beat past p) 3 beat in
        let f : filled (W p strb last word ∷ past) p ≡ filled past p ++ x ∷ [] = rw (eq-eqb p p (refl {a = p}), third, next) refl in
        let burst = fourth h past p strb last word x a next beat in
        let low = slice_get-all (λ (y : Transaction). y.id < 256) q.filling.items 0 x s.filling_below front in
        let count : length q.whole.items ≡ length (filled past p) = ap length s.whole_is ∙ length-map (filled past p) (burst_as past) in
        let fits = room_for_one (λ (y : Transaction). y.id) 256 (filled past p) x (filled_apart h past s.accepted p) s.whole_below
        (other_filled h past s.accepted p x next) low in
        let last_one : Burst = record { id = x.id; sent = data_of_burst (open_burst past p ++ (beat_of strb word) ∷ []) } in
        let same : burst_as (W p strb last word ∷ past) x ≡ last_one = rw burst refl in (
          omega (arith, count, fits),
          λ room.
              after (W p strb last word) a (drop 1 q.filling.items) none (q.whole.items ++ last_one ∷ []) room
              (ap (drop 1) s.filling_is ∙ drop-drop 1 (length (beats past p) / 4) (data_writes past p) ∙ ap (λ k. drop k (data_writes past p)) n)
              (subst (λ v. IsPart v none)
              (sym (drop_all (4 * (length (beats (W p strb last word ∷ past) p) / 4)) (beats (W p strb last word ∷ past) p) (omega (arith, lm, beat)))) empty)
              (ap (λ v. v ++ last_one ∷ []) (whole_then (W p strb last word))
              ∙ ap (λ v. map (burst_as (W p strb last word ∷ past)) (filled past p) ++ v ∷ []) (sym same)
              ∙ sym (map-append (burst_as (W p strb last word ∷ past)) (filled past p) (x ∷ []))
              ∙ ap (map (burst_as (W p strb last word ∷ past))) (sym f))
              (All-drop (λ (y : Transaction). y.id < 256) 1 q.filling.items s.filling_below)
              (subst (All (λ (y : Transaction). y.id < 256)) (sym f) (All-push (λ (y : Transaction). y.id < 256) (filled past p) x s.whole_below low)),
        )

  -- the burst that is found under an identifier is what the port's outstanding write under it may write
  pub sent-data : (i : ℕ) → option_map (λ (b : Burst). b.sent) (find (λ (b : Burst). nat_eq b.id i) q.whole.items)
      ≡ option_and_then (data_of_write past) (outstanding h past p Write i)
  sent-data i =
      ap (λ v. option_map (λ (b : Burst). b.sent) (find (λ (b : Burst). nat_eq b.id i) v)) s.whole_is
      ∙ ap (option_map (λ (b : Burst). b.sent)) (find_map-is (burst_as past) (λ (b : Burst). nat_eq b.id i) (filled past p))
      ∙ sent_of (find (λ (x : Transaction). nat_eq x.id i) (filled past p))
      ∙ filled-data h past s.accepted p i
    where
      sent_of : (o : Option Transaction) → option_map (λ (b : Burst). b.sent) (option_map (burst_as past) o) ≡ option_map (λ x. data_of_burst (burst_of past x)) o
      sent_of None = refl
      sent_of (Some x) = refl

  -- the M of a write takes its burst away
  pub writes_m : (i : ℕ) (line : Line) → IsAccepted h (M p Write i line ∷ past)
      → After (M p Write i line) q.filling.items q.part (filter (λ (b : Burst). not (nat_eq b.id i)) q.whole.items) (vec_capacity q.whole)
  writes_m i line a =
      let f : filled (M p Write i line ∷ past) p ≡ filter (λ (x : Transaction). not (nat_eq x.id i)) (filled past p) = rw (eq-eqb p p (refl {a = p})) refl in
      after (M p Write i line) a q.filling.items q.part (filter (λ (b : Burst). not (nat_eq b.id i)) q.whole.items) (vec_capacity q.whole) s.filling_is s.part_is
      (ap (filter (λ (b : Burst). not (nat_eq b.id i))) (whole_then (M p Write i line))
      ∙ filter_map-is (burst_as (M p Write i line ∷ past)) (λ (b : Burst). not (nat_eq b.id i)) (filled past p)
      ∙ ap (map (burst_as (M p Write i line ∷ past))) (sym f))
      s.filling_below
      (subst (All (λ (y : Transaction). y.id < 256)) (sym f)
      (All-filter (λ (x : Transaction). not (nat_eq x.id i)) (λ (y : Transaction). y.id < 256) (filled past p) s.whole_below))
      (le_refl (vec_capacity q.whole))

-- an event of none of the three kinds moves nothing
pub other_kind : (e : Event) (p : ℕ) → ((q i addr snoop dom bar : ℕ) → e ≡ Aw q i addr snoop dom bar → ⊥)
    → ((q strb : ℕ) (last : Bool) (word : ℕ) → e ≡ W q strb last word → ⊥) → ((q : ℕ) (c : Channel) (i : ℕ) (line : Line) → e ≡ M q c i line → ⊥)
    → moves_writes e p ≡ false
other_kind (Aw q i addr snoop dom bar) p aw w m = absurd (aw q i addr snoop dom bar refl)
other_kind (W q strb last word) p aw w m = absurd (w q strb last word refl)
other_kind (M q c i line) p aw w m = absurd (m q c i line refl)
other_kind _ p aw w m = refl
