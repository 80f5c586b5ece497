-- The queues of the snoops of a port after an event.
use Rattle.std.proofs.Common.{◌≡◌, zero, suc, if◌then◌else◌, ◌≤◌, ◌<◌, ◌+◌, ◌-◌, ◌*◌, ◌/◌, ℕ, true, false, Bool, ◌&&◌, nat_eq, List, [], ◌∷◌, ◌++◌, length, drop, Option, Some, None, is_some, slice_get, option_map, le_refl, refl, sym, ap, subst, ◌∙◌, inl, inr, arith, length-append, length-drop}
use Rattle.std.proofs.lemmas.Bool.{cases_Bool, eq-eqb}
use Rattle.std.proofs.lemmas.List.{drop-append-le, drop-drop}
use Rattle.std.proofs.lemmas.Option.{slice_get_within}
use Rattle.std.proofs.Math.Nat.{le-max_left, max-le}
use Rattle.ace_portck.proofs.Terms.{transfers_data, LineState, Event, Ac, Cr, Cd, Header, Snoop, k17_burst, Trace, is_some_and, more, same_test, IsAccepted, copy_of, next_sent, next_sent_beat, sent, sent_at, answered, answers, data_beats, snoops_of, SnoopQueues, deque_capacity, SnoopsStand, QueuesStand, data_snoops, data_snoop_at, sending, unfinished, most_unfinished}
use Rattle.ace_model.proofs.General.Lists.{slice_get-drop}
use Rattle.ace_model.proofs.General.Options.{is_some_and-is}
use Rattle.ace_model.proofs.Rules.Keeps.{accepted_keeps}

-- events that the queues of a port care about
abbrev pub moves_snoops : Event → ℕ → Bool
moves_snoops (Ac q addr snoop) p = nat_eq p q
moves_snoops (Cr q resp st) p = nat_eq p q
moves_snoops (Cd q last word) p = nat_eq p q
moves_snoops _ p = false

-- an event of another port or kind leaves all four as they are
same : (past : Trace) (e : Event) (p : ℕ) → moves_snoops e p ≡ false
    → (snoops_of (e ∷ past) p ≡ snoops_of past p) × (answers (e ∷ past) p ≡ answers past p)
    × (data_snoops (e ∷ past) p ≡ data_snoops past p) × (data_beats (e ∷ past) p ≡ data_beats past p)
same past (Ac q addr snoop) p f = (rw f refl, refl, refl, refl)
same past (Cr q resp st) p f = (refl, rw f refl, rw f refl, refl)
same past (Cd q last word) p f = (refl, refl, refl, rw f refl)
same past _ p f = (refl, refl, refl, refl)

-- as many are under way as the queues hold
unfinished-is : (past : Trace) (p : ℕ) (ws ss : List Snoop) → ws ≡ drop (answers past p) (snoops_of past p)
    → ss ≡ drop (data_beats past p / 4) (data_snoops past p) → unfinished past p ≡ length ws + length ss
unfinished-is past p ws ss w s =
    let a : length ws ≡ length (snoops_of past p) - answers past p = ap length w ∙ length-drop (answers past p) (snoops_of past p) in
    let b : length ss ≡ length (data_snoops past p) - data_beats past p / 4 = ap length s ∙ length-drop (data_beats past p / 4) (data_snoops past p) in
    omega (arith, a, b)

unfinished-most : (past : Trace) (p : ℕ) → unfinished past p ≤ most_unfinished past p
unfinished-most [] p = omega arith
unfinished-most (e ∷ past) p = le-max_left (unfinished (e ∷ past) p) (most_unfinished past p)

module _ (past : Trace) (p : ℕ) (q : SnoopQueues) (s : SnoopsStand past p q) where
  -- the queues after an event, by what they are then, where no more are under way
  after_event : (e : Event) (ws ss : List Snoop) (b : ℕ) → ws ≡ drop (answers (e ∷ past) p) (snoops_of (e ∷ past) p)
      → ss ≡ drop (data_beats (e ∷ past) p / 4) (data_snoops (e ∷ past) p) → b ≡ next_sent_beat (e ∷ past) p
      → answers (e ∷ past) p ≤ length (snoops_of (e ∷ past) p) → data_beats (e ∷ past) p ≤ 4 * length (data_snoops (e ∷ past) p)
      → length ws + length ss ≤ length q.waiting.items + length q.sending.items
      → QueuesStand (e ∷ past) p ws ss b (deque_capacity q.waiting) (deque_capacity q.sending)
  after_event e ws ss b w d beat aw bw few =
      let now = unfinished-is (e ∷ past) p ws ss w d in
      let was = unfinished-is past p q.waiting.items q.sending.items s.waiting_is s.sending_is in
      let most = unfinished-most past p in
      let wf = s.waiting_fit in
      let sf = s.sending_fit in
      record {
        waiting_is = w;
        sending_is = d;
        beats_are = beat;
        answers_within = aw;
        beats_within = bw;
        waiting_fit = max-le (omega (arith, now, was, most, few, wf)) wf;
        sending_fit = max-le (omega (arith, now, was, most, few, sf)) sf;
      }

  -- an event of another port or kind
  pub snoops_stay : (e : Event) → moves_snoops e p ≡ false → SnoopsStand (e ∷ past) p q
  snoops_stay e f =
      let k = same past e p f in
      after_event e q.waiting.items q.sending.items q.beats (rw (k.1, k.0) s.waiting_is) (rw (k.3, k.2) s.sending_is) (rw k.3 s.beats_are)
      (rw (k.1, k.0) s.answers_within) (rw (k.3, k.2) s.beats_within) (le_refl _)

  -- the first of the queue is the snoop that a CR answers
  pub answered-is : slice_get q.waiting.items 0 ≡ answered past p
  answered-is = ap (λ v. slice_get v 0) s.waiting_is ∙ slice_get-drop (snoops_of past p) (answers past p) 0 (answers past p) (omega arith)

  module _ (resp : ℕ) (st : LineState) (x : Snoop) (front : slice_get q.waiting.items 0 ≡ Some x) where
    answers-more : answers (Cr p resp st ∷ past) p ≡ answers past p + 1
    answers-more = let own = eq-eqb p p (refl {a = p}) in rw own refl

    rest-waits : drop 1 q.waiting.items ≡ drop (answers (Cr p resp st ∷ past) p) (snoops_of past p)
    rest-waits =
        ap (drop 1) s.waiting_is ∙ drop-drop 1 (answers past p) (snoops_of past p) ∙ ap (λ n. drop n (snoops_of past p)) (sym answers-more)

    one-waits : (0 < length q.waiting.items) × (answers (Cr p resp st ∷ past) p ≤ length (snoops_of past p)) × (length (drop 1 q.waiting.items) + 1 ≡ length q.waiting.items)
    one-waits =
        let some = slice_get_within q.waiting.items 0 x front in
        let within = s.answers_within in
        let more' = answers-more in
        let rest = length-drop 1 q.waiting.items in
        let count = ap length s.waiting_is ∙ length-drop (answers past p) (snoops_of past p) in
        (some, omega (arith, some, within, more', count), omega (arith, some, rest))

    -- a CR without data
    pub snoops_cr : transfers_data resp ≡ false
        → QueuesStand (Cr p resp st ∷ past) p (drop 1 q.waiting.items) q.sending.items q.beats (deque_capacity q.waiting) (deque_capacity q.sending)
    snoops_cr none =
        let d : data_snoops (Cr p resp st ∷ past) p ≡ data_snoops past p = rw (eq-eqb p p (refl {a = p}), none) refl in
        let one = one-waits in
        after_event (Cr p resp st) (drop 1 q.waiting.items) q.sending.items q.beats rest-waits (rw d s.sending_is) s.beats_are one.1 (rw d s.beats_within)
        (omega (arith, one))

    -- a CR with data, which are awaited from then on
    pub snoops_cr_data : transfers_data resp ≡ true
        → (length q.sending.items < deque_capacity q.sending)
        × QueuesStand (Cr p resp st ∷ past) p (drop 1 q.waiting.items) (q.sending.items ++ x ∷ []) q.beats (deque_capacity q.waiting) (deque_capacity q.sending)
    snoops_cr_data data' =
        let own = eq-eqb p p (refl {a = p}) in
        let is : answered past p ≡ Some x = sym answered-is ∙ front in
        let d : data_snoops (Cr p resp st ∷ past) p ≡ data_snoops past p ++ x ∷ [] = rw (own, data', is) refl in
        let long = length-append (data_snoops past p) (x ∷ []) in
        let longer = length-append q.sending.items (x ∷ []) in
        let within = s.beats_within in
        let one = one-waits in
        let was = unfinished-is past p q.waiting.items q.sending.items s.waiting_is s.sending_is in
        let most = unfinished-most past p in
        let fit = s.sending_fit in (
          omega (arith, one, was, most, fit),
          after_event (Cr p resp st) (drop 1 q.waiting.items) (q.sending.items ++ x ∷ []) q.beats rest-waits
              (ap (λ v. v ++ x ∷ []) s.sending_is
              ∙ sym (drop-append-le (data_beats past p / 4) (data_snoops past p) (x ∷ []) (omega (arith, within)))
              ∙ ap (drop (data_beats past p / 4)) (sym d))
              s.beats_are one.1 (subst (λ v. data_beats past p ≤ 4 * length v) (sym d) (omega (arith, long, within))) (omega (arith, one, longer)),
        )

  module _ (last : Bool) (word : ℕ) (some : data_beats past p / 4 < length (data_snoops past p)) where
    beats-more : data_beats (Cd p last word ∷ past) p ≡ data_beats past p + 1
    beats-more = let own = eq-eqb p p (refl {a = p}) in rw own refl

    beats-fit : data_beats (Cd p last word ∷ past) p ≤ 4 * length (data_snoops past p)
    beats-fit = let n = beats-more in let l = some in omega (arith, n, l)

    -- one of the first three beats
    pub snoops_cd : q.beats < 3
        → QueuesStand (Cd p last word ∷ past) p q.waiting.items q.sending.items (q.beats + 1) (deque_capacity q.waiting) (deque_capacity q.sending)
    snoops_cd low =
        let n = beats-more in
        let beat = s.beats_are in
        let same : data_beats (Cd p last word ∷ past) p / 4 ≡ data_beats past p / 4 = omega (arith, n, beat, low) in
        after_event (Cd p last word) q.waiting.items q.sending.items (q.beats + 1) s.waiting_is (rw same s.sending_is) (omega (arith, n, beat, low))
        s.answers_within beats-fit (le_refl _)

    -- the fourth
    pub snoops_cd_last : (q.beats < 3 → ⊥)
        → QueuesStand (Cd p last word ∷ past) p q.waiting.items (drop 1 q.sending.items) 0 (deque_capacity q.waiting) (deque_capacity q.sending)
    snoops_cd_last high =
        let n = beats-more in
        let beat = s.beats_are in
        let next : data_beats past p / 4 + 1 ≡ data_beats (Cd p last word ∷ past) p / 4 = omega (arith, n, beat, high) in
        let rest = length-drop 1 q.sending.items in
        after_event (Cd p last word) q.waiting.items (drop 1 q.sending.items) 0 s.waiting_is
        (ap (drop 1) s.sending_is ∙ drop-drop 1 (data_beats past p / 4) (data_snoops past p) ∙ ap (λ k. drop k (data_snoops past p)) next)
        (omega (arith, n, beat, high)) s.answers_within beats-fit (omega (arith, rest))

-- the port of a CR that keeps the rules has an unanswered snoop
pub cr-answers : (h : Header) (past : Trace) (p resp : ℕ) (st : LineState) → IsAccepted h (Cr p resp st ∷ past) → is_some (answered past p) ≡ true
cr-answers h past p resp st a = (accepted_keeps h past (Cr p resp st) a).rule_14

length-more : {A : Type 0} → (xs : List A) (o : Option A) → length (more xs o) ≡ length xs + (if is_some o then 1 else 0)
length-more xs None = omega arith
length-more xs (Some x) = length-append xs (x ∷ [])

pub is_some-map : {A B : Type 0} → (f : A → B) (o : Option A) → is_some (option_map f o) ≡ is_some o
is_some-map f None = refl
is_some-map f (Some x) = refl

sent-alike : (past : Trace) (e : Event) (p : ℕ) → is_some (sent_at past e p) ≡ is_some (data_snoop_at past e p)
sent-alike past (Cr q resp st) p =
    elim (cases_Bool (nat_eq p q && transfers_data resp)) [
      | inl t ↦ rw t (is_some-map (λ (x : Snoop). copy_of past p x.addr) (answered past p))
      | inr f ↦ rw f refl
    ]
sent-alike past _ p = refl

-- as many lines are announced as snoops are answered with data
pub sent-many : (past : Trace) (p : ℕ) → length (sent past p) ≡ length (data_snoops past p)
sent-many [] p = refl
sent-many (e ∷ past) p =
    length-more (sent past p) (sent_at past e p)
    ∙ rw (sent-many past p, sent-alike past e p) (sym (length-more (data_snoops past p) (data_snoop_at past e p)))

same_place : {A B : Type 0} → (xs : List A) (ys : List B) (k : ℕ) → length xs ≡ length ys → is_some (slice_get xs k) ≡ is_some (slice_get ys k)
same_place [] [] k e = refl
same_place [] (y ∷ ys) k e = absurd (omega arith)
same_place (x ∷ xs) [] k e = absurd (omega arith)
same_place (x ∷ xs) (y ∷ ys) zero e = refl
same_place (x ∷ xs) (y ∷ ys) (suc k) e = same_place xs ys k (omega arith)

-- a line is awaited where a snoop is
pub sent-sending : (past : Trace) (p : ℕ) → is_some (next_sent past p) ≡ is_some (sending past p)
sent-sending past p = same_place (sent past p) (data_snoops past p) (data_beats past p / 4) (sent-many past p)

pub some_and-same : {A : Type 0} → (o : Option A) (t : Bool) → is_some_and o (λ x. t) ≡ (is_some o && t)
some_and-same None t = refl
some_and-same (Some x) t = refl

-- the port of a CD that keeps the rules has announced data that aren't whole
pub cd-sends : (h : Header) (past : Trace) (p : ℕ) (last : Bool) (word : ℕ) → IsAccepted h (Cd p last word ∷ past)
    → data_beats past p / 4 < length (data_snoops past p)
cd-sends h past p last word a =
    let x = is_some_and-is (next_sent past p) _ (accepted_keeps h past (Cd p last word) a).rule_17 in
    let within = slice_get_within (sent past p) (data_beats past p / 4) x.0 x.1 in
    let many = sent-many past p in
    omega (arith, within, many)

-- an event of none of the three kinds moves nothing
pub other_kind : (e : Event) (p : ℕ) → ((q addr snoop : ℕ) → e ≡ Ac q addr snoop → ⊥) → ((q resp : ℕ) (st : LineState) → e ≡ Cr q resp st → ⊥)
    → ((q : ℕ) (last : Bool) (word : ℕ) → e ≡ Cd q last word → ⊥) → moves_snoops e p ≡ false
other_kind (Ac q addr snoop) p ac cr cd = absurd (ac q addr snoop refl)
other_kind (Cr q resp st) p ac cr cd = absurd (cr q resp st refl)
other_kind (Cd q last word) p ac cr cd = absurd (cd q last word refl)
other_kind _ p ac cr cd = refl

-- what K17 but its data asks of a CD
pub cd-burst : (h : Header) (past : Trace) (p : ℕ) (last : Bool) (word : ℕ)
    → k17_burst h past (Cd p last word) ≡ (is_some (sending past p) && same_test last (nat_eq (next_sent_beat past p) 3))
cd-burst h past p last word =
    some_and-same (next_sent past p) (same_test last (nat_eq (next_sent_beat past p) 3))
    ∙ ap (λ v. v && same_test last (nat_eq (next_sent_beat past p) 3)) (sent-sending past p)
