-- The burst that a port sends for a snoop of a line is that of its answer under the present grant of the line.
use Rattle.std.proofs.Common.{◌≡◌, ◌≢◌, ℕ, ◌+◌, ◌*◌, ◌/◌, ◌%◌, ◌<◌, ◌≤◌, arith, true, false, Bool, not, ◌&&◌, nat_eq, nat_le, [], ◌∷◌, length, length-append, slice_get, Some, None, refl, sym, ap, subst, ◌∙◌, inl, inr}
use Rattle.std.proofs.lemmas.Bool.{and_parts, cases_Bool, eqb-true, eq-eqb, ne_eqb, le-leb, lt-leb, leb-true, leb-false}
use Rattle.std.proofs.lemmas.Option.{slice_get_within}
use Rattle.ace_lineck.proofs.Terms.{Snoop, Answer, data_beats, sent, next_sent, is_short, more, Header, Trace, Event, Cr, Cd, IsAccepted, answered, answers_line, answer_of, data_answers, is_snoop_on, transfers_data, gives_line, copy_of, data_snoop_at, data_snoops, sending, line_in}
use Rattle.ace_model.proofs.General.Options.{some_is, is_some_and-is}
use Rattle.ace_model.proofs.General.Lists.{slice_get-more, slice_get-at_end, slice_get-grown}
use Rattle.ace_model.proofs.Rules.Keeps.{accepted_keeps}
use Rattle.ace_model.proofs.Grants.SnoopAnswers.{answer_cases}
use Rattle.ace_model.proofs.Lines.Owing.{Owing, data_beats-grow, owing_stays, owing_new}
use Rattle.ace_lineck.proofs.OnLine.{IsOff, on-snoop, line-snoop}

-- the answers with data are as many as the snoops that they answer
pub data_count : (h : Header) (past : Trace) → IsAccepted h past → (p : ℕ) → length (data_snoops past p) ≡ data_answers past p
data_count h [] a p = refl
data_count h (Cr q resp st ∷ past) a p =
    let before = data_count h past a.0 p in
    elim (cases_Bool (nat_eq p q && transfers_data resp)) [
      | inr f ↦ rw f before
      | inl t ↦
          let s = some_is (answered past q) (accepted_keeps h past (Cr q resp st) a).rule_14 in
          let there : answered past p ≡ Some s.0 = ap (answered past) (eqb-true p q (and_parts (nat_eq p q) (transfers_data resp) t).0) ∙ s.1 in
          rw (t, there) (length-append (data_snoops past p) (s.0 ∷ []) ∙ ap (λ n. n + 1) before)
    ]
data_count h (_ ∷ past) a p = data_count h past a.0 p

-- An answer with data under the grant of a line has its snoop, of that line, among those.
pub record Sends (past : Trace) (p l n : ℕ) : Type 0 where
  pub asked : Snoop
  pub there : slice_get (data_snoops past p) n ≡ Some asked
  pub on : is_snoop_on asked l ≡ true

pub answer_sends : (h : Header) (past : Trace) → IsAccepted h past → (p l : ℕ) (w : Answer) → answer_of past p l ≡ Some w → transfers_data w.resp ≡ true
    → Sends past p l w.bursts
answer_sends h [] a p l w is sends = cc
answer_sends h (e ∷ past) a p l w is sends =
    elim (cases_Bool (gives_line past e l)) [
      | inl t ↦ let none : None ≡ Some w = rw t at is in cc
      | inr f ↦ elim (answer_cases past e p l w f is) [
        | inl old ↦
            let s = answer_sends h past a.0 p l w old sends in
            record { asked = s.asked; there = slice_get-grown (data_snoops past p) (data_snoop_at past e p) w.bursts s.asked s.there; on = s.on }
        | inr new ↦
            let s = is_some_and-is (answered past p) (λ s. is_snoop_on s l && _) new.under in
            let resp : new.resp ≡ w.resp = ap (λ (v : Answer). v.resp) (sym new.now) in
            let bursts : w.bursts ≡ length (data_snoops past p) = ap (λ (v : Answer). v.bursts) new.now ∙ sym (data_count h past a.0 p) in
            let now : data_snoop_at past (Cr p new.resp new.st) p ≡ Some s.0 = rw (eq-eqb p p (refl {a = p}), ap transfers_data resp ∙ sends) s.1 in
            let here : data_snoop_at past e p ≡ Some s.0 = ap (λ d. data_snoop_at past d p) new.is ∙ now in
            record {
              asked = s.0;
              there = ap (λ o. slice_get (more (data_snoops past p) o) w.bursts) here ∙ slice_get-at_end (data_snoops past p) w.bursts s.0 bursts;
              on = (and_parts (is_snoop_on s.0 l) _ s.2).0;
            }
      ]
    ]

-- A snoop of the line whose burst isn't whole has its answer under the present grant.
pub record Unfinished (h : Header) (past : Trace) (p n l : ℕ) : Type 0 where
  pub answer : Answer
  pub owing : Owing h past p l answer
  pub bursts : answer.bursts ≡ n

pub unfinished : (h : Header) (past : Trace) → IsAccepted h past → (p n l : ℕ) (s : Snoop) → slice_get (data_snoops past p) n ≡ Some s
    → is_snoop_on s l ≡ true → data_beats past p < 4 * (n + 1) → Unfinished h past p n l
unfinished h [] a p n l s there on short = cc
unfinished h (e ∷ past) a p n l s there on short =
    elim (slice_get-more (data_snoops past p) (data_snoop_at past e p) n s there) [
      | inl old ↦
          let grow = data_beats-grow e past p in
          let before : data_beats past p < 4 * (n + 1) = omega arith in
          let u = unfinished h past a.0 p n l s old on before in
          let w = u.answer in
          let same = u.bursts in
          record { answer = w; owing = owing_stays h past p l w u.owing (rw same before) e a; bursts = same }
      | inr new ↦ by e a new.1 new.0
    ]
  where
    by : (d : Event) → IsAccepted h (d ∷ past) → data_snoop_at past d p ≡ Some s → n ≡ length (data_snoops past p) → Unfinished h (d ∷ past) p n l
    by (Cr q resp st) a is at =
        elim (cases_Bool (nat_eq p q && transfers_data resp)) [
          | inr f ↦ let none : None ≡ Some s = rw f at is in cc
          | inl t ↦
              let parts = and_parts (nat_eq p q) (transfers_data resp) t in
              let port = eqb-true p q parts.0 in
              let here : answered past p ≡ Some s = rw t at is in
              let line : answers_line past p l ≡ true = rw here on in
              let one : Cr q resp st ≡ Cr p resp st = ap (λ v. Cr v resp st) (sym port) in
              subst (λ d. Unfinished h (d ∷ past) p n l) (sym one)
              (record {
                answer = record { place = length past; resp = resp; bursts = data_answers past p };
                owing = owing_new h past p resp st (subst (λ d. IsAccepted h (d ∷ past)) one a) l line parts.1;
                bursts = sym (data_count h past a.0 p) ∙ sym at;
              })
        ]
    by d a is at = cc

-- the lines that a port announces are as many as its answers with data
pub sent_count : (h : Header) (past : Trace) → IsAccepted h past → (p : ℕ) → length (sent past p) ≡ data_answers past p
sent_count h [] a p = refl
sent_count h (Cr q resp st ∷ past) a p =
    let before = sent_count h past a.0 p in
    elim (cases_Bool (nat_eq p q && transfers_data resp)) [
      | inr f ↦ rw f before
      | inl t ↦
          let s = some_is (answered past q) (accepted_keeps h past (Cr q resp st) a).rule_14 in
          let there : answered past p ≡ Some s.0 = ap (answered past) (eqb-true p q (and_parts (nat_eq p q) (transfers_data resp) t).0) ∙ s.1 in
          rw (t, there) (length-append (sent past p) (copy_of past p s.0.addr ∷ []) ∙ ap (λ n. n + 1) before)
    ]
sent_count h (_ ∷ past) a p = sent_count h past a.0 p

-- no port has sent more beats than it has announced
pub sent_few : (h : Header) (past : Trace) → IsAccepted h past → (p : ℕ) → data_beats past p ≤ 4 * data_answers past p
sent_few h [] a p = omega arith
sent_few h (Cd q last word ∷ past) a p =
    let before = sent_few h past a.0 p in
    elim (cases_Bool (nat_eq p q)) [
      | inr f ↦ rw f before
      | inl t ↦
          let line = is_some_and-is (next_sent past q) (λ line. _) (accepted_keeps h past (Cd q last word) a).rule_17 in
          let port = eqb-true p q t in
          let within = slice_get_within (sent past q) (data_beats past q / 4) line.0 line.1 in
          let count = sent_count h past a.0 q in
          rw t (subst (λ v. data_beats past v + 1 ≤ 4 * data_answers past v) (sym port) (omega arith))
    ]
sent_few h (Cr q resp st ∷ past) a p =
    let before = sent_few h past a.0 p in
    elim (cases_Bool (nat_eq p q && transfers_data resp)) [
      | inr f ↦ rw f before
      | inl t ↦ rw t (omega arith)
    ]
sent_few h (_ ∷ past) a p = sent_few h past a.0 p

-- a beat more makes the burst whole, or leaves it as it was
le-step : (m d : ℕ) → d + 1 ≢ m → nat_le m (d + 1) ≡ nat_le m d
le-step m d apart =
    elim (cases_Bool (nat_le m d)) [
      | inl t ↦ let low = leb-true m d t in let more = le-leb m (d + 1) (omega arith) in rw (t, more) refl
      | inr f ↦ let high = leb-false m d f in let more = lt-leb m (d + 1) (omega arith) in rw (f, more) refl
    ]

module _ (h : Header) (past : Trace) (q : ℕ) (last : Bool) (word : ℕ) (a : IsAccepted h (Cd q last word ∷ past)) (l : ℕ) where
  -- the beat of another port, or of another line, leaves whether an answer's data are whole
  pub short-apart : (p : ℕ) → p ≢ q → (w : Answer) → is_short (Cd q last word ∷ past) p w ≡ is_short past p w
  short-apart p apart w = let other = ne_eqb p q apart in rw other refl

  pub short-off : IsOff h past (Cd q last word) l → (w : Answer) → answer_of past q l ≡ Some w → is_short (Cd q last word ∷ past) q w ≡ is_short past q w
  short-off off w is =
      elim (cases_Bool (transfers_data w.resp)) [
        | inr silent ↦ rw silent refl
        | inl sends ↦ rw (eq-eqb q q (refl {a = q})) (ap (λ b. transfers_data w.resp && not b) (le-step (4 * (w.bursts + 1)) (data_beats past q) (apart sends)))
      ]
    where
      apart : transfers_data w.resp ≡ true → data_beats past q + 1 ≢ 4 * (w.bursts + 1)
      apart sends same =
          let s = answer_sends h past a.0 q l w is sends in
          let at : w.bursts ≡ data_beats past q / 4 = omega arith in
          let now : sending past q ≡ Some s.asked = ap (slice_get (data_snoops past q)) (sym at) ∙ s.there in
          off (line-snoop (sending past q) l (let on = s.on in rw now on))

  -- What the beat of the line belongs to: the port's answer under the grant, whose burst isn't whole before it.
  pub record Beat : Type 0 where
    pub answer : Answer
    pub is : answer_of past q l ≡ Some answer
    pub sends : transfers_data answer.resp ≡ true
    pub bursts : answer.bursts ≡ data_beats past q / 4

  pub beat_of : line_in h past (Cd q last word) ≡ Some l → Beat
  beat_of on =
      let s = is_some_and-is (sending past q) (λ s. is_snoop_on s l) (on-snoop (sending past q) l on) in
      let u = unfinished h past a.0 q (data_beats past q / 4) l s.0 s.1 s.2 (omega arith) in
      record { answer = u.answer; is = u.owing.answer; sends = u.owing.sends; bursts = u.bursts }

  -- before it the burst isn't whole; with it it is, where it is the fourth beat
  pub short-before : (w : Answer) → transfers_data w.resp ≡ true → w.bursts ≡ data_beats past q / 4 → is_short past q w ≡ true
  short-before w sends at =
      let more : nat_le (4 * (w.bursts + 1)) (data_beats past q) ≡ false = lt-leb (4 * (w.bursts + 1)) (data_beats past q) (omega arith) in
      rw (sends, more) refl

  pub whole-now : (w : Answer) → transfers_data w.resp ≡ true → w.bursts ≡ data_beats past q / 4 → data_beats past q % 4 ≡ 3 → is_short (Cd q last word ∷ past) q w ≡ false
  whole-now w sends at fourth =
      let all : nat_le (4 * (w.bursts + 1)) (data_beats past q + 1) ≡ true = le-leb (4 * (w.bursts + 1)) (data_beats past q + 1) (omega arith) in
      rw (sends, eq-eqb q q (refl {a = q}), all) refl

  pub short-now : (w : Answer) → transfers_data w.resp ≡ true → w.bursts ≡ data_beats past q / 4 → data_beats past q % 4 ≢ 3 → is_short (Cd q last word ∷ past) q w ≡ true
  short-now w sends at earlier =
      let more : nat_le (4 * (w.bursts + 1)) (data_beats past q + 1) ≡ false = lt-leb (4 * (w.bursts + 1)) (data_beats past q + 1) (omega arith) in
      rw (sends, eq-eqb q q (refl {a = q}), more) refl
