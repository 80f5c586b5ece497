-- The points of the reads of a trace, as the trace grows by an event, and as the point of a read is chosen before its first beat.
use Rattle.std.proofs.Common.{◌≡◌, ◌≢◌, ℕ, ◌<◌, ◌≤◌, Bool, true, false, if◌then◌else◌, nat_eq, ◌∷◌, length, Some, sym, ap, subst, ◌∙◌, arith, inl, inr}
use Rattle.std.proofs.lemmas.Bool.{eqb-true, ne_eqb, not-true}
use Rattle.ace_model.proofs.Terms.{I, is_invalid, Event, L, R, Read, Header, Transaction, Trace, at_point, outstanding, transaction_of, transfers, state_of, is_line_read_transaction, word_of, copy_of}
use Rattle.ace_model.proofs.Terms.{reply_of, value_of, k30, k31, has_word, AreCopiesTrue, IsLoad, IsBeat, IsGrantOf, IsAccepted}
use Rattle.ace_model.proofs.Trace.Growth.{at_point-before}
use Rattle.ace_model.proofs.Trace.Issued.{issued_at, outstanding-named, transaction_of-stands, same_place}
use Rattle.ace_model.proofs.Rules.Keeps.{accepted_keeps}
use Rattle.ace_model.proofs.Trace.Looks.{has_name-is}
use Rattle.ace_model.proofs.Holders.Transfer.{may}
use Rattle.ace_model.proofs.Trace.Places.{NewBeat, load-cases, beat-cases, grant-old, event_at-below, at_point-last}
use Rattle.ace_model.proofs.ReadsFollow.Order.{PointsSet}
use Rattle.ace_model.proofs.ReadsFollow.Beats.{load-elsewhere, beat-elsewhere}
use Rattle.ace_model.proofs.General.Options.{is_none_or-at}

-- The point is one for the line read: after its G, and the reply is the value there.
pub record IsPointOf (past : Trace) (x : Transaction) (n : ℕ) : Type 0 where
  pub granted : (g : ℕ) × (IsGrantOf past g x × g < n)
  pub low : n ≤ length past
  pub same : reply_of past x ≡ value_of (at_point n past) x.addr

-- The points of the reads, and what holds of the reads that go on to have beats.
pub record Follows (h : Header) (past : Trace) (point : ℕ → ℕ) : Type 0 where
  pub set : PointsSet past point
  pub load_word : (n p l w word : ℕ) → IsLoad past n p l w word → word ≡ word_of (value_of (at_point n past) l) w
  pub beat_word : (n k word : ℕ) (x : Transaction) → IsBeat past n x k word → word ≡ word_of (value_of (at_point (point x.place) past) x.addr) k
  pub later : (n : ℕ) → length past ≤ n → point n ≡ n
  pub replies : (p i : ℕ) (x : Transaction) → outstanding h past p Read i ≡ Some x → is_line_read_transaction x ≡ true → transfers past p i ≢ 0
      → IsPointOf past x (point x.place)

-- a load gives its word of the value
load_value : (h : Header) (past : Trace) (p l w word : ℕ) (x : Bool) → AreCopiesTrue h past l → IsAccepted h (L p l w x word ∷ past)
    → word ≡ word_of (value_of past l) w
load_value h past p l w word x copies a =
    let k : k30 h past (L p l w x word) ≡ true = (accepted_keeps h past (L p l w x word) a).rule_30 in
    let g : k31 h past (L p l w x word) ≡ true = (accepted_keeps h past (L p l w x word) a).rule_31 in
    let held = not-true (is_invalid (state_of h past p l)) k in
    let holds : state_of h past p l ≢ I = λ gone. let bad : is_invalid I ≡ false = subst (λ s. is_invalid s ≡ false) gone held in cc in
    eqb-true word (word_of (copy_of past p l) w) g ∙ ap (λ v. word_of v w) (copies p holds)

-- a beat has its word of the reply
beat_word : (h : Header) (past : Trace) (e : Event) (x : Transaction) (k word : ℕ) → IsAccepted h (e ∷ past) → NewBeat past e x k word → word ≡ word_of (reply_of past x) k
beat_word h past e x k word a b =
    let z = R x.port x.id b.resp b.last word in
    let accepted : IsAccepted h (z ∷ past) = subst (λ (v : Event). IsAccepted h (v ∷ past)) b.event a in
    let m = may h past x.port x.id b.resp b.last word (accepted_keeps h past z accepted).rule_18 in
    let out : outstanding h past x.port Read x.id ≡ Some x = m.out ∙ sym m.named ∙ b.named in
    let t = is_none_or-at (outstanding h past x.port Read x.id) (has_word past word) x (accepted_keeps h past z accepted).rule_20 out in
    let reads = b.line_read in
    let is : nat_eq word (word_of (reply_of past x) (transfers past x.port x.id)) ≡ true = rw reads at t in
    eqb-true word _ is ∙ ap (word_of (reply_of past x)) b.number

-- Where each new beat has its point, the points serve the longer trace too.
pub follows-step : (h : Header) (past : Trace) (e : Event) (point : ℕ → ℕ) → Follows h past point → IsAccepted h (e ∷ past)
    → ((l : ℕ) → AreCopiesTrue h past l)
    → ((x : Transaction) (k word : ℕ) → NewBeat past e x k word → IsPointOf past x (point x.place))
    → ((p i : ℕ) (x : Transaction) → outstanding h (e ∷ past) p Read i ≡ Some x → is_line_read_transaction x ≡ true → transfers (e ∷ past) p i ≢ 0
    → IsPointOf (e ∷ past) x (point x.place))
    → Follows h (e ∷ past) point
follows-step h past e point f a copies ready replies = record {
  set = record {
    load_now = λ n p l w word load. elim (load-cases e past n p l w word load) [
      | inl old ↦ f.set.load_now n p l w word old
      | inr new ↦ f.later n (let at = new.0 in omega arith)
    ];
    granted = λ x b. elim (beat-cases e past b.0 x b.1.0 b.1.1.0 b.1.1.1) [
      | inl old ↦
          let g = f.set.granted x (b.0, (b.1.0, (b.1.1.0, old.0))) in
          (g.0, (grant-old e past g.0 x g.1.0, g.1.1))
      | inr new ↦
          let g = (ready x b.1.0 b.1.1.0 new.1).granted in
          (g.0, (grant-old e past g.0 x g.1.0, g.1.1))
    ];
    before_beats = λ n k word x b. elim (beat-cases e past n x k word b) [
      | inl old ↦ f.set.before_beats n k word x old.0
      | inr new ↦ let low = (ready x k word new.1).low in let at = new.0 in omega arith
    ];
  };
  load_word = λ n p l w word load. elim (load-cases e past n p l w word load) [
    | inl old ↦
        let low = event_at-below past n (L p l w old.0 word) old.1 in
        let same : at_point n (e ∷ past) ≡ at_point n past = at_point-before e past n (omega arith) in
        f.load_word n p l w word old ∙ ap (λ (t : Trace). word_of (value_of t l) w) (sym same)
    | inr new ↦
        let same : at_point n (e ∷ past) ≡ past = at_point-last e past n new.0 in
        load_value h past p l w word new.1.0 (copies l) (subst (λ (v : Event). IsAccepted h (v ∷ past)) new.1.1 a)
        ∙ ap (λ (t : Trace). word_of (value_of t l) w) (sym same)
  ];
  beat_word = λ n k word x b. elim (beat-cases e past n x k word b) [
    | inl old ↦
        let low = f.set.before_beats n k word x old.0 in
        let below = old.1 in
        let same : at_point (point x.place) (e ∷ past) ≡ at_point (point x.place) past = at_point-before e past (point x.place) (omega arith) in
        f.beat_word n k word x old.0 ∙ ap (λ (t : Trace). word_of (value_of t x.addr) k) (sym same)
    | inr new ↦
        let r = ready x k word new.1 in
        let same : at_point (point x.place) (e ∷ past) ≡ at_point (point x.place) past = at_point-before e past (point x.place) r.low in
        beat_word h past e x k word a new.1 ∙ ap (λ v. word_of v k) (r.same ∙ ap (λ (t : Trace). value_of t x.addr) (sym same))
  ];
  later = λ n high. f.later n (omega arith);
  replies = replies;
}

-- Before the first beat of a read its point may be any.
pub follows-choose : (h : Header) (past : Trace) (point : ℕ → ℕ) (x : Transaction) (m : ℕ) → Follows h past point
    → outstanding h past x.port Read x.id ≡ Some x → transfers past x.port x.id ≡ 0
    → Follows h past (λ n. if nat_eq n x.place then m else point n)
follows-choose h past point x m f out none = record {
  set = record {
    load_now = λ n p l w word load. rw (ne_eqb n x.place (load-elsewhere past n p l w word x load there)) (f.set.load_now n p l w word load);
    granted = λ y b. rw (ne_eqb y.place x.place (beat-elsewhere past x y named none b)) (f.set.granted y b);
    before_beats = λ n k word y b.
        rw (ne_eqb y.place x.place (beat-elsewhere past x y named none (n, (k, (word, b))))) (f.set.before_beats n k word y b);
  };
  load_word = f.load_word;
  beat_word = λ n k word y b. rw (ne_eqb y.place x.place (beat-elsewhere past x y named none (n, (k, (word, b))))) (f.beat_word n k word y b);
  later = λ n high. rw (ne_eqb n x.place (λ q. absurd (omega (arith, q, below)))) (f.later n high);
  replies = λ p i y o reads some. rw (ne_eqb y.place x.place (other p i y o some)) (f.replies p i y o reads some);
}
  where
    named : transaction_of past x.port Read x.id ≡ Some x
    named = outstanding-named h past x.port Read x.id x out

    there : issued_at past x.place ≡ Some x
    there = (transaction_of-stands past x.port Read x.id x named).there

    below : x.place < length past
    below = (transaction_of-stands past x.port Read x.id x named).before

    other : (p i : ℕ) (y : Transaction) → outstanding h past p Read i ≡ Some y → transfers past p i ≢ 0 → y.place ≢ x.place
    other p i y o some same =
        let named_y = outstanding-named h past p Read i y o in
        let one : y ≡ x = same_place past p x.port Read Read i x.id y x named_y named same in
        let n = has_name-is y p Read i (transaction_of-stands past p Read i y named_y).named in
        let count : transfers past p i ≡ transfers past x.port x.id =
        ap (λ v. transfers past v i) (sym n.port ∙ ap (λ (v : Transaction). v.port) one)
        ∙ ap (transfers past x.port) (sym n.id ∙ ap (λ (v : Transaction). v.id) one) in
        some (count ∙ none)
