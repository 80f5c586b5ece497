-- In an accepted trace all reads follow the stores at the places that they get as the trace grows.
use Rattle.std.proofs.Common.{false, [], ap, subst, Bool, None, Some, arith, if◌then◌else◌, inl, inr, length, nat_eq, refl, sym, true, unwrap_or, ℕ, ◌+◌, ◌<◌, ◌≤◌, ◌∙◌, ◌∷◌, ◌≡◌}
use Rattle.std.proofs.lemmas.Bool.{cases_Bool, cases_eq, eq-eqb, ne_eqb}
use Rattle.std.specs.List.{AllByRecursion}
use Rattle.ace_model.specs.declared.transactions.Transaction.{Transaction}
use Rattle.ace_model.proofs.Terms.{Event, FitsFields, Header, IsAccepted, IsReadBy, L, R, Read, Trace, at_point, is_line_read_transaction, outstanding, transaction_of, transfers, value_of, word_of}
use Rattle.ace_model.specs.ReadsFollow.{FollowsAt}
use Rattle.ace_model.proofs.Rules.Keeps.{accepted_keeps}
use Rattle.ace_model.proofs.Holders.Transfer.{MayTransfer, may}
use Rattle.ace_model.proofs.Trace.Places.{NewBeat, event_at-below, beat-below}
use Rattle.ace_model.proofs.ReadsFollow.Order.{points-in_order}
use Rattle.ace_model.proofs.ReadsFollow.Points.{IsPointOf, Follows, follows-choose}
use Rattle.ace_model.proofs.ReadsFollow.First.{Ready, more}
use Rattle.ace_model.proofs.General.Options.{Some-injective}
use Rattle.ace_cert.proofs.ReadEvents.{read_at-from}
use Rattle.ace_cert_make.specs.Places.{next_place, place_given, placed_by}
use Rattle.ace_cert_make.proofs.First.{first-place}
use Rattle.ace_cert_make.proofs.PlacedReads.{read-given}

-- the place of the read whose load or AR has so many events before it; what isn't placed yet may have any
abbrev point_of : Trace → ℕ → ℕ
point_of past n = unwrap_or (place_given past (n + 1)) n

-- The reads follow at these points.
record Placed (h : Header) (past : Trace) : Type 0 where
  point : ℕ → ℕ
  follows : Follows h past point
  same : (n : ℕ) → point n ≡ point_of past n

-- an event that places no read
unplaced : (past : Trace) (e : Event) → placed_by past e ≡ None → (n : ℕ) → point_of past n ≡ point_of (e ∷ past) n
unplaced past e none n = rw none refl

-- a beat is of the read that the rule on transfers speaks of
one-beat : (h : Header) (past : Trace) (q j resp : ℕ) (last : Bool) (word : ℕ) (x : Transaction) (k w : ℕ) → (m : MayTransfer h past q j resp last)
    → NewBeat past (R q j resp last word) x k w → m.one ≡ x
one-beat h past q j resp last word x k w m b =
    let e = b.event in
    let port : q ≡ x.port = cc in
    let id : j ≡ x.id = cc in
    Some-injective m.one x (sym m.named ∙ ap (λ v. transaction_of past v Read j) port ∙ ap (transaction_of past x.port Read) id ∙ b.named)

-- a read gets its place at its first beat
with-beat : (h : Header) (past : Trace) (q j resp : ℕ) (last : Bool) (word : ℕ) → IsAccepted h (R q j resp last word ∷ past) → AllByRecursion FitsFields past
    → Placed h past → Placed h (R q j resp last word ∷ past)
with-beat h past q j resp last word a range points =
    elim (cases_eq (transfers past q j) 0) [
      | inr some ↦
          let apart = ne_eqb (transfers past q j) 0 some in
          as_before (rw apart refl)
          (λ x k w b. f.replies q j x (m.out ∙ ap (λ v. Some v) (one-beat h past q j resp last word x k w m b)) b.line_read some)
      | inl none ↦ elim (cases_Bool (is_line_read_transaction m.one)) [
        | inl reads ↦ first reads none
        | inr other ↦
            let named = m.named in
            as_before (rw (none, named, other) refl)
            (λ x k w b.
            let bad : false ≡ true = sym other ∙ ap is_line_read_transaction (one-beat h past q j resp last word x k w m b) ∙ b.line_read in cc)
      ]
    ]
  where
    point : ℕ → ℕ
    point = points.point

    f : Follows h past point
    f = points.follows

    m : MayTransfer h past q j resp last
    m = may h past q j resp last word (accepted_keeps h past (R q j resp last word) a).rule_18

    as_before : placed_by past (R q j resp last word) ≡ None → Ready past (R q j resp last word) point → Placed h (R q j resp last word ∷ past)
    as_before none ready = record {
      point = point;
      follows = more h past (R q j resp last word) point a range f ready;
      same = λ n. points.same n ∙ unplaced past (R q j resp last word) none n;
    }

    first : is_line_read_transaction m.one ≡ true → transfers past q j ≡ 0 → Placed h (R q j resp last word ∷ past)
    first reads none =
        let p = first-place h past q j resp last word m.one a range m.out reads none in
        let out : outstanding h past m.one.port Read m.one.id ≡ Some m.one =
        ap (λ v. outstanding h past v Read m.one.id) m.port ∙ ap (outstanding h past q Read) m.id ∙ m.out in
        let count : transfers past m.one.port m.one.id ≡ 0 = ap (λ v. transfers past v m.one.id) m.port ∙ ap (transfers past q) m.id ∙ none in
        let chosen : ℕ → ℕ = λ n. if nat_eq n m.one.place then next_place past m.one.addr else point n in
        let ready : Ready past (R q j resp last word) chosen = λ x k w b.
        subst (λ (v : Transaction). IsPointOf past v (chosen v.place)) (one-beat h past q j resp last word x k w m b)
        (rw (eq-eqb m.one.place m.one.place (refl {a = m.one.place})) p) in
        let named = m.named in
        let placed : placed_by past (R q j resp last word) ≡ Some (record { event = m.one.place + 1; place = next_place past m.one.addr }) =
        rw (none, named, reads) refl in
        record {
          point = chosen;
          follows = more h past (R q j resp last word) chosen a range (follows-choose h past point m.one (next_place past m.one.addr) f out count) ready;
          same = λ n. elim (cases_eq n m.one.place) [
            | inl here ↦
                let one : nat_eq n m.one.place ≡ true = eq-eqb n m.one.place here in
                let two : nat_eq (m.one.place + 1) (n + 1) ≡ true = eq-eqb (m.one.place + 1) (n + 1) (ap (λ v. v + 1) (sym here)) in
                rw (placed, one, two) refl
            | inr apart ↦
                let one : nat_eq n m.one.place ≡ false = ne_eqb n m.one.place apart in
                let two : nat_eq (m.one.place + 1) (n + 1) ≡ false = ne_eqb (m.one.place + 1) (n + 1) (λ e. apart (omega (arith, e))) in
                rw (placed, one, two) (points.same n)
          ];
        }

-- the points of the trace that is one event longer
with-event : (h : Header) (past : Trace) (e : Event) → IsAccepted h (e ∷ past) → AllByRecursion FitsFields past → Placed h past → Placed h (e ∷ past)
with-event h past (R q j resp last word) a range points = with-beat h past q j resp last word a range points
with-event h past (L p l w x word) a range points = record {
  point = points.point;
  follows = more h past (L p l w x word) points.point a range points.follows (λ y k v b. let no = b.event in cc);
  same = λ n. elim (cases_eq n (length past)) [
    | inl here ↦
        let now = points.follows.later n (omega (arith, here)) in
        let one : nat_eq (length past + 1) (n + 1) ≡ true = eq-eqb (length past + 1) (n + 1) (ap (λ v. v + 1) (sym here)) in
        rw one (now ∙ here)
    | inr apart ↦
        let one : nat_eq (length past + 1) (n + 1) ≡ false = ne_eqb (length past + 1) (n + 1) (λ e. apart (omega (arith, e))) in
        rw one (points.same n)
  ];
}
with-event h past e a range points = record {
  point = points.point;
  follows = more h past e points.point a range points.follows (λ x k w b. let no = b.event in cc);
  same = points.same;
}

start : (h : Header) → Placed h []
start h = record {
  point = λ n. n;
  follows = record {
    set = record {
      load_now = λ n p l w word load. refl;
      granted = λ x b. let low = beat-below [] b.0 x b.1.0 b.1.1.0 b.1.1.1 in absurd (omega arith);
      before_beats = λ n k word x b. let low = beat-below [] n x k word b in absurd (omega arith);
    };
    load_word = λ n p l w word load. let low = event_at-below [] n (L p l w load.0 word) load.1 in absurd (omega arith);
    beat_word = λ n k word x b. let low = beat-below [] n x k word b in absurd (omega arith);
    later = λ n high. refl;
    replies = λ p i x o. cc;
  };
  same = λ n. refl;
}

all-placed : (h : Header) (past : Trace) → IsAccepted h past → AllByRecursion FitsFields past → Placed h past
all-placed h [] a range = start h
all-placed h (e ∷ past) a range = with-event h past e a range.1 (all-placed h past a.0 range.1)

-- other points serve as well, where those of the reads are the same
pub follows-same : (past : Trace) (f g : ℕ → ℕ) → FollowsAt past f → ((p l n : ℕ) → IsReadBy past p l n → f n ≡ g n) → FollowsAt past g
follows-same past f g s same = record {
  load_now = λ n p l w word load. sym (same p l n (inl (w, (word, load)))) ∙ s.load_now n p l w word load;
  load_word = s.load_word;
  granted = λ x b.
      let r = s.granted x b in
      (r.0, (r.1.0, subst (λ v. r.0 < v) (same x.port x.addr x.place (inr (x, b, refl, refl, refl))) r.1.1));
  before_beats = λ n k word x b. subst (λ v. v ≤ n) (same x.port x.addr x.place (inr (x, (n, (k, (word, b))), refl, refl, refl)))
      (s.before_beats n k word x b);
  beat_word = λ n k word x b.
      s.beat_word n k word x b
      ∙ ap (λ v. word_of (value_of (at_point v past) x.addr) k) (same x.port x.addr x.place (inr (x, (n, (k, (word, b))), refl, refl, refl)));
  in_order = λ p l n m first later less.
      subst (λ v. g n ≤ v) (same p l m later) (subst (λ v. v ≤ f m) (same p l n first) (s.in_order p l n m first later less));
}

pub given_follow : (h : Header) (past : Trace) → IsAccepted h past → AllByRecursion FitsFields past
    → FollowsAt past (λ n. unwrap_or (place_given past (n + 1)) 0)
given_follow h past a range =
    let p = all-placed h past a range in
    let f = p.follows in
    follows-same past p.point (λ n. unwrap_or (place_given past (n + 1)) 0)
    (record {
      load_now = f.set.load_now;
      load_word = f.load_word;
      granted = f.set.granted;
      before_beats = f.set.before_beats;
      beat_word = f.beat_word;
      in_order = points-in_order h past p.point a f.set;
    })
    (λ q l n is. let r = read-given past n (read_at-from past q l n is) in let there = r.1 in p.same n ∙ rw there refl)
