-- In an accepted trace all reads follow one order of the stores.
use Rattle.std.proofs.Common.{false, [], ap, subst, Bool, Some, arith, if◌then◌else◌, inl, inr, nat_eq, refl, sym, true, ℕ, ◌∙◌, ◌∷◌, ◌≡◌}
use Rattle.std.proofs.lemmas.Bool.{cases_Bool, cases_eq, eq-eqb}
use Rattle.std.specs.List.{AllByRecursion}
use Rattle.ace_model.proofs.Terms.{Event, Header, FitsFields, IsAccepted, L, R, Read, ReadsFollow, Trace, Transaction, is_line_read_transaction, outstanding, transaction_of, transfers}
use Rattle.ace_model.proofs.Rules.Keeps.{accepted_keeps}
use Rattle.ace_model.proofs.Holders.Transfer.{MayTransfer, may}
use Rattle.ace_model.proofs.Trace.Places.{NewBeat, event_at-below, beat-below}
use Rattle.ace_model.proofs.ReadsFollow.Order.{points-in_order}
use Rattle.ace_model.proofs.ReadsFollow.Points.{IsPointOf, Follows, follows-choose}
use Rattle.ace_model.proofs.ReadsFollow.First.{first-point, Ready, more}
use Rattle.ace_model.proofs.General.Options.{Some-injective}

-- the points of the reads of a trace
abbrev Points : Header → Trace → Type 0
Points h past = (point : ℕ → ℕ) × Follows h past point

-- a beat is of the read that the rule on transfers speaks of
one-beat : (h : Header) (past : Trace) (q j resp : ℕ) (last : Bool) (word : ℕ) (x : Transaction) (k w : ℕ) → (m : MayTransfer h past q j resp last)
    → NewBeat past (R q j resp last word) x k w → m.one ≡ x
one-beat h past q j resp last word x k w m b =
    let e = b.event in
    let port : q ≡ x.port = cc in
    let id : j ≡ x.id = cc in
    Some-injective m.one x (sym m.named ∙ ap (λ v. transaction_of past v Read j) port ∙ ap (transaction_of past x.port Read) id ∙ b.named)

-- the point of a read is chosen at its first beat
with-beat : (h : Header) (past : Trace) (q j resp : ℕ) (last : Bool) (word : ℕ) → IsAccepted h (R q j resp last word ∷ past) → AllByRecursion FitsFields past
    → Points h past → Points h (R q j resp last word ∷ past)
with-beat h past q j resp last word a range points =
    elim (cases_eq (transfers past q j) 0) [
      | inr some ↦ as_before (λ x k w b. f.replies q j x (m.out ∙ ap (λ v. Some v) (one-beat h past q j resp last word x k w m b)) b.line_read some)
      | inl none ↦ elim (cases_Bool (is_line_read_transaction m.one)) [
        | inl reads ↦ first reads none
        | inr other ↦ as_before (λ x k w b.
            let bad : false ≡ true = sym other ∙ ap is_line_read_transaction (one-beat h past q j resp last word x k w m b) ∙ b.line_read in cc)
      ]
    ]
  where
    point : ℕ → ℕ
    point = points.0

    f : Follows h past point
    f = points.1

    m : MayTransfer h past q j resp last
    m = may h past q j resp last word (accepted_keeps h past (R q j resp last word) a).rule_18

    as_before : Ready past (R q j resp last word) point → Points h (R q j resp last word ∷ past)
    as_before ready = (point, more h past (R q j resp last word) point a range f ready)

    first : is_line_read_transaction m.one ≡ true → transfers past q j ≡ 0 → Points h (R q j resp last word ∷ past)
    first reads none =
        let p = first-point h past q j resp last word m.one a range m.out reads none in
        let out : outstanding h past m.one.port Read m.one.id ≡ Some m.one =
        ap (λ v. outstanding h past v Read m.one.id) m.port ∙ ap (outstanding h past q Read) m.id ∙ m.out in
        let count : transfers past m.one.port m.one.id ≡ 0 = ap (λ v. transfers past v m.one.id) m.port ∙ ap (transfers past q) m.id ∙ none in
        let chosen : ℕ → ℕ = λ n. if nat_eq n m.one.place then p.0 else point n in
        let ready : Ready past (R q j resp last word) chosen = λ x k w b.
        subst (λ (v : Transaction). IsPointOf past v (chosen v.place)) (one-beat h past q j resp last word x k w m b)
        (rw (eq-eqb m.one.place m.one.place (refl {a = m.one.place})) p.1) in
        (chosen, more h past (R q j resp last word) chosen a range (follows-choose h past point m.one p.0 f out count) ready)

-- the points of the trace that is one event longer
with-event : (h : Header) (past : Trace) (e : Event) → IsAccepted h (e ∷ past) → AllByRecursion FitsFields past → Points h past → Points h (e ∷ past)
with-event h past (R q j resp last word) a range points = with-beat h past q j resp last word a range points
with-event h past e a range points = (points.0, more h past e points.0 a range points.1 (λ x k w b. let no = b.event in cc))

start : (h : Header) → Points h []
start h = (
  λ n. n,
  record {
    set = record {
      load_now = λ n p l w word load. refl;
      granted = λ x b. let low = beat-below [] b.0 x b.1.0 b.1.1.0 b.1.1.1 in absurd (omega arith);
      before_beats = λ n k word x b. let low = beat-below [] n x k word b in absurd (omega arith);
    };
    load_word = λ n p l w word load. let low = event_at-below [] n (L p l w load.0 word) load.1 in absurd (omega arith);
    beat_word = λ n k word x b. let low = beat-below [] n x k word b in absurd (omega arith);
    later = λ n high. refl;
    replies = λ p i x o. cc;
  },
)

all-points : (h : Header) (past : Trace) → IsAccepted h past → AllByRecursion FitsFields past → Points h past
all-points h [] a range = start h
all-points h (e ∷ past) a range = with-event h past e a range.1 (all-points h past a.0 range.1)

-- In an accepted trace all reads follow one order of the stores.
pub reads_follow : (h : Header) (past : Trace) → IsAccepted h past → AllByRecursion FitsFields past → ReadsFollow past
reads_follow h past a range =
    let p = all-points h past a range in
    let f = p.1 in (
      p.0,
      record {
        load_now = f.set.load_now;
        load_word = f.load_word;
        granted = f.set.granted;
        before_beats = f.set.before_beats;
        beat_word = f.beat_word;
        in_order = points-in_order h past p.0 a f.set;
      },
    )
