-- The point of a read of a line, chosen at its first beat.
use Rattle.std.proofs.Common.{Bool, None, Option, Some, ap, arith, inl, inr, option_and_then, option_map, refl, sym, true, unwrap_or, ℕ, ◌∙◌, ◌∷◌, ◌≡◌, ◌≢◌}
use Rattle.std.proofs.lemmas.Bool.{cases_eq}
use Rattle.std.specs.List.{AllByRecursion}
use Rattle.ace_model.proofs.Terms.{Answer, Event, Header, FitsFields, IsAccepted, R, Read, Trace, Transaction, at_point, copy_at_answer, copy_of, first_sender, is_line_read_transaction}
use Rattle.ace_model.proofs.Terms.{memory_at_first_beat, outstanding, reply_of, transaction_of, transfers, value_of}
use Rattle.ace_model.proofs.Trace.Issued.{outstanding-origin, outstanding-named, outstanding-name}
use Rattle.ace_model.proofs.Trace.Growth.{at_point-before}
use Rattle.ace_model.proofs.Trace.Places.{NewBeat, grant-old}
use Rattle.ace_model.proofs.Values.Stays.{answer-before}
use Rattle.ace_model.proofs.Values.Replies.{memory-before, sender_sent}
use Rattle.ace_model.proofs.Values.FullReads.{issue_transfers, first-transfer, BeatDue, beat_due}
use Rattle.ace_model.proofs.Values.Law.{facts}
use Rattle.ace_model.proofs.ReadsFollow.Points.{IsPointOf, Follows, follows-step}
use Rattle.ace_model.proofs.ReadsFollow.Outstanding.{line_read-chan, line_read-line}
use Rattle.ace_model.proofs.ReadsFollow.UnderWay.{reply-stays}
use Rattle.ace_model.proofs.ReadsFollow.Sent.{GrantedAt, granted-at, answer-after, sent_value}
use Rattle.ace_model.proofs.ReadsFollow.Memory.{memory_follows}

-- before the first beat of a read there is a point for it
pub first-point : (h : Header) (past : Trace) (p i resp : ℕ) (last : Bool) (word : ℕ) (x : Transaction) → IsAccepted h (R p i resp last word ∷ past)
    → AllByRecursion FitsFields past → outstanding h past p Read i ≡ Some x → is_line_read_transaction x ≡ true → transfers past p i ≡ 0
    → (n : ℕ) × IsPointOf past x n
first-point h past p i resp last word x a range o reads none =
    let u = beat_due h past p i x (R p i resp last word) a (record { resp = resp; last = last; word = word; is = refl }) o (line_read-line x reads) in
    cases (granted-at h past x.addr x u.stands (line_read-chan x reads)) u (first_sender past x.addr) refl
  where
    reply : (v : Option ℕ) → first_sender past x.addr ≡ v
        → reply_of past x ≡ unwrap_or (option_and_then (copy_at_answer past x.addr) v) (memory_at_first_beat past x.port x.id x.addr)
    reply v sender = rw sender refl

    cases : GrantedAt past x.addr x → BeatDue h past p i x → (v : Option ℕ) → first_sender past x.addr ≡ v → (n : ℕ) × IsPointOf past x n
    cases g u None sender =
        let m = memory_follows h past a.0 range x u.stands reads (u.done none) sender in
        let n = outstanding-name h past p Read i x o in
        let count : transfers past x.port x.id ≡ 0 = ap (λ v. transfers past v x.id) n.port ∙ ap (transfers past p) n.id ∙ none in
        let after = m.after in
        let next = g.next in (
          m.point,
          record { granted = (g.place, (g.is, omega arith)); low = m.low; same = reply None sender ∙ memory-before past x.port x.id x.addr count ∙ m.same },
        )
    cases g u (Some q) sender =
        let s = sender_sent h past a.0 q x.addr sender in
        let after = answer-after h past a.0 q x.addr x s.answer u.stands s.is in
        let before = answer-before past q x.addr s.answer s.is in
        let next = g.next in (
          s.answer.place,
          record {
            granted = (g.place, (g.is, omega arith));
            low = omega arith;
            same = reply (Some q) sender
                ∙ ap (λ o. unwrap_or (option_map (λ (w : Answer). copy_of (at_point w.place past) q x.addr) o) (memory_at_first_beat past x.port x.id x.addr)) s.is
                ∙ sent_value h past a.0 range q x.addr x s.answer u.stands s.is s.sends;
          },
        )

-- the point of a read in a longer trace
point-grown : (e : Event) (past : Trace) (x : Transaction) (n : ℕ) → reply_of (e ∷ past) x ≡ reply_of past x → IsPointOf past x n → IsPointOf (e ∷ past) x n
point-grown e past x n reply s =
    let low = s.low in
    let g = s.granted in
    record {
      granted = (g.0, (grant-old e past g.0 x g.1.0, g.1.1));
      low = omega arith;
      same = reply ∙ s.same ∙ ap (λ (t : Trace). value_of t x.addr) (sym (at_point-before e past n low));
    }

-- What a point of each read needs at an event: it is one for the read whose beat the event is.
abbrev pub Ready : Trace → Event → (ℕ → ℕ) → Type 0
Ready past e point = (x : Transaction) (k word : ℕ) → NewBeat past e x k word → IsPointOf past x (point x.place)

-- with its points ready, the event is one more
pub more : (h : Header) (past : Trace) (e : Event) (point : ℕ → ℕ) → IsAccepted h (e ∷ past) → AllByRecursion FitsFields past → Follows h past point → Ready past e point
    → Follows h (e ∷ past) point
more h past e point a range f ready =
    follows-step h past e point f a (facts h past a.0 range).copies ready (λ p i x o reads some.
    point-grown e past x (point x.place) (reply-stays h past x e p i a o reads some) (was p i x o reads some))
  where
    was : (p i : ℕ) (x : Transaction) → outstanding h (e ∷ past) p Read i ≡ Some x → is_line_read_transaction x ≡ true → transfers (e ∷ past) p i ≢ 0
        → IsPointOf past x (point x.place)
    was p i x o reads some =
        elim (outstanding-origin h past e p Read i x o) [
          | inl new ↦ absurd (some (issue_transfers past e p i x new.0 new.1))
          | inr old ↦ elim (cases_eq (transfers past p i) 0) [
            | inr earlier ↦ f.replies p i x old.was reads earlier
            | inl none ↦
                let b = first-transfer e past p i old.other none some in
                let named = outstanding-named h past p Read i x old.was in
                let n = outstanding-name h past p Read i x old.was in
                ready x (transfers past x.port x.id) b.word (record {
                  resp = b.resp;
                  last = b.last;
                  event = b.is ∙ ap (λ v. R v i b.resp b.last b.word) (sym n.port) ∙ ap (λ v. R x.port v b.resp b.last b.word) (sym n.id);
                  named = ap (λ v. transaction_of past v Read x.id) n.port ∙ ap (transaction_of past p Read) n.id ∙ named;
                  line_read = reads;
                  number = refl;
                })
          ]
        ]
