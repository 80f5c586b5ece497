-- The point of a read of a line, at its first beat, is the place that it gets.
use Rattle.std.proofs.Common.{Bool, None, Option, Some, ap, arith, option_and_then, option_map, subst, sym, unwrap_or, true, ℕ, ◌∙◌, ◌∷◌, ◌≡◌, refl}
use Rattle.std.specs.List.{AllByRecursion}
use Rattle.ace_model.specs.declared.transactions.Transaction.{Transaction}
use Rattle.ace_model.specs.declared.snoops.Answer.{Answer}
use Rattle.ace_model.proofs.Terms.{FitsFields, Header, IsAccepted, R, Read, Trace, at_point, copy_at_answer, copy_of, first_sender, is_line_read_transaction, memory_at_first_beat}
use Rattle.ace_model.proofs.Terms.{outstanding, reply_of, transfers}
use Rattle.ace_model.proofs.Trace.Issued.{outstanding-name}
use Rattle.ace_model.proofs.Values.FullReads.{BeatDue, beat_due}
use Rattle.ace_model.proofs.Values.Replies.{memory-before, sender_sent}
use Rattle.ace_model.proofs.Values.Stays.{answer-before}
use Rattle.ace_model.proofs.ReadsFollow.Outstanding.{line_read-chan, line_read-line}
use Rattle.ace_model.proofs.ReadsFollow.Points.{IsPointOf}
use Rattle.ace_model.proofs.ReadsFollow.Sent.{GrantedAt, granted-at, answer-after, sent_value}
use Rattle.ace_cert_make.specs.Places.{memory_place, next_place}
use Rattle.ace_cert_make.proofs.Memory.{memory_place-after, memory_place-low, memory-was}
use Rattle.ace_cert_make.proofs.Sent.{none-sent, sent-answer}

pub first-place : (h : Header) (past : Trace) (p i resp : ℕ) (last : Bool) (word : ℕ) (x : Transaction) → IsAccepted h (R p i resp last word ∷ past)
    → AllByRecursion FitsFields past → outstanding h past p Read i ≡ Some x → is_line_read_transaction x ≡ true → transfers past p i ≡ 0
    → IsPointOf past x (next_place past x.addr)
first-place h past p i resp last word x a range o reads none =
    let u = beat_due h past p i x (R p i resp last word) a (record { resp = resp; last = last; word = word; is = refl }) o (line_read-line x reads) in
    cases (granted-at h past x.addr x u.stands (line_read-chan x reads)) u (first_sender past x.addr) refl
  where
    reply : (v : Option ℕ) → first_sender past x.addr ≡ v
        → reply_of past x ≡ unwrap_or (option_and_then (copy_at_answer past x.addr) v) (memory_at_first_beat past x.port x.id x.addr)
    reply v sender = rw sender refl

    cases : GrantedAt past x.addr x → BeatDue h past p i x → (v : Option ℕ) → first_sender past x.addr ≡ v → IsPointOf past x (next_place past x.addr)
    cases g u None sender =
        let m = memory-was h past a.0 range x u.stands reads (u.done none) sender in
        let n = outstanding-name h past p Read i x o in
        let count : transfers past x.port x.id ≡ 0 = ap (λ v. transfers past v x.id) n.port ∙ ap (transfers past p) n.id ∙ none in
        let after = memory_place-after past x.addr in
        let next = g.next in
        let point : IsPointOf past x (memory_place past x.addr) = record {
          granted = (g.place, (g.is, omega arith));
          low = memory_place-low past x.addr;
          same = reply None sender ∙ memory-before past x.port x.id x.addr count ∙ m;
        } in
        subst (λ v. IsPointOf past x (unwrap_or v (memory_place past x.addr))) (sym (none-sent past x.addr sender)) point
    cases g u (Some q) sender =
        let s = sender_sent h past a.0 q x.addr sender in
        let after = answer-after h past a.0 q x.addr x s.answer u.stands s.is in
        let before = answer-before past q x.addr s.answer s.is in
        let next = g.next in
        let point : IsPointOf past x s.answer.place = record {
          granted = (g.place, (g.is, omega arith));
          low = omega arith;
          same = reply (Some q) sender
              ∙ ap (λ o. unwrap_or (option_map (λ (w : Answer). copy_of (at_point w.place past) q x.addr) o)
              (memory_at_first_beat past x.port x.id x.addr)) s.is
              ∙ sent_value h past a.0 range q x.addr x s.answer u.stands s.is s.sends;
        } in
        subst (λ v. IsPointOf past x (unwrap_or v (memory_place past x.addr))) (sym (sent-answer h past a.0 q x.addr s.answer sender s.is)) point
