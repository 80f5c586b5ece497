-- The G of a granted read comes before the answers under its grant, and the line that an answer sends was the value then.
use Rattle.std.proofs.Common.{[], ap, subst, Some, arith, inl, inr, length, refl, sym, true, ℕ, ◌+◌, ◌∙◌, ◌∷◌, ◌≡◌, ◌≢◌, ◌≤◌}
use Rattle.std.specs.List.{AllByRecursion}
use Rattle.ace_model.proofs.Terms.{Answer, Channel, Event, G, Header, I, FitsFields, IsAccepted, IsGrantOf, Read, Trace, Transaction, answer_of, at_point, copy_of, ended, given, grant_place, granted}
use Rattle.ace_model.proofs.Terms.{is_on, state_of, transaction_of, transfers_data, value_of, without}
use Rattle.ace_model.proofs.Grants.SnoopAnswers.{since_answer}
use Rattle.ace_model.proofs.Trace.Growth.{at_point-before}
use Rattle.ace_model.proofs.Trace.Issued.{transaction_of-stands}
use Rattle.ace_model.proofs.Trace.Looks.{has_name-is, newest_on-cases, without-some}
use Rattle.ace_model.proofs.Trace.Places.{event_at-now, grant-old, at_point-last}
use Rattle.ace_model.proofs.Tables.SnoopRows.{sends_held}
use Rattle.ace_model.proofs.Grants.Stays.{grant_place-low}
use Rattle.ace_model.proofs.Grants.Answers.{new_answer}
use Rattle.ace_model.proofs.Values.Stays.{answer-before}
use Rattle.ace_model.proofs.Values.Law.{facts}

-- A granted read has had its G, just before its grant.
pub record GrantedAt (past : Trace) (l : ℕ) (x : Transaction) : Type 0 where
  pub place : ℕ
  pub is : IsGrantOf past place x
  pub next : grant_place past l ≡ place + 1

pub granted-at : (h : Header) (past : Trace) (l : ℕ) (x : Transaction) → granted h past l ≡ Some x → x.chan ≡ Read → GrantedAt past l x
granted-at h [] l x g reads = cc
granted-at h (e ∷ past) l x g reads =
    elim (newest_on-cases (given past e) l (without (ended h past e) (granted h past l)) x g) [
      | inl new ↦ now e new.0 new.1
      | inr old ↦
          let s = granted-at h past l x (without-some (ended h past e) (granted h past l) x old.0).0 reads in
          record { place = s.place; is = grant-old e past s.place x s.is; next = rw old.1 s.next }
    ]
  where
    now : (v : Event) → given past v ≡ Some x → is_on x l ≡ true → GrantedAt (v ∷ past) l x
    now (G q c j) new on =
        let n = has_name-is x q c j (transaction_of-stands past q c j x new).named in
        let same : G q c j ≡ G x.port Read x.id =
        ap (λ a. G a c j) (sym n.port) ∙ ap (λ (a : Channel). G x.port a j) (sym n.chan ∙ reads) ∙ ap (G x.port Read) (sym n.id) in
        let named : transaction_of past x.port Read x.id ≡ Some x =
        ap (λ a. transaction_of past a Read x.id) n.port ∙ ap (λ (a : Channel). transaction_of past q a x.id) (sym reads ∙ n.chan) ∙ ap (transaction_of past q c) n.id ∙ new in
        record {
          place = length past;
          is = (
            event_at-now (G q c j) past ∙ ap Some same,
            subst (λ (t : Trace). transaction_of t x.port Read x.id ≡ Some x) (sym (at_point-last (G q c j) past (length past) refl)) named,
          );
          next = rw new (rw on refl);
        }
    now v new on = cc

-- an answer under the grant comes after it
pub answer-after : (h : Header) (past : Trace) → IsAccepted h past → (r l : ℕ) (x : Transaction) (w : Answer) → granted h past l ≡ Some x → answer_of past r l ≡ Some w
    → grant_place past l ≤ w.place
answer-after h past a r l x w g is =
    since_answer h l r x w (λ t. grant_place t l ≤ w.place)
    (λ past e a stays new now.
    let place : w.place ≡ length past = ap (λ (v : Answer). v.place) new.now in
    let low = grant_place-low past l in
    let most : grant_place past l ≤ w.place = omega arith in
    rw stays.gives most)
    (λ past e a stays was before. rw stays.gives before) past a g is

-- the line that an answer with data sends is the value at that point
pub sent_value : (h : Header) (past : Trace) → IsAccepted h past → AllByRecursion FitsFields past → (r l : ℕ) (x : Transaction) (w : Answer) → granted h past l ≡ Some x
    → answer_of past r l ≡ Some w → transfers_data w.resp ≡ true → copy_of (at_point w.place past) r l ≡ value_of (at_point w.place past) l
sent_value h past a range r l x w g is sends =
    since_answer h l r x w (λ t. AllByRecursion FitsFields t → copy_of (at_point w.place t) r l ≡ value_of (at_point w.place t) l)
    (λ past e a stays new now range.
    let n = new_answer h past e a r l w new in
    let held : state_of h past r l ≢ I = λ gone. sends_held n.1.kind w.resp n.0 (rw gone at n.1.row) sends in
    subst (λ (t : Trace). copy_of t r l ≡ value_of t l) (sym (at_point-last e past w.place (ap (λ (v : Answer). v.place) new.now))) ((facts h past a.0 range.1).copies l r held))
    (λ past e a stays was before range.
    let low = answer-before past r l w was in
    subst (λ (t : Trace). copy_of t r l ≡ value_of t l) (sym (at_point-before e past w.place (omega arith))) (before range.1)) past a g is range
