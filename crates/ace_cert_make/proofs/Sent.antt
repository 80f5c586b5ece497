-- The place of the first answer with DataTransfer under the present grant of a line.
use Rattle.std.proofs.Common.{◌≡◌, ℕ, true, false, ◌&&◌, nat_eq, [], ◌∷◌, length, Option, Some, None, refl, sym, ap, ◌∙◌, inl, inr}
use Rattle.std.proofs.lemmas.Bool.{and_parts, and_from, cases_Bool, eq-eqb}
use Rattle.ace_model.specs.declared.snoops.Answer.{Answer}
use Rattle.ace_model.proofs.Terms.{Cr, Event, Header, IsAccepted, Trace, answer_of, answers_grant, data_answers, first_sender, gives_line, newer, sender_at, transfers_data}
use Rattle.ace_model.proofs.General.Options.{Some-injective}
use Rattle.ace_model.proofs.Values.PassedData.{answer_kept}
use Rattle.ace_model.proofs.Values.Replies.{sender_before, sender_sent}
use Rattle.ace_cert_make.specs.Places.{sent_place}

pub none-sent : (past : Trace) (l : ℕ) → first_sender past l ≡ None → sent_place past l ≡ None
none-sent [] l none = refl
none-sent (e ∷ past) l none =
    elim (cases_Bool (gives_line past e l)) [
      | inl t ↦ rw t refl
      | inr f ↦
          let before = sender_before past e l f none in
          let was = none-sent past l before.0 in
          let now = before.1 in
          rw (f, was, now) refl
    ]

-- the new sender's answer is the event
sent-now : (past : Trace) (e : Event) (q l : ℕ) (w : Answer) → gives_line past e l ≡ false → sender_at past e l ≡ Some q → answer_of (e ∷ past) q l ≡ Some w
    → w.place ≡ length past
sent-now past (Cr p resp st) q l w gives sender is =
    elim (cases_Bool (transfers_data resp && answers_grant past p l)) [
      | inr f ↦ let bad : None ≡ Some q = rw f at sender in cc
      | inl t ↦
          let parts = and_parts (transfers_data resp) (answers_grant past p l) t in
          let same : Some p ≡ Some q = rw t at sender in
          let port : p ≡ q = Some-injective p q same in
          let here : (nat_eq p p && answers_grant past p l) ≡ true = and_from _ _ (eq-eqb p p refl) parts.1 in
          let now : answer_of (Cr p resp st ∷ past) p l ≡ Some (record { place = length past; resp = resp; bursts = data_answers past p }) = rw here refl in
          let one = Some-injective (record { place = length past; resp = resp; bursts = data_answers past p }) w
          (sym now ∙ ap (λ v. answer_of (Cr p resp st ∷ past) v l) port ∙ is) in
          ap (λ (v : Answer). v.place) (sym one)
    ]
sent-now past e q l w gives sender is = cc

-- it is that of the first sender
pub sent-answer : (h : Header) (past : Trace) → IsAccepted h past → (q l : ℕ) (w : Answer) → first_sender past l ≡ Some q → answer_of past q l ≡ Some w
    → sent_place past l ≡ Some w.place
sent-answer h [] a q l w first is = cc
sent-answer h (e ∷ past) a q l w first is =
    elim (cases_Bool (gives_line past e l)) [
      | inl t ↦ let bad : None ≡ Some q = rw t at first in cc
      | inr f ↦
          let n : newer (first_sender past l) (sender_at past e l) ≡ Some q = rw f at first in
          by f (first_sender past l) refl n (λ was. sent-answer h past a.0 q l w was)
    ]
  where
    by : gives_line past e l ≡ false → (o : Option ℕ) → first_sender past l ≡ o → newer o (sender_at past e l) ≡ Some q
        → (first_sender past l ≡ Some q → answer_of past q l ≡ Some w → sent_place past l ≡ Some w.place) → sent_place (e ∷ past) l ≡ Some w.place
    by gives None o n before =
        let now = sent-now past e q l w gives n is in
        let none = none-sent past l o in
        let sender : sender_at past e l ≡ Some q = n in
        rw (gives, none, sender) (ap (λ v. Some v) (sym now))
    by gives (Some r) o n before =
        let was : first_sender past l ≡ Some q = o ∙ n in
        let s = sender_sent h past a.0 q l was in
        let one = Some-injective s.answer w (sym (answer_kept h past a.0 e q l s.answer gives s.is) ∙ is) in
        let there = before was (s.is ∙ ap (λ v. Some v) one) in
        rw (gives, there) refl
