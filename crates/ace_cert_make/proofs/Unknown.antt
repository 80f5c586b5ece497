-- Of a line that no transaction names nothing is kept.
use Rattle.std.proofs.Common.{◌≡◌, ℕ, true, false, ◌&&◌, [], ◌∷◌, None, nat_le, refl, sym, ap, ◌∙◌, inl, inr}
use Rattle.std.proofs.lemmas.Bool.{and_parts, cases_Bool}
use Rattle.ace_model.proofs.Terms.{Cr, Event, G, Header, IsAccepted, M, Trace, answered, answers, answers_grant, gives_line, grant_place, is_on, is_snoop_on, sender_at, store_at, transaction_of, transfers_data}
use Rattle.ace_model.specs.Lines.{is_known}
use Rattle.ace_model.proofs.General.Options.{is_some_and-is}
use Rattle.ace_model.proofs.Lines.Known.{known-grown, known-issued, known-snooped}
use Rattle.ace_model.proofs.Report.Untouched.{store_known}
use Rattle.ace_model.proofs.Trace.Growth.{named-issued}
use Rattle.ace_cert_make.specs.declared.track.LineTrack.{LineTrack}
use Rattle.ace_cert_make.specs.Places.{writes_line}
use Rattle.ace_cert_make.specs.Tracks.{track_of}

-- a line that isn't known
unknown : (past : Trace) (l : ℕ) → is_known past l ≡ true → is_known past l ≡ false → ⊥
unknown past l t f = let bad : true ≡ false = sym t ∙ f in cc

gives-none : (past : Trace) (e : Event) (l : ℕ) → is_known past l ≡ false → gives_line past e l ≡ false
gives-none past (G p c i) l f =
    elim (cases_Bool (gives_line past (G p c i) l)) [
      | inr none ↦ none
      | inl t ↦
          let x = is_some_and-is (transaction_of past p c i) (λ y. is_on y l) t in
          absurd (unknown past l (known-issued past x.0 l (named-issued past p c i x.0 x.1) x.2) f)
    ]
gives-none past e l f = refl

writes-none : (past : Trace) (e : Event) (l : ℕ) → is_known past l ≡ false → writes_line past e l ≡ false
writes-none past (M p c i line) l f =
    elim (cases_Bool (writes_line past (M p c i line) l)) [
      | inr none ↦ none
      | inl t ↦
          let x = is_some_and-is (transaction_of past p c i) (λ y. is_on y l) t in
          absurd (unknown past l (known-issued past x.0 l (named-issued past p c i x.0 x.1) x.2) f)
    ]
writes-none past e l f = refl

sender-none : (h : Header) (past : Trace) (e : Event) (l : ℕ) → IsAccepted h past → is_known past l ≡ false → sender_at past e l ≡ None
sender-none h past (Cr p resp st) l a f =
    elim (cases_Bool (transfers_data resp && answers_grant past p l)) [
      | inr none ↦ rw none refl
      | inl t ↦
          let grant = (and_parts (transfers_data resp) (answers_grant past p l) t).1 in
          let s = is_some_and-is (answered past p) (λ s. is_snoop_on s l && nat_le (grant_place past l) s.place) grant in
          let on = (and_parts (is_snoop_on s.0 l) _ s.2).0 in
          absurd (unknown past l (known-snooped h past a p (answers past p) l s.0 s.1 on) f)
    ]
sender-none h past e l a f = refl

pub untouched-track : (h : Header) (past : Trace) → IsAccepted h past → (l : ℕ) → is_known past l ≡ false
    → track_of past l ≡ record { stores = []; granted = 0; memory = 0; sent = None }
untouched-track h [] a l f = refl
untouched-track h (e ∷ past) a l f =
    let old : is_known past l ≡ false = elim (cases_Bool (is_known past l)) [
      | inr new ↦ new
      | inl k ↦ absurd (unknown (e ∷ past) l (known-grown e past l k) f)
    ] in
    let store : store_at past e l ≡ None = elim (store_known h past e a l) [
      | inl n ↦ n
      | inr k ↦ absurd (unknown past l k old)
    ] in
    let gives = gives-none past e l old in
    let writes = writes-none past e l old in
    let sender = sender-none h past e l a.0 old in
    let before = untouched-track h past a.0 l old in
    let stores = ap (λ (t : LineTrack). t.stores) before in
    let granted = ap (λ (t : LineTrack). t.granted) before in
    let memory = ap (λ (t : LineTrack). t.memory) before in
    let sent = ap (λ (t : LineTrack). t.sent) before in
    rw (store, gives, writes, sender, stores, granted, memory, sent) refl
