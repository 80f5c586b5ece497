-- The data that a port passes on are there until the M, and the first response of their read has PassDirty.
use Rattle.std.proofs.Common.{nat_eq, ◌≡◌, ℕ, ◌<◌, Bool, true, false, [], ◌∷◌, Some, None, is_some, refl, sym, ap, ◌∙◌, inl, inr, ◌&&◌, subst, ◌≢◌, not, ◌⊎◌}
use Rattle.std.proofs.lemmas.Bool.{and_from, not_from_false, cases_Bool, cases_eq, eq-eqb, ltb-true, and_parts, ne_eqb}
use Rattle.ace_model.proofs.Terms.{passes_dirty, Header, Answer, Transaction, Trace, is_read, has_memory_write, granted, answer_of, passes, passer, has_passed_data, gives_line, Event, Cr}
use Rattle.ace_model.proofs.Terms.{Line, passed_data, answers_grant, answer_at, Read, R, is_some_and, is_line, transfers, first_resp, outstanding, is_begun, IsAccepted}
use Rattle.ace_model.proofs.Grants.Stays.{granted_before}
use Rattle.ace_model.proofs.Grants.Pending.{answering, snoops}
use Rattle.ace_model.proofs.Grants.SnoopAnswers.{answer_cases, NewAnswer}
use Rattle.ace_model.proofs.Grants.Granted.{passed_may, has_passed, passes_of, granted_is, written_cases, given_unwritten, Passes, granted_at, unwritten_before}
use Rattle.ace_model.proofs.Holders.Law.{accepted_holds}
use Rattle.ace_model.proofs.Trace.Looks.{is_on-addr}
use Rattle.std.proofs.Math.Bool.{and-false}
use Rattle.ace_model.proofs.Trace.Issued.{outstanding-name, outstanding-origin}
use Rattle.ace_model.proofs.Grants.Answers.{new_answer}
use Rattle.ace_model.proofs.Values.FullReads.{issue_transfers, transfer_moves}
use Rattle.ace_model.proofs.Grants.Begins.{line_due}
use Rattle.ace_model.proofs.General.Options.{Some-injective}
use Rattle.ace_model.proofs.General.Ports.{found_some}

module _ (h : Header) (past : Trace) where
  -- a port that has answered under the grant answers no more
  pub answered_once : IsAccepted h past → (d : Event) (r l : ℕ) (w : Answer) → answer_of past r l ≡ Some w → answer_at past d r l ≡ None
  answered_once a (Cr q resp st) r l w is =
      elim (cases_Bool (nat_eq r q && answers_grant past r l)) [
        | inr f ↦ rw f refl
        | inl t ↦
            let s = answering past q r l t in
            let none = ((snoops h past a).pending r _ l s.0 s.1).unanswered in cc
      ]
  answered_once a d r l w is = refl

  pub answer_kept : IsAccepted h past → (e : Event) (r l : ℕ) (w : Answer) → gives_line past e l ≡ false → answer_of past r l ≡ Some w
      → answer_of (e ∷ past) r l ≡ Some w
  answer_kept a e r l w gives is = let none = answered_once a e r l w is in rw (gives, none) is

  -- Where the granted transaction has passed data, a port has passed them on.
  pub passes_line : IsAccepted h past → (l : ℕ) (x : Transaction) → granted h past l ≡ Some x → has_passed_data h past x ≡ true → Passes h past l
  passes_line a l x g has =
      subst (Passes h past) (is_on-addr x l ((accepted_holds h past a).grants l x g).1) (passes_of h past x.addr (has_passed h past x has).some)

  -- and it has them where the line has some
  pub passed_has : (l : ℕ) (x : Transaction) (d : Line) → granted h past l ≡ Some x → passed_data h past l ≡ Some d → has_passed_data h past x ≡ true
  passed_has l x d g is =
      elim (cases_Bool (has_passed_data h past x)) [
        | inl t ↦ t
        | inr none ↦ let bad : None ≡ Some d = rw (g, none) at is in cc
      ]

-- A port that answered with PassDirty under the grant.
pub record PassedBy (past : Trace) (l : ℕ) : Type 0 where
  pub port : ℕ
  pub answer : Answer
  pub is : answer_of past port l ≡ Some answer
  pub dirty : passes_dirty answer.resp ≡ true

-- a granted read that has had its M has one
pub written_passed : (h : Header) (past : Trace) → IsAccepted h past → (l : ℕ) (x : Transaction) → granted h past l ≡ Some x → is_read x.chan ≡ true
    → has_memory_write past x.port x.chan x.id ≡ true → PassedBy past l
written_passed h [] a l x g reads m = cc
written_passed h (e ∷ past) a l x g reads m =
    elim (granted_before h past e l x g) [
      | inr gives ↦ absurd (given_unwritten h past e a l x g gives m)
      | inl stays ↦
          let o = (accepted_holds h past a.0).grants l x stays.was in
          let before : PassedBy past l = elim (written_cases h past e a x.port x.chan x.id x o.0 m) [
            | inl now ↦
                let w = passes_line h past a.0 l x stays.was (passed_may h past x now.may reads) in
                record { port = w.port; answer = w.answer; is = w.is; dirty = w.dirty }
            | inr earlier ↦ written_passed h past a.0 l x stays.was reads earlier
          ] in
          record { port = before.port; answer = before.answer; is = answer_kept h past a.0 e before.port l before.answer stays.gives before.is; dirty = before.dirty }
    ]

-- a port that has answered is a port of the header
pub answered_low : (h : Header) (past : Trace) → IsAccepted h past → (r l : ℕ) (w : Answer) → answer_of past r l ≡ Some w → r < h.ports
answered_low h [] a r l w is = cc
answered_low h (e ∷ past) a r l w is =
    elim (cases_Bool (gives_line past e l)) [
      | inl t ↦ let none : None ≡ Some w = rw t at is in cc
      | inr f ↦ elim (answer_cases past e r l w f is) [
        | inl old ↦ answered_low h past a.0 r l w old
        | inr new ↦
            let s = answering past r r l (and_from _ _ (eq-eqb r r refl) new.under) in
            ltb-true r h.ports ((snoops h past a.0).pending r _ l s.0 s.1).within
      ]
    ]

module _ (h : Header) (past : Trace) where
  -- until its M, the granted transaction has the data that a port has passed on
  pub passes_data : IsAccepted h past → (l r : ℕ) (x : Transaction) (w : Answer) → granted h past l ≡ Some x
      → has_memory_write past x.port x.chan x.id ≡ false → answer_of past r l ≡ Some w → passes_dirty w.resp ≡ true → has_passed_data h past x ≡ true
  passes_data a l r x w g none is dirty =
      let o = (accepted_holds h past a).grants l x g in
      let addr = is_on-addr x l o.1 in
      let here : passes past l r ≡ true = rw is dirty in
      let some : is_some (passer h past x.addr) ≡ true = ap (λ v. is_some (passer h past v)) addr ∙ found_some h.ports (passes past l) r here (answered_low h past a r l w is) in
      and_from _ _ (and_from _ _ (granted_is h past l x g addr) some) (not_from_false (has_memory_write past x.port x.chan x.id) none)

  -- The event is an answer that passes the line on.
  pub record PassesNow (e : Event) (l : ℕ) (x : Transaction) : Type 0 where
    pub port : ℕ
    pub answer : Answer
    pub new : NewAnswer past e port l answer
    pub dirty : passes_dirty answer.resp ≡ true
    pub was : granted h past l ≡ Some x

  -- passed data were there before the event, or it is such an answer
  pub passed_origin : (e : Event) → IsAccepted h (e ∷ past) → (l : ℕ) (x : Transaction) → granted h (e ∷ past) l ≡ Some x → has_passed_data h (e ∷ past) x ≡ true
      → ((granted h past l ≡ Some x) × (has_passed_data h past x ≡ true)) ⊎ PassesNow e l x
  passed_origin e a l x g has =
      let w = passes_line h (e ∷ past) a l x g has in
      elim (granted_before h past e l x g) [
        | inr gives ↦ let bad : None ≡ Some w.answer = rw gives at w.is in cc
        | inl stays ↦ elim (answer_cases past e w.port l w.answer stays.gives w.is) [
          | inl old ↦
              let out = ((accepted_holds h past a.0).grants l x stays.was).0 in
              let before = unwritten_before h past e a x.port x.chan x.id x out (has_passed h (e ∷ past) x has).unwritten in
              inl (stays.was, passes_data a.0 l w.port x w.answer stays.was before old w.dirty)
          | inr new ↦ inr (record { port = w.port; answer = w.answer; new = new; dirty = w.dirty; was = stays.was })
        ]
      ]

  -- for a read that is outstanding, where no answer passes the line on
  passed_before : (e : Event) → IsAccepted h (e ∷ past) → (p i : ℕ) (x : Transaction) → outstanding h (e ∷ past) p Read i ≡ Some x
      → ((r : ℕ) (w : Answer) → NewAnswer past e r x.addr w → granted h past x.addr ≡ Some x → ⊥) → has_passed_data h (e ∷ past) x ≡ true → has_passed_data h past x ≡ true
  passed_before e a p i x o no_new has =
      elim (passed_origin e a x.addr x (granted_at h (e ∷ past) a p Read i x o (has_passed h (e ∷ past) x has).stands) has) [
        | inl old ↦ old.1
        | inr n ↦ absurd (no_new n.port n.answer n.new n.was)
      ]

-- while there are passed data, the first response of their read has PassDirty
pub first_passes : (h : Header) (past : Trace) → IsAccepted h past → (p i : ℕ) (x : Transaction) → outstanding h past p Read i ≡ Some x → is_line x ≡ true
    → transfers past p i ≢ 0 → has_passed_data h past x ≡ true → is_some_and (first_resp past p i) passes_dirty ≡ true
first_passes h [] a p i x o line some has = cc
first_passes h (e ∷ past) a p i x o line some has =
    elim (outstanding-origin h past e p Read i x o) [
      | inl new ↦ absurd (some (issue_transfers past e p i x new.0 new.1))
      | inr old ↦
          elim (transfer_moves past e p i old.other) [
            | inl same ↦
                let before : transfers past p i ≢ 0 = λ z. some (same.count ∙ z) in
                let had = passed_before h past e a p i x o (λ r w new g. begun old.was before r w new g) has in
                rw same.first (first_passes h past a.0 p i x old.was line before had)
            | inr t ↦
                let had = passed_before h past e a p i x o (λ r w new g. let bad = sym t.is ∙ new.is in cc) has in
                rw t.is
                (transfer t.resp t.last t.word (subst (λ d. IsAccepted h (d ∷ past)) t.is a) old.was had (λ later. first_passes h past a.0 p i x old.was line later had))
          ]
    ]
  where
    begun : outstanding h past p Read i ≡ Some x → transfers past p i ≢ 0 → (r : ℕ) (w : Answer) → NewAnswer past e r x.addr w → granted h past x.addr ≡ Some x → ⊥
    begun was before r w new g =
        let n = new_answer h past e a r x.addr w new in
        let one : n.1.pending.one ≡ x = Some-injective n.1.pending.one x (sym n.1.pending.stands ∙ g) in
        let unbegun : is_begun past x ≡ false = subst (λ (y : Transaction). is_begun past y ≡ false) one n.1.pending.unbegun in
        let name = outstanding-name h past p Read i x was in
        let count : transfers past x.port x.id ≡ transfers past p i = ap (λ v. transfers past v x.id) name.port ∙ ap (transfers past p) name.id in
        let reads : is_read x.chan ≡ true = ap is_read name.chan in
        let none : not (nat_eq (transfers past x.port x.id) 0) ≡ false = rw reads at unbegun in
        let bad : true ≡ false = rw (count, ne_eqb (transfers past p i) 0 before) at none in cc

    transfer : (resp : ℕ) (last : Bool) (word : ℕ) → IsAccepted h (R p i resp last word ∷ past) → outstanding h past p Read i ≡ Some x → has_passed_data h past x ≡ true
        → (transfers past p i ≢ 0 → is_some_and (first_resp past p i) passes_dirty ≡ true) → is_some_and (first_resp (R p i resp last word ∷ past) p i) passes_dirty ≡ true
    transfer resp last word b was had before =
        elim (cases_eq (transfers past p i) 0) [
          | inl z ↦
              let takes = (line_due h past p i resp last word b x was line).takes had in
              let pass : passes_dirty resp ≡ true = (and_parts _ (passes_dirty resp) takes).1 in
              rw (eq-eqb p p (refl {a = p}), eq-eqb i i (refl {a = i}), eq-eqb (transfers past p i) 0 z) pass
          | inr later ↦ rw (ne_eqb (transfers past p i) 0 later, and-false (nat_eq p p && nat_eq i i)) (before later)
        ]
