-- While a port owes the data of its answer to a snoop of a line, the grant of the line lasts, and its transaction hasn't begun.
use Rattle.std.proofs.Common.{◌≡◌, ℕ, ◌+◌, ◌*◌, ◌<◌, ◌≤◌, true, false, not, ◌&&◌, nat_eq, nat_le, nat_lt, ◌∷◌, length, Some, None, refl, sym, ap, subst, ◌∙◌, arith, inl, inr}
use Rattle.std.proofs.lemmas.Bool.{and_parts, and_from, not-true, eq-eqb, eqb-true, ltb-true, lt-leb, cases_Bool, not_from_false, false_from_ne_true}
use Rattle.ace_model.specs.Snoops.{data_beats}
use Rattle.ace_model.proofs.Terms.{Event, Cr, Cd, LineState, SnoopKind, Header, Transaction, Answer, Trace, IsAccepted, transfers_data, is_read, snoop_of, granted, answer_of, owes_answer, owes_data, is_begun, has_failed, is_port_done, answers_line, data_answers, updates_memory}
use Rattle.ace_model.proofs.General.Ports.{each_at}
use Rattle.ace_model.proofs.Trace.Looks.{is_on-addr, snoops_done-ports}
use Rattle.ace_model.proofs.Grants.Stays.{granted_after, failed_stays}
use Rattle.ace_model.proofs.Grants.Begins.{MayBegin, begins}
use Rattle.ace_model.proofs.Grants.Granted.{granted_given, updates_ungranted}
use Rattle.ace_model.proofs.Grants.Pending.{ends_begun}
use Rattle.ace_model.proofs.Grants.SnoopAnswers.{answering_cr}
use Rattle.ace_model.proofs.Holders.Law.{accepted_holds}
use Rattle.ace_model.proofs.Values.PassedData.{answer_kept}

-- The port has answered a snoop of the line with DataTransfer under the present grant, whose transaction hasn't begun.
pub record Owing (h : Header) (past : Trace) (p l : ℕ) (w : Answer) : Type 0 where
  pub one : Transaction
  pub kind : SnoopKind
  pub stands : granted h past l ≡ Some one
  pub causes : snoop_of one ≡ Some kind
  pub unfailed : has_failed past one ≡ false
  pub unbegun : is_begun past one ≡ false
  pub answer : answer_of past p l ≡ Some w
  pub within : nat_lt p h.ports ≡ true
  pub sends : transfers_data w.resp ≡ true

-- the beats of a port grow
pub data_beats-grow : (e : Event) (past : Trace) (p : ℕ) → data_beats past p ≤ data_beats (e ∷ past) p
data_beats-grow (Cd q last word) past p =
    elim (cases_Bool (nat_eq p q)) [
      | inl t ↦ rw t (omega arith)
      | inr f ↦ rw f (omega arith)
    ]
data_beats-grow _ past p = omega arith

module _ (h : Header) (past : Trace) (p l : ℕ) (w : Answer) (o : Owing h past p l w) (short : data_beats past p < 4 * (w.bursts + 1)) where
  -- so it owes data
  pub owing-owes : owes_data past p l ≡ true
  owing-owes =
      let whole : nat_le (4 * (w.bursts + 1)) (data_beats past p) ≡ false = lt-leb (4 * (w.bursts + 1)) (data_beats past p) short in
      let answer = o.answer in
      let sends = o.sends in
      rw answer (and_from _ _ sends (not_from_false _ whole))

  updates_write : (x : Transaction) → updates_memory x ≡ true → is_read x.chan ≡ false
  updates_write x u = false_from_ne_true (is_read x.chan) (λ t. let bad : false ≡ true = rw t at u in cc)

  -- and the snoops of the granted transaction aren't done
  undone : IsAccepted h past → MayBegin h past o.one → ⊥
  undone a (inr updates) = updates_ungranted o.one (granted_given h past a l o.one o.stands).kind (updates_write o.one updates) updates
  undone a (inl done) =
      let here = each_at h.ports (is_port_done h past o.one) p (snoops_done-ports h past o.one o.kind o.causes o.unfailed done) (ltb-true p h.ports o.within) in
      let parts = and_parts (not (owes_answer past p o.one.addr) && not (owes_data past p o.one.addr)) _ here in
      let none = not-true (owes_data past p o.one.addr) (and_parts (not (owes_answer past p o.one.addr)) _ parts.0).1 in
      let addr = is_on-addr o.one l ((accepted_holds h past a).grants l o.one o.stands).1 in
      let there : owes_data past p l ≡ false = subst (λ b. owes_data past p b ≡ false) addr none in
      let owes = owing-owes in cc

  -- so the grant lasts
  pub owing_stays : (e : Event) → IsAccepted h (e ∷ past) → Owing h (e ∷ past) p l w
  owing_stays e a =
      elim (granted_after h past e a l o.one o.stands) [
        | inr ends ↦ elim (ends_begun h past e a l o.one ends.0 o.kind o.stands o.causes ends.1 ends.2) [
          | inl begun ↦ let unbegun = o.unbegun in cc
          | inr may ↦ absurd (undone a.0 may)
        ]
        | inl stays ↦ elim (begins h past e a l o.one stays o.unbegun) [
          | inr may ↦ absurd (undone a.0 may)
          | inl unbegun ↦ record {
            one = o.one;
            kind = o.kind;
            stands = stays.is;
            causes = o.causes;
            unfailed = failed_stays h past e a l o.one stays ∙ o.unfailed;
            unbegun = unbegun;
            answer = answer_kept h past a.0 e p l w stays.gives o.answer;
            within = o.within;
            sends = o.sends;
          }
        ]
      ]

-- an answer with DataTransfer to a snoop of the line is such a one
pub owing_new : (h : Header) (past : Trace) (q resp : ℕ) (st : LineState) → IsAccepted h (Cr q resp st ∷ past) → (l : ℕ) → answers_line past q l ≡ true
    → transfers_data resp ≡ true → Owing h (Cr q resp st ∷ past) q l (record { place = length past; resp = resp; bursts = data_answers past q })
owing_new h past q resp st a l line sends =
    let n = answering_cr h past q resp st a l line in
    let under = n.under in
    record {
      one = n.pending.one;
      kind = n.kind;
      stands = n.pending.stands;
      causes = n.causes;
      unfailed = n.pending.unfailed;
      unbegun = n.pending.unbegun;
      answer = rw (eq-eqb q q (refl {a = q}), under) refl;
      within = n.pending.within;
      sends = sends;
    }
