-- While a memory update of a port on a line is outstanding, every other port holds the line in I or SC, and none has passed it on under
-- the present grant. So where a snoop of the port waits for its update, the granted transaction has no passed data.
use Rattle.std.proofs.Common.{◌≡◌, ◌≢◌, ◌⊎◌, ℕ, Bool, true, false, ◌&&◌, ◌||◌, ◌==◌, nat_lt, [], ◌∷◌, length, Some, None, refl, sym, ap, subst, ◌∙◌, inl, inr}
use Rattle.std.proofs.Math.Bool.{and-false}
use Rattle.std.proofs.lemmas.Bool.{and_parts, cases_Bool, cases_eq, eq-eqb, ne_eqb, false_from_ne_true}
use Rattle.ace_model.proofs.Terms.{AwKind, LineState, I, UC, UD, SC, Read, Write, Event, R, Rk, Header, Trace, is_shared, ended, has_failed, passes_dirty, takes_passed_data, starts_read, starts_write, is_update, is_dirty, is_unique, is_invalid}
use Rattle.ace_model.proofs.Terms.{is_some_and, is_none_or, is_line, is_on, is_ace, issued, has_name, outstanding, read_kind, write_kind, transfers, first_resp, updates_memory, has_update, granted, answer_of, has_passed_data, state_of, starts_well, IsAccepted}
use Rattle.ace_codes.specs.declared.kind.AwKind.TheVariants as write
use Rattle.ace_model.specs.declared.snoops.Answer.{Answer}
use Rattle.ace_model.specs.declared.transactions.Transaction.{Transaction}
use Rattle.ace_model.specs.Trace.{implies}
use Rattle.ace_model.specs.Grants.{are_passed_data_whole}
use Rattle.ace_model.specs.ReadRules.{has_upper_bits, fits_kind}
use Rattle.ace_model.proofs.General.Booleans.{implies-at}
use Rattle.ace_model.proofs.General.Options.{is_some_and-is, is_none_or-at}
use Rattle.ace_model.proofs.Grants.Answers.{new_answer, others_settled}
use Rattle.ace_model.proofs.Grants.Begins.{line_due}
use Rattle.ace_model.proofs.Grants.Granted.{granted_at}
use Rattle.ace_model.proofs.Grants.SnoopAnswers.{NewAnswer, answer_cases}
use Rattle.ace_model.proofs.Grants.Stays.{granted_after, granted_before}
use Rattle.ace_model.proofs.Holders.Law.{accepted_holds}
use Rattle.ace_model.proofs.Holders.Rises.{Raised, issue_leaves, state_moves}
use Rattle.ace_model.proofs.Rules.Keeps.{accepted_keeps}
use Rattle.ace_model.proofs.Tables.Less.{settled}
use Rattle.ace_model.proofs.Tables.ReadEnds.{takes_alone}
use Rattle.ace_model.proofs.Trace.Transfers.{full_some}
use Rattle.ace_model.proofs.Tables.SnoopRows.{beside_update}
use Rattle.ace_model.proofs.Tables.States.{is_settled, dirty_unsettled, unique_unsettled, row_is}
use Rattle.ace_model.proofs.Trace.Issued.{outstanding-origin}
use Rattle.ace_model.proofs.Trace.Looks.{has_name-is, is_on-addr}
use Rattle.ace_model.proofs.Values.FullReads.{issue_transfers, transfer_moves}
use Rattle.ace_model.proofs.Values.PassedData.{PassedBy, answer_kept, passes_line}
use Rattle.ace_model.proofs.Values.UpdateHolds.{holds_line, update_found}

-- ---- a response that passes the line on --------------------------------------------------------------

-- a read that takes passed data, of a line that a port has passed on
record TakesPassed (past : Trace) (x : Transaction) : Type 0 where
  by : PassedBy past x.addr
  takes : is_some_and (read_kind x) takes_passed_data ≡ true

response-passed : (h : Header) (past : Trace) → IsAccepted h past → (p i : ℕ) (x : Transaction) → is_ace h p ≡ true → outstanding h past p Read i ≡ Some x → is_line x ≡ true
    → transfers past p i ≢ 0 → is_some_and (first_resp past p i) passes_dirty ≡ true → TakesPassed past x
response-passed h [] a p i x ace o line some pass = cc
response-passed h (e ∷ past) a p i x ace o line some pass =
    elim (outstanding-origin h past e p Read i x o) [
      | inl new ↦ absurd (some (issue_transfers past e p i x new.0 new.1))
      | inr old ↦ elim (transfer_moves past e p i old.other) [
        | inl same ↦
            let before : transfers past p i ≢ 0 = λ z. some (same.count ∙ z) in
            let was = response-passed h past a.0 p i x ace old.was line before (rw (← same.first) pass) in
            lift old.lasts ((accepted_holds h past a.0).arrive p i x ace old.was line before).stands was
        | inr t ↦
            transfer (λ some pass. response-passed h past a.0 p i x ace old.was line some pass) t.resp t.last t.word t.is (subst (λ d. IsAccepted h (d ∷ past)) t.is a) old.was old.lasts (subst (λ d. is_some_and (first_resp (d ∷ past) p i) passes_dirty ≡ true) t.is pass)
      ]
    ]
  where
    lift : ((z : Transaction) → ended h past e ≡ Some z → z.place ≢ x.place) → granted h past x.addr ≡ Some x → TakesPassed past x → TakesPassed (e ∷ past) x
    lift lasts g was =
        elim (granted_after h past e a x.addr x g) [
          | inr z ↦ absurd (lasts z.0 z.1 z.2)
          | inl stays ↦ record {
            by = record { port = was.by.port; answer = was.by.answer; is = answer_kept h past a.0 e was.by.port x.addr was.by.answer stays.gives was.by.is; dirty = was.by.dirty };
            takes = was.takes;
          }
        ]

    transfer : (transfers past p i ≢ 0 → is_some_and (first_resp past p i) passes_dirty ≡ true → TakesPassed past x) → (resp : ℕ) (last : Bool) (word : ℕ) → e ≡ R p i resp last word → IsAccepted h (R p i resp last word ∷ past) → outstanding h past p Read i ≡ Some x
        → ((z : Transaction) → ended h past e ≡ Some z → z.place ≢ x.place) → is_some_and (first_resp (R p i resp last word ∷ past) p i) passes_dirty ≡ true → TakesPassed (e ∷ past) x
    transfer again resp last word is b was lasts first =
        let due = line_due h past p i resp last word b x was line in
        let g = granted_at h past a.0 p Read i x was due.stands in
        elim (cases_eq (transfers past p i) 0) [
          | inr later ↦
              let before : is_some_and (first_resp past p i) passes_dirty ≡ true = rw (ne_eqb (transfers past p i) 0 later, and-false ((p == p) && (i == i))) at first in
              lift lasts g (again later before)
          | inl z ↦
              let now : passes_dirty resp ≡ true = rw (eq-eqb p p (refl {a = p}), eq-eqb i i (refl {a = i}), eq-eqb (transfers past p i) 0 z) at first in
              let bits = is_none_or-at (outstanding h past p Read i) (has_upper_bits h past resp) x (accepted_keeps h past (R p i resp last word) b).rule_19 was in
              let some_bits = implies (passes_dirty resp) (has_passed_data h past x) in
              let three = (and_parts (some_bits && is_none_or (read_kind x) (fits_kind h past x resp) && implies (passes_dirty resp || is_shared resp) (is_ace h x.port)) _ bits).0 in
              let two = (and_parts (some_bits && is_none_or (read_kind x) (fits_kind h past x resp)) _ three).0 in
              let has = implies-at (passes_dirty resp) (has_passed_data h past x) (and_parts some_bits _ two).0 now in
              let w = passes_line h past a.0 x.addr x g has in
              lift lasts g (record {
                by = record { port = w.port; answer = w.answer; is = w.is; dirty = w.dirty };
                takes = (and_parts (is_some_and (read_kind x) takes_passed_data) (are_passed_data_whole h past x) (and_parts (is_some_and (read_kind x) takes_passed_data && are_passed_data_whole h past x) (passes_dirty resp) (due.takes has)).0).0;
              })
        ]

-- ---- a new update ------------------------------------------------------------------------------------

update-unsettled : (k : AwKind) (st : LineState) → is_update k ≡ true → starts_write k st ≡ true → is_settled st ≡ false
update-unsettled write.WriteBack UD u s = refl
update-unsettled write.WriteClean UD u s = refl
update-unsettled write.WriteEvict UC u s = refl
update-unsettled k SC u s = cc
update-unsettled k I u s = cc
update-unsettled k st u s = refl

starts-unsettled : (h : Header) (past : Trace) (e : Event) → IsAccepted h (e ∷ past) → (p i l : ℕ) (x : Transaction) → issued (length past) e ≡ Some x
    → has_name x p Write i ≡ true → is_on x l ≡ true → updates_memory x ≡ true → is_settled (state_of h past p l) ≡ false
starts-unsettled h past e a p i l x new name on updates =
    let kind = is_some_and-is (write_kind x) is_update updates in
    let parts = and_parts (is_line x) (x.addr == l) on in
    let well = is_none_or-at (issued (length past) e) (starts_well h past) x (accepted_keeps h past e a).rule_6 new in
    let both = implies-at (is_line x) _ well parts.0 in
    let write = (and_parts (is_none_or (read_kind x) (λ c. starts_read c (state_of h past x.port x.addr))) _ both).1 in
    let starts = is_none_or-at (write_kind x) (λ c. starts_write c (state_of h past x.port x.addr)) kind.0 write kind.1 in
    let same : state_of h past x.port x.addr ≡ state_of h past p l =
    ap (λ b. state_of h past b x.addr) (has_name-is x p Write i name).port ∙ ap (state_of h past p) (is_on-addr x l on) in
    subst (λ st. is_settled st ≡ false) same (update-unsettled kind.0 _ kind.2 starts)

-- ---- the facts ---------------------------------------------------------------------------------------

-- who may not have passed the line on: another port, and any port to a read that takes passed data
abbrev Barred : ℕ → ℕ → Transaction → Type 0
Barred p q x = (q ≢ p) ⊎ (is_some_and (read_kind x) takes_passed_data ≡ true)

record Beside (h : Header) (past : Trace) (p l : ℕ) : Type 0 where
  low : (q : ℕ) → q ≢ p → is_settled (state_of h past q l) ≡ true
  none : (q : ℕ) (w : Answer) (x : Transaction) → granted h past l ≡ Some x → answer_of past q l ≡ Some w → Barred p q x → passes_dirty w.resp ≡ true → ⊥

-- at the AW
beside-new : (h : Header) (past : Trace) (e : Event) → IsAccepted h (e ∷ past) → (p i l : ℕ) (u : Transaction) → issued (length past) e ≡ Some u
    → has_name u p Write i ≡ true → is_on u l ≡ true → updates_memory u ≡ true → Beside h (e ∷ past) p l
beside-new h past e a p i l u new name on updates = record {
  low = λ q apart. rw (issue_leaves h past e u q l new) (alone q apart);
  none = λ q w x g is barred dirty. elim (granted_before h past e l x g) [
    | inr gives ↦ let none : None ≡ Some w = rw gives at is in cc
    | inl stays ↦ elim (answer_cases past e q l w stays.gives is) [
      | inr now ↦ let bad : issued (length past) e ≡ None = rw now.is refl in cc
      | inl was ↦ elim barred [
        | inl apart ↦
            let low = others_settled h past a.0 l q p x w stays.was was dirty (λ same. apart (sym same)) in
            let bad : true ≡ false = sym low ∙ high in cc
        | inr takes ↦
            let low = (accepted_holds h past a.0).passed l q x w stays.was takes was dirty p in
            let bad : true ≡ false = sym low ∙ high in cc
      ]
    ]
  ];
}
  where
    high : is_settled (state_of h past p l) ≡ false
    high = starts-unsettled h past e a p i l u new name on updates

    alone : (q : ℕ) → q ≢ p → is_settled (state_of h past q l) ≡ true
    alone q apart =
        elim (cases_Bool (is_dirty (state_of h past p l))) [
          | inl d ↦ settled (state_of h past q l)
              (false_from_ne_true (is_unique (state_of h past q l)) (λ u. let gone : is_dirty I ≡ true = subst (λ v. is_dirty v ≡ true) ((accepted_holds h past a.0).unique l q p u apart) d in cc))
              (false_from_ne_true (is_dirty (state_of h past q l)) (λ c. absurd (apart ((accepted_holds h past a.0).one_dirty l q p c d))))
          | inr clean ↦ elim (cases_Bool (is_unique (state_of h past p l))) [
            | inl only ↦ let gone = (accepted_holds h past a.0).unique l p q only (λ same. apart (sym same)) in rw gone refl
            | inr shared ↦ let bad : true ≡ false = sym (settled (state_of h past p l) shared clean) ∙ high in cc
          ]
        ]

-- at the later events
beside-old : (h : Header) (past : Trace) (e : Event) → IsAccepted h (e ∷ past) → (p i l : ℕ) (u : Transaction) → outstanding h past p Write i ≡ Some u
    → is_on u l ≡ true → updates_memory u ≡ true → Beside h past p l → Beside h (e ∷ past) p l
beside-old h past e a p i l u o on updates f = record {
  low = λ q apart. elim (state_moves h past e a q l) [
    | inl less ↦ less.settled (f.low q apart)
    | inr up ↦ raised q apart up
  ];
  none = λ q w x g is barred dirty. elim (granted_before h past e l x g) [
    | inr gives ↦ let none : None ≡ Some w = rw gives at is in cc
    | inl stays ↦ elim (answer_cases past e q l w stays.gives is) [
      | inl was ↦ f.none q w x stays.was was barred dirty
      | inr now ↦ answers q w now dirty
    ]
  ];
}
  where
    held : is_invalid (state_of h past p l) ≡ false
    held = (holds_line h past a.0 p i l u o on updates).held

    answers : (q : ℕ) (w : Answer) → NewAnswer past e q l w → passes_dirty w.resp ≡ true → ⊥
    answers q w now dirty =
        let n = new_answer h past e a q l w now in
        elim (cases_eq q p) [
          | inr apart ↦
              let there = ((row_is n.1.kind (state_of h past q l) w.resp n.0 n.1.row).passes dirty).0 in
              dirty_unsettled (state_of h past q l) there (f.low q apart)
          | inl same ↦
              let row = n.1.beside (subst (λ b. has_update h past b l ≡ true) (sym same) (update_found h past p Write i l u o on updates)) in
              let b = beside_update n.1.kind (state_of h past q l) w.resp n.0 n.1.of_line (subst (λ b. is_invalid (state_of h past b l) ≡ false) (sym same) held) row in
              let bad : true ≡ false = sym dirty ∙ b.no_pass in cc
        ]

    raised : (q : ℕ) → q ≢ p → Raised h past e q l → is_settled (state_of h (e ∷ past) q l) ≡ true
    raised q apart up =
        let line = up.line in
        let now : state_of h (Rk up.port up.st ∷ past) q l ≡ up.st = (let named = up.named in rw named refl) in
        let alone = λ (t : takes_alone line.kind (is_some_and (first_resp past q line.id) is_shared) (has_failed past line.one) ≡ true).
        let gone = line.arrives.alone line.kind line.is_kind t p apart in
        let here : state_of h past p l ≡ I = ap (state_of h past p) (sym line.line) ∙ gone in
        let bad : true ≡ false = sym (ap is_invalid here) ∙ held in bad in
        let clean : is_dirty up.st ≡ false = false_from_ne_true (is_dirty up.st) (λ d. elim (line.state.dirty d) [
          | inl was ↦ dirty_unsettled (state_of h past q l) was (f.low q apart)
          | inr (inl pass) ↦ passed q apart up pass
          | inr (inr t) ↦ let bad = alone t in cc
        ]) in
        let shared : is_unique up.st ≡ false = false_from_ne_true (is_unique up.st) (λ v. elim (line.state.unique v) [
          | inl was ↦ unique_unsettled (state_of h past q l) was (f.low q apart)
          | inr t ↦ let bad = alone t in cc
        ]) in
        subst (λ d. is_settled (state_of h (d ∷ past) q l) ≡ true) (sym up.is) (rw now (settled up.st shared clean))
      where
        passed : (q : ℕ) → q ≢ p → (up : Raised h past e q l) → is_some_and (first_resp past q up.line.id) passes_dirty ≡ true → ⊥
        passed q apart up pass =
            let line = up.line in
            let reads = and_parts (is_line line.one) (line.one.addr == l) line.on in
            let ace = (and_parts (nat_lt up.port h.ports) (is_ace h up.port) (accepted_keeps h past (Rk up.port up.st) (subst (λ d. IsAccepted h (d ∷ past)) up.is a)).rule_1).1 in
            let r = response-passed h past a.0 q line.id line.one (subst (λ b. is_ace h b ≡ true) (sym line.port) ace) line.out reads.0 (full_some past q line.id line.one line.full) pass in
            f.none r.by.port r.by.answer line.one (subst (λ v. granted h past v ≡ Some line.one) line.line line.arrives.stands) (subst (λ b. answer_of past r.by.port b ≡ Some r.by.answer) line.line r.by.is) (inr r.takes) r.by.dirty

beside : (h : Header) (past : Trace) → IsAccepted h past → (p i l : ℕ) (u : Transaction) → outstanding h past p Write i ≡ Some u → is_on u l ≡ true → updates_memory u ≡ true → Beside h past p l
beside h [] a p i l u o on updates = cc
beside h (e ∷ past) a p i l u o on updates =
    elim (outstanding-origin h past e p Write i u o) [
      | inl new ↦ beside-new h past e a p i l u new.0 new.1 on updates
      | inr old ↦ beside-old h past e a p i l u old.was on updates (beside h past a.0 p i l u old.was on updates)
    ]

-- While an update of a port is outstanding that hasn't answered under the grant of its line, the granted transaction has no passed data.
pub none-passed : (h : Header) (past : Trace) → IsAccepted h past → (p i l : ℕ) (u x : Transaction) → outstanding h past p Write i ≡ Some u → is_on u l ≡ true
    → updates_memory u ≡ true → answer_of past p l ≡ None → granted h past l ≡ Some x → has_passed_data h past x ≡ false
none-passed h past a p i l u x o on updates unanswered g =
    false_from_ne_true (has_passed_data h past x) (λ has.
    let w = passes_line h past a l x g has in
    (beside h past a p i l u o on updates).none w.port w.answer x g w.is
    (inl (λ same. let bad : None ≡ Some w.answer = sym unanswered ∙ ap (λ b. answer_of past b l) (sym same) ∙ w.is in cc)) w.dirty)
