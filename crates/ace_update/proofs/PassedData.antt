-- With each event of an accepted trace, a line's granted transaction has passed data where an answer passes the line on, and none where they are
-- written or the transaction ends.
use Rattle.std.proofs.Common.{◌≡◌, ◌≢◌, ℕ, Bool, true, false, not, ◌&&◌, ◌||◌, ◌==◌, nat_lt, if◌then◌else◌, ◌∷◌, Option, Some, None, option_map, refl, sym, ap, subst, ◌∙◌, inl, inr, le_refl}
use Rattle.std.proofs.lemmas.Bool.{and_from, and_parts, cases_Bool, eq-eqb, eqb-true, false_from_ne_true, not-true, not_from_false, or_cases, or_left, or_right}
use Rattle.ace_codes.specs.declared.kind.AwKind.{AwKind}
use Rattle.ace_codes.specs.declared.kind.AwKind.TheVariants as write
use Rattle.ace_codes.specs.declared.state.LineState.{LineState}
use Rattle.ace_codes.specs.Responses.{is_shared, passes_dirty}
use Rattle.ace_event.specs.declared.event.Channel.{Channel}
use Rattle.ace_event.specs.declared.event.Channel.TheVariants.{Read, Write}
use Rattle.ace_event.specs.declared.event.Event.{Event}
use Rattle.ace_event.specs.declared.event.Event.TheVariants.{R, Rk, B, Wk, Cr, M}
use Rattle.ace_event.specs.declared.header.Header.{Header}
use Rattle.ace_event.specs.declared.line.Line.{Line}
use Rattle.ace_model.specs.declared.snoops.Answer.{Answer}
use Rattle.ace_model.specs.declared.snoops.Snoop.{Snoop}
use Rattle.ace_model.specs.declared.transactions.Transaction.{Transaction}
use Rattle.ace_model.specs.Accepted.{IsAccepted}
use Rattle.ace_model.specs.Trace.{Trace, implies, is_none_or, is_some_and}
use Rattle.ace_model.specs.Kinds.{has_write_data, is_granted_write}
use Rattle.ace_model.specs.Transactions.{acknowledged, acknowledgements, ended, is_ace, is_line, is_on, is_read, outstanding, read_kind, write_kind}
use Rattle.ace_model.specs.Progress.{updates_memory}
use Rattle.ace_model.specs.Snoops.{answered, answers_line, is_snoop_on, snoops_a_line}
use Rattle.ace_model.specs.Grants.{answer_of, granted, has_passed_data, is_begun, is_granted}
use Rattle.ace_model.specs.States.{state_of}
use Rattle.ace_model.specs.Writes.{has_memory_write}
use Rattle.ace_model.specs.ReadRules.{fits_kind, has_upper_bits}
use Rattle.ace_model.specs.WriteRules.{is_update_due, is_write_due, may_write_data, may_write_memory}
use Rattle.ace_model.proofs.General.Options.{Some-injective, is_none_or-at, is_some_and-is}
use Rattle.ace_model.proofs.General.Booleans.{else_of, implies-at}
use Rattle.ace_model.proofs.GrantLooks.Answered.{answer-now, the_answer}
use Rattle.ace_model.proofs.Grants.Answers.{others_settled}
use Rattle.ace_model.proofs.Grants.Begins.{line_due}
use Rattle.ace_model.proofs.Grants.Granted.{granted_at, granted_given, granted_write, has_passed, passed_may, written_cases}
use Rattle.ace_model.proofs.Grants.SnoopAnswers.{answering_cr}
use Rattle.ace_model.proofs.Grants.Stays.{granted_after, granted_before}
use Rattle.ace_model.proofs.Holders.Law.{accepted_holds}
use Rattle.ace_model.proofs.Rules.Keeps.{accepted_keeps}
use Rattle.ace_model.proofs.Tables.Less.{settled_clean}
use Rattle.ace_model.proofs.Tables.States.{row_is}
use Rattle.ace_model.proofs.Trace.Issued.{outstanding-name, outstanding-named, same_place}
use Rattle.ace_model.proofs.Trace.Outstanding.{acknowledged_is, ends_lite}
use Rattle.ace_model.proofs.Trace.Transfers.{full_some}
use Rattle.ace_model.proofs.Trace.WriteQueue.{ends_lite_written, ends_write_of}
use Rattle.ace_model.proofs.Values.PassedData.{answer_kept, passed_origin, passes_data, passes_line, written_passed}
use Rattle.ace_portck.specs.Targets.{line_of, line_of_snoop, progress_of, target_of}
use Rattle.ace_update.specs.Passed.{adds, has_passed_on, removes}

-- the option is this line
abbrev pub names : Option ℕ → ℕ → Bool
names o l = is_some_and o (λ k. k == l)

-- ---- small steps -------------------------------------------------------------------------------------

same-if : (a b : Bool) → (a ≡ true → b ≡ true) → (b ≡ true → a ≡ true) → a ≡ b
same-if true b f g = sym (f refl)
same-if false true f g = g refl
same-if false false f g = refl

if-named : (b : Bool) (k l : ℕ) → names (if b then Some k else None) l ≡ true → (b ≡ true) × (k ≡ l)
if-named true k l t = (refl, eqb-true k l t)
if-named false k l t = cc

named-if : (b : Bool) (k l : ℕ) → b ≡ true → k ≡ l → names (if b then Some k else None) l ≡ true
named-if true k l t e = eq-eqb k l e
named-if false k l t e = cc

chosen-named : (b : Bool) (o : Option ℕ) (l : ℕ) → names (if b then o else None) l ≡ true → (b ≡ true) × (names o l ≡ true)
chosen-named true o l t = (refl, t)
chosen-named false o l t = cc

snoop-named : (o : Option Snoop) (l : ℕ) → names (line_of_snoop o) l ≡ is_some_and o (λ s. is_snoop_on s l)
snoop-named None l = refl
snoop-named (Some s) l = by (snoops_a_line s.snoop)
  where
    by : (b : Bool) → names (if b then Some s.addr else None) l ≡ (b && (s.addr == l))
    by true = refl
    by false = refl

granted-sends : (k : AwKind) → is_granted_write k ≡ true → has_write_data k ≡ true
granted-sends write.WriteNoSnoop t = refl
granted-sends write.WriteUnique t = refl
granted-sends write.WriteLineUnique t = refl
granted-sends k t = cc

module _ (h : Header) (past : Trace) where
  -- the line of the transaction
  transaction-named : (o : Option Transaction) (l : ℕ) → names (line_of (option_map (progress_of h past) o)) l ≡ true → (x : Transaction) × (o ≡ Some x) × (is_line x ≡ true) × (x.addr ≡ l)
  transaction-named None l t = cc
  transaction-named (Some x) l t = let parts = if-named (is_line x) x.addr l t in (x, refl, parts.0, parts.1)

  named-transaction : (o : Option Transaction) (l : ℕ) (x : Transaction) → o ≡ Some x → is_on x l ≡ true → names (line_of (option_map (progress_of h past) o)) l ≡ true
  named-transaction o l x is on = let parts = and_parts (is_line x) (x.addr == l) on in rw is (named-if (is_line x) x.addr l parts.0 (eqb-true x.addr l parts.1))

  found : (l : ℕ) (x : Transaction) → granted h past l ≡ Some x → has_passed_data h past x ≡ true → has_passed_on h past l ≡ true
  found l x g has = rw g has

-- ---- where there are some after the event -----------------------------------------------------------

module _ (h : Header) (past : Trace) (l : ℕ) (x : Transaction) where
  -- a write of memory for the line is the granted transaction's, where that has passed data
  writes-granted : (y : Transaction) → may_write_memory h past y ≡ true → granted h past y.addr ≡ Some x → has_passed_data h past x ≡ true → is_granted h past y ≡ true
  writes-granted y may g had =
      elim (cases_Bool (is_read y.chan)) [
        | inl reads ↦ (has_passed h past y (passed_may h past y may reads)).stands
        | inr writes ↦
            let parts = and_parts _ (is_write_due h past y || is_update_due h past y) (else_of (is_read y.chan) _ (may_write_data h past y) writes may) in
            elim (or_cases (is_write_due h past y) (is_update_due h past y) parts.1) [
              | inl due ↦ (and_parts (is_granted h past y) _ due).0
              | inr update ↦
                  let clear = is_none_or-at (granted h past y.addr) (λ z. not (has_passed_data h past z)) x (and_parts (updates_memory y) _ update).1 g in
                  let none = not-true (has_passed_data h past x) clear in
                  let bad : true ≡ false = sym had ∙ none in cc
            ]
      ]

  not-by-write : (p : ℕ) (c : Channel) (i : ℕ) (line : Line) → IsAccepted h (M p c i line ∷ past) → granted h past l ≡ Some x → has_passed_data h past x ≡ true
      → has_passed_data h (M p c i line ∷ past) x ≡ true → names (removes (M p c i line) (target_of h past (M p c i line))) l ≡ true → ⊥
  not-by-write p c i line a g had has t =
      let e = M p c i line in
      let y = transaction-named h past (outstanding h past p c i) l t in
      let m = is_some_and-is (outstanding h past p c i) (may_write_memory h past) (accepted_keeps h past e a).rule_24 in
      let one : m.0 ≡ y.0 = Some-injective m.0 y.0 (sym m.1 ∙ y.1) in
      let may : may_write_memory h past y.0 ≡ true = subst (λ z. may_write_memory h past z ≡ true) one m.2 in
      let stands = granted_at h past a.0 p c i y.0 y.1 (writes-granted y.0 may (ap (granted h past) y.3 ∙ g) had) in
      let same : y.0 ≡ x = Some-injective y.0 x (sym stands ∙ ap (granted h past) y.3 ∙ g) in
      let name = outstanding-name h past p c i y.0 y.1 in
      let none = (has_passed h (e ∷ past) x has).unwritten in
      let none_of : has_memory_write (e ∷ past) p c i ≡ false =
      sym (ap (λ v. has_memory_write (e ∷ past) v y.0.chan y.0.id) name.port ∙ ap (λ v. has_memory_write (e ∷ past) p v y.0.id) name.chan ∙ ap (has_memory_write (e ∷ past) p c) name.id)
      ∙ subst (λ (z : Transaction). has_memory_write (e ∷ past) z.port z.chan z.id ≡ false) (sym same) none in
      let bad : true ≡ false = sym (written p c i line) ∙ none_of in cc
    where
      self : (c : Channel) → (if is_read c then is_read c else not (is_read c)) ≡ true
      self Read = refl
      self Write = refl

      written : (p : ℕ) (c : Channel) (i : ℕ) (line : Line) → has_memory_write (M p c i line ∷ past) p c i ≡ true
      written p c i line = or_left _ _ (and_from _ _ (and_from _ _ (eq-eqb p p refl) (self c)) (eq-eqb i i refl))

  not-by-end : (p : ℕ) (st : LineState) → IsAccepted h (Rk p st ∷ past) → granted h (Rk p st ∷ past) l ≡ Some x
      → names (removes (Rk p st) (target_of h past (Rk p st))) l ≡ true → ⊥
  not-by-end p st a after t =
      let e = Rk p st in
      let ace = (and_parts (nat_lt p h.ports) (is_ace h p) (accepted_keeps h past e a).rule_1).1 in
      let here : names (line_of (option_map (progress_of h past) (acknowledged past p Read))) l ≡ true = rw ace at t in
      let z = transaction-named h past (acknowledged past p Read) l here in
      elim (granted_before h past e l x after) [
        | inr gives ↦ cc
        | inl stays ↦
            let next = acknowledged_is past p Read z.0 z.1 in
            let w = (accepted_holds h past a.0).queue p (acknowledgements past p Read) next.id ace (le_refl (acknowledgements past p Read)) next.next in
            let one : w.0 ≡ z.0 = Some-injective w.0 z.0 (sym (outstanding-named h past p Read next.id w.0 w.1) ∙ next.named) in
            let out : outstanding h past p Read next.id ≡ Some z.0 = w.1 ∙ ap Some one in
            let arrives = (accepted_holds h past a.0).arrive p next.id z.0 ace out z.2 (full_some past p next.id w.0 w.2) in
            let same : z.0 ≡ x = Some-injective z.0 x (sym arrives.stands ∙ ap (granted h past) z.3 ∙ stays.was) in
            absurd (stays.lasts z.0 z.1 (ap (λ (v : Transaction). v.place) same))
      ]

  not-removed : (e : Event) → IsAccepted h (e ∷ past) → granted h past l ≡ Some x → has_passed_data h past x ≡ true → granted h (e ∷ past) l ≡ Some x
      → has_passed_data h (e ∷ past) x ≡ true → names (removes e (target_of h past e)) l ≡ false
  not-removed (M p c i line) a g had after has = false_from_ne_true _ (not-by-write p c i line a g had has)
  not-removed (Rk p st) a g had after has = false_from_ne_true _ (not-by-end p st a after)
  not-removed e a g had after has = refl

-- ---- where there were some before it, or it passes some on -------------------------------------------

module _ (h : Header) (past : Trace) (l : ℕ) where
  passed-on : (p resp : ℕ) (st : LineState) → IsAccepted h (Cr p resp st ∷ past) → passes_dirty resp ≡ true → answers_line past p l ≡ true → has_passed_on h (Cr p resp st ∷ past) l ≡ true
  passed-on p resp st a dirty on =
      let n = answering_cr h past p resp st a l on in
      let x = n.pending.one in
      let g = n.pending.stands in
      let row = row_is n.kind (state_of h past p l) resp st n.row in
      let held = (row.passes dirty).0 in
      let unwritten : has_memory_write past x.port x.chan x.id ≡ false = elim (cases_Bool (is_read x.chan)) [
        | inr writes ↦ (let unbegun : is_begun past x ≡ false = n.pending.unbegun in rw writes at unbegun)
        | inl reads ↦ false_from_ne_true (has_memory_write past x.port x.chan x.id) (λ m.
            let w = written_passed h past a.0 l x g reads m in
            let apart : p ≢ w.port = λ same. (let bad : None ≡ Some w.answer = sym n.pending.unanswered ∙ ap (λ v. answer_of past v l) same ∙ w.is in cc) in
            let clean = settled_clean (state_of h past p l) (others_settled h past a.0 l w.port p x w.answer g w.is w.dirty apart) in
            let bad : true ≡ false = sym held ∙ clean in cc)
      ] in
      found h (Cr p resp st ∷ past) l x g
      (passes_data h (Cr p resp st ∷ past) a l p x (the_answer h past p resp st l a on) g unwritten (answer-now h past p resp st l a on) dirty)

  added : (e : Event) → IsAccepted h (e ∷ past) → names (adds e (target_of h past e)) l ≡ true → has_passed_on h (e ∷ past) l ≡ true
  added (Cr p resp st) a t =
      let parts = chosen-named (passes_dirty resp) (line_of_snoop (answered past p)) l t in
      passed-on p resp st a parts.0 (sym (snoop-named (answered past p) l) ∙ parts.1)
  added e a t = cc

  module _ (x : Transaction) (g : granted h past l ≡ Some x) (has : has_passed_data h past x ≡ true) where
    -- a write that has written memory isn't the granted transaction
    no-write : (z : Transaction) → IsAccepted h past → z ≡ x → is_read z.chan ≡ false → (is_some_and (write_kind z) has_write_data ≡ true → has_memory_write past z.port z.chan z.id ≡ true) → ⊥
    no-write z a same writes written =
        let kind = (granted_given h past a l x g).kind in
        let k = granted_write x kind (subst (λ (v : Transaction). is_read v.chan ≡ false) same writes) in
        let sends : is_some_and (write_kind x) has_write_data ≡ true = rw k.1 (granted-sends k.0 k.2) in
        let was = written (subst (λ (v : Transaction). is_some_and (write_kind v) has_write_data ≡ true) (sym same) sends) in
        let bad : true ≡ false = sym (subst (λ (v : Transaction). has_memory_write past v.port v.chan v.id ≡ true) same was) ∙ (has_passed h past x has).unwritten in cc

    ends : (e : Event) → IsAccepted h (e ∷ past) → (z : Transaction) → ended h past e ≡ Some z → z.place ≡ x.place → names (removes e (target_of h past e)) l ≡ true
    ends (Rk q st) a z is same =
        let next = acknowledged_is past q Read z is in
        let o = (accepted_holds h past a.0).grants l x g in
        let one = same_place past q x.port Read x.chan next.id x.id z x next.named (outstanding-named h past x.port x.chan x.id x o.0) same in
        let ace = (and_parts (nat_lt q h.ports) (is_ace h q) (accepted_keeps h past (Rk q st) a).rule_1).1 in
        rw ace (named-transaction h past (acknowledged past q Read) l x (is ∙ ap Some one) o.1)
    ends (Wk q st) a z is same =
        let next = acknowledged_is past q Write z is in
        let o = (accepted_holds h past a.0).grants l x g in
        let one = same_place past q x.port Write x.chan next.id x.id z x next.named (outstanding-named h past x.port x.chan x.id x o.0) same in
        let w = ends_write_of h past q st a z is in
        absurd (no-write z a.0 one (ap is_read w.chan) w.written)
    ends (R q j resp last word) a z is same =
        let lite = ends_lite h past q j resp last word z is in
        let o = (accepted_holds h past a.0).grants l x g in
        let one = same_place past q x.port Read x.chan j x.id z x lite.1 (outstanding-named h past x.port x.chan x.id x o.0) same in
        let y = is_some_and-is (outstanding h past q Read j) _ (accepted_keeps h past (R q j resp last word) a).rule_18 in
        let one_read : y.0 ≡ x = Some-injective y.0 x (sym (outstanding-named h past q Read j y.0 y.1) ∙ lite.1 ∙ ap Some one) in
        let out : outstanding h past q Read j ≡ Some x = y.1 ∙ ap Some one_read in
        let line = (and_parts (is_line x) (x.addr == l) o.1).0 in
        let takes = (line_due h past q j resp last word a x out line).takes has in
        let dirty : passes_dirty resp ≡ true = (and_parts _ (passes_dirty resp) takes).1 in
        let bits = is_none_or-at (outstanding h past q Read j) (has_upper_bits h past resp) x (accepted_keeps h past (R q j resp last word) a).rule_19 out in
        let three = (and_parts (implies (passes_dirty resp) (has_passed_data h past x) && is_none_or (read_kind x) (fits_kind h past x resp) && implies (passes_dirty resp || is_shared resp) (is_ace h x.port)) _ bits).0 in
        let ace : is_ace h x.port ≡ true = implies-at (passes_dirty resp || is_shared resp) (is_ace h x.port)
        (and_parts (implies (passes_dirty resp) (has_passed_data h past x) && is_none_or (read_kind x) (fits_kind h past x resp)) (implies (passes_dirty resp || is_shared resp) (is_ace h x.port)) three).1 (or_left (passes_dirty resp) (is_shared resp) dirty) in
        let port = (outstanding-name h past q Read j x out).port in
        let has_cache : is_ace h q ≡ true = subst (λ v. is_ace h v ≡ true) port ace in let bad : true ≡ false = sym has_cache ∙ lite.0 in cc
    ends (B q j resp) a z is same =
        let o = (accepted_holds h past a.0).grants l x g in
        let w = ends_lite_written h past q j resp a z is in
        let one = same_place past q x.port Write x.chan w.id x.id z x (outstanding-named h past q Write w.id z w.out) (outstanding-named h past x.port x.chan x.id x o.0) same in
        absurd (no-write z a.0 one (ap is_read w.chan) w.written)
    ends e a z is same = cc

    kept : (e : Event) → IsAccepted h (e ∷ past) → names (removes e (target_of h past e)) l ≡ false → has_passed_on h (e ∷ past) l ≡ true
    kept e a stays_there =
        elim (granted_after h past e a l x g) [
          | inr z ↦ let t = ends e a z.0 z.1 z.2 in let bad : true ≡ false = sym t ∙ stays_there in cc
          | inl stays ↦
              let w = passes_line h past a.0 l x g has in
              let o = (accepted_holds h past a.0).grants l x g in
              let unwritten : has_memory_write (e ∷ past) x.port x.chan x.id ≡ false = false_from_ne_true _ (λ m. elim (written_cases h past e a x.port x.chan x.id x o.0 m) [
                | inr earlier ↦ let bad : true ≡ false = sym earlier ∙ (has_passed h past x has).unwritten in cc
                | inl now ↦
                    let t : names (removes (M x.port x.chan x.id now.line) (target_of h past (M x.port x.chan x.id now.line))) l ≡ true =
                    named-transaction h past (outstanding h past x.port x.chan x.id) l x o.0 o.1 in
                    let here : names (removes e (target_of h past e)) l ≡ true = subst (λ d. names (removes d (target_of h past d)) l ≡ true) (sym now.is) t in
                    let bad : true ≡ false = sym here ∙ stays_there in cc
              ]) in
              found h (e ∷ past) l x stays.is (passes_data h (e ∷ past) a l w.port x w.answer stays.is unwritten (answer_kept h past a.0 e w.port l w.answer stays.gives w.is) w.dirty)
        ]

-- ---- both --------------------------------------------------------------------------------------------

new-named : (h : Header) (past : Trace) (l p : ℕ) (e : Event) (resp : ℕ) (st : LineState) → e ≡ Cr p resp st → passes_dirty resp ≡ true → answers_line past p l ≡ true
    → names (adds e (target_of h past e)) l ≡ true
new-named h past l p e resp st is dirty on =
    let t : names (adds (Cr p resp st) (target_of h past (Cr p resp st))) l ≡ true = rw dirty (snoop-named (answered past p) l ∙ on) in
    subst (λ d. names (adds d (target_of h past d)) l ≡ true) (sym is) t

pub passed-after : (h : Header) (past : Trace) (e : Event) → IsAccepted h (e ∷ past) → (l : ℕ)
    → ((has_passed_on h past l && not (names (removes e (target_of h past e)) l)) || names (adds e (target_of h past e)) l) ≡ has_passed_on h (e ∷ past) l
passed-after h past e a l = same-if _ _ sound complete
  where
    sound : ((has_passed_on h past l && not (names (removes e (target_of h past e)) l)) || names (adds e (target_of h past e)) l) ≡ true → has_passed_on h (e ∷ past) l ≡ true
    sound t = elim (or_cases _ _ t) [
      | inr now ↦ added h past l e a now
      | inl old ↦
          let parts = and_parts (has_passed_on h past l) (not (names (removes e (target_of h past e)) l)) old in
          let x = is_some_and-is (granted h past l) (has_passed_data h past) parts.0 in
          kept h past l x.0 x.1 x.2 e a (not-true _ parts.1)
    ]

    complete : has_passed_on h (e ∷ past) l ≡ true → ((has_passed_on h past l && not (names (removes e (target_of h past e)) l)) || names (adds e (target_of h past e)) l) ≡ true
    complete t =
        let x = is_some_and-is (granted h (e ∷ past) l) (has_passed_data h (e ∷ past)) t in
        elim (passed_origin h past e a l x.0 x.1 x.2) [
          | inl old ↦ or_left _ _ (and_from _ _ (found h past l x.0 old.0 old.1) (not_from_false _ (not-removed h past l x.0 e a old.0 old.1 x.1 x.2)))
          | inr n ↦
              let resp : passes_dirty n.new.resp ≡ true = subst (λ (w : _). passes_dirty w ≡ true) (ap (λ (v : Answer). v.resp) n.new.now) n.dirty in
              or_right _ _ (new-named h past l n.port e n.new.resp n.new.st n.new.is resp n.new.line)
        ]
