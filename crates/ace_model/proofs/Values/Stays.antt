-- The value of a line stays while a port's data of it are on their way.
use Rattle.std.proofs.Common.{◌≡◌, ℕ, ◌<◌, true, false, not, [], ◌∷◌, length, Some, None, refl, sym, ap, subst, ◌∙◌, arith, inl, inr, ◌≢◌}
use Rattle.std.proofs.lemmas.Bool.{and_parts, cases_Bool, cases_eq, not-true}
use Rattle.ace_model.proofs.Terms.{ArKind, I, Read, Write, Event, Header, is_fetch, snoop_of_read, is_unique, Answer, Transaction, Trace, at_point, Channel, is_some_and, is_update, is_make_invalid, is_make_unique}
use Rattle.ace_model.proofs.Terms.{is_read, is_on, read_kind, write_kind, snoop_of, snoop_kind_of, outstanding, has_outstanding_on, updates_memory, gives_line, granted, answer_of}
use Rattle.ace_model.proofs.Terms.{state_of, word_of, copy_of, discards_data, value_of, may_store, IsAccepted}
use Rattle.ace_codes.specs.declared.kind.ArKind.TheVariants as read
use Rattle.ace_model.proofs.Trace.Looks.{is_on-addr, read_writes_none}
use Rattle.ace_model.proofs.Trace.Issued.{outstanding-name}
use Rattle.ace_model.proofs.Trace.Growth.{at_point-before, at_point-end}
use Rattle.ace_model.proofs.Trace.LineOnce.{outstanding_found, one_on_line}
use Rattle.ace_model.proofs.Grants.Stays.{granted_before}
use Rattle.ace_model.proofs.Tables.SnoopRows.{sends_held}
use Rattle.ace_model.proofs.Grants.SnoopAnswers.{NewAnswer, answer_cases}
use Rattle.ace_model.proofs.Grants.Answers.{new_answer, is_levelling, none_unique}
use Rattle.ace_model.proofs.Tables.Kinds.{fetch_is, update_data}
use Rattle.ace_model.proofs.Values.UpdateHolds.{holds_line}
use Rattle.ace_model.proofs.Values.Stores.{Made, Unheld, value_moves, unheld_of, stores_write, all_empty}
use Rattle.ace_model.proofs.Values.Facts.{SentTrue, UpdatesTrue, DirtyPlaced}
use Rattle.ace_model.proofs.Holders.Law.{accepted_holds}
use Rattle.ace_model.proofs.General.Options.{Some-injective, is_some_and-is}
use Rattle.ace_model.proofs.Values.Beats.{beat_origin, beat_fits}
use Rattle.ace_model.proofs.Tables.States.{invalid_not}

module _ (h : Header) (past : Trace) where
  pub may_unique : (q l : ℕ) → may_store h past q l ≡ true → is_unique (state_of h past q l) ≡ true
  may_unique q l may = (and_parts (is_unique (state_of h past q l)) (not (has_outstanding_on h past q l)) may).0

  pub may_free : (q l : ℕ) → may_store h past q l ≡ true → has_outstanding_on h past q l ≡ false
  may_free q l may = not-true (has_outstanding_on h past q l) (and_parts (is_unique (state_of h past q l)) (not (has_outstanding_on h past q l)) may).1

  -- no port may store to a line while its transaction there is outstanding
  pub busy : (p : ℕ) (c : Channel) (i l : ℕ) (x : Transaction) → outstanding h past p c i ≡ Some x → is_on x l ≡ true → may_store h past p l ≡ true → ⊥
  busy p c i l x o on may = let found = outstanding_found h past p c i l x o on in let free = may_free p l may in cc

  -- so none may where the others hold no unique state
  pub none_may_store : (p : ℕ) (c : Channel) (i l : ℕ) (x : Transaction) → outstanding h past p c i ≡ Some x → is_on x l ≡ true
      → ((q : ℕ) → p ≢ q → is_unique (state_of h past q l) ≡ true → ⊥) → (q : ℕ) → may_store h past q l ≡ true → ⊥
  none_may_store p c i l x o on others q may =
      elim (cases_eq p q) [
        | inl own ↦ busy p c i l x o on (rw own may)
        | inr apart ↦ others q apart (may_unique q l may)
      ]

  -- the value stays under a grant where no port may store and the granted transaction doesn't
  pub value_stays : (e : Event) → IsAccepted h (e ∷ past) → (l : ℕ) (x : Transaction) → granted h past l ≡ Some x → ((q : ℕ) → may_store h past q l ≡ true → ⊥)
      → ((q s : ℕ) (m : Made h past q l s) → m.one ≡ x → ⊥) → ((u : Unheld h past l) → u.one ≡ x → ⊥) → value_of (e ∷ past) l ≡ value_of past l
  value_stays e a l x g no_port no_make no_other =
      elim (value_moves h past e a l) [
        | inl same ↦ same
        | inr (inl d) ↦ absurd (no_port d.port d.may)
        | inr (inr (inl d)) ↦ absurd (no_make d.port d.strobe d.made (Some-injective d.made.one x (sym d.made.stands ∙ g)))
        | inr (inr (inr (inl by))) ↦ let u = unheld_of h past e l by in absurd (no_other u (Some-injective u.one x (sym u.stands ∙ g)))
        | inr (inr (inr (inr m))) ↦ let bad : None ≡ Some x = sym (m.ungranted l) ∙ g in cc
      ]

  -- no read but a MakeInvalid is such a store, and a write makes nothing
  pub read_no_store : (x : Transaction) (k : ArKind) (l : ℕ) → read_kind x ≡ Some k → is_make_invalid k ≡ false → (u : Unheld h past l) → u.one ≡ x → ⊥
  read_no_store x k l kind other u one =
      elim u.stores [
        | inl stores ↦
            let bad : false ≡ true = sym (stores_write u.one stores) ∙ ap (λ (y : Transaction). is_read y.chan) one ∙ (read_writes_none x k kind).1 in cc
        | inr discards ↦
            let bad : true ≡ false = sym discards ∙ ap discards_data one ∙ ap (λ o. is_some_and o is_make_invalid) kind ∙ other in cc
      ]

  pub write_no_make : (x : Transaction) (l : ℕ) → is_read x.chan ≡ false → (q s : ℕ) (m : Made h past q l s) → m.one ≡ x → ⊥
  write_no_make x l writes q s m one =
      let bad : true ≡ false = sym (read_writes_none m.one read.MakeUnique m.kind).1 ∙ ap (λ (y : Transaction). is_read y.chan) one ∙ writes in cc

  -- while an update of a port that holds the line is outstanding
  pub value_updating : (e : Event) → IsAccepted h (e ∷ past) → (p i l : ℕ) (x : Transaction) → outstanding h past p Write i ≡ Some x
      → is_on x l ≡ true → updates_memory x ≡ true → value_of (e ∷ past) l ≡ value_of past l
  value_updating e a p i l x o on updates =
      let valid = invalid_not (state_of h past p l) (holds_line h past a.0 p i l x o on updates).held in
      elim (value_moves h past e a l) [
        | inl same ↦ same
        | inr (inl d) ↦ elim (cases_eq d.port p) [
          | inl own ↦ absurd (busy p Write i l x o on (subst (λ v. may_store h past v l ≡ true) own d.may))
          | inr apart ↦ absurd (valid ((accepted_holds h past a.0).unique l d.port p (may_unique d.port l d.may) apart))
        ]
        | inr (inr (inl d)) ↦ elim (cases_eq d.port p) [
          | inl own ↦
              let out : outstanding h past p Read d.made.id ≡ Some d.made.one = ap (λ v. outstanding h past v Read d.made.id) (sym own) ∙ d.made.out in
              let one = one_on_line h past a.0 p Read Write d.made.id i l d.made.one x out o d.made.on on in
              absurd (write_no_make x l (ap is_read (outstanding-name h past p Write i x o).chan) d.port d.strobe d.made one)
          | inr apart ↦ absurd (valid (d.made.alone p apart))
        ]
        | inr (inr (inr (inl by))) ↦ absurd (valid (all_empty h past a.0 l (unheld_of h past e l by) p))
        | inr (inr (inr (inr m))) ↦ let bad : None ≡ Some x = sym (m.free p Write i) ∙ o in cc
      ]

-- an answer knows how many events came before it
pub answer-before : (past : Trace) (r l : ℕ) (w : Answer) → answer_of past r l ≡ Some w → w.place < length past
answer-before [] r l w is = cc
answer-before (e ∷ past) r l w is =
    elim (cases_Bool (gives_line past e l)) [
      | inl t ↦ let none : None ≡ Some w = rw t at is in cc
      | inr f ↦ elim (answer_cases past e r l w f is) [
        | inl old ↦ let b = answer-before past r l w old in omega arith
        | inr new ↦ let place : w.place ≡ length past = ap (λ (v : Answer). v.place) new.now in omega arith
      ]
    ]

-- the copy at an answer is the same in the longer trace
pub copy_at-old : (past : Trace) (e : Event) (r l : ℕ) (w : Answer) → answer_of past r l ≡ Some w → copy_of (at_point w.place (e ∷ past)) r l ≡ copy_of (at_point w.place past) r l
copy_at-old past e r l w is = ap (λ t. copy_of t r l) (at_point-before e past w.place (let b = answer-before past r l w is in omega arith))

pub copy_at-new : (past : Trace) (e : Event) (r l : ℕ) (w : Answer) → NewAnswer past e r l w → copy_of (at_point w.place (e ∷ past)) r l ≡ copy_of past r l
copy_at-new past e r l w n =
    let place : w.place ≡ length past = ap (λ (v : Answer). v.place) n.now in
    ap (λ t. copy_of t r l) (at_point-before e past w.place (omega arith) ∙ at_point-end past w.place place)

-- a CR is no store
pub value_cr : (past : Trace) (e : Event) (r l : ℕ) (w : Answer) → NewAnswer past e r l w → value_of (e ∷ past) l ≡ value_of past l
value_cr past e r l w n = rw n.is refl

module _ (h : Header) (past : Trace) where
  pub made_apart : (l : ℕ) (x : Transaction) (k : ArKind) → read_kind x ≡ Some k → is_fetch k ≡ true → (q s : ℕ) (m : Made h past q l s) → m.one ≡ x → ⊥
  made_apart l x k kind fetch q s m one =
      let same = Some-injective k read.MakeUnique (sym kind ∙ ap read_kind (sym one) ∙ m.kind) in
      let bad : true ≡ false = sym (ap is_make_unique same) ∙ (fetch_is k fetch).makes in cc

  pub sent_step : (e : Event) → IsAccepted h (e ∷ past) → DirtyPlaced h past → SentTrue h (e ∷ past)
  sent_step e a f l r x w k g is d kind fetch =
      elim (granted_before h past e l x g) [
        | inr gives ↦ let none : None ≡ Some w = rw gives at is in cc
        | inl stays ↦ elim (answer_cases past e r l w stays.gives is) [
          | inl old ↦
              let s = is_some_and-is (snoop_of_read k) is_levelling (fetch_is k fetch).snoops in
              let causes : snoop_of x ≡ Some s.0 = ap (λ o. snoop_kind_of o (write_kind x)) kind ∙ s.1 in
              let no_port : (q : ℕ) → may_store h past q l ≡ true → ⊥ = λ q may.
              let yes = may_unique h past q l may in
              let no_unique = none_unique h past a.0 l r q x w s.0 stays.was old d causes s.2 in cc in
              copy_at-old past e r l w old ∙ f.sent l r x w k stays.was old d kind fetch
              ∙ sym (value_stays h past e a l x stays.was no_port (made_apart l x k kind fetch) (read_no_store h past x k l kind (fetch_is k fetch).discards))
          | inr new ↦
              let n = new_answer h past e a r l w new in
              let held : state_of h past r l ≡ I → ⊥ = λ gone. sends_held n.1.kind w.resp n.0 (rw gone at n.1.row) d in
              copy_at-new past e r l w new ∙ f.copies l r held ∙ sym (value_cr past e r l w new)
        ]
      ]

  pub updates_step : (e : Event) → IsAccepted h (e ∷ past) → DirtyPlaced h past → UpdatesTrue h (e ∷ past)
  updates_step e a f p i l x k b o on updates is =
      let kind = is_some_and-is (write_kind x) is_update updates in
      let beat = beat_origin h past e x k b a p i o (rw kind.1 (update_data kind.0 kind.2)) is in
      let same = value_updating h past e a p i l x beat.was on updates in
      elim beat.comes [
        | inl before ↦ f.updates p i l x k b beat.was on updates before ∙ ap (λ v. word_of v k) (sym same)
        | inr new ↦
            let port = (outstanding-name h past p Write i x beat.was).port in
            let copy = f.copies l p (invalid_not (state_of h past p l) (holds_line h past a.0 p i l x beat.was on updates).held) in
            let here : copy_of past x.port x.addr ≡ copy_of past p l = ap (λ v. copy_of past v x.addr) port ∙ ap (copy_of past p) (is_on-addr x l on) in
            (beat_fits h past e x k b a new kind.0 kind.1).copied kind.2 ∙ ap (word_of (copy_of past x.port x.addr)) new.number ∙ ap (λ v. word_of v k) (here ∙ copy ∙ sym same)
      ]
