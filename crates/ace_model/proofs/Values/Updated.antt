-- Once the update of a dirty line has written memory, memory is the value, and no passed data are on their way.
use Rattle.std.proofs.Common.{◌≡◌, ℕ, true, false, not, ◌∷◌, Some, refl, sym, ap, subst, ◌∙◌, inl, inr}
use Rattle.std.proofs.lemmas.Bool.{not-true, cases_Bool}
use Rattle.std.specs.List.{AllByRecursion}
use Rattle.ace_model.proofs.Terms.{passes_dirty, FitsFields, Write, Event, Header, is_invalid, Answer, Transaction, Trace, is_read, write_kind, outstanding, updates_memory}
use Rattle.ace_model.proofs.Terms.{has_update, granted, has_passed_data, state_of, IsAccepted}
use Rattle.ace_model.proofs.Trace.Looks.{is_on-addr}
use Rattle.ace_model.proofs.Trace.Issued.{outstanding-named, outstanding-name, outstanding-origin}
use Rattle.ace_model.proofs.Tables.States.{row_is}
use Rattle.ace_model.proofs.Tables.SnoopRows.{beside_update}
use Rattle.ace_model.proofs.Grants.SnoopAnswers.{NewAnswer}
use Rattle.ace_model.proofs.Grants.Answers.{new_answer}
use Rattle.ace_model.proofs.Values.UpdateHolds.{update_found, holds_line}
use Rattle.ace_model.proofs.Tables.Kinds.{is_dirty_update, dirty_updates}
use Rattle.ace_model.proofs.Values.Stays.{value_updating}
use Rattle.ace_model.proofs.Grants.Granted.{new_unwritten, written_cases, granted_given, updates_ungranted}
use Rattle.ace_model.proofs.Values.PassedData.{passed_origin}
use Rattle.ace_model.proofs.Values.MemoryWrites.{WritesLine, memory_moves, writer, update_true}
use Rattle.ace_model.proofs.Values.Facts.{Updated, UpdatedTrue, DirtyPlaced}
use Rattle.ace_model.proofs.Holders.Law.{accepted_holds}
use Rattle.ace_model.proofs.General.Options.{Some-injective, is_some_and-is, is_none_or-at}
use Rattle.ace_model.proofs.Values.Stores.{all_empty}

-- no passed data come but by an answer with PassDirty
still_none : (h : Header) (past : Trace) (e : Event) → IsAccepted h (e ∷ past) → (l : ℕ) → ((y : Transaction) → granted h past l ≡ Some y → has_passed_data h past y ≡ false)
    → ((r : ℕ) (w : Answer) → NewAnswer past e r l w → passes_dirty w.resp ≡ true → ⊥)
    → (y : Transaction) → granted h (e ∷ past) l ≡ Some y → has_passed_data h (e ∷ past) y ≡ false
still_none h past e a l none no_new y g =
    elim (cases_Bool (has_passed_data h (e ∷ past) y)) [
      | inr f ↦ f
      | inl t ↦ elim (passed_origin h past e a l y g t) [
        | inl old ↦ let bad : true ≡ false = sym old.1 ∙ none y old.0 in cc
        | inr n ↦ absurd (no_new n.port n.answer n.new n.dirty)
      ]
    ]

pub updated_step : (h : Header) (past : Trace) (e : Event) → IsAccepted h (e ∷ past) → AllByRecursion FitsFields (e ∷ past) → DirtyPlaced h past → UpdatedTrue h (e ∷ past)
updated_step h past e a r f p i l x o on dirty m =
    elim (outstanding-origin h past e p Write i x o) [
      | inl new ↦ absurd (new_unwritten past e x p Write i new.0 new.1 m)
      | inr old ↦
          elim (written_cases h past e a p Write i x old.was m) [
            | inl now ↦ written old.was (record { port = p; chan = Write; id = i; line = now.line; is = now.is; one = x; out = old.was; on = on; may = now.may }) refl
            | inr earlier ↦ later old.was (f.updated p i l x old.was on dirty earlier)
          ]
    ]
  where
    updates : updates_memory x ≡ true
    updates = let k = is_some_and-is (write_kind x) is_dirty_update dirty in rw k.1 (dirty_updates k.0 k.2)

    written : outstanding h past p Write i ≡ Some x → (w : WritesLine h past e l) → w.one ≡ x → Updated h (e ∷ past) l
    written was w same =
        let chan = (outstanding-name h past p Write i x was).chan in
        let writes : is_read x.chan ≡ false = ap is_read chan in
        elim (writer h past e l w a) [
          | inl passed ↦ let bad : true ≡ false = sym passed.reads ∙ ap (λ (y : Transaction). is_read y.chan) same ∙ writes in cc
          | inr (inl u) ↦
              let addr = is_on-addr w.one l w.on in
              record {
                stored = update_true h past e l w a r f.updates u;
                none = still_none h past e a l
                    (λ y g. not-true (has_passed_data h past y) (is_none_or-at (granted h past w.one.addr) (λ y. not (has_passed_data h past y)) y u.clear (ap (granted h past) addr ∙ g)))
                    (λ q v new d. let bad = sym w.is ∙ new.is in cc);
              }
          | inr (inr s) ↦
              let one : s.one ≡ x = Some-injective s.one w.one (sym s.named ∙ outstanding-named h past w.port w.chan w.id w.one w.out) ∙ same in
              let kind = (granted_given h past a.0 l x (s.stands ∙ ap (λ v. Some v) one)).kind in
              absurd (updates_ungranted x kind writes updates)
        ]

    later : outstanding h past p Write i ≡ Some x → Updated h past l → Updated h (e ∷ past) l
    later was q =
        let value = value_updating h past e a p i l x was on updates in
        let k = holds_line h past a.0 p i l x was on updates in
        record {
          stored = elim (memory_moves h past e a l) [
            | inl kept ↦ kept ∙ q.stored ∙ sym value
            | inr (inr opens) ↦ opens.stored l
            | inr (inl w) ↦ elim (writer h past e l w a) [
              | inl passed ↦ let bad : true ≡ false = sym passed.has ∙ q.none w.one passed.stands in cc
              | inr (inl u) ↦ update_true h past e l w a r f.updates u
              | inr (inr s) ↦ let bad : true ≡ false = sym (ap is_invalid (all_empty h past a.0 l s.unheld p)) ∙ k.held in cc
            ]
          ];
          none = still_none h past e a l q.none (λ z v new d.
              let n = new_answer h past e a z l v new in
              let there = ((row_is n.1.kind (state_of h past z l) v.resp n.0 n.1.row).passes d).0 in
              let port : p ≡ z = (accepted_holds h past a.0).one_dirty l p z (k.dirty dirty) there in
              let row = n.1.beside (subst (λ b. has_update h past b l ≡ true) port (update_found h past p Write i l x was on updates)) in
              let b = beside_update n.1.kind (state_of h past z l) v.resp n.0 n.1.of_line (subst (λ b. is_invalid (state_of h past b l) ≡ false) port k.held) row in
              let bad : true ≡ false = sym d ∙ b.no_pass in cc);
        }
