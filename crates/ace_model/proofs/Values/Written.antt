-- Once a granted write has written memory, or a granted MakeInvalid has had its transfer, memory is the value and no port holds the
-- line.
use Rattle.std.proofs.Common.{◌≡◌, ◌≢◌, ◌⊎◌, ℕ, true, false, not, ◌||◌, nat_eq, ◌∷◌, length, Option, Some, None, unwrap_or, slice_get, refl, sym, ap, subst, ◌∙◌, inl, inr}
use Rattle.std.proofs.lemmas.Bool.{and_parts, and_from, cases_Bool}
use Rattle.std.specs.List.{AllByRecursion}
use Rattle.ace_model.proofs.Terms.{AwKind, I, FitsFields, Channel, Read, Write, Event, M, Header, Line, merged, Transaction, Trace, is_some_and, is_write_line_unique, has_write_data}
use Rattle.ace_model.proofs.Terms.{is_unique_write, is_no_snoop_write, is_read, is_line, read_kind, write_kind, snoop_of, snoop_kind_of, outstanding, transfers, gives_line, granted, is_begun}
use Rattle.ace_model.proofs.Terms.{has_passed_data, state_of, memory_of, passed_data, burst_of, burst_line, burst_strobe, value_of, full_line, data_of, data_of_write, burst_into, IsAccepted}
use Rattle.ace_model.proofs.Terms.{may_lose_data, HasDirtyHolder}
use Rattle.ace_codes.specs.declared.kind.ArKind.TheVariants as read
use Rattle.ace_codes.specs.declared.kind.AwKind.TheVariants as write
use Rattle.ace_model.proofs.Trace.Looks.{is_on-addr, is_read-is, is_write-is, read_writes_none}
use Rattle.ace_model.proofs.Trace.Issued.{outstanding-named, outstanding-origin}
use Rattle.ace_model.proofs.Holders.Rises.{state_moves}
use Rattle.ace_model.proofs.Grants.Stays.{Stays, gives_none, granted_before}
use Rattle.ace_model.proofs.Grants.SnoopAnswers.{no_rise}
use Rattle.ace_model.proofs.Grants.Answers.{passed_kind, passed_no_make}
use Rattle.ace_model.proofs.Values.FullReads.{issue_transfers, transfer_moves, under_way}
use Rattle.ace_model.proofs.Values.MergedLines.{line_of, merged-length, merged-line, full_burst}
use Rattle.ace_model.proofs.Trace.WriteBursts.{four_beats}
use Rattle.ace_model.proofs.Values.Stores.{Writes, Made, Unheld, discards_r, discard_true, stores_m, stores_kind, stores_write, all_empty}
use Rattle.ace_model.proofs.Tables.States.{unique_valid, dirty_valid}
use Rattle.ace_model.proofs.Tables.ReadSnoops.{discards_kind, discards_causes}
use Rattle.ace_model.proofs.Values.Stays.{may_unique, value_stays, write_no_make}
use Rattle.ace_model.proofs.Grants.Granted.{not_named, given_unwritten, written_cases}
use Rattle.ace_model.proofs.Values.Passed.{passed_true}
use Rattle.ace_model.proofs.Values.MemoryWrites.{WritesLine, memory_now, memory_moves, writer, line_is, update_true, beats_fit, kind_data}
use Rattle.ace_model.proofs.Values.Facts.{StoresUnheld, Quiet, BegunTrue, DirtyPlaced}
use Rattle.ace_model.proofs.Holders.Law.{accepted_holds}
use Rattle.ace_model.proofs.General.Options.{Some-injective}
use Rattle.ace_model.proofs.General.Booleans.{else_of}
use Rattle.ace_model.proofs.Values.PassedData.{passes_line, passed_has}

module _ (h : Header) (past : Trace) where
  -- What a store writes.
  record Writing (l : ℕ) (x : Transaction) : Type 0 where
    line : Line
    is : data_of h past x ≡ Some line
    four : length line.words ≡ 4
    stores : line ≡ burst_into past x (value_of past l)

  -- where no port holds the line, the passed data are the value, else memory is
  base_is : IsAccepted h past → DirtyPlaced h past → (l : ℕ) (x : Transaction) → granted h past l ≡ Some x → may_lose_data x ≡ false
      → ((p : ℕ) → state_of h past p l ≡ I) → unwrap_or (passed_data h past l) (memory_of past l) ≡ value_of past l
  base_is a f l x g replaces empty = by (passed_data h past l) refl
    where
      no_holder : HasDirtyHolder h past l → ⊥
      no_holder d = dirty_valid (state_of h past d.0 l) d.1 (empty d.0)

      by : (o : Option Line) → passed_data h past l ≡ o → unwrap_or o (memory_of past l) ≡ value_of past l
      by None is =
          elim (f.safe l) [
            | inl same ↦ same
            | inr (inl d) ↦ absurd (no_holder d)
            | inr (inr (inl passed)) ↦ let bad : None ≡ Some (value_of past l) = sym is ∙ passed in cc
            | inr (inr (inr r)) ↦
                let yes : may_lose_data x ≡ true = subst (λ o. is_some_and o may_lose_data ≡ true) g r in cc
          ]
      by (Some d) is =
          elim (passed_true h past a f.passed l x g (passed_has h past l x d g is)) [
            | inl same ↦ Some-injective d (value_of past l) (sym is ∙ same)
            | inr holder ↦ absurd (no_holder holder)
          ]

  writing : IsAccepted h past → AllByRecursion FitsFields past → DirtyPlaced h past → (q : ℕ) (c : Channel) (j l : ℕ) → (w : Writes h past q c j l)
      → Writing l w.one
  writing a r f q c j l w =
      let k = stores_kind w.one w.stores in by k.0 k.1 k.2
    where
      x : Transaction
      x = w.one

      addr : x.addr ≡ l
      addr = is_on-addr w.one l w.on

      empty : (p : ℕ) → state_of h past p l ≡ I
      empty p = all_empty h past a l w.unheld p

      no_read : read_kind w.one ≡ None
      no_read = rw w.writes refl

      base : (k : AwKind) → write_kind w.one ≡ Some k → is_write_line_unique k ≡ false → unwrap_or (passed_data h past l) (memory_of past l) ≡ value_of past l
      base k kind other =
          let none : may_lose_data w.one ≡ false = rw (no_read, kind, other) refl in
          base_is a f l w.one w.stands none empty

      by : (k : AwKind) → write_kind w.one ≡ Some k → (is_unique_write k || is_no_snoop_write k) ≡ true → Writing l w.one
      by write.WriteUnique kind s = record {
        line = data_of_write h past w.one write.WriteUnique;
        is = kind_data h past w.one write.WriteUnique w.writes kind;
        four = merged-length _ _ _;
        stores = ap (λ v. burst_into past w.one (unwrap_or (passed_data h past v) (memory_of past v))) addr ∙ ap (burst_into past w.one) (base write.WriteUnique kind refl);
      }
      by write.WriteNoSnoop kind s = record {
        line = data_of_write h past w.one write.WriteNoSnoop;
        is = kind_data h past w.one write.WriteNoSnoop w.writes kind;
        four = merged-length _ _ _;
        stores = ap (λ v. burst_into past w.one (memory_of past v)) addr ∙ ap (burst_into past w.one) (memory_is kind);
      }
        where
          memory_is : write_kind w.one ≡ Some write.WriteNoSnoop → memory_of past l ≡ value_of past l
          memory_is kind =
              let none : passed_data h past l ≡ None = elim (cases_Bool (has_passed_data h past w.one)) [
                | inr lacks ↦ rw (w.stands, lacks) refl
                | inl has ↦
                    let p = passes_line h past a l w.one w.stands has in
                    let k = passed_kind h past a l p.port w.one p.answer w.stands p.is p.dirty in
                    let causes : snoop_of w.one ≡ None = ap (λ o. snoop_kind_of o (write_kind w.one)) no_read ∙ ap (snoop_kind_of None) kind in
                    let bad : None ≡ Some k.0 = sym causes ∙ k.1 in cc
              ] in
              ap (λ o. unwrap_or o (memory_of past l)) (sym none) ∙ base write.WriteNoSnoop kind refl
      by write.WriteLineUnique kind s =
          let four = four_beats past w.one w.whole in
          let out : outstanding h past w.one.port Write w.one.id ≡ Some w.one = rw (← is_write-is w.one.chan w.writes) w.out in
          let sends : is_some_and (write_kind w.one) has_write_data ≡ true = rw kind refl in
          let unique : is_some_and (write_kind w.one) is_write_line_unique ≡ true = rw kind refl in
          let f0 = beats_fit h past a r w.one.port w.one.id w.one 0 four.b0 out sends (ap (λ bs. slice_get bs 0) four.is) in
          let f1 = beats_fit h past a r w.one.port w.one.id w.one 1 four.b1 out sends (ap (λ bs. slice_get bs 1) four.is) in
          let f2 = beats_fit h past a r w.one.port w.one.id w.one 2 four.b2 out sends (ap (λ bs. slice_get bs 2) four.is) in
          let f3 = beats_fit h past a r w.one.port w.one.id w.one 3 four.b3 out sends (ap (λ bs. slice_get bs 3) four.is) in
          let line : burst_line (burst_of past w.one) ≡ line_of four.b0.word four.b1.word four.b2.word four.b3.word = ap burst_line four.is in
          let strobe : burst_strobe (burst_of past w.one) ≡ full_line =
          ap burst_strobe four.is ∙ full_burst four.b0 four.b1 four.b2 four.b3 (f0.full unique) (f1.full unique) (f2.full unique) (f3.full unique) in
          record {
            line = burst_line (burst_of past w.one);
            is = kind_data h past w.one write.WriteLineUnique w.writes kind;
            four = ap (λ (v : Line). length v.words) line;
            stores = sym (ap (λ s. merged (value_of past l) s (burst_line (burst_of past w.one))) strobe ∙ ap (merged (value_of past l) full_line) line
                ∙ merged-line (value_of past l) (line_of four.b0.word four.b1.word four.b2.word four.b3.word) (refl, (f0.low, (f1.low, (f2.low, (f3.low, tt))))) ∙ sym line);
          }
      by k kind s = cc

  -- a store makes memory the value
  pub store_true : (e : Event) → IsAccepted h (e ∷ past) → AllByRecursion FitsFields (e ∷ past) → DirtyPlaced h past → (l : ℕ) (w : WritesLine h past e l)
      → (s : Writes h past w.port w.chan w.id l) → memory_of (e ∷ past) l ≡ value_of (e ∷ past) l
  store_true e a r f l w s =
      let one : w.one ≡ s.one = Some-injective w.one s.one (sym (outstanding-named h past w.port w.chan w.id w.one w.out) ∙ s.named) in
      let d = writing a.0 r.1 f w.port w.chan w.id l s in
      let line = line_is h past e l w a r.0 d.line (ap (data_of h past) one ∙ d.is) d.four in
      let both = and_from _ _ s.stores s.on in
      let value : value_of (M w.port w.chan w.id w.line ∷ past) l ≡ burst_into past s.one (value_of past l) = rw (s.named, both) refl in
      memory_now h past e l w ∙ line ∙ d.stores ∙ sym (rw w.is value)

  -- at its G a transaction hasn't begun
  given_unbegun : (e : Event) → IsAccepted h (e ∷ past) → (l : ℕ) (x : Transaction) → granted h (e ∷ past) l ≡ Some x → gives_line past e l ≡ true
      → is_begun (e ∷ past) x ≡ true → ⊥
  given_unbegun e a l x g gives b =
      elim (cases_Bool (is_read x.chan)) [
        | inr writes ↦ given_unwritten h past e a l x g gives (else_of (is_read x.chan) _ _ writes b)
        | inl reads ↦
            let o = (accepted_holds h (e ∷ past) a).grants l x g in
            let out : outstanding h (e ∷ past) x.port Read x.id ≡ Some x = ap (λ (c : Channel). outstanding h (e ∷ past) x.port c x.id) (sym (is_read-is x.chan reads)) ∙ o.0 in
            let some : transfers (e ∷ past) x.port x.id ≢ 0 = λ z. let bad : false ≡ true = rw (reads, z) at b in cc in
            elim (outstanding-origin h past e x.port Read x.id x out) [
              | inl new ↦ some (issue_transfers past e x.port x.id x new.0 new.1)
              | inr old ↦ elim (transfer_moves past e x.port x.id old.other) [
                | inr t ↦ let bad : false ≡ true = subst (λ (d : Event). gives_line past d l ≡ true) t.is gives in cc
                | inl none ↦
                    let stands = under_way h past a.0 x.port x.id x old.was (and_parts (is_line x) _ o.1).0 (λ z. some (none.count ∙ z)) in
                    let kept = gives_none h past e a l x (ap (granted h past) (sym (is_on-addr x l o.1)) ∙ stands) in cc
              ]
            ]
      ]

  -- where it begins, memory becomes the value
  begins_true : (e : Event) → IsAccepted h (e ∷ past) → AllByRecursion FitsFields (e ∷ past) → DirtyPlaced h past → (l : ℕ) (x : Transaction) → Stays h past e l x
      → StoresUnheld x → is_begun (e ∷ past) x ≡ true → (is_begun past x ≡ true) ⊎ Quiet h (e ∷ past) l
  begins_true e a r f l x stays stores b =
      let o = (accepted_holds h past a.0).grants l x stays.was in
      elim stores [
        | inl writes_data ↦
            let writes = stores_write x writes_data in
            elim (written_cases h past e a x.port x.chan x.id x o.0 (else_of (is_read x.chan) _ _ writes b)) [
              | inr earlier ↦ inl (rw writes earlier)
              | inl now ↦
                  let w : WritesLine h past e l = record { port = x.port; chan = x.chan; id = x.id; line = now.line; is = now.is; one = x; out = o.0; on = o.1; may = now.may } in
                  let s = stores_m h past x.port x.chan x.id now.line l (subst (λ v. IsAccepted h (v ∷ past)) now.is a) x
                  (outstanding-named h past x.port x.chan x.id x o.0) (and_from _ _ writes_data o.1) in
                  inr (record {
                    stored = store_true e a r f l w s;
                    nowhere = λ p. rw now.is (all_empty h past a.0 l s.unheld p);
                  })
            ]
        | inr discards ↦
            let reads = (read_writes_none x read.MakeInvalid (discards_kind x discards)).1 in
            let out : outstanding h past x.port Read x.id ≡ Some x = ap (λ (c : Channel). outstanding h past x.port c x.id) (sym (is_read-is x.chan reads)) ∙ o.0 in
            elim (transfer_moves past e x.port x.id (not_named h past e a x.port Read x.id x out)) [
              | inl none ↦ let had = subst (λ n. not (nat_eq n 0) ≡ true) none.count (rw reads at b) in inl (rw reads had)
              | inr t ↦
                  let d = discards_r h past x.port x.id t.resp t.last t.word l (subst (λ v. IsAccepted h (v ∷ past)) t.is a) x
                  (outstanding-named h past x.port Read x.id x out) (and_from _ _ discards o.1) in
                  inr (record {
                    stored = rw t.is (sym (discard_true h past x.port x.id t.resp t.last t.word l r.1 d));
                    nowhere = λ p. rw t.is (all_empty h past a.0 l d.unheld p);
                  })
            ]
      ]

  pub begun_step : (e : Event) → IsAccepted h (e ∷ past) → AllByRecursion FitsFields (e ∷ past) → DirtyPlaced h past → BegunTrue h (e ∷ past)
  begun_step e a r f l x g stores b =
      elim (granted_before h past e l x g) [
        | inr gives ↦ absurd (given_unbegun e a l x g gives b)
        | inl stays ↦ elim (begins_true e a r f l x stays stores b) [
          | inr now ↦ now
          | inl earlier ↦
              let q = f.begun l x stays.was stores earlier in
              record {
                stored = later stays.was earlier q;
                nowhere = λ p. elim (state_moves h past e a p l) [
                  | inl less ↦ less.gone (q.nowhere p)
                  | inr up ↦ absurd (no_rise h past e l p x stays up)
                ];
              }
        ]
      ]
    where
      again : is_begun past x ≡ true → (u : Unheld h past l) → u.one ≡ x → ⊥
      again earlier u one =
          let first : is_begun past x ≡ false = subst (λ y. is_begun past y ≡ false) one u.first in
          let bad : true ≡ false = sym earlier ∙ first in cc

      no_make : (q t : ℕ) (m : Made h past q l t) → m.one ≡ x → ⊥
      no_make q t m one =
          elim stores [
            | inl writes ↦ write_no_make h past x l (stores_write x writes) q t m one
            | inr discards ↦ let bad = sym m.kind ∙ ap read_kind one ∙ discards_kind x discards in cc
          ]

      no_passed : granted h past l ≡ Some x → is_read x.chan ≡ true → has_passed_data h past x ≡ true → ⊥
      no_passed was reads has =
          elim stores [
            | inl stored ↦ let writes = stores_write x stored in cc
            | inr discards ↦
                let p = passes_line h past a.0 l x was has in
                passed_no_make h past a.0 l p.port x p.answer was p.is p.dirty (discards_causes x discards)
          ]

      later : granted h past l ≡ Some x → is_begun past x ≡ true → Quiet h past l → memory_of (e ∷ past) l ≡ value_of (e ∷ past) l
      later was earlier q =
          let value = value_stays h past e a l x was (λ p may. unique_valid (state_of h past p l) (may_unique h past p l may) (q.nowhere p)) no_make (again earlier) in
          elim (memory_moves h past e a l) [
            | inl kept ↦ kept ∙ q.stored ∙ sym value
            | inr (inr m) ↦ m.stored l
            | inr (inl w) ↦ elim (writer h past e l w a) [
              | inl passed ↦
                  let one : w.one ≡ x = Some-injective w.one x (sym passed.stands ∙ was) in
                  absurd (no_passed was (ap (λ (y : Transaction). is_read y.chan) (sym one) ∙ passed.reads) (subst (λ y. has_passed_data h past y ≡ true) one passed.has))
              | inr (inl u) ↦ update_true h past e l w a r f.updates u
              | inr (inr s) ↦ absurd (again earlier s.unheld (Some-injective s.one x (sym s.stands ∙ was)))
            ]
          ]
