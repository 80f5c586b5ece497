-- What the rules of an RK and of a WK say of its transaction, in the words of what is kept of its line.
use Rattle.std.proofs.Common.{◌≡◌, ℕ, true, false, Bool, ◌&&◌, if◌then◌else◌, Option, Some, None, option_map, unwrap_or, refl, sym, ap, ◌∙◌}
use Rattle.std.proofs.lemmas.Bool.{and_parts}
use Rattle.ace_lineck.proofs.Terms.{passes_dirty, is_shared, ArKind, AwKind, Channel, I, LineState, Read, Rk, Wk, Write, acknowledge, acknowledged, ends_read, ends_write, first_resp, has_failed, has_store, held_of, implies, is_ace, is_end, is_line, is_make_unique, is_none_or, is_some_and, k23, k28, read_kind, write_kind, state_of, Recording, line_in, line_of, progress_of, transaction_in, Progress, LineCheck, Stands, record_on, state_at}
use Rattle.ace_model.proofs.General.Options.{Some-injective}
use Rattle.ace_model.proofs.Trace.Issued.{transaction_of-name}
use Rattle.ace_model.proofs.Trace.Looks.{read_writes_none}
use Rattle.ace_model.proofs.Trace.Outstanding.{acknowledged_is}
use Rattle.ace_portck.proofs.Acknowledges.{acknowledge-first, acknowledge-one}
use Rattle.ace_lineck.proofs.StateSteps.{all-same}

-- the end state of a read, by what is kept of it
same-end : (k : ArKind) (st held own : LineState) (resp : ℕ) (o : Option ℕ) (failed f stored t : Bool) → held ≡ own → resp ≡ unwrap_or o 0 → failed ≡ f → stored ≡ t
    → (ends_read k held (is_shared resp) (passes_dirty resp) failed st && implies (is_make_unique k) stored)
    ≡ (ends_read k own (is_some_and o is_shared) (is_some_and o passes_dirty) f st && implies (is_make_unique k) t)
same-end k st held own resp None failed f stored t h r g u = rw (h, r, g, u) refl
same-end k st held own resp (Some v) failed f stored t h r g u = rw (h, r, g, u) refl

module _ (s : LineCheck) (r : Recording) (p : ℕ) (st : LineState) (stands : Stands s r) (x : Progress) where
  -- the state in which the port has the line, by the record of that; of no line that is I
  abbrev held : Option ℕ → LineState
  held o = state_at (record_on s o).states p

  module _ (c : Channel) (own : transaction_in r.header r.past (acknowledge c p st) ≡ Some x) where
    one : acknowledged r.past p c ≡ Some x.transaction
    one = acknowledge-one r.header r.past p st x c own

    held-is : (o : Option ℕ) → o ≡ line_of (Some x) → held o ≡ held_of r.header r.past x.transaction
    held-is o at = ap held at ∙ by (is_line x.transaction)
      where
        port : x.transaction.port ≡ p
        port = let n = acknowledged_is r.past p c x.transaction one in (transaction_of-name r.past p c n.id x.transaction n.named).port

        by : (b : Bool) → held (if b then Some x.transaction.addr else None) ≡ (if b then state_of r.header r.past x.transaction.port x.transaction.addr else I)
        by true = (stands.lines x.transaction.addr).states.state p ∙ ap (λ v. state_of r.header r.past v x.transaction.addr) (sym port)
        by false = ap (λ xs. state_at xs p) stands.empty.states ∙ all-same I 32 p

  -- K23, of an RK of a read
  pub rk-law : (k : ArKind) (failed : Bool) → transaction_in r.header r.past (Rk p st) ≡ Some x → read_kind x.transaction ≡ Some k → failed ≡ has_failed r.past x.transaction
      → (ends_read k (held (line_in r.header r.past (Rk p st))) (is_shared x.response) (passes_dirty x.response) failed st && implies (is_make_unique k) x.stored)
      ≡ k23 r.header r.past (Rk p st)
  rk-law k failed own kind fails =
      let h = r.header in
      let y = x.transaction in
      let ace = (and_parts _ (is_ace h p) (acknowledge-first h r.past p st x Read own)).1 in
      let reads = (read_writes_none y k kind).1 in
      let there : Some x ≡ Some (progress_of h r.past y) =
      sym own ∙ ap (λ b. option_map (progress_of h r.past) (if b then acknowledged r.past p Read else None)) ace ∙ ap (option_map (progress_of h r.past)) (one Read own) in
      let is : x ≡ progress_of h r.past y = Some-injective x (progress_of h r.past y) there in
      let response : x.response ≡ unwrap_or (first_resp r.past y.port y.id) 0 = ap (λ (v : Progress). v.response) is ∙ (rw reads refl) in
      let stored : x.stored ≡ has_store h r.past y.port y.id = ap (λ (v : Progress). v.stored) is ∙ (rw reads refl) in
      same-end k st (held (line_in h r.past (Rk p st))) (held_of h r.past y) x.response (first_resp r.past y.port y.id) failed (has_failed r.past y) x.stored
      (has_store h r.past y.port y.id) (held-is Read own (line_in h r.past (Rk p st)) (ap line_of own)) response fails stored
      ∙ sym (ap (λ o. is_none_or o (λ z. is_none_or (read_kind z) (is_end h r.past z st))) (one Read own) ∙ ap (λ o. is_none_or o (is_end h r.past y st)) kind)

  -- K28, of a WK
  pub wk-law : (k : AwKind) → transaction_in r.header r.past (Wk p st) ≡ Some x → write_kind x.transaction ≡ Some k
      → ends_write k (held (line_in r.header r.past (Wk p st))) st ≡ k28 r.header r.past (Wk p st)
  wk-law k own kind =
      let h = r.header in
      ap (λ v. ends_write k v st) (held-is Write own (line_in h r.past (Wk p st)) (ap line_of own))
      ∙ sym (ap (λ o. is_none_or o (λ z. is_none_or (write_kind z) (λ j. ends_write j (held_of h r.past z) st))) (one Write own)
      ∙ ap (λ o. is_none_or o (λ j. ends_write j (held_of h r.past x.transaction) st)) kind)
