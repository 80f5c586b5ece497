-- What a write has to carry: the data of its operation, and the port's copy of the line for a memory update.
use Rattle.std.proofs.Common.{◌≡◌, ℕ, Bool, ◌<◌, ◌/◌, ◌%◌, ◌^◌, true, false, ◌||◌, ◌==◌, Some, le_refl, refl, sym, ap, ◌∙◌, length}
use Rattle.std.proofs.lemmas.Bool.{and_from, eq-eqb, or_parts, or_right}
use Rattle.ace_codes.specs.declared.kind.AwKind.{AwKind}
use Rattle.ace_codes.specs.declared.kind.AwKind.TheVariants as write
use Rattle.ace_event.specs.declared.line.Line.{Line}
use Rattle.ace_tables.specs.States.{is_invalid}
use Rattle.ace_model.specs.declared.plans.Op.{Op}
use Rattle.ace_model.specs.declared.plans.Op.TheVariants.{Wu, Wlu, Wn}
use Rattle.ace_model.specs.declared.transactions.Transaction.{Transaction}
use Rattle.ace_model.specs.Accepted.{IsAccepted}
use Rattle.ace_model.specs.Copies.{copy_of, word_of}
use Rattle.ace_model.specs.Kinds.{has_write_data, is_line_read, is_line_write, is_no_snoop_write, is_unique_write, is_update, is_write_line_unique}
use Rattle.ace_model.specs.Plans.{Plan}
use Rattle.ace_model.specs.Progress.{updates_memory}
use Rattle.ace_model.specs.SnoopRules.{fits_write, full_beat}
use Rattle.ace_model.specs.States.{state_of}
use Rattle.ace_model.specs.Trace.{Trace, implies, is_none_or, is_some_and}
use Rattle.ace_model.specs.Transactions.{is_line, read_kind, write_kind}
use Rattle.ace_model.specs.Values.{full_line, stores_data}
use Rattle.ace_model.specs.Writes.{beats, next_write}
use Rattle.ace_model.proofs.General.Options.{Some-injective, is_some_and-is}
use Rattle.ace_model.proofs.Trace.UnwrittenWrites.{data_write-at, filling_unwritten}
use Rattle.ace_model.proofs.Values.UpdateHolds.{holds_line}
use Rattle.ace_runs.specs.Acts.{data_of_operation}
use Rattle.ace_portck.specs.declared.target.WriteData.{WriteData}
use Rattle.ace_master.specs.Lite.{kind_written}
use Rattle.ace_master.specs.Sending.{Carries, IsForData, strobe_of}
use Rattle.ace_master.proofs.Beats.{full-beat}

-- ---- the data of an operation ------------------------------------------------------------------------

-- a WriteLineUnique has all strobes
fits-kind : (past : Trace) (x : Transaction) (op : Op) (d : WriteData) (n word : ℕ) → n < 4 → data_of_operation op ≡ Some (d.strobe, d.line)
    → is_none_or (kind_written op) (fits_write past x n (strobe_of d n) word) ≡ true
fits-kind past x (Wu a strobe line) d n word low carried = refl
fits-kind past x (Wn a strobe line) d n word low carried = refl
fits-kind past x (Wlu a line) d n word low carried =
    let full : full_line ≡ d.strobe = ap (λ (c : ℕ × Line). c.0) (Some-injective (full_line, line) (d.strobe, d.line) carried) in
    and_from _ _ (eq-eqb (strobe_of d n) full_beat (ap (λ s. s / 65536 ^ n % 65536) (sym full) ∙ full-beat n low)) refl
fits-kind past x op d n word low carried = refl

pub operation-carries : (plan : Plan) (past : Trace) (x : Transaction) (d : WriteData) → IsForData plan past x d → Carries plan past x d
operation-carries plan past x d f = record {
  fits = λ n low. ap (λ o. is_none_or o (fits_write past x n (strobe_of d n) (word_of d.line n))) f.kind ∙ fits-kind past x f.behind d n (word_of d.line n) low f.carries;
  carried = λ stores. (f.behind, f.is_behind, f.carries);
}

-- ---- the copy of a line that is written back ---------------------------------------------------------

-- a write with data that stores none is a memory update
update-kind : (k : AwKind) → has_write_data k ≡ true → is_unique_write k ≡ false → is_no_snoop_write k ≡ false → is_update k ≡ true
update-kind write.WriteBack d u n = refl
update-kind write.WriteClean d u n = refl
update-kind write.WriteEvict d u n = refl
update-kind k d u n = cc

update-line : (k : AwKind) → is_update k ≡ true → is_line_write k ≡ true
update-line write.WriteBack u = refl
update-line write.WriteClean u = refl
update-line write.WriteEvict u = refl
update-line k u = cc

module _ (plan : Plan) (past : Trace) (p : ℕ) (a : IsAccepted plan.header past) (x : Transaction) (next : next_write past p ≡ Some x) (none : stores_data x ≡ false) where
  -- The port's next write to send, which is a memory update.
  record IsNextUpdate : Type 0 where
    kind : AwKind
    is_kind : write_kind x ≡ Some kind
    updates : is_update kind ≡ true
    port : x.port ≡ p

  next-update : IsNextUpdate
  next-update =
      let w = data_write-at past p (length (beats past p) / 4) x next in
      let k = is_some_and-is (write_kind x) has_write_data w.sends in
      let both = or_parts (is_some_and (write_kind x) is_unique_write) (is_some_and (write_kind x) is_no_snoop_write) none in
      record {
        kind = k.0;
        is_kind = k.1;
        updates = update-kind k.0 k.2 (ap (λ o. is_some_and o is_unique_write) (sym k.1) ∙ both.0) (ap (λ o. is_some_and o is_no_snoop_write) (sym k.1) ∙ both.1);
        port = w.port;
      }

  -- the port holds its line
  pub update-held : is_invalid (state_of plan.header past p x.addr) ≡ false
  update-held =
      let u = next-update in
      let w = filling_unwritten plan.header past a p (length (beats past p) / 4) x (le_refl (length (beats past p) / 4)) next in
      let line : is_line x ≡ true = or_right (is_some_and (read_kind x) is_line_read) (is_some_and (write_kind x) is_line_write) (ap (λ o. is_some_and o is_line_write) u.is_kind ∙ update-line u.kind u.updates) in
      let updates : updates_memory x ≡ true = ap (λ o. is_some_and o is_update) u.is_kind ∙ u.updates in
      (holds_line plan.header past a p x.id x.addr x w.out (and_from _ _ line (eq-eqb x.addr x.addr refl)) updates).held

  pub update-carries : (line : Line) → line ≡ copy_of past p x.addr → Carries plan past x (record { strobe = full_line; line = line })
  update-carries line is =
      let u = next-update in
      record {
        fits = λ n low.
            let strobes = or-true (is_update u.kind) (is_write_line_unique u.kind) (full_line / 65536 ^ n % 65536) (full-beat n low) in
            let copy : word_of line n ≡ word_of (copy_of past x.port x.addr) n = ap (λ (l : Line). word_of l n) (is ∙ ap (λ q. copy_of past q x.addr) (sym u.port)) in
            ap (λ o. is_none_or o (fits_write past x n (full_line / 65536 ^ n % 65536) (word_of line n))) u.is_kind
            ∙ and_from _ _ strobes (implied (is_update u.kind) (eq-eqb (word_of line n) (word_of (copy_of past x.port x.addr) n) copy));
        carried = λ stores. let bad : false ≡ true = sym none ∙ stores in cc;
      }
    where
      implied : (b : Bool) {c : Bool} → c ≡ true → implies b c ≡ true
      implied true t = t
      implied false t = refl

      or-true : (b c : Bool) (s : ℕ) → s ≡ full_beat → implies (b || c) (s == full_beat) ≡ true
      or-true b c s is = implied (b || c) (eq-eqb s full_beat is)
