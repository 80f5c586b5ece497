-- Operations that fetch a line ask for it where their port doesn't hold it: loads, and reads ahead.
use Rattle.std.proofs.Common.{◌≡◌, ℕ, Bool, true, false, not, ◌&&◌, ◌||◌, ◌==◌, if◌then◌else◌, List, [], ◌∷◌, Some, None, slice_get, suc, refl, sym, ap, ◌∙◌, inl, inr}
use Rattle.std.specs.List.{list_any}
use Rattle.std.proofs.lemmas.Bool.{and_parts, and_from, cases_Bool, eq-eqb, false_from_ne_true, or_left}
use Rattle.ace_codes.specs.declared.kind.ArKind.{ArKind}
use Rattle.ace_codes.specs.declared.kind.ArKind.TheVariants as read
use Rattle.ace_codes.specs.Places.{is_at}
use Rattle.ace_codes.specs.Reads.{ar_kind_of, read_place}
use Rattle.ace_codes.specs.declared.state.LineState.TheVariants.{I}
use Rattle.ace_event.specs.declared.header.Header.{Header}
use Rattle.ace_tables.specs.EndStates.{is_fetch}
use Rattle.ace_tables.specs.StartStates.{starts_read}
use Rattle.ace_tables.specs.States.{is_invalid}
use Rattle.ace_model.specs.declared.plans.Op.TheVariants.{Ld, Ldx, Pf}
use Rattle.ace_model.specs.declared.transactions.Transaction.{Transaction}
use Rattle.ace_model.specs.Kinds.{is_line_read, is_no_snoop_read}
use Rattle.ace_model.specs.Plans.{Plan}
use Rattle.ace_model.specs.States.{state_of}
use Rattle.ace_model.specs.Trace.{Trace, is_some_and}
use Rattle.ace_model.specs.Transactions.{is_on, is_outstanding, is_outstanding_on, is_read, read_kind}
use Rattle.ace_model.proofs.Trace.Growth.{some_issued-found}
use Rattle.ace_model.proofs.Tables.States.{is_invalid-is}
use Rattle.ace_runs.specs.Retiring.{has_read, is_met}
use Rattle.ace_runs.specs.Segments.{acts_made, is_read_of, segment}
use Rattle.ace_runs.proofs.NeverStuck.Operations.Kept.AsksKept.{ReadFits}
use Rattle.ace_runs.proofs.NeverStuck.Operations.Fits.Asking.{IsAsking, own-read}
use Rattle.ace_runs.proofs.NeverStuck.Operations.Fits.Ends.{no-access, not-skipped}
use Rattle.ace_runs.proofs.NeverStuck.Operations.Places.{fetch-there}
use Rattle.ace_runs.proofs.NeverStuck.Operations.SegmentOf.{IsOfSegment, segment-of}
use Rattle.ace_runs.proofs.NeverStuck.Operations.Lines.OfPlan.{planned-ace}

not-false : (b : Bool) → not b ≡ false → b ≡ true
not-false true f = refl
not-false false f = cc

-- a read that fetches a line to keep starts where the port holds nothing of it
record StartsFetch (k : ArKind) : Type 0 where
  line : is_line_read k ≡ true
  snoops : false ≡ is_no_snoop_read k
  starts : starts_read k I ≡ true

fetch-starts : (k : ArKind) → is_fetch k ≡ true → StartsFetch k
fetch-starts read.ReadShared f = record { line = refl; snoops = refl; starts = refl }
fetch-starts read.ReadClean f = record { line = refl; snoops = refl; starts = refl }
fetch-starts read.ReadNotSharedDirty f = record { line = refl; snoops = refl; starts = refl }
fetch-starts read.ReadUnique f = record { line = refl; snoops = refl; starts = refl }
fetch-starts k f = cc

-- a read of a line that is of the kind is one on the line
read-on : (k : ArKind) (a : ℕ) (x : Transaction) → is_fetch k ≡ true → is_read_of k a x ≡ true → is_on x a ≡ true
read-on k a x fetch reads =
    let p1 = and_parts (is_read x.chan && is_at (read_place k) x.snoop x.dom x.bar) (x.addr == a) reads in
    let p2 = and_parts (is_read x.chan) (is_at (read_place k) x.snoop x.dom x.bar) p1.0 in
    let kind : read_kind x ≡ Some k = ap (λ b. if b then ar_kind_of x.snoop x.dom x.bar else None) p2.0 ∙ fetch-there k x.snoop x.dom x.bar fetch p2.1 in
    and_from _ _ (or_left (is_some_and (read_kind x) is_line_read) _ (ap (λ o. is_some_and o is_line_read) kind ∙ (fetch-starts k fetch).line)) p1.1

module _ (plan : Plan) (past : Trace) (p a : ℕ) where
  abbrev h : Header
  h = plan.header

  pub load-fits : (w : ℕ) → IsAsking plan past p (Ld a w) → ReadFits h past p read.ReadShared a false
  load-fits w q =
      let ace = planned-ace plan p (Ld a w) q.planned refl in
      let none : state_of h past p a ≡ I = is_invalid-is (state_of h past p a) (not-false (is_invalid (state_of h past p a)) (no-access h past p (Ld a w) q.made q.stays _ refl)) in
      own-read plan past p (Ld a w) q read.ReadShared a false refl refl refl (or_left _ _ ace) refl (ap (starts_read read.ReadShared) none)

  pub exclusive-load-fits : (w : ℕ) → IsAsking plan past p (Ldx a w) → ReadFits h past p read.ReadShared a true
  exclusive-load-fits w q =
      let ace = planned-ace plan p (Ldx a w) q.planned refl in
      let none : state_of h past p a ≡ I = is_invalid-is (state_of h past p a) (not-false (is_invalid (state_of h past p a)) (no-access h past p (Ldx a w) q.made q.stays _ refl)) in
      own-read plan past p (Ldx a w) q read.ReadShared a true refl refl refl (or_left _ _ ace) (and_from _ _ ace refl) (ap (starts_read read.ReadShared) none)

  -- a read ahead that has had a read of its kind can end, as none is outstanding on its line
  none-fetched : (k : ArKind) → IsAsking plan past p (Pf a k) → list_any (is_read_of k a) (segment past p) ≡ false
  none-fetched k q =
      let none : list_any (λ x. is_read_of k a x && not (is_outstanding h past x)) (segment past p) ≡ false =
      ap (λ b. b && is_met h past p (Pf a k)) (sym (eq-eqb (acts_made past p) 0 q.made)) ∙ q.stays.not_ok in
      same (segment past p) (λ n x there. segment-of past p n x there) ∙ none
    where
      out-none : (x : Transaction) → IsOfSegment past p x → is_read_of k a x ≡ true → not (is_outstanding h past x) ≡ true
      out-none x of reads =
          ap not (false_from_ne_true (is_outstanding h past x) (λ out.
          let here : is_outstanding_on h past p a x ≡ true = and_from _ _ (and_from _ _ (eq-eqb x.port p of.port) (read-on k a x q.planned.fields reads)) out in
          let busy = some_issued-found past (is_outstanding_on h past p a) x.place x of.there.there here in
          let bad : false ≡ true = sym (q.free a refl) ∙ busy in cc))

      one : (x : Transaction) → IsOfSegment past p x → is_read_of k a x ≡ (is_read_of k a x && not (is_outstanding h past x))
      one x of =
          elim (cases_Bool (is_read_of k a x)) [
            | inl t ↦ t ∙ sym (and_from _ _ t (out-none x of t))
            | inr f ↦ f ∙ sym (ap (λ b. b && not (is_outstanding h past x)) f)
          ]

      same : (xs : List Transaction) → ((n : ℕ) (x : Transaction) → slice_get xs n ≡ Some x → IsOfSegment past p x)
          → list_any (is_read_of k a) xs ≡ list_any (λ x. is_read_of k a x && not (is_outstanding h past x)) xs
      same [] each = refl
      same (x ∷ xs) each =
          ap (λ b. b || list_any (is_read_of k a) xs) (one x (each 0 x refl))
          ∙ ap (λ b. (is_read_of k a x && not (is_outstanding h past x)) || b) (same xs (λ n y there. each (suc n) y there))

  pub read-ahead-fits : (k : ArKind) → IsAsking plan past p (Pf a k) → ReadFits h past p k a false
  read-ahead-fits k q =
      let ace = planned-ace plan p (Pf a k) q.planned refl in
      let of = fetch-starts k q.planned.fields in
      let unread : has_read past p a ≡ false =
      false_from_ne_true (has_read past p a) (λ some. let bad : false ≡ true = sym (none-fetched k q) ∙ q.as_asked some in cc) in
      let none : state_of h past p a ≡ I =
      is_invalid-is (state_of h past p a) (unskipped (is_invalid (state_of h past p a)) (has_read past p a) unread (not-skipped h past p (Pf a k) q.made q.stays)) in
      own-read plan past p (Pf a k) q k a false refl of.line of.snoops (or_left _ _ ace) refl (ap (starts_read k) none ∙ of.starts)
    where
      unskipped : (inv read : Bool) → read ≡ false → (not inv && not read) ≡ false → inv ≡ true
      unskipped true r f s = refl
      unskipped false true f s = cc
      unskipped false false f s = cc
