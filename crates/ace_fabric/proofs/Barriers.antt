-- The step that answers a barrier gives events of the engine of barriers: in a run the halves of a pair are complete together, so that beside an R that
-- may come the other half is outstanding.
use Rattle.std.proofs.Common.{◌≡◌, ℕ, Bool, true, false, not, nat_lt, List, [], ◌∷◌, Option, Some, None, slice_get, inl, inr, refl, sym, ap, subst, ◌∙◌, arith}
use Rattle.std.specs.List.{list_all}
use Rattle.std.proofs.lemmas.Bool.{and_from, and_parts, cases_Bool, false_from_ne_true, ltb-true}
use Rattle.ace_codes.specs.declared.kind.ArKind.{ArKind}
use Rattle.ace_codes.specs.declared.kind.ArKind.TheVariants as read
use Rattle.ace_event.specs.declared.event.Channel.{Channel}
use Rattle.ace_event.specs.declared.event.Channel.TheVariants.{Read, Write}
use Rattle.ace_event.specs.declared.event.Event.{Event}
use Rattle.ace_event.specs.declared.event.Event.TheVariants.{B, D, M, Mem, R}
use Rattle.ace_event.specs.declared.header.Header.{Header}
use Rattle.ace_model.specs.declared.transactions.Transaction.{Transaction}
use Rattle.ace_model.specs.Accepted.{IsAccepted, rules}
use Rattle.ace_model.specs.Barriers.{Pair, barriers, number_of, pair_of}
use Rattle.ace_model.specs.Kinds.{beats_of, is_read_barrier}
use Rattle.ace_model.specs.Plans.{Plan}
use Rattle.ace_model.specs.Progress.{is_completed}
use Rattle.ace_model.specs.ReadRules.{is_due, is_next_transfer, k18}
use Rattle.ace_model.specs.Trace.{Trace, is_some_and}
use Rattle.ace_model.specs.Transactions.{is_line, is_outstanding, outstanding, read_kind, transaction_of, transfers}
use Rattle.ace_model.proofs.Barriers.Pairs.{barriers-half, is_barrier_of-is, pairs-halves}
use Rattle.ace_model.proofs.General.Options.{is_some_and-at, is_some_and-is}
use Rattle.ace_model.proofs.Outstanding.Names.{complete_by_name}
use Rattle.ace_model.proofs.Rules.Keeps.{kept}
use Rattle.ace_model.proofs.Trace.Growth.{IsIssued}
use Rattle.ace_model.proofs.Trace.Issued.{outstanding-named}
use Rattle.ace_model.proofs.Trace.LineOnce.{outstanding_is}
use Rattle.ace_model.proofs.Trace.Looks.{at_name, is_read-is, read_writes_none}
use Rattle.ace_model.proofs.Trace.Transfers.{full_some}
use Rattle.ace_model.proofs.Values.FullReads.{done_read}
use Rattle.ace_runs.specs.Bursts.{are_kept, is_kept, serves}
use Rattle.ace_runs.specs.OrderSteps.{barrier_burst, pair_burst, plain_transfer}
use Rattle.ace_runs.specs.SameEvents.{same_burst, same_event}
use Rattle.ace_runs.specs.Steps.{AreSteps}
use Rattle.ace_runs.proofs.Accepting.{kept-breaks-none}
use Rattle.ace_runs.proofs.NeverStuck.Barriers.BothAnswered.{halves-together, undone-outstanding}
use Rattle.ace_runs.proofs.NeverStuck.Barriers.Halves.{half-no-line}
use Rattle.ace_runs.proofs.NeverStuck.Barriers.Together.{half-in}
use Rattle.ace_runs.proofs.NeverStuck.Reads.PlainTransfers.{half-there, reads-half}
use Rattle.ace_runs.proofs.NeverStuck.Steps.SameBursts.{all-as}
use Rattle.ace_runs.proofs.NeverStuck.Steps.SameEvents.{same-without}
use Rattle.ace_runs.proofs.NeverStuck.Steps.Serving.{served}
use Rattle.ace_engine.specs.Engines.{is_of_order}
use Rattle.ace_fabric.proofs.LineEvents.{named-passes}
use Rattle.ace_fabric.proofs.OrderEvents.{same-order}

-- a barrier is read by one transfer
one-beat : (k : ArKind) → is_read_barrier k ≡ true → beats_of k ≡ 1
one-beat read.Barrier b = refl
one-beat k b = cc

-- The halves of a pair of a run, of which the one is outstanding.
record IsPair (h : Header) (past : Trace) (x y : Transaction) : Type 0 where
  number : ℕ
  first : slice_get (barriers past x.port Read) number ≡ Some x
  second : slice_get (barriers past x.port Write) number ≡ Some y
  out : outstanding h past x.port Read x.id ≡ Some x
  reads : is_some_and (read_kind x) is_read_barrier ≡ true

module _ (plan : Plan) (past : Trace) (a : IsAccepted plan.header past) (steps : AreSteps plan past) (x y : Transaction) (w : IsPair plan.header past x y) where
  -- no transfer came yet, where the transfer may come
  none-yet : is_kept plan.header past (plain_transfer x) ≡ true → transfers past x.port x.id ≡ 0
  none-yet k =
      let h = plan.header in
      let rule : k18 h past (plain_transfer x) ≡ true = kept rules 18 h past (plain_transfer x) (kept-breaks-none h past (plain_transfer x) k) in
      let due = is_some_and-at (outstanding h past x.port Read x.id) (is_due h past 0 true) x rule w.out in
      let kind = is_some_and-is (read_kind x) is_read_barrier w.reads in
      let next = is_some_and-at (read_kind x) (is_next_transfer past x true) kind.0 (and_parts (is_some_and (read_kind x) (is_next_transfer past x true)) _ due).0 kind.1 in
      let low = ltb-true (transfers past x.port x.id) (beats_of kind.0) (and_parts (nat_lt (transfers past x.port x.id) (beats_of kind.0)) _ next).0 in
      let one = one-beat kind.0 kind.2 in
      omega (arith, low, one)

  read-undone : is_kept plan.header past (plain_transfer x) ≡ true → is_completed past x ≡ false
  read-undone k =
      let h = plan.header in
      let none = none-yet k in
      false_from_ne_true (is_completed past x) (λ done.
      let complete = complete_by_name past x.port Read x.id x (outstanding-named h past x.port Read x.id x w.out) ∙ done in
      full_some past x.port x.id x (done_read h past a x.port x.id x w.out complete) none)

  -- both halves are the last transactions under their names
  write-named : is_kept plan.header past (plain_transfer x) ≡ true → transaction_of past x.port Write y.id ≡ Some y
  write-named k =
      let h = plan.header in
      let undone : is_completed past y ≡ false = sym ((halves-together plan past steps).both x.port w.number x y w.first w.second) ∙ read-undone k in
      let i = half-in past x.port Write w.number y w.second in
      let half = is_barrier_of-is y x.port Write (barriers-half past x.port Write w.number y w.second).barrier in
      let out = outstanding_is h past y i.0 (undone-outstanding h past y a i.0 undone) in
      sym (at_name (transaction_of past) y x.port Write y.id (record { port = half.port; chan = half.chan; id = refl })) ∙ outstanding-named h past y.port y.chan y.id y out

  pair-own : is_kept plan.header past (plain_transfer x) ≡ true → list_all (is_of_order past) (plain_transfer x ∷ B x.port y.id 0 ∷ []) ≡ true
  pair-own k =
      let read = half-in past x.port Read w.number x w.first in
      let write = half-in past x.port Write w.number y w.second in
      and_from _ _
      (named-passes past x.port Read x.id x (λ z. not (is_line z)) (outstanding-named plan.header past x.port Read x.id x w.out) (ap not (half-no-line x read.1)))
      (and_from _ _ (named-passes past x.port Write y.id y (λ z. not (is_line z)) (write-named k) (ap not (half-no-line y write.1))) refl)

-- an event that is the same as a transfer is that transfer
transfer-is : (p i resp : ℕ) (last : Bool) (word : ℕ) (e : Event) → same_event (R p i resp last word) e ≡ true → R p i resp last word ≡ e
transfer-is p i resp last word (M q c j line) s = cc
transfer-is p i resp last word (D q addr strobe x line) s = cc
transfer-is p i resp last word (Mem addr line) s = cc
transfer-is p i resp last word e s = same-without (R p i resp last word) e s

begins-kept : (h : Header) (past : Trace) (x : Transaction) (rest burst : List Event) → are_kept h past burst ≡ true → same_burst (plain_transfer x ∷ rest) burst ≡ true
    → is_kept h past (plain_transfer x) ≡ true
begins-kept h past x rest [] k same = cc
begins-kept h past x rest (e ∷ burst) k same =
    let parts = and_parts (same_event (plain_transfer x) e) (same_burst rest burst) same in
    subst (λ (d : Event). is_kept h past d ≡ true) (sym (transfer-is x.port x.id 0 true 0 e parts.0)) (and_parts (is_kept h past e) (are_kept h (e ∷ past) burst) k).0

answered-own : (plan : Plan) (past : Trace) (burst : List Event) → IsAccepted plan.header past → AreSteps plan past → are_kept plan.header past burst ≡ true
    → (x : Transaction) → IsIssued past x → is_outstanding plan.header past x ≡ true → is_some_and (read_kind x) is_read_barrier ≡ true
    → (o : Option Pair) → pair_of past x ≡ o → same_burst (pair_burst o) burst ≡ true → list_all (is_of_order past) burst ≡ true
answered-own plan past burst a steps k x issued out t None is same = all-as (is_of_order past) (same-order past) [] burst same refl
answered-own plan past burst a steps k x issued out t (Some b) is same =
    let h = plan.header in
    let y : Transaction = b.write in
    let kind = is_some_and-is (read_kind x) is_read_barrier t in
    let reads = (read_writes_none x kind.0 kind.1).1 in
    let one = reads-half past x b issued t reads is in
    let halves = pairs-halves past x.port (number_of past x) b is in
    let write = is_barrier_of-is y x.port Write halves.write.barrier in
    let w : IsPair h past x y = record {
      number = number_of past x;
      first = subst (λ (z : Transaction). slice_get (barriers past x.port Read) (number_of past x) ≡ Some z) one (half-there past x.port Read (number_of past x) b.read halves.read);
      second = half-there past x.port Write (number_of past x) y halves.write;
      out = subst (λ (c : Channel). outstanding h past x.port c x.id ≡ Some x) (is_read-is x.chan reads) (outstanding_is h past x issued out);
      reads = t;
    } in
    let alike : same_burst (plain_transfer x ∷ B x.port y.id 0 ∷ []) burst ≡ true =
    subst (λ (q : ℕ). same_burst (plain_transfer x ∷ B q y.id 0 ∷ []) burst ≡ true) write.port
    (subst (λ (z : Transaction). same_burst (plain_transfer z ∷ B y.port y.id 0 ∷ []) burst ≡ true) one same) in
    all-as (is_of_order past) (same-order past) (plain_transfer x ∷ B x.port y.id 0 ∷ []) burst alike
    (pair-own plan past a steps x y w (begins-kept h past x (B x.port y.id 0 ∷ []) burst k alike))

pub barrier-own : (plan : Plan) (past : Trace) (p : ℕ) (burst : List Event) → IsAccepted plan.header past → AreSteps plan past → are_kept plan.header past burst ≡ true
    → serves barrier_burst plan.header past p burst ≡ true → list_all (is_of_order past) burst ≡ true
barrier-own plan past p burst a steps k g =
    let s = served barrier_burst plan.header past p burst g in
    elim (cases_Bool (is_some_and (read_kind s.of) is_read_barrier)) [
      | inl t ↦ answered-own plan past burst a steps k s.of s.issued s.out t (pair_of past s.of) refl (rw t at s.same)
      | inr f ↦ all-as (is_of_order past) (same-order past) [] burst (rw f at s.same) refl
    ]
