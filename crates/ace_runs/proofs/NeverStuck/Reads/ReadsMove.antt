-- A granted read has its next transfer: its port is enabled by step 8 once the snoops are done, where the read can take the passed data if there are
-- any, and after its first transfer until its last.
use Rattle.std.proofs.Common.{◌≡◌, ℕ, ◌+◌, Bool, true, false, ◌&&◌, ◌==◌, nat_lt, if◌then◌else◌, [], ◌∷◌, Some, None, refl, sym, ap, subst, ◌∙◌, inl, inr, arith}
use Rattle.std.proofs.lemmas.Bool.{and_parts, and_from, or_cases, or_left, cases_Bool, eqb-false, eqb-true, eq-eqb, lt-ltb}
use Rattle.ace_codes.specs.Responses.{is_shared, passes_dirty}
use Rattle.ace_codes.specs.declared.kind.ArKind.{ArKind}
use Rattle.ace_codes.specs.declared.kind.ArKind.TheVariants as read
use Rattle.ace_event.specs.declared.event.Channel.TheVariants.{Read}
use Rattle.ace_event.specs.declared.event.Event.TheVariants.{Ar, R}
use Rattle.ace_tables.specs.Answers.{same_test}
use Rattle.ace_model.specs.declared.transactions.Transaction.{Transaction}
use Rattle.ace_model.specs.Grants.{has_passed_data}
use Rattle.ace_model.specs.Kinds.{beats_of, is_granted_write, is_line_read, is_lite_read, reads_a_line, takes_passed_data}
use Rattle.ace_model.specs.Plans.{Plan}
use Rattle.ace_model.specs.ReadRules.{same_upper_bits}
use Rattle.ace_model.specs.States.{are_snoops_done}
use Rattle.ace_model.specs.Trace.{Trace, implies, is_none_or, is_some_and}
use Rattle.ace_model.specs.Transactions.{first_resp, is_complete, is_line, is_outstanding, is_read, outstanding, read_kind, takes_grant, transfers, write_kind}
use Rattle.ace_model.proofs.General.Booleans.{implies-at}
use Rattle.ace_model.proofs.General.Options.{is_some_and-is}
use Rattle.ace_model.proofs.Grants.Granted.{granted_given}
use Rattle.ace_model.proofs.Trace.Growth.{some_issued-found}
use Rattle.ace_model.proofs.Trace.Looks.{is_read-is}
use Rattle.ace_model.proofs.Values.Fetches.{ace_read}
use Rattle.ace_runs.specs.Bursts.{may_begin, may_serve}
use Rattle.ace_runs.specs.LineSteps.{can_take, is_last_beat, next_word, response_bits, takes_dirt, transfer_burst}
use Rattle.ace_runs.specs.Steps.{AreSteps, is_enabled_by}
use Rattle.ace_runs.proofs.Turns.{steps-accepted}
use Rattle.ace_runs.proofs.NeverStuck.Steps.SameEvents.{same_test-self}
use Rattle.ace_runs.proofs.NeverStuck.Transactions.PassedDataMove.{passed-whole}
use Rattle.ace_runs.proofs.NeverStuck.Updates.UpdatesOrGranted.{HasLine}
use Rattle.ace_model.proofs.Trace.IssuedTransactions.{issuer-low}
use Rattle.ace_runs.proofs.NeverStuck.Reads.FirstTransfers.{firsts-say}
use Rattle.ace_runs.proofs.NeverStuck.Reads.TransfersKept.{GoesOn, next-kept, response-says}
use Rattle.ace_runs.proofs.NeverStuck.Reads.TransfersLeft.{transfers-left}

-- a read that is granted its line
granted-read : (x : Transaction) → takes_grant x ≡ true → is_read x.chan ≡ true → (k : ArKind) × (read_kind x ≡ Some k) × (is_line_read k ≡ true)
granted-read x t reads =
    let none : write_kind x ≡ None = rw reads refl in
    elim (or_cases (is_some_and (read_kind x) is_line_read) (is_some_and (write_kind x) is_granted_write) t) [
      | inl line ↦ is_some_and-is (read_kind x) is_line_read line
      | inr writes ↦ let bad : false ≡ true = rw none at writes in cc
    ]

-- a read that may take passed data is none of an ACE-Lite port
takes-full : (k : ArKind) → takes_passed_data k ≡ true → is_lite_read k ≡ false
takes-full read.ReadShared t = refl
takes-full read.ReadNotSharedDirty t = refl
takes-full read.ReadUnique t = refl
takes-full k t = cc

-- a read has at least one transfer
some-beats : (k : ArKind) → nat_lt 0 (beats_of k) ≡ true
some-beats k = by (reads_a_line k)
  where
    by : (b : Bool) → nat_lt 0 (if b then 4 else 1) ≡ true
    by true = refl
    by false = refl

-- before its first transfer a read has no first response
pub no-first : (past : Trace) (p i : ℕ) → transfers past p i ≡ 0 → first_resp past p i ≡ None
no-first [] p i none = refl
no-first (Ar q j addr snoop dom bar lock ∷ past) p i none =
    elim (cases_Bool ((p == q) && (i == j))) [
      | inl t ↦ rw t refl
      | inr f ↦ rw f (no-first past p i (rw f at none))
    ]
no-first (R q j resp last word ∷ past) p i none =
    elim (cases_Bool ((p == q) && (i == j))) [
      | inl t ↦ let more : transfers past p i + 1 ≡ 0 = rw t at none in absurd (omega (arith, more))
      | inr f ↦ rw f (no-first past p i (rw f at none))
    ]
no-first (e ∷ past) p i none = no-first past p i none

-- ---- step 8 ------------------------------------------------------------------------------------------

-- the port of a read whose next transfer is in order is enabled by step 8
goes-on-enabled : (plan : Plan) (past : Trace) (x : Transaction) (k : ArKind) → HasLine plan.header past x.addr x → is_read x.chan ≡ true
    → implies (has_passed_data plan.header past x) (takes_dirt plan.header past x) ≡ true → GoesOn plan.header past x k → is_enabled_by (8 ∷ []) plan past x.port ≡ true
goes-on-enabled plan past x k line reads takes g =
    let h = plan.header in
    let of_line = (and_parts (is_line x) (x.addr == x.addr) line.on).0 in
    let this : (is_read x.chan && is_line x && implies (has_passed_data h past x) (takes_dirt h past x)) ≡ true = and_from _ _ (and_from _ _ reads of_line) takes in
    let begins : may_begin h past (transfer_burst h past x) ≡ true =
    ap (λ b. may_begin h past (if b then R x.port x.id (response_bits h past x) (is_last_beat past x) (next_word past x) ∷ [] else [])) this ∙ next-kept h past x k g in
    let serves : may_serve transfer_burst h past x.port ≡ true =
    some_issued-found past (λ y. (y.port == x.port) && is_outstanding h past y && may_begin h past (transfer_burst h past y)) x.place x line.issued.there
    (and_from _ _ (and_from _ _ (eq-eqb x.port x.port refl) line.is_out) begins) in
    or_left (may_serve transfer_burst h past x.port) _ serves

-- in order, but for what depends on whether it is the first
moves : (plan : Plan) (past : Trace) (x : Transaction) (k : ArKind) → AreSteps plan past → HasLine plan.header past x.addr x → is_read x.chan ≡ true
    → read_kind x ≡ Some k → is_line_read k ≡ true → nat_lt (transfers past x.port x.id) (beats_of k) ≡ true
    → ((transfers past x.port x.id == 0) ≡ true → are_snoops_done plan.header past x ≡ true)
    → implies (has_passed_data plan.header past x) (takes_dirt plan.header past x) ≡ true
    → is_none_or (first_resp past x.port x.id) (same_upper_bits (response_bits plan.header past x)) ≡ true
    → is_enabled_by (8 ∷ []) plan past x.port ≡ true
moves plan past x k s line reads kind of_line left snooped takes first =
    let h = plan.header in
    let a = steps-accepted plan past s in
    let out : outstanding h past x.port Read x.id ≡ Some x = subst (λ c. outstanding h past x.port c x.id ≡ Some x) (is_read-is x.chan reads) line.out in
    goes-on-enabled plan past x k line reads takes (record {
      low = issuer-low h past x a line.issued;
      out = out;
      kind = kind;
      line = of_line;
      is = line.is;
      left = left;
      snooped = snooped;
      takes = λ has. ap (λ o. is_some_and o (can_take h past x)) (sym kind) ∙ implies-at (has_passed_data h past x) (takes_dirt h past x) takes has;
      whole = passed-whole plan past x s;
      ace = λ t. ace_read h past a x.port x.id x k out kind (takes-full k t);
      first = first;
    })

-- A granted read without a transfer whose snoops are done, and that can take the passed data if there are any: its port is enabled by step 8.
pub unbegun-read-moves : (plan : Plan) (past : Trace) (x : Transaction) → AreSteps plan past → HasLine plan.header past x.addr x → is_read x.chan ≡ true
    → (transfers past x.port x.id == 0) ≡ true → are_snoops_done plan.header past x ≡ true
    → implies (has_passed_data plan.header past x) (takes_dirt plan.header past x) ≡ true → is_enabled_by (8 ∷ []) plan past x.port ≡ true
unbegun-read-moves plan past x s line reads none snooped takes =
    let h = plan.header in
    let k = granted-read x (granted_given h past (steps-accepted plan past s) x.addr x line.holds).kind reads in
    let zero = eqb-true (transfers past x.port x.id) 0 none in
    moves plan past x k.0 s line reads k.1 k.2 (ap (λ n. nat_lt n (beats_of k.0)) zero ∙ some-beats k.0) (λ t. snooped) takes
    (ap (λ o. is_none_or o (same_upper_bits (response_bits h past x))) (no-first past x.port x.id zero))

-- A granted read that has had a transfer and isn't complete: its port is enabled by step 8.
pub begun-read-moves : (plan : Plan) (past : Trace) (x : Transaction) → AreSteps plan past → HasLine plan.header past x.addr x → is_read x.chan ≡ true
    → (transfers past x.port x.id == 0) ≡ false → is_complete past x.port x.chan x.id ≡ false → is_enabled_by (8 ∷ []) plan past x.port ≡ true
begun-read-moves plan past x s line reads some undone =
    let h = plan.header in
    let a = steps-accepted plan past s in
    let k = granted-read x (granted_given h past a x.addr x line.holds).kind reads in
    let chan = is_read-is x.chan reads in
    let out : outstanding h past x.port Read x.id ≡ Some x = subst (λ c. outstanding h past x.port c x.id ≡ Some x) chan line.out in
    let undone_here : is_complete past x.port Read x.id ≡ false = subst (λ c. is_complete past x.port c x.id ≡ false) chan undone in
    let left = lt-ltb (transfers past x.port x.id) (beats_of k.0) (transfers-left h past x.port x.id x k.0 a out k.1 undone_here) in
    let of_line = (and_parts (is_line x) (x.addr == x.addr) line.on).0 in
    let f = firsts-say plan past s x.port x.id x out of_line (eqb-false (transfers past x.port x.id) 0 some) in
    let step = response-says h past x in
    let dirty : same_test (passes_dirty (response_bits h past x)) (passes_dirty f.resp) ≡ true =
    ap (λ b. same_test b (passes_dirty f.resp)) (step.dirty ∙ sym f.says.dirty) ∙ same_test-self (passes_dirty f.resp) in
    let shared : same_test (is_shared (response_bits h past x)) (is_shared f.resp) ≡ true =
    ap (λ b. same_test b (is_shared f.resp)) (step.shared ∙ sym f.says.shared) ∙ same_test-self (is_shared f.resp) in
    moves plan past x k.0 s line reads k.1 k.2 left (λ t. let bad : false ≡ true = sym some ∙ t in cc) f.says.takes
    (ap (λ o. is_none_or o (same_upper_bits (response_bits h past x))) f.first ∙ and_from _ _ dirty shared)
