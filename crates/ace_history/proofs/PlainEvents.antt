-- In a run of calls no transaction stores: each act is a load or a store of its port. So the value of a line changes at a D alone.
use Rattle.std.proofs.Common.{◌≡◌, ℕ, zero, suc, Bool, true, false, ◌||◌, ◌==◌, List, [], ◌∷◌, length, map, filter, slice_get, Option, Some, None, option_and_then, refl, sym, ◌∙◌, inl, inr}
use Rattle.std.specs.List.{list_all}
use Rattle.std.proofs.lemmas.Bool.{and_parts, and_from, or_left, or_right, cases_Bool}
use Rattle.ace_codes.specs.declared.kind.ArKind.{ArKind}
use Rattle.ace_codes.specs.declared.kind.ArKind.TheVariants as read
use Rattle.ace_codes.specs.declared.kind.AwKind.{AwKind}
use Rattle.ace_codes.specs.declared.kind.AwKind.TheVariants as write
use Rattle.ace_event.specs.declared.event.Channel.{Channel}
use Rattle.ace_event.specs.declared.event.Channel.TheVariants.{Read}
use Rattle.ace_event.specs.declared.event.Event.{Event}
use Rattle.ace_event.specs.declared.event.Event.TheVariants.{Ar, Aw, R, M, L, D, Mem}
use Rattle.ace_event.specs.declared.header.Header.{Header}
use Rattle.ace_event.specs.declared.line.Line.{Line}
use Rattle.ace_model.specs.declared.plans.Op.{Op}
use Rattle.ace_model.specs.declared.plans.Op.TheVariants.{Ld, Ldx, St, Stx}
use Rattle.ace_model.specs.declared.plans.PlanOp.{PlanOp}
use Rattle.ace_model.specs.declared.transactions.Transaction.{Transaction}
use Rattle.ace_model.specs.Accepted.{IsAccepted}
use Rattle.ace_model.specs.Kinds.{is_unique_write, is_no_snoop_write, is_make_invalid}
use Rattle.ace_model.specs.Plans.{Plan}
use Rattle.ace_model.specs.Trace.{Trace, port_of, is_some_and}
use Rattle.ace_model.specs.OrderRules.{retired}
use Rattle.ace_model.specs.Transactions.{issued, read_kind, write_kind, some_issued, transaction_of}
use Rattle.ace_model.specs.Values.{stores_data, discards_data, store_of, discard_of, value_of}
use Rattle.ace_model.proofs.General.Lists.{list_all-at}
use Rattle.ace_model.proofs.General.Options.{is_some_and-is}
use Rattle.ace_model.proofs.Trace.Growth.{named-issued, some_issued-found}
use Rattle.ace_model.proofs.Values.Stores.{stores_kind}
use Rattle.ace_runs.specs.Acts.{is_act, is_act_read, is_act_write, is_act_transaction, is_load_or_store, acts_of, is_load, is_store, word_line, word_strobe}
use Rattle.ace_runs.specs.Follows.{obeys, is_next_act, FollowsSoFar}
use Rattle.ace_runs.specs.Operations.{operations_of, next_operation}
use Rattle.ace_runs.specs.Segments.{acts_made}
use Rattle.ace_runs.proofs.Few.KnownLines.{each-names-port}
use Rattle.ace_runs.proofs.NeverStuck.Phases.NextActs.{obeys-acts}
use Rattle.ace_history.specs.Settled.{is_call, are_calls}

-- ---- the operations are calls ------------------------------------------------------------------------

calls-of : (p : ℕ) (os : List PlanOp) → are_calls os ≡ true → list_all is_call (map (λ o. o.op) (filter (λ o. o.port == p) os)) ≡ true
calls-of p [] c = refl
calls-of p (o ∷ os) c =
    let parts = and_parts (is_call o.op) (are_calls os) c in
    let rest = calls-of p os parts.1 in
    elim (cases_Bool (o.port == p)) [
      | inl t ↦ rw t (and_from (is_call o.op) (list_all is_call (map (λ o. o.op) (filter (λ o. o.port == p) os))) parts.0 rest)
      | inr f ↦ rw f rest
    ]

pub next-is-call : (plan : Plan) (past : Trace) (p : ℕ) (op : Op) → are_calls plan.operations ≡ true → next_operation plan past p ≡ Some op → is_call op ≡ true
next-is-call plan past p op c next = list_all-at is_call (operations_of plan p) (retired past p) op (calls-of p plan.operations c) next

-- ---- acts --------------------------------------------------------------------------------------------

load-only : (a w : ℕ) (x : Bool) (e : Event) → is_load a w x e ≡ true → is_load_or_store e ≡ true
load-only a w x (L p addr v y word) t = refl
load-only a w x e t = cc

store-only : (a strobe : ℕ) (line : Line) (x : Bool) (e : Event) → is_store a strobe line x e ≡ true → is_load_or_store e ≡ true
store-only a strobe line x (D p addr s y l) t = refl
store-only a strobe line x e t = cc

-- an act of a call is its first, and a load or a store
pub call-act : (op : Op) (k : ℕ) (e : Event) → is_call op ≡ true → is_some_and (slice_get (acts_of op) k) (λ fits. fits e) ≡ true
    → (k ≡ 0) × (is_load_or_store e ≡ true)
call-act (Ld a w) zero e c t = (refl, load-only a w false e t)
call-act (Ldx a w) zero e c t = (refl, load-only a w true e t)
call-act (St a w word) zero e c t = (refl, store-only a (word_strobe w) (word_line w word) false e t)
call-act (Stx a w word) zero e c t = (refl, store-only a (word_strobe w) (word_line w word) true e t)
call-act (Ld a w) (suc k) e c t = cc
call-act (Ldx a w) (suc k) e c t = cc
call-act (St a w word) (suc k) e c t = cc
call-act (Stx a w word) (suc k) e c t = cc
call-act op k e c t = cc

-- the act that an event is: of its port's next operation
pub record ActsFor (plan : Plan) (past : Trace) (e : Event) : Type 0 where
  pub port : ℕ
  pub op : Op
  pub here : port_of e ≡ Some port
  pub next : next_operation plan past port ≡ Some op
  pub fits : is_some_and (slice_get (acts_of op) (acts_made past port)) (λ fits. fits e) ≡ true

pub act-is : (plan : Plan) (past : Trace) (e : Event) → obeys plan past e ≡ true → is_act e ≡ true → ActsFor plan past e
act-is plan past e o act =
    let well : is_some_and (port_of e) (is_next_act plan past e) ≡ true = rw act at (obeys-acts plan past e o) in
    let there = is_some_and-is (port_of e) (is_next_act plan past e) well in
    let op = is_some_and-is (next_operation plan past there.0) (λ op. is_some_and (slice_get (acts_of op) (acts_made past there.0)) (λ fits. fits e)) there.2 in
    record { port = there.0; op = op.0; here = there.1; next = op.1; fits = op.2 }

-- in a run of calls it is a load or a store, the first act of the operation
pub act-of-call : (plan : Plan) (past : Trace) (e : Event) → are_calls plan.operations ≡ true → (a : ActsFor plan past e)
    → (acts_made past a.port ≡ 0) × (is_load_or_store e ≡ true)
act-of-call plan past e c a = call-act a.op (acts_made past a.port) e (next-is-call plan past a.port a.op c a.next) a.fits

-- ---- transactions ------------------------------------------------------------------------------------

pub not-act : (plan : Plan) (past : Trace) (e : Event) → are_calls plan.operations ≡ true → obeys plan past e ≡ true → is_load_or_store e ≡ false
    → is_act e ≡ false
not-act plan past e c o other =
    elim (cases_Bool (is_act e)) [
      | inr f ↦ f
      | inl t ↦ let both = act-of-call plan past e c (act-is plan past e o t) in let bad : false ≡ true = sym other ∙ both.1 in cc
    ]

-- an event issues no act
none-issued : (plan : Plan) (past : Trace) (e : Event) → are_calls plan.operations ≡ true → obeys plan past e ≡ true
    → is_some_and (issued (length past) e) is_act_transaction ≡ false
none-issued plan past (Ar p i addr snoop dom bar lock) c o = not-act plan past (Ar p i addr snoop dom bar lock) c o refl
none-issued plan past (Aw p i addr snoop dom bar) c o = not-act plan past (Aw p i addr snoop dom bar) c o refl
none-issued plan past e c o = refl

pub none-acts : (plan : Plan) (past : Trace) → are_calls plan.operations ≡ true → FollowsSoFar plan past → some_issued past is_act_transaction ≡ false
none-acts plan [] c f = refl
none-acts plan (e ∷ past) c f = rw (none-issued plan past e c f.1, none-acts plan past c f.0) refl

named-none : (past : Trace) (p : ℕ) (c : Channel) (i : ℕ) (x : Transaction) → some_issued past is_act_transaction ≡ false
    → transaction_of past p c i ≡ Some x → is_act_transaction x ≡ false
named-none past p c i x none named =
    elim (cases_Bool (is_act_transaction x)) [
      | inr f ↦ f
      | inl t ↦
          let some = some_issued-found past is_act_transaction x.place x (named-issued past p c i x named).there t in
          let bad : false ≡ true = sym none ∙ some in cc
    ]

act-write : (k : AwKind) → (is_unique_write k || is_no_snoop_write k) ≡ true → is_act_write k ≡ true
act-write write.WriteUnique e = refl
act-write write.WriteLineUnique e = refl
act-write write.WriteNoSnoop e = refl
act-write k e = cc

act-read : (k : ArKind) → is_make_invalid k ≡ true → is_act_read k ≡ true
act-read read.MakeInvalid e = refl
act-read k e = cc

stores-act : (x : Transaction) → stores_data x ≡ true → is_act_transaction x ≡ true
stores-act x s =
    let k = stores_kind x s in
    or_right (is_some_and (read_kind x) is_act_read) (is_some_and (write_kind x) is_act_write) (rw k.1 (act-write k.0 k.2))

discards-act : (x : Transaction) → discards_data x ≡ true → is_act_transaction x ≡ true
discards-act x s =
    let k = is_some_and-is (read_kind x) is_make_invalid s in
    or_left (is_some_and (read_kind x) is_act_read) (is_some_and (write_kind x) is_act_write) (rw k.1 (act-read k.0 k.2))

stores-not : (x : Transaction) → is_act_transaction x ≡ false → stores_data x ≡ false
stores-not x n =
    elim (cases_Bool (stores_data x)) [
      | inr f ↦ f
      | inl t ↦ let bad : false ≡ true = sym n ∙ stores-act x t in cc
    ]

discards-not : (x : Transaction) → is_act_transaction x ≡ false → discards_data x ≡ false
discards-not x n =
    elim (cases_Bool (discards_data x)) [
      | inr f ↦ f
      | inl t ↦ let bad : false ≡ true = sym n ∙ discards-act x t in cc
    ]

no-store : (past : Trace) (l : ℕ) (o : Option Transaction) → ((x : Transaction) → o ≡ Some x → is_act_transaction x ≡ false)
    → option_and_then (store_of past l) o ≡ None
no-store past l None n = refl
no-store past l (Some x) n = rw (stores-not x (n x refl)) refl

no-discard : (past : Trace) (l : ℕ) (o : Option Transaction) → ((x : Transaction) → o ≡ Some x → is_act_transaction x ≡ false)
    → option_and_then (discard_of past l) o ≡ None
no-discard past l None n = refl
no-discard past l (Some x) n = rw (discards-not x (n x refl)) refl

-- ---- the value of a line -----------------------------------------------------------------------------

abbrev pub is_store_event : Event → Bool
is_store_event (D p addr strobe x line) = true
is_store_event _ = false

-- an event other than a D leaves it
pub value-stays : (h : Header) (past : Trace) (e : Event) (l : ℕ) → h.version ≡ 1 → IsAccepted h (e ∷ past) → some_issued past is_act_transaction ≡ false
    → is_store_event e ≡ false → value_of (e ∷ past) l ≡ value_of past l
value-stays h past (M p c i line) l v a none other = rw (no-store past l (transaction_of past p c i) (λ x. named-none past p c i x none)) refl
value-stays h past (R p i resp last word) l v a none other = rw (no-discard past l (transaction_of past p Read i) (λ x. named-none past p Read i x none)) refl
value-stays h past (Mem addr line) l v a none other = let bad = each-names-port h past (Mem addr line) v a in cc
value-stays h past (D p addr strobe x line) l v a none other = cc
value-stays h past e l v a none other = refl
