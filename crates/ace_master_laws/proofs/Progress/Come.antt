-- How far the operations of a port have come, event by event.
use Rattle.std.proofs.Common.{◌≡◌, ◌≤◌, ℕ, Bool, true, false, not, ◌&&◌, ◌||◌, ◌==◌, [], ◌∷◌, length, slice_get, Option, Some, None, inl, inr, refl, sym, ap, subst, ◌∙◌, arith, if◌then◌else◌, ◌+◌, filter}
use Rattle.std.proofs.lemmas.Bool.{and_parts, eq-eqb, or_right}
use Rattle.ace_codes.specs.declared.kind.ArKind.{ArKind}
use Rattle.ace_codes.specs.declared.kind.ArKind.TheVariants as read
use Rattle.ace_codes.specs.declared.kind.AwKind.{AwKind}
use Rattle.ace_event.specs.declared.event.Channel.TheVariants.{Read}
use Rattle.ace_event.specs.declared.event.Event.{Event}
use Rattle.ace_event.specs.declared.event.Event.TheVariants.{Ar, R, Rk, Aw, W, B, Wk, Ac, Cr, Cd, G, M, S, L, D, Op as Retires, Mem}
use Rattle.ace_event.specs.declared.event.Outcome.{Outcome}
use Rattle.ace_event.specs.declared.header.Header.{Header}
use Rattle.ace_model.specs.declared.plans.Op.{Op}
use Rattle.ace_model.specs.declared.transactions.Transaction.{Transaction}
use Rattle.ace_model.specs.Accepted.{IsAccepted}
use Rattle.ace_model.specs.Plans.{Plan}
use Rattle.ace_model.specs.Trace.{Trace, is_some_and}
use Rattle.ace_model.specs.Transactions.{ended, is_ace, is_outstanding, is_read, is_transaction, issued, outstanding, read_kind, write_kind, same_channel}
use Rattle.ace_model.proofs.General.Options.{Some-injective, is_some_and-is}
use Rattle.ace_model.proofs.Outstanding.Steps.{outstanding_after}
use Rattle.ace_model.proofs.Trace.Issued.{outstanding-origin}
use Rattle.ace_runs.specs.Acts.{is_act_read, is_act_transaction, is_act_write}
use Rattle.ace_runs.specs.Operations.{next_operation}
use Rattle.ace_runs.specs.Segments.{is_at_port, is_read_of, segment, silent_moves}
use Rattle.ace_runs.proofs.NeverStuck.Phases.Calm.{calm-keeps}
use Rattle.ace_runs.proofs.NeverStuck.Phases.CalmEvents.{calm-event, is_calm, segment-of-port}
use Rattle.ace_engine.specs.Engines.{Master, is_given_by, is_of_interconnect}
use Rattle.ace_master_laws.specs.Orderly.{IsFor, IsOrderly, IsUnderWay, acts, brings, brings_line, gives, owns, read_wanted, takes_line, is_settled, owns_line}
use Rattle.ace_master_laws.proofs.Lines.Gentle.{BringsNone, gentle, is_store_at}
use Rattle.ace_master_laws.proofs.Progress.UnderWay.{IsStill, still-under-way}
use Rattle.ace_runs.proofs.Few.Queues.{eqb-swap}
use Rattle.ace_model.specs.Progress.{updates_memory}

-- How far the operations of the port have come: what it keeps between its steps, but that its next operation can't end.
pub record HasCome (plan : Plan) (past : Trace) (p : ℕ) : Type 0 where
  pub brought : (i : ℕ) (x : Transaction) → outstanding plan.header past p Read i ≡ Some x → brings_line x ≡ true
      → (op : Op) × (k : ℕ) × (next_operation plan past p ≡ Some op) × (slice_get (segment past p) k ≡ Some x)
  pub under_way : (op : Op) → next_operation plan past p ≡ Some op → IsUnderWay plan past p op

pub orderly-come : (plan : Plan) (past : Trace) (p : ℕ) → IsOrderly plan past p → HasCome plan past p
orderly-come plan past p o = record { brought = o.brought; under_way = o.under_way }

-- ---- what an operation asks for ----------------------------------------------------------------------

-- The read that brings a line in for the operation.
pub record IsBrought (op : Op) (x : Transaction) : Type 0 where
  pub kind : ArKind
  pub line : ℕ
  pub wanted : read_wanted op ≡ Some (kind, line)
  pub is_kind : read_kind x ≡ Some kind
  pub of : is_read_of kind line x ≡ true

kind-of-write : (b : Bool) (r : Option ArKind) (w : Option AwKind) (k : AwKind) → (if b then None else w) ≡ Some k → (if b then r else None) ≡ None
kind-of-write true r w k is = cc
kind-of-write false r w k is = refl

kind-of-read : (b : Bool) (r : Option ArKind) (w : Option AwKind) (k : ArKind) → (if b then r else None) ≡ Some k → (if b then None else w) ≡ None
kind-of-read true r w k is = refl
kind-of-read false r w k is = cc

pub no-read : (x : Transaction) (k : AwKind) → write_kind x ≡ Some k → read_kind x ≡ None
no-read x k is = kind-of-write (is_read x.chan) _ _ k is

pub no-write : (x : Transaction) (k : ArKind) → read_kind x ≡ Some k → write_kind x ≡ None
no-write x k is = kind-of-read (is_read x.chan) _ _ k is

taken-no-act : (k : ArKind) → takes_line k ≡ true → is_act_read k ≡ false
taken-no-act read.ReadShared t = refl
taken-no-act read.ReadClean t = refl
taken-no-act read.ReadNotSharedDirty t = refl
taken-no-act read.ReadUnique t = refl
taken-no-act read.MakeUnique t = refl
taken-no-act k t = cc

-- a read that brings a line in is no act
pub brings-no-act : (x : Transaction) → brings_line x ≡ true → is_act_transaction x ≡ false
brings-no-act x b =
    let k = is_some_and-is (read_kind x) takes_line b in
    ap (λ o. is_some_and o is_act_read || is_some_and (write_kind x) is_act_write) k.1 ∙ ap (λ b. b || is_some_and (write_kind x) is_act_write) (taken-no-act k.0 k.2)
    ∙ ap (λ o. is_some_and o is_act_write) (no-write x k.0 k.1)

pub brought-for : (op : Op) (x : Transaction) → IsFor op x → brings_line x ≡ true → IsBrought op x
brought-for op x (acts act) b = let bad : true ≡ false = sym act ∙ brings-no-act x b in cc
brought-for op x (brings k a wanted is of) b = record { kind = k; line = a; wanted = wanted; is_kind = is; of = of }
brought-for op x (owns a lock wanted is on locked) b = let bad : false ≡ true = ap (λ o. is_some_and o takes_line) (sym is) ∙ b in cc
brought-for op x (gives k is clears) b = let bad : false ≡ true = ap (λ o. is_some_and o takes_line) (sym (no-read x k is)) ∙ b in cc

-- ---- events that leave the operation -----------------------------------------------------------------

-- The event leaves the operation of the port, and what it has issued for it.
pub record Leaves (plan : Plan) (past : Trace) (p : ℕ) (e : Event) : Type 0 where
  pub still : IsStill plan.header past p e
  pub next : next_operation plan (e ∷ past) p ≡ next_operation plan past p
  pub new : (x : Transaction) → issued (length past) e ≡ Some x → (x.port == p) ≡ true → brings_line x ≡ false

module _ (plan : Plan) (past : Trace) (p : ℕ) (e : Event) (l : Leaves plan past p e) where
  pub brought-before : (i : ℕ) (x : Transaction) → outstanding plan.header (e ∷ past) p Read i ≡ Some x → brings_line x ≡ true → outstanding plan.header past p Read i ≡ Some x
  brought-before i x out b =
      elim (outstanding-origin plan.header past e p Read i x out) [
        | inr old ↦ old.was
        | inl new ↦
            let port = (and_parts (x.port == p) (same_channel x.chan Read) (and_parts ((x.port == p) && same_channel x.chan Read) (x.id == i) new.1).0).0 in
            let bad : false ≡ true = sym (l.new x new.0 port) ∙ b in cc
      ]

  pub leaves-come : ((op : Op) → next_operation plan past p ≡ Some op → (k : ℕ) (x : Transaction) → slice_get (segment past p) k ≡ Some x → is_outstanding plan.header past x ≡ true
      → is_outstanding plan.header (e ∷ past) x ≡ false → is_settled plan.ways plan.header (e ∷ past) p op x ≡ true) → HasCome plan past p → HasCome plan (e ∷ past) p
  leaves-come ends c =
      record {
        brought = λ i x out b.
            let of = c.brought i x (brought-before i x out b) b in
            (of.0, of.1, l.next ∙ of.2, ap (λ s. slice_get s of.1) l.still.same ∙ of.3);
        under_way = λ op next. let was = sym l.next ∙ next in still-under-way plan past p e op l.still (c.under_way op was) (ends op was);
      }

-- what an event that ends nothing leaves outstanding
pub out-stays : (h : Header) (past : Trace) (p : ℕ) (e : Event) → IsAccepted h (e ∷ past) → (k : ℕ) (x : Transaction) → slice_get (segment past p) k ≡ Some x
    → is_transaction (ended h past e) x ≡ false → is_outstanding h (e ∷ past) x ≡ is_outstanding h past x
out-stays h past p e a k x there none =
    outstanding_after h past e x a (segment-of-port past p k x there).there ∙ ap (λ b. is_outstanding h past x && not b) none ∙ and-true (is_outstanding h past x)
  where
    and-true : (b : Bool) → (b && true) ≡ b
    and-true true = refl
    and-true false = refl

-- ---- events of others --------------------------------------------------------------------------------

calm-apart : (at c : Bool) → (at && true) ≡ false → (not at || c) ≡ true
calm-apart true c n = cc
calm-apart false c n = refl

other-or-calm : (p : ℕ) (e : Event) → (is_at_port p e && not (is_of_interconnect e)) ≡ false → is_calm p e ≡ true
other-or-calm p (R q i resp last word) n = or_right (not (q == p)) true refl
other-or-calm p (B q i resp) n = or_right (not (q == p)) true refl
other-or-calm p (Ac q addr snoop) n = or_right (not (q == p)) true refl
other-or-calm p (G q c i) n = or_right (not (q == p)) true refl
other-or-calm p (M q c i line) n = or_right (not (q == p)) true refl
other-or-calm p (Mem addr line) n = refl
other-or-calm p (Ar q i addr snoop dom bar lock) n = calm-apart (q == p) false n
other-or-calm p (Aw q i addr snoop dom bar) n = calm-apart (q == p) false n
other-or-calm p (Rk q st) n = calm-apart (q == p) false n
other-or-calm p (Wk q st) n = calm-apart (q == p) false n
other-or-calm p (Cr q resp st) n = calm-apart (q == p) false n
other-or-calm p (L q addr w x word) n = calm-apart (q == p) false n
other-or-calm p (D q addr strobe x line) n = calm-apart (q == p) false n
other-or-calm p (Retires q k res) n = calm-apart (q == p) false n
other-or-calm p (W q strb last word) n = or_right (not (q == p)) true refl
other-or-calm p (Cd q last word) n = or_right (not (q == p)) true refl
other-or-calm p (S q addr st) n = or_right (not (q == p)) true refl

apart-from : (at : Bool) → (at && true) ≡ false → at ≡ false
apart-from true n = cc
apart-from false n = refl

-- the event is no silent transition of the port
abbrev is_silent_at : ℕ → Event → Bool
is_silent_at p (S q addr st) = p == q
is_silent_at p _ = false

silent-stays : (past : Trace) (p : ℕ) (e : Event) → is_calm p e ≡ true → is_silent_at p e ≡ false → silent_moves (e ∷ past) p ≡ silent_moves past p
silent-stays past p (S q addr st) calm none = ap (λ b. if b then silent_moves past p + 1 else silent_moves past p) none
silent-stays past p (Retires q k res) calm none = ap (λ b. if b then 0 else silent_moves past p) (eqb-swap p q ∙ calm-off (q == p) calm)
  where
    calm-off : (b : Bool) → (not b || false) ≡ true → b ≡ false
    calm-off true c = cc
    calm-off false c = refl
silent-stays past p e calm none = refl

calm-stores : (p : ℕ) (e : Event) → is_calm p e ≡ true → is_store_at p e ≡ false
calm-stores p (D q addr strobe x line) calm = by (q == p) calm
  where
    by : (b : Bool) → (not b || false) ≡ true → b ≡ false
    by true c = cc
    by false c = refl
calm-stores p e calm = refl

calm-brings : (past : Trace) (p : ℕ) (e : Event) → is_calm p e ≡ true → BringsNone past p e
calm-brings past p (Rk q st) calm = λ same. let bad : false ≡ true = ap (λ b. not b || false) (sym (eq-eqb q p same)) ∙ calm in cc
calm-brings past p e calm = tt

calm-new : (n p : ℕ) (e : Event) (x : Transaction) → is_calm p e ≡ true → issued n e ≡ Some x → (x.port == p) ≡ true → ⊥
calm-new n p (Ar q i addr snoop dom bar lock) x calm new port =
    let here : (q == p) ≡ true = ap (λ (v : Transaction). v.port == p) (Some-injective _ x new) ∙ port in
    let bad : false ≡ true = ap (λ b. not b || false) (sym here) ∙ calm in cc
calm-new n p (Aw q i addr snoop dom bar) x calm new port =
    let here : (q == p) ≡ true = ap (λ (v : Transaction). v.port == p) (Some-injective _ x new) ∙ port in
    let bad : false ≡ true = ap (λ b. not b || false) (sym here) ∙ calm in cc
calm-new n p e x calm new port = cc

-- A calm event that isn't a silent transition of the ACE port leaves how far it has come.
pub calm-come : (plan : Plan) (past : Trace) (p : ℕ) (e : Event) → is_ace plan.header p ≡ true → IsAccepted plan.header (e ∷ past) → is_calm p e ≡ true → is_silent_at p e ≡ false
    → HasCome plan past p → HasCome plan (e ∷ past) p
calm-come plan past p e ace a calm none c =
    let k = calm-event plan past p e ace a calm in
    leaves-come plan past p e
    (record {
      still = record {
        accepted = a;
        same = k.same;
        silent = silent-stays past p e calm none;
        gentle = gentle plan.header past p e a (calm-stores p e calm) (calm-brings past p e calm);
      };
      next = k.next;
      new = λ x new port. absurd (calm-new (length past) p e x calm new port);
    })
    (λ op next n x there was out. let bad : true ≡ false = sym was ∙ sym (k.outs n x there) ∙ out in cc) c

interconnect-silent : (p : ℕ) (e : Event) → (is_at_port p e && not (is_of_interconnect e)) ≡ false → is_silent_at p e ≡ false
interconnect-silent p (S q addr st) n = eqb-swap p q ∙ apart-from (q == p) n
interconnect-silent p e n = refl

-- What others do leaves what an ACE port keeps.
pub orderly-heard : (plan : Plan) (past : Trace) (p : ℕ) (e : Event) → is_ace plan.header p ≡ true → IsAccepted plan.header (e ∷ past) → is_given_by Master past p e ≡ false
    → IsOrderly plan past p → IsOrderly plan (e ∷ past) p
unfolding is_given_by
orderly-heard plan past p e ace a other o =
    let calm = other-or-calm p e other in
    let c = calm-come plan past p e ace a calm (interconnect-silent p e other) (orderly-come plan past p o) in
    record { unended = calm-keeps plan past p e (calm-event plan past p e ace a calm) o.unended; brought = c.brought; under_way = c.under_way }

-- ---- the end of an operation -------------------------------------------------------------------------

-- No outstanding read of the port brings a line in.
abbrev pub NoneBrought : Header → Trace → ℕ → Type 0
NoneBrought h past p = (i : ℕ) (x : Transaction) → outstanding h past p Read i ≡ Some x → brings_line x ≡ true → ⊥

-- after an OP of the port its next operation has come to nothing yet
pub retired-come : (plan : Plan) (past : Trace) (p k : ℕ) (res : Outcome) → NoneBrought plan.header past p → HasCome plan (Retires p k res ∷ past) p
retired-come plan past p k res none =
    let now = Retires p k res ∷ past in
    let empty : segment now p ≡ [] = ap (λ b. if b then [] else segment past p) (eq-eqb p p refl) in
    let never = λ (k : ℕ) (x : Transaction) (there : slice_get (segment now p) k ≡ Some x). let bad : None ≡ Some x = ap (λ l. slice_get l k) (sym empty) ∙ there in nothing x bad in
    record {
      brought = λ i x out b. absurd (none i x out b);
      under_way = λ op next. record {
        asked = λ k x there. absurd (never k x there);
        settled = λ k x there out. absurd (never k x there);
        silent = inl (ap (λ b. if b then 0 else silent_moves past p) (eq-eqb p p refl));
        one_update = subst (λ l. length (filter updates_memory l) ≤ 1) (sym empty) (omega arith);
        one_owner = subst (λ l. length (filter owns_line l) ≤ 1) (sym empty) (omega arith);
        room = λ k x there out takes. absurd (never k x there);
        apart = λ j k x y at_x at_y b u out. absurd (never j x at_x);
        absent = λ k x there out updates l used. absurd (never k x there);
      };
    }
  where
    nothing : (x : Transaction) → None ≡ Some x → ⊥
    nothing x bad = cc

-- where the next operation brings no line in, no outstanding read of the port does
pub none-wanted : (plan : Plan) (past : Trace) (p : ℕ) → HasCome plan past p → ((op : Op) → next_operation plan past p ≡ Some op → read_wanted op ≡ None) → NoneBrought plan.header past p
none-wanted plan past p c none i x out b =
    let of = c.brought i x out b in
    let for = brought-for of.0 x ((c.under_way of.0 of.2).asked of.1 x of.3) b in
    absurd (nothing (read_wanted of.0) (none of.0 of.2) for.kind for.line for.wanted)
  where
    nothing : (o : Option (ArKind × ℕ)) → o ≡ None → (k : ArKind) (l : ℕ) → o ≡ Some (k, l) → ⊥
    nothing None n k l some = cc
    nothing (Some v) n k l some = cc
