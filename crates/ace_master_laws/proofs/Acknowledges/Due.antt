-- The transaction that is to be acknowledged, and its acknowledge.
use Rattle.std.proofs.Common.{◌≡◌, ◌+◌, ℕ, Bool, true, false, not, ◌&&◌, ◌==◌, if◌then◌else◌, List, [], ◌∷◌, slice_get, zero, suc, Some, None, refl, sym, ap, ◌∙◌, le_refl, option_and_then, unwrap_or}
use Rattle.ace_codes.specs.declared.kind.ArKind.{ArKind}
use Rattle.ace_codes.specs.declared.kind.ArKind.TheVariants as read
use Rattle.ace_codes.specs.declared.state.LineState.{LineState}
use Rattle.ace_event.specs.declared.event.Channel.{Channel}
use Rattle.ace_event.specs.declared.event.Channel.TheVariants.{Read, Write}
use Rattle.ace_event.specs.declared.event.Event.{Event}
use Rattle.ace_event.specs.declared.event.Event.TheVariants.{Rk, Wk}
use Rattle.ace_event.specs.declared.header.Header.{Header}
use Rattle.ace_model.specs.declared.transactions.Transaction.{Transaction}
use Rattle.ace_model.specs.Accepted.{IsAccepted}
use Rattle.ace_master_laws.proofs.Lines.Gentle.{IsGentle, gentle}
use Rattle.ace_model.proofs.Trace.Growth.{IsIssued}
use Rattle.ace_master_laws.proofs.Progress.Wells.{IsWell, rk-well, wk-well}
use Rattle.ace_model.specs.Plans.{Plan}
use Rattle.ace_model.proofs.General.Options.{Some-injective, is_some_and-is}
use Rattle.ace_model.specs.Trace.{Trace, is_some_and, port_of}
use Rattle.ace_model.proofs.Trace.Outstanding.{acknowledged_is}
use Rattle.ace_runs.specs.Segments.{acts_made, is_at_port, is_in_segment, silent_moves, segment}
use Rattle.std.proofs.Math.Bool.{and-false}
use Rattle.std.proofs.lemmas.Bool.{and_from, and_parts, eq-eqb, eqb-true, or_left, or_right}
use Rattle.ace_runs.proofs.NeverStuck.Operations.Lines.OfPlan.{any-at}
use Rattle.ace_codes.specs.Reads.{ar_kind_of}
use Rattle.ace_master_laws.specs.Orderly.{brings_line, takes_line}
use Rattle.ace_runs.specs.Follows.{has_room_after}
use Rattle.ace_model.specs.Transactions.{is_ace, is_line, is_on, is_outstanding, is_read, is_some_on, is_transaction, read_kind, same_channel, write_kind, acknowledged, issued, ended, outstanding, acknowledgements}
use Rattle.ace_model.specs.Kinds.{is_line_read, is_line_write}
use Rattle.ace_runs.proofs.NeverStuck.Steps.SameEvents.{is_lineless}
use Rattle.ace_model.proofs.Trace.Issued.{issued_at, outstanding-named, transaction_of-name}
use Rattle.ace_runs.specs.HeldLines.{line_of_transaction, line_told}
use Rattle.std.specs.List.{list_any}
use Rattle.ace_runs.specs.Operations.{next_operation}
use Rattle.ace_model.proofs.Outstanding.Steps.{outstanding_after}
use Rattle.ace_model.proofs.Outstanding.Only.{outstanding_at-from}
use Rattle.ace_runs.proofs.NeverStuck.Phases.CalmEvents.{segment-of-port}
use Rattle.ace_model.specs.States.{state_of}
use Rattle.ace_model.proofs.Outstanding.Waiting.{waits_is}
use Rattle.ace_runs.specs.MasterSteps.{acknowledge}

-- The transaction is to be acknowledged by the port on the channel.
pub record IsDue (h : Header) (past : Trace) (p : ℕ) (c : Channel) (x : Transaction) : Type 0 where
  pub next : acknowledged past p c ≡ Some x
  pub there : IsIssued past x
  pub port : x.port ≡ p
  pub chan : x.chan ≡ c
  pub waits : outstanding h past p c x.id ≡ Some x
  pub out : is_outstanding h past x ≡ true

pub due-is : (h : Header) (past : Trace) (p : ℕ) (c : Channel) (x : Transaction) → IsAccepted h past → is_ace h p ≡ true → acknowledged past p c ≡ Some x → IsDue h past p c x
due-is h past p c x a ace next =
    let n = acknowledged_is past p c x next in
    let w = waits_is h past p c (acknowledgements past p c) n.id a ace (le_refl (acknowledgements past p c)) n.next in
    let same : w.0 ≡ x = Some-injective w.0 x (sym (outstanding-named h past p c n.id w.0 w.1) ∙ n.named) in
    let out : outstanding h past p c n.id ≡ Some x = w.1 ∙ ap Some same in
    let from = outstanding_at-from h past p c n.id x out in
    let name = transaction_of-name past p c n.id x n.named in
    record {
      next = next;
      there = from.0;
      port = name.port;
      chan = name.chan;
      waits = ap (outstanding h past p c) from.2 ∙ out;
      out = (and_parts ((x.port == p) && same_channel x.chan c) (is_outstanding h past x) from.1).1;
    }

-- ---- its acknowledge ---------------------------------------------------------------------------------

abbrev pub ack : Channel → ℕ → LineState → Event
ack Read p st = Rk p st
ack Write p st = Wk p st

pub ack-is : (x : Transaction) (p : ℕ) (c : Channel) (st : LineState) → x.port ≡ p → x.chan ≡ c → acknowledge x st ≡ ack c p st ∷ []
ack-is x p c st port chan = ap (λ d. (if is_read d then Rk x.port st else Wk x.port st) ∷ []) chan ∙ by c
  where
    by : (d : Channel) → (if is_read d then Rk x.port st else Wk x.port st) ∷ [] ≡ ack d p st ∷ []
    by Read = ap (λ q. Rk q st ∷ []) port
    by Write = ap (λ q. Wk q st ∷ []) port

own : (n : ℕ) → (n == n) ≡ true
own n = eq-eqb n n refl

pub ack-lineless : (c : Channel) (p : ℕ) (st : LineState) → is_lineless (ack c p st) ≡ true
ack-lineless Read p st = refl
ack-lineless Write p st = refl

pub ack-new : (c : Channel) (p n : ℕ) (st : LineState) → issued n (ack c p st) ≡ None
ack-new Read p n st = refl
ack-new Write p n st = refl

pub ack-next : (plan : Plan) (past : Trace) (c : Channel) (p q : ℕ) (st : LineState) → next_operation plan (ack c p st ∷ past) q ≡ next_operation plan past q
ack-next plan past Read p q st = refl
ack-next plan past Write p q st = refl

pub ack-segment : (past : Trace) (c : Channel) (p q : ℕ) (st : LineState) → segment (ack c p st ∷ past) q ≡ segment past q
ack-segment past Read p q st = refl
ack-segment past Write p q st = refl

pub ack-silent : (past : Trace) (c : Channel) (p q : ℕ) (st : LineState) → silent_moves (ack c p st ∷ past) q ≡ silent_moves past q
ack-silent past Read p q st = refl
ack-silent past Write p q st = refl

pub ack-made : (past : Trace) (c : Channel) (p q : ℕ) (st : LineState) → acts_made (ack c p st ∷ past) q ≡ acts_made past q
ack-made past Read p q st = ap (λ b. if b then acts_made past q + 1 else acts_made past q) (and-false (p == q))
ack-made past Write p q st = ap (λ b. if b then acts_made past q + 1 else acts_made past q) (and-false (p == q))

pub ack-ends : (h : Header) (past : Trace) (c : Channel) (p : ℕ) (st : LineState) → ended h past (ack c p st) ≡ acknowledged past p c
ack-ends h past Read p st = refl
ack-ends h past Write p st = refl

pub ack-port : (c : Channel) (p : ℕ) (st : LineState) → port_of (ack c p st) ≡ Some p
ack-port Read p st = refl
ack-port Write p st = refl

pub ack-at : (c : Channel) (p : ℕ) (st : LineState) → is_at_port p (ack c p st) ≡ true
ack-at Read p st = own p
ack-at Write p st = own p

pub ack-told : (past : Trace) (c : Channel) (p : ℕ) (st : LineState) → line_told past (ack c p st) ≡ option_and_then line_of_transaction (acknowledged past p c)
ack-told past Read p st = refl
ack-told past Write p st = refl

-- the line of the transaction is in its state then
pub ack-state : (h : Header) (past : Trace) (c : Channel) (p l : ℕ) (st : LineState) (x : Transaction) → acknowledged past p c ≡ Some x → is_on x l ≡ true
    → state_of h (ack c p st ∷ past) p l ≡ st
ack-state h past Read p l st x next on =
    ap (λ b. unwrap_or (if b then Some st else None) (state_of h past p l)) (and_from _ _ (own p) (ap (λ o. is_some_on o l) next ∙ on))
ack-state h past Write p l st x next on =
    ap (λ b. unwrap_or (if b then Some st else None) (state_of h past p l)) (and_from _ _ (own p) (ap (λ o. is_some_on o l) next ∙ on))

pub ack-gentle : (h : Header) (past : Trace) (c : Channel) (p : ℕ) (st : LineState) (x : Transaction) → IsAccepted h (ack c p st ∷ past) → acknowledged past p c ≡ Some x → brings_line x ≡ false
    → IsGentle h past p (ack c p st)
ack-gentle h past Read p st x a next none = gentle h past p (Rk p st) a refl (λ same. ap (λ o. is_some_and o brings_line) next ∙ none)
ack-gentle h past Write p st x a next none = gentle h past p (Wk p st) a refl tt

pub ack-well : (plan : Plan) (past : Trace) (c : Channel) (p : ℕ) (st : LineState) → has_room_after plan past (ack c p st) ≡ true → IsWell plan past (ack c p st)
ack-well plan past Read p st room = rk-well plan past p st room
ack-well plan past Write p st room = wk-well plan past p st room

-- ---- transactions ------------------------------------------------------------------------------------

-- a test that passes for one of the list
pub any-from : (test : Transaction → Bool) (xs : List Transaction) (k : ℕ) (y : Transaction) → slice_get xs k ≡ Some y → test y ≡ true → list_any test xs ≡ true
any-from test [] k y there t = cc
any-from test (x ∷ xs) zero y there t = or_left (test x) _ (ap test (Some-injective x y there) ∙ t)
any-from test (x ∷ xs) (suc k) y there t = or_right (test x) _ (any-from test xs k y there t)

pub in-segment : (past : Trace) (p k : ℕ) (x y : Transaction) → x.port ≡ p → slice_get (segment past p) k ≡ Some y → (x.place == y.place) ≡ true → is_in_segment past x ≡ true
in-segment past p k x y port there same =
    ap (λ q. list_any (λ y. x.place == y.place) (segment past q)) port ∙ any-from (λ y. x.place == y.place) (segment past p) k y there same

-- a transaction that is in the segment stands there
pub of-segment : (past : Trace) (p : ℕ) (x : Transaction) → x.port ≡ p → IsIssued past x → is_in_segment past x ≡ true → (k : ℕ) × (slice_get (segment past p) k ≡ Some x)
of-segment past p x port there inside =
    let at = any-at (λ y. x.place == y.place) (segment past p) (sym (ap (λ q. list_any (λ y. x.place == y.place) (segment past q)) port) ∙ inside) in
    let i = (segment-of-port past p at.0 at.1 at.2).there in
    let same : at.1 ≡ x = Some-injective at.1 x (sym i.there ∙ ap (issued_at past) (sym (eqb-true x.place at.1.place at.3)) ∙ there.there) in
    (at.0, at.2 ∙ ap Some same)

brings-read : (x : Transaction) → brings_line x ≡ true → is_read x.chan ≡ true
brings-read x b = by (is_read x.chan) b
  where
    by : (r : Bool) → is_some_and (if r then ar_kind_of x.snoop x.dom x.bar else None) takes_line ≡ true → r ≡ true
    by true t = refl
    by false t = cc

taken-line : (k : ArKind) → takes_line k ≡ true → is_line_read k ≡ true
taken-line read.ReadShared t = refl
taken-line read.ReadClean t = refl
taken-line read.ReadNotSharedDirty t = refl
taken-line read.ReadUnique t = refl
taken-line read.MakeUnique t = refl
taken-line k t = cc

-- what brings a line in is a line transaction
pub brings-on-line : (x : Transaction) → brings_line x ≡ true → is_line x ≡ true
brings-on-line x b =
    let k = is_some_and-is (read_kind x) takes_line b in
    or_left _ (is_some_and (write_kind x) is_line_write) (ap (λ o. is_some_and o is_line_read) k.1 ∙ taken-line k.0 k.2)

pub due-of-read : (h : Header) (past : Trace) (p : ℕ) (c : Channel) (x : Transaction) → IsDue h past p c x → brings_line x ≡ true → c ≡ Read
due-of-read h past p Read x d b = refl
due-of-read h past p Write x d b = let bad : false ≡ true = ap is_read (sym d.chan) ∙ brings-read x b in cc

-- it leaves outstanding all but its transaction
pub ack-ended : (h : Header) (past : Trace) (p : ℕ) (c : Channel) (st : LineState) (x : Transaction) (k : ℕ) (y : Transaction) → IsAccepted h (ack c p st ∷ past) → acknowledged past p c ≡ Some x
    → slice_get (segment past p) k ≡ Some y → is_outstanding h past y ≡ true → is_outstanding h (ack c p st ∷ past) y ≡ false → (x.place == y.place) ≡ true
ack-ended h past p c st x k y a next there was out =
    let e : is_outstanding h (ack c p st ∷ past) y ≡ (is_outstanding h past y && not (is_transaction (ended h past (ack c p st)) y)) =
    outstanding_after h past (ack c p st) y a (segment-of-port past p k y there).there in
    by (is_outstanding h past y) (x.place == y.place)
    (sym (ap (λ o. is_outstanding h past y && not (is_transaction o y)) (ack-ends h past c p st ∙ next)) ∙ sym e ∙ out) was
  where
    by : (w s : Bool) → (w && not s) ≡ false → w ≡ true → s ≡ true
    by true true f w = refl
    by true false f w = cc
    by false s f w = cc

pub ack-over : (h : Header) (past : Trace) (p : ℕ) (c : Channel) (st : LineState) (x : Transaction) → IsAccepted h (ack c p st ∷ past) → IsDue h past p c x → is_outstanding h (ack c p st ∷ past) x ≡ false
ack-over h past p c st x a d =
    outstanding_after h past (ack c p st) x a d.there ∙ ap (λ o. is_outstanding h past x && not (is_transaction o x)) (ack-ends h past c p st ∙ d.next)
    ∙ ap (λ b. is_outstanding h past x && not b) (own x.place) ∙ and-false (is_outstanding h past x)
