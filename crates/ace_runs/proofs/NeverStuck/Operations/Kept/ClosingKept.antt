-- What ends an operation breaks no rule.
use Rattle.std.proofs.Common.{◌≡◌, ℕ, Bool, true, false, not, ◌&&◌, ◌||◌, nat_le, nat_lt, List, [], length, Option, Some, None, refl, sym, ap, ◌∙◌, inl, inr}
use Rattle.std.proofs.lemmas.Bool.{and_from, cases_Bool, eq-eqb, or_left}
use Rattle.ace_codes.specs.declared.state.LineState.{LineState}
use Rattle.ace_codes.specs.declared.state.LineState.TheVariants.{I}
use Rattle.ace_event.specs.declared.event.Event.{Event}
use Rattle.ace_event.specs.declared.event.Event.TheVariants as event
use Rattle.ace_event.specs.declared.event.Outcome.{Outcome}
use Rattle.ace_event.specs.declared.event.Outcome.TheVariants.{Ok, Skip, Fail}
use Rattle.ace_event.specs.declared.header.Header.{Header}
use Rattle.ace_event.specs.declared.line.Line.{Line}
use Rattle.ace_tables.specs.States.{is_invalid, is_unique}
use Rattle.ace_model.specs.declared.plans.Op.{Op}
use Rattle.ace_model.specs.declared.plans.Op.TheVariants.{Ld, Ldx, St, Stx, Fill}
use Rattle.ace_model.specs.AddressRules.{is_aligned, k1, k3}
use Rattle.ace_model.specs.CacheRules.{k30, k31, k32, k33, may_store}
use Rattle.ace_model.specs.Copies.{copy_of, word_of}
use Rattle.ace_model.specs.Monitors.{is_monitored}
use Rattle.ace_model.specs.OrderRules.{k40, retired}
use Rattle.ace_model.specs.Plans.{Plan, line_named}
use Rattle.ace_model.specs.States.{state_of}
use Rattle.ace_model.specs.Trace.{Trace}
use Rattle.ace_model.specs.Transactions.{has_outstanding_on, is_ace}
use Rattle.ace_runs.specs.Acts.{word_line, word_strobe}
use Rattle.ace_model.specs.Values.{full_line}
use Rattle.ace_runs.specs.Bursts.{are_kept, is_kept}
use Rattle.ace_runs.specs.Closing.{access_and_retirement, access_of, closing_of, gives_access, retirement, state_named}
use Rattle.ace_runs.specs.Retiring.{has_failed_store, may_fail, may_retire}
use Rattle.ace_runs.specs.Segments.{acts_made}
use Rattle.ace_runs.proofs.Accepting.{four-kept, two-kept}
use Rattle.ace_runs.proofs.NeverStuck.Operations.Lines.OfPlan.{IsPlanned, planned-ace}

-- an OP with the number of those before it
op-kept : (h : Header) (past : Trace) (p n : ℕ) (res : Outcome) → nat_lt p h.ports ≡ true → n ≡ retired past p → is_kept h past (event.Op p n res) ≡ true
unfolding is_kept
op-kept h past p n res low same =
    let e = event.Op p n res in
    let one : k1 h past e ≡ true = and_from _ _ low refl in
    two-kept (k1 h past e) (k40 h past e) 1 40 one (eq-eqb n (retired past p) same)

pub retirement-kept : (h : Header) (past : Trace) (p : ℕ) (res : Outcome) → nat_lt p h.ports ≡ true → are_kept h past (retirement past p res) ≡ true
retirement-kept h past p res low = and_from _ _ (op-kept h past p (retired past p) res low refl) refl

-- ---- loads and stores --------------------------------------------------------------------------------

load-kept : (h : Header) (past : Trace) (p a w : ℕ) (x : Bool) → nat_lt p h.ports ≡ true → is_ace h p ≡ true → is_aligned a ≡ true → is_invalid (state_of h past p a) ≡ false
    → is_kept h past (event.L p a w x (word_of (copy_of past p a) w)) ≡ true
unfolding is_kept
load-kept h past p a w x low ace aligned held =
    let e = event.L p a w x (word_of (copy_of past p a) w) in
    let one : k1 h past e ≡ true = and_from _ _ low ace in
    let three : k3 h past e ≡ true = and_from _ _ aligned refl in
    let last : k31 h past e ≡ true = eq-eqb (word_of (copy_of past p a) w) (word_of (copy_of past p a) w) refl in
    four-kept (k1 h past e) (k3 h past e) (k30 h past e) (k31 h past e) 1 3 30 31 one three (ap not held) last

store-kept : (h : Header) (past : Trace) (p a strobe : ℕ) (x : Bool) (line : Line) → has_outstanding_on h past p a ≡ false → nat_lt p h.ports ≡ true → is_ace h p ≡ true → is_aligned a ≡ true
    → is_unique (state_of h past p a) ≡ true → (x ≡ true → is_monitored h past p a ≡ true) → is_kept h past (event.D p a strobe x line) ≡ true
unfolding is_kept
store-kept h past p a strobe x line quiet low ace aligned alone set =
    let e = event.D p a strobe x line in
    let one : k1 h past e ≡ true = and_from _ _ low ace in
    let three : k3 h past e ≡ true = and_from _ _ aligned refl in
    let may : may_store h past p a ≡ true = and_from _ _ alone (ap not quiet) in
    let before : k32 h past e ≡ true = or_left (may_store h past p a) _ may in
    four-kept (k1 h past e) (k3 h past e) (k32 h past e) (k33 h past e) 1 3 32 33 one three before (implied x (is_monitored h past p a) set)
  where
    implied : (a b : Bool) → (a ≡ true → b ≡ true) → (not a || b) ≡ true
    implied true b t = t refl
    implied false b t = refl

-- ---- what ends an operation --------------------------------------------------------------------------

-- no transaction of the port on the line that the operation names is outstanding
abbrev pub IsLineFree : Header → Trace → ℕ → Op → Type 0
IsLineFree h past p op = (a : ℕ) → line_named op ≡ Some a → has_outstanding_on h past p a ≡ false

-- An operation ends by its OP, or by its access and OP where its line gives that, or it doesn't.
pub data HowItEnds (h : Header) (past : Trace) (p : ℕ) (op : Op) : Type 0 where
  retires : (res : Outcome) → closing_of h past p op ≡ retirement past p res → HowItEnds h past p op
  accesses : may_retire h past p op Fail ≡ false → gives_access op (state_named h past p op) ≡ true
      → closing_of h past p op ≡ access_and_retirement past p (access_of past p op) → HowItEnds h past p op
  stays : closing_of h past p op ≡ [] → HowItEnds h past p op

pub how-it-ends : (h : Header) (past : Trace) (p : ℕ) (op : Op) → HowItEnds h past p op
unfolding closing_of
how-it-ends h past p op = by (may_retire h past p op Ok) (may_retire h past p op Skip) (may_retire h past p op Fail) (gives_access op (state_named h past p op)) refl refl refl refl
  where
    by : (a b c d : Bool) → may_retire h past p op Ok ≡ a → may_retire h past p op Skip ≡ b → may_retire h past p op Fail ≡ c → gives_access op (state_named h past p op) ≡ d
        → HowItEnds h past p op
    by true b c d ok skip fail access = retires Ok (rw ok refl)
    by false true c d ok skip fail access = retires Skip (rw (ok, skip) refl)
    by false false true d ok skip fail access = retires Fail (rw (ok, skip, fail) refl)
    by false false false true ok skip fail access = accesses fail access (rw (ok, skip, fail, access) refl)
    by false false false false ok skip fail access = stays (rw (ok, skip, fail, access) refl)

-- an operation that loads or stores
abbrev pub has_access : Op → Bool
has_access (Ld a w) = true
has_access (Ldx a w) = true
has_access (St a w word) = true
has_access (Stx a w word) = true
has_access (Fill a line) = true
has_access op = false

pub no-access-of : (past : Trace) (p : ℕ) (op : Op) → has_access op ≡ false → access_of past p op ≡ None
no-access-of past p (Ld a w) none = cc
no-access-of past p (Ldx a w) none = cc
no-access-of past p (St a w word) none = cc
no-access-of past p (Stx a w word) none = cc
no-access-of past p (Fill a line) none = cc
no-access-of past p op none = refl

pub an-access-of : (past : Trace) (p : ℕ) (op : Op) → has_access op ≡ true → (e : Event) × (access_of past p op ≡ Some e)
an-access-of past p (Ld a w) some = (_, refl)
an-access-of past p (Ldx a w) some = (_, refl)
an-access-of past p (St a w word) some = (_, refl)
an-access-of past p (Stx a w word) some = (_, refl)
an-access-of past p (Fill a line) some = (_, refl)
an-access-of past p op some = cc

access-short : (past : Trace) (p : ℕ) (o : Option Event) → nat_le (length (access_and_retirement past p o)) 2 ≡ true
access-short past p None = refl
access-short past p (Some e) = refl

pub closing-short : (h : Header) (past : Trace) (p : ℕ) (op : Op) → nat_le (length (closing_of h past p op)) 2 ≡ true
closing-short h past p op = by (how-it-ends h past p op)
  where
    by : HowItEnds h past p op → nat_le (length (closing_of h past p op)) 2 ≡ true
    by (retires res is) = ap (λ (xs : List Event). nat_le (length xs) 2) is
    by (accesses fail access is) = ap (λ (xs : List Event). nat_le (length xs) 2) is ∙ access-short past p (access_of past p op)
    by (stays is) = ap (λ (xs : List Event). nat_le (length xs) 2) is

module _ (plan : Plan) (past : Trace) (p : ℕ) where
  abbrev h : Header
  h = plan.header

  valid : (st : LineState) → not (is_invalid st) ≡ true → is_invalid st ≡ false
  valid I t = cc
  valid st t = refl

  access-kept : (op : Op) → IsPlanned plan p op → IsLineFree h past p op → acts_made past p ≡ 0 → may_retire h past p op Fail ≡ false
      → gives_access op (state_named h past p op) ≡ true → are_kept h past (access_and_retirement past p (access_of past p op)) ≡ true
  access-kept (Ld a w) o free made fail gives =
      and_from _ _ (load-kept h past p a w false o.low (planned-ace plan p (Ld a w) o refl) o.aligned (valid (state_of h past p a) gives)) (and_from _ _ (op-kept h _ p (retired past p) Ok o.low refl) refl)
  access-kept (Ldx a w) o free made fail gives =
      and_from _ _ (load-kept h past p a w true o.low (planned-ace plan p (Ldx a w) o refl) o.aligned (valid (state_of h past p a) gives)) (and_from _ _ (op-kept h _ p (retired past p) Ok o.low refl) refl)
  access-kept (St a w word) o free made fail gives =
      and_from _ _ (store-kept h past p a (word_strobe w) false (word_line w word) (free a refl) o.low (planned-ace plan p (St a w word) o refl) o.aligned gives (λ x. cc))
      (and_from _ _ (op-kept h _ p (retired past p) Ok o.low refl) refl)
  access-kept (Stx a w word) o free made fail gives =
      let not_failed : may_fail h past p (Stx a w word) ≡ false = ap (λ b. b && may_fail h past p (Stx a w word)) (sym (eq-eqb (acts_made past p) 0 made)) ∙ fail in
      and_from _ _ (store-kept h past p a (word_strobe w) true (word_line w word) (free a refl) o.low (planned-ace plan p (Stx a w word) o refl) o.aligned gives
      (λ x. set (is_monitored h past p a) (has_failed_store past p a) not_failed))
      (and_from _ _ (op-kept h _ p (retired past p) Ok o.low refl) refl)
    where
      set : (m f : Bool) → (not m || f) ≡ false → m ≡ true
      set true f n = refl
      set false f n = cc
  access-kept (Fill a line) o free made fail gives =
      and_from _ _ (store-kept h past p a full_line false line (free a refl) o.low (planned-ace plan p (Fill a line) o refl) o.aligned gives (λ x. cc))
      (and_from _ _ (op-kept h _ p (retired past p) Ok o.low refl) refl)
  access-kept op o free made fail gives = refl

  -- What ends an operation that has made no act breaks no rule, where no transaction of the port on its line is outstanding.
  pub closing-kept : (op : Op) → IsPlanned plan p op → IsLineFree h past p op → acts_made past p ≡ 0 → are_kept h past (closing_of h past p op) ≡ true
  closing-kept op o free made = by (how-it-ends h past p op)
    where
      by : HowItEnds h past p op → are_kept h past (closing_of h past p op) ≡ true
      by (retires res is) = ap (are_kept h past) is ∙ retirement-kept h past p res o.low
      by (accesses fail gives is) = ap (are_kept h past) is ∙ access-kept op o free made fail gives
      by (stays is) = ap (are_kept h past) is

-- Where the line doesn't give the access, an operation ends by its OP alone, which breaks no rule.
pub retiring-kept : (h : Header) (past : Trace) (p : ℕ) (op : Op) → nat_lt p h.ports ≡ true → (has_access op ≡ true → gives_access op (state_named h past p op) ≡ false)
    → are_kept h past (closing_of h past p op) ≡ true
retiring-kept h past p op low none = by (how-it-ends h past p op)
  where
    by : HowItEnds h past p op → are_kept h past (closing_of h past p op) ≡ true
    by (retires res is) = ap (are_kept h past) is ∙ retirement-kept h past p res low
    by (stays is) = ap (are_kept h past) is
    by (accesses fail gives is) =
        elim (cases_Bool (has_access op)) [
          | inl some ↦ let bad : false ≡ true = sym (none some) ∙ gives in cc
          | inr f ↦ ap (are_kept h past) is ∙ ap (λ o. are_kept h past (access_and_retirement past p o)) (no-access-of past p op f)
        ]
