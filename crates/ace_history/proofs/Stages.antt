-- What the call has done at a point of its run: nothing yet, its load or store, or all. Each event leads from one of these to one of them.
use Rattle.std.proofs.Common.{◌≡◌, ◌≢◌, ◌⊎◌, ℕ, ◌+◌, ◌≤◌, Bool, true, false, ◌&&◌, ◌==◌, [], ◌∷◌, ◌++◌, length, refl, sym, ◌∙◌, arith}
use Rattle.std.proofs.lemmas.Bool.{and_parts, eqb-true}
use Rattle.ace_event.specs.declared.event.Outcome.{Outcome}
use Rattle.ace_event.specs.declared.event.Outcome.TheVariants.{Ok, Skip, Fail}
use Rattle.ace_event.specs.declared.header.Header.{Header}
use Rattle.ace_event.specs.declared.line.Line.{Line}
use Rattle.ace_model.specs.declared.plans.Op.{Op}
use Rattle.ace_model.specs.declared.plans.Op.TheVariants.{Ld, Ldx, St, Stx, Wb}
use Rattle.ace_model.specs.declared.plans.PlanOp.{PlanOp}
use Rattle.ace_model.specs.Copies.{word_of}
use Rattle.ace_model.specs.OrderRules.{retired}
use Rattle.ace_model.specs.Plans.{Plan, longer}
use Rattle.ace_model.specs.Trace.{Trace}
use Rattle.ace_model.specs.Values.{value_of}
use Rattle.ace_runs.specs.Acts.{acts_of}
use Rattle.ace_runs.specs.Operations.{operations_of}
use Rattle.ace_runs.specs.Retiring.{may_retire, is_met, may_skip, may_fail}
use Rattle.ace_runs.specs.Segments.{acts_made}
use Rattle.ace_history.specs.Histories.{history_of, word_loaded}
use Rattle.ace_history.specs.Newest.{last_entry, last_outcome, word_retired}
use Rattle.ace_history.specs.Stored.{line_by}
use Rattle.ace_history.specs.Reserved.{MayEnd, reserved_by}
use Rattle.ace_history.specs.Settled.{is_call}
use Rattle.ace_history.specs.Watched.{is_watched}

-- the word that the operation would load at this point, 0 where it is no load
abbrev pub word_now : Trace → Op → ℕ
word_now past (Ld a w) = word_of (value_of past a) w
word_now past (Ldx a w) = word_of (value_of past a) w
word_now past _ = 0

-- nothing yet
pub record IsUntouched (p : ℕ) (start past : Trace) : Type 0 where
  pub none : acts_made past p ≡ 0
  pub silent : word_loaded past p ≡ 0
  pub values : (a : ℕ) → value_of past a ≡ value_of start a
  pub watched : (q a : ℕ) → is_watched past q a ≡ is_watched start q a

-- its load or store
pub record IsTouched (o : PlanOp) (start past : Trace) : Type 0 where
  pub one : acts_made past o.port ≡ 1
  pub word : word_loaded past o.port ≡ word_now start o.op
  pub values : (a : ℕ) → value_of past a ≡ line_by a o.op Ok (value_of start a)
  pub watched : (q a : ℕ) → is_watched past q a ≡ reserved_by q a o.port o.op Ok (is_watched start q a)
  pub may : MayEnd (is_watched start) o.port o.op Ok

-- The call has begun, and has no OP yet.
pub record IsOpen (plan : Plan) (o : PlanOp) (start past : Trace) : Type 0 where
  pub behind : retired past o.port ≡ length (operations_of plan o.port)
  pub history : history_of (longer plan o) past ≡ history_of plan start
  pub acts : IsUntouched o.port start past ⊎ IsTouched o start past

-- It has had its OP.
pub record IsClosed (plan : Plan) (o : PlanOp) (start past : Trace) : Type 0 where
  pub over : length (operations_of plan o.port) + 1 ≤ retired past o.port
  pub history : history_of (longer plan o) past ≡ history_of plan start ++ last_entry o past ∷ []
  pub word : word_retired past o.port ≡ word_now start o.op
  pub values : (a : ℕ) → value_of past a ≡ line_by a o.op (last_outcome past o.port) (value_of start a)
  pub watched : (q a : ℕ) → is_watched past q a ≡ reserved_by q a o.port o.op (last_outcome past o.port) (is_watched start q a)
  pub may : MayEnd (is_watched start) o.port o.op (last_outcome past o.port)

abbrev pub Stage : Plan → PlanOp → Trace → Trace → Type 0
Stage plan o start past = IsOpen plan o start past ⊎ IsClosed plan o start past

-- the operations of the other ports have retired
abbrev pub OthersRest : Plan → PlanOp → Trace → Type 0
OthersRest plan o past = (q : ℕ) → q ≢ o.port → length (operations_of plan q) ≤ retired past q

-- ---- how a call may retire ---------------------------------------------------------------------------

-- with this outcome the operation changes no line, loads nothing, and leaves what is reserved
pub record ChangesNothing (op : Op) (res : Outcome) (start : Trace) : Type 0 where
  pub lines : (a : ℕ) (line : Line) → line_by a op res line ≡ line
  pub word : word_now start op ≡ 0
  pub watched : (q a p : ℕ) (was : Bool) → reserved_by q a p op res was ≡ was
  pub may : (watch : ℕ → ℕ → Bool) (p : ℕ) → MayEnd watch p op res

no-act-skips : (b : Bool) → (b && false) ≡ true → false ≡ true
no-act-skips b e = (and_parts b false e).1

-- without its act, it does nothing
pub untouched-retires : (h : Header) (past start : Trace) (p : ℕ) (op : Op) (res : Outcome) → is_call op ≡ true → acts_made past p ≡ 0
    → may_retire h past p op res ≡ true → ChangesNothing op res start
untouched-retires h past start p (Wb a) Ok c none may = record { lines = λ b line. refl; word = refl; watched = λ q b p was. refl; may = λ watch p. tt }
untouched-retires h past start p (Wb a) Skip c none may = record { lines = λ b line. refl; word = refl; watched = λ q b p was. refl; may = λ watch p. tt }
untouched-retires h past start p (Wb a) Fail c none may = record { lines = λ b line. refl; word = refl; watched = λ q b p was. refl; may = λ watch p. tt }
untouched-retires h past start p (Stx a w word) Fail c none may = record {
  lines = λ b line. refl;
  word = refl;
  watched = λ q b p was. refl;
  may = λ watch p. tt;
}
untouched-retires h past start p (Stx a w word) Skip c none may = record {
  lines = λ b line. refl;
  word = refl;
  watched = λ q b p was. refl;
  may = λ watch p. tt;
}
untouched-retires h past start p (Ld a w) Skip c none may = let bad = no-act-skips (acts_made past p == 0) may in cc
untouched-retires h past start p (Ld a w) Fail c none may = let bad = no-act-skips (acts_made past p == 0) may in cc
untouched-retires h past start p (Ldx a w) Skip c none may = let bad = no-act-skips (acts_made past p == 0) may in cc
untouched-retires h past start p (Ldx a w) Fail c none may = let bad = no-act-skips (acts_made past p == 0) may in cc
untouched-retires h past start p (St a w word) Skip c none may = let bad = no-act-skips (acts_made past p == 0) may in cc
untouched-retires h past start p (St a w word) Fail c none may = let bad = no-act-skips (acts_made past p == 0) may in cc
untouched-retires h past start p op Ok c none may =
    let one = eqb-true (acts_made past p) (length (acts_of op)) (and_parts (acts_made past p == length (acts_of op)) (is_met h past p op) may).0 in
    acts-nothing op c (sym one ∙ none)
  where
    acts-nothing : (op : Op) → is_call op ≡ true → length (acts_of op) ≡ 0 → ChangesNothing op Ok start
    acts-nothing (Wb a) c e = record { lines = λ b line. refl; word = refl; watched = λ q b p was. refl; may = λ watch p. tt }
    acts-nothing (Ld a w) c e = absurd (omega (arith, e))
    acts-nothing (Ldx a w) c e = absurd (omega (arith, e))
    acts-nothing (St a w word) c e = absurd (omega (arith, e))
    acts-nothing (Stx a w word) c e = absurd (omega (arith, e))
    acts-nothing op c e = cc
untouched-retires h past start p op res c none may = cc

-- after its act, it retires with `ok`
pub touched-retires : (h : Header) (past : Trace) (p : ℕ) (op : Op) (res : Outcome) → acts_made past p ≡ 1 → may_retire h past p op res ≡ true → res ≡ Ok
touched-retires h past p op Ok one may = refl
touched-retires h past p op Skip one may =
    let zero = eqb-true (acts_made past p) 0 (and_parts (acts_made past p == 0) (may_skip h past p op) may).0 in absurd (omega (arith, one, zero))
touched-retires h past p op Fail one may =
    let zero = eqb-true (acts_made past p) 0 (and_parts (acts_made past p == 0) (may_fail h past p op) may).0 in absurd (omega (arith, one, zero))
