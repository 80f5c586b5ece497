-- Events that obey the plan and stay lean.
use Rattle.std.proofs.Common.{◌≡◌, ℕ, Bool, true, nat_le, List, [], ◌∷◌, length, Some, refl, ap, ◌∙◌, arith, ◌++◌}
use Rattle.std.proofs.lemmas.Bool.{and_from, le-leb}
use Rattle.ace_codes.specs.declared.state.LineState.{LineState}
use Rattle.ace_event.specs.declared.event.Event.{Event}
use Rattle.ace_event.specs.declared.event.Event.TheVariants.{Rk, Wk, W, Cr, Cd, L, D, Op as Retires}
use Rattle.ace_event.specs.declared.event.Outcome.{Outcome}
use Rattle.ace_event.specs.declared.line.Line.{Line}
use Rattle.ace_model.specs.declared.plans.Op.{Op}
use Rattle.ace_model.specs.Plans.{Plan}
use Rattle.ace_model.specs.Trace.{Trace, is_none_or, is_some_and, port_of}
use Rattle.ace_runs.specs.Bursts.{are_kept, onto}
use Rattle.ace_runs.specs.Follows.{FollowsSoFar, acts_well, answers_well, carries_data, has_room_after, obeys, retires_well}
use Rattle.ace_runs.specs.HeldLines.{held_lines}
use Rattle.ace_runs.specs.Lean.{IsLean, stays_lean}
use Rattle.ace_runs.specs.Operations.{next_operation}
use Rattle.ace_runs.specs.Retiring.{may_retire}
use Rattle.ace_runs.proofs.Accepting.{accepted-after}
use Rattle.ace_engine.specs.Engines.{IsLegal}
use Rattle.ace_master_laws.proofs.Lines.HeldLines.{RaisesNone, held-not-more, held-within}

-- The event obeys the plan and stays lean.
pub record IsWell (plan : Plan) (past : Trace) (e : Event) : Type 0 where
  pub obeying : obeys plan past e ≡ true
  pub lean : stays_lean plan past e ≡ true

-- Each of the burst does after those before it.
abbrev pub AllWell : Plan → Trace → List Event → Type 0
AllWell plan past [] = Unit {0}
AllWell plan past (e ∷ burst) = IsWell plan past e × AllWell plan (e ∷ past) burst

pub follows-after : (plan : Plan) (burst : List Event) (past : Trace) → FollowsSoFar plan past → AllWell plan past burst → FollowsSoFar plan (onto burst past)
follows-after plan [] past f all = f
follows-after plan (e ∷ burst) past f all = follows-after plan burst (e ∷ past) (f, all.0.obeying) all.1

pub lean-after : (plan : Plan) (burst : List Event) (past : Trace) → IsLean plan past → AllWell plan past burst → IsLean plan (onto burst past)
lean-after plan [] past l all = l
lean-after plan (e ∷ burst) past l all = lean-after plan burst (e ∷ past) (l, all.0.lean) all.1

-- A burst that breaks no rule, and each event of which obeys the plan and stays lean, keeps the trace legal.
pub legal-after : (plan : Plan) (burst : List Event) (past : Trace) → IsLegal plan past → are_kept plan.header past burst ≡ true → AllWell plan past burst → IsLegal plan (onto burst past)
legal-after plan burst past legal kept all = record {
  right = legal.right;
  accepted = accepted-after plan.header burst past legal.accepted kept;
  follows = follows-after plan burst past legal.follows all;
  lean = lean-after plan burst past legal.lean all;
}

pub all-append : (plan : Plan) (xs ys : List Event) (past : Trace) → AllWell plan past xs → AllWell plan (onto xs past) ys → AllWell plan past (xs ++ ys)
all-append plan [] ys past a b = b
all-append plan (e ∷ xs) ys past a b = (a.0, all-append plan xs ys (e ∷ past) a.1 b)

-- the five demands of following a plan
pub obeys-from : (plan : Plan) (past : Trace) (e : Event) → retires_well plan past e ≡ true → acts_well plan past e ≡ true → carries_data plan past e ≡ true
    → answers_well plan past e ≡ true → has_room_after plan past e ≡ true → obeys plan past e ≡ true
obeys-from plan past e retires acts carries answers room = and_from _ _ (and_from _ _ (and_from _ _ (and_from _ _ retires acts) carries) answers) room

-- an event of the port that brings no line in leaves room
pub gentle-room : (plan : Plan) (past : Trace) (p : ℕ) (e : Event) → FollowsSoFar plan past → port_of e ≡ Some p → RaisesNone plan.header past e p → has_room_after plan past e ≡ true
gentle-room plan past p e f port none =
    let few = held-not-more plan.header past e p none in
    let low = held-within plan past p f in
    let room : nat_le (length (held_lines plan.header (e ∷ past) p)) plan.ways ≡ true = le-leb (length (held_lines plan.header (e ∷ past) p)) plan.ways (omega (arith, few, low)) in
    ap (λ o. is_none_or o (λ p. nat_le (length (held_lines plan.header (e ∷ past) p)) plan.ways)) port ∙ room

-- ---- events by their kind ----------------------------------------------------------------------------

module _ (plan : Plan) (past : Trace) where
  pub rk-well : (p : ℕ) (st : LineState) → has_room_after plan past (Rk p st) ≡ true → IsWell plan past (Rk p st)
  rk-well p st room = record { obeying = obeys-from plan past (Rk p st) refl refl refl refl room; lean = refl }

  pub wk-well : (p : ℕ) (st : LineState) → has_room_after plan past (Wk p st) ≡ true → IsWell plan past (Wk p st)
  wk-well p st room = record { obeying = obeys-from plan past (Wk p st) refl refl refl refl room; lean = refl }

  pub cd-well : (p : ℕ) (last : Bool) (word : ℕ) → FollowsSoFar plan past → IsWell plan past (Cd p last word)
  cd-well p last word f =
      record { obeying = obeys-from plan past (Cd p last word) refl refl refl refl (gentle-room plan past p (Cd p last word) f refl (λ l inv. inv)); lean = refl }

  pub cr-well : (p resp : ℕ) (st : LineState) → answers_well plan past (Cr p resp st) ≡ true → has_room_after plan past (Cr p resp st) ≡ true → IsWell plan past (Cr p resp st)
  cr-well p resp st answers room = record { obeying = obeys-from plan past (Cr p resp st) refl refl refl answers room; lean = refl }

  pub w-well : (p strb : ℕ) (last : Bool) (word : ℕ) → FollowsSoFar plan past → carries_data plan past (W p strb last word) ≡ true → IsWell plan past (W p strb last word)
  w-well p strb last word f carries =
      record { obeying = obeys-from plan past (W p strb last word) refl refl carries refl (gentle-room plan past p (W p strb last word) f refl (λ l inv. inv)); lean = refl }

  pub op-well : (p k : ℕ) (res : Outcome) (op : Op) → FollowsSoFar plan past → next_operation plan past p ≡ Some op → may_retire plan.header past p op res ≡ true
      → IsWell plan past (Retires p k res)
  op-well p k res op f next may =
      let retires : retires_well plan past (Retires p k res) ≡ true = ap (λ o. is_some_and o (λ op. may_retire plan.header past p op res)) next ∙ may in
      record { obeying = obeys-from plan past (Retires p k res) retires refl refl refl (gentle-room plan past p (Retires p k res) f refl (λ l inv. inv)); lean = refl }

  pub load-well : (p a w : ℕ) (x : Bool) (word : ℕ) → FollowsSoFar plan past → acts_well plan past (L p a w x word) ≡ true → IsWell plan past (L p a w x word)
  load-well p a w x word f acts =
      record { obeying = obeys-from plan past (L p a w x word) refl acts refl refl (gentle-room plan past p (L p a w x word) f refl (λ l inv. inv)); lean = refl }

  pub store-well : (p a s : ℕ) (x : Bool) (line : Line) → acts_well plan past (D p a s x line) ≡ true → has_room_after plan past (D p a s x line) ≡ true → IsWell plan past (D p a s x line)
  store-well p a s x line acts room = record { obeying = obeys-from plan past (D p a s x line) refl acts refl refl room; lean = refl }
