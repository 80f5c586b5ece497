-- A burst that is a step of an ACE-Lite port, and what its master keeps then; and that there is none where its next operation can't ask.
use Rattle.std.proofs.Common.{◌≡◌, ℕ, ◌*◌, ◌/◌, true, false, ◌&&◌, ◌==◌, List, [], length, Option, Some, None, sym, ap, subst, ◌∙◌, inl, inr, arith}
use Rattle.std.proofs.lemmas.Option.{slice_get_cases}
use Rattle.ace_event.specs.declared.event.Event.{Event}
use Rattle.ace_event.specs.declared.event.Outcome.TheVariants.{Ok}
use Rattle.ace_model.specs.declared.plans.Op.{Op}
use Rattle.ace_model.specs.declared.transactions.Transaction.{Transaction}
use Rattle.ace_model.specs.Plans.{Plan}
use Rattle.ace_model.specs.Trace.{Trace, is_some_and}
use Rattle.ace_model.specs.Transactions.{is_ace}
use Rattle.ace_model.specs.Writes.{beats, data_writes, next_write}
use Rattle.ace_runs.specs.Acts.{acts_of}
use Rattle.ace_runs.specs.Bursts.{onto}
use Rattle.ace_runs.specs.MasterSteps.{moves}
use Rattle.ace_runs.specs.Operations.{next_operation}
use Rattle.ace_runs.specs.Retiring.{is_met, may_retire}
use Rattle.ace_runs.specs.Steps.{is_enabled_by, is_step_by}
use Rattle.ace_engine.specs.Engines.{IsLegal}
use Rattle.ace_portck.specs.declared.target.WriteData.{WriteData}
use Rattle.ace_master_state.specs.Identifiers.{IdentifiersStand}
use Rattle.ace_master.specs.declared.lite.LiteMaster.{LiteMaster}
use Rattle.ace_master.specs.KeptPort.{KeepsPort}
use Rattle.ace_master.specs.Lite.{IsAsking, IsTurn, LiteStands, LiteTells, own_steps, port_of}
use Rattle.ace_master.proofs.LiteMoves.{no-moves, none-enabled}

-- The burst is a step of the port, an engine may stand for the trace with it, and this is what the master keeps then.
pub record IsNext (plan : Plan) (past : Trace) (p : ℕ) (burst : List Event) (operations : List Op) (reads writes : Option Transaction) (unsent : Option WriteData) : Type 0 where
  pub step : is_step_by own_steps plan past p burst ≡ true
  pub legal : IsLegal plan (onto burst past)
  pub tells : LiteTells plan (onto burst past) p operations reads writes unsent

-- the same of what is equal
pub next-as : (plan : Plan) (past : Trace) (p : ℕ) (burst : List Event) (operations : List Op) (r w r' w' : Option Transaction) (u u' : Option WriteData) → r' ≡ r → w' ≡ w → u' ≡ u
    → IsNext plan past p burst operations r w u → IsNext plan past p burst operations r' w' u'
next-as plan past p burst operations r w r' w' u u' a b c n =
    subst (IsNext plan past p burst operations r' w') (sym c) (subst (λ v. IsNext plan past p burst operations r' v u) (sym b) (subst (λ v. IsNext plan past p burst operations v w u) (sym a) n))

-- what a master keeps that has issued nothing, and whose bursts are sent
pub asking-tells : (s : LiteMaster) (plan : Plan) (past : Trace) (op : Op) → IsAsking s plan past op → LiteTells plan past (port_of s) s.operations.items None None None
asking-tells s plan past op a =
    let tells : Option Transaction → Option Transaction → Option WriteData → Type 0 = LiteTells plan past (port_of s) s.operations.items in
    subst (tells None None) a.sent (subst (λ v. tells None v s.unsent) a.none_written (subst (λ v. tells v s.write s.unsent) a.none_read a.stands.tells))

-- A master that has put the burst, and keeps this of the trace with it, has taken a turn.
pub put-turn : (s t : LiteMaster) (plan : Plan) (past : Trace) (events burst out : List Event) → LiteStands s plan past → events ≡ burst → out ≡ events → port_of t ≡ port_of s
    → (KeepsPort s.port plan past → IsLegal plan (onto events past) → KeepsPort t.port plan (onto events past))
    → (IsLegal plan (onto events past) → is_ace plan.header (port_of s) ≡ false → IdentifiersStand plan.header past (port_of s) s.identifiers
    → IdentifiersStand plan.header (onto events past) (port_of s) t.identifiers)
    → IsNext plan past (port_of s) burst t.operations.items t.read t.write t.unsent → IsTurn t plan past out
put-turn s t plan past events burst out stands same put port kept named n =
    let k : KeepsPort t.port plan (onto burst past) =
    subst (λ (es : List Event). IsLegal plan (onto es past) → KeepsPort t.port plan (onto es past)) same (kept stands.port) n.legal in
    let i : IdentifiersStand plan.header (onto burst past) (port_of s) t.identifiers =
    subst (λ (es : List Event). IsLegal plan (onto es past) → IdentifiersStand plan.header (onto es past) (port_of s) t.identifiers) same
    (λ legal. named legal stands.tells.lite stands.identifiers) n.legal in
    subst (IsTurn t plan past) (sym (put ∙ same)) (record {
      step = subst (λ q. is_step_by own_steps plan past q burst ≡ true) (sym port) n.step;
      stands = record {
        port = k;
        identifiers = subst (λ q. IdentifiersStand plan.header (onto burst past) q t.identifiers) (sym port) i;
        tells = subst (λ q. LiteTells plan (onto burst past) q t.operations.items t.read t.write t.unsent) (sym port) n.tells;
      };
    })

-- where all bursts are sent, no W is due
pub sent-none : (past : Trace) (p : ℕ) → length (beats past p) ≡ 4 * length (data_writes past p) → next_write past p ≡ None
sent-none past p sent =
    elim (slice_get_cases (data_writes past p) (length (beats past p) / 4)).1 [
      | inl there ↦ let low = there.1 in absurd (omega (arith, low, sent))
      | inr out ↦ out.1
    ]

module _ (plan : Plan) (past : Trace) (p : ℕ) (legal : IsLegal plan past) (operations : List Op) where
  -- nothing is issued for the operation, which can't ask
  pub unasked : (op : Op) → LiteTells plan past p operations None None None → next_operation plan past p ≡ Some op → (0 == length (acts_of op)) ≡ false
      → moves plan.ways (Some op) plan.header past p ≡ [] → is_enabled_by own_steps plan past p ≡ false
  unasked op t next some still =
      let unmade : may_retire plan.header past p op Ok ≡ false =
      ap (λ n. (n == length (acts_of op)) && is_met plan.header past p op) t.issued.made ∙ ap (λ b. b && is_met plan.header past p op) some in
      none-enabled plan past p legal t.lite (sent-none past p t.sent)
      (ap (λ o. is_some_and o (λ op. may_retire plan.header past p op Ok)) next ∙ unmade)
      (ap (λ o. moves plan.ways o plan.header past p) next ∙ still)

  -- there is no next operation
  pub none-left : (reads writes : Option Transaction) → LiteTells plan past p operations reads writes None → next_operation plan past p ≡ None → is_enabled_by own_steps plan past p ≡ false
  none-left reads writes t next =
      none-enabled plan past p legal t.lite (sent-none past p t.sent) (ap (λ o. is_some_and o (λ op. may_retire plan.header past p op Ok)) next)
      (ap (λ o. moves plan.ways o plan.header past p) next ∙ no-moves plan past p legal t.lite plan.ways)
