-- A memory update moves on, or waits for the passed data of the granted transaction of its line.
use Rattle.std.proofs.Common.{◌≡◌, ◌⊎◌, ℕ, true, not, [], ◌∷◌, Option, Some, None, refl, ap, subst, ◌∙◌, inl, inr}
use Rattle.std.proofs.lemmas.Bool.{and_from, or_right, cases_Bool, eq-eqb}
use Rattle.ace_codes.specs.declared.kind.AwKind.{AwKind}
use Rattle.ace_codes.specs.declared.kind.AwKind.TheVariants as write
use Rattle.ace_event.specs.declared.header.Header.{Header}
use Rattle.ace_model.specs.declared.transactions.Transaction.{Transaction}
use Rattle.ace_model.specs.Accepted.{IsAccepted}
use Rattle.ace_model.specs.Grants.{granted, has_passed_data, is_granted}
use Rattle.ace_model.specs.Kinds.{is_line_read, is_line_write, is_update}
use Rattle.ace_model.specs.Plans.{Plan}
use Rattle.ace_model.specs.Progress.{updates_memory}
use Rattle.ace_model.specs.Trace.{Trace, is_none_or, is_some_and}
use Rattle.ace_model.specs.Transactions.{is_line, is_on, is_outstanding, outstanding, read_kind, write_kind}
use Rattle.ace_model.proofs.General.Options.{is_some_and-is}
use Rattle.ace_model.proofs.Grants.Granted.{granted_is}
use Rattle.ace_model.proofs.Holders.Law.{accepted_holds}
use Rattle.ace_model.proofs.Trace.Growth.{IsIssued, named-issued}
use Rattle.ace_model.proofs.Trace.Issued.{outstanding-named}
use Rattle.ace_model.proofs.Trace.LineOnce.{outstanding_is}
use Rattle.ace_model.proofs.Trace.Looks.{is_on-addr, is_write-is}
use Rattle.ace_runs.specs.Steps.{AreSteps, is_enabled_by}
use Rattle.ace_runs.proofs.Turns.{steps-accepted}
use Rattle.ace_runs.proofs.NeverStuck.Steps.StepShapes.{updates_write}
use Rattle.ace_runs.proofs.NeverStuck.Updates.UpdatesMove.{IsUpdate, update-moves}
use Rattle.ace_model.proofs.Trace.IssuedTransactions.{updater-ace}

-- An outstanding transaction that is granted its line.
pub record HasLine (h : Header) (past : Trace) (l : ℕ) (y : Transaction) : Type 0 where
  pub issued : IsIssued past y
  pub on : is_on y l ≡ true
  pub out : outstanding h past y.port y.chan y.id ≡ Some y
  pub is_out : is_outstanding h past y ≡ true
  pub holds : granted h past l ≡ Some y
  pub is : is_granted h past y ≡ true

pub granted-there : (h : Header) (past : Trace) (l : ℕ) (y : Transaction) → IsAccepted h past → granted h past l ≡ Some y → HasLine h past l y
granted-there h past l y a g =
    let s = (accepted_holds h past a).grants l y g in
    record {
      issued = named-issued past y.port y.chan y.id y (outstanding-named h past y.port y.chan y.id y s.0);
      on = s.1;
      out = s.0;
      is_out = rw s.0 (eq-eqb y.place y.place refl);
      holds = g;
      is = granted_is h past l y g (is_on-addr y l s.1);
    }

update-line : (k : AwKind) → is_update k ≡ true → is_line_write k ≡ true
update-line write.WriteBack u = refl
update-line write.WriteClean u = refl
update-line write.WriteEvict u = refl
update-line k u = cc

pub updates-line : (x : Transaction) → updates_memory x ≡ true → is_line x ≡ true
updates-line x u =
    let k = is_some_and-is (write_kind x) is_update u in
    or_right (is_some_and (read_kind x) is_line_read) (is_some_and (write_kind x) is_line_write)
    (ap (λ o. is_some_and o is_line_write) k.1 ∙ update-line k.0 k.2)

as-update : (h : Header) (past : Trace) (x : Transaction) → IsIssued past x → updates_memory x ≡ true → is_outstanding h past x ≡ true → IsUpdate h past x.port x.addr x
as-update h past x i u is_out =
    let chan = is_write-is x.chan (updates_write x u) in
    record {
      issued = i;
      port = refl;
      chan = chan;
      updates = u;
      on = and_from _ _ (updates-line x u) (eq-eqb x.addr x.addr refl);
      is_out = is_out;
      out = subst (λ c. outstanding h past x.port c x.id ≡ Some x) chan (outstanding_is h past x i is_out);
    }

-- The port of an outstanding memory update is enabled by step 2, 3 or 4, or the granted transaction of its line has passed data.
pub update-or-granted : (plan : Plan) (past : Trace) (x : Transaction) → AreSteps plan past → IsIssued past x → updates_memory x ≡ true
    → is_outstanding plan.header past x ≡ true
    → (is_enabled_by (2 ∷ 3 ∷ 4 ∷ 7 ∷ []) plan past x.port ≡ true)
    ⊎ ((y : Transaction) × HasLine plan.header past x.addr y × (has_passed_data plan.header past y ≡ true))
update-or-granted plan past x s i u is_out = by (granted plan.header past x.addr) refl
  where
    a : IsAccepted plan.header past
    a = steps-accepted plan past s

    moves : is_none_or (granted plan.header past x.addr) (λ y. not (has_passed_data plan.header past y)) ≡ true
        → is_enabled_by (2 ∷ 3 ∷ 4 ∷ 7 ∷ []) plan past x.port ≡ true
    moves clear = update-moves plan past x.port x.addr x s (as-update plan.header past x i u is_out) (updater-ace plan.header past x a i u) clear

    by : (o : Option Transaction) → granted plan.header past x.addr ≡ o
        → (is_enabled_by (2 ∷ 3 ∷ 4 ∷ 7 ∷ []) plan past x.port ≡ true)
        ⊎ ((y : Transaction) × HasLine plan.header past x.addr y × (has_passed_data plan.header past y ≡ true))
    by None g = inl (moves (ap (λ o. is_none_or o (λ y. not (has_passed_data plan.header past y))) g))
    by (Some y) g =
        elim (cases_Bool (has_passed_data plan.header past y)) [
          | inl has ↦ inr (y, granted-there plan.header past x.addr y a g, has)
          | inr none ↦ inl (moves (ap (λ o. is_none_or o (λ y. not (has_passed_data plan.header past y))) g ∙ ap not none))
        ]
