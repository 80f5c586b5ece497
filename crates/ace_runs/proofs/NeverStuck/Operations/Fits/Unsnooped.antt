-- No port holds the line of an operation without snoops, so its access fits.
use Rattle.std.proofs.Common.{◌≡◌, ℕ, true, false, refl, ap, ◌∙◌, inl, inr}
use Rattle.std.proofs.lemmas.Bool.{cases_Bool, or_right}
use Rattle.ace_codes.specs.declared.kind.ArKind.TheVariants as read
use Rattle.ace_codes.specs.declared.kind.AwKind.TheVariants as write
use Rattle.ace_codes.specs.declared.state.LineState.TheVariants.{I}
use Rattle.ace_event.specs.declared.header.Header.{Header}
use Rattle.ace_event.specs.declared.line.Line.{Line}
use Rattle.ace_tables.specs.Answers.{same_test}
use Rattle.ace_tables.specs.StartStates.{starts_read, starts_write}
use Rattle.ace_tables.specs.States.{is_invalid}
use Rattle.ace_model.specs.declared.plans.Op.TheVariants.{Rn, Wn}
use Rattle.ace_model.specs.Accepted.{IsAccepted}
use Rattle.ace_model.specs.AddressRules.{is_no_snoop}
use Rattle.ace_model.specs.Kinds.{is_lite_read, is_lite_write}
use Rattle.ace_model.specs.Plans.{Plan}
use Rattle.ace_model.specs.States.{state_of}
use Rattle.ace_model.specs.Trace.{Trace, implies}
use Rattle.ace_model.specs.Transactions.{is_ace, is_on}
use Rattle.ace_model.proofs.General.Booleans.{implies-at, same_test-at}
use Rattle.ace_model.proofs.Holders.ShareableLines.{held_is_shareable}
use Rattle.ace_model.proofs.Tables.States.{is_invalid-is}
use Rattle.ace_model.proofs.Trace.Growth.{each_issued-at}
use Rattle.ace_runs.proofs.NeverStuck.Operations.Kept.AsksKept.{IsOfClass, ReadFits, WriteFits}
use Rattle.ace_runs.proofs.NeverStuck.Operations.Fits.Asking.{IsAsking, own-read, own-write}

-- no port holds a line whose transactions are NoSnoop
unheld : (h : Header) (past : Trace) (p a : ℕ) → IsAccepted h past → IsOfClass past a true → state_of h past p a ≡ I
unheld h past p a accepted class =
    elim (cases_Bool (is_invalid (state_of h past p a))) [
      | inl none ↦ is_invalid-is (state_of h past p a) none
      | inr held ↦
          let s = held_is_shareable h past accepted p a held in
          let each = each_issued-at past (λ y. implies (is_on y a) (same_test true (is_no_snoop y))) s.one.place s.one class s.stands.there in
          let bad : true ≡ false = same_test-at true (is_no_snoop s.one) (implies-at (is_on s.one a) _ each s.on) ∙ s.snoops in cc
    ]

module _ (plan : Plan) (past : Trace) (p a : ℕ) where
  abbrev h : Header
  h = plan.header

  pub read-no-snoop-fits : IsAsking plan past p (Rn a) → ReadFits h past p read.ReadNoSnoop a false
  read-no-snoop-fits q =
      own-read plan past p (Rn a) q read.ReadNoSnoop a false refl refl refl (or_right (is_ace h p) (is_lite_read read.ReadNoSnoop) refl) refl
      (ap (starts_read read.ReadNoSnoop) (unheld h past p a q.accepted (q.alike a refl)))

  pub write-no-snoop-fits : (strobe : ℕ) (line : Line) → IsAsking plan past p (Wn a strobe line) → WriteFits h past p write.WriteNoSnoop a
  write-no-snoop-fits strobe line q =
      own-write plan past p (Wn a strobe line) q write.WriteNoSnoop a refl refl refl (or_right (is_ace h p) (is_lite_write write.WriteNoSnoop) refl)
      (ap (starts_write write.WriteNoSnoop) (unheld h past p a q.accepted (q.alike a refl)))
