use Rattle.std.proofs.Common.{slice_get, sym, ap, subst, ◌∙◌, arith, inl, inr}
use Rattle.std.proofs.lemmas.Bool.{cases_eq}
use Rattle.ace_model.proofs.General.Options.{Some-injective}
use Rattle.ace_cert.specs.Checks.{IsOrderOf}
use Rattle.ace_cert.proofs.Elements.{all-from_places}
use Rattle.std.proofs.lemmas.Option.{slice_get_within}
use Rattle.ace_cert.proofs.WalkHear.{granted}
use Rattle.ace_cert.proofs.verification.ends.are_orders.Goals as goal

pub loop-i-preserved : goal.loop-i-preserved
loop-i-preserved c = λ past kept here k o low there.
    elim (cases_eq k c.loop-i.i) [
      | inl same ↦
          let one = Some-injective c.get.result.now o (sym c.get.ensures ∙ ap (slice_get c.args.orders.now) (sym same) ∙ there) in
          subst (IsOrderOf past) one ((c.is_order.ensures past kept here).0 c.if-not-is_order.false)
      | inr apart ↦ c.loop-i.invariant past kept here k o (omega (arith, low, apart)) there
    ]

pub returns : goal.returns
returns c = λ past kept here.
    granted (all-from_places (IsOrderOf past) c.args.orders.now
    (λ k o there. let low = slice_get_within c.args.orders.now k o there in c.loop-i.invariant past kept here k o (omega arith) there))
