use Rattle.std.proofs.Common.{◌≡◌, false, None, Some, sym, subst, ◌∙◌}
use Rattle.ace_model.specs.Values.{stores_data}
use Rattle.ace_model.proofs.General.Options.{Some-injective}
use Rattle.ace_master.specs.Sending.{IsForData}
use Rattle.ace_master.proofs.WriteData.BurstData.{operation-carries, update-carries, update-held}
use Rattle.std.proofs.lemmas.Bool.{false_from_ne_true}
use Rattle.ace_master.proofs.sending.data_to_send.Goals.{in_default-via-in-Some+else-stores_data, in_default-via-in_default}
use Rattle.ace_master.proofs.sending.data_to_send.Goals as goal

pub returns-in-Some : goal.returns-in-Some
returns-in-Some c = λ plan past p keeps s legal next.
    let x = c.args.write.now in
    let k = keeps x next (sym c.stores_data.ensures ∙ c.if-stores_data.true) in
    let one = Some-injective k.0 c.in-Some.data (sym k.1 ∙ c.in-Some.is) in
    operation-carries plan past x c.in-Some.data (subst (IsForData plan past x) one k.2)

pub returns-in_default : goal.returns-in_default
returns-in_default c = λ plan past p keeps s legal next.
    let x = c.args.write.now in
    let none : stores_data x ≡ false = elim c.in_default.branch [
      | in_default-via-in-Some+else-stores_data w ↦ sym w.stores_data.ensures ∙ w.if-stores_data.false
      | in_default-via-in_default w ↦ false_from_ne_true (stores_data x) (λ stores. let k = keeps x next stores in let bad : None ≡ Some k.0 = sym w.in_default.is ∙ k.1 in cc)
    ] in
    update-carries plan past p legal.accepted x next none c.copy.result (c.copy.ensures plan.header plan.ways past p s (update-held plan past p legal.accepted x next none))
