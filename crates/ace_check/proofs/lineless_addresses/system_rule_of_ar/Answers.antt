use Rattle.std.proofs.Common.{◌≡◌, true, Some, refl, ap, ◌∙◌}
use Rattle.ace_check.proofs.Terms.{ar_of, is_barrier_half, read_kind}
use Rattle.ace_codes.specs.declared.kind.ArKind.TheVariants as read
use Rattle.ace_check.proofs.Addresses.{left-half}
use Rattle.ace_check.proofs.lineless_addresses.system_rule_of_ar.Goals as goal

pub returns-in-DvmMessage : goal.returns-in-DvmMessage
returns-in-DvmMessage c = λ r s x first. let y = c.args.read.now in c.rule_of_message_ar.ensures r y.id y.snoop y.lock s (x.codes ∙ ap Some c.in-DvmMessage.is) first

pub returns-in-DvmComplete : goal.returns-in-DvmComplete
returns-in-DvmComplete c = λ r s x first. let y = c.args.read.now in c.rule_of_completion_ar.ensures r y.id y.snoop y.dom y.bar y.lock s (x.codes ∙ ap Some c.in-DvmComplete.is) first

pub returns-in_default : goal.returns-in_default
returns-in_default c = λ r s x first.
    let y = c.args.read.now in
    let own : read_kind y ≡ Some read.Barrier = x.kind ∙ ap Some (left-half c.args.kind x.lineless c.in_default.not-DvmMessage c.in_default.not-DvmComplete) in
    let half : is_barrier_half y ≡ true = rw own refl in
    c.rule_of_half.ensures r (ar_of y) s x.issues half
