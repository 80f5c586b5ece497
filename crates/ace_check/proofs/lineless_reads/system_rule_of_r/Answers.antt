use Rattle.std.proofs.Common.{◌≡◌, ◌∙◌, true, Some, refl, ap}
use Rattle.ace_codes.specs.declared.kind.ArKind.TheVariants as read
use Rattle.ace_check.proofs.Terms.{is_barrier_half, is_message_part, read_kind}
use Rattle.ace_sysck.proofs.ByKind.Responses.{other-read}
use Rattle.ace_check.proofs.lineless_reads.system_rule_of_r.Goals as goal

pub returns-in-Barrier : goal.returns-in-Barrier
returns-in-Barrier c = λ r port id last word p s out kind.
    let x = c.args.x.now in
    let own : read_kind x ≡ Some read.Barrier = kind ∙ ap Some c.in-Barrier.is in
    let half : is_barrier_half x ≡ true = rw own refl in
    c.rule_of_half_r.ensures r port id last word s out half (c.first_unordered-unordered.ensures r p) (c.first_incomplete-incomplete.ensures r p)

pub returns-in-DvmMessage : goal.returns-in-DvmMessage
returns-in-DvmMessage c = λ r port id last word p s out kind.
    let x = c.args.x.now in
    let own : read_kind x ≡ Some read.DvmMessage = kind ∙ ap Some c.in-DvmMessage.is in
    let part : is_message_part x ≡ true = rw own refl in
    c.rule_of_message_r.ensures r port id last word s out part

pub returns-in_default : goal.returns-in_default
returns-in_default c = λ r port id last word p s out kind.
    let other = other-read c.args.x.now c.args.kind kind c.in_default.not-Barrier c.in_default.not-DvmMessage in
    c.rule_of_r.ensures r port id last word s out other.0 other.1
