use Rattle.std.proofs.Common.{◌≡◌, true, Some, length, refl, sym, ap, subst, ◌∙◌}
use Rattle.ace_check.proofs.Terms.{Ar, Transaction, is_barrier_half, is_message_part, read_kind}
use Rattle.ace_codes.specs.declared.kind.ArKind.TheVariants as read
use Rattle.ace_model.proofs.General.Options.{Some-injective}
use Rattle.ace_model.proofs.Rules.Keeps.{accepted_keeps}
use Rattle.ace_portck.specs.DvmReads.{is_completion}
use Rattle.ace_portck.proofs.ReadAddresses.{read_of}
use Rattle.ace_check.proofs.Addresses.{half-issued, heard-lineless, left-half, lineless-unlocked}
use Rattle.ace_check.proofs.ReadLaws.{line-by-kind}
use Rattle.ace_check.proofs.WhatComes.{heard-broken}
use Rattle.ace_check.proofs.shares.Shares.hear_lineless_ar.Goals as goal

pub returns-in-Err : goal.returns-in-Err
returns-in-Err c = λ none. heard-broken c.args.self.now _ c.in-Err.rule (λ h past s. c.in-Err.ensures.least h past s none)

pub returns-in-DvmMessage : goal.returns-in-DvmMessage
returns-in-DvmMessage c = λ none.
    let a = c.args in
    let e = Ar a.port a.id a.addr a.snoop a.dom a.bar a.lock in
    let y = c.in-Ok.found.0 in
    heard-lineless a.self.now c.hear.new.self c.begin_message.new.self e (λ h past s. c.in-Ok.ensures.least h past s none) c.hear.ensures.stands c.hear.ensures.room (λ q addr snoop is. cc)
    (λ r s fine few.
    let x = c.in-Ok.ensures.found r.header r.past s none in
    let own : read_kind y ≡ Some read.DvmMessage = x.kind ∙ ap Some c.in-DvmMessage.is in
    let part : is_message_part y ≡ true = rw own refl in
    (y, x.issues, line-by-kind y _ x.kind ∙ x.lineless, c.begin_message.ensures.stands r e s.system x.issues part fine few))
    (c.begin_message.ensures.roomy 4096)

pub returns-in-DvmComplete : goal.returns-in-DvmComplete
returns-in-DvmComplete c = λ none.
    let a = c.args in
    let e = Ar a.port a.id a.addr a.snoop a.dom a.bar a.lock in
    let y = c.in-Ok.found.0 in
    heard-lineless a.self.now c.hear.new.self c.begin_completion.new.self e (λ h past s. c.in-Ok.ensures.least h past s none) c.hear.ensures.stands c.hear.ensures.room (λ q addr snoop is. cc)
    (λ r s fine few.
    let x = c.in-Ok.ensures.found r.header r.past s none in
    let off = line-by-kind y _ x.kind ∙ x.lineless in
    let unlocked = lineless-unlocked r.header r.past e y x.issues off (accepted_keeps r.header r.past e (s.ports.accepted, fine)).rule_7 in
    let codes = x.codes ∙ ap Some c.in-DvmComplete.is in
    let here : is_completion y.snoop y.dom y.bar y.lock ≡ true = rw (codes, unlocked) refl in
    let same = Some-injective (read_of (length r.past) a.port a.id a.addr a.snoop a.dom a.bar a.lock) y x.issues in
    let completion = subst (λ (v : Transaction). is_completion v.snoop v.dom v.bar v.lock ≡ true) (sym same) here in
    (y, x.issues, off, c.begin_completion.ensures.stands r a.addr a.snoop a.dom a.bar a.lock s.system completion fine few))
    (c.begin_completion.ensures.roomy 4096)

pub returns-in_default : goal.returns-in_default
returns-in_default c = λ none.
    let a = c.args in
    let e = Ar a.port a.id a.addr a.snoop a.dom a.bar a.lock in
    let y = c.in-Ok.found.0 in
    heard-lineless a.self.now c.hear.new.self c.begin_barrier.new.self e (λ h past s. c.in-Ok.ensures.least h past s none) c.hear.ensures.stands c.hear.ensures.room (λ q addr snoop is. cc)
    (λ r s fine few.
    let x = c.in-Ok.ensures.found r.header r.past s none in
    let own : read_kind y ≡ Some read.Barrier = x.kind ∙ ap Some (left-half c.in-Ok.found.1 x.lineless c.in_default.not-DvmMessage c.in_default.not-DvmComplete) in
    let half : is_barrier_half y ≡ true = rw own refl in
    (y, x.issues, line-by-kind y _ x.kind ∙ x.lineless, c.begin_barrier.ensures.stands r e s.system (half-issued r.header r.past e y x.issues half s.ports.accepted fine) fine few))
    (c.begin_barrier.ensures.roomy 4096)
