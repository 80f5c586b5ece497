use Rattle.std.proofs.Common.{true, false, ap}
use Rattle.ace_sysck.proofs.Terms.{is_complete_snoop, is_message_snoop}
use Rattle.ace_sysck.proofs.Forwarding.InboxHears.{inboxes_forward, inboxes_other_ac}
use Rattle.ace_sysck.proofs.MessageSteps.{messages_told, messages_untold}
use Rattle.ace_sysck.proofs.ByKind.MessageSnoops.{of-kind, other-kind}
use Rattle.ace_sysck.proofs.Unmoved.{system_snooped}
use Rattle.ace_sysck.proofs.system.SysCheck.hear_message_snoop.Goals as goal

pub returns-in-DvmMessage-clause-stands : goal.returns-in-DvmMessage-clause-stands
returns-in-DvmMessage-clause-stands c = λ r addr snoop s kind fine few.
    let k = c.args.self.now in
    let p = c.args.port in
    let is = c.in-DvmMessage.is in
    system_snooped k k.messages c.forward.new.self r p addr snoop s fine few
    (messages_untold r k.messages p addr snoop (of-kind r p addr snoop c.args.kind kind is_complete_snoop false (ap is_complete_snoop is)) s.messages)
    (inboxes_forward r k.inboxes c.forward.new.self p addr snoop (s.accepted, fine) (of-kind r p addr snoop c.args.kind kind is_message_snoop true (ap is_message_snoop is)) s.inboxes c.forward.ensures)

pub returns-in-DvmComplete-clause-stands : goal.returns-in-DvmComplete-clause-stands
returns-in-DvmComplete-clause-stands c = λ r addr snoop s kind fine few.
    let k = c.args.self.now in
    let p = c.args.port in
    let is = c.in-DvmComplete.is in
    system_snooped k c.tell_complete.new.self k.inboxes r p addr snoop s fine few
    (messages_told r k.messages c.tell_complete.new.self p addr snoop (s.accepted, fine) (of-kind r p addr snoop c.args.kind kind is_complete_snoop true (ap is_complete_snoop is)) s.messages c.tell_complete.ensures)
    (inboxes_other_ac r k.inboxes p addr snoop (s.accepted, fine) (of-kind r p addr snoop c.args.kind kind is_message_snoop false (ap is_message_snoop is)) s.inboxes)

pub returns-in_default-clause-stands : goal.returns-in_default-clause-stands
returns-in_default-clause-stands c = λ r addr snoop s kind fine few.
    let k = c.args.self.now in
    let p = c.args.port in
    let other = other-kind c.args.kind c.in_default.not-DvmMessage c.in_default.not-DvmComplete in
    system_snooped k k.messages k.inboxes r p addr snoop s fine few
    (messages_untold r k.messages p addr snoop (of-kind r p addr snoop c.args.kind kind is_complete_snoop false other.1) s.messages)
    (inboxes_other_ac r k.inboxes p addr snoop (s.accepted, fine) (of-kind r p addr snoop c.args.kind kind is_message_snoop false other.0) s.inboxes)
