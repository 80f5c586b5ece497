use Rattle.std.proofs.Common.{◌≡◌, ◌∙◌, Some, None, refl, sym, ap}
use Rattle.ace_portck.proofs.Terms.{Read, Write, moved_channel}
use Rattle.ace_portck.proofs.Stays.{pending_stays}
use Rattle.ace_portck.proofs.transactions.Transactions.hear.Goals as goal

pub returns-in-None : goal.returns-in-None
returns-in-None c = λ past heard bytes s.
    let moved : moved_channel c.args.event.now ≡ None = sym c.moved_channel.ensures ∙ c.in-None.is in
    record {
      accepted = heard.accepted;
      reads = pending_stays c.args.header.now past c.args.event.now c.args.port Read c.args.self.now.reads heard.accepted (rw moved refl) s.reads;
      writes = pending_stays c.args.header.now past c.args.event.now c.args.port Write c.args.self.now.writes heard.accepted (rw moved refl) s.writes;
    }

pub returns-in-Read : goal.returns-in-Read
returns-in-Read c = λ past heard bytes s.
    let moved : moved_channel c.args.event.now ≡ Some Read = sym c.moved_channel.ensures ∙ c.in-Some.is ∙ ap Some c.in-Read.is in
    record {
      accepted = heard.accepted;
      reads = c.hear.ensures past heard bytes s.reads;
      writes = pending_stays c.args.header.now past c.args.event.now c.args.port Write c.args.self.now.writes heard.accepted (rw moved refl) s.writes;
    }

pub returns-in-Write : goal.returns-in-Write
returns-in-Write c = λ past heard bytes s.
    let moved : moved_channel c.args.event.now ≡ Some Write = sym c.moved_channel.ensures ∙ c.in-Some.is ∙ ap Some c.in-Write.is in
    record {
      accepted = heard.accepted;
      reads = pending_stays c.args.header.now past c.args.event.now c.args.port Read c.args.self.now.reads heard.accepted (rw moved refl) s.reads;
      writes = c.hear-in-Write.ensures past heard bytes s.writes;
    }
