use Rattle.std.proofs.Common.{nat_eq, option_map, sym, ap, ◌∙◌}
use Rattle.ace_portck.proofs.Terms.{find, Burst, M, data_in}
use Rattle.ace_portck.proofs.WriteLaws.{read-data}
use Rattle.ace_portck.proofs.WriteSteps.{sent-data}
use Rattle.ace_portck.proofs.write_data.WriteBursts.burst.Goals as goal

pub returns-in-Read : goal.returns-in-Read
returns-in-Read c = λ h past p line s. read-data h past p c.args.id ∙ sym (ap (λ v. data_in h past (M p v c.args.id line)) c.in-Read.is)

pub returns-in-Write : goal.returns-in-Write
returns-in-Write c = λ h past p line s.
    c.sent.ensures
    ∙ ap (λ v. option_map (λ (b : Burst). b.sent) (find (λ (b : Burst). nat_eq b.id c.args.id) v)) c.deref.ensures.value
    ∙ sent-data h past p c.args.self.now s c.args.id
    ∙ sym (ap (λ v. data_in h past (M p v c.args.id line)) c.in-Write.is)
