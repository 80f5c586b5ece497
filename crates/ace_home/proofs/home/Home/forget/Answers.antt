use Rattle.std.proofs.Common.{◌≡◌, ℕ, true, ◌==◌, Some, slice_get, sym, ap, subst, ◌∙◌, inl, inr}
use Rattle.std.proofs.lemmas.Bool.{cases_Bool, eqb-true}
use Rattle.ace_event.specs.declared.event.Channel.{Channel}
use Rattle.ace_event.specs.declared.event.Channel.TheVariants.{Read, Write}
use Rattle.ace_portck.specs.Pending.{pending_of}
use Rattle.ace_portck.specs.Targets.{progress_of}
use Rattle.ace_home.specs.Home.{IsOf}
use Rattle.ace_home.specs.Resting.{may_name}
use Rattle.ace_home.proofs.AtRest.{mapped-at}
use Rattle.ace_home.proofs.Kept.{of-each-channel, ports-stand, recording}
use Rattle.ace_home.proofs.home.Home.forget.Goals as goal

pub returns : goal.returns
returns c = λ plan past s.
    let h = plan.header in
    let p = c.args.port in
    let less = c.remove.ensures in
    let first = c.add_lines.ensures in
    let second = c.add_lines-2.ensures in
    let low = c.if-port-ge32.false in
    let ports = ports-stand c.args.self.now plan past c.ports-ports.result.now s c.ports-ports.ensures in
    let reads = c.reads.ensures (recording plan past) ports in
    let writes = c.writes.ensures (recording plan past) ports in
    record {
      legal = s.legal;
      shares = s.shares;
      header = s.header;
      users = λ q x o. elim (cases_Bool (p == q)) [
        | inr other ↦ second.more x.addr q (first.more x.addr q (less x.addr q other (s.users q x o)))
        | inl own ↦
            let same = eqb-true p q own in
            let mine : IsOf h past p x = subst (λ r. IsOf h past r x) (sym same) o in
            subst (λ r. may_name c.add_lines-2.new.users x.addr r ≡ true) same
            (of-each-channel (λ (d : Channel). (k : ℕ) → slice_get (pending_of h past p d) k ≡ Some x → may_name c.add_lines-2.new.users x.addr p ≡ true)
            (λ k at. second.more x.addr p (first.own low k (progress_of h past x) (ap (λ v. slice_get v k) reads ∙ mapped-at (progress_of h past) (pending_of h past p Read) k x at)))
            (λ k at. second.own low k (progress_of h past x) (ap (λ v. slice_get v k) writes ∙ mapped-at (progress_of h past) (pending_of h past p Write) k x at)) x.chan mine.0 mine.1)
      ];
      resting = s.resting;
    }
