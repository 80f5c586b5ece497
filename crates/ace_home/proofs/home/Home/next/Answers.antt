use Rattle.std.proofs.Common.{◌≡◌, ℕ, Some, slice_get, inl, inr}
use Rattle.ace_event.specs.declared.event.Channel.{Channel}
use Rattle.ace_event.specs.declared.event.Channel.TheVariants.{Read, Write}
use Rattle.ace_portck.specs.Pending.{pending_of}
use Rattle.ace_home.specs.Home.{IsOf}
use Rattle.ace_home.specs.Turns.{IsBefore, IsUpTo}
use Rattle.ace_home.proofs.Firsts.{first-of-fewer}
use Rattle.ace_home.proofs.Kept.{of-each-channel}
use Rattle.ace_home.proofs.home.Home.next.Goals as goal

pub returns : goal.returns
returns g c = λ plan past stands.
    let h = plan.header in
    let p = c.args.port in
    let among = g.F.Among.has c.args.among.now in
    let reads = c.put_due.ensures plan past stands (λ y before. absurd before) in
    let before = first-of-fewer among h past p (IsUpTo h past p Read) (IsBefore h past p Write) c.put_due.new.first reads (λ y at. inr at) in
    let both = c.put_due-2.ensures plan past stands before in
    first-of-fewer among h past p (IsUpTo h past p Write) (IsOf h past p) c.put_due-2.new.first both
    (λ y o. of-each-channel (λ (d : Channel). (k : ℕ) → slice_get (pending_of h past p d) k ≡ Some y → IsUpTo h past p Write y) (λ k at. inl (k, at)) (λ k at. inr (k, at)) y.chan o.0 o.1)
