use Rattle.std.proofs.Common.{◌≡◌, ℕ, Some, slice_get}
use Rattle.ace_event.specs.declared.event.Channel.{Channel}
use Rattle.ace_portck.specs.Pending.{pending_of}
use Rattle.ace_home.specs.Resting.{HasToWait}
use Rattle.ace_home.proofs.Kept.{of-each-channel}
use Rattle.ace_home.proofs.home.Home.may_rest.Goals as goal

pub returns-then-all_wait : goal.returns-then-all_wait
returns-then-all_wait c = λ writes plan past x s o.
    let h = plan.header in
    of-each-channel (λ (d : Channel). (k : ℕ) → slice_get (pending_of h past c.args.port d) k ≡ Some x → HasToWait h past x)
    (λ k at. c.all_wait.ensures c.if-all_wait.true plan past k x s at) (λ k at. c.all_wait-then-all_wait.ensures writes plan past k x s at) x.chan o.0 o.1
