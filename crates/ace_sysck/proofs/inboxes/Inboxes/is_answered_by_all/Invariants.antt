use Rattle.std.proofs.Common.{◌≡◌, ◌||◌, not, true}
use Rattle.ace_sysck.proofs.Terms.{implies, list_all, ports_below, is_other_ace, awaits}
use Rattle.ace_sysck.proofs.inboxes.Inboxes.is_answered_by_all.Given as goal

-- none of the ports so far lacks an answer
abbrev pub invariant-loop-port : goal.invariant-loop-port
invariant-loop-port l = list_all (λ q. implies (is_other_ace l.header l.x.port q) (not (l.waiting || awaits l.self q l.x.place))) (ports_below l.port) ≡ true
