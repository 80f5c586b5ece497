use Rattle.std.proofs.Common.{◌<◌, ℕ}
use Rattle.ace_model.specs.Trace.{Trace}
use Rattle.ace_sysck.specs.Stands as sysck
use Rattle.ace_order.specs.Senders.{IsSender}
use Rattle.ace_order.proofs.senders.NextSenders.find_all.Given as goal

-- it is found of the ports so far
abbrev pub invariant-loop-q : goal.invariant-loop-q
invariant-loop-q l =
    (past : Trace) (r : ℕ) → sysck.Stands l.fn.system (record { header = l.fn.header; past = past }) → r < l.q → IsSender l.fn.header past l.self r
