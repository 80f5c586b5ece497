use Rattle.std.proofs.Common.{ℕ}
use Rattle.ace_event.specs.declared.header.Header.{Header}
use Rattle.ace_model.specs.Trace.{Trace}
use Rattle.ace_c.specs.Sessions.{Hears}
use Rattle.ace_c.proofs.Feeding.{HasCome}
use Rattle.ace_c.proofs.session.Session.feed_many.Given as goal

abbrev pub invariant-loop-n : goal.invariant-loop-n
invariant-loop-n l =
    (most : ℕ) (h : Header) (past : Trace) → Hears l.initial.self most h past → HasCome l.self most h past l.given l.n
