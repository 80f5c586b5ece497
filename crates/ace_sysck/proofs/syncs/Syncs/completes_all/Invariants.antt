use Rattle.std.proofs.Common.{◌≡◌, nat_le, get_or}
use Rattle.ace_sysck.proofs.Terms.{implies, list_all, ports_below, is_other_ace, untold}
use Rattle.ace_sysck.proofs.syncs.Syncs.completes_all.Given as goal

abbrev pub invariant-loop-q : goal.invariant-loop-q
invariant-loop-q l =
    l.all
    ≡ list_all (λ q. implies (is_other_ace l.header l.port q) (nat_le (get_or (get_or l.self.ports.items q untold).numbers l.port 0) (get_or l.self.ports.items q untold).completes))
    (ports_below l.q)
