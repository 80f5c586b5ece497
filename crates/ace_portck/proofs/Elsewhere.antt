-- An event that isn't the port's leaves what is kept of the port as it is.
use Rattle.std.proofs.Common.{◌≡◌, ◌≢◌, ℕ, false, nat_eq, ◌∷◌, Some, refl, sym, ap, ◌∙◌}
use Rattle.ace_portck.proofs.Terms.{Event, Read, Write, Ac, Aw, Cd, Cr, M, Op, W, Header, IsAccepted, retired, Trace, port_of, RetiredCount, SnoopQueues, WriteBursts, RetiredStand, SnoopsStand, WritesStand}
use Rattle.std.proofs.lemmas.Bool.{ne_eqb}
use Rattle.ace_portck.proofs.SnoopSteps.{moves_snoops, snoops_stay}
use Rattle.ace_portck.proofs.WriteSteps.{moves_writes, writes_stay}

other_port : (q p : ℕ) → Some q ≢ Some p → nat_eq p q ≡ false
other_port q p n = ne_eqb p q (λ e. n (ap Some (sym e)))

no_snoop : (e : Event) (p : ℕ) → port_of e ≢ Some p → moves_snoops e p ≡ false
no_snoop (Ac q addr snoop) p n = other_port q p n
no_snoop (Cr q resp st) p n = other_port q p n
no_snoop (Cd q last word) p n = other_port q p n
no_snoop _ p n = refl

no_write : (e : Event) (p : ℕ) → port_of e ≢ Some p → moves_writes e p ≡ false
no_write (Aw q i addr snoop dom bar) p n = other_port q p n
no_write (W q strb last word) p n = other_port q p n
no_write (M q Write i line) p n = other_port q p n
no_write (M q Read i line) p n = refl
no_write _ p n = refl

retired_same : (past : Trace) (e : Event) (p : ℕ) → port_of e ≢ Some p → retired (e ∷ past) p ≡ retired past p
retired_same past (Op q k res) p n = let f = other_port q p n in rw f refl
retired_same past _ p n = refl

-- the queues of its snoops
pub snoops_elsewhere : (past : Trace) (p : ℕ) (s : SnoopQueues) (e : Event) → port_of e ≢ Some p → SnoopsStand past p s → SnoopsStand (e ∷ past) p s
snoops_elsewhere past p s e n st = snoops_stay past p s st e (no_snoop e p n)

-- its write data
pub writes_elsewhere : (h : Header) (past : Trace) (p : ℕ) (s : WriteBursts) (e : Event) → IsAccepted h (e ∷ past) → port_of e ≢ Some p
    → WritesStand h past p s → WritesStand h (e ∷ past) p s
writes_elsewhere h past p s e a n st = writes_stay h past p s st e a (no_write e p n)

-- the count of its operations
pub retired_elsewhere : (past : Trace) (p : ℕ) (s : RetiredCount) (e : Event) → port_of e ≢ Some p → RetiredStand past p s → RetiredStand (e ∷ past) p s
retired_elsewhere past p s e n st = record { next_is = st.next_is ∙ sym (retired_same past e p n) }
