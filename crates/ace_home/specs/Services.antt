-- The steps by which the home serves one transaction.
use Rattle.std.specs.Prelude.{ℕ, ◌≡◌, ◌<◌, Bool, true, false, ◌&&◌, ◌==◌, if◌then◌else◌, List, [], ◌∷◌, Option, Some, None}
use Rattle.std.specs.List.{list_any}
use Rattle.ace_event.specs.declared.event.Event.{Event}
use Rattle.ace_event.specs.declared.header.Header.{Header}
use Rattle.ace_model.specs.declared.transactions.Transaction.{Transaction}
use Rattle.ace_model.specs.Grants.{is_granted, ports_below}
use Rattle.ace_model.specs.Trace.{Trace, is_some_and}
use Rattle.ace_model.specs.Transactions.{snoop_of}
use Rattle.ace_runs.specs.Bursts.{is_kept, may_begin}
use Rattle.ace_runs.specs.LineSteps.{grant_burst, passed_burst, snoop_for, transfer_burst, write_burst}
use Rattle.ace_runs.specs.SameEvents.{same_burst}
use Rattle.ace_home.specs.Among.{PortSets, are_snoops_among, has_snoop_among}
use Rattle.ace_home.specs.declared.service.Service.{Service}
use Rattle.ace_home.specs.declared.service.Service.TheVariants.{Grant, Snoops, Passed, Transfer, Write}

-- the number of the step
abbrev pub number_of : Service → ℕ
number_of (Grant e) = 5
number_of Snoops = 6
number_of (Passed e) = 7
number_of (Transfer e) = 8
number_of (Write e) = 9

-- the first event of the step's burst, but for snoops
abbrev pub first_of : Service → Option Event
first_of (Grant e) = Some e
first_of Snoops = None
first_of (Passed e) = Some e
first_of (Transfer e) = Some e
first_of (Write e) = Some e

-- a write has its response after its M
abbrev pub responds : Service → Bool
responds (Write e) = true
responds s = false

-- the event, where it breaks no rule
abbrev pub if_kept : Header → Trace → Event → Option Event
if_kept h past e = if is_kept h past e then Some e else None

-- the first event of a burst, where there is one and it breaks no rule
abbrev pub first_kept : Header → Trace → List Event → Option Event
first_kept h past [] = None
first_kept h past (e ∷ burst) = if_kept h past e

-- a port may be snooped for the transaction
abbrev pub has_snoop : Header → Trace → Transaction → Bool
has_snoop h past x =
    is_granted h past x
    && is_some_and (snoop_of x)
    (λ k. list_any (λ q. is_kept h past (snoop_for x k q)) (ports_below h.ports))

-- Step n may be taken for the transaction: its burst may begin or, of step 6, a port of the set may
-- be snooped.
abbrev pub may_take : PortSets → ℕ → Header → Trace → Transaction → Bool
may_take among n h past x =
    if n == 5 then may_begin h past (grant_burst h past x)
    else if n == 6 then has_snoop_among among h past x
    else if n == 7 then may_begin h past (passed_burst h past x)
    else if n == 8 then may_begin h past (transfer_burst h past x)
    else if n == 9 then may_begin h past (write_burst h past x)
    else false

-- step n gives the burst for the transaction
abbrev pub gives_for : PortSets → ℕ → Header → Trace → Transaction → List Event → Bool
gives_for among n h past x burst =
    if n == 5 then same_burst (grant_burst h past x) burst
    else if n == 6 then are_snoops_among among h past x burst
    else if n == 7 then same_burst (passed_burst h past x) burst
    else if n == 8 then same_burst (transfer_burst h past x) burst
    else if n == 9 then same_burst (write_burst h past x) burst
    else false

-- No step with a number below n may be taken for the transaction.
abbrev pub TakesNoneBelow : PortSets → ℕ → Header → Trace → Transaction → Type 0
TakesNoneBelow among n h past x = (m : ℕ) → m < n → may_take among m h past x ≡ false

-- above the numbers of the home's steps
abbrev pub all_steps : ℕ
all_steps = 10

-- The event is the first of the burst of such a step for the transaction, and breaks no rule; or a
-- port of the set may be snooped for it.
abbrev pub IsService : PortSets → Header → Trace → Transaction → Service → Type 0
IsService among h past x (Grant e) = first_kept h past (grant_burst h past x) ≡ Some e
IsService among h past x Snoops = has_snoop_among among h past x ≡ true
IsService among h past x (Passed e) = first_kept h past (passed_burst h past x) ≡ Some e
IsService among h past x (Transfer e) = first_kept h past (transfer_burst h past x) ≡ Some e
IsService among h past x (Write e) = first_kept h past (write_burst h past x) ≡ Some e

-- It is the step of least number for the transaction.
abbrev pub IsLeastFor : PortSets → Header → Trace → Transaction → Option Service → Type 0
IsLeastFor among h past x None = TakesNoneBelow among all_steps h past x
IsLeastFor among h past x (Some s) =
    IsService among h past x s × TakesNoneBelow among (number_of s) h past x

-- It is that step where no port of the set may be snooped for the transaction.
abbrev pub IsReply : PortSets → Header → Trace → Transaction → Option Service → Type 0
IsReply among h past x s = has_snoop_among among h past x ≡ false → IsLeastFor among h past x s
