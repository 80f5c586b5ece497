-- Which step the home takes on a turn: of those that are enabled for the port that of least number,
-- and of one number that for the oldest transaction.
use Rattle.std.specs.Prelude.{ℕ, ◌≡◌, ◌⊎◌, ◌<◌, ◌≤◌, Bool, true, false, ◌&&◌, ◌==◌, nat_lt, if◌then◌else◌, List, [], ◌∷◌, filter, length, Option, Some, None}
use Rattle.std.specs.List.{list_all}
use Rattle.ace_codes.specs.declared.kind.SnoopKind.{SnoopKind}
use Rattle.ace_event.specs.declared.event.Channel.{Channel}
use Rattle.ace_event.specs.declared.event.Channel.TheVariants.{Read, Write}
use Rattle.ace_event.specs.declared.event.Event.{Event}
use Rattle.ace_event.specs.declared.header.Header.{Header}
use Rattle.ace_model.specs.declared.transactions.Transaction.{Transaction}
use Rattle.ace_model.specs.Plans.{Plan}
use Rattle.ace_model.specs.Trace.{Trace}
use Rattle.ace_runs.specs.Bursts.{are_kept, is_kept, onto}
use Rattle.ace_runs.specs.LineSteps.{snoop_for}
use Rattle.ace_engine.specs.Engines.{Home as OfLines, numbers_of}
use Rattle.ace_home.specs.Among.{PortSets, all_ports, has_snoop_among, is_enabled_by_among, is_snoop_among, is_step_by_among}
use Rattle.ace_home.specs.declared.due.Due.{Due}
use Rattle.ace_home.specs.declared.home.Home.{Home}
use Rattle.ace_home.specs.declared.service.Service.{Service}
use Rattle.ace_home.specs.Home.{HomeStands, IsListed, IsOf}
use Rattle.ace_home.specs.Services.{IsService, TakesNoneBelow, all_steps, gives_for, may_take, number_of}

-- the numbers of the home's steps below n
abbrev pub lesser_steps : ℕ → List ℕ
lesser_steps n = filter (λ m. nat_lt m n) (numbers_of OfLines)

-- The burst is a step for a transaction of the port, which snoops only ports of the sets: no such
-- step of the home with a lesser number is enabled for the port, this step may be taken for no
-- older transaction of it, and snoops leave no port of the set that may be snooped.
pub record IsLeastStepAmong (among : PortSets) (plan : Plan) (past : Trace) (p : ℕ)
    (burst : List Event) : Type 0 where
  pub number : ℕ
  pub served : Transaction
  pub step : is_step_by_among among (number ∷ []) plan past p burst ≡ true
  pub pending : IsOf plan.header past p served
  pub gives : gives_for among number plan.header past served burst ≡ true
  pub least : is_enabled_by_among among (lesser_steps number) plan past p ≡ false
  pub oldest : (y : Transaction) → IsOf plan.header past p y → y.place < served.place
      → may_take among number plan.header past y ≡ false
  pub snooped : number ≡ 6 → has_snoop_among among plan.header (onto burst past) served ≡ false

-- The same, where any port may be snooped.
abbrev pub IsLeastStep : Plan → Trace → ℕ → List Event → Type 0
IsLeastStep plan past p burst = IsLeastStepAmong all_ports plan past p burst

-- ---- one before another -------------------------------------------------------------------------

-- it has the lesser number, or the same number and the older transaction
abbrev pub goes_first : Due → Due → Bool
goes_first d e =
    if number_of d.service == number_of e.service
    then nat_lt d.transaction.place e.transaction.place
    else nat_lt (number_of d.service) (number_of e.service)

-- the one that goes first, where there are two
abbrev pub sooner : Option Due → Option Due → Option Due
sooner None e = e
sooner (Some d) None = Some d
sooner (Some d) (Some e) = Some (if goes_first d e then d else e)

-- the transaction with the step for it, where there is one
abbrev pub due_by : Transaction → Option Service → Option Due
due_by x None = None
due_by x (Some s) = Some (record { transaction = x; service = s })

-- The transaction is an outstanding one of the port, and this is a step for it.
pub record IsDue (among : PortSets) (h : Header) (past : Trace) (p : ℕ) (d : Due) : Type 0 where
  pub pending : IsOf h past p d.transaction
  pub serves : IsService among h past d.transaction d.service

-- It is due, no lesser step may be taken for one of these, nor this step for an older one of these.
pub record IsFirst (among : PortSets) (h : Header) (past : Trace) (p : ℕ)
    (these : Transaction → Type 0) (d : Due) : Type 0 where
  pub due : IsDue among h past p d
  pub least : (y : Transaction) → these y → TakesNoneBelow among (number_of d.service) h past y
  pub oldest : (y : Transaction) → these y → y.place < d.transaction.place
      → may_take among (number_of d.service) h past y ≡ false

-- It is the first step for these, where there is one.
abbrev pub IsFirstOf : PortSets → Header → Trace → ℕ → (Transaction → Type 0) → Option Due → Type 0
IsFirstOf among h past p these None =
    (y : Transaction) → these y → TakesNoneBelow among all_steps h past y
IsFirstOf among h past p these (Some d) = IsFirst among h past p these d

-- No step for the transaction goes before this first one, where there is one.
abbrev pub IsBehind : PortSets → Header → Trace → Transaction → Option Due → Type 0
IsBehind among h past x None = TakesNoneBelow among all_steps h past x
IsBehind among h past x (Some d) =
    TakesNoneBelow among (number_of d.service) h past x
    × (x.place < d.transaction.place → may_take among (number_of d.service) h past x ≡ false)

-- the transaction is an outstanding one of the port on a channel before this one: reads come first
abbrev pub IsBefore : Header → Trace → ℕ → Channel → Transaction → Type 0
IsBefore h past p Read x = ⊥
IsBefore h past p Write x = IsListed h past p Read x

-- it is one on a channel before this one, or on this one
abbrev pub IsUpTo : Header → Trace → ℕ → Channel → Transaction → Type 0
IsUpTo h past p c x = IsBefore h past p c x ⊎ IsListed h past p c x

-- ---- the burst ----------------------------------------------------------------------------------

-- The engine stands for the trace with the burst, which are snoops of ports of the set for the
-- transaction: of the ports below n no such one may be snooped any more.
pub record AreSnoops (among : PortSets) (s : Home) (plan : Plan) (past : Trace) (x : Transaction)
    (k : SnoopKind) (n : ℕ) (burst : List Event) : Type 0 where
  pub stands : HomeStands s plan (onto burst past)
  pub kept : are_kept plan.header past burst ≡ true
  pub all : list_all (is_snoop_among among x k) burst ≡ true
  pub few : length burst ≤ n
  pub none : (q : ℕ) → q < n
      → (among x.addr q && is_kept plan.header (onto burst past) (snoop_for x k q)) ≡ false

-- The burst is this step for the transaction, and the engine stands for the trace with it.
pub record IsServing (among : PortSets) (s : Home) (plan : Plan) (past : Trace) (p : ℕ) (d : Due)
    (burst : List Event) : Type 0 where
  pub step : is_step_by_among among (number_of d.service ∷ []) plan past p burst ≡ true
  pub gives : gives_for among (number_of d.service) plan.header past d.transaction burst ≡ true
  pub snooped : number_of d.service ≡ 6
      → has_snoop_among among plan.header (onto burst past) d.transaction ≡ false
  pub stands : HomeStands s plan (onto burst past)
