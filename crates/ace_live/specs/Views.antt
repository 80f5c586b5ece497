-- What each seat knows, its view, and sums over the views of all seats.
use Rattle.std.specs.Prelude.{◌≡◌, ℕ, zero, suc, ◌+◌, ◌<◌, ⊤, nat_eq, nat_lt, if◌then◌else◌}
use Rattle.std.specs.Prelude.{List, [], ◌∷◌, ◌++◌, length}
use Rattle.ace_history.specs.declared.entry.Entry.{Entry}
use Rattle.ace_live.specs.declared.setting.Setting.{Setting}
use Rattle.ace_live.specs.declared.rule.Stage.{Stage}
use Rattle.ace_live.specs.declared.rule.Stage.TheVariants.{Idle, Waits, Holds}
use Rattle.ace_live.specs.declared.rule.View.{View}

-- the sum of a number of each view
abbrev pub total : (View → ℕ) → List View → ℕ
total f [] = 0
total f (v ∷ vs) = f v + total f vs

abbrev pub one_if_same : ℕ → ℕ → ℕ
one_if_same n m = if nat_eq n m then 1 else 0

-- how often the port is among them
abbrev pub count_of : ℕ → List ℕ → ℕ
count_of p [] = 0
count_of p (q ∷ qs) = one_if_same p q + count_of p qs

-- whether the stage has a ticket, the ticket n, the turn: 1 where it has
abbrev pub ticket_of : Stage → ℕ
ticket_of Idle = 0
ticket_of (Waits t) = 1
ticket_of (Holds t) = 1

abbrev pub has_ticket : ℕ → Stage → ℕ
has_ticket n Idle = 0
has_ticket n (Waits t) = one_if_same n t
has_ticket n (Holds t) = one_if_same n t

abbrev pub turn_of : Stage → ℕ
turn_of Idle = 0
turn_of (Waits t) = 0
turn_of (Holds t) = 1

-- the same of a view, how often it owns the port, and how many ports it owns
abbrev pub ticket : View → ℕ
ticket v = ticket_of v.stage

abbrev pub with_ticket : ℕ → View → ℕ
with_ticket n v = has_ticket n v.stage

abbrev pub with_turn : View → ℕ
with_turn v = turn_of v.stage

abbrev pub owns : ℕ → View → ℕ
owns p v = count_of p v.ports

abbrev pub port_count : View → ℕ
port_count v = length v.ports

-- ---- histories and ports ---------------------------------------------------------------------

-- no entry is of one of these ports
abbrev pub NoneBy : List ℕ → List Entry → Type 0
NoneBy ports [] = ⊤
NoneBy ports (e ∷ es) = (count_of e.port ports ≡ 0) × NoneBy ports es

-- each entry is of one of these ports
abbrev pub AllBy : List ℕ → List Entry → Type 0
AllBy ports [] = ⊤
AllBy ports (e ∷ es) = (0 < count_of e.port ports) × AllBy ports es

-- each entry is of a port below n
abbrev pub PortsBelow : ℕ → List Entry → Type 0
PortsBelow n [] = ⊤
PortsBelow n (e ∷ es) = (e.port < n) × PortsBelow n es

-- `seen` is the beginning of the history, and what follows has no entry of these ports
abbrev pub Behind : List ℕ → List Entry → List Entry → Type 0
Behind ports seen history = (more : List Entry) × (history ≡ seen ++ more) × NoneBy ports more

abbrev pub Begins : List Entry → List Entry → Type 0
Begins seen history = (more : List Entry) × (history ≡ seen ++ more)

-- each of these histories is a beginning of the last
abbrev pub AllBegin : List (List Entry) → List Entry → Type 0
AllBegin [] history = ⊤
AllBegin (h ∷ hs) history = Begins h history × AllBegin hs history

-- ---- views that are made ---------------------------------------------------------------------

-- n port numbers from p on
abbrev pub ports_from : ℕ → ℕ → List ℕ
ports_from p zero = []
ports_from p (suc n) = p ∷ ports_from (suc p) n

abbrev pub view_of : List ℕ → Stage → List Entry → Setting → View
view_of ports stage seen key =
    record { ports = ports; stage = stage; seen = seen; setting = key; heard = [] }

-- at the start one seat has all ports, and has seen nothing
abbrev pub opening_view : Setting → View
opening_view key = view_of (ports_from 0 key.ports) Idle [] key

-- the view of a seat that took in others
abbrev pub joined_view : List ℕ → List Entry → Setting → List (List Entry) → View
joined_view ports seen key heard =
    record { ports = ports; stage = Idle; seen = seen; setting = key; heard = heard }

abbrev pub longer_of : List Entry → List Entry → List Entry
longer_of a b = if nat_lt (length a) (length b) then b else a
