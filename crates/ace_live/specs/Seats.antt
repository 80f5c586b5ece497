-- What contracts see of a Live and its seats, and what a call promises.
use Rattle.std.specs.Prelude.{◌≡◌, ℕ, ◌^◌, ◌%◌, ◌<◌, ◌⊎◌, List, [], ◌∷◌, ◌++◌}
use Rattle.std.specs.Prelude.{length, map, Some}
use Rattle.std.specs.List.{AllByRecursion}
use Rattle.atomic_table.specs.Seated.{TableId}
use Rattle.ace_model.specs.declared.plans.Op.{Op}
use Rattle.ace_history.specs.declared.entry.Entry.{Entry}
use Rattle.ace_live.specs.declared.setting.Setting.{Setting}
use Rattle.ace_live.specs.declared.rule.Stage.TheVariants.{Idle, Waits, Holds}
use Rattle.ace_live.specs.declared.rule.View.{View}
use Rattle.ace_live.specs.Entries.{IsEntryOf, Legal}
use Rattle.ace_live.specs.Running.{Running}
use Rattle.ace_live.specs.Steps.{SeatState}
use Rattle.ace_live.specs.Views.{Behind, NoneBy, count_of, joined_view, view_of}

-- which Live it is, and what it was opened with
pub record LiveId : Type 0 where
  pub table : TableId
  pub setting : Setting

-- a seat: the Live that it belongs to, its port, and the history that it has seen
pub record Token : Type 0 where
  pub live : LiveId
  pub port : ℕ
  pub seen : List Entry

abbrev pub fresh : LiveId → ℕ → Token
fresh live p = record { live = live; port = p; seen = [] }

-- the seat is of the same Live and port
abbrev pub IsSame : Token → Token → Type 0
IsSame a b = (b.live ≡ a.live) × (b.port ≡ a.port)

-- The entry is that of this call, and the last of a legal history that begins with all that the
-- seat had seen, and that has of this port's calls no other new one.
abbrev pub IsCall : Token → Op → Token → Entry → Type 0
IsCall before op after e =
    IsSame before after × IsEntryOf before.port op e × Legal before.live.setting after.seen
    × ((others : List Entry) × (after.seen ≡ before.seen ++ (others ++ e ∷ []))
    × NoneBy (before.port ∷ []) others)

-- The history is legal and full, begins with all that the seat had seen, and has no new entry of
-- this port.
abbrev pub IsFull : Token → Token → ℕ → Type 0
IsFull before after used =
    IsSame before after × Legal before.live.setting after.seen
    × (length after.seen ≡ before.live.setting.room) × (used ≡ length after.seen)
    × Behind (before.port ∷ []) before.seen after.seen

-- ---- how far a seat is -----------------------------------------------------------------------

abbrev pub running : Setting → List Entry → Running
running key h = record { setting = key; history = h }

abbrev pub IsIdleAt : Setting → List ℕ → List Entry → SeatState → Type 0
IsIdleAt key ps seen m = m ≡ (view_of ps Idle seen key, [])

abbrev pub IsWaitingAt : Setting → List ℕ → List Entry → ℕ → SeatState → Type 0
IsWaitingAt key ps seen ticket m =
    (t : ℕ) × (m ≡ (view_of ps (Waits t) seen key, [])) × (ticket ≡ t % 2 ^ 64)

-- it has the turn and has seen the history h, and the state in its slot has the history k
abbrev pub IsHoldingAt : Setting → List ℕ → List Entry → List Entry → SeatState → Type 0
IsHoldingAt key ps h k m =
    (t : ℕ) × (m ≡ (view_of ps (Holds t) h key, (0, Some (running key k)) ∷ []))

-- ---- all seats -------------------------------------------------------------------------------

abbrev pub IsAmong : List Entry → List (List Entry) → Type 0
IsAmong a [] = ⊥
IsAmong a (h ∷ hs) = (a ≡ h) ⊎ IsAmong a hs

abbrev pub port_of_seat : Token → ℕ
port_of_seat t = t.port

abbrev pub SomeSeat : (Token → Type 0) → List Token → Type 0
SomeSeat P [] = ⊥
SomeSeat P (t ∷ ts) = P t ⊎ SomeSeat P ts

-- each port has a seat
abbrev pub EachPort : ℕ → List Token → Type 0
EachPort n ts = (p : ℕ) → p < n → 0 < count_of p (map port_of_seat ts)

-- the view has what each of these seats had: its port and the history that it had seen
abbrev pub HasAll : List Token → View → Type 0
HasAll ts v =
    ((p : ℕ) → count_of p v.ports ≡ count_of p (map port_of_seat ts))
    × AllByRecursion (λ t. IsAmong t.seen (v.seen ∷ v.heard)) ts
    × SomeSeat (λ t. v.seen ≡ t.seen) ts

abbrev pub IsJoinedAt : Setting → SeatState → Type 0
IsJoinedAt key m = m ≡ (joined_view m.0.ports m.0.seen key m.0.heard, [])
