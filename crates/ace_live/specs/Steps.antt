-- What each kind of step tells: the view and the slots that the seat has then.
use Rattle.std.specs.Prelude.{◌≡◌, ◌≢◌, ℕ, ◌^◌, ◌%◌, List, [], ◌∷◌, ◌++◌, Option, Some, None}
use Rattle.atomic_table.specs.Table.{Me, Step}
use Rattle.ace_history.specs.declared.entry.Entry.{Entry}
use Rattle.ace_model.specs.declared.plans.PolicyWord.TheVariants.{Keep}
use Rattle.ace_live.specs.declared.rule.Stage.{Stage}
use Rattle.ace_live.specs.declared.rule.Stage.TheVariants.{Idle, Waits, Holds}
use Rattle.ace_live.specs.declared.rule.View.{View}
use Rattle.ace_live.specs.Running.{Running}
use Rattle.ace_live.specs.Views.{Behind, joined_view, longer_of, view_of}

-- a view, and the slots that are out with it
abbrev pub SeatState : Type 0
SeatState = Me (Option Running) View

-- claim a turn: the seat has the ticket
abbrev pub claimed : Step (Option Running) → SeatState → ℕ → SeatState → Type 0
claimed st m r m' =
    (t : ℕ) × (m' ≡ (view_of m.0.ports (Waits t) m.0.seen m.0.setting, m.1)) × (r ≡ t % 2 ^ 64)

abbrev pub number_of : Stage → ℕ
number_of Idle = 0
number_of (Waits t) = t
number_of (Holds t) = t

-- load the turn: where it is the ticket's, the slot comes with it, and the seat has seen the
-- history of the state there
abbrev pub looked : Step (Option Running) → SeatState → ℕ → SeatState → Type 0
looked st m r m' =
    (r ≡ number_of m.0.stage % 2 ^ 64 → (history : List Entry)
    × (m' ≡ (
      view_of m.0.ports (Holds (number_of m.0.stage)) history m.0.setting,
      (0, Some record { setting = m.0.setting; history = history }) ∷ m.1,
    ))
    × Behind m.0.ports m.0.seen history)
    × (r ≢ number_of m.0.stage % 2 ^ 64 → m' ≡ m)

-- the history of the state in the slot
abbrev pub history_in : List (ℕ × Option Running) → List Entry
history_in [] = []
history_in (x ∷ xs) = elim x.1 [ Some y ↦ y.history | None ↦ [] ]

-- serve: the slot goes back, and the seat has seen the history of the state in it
abbrev pub served : Step (Option Running) → SeatState → ℕ → SeatState → Type 0
served st m r m' = m' ≡ (view_of m.0.ports Idle (history_in m.1) m.0.setting, [])

-- split: the new seat has the first port, and has seen what the old one had
abbrev pub tail : List ℕ → List ℕ
tail [] = []
tail (p ∷ ps) = ps

abbrev pub front : List ℕ → List ℕ
front [] = []
front (p ∷ ps) = p ∷ []

abbrev pub first_left : View → View
first_left v = view_of (tail v.ports) v.stage v.seen v.setting

abbrev pub first_right : View → View
first_right v = view_of (front v.ports) Idle v.seen v.setting

-- join: one view has the ports of both and the longer history, and the other is spent
abbrev pub longer : View → View → View
longer v w =
    joined_view (v.ports ++ w.ports) (longer_of v.seen w.seen) v.setting (v.seen ∷ w.seen ∷ v.heard)

abbrev pub spent : View
spent = view_of [] Idle [] record { ports = 0; ways = 0; policy = Keep; room = 0 }
