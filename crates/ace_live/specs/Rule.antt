-- The rule of a Live, over its words, views and lists of entries. Word 0 counts the tickets given,
-- word 1 the turns served. Slot 0 is at home with the state, or out with the seat that has the
-- turn.
use Rattle.std.specs.Prelude.{◌≡◌, ℕ, ◌+◌, ◌^◌, ◌%◌, ◌<◌, ◌≤◌, ◌⊎◌, ⊤}
use Rattle.std.specs.Prelude.{List, [], ◌∷◌, Option, Some}
use mathlib.Core.Option.{Option as Maybe, some, none}
use lib.ListN.{get_elem?}
use Rattle.atomic_table.specs.Table.{State}
use Rattle.ace_history.specs.declared.entry.Entry.{Entry}
use Rattle.ace_live.specs.declared.setting.Setting.{Setting}
use Rattle.ace_live.specs.declared.rule.Stage.{Stage}
use Rattle.ace_live.specs.declared.rule.Stage.TheVariants.{Idle, Waits, Holds}
use Rattle.ace_live.specs.declared.rule.View.{View}
use Rattle.ace_live.specs.Running.{Running}
use Rattle.ace_live.specs.Views.{AllBegin, Behind, PortsBelow, owns, port_count}
use Rattle.ace_live.specs.Views.{ticket, total, with_ticket, with_turn}

-- At this turn, with so many waiting: the tickets given lie from the turn on; the seat with the
-- turn has its ticket, and has seen all that was served.
module _ (turn waiting : ℕ) (history : List Entry) where
  abbrev pub InTurn : Stage → List Entry → Type 0
  InTurn Idle seen = ⊤
  InTurn (Waits t) seen = (turn ≤ t) × (t < turn + waiting)
  InTurn (Holds t) seen = (t ≡ turn) × (seen ≡ history)

-- What each seat knows: it has seen a beginning of what was served, with all calls of its ports; it
-- has a ticket only where it owns a port, and then it knows the setting.
module _ (key : Setting) (turn waiting : ℕ) (history : List Entry) where
  pub record Knows (v : View) : Type 0 where
    pub behind : Behind v.ports v.seen history
    pub in_turn : InTurn turn waiting history v.stage v.seen
    pub few : ticket v ≤ port_count v
    pub told : 0 < port_count v → v.setting ≡ key
    pub heard : AllBegin v.heard history

-- the slot is at home with the state, and no seat has the turn; or one has, and the slot is out
abbrev pub Shelved : Setting → List Entry → ℕ → List (Maybe (Option Running)) → Type 0
Shelved key history holders homes =
    ((homes ≡ some (Some record { setting = key; history = history }) ∷ []) × (holders ≡ 0))
    ⊎ ((homes ≡ none ∷ []) × (holders ≡ 1))

-- each port is owned by one view
pub record SharedOut (key : Setting) (views : List View) : Type 0 where
  pub owned : (p : ℕ) → p < key.ports → total (owns p) views ≡ 1
  pub foreign : (p : ℕ) → key.ports ≤ p → total (owns p) views ≡ 0
  pub counted : total port_count views ≡ key.ports
  pub few_ports : key.ports < 256

-- The rule: of the history that was served and the number of turns served.
pub record Keeps (key : Setting) (s : State (Option Running) View) : Type 0 where
  pub history : List Entry
  pub turn : ℕ
  pub words : s.words ≡ ((turn + total ticket s.views) % 2 ^ 64) ∷ (turn % 2 ^ 64) ∷ []
  pub known : (i : ℕ) (v : View) → get_elem? s.views i ≡ some v
      → Knows key turn (total ticket s.views) history v
  pub apart : (t : ℕ) → total (with_ticket t) s.views ≤ 1
  pub ports : SharedOut key s.views
  pub below : PortsBelow key.ports history
  pub shelved : Shelved key history (total with_turn s.views) s.homes

-- some view has seen all of the history
abbrev pub SomeHasSeen : List Entry → List View → Type 0
SomeHasSeen h views = (i : ℕ) × (v : View) × (get_elem? views i ≡ some v) × (v.seen ≡ h)
