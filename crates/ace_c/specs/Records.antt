-- Which event a record of C is.
use Rattle.std.specs.Prelude.{ℕ, ◌==◌, if◌then◌else◌, Bool, true, false, [], ◌∷◌, Option, Some, None, option_map, get_or}
use Rattle.std.specs.Int.{w128, from_be_bytes}
use Rattle.ace_codes.specs.declared.state.LineState.{LineState}
use Rattle.ace_codes.specs.declared.state.LineState.TheVariants.{I, UC, UD, SC, SD}
use Rattle.ace_event.specs.declared.event.Channel.{Channel}
use Rattle.ace_event.specs.declared.event.Channel.TheVariants.{Read, Write}
use Rattle.ace_event.specs.declared.event.Outcome.{Outcome}
use Rattle.ace_event.specs.declared.event.Outcome.TheVariants as outcome
use Rattle.ace_event.specs.declared.event.Event.{Event}
use Rattle.ace_event.specs.declared.event.Event.TheVariants.{Ar, R, Rk, Aw, W, B, Wk, Ac, Cr, Cd, G, M, S, L, D, Op, Mem}
use Rattle.ace_event.specs.declared.line.Line.{Line}
use Rattle.ace_c.specs.declared.record.AceEvent.{AceEvent}

-- the bit, state, channel and outcome with a code
abbrev pub flag_of : ℕ → Option Bool
flag_of code =
    if code == 0 then Some false else
    if code == 1 then Some true else
    None

abbrev pub state_of : ℕ → Option LineState
state_of code =
    if code == 0 then Some I else
    if code == 1 then Some UC else
    if code == 2 then Some UD else
    if code == 3 then Some SC else
    if code == 4 then Some SD else
    None

abbrev pub channel_of : ℕ → Option Channel
channel_of code =
    if code == 0 then Some Read else
    if code == 1 then Some Write else
    None

abbrev pub outcome_of : ℕ → Option Outcome
outcome_of code =
    if code == 0 then Some outcome.Ok else
    if code == 1 then Some outcome.Skip else
    if code == 2 then Some outcome.Fail else
    None

-- word k of the data: sixteen bytes, the most significant first
abbrev pub word_at : AceEvent → ℕ → ℕ
word_at r k = from_be_bytes w128 (get_or r.data k [])

abbrev pub line_of : AceEvent → Line
line_of r = record { words = word_at r 0 ∷ word_at r 1 ∷ word_at r 2 ∷ word_at r 3 ∷ [] }

-- the event of this kind with the fields of the record, where their codes are some
abbrev pub event_as : ℕ → AceEvent → Option Event
event_as kind r =
    if kind == 0 then
    option_map (λ lock. Ar r.port r.id r.addr r.snoop r.domain r.bar lock) (flag_of r.flag) else
    if kind == 1 then
    option_map (λ last. R r.port r.id r.resp last (word_at r 0)) (flag_of r.flag) else
    if kind == 2 then option_map (λ st. Rk r.port st) (state_of r.state) else
    if kind == 3 then Some (Aw r.port r.id r.addr r.snoop r.domain r.bar) else
    if kind == 4 then
    option_map (λ last. W r.port r.number last (word_at r 0)) (flag_of r.flag) else
    if kind == 5 then Some (B r.port r.id r.resp) else
    if kind == 6 then option_map (λ st. Wk r.port st) (state_of r.state) else
    if kind == 7 then Some (Ac r.port r.addr r.snoop) else
    if kind == 8 then option_map (λ st. Cr r.port r.resp st) (state_of r.state) else
    if kind == 9 then option_map (λ last. Cd r.port last (word_at r 0)) (flag_of r.flag) else
    if kind == 10 then option_map (λ chan. G r.port chan r.id) (channel_of r.flag) else
    if kind == 11 then option_map (λ chan. M r.port chan r.id (line_of r)) (channel_of r.flag) else
    if kind == 12 then option_map (λ st. S r.port r.addr st) (state_of r.state) else
    if kind == 13 then
    option_map (λ x. L r.port r.addr r.index x (word_at r 0)) (flag_of r.flag) else
    if kind == 14 then
    option_map (λ x. D r.port r.addr r.strobe x (line_of r)) (flag_of r.flag) else
    if kind == 15 then option_map (λ res. Op r.port r.number res) (outcome_of r.index) else
    if kind == 16 then Some (Mem r.addr (line_of r)) else
    None

-- the event of a record, where its kind and its codes are some
abbrev pub event_of : AceEvent → Option Event
event_of r = event_as r.kind r
