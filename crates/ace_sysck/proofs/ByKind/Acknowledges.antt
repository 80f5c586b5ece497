-- An RK or WK breaks no rule of the share, and moves no more than the monitor of its port.
use Rattle.std.proofs.Common.{◌≡◌, ◌∷◌, ◌<◌, ◌-◌, ◌^◌, ℕ, true, Option, Some, None, is_none, get_or, length, slice_set, refl}
use Rattle.ace_sysck.proofs.Terms.{IsAccepted, least_broken, Channel, Header, LineState, Read, Trace, Write, least_of, system_rules, acknowledge, Recording, after, line_in, Monitors, SysCheck, kept_after, left_state, Stands}
use Rattle.ace_sysck.proofs.MonitorSteps.{left_at, monitors_leave}
use Rattle.ace_sysck.proofs.Steps.{port_within}
use Rattle.ace_sysck.proofs.Unmoved.{MovesMonitors, system_monitored}

pub acknowledge-keeps : (h : Header) (past : Trace) (c : Channel) (p : ℕ) (st : LineState) → is_none (least_of system_rules h past (acknowledge c p st)) ≡ true
acknowledge-keeps h past Read p st = refl
acknowledge-keeps h past Write p st = refl

moves : (c : Channel) (p : ℕ) (st : LineState) → MovesMonitors (acknowledge c p st)
moves Read p st = record { barriers = refl; results = refl; registrations = refl; messages = refl; inboxes = refl; syncs = refl }
moves Write p st = record { barriers = refl; results = refl; registrations = refl; messages = refl; inboxes = refl; syncs = refl }

leaves : (c : Channel) (p : ℕ) (st : LineState) → left_state (acknowledge c p st) ≡ Some (p, st)
leaves Read p st = refl
leaves Write p st = refl

-- what stands after it, with the new monitors
pub acknowledged_stands : (s : SysCheck) (n : Monitors) (r : Recording) (c : Channel) (p : ℕ) (st : LineState) (line : Option ℕ) → Stands s r
    → line ≡ line_in r.header r.past (acknowledge c p st) → least_broken r.header r.past (acknowledge c p st) ≡ None → length r.past < 2 ^ 64 - 1
    → n.lines.items ≡ slice_set s.monitors.lines.items p (kept_after (get_or s.monitors.lines.items p None) line st)
    → Stands (record s { monitors = n }) (after r (acknowledge c p st))
acknowledged_stands s n r c p st line stands on fine few items =
    let e = acknowledge c p st in
    let accepted : IsAccepted r.header (e ∷ r.past) = (stands.accepted, fine) in
    let left = left_at r.header r.past e p st accepted (leaves c p st) in
    system_monitored s n r e (moves c p st) stands fine few
    (monitors_leave r s.monitors n e p line st stands.monitors (port_within r.header r.past e p accepted left.1) (rw on left.0) items)
