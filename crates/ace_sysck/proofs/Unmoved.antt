-- Each kind of event moves some groups, and the others stand after it as they are.
use Rattle.std.proofs.Common.{◌≡◌, ◌<◌, ◌-◌, ◌^◌, ℕ, Bool, true, false, ◌||◌, None, is_some, length, ◌⊎◌, inl, inr, refl, sym, subst, ◌∙◌}
use Rattle.ace_sysck.proofs.Terms.{Mem, Event, Ar, Aw, R, B, Rk, Wk, Ac, Cr, Cd, G, M, S, L, D, Op, W, least_broken, Target, Recording, after, target_of, Barriers, Monitors, Results, Registrations, Messages, Inboxes, Syncs, SysCheck, BarriersStand, MonitorsStand, ResultsStand, RegistrationsStand, MessagesStand, InboxesStand, SyncsStand, is_issue, is_response, left_state, Stands, IsStep}
use Rattle.ace_model.proofs.Trace.Outstanding.{write_issued}
use Rattle.ace_sysck.proofs.BarrierSteps.{barriers_stay}
use Rattle.ace_sysck.proofs.MonitorSteps.{monitors_stay}
use Rattle.ace_sysck.proofs.ResultSteps.{results_stay, write_unnamed}
use Rattle.ace_sysck.proofs.RegistrationSteps.{registrations_stay}
use Rattle.ace_sysck.proofs.MessageSteps.{messages_stay}
use Rattle.ace_sysck.proofs.Forwarding.InboxHears.{ids-new, inbox_stays, inboxes_stay}
use Rattle.ace_sysck.proofs.SyncSteps.{quiet_port, syncs_all}

abbrev pub is_snoop : Event → Bool
is_snoop (Ac p addr snoop) = true
is_snoop _ = false

abbrev pub is_snoop_answer : Event → Bool
is_snoop_answer (Cr p resp st) = true
is_snoop_answer _ = false

abbrev pub moves_barriers : Event → Bool
moves_barriers e = is_issue e || is_response e

pub barriers_still : (r : Recording) (s : Barriers) (e : Event) (t : Target) → IsStep r e t → moves_barriers e ≡ false → BarriersStand r s → BarriersStand (after r e) s
barriers_still r s (Ar p i addr snoop dom bar lock) t step still stands = cc
barriers_still r s (Aw p i addr snoop dom bar) t step still stands = cc
barriers_still r s (R p i resp last word) t step still stands = cc
barriers_still r s (B p i resp) t step still stands = cc
barriers_still r s e t step still stands = barriers_stay r s e t step.accepted step.target refl refl stands

abbrev pub moves_monitors : Event → Bool
moves_monitors (L p addr w x word) = true
moves_monitors (D p addr strobe x line) = true
moves_monitors e = is_some (left_state e)

pub monitors_still : (r : Recording) (s : Monitors) (e : Event) → moves_monitors e ≡ false → MonitorsStand r s → MonitorsStand (after r e) s
monitors_still r s (Rk p st) still stands = cc
monitors_still r s (Wk p st) still stands = cc
monitors_still r s (Cr p resp st) still stands = cc
monitors_still r s (S p addr st) still stands = cc
monitors_still r s (L p addr w x word) still stands = cc
monitors_still r s (D p addr strobe x line) still stands = cc
monitors_still r s e still stands = monitors_stay r s e (λ p l was. refl) (λ p l. refl) stands

abbrev pub moves_results : Event → Bool
moves_results (Ar p i addr snoop dom bar lock) = true
moves_results (G p c i) = true
moves_results _ = false

pub results_still : (r : Recording) (s : Results) (e : Event) → moves_results e ≡ false → ResultsStand r s → ResultsStand (after r e) s
results_still r s (Ar p i addr snoop dom bar lock) still stands = cc
results_still r s (G p c i) still stands = cc
results_still r s (Aw p i addr snoop dom bar) still stands =
    results_stay r s (Aw p i addr snoop dom bar) (λ q j. write_unnamed (write_issued r.past p i addr snoop dom bar) q j refl) refl stands
results_still r s e still stands = results_stay r s e (λ p i. refl) refl stands

abbrev pub moves_registrations : Event → Bool
moves_registrations (G p c i) = true
moves_registrations _ = false

pub registrations_still : (r : Recording) (s : Registrations) (e : Event) (t : Target) → IsStep r e t → moves_registrations e ≡ false → RegistrationsStand r s
    → RegistrationsStand (after r e) s
registrations_still r s (G p c i) t step still stands = cc
registrations_still r s e t step still stands = registrations_stay r s e t step.accepted step.target refl stands

abbrev pub moves_messages : Event → Bool
moves_messages e = is_issue e || is_response e || is_snoop e

pub messages_still : (r : Recording) (s : Messages) (e : Event) (t : Target) → IsStep r e t → moves_messages e ≡ false → MessagesStand r s → MessagesStand (after r e) s
messages_still r s (Ar p i addr snoop dom bar lock) t step still stands = cc
messages_still r s (Aw p i addr snoop dom bar) t step still stands = cc
messages_still r s (R p i resp last word) t step still stands = cc
messages_still r s (B p i resp) t step still stands = cc
messages_still r s (Ac p addr snoop) t step still stands = cc
messages_still r s e t step still stands = messages_stay r s e t step.accepted step.target refl refl (λ q. refl) stands

abbrev pub moves_inboxes : Event → Bool
moves_inboxes e = is_issue e || is_snoop e || is_snoop_answer e

pub inboxes_still : (r : Recording) (s : Inboxes) (e : Event) (t : Target) → IsStep r e t → moves_inboxes e ≡ false → InboxesStand r s → InboxesStand (after r e) s
inboxes_still r s (Ar p i addr snoop dom bar lock) t step still stands = cc
inboxes_still r s (Aw p i addr snoop dom bar) t step still stands = cc
inboxes_still r s (Ac p addr snoop) t step still stands = cc
inboxes_still r s (Cr p resp st) t step still stands = cc
inboxes_still r s e t step still stands =
    inboxes_stay r s e (ids-new r e stands.ids (λ x is. cc))
    (λ q parts count ace. inbox_stays r.past e q parts count (record { same_answers = refl; no_snoop = refl }) refl) stands

abbrev pub moves_syncs : Event → Bool
moves_syncs e = is_issue e || is_snoop_answer e

pub syncs_still : (r : Recording) (s : Syncs) (e : Event) (t : Target) → IsStep r e t → moves_syncs e ≡ false → SyncsStand r s → SyncsStand (after r e) s
syncs_still r s (Ar p i addr snoop dom bar lock) t step still stands = cc
syncs_still r s (Aw p i addr snoop dom bar) t step still stands = cc
syncs_still r s (Cr p resp st) t step still stands = cc
syncs_still r s e t step still stands =
    syncs_all r s e stands (λ q k st. quiet_port r.header r.past e q k step.accepted refl (λ resp state is. cc) st)

-- what an AR and an AW leave, each event that issues a transaction leaves
pub by_issue : (moves : Event → Bool) → ((p i addr snoop dom bar : ℕ) (lock : Bool) → moves (Ar p i addr snoop dom bar lock) ≡ false)
    → ((p i addr snoop dom bar : ℕ) → moves (Aw p i addr snoop dom bar) ≡ false) → (e : Event) → is_issue e ≡ true → moves e ≡ false
by_issue moves ar aw (Ar p i addr snoop dom bar lock) is = ar p i addr snoop dom bar lock
by_issue moves ar aw (Aw p i addr snoop dom bar) is = aw p i addr snoop dom bar
by_issue moves ar aw e is = cc

-- and what an R and a B leave, each event that answers one
pub by_response : (moves : Event → Bool) → ((p i resp : ℕ) (last : Bool) (word : ℕ) → moves (R p i resp last word) ≡ false)
    → ((p i resp : ℕ) → moves (B p i resp) ≡ false) → (e : Event) → is_response e ≡ true → moves e ≡ false
by_response moves r b (R p i resp last word) is = r p i resp last word
by_response moves r b (B p i resp) is = b p i resp
by_response moves r b e is = cc

-- What moves the monitors at most.
pub record MovesMonitors (e : Event) : Type 0 where
  pub barriers : moves_barriers e ≡ false
  pub results : moves_results e ≡ false
  pub registrations : moves_registrations e ≡ false
  pub messages : moves_messages e ≡ false
  pub inboxes : moves_inboxes e ≡ false
  pub syncs : moves_syncs e ≡ false

-- the event moves nothing of the system
abbrev pub moves_nothing : Event → Bool
moves_nothing (W p strb last word) = true
moves_nothing (Cd p last word) = true
moves_nothing (M p c i line) = true
moves_nothing (Op p k res) = true
moves_nothing (Mem addr line) = true
moves_nothing _ = false

moved-none : (e : Event) → moves_nothing e ≡ true → MovesMonitors e × (moves_monitors e ≡ false)
moved-none (W p strb last word) n = (record { barriers = refl; results = refl; registrations = refl; messages = refl; inboxes = refl; syncs = refl }, refl)
moved-none (Cd p last word) n = (record { barriers = refl; results = refl; registrations = refl; messages = refl; inboxes = refl; syncs = refl }, refl)
moved-none (M p c i line) n = (record { barriers = refl; results = refl; registrations = refl; messages = refl; inboxes = refl; syncs = refl }, refl)
moved-none (Op p k res) n = (record { barriers = refl; results = refl; registrations = refl; messages = refl; inboxes = refl; syncs = refl }, refl)
moved-none (Mem addr line) n = (record { barriers = refl; results = refl; registrations = refl; messages = refl; inboxes = refl; syncs = refl }, refl)
moved-none e n = cc

-- where an event doesn't move a group it is as it was, and else the group stands after it
abbrev pub Follows : {G : Type 0} → Bool → (G → Type 0) → G → G → Type 0
Follows moves Stand old new = ((moves ≡ false) × (new ≡ old)) ⊎ Stand new

follows : {G : Type 0} {moves : Bool} {old new : G} (Stand : G → Type 0) → (moves ≡ false → Stand old) → Follows moves Stand old new → Stand new
follows Stand still (inl same) = subst Stand (sym same.1) (still same.0)
follows Stand still (inr stands) = stands

-- what is kept stands after an accepted event, where each group does
pub system_follows : (s n : SysCheck) (r : Recording) (e : Event) → Stands s r → least_broken r.header r.past e ≡ None → length r.past < 2 ^ 64 - 1 → n.header ≡ s.header
    → Follows (moves_barriers e) (BarriersStand (after r e)) s.barriers n.barriers → Follows (moves_monitors e) (MonitorsStand (after r e)) s.monitors n.monitors
    → Follows (moves_results e) (ResultsStand (after r e)) s.results n.results
    → Follows (moves_registrations e) (RegistrationsStand (after r e)) s.registrations n.registrations
    → Follows (moves_messages e) (MessagesStand (after r e)) s.messages n.messages → Follows (moves_inboxes e) (InboxesStand (after r e)) s.inboxes n.inboxes
    → Follows (moves_syncs e) (SyncsStand (after r e)) s.syncs n.syncs → Stands n (after r e)
system_follows s n r e st fine few header barriers monitors results registrations messages inboxes syncs =
    let t = target_of r.header r.past e in
    let step : IsStep r e t = record { header = st.ports; accepted = (st.accepted, fine); target = refl; few = few } in
    record {
      header = header ∙ st.header;
      ports = st.ports;
      accepted = step.accepted;
      barriers = follows (BarriersStand (after r e)) (λ still. barriers_still r s.barriers e t step still st.barriers) barriers;
      monitors = follows (MonitorsStand (after r e)) (λ still. monitors_still r s.monitors e still st.monitors) monitors;
      results = follows (ResultsStand (after r e)) (λ still. results_still r s.results e still st.results) results;
      registrations = follows (RegistrationsStand (after r e)) (λ still. registrations_still r s.registrations e t step still st.registrations) registrations;
      messages = follows (MessagesStand (after r e)) (λ still. messages_still r s.messages e t step still st.messages) messages;
      inboxes = follows (InboxesStand (after r e)) (λ still. inboxes_still r s.inboxes e t step still st.inboxes) inboxes;
      syncs = follows (SyncsStand (after r e)) (λ still. syncs_still r s.syncs e t step still st.syncs) syncs;
    }

-- an event that moves the monitors at most
pub system_monitored : (s : SysCheck) (m : Monitors) (r : Recording) (e : Event) → MovesMonitors e → Stands s r → least_broken r.header r.past e ≡ None
    → length r.past < 2 ^ 64 - 1 → MonitorsStand (after r e) m → Stands (record s { monitors = m }) (after r e)
system_monitored s m r e still st fine few monitors =
    system_follows s (record s { monitors = m }) r e st fine few refl (inl (still.barriers, refl)) (inr monitors) (inl (still.results, refl)) (inl (still.registrations, refl))
    (inl (still.messages, refl)) (inl (still.inboxes, refl)) (inl (still.syncs, refl))

-- one that moves nothing
pub system_still : (s : SysCheck) (r : Recording) (e : Event) → moves_nothing e ≡ true → Stands s r → least_broken r.header r.past e ≡ None
    → length r.past < 2 ^ 64 - 1 → Stands s (after r e)
system_still s r e nothing st fine few =
    let n = moved-none e nothing in
    system_monitored s s.monitors r e n.0 st fine few (monitors_still r s.monitors e n.1 st.monitors)

-- an AC moves the messages and the inboxes at most
pub system_snooped : (s : SysCheck) (m : Messages) (i : Inboxes) (r : Recording) (p addr code : ℕ) → Stands s r → least_broken r.header r.past (Ac p addr code) ≡ None
    → length r.past < 2 ^ 64 - 1 → MessagesStand (after r (Ac p addr code)) m → InboxesStand (after r (Ac p addr code)) i
    → Stands (record s { messages = m; inboxes = i }) (after r (Ac p addr code))
system_snooped s m i r p addr code st fine few messages inboxes =
    system_follows s (record s { messages = m; inboxes = i }) r (Ac p addr code) st fine few refl (inl (refl, refl)) (inl (refl, refl)) (inl (refl, refl)) (inl (refl, refl))
    (inr messages) (inr inboxes) (inl (refl, refl))

-- an R or B the barriers and the messages
pub system_responded : (s : SysCheck) (b : Barriers) (n : Messages) (r : Recording) (e : Event) → Stands s r → least_broken r.header r.past e ≡ None
    → length r.past < 2 ^ 64 - 1 → is_response e ≡ true → BarriersStand (after r e) b → MessagesStand (after r e) n → Stands (record s { barriers = b; messages = n }) (after r e)
system_responded s b n r e st fine few is barriers messages =
    system_follows s (record s { barriers = b; messages = n }) r e st fine few refl (inr barriers) (inl (still moves_monitors (λ p i resp last word. refl) (λ p i resp. refl), refl))
    (inl (still moves_results (λ p i resp last word. refl) (λ p i resp. refl), refl)) (inl (still moves_registrations (λ p i resp last word. refl) (λ p i resp. refl), refl))
    (inr messages) (inl (still moves_inboxes (λ p i resp last word. refl) (λ p i resp. refl), refl)) (inl (still moves_syncs (λ p i resp last word. refl) (λ p i resp. refl), refl))
  where
    still : (moves : Event → Bool) → ((p i resp : ℕ) (last : Bool) (word : ℕ) → moves (R p i resp last word) ≡ false) → ((p i resp : ℕ) → moves (B p i resp) ≡ false) → moves e ≡ false
    still moves of_r of_b = by_response moves of_r of_b e is

-- an AR or AW neither the monitors nor the registrations
pub system_issued : (s : SysCheck) (b : Barriers) (n : Results) (m : Messages) (i : Inboxes) (y : Syncs) (r : Recording) (e : Event) → Stands s r
    → least_broken r.header r.past e ≡ None → length r.past < 2 ^ 64 - 1 → is_issue e ≡ true → BarriersStand (after r e) b → ResultsStand (after r e) n
    → MessagesStand (after r e) m → InboxesStand (after r e) i → SyncsStand (after r e) y
    → Stands (record s { barriers = b; results = n; messages = m; inboxes = i; syncs = y }) (after r e)
system_issued s b n m i y r e st fine few is barriers results messages inboxes syncs =
    system_follows s (record s { barriers = b; results = n; messages = m; inboxes = i; syncs = y }) r e st fine few refl (inr barriers)
    (inl (by_issue moves_monitors (λ p i addr snoop dom bar lock. refl) (λ p i addr snoop dom bar. refl) e is, refl)) (inr results)
    (inl (by_issue moves_registrations (λ p i addr snoop dom bar lock. refl) (λ p i addr snoop dom bar. refl) e is, refl)) (inr messages) (inr inboxes) (inr syncs)
