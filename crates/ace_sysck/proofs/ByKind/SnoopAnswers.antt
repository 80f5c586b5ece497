-- A CR: what it answers, and what it leaves of the system.
use Rattle.std.proofs.Common.{◌≡◌, ◌<◌, ◌-◌, ◌^◌, ℕ, length, Option, Some, None, get_or, slice_set, inl, inr, refl, sym, ap, ◌∙◌}
use Rattle.ace_sysck.proofs.Terms.{SnoopKind, LineState, Snoop, least_broken, Cr, ac_kind_of, is_message_snoop, is_some_and, IsAnswered, Recording, after, line_in, line_of_snoop, target_of, Inboxes, Monitors, Syncs, SysCheck, InboxesStand, answers_message, MonitorsStand, kept_after, Stands, IsStep, SyncsStand}
use Rattle.ace_sysck.proofs.MonitorSteps.{left_at, monitors_leave}
use Rattle.ace_sysck.proofs.Steps.{port_within}
use Rattle.ace_sysck.proofs.Unmoved.{system_follows}

module _ (r : Recording) (p resp : ℕ) (st : LineState) where
  pub answer-step : (s : SysCheck) → Stands s r → least_broken r.header r.past (Cr p resp st) ≡ None → length r.past < 2 ^ 64 - 1
      → IsStep r (Cr p resp st) (target_of r.header r.past (Cr p resp st))
  answer-step s stands fine few = record { header = stands.ports; accepted = (stands.accepted, fine); target = refl; few = few }

  -- it answers a part of a message where the snoop is an AC DVM Message
  pub answers-kind : (x : Snoop) (k : SnoopKind) → IsAnswered r.past p x k → answers_message (target_of r.header r.past (Cr p resp st)) ≡ is_message_snoop k
  answers-kind x k is =
      ap (λ o. is_some_and o (λ (s : Snoop). is_some_and (ac_kind_of s.snoop) is_message_snoop)) is.next
      ∙ ap (λ o. is_some_and o is_message_snoop) is.kind

  -- its port is left in the state of the line of the snoop
  pub monitors-answer : (s t : Monitors) (x : Snoop) (k : SnoopKind) (line : Option ℕ) → IsStep r (Cr p resp st) (target_of r.header r.past (Cr p resp st)) → IsAnswered r.past p x k
      → line ≡ line_of_snoop (Some x) → MonitorsStand r s → t.lines.items ≡ slice_set s.lines.items p (kept_after (get_or s.lines.items p None) line st)
      → MonitorsStand (after r (Cr p resp st)) t
  monitors-answer s t x k line step is at stands items =
      let on : line ≡ line_in r.header r.past (Cr p resp st) = at ∙ ap line_of_snoop (sym is.next) in
      let left = left_at r.header r.past (Cr p resp st) p st step.accepted refl in
      monitors_leave r s t (Cr p resp st) p line st stands (port_within r.header r.past (Cr p resp st) p step.accepted refl) (rw on left.0) items

  -- the rest is as it was, but for the forwarded messages
  pub system-answer : (s : SysCheck) (m : Monitors) (i : Inboxes) (y : Syncs) → Stands s r → least_broken r.header r.past (Cr p resp st) ≡ None → length r.past < 2 ^ 64 - 1
      → MonitorsStand (after r (Cr p resp st)) m → InboxesStand (after r (Cr p resp st)) i → SyncsStand (after r (Cr p resp st)) y
      → Stands (record s { monitors = m; inboxes = i; syncs = y }) (after r (Cr p resp st))
  system-answer s m i y stands fine few monitors inboxes syncs =
      system_follows s (record s { monitors = m; inboxes = i; syncs = y }) r (Cr p resp st) stands fine few refl (inl (refl, refl)) (inr monitors) (inl (refl, refl)) (inl (refl, refl))
      (inl (refl, refl)) (inr inboxes) (inr syncs)
