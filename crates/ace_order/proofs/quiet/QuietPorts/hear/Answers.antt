use Rattle.std.proofs.Common.{◌≡◌, ℕ, true, false, ◌∷◌, subst}
use Rattle.ace_order.specs.declared.quiet.QuietPorts.{QuietPorts}
use Rattle.ace_order.specs.Quiet.{has_dvm, is_quiet}
use Rattle.ace_order.proofs.WithoutDvm.{quiet-but, quiet-still}
use Rattle.ace_order.proofs.quiet.QuietPorts.hear.Goals.{in-Some, in_default}
use Rattle.ace_order.proofs.quiet.QuietPorts.hear.Goals as goal

pub returns-in-Rk : goal.returns-in-Rk
returns-in-Rk c = λ h past a ports was.
    let e = c.args.event.now in
    let kept : (p : ℕ) → is_quiet c.match-sender.self p ≡ true → has_dvm h (e ∷ past) p ≡ false = λ p now. elim c.match-sender.branch [
      | in-Some w ↦
          quiet-but h past e a c.args.self.now was c.sender.result c.sender.ensures w.set.new.self w.in-Some.port w.in-Some.is w.set.ensures p
          (subst (λ (v : QuietPorts). is_quiet v p ≡ true) w.self-is now)
      | in_default w ↦
          quiet-still h past e a c.args.self.now was c.sender.result c.sender.ensures w.in_default.not-Some p (subst (λ (v : QuietPorts). is_quiet v p ≡ true) w.self-is now)
    ] in
    c.look.ensures h (e ∷ past) ports kept

pub returns-in_default-event : goal.returns-in_default-event
returns-in_default-event c = λ h past a ports was p now.
    let e = c.args.event.now in elim c.match-sender.branch [
      | in-Some w ↦
          quiet-but h past e a c.args.self.now was c.sender.result c.sender.ensures w.set.new.self w.in-Some.port w.in-Some.is w.set.ensures p
          (subst (λ (v : QuietPorts). is_quiet v p ≡ true) w.self-is now)
      | in_default w ↦
          quiet-still h past e a c.args.self.now was c.sender.result c.sender.ensures w.in_default.not-Some p (subst (λ (v : QuietPorts). is_quiet v p ≡ true) w.self-is now)
    ]
