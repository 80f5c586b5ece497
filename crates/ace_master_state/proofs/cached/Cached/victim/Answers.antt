use Rattle.std.proofs.Common.{◌≡◌, true, false, sym, ◌∙◌}
use Rattle.ace_master_state.proofs.AsManyHeld.{all-busy, idle-victim, room-is}
use Rattle.ace_master_state.proofs.cached.Cached.victim.Goals as goal

pub returns-then-has_room-clause-none : goal.returns-then-has_room-clause-none
returns-then-has_room-clause-none c = λ h ways past p l s none full some.
    let room = room-is h ways past p c.args.self.now.cache c.has_room.ensures.lawful s.ways s.lines in
    let bad : true ≡ false = sym c.if-has_room.true ∙ c.has_room.ensures.room ∙ room ∙ full in cc

pub returns-clause-idle : goal.returns-clause-idle
returns-clause-idle c = λ h ways past p l s is. idle-victim h past p c.args.self.now.cache l c.has_room.ensures.lawful s.lines (sym c.victim.ensures ∙ is)

pub returns-clause-none : goal.returns-clause-none
returns-clause-none c = λ h ways past p l s none full some.
    all-busy h past p c.args.self.now.cache l (sym c.has_room.ensures.room ∙ c.if-has_room.false) (sym c.victim.ensures ∙ none) s.lines some
