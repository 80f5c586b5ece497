use Rattle.std.proofs.Common.{◌≡◌, ◌∷◌, [], Some, false, sym, ap, subst, ◌∙◌}
use Rattle.ace_codes.specs.declared.kind.AwKind.TheVariants as write
use Rattle.ace_event.specs.declared.event.Channel.TheVariants.{Write}
use Rattle.ace_event.specs.declared.event.Event.{Event}
use Rattle.ace_tables.specs.States.{is_dirty}
use Rattle.ace_model.specs.AddressRules.{has_write}
use Rattle.ace_model.specs.Kinds.{is_unique_write}
use Rattle.ace_runs.specs.Requests.{drop_bursts, free_on, room_bursts}
use Rattle.ace_master.specs.Asking.{IsOneOf, events_of}
use Rattle.ace_master.specs.Issues.{aw_of}
use Rattle.ace_master.proofs.AskedBursts.RoomBursts.{clean-victim, dirty-victim, none-for-room, one-for-room}
use Rattle.ace_master.proofs.bursts.room_burst.Goals as goal

pub returns-in_err-line : goal.returns-in_err-line
returns-in_err-line c = λ h ways past p s ids lines full.
    subst (λ o. IsOneOf o (room_bursts h past p)) (sym c.from_residual-in_err-line.ensures)
    (none-for-room h past p (λ l held. c.victim.ensures.none h ways past p l lines c.in_err-line.was full held))

pub returns-then-is_dirty : goal.returns-then-is_dirty
returns-then-is_dirty c = λ h ways past p s ids lines full.
    let l = c.in_ok-line.line in
    let i = c.in_ok-id.id in
    let free : free_on h past p Write ≡ Some i = sym (c.free_on.ensures h past p ids) ∙ c.in_ok-id.was in
    let none : has_write h past p is_unique_write ≡ false = sym (c.has_unique_write.ensures h past p s) ∙ c.if-has_unique_write.false in
    let idle = c.victim.ensures.idle h ways past p l lines c.in_ok-line.was in
    let dirty = ap is_dirty (sym (c.state.ensures h ways past p lines)) ∙ sym c.is_dirty.ensures ∙ c.if-is_dirty.true in
    let event : aw_of p i write.WriteBack l ≡ c.aw_of.result = ap (λ q. aw_of q i write.WriteBack l) (sym (c.port.ensures ∙ s.port)) ∙ sym c.aw_of.ensures in
    one-for-room h past p i free none l (c.aw_of.result ∷ []) idle.0 idle.1 (dirty-victim h past p i free none l dirty ∙ ap (λ (e : Event). (e ∷ []) ∷ []) event)

pub returns-else-is_dirty : goal.returns-else-is_dirty
returns-else-is_dirty c = λ h ways past p s ids lines full.
    let l = c.in_ok-line.line in
    let i = c.in_ok-id.id in
    let free : free_on h past p Write ≡ Some i = sym (c.free_on.ensures h past p ids) ∙ c.in_ok-id.was in
    let none : has_write h past p is_unique_write ≡ false = sym (c.has_unique_write.ensures h past p s) ∙ c.if-has_unique_write.false in
    let idle = c.victim.ensures.idle h ways past p l lines c.in_ok-line.was in
    let clean = ap is_dirty (sym (c.state.ensures h ways past p lines)) ∙ sym c.is_dirty.ensures ∙ c.if-is_dirty.false in
    one-for-room h past p i free none l (events_of c.drop_burst.result) idle.0 idle.1
    (clean-victim h past p i free none l clean ∙ ap (λ q. drop_bursts q l) (sym s.port) ∙ c.drop_burst.ensures)
