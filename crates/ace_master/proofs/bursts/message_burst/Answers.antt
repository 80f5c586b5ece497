use Rattle.std.proofs.Common.{◌≡◌, false, [], ◌∷◌, Some, None, sym, ap, ◌∙◌}
use Rattle.ace_codes.specs.declared.kind.ArKind.TheVariants as read
use Rattle.ace_event.specs.declared.event.Channel.TheVariants.{Read}
use Rattle.ace_event.specs.declared.event.Event.{Event}
use Rattle.ace_runs.specs.Requests.{free_on}
use Rattle.ace_master.specs.Asking.{only}
use Rattle.ace_master.specs.Issues.{ar_of}
use Rattle.ace_master.proofs.AskedBursts.MessageParts.{parts-are}
use Rattle.ace_master.proofs.bursts.message_burst.Goals as goal

pub returns-in_err-next : goal.returns-in_err-next
returns-in_err-next c = λ h past p s ids.
    let i = c.in_ok-id.id in
    let first : free_on h past p Read ≡ Some i = sym (c.free_on.ensures h past p ids) ∙ c.in_ok-id.was in
    parts-are h past p c.args.word c.args.second i None first (sym (c.free_on_beside.ensures h past p ids) ∙ c.in_err-next.was) ∙ ap only (sym c.from_residual-in_err-next.ensures)

pub returns : goal.returns
returns c = λ h past p s ids.
    let i = c.in_ok-id.id in
    let j = c.in_ok-next.next in
    let word = c.args.word in
    let second = c.args.second in
    let first : free_on h past p Read ≡ Some i = sym (c.free_on.ensures h past p ids) ∙ c.in_ok-id.was in
    let own = c.port.ensures ∙ s.port in
    let one : ar_of p i read.DvmMessage word false ≡ c.ar_of.result = ap (λ q. ar_of q i read.DvmMessage word false) (sym own) ∙ sym c.ar_of.ensures in
    let other : ar_of p j read.DvmMessage second false ≡ c.ar_of-2.result = ap (λ q. ar_of q j read.DvmMessage second false) (sym (c.port-2.ensures ∙ s.port)) ∙ sym c.ar_of-2.ensures in
    parts-are h past p word second i (Some j) first (sym (c.free_on_beside.ensures h past p ids) ∙ c.in_ok-next.was)
    ∙ ap (λ (e : Event). (e ∷ ar_of p j read.DvmMessage second false ∷ []) ∷ []) one ∙ ap (λ (e : Event). (c.ar_of.result ∷ e ∷ []) ∷ []) other
