use Rattle.std.proofs.Common.{Option, ℕ, refl, subst, ap, ◌∙◌, option_map, inl, inr}
use Rattle.std.specs.BTreeMap.{get}
use Rattle.std.specs.Ordering.{nat_cmp}
use Rattle.ace_model.specs.Transactions.{issued}
use Rattle.ace_portck.specs.Targets.{begun, line_of}
use Rattle.ace_cert_make.specs.Tracks.{changed_to}
use Rattle.ace_cert_make.proofs.Heard.{Named, heard-changed, heard-named, not-address, on_ok}
use Rattle.ace_cert_make.proofs.lines.hear_line.Goals as goal

pub returns-in-Ar : goal.returns-in-Ar
returns-in-Ar c = λ h past t s n number.
    let a = c.args in
    let place = c.place.ensures (record { header = h; past = past }) t in
    let line = c.line_begun.ensures ∙ ap (λ k. line_of (option_map begun (issued k a.event.now))) place in
    on_ok c.name_line.result
    (λ named. heard-named h past a.event.now a.lines.now c.name_line.new.lines
    (elim c.in-Ar.is [
      | inl x ↦ rw x.7 refl
      | inr y ↦ rw y.6 refl
    ]) n.accepted s (subst (λ (o : Option ℕ). Named o a.lines.now c.name_line.new.lines) line named)) c.name_line.ensures

pub returns-in_default : goal.returns-in_default
returns-in_default c = λ h past t s n number.
    let a = c.args in
    on_ok c.change_line.result
    (λ changed. heard-changed past a.event.now c.change_of.result a.lines.now c.change_line.new.lines
    (not-address a.event.now c.in_default.not-Ar c.in_default.not-Aw) (c.change_of.ensures h past t n) s
    (λ l. changed l ∙ ap (λ k. option_map (changed_to c.change_of.result k l) (get nat_cmp a.lines.now l)) number)) c.change_line.ensures
