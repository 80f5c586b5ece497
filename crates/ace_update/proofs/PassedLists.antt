-- The list of the lines with passed data after an event.
use Rattle.std.proofs.Common.{◌≡◌, ◌≤◌, not, ◌&&◌, ◌||◌, ◌∷◌, sym, ap, subst, ◌∙◌, vec_capacity}
use Rattle.ace_event.specs.declared.event.Event.{Event}
use Rattle.ace_event.specs.declared.header.Header.{Header}
use Rattle.ace_model.specs.Accepted.{IsAccepted}
use Rattle.ace_model.specs.Trace.{Trace}
use Rattle.ace_portck.specs.Targets.{target_of}
use Rattle.ace_portck.specs.Target.{Target}
use Rattle.ace_update.specs.declared.passed.PassedLines.{PassedLines}
use Rattle.ace_update.specs.Passed.{PassedStand, adds, has_passed_on, is_among, most_lines, removes, times_among, with_line, without_line}
use Rattle.ace_update.proofs.LineLists.{among-after, once-after}
use Rattle.ace_update.proofs.PassedData.{names, passed-after}

pub stands-after : (h : Header) (past : Trace) (e : Event) → IsAccepted h (e ∷ past) → (was now : PassedLines) (t : Target) → t ≡ target_of h past e → PassedStand h past was
    → now.lines.items ≡ with_line (adds e t) (without_line (removes e t) was.lines.items) → most_lines ≤ vec_capacity now.lines → PassedStand h (e ∷ past) now
stands-after h past e a was now t target s items room = record {
  are = λ l.
      ap (is_among l) items ∙ among-after l (removes e t) (adds e t) was.lines.items
      ∙ ap (λ b. (b && not (names (removes e t) l)) || names (adds e t) l) (s.are l)
      ∙ ap (λ v. (has_passed_on h past l && not (names (removes e v) l)) || names (adds e v) l) target
      ∙ passed-after h past e a l;
  once = λ l. subst (λ ls. times_among l ls ≤ 1) (sym items) (once-after l (removes e t) (adds e t) was.lines.items (s.once l));
  room = room;
}
