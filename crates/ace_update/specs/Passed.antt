-- The lines whose granted transactions have passed data.
use Rattle.std.specs.Prelude.{ℕ, ◌≡◌, ◌≤◌, ◌+◌, Bool, not, ◌==◌, if◌then◌else◌, List, [], ◌∷◌, ◌++◌, filter, vec_capacity, Option, Some, None}
use Rattle.std.specs.List.{list_any}
use Rattle.ace_codes.specs.Responses.{passes_dirty}
use Rattle.ace_event.specs.declared.event.Event.{Event}
use Rattle.ace_event.specs.declared.event.Event.TheVariants.{Cr, M, Rk}
use Rattle.ace_event.specs.declared.header.Header.{Header}
use Rattle.ace_model.specs.Trace.{Trace, is_some_and}
use Rattle.ace_model.specs.Grants.{granted, has_passed_data}
use Rattle.ace_portck.specs.Target.{Target}
use Rattle.ace_update.specs.declared.passed.PassedLines.{PassedLines}

-- the granted transaction of the line has passed data
abbrev pub has_passed_on : Header → Trace → ℕ → Bool
has_passed_on h past l = is_some_and (granted h past l) (has_passed_data h past)

-- how often the line is in the list
abbrev pub times_among : ℕ → List ℕ → ℕ
times_among l [] = 0
times_among l (k ∷ lines) = if k == l then times_among l lines + 1 else times_among l lines

-- the line is one of the list
abbrev pub is_among : ℕ → List ℕ → Bool
is_among l lines = list_any (λ k. k == l) lines

-- one more than a plan can have granted lines
abbrev pub most_lines : ℕ
most_lines = 12289

pub record PassedStand (h : Header) (past : Trace) (s : PassedLines) : Type 0 where
  pub are : (l : ℕ) → is_among l s.lines.items ≡ has_passed_on h past l
  pub once : (l : ℕ) → times_among l s.lines.items ≤ 1
  pub room : most_lines ≤ vec_capacity s.lines

-- the line whose granted transaction has passed data from the event on
abbrev pub adds : Event → Target → Option ℕ
adds (Cr p resp st) t = if passes_dirty resp then t.line else None
adds _ t = None

-- the line whose granted transaction has none from the event on
abbrev pub removes : Event → Target → Option ℕ
removes (M p c i line) t = t.line
removes (Rk p st) t = t.line
removes _ t = None

-- the other lines of the list
abbrev pub without_line : Option ℕ → List ℕ → List ℕ
without_line None lines = lines
without_line (Some l) lines = filter (λ k. not (k == l)) lines

-- the list with the line
abbrev pub with_line : Option ℕ → List ℕ → List ℕ
with_line None lines = lines
with_line (Some l) lines = if is_among l lines then lines else lines ++ l ∷ []
