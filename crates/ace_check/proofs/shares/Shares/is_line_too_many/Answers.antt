use Rattle.std.proofs.Common.{◌≡◌, true, false, refl, sym, ◌∙◌}
use Rattle.ace_check.proofs.Terms.{is_known, Recording}
use Rattle.ace_check.proofs.shares.Shares.is_line_too_many.Goals as goal

pub returns-then-not-knows : goal.returns-then-not-knows
returns-then-not-knows c = λ h past line s at.
    let r : Recording = record { header = h; past = past } in
    let known : is_known past line ≡ false = sym (c.knows.ensures r line s.lines at) ∙ c.if-not-knows.true in
    let lines = c.lines.ensures r s.lines in
    rw (known, lines) refl

pub returns-else-not-knows : goal.returns-else-not-knows
returns-else-not-knows c = λ h past line s at.
    let r : Recording = record { header = h; past = past } in
    let yes = c.if-not-knows.false in
    let known : is_known past line ≡ true = sym (c.knows.ensures r line s.lines at) ∙ yes in
    rw (yes, known) refl
