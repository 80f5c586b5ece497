-- Where the input failed in the header, no header stands whole in what was taken.
use Rattle.std.proofs.Common.{◌≡◌, ℕ, List, [], ◌++◌, Option, refl, ◌∙◌, append-nil, inr}
use Rattle.std.specs.Io.KnownBytes.{Consumes}
use Rattle.std.proofs.KnownBytes.{Consumes-trans}
use Rattle.ace_event.specs.Text.{line_text, version_text}
use Rattle.ace_io.specs.Line.{HasNoLf, IsPending}
use Rattle.ace_grammar.specs.Errors.{TakesFront}
use Rattle.ace_grammar.specs.Reading.{TakesNoHeader, ports_text}
use Rattle.ace_grammar.proofs.FirstLines.Cut.{no_line, header_lines, behind_version, version_taken}

-- bytes without a line feed are no line and what comes after it
no_lf : (taken line rest : List ℕ) → HasNoLf taken → taken ≡ line_text line ++ rest → ⊥
no_lf taken line rest none e = no_line taken [] line rest none (inr refl) (append-nil taken ∙ e)

-- it failed in the first line
pub failed_first : (old new : Option (List ℕ)) → IsPending old new → TakesNoHeader old new
failed_first old new (taken, none, short, consumed) =
    (taken, consumed, λ header is (rest, e). no_lf taken (version_text header.version) (line_text (ports_text header) ++ rest) none (header_lines taken rest header e))

-- it failed in the second line
pub failed_second : (version : ℕ) (old mid new : Option (List ℕ)) → Consumes old mid (line_text (version_text version)) → IsPending mid new → TakesNoHeader old new
failed_second version old mid new first (taken, none, short, consumed) = (
  line_text (version_text version) ++ taken,
  Consumes-trans old mid new _ _ first consumed,
  λ header is (rest, e).
      no_lf taken (ports_text header) rest none
      (behind_version version header.version taken (line_text (ports_text header) ++ rest) (header_lines (line_text (version_text version) ++ taken) rest header e)).1,
)

-- the same, with the first line as it was compared
pub failed_behind_version : (version : ℕ) (old mid new : Option (List ℕ)) (bytes line : List ℕ) → version_text version ≡ bytes → bytes ≡ line → Consumes old mid (line_text line)
    → IsPending mid new → TakesNoHeader old new
failed_behind_version version old mid new bytes line text is first pending =
    failed_second version old mid new (version_taken version old mid bytes line text is first) pending

-- more was taken behind the first line
pub front_behind : (old mid new : Option (List ℕ)) (text : List ℕ) → Consumes old mid text → TakesFront mid new → TakesFront old new
front_behind old mid new text first front = record { taken = text ++ front.taken; consumed = Consumes-trans old mid new _ _ first front.consumed }

pub ruleset no_header = (failed_first, front_behind)
