-- The pieces of a line.
use Rattle.std.proofs.Common.{◌≡◌, ◌++◌, ◌∙◌, ℕ, Bool, List, [], ap, append-nil, append_assoc, codes, if◌then◌else◌, sym}
use Rattle.ace_explanation.specs.Texts.{accepted_text, verdict_line, verdict_text}
use Rattle.ace_outstanding.specs.Words.{outstanding_note}
use Rattle.ace_verdict.specs.declared.verdict.Verdict.TheVariants.{Accepted}

pub ruleset lines = (append-nil)

-- a note behind the four of a line
pub five_pieces : (a b c d e : List ℕ) → a ++ (b ++ (c ++ (d ++ (e ++ [])))) ≡ (a ++ (b ++ (c ++ d))) ++ e
five_pieces a b c d e =
    ap (λ t. a ++ (b ++ (c ++ (d ++ t)))) (append-nil e)
    ∙ ap (λ t. a ++ (b ++ t)) (sym (append_assoc c d e))
    ∙ ap (λ t. a ++ t) (sym (append_assoc b (c ++ d) e))
    ∙ sym (append_assoc a (b ++ (c ++ d)) e)

-- the line of an accepted trace, and its note
pub noted_text : (name : List ℕ) (short : Bool) (events outstanding : ℕ) (line note : List ℕ) → line ≡ verdict_text (Accepted events)
    → note ≡ (if short then [] else outstanding_note outstanding)
    → (name ++ (codes ": " ++ (line ++ codes "\n"))) ++ note ≡ accepted_text name short events outstanding
noted_text name short events outstanding line note one two =
    ap (λ t. (name ++ (codes ": " ++ (t ++ codes "\n"))) ++ note) one ∙ ap (λ t. verdict_line name (Accepted events) ++ t) two
