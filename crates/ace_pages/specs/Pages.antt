-- The pages that tell of the rules.
use Rattle.std.specs.Prelude.{ℕ, ◌++◌, if◌then◌else◌, ◌+◌, zero, suc, List, [], ◌∷◌, Option, Some, None, codes, decimal, flat_map, length, not, ◌==◌, Bool}
use Rattle.ace_clauses.specs.declared.letters.Letter.{Letter}
use Rattle.ace_clauses.specs.declared.letters.Letter.TheVariants.{A, B, C, D, E, F, G, H, I}
use Rattle.ace_pages.specs.Advice.{advice}
use Rattle.ace_pages.specs.declared.page.Page.{Page}
use Rattle.ace_words.specs.Breaks.{wrong_with}
use Rattle.ace_words.specs.Rules.{kept_where, rule_title}

abbrev pub letter_text : Letter → List ℕ
letter_text A = codes "a"
letter_text B = codes "b"
letter_text C = codes "c"
letter_text D = codes "d"
letter_text E = codes "e"
letter_text F = codes "f"
letter_text G = codes "g"
letter_text H = codes "h"
letter_text I = codes "i"

abbrev pub letters : List Letter
letters = A ∷ B ∷ C ∷ D ∷ E ∷ F ∷ G ∷ H ∷ I ∷ []

-- what a rule is called, as K12, and a clause of it, as K12d
unfoldable pub page_name : ℕ → Option Letter → List ℕ
page_name rule None = codes "K" ++ decimal rule
page_name rule (Some letter) = codes "K" ++ decimal rule ++ letter_text letter

-- a line: a name, a gap and a sentence
unfoldable pub line_of : List ℕ → List ℕ → List ℕ
line_of name sentence = name ++ codes "  " ++ sentence ++ codes "\n"

-- the line of a rule: its name and its title
unfoldable pub title_line : ℕ → List ℕ
title_line rule = line_of (page_name rule None) (rule_title rule)

-- the lines of a clause: its name and where it is kept, and what is wrong where it is broken
unfoldable pub kept_line : ℕ → Letter → List ℕ
kept_line rule letter =
    codes "  " ++ line_of (page_name rule (Some letter)) (kept_where rule letter)

unfoldable pub clause_lines : ℕ → Letter → List ℕ
clause_lines rule letter =
    kept_line rule letter ++ line_of (codes "        broken:") (wrong_with rule letter)

-- there is such a clause: some sentence says where it is kept
unfoldable pub is_clause : ℕ → Letter → Bool
is_clause rule letter = not (length (kept_where rule letter) == 0)

-- the lines of the clause, if there is one
unfoldable pub clause_part : ℕ → Letter → List ℕ
clause_part rule letter = if is_clause rule letter then clause_lines rule letter else []

-- what a page tells: of a rule, with where to look first when it is broken, or of one of its
-- clauses
abbrev pub clauses_text : ℕ → Option Letter → List ℕ
clauses_text rule None = flat_map (clause_part rule) letters ++ advice rule
clauses_text rule (Some letter) = clause_lines rule letter

abbrev pub page_text : Page → List ℕ
page_text page = title_line page.rule ++ clauses_text page.rule page.letter

-- the lines of the rules from one number on, so many of them
unfoldable pub titles_from : ℕ → ℕ → List ℕ
titles_from rule zero = []
titles_from rule (suc count) = title_line rule ++ titles_from (rule + 1) count

-- those of all rules, the least number first
unfoldable pub all_titles : List ℕ
all_titles = titles_from 1 40
