-- Words that select events, and words that don't.
use Rattle.std.proofs.Common.{◌≡◌, ◌≤◌, ◌<◌, ◌∙◌, ◌∷◌, [], ℕ, List, Bool, true, Option, None, Some, MatchOption, length, slice_set, ap, arith, sym, subst}
use Rattle.std.proofs.lemmas.List.Splits.{slice_split_first, slice_split_none}
use Rattle.std.proofs.lemmas.List.Sums.{fails_before_first}
use Rattle.ace_call.specs.Number.{IsNumber}
use Rattle.ace_tool.proofs.OneAsked.{same_number}
use Rattle.ace_chart_rows.specs.declared.selection.Selection.{Selection}
use Rattle.ace_tool.specs.ChartOptions.{ChartGiven}
use Rattle.ace_tool.specs.ChartSelected.{AreEnds, ArePorts, IsPointed, IsPort, IsSpan, NamePorts, Selects, is_comma, is_point}
use Rattle.std.specs.List.{after_first, before_first, position_or_len, slice_split}

-- no other numbers are out of order
pub out_of_order : (front back : List ℕ) (a b first last : ℕ) → IsNumber front a → IsPointed back b → ¬ (a ≤ b) → ¬ AreEnds front back first last
out_of_order front back a b first last one other none is =
    let same : first ≡ a = same_number front first a is.0 one in
    let also : last ≡ b = same_number (after_first is_point back) last b is.1.2 other.2 in
    none (subst (λ n. n ≤ b) same (subst (λ n. first ≤ n) also is.2))

-- the range, if it is in order
pub range_goal : (front back : List ℕ) (a b : ℕ) (r : Option (ℕ × ℕ)) → IsNumber front a → IsPointed back b
    → MatchOption r (¬ (a ≤ b)) (λ r. (r.0 ≡ a) × (r.1 ≡ b) × (a ≤ b))
    → MatchOption r ((first last : ℕ) → ¬ AreEnds front back first last) (λ r. AreEnds front back r.0 r.1)
range_goal front back a b None one other none = λ first last. out_of_order front back a b first last one other none
range_goal front back a b (Some r) one other (first, last, few) = (
  subst (IsNumber front) (sym first) one,
  subst (IsPointed back) (sym last) other,
  subst (λ n. n ≤ r.1) (sym first) (subst (λ m. a ≤ m) (sym last) few),
)

-- a number from 32 on is that of no port
pub no_port : (word : List ℕ) (n p : ℕ) → IsNumber word n → 32 ≤ n → ¬ IsPort word p
no_port word n p one many is =
    let same : p ≡ n = same_number word p n is.0 one in
    absurd (omega (arith, many, is.1, same))

pub ruleset ports = (no_port)

-- a word that is cut at its first comma
cut : (word first others : List ℕ) → first ≡ before_first is_comma word → others ≡ after_first is_comma word
    → position_or_len is_comma word < length word → slice_split is_comma word ≡ first ∷ slice_split is_comma others
cut word first others front behind inside =
    slice_split_first is_comma word 0 inside ∙ ap (λ (w : List ℕ). w ∷ slice_split is_comma (after_first is_comma word)) (sym front)
    ∙ ap (λ (w : List ℕ). first ∷ slice_split is_comma w) (sym behind)

-- a word without a comma
uncut : (word : List ℕ) → position_or_len is_comma word ≡ length word → slice_split is_comma word ≡ word ∷ []
uncut word none = slice_split_none is_comma word (λ k d l. fails_before_first is_comma word k d (subst (λ n. k < n) (sym none) l))

-- the middle has the port of the word beside those so far
abbrev pub HasPort : List ℕ → List Bool → List Bool → Type 0
HasPort word so_far middle = (p : ℕ) × IsPort word p × (middle ≡ slice_set so_far p true)

-- the words behind the first name the ports where all do
named : (first : List ℕ) (rest : List (List ℕ)) (so_far middle : List Bool) (r : Option (List Bool)) → HasPort first so_far middle
    → MatchOption r ((ports : List Bool) → ¬ NamePorts rest middle ports) (NamePorts rest middle)
    → MatchOption r ((ports : List Bool) → ¬ NamePorts (first ∷ rest) so_far ports) (NamePorts (first ∷ rest) so_far)
named first rest so_far middle None one none = λ ports all.
    none ports (subst (λ m. NamePorts rest m ports) (ap (λ q. slice_set so_far q true) (same_number first all.0 one.0 all.1.0 one.1.0) ∙ sym one.2) all.2)
named first rest so_far middle (Some chosen) one behind = (one.0, one.1, subst (λ m. NamePorts rest m chosen) one.2 behind)

-- so where the word is cut
pub cut_goal : (word first others : List ℕ) (so_far middle : List Bool) (r : Option (List Bool)) → first ≡ before_first is_comma word
    → others ≡ after_first is_comma word → position_or_len is_comma word < length word → HasPort first so_far middle
    → MatchOption r ((ports : List Bool) → ¬ NamePorts (slice_split is_comma others) middle ports) (NamePorts (slice_split is_comma others) middle)
    → MatchOption r ((ports : List Bool) → ¬ NamePorts (slice_split is_comma word) so_far ports) (NamePorts (slice_split is_comma word) so_far)
cut_goal word first others so_far middle r front behind inside one rest =
    subst (λ parts. MatchOption r ((ports : List Bool) → ¬ NamePorts parts so_far ports) (NamePorts parts so_far)) (sym (cut word first others front behind inside))
    (named first (slice_split is_comma others) so_far middle r one rest)

-- and none where the first names no port
pub cut_none : (word first others : List ℕ) (so_far : List Bool) → first ≡ before_first is_comma word
    → others ≡ after_first is_comma word → position_or_len is_comma word < length word → ((p : ℕ) → ¬ IsPort first p)
    → (ports : List Bool) → ¬ NamePorts (slice_split is_comma word) so_far ports
cut_none word first others so_far front behind inside none ports all =
    let whole : NamePorts (first ∷ slice_split is_comma others) so_far ports =
    subst (λ parts. NamePorts parts so_far ports) (cut word first others front behind inside) all in
    none whole.0 whole.1

-- a word without a comma names one port
one_port : (word : List ℕ) (so_far : List Bool) (r : Option (List Bool)) → MatchOption r ((p : ℕ) → ¬ IsPort word p) (HasPort word so_far)
    → MatchOption r ((ports : List Bool) → ¬ NamePorts (word ∷ []) so_far ports) (NamePorts (word ∷ []) so_far)
one_port word so_far None none = λ ports all. none all.0 all.1
one_port word so_far (Some chosen) one = one

pub uncut_goal : (word : List ℕ) (so_far : List Bool) (r : Option (List Bool)) → position_or_len is_comma word ≡ length word
    → MatchOption r ((p : ℕ) → ¬ IsPort word p) (HasPort word so_far)
    → MatchOption r ((ports : List Bool) → ¬ NamePorts (slice_split is_comma word) so_far ports) (NamePorts (slice_split is_comma word) so_far)
uncut_goal word so_far r none one =
    subst (λ parts. MatchOption r ((ports : List Bool) → ¬ NamePorts parts so_far ports) (NamePorts parts so_far)) (sym (uncut word none))
    (one_port word so_far r one)

-- options that select no events: none in a range
pub no_span : (given : ChartGiven) (s : Selection) → ((first last : ℕ) → ¬ IsSpan given.events given.around first last) → ¬ Selects given s
no_span given s none is = none s.first s.last is.span

-- or none of ports
pub no_ports : (given : ChartGiven) (s : Selection) → ((ports : Option (List Bool)) → ¬ ArePorts given.port ports) → ¬ Selects given s
no_ports given s none is = none s.ports is.ports

pub ruleset selections = (no_span, no_ports)
