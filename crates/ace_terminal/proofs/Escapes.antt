-- What is read of a painted text, where no ESC stands in the text.
use Rattle.std.proofs.Common.{◌≡◌, ◌≢◌, ◌==◌, ◌++◌, ◌∙◌, ℕ, List, [], ◌∷◌, true, false, if◌then◌else◌, take, drop, refl, ap, sym, subst, inl, inr, append_assoc, append-nil, take-append-drop}
use Rattle.std.proofs.lemmas.Bool.{cases_Bool, eqb-true, ne_eqb}
use Rattle.std.proofs.lemmas.List.Elements.{All-append, All-cons, All-drop, All-head, All-nil, All-tail, All-take}
use Rattle.ace_terminal.proofs.Lines.{line_ends, line_goes_on}
use Rattle.ace_terminal.specs.Looks.{look_of}
use Rattle.ace_terminal.specs.Painted.{bold_start, colour_start, in_style, painted, painted_as, painted_behind, painted_line, style_end}
use Rattle.ace_terminal.specs.Unpainted.{HasNoEscape, read_from, unpainted}
use Rattle.ace_terminal.specs.declared.looks.Colour.{Colour}
use Rattle.ace_terminal.specs.declared.looks.Colour.TheVariants.{Red, Blue}
use Rattle.ace_terminal.specs.declared.looks.Look.{Look}

-- whatever follows, these bytes are read as those
abbrev AreRead : List ℕ → List ℕ → Type 0
AreRead bytes told = (more : List ℕ) → read_from false (bytes ++ more) ≡ told ++ read_from false more

-- bytes without ESC are read as they are
read_plain : (bytes : List ℕ) → HasNoEscape bytes → AreRead bytes bytes
read_plain [] none more = refl
read_plain (b ∷ bytes) none more =
    ap (λ t. if t then read_from true (bytes ++ more) else b ∷ read_from false (bytes ++ more)) (ne_eqb b 27 (All-head (λ x. x ≢ 27) b bytes none))
    ∙ ap (λ it. b ∷ it) (read_plain bytes (All-tail (λ x. x ≢ 27) b bytes none) more)

read_both : (one two told others : List ℕ) → AreRead one told → AreRead two others → AreRead (one ++ two) (told ++ others)
read_both one two told others first second more =
    ap (read_from false) (append_assoc one two more)
    ∙ first (two ++ more)
    ∙ ap (λ it. told ++ it) (second more)
    ∙ sym (append_assoc told others (read_from false more))

read_bold : AreRead bold_start []
read_bold more = refl

read_colour : (colour : Colour) → AreRead (colour_start colour) []
read_colour Red more = refl
read_colour Blue more = refl

read_end : AreRead style_end []
read_end more = refl

read_style : (start bytes : List ℕ) → AreRead start [] → HasNoEscape bytes → AreRead (in_style start bytes) bytes
read_style start [] begins none more = refl
read_style start (b ∷ bytes) begins none more =
    let whole : AreRead (start ++ (b ∷ bytes) ++ style_end) (([] ++ (b ∷ bytes)) ++ []) =
    read_both (start ++ (b ∷ bytes)) style_end ([] ++ (b ∷ bytes)) []
    (read_both start (b ∷ bytes) [] (b ∷ bytes) begins (read_plain (b ∷ bytes) none)) read_end in
    subst (AreRead (start ++ (b ∷ bytes) ++ style_end)) (append-nil (b ∷ bytes)) whole more

-- the parts of a line, one after another, are the line
parts : (one two three : ℕ) (line : List ℕ) →
    take one line ++ take two (drop one line) ++ take three (drop two (drop one line)) ++ drop three (drop two (drop one line)) ≡ line
parts one two three line =
    append_assoc (take one line ++ take two (drop one line)) (take three (drop two (drop one line))) (drop three (drop two (drop one line)))
    ∙ ap (λ it. take one line ++ take two (drop one line) ++ it) (take-append-drop three (drop two (drop one line)))
    ∙ append_assoc (take one line) (take two (drop one line)) (drop two (drop one line))
    ∙ ap (λ it. take one line ++ it) (take-append-drop two (drop one line))
    ∙ take-append-drop one line

read_as : (look : Look) (line : List ℕ) → HasNoEscape line → AreRead (painted_as look line) line
unfolding painted_as
read_as look line none =
    let P : ℕ → Type 0 = λ b. b ≢ 27 in
    let rest : List ℕ = drop look.bold line in
    let behind : List ℕ = drop look.plain rest in
    let none_rest : HasNoEscape rest = All-drop P look.bold line none in
    let none_behind : HasNoEscape behind = All-drop P look.plain rest none_rest in
    let bold = read_style bold_start (take look.bold line) read_bold (All-take P look.bold line none) in
    let plain = read_plain (take look.plain rest) (All-take P look.plain rest none_rest) in
    let coloured = read_style (colour_start look.colour) (take look.coloured behind) (read_colour look.colour) (All-take P look.coloured behind none_behind) in
    let others = read_plain (drop look.coloured behind) (All-drop P look.coloured behind none_behind) in
    let one = read_both (in_style bold_start (take look.bold line)) (take look.plain rest) (take look.bold line) (take look.plain rest) bold plain in
    let two = read_both (in_style bold_start (take look.bold line) ++ take look.plain rest) (in_style (colour_start look.colour) (take look.coloured behind))
    (take look.bold line ++ take look.plain rest) (take look.coloured behind) one coloured in
    let three = read_both (in_style bold_start (take look.bold line) ++ take look.plain rest ++ in_style (colour_start look.colour) (take look.coloured behind))
    (drop look.coloured behind) (take look.bold line ++ take look.plain rest ++ take look.coloured behind) (drop look.coloured behind) two others in
    subst (AreRead (in_style bold_start (take look.bold line) ++ take look.plain rest ++ in_style (colour_start look.colour) (take look.coloured behind) ++ drop look.coloured behind))
    (parts look.bold look.plain look.coloured line) three

read_line : (line : List ℕ) → HasNoEscape line → AreRead (painted_line line) line
unfolding painted_line
read_line line none = read_as (look_of line) line none

-- a line feed between a line and what is read of the others
read_next : (front text painted_text : List ℕ) → AreRead (painted_line front) front → AreRead painted_text text → AreRead (painted_line front ++ 10 ∷ painted_text) (front ++ 10 ∷ text)
read_next front text painted_text first second =
    read_both (painted_line front) (10 ∷ painted_text) front (10 ∷ text) first (λ more. ap (λ it. 10 ∷ it) (second more))

read_ended : (front text : List ℕ) (b : ℕ) → (b == 10) ≡ true → AreRead (painted_line front ++ 10 ∷ painted_behind [] text) (front ++ 10 ∷ text)
    → AreRead (painted_behind front (b ∷ text)) (front ++ b ∷ text)
read_ended front text b met is more =
    ap (λ it. read_from false (it ++ more)) (line_ends front text b met)
    ∙ is more
    ∙ ap (λ it. (front ++ it ∷ text) ++ read_from false more) (sym (eqb-true b 10 met))

read_going_on : (front text : List ℕ) (b : ℕ) → (b == 10) ≡ false → AreRead (painted_behind (front ++ b ∷ []) text) ((front ++ b ∷ []) ++ text)
    → AreRead (painted_behind front (b ∷ text)) (front ++ b ∷ text)
read_going_on front text b unmet is more =
    ap (λ it. read_from false (it ++ more)) (line_goes_on front text b unmet)
    ∙ is more
    ∙ ap (λ it. it ++ read_from false more) (append_assoc front (b ∷ []) text)

read_behind : (front text : List ℕ) → HasNoEscape front → HasNoEscape text → AreRead (painted_behind front text) (front ++ text)
read_behind front [] none_front none = subst (AreRead (painted_line front)) (sym (append-nil front)) (read_line front none_front)
read_behind front (b ∷ text) none_front none =
    let P : ℕ → Type 0 = λ it. it ≢ 27 in
    let none_text : HasNoEscape text = All-tail P b text none in
    elim (cases_Bool (b == 10)) [
      | inl met ↦ read_ended front text b met (read_next front text (painted_behind [] text) (read_line front none_front) (read_behind [] text (All-nil P) none_text))
      | inr unmet ↦ read_going_on front text b unmet (read_behind (front ++ b ∷ []) text (All-append P front (b ∷ []) none_front (All-cons P b [] (All-head P b text none) (All-nil P))) none_text)
    ]

-- a painted text is read as the text
pub read_painted : (text : List ℕ) → HasNoEscape text → unpainted (painted text) ≡ text
unfolding unpainted painted
read_painted text none =
    sym (ap (read_from false) (append-nil (painted_behind [] text)))
    ∙ read_behind [] text (All-nil (λ b. b ≢ 27)) none []
    ∙ append-nil text
