-- A text that is painted line by line, step by step.
use Rattle.std.proofs.Common.{◌≡◌, ◌==◌, ◌+◌, ◌-◌, ◌<◌, ◌≤◌, ◌++◌, ◌∙◌, ℕ, List, [], ◌∷◌, true, false, if◌then◌else◌, length, take, drop, get_or, refl, ap, sym, add-one, append_assoc, arith, drop-cons, eq-eqb, ne_eqb}
use Rattle.std.proofs.lemmas.Grind.{common_steps}
use Rattle.std.proofs.lemmas.List.{drop_all, get_or-drop, take_more, take_all}
use Rattle.ace_terminal.specs.Painted.{painted, painted_behind, painted_line}

-- what is still to be painted: the line that began at a place is read up to another
unfoldable pub still_painted : List ℕ → ℕ → ℕ → List ℕ
still_painted text start place = painted_behind (take (place - start) (drop start text)) (drop place text)

pub still_all : (text : List ℕ) → still_painted text 0 0 ≡ painted text
unfolding still_painted painted
still_all text = refl

pub line_goes_on : (front text : List ℕ) (b : ℕ) → (b == 10) ≡ false → painted_behind front (b ∷ text) ≡ painted_behind (front ++ b ∷ []) text
line_goes_on front text b unmet = ap (λ t. if t then painted_line front ++ 10 ∷ painted_behind [] text else painted_behind (front ++ b ∷ []) text) unmet

pub line_ends : (front text : List ℕ) (b : ℕ) → (b == 10) ≡ true → painted_behind front (b ∷ text) ≡ painted_line front ++ 10 ∷ painted_behind [] text
line_ends front text b met = ap (λ t. if t then painted_line front ++ 10 ∷ painted_behind [] text else painted_behind (front ++ b ∷ []) text) met

split : (text : List ℕ) (place : ℕ) → place < length text → drop place text ≡ get_or text place 0 ∷ drop (place + 1) text
split text place within = rw add-one (drop-cons text place 0 within)

longer : (text : List ℕ) (start place : ℕ) → start ≤ place → place < length text
    → take (place + 1 - start) (drop start text) ≡ take (place - start) (drop start text) ++ get_or text place 0 ∷ []
longer text start place le within =
    let count : place + 1 - start ≡ place - start + 1 = omega arith in
    let there : place - start < length (drop start text) = grind (arith, common_steps) in
    let at : start + (place - start) ≡ place = omega arith in
    ap (λ n. take n (drop start text)) count
    ∙ take_more (drop start text) (place - start) 0 there
    ∙ ap (λ b. take (place - start) (drop start text) ++ b ∷ []) (get_or-drop start text (place - start) 0 ∙ ap (λ n. get_or text n 0) at)

-- the line goes on
pub still_on : (text : List ℕ) (start place : ℕ) → start ≤ place → place < length text → (get_or text place 0 == 10) ≡ false
    → still_painted text start place ≡ still_painted text start (place + 1)
unfolding still_painted
still_on text start place le within unmet =
    ap (painted_behind (take (place - start) (drop start text))) (split text place within)
    ∙ line_goes_on (take (place - start) (drop start text)) (drop (place + 1) text) (get_or text place 0) unmet
    ∙ ap (λ front. painted_behind front (drop (place + 1) text)) (sym (longer text start place le within))

-- the line ends
pub still_line : (text : List ℕ) (start place : ℕ) → place < length text → (get_or text place 0 == 10) ≡ true
    → still_painted text start place ≡ painted_line (take (place - start) (drop start text)) ++ 10 ∷ still_painted text (place + 1) (place + 1)
unfolding still_painted
still_line text start place within met =
    let zero : place + 1 - (place + 1) ≡ 0 = omega arith in
    let none : take (place + 1 - (place + 1)) (drop (place + 1) text) ≡ [] = ap (λ n. take n (drop (place + 1) text)) zero in
    ap (painted_behind (take (place - start) (drop start text))) (split text place within)
    ∙ line_ends (take (place - start) (drop start text)) (drop (place + 1) text) (get_or text place 0) met
    ∙ ap (λ front. painted_line (take (place - start) (drop start text)) ++ 10 ∷ painted_behind front (drop (place + 1) text)) (sym none)

-- the text ends
pub still_end : (text : List ℕ) (start place : ℕ) → place ≡ length text → still_painted text start place ≡ painted_line (drop start text)
unfolding still_painted
still_end text start place is =
    let none : drop place text ≡ [] = drop_all place text (omega (arith, is)) in
    let fits : length (drop start text) ≤ place - start = grind (arith, common_steps) in
    ap (painted_behind (take (place - start) (drop start text))) none ∙ ap painted_line (take_all (place - start) (drop start text) fits)

-- ---- what the code does at each byte, and behind the last

pub line_ended : (text done new : List ℕ) (start place next : ℕ) → place < length text → get_or text place 0 ≡ 10
    → done ++ still_painted text start place ≡ painted text → next ≡ place + 1
    → new ≡ (done ++ painted_line (take (place - start) (drop start text))) ++ 10 ∷ []
    → new ++ still_painted text next (place + 1) ≡ painted text
line_ended text done new start place next within feed whole next_is new_is =
    let line : List ℕ = painted_line (take (place - start) (drop start text)) in
    let rest : List ℕ = still_painted text (place + 1) (place + 1) in
    ap (λ n. new ++ still_painted text n (place + 1)) next_is
    ∙ ap (λ it. it ++ rest) new_is
    ∙ append_assoc (done ++ line) (10 ∷ []) rest
    ∙ append_assoc done line (10 ∷ rest)
    ∙ ap (λ it. done ++ it) (sym (still_line text start place within (eq-eqb (get_or text place 0) 10 feed)))
    ∙ whole

pub line_unended : (text done new : List ℕ) (start place next : ℕ) → start ≤ place → place < length text → (get_or text place 0 ≡ 10 → ⊥)
    → done ++ still_painted text start place ≡ painted text → next ≡ start → new ≡ done
    → new ++ still_painted text next (place + 1) ≡ painted text
line_unended text done new start place next le within unfed whole next_is new_is =
    ap (λ n. new ++ still_painted text n (place + 1)) next_is
    ∙ ap (λ it. it ++ still_painted text start (place + 1)) new_is
    ∙ ap (λ it. done ++ it) (sym (still_on text start place le within (ne_eqb (get_or text place 0) 10 unfed)))
    ∙ whole

pub text_ended : (text done new : List ℕ) (start place : ℕ) → place ≡ length text
    → done ++ still_painted text start place ≡ painted text
    → new ≡ done ++ painted_line (take (length text - start) (drop start text))
    → new ≡ painted text
text_ended text done new start place is whole new_is =
    let all : take (length text - start) (drop start text) ≡ drop start text = take_all (length text - start) (drop start text) (grind (arith, common_steps)) in
    new_is
    ∙ ap (λ it. done ++ painted_line it) all
    ∙ ap (λ it. done ++ it) (sym (still_end text start place is))
    ∙ whole
