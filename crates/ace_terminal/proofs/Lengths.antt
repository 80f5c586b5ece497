-- The place where a word comes, step by step.
use Rattle.std.proofs.Common.{◌≡◌, ◌+◌, ◌<◌, ◌∙◌, ℕ, List, [], ◌∷◌, true, false, if◌then◌else◌, ◌-◌, length, take, drop, get_or, arith, refl, ap, sym, add-one, drop-cons}
use Rattle.std.proofs.lemmas.Grind.{common_steps}
use Rattle.std.proofs.lemmas.List.{take_all}
use Rattle.ace_terminal.specs.Looks.{begins_with, length_before}

-- it comes here
word_here : (word text : List ℕ) → begins_with text word ≡ true → length_before word text ≡ 0
word_here word [] met = refl
word_here word (b ∷ rest) met = ap (λ t. if t then 0 else length_before word rest + 1) met

there : (word : List ℕ) (b : ℕ) (rest : List ℕ) → begins_with (b ∷ rest) word ≡ false → length_before word (b ∷ rest) ≡ length_before word rest + 1
there word b rest unmet = ap (λ t. if t then 0 else length_before word rest + 1) unmet

-- it doesn't come here
word_step : (word text : List ℕ) (i : ℕ) → i < length text → begins_with (drop i text) word ≡ false
    → length_before word (drop i text) ≡ length_before word (drop (i + 1) text) + 1
word_step word text i within unmet =
    let whole : drop i text ≡ get_or text i 0 ∷ drop (i + 1) text = rw add-one (drop-cons text i 0 within) in
    ap (length_before word) whole
    ∙ there word (get_or text i 0) (drop (i + 1) text) (sym (ap (λ it. begins_with it word) whole) ∙ unmet)

-- the same, as a slice from a place on is written
pub rest_is : (text : List ℕ) (i : ℕ) → take (length text - i) (drop i text) ≡ drop i text
rest_is text i = take_all (length text - i) (drop i text) (grind (arith, common_steps))

pub word_in_rest : (word text : List ℕ) (i : ℕ) → begins_with (take (length text - i) (drop i text)) word ≡ true → length_before word (drop i text) ≡ 0
word_in_rest word text i met = word_here word (drop i text) (sym (ap (λ it. begins_with it word) (rest_is text i)) ∙ met)

pub word_behind : (word text : List ℕ) (i : ℕ) → i < length text → begins_with (take (length text - i) (drop i text)) word ≡ false
    → length_before word (drop i text) ≡ length_before word (drop (i + 1) text) + 1
word_behind word text i within unmet = word_step word text i within (sym (ap (λ it. begins_with it word) (rest_is text i)) ∙ unmet)
