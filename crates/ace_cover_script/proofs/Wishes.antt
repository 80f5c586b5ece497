-- What words ask.
use Rattle.std.proofs.Common.{◌≡◌, ◌≢◌, ℕ, List, [], ◌∷◌, length, map, codes, sym, ap, ◌∙◌, refl, subst, arith}
use Rattle.std.specs.Prelude.{MatchOption, Option, String, string_bytes}
use Rattle.std.specs.declared.alloc.Global.{Global}
use Rattle.ace_call.specs.Number.{IsNumber}
use Rattle.ace_cover_script.specs.Generates.{Asks}
use Rattle.ace_cover_script.specs.declared.wish.Wish.{Wish}
use Rattle.ace_cover_script.specs.declared.wish.Wish.TheVariants.{Help, Script}

pub no_words : (wish : Wish) → ¬ Asks [] wish
no_words Help asks = absurd (cc)
no_words (Script number) (word, is, number_is) = absurd (cc)

pub one_other : (word : List ℕ) → word ≢ codes "--help" → (wish : Wish) → ¬ Asks (word ∷ []) wish
one_other word other Help asks = other (cc)
one_other word other (Script number) (next, is, number_is) = absurd (cc)

pub two_others : (option word : List ℕ) → option ≢ codes "--cover" → (wish : Wish) → ¬ Asks (option ∷ word ∷ []) wish
two_others option word other Help asks = absurd (cc)
two_others option word other (Script number) (next, is, number_is) = other (cc)

pub no_number : (option word : List ℕ) → ((n : ℕ) → ¬ IsNumber word n) → (wish : Wish) → ¬ Asks (option ∷ word ∷ []) wish
no_number option word none Help asks = absurd (cc)
no_number option word none (Script number) (next, is, number_is) =
    let same : next ≡ word = cc in
    none number (subst (λ (w : List ℕ). IsNumber w number) same number_is)

pub a_script : (option word : List ℕ) (number : ℕ) → option ≡ codes "--cover" → IsNumber word number → Asks (option ∷ word ∷ []) (Script number)
a_script option word number is number_is = (word, ap (λ (o : List ℕ). o ∷ word ∷ []) is, number_is)

-- one word stands behind the first, more do
pub only_word : (rest : List (String Global)) (word : String Global) (more : List (String Global)) → rest ≡ word ∷ more → length more ≡ 0
    → map string_bytes rest ≡ string_bytes word ∷ []
only_word rest word [] is none = rw is refl
only_word rest word (next ∷ more) is none = absurd (omega arith)

pub too_many : (first : List ℕ) (rest : List (String Global)) (word : String Global) (more : List (String Global)) → rest ≡ word ∷ more → length more ≢ 0
    → (wish : Wish) → ¬ Asks (first ∷ map string_bytes rest) wish
too_many first rest word [] is some wish asks = absurd (some refl)
too_many first rest word (next ∷ more) is some Help asks =
    let three : map string_bytes rest ≡ string_bytes word ∷ string_bytes next ∷ map string_bytes more = rw is refl in
    let bad : first ∷ string_bytes word ∷ string_bytes next ∷ map string_bytes more ≡ codes "--help" ∷ [] = ap (λ (l : List (List ℕ)). first ∷ l) (sym three) ∙ asks in
    absurd (cc)
too_many first rest word (next ∷ more) is some (Script number) (one, asks, number_is) =
    let three : map string_bytes rest ≡ string_bytes word ∷ string_bytes next ∷ map string_bytes more = rw is refl in
    let bad : first ∷ string_bytes word ∷ string_bytes next ∷ map string_bytes more ≡ codes "--cover" ∷ one ∷ [] = ap (λ (l : List (List ℕ)). first ∷ l) (sym three) ∙ asks in
    absurd (cc)

-- no word stands behind the first
pub no_more : (rest : List (String Global)) → length rest ≡ 0 → map string_bytes rest ≡ []
no_more [] none = refl
no_more (word ∷ rest) none = absurd (omega arith)

-- what the words ask, where these stand behind the first
pub behind : (first : List ℕ) (rest : List (String Global)) (tail : List (List ℕ)) (wished : Option Wish) → map string_bytes rest ≡ tail
    → MatchOption wished ((wish : Wish) → ¬ Asks (first ∷ tail) wish) (Asks (first ∷ tail))
    → MatchOption wished ((wish : Wish) → ¬ Asks (first ∷ map string_bytes rest) wish) (Asks (first ∷ map string_bytes rest))
behind first rest tail wished is =
    subst (λ (l : List (List ℕ)). MatchOption wished ((wish : Wish) → ¬ Asks (first ∷ l) wish) (Asks (first ∷ l))) (sym is)

pub ruleset one = (one_other)

pub ruleset two = (two_others, no_number, a_script)

pub ruleset none = (no_words)
