-- No word of a command begins with a hyphen.
use Rattle.std.proofs.Common.{◌≡◌, ◌∙◌, ◌<◌, ◌≤◌, ◌+◌, ◌^◌, ◌%◌, ◌++◌, ℕ, List, [], ◌∷◌, String, false, true, refl, sym, ap, arith, decimal, inl, inr, map, ne_eqb, true≢false}
use Rattle.std.specs.List.{list_any}
use Rattle.std.specs.String.{string_bytes}
use Rattle.std.specs.declared.alloc.Global.{Global}
use Rattle.std.proofs.lemmas.Fmt.{decimal_by_steps}
use Rattle.clap.proofs.WalkLemmas.{list_any-map}
use Rattle.ace_account.specs.declared.listener.Account.TheVariants.{Report, Order}
use Rattle.ace_convert.specs.declared.conversion.Conversion.TheVariants.{Show, Migrate, Pack, Unpack}
use Rattle.ace_top.specs.declared.words.Snooping.TheVariants.{AllPorts, KeptPorts}
use Rattle.ace_top.specs.Parse.{any_hyphen, starts_with_hyphen}
use Rattle.ace_top.specs.Words.{IsCommand, IsNumbered, IsWord}

-- the text begins with a digit, or with what comes after the digits
abbrev BeginsWithDigit : ℕ → List ℕ → Type 0
BeginsWithDigit n text = (first : ℕ) × (rest : List ℕ) × (text ≡ first ∷ rest) × (48 ≤ first)

decimal_begins : (n : ℕ) → n < 2 ^ 64 → BeginsWithDigit n (decimal n)
decimal_begins = decimal_by_steps BeginsWithDigit (λ n lt. (48 + n, [], refl, omega arith)) (λ n ds ge (first, rest, is, digit). (first, rest ++ (48 + n % 10) ∷ [], ap (λ l. l ++ (48 + n % 10) ∷ []) is, digit))

no_minus : (n : ℕ) → n < 2 ^ 64 → starts_with_hyphen (decimal n) ≡ false
no_minus n lt = let (first, rest, is, digit) = decimal_begins n lt in ap starts_with_hyphen is ∙ ne_eqb first 45 (λ e. omega (arith, e, digit))

pub any_in_texts : (words : List (String Global)) → any_hyphen words ≡ list_any starts_with_hyphen (map string_bytes words)
any_in_texts words = list_any-map starts_with_hyphen string_bytes words

word_clear : (words : List (String Global)) (text : List ℕ) → starts_with_hyphen text ≡ false → IsWord words text → any_hyphen words ≡ false
word_clear words text e is = any_in_texts words ∙ ap (list_any starts_with_hyphen) is ∙ rw e refl

numbered_clear : (words : List (String Global)) (text : List ℕ) (n : ℕ) → starts_with_hyphen text ≡ false → IsNumbered words text n → any_hyphen words ≡ false
numbered_clear words text n e (word, is, (small, number)) =
    any_in_texts words ∙ ap (list_any starts_with_hyphen) is ∙ rw (e, number, no_minus n small) refl

command_clear : (words : List (String Global)) → IsCommand words → any_hyphen words ≡ false
command_clear words (inl (inl (inl e))) = word_clear words _ refl e
command_clear words (inl (inl (inr (inl (Report, e))))) = word_clear words _ refl e
command_clear words (inl (inl (inr (inl (Order, e))))) = word_clear words _ refl e
command_clear words (inl (inl (inr (inr (Show, e))))) = word_clear words _ refl e
command_clear words (inl (inl (inr (inr (Migrate, e))))) = word_clear words _ refl e
command_clear words (inl (inl (inr (inr (Pack, e))))) = word_clear words _ refl e
command_clear words (inl (inl (inr (inr (Unpack, e))))) = word_clear words _ refl e
command_clear words (inl (inr (AllPorts, e))) = word_clear words _ refl e
command_clear words (inl (inr (KeptPorts, e))) = any_in_texts words ∙ ap (list_any starts_with_hyphen) e
command_clear words (inr (n, inl e)) = numbered_clear words _ n refl e
command_clear words (inr (n, inr e)) = numbered_clear words _ n refl e

pub no_hyphen : (words : List (String Global)) → any_hyphen words ≡ true → ¬ IsCommand words
no_hyphen words e is = absurd (true≢false (sym e ∙ command_clear words is))
