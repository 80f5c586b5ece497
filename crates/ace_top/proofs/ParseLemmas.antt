-- What the parser makes of words of which none begins with a hyphen.
use Rattle.std.proofs.Common.{◌≡◌, ◌∙◌, ◌||◌, List, [], ◌∷◌, map, String, Bool, false, true, refl, sym, ap, ap₂, subst, inl, inr, Option, None, Some, codes, true≢false}
use Rattle.std.specs.List.{list_any}
use Rattle.std.specs.String.{string_bytes}
use Rattle.std.specs.declared.alloc.Global.{Global}
use Rattle.std.specs.Str.{bytes_eq}
use Rattle.clap.specs.Lexer.{long_of, short_of}
use Rattle.clap.specs.Words.{App, HasKind, IsAmong, Text, is_simple, is_simple_and_free, fault_of, first_value, kind_of, matches_of, first_of, rows_of}
use Rattle.clap.specs.declared.error.Error.{Error}
use Rattle.clap.specs.declared.error.kind.ErrorKind.{ErrorKind}
use Rattle.clap.specs.declared.error.kind.ErrorKind.TheVariants as kind
use Rattle.clap.specs.declared.parser.matches.Found.{Found}
use Rattle.clap.proofs.OnLiterals.{clap_on_literals}
use Rattle.clap.proofs.WalkLemmas.{first_value-rows}
use Rattle.ace_top.specs.Parse.{any_hyphen, starts_with_hyphen, one_or_two, positionals}
use Rattle.ace_top.proofs.Hyphens.{any_in_texts}

simple : is_simple one_or_two ≡ true
unfolding clap_on_literals
simple = refl

free : is_simple_and_free one_or_two ≡ true
unfolding clap_on_literals
free = refl

-- a word that begins with no hyphen is neither `--` nor a flag
no_flag : (w : Text) → starts_with_hyphen w ≡ false → (bytes_eq w (45 ∷ 45 ∷ []) ≡ false) × (long_of w ≡ None) × (short_of w ≡ None)
no_flag [] e = (refl, refl, refl)
no_flag (x ∷ xs) e = (rw e refl, rw e refl, rw e refl)

-- ---- one word

one_first : (a : Text) → starts_with_hyphen a ≡ false → first_of (codes "first") (matches_of one_or_two (a ∷ [])) ≡ Some a
unfolding clap_on_literals
one_first a e = let p = no_flag a e in rw (p.0, p.1, p.2) refl

one_second : (a : Text) → starts_with_hyphen a ≡ false → first_of (codes "second") (matches_of one_or_two (a ∷ [])) ≡ None
unfolding clap_on_literals
one_second a e = let p = no_flag a e in rw (p.0, p.1, p.2) refl

one_fault : (a : Text) → starts_with_hyphen a ≡ false → fault_of one_or_two (a ∷ []) ≡ []
unfolding clap_on_literals
one_fault a e = let p = no_flag a e in rw (p.0, p.1, p.2) refl

-- ---- two words

two_first : (a b : Text) → starts_with_hyphen a ≡ false → starts_with_hyphen b ≡ false → first_of (codes "first") (matches_of one_or_two (a ∷ b ∷ [])) ≡ Some a
unfolding clap_on_literals
two_first a b e f = let p = no_flag a e in let q = no_flag b f in rw (p.0, p.1, p.2, q.0, q.1, q.2) refl

two_second : (a b : Text) → starts_with_hyphen a ≡ false → starts_with_hyphen b ≡ false → first_of (codes "second") (matches_of one_or_two (a ∷ b ∷ [])) ≡ Some b
unfolding clap_on_literals
two_second a b e f = let p = no_flag a e in let q = no_flag b f in rw (p.0, p.1, p.2, q.0, q.1, q.2) refl

two_fault : (a b : Text) → starts_with_hyphen a ≡ false → starts_with_hyphen b ≡ false → fault_of one_or_two (a ∷ b ∷ []) ≡ []
unfolding clap_on_literals
two_fault a b e f = let p = no_flag a e in let q = no_flag b f in rw (p.0, p.1, p.2, q.0, q.1, q.2) refl

-- ---- no word, or more than two

no_words : fault_of one_or_two [] ≡ kind.MissingRequiredArgument ∷ []
unfolding clap_on_literals
no_words = refl

third_fault : (a b c : Text) (rest : List Text) → starts_with_hyphen a ≡ false → starts_with_hyphen b ≡ false → starts_with_hyphen c ≡ false
    → fault_of one_or_two (a ∷ b ∷ c ∷ rest) ≡ kind.UnknownArgument ∷ []
unfolding clap_on_literals
third_fault a b c rest e f g =
    let p = no_flag a e in
    let q = no_flag b f in
    let r = no_flag c g in
    rw (p.0, p.1, p.2, q.0, q.1, q.2, r.0, r.1, r.2) refl

-- ---- any words

neither : (b c : Bool) → (b || c) ≡ false → (b ≡ false) × (c ≡ false)
neither false false e = (refl, refl)
neither false true e = absurd (true≢false e)
neither true c e = absurd (true≢false e)

abbrev paired : Option Text → Option Text → Option (Text × Option Text)
paired None second = None
paired (Some first) second = Some (first, second)

-- where the parser finds no fault, its matches are what the words are
taken : (words : List Text) → list_any starts_with_hyphen words ≡ false → fault_of one_or_two words ≡ []
    → paired (first_of (codes "first") (matches_of one_or_two words)) (first_of (codes "second") (matches_of one_or_two words)) ≡ positionals words
taken [] clear none = let bad = sym none ∙ no_words in absurd cc
taken (a ∷ []) clear none = let p = neither _ _ clear in rw (one_first a p.0, one_second a p.0) refl
taken (a ∷ b ∷ []) clear none =
    let p = neither _ _ clear in
    let q = neither _ _ p.1 in
    rw (two_first a b p.0 q.0, two_second a b p.0 q.0) refl
taken (a ∷ b ∷ c ∷ rest) clear none =
    let p = neither _ _ clear in
    let q = neither _ _ p.1 in
    let r = neither _ _ q.1 in
    let bad = sym none ∙ third_fault a b c rest p.0 q.0 r.0 in
    absurd cc

-- and it finds one only where they aren't one or two
faulty : (words : List Text) (k : ErrorKind) → list_any starts_with_hyphen words ≡ false → IsAmong k (fault_of one_or_two words) → None ≡ positionals words
faulty [] k clear among = refl
faulty (a ∷ []) k clear among = let p = neither _ _ clear in absurd (subst (IsAmong k) (one_fault a p.0) among)
faulty (a ∷ b ∷ []) k clear among =
    let p = neither _ _ clear in
    let q = neither _ _ p.1 in
    absurd (subst (IsAmong k) (two_fault a b p.0 q.0) among)
faulty (a ∷ b ∷ c ∷ rest) k clear among = refl

-- what a parse found is what the words are
pub parsed : (words : List (String Global)) (app : App) (f : Found) (first second : Option Text) → any_hyphen words ≡ false → app ≡ one_or_two
    → (is_simple app ≡ true → rows_of f ≡ matches_of app (map string_bytes words)) → (is_simple_and_free app ≡ true → fault_of app (map string_bytes words) ≡ [])
    → first ≡ first_value f (codes "first") → second ≡ first_value f (codes "second") → paired first second ≡ positionals (map string_bytes words)
parsed words app f first second clear is rows fault has_first has_second =
    let found = rows (ap is_simple is ∙ simple) ∙ ap (λ a. matches_of a (map string_bytes words)) is in
    let none : fault_of one_or_two (map string_bytes words) ≡ [] = sym (ap (λ a. fault_of a (map string_bytes words)) is) ∙ fault (ap is_simple_and_free is ∙ free) in
    let one = has_first ∙ first_value-rows f (codes "first") ∙ ap (first_of (codes "first")) found in
    let two = has_second ∙ first_value-rows f (codes "second") ∙ ap (first_of (codes "second")) found in
    ap₂ paired one two ∙ taken (map string_bytes words) (sym (any_in_texts words) ∙ clear) none

-- a parse that failed, and not for want of memory, was of words that aren't one or two
pub refused : (words : List (String Global)) (app : App) (e : Error) → any_hyphen words ≡ false → app ≡ one_or_two
    → (is_simple_and_free app ≡ true → HasKind (fault_of app (map string_bytes words)) e) → ¬ (kind_of e ≡ kind.OutOfMemory) → None ≡ positionals (map string_bytes words)
refused words app e clear is kinds other =
    let among = subst (λ a. HasKind (fault_of a (map string_bytes words)) e) is (kinds (ap is_simple_and_free is ∙ free)) in
    elim among [
      | inl memory ↦ absurd (other memory)
      | inr one ↦ faulty (map string_bytes words) (kind_of e) (sym (any_in_texts words) ∙ clear) one
    ]
