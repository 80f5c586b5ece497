-- Results in files, put together.
use Rattle.std.proofs.Common.{◌≡◌, ◌+◌, ◌<◌, ◌++◌, ◌||◌, ℕ, true, false, List, [], ◌∷◌, String, Option, arith, ap, drop, get_or, inl, inr, length, map, refl, string_bytes, sym, take, ◌∙◌}
use Rattle.std.proofs.KnownBytes.{Appends-nil}
use Rattle.std.proofs.lemmas.List.{at_drop_more, map-append, take_more}
use Rattle.std.specs.Borrow.{Bor}
use Rattle.std.specs.Io.KnownBytes.{Appends}
use Rattle.std.specs.List.{AllZip, list_any}
use Rattle.std.specs.declared.alloc.Global.{Global}
use Rattle.ace_batch.specs.declared.entry.Entry.{Entry}
use Rattle.ace_parts.specs.Merging.{ArePartsOf, texts_of}
use Rattle.ace_tool.specs.Asked.{has_hyphen}
use Rattle.ace_tool.specs.BatchTexts.{batch_help}
use Rattle.ace_tool.specs.Held.{Held}
use Rattle.ace_tool.specs.Merging.{AreTexts, IsFault, Merges, TellsSummary, are_names}

-- one word, and the others
pub any_step : (words : List (String Global)) (i : ℕ) (d : String Global) → i < length words
    → list_any has_hyphen (map string_bytes (drop i words))
    ≡ (has_hyphen (string_bytes (get_or words i d)) || list_any has_hyphen (map string_bytes (drop (i + 1) words)))
any_step words i d within = at_drop_more (λ it. list_any has_hyphen (map string_bytes it)) words i d within

pub some_hyphen : (words : List (List ℕ)) → list_any has_hyphen words ≡ true → are_names words ≡ false
some_hyphen [] some = refl
some_hyphen (word ∷ words) some = rw some refl

pub no_word : (words : List (String Global)) → length words ≡ 0 → are_names (map string_bytes words) ≡ false
no_word [] none = refl
no_word (word ∷ words) none = absurd (omega (arith, none))

pub no_hyphen : (words : List (String Global)) → 0 < length words → list_any has_hyphen (map string_bytes words) ≡ false
    → are_names (map string_bytes words) ≡ true
no_hyphen [] some none = absurd (omega (arith, some))
no_hyphen (word ∷ words) some none = rw none refl

pub ruleset naming = (some_hyphen, no_word, no_hyphen)

-- the texts as bytes
pub bytes_push : (texts : List (String Global)) (i : ℕ) (d : String Global) (all : List (Bor (List ℕ))) (text : Bor (List ℕ)) → i < length texts
    → texts_of all ≡ map string_bytes (take i texts) → text.now ≡ string_bytes (get_or texts i d)
    → texts_of (all ++ text ∷ []) ≡ map string_bytes (take (i + 1) texts)
bytes_push texts i d all text within so_far is =
    map-append (λ t. t.now) all (text ∷ [])
    ∙ ap (λ t. t ++ text.now ∷ []) so_far
    ∙ ap (λ b. map string_bytes (take i texts) ++ b ∷ []) is
    ∙ sym (map-append string_bytes (take i texts) (get_or texts i d ∷ []))
    ∙ ap (map string_bytes) (sym (take_more texts i d within))

-- what holds of the strings holds of their bytes
pub zip_bytes : (R : List ℕ → List ℕ → Type 0) (xs ys : List (String Global)) → AllZip (λ x y. R (string_bytes x) (string_bytes y)) xs ys
    → AllZip R (map string_bytes xs) (map string_bytes ys)
zip_bytes R [] [] all = tt
zip_bytes R [] (y ∷ ys) all = absurd all
zip_bytes R (x ∷ xs) [] all = absurd all
zip_bytes R (x ∷ xs) (y ∷ ys) (first, rest) = (first, zip_bytes R xs ys rest)

-- the results were put together
pub merged_told : (holds : List ℕ → Held) (words : List (List ℕ)) (entries : List Entry) (out out' notes notes' : Option (List ℕ)) (status : ℕ)
    → ((texts : List (List ℕ)) × AreTexts holds words texts × ArePartsOf texts entries) → TellsSummary entries out out' notes notes' status
    → Merges holds words out out' notes notes' status
merged_told holds words entries out out' notes notes' status (texts, held, parts) (inl (told, total, silent)) =
    inl (record { texts = texts; entries = entries; held = held; parts = parts; told = told; total = total }, silent)
merged_told holds words entries out out' notes notes' status merged (inr fault) = inr (inr fault)

pub wrong_words : (holds : List ℕ → Held) (words : List (List ℕ)) (out notes notes' : Option (List ℕ)) (status : ℕ) → are_names words ≡ false
    → status ≡ 2 → Appends notes notes' batch_help → Merges holds words out out notes notes' status
wrong_words holds words out notes notes' status wrong is told = inr (inl (wrong, is, Appends-nil out, told))

pub not_merged : (holds : List ℕ → Held) (words : List (List ℕ)) (out notes notes' : Option (List ℕ)) (status : ℕ)
    → IsFault status × ((told : List ℕ) × Appends notes notes' told) → Merges holds words out out notes notes' status
not_merged holds words out notes notes' status (fault, told) = inr (inr (fault, Appends-nil out, told))

pub ruleset done = (merged_told, wrong_words, not_merged)
