-- An operation word and its fields are read exactly as the operation whose word and fields they are.
use Rattle.std.proofs.Common.{◌≡◌, ℕ, ◌^◌, ◌<◌, ◌&&◌, Bool, true, cond, List, [], ◌∷◌, Ok, Option, Some, refl, sym, ap, subst, ◌∙◌, arith, inl, inr}
use Rattle.std.specs.Prelude.{codes}
use Rattle.std.specs.List.{AllByRecursion}
use Rattle.std.specs.Str.{bytes_eq}
use Rattle.std.proofs.lemmas.Bool.{cases_Bool, and_from, and_parts, leb-true}
use Rattle.std.proofs.lemmas.Slice.Eq.{bytes_eq-Decides}
use Rattle.ace_event.specs.Text.{hex_text}
use Rattle.ace_grammar.proofs.General.Visible.{IsVisible}
use Rattle.ace_model.specs.AddressRules.{is_aligned}
use Rattle.ace_model.specs.declared.plans.Op.{Op}
use Rattle.ace_model.specs.declared.plans.Op.TheVariants.{Ld, Ldx, St, Stx, Fill, Pf, Wb, Wc, Ev, We, Ro, Cs, Ci, Mi, Rn, Wu, Wlu, Wn, Mb, Sb, Dvm, Sync, Dvm2}
use Rattle.ace_model.specs.Plans.{is_word_number, is_lone_word, is_whole_sync_word, is_first_word, is_in_range}
use Rattle.ace_script.specs.declared.reason.Reason.TheVariants.{P2, P3}
use Rattle.ace_script.specs.Text.{op_fields}
use Rattle.ace_script.specs.Grammar.{OpFits}
use Rattle.ace_script.specs.Fields.{made, no_field}
use Rattle.ace_script.specs.Operations as table
use Rattle.ace_script.specs.Operations.{op_of, by_row}
use Rattle.ace_script.proofs.Results.{err_isn't, made_ok}
use Rattle.ace_script.proofs.FieldsExact.{Row, number, limited, fetch, one, two, three}
use Rattle.ace_script.proofs.LineExact.{line}

-- these are the word and the fields of the operation, which is in range
abbrev IsOf : List ℕ → List (List ℕ) → Op → Type 0
IsOf word fields op = OpFits op × (is_in_range op ≡ true) × (op_fields op ≡ word ∷ fields)

-- ---- the rows

abbrev line_alone : Row ℕ
line_alone = one (limited 8 is_aligned)

abbrev load : Row (ℕ × ℕ)
load = two (limited 8 is_aligned) (limited 1 is_word_number)

abbrev store : Row (ℕ × (ℕ × ℕ))
store = three (limited 8 is_aligned) (limited 1 is_word_number) (number 32)

abbrev message : (ℕ → Bool) → Row ℕ
message is_in = one (limited 8 is_in)

-- ---- reading

row_takes : {F : Type 0} (row : Row F) (make : F → Op) (word : List ℕ) → ((f : F) → row.IsIn f → IsOf word (row.texts f) (make f))
    → (fields : List (List ℕ)) (op : Op) → made make (row.read fields) ≡ Ok op → IsOf word fields op
row_takes row make word makes fields op e =
    let step = made_ok make (row.read fields) op e in
    let told = row.takes fields step.0 step.1 in
    subst (IsOf word fields) step.2 (subst (λ (l : List (List ℕ)). IsOf word l (make step.0)) (sym told.1) (makes step.0 told.0))

-- a word that is known, or another one
by_word : (word known : List ℕ) (row : table.Row) (other : Option table.Row) (fields : List (List ℕ)) (op : Op) → (row fields ≡ Ok op → IsOf known fields op)
    → (by_row other fields ≡ Ok op → IsOf word fields op) → by_row (cond (bytes_eq word known) (Some row) other) fields ≡ Ok op → IsOf word fields op
by_word word known row other fields op told else_told e =
    elim (cases_Bool (bytes_eq word known)) [
      | inl p ↦
          subst (λ (w : List ℕ). IsOf w fields op) (sym ((bytes_eq-Decides word known).0 p))
          (told (sym (ap (λ b. by_row (cond b (Some row) other) fields) p) ∙ e))
      | inr q ↦ else_told (sym (ap (λ b. by_row (cond b (Some row) other) fields) q) ∙ e)
    ]

aligned : (a : ℕ) → is_aligned a ≡ true → is_aligned a && true ≡ true
aligned a h = and_from (is_aligned a) true h refl

load_takes : (make : ℕ → ℕ → Op) (word : List ℕ) → ((a w : ℕ) → a < 2 ^ 32 → is_aligned a ≡ true → is_word_number w ≡ true → IsOf word (load.texts (a, w)) (make a w))
    → (fields : List (List ℕ)) (op : Op) → made (λ x. make x.0 x.1) (load.read fields) ≡ Ok op → IsOf word fields op
load_takes make word makes = row_takes load (λ x. make x.0 x.1) word (λ x h. makes x.0 x.1 (omega (arith, h.0.0)) h.0.1 h.1.1)

store_takes : (make : ℕ → ℕ → ℕ → Op) (word : List ℕ) → ((a w bytes : ℕ) → a < 2 ^ 32 → is_aligned a ≡ true → is_word_number w ≡ true → bytes < 2 ^ 128 → IsOf word (store.texts (a, (w, bytes))) (make a w bytes))
    → (fields : List (List ℕ)) (op : Op) → made (λ x. make x.0 x.1.0 x.1.1) (store.read fields) ≡ Ok op → IsOf word fields op
store_takes make word makes = row_takes store (λ x. make x.0 x.1.0 x.1.1) word (λ x h. makes x.0 x.1.0 x.1.1 (omega (arith, h.0.0)) h.0.1 h.1.0.1 (omega (arith, h.1.1)))

line_alone_takes : (make : ℕ → Op) (word : List ℕ) → ((a : ℕ) → a < 2 ^ 32 → is_aligned a ≡ true → IsOf word (hex_text 8 a ∷ []) (make a))
    → (fields : List (List ℕ)) (op : Op) → made make (line_alone.read fields) ≡ Ok op → IsOf word fields op
line_alone_takes make word makes = row_takes line_alone make word (λ a h. makes a (omega (arith, h.0)) h.1)

none_takes : (op' : Op) (word : List ℕ) → IsOf word [] op' → (fields : List (List ℕ)) (op : Op) → made (λ _. op') (no_field fields) ≡ Ok op → IsOf word fields op
none_takes op' word is [] op e = subst (IsOf word []) (made_ok (λ _. op') (no_field []) op e).2 is
none_takes op' word is (a ∷ fields) op e = err_isn't P3 op _ e

pub op_takes : (word : List ℕ) (fields : List (List ℕ)) (op : Op) → op_of word fields ≡ Ok op → IsOf word fields op
unfolding op_of
op_takes word fields op e =
    by_word word (codes "ld") _ _ fields op (load_takes Ld (codes "ld") (λ a w h k m. (h, and_from (is_aligned a) (is_word_number w) k m, refl)) fields op) (λ e.
    by_word word (codes "ldx") _ _ fields op (load_takes Ldx (codes "ldx") (λ a w h k m. (h, and_from (is_aligned a) (is_word_number w) k m, refl)) fields op) (λ e.
    by_word word (codes "st") _ _ fields op (store_takes St (codes "st") (λ a w bytes h k m n. ((h, n), and_from (is_aligned a) (is_word_number w) k m, refl)) fields op) (λ e.
    by_word word (codes "stx") _ _ fields op (store_takes Stx (codes "stx") (λ a w bytes h k m n. ((h, n), and_from (is_aligned a) (is_word_number w) k m, refl)) fields op) (λ e.
    by_word word (codes "fill") _ _ fields op (row_takes (two (limited 8 is_aligned) line) (λ x. Fill x.0 x.1) (codes "fill") (λ x h. ((omega (arith, h.0.0), h.1), aligned x.0 h.0.1, refl)) fields op) (λ e.
    by_word word (codes "pf") _ _ fields op (row_takes (two (limited 8 is_aligned) fetch) (λ x. Pf x.0 x.1) (codes "pf") (λ x h. (omega (arith, h.0.0), and_from (is_aligned x.0) _ h.0.1 h.1, refl)) fields op) (λ e.
    by_word word (codes "wb") _ _ fields op (line_alone_takes Wb (codes "wb") (λ a h k. (h, aligned a k, refl)) fields op) (λ e.
    by_word word (codes "wc") _ _ fields op (line_alone_takes Wc (codes "wc") (λ a h k. (h, aligned a k, refl)) fields op) (λ e.
    by_word word (codes "ev") _ _ fields op (line_alone_takes Ev (codes "ev") (λ a h k. (h, aligned a k, refl)) fields op) (λ e.
    by_word word (codes "we") _ _ fields op (line_alone_takes We (codes "we") (λ a h k. (h, aligned a k, refl)) fields op) (λ e.
    by_word word (codes "ro") _ _ fields op (line_alone_takes Ro (codes "ro") (λ a h k. (h, aligned a k, refl)) fields op) (λ e.
    by_word word (codes "cs") _ _ fields op (line_alone_takes Cs (codes "cs") (λ a h k. (h, aligned a k, refl)) fields op) (λ e.
    by_word word (codes "ci") _ _ fields op (line_alone_takes Ci (codes "ci") (λ a h k. (h, aligned a k, refl)) fields op) (λ e.
    by_word word (codes "mi") _ _ fields op (line_alone_takes Mi (codes "mi") (λ a h k. (h, aligned a k, refl)) fields op) (λ e.
    by_word word (codes "rn") _ _ fields op (line_alone_takes Rn (codes "rn") (λ a h k. (h, aligned a k, refl)) fields op) (λ e.
    by_word word (codes "wu") _ _ fields op (row_takes (three (limited 8 is_aligned) (number 16) line) (λ x. Wu x.0 x.1.0 x.1.1) (codes "wu") (λ x h. ((omega (arith, h.0.0), omega (arith, h.1.0), h.1.1), aligned x.0 h.0.1, refl)) fields op) (λ e.
    by_word word (codes "wlu") _ _ fields op (row_takes (two (limited 8 is_aligned) line) (λ x. Wlu x.0 x.1) (codes "wlu") (λ x h. ((omega (arith, h.0.0), h.1), aligned x.0 h.0.1, refl)) fields op) (λ e.
    by_word word (codes "wn") _ _ fields op (row_takes (three (limited 8 is_aligned) (number 16) line) (λ x. Wn x.0 x.1.0 x.1.1) (codes "wn") (λ x h. ((omega (arith, h.0.0), omega (arith, h.1.0), h.1.1), aligned x.0 h.0.1, refl)) fields op) (λ e.
    by_word word (codes "mb") _ _ fields op (none_takes Mb (codes "mb") (tt, refl, refl) fields op) (λ e.
    by_word word (codes "sb") _ _ fields op (none_takes Sb (codes "sb") (tt, refl, refl) fields op) (λ e.
    by_word word (codes "dvm") _ _ fields op (row_takes (message is_lone_word) (λ w. Dvm w) (codes "dvm") (λ w h. (omega (arith, h.0), h.1, refl)) fields op) (λ e.
    by_word word (codes "sync") _ _ fields op (row_takes (message is_whole_sync_word) (λ w. Sync w) (codes "sync") (λ w h. (omega (arith, h.0), h.1, refl)) fields op) (λ e.
    by_word word (codes "dvm2") _ _ fields op (row_takes (two (limited 8 is_first_word) (number 8)) (λ x. Dvm2 x.0 x.1) (codes "dvm2") (λ x h. ((omega (arith, h.0.0), omega (arith, h.1)), h.0.1, refl)) fields op) (λ e.
    err_isn't P2 op _ e
    ) e) e) e) e) e) e) e) e) e) e) e) e) e) e) e) e) e) e) e) e) e) e) e

-- ---- the other way

-- the word and the fields of the operation are read as that operation
abbrev pub ReadsAs : Op → Type 0
ReadsAs op = (word : List ℕ) × (fields : List (List ℕ)) × (op_fields op ≡ word ∷ fields) × (op_of word fields ≡ Ok op)

address_in : (a : ℕ) → a < 2 ^ 32 → is_aligned a && true ≡ true → (a < 16 ^ 8) × (is_aligned a ≡ true)
address_in a h e = (omega (arith, h), (and_parts (is_aligned a) true e).0)

place_in : (w : ℕ) → is_word_number w ≡ true → (w < 16 ^ 1) × (is_word_number w ≡ true)
place_in w e = (omega (arith, leb-true w 3 e), e)

load_in : (a w : ℕ) → a < 2 ^ 32 → is_aligned a && is_word_number w ≡ true → load.IsIn (a, w)
load_in a w h e =
    let both = and_parts (is_aligned a) (is_word_number w) e in
    ((omega (arith, h), both.0), place_in w both.1)

store_in : (a w bytes : ℕ) → a < 2 ^ 32 → bytes < 2 ^ 128 → is_aligned a && is_word_number w ≡ true → store.IsIn (a, (w, bytes))
store_in a w bytes h k e =
    let both = and_parts (is_aligned a) (is_word_number w) e in
    ((omega (arith, h), both.0), (place_in w both.1, omega (arith, k)))

pub op_again : (op : Op) → OpFits op → is_in_range op ≡ true → ReadsAs op
unfolding op_of
op_again (Ld a w) h e = (codes "ld", load.texts (a, w), refl, ap (made (λ x. Ld x.0 x.1)) (load.again (a, w) (load_in a w h e)))
op_again (Ldx a w) h e = (codes "ldx", load.texts (a, w), refl, ap (made (λ x. Ldx x.0 x.1)) (load.again (a, w) (load_in a w h e)))
op_again (St a w bytes) h e = (codes "st", store.texts (a, (w, bytes)), refl, ap (made (λ x. St x.0 x.1.0 x.1.1)) (store.again (a, (w, bytes)) (store_in a w bytes h.0 h.1 e)))
op_again (Stx a w bytes) h e = (codes "stx", store.texts (a, (w, bytes)), refl, ap (made (λ x. Stx x.0 x.1.0 x.1.1)) (store.again (a, (w, bytes)) (store_in a w bytes h.0 h.1 e)))
op_again (Fill a l) h e = (codes "fill", (two (limited 8 is_aligned) line).texts (a, l), refl, ap (made (λ x. Fill x.0 x.1)) ((two (limited 8 is_aligned) line).again (a, l) (address_in a h.0 e, h.1)))
op_again (Pf a kind) h e =
    let both = and_parts (is_aligned a) _ e in
    (codes "pf", (two (limited 8 is_aligned) fetch).texts (a, kind), refl, ap (made (λ x. Pf x.0 x.1)) ((two (limited 8 is_aligned) fetch).again (a, kind) ((omega (arith, h), both.0), both.1)))
op_again (Wb a) h e = (codes "wb", line_alone.texts a, refl, ap (made (λ a. Wb a)) (line_alone.again a (address_in a h e)))
op_again (Wc a) h e = (codes "wc", line_alone.texts a, refl, ap (made (λ a. Wc a)) (line_alone.again a (address_in a h e)))
op_again (Ev a) h e = (codes "ev", line_alone.texts a, refl, ap (made (λ a. Ev a)) (line_alone.again a (address_in a h e)))
op_again (We a) h e = (codes "we", line_alone.texts a, refl, ap (made (λ a. We a)) (line_alone.again a (address_in a h e)))
op_again (Ro a) h e = (codes "ro", line_alone.texts a, refl, ap (made (λ a. Ro a)) (line_alone.again a (address_in a h e)))
op_again (Cs a) h e = (codes "cs", line_alone.texts a, refl, ap (made (λ a. Cs a)) (line_alone.again a (address_in a h e)))
op_again (Ci a) h e = (codes "ci", line_alone.texts a, refl, ap (made (λ a. Ci a)) (line_alone.again a (address_in a h e)))
op_again (Mi a) h e = (codes "mi", line_alone.texts a, refl, ap (made (λ a. Mi a)) (line_alone.again a (address_in a h e)))
op_again (Rn a) h e = (codes "rn", line_alone.texts a, refl, ap (made (λ a. Rn a)) (line_alone.again a (address_in a h e)))
op_again (Wu a bits l) h e = (codes "wu", (three (limited 8 is_aligned) (number 16) line).texts (a, (bits, l)), refl, ap (made (λ x. Wu x.0 x.1.0 x.1.1)) ((three (limited 8 is_aligned) (number 16) line).again (a, (bits, l)) (address_in a h.0 e, (omega (arith, h.1), h.2))))
op_again (Wlu a l) h e = (codes "wlu", (two (limited 8 is_aligned) line).texts (a, l), refl, ap (made (λ x. Wlu x.0 x.1)) ((two (limited 8 is_aligned) line).again (a, l) (address_in a h.0 e, h.1)))
op_again (Wn a bits l) h e = (codes "wn", (three (limited 8 is_aligned) (number 16) line).texts (a, (bits, l)), refl, ap (made (λ x. Wn x.0 x.1.0 x.1.1)) ((three (limited 8 is_aligned) (number 16) line).again (a, (bits, l)) (address_in a h.0 e, (omega (arith, h.1), h.2))))
op_again Mb h e = (codes "mb", [], refl, refl)
op_again Sb h e = (codes "sb", [], refl, refl)
op_again (Dvm w) h e = (codes "dvm", (message is_lone_word).texts w, refl, ap (made (λ w. Dvm w)) ((message is_lone_word).again w (omega (arith, h), e)))
op_again (Sync w) h e = (codes "sync", (message is_whole_sync_word).texts w, refl, ap (made (λ w. Sync w)) ((message is_whole_sync_word).again w (omega (arith, h), e)))
op_again (Dvm2 w s) h e = (codes "dvm2", (two (limited 8 is_first_word) (number 8)).texts (w, s), refl, ap (made (λ x. Dvm2 x.0 x.1)) ((two (limited 8 is_first_word) (number 8)).again (w, s) ((omega (arith, h.0), e), omega (arith, h.1))))

-- the characters of an operation's fields show
pub op_visible : (op : Op) → AllByRecursion IsVisible (op_fields op)
op_visible (Ld a w) = ((omega arith, (omega arith, tt)), load.visible (a, w))
op_visible (Ldx a w) = ((omega arith, (omega arith, (omega arith, tt))), load.visible (a, w))
op_visible (St a w bytes) = ((omega arith, (omega arith, tt)), store.visible (a, (w, bytes)))
op_visible (Stx a w bytes) = ((omega arith, (omega arith, (omega arith, tt))), store.visible (a, (w, bytes)))
op_visible (Fill a l) = ((omega arith, (omega arith, (omega arith, (omega arith, tt)))), (two (limited 8 is_aligned) line).visible (a, l))
op_visible (Pf a kind) = ((omega arith, (omega arith, tt)), (two (limited 8 is_aligned) fetch).visible (a, kind))
op_visible (Wb a) = ((omega arith, (omega arith, tt)), line_alone.visible a)
op_visible (Wc a) = ((omega arith, (omega arith, tt)), line_alone.visible a)
op_visible (Ev a) = ((omega arith, (omega arith, tt)), line_alone.visible a)
op_visible (We a) = ((omega arith, (omega arith, tt)), line_alone.visible a)
op_visible (Ro a) = ((omega arith, (omega arith, tt)), line_alone.visible a)
op_visible (Cs a) = ((omega arith, (omega arith, tt)), line_alone.visible a)
op_visible (Ci a) = ((omega arith, (omega arith, tt)), line_alone.visible a)
op_visible (Mi a) = ((omega arith, (omega arith, tt)), line_alone.visible a)
op_visible (Rn a) = ((omega arith, (omega arith, tt)), line_alone.visible a)
op_visible (Wu a bits l) = ((omega arith, (omega arith, tt)), (three (limited 8 is_aligned) (number 16) line).visible (a, (bits, l)))
op_visible (Wlu a l) = ((omega arith, (omega arith, (omega arith, tt))), (two (limited 8 is_aligned) line).visible (a, l))
op_visible (Wn a bits l) = ((omega arith, (omega arith, tt)), (three (limited 8 is_aligned) (number 16) line).visible (a, (bits, l)))
op_visible Mb = ((omega arith, (omega arith, tt)), tt)
op_visible Sb = ((omega arith, (omega arith, tt)), tt)
op_visible (Dvm w) = ((omega arith, (omega arith, (omega arith, tt))), (message is_lone_word).visible w)
op_visible (Sync w) = ((omega arith, (omega arith, (omega arith, (omega arith, tt)))), (message is_whole_sync_word).visible w)
op_visible (Dvm2 w s) = ((omega arith, (omega arith, (omega arith, (omega arith, tt)))), (two (limited 8 is_first_word) (number 8)).visible (w, s))
