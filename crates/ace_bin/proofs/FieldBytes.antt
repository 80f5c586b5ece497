-- The bytes of fields, and the numbers that fields have in some bytes.
use Rattle.std.proofs.Common.{◌≡◌, ℕ, ◌+◌, ◌^◌, ◌<◌, ◌≤◌, Bool, true, false, cond, List, [], ◌∷◌, ◌++◌, length, take, drop, refl, sym, ap, ◌∙◌, arith, append_assoc, length-append}
use Rattle.std.proofs.lemmas.Bool.{and_parts, and_from}
use Rattle.std.proofs.lemmas.List.{take_at, drop_at, take-append-drop, drop-drop, drop-take, take-append-le, drop-append-le, take-take, length-drop}
use Rattle.ace_bin.specs.Fields.{Field, number_bytes, number_onto, number_at, size_of, size_of_all, fits, all_fit, fields_bytes, numbers_at}
use Rattle.ace_bin.specs.Reading.{AreBytes}
use Rattle.ace_bin.proofs.Numbers.{bytes_length, number_again, at_below, at_bytes}

-- Each field has a number that it may have, and that its bytes can say.
abbrev pub Fit : ℕ → List Field → List ℕ → Type 0
Fit version [] [] = Unit {0}
Fit version [] (number ∷ numbers) = ⊥
Fit version (field ∷ fields) [] = ⊥
Fit version (field ∷ fields) (number ∷ numbers) = (fits version field number ≡ true) × (number < 256 ^ size_of field) × Fit version fields numbers

-- a port in range is one byte
pub port_below : (version port : ℕ) (first : Bool) → port < 16 ^ cond first 1 2 → port < 256
port_below version port true h = omega (arith, h)
port_below version port false h = h

pub fit_all : (version : ℕ) (fields : List Field) (numbers : List ℕ) → Fit version fields numbers → all_fit version fields numbers ≡ true
fit_all version [] [] h = refl
fit_all version [] (number ∷ numbers) h = absurd h
fit_all version (field ∷ fields) [] h = absurd h
fit_all version (field ∷ fields) (number ∷ numbers) h = and_from (fits version field number) (all_fit version fields numbers) h.0 (fit_all version fields numbers h.2)

pub fit_length : (version : ℕ) (fields : List Field) (numbers : List ℕ) → Fit version fields numbers → length (fields_bytes fields numbers) ≡ size_of_all fields
fit_length version [] [] h = refl
fit_length version [] (number ∷ numbers) h = absurd h
fit_length version (field ∷ fields) [] h = absurd h
fit_length version (field ∷ fields) (number ∷ numbers) h =
    length-append (number_bytes (size_of field) number) (fields_bytes fields numbers)
    ∙ ap (λ n. n + length (fields_bytes fields numbers)) (bytes_length (size_of field) number)
    ∙ ap (λ n. size_of field + n) (fit_length version fields numbers h.2)

-- ---- written, and then read

-- the number of the bytes behind some others
number_behind : (count place number : ℕ) (front rest : List ℕ) → length front ≡ place → number < 256 ^ count → number_at count place (front ++ (number_bytes count number ++ rest)) ≡ number
unfolding number_at
number_behind count place number front rest len lt =
    ap (λ (l : List ℕ). number_onto 0 (take count l)) (drop_at front (number_bytes count number ++ rest) place len)
    ∙ ap (number_onto 0) (take_at (number_bytes count number) rest count (bytes_length count number))
    ∙ number_again count number lt

-- the numbers of the fields behind some bytes
pub numbers_behind : (version : ℕ) (fields : List Field) (numbers : List ℕ) (place : ℕ) (front rest : List ℕ) → Fit version fields numbers → length front ≡ place
    → numbers_at fields place (front ++ (fields_bytes fields numbers ++ rest)) ≡ numbers
numbers_behind version [] [] place front rest h len = refl
numbers_behind version [] (number ∷ numbers) place front rest h len = absurd h
numbers_behind version (field ∷ fields) [] place front rest h len = absurd h
numbers_behind version (field ∷ fields) (number ∷ numbers) place front rest h len =
    let first : List ℕ = number_bytes (size_of field) number in
    let others : List ℕ = fields_bytes fields numbers in
    let grouped : front ++ ((first ++ others) ++ rest) ≡ front ++ (first ++ (others ++ rest)) = ap (λ (l : List ℕ). front ++ l) (append_assoc first others rest) in
    let regrouped : front ++ (first ++ (others ++ rest)) ≡ (front ++ first) ++ (others ++ rest) = sym (append_assoc front first (others ++ rest)) in
    let longer : length (front ++ first) ≡ place + size_of field = length-append front first ∙ omega (arith, len, bytes_length (size_of field) number) in
    let one : number_at (size_of field) place (front ++ ((first ++ others) ++ rest)) ≡ number =
    ap (number_at (size_of field) place) grouped ∙ number_behind (size_of field) place number front (others ++ rest) len h.1 in
    let more : numbers_at fields (place + size_of field) (front ++ ((first ++ others) ++ rest)) ≡ numbers =
    ap (numbers_at fields (place + size_of field)) (grouped ∙ regrouped) ∙ numbers_behind version fields numbers (place + size_of field) (front ++ first) rest h.2 longer in
    ap (λ n. n ∷ numbers_at fields (place + size_of field) (front ++ ((first ++ others) ++ rest))) one ∙ ap (λ (l : List ℕ). number ∷ l) more

pub numbers_again : (version : ℕ) (fields : List Field) (numbers rest : List ℕ) → Fit version fields numbers → numbers_at fields 0 (fields_bytes fields numbers ++ rest) ≡ numbers
numbers_again version fields numbers rest h = numbers_behind version fields numbers 0 [] rest h refl

-- ---- read, and then written

-- one piece and the next are one piece
pub pieces : (a b : ℕ) (xs : List ℕ) → take a xs ++ take b (drop a xs) ≡ take (a + b) xs
pieces a b xs =
    ap (λ (l : List ℕ). take a xs ++ l) (sym (drop-take a b xs))
    ∙ ap (λ (l : List ℕ). l ++ drop a (take (a + b) xs)) (sym (take-take a (a + b) xs (omega arith)))
    ∙ take-append-drop a (take (a + b) xs)

pub fields_again : (fields : List Field) (place : ℕ) (bytes : List ℕ) → AreBytes bytes → place + size_of_all fields ≤ length bytes
    → fields_bytes fields (numbers_at fields place bytes) ≡ take (size_of_all fields) (drop place bytes)
fields_again [] place bytes are le = refl
fields_again (field ∷ fields) place bytes are le =
    let size = size_of field in
    let more = fields_again fields (place + size) bytes are (omega (arith, le)) in
    ap (λ (l : List ℕ). l ++ fields_bytes fields (numbers_at fields (place + size) bytes)) (at_bytes size place bytes are (omega (arith, le)))
    ∙ ap (λ (l : List ℕ). take size (drop place bytes) ++ l) (more ∙ ap (take (size_of_all fields)) (sym (drop-drop size place bytes)))
    ∙ pieces size (size_of_all fields) (drop place bytes)

-- what fields have in bytes fits where each field may have it
pub fit_of : (version : ℕ) (fields : List Field) (place : ℕ) (bytes : List ℕ) → AreBytes bytes → place + size_of_all fields ≤ length bytes
    → all_fit version fields (numbers_at fields place bytes) ≡ true → Fit version fields (numbers_at fields place bytes)
fit_of version [] place bytes are le all = tt
fit_of version (field ∷ fields) place bytes are le all =
    let parts = and_parts (fits version field (number_at (size_of field) place bytes)) (all_fit version fields (numbers_at fields (place + size_of field) bytes)) all in
    (parts.0, at_below (size_of field) place bytes are (omega (arith, le)), fit_of version fields (place + size_of field) bytes are (omega (arith, le)) parts.1)

-- ---- more bytes behind

pub number_stays : (count place : ℕ) (bytes rest : List ℕ) → place + count ≤ length bytes → number_at count place (bytes ++ rest) ≡ number_at count place bytes
unfolding number_at
number_stays count place bytes rest le =
    ap (λ (l : List ℕ). number_onto 0 (take count l)) (drop-append-le place bytes rest (omega (arith, le)))
    ∙ ap (number_onto 0) (take-append-le count (drop place bytes) rest (omega (arith, le, length-drop place bytes)))

pub numbers_stay : (fields : List Field) (place : ℕ) (bytes rest : List ℕ) → place + size_of_all fields ≤ length bytes
    → numbers_at fields place (bytes ++ rest) ≡ numbers_at fields place bytes
numbers_stay [] place bytes rest le = refl
numbers_stay (field ∷ fields) place bytes rest le =
    ap (λ n. n ∷ numbers_at fields (place + size_of field) (bytes ++ rest)) (number_stays (size_of field) place bytes rest (omega (arith, le)))
    ∙ ap (λ (l : List ℕ). number_at (size_of field) place bytes ∷ l) (numbers_stay fields (place + size_of field) bytes rest (omega (arith, le)))
