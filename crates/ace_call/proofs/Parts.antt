-- What a text that was cut short leaves on a sink.
use Rattle.std.proofs.Common.{◌≡◌, ◌<◌, ◌≤◌, ◌-◌, ◌^◌, ◌++◌, ℕ, List, [], ◌∷◌, Option, None, Some, length, take, drop, sym, subst, refl, ap, ◌∙◌, take-append-drop, append-nil, Result, Ok, Err, OnErr, OnOk, arith}
use Rattle.std.proofs.lemmas.List.{take_all}
use Rattle.std.specs.Io.KnownBytes.{Appends, Keeps}
use Rattle.std.proofs.KnownBytes.{Appends-nil, Keeps-refl}
use Rattle.ace_io.specs.Faults.{HasCause}
use Rattle.ace_convert.specs.Output.{AppendsPart}

-- a front of the text
pub front_appended : (a b : Option (List ℕ)) (n : ℕ) (text : List ℕ) → Appends a b (take n text) → AppendsPart a b text
front_appended a b n text p = (take n text, drop n text, sym (take-append-drop n text), p)

-- all of its bytes
pub all_appended : (a b : Option (List ℕ)) (n : ℕ) (text : List ℕ) → length text ≤ n → Appends a b (take n text) → Appends a b text
all_appended a b n text le p = subst (Appends a b) (take_all n text le) p

-- of two texts that make nothing together, each is nothing
pub both_nothing : (front rest : List ℕ) → front ++ rest ≡ [] → (front ≡ []) × (rest ≡ [])
both_nothing [] rest e = (refl, e)
both_nothing (b ∷ front) rest e = absurd (cc)

-- the whole text is a front of it
pub whole_part : (a b : Option (List ℕ)) (text : List ℕ) → Appends a b text → AppendsPart a b text
whole_part a b text p = (text, [], sym (append-nil text), p)

-- no more than nothing was appended
pub nothing_appended : (a b : Option (List ℕ)) → AppendsPart a b [] → Appends a b []
nothing_appended a b (part, rest, cut, given) = subst (Appends a b) (both_nothing part rest (sym cut)).0 given

-- nothing is a front of any text
pub no_part : (a : Option (List ℕ)) (text : List ℕ) → AppendsPart a a text
no_part a text = ([], text, refl, Appends-nil a)

-- where neither of two attempts was counted as failed, though each that fails is counted, all of the second text was appended
pub told_alone : (a b c : Option (List ℕ)) (n m k : ℕ) (text : List ℕ)
    → (n < 2 ^ 64 - 1 → m ≡ n → Keeps a b) → n ≤ m → m ≤ k → (m < 2 ^ 64 - 1 → k ≡ m → Appends b c text) → n < 2 ^ 64 - 1 → k ≡ n → Appends a c text
told_alone a b c n m k text kept later more told below same =
    let mid : m ≡ n = omega arith in
    kept_before a b c text (kept below mid) (told (omega arith) (omega arith))
  where
    kept_before : (a b c : Option (List ℕ)) (bs : List ℕ) → Keeps a b → Appends b c bs → Appends a c bs
    kept_before None b c bs p q = tt
    kept_before (Some x) None c bs p q = absurd p
    kept_before (Some x) (Some y) None bs p q = absurd q
    kept_before (Some x) (Some y) (Some z) bs p q = q ∙ ap (λ l. l ++ bs) p

-- the first of two attempts, where it is the one that may fail
pub told_once : (a b : Option (List ℕ)) (n m : ℕ) (text : List ℕ) {T E : Type 0} (r : Result T E)
    → HasCause n m r → OnOk r (Appends a b text) → n < 2 ^ 64 - 1 → m ≡ n → Appends a b text
told_once a b n m text (Ok x) cause whole below same = whole
told_once a b n m text (Err e) cause whole below same = absurd (omega (arith, cause.failed below))

-- whether or not the second attempt failed, a front of its text was appended
pub any_part : (a b : Option (List ℕ)) (text : List ℕ) {T E : Type 0} (r : Result T E) → OnOk r (Appends a b text) → OnErr r (AppendsPart a b text) → AppendsPart a b text
any_part a b text (Ok x) whole part = whole_part a b text whole
any_part a b text (Err e) whole part = part

pub ruleset fronts = (front_appended, all_appended)

pub ruleset parts = (whole_part, no_part, told_alone, told_once, any_part, Keeps-refl)
