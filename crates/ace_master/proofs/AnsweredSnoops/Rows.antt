-- What a row of a snoop says, beside a memory update or not.
use Rattle.std.proofs.Common.{◌≡◌, ◌<◌, ◌⊎◌, ℕ, zero, suc, Bool, true, false, not, ◌&&◌, ◌==◌, List, [], ◌∷◌, ◌++◌, Contains, length, refl, sym, subst, inl, inr, arith}
use Rattle.std.specs.List.{list_all}
use Rattle.std.proofs.lemmas.Bool.{and_from, and_parts, cases_Bool, eqb-true, true≢false}
use Rattle.ace_codes.specs.declared.kind.SnoopKind.{SnoopKind}
use Rattle.ace_codes.specs.declared.kind.SnoopKind.TheVariants as snoop
use Rattle.ace_codes.specs.declared.state.LineState.{LineState}
use Rattle.ace_codes.specs.declared.state.LineState.TheVariants.{I, UC, UD, SC, SD}
use Rattle.ace_codes.specs.Responses.{has_error, transfers_data}
use Rattle.ace_tables.specs.declared.rows.Row.{Row}
use Rattle.ace_tables.specs.Answers.{fits_answer, is_line_row, is_plain_row, is_snoop_row, response_order, rows_among, rows_to, snoop_rows, states_after}
use Rattle.ace_tables.specs.States.{is_among, is_invalid}
use Rattle.ace_model.specs.Kinds.{is_line_snoop}
use Rattle.ace_model.proofs.Tables.SnoopRows.{empty_row}

-- ---- the rows of a list ------------------------------------------------------------------------------

abbrev fits : SnoopKind → LineState → Bool → Row → Bool
fits k held u r = is_snoop_row k held u r.resp r.next

among-fit : (k : SnoopKind) (held : LineState) (u : Bool) (next : LineState) (resps : List ℕ) → list_all (fits k held u) (rows_among k held u next resps) ≡ true
unfolding rows_among
among-fit k held u next [] = refl
among-fit k held u next (resp ∷ resps) =
    let rest = among-fit k held u next resps in
    elim (cases_Bool (is_snoop_row k held u resp next)) [
      | inl t ↦ rw t (and_from _ _ t rest)
      | inr f ↦ rw f rest
    ]

both-fit : (test : Row → Bool) (xs ys : List Row) → list_all test xs ≡ true → list_all test ys ≡ true → list_all test (xs ++ ys) ≡ true
both-fit test [] ys a b = b
both-fit test (x ∷ xs) ys a b = let parts = and_parts (test x) (list_all test xs) a in and_from _ _ parts.0 (both-fit test xs ys parts.1 b)

all-fit : (k : SnoopKind) (held : LineState) (u : Bool) → list_all (fits k held u) (snoop_rows k held u) ≡ true
unfolding snoop_rows rows_to
all-fit k held u =
    let to = λ (next : LineState). among-fit k held u next response_order in
    let t = fits k held u in
    both-fit t _ _ (both-fit t _ _ (both-fit t _ _ (both-fit t _ _ (to UD) (to SD)) (to UC)) (to SC)) (to I)

contained-fits : (test : Row → Bool) (xs : List Row) (r : Row) → list_all test xs ≡ true → Contains xs r → test r ≡ true
contained-fits test [] r all (i, low, is) = absurd (omega (arith, low))
contained-fits test (x ∷ xs) r all (zero, low, is) = subst (λ v. test v ≡ true) is (and_parts (test x) (list_all test xs) all).0
contained-fits test (x ∷ xs) r all (suc i, low, is) = contained-fits test xs r (and_parts (test x) (list_all test xs) all).1 (i, omega (arith, low), is)

-- a row of the list is a row of the snoop
pub contained-row : (k : SnoopKind) (held : LineState) (u : Bool) (r : Row) → Contains (snoop_rows k held u) r → is_snoop_row k held u r.resp r.next ≡ true
contained-row k held u r there = contained-fits (fits k held u) (snoop_rows k held u) r (all-fit k held u) there

-- A snoop of a line has a row in each state, where no memory update of the line is outstanding.
always-row : (k : SnoopKind) (held : LineState) → is_line_snoop k ≡ true → (length (snoop_rows k held false) == 0) ≡ false
unfolding snoop_rows rows_to rows_among
always-row snoop.DvmComplete held line = cc
always-row snoop.DvmMessage held line = cc
always-row k I line = refl
always-row k UC line = refl
always-row k UD line = refl
always-row k SC line = refl
always-row k SD line = refl

pub has-row : (k : SnoopKind) (held : LineState) (u : Bool) → is_line_snoop k ≡ true
    → (u ≡ true → (length (snoop_rows k held true) == 0) ≡ false) → (length (snoop_rows k held u) == 0) ≡ false
has-row k held true line asked = asked refl
has-row k held false line asked = always-row k held line

pub is-there : (n : ℕ) → (n == 0) ≡ false → 0 < n
is-there zero t = absurd (true≢false t)
is-there (suc n) t = omega arith

-- ---- one row -----------------------------------------------------------------------------------------

either-row : (k : SnoopKind) (held : LineState) (u : Bool) (resp : ℕ) (next : LineState) → is_snoop_row k held u resp next ≡ true
    → (is_plain_row resp next ≡ true) ⊎ (is_line_row k held u resp next ≡ true)
either-row snoop.DvmComplete held u resp next e = inl e
either-row snoop.DvmMessage held u resp next e = inl e
either-row k I u resp next e = inl e
either-row k held u resp next e = inr e

-- a row beside an update is a row
pub row-alone : (k : SnoopKind) (held : LineState) (u : Bool) (resp : ℕ) (next : LineState) → is_snoop_row k held u resp next ≡ true → is_snoop_row k held false resp next ≡ true
row-alone snoop.DvmComplete held u resp next e = e
row-alone snoop.DvmMessage held u resp next e = e
row-alone k I u resp next e = e
row-alone k held u resp next e = and_from _ _ (and_parts (is_among next (states_after k held) && fits_answer k held next resp) _ e).0 refl

pub row-no-error : (k : SnoopKind) (held : LineState) (u : Bool) (resp : ℕ) (next : LineState) → is_snoop_row k held u resp next ≡ true → not (has_error resp) ≡ true
row-no-error k held u resp next e =
    elim (either-row k held u resp next e) [
      | inl plain ↦ let none = eqb-true resp 0 (and_parts (resp == 0) (is_invalid next) plain).0 in subst (λ n. not (has_error n) ≡ true) (sym none) refl
      | inr line ↦
          let of = (and_parts (is_among next (states_after k held) && fits_answer k held next resp) _ line).0 in
          let bits = (and_parts (is_among next (states_after k held)) _ of).1 in
          error bits
    ]
  where
    error : fits_answer k held next resp ≡ true → not (has_error resp) ≡ true
    error bits = (and_parts _ (not (has_error resp)) (and_parts _ _ (and_parts _ _ (and_parts _ _ (and_parts _ _ bits).0).0).0).0).1

-- the row of a DVM snoop announces no data
pub message-row : (k : SnoopKind) (held : LineState) (u : Bool) (resp : ℕ) (next : LineState) → is_line_snoop k ≡ false → is_snoop_row k held u resp next ≡ true → transfers_data resp ≡ false
message-row snoop.DvmComplete held u resp next none e = subst (λ n. transfers_data n ≡ false) (sym (eqb-true resp 0 (and_parts (resp == 0) (is_invalid next) e).0)) refl
message-row snoop.DvmMessage held u resp next none e = subst (λ n. transfers_data n ≡ false) (sym (eqb-true resp 0 (and_parts (resp == 0) (is_invalid next) e).0)) refl
message-row k held u resp next none e = cc

-- the port holds the line whose data it announces
pub sent-held : (k : SnoopKind) (held : LineState) (u : Bool) (resp : ℕ) (next : LineState) → is_snoop_row k held u resp next ≡ true → transfers_data resp ≡ true → is_invalid held ≡ false
sent-held k I u resp next e sends =
    let plain = and_parts (resp == 0) (is_invalid next) (empty_row k u resp next e) in
    let bad : transfers_data 0 ≡ true = subst (λ n. transfers_data n ≡ true) (eqb-true resp 0 plain.0) sends in cc
sent-held k held u resp next e sends = refl
