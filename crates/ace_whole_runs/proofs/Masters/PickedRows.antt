-- Where a snoop has a row, there is one that the word of a plan allows.
use Rattle.std.proofs.Common.{◌≡◌, zero, ◌==◌, Bool, true, false, not, ◌||◌, List, [], ◌∷◌, length, filter, Contains, Some, None, refl, sym, ap, subst, ◌∙◌, arith, inl, inr}
use Rattle.std.proofs.lemmas.Bool.{cases_Bool}
use Rattle.ace_codes.specs.declared.kind.SnoopKind.{SnoopKind}
use Rattle.ace_codes.specs.declared.kind.SnoopKind.TheVariants as snoop
use Rattle.ace_codes.specs.declared.state.LineState.{LineState}
use Rattle.ace_codes.specs.declared.state.LineState.TheVariants.{I}
use Rattle.ace_tables.specs.declared.rows.Row.{Row}
use Rattle.ace_tables.specs.Answers.{is_snoop_row, snoop_rows}
use Rattle.ace_tables.specs.Picks.{eager_row, is_like, keep_row, kept_row, last_row}
use Rattle.ace_model.specs.declared.plans.PolicyWord.{PolicyWord}
use Rattle.ace_model.specs.declared.plans.PolicyWord.TheVariants.{Keep, Eager, Mixed}
use Rattle.ace_model.specs.Kinds.{is_line_snoop}
use Rattle.ace_policy.specs.Permitted.{Contains-one, eager_permitted, keep_permitted}
use Rattle.ace_policy.specs.Policies.{eager_rows, keep_rows}
use Rattle.ace_policy.proofs.KeptRow.{kept-first}
use Rattle.ace_master.specs.declared.answering.Asked.{Asked}
use Rattle.ace_master.specs.Answering.{IsByWord, IsRowFor, can_answer}
use Rattle.ace_master.proofs.AnsweredSnoops.PolicyWords.{eager-by-word, keep-by-word, mixed-by-word}
use Rattle.ace_master.proofs.AnsweredSnoops.Rows.{contained-row}

-- the rows that the word of a plan allows
abbrev pub rows_of : PolicyWord → SnoopKind → LineState → Bool → List Row
rows_of Keep = keep_rows
rows_of Eager = eager_rows
rows_of (Mixed n) = snoop_rows

pub rows-by-word : (word : PolicyWord) → IsByWord word (rows_of word)
rows-by-word Keep = keep-by-word
rows-by-word Eager = eager-by-word
rows-by-word (Mixed n) = mixed-by-word n snoop_rows

-- they are rows of the snoop
permitted : (word : PolicyWord) (k : SnoopKind) (held : LineState) (u : Bool) (r : Row) → Contains (rows_of word k held u) r
    → Contains (snoop_rows k held u) r
permitted Keep = keep_permitted
permitted Eager = eager_permitted
permitted (Mixed n) = λ k held u r there. there

-- ---- there is one ------------------------------------------------------------------------------------

last-some : (row : Row) (rows : List Row) → (r : Row) × (last_row (row ∷ rows) ≡ Some r)
last-some row [] = (row, refl)
last-some row (second ∷ rows) = last-some second rows

like-itself : (row : Row) → is_like row row ≡ true
like-itself row = elim (cases_Bool (is_like row row)) [
  | inl t ↦ t
  | inr f ↦
      let none : last_row (filter (is_like row) (row ∷ [])) ≡ None = rw f refl in
      let bad : None ≡ Some row = sym none ∙ kept-first (row ∷ []) row refl in cc
]

kept-some : (row : Row) (rows : List Row) → (r : Row) × (kept_row (row ∷ rows) ≡ Some r)
kept-some row rows =
    let last = last-some row (filter (is_like row) rows) in
    (last.0, ap last_row (like-first row rows) ∙ last.1)
  where
    like-first : (row : Row) (rows : List Row) → filter (is_like row) (row ∷ rows) ≡ row ∷ filter (is_like row) rows
    like-first row rows = rw (like-itself row) refl

some-of : (rows : List Row) → not (length rows == 0) ≡ true → (first : Row) × (rest : List Row) × (rows ≡ first ∷ rest)
some-of [] some = cc
some-of (first ∷ rest) some = (first, rest, refl)

some-picked : (word : PolicyWord) (k : SnoopKind) (held : LineState) (u : Bool) → not (length (snoop_rows k held u) == 0) ≡ true
    → (r : Row) × Contains (rows_of word k held u) r
some-picked Keep k held u some =
    let s = some-of (snoop_rows k held u) some in
    let kept = kept-some s.0 s.1 in
    (kept.0, Contains-one (keep_row k held u) kept.0 (ap kept_row s.2 ∙ kept.1))
some-picked Eager k held u some =
    let s = some-of (snoop_rows k held u) some in
    let last = last-some s.0 s.1 in
    (last.0, Contains-one (eager_row k held u) last.0 (ap last_row s.2 ∙ last.1))
some-picked (Mixed n) k held u some =
    let s = some-of (snoop_rows k held u) some in
    (s.0, subst (λ rows. Contains rows s.0) (sym s.2) (zero, omega arith, refl))

-- the answer to a snoop of DVM
message-fits : (k : SnoopKind) (held : LineState) (u : Bool) → is_line_snoop k ≡ false → is_snoop_row k held u 0 I ≡ true
message-fits snoop.DvmComplete held u none = refl
message-fits snoop.DvmMessage held u none = refl
message-fits k held u none = cc

pub row-picked : (word : PolicyWord) (a : Asked) → can_answer a ≡ true → (r : Row) × IsRowFor (rows_of word) a r
row-picked word a can = elim (cases_Bool (is_line_snoop a.kind)) [
  | inr none ↦ (
    record { resp = 0; next = I },
    record { can = can; row = message-fits a.kind a.held a.update none; picked = λ line. let bad : false ≡ true = sym none ∙ line in cc },
  )
  | inl line ↦
      let some : not (length (snoop_rows a.kind a.held a.update) == 0) ≡ true = second (is_line_snoop a.kind) _ line can in
      let r = some-picked word a.kind a.held a.update some in (
        r.0,
        record { can = can; row = contained-row a.kind a.held a.update r.0 (permitted word a.kind a.held a.update r.0 r.1); picked = λ line. r.1 },
      )
]
  where
    second : (b c : Bool) → b ≡ true → (not b || c) ≡ true → c ≡ true
    second true c t s = s
    second false c t s = cc
