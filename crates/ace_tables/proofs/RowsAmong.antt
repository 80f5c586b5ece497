-- The rows from a place in a list of responses on.
use Rattle.std.proofs.Common.{◌≡◌, ℕ, ◌+◌, ◌<◌, ◌≤◌, ◌==◌, ◌&&◌, ◌||◌, Bool, true, false, not, List, [], ◌∷◌, length, get_or, drop, if◌then◌else◌, refl}
use Rattle.std.proofs.lemmas.List.{append-nil, at_drop_more, drop_all}
use Rattle.ace_codes.specs.declared.kind.SnoopKind.{SnoopKind}
use Rattle.ace_codes.specs.declared.kind.SnoopKind.TheVariants.{DvmComplete, DvmMessage}
use Rattle.ace_codes.specs.declared.state.LineState.{LineState}
use Rattle.ace_codes.specs.declared.state.LineState.TheVariants.{I}
use Rattle.ace_tables.specs.Answers.{fits_answer, fits_update, is_snoop_row, rows_among, rows_to, response_order, snoop_rows, states_after}
use Rattle.ace_tables.specs.States.{is_among, is_invalid}

-- that of the response at the place, if it has one, and the rest
pub rows_among-drop : (kind : SnoopKind) (held : LineState) (update : Bool) (next : LineState) (responses : List ℕ) (i : ℕ) (fits : Bool) → i < length responses → fits ≡ is_snoop_row kind held update (get_or responses i 0) next
    → rows_among kind held update next (drop i responses) ≡ (if fits then record { resp = get_or responses i 0; next = next } ∷ rows_among kind held update next (drop (i + 1) responses) else rows_among kind held update next (drop (i + 1) responses))
unfolding rows_among
rows_among-drop kind held update next responses i fits within e = rw e (at_drop_more (rows_among kind held update next) responses i 0 within)

-- no responses are left
pub rows_among-past : (kind : SnoopKind) (held : LineState) (update : Bool) (next : LineState) (responses : List ℕ) (i : ℕ) → length responses ≤ i → rows_among kind held update next (drop i responses) ≡ []
unfolding rows_among
rows_among-past kind held update next responses i past = rw (drop_all i responses past) refl

-- what isn't so of one isn't so of all
first-off : (a b c : Bool) → a ≡ false → (a && b && c) ≡ false
first-off false b c off = refl
first-off true b c off = cc

second-off : (a b : Bool) → b ≡ false → (a && b) ≡ false
second-off false b off = refl
second-off true b off = off

-- neither is so
neither : (a b : Bool) → (a || b) ≡ false → (a ≡ false) × (b ≡ false)
neither false b off = (refl, off)
neither true b off = cc

-- there is no row with a next state other than I in which the snoop can't leave the port
not-row : (kind : SnoopKind) (held next : LineState) (update : Bool) (resp : ℕ) → is_invalid next ≡ false → is_among next (states_after kind held) ≡ false → is_snoop_row kind held update resp next ≡ false
not-row DvmComplete held next update resp kept off = second-off (resp == 0) (is_invalid next) kept
not-row DvmMessage held next update resp kept off = second-off (resp == 0) (is_invalid next) kept
not-row _ I next update resp kept off = second-off (resp == 0) (is_invalid next) kept
not-row kind held next update resp kept off =
    first-off (is_among next (states_after kind held)) (fits_answer kind held next resp) (not update || fits_update kind next resp) off

none-among : (kind : SnoopKind) (held next : LineState) (update : Bool) (responses : List ℕ) → is_invalid next ≡ false → is_among next (states_after kind held) ≡ false → rows_among kind held update next responses ≡ []
unfolding rows_among
none-among kind held next update [] kept off = refl
none-among kind held next update (resp ∷ rest) kept off = rw (not-row kind held next update resp kept off) (none-among kind held next update rest kept off)

pub no-rows : (kind : SnoopKind) (held next : LineState) (update : Bool) → (is_invalid next || is_among next (states_after kind held)) ≡ false → rows_to kind held update next ≡ []
unfolding rows_to
no-rows kind held next update off =
    let both = neither (is_invalid next) (is_among next (states_after kind held)) off in
    none-among kind held next update response_order both.0 both.1

-- the rows of a port that doesn't hold the line
pub invalid-rows : (kind : SnoopKind) (held : LineState) (update : Bool) → is_invalid held ≡ true → snoop_rows kind held update ≡ record { resp = 0; next = I } ∷ []
unfolding snoop_rows rows_to rows_among
invalid-rows DvmComplete I update is = refl
invalid-rows _ I update is = refl
invalid-rows _ _ update is = cc

pub ruleset row_steps = (rows_among-past, append-nil)
