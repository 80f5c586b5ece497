-- The answers to a snoop: which state the port is left in, and what CRRESP says (Arm IHI 0022E, C5
-- and C3.7; which of the permitted ones is our choice).
use Rattle.std.specs.Prelude.{ℕ, Bool, true, false, not, ◌&&◌, ◌||◌, ◌==◌, nat_lt, List, [], ◌∷◌, ◌++◌, if◌then◌else◌}
use Rattle.ace_codes.specs.declared.state.LineState.{LineState}
use Rattle.ace_codes.specs.declared.state.LineState.TheVariants.{I, UC, UD, SC, SD}
use Rattle.ace_codes.specs.declared.kind.SnoopKind.{SnoopKind}
use Rattle.ace_codes.specs.declared.kind.SnoopKind.TheVariants.{ReadOnce, ReadShared, ReadClean, ReadNotSharedDirty, ReadUnique, CleanShared, CleanInvalid, MakeInvalid, DvmComplete, DvmMessage}
use Rattle.ace_codes.specs.Responses.{transfers_data, has_error, passes_dirty, is_shared, was_unique}
use Rattle.ace_tables.specs.declared.rows.Row.{Row}
use Rattle.ace_tables.specs.States.{is_invalid, is_dirty, is_unique, is_among}

-- the states in which ReadShared, ReadClean and ReadNotSharedDirty may leave a port that holds the
-- line
abbrev pub states_after_sharing : LineState → List LineState
states_after_sharing UC = SC ∷ I ∷ []
states_after_sharing UD = SD ∷ SC ∷ I ∷ []
states_after_sharing SC = SC ∷ I ∷ []
states_after_sharing SD = SD ∷ SC ∷ I ∷ []
states_after_sharing I = []

-- the states in which a line snoop may leave a port that holds the line
abbrev pub states_after : SnoopKind → LineState → List LineState
states_after ReadOnce UC = UC ∷ SC ∷ I ∷ []
states_after ReadOnce UD = UD ∷ SD ∷ SC ∷ I ∷ []
states_after ReadOnce SC = SC ∷ I ∷ []
states_after ReadOnce SD = SD ∷ SC ∷ I ∷ []
states_after ReadShared held = states_after_sharing held
states_after ReadClean held = states_after_sharing held
states_after ReadNotSharedDirty held = states_after_sharing held
states_after ReadUnique held = I ∷ []
states_after CleanInvalid held = I ∷ []
states_after MakeInvalid held = I ∷ []
states_after CleanShared UC = UC ∷ SC ∷ I ∷ []
states_after CleanShared UD = UC ∷ SC ∷ I ∷ []
states_after CleanShared SC = SC ∷ I ∷ []
states_after CleanShared SD = SC ∷ I ∷ []
states_after _ _ = []

-- DataTransfer: 0 for MakeInvalid; for the others 1 where the held state is dirty, and free where
-- it is clean
abbrev pub fits_transfer : SnoopKind → LineState → Bool → Bool
fits_transfer MakeInvalid held transfer = not transfer
fits_transfer _ held transfer = not (is_dirty held) || transfer

-- PassDirty: 1 exactly where the held state is dirty, the new one isn't, and the snoop isn't
-- MakeInvalid
abbrev pub must_pass_dirty : SnoopKind → LineState → LineState → Bool
must_pass_dirty MakeInvalid held next = false
must_pass_dirty _ held next = is_dirty held && not (is_dirty next)

abbrev pub same_test : Bool → Bool → Bool
same_test true b = b
same_test false b = not b

-- the bits of the response; IsShared is 1 exactly where the line is kept, WasUnique may be 1 where
-- it was unique, and Error is 0
abbrev pub fits_answer : SnoopKind → LineState → LineState → ℕ → Bool
fits_answer kind held next resp =
    nat_lt resp 32
    && not (has_error resp)
    && fits_transfer kind held (transfers_data resp)
    && same_test (passes_dirty resp) (must_pass_dirty kind held next)
    && same_test (is_shared resp) (not (is_invalid next))
    && (not (was_unique resp) || is_unique held)

-- the snoops that a port answers while a memory update of the line is outstanding
abbrev pub goes_with_update : SnoopKind → Bool
goes_with_update ReadOnce = true
goes_with_update ReadShared = true
goes_with_update ReadClean = true
goes_with_update ReadNotSharedDirty = true
goes_with_update _ = false

-- with a memory update of the line outstanding, the port keeps the line and the duty to write it
abbrev pub fits_update : SnoopKind → LineState → ℕ → Bool
fits_update kind next resp =
    goes_with_update kind && not (passes_dirty resp) && not (is_invalid next)

-- a port that holds the line in the first state may answer the line snoop with this response and be
-- in the next state
abbrev pub is_line_row : SnoopKind → LineState → Bool → ℕ → LineState → Bool
is_line_row kind held update resp next =
    is_among next (states_after kind held) && fits_answer kind held next resp
    && (not update || fits_update kind next resp)

-- the one answer of a port that doesn't hold the line, and of a DVM snoop
abbrev pub is_plain_row : ℕ → LineState → Bool
is_plain_row resp next = (resp == 0) && is_invalid next

-- a port may answer the snoop with this response and be in the next state: where it holds the first
-- state, and has a memory update of the line outstanding or not
abbrev pub is_snoop_row : SnoopKind → LineState → Bool → ℕ → LineState → Bool
is_snoop_row DvmComplete held update resp next = is_plain_row resp next
is_snoop_row DvmMessage held update resp next = is_plain_row resp next
is_snoop_row kind I update resp next = is_plain_row resp next
is_snoop_row kind held update resp next = is_line_row kind held update resp next

-- the order of the responses in a list of rows: DataTransfer 0 before 1, then WasUnique 0 before 1
abbrev pub response_order : List ℕ
response_order = 0 ∷ 4 ∷ 8 ∷ 12 ∷ 16 ∷ 20 ∷ 24 ∷ 28 ∷ 1 ∷ 5 ∷ 9 ∷ 13 ∷ 17 ∷ 21 ∷ 25 ∷ 29 ∷ []

-- the rows with one of these responses and this next state
unfoldable pub rows_among : SnoopKind → LineState → Bool → LineState → List ℕ → List Row
rows_among kind held update next [] = []
rows_among kind held update next (resp ∷ rest) =
    if is_snoop_row kind held update resp next
    then record { resp = resp; next = next } ∷ rows_among kind held update next rest
    else rows_among kind held update next rest

-- the rows with this next state
unfoldable pub rows_to : SnoopKind → LineState → Bool → LineState → List Row
rows_to kind held update next = rows_among kind held update next response_order

-- all rows, by their next states in the order UD, SD, UC, SC, I
unfoldable pub snoop_rows : SnoopKind → LineState → Bool → List Row
snoop_rows kind held update =
    rows_to kind held update UD
    ++ rows_to kind held update SD
    ++ rows_to kind held update UC
    ++ rows_to kind held update SC
    ++ rows_to kind held update I
