-- What a row of a snoop says of the data: a dirty line is sent, and stays with the port or is passed on.
use Rattle.std.proofs.Common.{◌≡◌, ℕ, Bool, true, false, not, ◌&&◌, nat_eq, refl, sym, subst, ◌∙◌}
use Rattle.std.proofs.lemmas.Bool.{not-false, and_parts, not-true, eqb-true}
use Rattle.ace_model.proofs.Terms.{SnoopKind, LineState, I, UD, SD, transfers_data, passes_dirty, fits_transfer, must_pass_dirty}
use Rattle.ace_model.proofs.Terms.{goes_with_update, is_line_row, is_plain_row, is_snoop_row, is_invalid, is_dirty, is_silent_move, is_line_snoop}
use Rattle.ace_codes.specs.declared.kind.SnoopKind.TheVariants as snoop
use Rattle.ace_model.proofs.Tables.LineRow.{line_row}

abbrev pub is_make_invalid_snoop : SnoopKind → Bool
is_make_invalid_snoop snoop.MakeInvalid = true
is_make_invalid_snoop _ = false

-- a port that holds the line answers a line snoop by a row of a line
pub held_row : (k : SnoopKind) (held : LineState) (update : Bool) (resp : ℕ) (next : LineState) → is_line_snoop k ≡ true → is_invalid held ≡ false
    → is_snoop_row k held update resp next ≡ true → is_line_row k held update resp next ≡ true
held_row snoop.DvmComplete held update resp next line v e = cc
held_row snoop.DvmMessage held update resp next line v e = cc
held_row k I update resp next line v e = cc
held_row k held update resp next line v e = e

-- one that doesn't answers by the plain one
pub empty_row : (k : SnoopKind) (update : Bool) (resp : ℕ) (next : LineState) → is_snoop_row k I update resp next ≡ true → is_plain_row resp next ≡ true
empty_row snoop.DvmMessage update resp next e = e
empty_row k update resp next e = e

dirty_held : (held : LineState) → is_dirty held ≡ true → is_invalid held ≡ false
dirty_held UD e = refl
dirty_held SD e = refl
dirty_held held e = cc

dirty_transfers : (k : SnoopKind) (held : LineState) (transfer : Bool) → is_make_invalid_snoop k ≡ false → is_dirty held ≡ true → fits_transfer k held transfer ≡ true → transfer ≡ true
dirty_transfers snoop.MakeInvalid held transfer m d f = cc
dirty_transfers k held transfer m d f = rw d at f

must_stay : (k : SnoopKind) (held next : LineState) → is_make_invalid_snoop k ≡ false → is_dirty held ≡ true → must_pass_dirty k held next ≡ false → is_dirty next ≡ true
must_stay snoop.MakeInvalid held next m d f = cc
must_stay k held next m d f = not-false (is_dirty next) (rw d at f)

-- a dirty line is sent
pub dirty_sends : (k : SnoopKind) (held : LineState) (resp : ℕ) (next : LineState) → is_line_snoop k ≡ true → is_snoop_row k held false resp next ≡ true
    → is_make_invalid_snoop k ≡ false → is_dirty held ≡ true → transfers_data resp ≡ true
dirty_sends k held resp next line e m d =
    dirty_transfers k held (transfers_data resp) m d (line_row k held false resp next (held_row k held false resp next line (dirty_held held d) e)).transfer

-- a dirty line that isn't passed on stays dirty
pub dirty_stays : (k : SnoopKind) (held : LineState) (update : Bool) (resp : ℕ) (next : LineState) → is_line_snoop k ≡ true → is_snoop_row k held update resp next ≡ true
    → is_make_invalid_snoop k ≡ false → is_dirty held ≡ true → passes_dirty resp ≡ false → is_dirty next ≡ true
dirty_stays k held update resp next line e m d p =
    must_stay k held next m d (sym (line_row k held update resp next (held_row k held update resp next line (dirty_held held d) e)).pass ∙ p)

-- what is sent was held
pub sends_held : (k : SnoopKind) (resp : ℕ) (next : LineState) → is_snoop_row k I false resp next ≡ true → transfers_data resp ≡ true → ⊥
sends_held k resp next e t =
    let plain = and_parts (nat_eq resp 0) (is_invalid next) (empty_row k false resp next e) in
    let bad : transfers_data 0 ≡ true = subst (λ n. transfers_data n ≡ true) (eqb-true resp 0 plain.0) t in
    cc

-- beside an update the port keeps the line, and the dirt
pub record Beside (k : SnoopKind) (resp : ℕ) (next : LineState) : Type 0 where
  pub keeps : is_invalid next ≡ false
  pub no_pass : passes_dirty resp ≡ false
  pub no_make : is_make_invalid_snoop k ≡ false

pub beside_update : (k : SnoopKind) (held : LineState) (resp : ℕ) (next : LineState) → is_line_snoop k ≡ true → is_invalid held ≡ false
    → is_snoop_row k held true resp next ≡ true → Beside k resp next
beside_update k held resp next line v e =
    let fits = (line_row k held true resp next (held_row k held true resp next line v e)).beside in
    let all = and_parts (goes_with_update k && not (passes_dirty resp)) (not (is_invalid next)) fits in
    let two = and_parts (goes_with_update k) (not (passes_dirty resp)) all.0 in
    record {
      keeps = not-true (is_invalid next) all.1;
      no_pass = not-true (passes_dirty resp) two.1;
      no_make = make k two.0;
    }
  where
    make : (k : SnoopKind) → goes_with_update k ≡ true → is_make_invalid_snoop k ≡ false
    make snoop.MakeInvalid g = cc
    make k g = refl

-- a silent transition keeps the dirt
pub silent_dirty : (held next : LineState) → is_silent_move held next ≡ true → is_dirty held ≡ true → is_dirty next ≡ true
silent_dirty UD SD e d = refl
silent_dirty held next e d = cc

-- a line is not passed on to a snoop that makes it invalid
pub passes_other : (k : SnoopKind) (held : LineState) (resp : ℕ) (next : LineState) → is_line_snoop k ≡ true → is_snoop_row k held false resp next ≡ true
    → passes_dirty resp ≡ true → is_dirty held ≡ true → is_make_invalid_snoop k ≡ false
passes_other snoop.MakeInvalid held resp next line e p d =
    let pass = (line_row snoop.MakeInvalid held false resp next (held_row snoop.MakeInvalid held false resp next line (dirty_held held d) e)).pass in
    let bad : false ≡ true = sym pass ∙ p in cc
passes_other k held resp next line e p d = refl
