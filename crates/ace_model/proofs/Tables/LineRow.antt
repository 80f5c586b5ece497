-- What a row of a port that holds the line says, part by part.
use Rattle.std.proofs.Common.{◌≡◌, ℕ, Bool, true, not, ◌&&◌, ◌||◌, nat_lt}
use Rattle.std.proofs.lemmas.Bool.{and_parts}
use Rattle.ace_model.proofs.Terms.{SnoopKind, LineState, transfers_data, has_error, passes_dirty, is_shared, same_test, states_after, fits_transfer, must_pass_dirty, fits_answer, fits_update, is_line_row}
use Rattle.ace_model.proofs.Terms.{is_among, is_invalid}
use Rattle.ace_model.proofs.General.Booleans.{same_test-at}

pub record LineRow (k : SnoopKind) (held : LineState) (update : Bool) (resp : ℕ) (next : LineState) : Type 0 where
  pub among : is_among next (states_after k held) ≡ true
  pub transfer : fits_transfer k held (transfers_data resp) ≡ true
  pub pass : passes_dirty resp ≡ must_pass_dirty k held next
  pub shared : is_shared resp ≡ not (is_invalid next)
  pub beside : (not update || fits_update k next resp) ≡ true

pub line_row : (k : SnoopKind) (held : LineState) (update : Bool) (resp : ℕ) (next : LineState) → is_line_row k held update resp next ≡ true → LineRow k held update resp next
line_row k held update resp next e =
    let all = and_parts (is_among next (states_after k held) && fits_answer k held next resp) _ e in
    let two = and_parts (is_among next (states_after k held)) _ all.0 in
    let early = nat_lt resp 32 && not (has_error resp) && fits_transfer k held (transfers_data resp) in
    let pass = same_test (passes_dirty resp) (must_pass_dirty k held next) in
    let share = same_test (is_shared resp) (not (is_invalid next)) in
    let bits = and_parts (early && pass) share (and_parts (early && pass && share) _ two.1).0 in
    let first = and_parts early pass bits.0 in
    record {
      among = two.0;
      transfer = (and_parts (nat_lt resp 32 && not (has_error resp)) _ first.0).1;
      pass = same_test-at _ _ first.1;
      shared = same_test-at _ _ bits.1;
      beside = all.1;
    }
