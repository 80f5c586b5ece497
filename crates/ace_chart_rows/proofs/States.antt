-- The states of ports, one after another.
use Rattle.std.proofs.Common.{◌≡◌, ◌<◌, ℕ, ◌+◌, List, length, map, take, slice_set, sym, refl, ◌∙◌, arith}
use Rattle.std.specs.List.{range_with_len}
use Rattle.std.proofs.lemmas.List.{take_more_set}
use Rattle.std.proofs.lemmas.List.FromFn.{map-range_with_len_more}
use Rattle.ace_codes.specs.declared.state.LineState.{LineState}

pub states_next : (f : ℕ → LineState) (states : List LineState) (i : ℕ) (st : LineState) → i < length states
    → take i states ≡ map f (range_with_len 0 i) → st ≡ f i → take (i + 1) (slice_set states i st) ≡ map f (range_with_len 0 (i + 1))
states_next f states i st within so_far is =
    take_more_set states i st within ∙ rw (so_far, is) (sym (map-range_with_len_more f 0 i i (omega arith)))
