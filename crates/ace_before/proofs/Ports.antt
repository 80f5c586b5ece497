-- What there is at ports, one after another.
use Rattle.std.proofs.Common.{◌≡◌, ◌<◌, ℕ, ◌+◌, List, length, map, take, slice_set, sym, ◌∙◌, arith}
use Rattle.std.specs.List.{range_with_len}
use Rattle.std.proofs.lemmas.List.{take_more_set}
use Rattle.std.proofs.lemmas.List.FromFn.{map-range_with_len_more}
use Rattle.ace_before.specs.declared.before.PortBefore.{PortBefore}

pub ports_next : (f : ℕ → PortBefore) (each : List PortBefore) (i : ℕ) (x : PortBefore) → i < length each
    → take i each ≡ map f (range_with_len 0 i) → x ≡ f i → take (i + 1) (slice_set each i x) ≡ map f (range_with_len 0 (i + 1))
ports_next f each i x within so_far is =
    take_more_set each i x within ∙ rw (so_far, is) (sym (map-range_with_len_more f 0 i i (omega arith)))
