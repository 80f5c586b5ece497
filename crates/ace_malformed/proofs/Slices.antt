-- Bytes behind the end.
use Rattle.std.proofs.lemmas.List.{drop_all}

pub ruleset slices = (drop_all)
