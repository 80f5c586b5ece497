use Rattle.std.proofs.Common.{rules, not}
use Rattle.std.proofs.lemmas.Fn.{filter_same}
use Rattle.ace_cache.specs.Ways.{has_address}
use Rattle.ace_cache.proofs.ways.take_out.Goals as goal

pub returns-clause-rest : goal.returns-clause-rest
returns-clause-rest c =
    filter_same _ (λ way. not (has_address c.args.addr way)) _ (λ x b f' k. search rules) _ _ c.retain.ensures.filtered
