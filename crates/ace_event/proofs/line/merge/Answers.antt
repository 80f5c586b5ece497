use Rattle.std.proofs.Common.{rules, List, ℕ, [], ◌∷◌}
use Rattle.ace_event.specs.declared.line.Line.{Line}
use Rattle.ace_event.specs.Bytes.{merged}
use Rattle.ace_event.proofs.Bytes.{merged_bytes}
use Rattle.ace_event.proofs.line.merge.Goals as goal

pub returns-clause-value : goal.returns-clause-value
unfolding merged
returns-clause-value c = search rules

pub returns-clause-by_byte : goal.returns-clause-by_byte
unfolding merged
returns-clause-by_byte c =
    let words : List ℕ = c.merge_word.result ∷ c.merge_word-2.result ∷ c.merge_word-3.result ∷ c.merge_word-4.result ∷ [] in
    let made : Line = record { words = words } in
    merged_bytes c.args.line c.args.strobe c.args.bytes made (search rules)
