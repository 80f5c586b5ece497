use Rattle.ace_grammar.specs.Records.{r_fields}
use Rattle.ace_grammar.proofs.Texts.Ended.{map_ended}
use Rattle.ace_grammar.proofs.records.read_r.Goals as goal

pub returns-clause-event : goal.returns-clause-event
unfolding r_fields
returns-clause-event c =
    rw (
      ← c.in_ok-port.ensures,
      ← c.in_ok-id.ensures.value,
      ← c.in_ok-resp.ensures.value,
      ← c.in_ok-last.ensures,
      ← c.in_ok-word.ensures.value,
      c.put_at_end.ensures.event,
    ) (simp map_ended)
