use Rattle.ace_grammar.specs.Records.{aw_fields}
use Rattle.ace_grammar.proofs.Texts.Ended.{map_ended}
use Rattle.ace_grammar.proofs.records.read_aw.Goals as goal

pub returns-clause-event : goal.returns-clause-event
unfolding aw_fields
returns-clause-event c =
    rw (
      ← c.in_ok-port.ensures,
      ← c.in_ok-id.ensures.value,
      ← c.in_ok-addr.ensures.value,
      ← c.in_ok-snoop.ensures.value,
      ← c.in_ok-dom.ensures.value,
      ← c.in_ok-bar.ensures.value,
      c.put_at_end.ensures.event,
    ) (simp map_ended)
