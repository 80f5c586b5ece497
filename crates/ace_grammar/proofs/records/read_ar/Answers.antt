use Rattle.ace_grammar.specs.Records.{ar_fields}
use Rattle.ace_grammar.proofs.Texts.Ended.{map_ended}
use Rattle.ace_grammar.proofs.records.read_ar.Goals as goal

pub returns-clause-event : goal.returns-clause-event
unfolding ar_fields
returns-clause-event c =
    rw (
      ← c.in_ok-port.ensures,
      ← c.in_ok-id.ensures.value,
      ← c.in_ok-addr.ensures.value,
      ← c.in_ok-snoop.ensures.value,
      ← c.in_ok-dom.ensures.value,
      ← c.in_ok-bar.ensures.value,
      ← c.in_ok-lock.ensures,
      c.put_at_end.ensures.event,
    ) (simp map_ended)
