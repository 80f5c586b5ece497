use Rattle.ace_grammar.specs.Records.{l_fields}
use Rattle.ace_grammar.proofs.Texts.Ended.{map_ended}
use Rattle.ace_grammar.proofs.records.read_l.Goals as goal

pub returns-clause-event : goal.returns-clause-event
unfolding l_fields
returns-clause-event c =
    rw (
      ← c.in_ok-port.ensures,
      ← c.in_ok-addr.ensures.value,
      ← c.in_ok-w.ensures.value,
      ← c.in_ok-x.ensures,
      ← c.in_ok-word.ensures.value,
      c.put_at_end.ensures.event,
    ) (simp map_ended)
