use Rattle.std.proofs.Common.{inl, rules}
use Rattle.std.proofs.KnownBytes.{Appends-nil}
use Rattle.ace_tool.proofs.BatchDone.{is_done}
use Rattle.ace_tool.proofs.batch_top.do_batch.Goals as goal

pub returns-in-Ok-tell_texts-clause-done : goal.returns-in-Ok-tell_texts-clause-done
returns-in-Ok-tell_texts-clause-done g c fine =
    inl (
      is_done _ _ _ _ _ _ _ _ _ c.in-Ok.looked.entries.items c.in-Ok.looked.left c.in-Ok-texts_of.texts.told.items c.in-Ok-texts_of.texts.json.items
          c.in-Ok-texts_of.texts.junit.items c.in-Ok.ensures (search rules) (search rules) (search rules) c.in-Ok-tell_texts.ensures.whole
          (search rules),
      Appends-nil _,
    )
