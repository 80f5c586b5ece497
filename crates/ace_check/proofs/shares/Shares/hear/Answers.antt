use Rattle.ace_check.proofs.WhatComes.{comes-within}
use Rattle.ace_check.proofs.shares.Shares.hear.Goals as goal

pub returns : goal.returns
returns c = λ h past s m.
    let fine = c.hear_event-heard.ensures.room h past s m in
    let t = comes-within c.hear_event-heard.ensures fine.0 s.room.most h past s.tell m.few in
    record { tell = t.2; room = fine.1 }
