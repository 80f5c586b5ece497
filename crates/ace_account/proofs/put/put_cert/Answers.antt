use Rattle.ace_report.proofs.Puts.{puts_first, puts_last, part_first, part_last, part_put, whole_given, part_given}
use Rattle.ace_account.proofs.put.put_cert.Goals as goal

pub returns-in-Err-clause-part : goal.returns-in-Err-clause-part
returns-in-Err-clause-part g c = part_put _ _ _ _ c.empty-page.ensures (part_first _ _ _ _ _ c.in-Err.ensures.part)

pub returns-in-Err-put_places-clause-part : goal.returns-in-Err-put_places-clause-part
returns-in-Err-put_places-clause-part g c =
    part_put _ _ _ _ c.empty-page.ensures (part_last _ _ _ _ _ _ _ (puts_first _ _ _ _ _ _ c.in-Ok.ensures.whole) c.in-Err-put_places.ensures.part)

pub returns-in-Ok-put_places-clause-whole : goal.returns-in-Ok-put_places-clause-whole
returns-in-Ok-put_places-clause-whole g c =
    whole_given c.give_over.result _ _ _ _ _ _ _ c.empty-page.ensures
    (puts_last _ _ _ _ _ _ _ _ (puts_first _ _ _ _ _ _ c.in-Ok.ensures.whole) c.in-Ok-put_places.ensures.whole)
    c.give_over.ensures.whole c.give_over.ensures.room

pub returns-in-Ok-put_places-clause-part : goal.returns-in-Ok-put_places-clause-part
returns-in-Ok-put_places-clause-part g c =
    part_given c.give_over.result _ _ _ _ _ _ c.empty-page.ensures
    (puts_last _ _ _ _ _ _ _ _ (puts_first _ _ _ _ _ _ c.in-Ok.ensures.whole) c.in-Ok-put_places.ensures.whole)
    c.give_over.ensures.part
