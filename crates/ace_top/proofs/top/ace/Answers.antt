use Rattle.ace_top.proofs.WordsAnswered.{is_command, is_reading_command, memory_broken, usage_broken}
use Rattle.ace_top.proofs.top.ace.Goals as goal

pub returns-in-Some-clause-no_command : goal.returns-in-Some-clause-no_command
returns-in-Some-clause-no_command g c none = absurd (none (is_command _ _ (rw c.in-Some.is at c.in-Ok.ensures)))

pub returns-in-Some-clause-untouched : goal.returns-in-Some-clause-untouched
returns-in-Some-clause-untouched g c none =
    let names = rw c.in-Some.is at c.in-Ok.ensures in
    c.carry_out.ensures.untouched (λ reads. none (is_reading_command _ _ names reads))

pub returns-in-None-clause-broken_off : goal.returns-in-None-clause-broken_off
returns-in-None-clause-broken_off g c five =
    let none = rw c.in-None.is at c.in-Ok.ensures in
    usage_broken _ _ _ _ _ _ _ none c.conclude-in-None.ensures.out_part (c.conclude-in-None.ensures.notes_part five)

pub returns-in_default-clause-broken_off : goal.returns-in_default-clause-broken_off
returns-in_default-clause-broken_off g c five =
    memory_broken _ _ _ _ _ _ _ c.conclude.ensures.out_part (c.conclude.ensures.notes_part five)
