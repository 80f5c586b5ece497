use Rattle.std.proofs.Common.{refl}
use Rattle.ace_explanation.proofs.next.next_row.Goals as goal

pub returns : goal.returns
returns c most h past b s =
    rw (c.next_number-number.ensures most h past b s, c.deed_of-deed.ensures, c.next_serves-serves.ensures most h past b s) refl
