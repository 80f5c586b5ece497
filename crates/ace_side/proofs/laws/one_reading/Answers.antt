use Rattle.ace_side.proofs.OneReading.{same_reading, right_start}
use Rattle.ace_side.proofs.laws.one_reading.Goals as goal

pub returns : goal.returns
returns c = record { one = same_reading; apart = λ bytes past end reads bad. bad (right_start bytes past end reads) }
