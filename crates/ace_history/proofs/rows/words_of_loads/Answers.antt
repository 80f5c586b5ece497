use Rattle.std.proofs.Common.{◌≡◌, refl, arith}
use Rattle.ace_event.specs.Bytes.{merged, number_of_bytes}
use Rattle.ace_history.proofs.rows.words_of_loads.Goals as goal

pub returns-clause-stored : goal.returns-clause-stored
unfolding merged number_of_bytes
returns-clause-stored c = (refl, (refl, tt))

pub returns-clause-zero : goal.returns-clause-zero
unfolding merged number_of_bytes
returns-clause-zero c = (refl, (refl, tt))

pub returns-clause-last : goal.returns-clause-last
unfolding merged number_of_bytes
returns-clause-last c = (refl, (refl, (refl, tt)))

pub returns-clause-failed : goal.returns-clause-failed
unfolding merged number_of_bytes
returns-clause-failed c = (refl, (refl, (refl, tt)))

pub returns-clause-dropped : goal.returns-clause-dropped
unfolding merged number_of_bytes
returns-clause-dropped c = λ w. let bad : 0 ≡ 0x11 = w.1.0 in omega (arith, bad)

pub returns-clause-wrong_failed : goal.returns-clause-wrong_failed
unfolding merged number_of_bytes
returns-clause-wrong_failed c = λ w. let bad : 0x12 ≡ 0x11 = w.1.1.0 in omega (arith, bad)
