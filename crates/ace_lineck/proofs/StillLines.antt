-- A W, an L and an OP leave what is kept of every line as it is.
use Rattle.std.proofs.Common.{◌≡◌, Bool, true, false, None, refl}
use Rattle.ace_lineck.proofs.Terms.{least_broken, Event, W, L, Op, Recording, after, LineCheck, Stands}
use Rattle.ace_lineck.proofs.AllLines.{untouched-lines}

-- the event moves nothing of any line
abbrev pub moves_no_line : Event → Bool
moves_no_line (W p strb last word) = true
moves_no_line (L p addr w x word) = true
moves_no_line (Op p k res) = true
moves_no_line _ = false

pub lines-still : (s : LineCheck) (r : Recording) (e : Event) → moves_no_line e ≡ true → Stands s r → least_broken r.header r.past e ≡ None → Stands s (after r e)
lines-still s r (W p strb last word) still st fine = untouched-lines s r (W p strb last word) st fine refl refl refl refl (λ l. record { memory = refl; state = λ p. refl; copy = λ p. refl; sent = λ p. refl })
lines-still s r (L p addr w x word) still st fine = untouched-lines s r (L p addr w x word) st fine refl refl refl refl (λ l. record { memory = refl; state = λ p. refl; copy = λ p. refl; sent = λ p. refl })
lines-still s r (Op p k res) still st fine = untouched-lines s r (Op p k res) st fine refl refl refl refl (λ l. record { memory = refl; state = λ p. refl; copy = λ p. refl; sent = λ p. refl })
lines-still s r e still st fine = cc
