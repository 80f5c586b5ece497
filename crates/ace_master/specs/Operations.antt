-- The data that the writes of operations carry.
use Rattle.std.specs.Prelude.{ℕ, ◌/◌, ◌%◌, ◌^◌, ◌==◌, List, [], ◌∷◌, Option, option_map}
use Rattle.ace_event.specs.declared.event.Event.{Event}
use Rattle.ace_event.specs.declared.event.Event.TheVariants.{W}
use Rattle.ace_model.specs.declared.plans.Op.{Op}
use Rattle.ace_model.specs.Copies.{word_of}
use Rattle.ace_runs.specs.Acts.{data_of_operation}
use Rattle.ace_portck.specs.declared.target.WriteData.{WriteData}

-- what the write of the operation carries
abbrev pub write_data : Op → Option WriteData
write_data op = option_map (λ c. record { strobe = c.0; line = c.1 }) (data_of_operation op)

-- the port's W with the beat of this number
abbrev pub beat_of : ℕ → WriteData → ℕ → Event
beat_of p d k = W p (d.strobe / 65536 ^ k % 65536) (k == 3) (word_of d.line k)

-- the port's W of a whole burst
abbrev pub beats_of_data : ℕ → WriteData → List Event
beats_of_data p d = beat_of p d 0 ∷ beat_of p d 1 ∷ beat_of p d 2 ∷ beat_of p d 3 ∷ []
