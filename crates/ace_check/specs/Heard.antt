-- What comes of an event that the shares hear, and what they tell then.
use Rattle.std.specs.Prelude.{ℕ, ◌≡◌, ◌<◌, ◌-◌, ◌^◌, ◌∷◌, true, false, Some, None, length}
use Rattle.ace_event.specs.declared.event.Event.{Event}
use Rattle.ace_event.specs.declared.header.Header.{Header}
use Rattle.ace_model.specs.Accepted.{least_broken}
use Rattle.ace_model.specs.Trace.{Trace}
use Rattle.ace_check.specs.Run.{goes_over_within, MayLackMemory}
use Rattle.ace_check.specs.Shares.{SharesTell, SharesStand, HaveRoom, MayHear}
use Rattle.ace_check.specs.declared.heard.Heard.{Heard}
use Rattle.ace_check.specs.declared.heard.Heard.TheVariants.{Fine, Broken, TooManyLines, NoMemory}
use Rattle.ace_check.specs.declared.shares.Shares.{Shares}

-- An event after a trace of so many lines at most comes to this, and what the shares tell then: the
-- trace with it where it breaks no rule and names no line too many; else the trace as it was.
abbrev pub ComesTo : ℕ → Header → Trace → Event → Shares → Heard → Type 0
ComesTo most h past e new Fine =
    (least_broken h past e ≡ None) × (goes_over_within most past e ≡ false)
    × SharesTell new h (e ∷ past)
ComesTo most h past e new (Broken rule) =
    (least_broken h past e ≡ Some rule) × SharesTell new h past
ComesTo most h past e new TooManyLines =
    (least_broken h past e ≡ None) × (goes_over_within most past e ≡ true) × SharesTell new h past
ComesTo most h past e new NoMemory =
    (least_broken h past e ≡ None) × MayLackMemory h past e × SharesTell new h past

-- What comes of an event that the shares hear, by the limit that they keep; and each event that may
-- be the next of a run is fine, and leaves room for the next.
pub record IsHeard (old : Shares) (e : Event) (new : Shares) (what : Heard) : Type 0 where
  pub comes_to : (h : Header) (past : Trace) → SharesTell old h past → length past < 2 ^ 64 - 1
      → ComesTo old.most h past e new what
  pub most : new.most ≡ old.most
  pub room : (h : Header) (past : Trace) → SharesStand old h past → MayHear h past e
      → (what ≡ Fine) × HaveRoom new (e ∷ past)
