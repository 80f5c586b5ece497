-- What is kept of lines of which nothing has changed.
use Rattle.std.proofs.Common.{◌≡◌, ℕ, [], None, nat_eq, unwrap_or, refl, sym, ap, subst, ◌∙◌}
use Rattle.indexmap.specs.IndexMap.{IsEmpty, get}
use Rattle.ace_event.specs.declared.header.Header.{Header}
use Rattle.ace_lineck.proofs.StateSteps.{all-same}
use Rattle.ace_model.specs.Trace.{Trace}
use Rattle.ace_since.specs.Kept.{LineStands, SinceStands, never, stay_at, untouched}
use Rattle.ace_since.specs.Places.{state_since}
use Rattle.ace_since.specs.declared.line_since.Stay.{Stay}
use Rattle.ace_since.specs.declared.since.Since.{Since}

pub untouched-port : (p : ℕ) → stay_at untouched.ports p ≡ never
untouched-port p = all-same never 32 p

untouched-stands : (h : Header) (l : ℕ) → LineStands h [] l untouched
untouched-stands h l = record { ports = untouched-port; memory = refl; grant = refl }

-- of an empty map
pub nothing-kept : (h : Header) (s : Since) → IsEmpty s.lines → SinceStands h [] s
nothing-kept h s empty = record { lines = λ l. subst (LineStands h [] l) (sym (ap (λ o. unwrap_or o untouched) (none l))) (untouched-stands h l) }
  where
    none : (l : ℕ) → get nat_eq s.lines l ≡ None
    none l = rw empty refl

-- a port of a line of which nothing is kept has had no state but I
pub never-moved : (h : Header) (past : Trace) (s : Since) (l p : ℕ) → get nat_eq s.lines l ≡ None → SinceStands h past s → state_since h past p l ≡ 0
never-moved h past s l p none stands =
    ap (λ (x : Stay). x.since) (sym ((stands.lines l).ports p) ∙ ap (λ o. stay_at (unwrap_or o untouched).ports p) none ∙ untouched-port p)
