use Rattle.std.proofs.Common.{◌≡◌, subst, sym}
use Rattle.ace_history.specs.Histories.{history_of}
use Rattle.ace_live.specs.Entries.{Legal}
use Rattle.ace_live.specs.Views.{Begins}
use Rattle.ace_live.specs.Running.{Running}
use Rattle.ace_live.specs.Seats.{SomeSeat}
use Rattle.std.specs.List.{AllByRecursion}
use Rattle.ace_live.proofs.live.Live.close.Goals as goal

pub returns-clause-legal : goal.returns-clause-legal
returns-clause-legal c = subst (λ s. Legal s (history_of c.end.result.plan c.end.result.past)) c.last_state.ensures.setting
    (subst (λ (r : Running). Legal c.last_state.result.setting r.history) (sym c.end.ensures.value) c.end.ensures.legal)

pub returns-clause-begins : goal.returns-clause-begins
returns-clause-begins c = subst (λ (r : Running). AllByRecursion (λ t. Begins t.seen r.history) c.args.seats.items)
    (sym c.end.ensures.value) c.last_state.ensures.begins

pub returns-clause-longest : goal.returns-clause-longest
returns-clause-longest c = subst (λ (r : Running). SomeSeat (λ t. r.history ≡ t.seen) c.args.seats.items) (sym c.end.ensures.value) c.last_state.ensures.longest
