-- Data newer than memory have a place, at every point of an accepted trace.
use Rattle.std.proofs.Common.{[], ◌∷◌, refl, inl}
use Rattle.std.specs.List.{AllByRecursion}
use Rattle.ace_model.proofs.Terms.{FitsFields, Event, Header, Trace, IsAccepted, DirtyPlace}
use Rattle.ace_model.proofs.Values.Fetches.{fetches_step}
use Rattle.ace_model.proofs.Values.Copies.{copies_step}
use Rattle.ace_model.proofs.Values.Made.{made_step}
use Rattle.ace_model.proofs.Values.Stays.{sent_step, updates_step}
use Rattle.ace_model.proofs.Values.Passed.{passed_step}
use Rattle.ace_model.proofs.Values.Written.{begun_step}
use Rattle.ace_model.proofs.Values.Updated.{updated_step}
use Rattle.ace_model.proofs.Values.Safe.{safe_step}
use Rattle.ace_model.proofs.Values.Facts.{DirtyPlaced}

module _ (h : Header) (past : Trace) where
  -- each event keeps the facts
  facts_step : (e : Event) → IsAccepted h (e ∷ past) → AllByRecursion FitsFields (e ∷ past) → DirtyPlaced h past → DirtyPlaced h (e ∷ past)
  facts_step e a r f = record {
    copies = copies_step h past e a f;
    safe = safe_step h past e a r f;
    passed = passed_step h past e a f;
    sent = sent_step h past e a f;
    fetches = fetches_step h past e a r.1 f;
    made = made_step h past e a f;
    begun = begun_step h past e a r f;
    updates = updates_step h past e a f;
    updated = updated_step h past e a r f;
  }

facts_start : (h : Header) → DirtyPlaced h []
facts_start h = record {
  copies = λ l p held. absurd (held refl);
  safe = λ l. inl refl;
  passed = λ l r x w g. cc;
  sent = λ l r x w k g. cc;
  fetches = λ p i l x k o. cc;
  made = λ p i l x o. cc;
  begun = λ l x g. cc;
  updates = λ p i l x k b o. cc;
  updated = λ p i l x o. cc;
}

-- at each point of an accepted trace
pub facts : (h : Header) (past : Trace) → IsAccepted h past → AllByRecursion FitsFields past → DirtyPlaced h past
facts h [] a r = facts_start h
facts h (e ∷ past) a r = facts_step h past e a r (facts h past a.0 r.1)

pub dirty_data_placed : (h : Header) (past : Trace) → IsAccepted h past → AllByRecursion FitsFields past → DirtyPlace h past
dirty_data_placed h [] a r = λ l. ((facts_start h).copies l, (facts_start h).safe l)
dirty_data_placed h (e ∷ past) a r = (dirty_data_placed h past a.0 r.1, λ l. ((facts h (e ∷ past) a r).copies l, (facts h (e ∷ past) a r).safe l))
