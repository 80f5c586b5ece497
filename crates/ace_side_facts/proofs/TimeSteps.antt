-- Times of events, of one line more.
use Rattle.std.proofs.Common.{◌≡◌, ℕ, ◌<◌, ◌≤◌, List, ◌∷◌, Option, None, sym, ◌∙◌, inl, inr, arith, length, map, get_or}
use Rattle.std.proofs.lemmas.Bool.{and_parts, cases_lt}
use Rattle.std.proofs.lemmas.List.{same_lists, get_or-map, length-map, get_or_default}
use Rattle.ace_side.specs.Order.{allows, may_follow}
use Rattle.ace_side.specs.declared.line.SideLine.{SideLine}
use Rattle.ace_side.specs.declared.line.SideLine.TheVariants.{Time}
use Rattle.ace_side_facts.specs.Gathering.{TimesStand}
use Rattle.ace_side_facts.specs.Sayings.{time_of}
use Rattle.ace_side_facts.specs.declared.times.EventTimes.{EventTimes}

-- a line without a time
pub times_stay : (past : List SideLine) (line : SideLine) (t : EventTimes)
    → ((n : ℕ) → time_of (line ∷ past) n ≡ time_of past n) → TimesStand past t → TimesStand (line ∷ past) t
times_stay past line t same stands = record {
  settled = λ k below. stands.settled k below ∙ sym (same _);
  waiting = λ k over below. same _ ∙ stands.waiting k over below;
  behind = λ k n u below e. stands.behind k n u below (and_parts (allows line (Time n u)) (may_follow past (Time n u)) e).1;
}

-- where no more lines come the others have the last time
each_settled : (past : List SideLine) (old new : EventTimes) → TimesStand past old → new.events ≡ old.events
    → ((k : ℕ) → k < length old.times.items → get_or new.times.items k None ≡ get_or old.times.items k None)
    → ((k : ℕ) → length old.times.items ≤ k → k < length new.times.items → get_or new.times.items k None ≡ old.last)
    → (k : ℕ) → k < length new.times.items → k < length old.events.items
    → get_or new.times.items k None ≡ time_of past (get_or new.events.items k 0)
each_settled past old new stands same kept filled k below fits =
    elim (cases_lt k (length old.times.items)) [
      | inl under ↦ rw same (kept k under ∙ stands.settled k under)
      | inr over ↦ rw same (filled k over below ∙ sym (stands.waiting k over fits))
    ]

pub all_settled : (past : List SideLine) (old new : EventTimes) → TimesStand past old → new.events ≡ old.events
    → length old.times.items ≤ length new.times.items
    → ((k : ℕ) → k < length old.times.items → get_or new.times.items k None ≡ get_or old.times.items k None)
    → ((k : ℕ) → length old.times.items ≤ k → k < length new.times.items → get_or new.times.items k None ≡ old.last)
    → length new.events.items ≤ length new.times.items
    → new.times.items ≡ map (time_of past) new.events.items
all_settled past old new stands same grows kept filled whole =
    let few = new.few in
    let long : length new.times.items ≡ length new.events.items = omega arith in
    same_lists _ _ (long ∙ sym (length-map new.events.items (time_of past)))
    (λ k d below. at k d below (omega arith))
  where
    at : (k : ℕ) (d : Option ℕ) → k < length new.times.items → k < length new.events.items
        → get_or new.times.items k d ≡ get_or (map (time_of past) new.events.items) k d
    at k d below fits =
        get_or_default new.times.items k d None below
        ∙ each_settled past old new stands same kept filled k below (rw same at fits)
        ∙ sym (get_or-map (time_of past) new.events.items k 0 d fits)
