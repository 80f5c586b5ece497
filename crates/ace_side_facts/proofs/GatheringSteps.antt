-- What is gathered of one line more.
use Rattle.std.proofs.Common.{◌≡◌, ℕ, List, ◌∷◌, None, map, refl, subst, sym, ◌≢◌}
use Rattle.std.proofs.lemmas.List.Sorted.{Contains-permutation}
use Rattle.std.specs.List.Sorted.{IsPermutation}
use Rattle.ace_side.specs.Order.{ending}
use Rattle.ace_side.specs.declared.line.SideLine.{SideLine}
use Rattle.ace_side.specs.declared.line.SideLine.TheVariants.{TimeUnit, Port, Addr, Time, Id, Note, Word, End, Broken, Cut}
use Rattle.ace_side.specs.declared.line.Digits.{Digits}
use Rattle.ace_side_facts.proofs.LabelSteps.{labels_stay}
use Rattle.ace_side_facts.proofs.Lookups.{contains_among, value_at_place}
use Rattle.ace_side_facts.proofs.TimeSteps.{times_stay}
use Rattle.ace_side_facts.specs.Facts.{Tells}
use Rattle.ace_side_facts.specs.Gathered.{Stands}
use Rattle.ace_side_facts.specs.Sayings.{name_said, note_said, real_said, time_of, unit_said}
use Rattle.ace_side_facts.specs.declared.facts.SideFacts.{SideFacts}
use Rattle.ace_side_facts.specs.declared.gathering.Gathering.{Gathering}
use Rattle.ace_side_facts.specs.declared.query.Query.{Query}

-- a line that says nothing that is gathered
pub stays : (query : Query) (past : List SideLine) (line : SideLine) (g : Gathering) → unit_said line ≡ None
    → ((port : ℕ) → name_said port line ≡ None) → ((addr : ℕ) → real_said addr line ≡ None)
    → ((event : ℕ) → note_said event line ≡ None) → ((n : ℕ) → time_of (line ∷ past) n ≡ time_of past n)
    → Stands query past g → Stands query (line ∷ past) g
stays query past line g unit name real note time stands = record {
  labels = labels_stay query past line g.labels unit name real note stands.labels;
  times = times_stay past line g.times time stands.times;
  same = stands.same;
}

-- a line of none of these kinds
pub others_stay : (query : Query) (past : List SideLine) (line : SideLine) (g : Gathering)
    → ((word : List ℕ) → line ≢ TimeUnit word) → ((port : ℕ) (name : List ℕ) → line ≢ Port port name)
    → ((addr : ℕ) (real : Digits) → line ≢ Addr addr real) → ((event time : ℕ) → line ≢ Time event time)
    → ((event : ℕ) (text : List ℕ) → line ≢ Note event text) → Stands query past g → Stands query (line ∷ past) g
others_stay query past (TimeUnit word) g other _ _ _ _ stands = absurd (other word refl)
others_stay query past (Port port name) g _ other _ _ _ stands = absurd (other port name refl)
others_stay query past (Addr addr real) g _ _ other _ _ stands = absurd (other addr real refl)
others_stay query past (Time event time) g _ _ _ other _ stands = absurd (other event time refl)
others_stay query past (Note event text) g _ _ _ _ other stands = absurd (other event text refl)
others_stay query past (Id event id) g _ _ _ _ _ stands = stays query past _ g refl (λ _. refl) (λ _. refl) (λ _. refl) (λ _. refl) stands
others_stay query past (Word word real) g _ _ _ _ _ stands = stays query past _ g refl (λ _. refl) (λ _. refl) (λ _. refl) (λ _. refl) stands
others_stay query past (End count) g _ _ _ _ _ stands = stays query past _ g refl (λ _. refl) (λ _. refl) (λ _. refl) (λ _. refl) stands
others_stay query past (Broken count) g _ _ _ _ _ stands = stays query past _ g refl (λ _. refl) (λ _. refl) (λ _. refl) (λ _. refl) stands
others_stay query past (Cut count) g _ _ _ _ _ stands = stays query past _ g refl (λ _. refl) (λ _. refl) (λ _. refl) (λ _. refl) stands

-- what is told where all lines have come
pub told : (query : Query) (past : List SideLine) (g : Gathering) (facts : SideFacts) → Stands query past g
    → facts.labels ≡ g.labels → facts.times.events.items ≡ g.times.events.items
    → facts.times.times.items ≡ map (time_of past) facts.times.events.items → facts.end ≡ ending past
    → facts.fault ≡ None → Tells query past facts
told query past g facts stands labels events times end no_fault = record {
  unit = rw labels stands.labels.unit;
  names = rw labels stands.labels.names;
  reals = rw labels stands.labels.reals;
  notes = rw labels stands.labels.notes;
  times = λ event asked.
      rw times (value_at_place (time_of past) facts.times.events.items event
      (rw events (Contains-permutation _ _ event stands.same (contains_among _ event asked))));
  all = times;
  rise = facts.times.rise;
  same = subst (λ xs. IsPermutation query.events.now xs) (sym events) stands.same;
  end = end;
  no_fault = rw no_fault;
}
