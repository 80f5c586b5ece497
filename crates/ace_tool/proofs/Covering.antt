-- Traces that are counted, one after another.
use Rattle.std.proofs.Common.{◌≡◌, ◌<◌, ◌≤◌, ◌+◌, ◌++◌, ℕ, List, [], ◌∷◌, Option, length, take, get_or, refl, ap, ◌∙◌}
use Rattle.std.proofs.KnownBytes.{Appends-nil, Appends-trans}
use Rattle.std.proofs.lemmas.List.{take_all}
use Rattle.std.specs.Borrow.{Bor}
use Rattle.std.specs.Io.KnownBytes.{Appends}
use Rattle.ace_cover.specs.Tallies.{Tally, no_tally}
use Rattle.ace_paths.specs.Lists.{texts_of}
use Rattle.ace_points.specs.Points.{all_points}
use Rattle.ace_tool.specs.Checked.{accepted_of}
use Rattle.ace_tool.specs.Covered.{AreCounted, Covered, names_of, notes_of, statuses_of, tally_of, with_accepted}
use Rattle.ace_tool.specs.Covering.{AddsTrace, CountsTraces, Stops}
use Rattle.ace_tool.specs.Held.{Held}
use Rattle.ace_tool.specs.Reports.{status_of, status_of_all}
use Rattle.ace_tool.specs.Seen.{HasSeen}
use Rattle.ace_tool.specs.declared.cover_traces.Stop.{Stop}
use Rattle.ace_tool.specs.declared.cover_traces.Stop.TheVariants as stop
use Rattle.ace_tool.specs.declared.report.Report.{Report}
use Rattle.ace_tool.specs.declared.seen.Seen.{Seen}
use Rattle.ace_tool.proofs.CountsAdding.{one_more}

-- So many of the traces were counted, and those that aren't accepted were noted.
pub record HasCome (holds : List ℕ → Held) (names : List (Bor (List ℕ))) (count : ℕ)
    (input left notes notes' : Option (List ℕ)) (tally : Tally) (seen : Seen) : Type 0 where
  pub covered : List Covered
  pub so_many : names_of covered ≡ texts_of (take count names)
  pub right : AreCounted holds input covered left
  pub noted : Appends notes notes' (notes_of covered)
  pub total : tally ≡ tally_of covered
  pub statuses : HasSeen seen (statuses_of covered)

-- before the first
pub none_come : (holds : List ℕ → Held) (names : List (Bor (List ℕ))) (input notes : Option (List ℕ)) (tally : Tally) (seen : Seen)
    → HasSeen seen [] → tally ≡ no_tally all_points → HasCome holds names 0 input input notes notes tally seen
none_come holds names input notes tally seen new none = record {
  covered = [];
  so_many = refl;
  right = refl;
  noted = Appends-nil notes;
  total = none;
  statuses = new;
}

-- behind the next
pub next_come : (holds : List ℕ → Held) (names : List (Bor (List ℕ))) (i : ℕ) (d : Bor (List ℕ)) (input between left notes mid notes' : Option (List ℕ))
    (before after : Tally) (report : Report) (old new : Seen) → i < length names
    → HasCome holds names i input between notes mid before old
    → AddsTrace holds (get_or names i d).now between left mid notes' before after report
    → ((statuses : List ℕ) → HasSeen old statuses → HasSeen new (status_of report ∷ statuses))
    → HasCome holds names (i + 1) input left notes notes' after new
next_come holds names i d input between left notes mid notes' before after report old new within come next add = record {
  covered = record { name = (get_or names i d).now; report = report; hits = next.hits } ∷ come.covered;
  so_many = one_more names i d _ within come.so_many;
  right = (between, come.right, next.right);
  noted = Appends-trans notes mid notes' _ _ come.noted next.noted;
  total = next.total ∙ ap (λ t. with_accepted t (accepted_of report) next.hits) come.total;
  statuses = add _ come.statuses;
}

-- all were counted
pub all_come : (holds : List ℕ → Held) (names : List (Bor (List ℕ))) (i : ℕ) (input left notes notes' : Option (List ℕ)) (tally : Tally)
    (seen : Seen) (status : ℕ) → length names ≤ i → HasCome holds names i input left notes notes' tally seen
    → ((statuses : List ℕ) → HasSeen seen statuses → status ≡ status_of_all statuses)
    → CountsTraces holds (texts_of names) input notes notes' tally status
all_come holds names i input left notes notes' tally seen status whole come told = record {
  covered = come.covered;
  left = left;
  all = come.so_many ∙ ap texts_of (take_all i names whole);
  right = come.right;
  noted = come.noted;
  total = come.total;
  seen = told _ come.statuses;
}

-- it stops at the next
pub stops_later : (notes mid notes' : Option (List ℕ)) (text : List ℕ) (before between now : ℕ) (why : Stop) → Appends notes mid text
    → between ≡ before → Stops mid notes' between now why → Stops notes notes' before now why
stops_later notes mid notes' text before between now stop.Failed come same rose = rw same at rose
stops_later notes mid notes' text before between now stop.NoMemory come same (steady, (told, more)) =
    (steady ∙ same, (text ++ told, Appends-trans notes mid notes' text told come more))

pub no_notes : (notes : Option (List ℕ)) (before now : ℕ) → now ≡ before → Stops notes notes before now stop.NoMemory
no_notes notes before now same = (same, ([], Appends-nil notes))

pub ruleset covering = (none_come, all_come, no_notes)
