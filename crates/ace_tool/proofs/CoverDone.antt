-- What was counted and told, put together.
use Rattle.std.proofs.Common.{◌≡◌, ◌≢◌, ◌<◌, ◌≤◌, ◌++◌, ℕ, Bool, true, false, List, [], ◌∷◌, Option, codes, arith, inl, inr, subst, append-nil}
use Rattle.std.proofs.KnownBytes.{Appends-nil, Appends-trans}
use Rattle.std.specs.Io.KnownBytes.{Appends}
use Rattle.ace_cover.specs.Tallies.{Tally}
use Rattle.ace_io.specs.Faults.{Rose}
use Rattle.ace_tool.specs.Covered.{notes_of}
use Rattle.ace_tool.specs.CoverAsked.{AsksCover}
use Rattle.ace_tool.specs.CoverTexts.{cover_help}
use Rattle.ace_tool.specs.Covers.{Covers}
use Rattle.ace_tool.specs.Covering.{Counts, CoverAsked, CoversNames, EndsEarly, Stops, TellsTally}
use Rattle.ace_tool.specs.Held.{Held}
use Rattle.ace_tool.specs.declared.cover_traces.Stop.TheVariants as stop

-- the want of memory was noted
pub memory_noted : (notes mid notes' : Option (List ℕ)) (before between now status : ℕ) (text : List ℕ) → Stops notes mid before between stop.NoMemory
    → (status ≢ 5 → status ≡ 7) → (status ≢ 5 → Appends mid notes' text) → (status ≡ 5 → Rose between now) → EndsEarly notes notes' before now status
memory_noted notes mid notes' before between now status text (steady, (told, came)) is given fault = record {
  noted = λ fine. (inr (inr (is fine)), (told ++ text, Appends-trans notes mid notes' told text came (given fine)));
  failed = λ five. rw steady at fault five;
}

-- the notes failed
pub failure_ends : (notes mid notes' : Option (List ℕ)) (before between now status : ℕ) → Stops notes mid before between stop.Failed
    → status ≡ 5 → between ≤ now → EndsEarly notes notes' before now status
failure_ends notes mid notes' before between now status rose is later = record {
  noted = λ fine. absurd (fine is);
  failed = λ five room. let up : before < between = rose room in omega (arith, up, later);
}

-- what was noted while it was counted
counted_notes : (merge : Bool) (holds : List ℕ → Held) (names : List (List ℕ)) (input notes notes' : Option (List ℕ)) (tally : Tally) (seen : ℕ)
    → Counts merge holds names input notes notes' tally seen → (text : List ℕ) × Appends notes notes' text
counted_notes false holds names input notes notes' tally seen counts = (notes_of counts.covered, counts.noted)
counted_notes true holds names input notes notes' tally seen (adds, status, silent) = ([], silent)

-- and nothing behind it
counted_end : (merge : Bool) (holds : List ℕ → Held) (names : List (List ℕ)) (input notes mid notes' : Option (List ℕ)) (tally : Tally) (seen : ℕ)
    → Counts merge holds names input notes mid tally seen → Appends mid notes' [] → Counts merge holds names input notes notes' tally seen
counted_end false holds names input notes mid notes' tally seen counts silent = record {
  covered = counts.covered;
  left = counts.left;
  all = counts.all;
  right = counts.right;
  total = counts.total;
  seen = counts.seen;
  noted = subst (Appends notes notes') (append-nil (notes_of counts.covered))
      (Appends-trans notes mid notes' (notes_of counts.covered) [] counts.noted silent);
}
counted_end true holds names input notes mid notes' tally seen (adds, status, before) silent =
    (adds, status, Appends-trans notes mid notes' [] [] before silent)

-- what was counted was told
pub names_covered : (holds : List ℕ → Held) (asked : CoverAsked) (names : List (List ℕ)) (input out out' notes mid notes' : Option (List ℕ))
    (tally : Tally) (seen status : ℕ) → Counts asked.merge holds names input notes mid tally seen
    → TellsTally asked tally seen out out' mid notes' status → CoversNames holds asked names input out out' notes notes' status
names_covered holds asked names input out out' notes mid notes' tally seen status counts (inl (told, silent)) =
    inl (record {
      tally = tally;
      seen = seen;
      counted = counted_end asked.merge holds names input notes mid notes' tally seen counts silent;
      told = told;
    })
names_covered holds asked names input out out' notes mid notes' tally seen status counts (inr (fault, nothing, (text, given))) =
    let before = counted_notes asked.merge holds names input notes mid tally seen counts in
    inr (fault, nothing, (before.0 ++ text, Appends-trans notes mid notes' before.0 text before.1 given))

-- it could not be counted
pub names_uncovered : (holds : List ℕ → Held) (asked : CoverAsked) (names : List (List ℕ)) (input out notes notes' : Option (List ℕ))
    (before now status : ℕ) → EndsEarly notes notes' before now status → status ≢ 5 → CoversNames holds asked names input out out notes notes' status
names_uncovered holds asked names input out notes notes' before now status early fine =
    let noted = early.noted fine in inr (noted.0, Appends-nil out, noted.1)

-- there was no memory for the words
pub no_memory_for_words : (holds : List ℕ → Held) (words : List (List ℕ)) (input out notes notes' : Option (List ℕ)) (status : ℕ)
    → status ≡ 7 → Appends notes notes' (codes "out of memory\n") → Covers holds words input out out notes notes' status
no_memory_for_words holds words input out notes notes' status is told = inr (inr (inr (is, Appends-nil out, told)))

-- they ask nothing
pub nothing_asked : (holds : List ℕ → Held) (words : List (List ℕ)) (input out notes notes' : Option (List ℕ)) (status : ℕ)
    → words ≢ codes "--help" ∷ [] → ((asked : CoverAsked) → ¬ AsksCover words asked) → status ≡ 2 → Appends notes notes' cover_help
    → Covers holds words input out out notes notes' status
nothing_asked holds words input out notes notes' status no_help none is told = inr (inr (inl ((no_help, none), is, Appends-nil out, told)))

pub ruleset done = (no_memory_for_words, nothing_asked)
