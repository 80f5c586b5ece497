-- Traces that are checked one after another.
use Rattle.std.proofs.Common.{◌≡◌, ◌<◌, ◌≤◌, ◌+◌, ◌++◌, ℕ, zero, suc, List, [], ◌∷◌, Option, map, take, length, get_or, refl, ap, ◌∙◌, sym, append-nil}
use Rattle.std.proofs.lemmas.List.{map-append, take_more, take_all}
use Rattle.std.proofs.KnownBytes.{Appends-nil, Appends-trans}
use Rattle.std.specs.Borrow.{Bor}
use Rattle.std.specs.Io.KnownBytes.{Appends}
use Rattle.ace_call.proofs.PieceLemmas.{part_behind}
use Rattle.ace_convert.specs.Output.{AppendsPart}
use Rattle.ace_tool.specs.Asked.{Options}
use Rattle.ace_tool.specs.Checked.{AreRight, Checked, IsNext, lines_of, names_of, statuses_of}
use Rattle.ace_tool.specs.Held.{Held}
use Rattle.ace_tool.specs.Outcome.{ChecksAll, ChecksSome}
use Rattle.ace_tool.specs.Reports.{line_of, status_of, status_of_all}
use Rattle.ace_tool.specs.Seen.{HasSeen}
use Rattle.ace_tool.specs.declared.report.Report.{Report}
use Rattle.ace_tool.specs.declared.seen.Seen.{Seen}

-- the names as the program has them
abbrev pub texts : List (Bor (List ℕ)) → List (List ℕ)
texts names = map (λ name. name.now) names

-- So many of the traces were checked, and all of their lines were given.
pub record HasCome (options : Options) (holds : List ℕ → Held) (names : List (Bor (List ℕ))) (count : ℕ)
    (input left out out' : Option (List ℕ)) (seen : Seen) : Type 0 where
  pub checked : List Checked
  pub so_many : names_of checked ≡ texts (take count names)
  pub right : AreRight options holds input checked left
  pub lines : Appends out out' (lines_of options.side checked)
  pub noted : HasSeen seen (statuses_of checked)

-- before the first
pub none_checked : (options : Options) (holds : List ℕ → Held) (names : List (Bor (List ℕ))) (input out : Option (List ℕ))
    (seen : Seen) → HasSeen seen [] → HasCome options holds names 0 input input out out seen
none_checked options holds names input out seen new = record {
  checked = [];
  so_many = refl;
  right = refl;
  lines = Appends-nil out;
  noted = new;
}

-- the names of one more
one_more : (names : List (Bor (List ℕ))) (i : ℕ) (d : Bor (List ℕ)) (so_far : List (List ℕ)) → i < length names
    → so_far ≡ texts (take i names) → so_far ++ (get_or names i d).now ∷ [] ≡ texts (take (i + 1) names)
one_more names i d so_far within e =
    ap (λ t. t ++ (get_or names i d).now ∷ []) e
    ∙ sym (map-append (λ name. name.now) (take i names) (get_or names i d ∷ []))
    ∙ ap texts (sym (take_more names i d within))

-- behind the next
pub next_checked : (options : Options) (holds : List ℕ → Held) (names : List (Bor (List ℕ))) (i : ℕ) (d : Bor (List ℕ))
    (input between left out mid out' : Option (List ℕ)) (report : Report) (old new : Seen) → i < length names
    → HasCome options holds names i input between out mid old
    → IsNext options holds (get_or names i d).now between report left
    → Appends mid out' (line_of options.side (get_or names i d).now report)
    → ((statuses : List ℕ) → HasSeen old statuses → HasSeen new (status_of report ∷ statuses))
    → HasCome options holds names (i + 1) input left out out' new
next_checked options holds names i d input between left out mid out' report old new within come next line add = record {
  checked = record { name = (get_or names i d).now; report = report } ∷ come.checked;
  so_many = one_more names i d _ within come.so_many;
  right = (between, come.right, next);
  lines = Appends-trans out mid out' _ _ come.lines line;
  noted = add _ come.noted;
}

-- the texts of a front of the names
front_texts : (names : List (Bor (List ℕ))) (n : ℕ) → texts (take n names) ≡ take n (texts names)
front_texts names zero = refl
front_texts [] (suc n) = refl
front_texts (name ∷ names) (suc n) = ap (λ t. name.now ∷ t) (front_texts names n)

-- an output fails at the next
pub next_fails : (options : Options) (holds : List ℕ → Held) (names : List (Bor (List ℕ))) (i : ℕ) (d : Bor (List ℕ))
    (input between left out mid out' : Option (List ℕ)) (report : Report) (seen : Seen) → i < length names
    → HasCome options holds names i input between out mid seen
    → IsNext options holds (get_or names i d).now between report left
    → AppendsPart mid out' (line_of options.side (get_or names i d).now report)
    → ChecksSome holds (record { traces = texts names; options = options }) input left out out'
next_fails options holds names i d input between left out mid out' report seen within come next part = record {
  checked = record { name = (get_or names i d).now; report = report } ∷ come.checked;
  count = i + 1;
  some = one_more names i d _ within come.so_many ∙ front_texts names (i + 1);
  right = (between, come.right, next);
  lines = part_behind out mid out' _ _ [] _ come.lines part (ap (λ t. lines_of options.side come.checked ++ t) (append-nil _));
}

-- all were checked
pub all_checked : (options : Options) (holds : List ℕ → Held) (names : List (Bor (List ℕ))) (i : ℕ)
    (input left out out' : Option (List ℕ)) (seen : Seen) (status : ℕ) → length names ≤ i
    → HasCome options holds names i input left out out' seen
    → ((statuses : List ℕ) → HasSeen seen statuses → status ≡ status_of_all statuses)
    → ChecksAll holds (record { traces = texts names; options = options }) input left out out' status
all_checked options holds names i input left out out' seen status whole come told = record {
  checked = come.checked;
  all = come.so_many ∙ ap texts (take_all i names whole);
  right = come.right;
  lines = come.lines;
  total = told _ come.noted;
}

pub ruleset checking = (none_checked, next_checked, next_fails, all_checked)
