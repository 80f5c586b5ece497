-- The words behind `batch`, one after another.
use Rattle.std.proofs.Common.{◌≡◌, ◌<◌, ◌+◌, ◌∷◌, ℕ, List, [], String, Option, None, Some, is_some, length, map, true, arith, string_bytes, drop, get_or, refl, ◌∙◌, ap, subst, sym}
use Rattle.std.proofs.lemmas.List.{drop_more}
use Rattle.std.specs.declared.alloc.Global.{Global}
use Rattle.std.proofs.lemmas.Bool.{true≢false}
use Rattle.ace_tool.specs.Asked.{Options}
use Rattle.ace_tool.specs.BatchOptions.{AreExtras, Extras, IsJobs, IsPart, SaidExtras}
use Rattle.ace_tool.specs.BatchAsked.{AreOfFiles, AsksBatch, BatchAsked, BatchSoFar, IsBatch, has_some, nothing_of_batch, with_batch, with_batch_all}

-- behind a word that is wrong nothing is asked
pub all_wrong : (rest : List (List ℕ)) → with_batch_all None rest ≡ None
all_wrong [] = refl
all_wrong (word ∷ rest) = all_wrong rest

-- as one that comes next
pub wrong_at : (words : List (String Global)) (i : ℕ) (d : String Global) (asked : BatchSoFar) → i < length words
    → with_batch (string_bytes (get_or words i d)) asked ≡ None
    → with_batch_all (Some asked) (map string_bytes (drop i words)) ≡ None
wrong_at words i d asked within wrong =
    ap (λ rest. with_batch_all (Some asked) (map string_bytes rest)) (drop_more words i d within)
    ∙ ap (λ a. with_batch_all a (map string_bytes (drop (i + 1) words))) wrong
    ∙ all_wrong (map string_bytes (drop (i + 1) words))

pub ruleset wrongs = (all_wrong, wrong_at)

-- words that ask nothing ask for no batch
pub no_words : (words : List (List ℕ)) (batch : BatchAsked) → with_batch_all (Some nothing_of_batch) words ≡ None → ¬ AsksBatch words batch
no_words words batch wrong (asked, right, is) = absurd (cc)

-- nor do words that are right one by one and not together
pub no_call : (words : List (List ℕ)) (asked : BatchSoFar) (batch : BatchAsked)
    → with_batch_all (Some nothing_of_batch) words ≡ Some asked → ((batch : BatchAsked) → ¬ IsBatch asked batch) → ¬ AsksBatch words batch
no_call words asked batch right none (other, so, is) =
    let same : Some asked ≡ Some other = sym right ∙ so in
    let one : other ≡ asked = cc in
    none batch (subst (λ a. IsBatch a batch) one is)

-- and those that are right for one
pub a_batch : (words : List (List ℕ)) (asked : BatchSoFar) (batch : BatchAsked)
    → with_batch_all (Some nothing_of_batch) words ≡ Some asked → IsBatch asked batch → AsksBatch words batch
a_batch words asked batch right is = (asked, right, is)

pub ruleset batches = (no_words, no_call, a_batch)

-- words that are right one by one and not together ask for no batch: for the options
pub no_extras : (asked : BatchSoFar) (batch : BatchAsked) → ((said : SaidExtras) → ¬ AreExtras asked.extras said) → ¬ IsBatch asked batch
no_extras asked batch none is = none batch.extras is.extras

-- for the words of `check`
pub no_files : (asked : BatchSoFar) (batch : BatchAsked) → ((options : Options) → ¬ AreOfFiles asked.check options) → ¬ IsBatch asked batch
no_files asked batch none is = none batch.options is.check

-- or since there is no trace
none_named : (traces : List (List ℕ)) (list : Option (List ℕ)) → length traces ≡ 0 → list ≡ None → has_some traces list ≡ true → ⊥
none_named [] list none no_list some = absurd (true≢false (sym some ∙ ap is_some no_list))
none_named (name ∷ names) list none no_list some = absurd (omega (arith, none))

pub no_traces : (asked : BatchSoFar) (batch : BatchAsked) → length asked.check.traces ≡ 0 → asked.extras.list ≡ None → ¬ IsBatch asked batch
no_traces asked batch none no_list is =
    none_named batch.traces batch.extras.list (ap length is.traces ∙ none) (is.extras.list_said ∙ no_list) is.some

pub ruleset refusals = (no_extras, no_files, no_traces)

-- options that are wrong say nothing
pub no_jobs : (given : Extras) (said : SaidExtras) → ((jobs : Option ℕ) → ¬ IsJobs given.jobs jobs) → ¬ AreExtras given said
no_jobs given said none is = none said.jobs is.jobs_said

pub no_part : (given : Extras) (said : SaidExtras) → ((part parts : ℕ) → ¬ IsPart given.shard part parts) → ¬ AreExtras given said
no_part given said none is = none said.part said.parts is.part_said

pub ruleset wrong_extras = (no_jobs, no_part)
