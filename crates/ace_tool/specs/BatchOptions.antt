-- The options of `batch` that `check` doesn't have, by their words.
use Rattle.std.specs.Prelude.{◌≡◌, ◌≤◌, ◌<◌, ◌==◌, ℕ, Bool, true, false, if◌then◌else◌, List, [], ◌∷◌, length, nat_lt, Option, None, Some, is_some, codes}
use Rattle.std.specs.List.{after_first, before_first, position_or_len}
use Rattle.ace_call.specs.Number.{IsNumber}
use Rattle.ace_tool.specs.declared.batch_options.BatchFlag.{BatchFlag}
use Rattle.ace_tool.specs.declared.batch_options.BatchFlag.TheVariants.{Failed, FailFast}
use Rattle.ace_tool.specs.declared.batch_options.BatchValued.{BatchValued}
use Rattle.ace_tool.specs.declared.batch_options.BatchValued.TheVariants as option

-- those that stand alone
abbrev pub batch_flags : List (List ℕ × BatchFlag)
batch_flags = (codes "--failed", Failed) ∷ (codes "--fail-fast", FailFast) ∷ []

-- those that have a value, which is the next word or stands behind `=`
abbrev pub batch_valued : List (List ℕ × BatchValued)
batch_valued =
    (codes "--list", option.List) ∷ (codes "--jobs", option.Jobs) ∷ (codes "--shard", option.Shard)
    ∷ (codes "--junit", option.Junit) ∷ (codes "--json", option.Json) ∷ []

-- the options that were given, with their values as they stand
pub record Extras : Type 0 where
  pub list : Option (List ℕ)
  pub jobs : Option (List ℕ)
  pub shard : Option (List ℕ)
  pub junit : Option (List ℕ)
  pub json : Option (List ℕ)
  pub failed : Bool
  pub fail_fast : Bool

abbrev pub no_extras : Extras
no_extras = record {
  list = None;
  jobs = None;
  shard = None;
  junit = None;
  json = None;
  failed = false;
  fail_fast = false;
}

-- one more that stands alone, which may be given again
abbrev pub with_batch_flag : BatchFlag → Extras → Extras
with_batch_flag Failed extras = record extras { failed = true }
with_batch_flag FailFast extras = record extras { fail_fast = true }

-- one more with a value, which can be given once
abbrev pub with_batch_value : BatchValued → List ℕ → Extras → Option Extras
with_batch_value option.List value extras =
    if is_some extras.list then None else Some (record extras { list = Some value })
with_batch_value option.Jobs value extras =
    if is_some extras.jobs then None else Some (record extras { jobs = Some value })
with_batch_value option.Shard value extras =
    if is_some extras.shard then None else Some (record extras { shard = Some value })
with_batch_value option.Junit value extras =
    if is_some extras.junit then None else Some (record extras { junit = Some value })
with_batch_value option.Json value extras =
    if is_some extras.json then None else Some (record extras { json = Some value })

-- The word of `--jobs` says so many; without one none is said.
abbrev pub IsJobs : Option (List ℕ) → Option ℕ → Type 0
IsJobs None jobs = jobs ≡ None
IsJobs (Some word) jobs = (number : ℕ) × IsNumber word number × (0 < number) × (jobs ≡ Some number)

-- These words are the numbers of a part and of the parts of a list.
abbrev pub ArePart : List ℕ → List ℕ → ℕ → ℕ → Type 0
ArePart word word' part parts =
    IsNumber word part × IsNumber word' parts × (0 < part) × (part ≤ parts)

-- `/` stands in the word
abbrev pub is_slash : ℕ → Bool
is_slash byte = byte == 47

abbrev pub has_slash : List ℕ → Bool
has_slash word = nat_lt (position_or_len is_slash word) (length word)

-- The word of `--shard` says this part of so many; without one it is the whole list.
abbrev pub IsPart : Option (List ℕ) → ℕ → ℕ → Type 0
IsPart None part parts = (part ≡ 1) × (parts ≡ 1)
IsPart (Some word) part parts = (has_slash word ≡ true)
    × ArePart (before_first is_slash word) (after_first is_slash word) part parts

-- what these options say
pub record SaidExtras : Type 0 where
  pub list : Option (List ℕ)
  pub jobs : Option ℕ
  pub part : ℕ
  pub parts : ℕ
  pub junit : Option (List ℕ)
  pub json : Option (List ℕ)
  pub failed : Bool
  pub fail_fast : Bool

-- They say this.
pub record AreExtras (given : Extras) (said : SaidExtras) : Type 0 where
  pub list_said : said.list ≡ given.list
  pub jobs_said : IsJobs given.jobs said.jobs
  pub part_said : IsPart given.shard said.part said.parts
  pub junit_said : said.junit ≡ given.junit
  pub json_said : said.json ≡ given.json
  pub failed_said : said.failed ≡ given.failed
  pub fail_fast_said : said.fail_fast ≡ given.fail_fast
