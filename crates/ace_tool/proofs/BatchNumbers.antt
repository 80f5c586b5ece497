-- Numbers of jobs and of parts that are wrong.
use Rattle.std.proofs.Common.{◌≡◌, ◌<◌, ◌≤◌, ℕ, List, Option, None, Some, IfNone, IfSome, MatchOption, arith, sym, subst}
use Rattle.ace_batch.specs.declared.shard.Shard.{Shard}
use Rattle.ace_call.specs.Number.{IsNumber}
use Rattle.ace_tool.specs.BatchOptions.{ArePart, IsJobs}
use Rattle.ace_tool.proofs.OneAsked.{same_number}

pub no_zero_jobs : (word : List ℕ) (n : ℕ) (jobs : Option ℕ) → IsNumber word n → n ≡ 0 → ¬ IsJobs (Some word) jobs
no_zero_jobs word n jobs is_n zero (number, is, some, said) =
    let same : number ≡ n = same_number word number n is is_n in
    absurd (omega (arith, some, same, zero))

pub no_first : (word word' : List ℕ) (part parts : ℕ) → ((n : ℕ) → ¬ IsNumber word n) → ¬ ArePart word word' part parts
no_first word word' part parts none is = none part is.0

pub no_second : (word word' : List ℕ) (part parts : ℕ) → ((n : ℕ) → ¬ IsNumber word' n) → ¬ ArePart word word' part parts
no_second word word' part parts none is = none parts is.1

pub out_of_range : (word word' : List ℕ) (a b part parts : ℕ) → IsNumber word a → IsNumber word' b → ¬ ((0 < a) × (a ≤ b))
    → ¬ ArePart word word' part parts
out_of_range word word' a b part parts first second none is =
    let one : part ≡ a = same_number word part a is.0 first in
    let two : parts ≡ b = same_number word' parts b is.1 second in
    none (subst (λ n. 0 < n) one is.2, subst (λ n. n ≤ b) one (subst (λ n. part ≤ n) two is.3))

pub shard_goal : (word word' : List ℕ) (a b : ℕ) (r : Option Shard) → IsNumber word a → IsNumber word' b
    → IfNone r (¬ ((0 < a) × (a ≤ b))) → IfSome r (λ s. (s.part ≡ a) × (s.parts ≡ b) × (0 < a) × (a ≤ b))
    → MatchOption r ((part parts : ℕ) → ¬ ArePart word word' part parts) (λ s. ArePart word word' s.part s.parts)
shard_goal word word' a b None first second none some = λ part parts. out_of_range word word' a b part parts first second none
shard_goal word word' a b (Some s) first second none (one, two, more, few) = (
  subst (IsNumber word) (sym one) first,
  subst (IsNumber word') (sym two) second,
  subst (λ n. 0 < n) (sym one) more,
  subst (λ n. n ≤ s.parts) (sym one) (subst (λ m. a ≤ m) (sym two) few),
)

pub ruleset parts = (no_first, no_second, out_of_range)
