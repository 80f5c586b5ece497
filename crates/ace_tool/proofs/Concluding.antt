-- What was done is the answer, unless an output failed.
use Rattle.std.proofs.Common.{◌≡◌, ◌≢◌, ℕ, List, [], Option, Result, Ok, Err, IfOk, OnOk, OnErr, subst, sym, inl}
use Rattle.std.specs.Io.KnownBytes.{Appends}
use Rattle.std.proofs.KnownBytes.{Appends-nil}
use Rattle.ace_tool.specs.Answer.{Answers, Does}
use Rattle.ace_tool.specs.Held.{Held}
use Rattle.ace_tool.specs.Requests.{Asks, Wish}

pub concluded : {E F : Type 0} (held : E → Option (List ℕ)) (notes notes' : E) (holds : List ℕ → Held) (words : List (List ℕ)) (wish : Wish)
    (input left out out' : Option (List ℕ)) (done : Result ℕ F) (status : ℕ) → Asks words wish
    → IfOk done (Does holds wish input left out out') → IfOk done (λ s. status ≡ s) → OnOk done (notes' ≡ notes) → OnErr done (status ≡ 5)
    → status ≢ 5 → Answers holds words input left out out' (held notes) (held notes') status
concluded held notes notes' holds words wish input left out out' (Ok s) status asks does is silent failed none = inl (
  wish,
  asks,
  subst (Does holds wish input left out out') (sym is) does,
  subst (λ n. Appends (held notes) (held n) []) (sym silent) (Appends-nil (held notes)),
)
concluded held notes notes' holds words wish input left out out' (Err e) status asks does is silent failed none = absurd (none failed)
