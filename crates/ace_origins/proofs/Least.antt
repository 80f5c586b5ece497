-- The least line that has a word, of one line more.
use Rattle.std.proofs.Common.{◌≡◌, ◌<◌, ◌≤◌, ◌+◌, ℕ, zero, suc, List, length, Option, Some, None, nat_eq, slice_get, arith, refl, sym, ap, subst, ◌∙◌, IfNone, IfSome, inl, inr}
use native.Mathlib.Decide.{dec_lt}
use Rattle.std.proofs.lemmas.Option.{slice_get_within}
use Rattle.indexmap.specs.IndexMap.{get}
use Rattle.ace_event.specs.declared.header.Header.{Header}
use Rattle.ace_event.specs.declared.line.Line.{Line}
use Rattle.ace_journal.specs.Journals.{JournalStands, lines_of}
use Rattle.ace_journal.specs.declared.journal.Journal.{Journal}
use Rattle.ace_model.proofs.General.Options.{Some-injective}
use Rattle.ace_model.specs.Accepted.{IsAccepted}
use Rattle.ace_model.specs.Copies.{copy_of, memory_of, word_of, zero_line}
use Rattle.ace_model.specs.Trace.{Trace}
use Rattle.ace_origins.specs.Found.{Each, IsLeast}
use Rattle.ace_origins.specs.Origins.{IsFirstWord, IsNotOn}
use Rattle.ace_origins.specs.declared.search.Found.{Found}
use Rattle.ace_origins.proofs.Unkept.{heard_or_not, unheard, untouched}

module _ (all : List ℕ) (n : ℕ) where
  -- the next line is so too, or there is none
  each_more : (IsSo : ℕ → Type 0) (line : ℕ) → slice_get all n ≡ Some line → IsSo line → Each n all IsSo → Each (n + 1) all IsSo
  each_more IsSo line is so each i q low at =
      elim (dec_lt i n) [
        | yes older ↦ each i q older at
        | no newer ↦
            let here : i ≡ n = omega (arith, newer, low) in
            let same : q ≡ line = Some-injective q line (sym at ∙ ap (λ k. slice_get all k) here ∙ is) in
            subst IsSo (sym same) so
      ]

  each_end : (IsSo : ℕ → Type 0) → slice_get all n ≡ None → Each n all IsSo → Each (n + 1) all IsSo
  each_end IsSo none each i q low at =
      elim (dec_lt i n) [
        | yes older ↦ each i q older at
        | no newer ↦
            let here : i ≡ n = omega (arith, newer, low) in
            let no : Some q ≡ None = sym at ∙ ap (λ k. slice_get all k) here ∙ none in cc
      ]

  module _ (h : Header) (past : Trace) (w : ℕ) where
    pub least_end : (o : Option Found) → slice_get all n ≡ None → IsLeast h past w all n o → IsLeast h past w all (n + 1) o
    least_end None none s = each_end (λ q. IsNotOn h past q w) none s
    least_end (Some x) none s = (s.0, each_end (λ q. q < x.line → IsNotOn h past q w) none s.1)

    module _ (line : ℕ) (is : slice_get all n ≡ Some line) where
      -- the first is found, or none as before
      pub least_first : (o : Option Found) → IfSome o (λ x. IsFirstWord h past line w x.number x.holder) → IfSome o (λ x. x.line ≡ line) → IfNone o (IsNotOn h past line w)
          → IsLeast h past w all n None → IsLeast h past w all (n + 1) o
      least_first None found same none s = each_more (λ q. IsNotOn h past q w) line is none s
      least_first (Some x) found same none s = (
        subst (λ l. IsFirstWord h past l w x.number x.holder) (sym same) found,
        each_more (λ q. q < x.line → IsNotOn h past q w) line is (λ low. absurd (omega (arith, low, same))) (λ i q low at below. s i q low at),
      )

      -- a greater line, or one without the word, changes nothing
      pub least_stays : (x : Found) → (line < x.line → IsNotOn h past line w) → IsLeast h past w all n (Some x) → IsLeast h past w all (n + 1) (Some x)
      least_stays x none s = (s.0, each_more (λ q. q < x.line → IsNotOn h past q w) line is none s.1)

      -- a lesser line with the word is the least
      pub least_moves : (x y : Found) → y.line ≡ line → line < x.line → IsFirstWord h past line w y.number y.holder
          → IsLeast h past w all n (Some x) → IsLeast h past w all (n + 1) (Some y)
      least_moves x y same less found s = (
        subst (λ l. IsFirstWord h past l w y.number y.holder) (sym same) found,
        each_more (λ q. q < y.line → IsNotOn h past q w) line is (λ low. absurd (omega (arith, low, same)))
            (λ i q low at below. s.1 i q low at (omega (arith, below, same, less))),
      )

zero_words : (k : ℕ) → word_of zero_line k ≡ 0
zero_words zero = refl
zero_words (suc zero) = refl
zero_words (suc (suc zero)) = refl
zero_words (suc (suc (suc zero))) = refl
zero_words (suc (suc (suc (suc k)))) = refl

-- all lines that are kept were looked at
module _ (h : Header) (past : Trace) (j : Journal) (w n : ℕ) (a : IsAccepted h past) (s : JournalStands h past j) (some : w ≡ 0 → ⊥)
    (whole : length (lines_of j) ≤ n) where
  -- a line that isn't among them has zeros alone
  no_word : (line : Line) (k : ℕ) → line ≡ zero_line → word_of line k ≡ w → ⊥
  no_word line k zeros is = some (sym is ∙ ap (λ (v : Line). word_of v k) zeros ∙ zero_words k)

  not_on : (q : ℕ) → get nat_eq j.lines q ≡ None → IsNotOn h past q w
  not_on q none k few =
      let zeros = untouched h past q a (unheard h past j q s none) in
      (no_word (memory_of past q) k zeros.0, λ p low has. no_word (copy_of past p q) k (zeros.1 p) has.0)

  of_each : (IsSo : ℕ → Type 0) (q : ℕ) → (IsNotOn h past q w → IsSo q) → Each n (lines_of j) IsSo → IsSo q
  of_each IsSo q absent each =
      elim (heard_or_not j q) [
        | inl there ↦ each there.0 q (let low = slice_get_within (lines_of j) there.0 q there.1 in omega (arith, low, whole)) there.1
        | inr none ↦ absent (not_on q none)
      ]

  pub least_found : (o : Option Found) → IsLeast h past w (lines_of j) n o
      → IfSome o (λ x. IsFirstWord h past x.line w x.number x.holder × ((q : ℕ) → q < x.line → IsNotOn h past q w))
  least_found None l = tt
  least_found (Some x) l = (l.0, λ q. of_each (λ q. q < x.line → IsNotOn h past q w) q (λ absent low. absent) l.1)

  pub least_none : (o : Option Found) → IsLeast h past w (lines_of j) n o → IfNone o ((q : ℕ) → IsNotOn h past q w)
  least_none None l = λ q. of_each (λ q. IsNotOn h past q w) q (λ absent. absent) l
  least_none (Some x) l = tt
