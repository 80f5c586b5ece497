-- The clauses of K20 and K21 that are named, by the outstanding read.
use Rattle.std.proofs.Common.{◌≡◌, ℕ, Bool, true, false, not, ◌&&◌, ◌==◌, if◌then◌else◌, Option, Some, None, is_some, option_map, refl}
use Rattle.ace_codes.specs.Responses.{low_bits}
use Rattle.ace_event.specs.declared.event.Channel.TheVariants.{Read}
use Rattle.ace_event.specs.declared.event.Event.{Event}
use Rattle.ace_event.specs.declared.event.Event.TheVariants.{R}
use Rattle.ace_event.specs.declared.header.Header.{Header}
use Rattle.ace_model.specs.declared.transactions.Transaction.{Transaction}
use Rattle.ace_model.specs.Copies.{is_line_read_transaction, word_of}
use Rattle.ace_model.specs.Exclusives.{passed_at_grant}
use Rattle.ace_model.specs.Kinds.{is_clean_unique}
use Rattle.ace_model.specs.ReadRules.{is_exclusive_okay}
use Rattle.ace_model.specs.Replies.{reply_of}
use Rattle.ace_model.specs.Trace.{Trace, implies, is_some_and}
use Rattle.ace_model.specs.Transactions.{outstanding, read_kind, transfers}
use Rattle.ace_portck.specs.Targets.{Recording, progress_of}
use Rattle.ace_clauses.specs.declared.letters.Letter.{Letter}
use Rattle.ace_clauses.specs.declared.letters.Letter.TheVariants as letter
use Rattle.ace_explain.specs.Names.{Names}
use Rattle.ace_explain.proofs.Broken.{has_clause, last_one, none_broken}

-- where none is in progress, none is outstanding
pub progress-none : (h : Header) (past : Trace) (o : Option Transaction) → option_map (progress_of h past) o ≡ None → o ≡ None
progress-none h past None none = refl
progress-none h past (Some x) none = cc

module _ (r : Recording) where
  -- of an event that is no R
  pub k20_of_others : (e : Event) → ((p i resp : ℕ) (last : Bool) (word : ℕ) → e ≡ R p i resp last word → ⊥) → Names r e 20 letter.A
  k20_of_others (R p i resp last word) read least = absurd (read p i resp last word refl)
  k20_of_others e read least = none_broken (has_clause r.header r.past e 20 least)

  pub k21_of_others : (e : Event) → ((p i resp : ℕ) (last : Bool) (word : ℕ) → e ≡ R p i resp last word → ⊥) → Names r e 21 letter.A
  k21_of_others (R p i resp last word) read least = absurd (read p i resp last word refl)
  k21_of_others e read least = none_broken (has_clause r.header r.past e 21 least)

  module _ (p i resp : ℕ) (last : Bool) (word : ℕ) (x : Transaction) (out : outstanding r.header r.past p Read i ≡ Some x) where
    -- K20, by whether the read is one of a line
    pub word_of_none : is_line_read_transaction x ≡ false → Names r (R p i resp last word) 20 letter.A
    word_of_none dataless least =
        rw (out, dataless) (last_one (word == 0) letter.A (rw (out, dataless) at (has_clause r.header r.past (R p i resp last word) 20 least)))

    pub word_of_line : is_line_read_transaction x ≡ true → Names r (R p i resp last word) 20 letter.B
    word_of_line line least =
        rw (out, line)
        (last_one (word == word_of (reply_of r.past x) (transfers r.past x.port x.id)) letter.B
        (rw (out, line) at (has_clause r.header r.past (R p i resp last word) 20 least)))

    -- K21: by lock, by whether it is a CleanUnique, and by whether its store passed
    abbrev Okay : Bool → Bool → Bool → Bool
    Okay lock store passed = lock && implies store ((lock && store) && passed)

    abbrev Told : Bool → Bool → Bool → Bool → Bool → Option Letter
    Told lock store passed one zero =
        if implies (Okay lock store passed) one
        then (if implies ((lock && store) && not ((lock && store) && passed)) zero
        then (if implies (not lock) zero then None else Some letter.C) else Some letter.B)
        else Some letter.A

    as_okay : (lock store passed one zero : Bool) → Okay lock store passed ≡ true → is_some (Told lock store passed one zero) ≡ true
        → Told lock store passed one zero ≡ Some letter.A
    as_okay true true true one zero okay some = last_one one letter.A some
    as_okay true true false one zero okay some = cc
    as_okay true false passed one zero okay some = last_one one letter.A some
    as_okay false store passed one zero okay some = cc

    as_failed : (store passed one zero : Bool) → Okay true store passed ≡ false → is_some (Told true store passed one zero) ≡ true
        → Told true store passed one zero ≡ Some letter.B
    as_failed true true one zero okay some = cc
    as_failed true false one zero okay some = last_one zero letter.B some
    as_failed false passed one zero okay some = cc

    -- whether it is a CleanUnique, and whether the store of its name passed
    abbrev stores : Bool
    stores = is_some_and (read_kind x) is_clean_unique

    abbrev passed : Bool
    passed = is_some_and (passed_at_grant r.past x.port x.id) (λ v. v)

    pub not_exokay : is_exclusive_okay r.past x ≡ true → Names r (R p i resp last word) 21 letter.A
    not_exokay okay least =
        rw out
        (as_okay x.lock stores passed (low_bits resp == 1) (low_bits resp == 0) okay
        (rw out at (has_clause r.header r.past (R p i resp last word) 21 least)))

    pub exokay_of_failed : is_exclusive_okay r.past x ≡ false → x.lock ≡ true → Names r (R p i resp last word) 21 letter.B
    exokay_of_failed okay lock least =
        rw (out, lock)
        (as_failed stores passed (low_bits resp == 1) (low_bits resp == 0) (rw lock at okay)
        (rw (out, lock) at (has_clause r.header r.past (R p i resp last word) 21 least)))

    pub exokay_of_other : x.lock ≡ false → Names r (R p i resp last word) 21 letter.C
    exokay_of_other lock least =
        rw (out, lock)
        (last_one (low_bits resp == 0) letter.C (rw (out, lock) at (has_clause r.header r.past (R p i resp last word) 21 least)))
