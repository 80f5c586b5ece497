-- The clauses of K15 that are named, by the snoop that a CR answers and by what its port holds.
use Rattle.std.proofs.Common.{◌≡◌, ℕ, Bool, true, false, not, ◌||◌, ◌==◌, if◌then◌else◌, Option, Some, None, refl, sym, ap, ◌∙◌}
use Rattle.ace_codes.specs.declared.kind.SnoopKind.{SnoopKind}
use Rattle.ace_codes.specs.declared.kind.SnoopKind.TheVariants.{MakeInvalid, DvmComplete, DvmMessage}
use Rattle.ace_codes.specs.declared.state.LineState.{LineState}
use Rattle.ace_codes.specs.declared.state.LineState.TheVariants.{I}
use Rattle.ace_event.specs.declared.event.Event.{Event}
use Rattle.ace_event.specs.declared.event.Event.TheVariants.{Cr}
use Rattle.ace_tables.specs.Answers.{is_snoop_row, is_plain_row, fits_answer, states_after}
use Rattle.ace_tables.specs.States.{is_among, is_invalid}
use Rattle.ace_model.specs.declared.snoops.Snoop.{Snoop}
use Rattle.ace_model.specs.Accepted.{least_of}
use Rattle.ace_model.specs.Kinds.{is_line_snoop}
use Rattle.ace_model.specs.Shares.{line_rules}
use Rattle.ace_model.specs.States.{state_of}
use Rattle.ace_model.specs.Trace.{is_some_and}
use Rattle.ace_portck.specs.SnoopAnswers.{IsAnswered}
use Rattle.ace_portck.specs.Targets.{Recording}
use Rattle.ace_clauses.specs.SnoopClauses.{is_hit}
use Rattle.ace_clauses.specs.declared.letters.Letter.TheVariants as letter
use Rattle.ace_explain.specs.Answers.{response_to}
use Rattle.ace_explain.specs.Names.{Names}
use Rattle.ace_explain.proofs.Broken.{has_clause, last_one, none_broken}

-- a snoop of a line that the port holds may leave it in the state where one of two responses goes with it
pub leaves-where-answered : (k : SnoopKind) (held next : LineState) → is_hit k held ≡ true
    → (is_snoop_row k held false (response_to k next false) next || is_snoop_row k held false (response_to k next true) next)
    ≡ is_among next (states_after k held)
leaves-where-answered DvmComplete held next hit = cc
leaves-where-answered DvmMessage held next hit = cc
leaves-where-answered MakeInvalid I next hit = cc
leaves-where-answered MakeInvalid held I hit = refl
leaves-where-answered MakeInvalid held next hit = refl
leaves-where-answered k I next hit = cc
leaves-where-answered k held I hit = refl
leaves-where-answered k held next hit = refl

-- the state, where the first of the two responses doesn't go with it
pub second-tells : (k : SnoopKind) (held next : LineState) (clean dirty : ℕ) → clean ≡ response_to k next false → dirty ≡ response_to k next true → is_hit k held ≡ true
    → is_snoop_row k held false clean next ≡ false → is_snoop_row k held false dirty next ≡ is_among next (states_after k held)
second-tells k held next clean dirty one two hit first =
    by (is_snoop_row k held false (response_to k next false) next) (ap (λ n. is_snoop_row k held false n next) (sym one) ∙ first)
    (leaves-where-answered k held next hit)
  where
    by : (b : Bool) → b ≡ false → (b || is_snoop_row k held false (response_to k next true) next) ≡ is_among next (states_after k held)
        → is_snoop_row k held false dirty next ≡ is_among next (states_after k held)
    by true none told = cc
    by false none told = ap (λ n. is_snoop_row k held false n next) two ∙ told

module _ (r : Recording) where
  -- of an event that is no CR
  pub k15_of_others : (e : Event) → ((p resp : ℕ) (st : LineState) → e ≡ Cr p resp st → ⊥) → Names r e 15 letter.A
  k15_of_others (Cr p resp st) cr least = absurd (cr p resp st refl)
  k15_of_others e cr least = none_broken (has_clause r.header r.past e 15 least)

  module _ (p resp : ℕ) (st : LineState) (s : Snoop) (k : SnoopKind) (is : IsAnswered r.past p s k) where
    pub dvm_answer : is_line_snoop k ≡ false → Names r (Cr p resp st) 15 letter.C
    dvm_answer dvm least =
        rw (is.next, is.kind, dvm) (last_one (is_plain_row resp st) letter.C (rw (is.next, is.kind, dvm) at (has_clause r.header r.past (Cr p resp st) 15 least)))

    module _ (line : is_line_snoop k ≡ true) where
      pub answer_without : is_invalid (state_of r.header r.past p s.addr) ≡ true → Names r (Cr p resp st) 15 letter.B
      answer_without none least =
          rw (is.next, is.kind, line, none)
          (last_one (is_plain_row resp st) letter.B (rw (is.next, is.kind, line, none) at (has_clause r.header r.past (Cr p resp st) 15 least)))

      module _ (holds : is_invalid (state_of r.header r.past p s.addr) ≡ false) where
        pub wrong_state : is_among st (states_after k (state_of r.header r.past p s.addr)) ≡ false → Names r (Cr p resp st) 15 letter.A
        wrong_state among least = rw (is.next, is.kind, line, holds, among) refl

        pub wrong_bits : is_among st (states_after k (state_of r.header r.past p s.addr)) ≡ true → Names r (Cr p resp st) 15 letter.D
        wrong_bits among least =
            rw (is.next, is.kind, line, holds, among)
            (last_one (fits_answer k (state_of r.header r.past p s.addr) st resp) letter.D
            (rw (is.next, is.kind, line, holds, among) at (has_clause r.header r.past (Cr p resp st) 15 least)))

    -- the answer is a row of the snoop where the rule that is told isn't K15
    pub row-told : (told : Option ℕ) → told ≡ least_of line_rules r.header r.past (Cr p resp st)
        → not (is_some_and told (λ n. n == 15)) ≡ is_snoop_row k (state_of r.header r.past p s.addr) false resp st
    row-told told same =
        ap (λ o. not (is_some_and o (λ n. n == 15))) same
        ∙ rw is.next (rw is.kind (by (is_snoop_row k (state_of r.header r.past p s.addr) false resp st) _))
      where
        by : (row beside : Bool)
            → not (is_some_and (if row then (if beside then None else Some 16) else Some 15) (λ n. n == 15)) ≡ row
        by true true = refl
        by true false = refl
        by false beside = refl
