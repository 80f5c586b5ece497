-- Between the steps of a run each answer to a snoop has the data that it announces: step 1 puts them with it.
use Rattle.std.proofs.Common.{◌≡◌, ℕ, ◌+◌, ◌*◌, Bool, true, false, ◌&&◌, ◌==◌, if◌then◌else◌, List, [], ◌∷◌, ◌++◌, length, inl, inr, refl, sym, ap, subst, ◌∙◌, arith}
use Rattle.std.specs.List.{list_all}
use Rattle.std.proofs.lemmas.Bool.{and_parts, and_from, cases_Bool, eqb-true, eq-eqb}
use Rattle.ace_codes.specs.declared.kind.SnoopKind.{SnoopKind}
use Rattle.ace_codes.specs.declared.kind.SnoopKind.TheVariants as snoop
use Rattle.ace_codes.specs.declared.state.LineState.{LineState}
use Rattle.ace_codes.specs.Responses.{transfers_data}
use Rattle.ace_codes.specs.Snoops.{ac_kind_of}
use Rattle.ace_event.specs.declared.event.Event.{Event}
use Rattle.ace_event.specs.declared.event.Event.TheVariants.{Cr, Cd}
use Rattle.ace_event.specs.declared.event.Outcome.TheVariants.{Ok}
use Rattle.ace_event.specs.declared.header.Header.{Header}
use Rattle.ace_event.specs.declared.line.Line.{Line}
use Rattle.ace_tables.specs.Answers.{is_snoop_row}
use Rattle.ace_tables.specs.States.{is_invalid}
use Rattle.ace_model.specs.declared.snoops.Snoop.{Snoop}
use Rattle.ace_model.specs.declared.transactions.Transaction.{Transaction}
use Rattle.ace_model.specs.Accepted.{IsAccepted, rules}
use Rattle.ace_model.specs.Copies.{copy_of}
use Rattle.ace_model.specs.Kinds.{is_complete_snoop, is_line_snoop}
use Rattle.ace_model.specs.Plans.{Plan}
use Rattle.ace_model.specs.SnoopRules.{answers_by_row, k15}
use Rattle.ace_model.specs.Snoops.{answered, answers, data_answers, data_beats, snoops_a_line}
use Rattle.ace_model.specs.States.{state_of}
use Rattle.ace_model.specs.Trace.{Trace, is_some_and}
use Rattle.ace_model.proofs.General.Options.{is_none_or-at, is_some_and-is, some_is}
use Rattle.ace_model.proofs.Rules.Keeps.{kept}
use Rattle.ace_runs.specs.Bursts.{are_kept, is_kept, onto}
use Rattle.ace_runs.specs.Closing.{retirement}
use Rattle.ace_runs.specs.LineSteps.{memory_write, response}
use Rattle.ace_runs.specs.MasterSteps.{after_answer, answers_snoop, data_burst, is_beat}
use Rattle.ace_runs.specs.Retiring.{tells_completion}
use Rattle.ace_runs.specs.SameEvents.{same_burst}
use Rattle.ace_runs.specs.Steps.{AreSteps, is_step}
use Rattle.ace_runs.proofs.Accepting.{accepted-after, kept-breaks-none}
use Rattle.ace_runs.proofs.Turns.{of-each-run, step-kept}
use Rattle.ace_runs.proofs.NeverStuck.Steps.SameBursts.{all-as, same-length}
use Rattle.ace_runs.proofs.NeverStuck.Steps.SameEvents.{TellsSame, tells-same}
use Rattle.ace_runs.proofs.NeverStuck.Steps.Lists.{all-if, all-implied}
use Rattle.ace_runs.proofs.NeverStuck.Steps.Serving.{responded-all, written-all}
use Rattle.ace_runs.proofs.NeverStuck.Rows.{has-kind}
use Rattle.ace_runs.proofs.NeverStuck.Steps.StepShapes.{WritesFor, is_plain, step-shape}

-- each port has four beats of snoop data for each of its answers that announce them
abbrev pub AreAnswersWhole : Trace → Type 0
AreAnswersWhole past = (p : ℕ) → data_beats past p ≡ data_answers past p * 4

-- ---- without answers ---------------------------------------------------------------------------------

-- neither an answer to a snoop nor a beat of its data
abbrev is_quiet : Event → Bool
is_quiet (Cr p resp st) = false
is_quiet (Cd p last word) = false
is_quiet _ = true

quiet-kept : (e : Event) (past : Trace) → AreAnswersWhole past → is_quiet e ≡ true → AreAnswersWhole (e ∷ past)
quiet-kept (Cr q resp st) past whole quiet p = cc
quiet-kept (Cd q last word) past whole quiet p = cc
quiet-kept e past whole quiet p = whole p

all-quiet-kept : (burst : List Event) (past : Trace) → AreAnswersWhole past → list_all is_quiet burst ≡ true → AreAnswersWhole (onto burst past)
all-quiet-kept [] past whole quiet = whole
all-quiet-kept (e ∷ burst) past whole quiet =
    let parts = and_parts (is_quiet e) (list_all is_quiet burst) quiet in
    all-quiet-kept burst (e ∷ past) (quiet-kept e past whole parts.0) parts.1

plain-quiet : (e : Event) → is_plain e ≡ true → is_quiet e ≡ true
plain-quiet (Cr p resp st) m = cc
plain-quiet (Cd p last word) m = cc
plain-quiet e m = refl

beat-quiet : (q : ℕ) (e : Event) → is_beat q e ≡ true → is_quiet e ≡ true
beat-quiet q (Cr p resp st) m = cc
beat-quiet q (Cd p last word) m = cc
beat-quiet q e m = refl

-- ---- the same bursts ---------------------------------------------------------------------------------

-- what passes the test passes it as the same burst
same-quiet : TellsSame is_quiet
same-quiet = tells-same is_quiet (λ p c i line. refl) (λ p a s x line. refl) (λ a line. refl)

writes-quiet : (h : Header) (past : Trace) (burst : List Event) (x : Transaction) → WritesFor h past burst x → list_all is_quiet burst ≡ true
writes-quiet h past burst x (inl w) = all-as is_quiet same-quiet (memory_write h past x ++ response x) burst w.1 (responded-all is_quiet (λ p c i line. refl) (λ p i resp. refl) h past x)
writes-quiet h past burst x (inr w) = all-as is_quiet same-quiet (memory_write h past x) burst w.1 (written-all is_quiet (λ p c i line. refl) h past x)

-- ---- the beats of an answer --------------------------------------------------------------------------

-- a beat of snoop data of the port
abbrev is_data : ℕ → Event → Bool
is_data q (Cd p last word) = q == p
is_data q _ = false

same-data : (q : ℕ) → TellsSame (is_data q)
same-data q = tells-same (is_data q) (λ p c i line. refl) (λ p a s x line. refl) (λ a line. refl)

data-of-port : (e : Event) (past : Trace) (q p : ℕ) → is_data q e ≡ true → (p == q) ≡ true → data_beats (e ∷ past) p ≡ data_beats past p + 1
data-of-port (Cd r last word) past q p m same = let one = eqb-true q r m in rw (← one, same) refl
data-of-port e past q p m same = cc

data-of-other : (e : Event) (past : Trace) (q p : ℕ) → is_data q e ≡ true → (p == q) ≡ false → data_beats (e ∷ past) p ≡ data_beats past p
data-of-other (Cd r last word) past q p m other = let one = eqb-true q r m in rw (← one, other) refl
data-of-other e past q p m other = cc

answers-same : (e : Event) (past : Trace) (q p : ℕ) → is_data q e ≡ true → data_answers (e ∷ past) p ≡ data_answers past p
answers-same (Cd r last word) past q p m = refl
answers-same e past q p m = cc

all-of-port : (burst : List Event) (past : Trace) (q p : ℕ) → list_all (is_data q) burst ≡ true → (p == q) ≡ true → data_beats (onto burst past) p ≡ data_beats past p + length burst
all-of-port [] past q p m same = omega arith
all-of-port (e ∷ burst) past q p m same =
    let parts = and_parts (is_data q e) (list_all (is_data q) burst) m in
    all-of-port burst (e ∷ past) q p parts.1 same ∙ ap (λ n. n + length burst) (data-of-port e past q p parts.0 same) ∙ (omega arith)

all-of-other : (burst : List Event) (past : Trace) (q p : ℕ) → list_all (is_data q) burst ≡ true → (p == q) ≡ false → data_beats (onto burst past) p ≡ data_beats past p
all-of-other [] past q p m other = refl
all-of-other (e ∷ burst) past q p m other =
    let parts = and_parts (is_data q e) (list_all (is_data q) burst) m in
    all-of-other burst (e ∷ past) q p parts.1 other ∙ data-of-other e past q p parts.0 other

all-answers-same : (burst : List Event) (past : Trace) (q p : ℕ) → list_all (is_data q) burst ≡ true → data_answers (onto burst past) p ≡ data_answers past p
all-answers-same [] past q p m = refl
all-answers-same (e ∷ burst) past q p m =
    let parts = and_parts (is_data q e) (list_all (is_data q) burst) m in
    all-answers-same burst (e ∷ past) q p parts.1 ∙ answers-same e past q p parts.0

-- ---- an answer ---------------------------------------------------------------------------------------

without-data : (past : Trace) (q resp : ℕ) (st : LineState) → AreAnswersWhole past → transfers_data resp ≡ false → AreAnswersWhole (Cr q resp st ∷ past)
without-data past q resp st whole none p =
    elim (cases_Bool (p == q)) [
      | inl t ↦ rw (t, none) (whole p)
      | inr f ↦ rw f (whole p)
    ]

with-data : (past : Trace) (q resp : ℕ) (st : LineState) (line : Line) (rest : List Event) → AreAnswersWhole past → transfers_data resp ≡ true
    → same_burst (data_burst q line) rest ≡ true → AreAnswersWhole (onto rest (Cr q resp st ∷ past))
with-data past q resp st line rest whole sends s p =
    let sent : list_all (is_data q) (data_burst q line) ≡ true = rw (eq-eqb q q refl) refl in
    let sent_data = all-as (is_data q) (same-data q) (data_burst q line) rest s sent in
    let four : length rest ≡ 4 = same-length (data_burst q line) rest s in
    let count = all-answers-same rest (Cr q resp st ∷ past) q p sent_data in
    let before = whole p in
    elim (cases_Bool (p == q)) [
      | inl t ↦
          let more : data_answers (Cr q resp st ∷ past) p ≡ data_answers past p + 1 = rw (t, sends) refl in
          let beats = all-of-port rest (Cr q resp st ∷ past) q p sent_data t in
          beats ∙ ap (λ n. data_beats past p + n) four ∙ ap (λ n. n + 4) before ∙ (omega arith) ∙ ap (λ n. n * 4) (sym (count ∙ more))
      | inr f ↦
          let same : data_answers (Cr q resp st ∷ past) p ≡ data_answers past p = rw f refl in
          all-of-other rest (Cr q resp st ∷ past) q p sent_data f ∙ before ∙ ap (λ n. n * 4) (sym (count ∙ same))
    ]

plain-sends-none : (resp : ℕ) (next : LineState) → ((resp == 0) && is_invalid next) ≡ true → transfers_data resp ≡ true → ⊥
plain-sends-none resp next row sends =
    let zero = eqb-true resp 0 (and_parts (resp == 0) (is_invalid next) row).0 in
    let bad : transfers_data 0 ≡ true = subst (λ n. transfers_data n ≡ true) zero sends in cc

-- only line snoops are answered with data
sends-line : (k : SnoopKind) (held : LineState) (resp : ℕ) (next : LineState) → is_snoop_row k held false resp next ≡ true → transfers_data resp ≡ true → is_line_snoop k ≡ true
sends-line snoop.DvmComplete held resp next row sends = absurd (plain-sends-none resp next row sends)
sends-line snoop.DvmMessage held resp next row sends = absurd (plain-sends-none resp next row sends)
sends-line k held resp next row sends = refl

pub line-not-complete : (k : SnoopKind) → is_line_snoop k ≡ true → is_complete_snoop k ≡ false
line-not-complete snoop.DvmComplete line = cc
line-not-complete k line = refl

none-if : (b c : Bool) (xs : List Event) → c ≡ false → list_all is_quiet (if b && c then xs else []) ≡ true
none-if true false xs none = refl
none-if false false xs none = refl
none-if b true xs none = cc

after-quiet : (past : Trace) (p : ℕ) (s : Snoop) (resp : ℕ) → transfers_data resp ≡ false → list_all is_quiet (after_answer past p s resp) ≡ true
after-quiet past p s resp none = all-if is_quiet (tells_completion s) _ _ refl (none-if (snoops_a_line s.snoop) (transfers_data resp) _ none)

kept-by-answer : (h : Header) (past : Trace) (p resp : ℕ) (st : LineState) (rest : List Event) → IsAccepted h past → AreAnswersWhole past
    → k15 h past (Cr p resp st) ≡ true → is_some_and (answered past p) (λ s. same_burst (after_answer past p s resp) rest) ≡ true
    → AreAnswersWhole (onto rest (Cr p resp st ∷ past))
kept-by-answer h past p resp st rest a whole row same =
    let s = is_some_and-is (answered past p) (λ s. same_burst (after_answer past p s resp) rest) same in
    elim (cases_Bool (transfers_data resp)) [
      | inr none ↦
          all-quiet-kept rest (Cr p resp st ∷ past) (without-data past p resp st whole none)
          (all-as is_quiet same-quiet (after_answer past p s.0 resp) rest s.2 (after-quiet past p s.0 resp none))
      | inl sends ↦
          let k = some_is (ac_kind_of s.0.snoop) (has-kind h past p (answers past p) s.0 a s.1) in
          let by_row = is_none_or-at (answered past p) (answers_by_row h past p resp st) s.0 row s.1 in
          let fits = is_none_or-at (ac_kind_of s.0.snoop) (λ k. is_snoop_row k (state_of h past p s.0.addr) false resp st) k.0 by_row k.1 in
          let of_line = sends-line k.0 (state_of h past p s.0.addr) resp st fits sends in
          let line : snoops_a_line s.0.snoop ≡ true = ap (λ o. is_some_and o is_line_snoop) k.1 ∙ of_line in
          let tells : tells_completion s.0 ≡ false = ap (λ o. is_some_and o is_complete_snoop) k.1 ∙ line-not-complete k.0 of_line in
          let both : (snoops_a_line s.0.snoop && transfers_data resp) ≡ true = and_from _ _ line sends in
          let sent_data = data_burst p (copy_of past p s.0.addr) in
          let burst : after_answer past p s.0 resp ≡ sent_data =
          ap (λ b. if b then retirement past p Ok else if snoops_a_line s.0.snoop && transfers_data resp then sent_data else []) tells ∙ ap (λ b. if b then sent_data else []) both in
          with-data past p resp st (copy_of past p s.0.addr) rest whole sends (subst (λ ds. same_burst ds rest ≡ true) burst s.2)
    ]

kept-by-answers : (h : Header) (past : Trace) (p : ℕ) (burst : List Event) → IsAccepted h past → AreAnswersWhole past → are_kept h past burst ≡ true
    → answers_snoop h past p burst ≡ true → AreAnswersWhole (onto burst past)
kept-by-answers h past p (Cr q resp st ∷ rest) a whole k g =
    let parts = and_parts (p == q) _ g in
    let port = eqb-true p q parts.0 in
    let row = kept rules 15 h past (Cr q resp st) (kept-breaks-none h past (Cr q resp st) (and_parts (is_kept h past (Cr q resp st)) _ k).0) in
    let same = subst (λ r. is_some_and (answered past r) (λ s. same_burst (after_answer past r s resp) rest) ≡ true) port parts.1 in
    kept-by-answer h past q resp st rest a whole row same
kept-by-answers h past p burst a whole k g = cc

-- ---- all steps ---------------------------------------------------------------------------------------

pub answers-kept : (plan : Plan) (past : Trace) (p : ℕ) (burst : List Event) → IsAccepted plan.header past → AreAnswersWhole past → is_step plan past p burst ≡ true
    → AreAnswersWhole (onto burst past)
answers-kept plan past p burst a whole s =
    elim (step-shape plan past p burst s) [
      | inl plain ↦ all-quiet-kept burst past whole (all-implied is_plain is_quiet plain-quiet burst plain)
      | inr (inl sent) ↦ all-quiet-kept burst past whole (all-implied (is_beat p) is_quiet (beat-quiet p) burst (and_parts (list_all (is_beat p) burst) (length burst == 4) sent).0)
      | inr (inr (inl g)) ↦ kept-by-answers plan.header past p burst a whole (step-kept plan past p burst s) g
      | inr (inr (inr w)) ↦ all-quiet-kept burst past whole (writes-quiet plan.header past burst w.0 w.1)
    ]

-- In each run the data of each answer are whole.
pub answers-whole : (plan : Plan) (past : Trace) → AreSteps plan past → AreAnswersWhole past
answers-whole plan past s =
    (of-each-run plan (λ t. IsAccepted plan.header t × AreAnswersWhole t) (tt, λ p. refl)
    (λ before p burst both step. (accepted-after plan.header burst before both.0 (step-kept plan before p burst step), answers-kept plan before p burst both.0 both.1 step))
    past s).1
