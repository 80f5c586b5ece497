-- The answer to a snoop by one of its rows is a step, and breaks no rule.
use Rattle.std.proofs.Common.{◌≡◌, ℕ, ◌<◌, ◌+◌, ◌*◌, ◌/◌, Bool, true, false, ◌&&◌, ◌==◌, nat_lt, if◌then◌else◌, List, [], ◌∷◌, ◌++◌, length, length-append, Option, Some, None, is_some, is_none, slice_get, refl, sym, ap, subst, ◌∙◌, arith}
use Rattle.std.proofs.Math.Bool.{and-false}
use Rattle.std.specs.Option.{option_map, option_and_then}
use Rattle.std.proofs.lemmas.Bool.{and_from, and_parts, eq-eqb}
use Rattle.ace_codes.specs.declared.kind.SnoopKind.{SnoopKind}
use Rattle.ace_codes.specs.declared.kind.SnoopKind.TheVariants as snoop
use Rattle.ace_codes.specs.declared.state.LineState.{LineState}
use Rattle.ace_codes.specs.Responses.{transfers_data}
use Rattle.ace_codes.specs.Snoops.{ac_kind_of}
use Rattle.ace_event.specs.declared.event.Event.{Event}
use Rattle.ace_event.specs.declared.event.Event.TheVariants.{Cr, Cd}
use Rattle.ace_event.specs.declared.event.Outcome.TheVariants.{Ok}
use Rattle.ace_event.specs.declared.header.Header.{Header}
use Rattle.ace_event.specs.declared.line.Line.{Line}
use Rattle.ace_tables.specs.declared.rows.Row.{Row}
use Rattle.ace_tables.specs.Answers.{is_snoop_row, same_test}
use Rattle.ace_tables.specs.States.{is_invalid}
use Rattle.ace_model.specs.declared.snoops.Snoop.{Snoop}
use Rattle.ace_model.specs.Accepted.{IsAccepted}
use Rattle.ace_model.specs.AddressRules.{k1, k2}
use Rattle.ace_model.specs.Copies.{copy_of, word_of}
use Rattle.ace_model.specs.Kinds.{is_complete_snoop, is_line_snoop}
use Rattle.ace_model.specs.Plans.{Plan}
use Rattle.ace_model.specs.Progress.{has_update}
use Rattle.ace_model.specs.Replies.{next_sent, next_sent_beat, sent}
use Rattle.ace_model.specs.SnoopRules.{answers_beside_update, answers_by_row, k14, k15, k16, k17}
use Rattle.ace_model.specs.Snoops.{answered, answers, data_beats}
use Rattle.ace_model.specs.States.{state_of}
use Rattle.ace_model.specs.Trace.{Trace, implies, is_none_or, is_some_and, more}
use Rattle.ace_model.specs.Transactions.{is_ace}
use Rattle.ace_model.proofs.General.Lists.{slice_get-at_end}
use Rattle.ace_model.proofs.General.Options.{Some-injective}
use Rattle.ace_runs.specs.Bursts.{are_kept, is_kept, onto}
use Rattle.ace_runs.specs.Closing.{retirement}
use Rattle.ace_runs.specs.Follows.{answers_well, is_picked, picks}
use Rattle.ace_runs.specs.MasterSteps.{after_answer, answers_snoop, data_burst, has_row, may_answer_snoop}
use Rattle.ace_runs.specs.SameEvents.{same_burst}
use Rattle.ace_runs.proofs.Accepting.{two-kept}
use Rattle.ace_runs.proofs.NeverStuck.Operations.Kept.ClosingKept.{retirement-kept}
use Rattle.ace_runs.proofs.NeverStuck.Rows.{snooped-ace}
use Rattle.ace_runs.proofs.NeverStuck.Steps.SameBursts.{burst-self}
use Rattle.ace_runs.proofs.NeverStuck.Steps.SameEvents.{same_test-self}
use Rattle.ace_master.specs.declared.answering.Asked.{Asked}
use Rattle.ace_master.specs.Answering.{AreDataSent, IsAnswer, IsByWord, IsRowFor, asked_by, asked_of, can_answer, comes_with}
use Rattle.ace_master_laws.specs.Chosen.{AreChosen}
use Rattle.ace_master.proofs.AnsweredSnoops.Rows.{message-row, row-alone, row-no-error, sent-held}

-- ---- the snoop ---------------------------------------------------------------------------------------

-- The port's oldest unanswered snoop, and what its answer goes by.
pub record IsOldest (h : Header) (past : Trace) (p : ℕ) (a : Asked) : Type 0 where
  pub oldest : Snoop
  pub is : answered past p ≡ Some oldest
  pub kind : ac_kind_of oldest.snoop ≡ Some a.kind
  pub addr : oldest.addr ≡ a.addr
  pub held : state_of h past p oldest.addr ≡ a.held
  pub update : has_update h past p oldest.addr ≡ a.update

pub asked-is : (h : Header) (past : Trace) (p : ℕ) (a : Asked) → asked_of h past p ≡ Some a → IsOldest h past p a
asked-is h past p a asked = by (answered past p) refl asked
  where
    of : (s : Snoop) → answered past p ≡ Some s → (o : Option SnoopKind) → ac_kind_of s.snoop ≡ o → option_map (asked_by h past p s) o ≡ Some a → IsOldest h past p a
    of s at None kind is = cc
    of s at (Some k) kind is =
        let same : asked_by h past p s k ≡ a = Some-injective (asked_by h past p s k) a is in
        record {
          oldest = s;
          is = at;
          kind = kind ∙ ap (λ (v : Asked). Some v.kind) same;
          addr = ap (λ (v : Asked). v.addr) same;
          held = ap (λ (v : Asked). v.held) same;
          update = ap (λ (v : Asked). v.update) same;
        }

    by : (o : Option Snoop) → answered past p ≡ o → option_and_then (λ s. option_map (asked_by h past p s) (ac_kind_of s.snoop)) o ≡ Some a → IsOldest h past p a
    by None at is = cc
    by (Some s) at is = of s at (ac_kind_of s.snoop) refl is

-- the port may answer where there is a row
pub may-is : (h : Header) (past : Trace) (p : ℕ) → may_answer_snoop h past p ≡ is_some_and (asked_of h past p) can_answer
may-is h past p = by (answered past p)
  where
    of : (s : Snoop) (o : Option SnoopKind)
        → is_some_and o (λ k. can_answer (asked_by h past p s k)) ≡ is_some_and (option_map (asked_by h past p s) o) can_answer
    of s None = refl
    of s (Some k) = refl

    by : (o : Option Snoop) → is_some_and o (has_row h past p) ≡ is_some_and (option_and_then (λ s. option_map (asked_by h past p s) (ac_kind_of s.snoop)) o) can_answer
    by None = refl
    by (Some s) = of s (ac_kind_of s.snoop)

-- the port holds the line whose data its answer announces
pub announces-held : (h : Header) (past : Trace) (p : ℕ) (a : Asked) → asked_of h past p ≡ Some a → (rows : SnoopKind → LineState → Bool → List Row) (r : Row) → IsRowFor rows a r
    → transfers_data r.resp ≡ true → is_invalid (state_of h past p a.addr) ≡ false
announces-held h past p a asked rows r fit sends =
    let o = asked-is h past p a asked in
    ap is_invalid (ap (state_of h past p) (sym o.addr) ∙ o.held) ∙ sent-held a.kind a.held a.update r.resp r.next fit.row sends

-- ---- its CR ------------------------------------------------------------------------------------------

five-kept : (a b c d e : Bool) (i j k l m : ℕ) → a ≡ true → b ≡ true → c ≡ true → d ≡ true → e ≡ true
    → is_none {T = ℕ} (if a then (if b then (if c then (if d then (if e then None else Some m) else Some l) else Some k) else Some j) else Some i) ≡ true
five-kept a b c d e i j k l m v w x y z = rw (v, w, x, y, z) refl

implied : (a b : Bool) → (a ≡ true → b ≡ true) → implies a b ≡ true
implied true b by = by refl
implied false b by = refl

module _ (h : Header) (past : Trace) (p : ℕ) (a : Asked) (o : IsOldest h past p a) (ace : is_ace h p ≡ true) (resp : ℕ) (st : LineState)
    (row : is_snoop_row a.kind a.held a.update resp st ≡ true) where
  cr-kept : is_kept h past (Cr p resp st) ≡ true
  unfolding is_kept
  cr-kept =
      let s = o.oldest in
      let e = Cr p resp st in
      let one : k1 h past e ≡ true = and_from _ _ (and_parts (nat_lt p h.ports) _ ace).0 ace in
      let two : k2 h past e ≡ true = row-no-error a.kind a.held a.update resp st row in
      let fourteen : k14 h past e ≡ true = ap is_some o.is in
      let alone : answers_by_row h past p resp st s ≡ true =
      ap (λ v. is_none_or v (λ k. is_snoop_row k (state_of h past p s.addr) false resp st)) o.kind ∙ ap (λ held. is_snoop_row a.kind held false resp st) o.held
      ∙ row-alone a.kind a.held a.update resp st row in
      let fifteen : k15 h past e ≡ true = ap (λ v. is_none_or v (answers_by_row h past p resp st)) o.is ∙ alone in
      let beside : answers_beside_update h past p resp st s ≡ true =
      implied (has_update h past p s.addr) _ (λ t.
      ap (λ v. is_none_or v (λ k. is_snoop_row k (state_of h past p s.addr) true resp st)) o.kind ∙ ap (λ held. is_snoop_row a.kind held true resp st) o.held
      ∙ subst (λ u. is_snoop_row a.kind a.held u resp st ≡ true) (sym o.update ∙ t) row) in
      let sixteen : k16 h past e ≡ true = ap (λ v. is_none_or v (answers_beside_update h past p resp st)) o.is ∙ beside in
      five-kept (k1 h past e) (k2 h past e) (k14 h past e) (k15 h past e) (k16 h past e) 1 2 14 15 16 one two fourteen fifteen sixteen

  sent-without : transfers_data resp ≡ false → sent (Cr p resp st ∷ past) p ≡ sent past p
  sent-without none =
      ap (λ b. more (sent past p) (if b then option_map (λ s. copy_of past p s.addr) (answered past p) else None)) (ap (λ b. (p == p) && b) none ∙ and-false (p == p))

  sent-with : transfers_data resp ≡ true → sent (Cr p resp st ∷ past) p ≡ sent past p ++ copy_of past p a.addr ∷ []
  sent-with sends =
      ap (λ b. more (sent past p) (if b then option_map (λ s. copy_of past p s.addr) (answered past p) else None)) (and_from _ _ (eq-eqb p p refl) sends)
      ∙ ap (λ v. more (sent past p) (option_map (λ s. copy_of past p s.addr) v)) o.is ∙ ap (λ l. sent past p ++ copy_of past p l ∷ []) o.addr

  after-is : after_answer past p o.oldest resp ≡ comes_with past p a resp
  after-is =
      ap (λ v. if is_some_and v is_complete_snoop then retirement past p Ok else if is_some_and v is_line_snoop && transfers_data resp then data_burst p (copy_of past p o.oldest.addr) else []) o.kind
      ∙ ap (λ l. if is_complete_snoop a.kind then retirement past p Ok else if is_line_snoop a.kind && transfers_data resp then data_burst p (copy_of past p l) else []) o.addr

  answer-step : answers_snoop h past p (Cr p resp st ∷ comes_with past p a resp) ≡ true
  answer-step =
      let rest = comes_with past p a resp in
      and_from _ _ (eq-eqb p p refl)
      (ap (λ v. is_some_and v (λ s. same_burst (after_answer past p s resp) rest)) o.is ∙ ap (λ es. same_burst es rest) after-is ∙ burst-self rest)

-- ---- its data ----------------------------------------------------------------------------------------

-- So many beats of the last line that the port announced are sent.
record IsSending (past : Trace) (p : ℕ) (line : Line) (n k : ℕ) : Type 0 where
  there : slice_get (sent past p) n ≡ Some line
  last : length (sent past p) ≡ n + 1
  beats : data_beats past p ≡ 4 * n + k

module _ (h : Header) (past : Trace) (p : ℕ) (line : Line) (n k : ℕ) (some : k < 4) (ace : is_ace h p ≡ true) (s : IsSending past p line n k) where
  abbrev e : Event
  e = Cd p (k == 3) (word_of line k)

  cd-kept : is_kept h past e ≡ true
  unfolding is_kept
  cd-kept =
      let beats = s.beats in
      let number : data_beats past p / 4 ≡ n = omega (arith, beats, some) in
      let beat : next_sent_beat past p ≡ k = omega (arith, beats, some) in
      let next : next_sent past p ≡ Some line = ap (slice_get (sent past p)) number ∙ s.there in
      let one : k1 h past e ≡ true = and_from _ _ (and_parts (nat_lt p h.ports) _ ace).0 ace in
      let seventeen : k17 h past e ≡ true =
      ap (λ v. is_some_and v (λ line_sent. same_test (k == 3) (next_sent_beat past p == 3) && (word_of line k == word_of line_sent (next_sent_beat past p)))) next
      ∙ ap (λ m. same_test (k == 3) (m == 3) && (word_of line k == word_of line m)) beat ∙ and_from _ _ (same_test-self (k == 3)) (eq-eqb (word_of line k) (word_of line k) refl) in
      two-kept (k1 h past e) (k17 h past e) 1 17 one seventeen

  sending-on : IsSending (e ∷ past) p line n (k + 1)
  sending-on =
      let beats = s.beats in
      let grown : data_beats (e ∷ past) p ≡ data_beats past p + 1 = ap (λ b. if b then data_beats past p + 1 else data_beats past p) (eq-eqb p p refl) in
      record { there = s.there; last = s.last; beats = omega (arith, beats, grown) }

-- What comes with the CR, after it.
record Follow (plan : Plan) (past : Trace) (p : ℕ) (rest : List Event) : Type 0 where
  kept : are_kept plan.header past rest ≡ true
  data_sent : AreDataSent (onto rest past) p
  chosen : AreChosen plan past rest

data-follow : (plan : Plan) (past : Trace) (p : ℕ) (line : Line) (n : ℕ) → is_ace plan.header p ≡ true → IsSending past p line n 0 → Follow plan past p (data_burst p line)
data-follow plan past p line n ace s0 =
    let h = plan.header in
    let s1 = sending-on h past p line n 0 (omega arith) ace s0 in
    let past1 = Cd p false (word_of line 0) ∷ past in
    let s2 = sending-on h past1 p line n 1 (omega arith) ace s1 in
    let past2 = Cd p false (word_of line 1) ∷ past1 in
    let s3 = sending-on h past2 p line n 2 (omega arith) ace s2 in
    let past3 = Cd p false (word_of line 2) ∷ past2 in
    let s4 = sending-on h past3 p line n 3 (omega arith) ace s3 in
    record {
      kept =
          and_from _ _ (cd-kept h past p line n 0 (omega arith) ace s0) (and_from _ _ (cd-kept h past1 p line n 1 (omega arith) ace s1)
          (and_from _ _ (cd-kept h past2 p line n 2 (omega arith) ace s2) (and_from _ _ (cd-kept h past3 p line n 3 (omega arith) ace s3) refl)));
      data_sent = (let many = s4.last in let all = s4.beats in all ∙ (omega (arith, many)));
      chosen = (refl, (refl, (refl, (refl, tt))));
    }

-- ---- the burst ---------------------------------------------------------------------------------------

complete-no-line : (k : SnoopKind) → is_complete_snoop k ≡ true → is_line_snoop k ≡ false
complete-no-line snoop.DvmComplete c = refl
complete-no-line k c = cc

module _ (plan : Plan) (past : Trace) (p : ℕ) (accepted : IsAccepted plan.header past) (whole : AreDataSent past p) (a : Asked) (asked : asked_of plan.header past p ≡ Some a)
    (rows : SnoopKind → LineState → Bool → List Row) (r : Row) (fit : IsRowFor rows a r) where
  abbrev h : Header
  h = plan.header

  o : IsOldest h past p a
  o = asked-is h past p a asked

  ace : is_ace h p ≡ true
  ace = snooped-ace h past p (answers past p) o.oldest accepted o.is

  abbrev after : Trace
  after = Cr p r.resp r.next ∷ past

  still-whole : transfers_data r.resp ≡ false → AreDataSent after p
  still-whole none = whole ∙ ap (λ (ls : List Line). 4 * length ls) (sym (sent-without h past p a o ace r.resp r.next fit.row none))

  follow : Follow plan after p (comes_with past p a r.resp)
  follow = by (is_complete_snoop a.kind) (is_line_snoop a.kind) (transfers_data r.resp) refl refl refl
    where
      by : (b c d : Bool) → is_complete_snoop a.kind ≡ b → is_line_snoop a.kind ≡ c → transfers_data r.resp ≡ d
          → Follow plan after p (if b then retirement past p Ok else if c && d then data_burst p (copy_of past p a.addr) else [])
      by true c d complete line sends =
          let quiet = message-row a.kind a.held a.update r.resp r.next (complete-no-line a.kind complete) fit.row in
          record { kept = retirement-kept h after p Ok (and_parts (nat_lt p h.ports) _ ace).0; data_sent = still-whole quiet; chosen = (refl, tt) }
      by false false d complete line sends =
          record { kept = refl; data_sent = still-whole (message-row a.kind a.held a.update r.resp r.next line fit.row); chosen = tt }
      by false true false complete line sends = record { kept = refl; data_sent = still-whole sends; chosen = tt }
      by false true true complete line sends =
          let grown = sent-with h past p a o ace r.resp r.next fit.row sends in
          let copy = copy_of past p a.addr in
          let many = ap length grown ∙ length-append (sent past p) (copy ∷ []) in
          data-follow plan after p copy (length (sent past p)) ace
          (record {
            there = ap (λ (ls : List Line). slice_get ls (length (sent past p))) grown ∙ slice_get-at_end (sent past p) (length (sent past p)) copy refl;
            last = many;
            beats = omega (arith, whole);
          })

  pub answer-is : IsAnswer plan past p (Cr p r.resp r.next ∷ comes_with past p a r.resp)
  answer-is = record {
    may = may-is h past p ∙ ap (λ v. is_some_and v can_answer) asked ∙ fit.can;
    step = answer-step h past p a o ace r.resp r.next fit.row;
    kept = and_from _ _ (cr-kept h past p a o ace r.resp r.next fit.row) follow.kept;
    data_sent = follow.data_sent;
  }

  picked : IsByWord plan.policy rows → answers_well plan past (Cr p r.resp r.next) ≡ true
  picked word =
      let s = o.oldest in
      let resp = r.resp in
      let st = r.next in
      ap (λ v. is_none_or v (picks plan past p resp st)) o.is
      ∙ ap (λ v. is_none_or v (λ k. implies (is_line_snoop k) (is_picked plan.policy k (state_of h past p s.addr) (has_update h past p s.addr) resp st))) o.kind
      ∙ ap (λ held. implies (is_line_snoop a.kind) (is_picked plan.policy a.kind held (has_update h past p s.addr) resp st)) o.held
      ∙ ap (λ u. implies (is_line_snoop a.kind) (is_picked plan.policy a.kind a.held u resp st)) o.update
      ∙ implied (is_line_snoop a.kind) _ (λ line. word a.kind a.held a.update r (fit.picked line))

  pub answer-chosen : IsByWord plan.policy rows → AreChosen plan past (Cr p r.resp r.next ∷ comes_with past p a r.resp)
  answer-chosen word = (and_from _ _ (picked word) refl, follow.chosen)
