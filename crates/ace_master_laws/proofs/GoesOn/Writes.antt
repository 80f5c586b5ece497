-- Writes and silent transitions by which an operation goes on, and what ends it then.
use Rattle.std.proofs.Common.{◌≡◌, ◌<◌, ◌+◌, ℕ, true, false, not, ◌&&◌, ◌||◌, ◌==◌, if◌then◌else◌, [], ◌∷◌, length, slice_get, Some, None, is_some, inl, inr, refl, sym, ap, subst, ◌∙◌, arith}
use Rattle.std.specs.List.{list_any}
use Rattle.ace_codes.specs.declared.kind.AwKind.{AwKind}
use Rattle.ace_codes.specs.declared.state.LineState.TheVariants.{I}
use Rattle.ace_event.specs.declared.event.Channel.TheVariants.{Read}
use Rattle.ace_event.specs.declared.event.Event.{Event}
use Rattle.ace_event.specs.declared.event.Event.TheVariants.{Aw, S}
use Rattle.ace_event.specs.declared.event.Outcome.TheVariants.{Ok}
use Rattle.ace_event.specs.declared.header.Header.{Header}
use Rattle.ace_model.specs.declared.plans.Op.{Op}
use Rattle.ace_model.specs.declared.transactions.Transaction.{Transaction}
use Rattle.ace_model.specs.Transactions.{read_kind, write_kind}
use Rattle.ace_runs.specs.Segments.{segment, acts_made, has_written, is_write_of, silent_moves}
use Rattle.ace_runs.specs.Follows.{FollowsSoFar, acts_well, is_next_act}
use Rattle.ace_master_laws.proofs.Progress.Come.{HasCome, NoneBrought, out-stays}
use Rattle.ace_model.specs.Accepted.{IsAccepted}
use Rattle.ace_master_laws.specs.Orderly.{IsFor, IsUnderWay, brings_line, is_cleared, line_used, wants_way}
use Rattle.ace_tables.specs.States.{is_invalid}
use Rattle.ace_model.specs.States.{state_of}
use Rattle.ace_master_laws.proofs.GoesOn.Asks.{IsGood, issue-keeps, one-good}
use Rattle.ace_master_laws.proofs.GoesOn.Ready.{IsReady, few-issued, none-brought, none-cleared, idle}
use Rattle.ace_model.specs.Plans.{IsRight, Plan}
use Rattle.ace_master_laws.proofs.Progress.Wells.{IsWell, gentle-room, obeys-from}
use Rattle.ace_master_laws.proofs.GoesOn.Issuing.{Issues, issue-gentle}
use Rattle.ace_model.proofs.General.Options.{Some-injective}
use Rattle.ace_model.specs.Trace.{Trace, is_some_and, implies, more}
use Rattle.ace_master_laws.proofs.Answers.Answering.{accepted-one, kept-rest}
use Rattle.ace_runs.specs.Acts.{acts_of, is_act, is_act_write, issues_write}
use Rattle.std.proofs.Math.Bool.{and-false}
use Rattle.std.proofs.lemmas.Bool.{and_from, and_parts, cases_Bool, eq-eqb, lt-ltb, or_left, or_right}
use Rattle.ace_model.proofs.General.Lists.{any-right}
use Rattle.ace_codes.specs.Writes.{aw_code, aw_kind_of, write_place}
use Rattle.ace_runs.proofs.NeverStuck.Operations.Fits.Ends.{can-not-end}
use Rattle.ace_master_laws.proofs.Progress.Endings.{closing-well}
use Rattle.ace_runs.specs.Requests.{domain_for}
use Rattle.ace_master_laws.proofs.Progress.Ended.{ended-come, none-later}
use Rattle.ace_runs.specs.HeldLines.{held_lines, others}
use Rattle.ace_codes.specs.Places.{is_at}
use Rattle.ace_model.specs.Messages.{is_dvm_completion}
use Rattle.ace_model.specs.Kinds.{is_no_snoop_write, is_update}
use Rattle.ace_runs.specs.Lean.{is_on_named_line, is_one_of_three}
use Rattle.ace_runs.specs.Retiring.{may_retire}
use Rattle.ace_runs.specs.Operations.{next_operation}
use Rattle.ace_master_laws.proofs.Lines.HeldLines.{others-not-more}
use Rattle.ace_model.proofs.Trace.Issued.{outstanding-origin}
use Rattle.ace_master_laws.proofs.Lines.Gentle.{settled-stays, gentle}
use Rattle.ace_model.specs.Progress.{updates_memory}
use Rattle.ace_model.proofs.Trace.Outstanding.{write_issued}
use Rattle.ace_runs.specs.Bursts.{onto}

module _ (plan : Plan) (past : Trace) (p : ℕ) (o : Op) (right : IsRight plan) (a : IsAccepted plan.header past) (f : FollowsSoFar plan past) (c : HasCome plan past p) (r : IsReady plan past p o) where
  abbrev h : Header
  h = plan.header

  -- What makes that a write keeps on.
  pub record WriteAsk (k : AwKind) (l : ℕ) : Type 0 where
    pub known : aw_kind_of (aw_code k) (domain_for (is_no_snoop_write k)) 0 ≡ Some k
    pub at : is_at (write_place k) (aw_code k) (domain_for (is_no_snoop_write k)) 0 ≡ true
    pub act : is_act_write k ≡ true → slice_get (acts_of o) 0 ≡ Some (issues_write k l)
    pub line : (x : Transaction) → read_kind x ≡ None → write_kind x ≡ Some k → x.addr ≡ l → is_on_named_line plan x ≡ true

  module _ (k : AwKind) (l : ℕ) (q : WriteAsk k l) (i : ℕ) where
    abbrev aw : Event
    aw = Aw p i l (aw_code k) (domain_for (is_no_snoop_write k)) 0

    abbrev wr : Transaction
    wr = write_issued past p i l (aw_code k) (domain_for (is_no_snoop_write k)) 0

    write-acts : acts_well plan past aw ≡ true
    write-acts =
        elim (cases_Bool (is_act_write k)) [
          | inr none ↦
              let off : is_act aw ≡ false = ap (λ v. is_some_and v is_act_write) q.known ∙ none in
              ap (λ b. implies b (is_next_act plan past aw p)) off
          | inl t ↦
              or_right (not (is_act aw)) (is_next_act plan past aw p)
              (ap (λ n. is_some_and n (λ op. is_some_and (slice_get (acts_of op) (acts_made past p)) (λ fits. fits aw))) r.next
              ∙ ap (λ n. is_some_and (slice_get (acts_of o) n) (λ fits. fits aw)) r.made ∙ ap (λ v. is_some_and v (λ fits. fits aw)) (q.act t)
              ∙ and_from _ _ q.at (eq-eqb l l refl))
        ]

    write-well : IsAccepted h (aw ∷ past) → IsWell plan past aw
    write-well now =
        let few = few-issued plan past p o right a f c r in
        record {
          obeying = obeys-from plan past aw refl write-acts refl refl (gentle-room plan past p aw f refl (issue-gentle h past p (length past) aw wr now refl).raises);
          lean =
              let some : is_some (next_operation plan past p) ≡ true = ap is_some r.next in
              let one : is_one_of_three plan past wr ≡ true = or_right (not (not (is_dvm_completion wr))) _ (and_from _ _ some (lt-ltb (length (segment past p)) 3 (omega (arith, few)))) in
              and_from _ _ (and_from _ _ one (q.line wr refl q.known refl)) refl;
        }

    write-issues : ((x : Transaction) → write_kind x ≡ Some k → x.addr ≡ l → IsFor o x) → (is_update k ≡ true → is_cleared plan.ways h past p o ≡ false)
        → (is_update k ≡ true → wants_way o ≡ true → length (others l (held_lines h past p)) < plan.ways)
        → (is_update k ≡ true → (m : ℕ) → line_used o ≡ Some m → is_invalid (state_of h past p m) ≡ true) → IsAccepted h (aw ∷ past) → Issues plan past p o aw wr
    write-issues for first way gone now =
        record {
          accepted = now;
          new = refl;
          port = refl;
          own = refl;
          wanted = for wr q.known refl;
          updates = λ t. (none-cleared plan past p o right a f c r (first (ap (λ v. is_some_and v is_update) (sym q.known) ∙ t))).0;
          owners = λ t. cc;
          way = λ t. let parts = and_parts (wants_way o) (brings_line wr || updates_memory wr) t in way (ap (λ v. is_some_and v is_update) (sym q.known) ∙ parts.1) parts.0;
          absent = λ t m used. gone (ap (λ v. is_some_and v is_update) (sym q.known) ∙ t) m used;
          brought = λ n y there b. idle plan past p o right a f c r n y there;
          cleared = λ n y there b. idle plan past p o right a f c r n y there;
        }

    -- a write that the operation asks for
    pub write-good : ((x : Transaction) → write_kind x ≡ Some k → x.addr ≡ l → IsFor o x) → (is_update k ≡ true → is_cleared plan.ways h past p o ≡ false)
        → (is_update k ≡ true → wants_way o ≡ true → length (others l (held_lines h past p)) < plan.ways)
        → (is_update k ≡ true → (m : ℕ) → line_used o ≡ Some m → is_invalid (state_of h past p m) ≡ true) → IsGood plan past p o right a f c r (aw ∷ [])
    write-good for first way gone =
        one-good plan past p o right a f c r aw refl
        (λ rest kept same. issue-keeps plan past p o right a f c r aw wr (λ now. (write-issues for first way gone now, write-well now)) (inl refl) rest kept same)

    none-written : NoneBrought h (aw ∷ past) p
    none-written i2 y out b =
        elim (outstanding-origin h past aw p Read i2 y out) [
          | inl new ↦
              let same : wr ≡ y = Some-injective wr y new.0 in
              let bad : false ≡ true = ap brings_line same ∙ b in cc
          | inr old ↦ none-brought plan past p o right a f c r i2 y old.was b
        ]

    -- one that ends it
    pub last-good : may_retire h (aw ∷ past) p o Ok ≡ true → IsGood plan past p o right a f c r (aw ∷ [])
    last-good may =
        one-good plan past p o right a f c r aw refl
        (λ rest kept same.
        let now = accepted-one plan past aw rest a kept in
        let w = write-well now in
        record {
          well = (w, closing-well plan (aw ∷ past) p o (f, w.obeying) r.next rest now same (kept-rest h past aw rest kept));
          come = elim (ended-come plan (aw ∷ past) p o rest same none-written) [
            | inr done ↦ done
            | inl none ↦ let stays = (can-not-end h (aw ∷ past) p o none.0).not_ok in let bad : false ≡ true = sym stays ∙ may in cc
          ];
        })

    -- the write is in the segment then
    pub written-now : has_written (aw ∷ past) p k l ≡ true
    written-now =
        ap (λ b. list_any (is_write_of k l) (more (segment past p) (if b then Some wr else None))) (and_from _ _ (eq-eqb p p refl) refl)
        ∙ any-right (is_write_of k l) (segment past p) (wr ∷ []) (or_left (is_write_of k l wr) false (and_from _ _ q.at (eq-eqb l l refl)))

    pub unacted : is_act_write k ≡ false → acts_made (aw ∷ past) p ≡ 0
    unacted none =
        ap (λ b. if (p == p) && b then acts_made past p + 1 else acts_made past p) (ap (λ v. is_some_and v is_act_write) q.known ∙ none)
        ∙ ap (λ b. if b then acts_made past p + 1 else acts_made past p) (and-false (p == p)) ∙ r.made

  -- ---- silent transitions ----------------------------------------------------------------------------

  module _ (v : ℕ) (not_yet : is_cleared plan.ways h past p o ≡ false) where
    abbrev drops : Event
    drops = S p v I

    drop-well : IsAccepted h (drops ∷ past) → IsWell plan past drops
    drop-well now =
        let zero_moves = (none-cleared plan past p o right a f c r not_yet).1 in
        record {
          obeying = obeys-from plan past drops refl refl refl refl (gentle-room plan past p drops f refl (gentle h past p drops now refl tt).raises);
          lean = and_from _ _ (ap is_some r.next) (lt-ltb (silent_moves past p) 2 (omega (arith, zero_moves)));
        }

    drop-come : IsAccepted h (drops ∷ past) → is_cleared plan.ways h (drops ∷ past) p o ≡ true → HasCome plan (drops ∷ past) p
    drop-come now done =
        let g = gentle h past p drops now refl tt in
        let u = c.under_way o r.next in
        let zero_moves = (none-cleared plan past p o right a f c r not_yet).1 in
        record {
          brought = λ i y out b. c.brought i y out b;
          under_way = λ op is.
              let same : o ≡ op = Some-injective o op (sym r.next ∙ is) in
              subst (IsUnderWay plan (drops ∷ past) p) same
              (record {
                asked = u.asked;
                settled = λ k y there out. settled-stays h past p drops g plan.ways o y (u.settled k y there (sym (out-stays h past p drops now k y there refl) ∙ out));
                silent = inr (ap (λ b. if b then silent_moves past p + 1 else silent_moves past p) (eq-eqb p p refl) ∙ ap (λ n. n + 1) zero_moves, done);
                one_update = u.one_update;
                one_owner = u.one_owner;
                room = λ k y there out takes.
                    let low = u.room k y there (sym (out-stays h past p drops now k y there refl) ∙ out) takes in
                    let few = others-not-more h past drops p y.addr (λ l apart inv. g.raises l inv) in omega (arith, low, few);
                apart = λ j k x y at_x at_y b m out.
                    out-stays h past p drops now k y at_y refl ∙ u.apart j k x y at_x at_y b m (sym (out-stays h past p drops now j x at_x refl) ∙ out);
                absent = λ k y there out m l used. g.raises l (u.absent k y there (sym (out-stays h past p drops now k y there refl) ∙ out) m l used);
              });
        }

    -- a line given up
    pub drop-good : (IsAccepted h (drops ∷ past) → is_cleared plan.ways h (drops ∷ past) p o ≡ true) → IsGood plan past p o right a f c r (drops ∷ [])
    drop-good done =
        one-good plan past p o right a f c r drops refl
        (λ rest kept same.
        let now = accepted-one plan past drops rest a kept in
        let w = drop-well now in
        let come = drop-come now (done now) in
        record {
          well = (w, closing-well plan (drops ∷ past) p o (f, w.obeying) r.next rest now same (kept-rest h past drops rest kept));
          come = elim (ended-come plan (drops ∷ past) p o rest same (none-later h past p drops refl (none-brought plan past p o right a f c r))) [
            | inr ended_now ↦ ended_now
            | inl none ↦ subst (λ l. HasCome plan (onto l (drops ∷ past)) p) (sym none.1) come
          ];
        })
