-- What a port asks for by one event, and what ends its operation then.
use Rattle.std.proofs.Common.{◌≡◌, ◌⊎◌, ◌+◌, ℕ, Bool, true, false, not, ◌&&◌, ◌==◌, if◌then◌else◌, List, [], ◌∷◌, length, slice_get, zero, suc, Some, inl, inr, refl, sym, ap, subst, ◌∙◌, arith, None, ◌||◌, ◌<◌}
use Rattle.std.specs.List.{list_any}
use Rattle.ace_codes.specs.declared.kind.ArKind.{ArKind}
use Rattle.ace_event.specs.declared.event.Channel.TheVariants.{Read}
use Rattle.ace_event.specs.declared.event.Event.{Event}
use Rattle.ace_event.specs.declared.event.Event.TheVariants.{Ar}
use Rattle.ace_event.specs.declared.event.Outcome.{Outcome}
use Rattle.ace_event.specs.declared.event.Outcome.TheVariants.{Ok, Skip, Fail}
use Rattle.ace_event.specs.declared.header.Header.{Header}
use Rattle.ace_model.specs.declared.plans.Op.{Op}
use Rattle.ace_model.specs.declared.plans.Op.TheVariants as op
use Rattle.ace_model.specs.declared.plans.PlanOp.{PlanOp}
use Rattle.ace_model.specs.declared.transactions.Transaction.{Transaction}
use Rattle.ace_model.specs.Transactions.{is_line, is_on, is_outstanding, is_read, read_kind}
use Rattle.ace_runs.specs.Segments.{acts_made, is_read_of, segment}
use Rattle.ace_master_laws.proofs.Progress.Endings.{by_access, by_op, not_now, Ending, access-acts-done, closing-well, access-met, ending}
use Rattle.ace_runs.specs.Follows.{FollowsSoFar, acts_well, is_next_act}
use Rattle.ace_master_laws.proofs.Progress.Come.{HasCome, NoneBrought, brings-no-act}
use Rattle.ace_model.specs.Accepted.{IsAccepted}
use Rattle.ace_runs.proofs.NeverStuck.Operations.Lines.OfPlan.{IsPlanned, any-at, next-planned}
use Rattle.ace_master_laws.proofs.GoesOn.Ready.{IsReady, none-brought, few-issued, none-owned, settled-as, idle}
use Rattle.ace_model.specs.Plans.{IsRight, Plan, line_named, wants_no_snoop}
use Rattle.ace_master_laws.proofs.Progress.Wells.{IsWell}
use Rattle.ace_master_laws.proofs.GoesOn.Issuing.{Issues, issue-come, issue-next, issue-at, issue-segment, issue-well}
use Rattle.ace_master_laws.proofs.Answers.Answering.{KeepsOn, accepted-one, kept-rest}
use Rattle.ace_model.proofs.General.Options.{Some-injective}
use Rattle.ace_model.specs.Trace.{Trace, is_some_and, implies}
use Rattle.ace_runs.specs.Closing.{access_and_retirement, and_closing, closing_of, gives_access, state_named, access_of}
use Rattle.ace_runs.specs.Acts.{acts_of, is_act, is_act_read, issues_read}
use Rattle.ace_runs.proofs.NeverStuck.Operations.Kept.ClosingKept.{an-access-of, has_access}
use Rattle.std.proofs.Math.Bool.{and-false}
use Rattle.std.proofs.lemmas.Bool.{and_from, and_parts, eq-eqb, eqb-true, false_from_ne_true, or_left, or_right, cases_Bool, not-true, or_cases}
use Rattle.ace_codes.specs.Reads.{ar_code, ar_kind_of, read_place}
use Rattle.ace_runs.specs.Bursts.{are_kept, onto}
use Rattle.ace_master_laws.specs.Orderly.{brings_line, read_wanted, IsFor, has_lost, takes_line, wants_way}
use Rattle.ace_runs.specs.Requests.{domain_for}
use Rattle.ace_master_laws.proofs.Progress.Ended.{ended-come}
use Rattle.ace_runs.proofs.NeverStuck.Steps.SameEvents.{equal-event, is_lineless, same_test-self}
use Rattle.ace_runs.specs.Retiring.{is_met, may_retire, has_read, may_skip}
use Rattle.ace_model.specs.AddressRules.{is_no_snoop}
use Rattle.ace_model.specs.Kinds.{is_no_snoop_read, is_clean_unique, is_dvm_complete, is_line_read, is_update}
use Rattle.ace_runs.specs.Lean.{is_on_named_line}
use Rattle.ace_runs.specs.Operations.{next_operation, names}
use Rattle.ace_model.proofs.Trace.Issued.{outstanding-origin}
use Rattle.ace_model.proofs.Trace.Outstanding.{read_issued}
use Rattle.ace_runs.specs.SameEvents.{same_burst, same_event}
use Rattle.ace_tables.specs.Answers.{same_test}
use Rattle.ace_model.proofs.General.Lists.{any-right}
use Rattle.ace_codes.specs.Writes.{aw_kind_of}
use Rattle.ace_master_laws.proofs.Acknowledges.Due.{brings-on-line}
use Rattle.ace_runs.specs.HeldLines.{held_lines, others}
use Rattle.ace_codes.specs.Places.{is_at}
use Rattle.ace_tables.specs.States.{is_invalid}
use Rattle.ace_master_laws.proofs.Acknowledges.Acknowledging.{on-line}
use Rattle.ace_model.proofs.Outstanding.Steps.{outstanding_new_one}
use Rattle.ace_model.specs.States.{state_of}
use Rattle.ace_model.specs.Progress.{updates_memory}
use Rattle.ace_master_laws.proofs.Acknowledges.Settling.{wanted-taken}

-- ---- lines of the plan -------------------------------------------------------------------------------

any-of : (test : PlanOp → Bool) (xs : List PlanOp) (k : ℕ) (y : PlanOp) → slice_get xs k ≡ Some y → test y ≡ true → list_any test xs ≡ true
any-of test [] k y there t = cc
any-of test (x ∷ xs) zero y there t = or_left (test x) _ (ap test (Some-injective x y there) ∙ t)
any-of test (x ∷ xs) (suc k) y there t = or_right (test x) _ (any-of test xs k y there t)

-- the line of the operation is one that the plan names
pub own-named : (plan : Plan) (p a : ℕ) (o : Op) (x : Transaction) → IsPlanned plan p o → line_named o ≡ Some a → x.addr ≡ a → is_no_snoop x ≡ wants_no_snoop o → is_on_named_line plan x ≡ true
own-named plan p a o x planned line addr class =
    or_right (not (is_line x)) _
    (any-of (λ v. names x.addr v && same_test (is_no_snoop x) (wants_no_snoop v.op)) plan.operations planned.place planned.planned planned.there
    (and_from _ _ (ap (λ v. is_some_and v (λ b. b == x.addr)) (ap line_named planned.is ∙ line) ∙ eq-eqb a x.addr (sym addr))
    (ap (λ v. same_test (is_no_snoop x) (wants_no_snoop v)) planned.is ∙ ap (λ b. same_test b (wants_no_snoop o)) class ∙ same_test-self (wants_no_snoop o))))

module _ (plan : Plan) (past : Trace) (p : ℕ) (o : Op) (right : IsRight plan) (a : IsAccepted plan.header past) (f : FollowsSoFar plan past) (c : HasCome plan past p) (r : IsReady plan past p o) where
  abbrev h : Header
  h = plan.header

  -- The burst asked for, with what ends the operation then, keeps on.
  abbrev pub IsGood : List Event → Type 0
  IsGood asked = (burst : List Event) → are_kept h past burst ≡ true → same_burst (and_closing h past p o asked) burst ≡ true → KeepsOn plan past p burst

  pub one-good : (e : Event) → is_lineless e ≡ true
      → ((rest : List Event) → are_kept h past (e ∷ rest) ≡ true → same_burst (closing_of h (e ∷ past) p o) rest ≡ true → KeepsOn plan past p (e ∷ rest)) → IsGood (e ∷ [])
  one-good e plain keeps [] kept same = cc
  one-good e plain keeps (d ∷ rest) kept same =
      let parts = and_parts (same_event e d) (same_burst (closing_of h (e ∷ past) p o) rest) same in
      let one : e ≡ d = equal-event e d parts.0 plain in
      subst (λ v. KeepsOn plan past p (v ∷ rest)) one (keeps rest (ap (λ v. are_kept h past (v ∷ rest)) one ∙ kept) parts.1)

  -- a transaction that the operation asks for
  pub issue-keeps : (e : Event) (x : Transaction) → (IsAccepted h (e ∷ past) → Issues plan past p o e x × IsWell plan past e)
      → (brings_line x ≡ false) ⊎ (IsAccepted h (e ∷ past) → closing_of h (e ∷ past) p o ≡ []) → (rest : List Event) → are_kept h past (e ∷ rest) ≡ true
      → same_burst (closing_of h (e ∷ past) p o) rest ≡ true → KeepsOn plan past p (e ∷ rest)
  issue-keeps e x does ends rest kept same =
      let now = accepted-one plan past e rest a kept in
      let s = (does now).0 in
      let w = (does now).1 in
      let later : next_operation plan (e ∷ past) p ≡ Some o = issue-next plan past p o e x r.next s c ∙ r.next in
      let come = issue-come plan past p o e x r.next s c in
      let all = closing-well plan (e ∷ past) p o (f, w.obeying) later rest now same (kept-rest h past e rest kept) in
      record {
        well = (w, all);
        come = elim ends [
          | inr empty ↦ subst (λ l. HasCome plan (onto l (e ∷ past)) p) (nothing-left rest (ap (λ l. same_burst l rest) (sym (empty now)) ∙ same)) come
          | inl no_line ↦ elim (ended-come plan (e ∷ past) p o rest same (none-with now s no_line)) [
            | inr done ↦ done
            | inl none ↦ subst (λ l. HasCome plan (onto l (e ∷ past)) p) (sym none.1) come
          ]
        ];
      }
    where
      nothing-left : (l : List Event) → same_burst [] l ≡ true → [] ≡ l
      nothing-left [] s = refl
      nothing-left (d ∷ l) s = cc

      none-with : IsAccepted h (e ∷ past) → Issues plan past p o e x → brings_line x ≡ false → NoneBrought h (e ∷ past) p
      none-with now s no_line i y out b =
          elim (outstanding-origin h past e p Read i y out) [
            | inl new ↦
                let same : x ≡ y = Some-injective x y (sym s.new ∙ new.0) in
                let bad : false ≡ true = sym no_line ∙ ap brings_line same ∙ b in cc
            | inr old ↦ none-brought plan past p o right a f c r i y old.was b
          ]

  -- ---- a read that brings a line in ------------------------------------------------------------------

  pub access-waits : has_access o ≡ true → gives_access o (state_named h past p o) ≡ false
  access-waits some =
      false_from_ne_true (gives_access o (state_named h past p o)) (λ access.
      let e = an-access-of past p o some in
      let empty : access_and_retirement past p (Some e.0) ≡ [] = ap (access_and_retirement past p) (sym e.1) ∙ r.stays.no_access access in cc)

  -- nothing ends the operation then
  module _ (j : ArKind) (l i : ℕ) (lock : Bool) (wanted : read_wanted o ≡ Some (j, l)) where
    abbrev asks : Event
    asks = Ar p i l (ar_code j) (domain_for (is_no_snoop_read j)) 0 lock

    abbrev asked : Transaction
    asked = read_issued past p i l (ar_code j) (domain_for (is_no_snoop_read j)) 0 lock

    module _ (s : Issues plan past p o asks asked) (brings_it : brings_line asked ≡ true) where
      unmade : acts_made (asks ∷ past) p ≡ 0
      unmade =
          ap (λ b. if p == p && b then acts_made past p + 1 else acts_made past p) (brings-no-act asked brings_it) ∙ ap (λ b. if b then acts_made past p + 1 else acts_made past p) (and-false (p == p)) ∙ r.made

      access-none : has_access o ≡ true → closing_of h (asks ∷ past) p o ≡ []
      access-none some = by (ending h (asks ∷ past) p o)
        where
          no-ok : may_retire h (asks ∷ past) p o Ok ≡ true → ⊥
          no-ok may =
              let one = (access-met h past p o some (access-acts-done plan past p o f r.next some)).0 in
              let made = eqb-true (acts_made (asks ∷ past) p) (length (acts_of o)) (and_parts (acts_made (asks ∷ past) p == length (acts_of o)) (is_met h (asks ∷ past) p o) may).0 in
              let none = unmade in absurd (omega (arith, one, made, none))

          no-other-end : (v : Op) (k : ArKind) (n : ℕ) (res : Outcome) → read_wanted v ≡ Some (k, n) → has_access v ≡ true → may_retire h (asks ∷ past) p v res ≡ true → (res ≡ Ok)
          no-other-end v k n Ok w t may = refl
          no-other-end (op.Ld b m) k n Skip w t may = let bad = (and_parts (acts_made (asks ∷ past) p == 0) false may).1 in cc
          no-other-end (op.Ldx b m) k n Skip w t may = let bad = (and_parts (acts_made (asks ∷ past) p == 0) false may).1 in cc
          no-other-end (op.St b m word) k n Skip w t may = let bad = (and_parts (acts_made (asks ∷ past) p == 0) false may).1 in cc
          no-other-end (op.Fill b line) k n Skip w t may = let bad = (and_parts (acts_made (asks ∷ past) p == 0) false may).1 in cc
          no-other-end (op.Ld b m) k n Fail w t may = let bad = (and_parts (acts_made (asks ∷ past) p == 0) false may).1 in cc
          no-other-end (op.Ldx b m) k n Fail w t may = let bad = (and_parts (acts_made (asks ∷ past) p == 0) false may).1 in cc
          no-other-end (op.St b m word) k n Fail w t may = let bad = (and_parts (acts_made (asks ∷ past) p == 0) false may).1 in cc
          no-other-end (op.Fill b line) k n Fail w t may = let bad = (and_parts (acts_made (asks ∷ past) p == 0) false may).1 in cc
          no-other-end v k n res w t may = cc

          by : Ending h (asks ∷ past) p o → closing_of h (asks ∷ past) p o ≡ []
          by (not_now is) = is
          by (by_op res may is) = absurd (no-ok (subst (λ v. may_retire h (asks ∷ past) p o v ≡ true) (no-other-end o j l res wanted some may) may))
          by (by_access e is none access cl) = let waits = access-waits some in let bad : false ≡ true = sym waits ∙ access in cc

      -- a read ahead
      module _ (ahead : o ≡ op.Pf l j) where
        write-no-read : (y : Transaction) → updates_memory y ≡ true → is_read y.chan ≡ true → ⊥
        write-no-read y updates reads =
            let bad : false ≡ true = sym (ap (λ b. is_some_and (if b then None else aw_kind_of y.snoop y.dom y.bar) is_update) reads) ∙ updates in cc

        no-fetch : list_any (λ y. is_read_of j l y && not (is_outstanding h (asks ∷ past) y)) (segment (asks ∷ past) p) ≡ true → ⊥
        no-fetch some =
            let y = any-at (λ y. is_read_of j l y && not (is_outstanding h (asks ∷ past) y)) (segment (asks ∷ past) p) some in
            let parts = and_parts (is_read_of j l y.1) (not (is_outstanding h (asks ∷ past) y.1)) y.3 in
            let reads = (and_parts (is_read y.1.chan) (is_at (read_place j) y.1.snoop y.1.dom y.1.bar) (and_parts (is_read y.1.chan && is_at (read_place j) y.1.snoop y.1.dom y.1.bar) (y.1.addr == l) parts.0).0).0 in
            elim (issue-at plan past p o asks asked r.next s c y.0 y.1 y.2) [
              | inr same ↦
                  let out = outstanding_new_one h past asks asked refl in
                  let over = not-true (is_outstanding h (asks ∷ past) y.1) parts.1 in
                  let bad : true ≡ false = sym out ∙ ap (is_outstanding h (asks ∷ past)) same ∙ over in cc
              | inl old ↦ elim (settled-as plan past p o right a f c r y.0 y.1 old) [
                | inl m ↦ write-no-read y.1 m.0 reads
                | inr m ↦ let bad : false ≡ true = ap (has_lost h past p) (sym ahead) ∙ m.1 in cc
              ]
            ]

        reads-now : has_read (asks ∷ past) p l ≡ true
        reads-now =
            let seg = issue-segment plan past p o asks asked r.next s c in
            let line = brings-on-line asked brings_it in
            ap (list_any (λ x. is_read x.chan && is_on x l)) seg
            ∙ any-right (λ x. is_read x.chan && is_on x l) (segment past p) (asked ∷ []) (or_left (is_on asked l) false (on-line asked l line refl))

        ahead-none : closing_of h (asks ∷ past) p o ≡ []
        ahead-none = by (ending h (asks ∷ past) p o)
          where
            no-end : (res : Outcome) → may_retire h (asks ∷ past) p (op.Pf l j) res ≡ true → ⊥
            no-end Ok may = no-fetch (and_parts (acts_made (asks ∷ past) p == 0) _ may).1
            no-end Skip may =
                let skips = (and_parts (acts_made (asks ∷ past) p == 0) (may_skip h (asks ∷ past) p (op.Pf l j)) may).1 in
                let none = (and_parts (not (is_invalid (state_of h (asks ∷ past) p l))) (not (has_read (asks ∷ past) p l)) skips).1 in
                let reads = reads-now in
                let bad : false ≡ true = ap not (sym reads) ∙ none in cc
            no-end Fail may = let bad = (and_parts (acts_made (asks ∷ past) p == 0) false may).1 in cc

            by : Ending h (asks ∷ past) p o → closing_of h (asks ∷ past) p o ≡ []
            by (not_now is) = is
            by (by_op res may is) = absurd (no-end res (ap (λ v. may_retire h (asks ∷ past) p v res) (sym ahead) ∙ may))
            by (by_access e is none access cl) = let bad : None ≡ Some e = ap (access_of (asks ∷ past) p) (sym ahead) ∙ is in cc

  -- ---- reads -----------------------------------------------------------------------------------------

  -- What makes that a read keeps on.
  pub record ReadAsk (k : ArKind) (l : ℕ) (lock : Bool) : Type 0 where
    pub known : ar_kind_of (ar_code k) (domain_for (is_no_snoop_read k)) 0 ≡ Some k
    pub at : is_at (read_place k) (ar_code k) (domain_for (is_no_snoop_read k)) 0 ≡ true
    pub no_completion : is_dvm_complete k ≡ false
    pub wanted : (x : Transaction) → read_kind x ≡ Some k → x.addr ≡ l → x.lock ≡ lock → is_read_of k l x ≡ true → IsFor o x
    pub owner : is_clean_unique k ≡ true → has_lost h past p o ≡ false
    pub way : takes_line k ≡ true → length (others l (held_lines h past p)) < plan.ways
    pub act : is_act_read k ≡ true → slice_get (acts_of o) 0 ≡ Some (issues_read k l)
    pub line : is_line_read k ≡ true → (line_named o ≡ Some l) × (is_no_snoop_read k ≡ wants_no_snoop o)
    pub ends : (takes_line k ≡ false) ⊎ ((read_wanted o ≡ Some (k, l)) × ((has_access o ≡ true) ⊎ (o ≡ op.Pf l k)))

  module _ (k : ArKind) (l : ℕ) (lock : Bool) (q : ReadAsk k l lock) (i : ℕ) where
    abbrev ar : Event
    ar = Ar p i l (ar_code k) (domain_for (is_no_snoop_read k)) 0 lock

    abbrev rd : Transaction
    rd = read_issued past p i l (ar_code k) (domain_for (is_no_snoop_read k)) 0 lock

    of-kind : is_read_of k l rd ≡ true
    of-kind = and_from _ _ q.at (eq-eqb l l refl)

    read-issues : IsAccepted h (ar ∷ past) → Issues plan past p o ar rd
    read-issues now =
        record {
          accepted = now;
          new = refl;
          port = refl;
          own = ap (λ v. is_some_and v is_dvm_complete) q.known ∙ q.no_completion;
          wanted = q.wanted rd q.known refl refl of-kind;
          updates = λ t. cc;
          owners = λ t. none-owned plan past p o right a f c r (q.owner (ap (λ v. is_some_and v is_clean_unique) (sym q.known) ∙ t));
          way = λ t. q.way (elim (or_cases (brings_line rd) (updates_memory rd) (and_parts (wants_way o) (brings_line rd || updates_memory rd) t).1) [
            | inl b ↦ ap (λ v. is_some_and v takes_line) (sym q.known) ∙ b
            | inr m ↦ cc
          ]);
          absent = λ t m used. cc;
          brought = λ n y there b. idle plan past p o right a f c r n y there;
          cleared = λ n y there b. idle plan past p o right a f c r n y there;
        }

    read-acts : acts_well plan past ar ≡ true
    read-acts =
        elim (cases_Bool (is_act_read k)) [
          | inr f ↦
              let none : is_act ar ≡ false = ap (λ v. is_some_and v is_act_read || false) q.known ∙ ap (λ b. b || false) f in
              ap (λ b. implies b (is_next_act plan past ar p)) none
          | inl t ↦
              or_right (not (is_act ar)) (is_next_act plan past ar p)
              (ap (λ n. is_some_and n (λ op. is_some_and (slice_get (acts_of op) (acts_made past p)) (λ fits. fits ar))) r.next
              ∙ ap (λ n. is_some_and (slice_get (acts_of o) n) (λ fits. fits ar)) r.made ∙ ap (λ v. is_some_and v (λ fits. fits ar)) (q.act t)
              ∙ and_from _ _ q.at (eq-eqb l l refl))
        ]

    read-named : is_on_named_line plan rd ≡ true
    read-named =
        elim (cases_Bool (is_line_read k)) [
          | inr f ↦
              let off : is_line rd ≡ false = ap (λ v. is_some_and v is_line_read || false) q.known ∙ ap (λ b. b || false) f in
              or_left (not (is_line rd)) _ (ap not off)
          | inl t ↦
              let line = q.line t in
              let class : is_no_snoop rd ≡ wants_no_snoop o = ap (λ v. is_some_and v is_no_snoop_read || false) q.known ∙ or-none (is_no_snoop_read k) ∙ line.1 in
              own-named plan p l o rd (next-planned plan past p o right r.next) line.0 refl class
        ]
      where
        or-none : (b : Bool) → (b || false) ≡ b
        or-none true = refl
        or-none false = refl

    read-well : IsAccepted h (ar ∷ past) → IsWell plan past ar
    read-well now =
        let few = few-issued plan past p o right a f c r in
        issue-well plan past p o ar rd r.next (read-issues now) c f refl read-acts (omega (arith, few)) read-named refl refl refl refl

    pub read-good : IsGood (ar ∷ [])
    read-good =
        one-good ar refl (λ rest kept same.
        issue-keeps ar rd (λ now. (read-issues now, read-well now)) (elim q.ends [
          | inl no_line ↦ inl (ap (λ v. is_some_and v takes_line) q.known ∙ no_line)
          | inr w ↦ inr (λ now. elim (cases_Bool (brings_line rd)) [
            | inl b ↦ elim w.1 [
              | inl access ↦ access-none k l i lock w.0 (read-issues now) b access
              | inr ahead ↦ ahead-none k l i lock w.0 (read-issues now) b ahead
            ]
            | inr f ↦ let t = wanted-taken o k l w.0 (next-planned plan past p o right r.next).fields in let bad : false ≡ true = sym f ∙ ap (λ v. is_some_and v takes_line) q.known ∙ t in cc
          ])
        ]) rest kept same)
