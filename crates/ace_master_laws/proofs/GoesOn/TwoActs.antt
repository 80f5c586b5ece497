-- Barriers and DVM messages of two parts keep a run legal.
use Rattle.std.proofs.Common.{◌≡◌, ◌⊎◌, ◌≤◌, ◌+◌, ℕ, true, false, if◌then◌else◌, [], ◌∷◌, ◌++◌, length, map, slice_get, Option, Some, None, inl, inr, refl, sym, ap, subst, ◌∙◌, flat_map}
use Rattle.std.specs.Option.{option_to_list}
use Rattle.ace_codes.specs.Reads.{ar_code, ar_kind_of}
use Rattle.ace_codes.specs.Writes.{aw_code, aw_kind_of}
use Rattle.ace_codes.specs.declared.kind.ArKind.TheVariants as read
use Rattle.ace_codes.specs.declared.kind.AwKind.TheVariants as write
use Rattle.ace_event.specs.declared.event.Channel.TheVariants.{Read}
use Rattle.ace_event.specs.declared.event.Event.{Event}
use Rattle.ace_event.specs.declared.event.Event.TheVariants.{Ar, Aw}
use Rattle.ace_event.specs.declared.header.Header.{Header}
use Rattle.ace_model.specs.declared.plans.Op.{Op}
use Rattle.ace_model.specs.declared.plans.Op.TheVariants as op
use Rattle.ace_runs.specs.Segments.{segment, acts_made}
use Rattle.ace_master_laws.proofs.GoesOn.Requests.{EachGood, few-none, good-each}
use Rattle.ace_runs.specs.Follows.{FollowsSoFar, is_next_act}
use Rattle.ace_master_laws.proofs.Progress.Come.{HasCome}
use Rattle.ace_model.specs.Accepted.{IsAccepted}
use Rattle.ace_master_laws.proofs.GoesOn.Pairs.{IsAct, both-good}
use Rattle.ace_runs.specs.Lean.{IsLean}
use Rattle.ace_master_laws.proofs.GoesOn.Ready.{IsReady}
use Rattle.ace_model.specs.Plans.{IsRight, Plan}
use Rattle.ace_model.specs.Trace.{Trace, is_some_and}
use Rattle.ace_runs.specs.Acts.{acts_of}
use Rattle.std.proofs.lemmas.Bool.{and_from, eq-eqb}
use Rattle.ace_runs.specs.Requests.{and_part, barrier_bursts, barrier_halves, bursts_of, free_on, free_on_both, message_bursts, request_of}
use Rattle.ace_master_laws.specs.Orderly.{has_lost, is_cleared}
use Rattle.ace_runs.proofs.NeverStuck.Phases.OneOfTwo.{has_two_acts}
use Rattle.ace_runs.specs.Operations.{next_operation}
use Rattle.ace_model.proofs.Trace.Outstanding.{read_issued, write_issued}
use Rattle.ace_runs.specs.Closing.{state_named}

module _ (plan : Plan) (past : Trace) (p : ℕ) (o : Op) (right : IsRight plan) (a : IsAccepted plan.header past) (f : FollowsSoFar plan past) (l : IsLean plan past) (c : HasCome plan past p) (r : IsReady plan past p o) where
  abbrev h : Header
  h = plan.header

  abbrev Turned : Trace → ℕ → Event → Type 0
  Turned t n e = is_some_and (slice_get (acts_of o) n) (λ fits. fits e) ≡ true

  turn-now : (t : Trace) (n : ℕ) (e : Event) → next_operation plan t p ≡ Some o → acts_made t p ≡ n → Turned t n e → is_next_act plan t e p ≡ true
  turn-now t n e next made fits =
      ap (λ v. is_some_and v (λ op. is_some_and (slice_get (acts_of op) (acts_made t p)) (λ fits. fits e))) next ∙ ap (λ v. is_some_and (slice_get (acts_of o) v) (λ fits. fits e)) made ∙ fits

  -- a part of a DVM message
  part-act : (t : Trace) (n i word : ℕ) → next_operation plan t p ≡ Some o → acts_made t p ≡ n → Turned t n (Ar p i word (ar_code read.DvmMessage) 1 0 false)
      → IsAct plan t p (Ar p i word (ar_code read.DvmMessage) 1 0 false) (read_issued t p i word (ar_code read.DvmMessage) 1 0 false)
  unfolding ar_kind_of
  part-act t n i word next made fits =
      record {
        plain = refl;
        new = refl;
        at = refl;
        port = refl;
        act = refl;
        own = refl;
        off = refl;
        still = refl;
        no_update = refl;
        no_owner = refl;
        well = turn-now t n (Ar p i word (ar_code read.DvmMessage) 1 0 false) next made fits;
        rest = (refl, (refl, (refl, refl)));
      }

  part-made : (t : Trace) (i word : ℕ) → acts_made (Ar p i word (ar_code read.DvmMessage) 1 0 false ∷ t) p ≡ acts_made t p + 1
  unfolding ar_kind_of
  part-made t i word = ap (λ b. if b then acts_made t p + 1 else acts_made t p) (and_from _ _ (eq-eqb p p refl) refl)

  -- the halves of a memory barrier
  half-act : (i bar : ℕ) → (bar ≡ 1) ⊎ (bar ≡ 3) → Turned past 0 (Ar p i 0 (ar_code read.Barrier) 1 bar false)
      → IsAct plan past p (Ar p i 0 (ar_code read.Barrier) 1 bar false) (read_issued past p i 0 (ar_code read.Barrier) 1 bar false)
  unfolding ar_kind_of
  half-act i bar is fits = elim is [
    | inl one ↦ subst (λ b. IsAct plan past p (Ar p i 0 (ar_code read.Barrier) 1 b false) (read_issued past p i 0 (ar_code read.Barrier) 1 b false)) (sym one)
        (record {
          plain = refl;
          new = refl;
          at = refl;
          port = refl;
          act = refl;
          own = refl;
          off = refl;
          still = refl;
          no_update = refl;
          no_owner = refl;
          well = turn-now past 0 (Ar p i 0 (ar_code read.Barrier) 1 1 false) r.next r.made (ap (λ b. is_some_and (slice_get (acts_of o) 0) (λ fits. fits (Ar p i 0 (ar_code read.Barrier) 1 b false))) (sym one) ∙ fits);
          rest = (refl, (refl, (refl, refl)));
        })
    | inr three ↦ subst (λ b. IsAct plan past p (Ar p i 0 (ar_code read.Barrier) 1 b false) (read_issued past p i 0 (ar_code read.Barrier) 1 b false)) (sym three)
        (record {
          plain = refl;
          new = refl;
          at = refl;
          port = refl;
          act = refl;
          own = refl;
          off = refl;
          still = refl;
          no_update = refl;
          no_owner = refl;
          well = turn-now past 0 (Ar p i 0 (ar_code read.Barrier) 1 3 false) r.next r.made (ap (λ b. is_some_and (slice_get (acts_of o) 0) (λ fits. fits (Ar p i 0 (ar_code read.Barrier) 1 b false))) (sym three) ∙ fits);
          rest = (refl, (refl, (refl, refl)));
        })
  ]

  half-made : (t : Trace) (i bar : ℕ) → (bar ≡ 1) ⊎ (bar ≡ 3) → acts_made (Ar p i 0 (ar_code read.Barrier) 1 bar false ∷ t) p ≡ acts_made t p + 1
  unfolding ar_kind_of
  half-made t i bar is = elim is [
    | inl one ↦ subst (λ b. acts_made (Ar p i 0 (ar_code read.Barrier) 1 b false ∷ t) p ≡ acts_made t p + 1) (sym one) (ap (λ b. if b then acts_made t p + 1 else acts_made t p) (and_from _ _ (eq-eqb p p refl) refl))
    | inr three ↦ subst (λ b. acts_made (Ar p i 0 (ar_code read.Barrier) 1 b false ∷ t) p ≡ acts_made t p + 1) (sym three) (ap (λ b. if b then acts_made t p + 1 else acts_made t p) (and_from _ _ (eq-eqb p p refl) refl))
  ]

  other-half : (t : Trace) (i bar : ℕ) → (bar ≡ 1) ⊎ (bar ≡ 3) → next_operation plan t p ≡ Some o → acts_made t p ≡ 1 → Turned t 1 (Aw p i 0 (aw_code write.Barrier) 1 bar)
      → IsAct plan t p (Aw p i 0 (aw_code write.Barrier) 1 bar) (write_issued t p i 0 (aw_code write.Barrier) 1 bar)
  unfolding aw_kind_of
  other-half t i bar is next made fits = elim is [
    | inl one ↦ subst (λ b. IsAct plan t p (Aw p i 0 (aw_code write.Barrier) 1 b) (write_issued t p i 0 (aw_code write.Barrier) 1 b)) (sym one)
        (record {
          plain = refl;
          new = refl;
          at = refl;
          port = refl;
          act = refl;
          own = refl;
          off = refl;
          still = refl;
          no_update = refl;
          no_owner = refl;
          well = turn-now t 1 (Aw p i 0 (aw_code write.Barrier) 1 1) next made (ap (λ b. is_some_and (slice_get (acts_of o) 1) (λ fits. fits (Aw p i 0 (aw_code write.Barrier) 1 b))) (sym one) ∙ fits);
          rest = (refl, (refl, (refl, refl)));
        })
    | inr three ↦ subst (λ b. IsAct plan t p (Aw p i 0 (aw_code write.Barrier) 1 b) (write_issued t p i 0 (aw_code write.Barrier) 1 b)) (sym three)
        (record {
          plain = refl;
          new = refl;
          at = refl;
          port = refl;
          act = refl;
          own = refl;
          off = refl;
          still = refl;
          no_update = refl;
          no_owner = refl;
          well = turn-now t 1 (Aw p i 0 (aw_code write.Barrier) 1 3) next made (ap (λ b. is_some_and (slice_get (acts_of o) 1) (λ fits. fits (Aw p i 0 (aw_code write.Barrier) 1 b))) (sym three) ∙ fits);
          rest = (refl, (refl, (refl, refl)));
        })
  ]

  barrier-good : (bar : ℕ) → (bar ≡ 1) ⊎ (bar ≡ 3) → length (segment past p) ≤ 0 → ((i : ℕ) → Turned past 0 (Ar p i 0 (ar_code read.Barrier) 1 bar false)) → ((i : ℕ) → Turned past 1 (Aw p i 0 (aw_code write.Barrier) 1 bar))
      → EachGood plan past p o right a f l c r (barrier_bursts h past p bar)
  barrier-good bar is few first second =
      good-each plan past p o right a f l c r (free_on_both h past p) (barrier_halves p bar)
      (λ i. both-good plan past p o right a f c r few (Ar p i 0 (ar_code read.Barrier) 1 bar false) (Aw p i 0 (aw_code write.Barrier) 1 bar) (read_issued past p i 0 (ar_code read.Barrier) 1 bar false)
      (write_issued (Ar p i 0 (ar_code read.Barrier) 1 bar false ∷ past) p i 0 (aw_code write.Barrier) 1 bar) (half-act i bar is (first i))
      (other-half (Ar p i 0 (ar_code read.Barrier) 1 bar false ∷ past) i bar is r.next (half-made past i bar is ∙ ap (λ n. n + 1) r.made) (second i)))

  message-good : (word second : ℕ) → length (segment past p) ≤ 0 → ((i : ℕ) → Turned past 0 (Ar p i word (ar_code read.DvmMessage) 1 0 false)) → ((i : ℕ) → Turned past 1 (Ar p i second (ar_code read.DvmMessage) 1 0 false))
      → EachGood plan past p o right a f l c r (message_bursts h past p word second)
  message-good word second few first later = by (free_on h past p Read)
    where
      both : (i : ℕ) (other : Option ℕ)
          → EachGood plan past p o right a f l c r (map (λ part. (Ar p i word (ar_code read.DvmMessage) 1 0 false ∷ []) ++ part) (map (λ j. Ar p j second (ar_code read.DvmMessage) 1 0 false ∷ []) (option_to_list other)) ++ [])
      both i None = tt
      both i (Some j) = (
        both-good plan past p o right a f c r few (Ar p i word (ar_code read.DvmMessage) 1 0 false) (Ar p j second (ar_code read.DvmMessage) 1 0 false) (read_issued past p i word (ar_code read.DvmMessage) 1 0 false)
            (read_issued (Ar p i word (ar_code read.DvmMessage) 1 0 false ∷ past) p j second (ar_code read.DvmMessage) 1 0 false) (part-act past 0 i word r.next r.made (first i))
            (part-act (Ar p i word (ar_code read.DvmMessage) 1 0 false ∷ past) 1 j second r.next (part-made past i word ∙ ap (λ n. n + 1) r.made) (later j)),
        tt,
      )

      by : (o2 : Option ℕ) → EachGood plan past p o right a f l c r
          (flat_map (and_part h past p second) (map (λ part. [] ++ part) (map (λ i. Ar p i word (ar_code read.DvmMessage) 1 0 false ∷ []) (option_to_list o2))))
      by None = tt
      by (Some i) = both i (free_on h (Ar p i word (ar_code read.DvmMessage) 1 0 false ∷ past) p Read)

  -- What an operation of two acts asks for keeps on.
  pub two-good : (v : Op) → o ≡ v → has_two_acts v ≡ true → EachGood plan past p o right a f l c r (bursts_of plan.ways h past p (request_of v (state_named h past p v)))
  two-good op.Mb of two =
      barrier-good 1 (inl refl) (few-none plan past p o right a f l c r (ap (is_cleared plan.ways h past p) of) (ap (has_lost h past p) of))
      (λ i. ap (λ v. is_some_and (slice_get (acts_of v) 0) (λ fits. fits (Ar p i 0 (ar_code read.Barrier) 1 1 false))) of) (λ i. ap (λ v. is_some_and (slice_get (acts_of v) 1) (λ fits. fits (Aw p i 0 (aw_code write.Barrier) 1 1))) of)
  two-good op.Sb of two =
      barrier-good 3 (inr refl) (few-none plan past p o right a f l c r (ap (is_cleared plan.ways h past p) of) (ap (has_lost h past p) of))
      (λ i. ap (λ v. is_some_and (slice_get (acts_of v) 0) (λ fits. fits (Ar p i 0 (ar_code read.Barrier) 1 3 false))) of) (λ i. ap (λ v. is_some_and (slice_get (acts_of v) 1) (λ fits. fits (Aw p i 0 (aw_code write.Barrier) 1 3))) of)
  two-good (op.Dvm2 word second) of two =
      message-good word second (few-none plan past p o right a f l c r (ap (is_cleared plan.ways h past p) of) (ap (has_lost h past p) of))
      (λ i. ap (λ v. is_some_and (slice_get (acts_of v) 0) (λ fits. fits (Ar p i word (ar_code read.DvmMessage) 1 0 false))) of ∙ eq-eqb word word refl)
      (λ i. ap (λ v. is_some_and (slice_get (acts_of v) 1) (λ fits. fits (Ar p i second (ar_code read.DvmMessage) 1 0 false))) of ∙ eq-eqb second second refl)
  two-good v of two = cc
