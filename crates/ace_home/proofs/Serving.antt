-- What serves a transaction is a step, and the traces with its events are ones for which an engine may stand.
use Rattle.std.proofs.Common.{◌≡◌, ℕ, Bool, true, false, not, ◌&&◌, ◌||◌, ◌≤◌, ◌<◌, nat_le, if◌then◌else◌, List, [], ◌∷◌, ◌++◌, length, map, Option, Some, None, refl, sym, ap, subst, ◌∙◌, inl, inr, arith}
use Rattle.std.specs.List.{list_all, list_any}
use Rattle.std.specs.Option.{option_to_list}
use Rattle.std.proofs.lemmas.Bool.{and_from, and_parts, cases_Bool, eq-eqb, false_from_ne_true, le-leb, not-true, or_left, or_right}
use Rattle.ace_codes.specs.declared.kind.AwKind.{AwKind}
use Rattle.ace_codes.specs.declared.kind.AwKind.TheVariants as write
use Rattle.ace_codes.specs.declared.kind.SnoopKind.{SnoopKind}
use Rattle.ace_event.specs.declared.event.Channel.{Channel}
use Rattle.ace_event.specs.declared.event.Channel.TheVariants.{Read, Write}
use Rattle.ace_event.specs.declared.event.Event.{Event}
use Rattle.ace_event.specs.declared.event.Event.TheVariants.{B, G, M, R}
use Rattle.ace_event.specs.declared.header.Header.{Header}
use Rattle.ace_event.specs.declared.line.Line.{Line}
use Rattle.ace_model.specs.declared.transactions.Transaction.{Transaction}
use Rattle.ace_model.specs.Barriers.{is_barrier_half}
use Rattle.ace_model.specs.Grants.{has_passed_data, is_granted, ports_below}
use Rattle.ace_model.specs.Kinds.{has_write_data, is_granted_write, is_read_barrier, is_write_barrier}
use Rattle.ace_model.specs.Plans.{Plan}
use Rattle.ace_model.specs.Trace.{Trace, implies, is_some_and}
use Rattle.ace_model.specs.Transactions.{is_complete, is_line, is_read, outstanding, read_kind, same_channel, snoop_of, takes_grant, write_kind}
use Rattle.ace_model.specs.WriteRules.{data_of, data_of_write, may_write_memory}
use Rattle.ace_model.specs.Writes.{has_memory_write}
use Rattle.ace_model.proofs.General.Options.{Some-injective, is_some_and-at, is_some_and-is}
use Rattle.ace_model.proofs.Grants.Granted.{data_may, granted_write}
use Rattle.ace_model.proofs.Rules.Keeps.{accepted_keeps}
use Rattle.ace_model.proofs.Trace.WriteQueue.{done_write}
use Rattle.ace_runs.specs.Bursts.{is_kept, may_begin, may_serve, onto, serves}
use Rattle.ace_runs.specs.LineSteps.{grant_burst, is_first_to_wait, is_last_beat, memory_write, next_word, passed_burst, response, response_bits, snoop_for, takes_dirt, transfer_burst, write_burst}
use Rattle.ace_runs.specs.SameEvents.{same_burst}
use Rattle.ace_runs.specs.Steps.{is_sound}
use Rattle.ace_runs.proofs.Accepting.{kept-breaks-none}
use Rattle.ace_model.proofs.Trace.IssuedTransactions.{issuer-low}
use Rattle.ace_runs.proofs.NeverStuck.Steps.SameBursts.{burst-self}
use Rattle.ace_runs.proofs.NeverStuck.Updates.EvictsMove.{may-answer-evict, response-kept}
use Rattle.ace_runs.proofs.NeverStuck.Updates.UpdatesMove.{data-there}
use Rattle.ace_engine.specs.Engines.{IsLegal}
use Rattle.ace_engine.proofs.OfInterconnect.{legal-with}
use Rattle.ace_home.specs.declared.service.Service.{Service}
use Rattle.ace_home.specs.declared.service.Service.TheVariants as service
use Rattle.ace_home.specs.Among.{PortSets, are_snoops_among, gives_snoops_among, has_snoop_among, is_enabled_by_among, is_snoop_among, is_step_by_among, may_snoop_among}
use Rattle.ace_home.specs.Home.{HomeStands, IsOf}
use Rattle.ace_home.specs.declared.home.Home.{Home}
use Rattle.ace_home.specs.Services.{IsService, TakesNoneBelow, all_steps, first_kept, first_of, gives_for, number_of, responds}
use Rattle.ace_home.specs.declared.due.Due.{Due}
use Rattle.ace_home.specs.Turns.{AreSnoops, IsDue, IsFirst, IsLeastStepAmong, IsServing, lesser_steps}
use Rattle.ace_home.proofs.FewPorts.{few-ports}
use Rattle.ace_home.proofs.Snoops.{no-snoop-left}
use Rattle.ace_home.proofs.FirstEvents.{kept-some}
use Rattle.ace_home.proofs.Outstanding.{none-passes, of-at, out-own, some-passes}

-- ---- bursts of one event -----------------------------------------------------------------------------

one-of : (h : Header) (past : Trace) (b : Bool) (d e : Event) → first_kept h past (if b then d ∷ [] else []) ≡ Some e
    → (is_kept h past d ≡ true) × (d ≡ e) × ((if b then d ∷ [] else []) ≡ e ∷ [])
one-of h past true d e is = let k = kept-some h past d e is in (k.0, k.1, ap (λ v. v ∷ []) k.1)
one-of h past false d e is = cc

one-written : (h : Header) (past : Trace) (x : Transaction) (b : Bool) (v : Option Line) (e : Event) → first_kept h past (if b then map (λ l. M x.port x.chan x.id l) (option_to_list v) else []) ≡ Some e
    → (l : Line) × (is_kept h past e ≡ true) × (e ≡ M x.port x.chan x.id l) × ((if b then map (λ l. M x.port x.chan x.id l) (option_to_list v) else []) ≡ e ∷ [])
one-written h past x true None e is = cc
one-written h past x true (Some l) e is =
    let k = kept-some h past (M x.port x.chan x.id l) e is in
    (l, subst (λ d. is_kept h past d ≡ true) k.1 k.0, sym k.1, ap (λ d. d ∷ []) k.1)
one-written h past x false v e is = cc

granted-data : (k : AwKind) → is_granted_write k ≡ true → has_write_data k ≡ true
granted-data write.WriteNoSnoop g = refl
granted-data write.WriteUnique g = refl
granted-data write.WriteLineUnique g = refl
granted-data k g = cc

granted-no-barrier : (k : AwKind) → is_granted_write k ≡ true → is_write_barrier k ≡ false
granted-no-barrier write.WriteNoSnoop g = refl
granted-no-barrier write.WriteUnique g = refl
granted-no-barrier write.WriteLineUnique g = refl
granted-no-barrier k g = cc

same-channel : (c : Channel) → same_channel c c ≡ true
same-channel Read = refl
same-channel Write = refl

-- the M that begins the burst of a granted write
record Written (h : Header) (past : Trace) (x : Transaction) (e : Event) : Type 0 where
  writes : is_read x.chan ≡ false
  takes : takes_grant x ≡ true
  line : Line
  is : e ≡ M x.port x.chan x.id line
  kept : is_kept h past e ≡ true
  burst : write_burst h past x ≡ e ∷ response x

written : (h : Header) (past : Trace) (x : Transaction) (e : Event) → first_kept h past (write_burst h past x) ≡ Some e → Written h past x e
written h past x e is = elim (cases_Bool (not (is_read x.chan) && takes_grant x)) [
  | inr f ↦ (let bad : None ≡ Some e = ap (λ b. first_kept h past (if b then memory_write h past x ++ response x else [])) (sym f) ∙ is in cc)
  | inl t ↦
      let both = and_parts (not (is_read x.chan)) (takes_grant x) t in
      let writes = not-true (is_read x.chan) both.0 in
      let k = granted_write x both.1 writes in
      let line = data_of_write h past x k.0 in
      let burst : write_burst h past x ≡ M x.port x.chan x.id line ∷ response x =
      ap (λ b. if b then memory_write h past x ++ response x else []) t
      ∙ ap (λ v. map (λ l. M x.port x.chan x.id l) (option_to_list v) ++ response x) (data-there h past x k.0 writes k.1) in
      let first = kept-some h past (M x.port x.chan x.id line) e (ap (first_kept h past) (sym burst) ∙ is) in
      record {
        writes = writes;
        takes = both.1;
        line = line;
        is = sym first.1;
        kept = subst (λ d. is_kept h past d ≡ true) first.1 first.0;
        burst = burst ∙ ap (λ d. d ∷ response x) first.1;
      }
]

module _ (among : PortSets) (plan : Plan) (past : Trace) (legal : IsLegal plan past) (p : ℕ) (x : Transaction) (o : IsOf plan.header past p x) where
  abbrev h : Header
  h = plan.header

  -- ---- the trace with the events ----

  grant-is : (e : Event) → first_kept h past (grant_burst h past x) ≡ Some e → (is_kept h past (G x.port x.chan x.id) ≡ true) × (G x.port x.chan x.id ≡ e) × (grant_burst h past x ≡ e ∷ [])
  grant-is e is = one-of h past (takes_grant x && is_first_to_wait h past x) (G x.port x.chan x.id) e is

  abbrev transfer : Event
  transfer = R x.port x.id (response_bits h past x) (is_last_beat past x) (next_word past x)

  transfer-is : (e : Event) → first_kept h past (transfer_burst h past x) ≡ Some e → (is_kept h past transfer ≡ true) × (transfer ≡ e) × (transfer_burst h past x ≡ e ∷ [])
  transfer-is e is = one-of h past (is_read x.chan && is_line x && implies (has_passed_data h past x) (takes_dirt h past x)) transfer e is

  passed-is : (e : Event) → first_kept h past (passed_burst h past x) ≡ Some e
      → (l : Line) × (is_kept h past e ≡ true) × (e ≡ M x.port x.chan x.id l) × (passed_burst h past x ≡ e ∷ [])
  passed-is e is = one-written h past x (is_read x.chan && has_passed_data h past x && not (takes_dirt h past x)) (data_of h past x) e is

  legal-of : (d e : Event) → d ≡ e → IsLegal plan (d ∷ past) → IsLegal plan (e ∷ past)
  legal-of d e same l = subst (λ v. IsLegal plan (v ∷ past)) same l

  pub legal-first : (s : Service) (d : Event) → first_of s ≡ Some d → IsService among h past x s → IsLegal plan (d ∷ past)
  legal-first s d first is = by s first is
    where
      by : (s : Service) → first_of s ≡ Some d → IsService among h past x s → IsLegal plan (d ∷ past)
      by (service.Grant e) first is =
          let g = grant-is e is in
          legal-of (G x.port x.chan x.id) d (g.1 ∙ Some-injective e d first) (legal-with plan past (G x.port x.chan x.id) refl legal g.0)
      by service.Snoops first is = cc
      by (service.Passed e) first is =
          let m = passed-is e is in
          let kept : is_kept h past (M x.port x.chan x.id m.0) ≡ true = subst (λ v. is_kept h past v ≡ true) m.2 m.1 in
          legal-of (M x.port x.chan x.id m.0) d (sym m.2 ∙ Some-injective e d first) (legal-with plan past (M x.port x.chan x.id m.0) refl legal kept)
      by (service.Transfer e) first is = let r = transfer-is e is in legal-of transfer d (r.1 ∙ Some-injective e d first) (legal-with plan past transfer refl legal r.0)
      by (service.Write e) first is =
          let w = written h past x e is in
          let kept : is_kept h past (M x.port x.chan x.id w.line) ≡ true = subst (λ v. is_kept h past v ≡ true) w.is w.kept in
          legal-of (M x.port x.chan x.id w.line) d (sym w.is ∙ Some-injective e d first) (legal-with plan past (M x.port x.chan x.id w.line) refl legal kept)

  -- the response of a granted write after its M
  module _ (e : Event) (is : first_kept h past (write_burst h past x) ≡ Some e) where
    abbrev w : Written h past x e
    w = written h past x e is

    write-undone : is_complete past x.port x.chan x.id ≡ false
    write-undone =
        let out = out-own h past legal.accepted p x o in
        let kept : is_kept h past (M x.port x.chan x.id w.line) ≡ true = subst (λ d. is_kept h past d ≡ true) w.is w.kept in
        let keeps = accepted_keeps h past (M x.port x.chan x.id w.line) (legal.accepted, kept-breaks-none h past (M x.port x.chan x.id w.line) kept) in
        let may = is_some_and-at (outstanding h past x.port x.chan x.id) (may_write_memory h past) x keeps.rule_24 out in
        let first = (data_may h past x may w.writes).first in
        let k = granted_write x w.takes w.writes in
        let sends : is_some_and (write_kind x) has_write_data ≡ true = ap (λ o. is_some_and o has_write_data) k.1 ∙ granted-data k.0 k.2 in
        let chan = is-write x.chan w.writes in
        false_from_ne_true (is_complete past x.port x.chan x.id) (λ c.
        let done = done_write h past legal.accepted x.port x.id x (subst (λ v. outstanding h past x.port v x.id ≡ Some x) chan out) (subst (λ v. is_complete past x.port v x.id ≡ true) chan c) sends in
        let none : has_memory_write past x.port Write x.id ≡ false = subst (λ v. has_memory_write past x.port v x.id ≡ false) chan first in cc)
      where
        is-write : (c : Channel) → is_read c ≡ false → c ≡ Write
        is-write Read f = cc
        is-write Write f = refl

    no-half : is_barrier_half x ≡ false
    no-half =
        let k = granted_write x w.takes w.writes in
        let none : read_kind x ≡ None = let f = w.writes in rw f refl in
        ap (λ v. is_some_and v is_read_barrier || is_some_and (write_kind x) is_write_barrier) none ∙ ap (λ v. is_some_and v is_write_barrier) k.1 ∙ granted-no-barrier k.0 k.2

    response-after : is_kept h (M x.port x.chan x.id w.line ∷ past) (B x.port x.id 0) ≡ true
    response-after =
        let m = M x.port x.chan x.id w.line in
        let out = out-own h past legal.accepted p x o in
        let chan = is-write x.chan w.writes in
        let out_write : outstanding h past x.port Write x.id ≡ Some x = subst (λ v. outstanding h past x.port v x.id ≡ Some x) chan out in
        let undone = write-undone in
        let is_written : has_memory_write (m ∷ past) x.port x.chan x.id ≡ true =
        or_left _ _ (and_from _ _ (and_from _ _ (eq-eqb x.port x.port refl) (same-channel x.chan)) (eq-eqb x.id x.id refl)) in
        let low = issuer-low h past x legal.accepted (of-at h past p x o).issued in
        response-kept h (m ∷ past) x.port x.id
        (and_from _ _ low refl)
        (rw out_write (and_from _ _ (ap not undone) (then-true (is_some_and (write_kind x) has_write_data) (has_memory_write (m ∷ past) x.port x.chan x.id) is_written)))
        (rw out_write (may-answer-evict (m ∷ past) x no-half))
      where
        is-write : (c : Channel) → is_read c ≡ false → c ≡ Write
        is-write Read f = cc
        is-write Write f = refl

        then-true : (a b : Bool) → b ≡ true → implies a b ≡ true
        then-true true b t = t
        then-true false b t = refl

    pub response-kept-after : is_kept h (e ∷ past) (B x.port x.id 0) ≡ true
    response-kept-after = subst (λ d. is_kept h (d ∷ past) (B x.port x.id 0) ≡ true) (sym w.is) response-after

    pub legal-response : IsLegal plan (B x.port x.id 0 ∷ e ∷ past)
    legal-response = legal-with plan (e ∷ past) (B x.port x.id 0) refl (legal-first (service.Write e) e refl is) response-kept-after

  -- ---- the step ----

  same-given : (burst_for : Header → Trace → Transaction → List Event) (e : Event) (rest : List Event) → burst_for h past x ≡ e ∷ rest → same_burst (burst_for h past x) (e ∷ rest) ≡ true
  same-given burst_for e rest is = ap (λ b. same_burst b (e ∷ rest)) is ∙ burst-self (e ∷ rest)

  -- a burst for the transaction is one that its step gives
  given : (burst_for : Header → Trace → Transaction → List Event) (e : Event) (rest : List Event) → burst_for h past x ≡ e ∷ rest → is_kept h past e ≡ true
      → (may_serve burst_for h past p && serves burst_for h past p (e ∷ rest)) ≡ true
  given burst_for e rest is kept =
      and_from _ _ (some-passes h past p (λ y. may_begin h past (burst_for h past y)) x o (ap (may_begin h past) is ∙ kept))
      (some-passes h past p (λ y. same_burst (burst_for h past y) (e ∷ rest)) x o (same-given burst_for e rest is))

  alone : (e : Event) → is_kept h past e ≡ true → is_sound h past (e ∷ []) ≡ true
  alone e kept = and_from _ _ refl (and_from _ _ kept refl)

  -- The burst is one of the step for the transaction.
  pub record Serves (n : ℕ) (burst : List Event) : Type 0 where
    pub step : is_step_by_among among (n ∷ []) plan past p burst ≡ true
    pub gives : gives_for among n h past x burst ≡ true

  pub serves-step : (s : Service) (d : Event) → first_of s ≡ Some d → IsService among h past x s → Serves (number_of s) (d ∷ (if responds s then response x else []))
  serves-step s d first is = by s first is
    where
      by : (s : Service) → first_of s ≡ Some d → IsService among h past x s → Serves (number_of s) (d ∷ (if responds s then response x else []))
      by (service.Grant e) first is =
          let g = grant-is e is in
          let kept : is_kept h past e ≡ true = subst (λ v. is_kept h past v ≡ true) g.1 g.0 in
          subst (λ v. Serves 5 (v ∷ [])) (Some-injective e d first) (record {
            step = and_from (is_sound h past (e ∷ [])) _ (alone e kept) (or_left _ _ (given grant_burst e [] g.2 kept));
            gives = same-given grant_burst e [] g.2;
          })
      by service.Snoops first is = cc
      by (service.Passed e) first is =
          let m = passed-is e is in
          subst (λ v. Serves 7 (v ∷ [])) (Some-injective e d first) (record {
            step = and_from (is_sound h past (e ∷ [])) _ (alone e m.1) (or_left _ _ (given passed_burst e [] m.3 m.1));
            gives = same-given passed_burst e [] m.3;
          })
      by (service.Transfer e) first is =
          let r = transfer-is e is in
          let kept : is_kept h past e ≡ true = subst (λ v. is_kept h past v ≡ true) r.1 r.0 in
          subst (λ v. Serves 8 (v ∷ [])) (Some-injective e d first) (record {
            step = and_from (is_sound h past (e ∷ [])) _ (alone e kept) (or_left _ _ (given transfer_burst e [] r.2 kept));
            gives = same-given transfer_burst e [] r.2;
          })
      by (service.Write e) first is =
          let m = written h past x e is in
          let b = e ∷ response x in
          subst (λ v. Serves 9 (v ∷ response x)) (Some-injective e d first) (record {
            step = and_from (is_sound h past b) _ (and_from _ _ refl (and_from _ _ m.kept (and_from _ _ (response-kept-after e is) refl)))
                (or_left _ _ (given write_burst e (response x) m.burst m.kept));
            gives = same-given write_burst e (response x) m.burst;
          })

  -- the response after the first event of a write
  pub legal-second : (s : Service) (d : Event) → first_of s ≡ Some d → IsService among h past x s → responds s ≡ true → IsLegal plan (B x.port x.id 0 ∷ d ∷ past)
  legal-second s d first is t = by s first is t
    where
      by : (s : Service) → first_of s ≡ Some d → IsService among h past x s → responds s ≡ true → IsLegal plan (B x.port x.id 0 ∷ d ∷ past)
      by (service.Write e) first is t = subst (λ v. IsLegal plan (B x.port x.id 0 ∷ v ∷ past)) (Some-injective e d first) (legal-response e is)
      by (service.Grant e) first is t = cc
      by service.Snoops first is t = cc
      by (service.Passed e) first is t = cc
      by (service.Transfer e) first is t = cc

  -- ---- snoops ----

  module _ (s : Home) (k : SnoopKind) (burst : List Event) (caused : snoop_of x ≡ Some k) (has : has_snoop_among among h past x ≡ true) (b : AreSnoops among s plan past x k h.ports burst) where
    some-event : nat_le 1 (length burst) ≡ true
    some-event = le-leb 1 (length burst) (more burst b)
      where
        more : (es : List Event) → AreSnoops among s plan past x k h.ports es → 1 ≤ length es
        more [] none = let no = no-snoop-left among h past x k caused none.none in cc
        more (e ∷ es) b = omega arith

    few-events : nat_le (length burst) 16 ≡ true
    few-events =
        let few = few-ports h legal.right.header legal.right.version in
        let most = b.few in
        le-leb (length burst) 16 (omega (arith, few, most))

    pub snoops-given : are_snoops_among among h past x burst ≡ true
    snoops-given =
        and_from _ _ (and_parts (is_granted h past x) _ has).0 (ap (λ v. is_some_and v (λ j. list_all (is_snoop_among among x j) burst)) caused ∙ b.all)

    pub snoops-step : is_step_by_among among (6 ∷ []) plan past p burst ≡ true
    snoops-step =
        and_from (is_sound h past burst) _ (and_from _ _ (and_from _ _ some-event few-events) b.kept)
        (or_left (may_snoop_among among h past p && gives_snoops_among among h past p burst) _ (and_from _ _ (some-passes h past p (has_snoop_among among h past) x o has)
        (some-passes h past p (λ y. are_snoops_among among h past y burst) x o snoops-given)))

    pub snoops-left : has_snoop_among among h (onto burst past) x ≡ false
    snoops-left = no-snoop-left among h (onto burst past) x k caused b.none

-- ---- the whole step ----------------------------------------------------------------------------------

-- a step with one first event
pub served-by : (among : PortSets) (plan : Plan) (past : Trace) (legal : IsLegal plan past) (p : ℕ) (d : Due) (due : IsDue among plan.header past p d) (e : Event) → first_of d.service ≡ Some e → (s : Home) (burst : List Event)
    → Serves among plan past legal p d.transaction due.pending (number_of d.service) burst → HomeStands s plan (onto burst past) → IsServing among s plan past p d burst
served-by among plan past legal p d due e first s burst serves stands = record {
  step = serves.step;
  gives = serves.gives;
  snooped = λ six. absurd (no-six d.service first six);
  stands = stands;
}
  where
    no-six : (v : Service) → first_of v ≡ Some e → number_of v ≡ 6 → ⊥
    no-six (service.Grant e) first six = omega (arith, six)
    no-six service.Snoops first six = cc
    no-six (service.Passed e) first six = omega (arith, six)
    no-six (service.Transfer e) first six = omega (arith, six)
    no-six (service.Write e) first six = omega (arith, six)

are-snoops : (v : Service) → first_of v ≡ None → v ≡ service.Snoops
are-snoops (service.Grant e) none = cc
are-snoops service.Snoops none = refl
are-snoops (service.Passed e) none = cc
are-snoops (service.Transfer e) none = cc
are-snoops (service.Write e) none = cc

pub snoops-caused : (among : PortSets) (plan : Plan) (past : Trace) (p : ℕ) (d : Due) → IsDue among plan.header past p d → first_of d.service ≡ None → (k : SnoopKind) × (snoop_of d.transaction ≡ Some k)
snoops-caused among plan past p d due none =
    let h = plan.header in
    let x = d.transaction in
    let has : has_snoop_among among h past x ≡ true = subst (IsService among h past x) (are-snoops d.service none) due.serves in
    let k = is_some_and-is (snoop_of x) (λ k. list_any (λ q. among x.addr q && is_kept h past (snoop_for x k q)) (ports_below h.ports)) (and_parts (is_granted h past x) _ has).1 in
    (k.0, k.1)

pub snoops-served : (among : PortSets) (plan : Plan) (past : Trace) (legal : IsLegal plan past) (p : ℕ) (d : Due) → IsDue among plan.header past p d → first_of d.service ≡ None → (s : Home) (k : SnoopKind)
    → snoop_of d.transaction ≡ Some k → (burst : List Event) → AreSnoops among s plan past d.transaction k plan.header.ports burst → IsServing among s plan past p d burst
snoops-served among plan past legal p d due none s k caused burst b =
    let h = plan.header in
    let x = d.transaction in
    let is = are-snoops d.service none in
    let has : has_snoop_among among h past x ≡ true = subst (IsService among h past x) is due.serves in
    let number = ap number_of is in
    record {
      step = subst (λ n. is_step_by_among among (n ∷ []) plan past p burst ≡ true) (sym number) (snoops-step among plan past legal p x due.pending s k burst caused has b);
      gives = subst (λ n. gives_for among n h past x burst ≡ true) (sym number) (snoops-given among plan past legal p x due.pending s k burst caused has b);
      snooped = λ _. snoops-left among plan past legal p x due.pending s k burst caused has b;
      stands = b.stands;
    }

-- a step by one of the home's numbers is one of the home
module _ (among : PortSets) (plan : Plan) (past : Trace) (p : ℕ) (burst : List Event) where
  abbrev by-grant : Bool
  by-grant = may_serve grant_burst plan.header past p && serves grant_burst plan.header past p burst

  abbrev by-snoops : Bool
  by-snoops = may_snoop_among among plan.header past p && gives_snoops_among among plan.header past p burst

  abbrev by-passed : Bool
  by-passed = may_serve passed_burst plan.header past p && serves passed_burst plan.header past p burst

  abbrev by-transfer : Bool
  by-transfer = may_serve transfer_burst plan.header past p && serves transfer_burst plan.header past p burst

  abbrev by-write : Bool
  by-write = may_serve write_burst plan.header past p && serves write_burst plan.header past p burst

  whole : (is_sound plan.header past burst && (by-grant || (by-snoops || (by-passed || (by-transfer || (by-write || false)))))) ≡ true
      → is_step_by_among among (5 ∷ 6 ∷ 7 ∷ 8 ∷ 9 ∷ []) plan past p burst ≡ true
  whole t = t

  sound-and : (b later : Bool) → ((b || false) ≡ true → later ≡ true) → (is_sound plan.header past burst && (b || false)) ≡ true → (is_sound plan.header past burst && later) ≡ true
  sound-and b later f t = let parts = and_parts (is_sound plan.header past burst) (b || false) t in and_from _ _ parts.0 (f parts.1)

  only : (b : Bool) → (b || false) ≡ true → b ≡ true
  only true t = refl
  only false t = cc

  pub of-home : (s : Service) → is_step_by_among among (number_of s ∷ []) plan past p burst ≡ true → is_step_by_among among (5 ∷ 6 ∷ 7 ∷ 8 ∷ 9 ∷ []) plan past p burst ≡ true
  of-home (service.Grant e) t = whole (sound-and by-grant _ (λ u. or_left by-grant _ (only by-grant u)) t)
  of-home service.Snoops t = whole (sound-and by-snoops _ (λ u. or_right by-grant _ (or_left by-snoops _ (only by-snoops u))) t)
  of-home (service.Passed e) t = whole (sound-and by-passed _ (λ u. or_right by-grant _ (or_right by-snoops _ (or_left by-passed _ (only by-passed u)))) t)
  of-home (service.Transfer e) t =
      whole (sound-and by-transfer _ (λ u. or_right by-grant _ (or_right by-snoops _ (or_right by-passed _ (or_left by-transfer _ (only by-transfer u))))) t)
  of-home (service.Write e) t =
      whole (sound-and by-write _ (λ u. or_right by-grant _ (or_right by-snoops _ (or_right by-passed _ (or_right by-transfer _ (or_left by-write _ (only by-write u)))))) t)

-- ---- where no step below a number is enabled ---------------------------------------------------------

or-none : (a b : Bool) → a ≡ false → b ≡ false → (a || b) ≡ false
or-none a b f g = rw (f, g) refl

module _ (among : PortSets) (plan : Plan) (past : Trace) (p : ℕ) where
  abbrev none-below-of : ℕ → Type 0
  none-below-of n = (y : Transaction) → IsOf plan.header past p y → TakesNoneBelow among n plan.header past y

  no-grant : (n : ℕ) → 5 < n → none-below-of n → may_serve grant_burst plan.header past p ≡ false
  no-grant n low none = none-passes plan.header past p (λ y. may_begin plan.header past (grant_burst plan.header past y)) (λ y o. none y o 5 low)

  no-snoop : (n : ℕ) → 6 < n → none-below-of n → may_snoop_among among plan.header past p ≡ false
  no-snoop n low none = none-passes plan.header past p (has_snoop_among among plan.header past) (λ y o. none y o 6 low)

  no-passed : (n : ℕ) → 7 < n → none-below-of n → may_serve passed_burst plan.header past p ≡ false
  no-passed n low none = none-passes plan.header past p (λ y. may_begin plan.header past (passed_burst plan.header past y)) (λ y o. none y o 7 low)

  no-transfer : (n : ℕ) → 8 < n → none-below-of n → may_serve transfer_burst plan.header past p ≡ false
  no-transfer n low none = none-passes plan.header past p (λ y. may_begin plan.header past (transfer_burst plan.header past y)) (λ y o. none y o 8 low)

  no-write : (n : ℕ) → 9 < n → none-below-of n → may_serve write_burst plan.header past p ≡ false
  no-write n low none = none-passes plan.header past p (λ y. may_begin plan.header past (write_burst plan.header past y)) (λ y o. none y o 9 low)

  pub none-enabled : none-below-of all_steps → is_enabled_by_among among (5 ∷ 6 ∷ 7 ∷ 8 ∷ 9 ∷ []) plan past p ≡ false
  none-enabled none =
      or-none _ _ (no-grant 10 (omega arith) none) (or-none _ _ (no-snoop 10 (omega arith) none) (or-none _ _ (no-passed 10 (omega arith) none)
      (or-none _ _ (no-transfer 10 (omega arith) none) (or-none _ _ (no-write 10 (omega arith) none) refl))))

  pub no-lesser : (s : Service) → none-below-of (number_of s) → is_enabled_by_among among (lesser_steps (number_of s)) plan past p ≡ false
  no-lesser (service.Grant e) none = refl
  no-lesser service.Snoops none = or-none _ _ (no-grant 6 (omega arith) none) refl
  no-lesser (service.Passed e) none = or-none _ _ (no-grant 7 (omega arith) none) (or-none _ _ (no-snoop 7 (omega arith) none) refl)
  no-lesser (service.Transfer e) none =
      or-none _ _ (no-grant 8 (omega arith) none) (or-none _ _ (no-snoop 8 (omega arith) none) (or-none _ _ (no-passed 8 (omega arith) none) refl))
  no-lesser (service.Write e) none =
      or-none _ _ (no-grant 9 (omega arith) none) (or-none _ _ (no-snoop 9 (omega arith) none) (or-none _ _ (no-passed 9 (omega arith) none)
      (or-none _ _ (no-transfer 9 (omega arith) none) refl)))

pub least-step : (among : PortSets) (plan : Plan) (past : Trace) (p : ℕ) (s : Home) (d : Due) (burst : List Event) → IsFirst among plan.header past p (IsOf plan.header past p) d → IsServing among s plan past p d burst
    → IsLeastStepAmong among plan past p burst
least-step among plan past p s d burst first serving = record {
  number = number_of d.service;
  served = d.transaction;
  step = serving.step;
  pending = first.due.pending;
  gives = serving.gives;
  least = no-lesser among plan past p d.service first.least;
  oldest = first.oldest;
  snooped = serving.snooped;
}
