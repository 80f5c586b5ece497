-- A run in which only ports of sets are snooped that have each holder goes on: where a snoop keeps a run from being stuck, a granted transaction moves
-- on, or another ACE port that holds its line wasn't snooped, which is in the set.
use Rattle.std.proofs.Common.{◌≡◌, ℕ, ◌<◌, Bool, true, false, not, ◌&&◌, ◌||◌, ◌==◌, nat_lt, List, [], ◌∷◌, Option, Some, None, is_none, inl, inr, refl, sym, ap, subst, ◌∙◌}
use Rattle.std.specs.List.{list_all, list_any}
use Rattle.std.proofs.lemmas.Bool.{and_from, and_parts, cases_Bool, eq-eqb, eqb-true, lt-ltb, ltb-true, not-false, or_parts}
use Rattle.ace_codes.specs.declared.kind.SnoopKind.{SnoopKind}
use Rattle.ace_event.specs.declared.header.Header.{Header}
use Rattle.ace_tables.specs.States.{is_invalid}
use Rattle.ace_model.specs.declared.snoops.Snoop.{Snoop}
use Rattle.ace_model.specs.declared.transactions.Transaction.{Transaction}
use Rattle.ace_model.specs.Accepted.{IsAccepted}
use Rattle.ace_model.specs.Exclusives.{has_failed}
use Rattle.ace_model.specs.Grants.{has_passed_data, is_begun, is_granted, owes_answer, owes_data, ports_below, was_snooped}
use Rattle.ace_model.specs.Kinds.{has_write_data}
use Rattle.ace_model.specs.Plans.{IsRight, Plan}
use Rattle.ace_model.specs.Snoops.{answered}
use Rattle.ace_model.specs.States.{are_snoops_done, awaits_wack, is_port_done, owes_wack, state_of}
use Rattle.ace_model.specs.Trace.{Trace, implies, is_some_and}
use Rattle.ace_model.specs.Transactions.{is_ace, is_complete, is_line, is_on, is_outstanding, is_outstanding_on, is_read, snoop_of, transfers, write_kind}
use Rattle.ace_model.specs.Writes.{is_burst_whole}
use Rattle.ace_model.proofs.General.Ports.{each_at}
use Rattle.ace_model.proofs.Grants.Granted.{granted_at, granted_given, granted_write}
use Rattle.ace_model.proofs.Tables.Kinds.{granted_data}
use Rattle.ace_model.proofs.Trace.Growth.{some_issued-found, some_issued-is}
use Rattle.ace_model.proofs.Trace.IssuedTransactions.{issuer-low}
use Rattle.ace_model.proofs.Trace.LineOnce.{outstanding_is}
use Rattle.ace_runs.specs.Bursts.{is_kept}
use Rattle.ace_runs.specs.Follows.{Done, FollowsSoFar}
use Rattle.ace_runs.specs.LineSteps.{may_snoop, snoop_for, takes_dirt}
use Rattle.ace_runs.specs.Steps.{AreSteps, is_enabled_by}
use Rattle.ace_runs.proofs.Few.Queues.{eqb-swap}
use Rattle.ace_runs.proofs.Turns.{steps-accepted}
use Rattle.ace_runs.proofs.NeverStuck.Complete.{complete-enabled}
use Rattle.ace_runs.proofs.NeverStuck.Data.NoDataOwed.{no-data-owed}
use Rattle.ace_runs.proofs.NeverStuck.Forwarding.Whole.{next-not-second}
use Rattle.ace_runs.proofs.NeverStuck.Reads.ReadsMove.{begun-read-moves, unbegun-read-moves}
use Rattle.ace_runs.proofs.NeverStuck.RunsGoOn.{goes-on-until-done}
use Rattle.ace_runs.proofs.NeverStuck.Snoops.{unanswered-snoop}
use Rattle.ace_runs.proofs.NeverStuck.Transactions.GrantedWritesMove.{granted-write-moves, undone-unwritten}
use Rattle.ace_runs.proofs.NeverStuck.Transactions.PassedDataMove.{passed-data-move}
use Rattle.ace_runs.proofs.NeverStuck.Transactions.SnoopsKept.{MaySnoop, snoop-kept}
use Rattle.ace_runs.proofs.NeverStuck.Transactions.SnoopsMove.{any-port, failing-port}
use Rattle.ace_runs.proofs.NeverStuck.Transactions.Unanswered.{answered-all}
use Rattle.ace_runs.proofs.NeverStuck.Transactions.UnsentBursts.{unsent-burst-enabled}
use Rattle.ace_runs.proofs.NeverStuck.Updates.UpdatesOrGranted.{HasLine, granted-there}
use Rattle.ace_home.specs.Among.{EnabledAmong, HasHolders, PortSets, has_snoop_among, may_snoop_among}
use Rattle.ace_home.proofs.Among.{enabled-but-snoops, enabled-by-snoops, enabled-stays}

-- a port of the header is enabled
abbrev pub SomeEnabledAmong : PortSets → Plan → Trace → Type 0
SomeEnabledAmong among plan past = (p : ℕ) × (p < plan.header.ports) × EnabledAmong among plan past p

some-snoop : (o : Option Snoop) → is_none o ≡ false → (s : Snoop) × (o ≡ Some s)
some-snoop None f = cc
some-snoop (Some s) f = (s, refl)

no-snoop : (o : Option Snoop) → is_none o ≡ true → o ≡ None
no-snoop None t = refl
no-snoop (Some s) t = cc

some-kind : (o : Option SnoopKind) → is_none o ≡ false → (k : SnoopKind) × (o ≡ Some k)
some-kind None f = cc
some-kind (Some k) f = (k, refl)

unless : (a b : Bool) → implies a b ≡ false → (a ≡ true) × (b ≡ false)
unless true b f = (refl, f)
unless false b f = cc

module _ (among : PortSets) (plan : Plan) (past : Trace) (s : AreSteps plan past) (holders : HasHolders among plan.header past) where
  abbrev h : Header
  h = plan.header

  abbrev Moves : Type 0
  Moves = SomeEnabledAmong among plan past

  accepted : IsAccepted plan.header past
  accepted = steps-accepted plan past s

  -- the port of the transaction is enabled by a step that isn't step 6
  here : (numbers : List ℕ) → list_any (λ n. n == 6) numbers ≡ false → (x : Transaction) → HasLine plan.header past x.addr x → is_enabled_by numbers plan past x.port ≡ true → Moves
  here numbers none x line on =
      (x.port, ltb-true x.port h.ports (issuer-low h past x accepted line.issued), enabled-stays among plan past x.port numbers none on)

  -- ---- a snoop ----

  -- a port that has a write of the line with B and without WK is enabled by step 4
  wack-moves : (q l : ℕ) → q < plan.header.ports → owes_wack plan.header past q l ≡ true → Moves
  wack-moves q l low owes =
      let y = some_issued-is past (awaits_wack h past q l) owes in
      let two = and_parts (is_outstanding_on h past q l y.0 && not (is_read y.0.chan)) (is_complete past y.0.port y.0.chan y.0.id) y.2 in
      let on = (and_parts (is_outstanding_on h past q l y.0) (not (is_read y.0.chan)) two.0).0 in
      let out = and_parts ((y.0.port == q) && is_on y.0 l) (is_outstanding h past y.0) on in
      let port = eqb-true y.0.port q (and_parts (y.0.port == q) (is_on y.0 l) out.0).0 in (
        q,
        low,
        enabled-stays among plan past q (4 ∷ []) refl (subst (λ r. is_enabled_by (4 ∷ []) plan past r ≡ true) port
            (complete-enabled plan past y.0.port y.0.chan y.0.id y.0 s (outstanding_is h past y.0 y.1 out.1) two.1)),
      )

  -- the transaction may snoop a port of the set
  snoop-moves : (x : Transaction) (k : SnoopKind) (q : ℕ) → HasLine plan.header past x.addr x → snoop_of x ≡ Some k → q < plan.header.ports → among x.addr q ≡ true
      → is_kept plan.header past (snoop_for x k q) ≡ true → Moves
  snoop-moves x k q line caused low own is =
      let some = any-port h.ports (λ r. among x.addr r && is_kept h past (snoop_for x k r)) q low (and_from _ _ own is) in
      let of_kind : is_some_and (snoop_of x) (λ k. list_any (λ r. among x.addr r && is_kept h past (snoop_for x k r)) (ports_below h.ports)) ≡ true =
      ap (λ o. is_some_and o (λ k. list_any (λ r. among x.addr r && is_kept h past (snoop_for x k r)) (ports_below h.ports))) caused ∙ some in
      let may : may_snoop_among among h past x.port ≡ true =
      some_issued-found past (λ y. (y.port == x.port) && is_outstanding h past y && has_snoop_among among h past y) x.place x line.issued.there
      (and_from _ _ (and_from _ _ (eq-eqb x.port x.port refl) line.is_out) (and_from _ _ line.is of_kind)) in
      (x.port, ltb-true x.port h.ports (issuer-low h past x accepted line.issued), enabled-by-snoops among plan past x.port may)

  -- the snoops of a granted transaction that hasn't begun aren't done: another ACE port that holds the line wasn't snooped
  snoops-move : (x : Transaction) → ((q : ℕ) → nat_lt q plan.header.ports ≡ true → answered past q ≡ None) → HasLine plan.header past x.addr x → is_begun past x ≡ false
      → are_snoops_done plan.header past x ≡ false → Moves
  snoops-move x none line unbegun undone =
      let two = or_parts (is_none (snoop_of x) || has_failed past x) (list_all (is_port_done h past x) (ports_below h.ports)) undone in
      let one = or_parts (is_none (snoop_of x)) (has_failed past x) two.0 in
      let k = some-kind (snoop_of x) one.0 in
      let port = failing-port h.ports (is_port_done h past x) two.1 in
      let q = port.0 in
      let low = lt-ltb q h.ports port.1 in
      let no_answer : owes_answer past q x.addr ≡ false = answered-all h past q x.addr accepted (none q low) in
      let no_data : owes_data past q x.addr ≡ false = no-data-owed plan past q x.addr s in
      let lacks = port.2 in
      let rest : ((q == x.port) || not (is_ace h q) || is_invalid (state_of h past q x.addr) || was_snooped past q x.addr) ≡ false = rw (no_answer, no_data) at lacks in
      let c = or_parts ((q == x.port) || not (is_ace h q) || is_invalid (state_of h past q x.addr)) (was_snooped past q x.addr) rest in
      let b = or_parts ((q == x.port) || not (is_ace h q)) (is_invalid (state_of h past q x.addr)) c.0 in
      let a = or_parts (q == x.port) (not (is_ace h q)) b.0 in
      let ace = not-false (is_ace h q) a.1 in
      elim (cases_Bool (owes_wack h past q x.addr)) [
        | inl owes ↦ wack-moves q x.addr port.1 owes
        | inr owes_none ↦
            let m : MaySnoop h past x q = record { other = eqb-swap x.port q ∙ a.0; ace = ace; unsnooped = c.1; acknowledged = owes_none; whole = next-not-second plan past q s low } in
            let is_line_one = (and_parts (is_line x) (x.addr == x.addr) line.on).0 in
            let is = snoop-kept h past x k.0 q accepted line.issued is_line_one line.holds k.1 one.1 unbegun m in
            snoop-moves x k.0 q line k.1 port.1 (holders x.addr q ace (λ e. let bad : true ≡ false = sym (ap is_invalid e) ∙ b.1 in cc)) is
      ]

  -- ---- a granted transaction ----

  module _ (none : (q : ℕ) → nat_lt q plan.header.ports ≡ true → answered past q ≡ None) where
    write-moves : (x : Transaction) → HasLine plan.header past x.addr x → is_read x.chan ≡ false → is_complete past x.port x.chan x.id ≡ false → Moves
    write-moves x line writes undone =
        let k = granted_write x (granted_given h past accepted x.addr x line.holds).kind writes in
        let sends : is_some_and (write_kind x) has_write_data ≡ true = ap (λ o. is_some_and o has_write_data) k.1 ∙ granted_data k.0 k.2 in
        elim (cases_Bool (is_burst_whole past x)) [
          | inr part ↦ here (2 ∷ []) refl x line (unsent-burst-enabled plan past x s line.issued sends part)
          | inl whole ↦ elim (cases_Bool (are_snoops_done h past x)) [
            | inl done ↦ here (9 ∷ []) refl x line (granted-write-moves plan past x.addr x s line writes undone whole done)
            | inr unsnooped ↦
                let unwritten = undone-unwritten plan past x s writes undone in
                snoops-move x none line (rw writes unwritten) unsnooped
          ]
        ]

    read-moves : (x : Transaction) → HasLine plan.header past x.addr x → is_read x.chan ≡ true → is_complete past x.port x.chan x.id ≡ false → Moves
    read-moves x line is undone =
        elim (cases_Bool (transfers past x.port x.id == 0)) [
          | inr some ↦ here (8 ∷ []) refl x line (begun-read-moves plan past x s line is some undone)
          | inl first ↦ elim (cases_Bool (are_snoops_done h past x)) [
            | inr unsnooped ↦ snoops-move x none line (rw is (ap not first)) unsnooped
            | inl done ↦ elim (cases_Bool (implies (has_passed_data h past x) (takes_dirt h past x))) [
              | inl takes ↦ here (8 ∷ []) refl x line (unbegun-read-moves plan past x s line is first done takes)
              | inr lacks ↦
                  let parts = unless (has_passed_data h past x) (takes_dirt h past x) lacks in
                  here (7 ∷ []) refl x line (passed-data-move plan past x s line is parts.0 parts.1 first)
            ]
          ]
        ]

    granted-moves : (x : Transaction) → HasLine plan.header past x.addr x → Moves
    granted-moves x line =
        elim (cases_Bool (is_complete past x.port x.chan x.id)) [
          | inl done ↦ here (4 ∷ []) refl x line (complete-enabled plan past x.port x.chan x.id x s line.out done)
          | inr undone ↦ elim (cases_Bool (is_read x.chan)) [
            | inl is ↦ read-moves x line is undone
            | inr writes ↦ write-moves x line writes undone
          ]
        ]

    -- the transactions of a port may snoop
    snooping-moves : (p : ℕ) → may_snoop plan.header past p ≡ true → Moves
    snooping-moves p may =
        let x = some_issued-is past
        (λ y. (y.port == p) && is_outstanding h past y
        && (is_granted h past y && is_some_and (snoop_of y) (λ k. list_any (λ q. is_kept h past (snoop_for y k q)) (ports_below h.ports)))) may in
        let parts = and_parts ((x.0.port == p) && is_outstanding h past x.0) _ x.2 in
        let out = (and_parts (x.0.port == p) (is_outstanding h past x.0) parts.0).1 in
        let has = (and_parts (is_granted h past x.0) _ parts.1).0 in
        let named = outstanding_is h past x.0 x.1 out in
        granted-moves x.0 (granted-there h past x.0.addr x.0 accepted (granted_at h past accepted x.0.port x.0.chan x.0.id x.0 named has))

  -- a port with an unanswered snoop is enabled
  unanswered-moves : (q : ℕ) → q < plan.header.ports → (n : Snoop) → answered past q ≡ Some n → Moves
  unanswered-moves q low n is =
      elim (unanswered-snoop plan past q n s is) [
        | inl now ↦ (q, low, enabled-stays among plan past q (1 ∷ []) refl now)
        | inr waits ↦ (q, low, enabled-stays among plan past q (2 ∷ 3 ∷ 4 ∷ 7 ∷ []) refl waits.2)
      ]

  -- A run that isn't done has a port that is enabled.
  pub goes-on-among : IsRight plan → FollowsSoFar plan past → (Done plan past → ⊥) → SomeEnabledAmong among plan past
  goes-on-among right follows undone =
      let some = goes-on-until-done plan past right s follows undone in
      let n = plan.header.ports in
      elim (enabled-but-snoops among plan past some.0 some.2) [
        | inl other ↦ (some.0, some.1, other)
        | inr may ↦ elim (cases_Bool (list_all (λ q. is_none (answered past q)) (ports_below n))) [
          | inl all ↦ snooping-moves (λ q low. no-snoop (answered past q) (each_at n (λ q. is_none (answered past q)) q all (ltb-true q n low))) some.0 may
          | inr one ↦
              let q = failing-port n (λ q. is_none (answered past q)) one in
              let snoop = some-snoop (answered past q.0) q.2 in
              unanswered-moves q.0 q.1 snoop.0 snoop.1
        ]
      ]
