-- Lines whose granted transactions are held up: how long they stay so, and that no step may be taken for a transaction of one.
use Rattle.std.proofs.Common.{◌≡◌, ◌⊎◌, ℕ, Bool, true, false, not, ◌&&◌, ◌==◌, ◌∷◌, length, Option, Some, None, is_some, option_map, refl, sym, ap, ◌∙◌, inl, inr}
use Rattle.std.specs.List.{list_any}
use Rattle.std.proofs.lemmas.Bool.{and_from, and_parts, cases_Bool, cases_eq, eq-eqb, eqb-true, false_from_ne_true, ltb-true, not-true, or_cases, or_left, or_right}
use Rattle.ace_codes.specs.declared.kind.SnoopKind.{SnoopKind}
use Rattle.ace_codes.specs.Snoops.{ac_code}
use Rattle.ace_event.specs.declared.event.Channel.{Channel}
use Rattle.ace_event.specs.declared.event.Channel.TheVariants.{Read, Write}
use Rattle.ace_event.specs.declared.event.Event.{Event}
use Rattle.ace_event.specs.declared.event.Event.TheVariants.{Ac, B, Cd, Cr, D, G, M, R, Rk, S, Wk}
use Rattle.ace_event.specs.declared.line.Line.{Line}
use Rattle.ace_codes.specs.declared.state.LineState.{LineState}
use Rattle.ace_event.specs.declared.header.Header.{Header}
use Rattle.ace_tables.specs.States.{is_invalid}
use Rattle.ace_model.specs.declared.transactions.Transaction.{Transaction}
use Rattle.ace_model.specs.Accepted.{IsAccepted, least_broken}
use Rattle.ace_model.specs.Exclusives.{has_failed}
use Rattle.ace_model.specs.Grants.{granted, has_grant, has_passed_data, has_sharer, is_begun, is_granted, owes_answer, owes_data, ports_below, was_snooped}
use Rattle.ace_model.specs.Kinds.{is_line_snoop, is_read_not_shared_dirty, takes_passed_data}
use Rattle.ace_model.specs.SnoopRules.{has_snoop_code, may_snoop, may_snoop_for}
use Rattle.ace_model.specs.States.{are_snoops_done, is_port_done, owes_wack, state_of}
use Rattle.ace_model.specs.Trace.{Trace, is_some_and}
use Rattle.ace_model.specs.Snoops.{snoops_a_line}
use Rattle.ace_model.specs.Transactions.{ended, is_ace, is_line, is_read, read_kind, snoop_of, transfers}
use Rattle.ace_model.specs.declared.snoops.Snoop.{Snoop}
use Rattle.ace_model.proofs.General.Booleans.{implies-at}
use Rattle.ace_model.proofs.General.Options.{Some-injective, is_some_and-is}
use Rattle.ace_model.proofs.General.Ports.{each_at}
use Rattle.ace_model.proofs.Rules.Keeps.{accepted_keeps}
use Rattle.ace_model.proofs.Tables.ReadSnoops.{kind_of_code}
use Rattle.ace_model.proofs.Trace.Looks.{is_on-addr, snoops_done-ports}
use Rattle.ace_portck.specs.declared.target.Progress.{Progress}
use Rattle.ace_portck.specs.Targets.{line_in, line_of, line_of_snoop, snoop_in}
use Rattle.ace_lineck.proofs.GrantFrame.{grant_stays, line-of_granted}
use Rattle.ace_lineck.proofs.GrantLaws.{unsnooped-is}
use Rattle.ace_lineck.proofs.GrantSteps.{calm-granted, is_calm, serves}
use Rattle.ace_lineck.specs.declared.grant.Grant.{Grant}
use Rattle.ace_lineck.specs.Grants.{GrantStands}
use Rattle.ace_lineck.specs.Kept.{is_unsnooped}
use Rattle.ace_lineck.specs.Waiting.{has_unsnooped, is_answering, is_unsnooped_beside}
use Rattle.ace_lineck.proofs.LineLooks.{passed-look}
use Rattle.ace_lineck.proofs.OffLine.{off-state}
use Rattle.ace_lineck.proofs.WaitingLooks.{answering-law, answering-undone, some-at, some-found}
use Rattle.ace_runs.specs.Bursts.{is_kept}
use Rattle.ace_runs.specs.LineSteps.{snoop_for, takes_dirt}
use Rattle.ace_runs.proofs.Accepting.{kept-breaks-none}
use Rattle.ace_runs.proofs.NeverStuck.Forwarding.Steps.{caused-line}
use Rattle.ace_home.specs.Among.{PortSets}
use Rattle.ace_home.specs.HeldUp.{IsHeldUp, IsStill, has_left, has_unsnooped_holder, is_left, is_stuck, is_stuck_read, is_unsnooped_holder}
use Rattle.ace_home.specs.Home.{IsOf}
use Rattle.ace_home.specs.Services.{TakesNoneBelow, all_steps, has_snoop}
use Rattle.ace_home.proofs.Among.{fewer-snoops}
use Rattle.ace_home.proofs.Ending.{holds-store, owes-calm, owes-off}
use Rattle.ace_home.proofs.FirstEvents.{grant-had, passed-unstuck, read-no-write, transfer-undone, write-no-passed, write-no-transfer, write-undone}
use Rattle.ace_home.proofs.Firsts.{takes-none}
use Rattle.ace_home.proofs.Outstanding.{granted-line}

-- ---- which lines an event may move -------------------------------------------------------------------

-- what stands of another line than the event's stays
pub still-off : (h : Header) (past : Trace) (e : Event) (l : ℕ) (line : Option ℕ) → IsAccepted h (e ∷ past) → (line_in h past e ≡ Some l → line ≡ Some l)
    → (line ≡ Some l → ⊥) → IsStill h past e l
still-off h past e l line a on off = record {
  grant = λ g stands. grant_stays h past e a l g (λ here. off (on here)) stands;
  owes = λ q. owes-off h past e a q l (λ here. off (on here));
  holds = λ q held. ap is_invalid (off-state h past e a q l (λ _ here. off (on here))) ∙ held;
}

-- It is none of the kinds that may move what stands of a line.
pub record IsCalm (e : Event) : Type 0 where
  pub read : (p i resp : ℕ) (last : Bool) (word : ℕ) → e ≡ R p i resp last word → ⊥
  pub read_end : (p : ℕ) (st : LineState) → e ≡ Rk p st → ⊥
  pub response : (p i resp : ℕ) → e ≡ B p i resp → ⊥
  pub write_end : (p : ℕ) (st : LineState) → e ≡ Wk p st → ⊥
  pub snoop : (p addr snoop : ℕ) → e ≡ Ac p addr snoop → ⊥
  pub answer : (p resp : ℕ) (st : LineState) → e ≡ Cr p resp st → ⊥
  pub sent : (p : ℕ) (last : Bool) (word : ℕ) → e ≡ Cd p last word → ⊥
  pub grant : (p : ℕ) (c : Channel) (i : ℕ) → e ≡ G p c i → ⊥
  pub memory : (p : ℕ) (c : Channel) (i : ℕ) (line : Line) → e ≡ M p c i line → ⊥
  pub silent : (p addr : ℕ) (st : LineState) → e ≡ S p addr st → ⊥

calm-is : (e : Event) → IsCalm e → is_calm e ≡ true
calm-is (Ac p addr snoop) calm = absurd (calm.snoop p addr snoop refl)
calm-is (Cr p resp st) calm = absurd (calm.answer p resp st refl)
calm-is (Cd p last word) calm = absurd (calm.sent p last word refl)
calm-is (G p c i) calm = absurd (calm.grant p c i refl)
calm-is e calm = refl

calm-idle : (e : Event) → IsCalm e → serves e ≡ false
calm-idle (R p i resp last word) calm = absurd (calm.read p i resp last word refl)
calm-idle (M p c i line) calm = absurd (calm.memory p c i line refl)
calm-idle e calm = refl

calm-ends : (h : Header) (past : Trace) (e : Event) → IsCalm e → ended h past e ≡ None
calm-ends h past (Rk p st) calm = absurd (calm.read_end p st refl)
calm-ends h past (Wk p st) calm = absurd (calm.write_end p st refl)
calm-ends h past (R p i resp last word) calm = absurd (calm.read p i resp last word refl)
calm-ends h past (B p i resp) calm = absurd (calm.response p i resp refl)
calm-ends h past e calm = refl

calm-holds : (h : Header) (past : Trace) (e : Event) (q l : ℕ) → IsCalm e → is_invalid (state_of h past q l) ≡ false → is_invalid (state_of h (e ∷ past) q l) ≡ false
calm-holds h past (Rk p st) q l calm held = absurd (calm.read_end p st refl)
calm-holds h past (Wk p st) q l calm held = absurd (calm.write_end p st refl)
calm-holds h past (Cr p resp st) q l calm held = absurd (calm.answer p resp st refl)
calm-holds h past (S p addr st) q l calm held = absurd (calm.silent p addr st refl)
calm-holds h past (D p addr strobe x line) q l calm held = holds-store h past p addr strobe x line q l held
calm-holds h past e q l calm held = held

-- and so it does with an event of another kind
pub still-calm : (h : Header) (past : Trace) (e : Event) (l : ℕ) → IsAccepted h (e ∷ past) → IsCalm e → IsStill h past e l
still-calm h past e l a calm = record {
  grant = λ g stands. calm-granted h past e l g a (calm-is e calm) (calm-idle e calm) (calm-ends h past e calm) stands;
  owes = λ q. owes-calm h past e a q l (calm-ends h past e calm);
  holds = λ q. calm-holds h past e q l calm;
}

pub on-transaction : (o : Option Progress) (l : ℕ) → line_of o ≡ Some l → option_map (λ (v : Progress). v.transaction.addr) o ≡ Some l
on-transaction None l on = cc
on-transaction (Some x) l on = elim (cases_Bool (is_line x.transaction)) [ inl t ↦ rw t at on | inr f ↦ let bad : None ≡ Some l = rw f at on in cc ]

pub on-snoop : (o : Option Snoop) (l : ℕ) → line_of_snoop o ≡ Some l → option_map (λ (s : Snoop). s.addr) o ≡ Some l
on-snoop None l on = cc
on-snoop (Some s) l on = elim (cases_Bool (snoops_a_line s.snoop)) [ inl t ↦ rw t at on | inr f ↦ let bad : None ≡ Some l = rw f at on in cc ]

pub on-address : (h : Header) (past : Trace) (p addr snoop l : ℕ) → line_in h past (Ac p addr snoop) ≡ Some l → Some addr ≡ Some l
on-address h past p addr snoop l on =
    let s : Snoop = record { place = length past; addr = addr; snoop = snoop } in
    let own : snoop_in past (Ac p addr snoop) ≡ Some s = rw (eq-eqb p p refl) refl in
    on-snoop (Some s) l (sym (ap line_of_snoop own) ∙ on)

pub on-silent : (h : Header) (past : Trace) (p addr l : ℕ) (st : LineState) → line_in h past (S p addr st) ≡ Some l → Some addr ≡ Some l
on-silent h past p addr l st on = on

-- it is this line or isn't
pub line-or-not : (o : Option ℕ) (l : ℕ) → (o ≡ Some l) ⊎ (o ≡ Some l → ⊥)
line-or-not None l = inr (λ is. cc)
line-or-not (Some k) l = elim (cases_eq k l) [
  | inl same ↦ inl (ap Some same)
  | inr other ↦ inr (λ is. other (Some-injective k l is))
]

-- ---- how long a line is held up ----------------------------------------------------------------------

-- without passed data it isn't stuck, nor is a write, nor a read that can take them
module _ (h : Header) (past : Trace) (l : ℕ) where
  off : (b c : Bool) → (b && false && c) ≡ false
  off true c = refl
  off false c = refl

  none-and : (b : Bool) → (b && false) ≡ false
  none-and true = refl
  none-and false = refl

  pub unpassed-unstuck : is_some_and (granted h past l) (has_passed_data h past) ≡ false → is_stuck h past l ≡ false
  unpassed-unstuck = by (granted h past l)
    where
      by : (o : Option Transaction) → is_some_and o (has_passed_data h past) ≡ false → is_some_and o (is_stuck_read h past) ≡ false
      by None f = refl
      by (Some x) f = ap (λ b. is_read x.chan && b && not (takes_dirt h past x)) f ∙ off (is_read x.chan) (not (takes_dirt h past x))

  pub free-unstuck : None ≡ granted h past l → is_stuck h past l ≡ false
  free-unstuck free = ap (λ o. is_some_and o (is_stuck_read h past)) (sym free)

  pub write-unstuck : (x : Transaction) → Some x ≡ granted h past l → x.chan ≡ Write → is_stuck h past l ≡ false
  write-unstuck x is chan =
      ap (λ o. is_some_and o (is_stuck_read h past)) (sym is) ∙ ap (λ (c : Channel). is_read c && has_passed_data h past x && not (takes_dirt h past x)) chan

  pub taking-unstuck : (x : Transaction) → Some x ≡ granted h past l → takes_dirt h past x ≡ true → is_stuck h past l ≡ false
  taking-unstuck x is takes =
      ap (λ o. is_some_and o (is_stuck_read h past)) (sym is) ∙ ap (λ b. is_read x.chan && has_passed_data h past x && not b) takes
      ∙ none-and (is_read x.chan && has_passed_data h past x)

-- whether the granted transaction is stuck is told by what stands under the grant
stuck-same : (h : Header) (past : Trace) (e : Event) (l : ℕ) (g : Option Grant) → IsAccepted h (e ∷ past) → GrantStands h past l g → GrantStands h (e ∷ past) l g
    → is_stuck h (e ∷ past) l ≡ is_stuck h past l
stuck-same h past e l None a before after = ap (λ o. is_some_and o (is_stuck_read h (e ∷ past))) after ∙ sym (ap (λ o. is_some_and o (is_stuck_read h past)) before)
stuck-same h past e l (Some g) a before after =
    let x = g.transaction in
    let addr = is_on-addr x l (line-of_granted h past l a.0 x before.granted).1 in
    let here : granted h past x.addr ≡ Some x = ap (granted h past) addr ∙ before.granted in
    let there : granted h (e ∷ past) x.addr ≡ Some x = ap (granted h (e ∷ past)) addr ∙ after.granted in
    let passed : has_passed_data h (e ∷ past) x ≡ has_passed_data h past x =
    sym (ap (λ o. is_some_and o (has_passed_data h (e ∷ past))) after.granted) ∙ sym (passed-look h (e ∷ past) a l (Some g) after)
    ∙ passed-look h past a.0 l (Some g) before ∙ ap (λ o. is_some_and o (has_passed_data h past)) before.granted in
    let shared : has_sharer h (e ∷ past) x.addr ≡ has_sharer h past x.addr = ap (has_sharer h (e ∷ past)) addr ∙ sym after.shared ∙ before.shared ∙ ap (has_sharer h past) (sym addr) in
    let takes : takes_dirt h (e ∷ past) x ≡ takes_dirt h past x =
    ap (λ b. is_some_and (read_kind x) (λ k. takes_passed_data k && not (is_read_not_shared_dirty k && b))) shared in
    ap (λ o. is_some_and o (is_stuck_read h (e ∷ past))) after.granted
    ∙ ap (λ b. is_read x.chan && b && not (takes_dirt h (e ∷ past) x)) passed ∙ ap (λ b. is_read x.chan && has_passed_data h past x && not b) takes
    ∙ sym (ap (λ o. is_some_and o (is_stuck_read h past)) before.granted)

module _ (h : Header) (past : Trace) (e : Event) (a : IsAccepted h (e ∷ past)) (l : ℕ) (still : IsStill h past e l) where
  -- a port that wasn't snooped wasn't so before, and it is so still
  module _ (g : Grant) (before : GrantStands h past l (Some g)) (q : ℕ) where
    snooped-same : was_snooped (e ∷ past) q l ≡ was_snooped past q l
    snooped-same =
        let after = still.grant (Some g) before in
        not-injective (was_snooped (e ∷ past) q l) (was_snooped past q l)
        (sym (unsnooped-is h (e ∷ past) a q l) ∙ ap is_unsnooped (sym (after.stages q) ∙ before.stages q) ∙ unsnooped-is h past a.0 q l)
      where
        not-injective : (b c : Bool) → not b ≡ not c → b ≡ c
        not-injective true true is = refl
        not-injective false false is = refl
        not-injective b c is = cc

    beside-same : is_unsnooped_beside h (e ∷ past) l g.transaction q ≡ is_unsnooped_beside h past l g.transaction q
    beside-same = ap (λ b. is_ace h q && not (q == g.transaction.port) && not b) snooped-same

    left-before : is_left h (e ∷ past) l g.transaction q ≡ true → is_left h past l g.transaction q ≡ true
    left-before t =
        let both = and_parts (is_unsnooped_beside h (e ∷ past) l g.transaction q) (not (owes_wack h (e ∷ past) q l)) t in
        let none = not-true (owes_wack h (e ∷ past) q l) both.1 in
        let was = false_from_ne_true (owes_wack h past q l) (λ owes. let bad : true ≡ false = sym (still.owes q owes) ∙ none in cc) in
        and_from _ _ (sym beside-same ∙ both.0) (ap not was)

    holder-after : is_unsnooped_holder h past l g.transaction q ≡ true → is_unsnooped_holder h (e ∷ past) l g.transaction q ≡ true
    holder-after t =
        let both = and_parts (is_unsnooped_beside h past l g.transaction q) (not (is_invalid (state_of h past q l))) t in
        and_from _ _ (beside-same ∙ both.0) (ap not (still.holds q (not-true (is_invalid (state_of h past q l)) both.1)))

  module _ (g : Option Grant) (before : GrantStands h past l g) where
    answering-same : is_answering h (e ∷ past) l ≡ is_answering h past l
    answering-same = sym (answering-law h (e ∷ past) a l g (still.grant g before)) ∙ answering-law h past a.0 l g before

  left-after : (g : Option Grant) → GrantStands h past l g → has_left h past l ≡ false → has_left h (e ∷ past) l ≡ false
  left-after None before f = ap (λ o. is_some_and o (λ x. not (is_begun (e ∷ past) x) && list_any (is_left h (e ∷ past) l x) (ports_below h.ports))) (still.grant None before)
  left-after (Some g) before f =
      let after = still.grant (Some g) before in
      let x = g.transaction in
      false_from_ne_true (has_left h (e ∷ past) l) (λ t.
      let now : (not (is_begun (e ∷ past) x) && list_any (is_left h (e ∷ past) l x) (ports_below h.ports)) ≡ true =
      sym (ap (λ o. is_some_and o (λ x. not (is_begun (e ∷ past) x) && list_any (is_left h (e ∷ past) l x) (ports_below h.ports))) after.granted) ∙ t in
      let both = and_parts (not (is_begun (e ∷ past) x)) (list_any (is_left h (e ∷ past) l x) (ports_below h.ports)) now in
      let q = some-found h.ports (is_left h (e ∷ past) l x) both.1 in
      let unbegun : not (is_begun past x) ≡ true = ap not (sym before.begun ∙ after.begun) ∙ both.0 in
      let some = some-at h.ports (is_left h past l x) q.0 (left-before g before q.0 q.1) q.2 in
      let was : has_left h past l ≡ true =
      ap (λ o. is_some_and o (λ x. not (is_begun past x) && list_any (is_left h past l x) (ports_below h.ports))) before.granted ∙ and_from _ _ unbegun some in
      let bad : true ≡ false = sym was ∙ f in cc)

  holders-after : (g : Option Grant) → GrantStands h past l g → has_unsnooped_holder h past l ≡ true → has_unsnooped_holder h (e ∷ past) l ≡ true
  holders-after None before t =
      let none = ap (λ o. is_some_and o (λ x. is_some (snoop_of x) && list_any (is_unsnooped_holder h past l x) (ports_below h.ports))) before in
      let bad : true ≡ false = sym t ∙ none in cc
  holders-after (Some g) before t =
      let after = still.grant (Some g) before in
      let x = g.transaction in
      let was : (is_some (snoop_of x) && list_any (is_unsnooped_holder h past l x) (ports_below h.ports)) ≡ true =
      sym (ap (λ o. is_some_and o (λ x. is_some (snoop_of x) && list_any (is_unsnooped_holder h past l x) (ports_below h.ports))) before.granted) ∙ t in
      let both = and_parts (is_some (snoop_of x)) (list_any (is_unsnooped_holder h past l x) (ports_below h.ports)) was in
      let q = some-found h.ports (is_unsnooped_holder h past l x) both.1 in
      let some = some-at h.ports (is_unsnooped_holder h (e ∷ past) l x) q.0 (holder-after g before q.0 q.1) q.2 in
      ap (λ o. is_some_and o (λ x. is_some (snoop_of x) && list_any (is_unsnooped_holder h (e ∷ past) l x) (ports_below h.ports))) after.granted ∙ and_from _ _ both.0 some

  -- it stays so with an event that leaves what stands of the line
  pub held-stays : (g : Option Grant) → GrantStands h past l g → IsHeldUp h past l → IsHeldUp h (e ∷ past) l
  held-stays g before held = record {
    undone = elim (or_cases (is_answering h past l) (has_unsnooped_holder h past l) held.undone) [
      | inl answering ↦ or_left (is_answering h (e ∷ past) l) (has_unsnooped_holder h (e ∷ past) l) (answering-same g before ∙ answering)
      | inr holder ↦ or_right (is_answering h (e ∷ past) l) (has_unsnooped_holder h (e ∷ past) l) (holders-after g before holder)
    ];
    snooped = left-after g before held.snooped;
    unstuck = stuck-same h past e l g a before (still.grant g before) ∙ held.unstuck;
  }

-- ---- no step as long as it is ------------------------------------------------------------------------

-- where each port was snooped, none is left
pub snooped-none-left : (h : Header) (past : Trace) (l : ℕ) → has_unsnooped h past l ≡ false → has_left h past l ≡ false
snooped-none-left h past l f = by (granted h past l) f
  where
    by : (o : Option Transaction) → is_some_and o (λ x. not (is_begun past x) && list_any (is_unsnooped_beside h past l x) (ports_below h.ports)) ≡ false
        → is_some_and o (λ x. not (is_begun past x) && list_any (is_left h past l x) (ports_below h.ports)) ≡ false
    by None f = refl
    by (Some x) f =
        false_from_ne_true (not (is_begun past x) && list_any (is_left h past l x) (ports_below h.ports)) (λ t.
        let both = and_parts (not (is_begun past x)) (list_any (is_left h past l x) (ports_below h.ports)) t in
        let q = some-found h.ports (is_left h past l x) both.1 in
        let beside = (and_parts (is_unsnooped_beside h past l x q.0) (not (owes_wack h past q.0 l)) q.1).0 in
        let yes = and_from _ _ both.0 (some-at h.ports (is_unsnooped_beside h past l x) q.0 beside q.2) in
        let bad : true ≡ false = sym yes ∙ f in cc)

module _ (h : Header) (past : Trace) (a : IsAccepted h past) where
  -- a holder that wasn't snooped keeps the snoops from being done
  holder-undone : (x : Transaction) → granted h past x.addr ≡ Some x → has_failed past x ≡ false → has_unsnooped_holder h past x.addr ≡ true → are_snoops_done h past x ≡ false
  holder-undone x g unfailed t =
      let now : (is_some (snoop_of x) && list_any (is_unsnooped_holder h past x.addr x) (ports_below h.ports)) ≡ true =
      sym (ap (λ o. is_some_and o (λ y. is_some (snoop_of y) && list_any (is_unsnooped_holder h past x.addr y) (ports_below h.ports))) g) ∙ t in
      let both = and_parts (is_some (snoop_of x)) (list_any (is_unsnooped_holder h past x.addr x) (ports_below h.ports)) now in
      let r = some-found h.ports (is_unsnooped_holder h past x.addr x) both.1 in
      let q = r.0 in
      let two = and_parts (is_unsnooped_beside h past x.addr x q) (not (is_invalid (state_of h past q x.addr))) r.1 in
      let one = and_parts (is_ace h q && not (q == x.port)) (not (was_snooped past q x.addr)) two.0 in
      let apart = and_parts (is_ace h q) (not (q == x.port)) one.0 in
      let k = kind-of (snoop_of x) both.0 in
      false_from_ne_true (are_snoops_done h past x) (λ done.
      let each = each_at h.ports (is_port_done h past x) q (snoops_done-ports h past x k.0 k.1 unfailed done) r.2 in
      let rest = (and_parts (not (owes_answer past q x.addr) && not (owes_data past q x.addr)) _ each).1 in
      let other = not-true (q == x.port) apart.1 in
      let ace = apart.0 in
      let held = not-true (is_invalid (state_of h past q x.addr)) two.1 in
      let unsnooped = not-true (was_snooped past q x.addr) one.1 in
      let bad : false ≡ true = rw (other, ace, held, unsnooped) at rest in cc)
    where
      kind-of : (o : Option SnoopKind) → is_some o ≡ true → (k : SnoopKind) × (o ≡ Some k)
      kind-of None t = cc
      kind-of (Some k) t = (k, refl)

  held-undone : (x : Transaction) → granted h past x.addr ≡ Some x → has_failed past x ≡ false → IsHeldUp h past x.addr → are_snoops_done h past x ≡ false
  held-undone x g unfailed held = elim (or_cases (is_answering h past x.addr) (has_unsnooped_holder h past x.addr) held.undone) [
    | inl answering ↦ answering-undone h past a x g unfailed answering
    | inr holder ↦ holder-undone x g unfailed holder
  ]

  -- where no port is left, each snoop of the line breaks a rule
  none-left-snoop : (q l snoop : ℕ) → snoops_a_line snoop ≡ true → has_left h past l ≡ false → least_broken h past (Ac q l snoop) ≡ None → ⊥
  none-left-snoop q l snoop line f kept =
      let keeps = accepted_keeps h past (Ac q l snoop) (a, kept) in
      let may = implies-at (snoops_a_line snoop) (may_snoop h past q l snoop) keeps.rule_13 line in
      let three = and_parts (is_some_and (granted h past l) (λ y. may_snoop_for past y q snoop) && not (was_snooped past q l)) (not (owes_wack h past q l)) may in
      let four = and_parts (is_some_and (granted h past l) (λ y. may_snoop_for past y q snoop)) (not (was_snooped past q l)) three.0 in
      let x = is_some_and-is (granted h past l) (λ y. may_snoop_for past y q snoop) four.0 in
      let five = and_parts ((not (x.0.port == q) && has_snoop_code x.0 snoop) && not (has_failed past x.0)) (not (is_begun past x.0)) x.2 in
      let six = and_parts (not (x.0.port == q) && has_snoop_code x.0 snoop) (not (has_failed past x.0)) five.0 in
      let other = (and_parts (not (x.0.port == q)) (has_snoop_code x.0 snoop) six.0).0 in
      let ace = (and_parts _ (is_ace h q) keeps.rule_1).1 in
      let low = ltb-true q h.ports (and_parts _ _ ace).0 in
      let beside : is_unsnooped_beside h past l x.0 q ≡ true = and_from _ _ (and_from _ _ ace (turned x.0.port q other)) four.1 in
      let some = and_from _ _ five.1 (some-at h.ports (is_left h past l x.0) q (and_from _ _ beside three.1) low) in
      let yes : has_left h past l ≡ true = ap (λ o. is_some_and o (λ y. not (is_begun past y) && list_any (is_left h past l y) (ports_below h.ports))) x.1 ∙ some in
      let bad : false ≡ true = sym f ∙ yes in cc
    where
      turned : (m n : ℕ) → not (m == n) ≡ true → not (n == m) ≡ true
      turned m n t = elim (cases_Bool (n == m)) [
        | inr f ↦ ap not f
        | inl same ↦ let back : (m == n) ≡ true = eq-eqb m n (sym (eqb-true n m same)) in let bad : false ≡ true = rw back at t in cc
      ]

  none-left : (x : Transaction) → has_left h past x.addr ≡ false → has_snoop h past x ≡ false
  none-left x over =
      false_from_ne_true (has_snoop h past x) (λ t.
      let some = (and_parts (is_granted h past x) (is_some_and (snoop_of x) (λ k. list_any (λ q. is_kept h past (snoop_for x k q)) (ports_below h.ports))) t).1 in
      let k = is_some_and-is (snoop_of x) (λ k. list_any (λ q. is_kept h past (snoop_for x k q)) (ports_below h.ports)) some in
      let q = some-found h.ports (λ q. is_kept h past (snoop_for x k.0 q)) k.2 in
      let line : snoops_a_line (ac_code k.0) ≡ true = ap (λ o. is_some_and o is_line_snoop) (kind_of_code k.0) ∙ caused-line x k.0 k.1 in
      absurd (none-left-snoop q.0 x.addr (ac_code k.0) line over (kept-breaks-none h past (snoop_for x k.0 q.0) q.1)))

module _ (among : PortSets) (h : Header) (past : Trace) (a : IsAccepted h past) (p : ℕ) (x : Transaction) (o : IsOf h past p x) (held : IsHeldUp h past x.addr) where
  -- no step may be taken for a transaction that was granted it and hasn't begun
  pub held-unbegun : has_grant past x.port x.chan x.id ≡ true → (x.chan ≡ Read → transfers past x.port x.id ≡ 0) → has_failed past x ≡ false → TakesNoneBelow among all_steps h past x
  held-unbegun had first unfailed = by x.chan refl
    where
      undone : are_snoops_done h past x ≡ false
      undone = held-undone h past a x (granted-line h past a p x o had) unfailed held

      by : (c : Channel) → x.chan ≡ c → TakesNoneBelow among all_steps h past x
      by Read chan =
          takes-none among h past x (grant-had h past a p x o had) (fewer-snoops among h past x (none-left h past a x held.snooped))
          (passed-unstuck h past a p x o had held.unstuck) (transfer-undone h past a p x o chan had (first chan) undone)
          (read-no-write h past a p x o chan)
      by Write chan =
          takes-none among h past x (grant-had h past a p x o had) (fewer-snoops among h past x (none-left h past a x held.snooped))
          (write-no-passed h past a p x o chan) (write-no-transfer h past a p x o chan) (write-undone h past a p x o chan undone)
