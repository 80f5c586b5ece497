-- The steps of what is kept of a grant, for the event and the target of a step.
use Rattle.std.proofs.Common.{◌≡◌, ℕ, true, false, Bool, not, ◌&&◌, ◌||◌, ◌==◌, if◌then◌else◌, List, ◌∷◌, Option, Some, None, option_map, is_none, refl, sym, ap, subst, ◌∙◌}
use Rattle.std.proofs.lemmas.Bool.{and_parts}
use Rattle.ace_lineck.proofs.Terms.{Line, is_shared, passes_dirty, transfers_data, Transaction, Header, Trace, Channel, Event, R, Rk, B, Wk, Ac, Cr, Cd, G, M, LineState, IsAccepted, newer, is_read, is_on, is_transaction, ended, outstanding, granted, gives_line, may_be_granted, is_ace, acknowledged, Read, Write, transaction_of, line_in, transaction_in, progress_of, Progress, Target, Holder, Stage, Unanswered, Sending, Done, Grant, IsLineStep, holder_at, GrantFits, GrantStands, IsGrantStep, IsMoved, fresh_grant, is_of, is_over}
use Rattle.ace_model.proofs.General.Options.{Some-injective, is_some_and-is}
use Rattle.ace_model.proofs.Trace.Looks.{is_on-addr}
use Rattle.ace_model.proofs.General.Options.{none_is}
use Rattle.ace_model.proofs.Rules.Keeps.{accepted_keeps}
use Rattle.ace_lineck.proofs.OnLine.{on-transaction, outstanding-of}
use Rattle.ace_lineck.proofs.OffLine.{ace-of_rk, ace-of_wk, read-of}
use Rattle.ace_lineck.proofs.GrantFrame.{none-stays}
use Rattle.ace_lineck.proofs.GrantSteps.{snoop_step, fourth_step, answer_step, calm-stays}
use Rattle.ace_lineck.proofs.GrantServes.{given_step, stays-other, ends-grant, beat_step, write_step}

-- the line of the event
line-of_step : (h : Header) (past : Trace) (l : ℕ) (e : Event) (t : Target) → IsLineStep h past l e t → line_in h past e ≡ Some l
line-of_step h past l e t s = ap (λ (v : Target). v.line) (sym s.target) ∙ s.line

-- an event that moves something under a grant
abbrev pub is_heard : Event → Bool
is_heard (Ac p addr snoop) = true
is_heard (Cr p resp st) = true
is_heard (Cd p last word) = true
is_heard (R p i resp last word) = true
is_heard (M p c i line) = true
is_heard e = false

module _ (h : Header) (past : Trace) (l : ℕ) (t : Target) (g : Grant) (xs : List Holder) (memory : Line) where
  pub snoop_heard : (q addr code : ℕ) → IsGrantStep h past l (Ac q addr code) t (Some g) xs memory → (stages : List Stage) → IsMoved g.stages stages q Unanswered
      → GrantFits h (Ac q addr code ∷ past) l (record g { stages = stages })
  snoop_heard q addr code s stages moved =
      snoop_step h past l g s.grant q addr code s.step.accepted (line-of_step h past l (Ac q addr code) t s.step) s.step.header.most_ports stages moved

  pub answer_heard : (q resp : ℕ) (st : LineState) → IsGrantStep h past l (Cr q resp st) t (Some g) xs memory → (stages : List Stage) (copy : Line)
      → IsMoved g.stages stages q (if transfers_data resp then Sending else Done) → copy ≡ (holder_at xs q).copy
      → GrantFits h (Cr q resp st ∷ past) l (record g {
        stages = stages;
        shared = is_shared resp || g.shared;
        passed = if passes_dirty resp then Some (record { port = q; line = copy }) else g.passed;
        reply = if transfers_data resp then newer g.reply (Some copy) else g.reply;
      })
  answer_heard q resp st s stages copy moved is =
      answer_step h past l g s.grant q resp st s.step.accepted (line-of_step h past l (Cr q resp st) t s.step) s.step.header.most_ports stages copy moved (is ∙ s.holders.copy q)

  pub fourth_heard : (q : ℕ) (last : Bool) (word : ℕ) → IsGrantStep h past l (Cd q last word) t (Some g) xs memory → t.beat ≡ 3 → (stages : List Stage) → IsMoved g.stages stages q Done
      → GrantFits h (Cd q last word ∷ past) l (record g { stages = stages })
  fourth_heard q last word s beat stages moved =
      fourth_step h past l g s.grant q last word s.step.accepted (line-of_step h past l (Cd q last word) t s.step) s.step.header.most_ports
      (ap (λ (v : Target). v.beat) (sym s.step.target) ∙ beat) stages moved

  pub beat_heard : (q j resp : ℕ) (last : Bool) (word : ℕ) → IsGrantStep h past l (R q j resp last word) t (Some g) xs memory
      → is_transaction (ended h past (R q j resp last word)) g.transaction ≡ false
      → GrantFits h (R q j resp last word ∷ past) l (record g { begun = true; reply = newer g.reply (Some memory) })
  beat_heard q j resp last word s other =
      beat_step h past l g s.grant q j resp last word s.step.accepted (line-of_step h past l (R q j resp last word) t s.step) memory s.memory.memory
      (stays-other h past l g s.grant (R q j resp last word) s.step.accepted other)

  pub write_heard : (q : ℕ) (c : Channel) (j : ℕ) (line : Line) → IsGrantStep h past l (M q c j line) t (Some g) xs memory → (own : Bool) → own ≡ is_of t.transaction g.transaction
      → GrantFits h (M q c j line ∷ past) l (record g { written = g.written || own; begun = g.begun || (own && not (is_read g.transaction.chan)) })
  write_heard q c j line s own is =
      write_step h past l g s.grant q c j line s.step.accepted own
      (is ∙ ap (λ (v : Target). is_of v.transaction g.transaction) s.step.target ∙ served (outstanding h past q c j))
    where
      served : (o : Option Transaction) → is_of (option_map (progress_of h past) o) g.transaction ≡ is_transaction o g.transaction
      served None = refl
      served (Some y) = refl

  -- a line that is granted has no G
  granted_once : (q : ℕ) (c : Channel) (j : ℕ) → IsAccepted h (G q c j ∷ past) → line_in h past (G q c j) ≡ Some l → (x : Transaction) → granted h past l ≡ Some x → ⊥
  granted_once q c j a on x stands =
      let y = is_some_and-is (outstanding h past q c j) (may_be_granted h past) (accepted_keeps h past (G q c j) a).rule_12 in
      let z = is_some_and-is (outstanding h past q c j) (λ z. is_on z l) (on-transaction h past (outstanding h past q c j) l on) in
      let one : z.0 ≡ y.0 = Some-injective z.0 y.0 (sym z.1 ∙ y.1) in
      let addr : y.0.addr ≡ l = is_on-addr y.0 l (subst (λ (v : Transaction). is_on v l ≡ true) one z.2) in
      let free = none_is (granted h past y.0.addr) (and_parts _ (is_none (granted h past y.0.addr)) y.2).1 in
      let bad : None ≡ Some x = sym free ∙ ap (granted h past) addr ∙ stands in cc

  pub other_heard : (e : Event) → is_heard e ≡ false → IsGrantStep h past l e t (Some g) xs memory → is_transaction (ended h past e) g.transaction ≡ false → GrantFits h (e ∷ past) l g
  other_heard (Ac p addr snoop) n s other = cc
  other_heard (Cr p resp st) n s other = cc
  other_heard (Cd p last word) n s other = cc
  other_heard (R p i resp last word) n s other = cc
  other_heard (M p c i line) n s other = cc
  other_heard (G q c j) n s other = absurd (granted_once q c j s.step.accepted (line-of_step h past l (G q c j) t s.step) g.transaction s.grant.granted)
  other_heard e n s other = calm-stays h past l g s.grant e s.step.accepted refl refl (stays-other h past l g s.grant e s.step.accepted other)

  -- whether the event ends the granted transaction
  served_of : (o : Option Transaction) → is_of (option_map (progress_of h past) o) g.transaction ≡ is_transaction o g.transaction
  served_of None = refl
  served_of (Some y) = refl

  pub ends_heard : (e : Event) → IsLineStep h past l e t → is_over h e (is_of t.transaction g.transaction) ≡ is_transaction (ended h past e) g.transaction
  ends_heard e s = ap (λ (v : Target). is_over h e (is_of v.transaction g.transaction)) s.target ∙ by e s.accepted
    where
      ended_if : (b : Bool) (o : Option Transaction) → (b && is_transaction o g.transaction) ≡ is_transaction (if b then o else None) g.transaction
      ended_if true o = refl
      ended_if false o = refl

      ended_unless : (b : Bool) (o : Option Transaction) → (not b && is_transaction o g.transaction) ≡ is_transaction (if b then None else o) g.transaction
      ended_unless true o = refl
      ended_unless false o = refl

      by : (d : Event) → IsAccepted h (d ∷ past) → is_over h d (is_of (transaction_in h past d) g.transaction) ≡ is_transaction (ended h past d) g.transaction
      by (Rk p st) a = let ace = ace-of_rk h past p st a in rw ace (served_of (acknowledged past p Read))
      by (Wk p st) a = let ace = ace-of_wk h past p st a in rw ace (served_of (acknowledged past p Write))
      by (R p i resp last word) a =
          ap (λ b. last && not (is_ace h p) && b) (served_of (outstanding h past p Read i) ∙ ap (λ o. is_transaction o g.transaction) (sym (read-of h past p i resp last word a)))
          ∙ ended_if (last && not (is_ace h p)) (transaction_of past p Read i)
      by (B p i resp) a =
          let m = outstanding-of h past p Write i _ (and_parts (resp == 0) _ (accepted_keeps h past (B p i resp) a).rule_26).1 in
          ap (λ b. not (is_ace h p) && b) (served_of (outstanding h past p Write i) ∙ ap (λ o. is_transaction o g.transaction) (sym m))
          ∙ ended_unless (is_ace h p) (transaction_of past p Write i)
      by d a = refl

-- G
pub given_heard : (h : Header) (past : Trace) (l p : ℕ) (c : Channel) (i : ℕ) (t : Target) → IsLineStep h past l (G p c i) t → (x : Progress) → t.transaction ≡ Some x
    → GrantFits h (G p c i ∷ past) l (fresh_grant x.transaction)
given_heard h past l p c i t s x is =
    let y = is_some_and-is (outstanding h past p c i) (λ y. is_on y l) (on-transaction h past (outstanding h past p c i) l (line-of_step h past l (G p c i) t s)) in
    let there : Some (progress_of h past y.0) ≡ Some x = ap (option_map (progress_of h past)) (sym y.1) ∙ ap (λ (v : Target). v.transaction) (sym s.target) ∙ is in
    let one : y.0 ≡ x.transaction = ap (λ (v : Progress). v.transaction) (Some-injective (progress_of h past y.0) x there) in
    subst (λ v. GrantFits h (G p c i ∷ past) l (fresh_grant v)) one (given_step h past l p c i s.accepted y.0 y.1 y.2)

-- the event is a G
abbrev pub is_grant : Event → Bool
is_grant (G p c i) = true
is_grant e = false

pub gives_none : (past : Trace) (e : Event) (l : ℕ) → is_grant e ≡ false → gives_line past e l ≡ false
gives_none past (G p c i) l n = cc
gives_none past e l n = refl

-- without a grant there is none after another event than a G
pub none_heard : (h : Header) (past : Trace) (l : ℕ) (e : Event) → is_grant e ≡ false → granted h past l ≡ None → granted h (e ∷ past) l ≡ None
none_heard h past l e n none = none-stays h past e l (gives_none past e l n) none

-- so it is with what is kept, where that is none
pub still-none : (h : Header) (past : Trace) (l : ℕ) (e : Event) (g : Option Grant) → is_grant e ≡ false → g ≡ None → GrantStands h past l g → GrantStands h (e ∷ past) l g
still-none h past l e None n is none = none_heard h past l e n none
still-none h past l e (Some g) n is f = cc

-- and none after one that ends it
pub over_heard : (h : Header) (past : Trace) (l : ℕ) (e : Event) (g : Grant) → GrantFits h past l g → is_grant e ≡ false → is_transaction (ended h past e) g.transaction ≡ true
    → granted h (e ∷ past) l ≡ None
over_heard h past l e g f n own = ends-grant h past l g f e (gives_none past e l n) own
