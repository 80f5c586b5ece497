-- The M of an outstanding transaction: what its rules say in the words of what is kept of its line, and what it leaves of that.
use Rattle.std.proofs.Common.{◌≡◌, ◌<◌, ◌-◌, ◌^◌, ℕ, true, Bool, not, ◌&&◌, ◌||◌, List, ◌∷◌, length, Option, Some, None, option_map, option_and_then, refl, sym, ap, subst, ◌∙◌}
use Rattle.std.proofs.lemmas.Bool.{and_from, eq-eqb}
use Rattle.ace_lineck.proofs.Terms.{has_data, Line, least_broken, least_of, line_rules, Header, Trace, Channel, M, IsAccepted, is_some_and, is_none_or, is_read, outstanding, may_write_memory, k24, k25, Recording, data_in, line_in, progress_of, target_of, Progress, Target, WriteData, Grant, LineCheck, Holder, LineRecord, GrantFits, GrantStands, IsGrantStep, is_of, fits_data, is_its, passed_kept, may_write, rule_of_write, LineStands, MayApply, Stands, place_on}
use Rattle.ace_model.proofs.General.Options.{is_some_and-at}
use Rattle.ace_model.proofs.Rules.Keeps.{accepted_keeps}
use Rattle.ace_portck.specs.Targets.{data_of_write}
use Rattle.ace_lineck.proofs.BeatLaws.{granted-of_place, progress-from, progress-is}
use Rattle.ace_lineck.proofs.GrantHear.{write_heard}
use Rattle.ace_lineck.proofs.Asked.{asked, ruled}
use Rattle.ace_lineck.proofs.OnLine.{line-transaction}
use Rattle.ace_lineck.proofs.WriteLaws.{k24-law, k25-law, writes-line}
use Rattle.ace_lineck.proofs.Heard.{may-hear}

module _ (h : Header) (past : Trace) (p : ℕ) (c : Channel) (i : ℕ) (line : Line) (x : Progress) (served : option_map (progress_of h past) (outstanding h past p c i) ≡ Some x) where
  -- the transaction of the M
  out : outstanding h past p c i ≡ Some x.transaction
  out = progress-from h past (outstanding h past p c i) x served

  module _ (kept : LineRecord) (a : IsAccepted h past) (s : LineStands h past x.transaction.addr kept) where
    pub of-place : (g : Grant) → kept.grant ≡ Some g → is_its g x.transaction ≡ true → g.transaction ≡ x.transaction
    of-place = granted-of_place h past p c i x.transaction kept.grant a out s.grant

    pub memory_write-law : (burst : Option WriteData) → burst ≡ data_in h past (M p c i line) → rule_of_write h kept x burst line ≡ least_of line_rules h past (M p c i line)
    memory_write-law burst sends =
        let y = x.transaction in
        let is = progress-is h past (outstanding h past p c i) x served in
        let d : burst ≡ data_of_write past y = sends ∙ ap (option_and_then (data_of_write past)) out in
        let due : is_some_and (outstanding h past p c i) (may_write_memory h past) ≡ may_write_memory h past y = ap (λ v. is_some_and v (may_write_memory h past)) out in
        ruled (may_write h kept x burst) (k24 h past (M p c i line)) 24 (asked 25 (fits_data (passed_kept kept.grant) kept.memory burst line y)) (asked 25 (k25 h past (M p c i line)))
        (ap (λ v. may_write h kept v burst) is ∙ k24-law h past a p c i y out kept s burst d ∙ sym due)
        (λ may. ap (asked 25) (k25-law h past a p c i y out kept s burst d line (sym due ∙ may) ∙ sym (ap (λ v. is_none_or v (has_data h past line)) out)))

  -- the line of an M that breaks no rule
  pub memory_write-line : IsAccepted h (M p c i line ∷ past) → line_in h past (M p c i line) ≡ Some x.transaction.addr
  memory_write-line a =
      let due = is_some_and-at (outstanding h past p c i) (may_write_memory h past) x.transaction (accepted_keeps h past (M p c i line) a).rule_24 out in
      let l = writes-line h past a.0 p c i x.transaction out due in
      line-transaction h past (outstanding h past p c i) x.transaction.addr (let there = out in rw there (and_from _ _ l (eq-eqb x.transaction.addr x.transaction.addr refl)))

-- the M may be taken
pub memory_write-may : (s : LineCheck) (r : Recording) (p : ℕ) (c : Channel) (i : ℕ) (line : Line) (x : Progress) (place : Option ℕ) → Stands s r
    → option_map (progress_of r.header r.past) (outstanding r.header r.past p c i) ≡ Some x → place ≡ place_on s (Some x.transaction.addr)
    → least_broken r.header r.past (M p c i line) ≡ None → length r.past < 2 ^ 64 - 1
    → MayApply s r (M p c i line) (target_of r.header r.past (M p c i line)) place
memory_write-may s r p c i line x place st served at fine few = may-hear s r (M p c i line) place refl st (at ∙ ap (place_on s) (sym (memory_write-line r.header r.past p c i line x served (st.accepted, fine)))) fine few

module _ (h : Header) (past : Trace) (l p : ℕ) (c : Channel) (i : ℕ) (line : Line) (t : Target) (xs : List Holder) (memory : Line) where
  -- of a grant it leaves whether that is of the transaction
  pub stays-granted : (x : Progress) → t.transaction ≡ Some x → (g y : Grant) (own : Bool) → IsGrantStep h past l (M p c i line) t (Some g) xs memory → own ≡ is_of (Some x) g.transaction
      → y ≡ record g { written = g.written || own; begun = g.begun || (own && not (is_read g.transaction.chan)) } → GrantStands h (M p c i line ∷ past) l (Some y)
  stays-granted x at g y own s is new =
      subst (GrantFits h (M p c i line ∷ past) l) (sym new) (write_heard h past l t g xs memory p c i line s own (is ∙ ap (λ o. is_of o g.transaction) (sym at)))
