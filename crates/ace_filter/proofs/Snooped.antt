-- The line snoops of a port that wait for their CR: one for each line at most.
use Rattle.std.proofs.Common.{◌≡◌, ℕ, ◌≤◌, ◌<◌, true, not, ◌&&◌, nat_eq, ◌∷◌, length, drop, Option, Some, None, option_map, slice_get, refl, sym, ◌∙◌}
use Rattle.std.proofs.lemmas.Bool.{and_from, and_parts, eq-eqb, not-true}
use Rattle.std.proofs.lemmas.Option.{slice_get-map}
use Rattle.ace_model.specs.Grants.{was_snooped}
use Rattle.ace_model.specs.SnoopRules.{may_snoop, may_snoop_for}
use Rattle.ace_model.specs.States.{owes_wack}
use Rattle.ace_filter.proofs.Terms.{Ac, Header, Snoop, Trace, IsAccepted, is_some_and, granted, known_lines, answers, snoops_a_line, snoops_of, snooped_line, snooped_lines, turns_from}
use Rattle.ace_filter.proofs.Rooms.{AreApart, few-wait}
use Rattle.ace_model.proofs.General.Booleans.{implies-at}
use Rattle.ace_model.proofs.General.Options.{Some-injective, some_if-is}
use Rattle.ace_model.proofs.Grants.Pending.{IsPending, snoops}
use Rattle.ace_model.proofs.Lines.Known.{known-granted, known-snooped, snooped-granted}
use Rattle.ace_model.proofs.Rules.Keeps.{accepted_keeps}

mapped : {A B : Type 0} → (f : A → B) (o : Option A) (y : B) → option_map f o ≡ Some y → (x : A) × (o ≡ Some x) × (f x ≡ y)
mapped f None y is = cc
mapped f (Some x) y is = (x, refl, Some-injective (f x) y is)

module _ (past : Trace) (p : ℕ) where
  -- the snoop of a line that is kept
  waiting : (n l : ℕ) → answers past p ≤ n → slice_get (snooped_lines past p) n ≡ Some (Some l) → (s : Snoop) × IsPending past p n l s
  waiting n l late is =
      let s = mapped snooped_line (slice_get (snoops_of past p) n) (Some l) (sym (slice_get-map snooped_line (snoops_of past p) n) ∙ is) in
      let line = some_if-is (snoops_a_line s.0.snoop) s.0.addr l s.2 in
      (s.0, record { late = late; there = s.1; on = and_from (snoops_a_line s.0.snoop) (nat_eq s.0.addr l) line.0 (eq-eqb s.0.addr l line.1) })

module _ (h : Header) (past : Trace) (p addr code : ℕ) (a : IsAccepted h (Ac p addr code ∷ past)) (line : snoops_a_line code ≡ true) where
  apart : AreApart past (snooped_lines past p) (answers past p) addr
  apart = record {
    once = λ m n l late_m late_n x y.
        let s = waiting past p m l late_m x in
        let t = waiting past p n l late_n y in
        (snoops h past a.0).once p m n l s.0 t.0 s.1 t.1;
    known = λ n l late x. let s = waiting past p n l late x in known-snooped h past a.0 p n l s.0 s.1.there s.1.on;
    fresh = λ n late x.
        let s = waiting past p n addr late x in
        let was = ((snoops h past a.0).pending p n addr s.0 s.1).snooped in
        let may = implies-at (snoops_a_line code) (may_snoop h past p addr code) (accepted_keeps h past (Ac p addr code) a).rule_13 line in
        let two = and_parts (is_some_and (granted h past addr) (λ x. may_snoop_for past x p code) && not (was_snooped past p addr))
        (not (owes_wack h past p addr)) may in
        let none = not-true (was_snooped past p addr) (and_parts _ (not (was_snooped past p addr)) two.0).1 in cc;
    line_known = let g = snooped-granted h past p addr code a line in known-granted h past a.0 addr g.0 g.1;
  }

  -- so there is room for the snoop
  pub few-snoops : length (turns_from (answers past p) (drop (answers past p) (snooped_lines past p))) < length (known_lines past)
  few-snoops = few-wait past (snooped_lines past p) (answers past p) addr apart
