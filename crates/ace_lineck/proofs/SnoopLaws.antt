-- Line snoops: K13, and what they leave.
use Rattle.std.proofs.Common.{◌≡◌, ℕ, true, false, Bool, not, ◌&&◌, Option, Some, refl, sym, ap, ◌∙◌}
use Rattle.std.proofs.lemmas.Bool.{eq-eqb}
use Rattle.ace_lineck.proofs.Terms.{may_snoop, owes_wack, Header, Trace, Ac, IsAccepted, implies, is_some_and, has_failed, has_failed_on, k13, snoops_a_line, Grant, GrantStands, may_be_snooped, Recording, line_in, target_of, LineCheck, HearsSnoop, MayApply, place_on}
use Rattle.ace_lineck.proofs.GrantLaws.{snooped-law}
use Rattle.ace_lineck.proofs.Heard.{may-hear}

turned : (owes may : Bool) → (not owes && may) ≡ (may && not owes)
turned true true = refl
turned true false = refl
turned false true = refl
turned false false = refl

-- K13, in the words of what is kept of the grant of the line
pub line_snoop-law : (h : Header) (past : Trace) → IsAccepted h past → (addr p snoop : ℕ) (owes failed : Bool) (g : Option Grant) → snoops_a_line snoop ≡ true
    → owes ≡ owes_wack h past p addr → failed ≡ has_failed_on h past addr → GrantStands h past addr g
    → (not owes && may_be_snooped failed g p snoop) ≡ k13 h past (Ac p addr snoop)
line_snoop-law h past a addr p snoop owes failed g line is fails f =
    let may = snooped-law h past a addr p snoop failed g (λ y there. fails ∙ ap (λ o. is_some_and o (has_failed past)) there) f in
    let rule : k13 h past (Ac p addr snoop) ≡ (may_be_snooped failed g p snoop && not owes) =
    ap (λ b. implies b (may_snoop h past p addr snoop)) line ∙ ap (λ b. b && not (owes_wack h past p addr)) (sym may) ∙ ap (λ b. may_be_snooped failed g p snoop && not b) (sym is) in
    turned owes (may_be_snooped failed g p snoop) ∙ sym rule

-- the line of a line snoop
pub snoop_line : (h : Header) (past : Trace) (p addr snoop : ℕ) → snoops_a_line snoop ≡ true → line_in h past (Ac p addr snoop) ≡ Some addr
snoop_line h past p addr snoop line = rw (eq-eqb p p (refl {a = p}), line) refl

-- a line snoop that breaks no rule may be heard
pub may_apply : (s : LineCheck) (r : Recording) (p addr snoop : ℕ) (place : Option ℕ) → HearsSnoop s r p addr snoop place
    → MayApply s r (Ac p addr snoop) (target_of r.header r.past (Ac p addr snoop)) place
may_apply s r p addr snoop place m = may-hear s r (Ac p addr snoop) place refl m.stands (m.at ∙ sym (ap (place_on s) (snoop_line r.header r.past p addr snoop m.line))) m.kept m.few
