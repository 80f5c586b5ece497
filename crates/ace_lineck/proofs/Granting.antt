-- The G of an outstanding transaction, by what is kept of its line.
use Rattle.std.proofs.Common.{◌≡◌, ◌<◌, ◌-◌, ◌^◌, ℕ, true, ◌&&◌, length, Option, Some, None, is_none, refl, sym, ap, ◌∙◌}
use Rattle.std.proofs.lemmas.Bool.{and_parts}
use Rattle.ace_lineck.proofs.Terms.{least_broken, Transaction, Channel, G, Header, Trace, IsAccepted, granted, is_some_and, k12, outstanding, takes_grant, Recording, line_in, target_of, Grant, LineCheck, GrantStands, MayApply, Stands, place_on}
use Rattle.ace_model.proofs.GrantLooks.Had.{may_grant, grants_by_line, takes-on}
use Rattle.ace_model.proofs.Rules.Keeps.{accepted_keeps}
use Rattle.ace_lineck.proofs.GrantLaws.{none-is}
use Rattle.ace_lineck.proofs.OnLine.{line-transaction}
use Rattle.ace_lineck.proofs.Heard.{may-hear}

-- K12, in the words of what is kept of the line
pub grant-law : (h : Header) (past : Trace) (p : ℕ) (c : Channel) (i : ℕ) (x : Transaction) (g : Option Grant) → IsAccepted h past → outstanding h past p c i ≡ Some x
    → GrantStands h past x.addr g → (takes_grant x && is_none g) ≡ k12 h past (G p c i)
grant-law h past p c i x g accepted out stands =
    ap (λ b. takes_grant x && b) (none-is h past x.addr g stands)
    ∙ ap (λ o. is_some_and o (may_grant h past)) (sym out)
    ∙ sym (grants_by_line h past p c i accepted)

-- the line of a G that breaks no rule is that of its transaction
pub line-of_grant : (h : Header) (past : Trace) (p : ℕ) (c : Channel) (i : ℕ) (x : Transaction) → IsAccepted h past → outstanding h past p c i ≡ Some x
    → least_broken h past (G p c i) ≡ None → line_in h past (G p c i) ≡ Some x.addr
line-of_grant h past p c i x accepted out fine =
    let may : is_some_and (outstanding h past p c i) (may_grant h past) ≡ true =
    sym (grants_by_line h past p c i accepted) ∙ (accepted_keeps h past (G p c i) (accepted, fine)).rule_12 in
    let here : may_grant h past x ≡ true = rw out at may in
    let takes = (and_parts (takes_grant x) (is_none (granted h past x.addr)) here).0 in
    line-transaction h past (outstanding h past p c i) x.addr (rw out (takes-on x takes))

-- so it may be heard
pub may-hear_grant : (s : LineCheck) (r : Recording) (p : ℕ) (c : Channel) (i : ℕ) (x : Transaction) (place : Option ℕ) → Stands s r → outstanding r.header r.past p c i ≡ Some x
    → place ≡ place_on s (Some x.addr) → least_broken r.header r.past (G p c i) ≡ None → length r.past < 2 ^ 64 - 1
    → MayApply s r (G p c i) (target_of r.header r.past (G p c i)) place
may-hear_grant s r p c i x place stands out at fine few = may-hear s r (G p c i) place refl stands (at ∙ ap (place_on s) (sym (line-of_grant r.header r.past p c i x stands.accepted out fine))) fine few
