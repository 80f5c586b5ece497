-- What an event leaves of the segment of a port.
use Rattle.std.proofs.Common.{◌≡◌, ℕ, ◌+◌, ◌<◌, ◌≤◌, true, false, not, ◌&&◌, ◌==◌, if◌then◌else◌, ◌∷◌, length, Some, None, [], refl, sym, ap, subst}
use Rattle.std.proofs.lemmas.Bool.{and_parts, eqb-true, eq-eqb, ltb-true, ne_eqb}
use Rattle.ace_event.specs.declared.event.Event.{Event}
use Rattle.ace_event.specs.declared.event.Event.TheVariants.{Ar, Aw, Op}
use Rattle.ace_event.specs.declared.event.Outcome.{Outcome}
use Rattle.ace_model.specs.declared.transactions.Transaction.{Transaction}
use Rattle.ace_model.specs.Messages.{is_dvm_completion}
use Rattle.ace_model.specs.Plans.{Plan}
use Rattle.ace_model.specs.Trace.{Trace, more, option_filter}
use Rattle.ace_model.specs.Transactions.{issued}
use Rattle.ace_model.proofs.General.Booleans.{implies-at}
use Rattle.ace_model.proofs.General.Options.{is_none_or-at, option_filter-is}
use Rattle.ace_runs.specs.Acts.{is_act}
use Rattle.ace_runs.specs.Counts.{is_retirement}
use Rattle.ace_runs.specs.Lean.{is_on_named_line, is_one_of_three, is_one_of_two}
use Rattle.ace_runs.specs.Segments.{acts_made, is_at_port, is_for_operation, segment}
use Rattle.ace_runs.proofs.Few.Acts.{acts-each}
use Rattle.ace_engine.specs.Engines.{IsLegal}

-- a transaction for an operation is one of at most three
pub one-of-three : (plan : Plan) (past : Trace) (e : Event) (p : ℕ) (x : Transaction) → IsLegal plan (e ∷ past)
    → option_filter (is_for_operation p) (issued (length past) e) ≡ Some x → length (segment past p) < 3
one-of-three plan past e p x legal is =
    let of = option_filter-is (is_for_operation p) (issued (length past) e) x is in
    let parts = and_parts (x.port == p) (not (is_dvm_completion x)) of.1 in
    let both = is_none_or-at (issued (length past) e) (λ y. is_one_of_three plan past y && is_on_named_line plan y) x (and_parts _ (is_one_of_two plan past e) legal.lean.1).0 of.0 in
    let three = implies-at (not (is_dvm_completion x)) _ (and_parts (is_one_of_three plan past x) _ both).0 parts.1 in
    let low = ltb-true (length (segment past x.port)) 3 (and_parts _ _ three).1 in
    subst (λ q. length (segment past q) < 3) (eqb-true x.port p parts.0) low

-- two acts are the most
pub two-acts-most : (plan : Plan) (past : Trace) (p : ℕ) → IsLegal plan past → acts_made past p ≤ 2
two-acts-most plan past p legal = (acts-each plan past p legal.follows).few

-- ---- an event of the port ----------------------------------------------------------------------------

retires-here : (q p k : ℕ) (res : Outcome) → is_at_port p (Op q k res) ≡ true → (p == q) ≡ true
retires-here q p k res at = eq-eqb p q (sym (eqb-true q p at))

pub segment-ends : (past : Trace) (e : Event) (p : ℕ) → is_at_port p e ≡ true → is_retirement e ≡ true → (segment (e ∷ past) p ≡ []) × (acts_made (e ∷ past) p ≡ 0)
segment-ends past (Op q k res) p at r = let here = retires-here q p k res at in (rw here refl, rw here refl)
segment-ends past e p at r = cc

pub segment-grows : (past : Trace) (e : Event) (p : ℕ) → is_retirement e ≡ false → segment (e ∷ past) p ≡ more (segment past p) (option_filter (is_for_operation p) (issued (length past) e))
segment-grows past (Op q k res) p r = cc
segment-grows past e p r = refl

pub acts-grow : (past : Trace) (e : Event) (p : ℕ) → is_retirement e ≡ false → acts_made (e ∷ past) p ≡ (if is_at_port p e && is_act e then acts_made past p + 1 else acts_made past p)
acts-grow past (Op q k res) p r = cc
acts-grow past e p r = refl

-- ---- an event of another port ------------------------------------------------------------------------

-- it issues nothing for the port
none-issued : (past : Trace) (e : Event) (p : ℕ) → is_at_port p e ≡ false → option_filter (is_for_operation p) (issued (length past) e) ≡ None
none-issued past (Ar q i a s d b l) p f = rw f refl
none-issued past (Aw q i a s d b) p f = rw f refl
none-issued past e p f = refl

pub segment-elsewhere : (past : Trace) (e : Event) (p : ℕ) → is_at_port p e ≡ false → segment (e ∷ past) p ≡ segment past p
segment-elsewhere past (Op q k res) p f = let other : (p == q) ≡ false = ne_eqb p q (λ same. let t = eq-eqb q p (sym same) in cc) in rw other refl
segment-elsewhere past e p f = ap (more (segment past p)) (none-issued past e p f)

pub acts-elsewhere : (past : Trace) (e : Event) (p : ℕ) → is_at_port p e ≡ false → acts_made (e ∷ past) p ≡ acts_made past p
acts-elsewhere past (Op q k res) p f = let other : (p == q) ≡ false = ne_eqb p q (λ same. let t = eq-eqb q p (sym same) in cc) in rw other refl
acts-elsewhere past e p f = ap (λ b. if b && is_act e then acts_made past p + 1 else acts_made past p) f
