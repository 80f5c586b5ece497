-- An event that isn't one of the port's master leaves what the port has done for its operations and its write data.
use Rattle.std.proofs.Common.{◌≡◌, ℕ, ◌+◌, Bool, true, false, not, ◌&&◌, ◌==◌, if◌then◌else◌, ◌∷◌, length, Option, Some, None, refl, sym, ap, ◌∙◌, inl, inr}
use Rattle.std.proofs.Math.Bool.{and-false}
use Rattle.std.proofs.lemmas.Bool.{cases_Bool, eq-eqb, eqb-true, false_from_ne_true}
use Rattle.ace_event.specs.declared.event.Event.{Event}
use Rattle.ace_event.specs.declared.event.Event.TheVariants as event
use Rattle.ace_model.specs.declared.transactions.Transaction.{Transaction}
use Rattle.ace_model.specs.Kinds.{has_write_data}
use Rattle.ace_model.specs.Messages.{is_dvm_completion}
use Rattle.ace_model.specs.OrderRules.{retired}
use Rattle.ace_model.specs.Plans.{Plan}
use Rattle.ace_model.specs.Trace.{Trace, is_some_and, more, option_filter}
use Rattle.ace_model.specs.Transactions.{issued, write_kind}
use Rattle.ace_model.specs.Writes.{beats, data_writes}
use Rattle.ace_runs.specs.Acts.{is_act}
use Rattle.ace_runs.specs.Operations.{next_operation, operations_of}
use Rattle.ace_runs.specs.Segments.{acts_made, is_at_port, segment}
use Rattle.ace_runs.proofs.NeverStuck.Phases.IssuedActs.{issued-port}
use Rattle.ace_engine.specs.Engines.{Master, is_given_by, is_of_interconnect}
use Rattle.std.specs.Prelude.{slice_get}

-- What is left: the transactions and acts for the next operation, which operation that is, and the write data.
pub record IsLeft (past : Trace) (p : ℕ) (e : Event) : Type 0 where
  pub segment_is : segment (e ∷ past) p ≡ segment past p
  pub made : acts_made (e ∷ past) p ≡ acts_made past p
  pub retired_is : retired (e ∷ past) p ≡ retired past p
  pub writes : data_writes (e ∷ past) p ≡ data_writes past p
  pub beats_are : beats (e ∷ past) p ≡ beats past p

pub next-left : (plan : Plan) (past : Trace) (p : ℕ) (e : Event) → IsLeft past p e → next_operation plan (e ∷ past) p ≡ next_operation plan past p
next-left plan past p e l = ap (slice_get (operations_of plan p)) l.retired_is

-- equality of ports the other way round
turned : (p q : ℕ) → (q == p) ≡ false → (p == q) ≡ false
turned p q f = false_from_ne_true (p == q) (λ t. let bad : false ≡ true = sym f ∙ eq-eqb q p (sym (eqb-true p q t)) in cc)

-- what another port issues is none of the port's
none-for : (o : Option Transaction) (p : ℕ) (test : Transaction → Bool) → ((x : Transaction) → o ≡ Some x → (x.port == p) ≡ false)
    → option_filter (λ x. (x.port == p) && test x) o ≡ None
none-for None p test other = refl
none-for (Some x) p test other = rw (other x refl) refl

-- ---- an event of the interconnect --------------------------------------------------------------------

gives-left : (past : Trace) (p : ℕ) (e : Event) → is_of_interconnect e ≡ true → IsLeft past p e
gives-left past p (event.R q i resp last word) t = record { segment_is = refl; made = ap (λ b. if b then acts_made past p + 1 else acts_made past p) (and-false (q == p)); retired_is = refl; writes = refl; beats_are = refl }
gives-left past p (event.B q i resp) t = record { segment_is = refl; made = ap (λ b. if b then acts_made past p + 1 else acts_made past p) (and-false (q == p)); retired_is = refl; writes = refl; beats_are = refl }
gives-left past p (event.Ac q addr snoop) t = record { segment_is = refl; made = ap (λ b. if b then acts_made past p + 1 else acts_made past p) (and-false (q == p)); retired_is = refl; writes = refl; beats_are = refl }
gives-left past p (event.G q c i) t = record { segment_is = refl; made = ap (λ b. if b then acts_made past p + 1 else acts_made past p) (and-false (q == p)); retired_is = refl; writes = refl; beats_are = refl }
gives-left past p (event.M q c i line) t = record { segment_is = refl; made = ap (λ b. if b then acts_made past p + 1 else acts_made past p) (and-false (q == p)); retired_is = refl; writes = refl; beats_are = refl }
gives-left past p (event.Mem addr line) t = record { segment_is = refl; made = refl; retired_is = refl; writes = refl; beats_are = refl }
gives-left past p e t = cc

-- ---- an event of another port ------------------------------------------------------------------------

issued-elsewhere : (past : Trace) (p : ℕ) (e : Event) → is_at_port p e ≡ false → (x : Transaction) → issued (length past) e ≡ Some x → (x.port == p) ≡ false
issued-elsewhere past p e other x is = sym (issued-port e (length past) p x is) ∙ other

elsewhere : (past : Trace) (p : ℕ) (e : Event) → is_at_port p e ≡ false → IsLeft past p e
elsewhere past p (event.Op q k res) other =
    let f = turned p q other in
    record { segment_is = rw f refl; made = rw f refl; retired_is = rw f refl; writes = refl; beats_are = refl }
elsewhere past p (event.W q strb last word) other =
    let f = turned p q other in
    record { segment_is = refl; made = ap (λ b. if b then acts_made past p + 1 else acts_made past p) (and-false (q == p)); retired_is = refl; writes = refl; beats_are = rw f refl }
elsewhere past p e other = record {
  segment_is = ap (more (segment past p)) (none-for (issued (length past) e) p (λ x. not (is_dvm_completion x)) (issued-elsewhere past p e other));
  made = ap (λ b. if b && is_act e then acts_made past p + 1 else acts_made past p) other;
  retired_is = refl;
  writes = ap (more (data_writes past p)) (none-for (issued (length past) e) p (λ x. is_some_and (write_kind x) has_write_data) (issued-elsewhere past p e other));
  beats_are = refl;
}

pub other-leaves : (past : Trace) (p : ℕ) (e : Event) → is_given_by Master past p e ≡ false → IsLeft past p e
unfolding is_given_by
other-leaves past p e f =
    elim (cases_Bool (is_of_interconnect e)) [
      | inl t ↦ gives-left past p e t
      | inr n ↦ elsewhere past p e (by (is_at_port p e) (is_of_interconnect e) f n)
    ]
  where
    by : (a b : Bool) → (a && not b) ≡ false → b ≡ false → a ≡ false
    by true true f n = cc
    by true false f n = cc
    by false b f n = refl
