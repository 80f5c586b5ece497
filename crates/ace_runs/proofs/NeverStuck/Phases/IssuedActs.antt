-- Acts that issue transactions: an event that issues one of a sort is an act of the port's next operation, and one that issues none leaves
-- whether the port has made one act of two for an operation all of whose acts issue one.
use Rattle.std.proofs.Common.{◌≡◌, ℕ, Bool, true, false, ◌&&◌, ◌==◌, ◌∷◌, length, Some, inl, inr, sym, ap, ◌∙◌}
use Rattle.std.proofs.lemmas.Bool.{and_parts, and_from, cases_Bool}
use Rattle.ace_event.specs.declared.event.Event.{Event}
use Rattle.ace_event.specs.declared.event.Event.TheVariants.{Ar, Aw}
use Rattle.ace_model.specs.declared.plans.Op.{Op}
use Rattle.ace_model.specs.declared.transactions.Transaction.{Transaction}
use Rattle.ace_model.specs.Plans.{Plan}
use Rattle.ace_model.specs.Trace.{Trace, is_some_and}
use Rattle.ace_model.specs.Transactions.{issued}
use Rattle.ace_model.proofs.General.Options.{Some-injective, is_some_and-is}
use Rattle.ace_runs.specs.Acts.{is_act, is_act_transaction}
use Rattle.ace_runs.specs.Counts.{is_retirement}
use Rattle.ace_runs.specs.Follows.{obeys}
use Rattle.ace_runs.specs.Segments.{is_at_port}
use Rattle.ace_runs.proofs.NeverStuck.Phases.OneOfTwo.{one-stays, one_made}
use Rattle.ace_runs.proofs.NeverStuck.Phases.NextActs.{IsTurn, next-turn}

-- an event that issues a transaction is at its port, and an act where that is one
pub issued-port : (e : Event) (n p : ℕ) (x : Transaction) → issued n e ≡ Some x → is_at_port p e ≡ (x.port == p)
issued-port (Ar q i a s d b l) n p x new = ap (λ (v : Transaction). v.port == p) (Some-injective _ x new)
issued-port (Aw q i a s d b) n p x new = ap (λ (v : Transaction). v.port == p) (Some-injective _ x new)
issued-port e n p x new = cc

pub issued-act : (e : Event) (n : ℕ) (x : Transaction) → issued n e ≡ Some x → is_act_transaction x ≡ true → is_act e ≡ true
issued-act (Ar q i a s d b l) n x new t = ap (λ (v : Transaction). is_act_transaction v) (Some-injective _ x new) ∙ t
issued-act (Aw q i a s d b) n x new t = ap (λ (v : Transaction). is_act_transaction v) (Some-injective _ x new) ∙ t
issued-act e n x new t = cc

-- the event issues such a transaction of the port
abbrev pub issues_of : (Transaction → Bool) → Trace → ℕ → Event → Bool
issues_of half past p e = is_some_and (issued (length past) e) (λ x. half x && (x.port == p))

-- One that does, as an act of the port's next operation.
pub record IsIssuedAct (half : Transaction → Bool) (plan : Plan) (past : Trace) (p : ℕ) (e : Event) : Type 0 where
  pub of : Transaction
  pub is : issued (length past) e ≡ Some of
  pub such : half of ≡ true
  pub passes : (half of && (of.port == p)) ≡ true
  pub act : (is_at_port p e && is_act e) ≡ true
  pub turn : IsTurn plan past p e

pub issued-turn : (half : Transaction → Bool) → ((x : Transaction) → half x ≡ true → is_act_transaction x ≡ true) → (plan : Plan) (past : Trace) (p : ℕ) (e : Event)
    → obeys plan past e ≡ true → issues_of half past p e ≡ true → IsIssuedAct half plan past p e
issued-turn half acts plan past p e o some =
    let x = is_some_and-is (issued (length past) e) (λ x. half x && (x.port == p)) some in
    let of = and_parts (half x.0) (x.0.port == p) x.2 in
    let here : is_at_port p e ≡ true = issued-port e (length past) p x.0 x.1 ∙ of.1 in
    let both = and_from _ _ here (issued-act e (length past) x.0 x.1 (acts x.0 of.0)) in
    record { of = x.0; is = x.1; such = of.0; passes = x.2; act = both; turn = next-turn plan past p e o both }

-- An event that issues none is no act of an operation of the sort.
pub none-issued : (sort : Op → Bool) (half : Transaction → Bool) (plan : Plan) (past : Trace) (p : ℕ) (e : Event)
    → ((t : IsTurn plan past p e) → sort t.of ≡ true → is_some_and (issued (length past) e) half ≡ true) → obeys plan past e ≡ true → is_retirement e ≡ false
    → issues_of half past p e ≡ false → one_made sort plan (e ∷ past) p ≡ one_made sort plan past p
none-issued sort half plan past p e issues o other none =
    one-stays sort plan past p e o other (λ both t.
    elim (cases_Bool (sort t.of)) [
      | inr f ↦ f
      | inl sorted ↦
          let x = is_some_and-is (issued (length past) e) half (issues t sorted) in
          let port : (x.0.port == p) ≡ true = sym (issued-port e (length past) p x.0 x.1) ∙ (and_parts (is_at_port p e) (is_act e) both).0 in
          let some : issues_of half past p e ≡ true = rw x.1 (and_from _ _ x.2 port) in
          let bad : false ≡ true = sym none ∙ some in cc
    ])
