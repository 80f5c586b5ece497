-- A port that has made one act for an operation of two: an event that is no such act leaves it so, or not so, and none retires then.
use Rattle.std.proofs.Common.{◌≡◌, ℕ, ◌+◌, Bool, true, false, ◌&&◌, ◌==◌, if◌then◌else◌, ◌∷◌, inl, inr, refl, ap, ◌∙◌}
use Rattle.std.proofs.Math.Bool.{and-false}
use Rattle.std.proofs.lemmas.Bool.{and_parts, cases_Bool, eqb-true}
use Rattle.ace_event.specs.declared.event.Event.{Event}
use Rattle.ace_event.specs.declared.event.Event.TheVariants.{Op as Retires}
use Rattle.ace_event.specs.declared.event.Outcome.{Outcome}
use Rattle.ace_event.specs.declared.event.Outcome.TheVariants.{Ok, Skip, Fail}
use Rattle.ace_event.specs.declared.header.Header.{Header}
use Rattle.ace_model.specs.declared.plans.Op.{Op}
use Rattle.ace_model.specs.declared.plans.Op.TheVariants.{Mb, Sb, Dvm2}
use Rattle.ace_model.specs.Plans.{Plan}
use Rattle.ace_model.specs.Trace.{Trace, is_some_and}
use Rattle.ace_runs.specs.Acts.{is_act}
use Rattle.ace_runs.specs.Counts.{is_retirement}
use Rattle.ace_runs.specs.Follows.{obeys}
use Rattle.ace_runs.specs.Operations.{next_operation}
use Rattle.ace_runs.specs.Retiring.{are_acts_done, may_retire}
use Rattle.ace_runs.specs.Segments.{acts_made, is_at_port}
use Rattle.ace_runs.proofs.NeverStuck.Phases.NextActs.{IsTurn, acts-more, next-stays, next-turn, retires-next}

-- the port's next operation is of the sort, and it has made one act for it
abbrev pub one_made : (Op → Bool) → Plan → Trace → ℕ → Bool
one_made sort plan past p = is_some_and (next_operation plan past p) sort && (acts_made past p == 1)

-- a barrier, or a DVM message of two parts
abbrev pub has_two_acts : Op → Bool
has_two_acts Mb = true
has_two_acts Sb = true
has_two_acts (Dvm2 word second) = true
has_two_acts _ = false

-- how it is after an event other than an OP
pub one-after : (sort : Op → Bool) (plan : Plan) (past : Trace) (p : ℕ) (e : Event) → is_retirement e ≡ false
    → one_made sort plan (e ∷ past) p ≡ (is_some_and (next_operation plan past p) sort && ((if is_at_port p e && is_act e then acts_made past p + 1 else acts_made past p) == 1))
one-after sort plan past p e none =
    ap (λ o. is_some_and o sort && (acts_made (e ∷ past) p == 1)) (next-stays plan past p e none)
    ∙ ap (λ n. is_some_and (next_operation plan past p) sort && (n == 1)) (acts-more past p e none)

-- how it is where the next operation is of the sort or isn't, and so many acts were made for it; and after one more
pub one-if : (sort : Op → Bool) (plan : Plan) (past : Trace) (p made : ℕ) (is : Bool) → is_some_and (next_operation plan past p) sort ≡ is → acts_made past p ≡ made
    → one_made sort plan past p ≡ (is && (made == 1))
one-if sort plan past p made is sorted count = ap (λ b. b && (acts_made past p == 1)) sorted ∙ ap (λ n. is && (n == 1)) count

pub one-then : (sort : Op → Bool) (plan : Plan) (past : Trace) (p : ℕ) (e : Event) (made : ℕ) (is : Bool) → is_retirement e ≡ false → (is_at_port p e && is_act e) ≡ true
    → is_some_and (next_operation plan past p) sort ≡ is → acts_made past p ≡ made → one_made sort plan (e ∷ past) p ≡ (is && (made + 1 == 1))
one-then sort plan past p e made is other act sorted count =
    one-after sort plan past p e other ∙ ap (λ b. b && ((if is_at_port p e && is_act e then acts_made past p + 1 else acts_made past p) == 1)) sorted
    ∙ ap (λ b. is && ((if b then acts_made past p + 1 else acts_made past p) == 1)) act ∙ ap (λ n. is && (n + 1 == 1)) count

unchanged : (sorted acts : Bool) (made : ℕ) → (acts ≡ true → sorted ≡ false) → (sorted && ((if acts then made + 1 else made) == 1)) ≡ (sorted && (made == 1))
unchanged false acts made other = refl
unchanged true false made other = refl
unchanged true true made other = let bad = other refl in cc

-- an event that is no act of an operation of the sort leaves it
pub one-stays : (sort : Op → Bool) (plan : Plan) (past : Trace) (p : ℕ) (e : Event) → obeys plan past e ≡ true → is_retirement e ≡ false
    → ((is_at_port p e && is_act e) ≡ true → (t : IsTurn plan past p e) → sort t.of ≡ false) → one_made sort plan (e ∷ past) p ≡ one_made sort plan past p
one-stays sort plan past p e o none other =
    one-after sort plan past p e none
    ∙ unchanged (is_some_and (next_operation plan past p) sort) (is_at_port p e && is_act e) (acts_made past p)
    (λ both. let t = next-turn plan past p e o both in ap (λ next. is_some_and next sort) t.next ∙ other both t)

-- ---- retiring ----------------------------------------------------------------------------------------

retires-both : (h : Header) (past : Trace) (p : ℕ) (o : Op) (res : Outcome) → has_two_acts o ≡ true → may_retire h past p o res ≡ true → (acts_made past p == 2) ≡ true
retires-both h past p Mb Ok two m = (and_parts (acts_made past p == 2) (are_acts_done h past p) m).0
retires-both h past p Sb Ok two m = (and_parts (acts_made past p == 2) (are_acts_done h past p) m).0
retires-both h past p (Dvm2 word second) Ok two m = (and_parts (acts_made past p == 2) (are_acts_done h past p) m).0
retires-both h past p Mb Skip two m = let bad = (and_parts (acts_made past p == 0) false m).1 in cc
retires-both h past p Sb Skip two m = let bad = (and_parts (acts_made past p == 0) false m).1 in cc
retires-both h past p (Dvm2 word second) Skip two m = let bad = (and_parts (acts_made past p == 0) false m).1 in cc
retires-both h past p Mb Fail two m = let bad = (and_parts (acts_made past p == 0) false m).1 in cc
retires-both h past p Sb Fail two m = let bad = (and_parts (acts_made past p == 0) false m).1 in cc
retires-both h past p (Dvm2 word second) Fail two m = let bad = (and_parts (acts_made past p == 0) false m).1 in cc
retires-both h past p o res two m = cc

-- where an operation of the port retires, it has made both acts or none
pub retires-none : (sort : Op → Bool) → ((o : Op) → sort o ≡ true → has_two_acts o ≡ true) → (plan : Plan) (past : Trace) (p k : ℕ) (res : Outcome)
    → obeys plan past (Retires p k res) ≡ true → one_made sort plan past p ≡ false
retires-none sort two plan past p k res o =
    let r = retires-next plan past p k res o in
    elim (cases_Bool (sort r.0)) [
      | inr f ↦ ap (λ next. is_some_and next sort && (acts_made past p == 1)) r.1 ∙ ap (λ b. b && (acts_made past p == 1)) f
      | inl t ↦
          let both = eqb-true (acts_made past p) 2 (retires-both plan.header past p r.0 res (two r.0 t) r.2) in
          ap (λ next. is_some_and next sort && (acts_made past p == 1)) r.1 ∙ ap (λ b. b && (acts_made past p == 1)) t ∙ ap (λ n. n == 1) both
    ]

-- and afterwards none
pub none-made : (sort : Op → Bool) (plan : Plan) (past : Trace) (p q k : ℕ) (res : Outcome) → (p == q) ≡ true → one_made sort plan (Retires q k res ∷ past) p ≡ false
none-made sort plan past p q k res t =
    ap (λ n. is_some_and (next_operation plan (Retires q k res ∷ past) p) sort && (n == 1)) (ap (λ b. if b then 0 else acts_made past p) t) ∙ and-false (is_some_and (next_operation plan (Retires q k res ∷ past) p) sort)

pub other-retires : (sort : Op → Bool) (plan : Plan) (past : Trace) (p q k : ℕ) (res : Outcome) → (p == q) ≡ false → one_made sort plan (Retires q k res ∷ past) p ≡ one_made sort plan past p
other-retires sort plan past p q k res n = rw n refl
