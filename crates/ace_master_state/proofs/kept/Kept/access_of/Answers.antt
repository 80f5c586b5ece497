use Rattle.std.proofs.Common.{◌≡◌, ◌<◌, ℕ, Bool, true, false, not, nat_le, Some, refl, sym, ap, subst, ◌∙◌, leb-true, arith}
use Rattle.ace_model.specs.Plans.{has_right_fields}
use Rattle.ace_runs.specs.Closing.{access_of, gives_access, state_named}
use Rattle.ace_tables.specs.States.{is_invalid}
use Rattle.ace_model.specs.States.{state_of}
use Rattle.ace_master_state.proofs.kept.Kept.access_of.Goals as goal

few : (w : ℕ) → nat_le w 3 ≡ true → w < 4
few w t = let low = leb-true w 3 t in omega (arith, low)

is-held : (b : Bool) → not b ≡ true → b ≡ false
is-held true n = cc
is-held false n = refl

pub returns-in-Ld : goal.returns-in-Ld
returns-in-Ld c = λ plan past p k fields gives.
    let w = c.in-Ld in
    let word = subst (λ o. has_right_fields o ≡ true) w.is fields in
    let held = subst (λ o. gives_access o (state_named plan.header past p o) ≡ true) w.is gives in
    ap Some (c.load.ensures plan past p k (few w.w word) (is-held (is_invalid (state_of plan.header past p w.addr)) held)) ∙ sym (ap (access_of past p) w.is)

pub returns-in-Ldx : goal.returns-in-Ldx
returns-in-Ldx c = λ plan past p k fields gives.
    let w = c.in-Ldx in
    let word = subst (λ o. has_right_fields o ≡ true) w.is fields in
    let held = subst (λ o. gives_access o (state_named plan.header past p o) ≡ true) w.is gives in
    ap Some (c.load-in-Ldx.ensures plan past p k (few w.w word) (is-held (is_invalid (state_of plan.header past p w.addr)) held)) ∙ sym (ap (access_of past p) w.is)
