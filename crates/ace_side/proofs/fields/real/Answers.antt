use Rattle.std.proofs.Common.{◌≡◌, ◌⊎◌, ◌^◌, ◌-◌, ◌≤◌, sym, subst, ◌∙◌, arith}
use Rattle.ace_side.proofs.HexDigits.{same_number}
use Rattle.ace_side.proofs.fields.real.Goals as goal

pub returns-in_default : goal.returns-in_default
returns-in_default c = λ d h e.
    let same = same_number c.in-Some.d.count c.in-Some.d.value d.count d.value c.in-Some.ensures.0.2 h.0.2 (c.in-Some.ensures.1 ∙ sym e) in
    let plain = subst (λ k. (k ≡ 1) ⊎ (16 ^ (k - 1) ≤ c.in-Some.d.value)) (sym same.0)
    (subst (λ v. (d.count ≡ 1) ⊎ (16 ^ (d.count - 1) ≤ v)) (sym same.1) h.1) in
    absurd (let clash = c.if-is_plain.ensures.1 plain in cc)

pub returns-in_default-2 : goal.returns-in_default-2
returns-in_default-2 c = λ d h e.
    let same = same_number c.in-Some.d.count c.in-Some.d.value d.count d.value c.in-Some.ensures.0.2 h.0.2 (c.in-Some.ensures.1 ∙ sym e) in
    absurd (omega (arith, same.1, h.2, c.if-d-eq0.false))
