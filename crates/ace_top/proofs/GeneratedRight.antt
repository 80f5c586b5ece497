-- The plan that is made from a number is right, whichever number it is.
use Rattle.std.proofs.Common.{◌≡◌, ◌<◌, ◌≤◌, ◌+◌, ◌*◌, ◌/◌, ◌%◌, ◌^◌, ◌-◌, ℕ, zero, suc, [], ◌∷◌, ◌++◌, length, sym, subst, arith, append_assoc}
use Rattle.std.specs.Int.Bits.{bit_xor}
use Rattle.std.proofs.Math.Nat.{div-le_self, mod-lt}
use Rattle.std.proofs.lemmas.List.{append-nil, length-append}
use Rattle.std.proofs.lemmas.Nat.{or_lt}
use Rattle.rand_pcg.specs.Lcg.{Lcg, increment_of, started}
use Rattle.rand_pcg.specs.Pcg.{multiplier_64, pcg32}
use Rattle.ace_model.specs.declared.plans.PolicyWord.TheVariants.{Mixed}
use Rattle.ace_model.specs.Plans.{IsRight, Plan, longer, most_operations}
use Rattle.ace_script.specs.Generated.{drawn, drawn_operation, generated, generated_count, generated_header}
use Rattle.ace_script.proofs.GeneratedPlans.{IsDrawn, nothing_drawn, one_drawn}

-- a word of the generator has 32 bits
word_fits : (words : Lcg) → (pcg32 words).0 < 2 ^ 32
word_fits words =
    let n = bit_xor (words.state / 2 ^ 18) words.state / 2 ^ 27 % 2 ^ 32 in
    let by = words.state / 2 ^ 59 in
    let low : n < 2 ^ 32 = mod-lt (bit_xor (words.state / 2 ^ 18) words.state / 2 ^ 27) (omega arith) in
    let less = div-le_self n (2 ^ (by % 32)) in
    or_lt 32 (n / 2 ^ (by % 32)) ((n * 2 ^ ((32 - by % 32) % 32)) % 2 ^ 32) (omega (arith, low, less)) (mod-lt (n * 2 ^ ((32 - by % 32) % 32)) (omega arith))

with_drawn : (count : ℕ) (words : Lcg) (plan : Plan) → length plan.operations + count ≤ most_operations → IsDrawn plan
    → IsDrawn (record plan { operations = plan.operations ++ drawn count words })
unfolding drawn
with_drawn zero words plan few d = subst (λ os. IsDrawn (record plan { operations = os })) (sym (append-nil plan.operations)) d
with_drawn (suc count) words plan few d =
    let o = drawn_operation (pcg32 words).0 (pcg32 (pcg32 words).1).0 in
    let last = (pcg32 (pcg32 words).1).1 in
    let one : IsDrawn (longer plan o) = one_drawn plan (pcg32 words).0 (pcg32 (pcg32 words).1).0 (word_fits (pcg32 words).1) (omega (arith, few)) d in
    let more : length (plan.operations ++ o ∷ []) ≡ length plan.operations + 1 = length-append plan.operations (o ∷ []) in
    let rest = with_drawn count last (longer plan o) (omega (arith, few, more)) one in
    subst (λ os. IsDrawn (record plan { operations = os })) (append_assoc plan.operations (o ∷ []) (drawn count last)) rest

pub generated_right : (number : ℕ) → IsRight (generated number)
generated_right number =
    let words = started 64 multiplier_64 number (increment_of 64 1) in
    let empty : Plan = record { header = generated_header; ways = 4; policy = Mixed 0; operations = [] } in
    let d = with_drawn generated_count words empty (omega arith) (nothing_drawn 0 (omega arith)) in
    let r = d.script.right in
    record { header = r.header; version = r.version; some_way = r.some_way; most_ways = r.most_ways; few = r.few; operations = r.operations }
