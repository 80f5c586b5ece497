use Rattle.std.proofs.Common.{◌≡◌, ◌∙◌, ap, sym, not, is_none, is_some, Option, Some, None, option_map, arith, refl, Bor}
use Rattle.std.proofs.lemmas.Grind.{common_steps}
use Rattle.ace_portck.proofs.Terms.{option_copied, own_of, progress_of}
use Rattle.ace_portck.proofs.Own.{has_outstanding-own}
use Rattle.ace_portck.proofs.transactions.Transactions.is_line_free.Goals as goal

no_more : {A B : Type 0} → (f : A → B) (o : Option (Bor B)) (u : Option A) → option_copied o ≡ option_map f u → is_none o ≡ not (is_some u)
no_more f None None e = refl
no_more f None (Some x) e = cc
no_more f (Some b) None e = cc
no_more f (Some b) (Some x) e = refl

pub returns : goal.returns
returns c = λ h past p s.
    let none : c.is_none.result ≡ is_none c.own_on.result = grind (arith, common_steps) in
    none ∙ no_more (progress_of h past) c.own_on.result (own_of h past p c.args.line) (c.own_on.ensures h past p s)
    ∙ ap not (sym (has_outstanding-own h past s.accepted p c.args.line))
