use Rattle.std.proofs.Common.{◌==◌, sym, subst, inl, inr}
use Rattle.std.proofs.lemmas.Bool.{cases_Bool, eqb-true}
use Rattle.ace_home.specs.Home.{IsOf}
use Rattle.ace_home.proofs.home.Home.look.Goals as goal

pub returns-then-may_rest : goal.returns-then-may_rest
returns-then-may_rest c = λ plan past s.
    let p = c.args.port in
    record {
      legal = s.legal;
      shares = s.shares;
      header = s.header;
      users = s.users;
      resting = λ q t x o. elim (cases_Bool (p == q)) [
        | inr other ↦ s.resting q (c.add.ensures.less q t other) x o
        | inl own ↦ c.may_rest.ensures c.if-may_rest.true plan past x s (subst (λ r. IsOf plan.header past r x) (sym (eqb-true p q own)) o)
      ];
    }
