use Rattle.std.proofs.Common.{◌≡◌, ◌+◌, ◌==◌, true, false, nat_lt, sym, subst, ◌∙◌, inl, inr}
use Rattle.std.proofs.lemmas.Bool.{cases_Bool}
use Rattle.ace_event.specs.declared.event.Channel.TheVariants.{Read}
use Rattle.ace_tables.specs.Answers.{same_test}
use Rattle.ace_model.specs.Grants.{is_granted}
use Rattle.ace_model.specs.Kinds.{beats_of}
use Rattle.ace_model.specs.Transactions.{is_line}
use Rattle.ace_model.proofs.General.Booleans.{implies-at}
use Rattle.ace_model.proofs.Grants.Granted.{granted_at}
use Rattle.ace_model.proofs.Trace.Looks.{read_writes_none}
use Rattle.ace_explain.proofs.MemoryLetters.{read-transfers}
use Rattle.ace_explain.proofs.TransferLetters.{surplus_r, miscounted_r, ungranted_r, lineless_r}
use Rattle.ace_explain.proofs.transfer_clauses.clause_of_transfer.Goals as goal

pub returns-then-not-has_transfers_left : goal.returns-then-not-has_transfers_left
returns-then-not-has_transfers_left c = λ r p i resp word l head out made kind failed.
    let y = c.args.x.now.transaction in
    let k = c.args.kind in
    let n = read-transfers r.header r.past c.args.x.now made (read_writes_none y k kind).1 in
    surplus_r r p i resp c.args.last word y out k kind
    (subst (λ n. nat_lt n (beats_of k) ≡ false) n (sym c.has_transfers_left.ensures ∙ c.if-not-has_transfers_left.true))

pub returns-then-not-is_counted : goal.returns-then-not-is_counted
returns-then-not-is_counted c = λ r p i resp word l head out made kind failed.
    let y = c.args.x.now.transaction in
    let k = c.args.kind in
    let n = read-transfers r.header r.past c.args.x.now made (read_writes_none y k kind).1 in
    miscounted_r r p i resp c.args.last word y out k kind
    (subst (λ n. nat_lt n (beats_of k) ≡ true) n (sym c.has_transfers_left.ensures ∙ c.if-not-has_transfers_left.false))
    (subst (λ n. same_test c.args.last (n + 1 == beats_of k) ≡ false) n (sym c.is_counted.ensures ∙ c.if-not-is_counted.true))

pub returns-then-not-has_its_grant : goal.returns-then-not-has_its_grant
returns-then-not-has_its_grant c = λ r p i resp word l head out made kind failed.
    let y = c.args.x.now.transaction in
    let k = c.args.kind in
    let n = read-transfers r.header r.past c.args.x.now made (read_writes_none y k kind).1 in
    ungranted_r r p i resp c.args.last word y out k kind
    (subst (λ n. nat_lt n (beats_of k) ≡ true) n (sym c.has_transfers_left.ensures ∙ c.if-not-has_transfers_left.false))
    (subst (λ n. same_test c.args.last (n + 1 == beats_of k) ≡ true) n (sym c.is_counted.ensures ∙ c.if-not-is_counted.false))
    (sym (c.has_its_grant.ensures r l) ∙ c.if-not-has_its_grant.true)

pub returns : goal.returns
returns c = λ r p i resp word l head out made kind failed.
    let y = c.args.x.now.transaction in
    let k = c.args.kind in
    let n = read-transfers r.header r.past c.args.x.now made (read_writes_none y k kind).1 in
    let more = sym c.has_transfers_left.ensures ∙ c.if-not-has_transfers_left.false in
    let right = sym c.is_counted.ensures ∙ c.if-not-is_counted.false in
    elim (cases_Bool (is_line y)) [
      | inr none ↦ lineless_r r p i resp c.args.last word y out k kind
          (subst (λ n. nat_lt n (beats_of k) ≡ true) n more) (subst (λ n. same_test c.args.last (n + 1 == beats_of k) ≡ true) n right) none c.clause_of_beat.result
      | inl line ↦
          let given = implies-at (is_line y) (is_granted r.header r.past y) (sym (c.has_its_grant.ensures r l) ∙ c.if-not-has_its_grant.false) line in
          let on = granted_at r.header r.past l.accepted p Read i y out given in
          c.clause_of_beat.ensures r p i resp c.args.last word l head out made kind on (failed on) more right
    ]
