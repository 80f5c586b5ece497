use Rattle.std.proofs.Common.{◌≡◌, ◌+◌, ◌==◌, true, false, nat_lt, sym, subst, ◌∙◌}
use Rattle.ace_tables.specs.Answers.{same_test}
use Rattle.ace_model.specs.Kinds.{beats_of}
use Rattle.ace_model.specs.Trace.{implies}
use Rattle.ace_model.proofs.Trace.Looks.{read_writes_none}
use Rattle.ace_clauses.specs.ReadClauses.{are_holders_snooped, are_snoop_data_whole, are_snoops_answered}
use Rattle.ace_explain.proofs.MemoryLetters.{read-transfers}
use Rattle.ace_explain.proofs.TransferLetters.{unanswered_r, unsent_r, unsnooped_r, untaken_r, clean_r}
use Rattle.ace_explain.proofs.transfer_clauses.clause_of_beat.Goals as goal

pub returns-then-not-is_answered : goal.returns-then-not-is_answered
returns-then-not-is_answered c = λ r p i resp last word l head out made kind on failed left right.
    let y = c.args.x.now.transaction in
    let k = c.args.kind in
    let n = read-transfers r.header r.past c.args.x.now made (read_writes_none y k kind).1 in
    unanswered_r r p i resp last word y out k kind (subst (λ n. nat_lt n (beats_of k) ≡ true) n left) (subst (λ n. same_test last (n + 1 == beats_of k) ≡ true) n right) l.accepted on
    (subst (λ n. implies (n == 0) (are_snoops_answered r.header r.past y) ≡ false) n (sym (c.is_answered.ensures r l head on failed) ∙ c.if-not-is_answered.true))

pub returns-then-not-is_sent_whole : goal.returns-then-not-is_sent_whole
returns-then-not-is_sent_whole c = λ r p i resp last word l head out made kind on failed left right.
    let y = c.args.x.now.transaction in
    let k = c.args.kind in
    let n = read-transfers r.header r.past c.args.x.now made (read_writes_none y k kind).1 in
    unsent_r r p i resp last word y out k kind (subst (λ n. nat_lt n (beats_of k) ≡ true) n left) (subst (λ n. same_test last (n + 1 == beats_of k) ≡ true) n right) l.accepted on
    (subst (λ n. implies (n == 0) (are_snoops_answered r.header r.past y) ≡ true) n (sym (c.is_answered.ensures r l head on failed) ∙ c.if-not-is_answered.false))
    (subst (λ n. implies (n == 0) (are_snoop_data_whole r.header r.past y) ≡ false) n (sym (c.is_sent_whole.ensures r l head on failed) ∙ c.if-not-is_sent_whole.true))

pub returns-then-not-is_snooped : goal.returns-then-not-is_snooped
returns-then-not-is_snooped c = λ r p i resp last word l head out made kind on failed left right.
    let y = c.args.x.now.transaction in
    let k = c.args.kind in
    let n = read-transfers r.header r.past c.args.x.now made (read_writes_none y k kind).1 in
    unsnooped_r r p i resp last word y out k kind (subst (λ n. nat_lt n (beats_of k) ≡ true) n left) (subst (λ n. same_test last (n + 1 == beats_of k) ≡ true) n right) l.accepted on
    (subst (λ n. implies (n == 0) (are_snoops_answered r.header r.past y) ≡ true) n (sym (c.is_answered.ensures r l head on failed) ∙ c.if-not-is_answered.false))
    (subst (λ n. implies (n == 0) (are_snoop_data_whole r.header r.past y) ≡ true) n (sym (c.is_sent_whole.ensures r l head on failed) ∙ c.if-not-is_sent_whole.false))
    (subst (λ n. implies (n == 0) (are_holders_snooped r.header r.past y) ≡ false) n (sym (c.is_snooped.ensures r l head on failed) ∙ c.if-not-is_snooped.true))

pub returns-then-takes_passed_data : goal.returns-then-takes_passed_data
returns-then-takes_passed_data c = λ r p i resp last word l head out made kind on failed left right.
    let y = c.args.x.now.transaction in
    let k = c.args.kind in
    let n = read-transfers r.header r.past c.args.x.now made (read_writes_none y k kind).1 in
    clean_r r p i resp last word y out k kind (subst (λ n. nat_lt n (beats_of k) ≡ true) n left) (subst (λ n. same_test last (n + 1 == beats_of k) ≡ true) n right) l.accepted on
    (subst (λ n. implies (n == 0) (are_snoops_answered r.header r.past y) ≡ true) n (sym (c.is_answered.ensures r l head on failed) ∙ c.if-not-is_answered.false))
    (subst (λ n. implies (n == 0) (are_snoop_data_whole r.header r.past y) ≡ true) n (sym (c.is_sent_whole.ensures r l head on failed) ∙ c.if-not-is_sent_whole.false))
    (subst (λ n. implies (n == 0) (are_holders_snooped r.header r.past y) ≡ true) n (sym (c.is_snooped.ensures r l head on failed) ∙ c.if-not-is_snooped.false))
    (sym c.takes_passed_data.ensures ∙ c.if-takes_passed_data.true)

pub returns-else-takes_passed_data : goal.returns-else-takes_passed_data
returns-else-takes_passed_data c = λ r p i resp last word l head out made kind on failed left right.
    let y = c.args.x.now.transaction in
    let k = c.args.kind in
    let n = read-transfers r.header r.past c.args.x.now made (read_writes_none y k kind).1 in
    untaken_r r p i resp last word y out k kind (subst (λ n. nat_lt n (beats_of k) ≡ true) n left) (subst (λ n. same_test last (n + 1 == beats_of k) ≡ true) n right) l.accepted on
    (subst (λ n. implies (n == 0) (are_snoops_answered r.header r.past y) ≡ true) n (sym (c.is_answered.ensures r l head on failed) ∙ c.if-not-is_answered.false))
    (subst (λ n. implies (n == 0) (are_snoop_data_whole r.header r.past y) ≡ true) n (sym (c.is_sent_whole.ensures r l head on failed) ∙ c.if-not-is_sent_whole.false))
    (subst (λ n. implies (n == 0) (are_holders_snooped r.header r.past y) ≡ true) n (sym (c.is_snooped.ensures r l head on failed) ∙ c.if-not-is_snooped.false))
    (sym c.takes_passed_data.ensures ∙ c.if-takes_passed_data.false)
