use Rattle.std.proofs.Common.{◌≡◌, ◌==◌, ◌%◌, true, sym, ap, subst, ◌∙◌}
use Rattle.std.proofs.lemmas.Bool.{eq-eqb, le-ltb, lt-ltb}
use Rattle.ace_event.specs.declared.header.Header.{Header}
use Rattle.ace_portck.specs.Opening.{OpeningStands}
use Rattle.ace_explain.proofs.AddressLetters.{closed_is, opened_is, empty_is, late_mem, low_mem, further_mem}
use Rattle.ace_explain.proofs.address_clauses.clause_of_mem.Goals as goal

pub returns-in-Closed : goal.returns-in-Closed
returns-in-Closed c = λ r line p.
    let aligned : (c.args.addr % 64 == 0) ≡ true = eq-eqb _ _ c.if-addr-ne0.false in
    let version : (r.header.version == 2) ≡ true = eq-eqb _ _ (ap (λ (h : Header). h.version) (sym (c.header.ensures r p)) ∙ c.if-header-ne2.false) in
    late_mem r c.args.addr line aligned version (closed_is r.past (subst (OpeningStands r.past) c.in-Closed.is (c.opening.ensures r p)))

pub returns-in-Empty : goal.returns-in-Empty
returns-in-Empty c = λ r line p.
    let aligned : (c.args.addr % 64 == 0) ≡ true = eq-eqb _ _ c.if-addr-ne0.false in
    let version : (r.header.version == 2) ≡ true = eq-eqb _ _ (ap (λ (h : Header). h.version) (sym (c.header.ensures r p)) ∙ c.if-header-ne2.false) in
    let s = subst (OpeningStands r.past) c.in-Empty.is (c.opening.ensures r p) in
    further_mem r c.args.addr line aligned version (empty_is r.past s) (s.below c.args.addr)

pub returns-then-last-addr : goal.returns-then-last-addr
returns-then-last-addr c = λ r line p.
    let aligned : (c.args.addr % 64 == 0) ≡ true = eq-eqb _ _ c.if-addr-ne0.false in
    let version : (r.header.version == 2) ≡ true = eq-eqb _ _ (ap (λ (h : Header). h.version) (sym (c.header.ensures r p)) ∙ c.if-header-ne2.false) in
    let s = subst (OpeningStands r.past) c.in-Opened.is (c.opening.ensures r p) in
    further_mem r c.args.addr line aligned version (opened_is r.past c.in-Opened.last s) (s.below c.args.addr ∙ lt-ltb c.in-Opened.last c.args.addr c.if-last-addr.true)

pub returns-else-last-addr : goal.returns-else-last-addr
returns-else-last-addr c = λ r line p.
    let aligned : (c.args.addr % 64 == 0) ≡ true = eq-eqb _ _ c.if-addr-ne0.false in
    let version : (r.header.version == 2) ≡ true = eq-eqb _ _ (ap (λ (h : Header). h.version) (sym (c.header.ensures r p)) ∙ c.if-header-ne2.false) in
    let s = subst (OpeningStands r.past) c.in-Opened.is (c.opening.ensures r p) in
    low_mem r c.args.addr line aligned version (opened_is r.past c.in-Opened.last s) (s.below c.args.addr ∙ le-ltb c.in-Opened.last c.args.addr c.if-last-addr.false)
