use Rattle.std.proofs.Common.{◌||◌, sym, ap, ◌∙◌}
use Rattle.ace_codes.specs.Responses.{is_shared, passes_dirty}
use Rattle.ace_event.specs.declared.header.Header.{Header}
use Rattle.ace_model.specs.Trace.{implies, is_some_and}
use Rattle.ace_model.specs.ReadRules.{must_be_shared}
use Rattle.ace_model.specs.Transactions.{is_ace}
use Rattle.ace_explain.proofs.BitLetters.{may_come, unpassed, unsharing, both_bits, of_lite, untold, unlike_first_bits}
use Rattle.ace_explain.proofs.bit_clauses.clause_of_bits.Goals as goal

pub returns-then-not-fits_passed : goal.returns-then-not-fits_passed
returns-then-not-fits_passed c = λ r p i last word q l out least.
    let kind = sym c.read_kind.ensures ∙ c.in-Some.is in
    let may = may_come r p i c.args.x.now out c.args.resp last word c.in-Some.kind kind least in
    unpassed r p i c.args.x.now out c.args.resp last word c.in-Some.kind kind
    (ap (implies (passes_dirty c.args.resp)) (sym (c.has_passed_data.ensures r p i l out may)) ∙ sym c.fits_passed.ensures ∙ c.if-not-fits_passed.true) least

pub returns-then-not-fits_sharing : goal.returns-then-not-fits_sharing
returns-then-not-fits_sharing c = λ r p i last word q l out least.
    let kind = sym c.read_kind.ensures ∙ c.in-Some.is in
    let may = may_come r p i c.args.x.now out c.args.resp last word c.in-Some.kind kind least in
    unsharing r p i c.args.x.now out c.args.resp last word c.in-Some.kind kind
    (ap (implies (passes_dirty c.args.resp)) (sym (c.has_passed_data.ensures r p i l out may)) ∙ sym c.fits_passed.ensures ∙ c.if-not-fits_passed.false)
    (sym c.fits_sharing.ensures ∙ c.if-not-fits_sharing.true) least

pub returns-then-not-has_not_both : goal.returns-then-not-has_not_both
returns-then-not-has_not_both c = λ r p i last word q l out least.
    let kind = sym c.read_kind.ensures ∙ c.in-Some.is in
    let may = may_come r p i c.args.x.now out c.args.resp last word c.in-Some.kind kind least in
    both_bits r p i c.args.x.now out c.args.resp last word c.in-Some.kind kind
    (ap (implies (passes_dirty c.args.resp)) (sym (c.has_passed_data.ensures r p i l out may)) ∙ sym c.fits_passed.ensures ∙ c.if-not-fits_passed.false)
    (sym c.fits_sharing.ensures ∙ c.if-not-fits_sharing.false)
    (sym c.has_not_both.ensures ∙ c.if-not-has_not_both.true) least

pub returns-then-not-fits_port : goal.returns-then-not-fits_port
returns-then-not-fits_port c = λ r p i last word q l out least.
    let kind = sym c.read_kind.ensures ∙ c.in-Some.is in
    let may = may_come r p i c.args.x.now out c.args.resp last word c.in-Some.kind kind least in
    of_lite r p i c.args.x.now out c.args.resp last word c.in-Some.kind kind
    (ap (implies (passes_dirty c.args.resp)) (sym (c.has_passed_data.ensures r p i l out may)) ∙ sym c.fits_passed.ensures ∙ c.if-not-fits_passed.false)
    (sym c.fits_sharing.ensures ∙ c.if-not-fits_sharing.false)
    (sym c.has_not_both.ensures ∙ c.if-not-has_not_both.false)
    (ap (λ (h : Header). implies (passes_dirty c.args.resp || is_shared c.args.resp) (is_ace h c.args.x.now.port)) (sym (c.header.ensures r q)) ∙ sym c.fits_port.ensures ∙ c.if-not-fits_port.true) least

pub returns-then-fits_sharer : goal.returns-then-fits_sharer
returns-then-fits_sharer c = λ r p i last word q l out least.
    let kind = sym c.read_kind.ensures ∙ c.in-Some.is in
    let may = may_come r p i c.args.x.now out c.args.resp last word c.in-Some.kind kind least in
    unlike_first_bits r p i c.args.x.now out c.args.resp last word c.in-Some.kind kind
    (ap (implies (passes_dirty c.args.resp)) (sym (c.has_passed_data.ensures r p i l out may)) ∙ sym c.fits_passed.ensures ∙ c.if-not-fits_passed.false)
    (sym c.fits_sharing.ensures ∙ c.if-not-fits_sharing.false)
    (sym c.has_not_both.ensures ∙ c.if-not-has_not_both.false)
    (ap (λ (h : Header). implies (passes_dirty c.args.resp || is_shared c.args.resp) (is_ace h c.args.x.now.port)) (sym (c.header.ensures r q)) ∙ sym c.fits_port.ensures ∙ c.if-not-fits_port.false)
    (ap (λ b. implies b (is_shared c.args.resp)) (ap (λ o. is_some_and o (must_be_shared r.header r.past c.args.x.now)) (sym (sym c.read_kind.ensures ∙ c.in-Some.is)) ∙ sym (c.must_be_shared.ensures r p i l out may)) ∙ sym c.fits_sharer.ensures ∙ c.if-fits_sharer.true) least

pub returns-else-fits_sharer : goal.returns-else-fits_sharer
returns-else-fits_sharer c = λ r p i last word q l out least.
    let kind = sym c.read_kind.ensures ∙ c.in-Some.is in
    let may = may_come r p i c.args.x.now out c.args.resp last word c.in-Some.kind kind least in
    untold r p i c.args.x.now out c.args.resp last word c.in-Some.kind kind
    (ap (implies (passes_dirty c.args.resp)) (sym (c.has_passed_data.ensures r p i l out may)) ∙ sym c.fits_passed.ensures ∙ c.if-not-fits_passed.false)
    (sym c.fits_sharing.ensures ∙ c.if-not-fits_sharing.false)
    (sym c.has_not_both.ensures ∙ c.if-not-has_not_both.false)
    (ap (λ (h : Header). implies (passes_dirty c.args.resp || is_shared c.args.resp) (is_ace h c.args.x.now.port)) (sym (c.header.ensures r q)) ∙ sym c.fits_port.ensures ∙ c.if-not-fits_port.false)
    (ap (λ b. implies b (is_shared c.args.resp)) (ap (λ o. is_some_and o (must_be_shared r.header r.past c.args.x.now)) (sym (sym c.read_kind.ensures ∙ c.in-Some.is)) ∙ sym (c.must_be_shared.ensures r p i l out may)) ∙ sym c.fits_sharer.ensures ∙ c.if-fits_sharer.false) least
