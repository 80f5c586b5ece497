-- Which transactions wait for a line: those whose G breaks no rule, as long as the line isn't granted.
use Rattle.std.proofs.Common.{◌≡◌, ℕ, ◌<◌, true, false, not, ◌&&◌, nat_lt, None, is_none, refl, ap, ◌∙◌}
use Rattle.std.proofs.lemmas.Bool.{and_from, and_parts, false_from_ne_true, ltb-true, not-true}
use Rattle.ace_event.specs.declared.header.Header.{Header}
use Rattle.ace_model.specs.declared.transactions.Transaction.{Transaction}
use Rattle.ace_model.specs.Accepted.{IsAccepted}
use Rattle.ace_model.specs.AddressRules.{k1}
use Rattle.ace_model.specs.Grants.{granted, has_grant}
use Rattle.ace_model.specs.OrderRules.{is_past_barriers, k35}
use Rattle.ace_model.specs.SnoopRules.{k12, may_be_granted}
use Rattle.ace_model.specs.Trace.{Trace}
use Rattle.ace_model.specs.Transactions.{is_on, is_outstanding, outstanding, takes_grant}
use Rattle.ace_model.proofs.General.Options.{is_none_or-at, is_some_and-at, none_is}
use Rattle.ace_model.proofs.Rules.Keeps.{accepted_keeps}
use Rattle.ace_model.proofs.Trace.Growth.{IsIssued, each_issued-at}
use Rattle.ace_model.proofs.Trace.Looks.{is_on-addr}
use Rattle.ace_runs.specs.Bursts.{is_kept}
use Rattle.ace_runs.specs.LineSteps.{is_first_to_wait, waits}
use Rattle.ace_runs.proofs.Accepting.{kept-breaks-none}
use Rattle.ace_runs.proofs.NeverStuck.Barriers.EachIssued.{each-from}
use Rattle.ace_runs.proofs.NeverStuck.Barriers.WaitingMove.{grant-kept}
use Rattle.ace_model.proofs.Trace.IssuedTransactions.{issuer-low}
use Rattle.ace_home.specs.Home.{IsOf, goes_before, grant_of}
use Rattle.ace_home.proofs.Outstanding.{of-at, of-port, out-own}

module _ (h : Header) (past : Trace) (a : IsAccepted h past) where
  module _ (p : ℕ) (y : Transaction) (o : IsOf h past p y) where
    -- what a G that breaks no rule says
    pub may-be-granted : is_kept h past (grant_of y) ≡ true → may_be_granted h past y ≡ true
    may-be-granted kept =
        let keeps = accepted_keeps h past (grant_of y) (a, kept-breaks-none h past (grant_of y) kept) in
        is_some_and-at (outstanding h past y.port y.chan y.id) (may_be_granted h past) y keeps.rule_12 (out-own h past a p y o)

    pub past-barriers : is_kept h past (grant_of y) ≡ true → is_past_barriers past y ≡ true
    past-barriers kept =
        let keeps = accepted_keeps h past (grant_of y) (a, kept-breaks-none h past (grant_of y) kept) in
        is_none_or-at (outstanding h past y.port y.chan y.id) (is_past_barriers past) y keeps.rule_35 (out-own h past a p y o)

    pub kept-takes : is_kept h past (grant_of y) ≡ true → takes_grant y ≡ true
    kept-takes kept = (and_parts (takes_grant y) _ (and_parts (takes_grant y && not (has_grant past y.port y.chan y.id)) _ (may-be-granted kept)).0).0

    pub kept-free : is_kept h past (grant_of y) ≡ true → granted h past y.addr ≡ None
    kept-free kept = none_is (granted h past y.addr) (and_parts (takes_grant y && not (has_grant past y.port y.chan y.id)) _ (may-be-granted kept)).1

    pub kept-waits : is_kept h past (grant_of y) ≡ true → waits h past y ≡ true
    kept-waits kept =
        let two = and_parts (takes_grant y && not (has_grant past y.port y.chan y.id)) _ (may-be-granted kept) in
        let one = and_parts (takes_grant y) (not (has_grant past y.port y.chan y.id)) two.0 in
        and_from _ _ (and_from _ _ one.0 (of-at h past p y o).is_out) one.1

    -- no G comes twice
    pub had-not-kept : has_grant past y.port y.chan y.id ≡ true → is_kept h past (grant_of y) ≡ false
    had-not-kept had =
        false_from_ne_true (is_kept h past (grant_of y)) (λ kept.
        let one = and_parts (takes_grant y) (not (has_grant past y.port y.chan y.id)) (and_parts (takes_grant y && not (has_grant past y.port y.chan y.id)) _ (may-be-granted kept)).0 in
        let none = not-true (has_grant past y.port y.chan y.id) one.1 in cc)

  -- where the line isn't granted, the G of what waits for it and isn't held by barriers breaks no rule
  pub waits-kept : (y : Transaction) → IsIssued past y → granted h past y.addr ≡ None → waits h past y ≡ true → is_past_barriers past y ≡ true → is_kept h past (grant_of y) ≡ true
  waits-kept y i none waiting order =
      let two = and_parts (takes_grant y && is_outstanding h past y) (not (has_grant past y.port y.chan y.id)) waiting in
      let one = and_parts (takes_grant y) (is_outstanding h past y) two.0 in
      let out = out-own h past a y.port y (of-port h past y i one.1) in
      let free : is_none (granted h past y.addr) ≡ true = rw none refl in
      let low : k1 h past (grant_of y) ≡ true = and_from _ _ (issuer-low h past y a i) refl in
      let twelve : k12 h past (grant_of y) ≡ true = rw out (and_from _ _ (and_from _ _ one.0 two.1) free) in
      let barriers : k35 h past (grant_of y) ≡ true = rw out order in
      grant-kept h past y.port y.chan y.id low twelve barriers

  -- ---- the first that waits ----

  module _ (x : Transaction) (free : granted h past x.addr ≡ None) where
    pub first-where : ((q : ℕ) (y : Transaction) → q < h.ports → IsOf h past q y → goes_before h past y x ≡ false) → is_first_to_wait h past x ≡ true
    first-where none =
        each-from past (λ y. not (is_on y x.addr && nat_lt y.place x.place && waits h past y && is_past_barriers past y)) (λ y i.
        ap not (false_from_ne_true (is_on y x.addr && nat_lt y.place x.place && waits h past y && is_past_barriers past y) (λ t.
        let three = and_parts (is_on y x.addr && nat_lt y.place x.place && waits h past y) (is_past_barriers past y) t in
        let two = and_parts (is_on y x.addr && nat_lt y.place x.place) (waits h past y) three.0 in
        let one = and_parts (is_on y x.addr) (nat_lt y.place x.place) two.0 in
        let at : granted h past y.addr ≡ None = ap (granted h past) (is_on-addr y x.addr one.0) ∙ free in
        let kept = waits-kept y i at two.1 three.1 in
        let out = (and_parts (takes_grant y) (is_outstanding h past y) (and_parts (takes_grant y && is_outstanding h past y) _ two.1).0).1 in
        let no = none y.port y (ltb-true y.port h.ports (issuer-low h past y a i)) (of-port h past y i out) in
        let yes : goes_before h past y x ≡ true = and_from _ _ two.0 kept in cc)))

    pub not-first-where : (q : ℕ) (y : Transaction) → IsOf h past q y → goes_before h past y x ≡ true → is_first_to_wait h past x ≡ false
    not-first-where q y o goes =
        let two = and_parts (is_on y x.addr && nat_lt y.place x.place) (is_kept h past (grant_of y)) goes in
        let held : (is_on y x.addr && nat_lt y.place x.place && waits h past y && is_past_barriers past y) ≡ true =
        and_from _ _ (and_from _ _ two.0 (kept-waits q y o two.1)) (past-barriers q y o two.1) in
        false_from_ne_true (is_first_to_wait h past x) (λ first.
        let w = of-at h past q y o in
        let no = each_issued-at past (λ y. not (is_on y x.addr && nat_lt y.place x.place && waits h past y && is_past_barriers past y)) y.place y first w.issued.there in
        let none = not-true (is_on y x.addr && nat_lt y.place x.place && waits h past y && is_past_barriers past y) no in cc)
