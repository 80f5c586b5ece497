-- A transaction has at most one grant, one write of memory and one response.
use Rattle.std.proofs.Common.{◌≡◌, ℕ, ◌+◌, ◌≤◌, Bool, true, false, not, ◌&&◌, ◌||◌, ◌==◌, if◌then◌else◌, ◌∷◌, is_some, is_none, refl, sym, ◌∙◌, arith}
use Rattle.std.proofs.lemmas.Bool.{and_parts, and_from, not-true, eqb-true, eq-eqb}
use Rattle.ace_event.specs.declared.event.Channel.{Channel}
use Rattle.ace_event.specs.declared.event.Channel.TheVariants.{Read, Write}
use Rattle.ace_event.specs.declared.event.Event.{Event}
use Rattle.ace_event.specs.declared.event.Event.TheVariants.{Ar, Aw, B, G, M}
use Rattle.ace_event.specs.declared.header.Header.{Header}
use Rattle.ace_event.specs.declared.line.Line.{Line}
use Rattle.ace_model.specs.declared.transactions.Transaction.{Transaction}
use Rattle.ace_model.specs.Accepted.{IsAccepted}
use Rattle.ace_model.specs.Trace.{Trace, is_some_and, implies}
use Rattle.ace_model.specs.Kinds.{has_write_data}
use Rattle.ace_model.specs.Transactions.{is_read, has_name, is_named, same_channel, outstanding, transfers, is_completion, is_complete, takes_grant, write_kind}
use Rattle.ace_model.specs.Writes.{is_memory_write, has_memory_write, is_burst_whole}
use Rattle.ace_model.specs.Grants.{given, has_grant, granted, is_granted, passer, has_passed_data, are_passed_data_whole}
use Rattle.ace_model.specs.SnoopRules.{may_be_granted}
use Rattle.ace_model.specs.WriteRules.{may_write_memory, may_write_passed, may_write_data, may_respond, is_write_due, is_update_due}
use Rattle.ace_model.proofs.General.Options.{is_some_and-is}
use Rattle.ace_model.proofs.Rules.Keeps.{accepted_keeps}
use Rattle.ace_model.proofs.Trace.Issued.{outstanding-named, outstanding-name}
use Rattle.ace_model.proofs.Trace.Looks.{at_name, has_name-self, same_channel-is, same_channel-self}
use Rattle.ace_runs.specs.Counts.{counted, issues, issues_on, issues_granted, issues_granted_on, is_grant, grants_on, writes_memory, writes_memory_on, is_response}
use Rattle.ace_runs.proofs.Few.Keys.{of_name}
use Rattle.ace_runs.proofs.Few.Counting.{one, counted-split}
use Rattle.ace_runs.proofs.Few.Once.{Since, IsFirst, AreIssues, once-each}

-- the name that the event has
record IsName (q p : ℕ) (d c : Channel) (j i : ℕ) : Type 0 where
  port : q ≡ p
  chan : d ≡ c
  id : j ≡ i

name-is : (q p : ℕ) (d c : Channel) (j i : ℕ) → ((same_channel d c && (q == p)) && (j == i)) ≡ true → IsName q p d c j i
name-is q p d c j i name =
    let a = and_parts (same_channel d c && (q == p)) (j == i) name in
    let b = and_parts (same_channel d c) (q == p) a.0 in
    record { port = eqb-true q p b.1; chan = same_channel-is d c b.0; id = eqb-true j i a.1 }

-- what is first under its own name is so under the name that is the same
first-at : (sort : Transaction → Bool) (test : Since) (past : Trace) (e : Event) (q p : ℕ) (d c : Channel) (j i : ℕ) → IsName q p d c j i → IsFirst sort test d q j past e → IsFirst sort test c p i past e
first-at sort test past e q p d c j i n f = rw (← n.port, ← n.chan, ← n.id) f

-- an event that issues a transaction of the name
abbrev any : Transaction → Bool
any x = true

issues-any : (c : Channel) → AreIssues any (issues_on c) c
issues-any c n p i (Ar q j addr snoop dom bar lock) name sort =
    let a = and_parts ((q == p) && same_channel Read c) (j == i) name in
    let b = and_parts (q == p) (same_channel Read c) a.0 in
    and_from _ _ (and_from _ _ b.1 b.0) a.1
issues-any c n p i (Aw q j addr snoop dom bar) name sort =
    let a = and_parts ((q == p) && same_channel Write c) (j == i) name in
    let b = and_parts (q == p) (same_channel Write c) a.0 in
    and_from _ _ (and_from _ _ b.1 b.0) a.1
issues-any c n p i e name sort = cc

-- and one of a transaction that is granted its line
issues-grantable : (c : Channel) → AreIssues takes_grant (issues_granted_on c) c
issues-grantable c n p i (Ar q j addr snoop dom bar lock) name sort =
    let a = and_parts ((q == p) && same_channel Read c) (j == i) name in
    let b = and_parts (q == p) (same_channel Read c) a.0 in
    and_from _ _ (and_from _ _ (and_from _ _ b.1 sort) b.0) a.1
issues-grantable c n p i (Aw q j addr snoop dom bar) name sort =
    let a = and_parts ((q == p) && same_channel Write c) (j == i) name in
    let b = and_parts (q == p) (same_channel Write c) a.0 in
    and_from _ _ (and_from _ _ (and_from _ _ b.1 sort) b.0) a.1
issues-grantable c n p i e name sort = cc

-- ---- grants ------------------------------------------------------------------------------------------

abbrev grant_test : Since
grant_test before e = is_named (given before e)

granted-first : (h : Header) (past : Trace) (q j : ℕ) (d : Channel) → IsAccepted h (G q d j ∷ past) → IsFirst takes_grant grant_test d q j past (G q d j)
granted-first h past q j d a =
    let o = is_some_and-is (outstanding h past q d j) (may_be_granted h past) (accepted_keeps h past (G q d j) a).rule_12 in
    let x = o.0 in
    let may = and_parts (takes_grant x && not (has_grant past x.port x.chan x.id)) (is_none (granted h past x.addr)) o.2 in
    let grant = and_parts (takes_grant x) (not (has_grant past x.port x.chan x.id)) may.0 in
    let of = outstanding-named h past q d j x o.1 in
    let name = outstanding-name h past q d j x o.1 in
    record {
      there = rw of grant.0;
      none = sym (at_name (has_grant past) x q d j name) ∙ not-true _ grant.1;
      now = rw of (sym (at_name (has_name x) x q d j name) ∙ has_name-self x);
    }

grant-is-first : (c : Channel) (h : Header) (p i : ℕ) (e : Event) (past : Trace) → IsAccepted h (e ∷ past) → of_name (grants_on c) p i e ≡ true → IsFirst takes_grant grant_test c p i past e
grant-is-first c h p i (G q d j) past a name =
    first-at takes_grant grant_test past (G q d j) q p d c j i (name-is q p d c j i name) (granted-first h past q j d a)
grant-is-first c h p i e past a name = cc

two-grants : (e : Event) → one (is_grant e) ≡ one (grants_on Read e) + one (grants_on Write e)
two-grants (G p Read i) = refl
two-grants (G p Write i) = refl
two-grants _ = refl

-- ---- writes of memory --------------------------------------------------------------------------------

abbrev memory_test : Since
memory_test before = is_memory_write

either : (b x y k : Bool) → (if b then x else y) ≡ true → (x ≡ true → k ≡ false) → (y ≡ true → k ≡ false) → k ≡ false
either true x y k which first second = first which
either false x y k which first second = second which

unwritten : (h : Header) (past : Trace) (x : Transaction) → may_write_memory h past x ≡ true → has_memory_write past x.port x.chan x.id ≡ false
unwritten h past x may =
    either (is_read x.chan) (may_write_passed h past x) (may_write_data h past x) (has_memory_write past x.port x.chan x.id) may
    (λ passed.
    let a = and_parts (has_passed_data h past x && are_passed_data_whole h past x) (transfers past x.port x.id == 0) passed in
    let b = and_parts (has_passed_data h past x) (are_passed_data_whole h past x) a.0 in
    let c = and_parts (is_granted h past x && is_some (passer h past x.addr)) (not (has_memory_write past x.port x.chan x.id)) b.0 in
    not-true _ c.1)
    (λ burst.
    let a = and_parts (is_burst_whole past x && not (has_memory_write past x.port x.chan x.id)) (is_write_due h past x || is_update_due h past x) burst in
    let b = and_parts (is_burst_whole past x) (not (has_memory_write past x.port x.chan x.id)) a.0 in
    not-true _ b.1)

written-first : (h : Header) (past : Trace) (q j : ℕ) (d : Channel) (line : Line) → IsAccepted h (M q d j line ∷ past) → IsFirst any memory_test d q j past (M q d j line)
written-first h past q j d line a =
    let o = is_some_and-is (outstanding h past q d j) (may_write_memory h past) (accepted_keeps h past (M q d j line) a).rule_24 in
    let x = o.0 in
    let of = outstanding-named h past q d j x o.1 in
    let name = outstanding-name h past q d j x o.1 in
    record {
      there = rw of refl;
      none = sym (at_name (has_memory_write past) x q d j name) ∙ unwritten h past x o.2;
      now = and_from _ _ (and_from _ _ (eq-eqb q q refl) (same_channel-self d)) (eq-eqb j j refl);
    }

write-is-first : (c : Channel) (h : Header) (p i : ℕ) (e : Event) (past : Trace) → IsAccepted h (e ∷ past) → of_name (writes_memory_on c) p i e ≡ true → IsFirst any memory_test c p i past e
write-is-first c h p i (M q d j line) past a name =
    first-at any memory_test past (M q d j line) q p d c j i (name-is q p d c j i name) (written-first h past q j d line a)
write-is-first c h p i e past a name = cc

two-writes : (e : Event) → one (writes_memory e) ≡ one (writes_memory_on Read e) + one (writes_memory_on Write e)
two-writes (M p Read i line) = refl
two-writes (M p Write i line) = refl
two-writes _ = refl

-- ---- responses ---------------------------------------------------------------------------------------

abbrev response_test : Since
response_test before = is_completion

responded-first : (h : Header) (past : Trace) (q j resp : ℕ) → IsAccepted h (B q j resp ∷ past) → IsFirst any response_test Write q j past (B q j resp)
responded-first h past q j resp a =
    let k = and_parts (resp == 0) (is_some_and (outstanding h past q Write j) (may_respond past)) (accepted_keeps h past (B q j resp) a).rule_26 in
    let o = is_some_and-is (outstanding h past q Write j) (may_respond past) k.1 in
    let x = o.0 in
    let may = and_parts (not (is_complete past x.port x.chan x.id)) (implies (is_some_and (write_kind x) has_write_data) (has_memory_write past x.port x.chan x.id)) o.2 in
    let of = outstanding-named h past q Write j x o.1 in
    let name = outstanding-name h past q Write j x o.1 in
    record {
      there = rw of refl;
      none = sym (at_name (is_complete past) x q Write j name) ∙ not-true _ may.0;
      now = rw (eq-eqb q q (refl {a = q})) (eq-eqb j j refl);
    }

response-is-first : (h : Header) (p i : ℕ) (e : Event) (past : Trace) → IsAccepted h (e ∷ past) → of_name is_response p i e ≡ true → IsFirst any response_test Write p i past e
response-is-first h p i (B q j resp) past a name =
    first-at any response_test past (B q j resp) q p Write Write j i (name-is q p Write Write j i name) (responded-first h past q j resp a)
response-is-first h p i e past a name = cc

-- ---- all ---------------------------------------------------------------------------------------------

two-issues : (e : Event) → one (issues e) ≡ one (issues_on Read e) + one (issues_on Write e)
two-issues (Ar p i addr snoop dom bar lock) = refl
two-issues (Aw p i addr snoop dom bar) = refl
two-issues _ = refl

pub both-channels : (past : Trace) → counted issues past ≡ counted (issues_on Read) past + counted (issues_on Write) past
both-channels past = counted-split issues (issues_on Read) (issues_on Write) past two-issues

two-granted : (e : Event) → one (issues_granted e) ≡ one (issues_granted_on Read e) + one (issues_granted_on Write e)
two-granted (Ar p i addr snoop dom bar lock) = omega arith
two-granted (Aw p i addr snoop dom bar) = omega arith
two-granted _ = refl

pub grants-few : (h : Header) (past : Trace) → IsAccepted h past → counted is_grant past ≤ counted issues_granted past
grants-few h past a =
    let reads = once-each takes_grant grant_test (grants_on Read) (issues_granted_on Read) Read h past (issues-grantable Read) (grant-is-first Read h) a in
    let writes = once-each takes_grant grant_test (grants_on Write) (issues_granted_on Write) Write h past (issues-grantable Write) (grant-is-first Write h) a in
    let both = counted-split is_grant (grants_on Read) (grants_on Write) past two-grants in
    let all = counted-split issues_granted (issues_granted_on Read) (issues_granted_on Write) past two-granted in
    omega (arith, reads, writes, both, all)

pub memory-writes-few : (h : Header) (past : Trace) → IsAccepted h past → counted writes_memory past ≤ counted issues past
memory-writes-few h past a =
    let reads = once-each any memory_test (writes_memory_on Read) (issues_on Read) Read h past (issues-any Read) (write-is-first Read h) a in
    let writes = once-each any memory_test (writes_memory_on Write) (issues_on Write) Write h past (issues-any Write) (write-is-first Write h) a in
    let both = counted-split writes_memory (writes_memory_on Read) (writes_memory_on Write) past two-writes in
    let all = both-channels past in
    omega (arith, reads, writes, both, all)

pub responses-few : (h : Header) (past : Trace) → IsAccepted h past → counted is_response past ≤ counted (issues_on Write) past
responses-few h past a = let writes = once-each any response_test is_response (issues_on Write) Write h past (issues-any Write) (response-is-first h) a in omega (arith, writes)
