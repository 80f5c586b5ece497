-- What the granted transaction of a line waits for, and which events break a rule as long as it waits.
use Rattle.std.proofs.Common.{◌≡◌, ◌<◌, ◌≤◌, ◌+◌, arith, ℕ, zero, suc, true, false, Bool, not, ◌&&◌, ◌||◌, ◌==◌, [], ◌∷◌, length, Option, Some, None, is_some, is_none, refl, sym, ap, ◌∙◌, inl, inr}
use Rattle.std.proofs.lemmas.Bool.{and_parts, and_from, or_cases, cases_Bool, cases_eq, eq-eqb, eqb-true, false_from_ne_true, ltb-true, not-true}
use Rattle.std.proofs.lemmas.Option.{slice_get_past}
use Rattle.ace_event.specs.declared.line.Line.{Line}
use Rattle.ace_model.specs.declared.snoops.Answer.{Answer}
use Rattle.ace_model.specs.declared.transactions.Transaction.{Transaction}
use Rattle.ace_model.specs.Grants.{is_short}
use Rattle.ace_model.specs.SnoopRules.{may_snoop}
use Rattle.ace_model.specs.States.{owes_wack}
use Rattle.ace_model.proofs.Terms.{SnoopKind, Event, Read, Write, R, M, Ac, Header, Trace, IsAccepted, list_any, implies, is_some_and, is_ace, is_read, is_line, is_begun, snoop_of, outstanding, transfers}
use Rattle.ace_model.proofs.Terms.{ended, given, gives_line, granted, is_granted, is_snoop_to, was_snooped, answer_of, owes_answer, owes_data, ports_below, has_failed, is_port_done, are_snoops_done}
use Rattle.ace_model.proofs.Terms.{ac_code, has_snoop_code, is_due, is_next_transfer, may_snoop_for, may_transfer, may_write_memory, read_kind, snoops_a_line, without}
use Rattle.ace_model.specs.Accepted.{least_broken}
use Rattle.ace_model.proofs.General.Booleans.{implies-at}
use Rattle.ace_model.proofs.General.Options.{is_some_and-at, is_some_and-is}
use Rattle.ace_model.proofs.General.Ports.{each_at, none_at}
use Rattle.ace_model.proofs.GrantLooks.Quiet.{some_port-agree}
use Rattle.ace_model.proofs.Grants.Granted.{data_may, granted_given, updates_ungranted}
use Rattle.ace_model.proofs.Grants.Pending.{snoops}
use Rattle.ace_model.proofs.Rules.Keeps.{accepted_keeps}
use Rattle.ace_model.proofs.Trace.Looks.{newest_on-older, snoops_done-ports, without-some}
use Rattle.ace_lineck.specs.declared.grant.Grant.{Grant}
use Rattle.ace_lineck.specs.Grants.{GrantStands, stage_at, stage_by, stage_of}
use Rattle.ace_lineck.specs.Kept.{is_unsnooped}
use Rattle.ace_lineck.specs.Waiting.{has_unsnooped, is_answering, is_owed_by, is_owing, is_owing_under, is_unsnooped_at, is_unsnooped_beside, may_snoop_more}
use Rattle.ace_lineck.proofs.GrantLaws.{unsnooped-is}

-- ---- tests of ports ----------------------------------------------------------------------------------

-- a port that passes is found
pub some-at : (n : ℕ) (test : ℕ → Bool) (q : ℕ) → test q ≡ true → q < n → list_any test (ports_below n) ≡ true
some-at n test q t low =
    elim (cases_Bool (list_any test (ports_below n))) [
      | inl some ↦ some
      | inr none ↦ let no = none_at n test q none low in let bad : true ≡ false = sym t ∙ no in cc
    ]

-- what is found passes, and is below the number
pub some-found : (n : ℕ) (test : ℕ → Bool) → list_any test (ports_below n) ≡ true → (q : ℕ) × (test q ≡ true) × (q < n)
some-found zero test t = cc
some-found (suc n) test t =
    elim (or_cases (test n) (list_any test (ports_below n)) t) [
      | inl here ↦ (n, here, omega arith)
      | inr rest ↦ let r = some-found n test rest in let low = r.2 in (r.0, r.1, omega (arith, low))
    ]

-- ports that don't pass count for nothing
some-below : (test : ℕ → Bool) (k : ℕ) → ((q : ℕ) → k ≤ q → test q ≡ false) → (n : ℕ) → k ≤ n → list_any test (ports_below k) ≡ list_any test (ports_below n)
some-below test k off zero low = let none : k ≡ zero = omega (arith, low) in ap (λ v. list_any test (ports_below v)) none
some-below test k off (suc n) low =
    elim (cases_eq k (suc n)) [
      | inl same ↦ ap (λ v. list_any test (ports_below v)) same
      | inr other ↦
          let less : k ≤ n = omega (arith, low, other) in
          let one = off n less in
          rw one (some-below test k off n less)
    ]

-- ---- snooped ports -----------------------------------------------------------------------------------

-- A port that was snooped under the grant of the transaction is an ACE port, and the transaction causes snoops.
record IsSnooped (h : Header) (x : Transaction) (q : ℕ) : Type 0 where
  kind : SnoopKind
  causes : snoop_of x ≡ Some kind
  ace : is_ace h q ≡ true

snooped-now : (h : Header) (past : Trace) (e : Event) → IsAccepted h (e ∷ past) → (q l : ℕ) (x : Transaction) → granted h past l ≡ Some x → is_snoop_to e q l ≡ true → IsSnooped h x q
snooped-now h past (Ac r addr snoop) a q l x g now =
    let two = and_parts ((q == r) && snoops_a_line snoop) (l == addr) now in
    let one = and_parts (q == r) (snoops_a_line snoop) two.0 in
    let port = eqb-true q r one.0 in
    let line = eqb-true l addr two.1 in
    let keeps = accepted_keeps h past (Ac r addr snoop) a in
    let may = implies-at (snoops_a_line snoop) (may_snoop h past r addr snoop) keeps.rule_13 one.1 in
    let three = and_parts (is_some_and (granted h past addr) (λ y. may_snoop_for past y r snoop) && not (was_snooped past r addr)) (not (owes_wack h past r addr)) may in
    let four = and_parts (is_some_and (granted h past addr) (λ y. may_snoop_for past y r snoop)) (not (was_snooped past r addr)) three.0 in
    let own = is_some_and-at (granted h past addr) (λ y. may_snoop_for past y r snoop) x four.0 (ap (granted h past) (sym line) ∙ g) in
    let five = and_parts ((not (x.port == r) && has_snoop_code x snoop) && not (has_failed past x)) (not (is_begun past x)) own in
    let six = and_parts (not (x.port == r) && has_snoop_code x snoop) (not (has_failed past x)) five.0 in
    let code = (and_parts (not (x.port == r)) (has_snoop_code x snoop) six.0).1 in
    let k = is_some_and-is (snoop_of x) (λ k. ac_code k == snoop) code in
    record { kind = k.0; causes = k.1; ace = ap (is_ace h) port ∙ (and_parts _ (is_ace h r) keeps.rule_1).1 }
snooped-now h past e a q l x g now = cc

snooped-under : (h : Header) (past : Trace) → IsAccepted h past → (q l : ℕ) (x : Transaction) → granted h past l ≡ Some x → was_snooped past q l ≡ true → IsSnooped h x q
snooped-under h [] a q l x g t = cc
snooped-under h (e ∷ past) a q l x g t =
    elim (cases_Bool (gives_line past e l)) [
      | inl gives ↦ let bad : false ≡ true = rw gives at t in cc
      | inr same ↦
          let older = newest_on-older (given past e) l (without (ended h past e) (granted h past l)) same in
          let before = (without-some (ended h past e) (granted h past l) x (sym older ∙ g)).0 in
          let either : (is_snoop_to e q l || was_snooped past q l) ≡ true = rw same at t in
          elim (or_cases (is_snoop_to e q l) (was_snooped past q l) either) [
            | inl now ↦ snooped-now h past e a q l x before now
            | inr earlier ↦ snooped-under h past a.0 q l x before earlier
          ]
    ]

behind : (b c d : Bool) → (b && c && d) ≡ (c && d && b)
behind true true true = refl
behind true true false = refl
behind true false d = refl
behind false true true = refl
behind false true false = refl
behind false false d = refl

-- of the ports that pass a test, those below a number are all, where each is below it
pub some-within : (test : ℕ → Bool) (m n : ℕ) → ((q : ℕ) → m ≤ q → test q ≡ false) → ((q : ℕ) → n ≤ q → test q ≡ false) → list_any test (ports_below m) ≡ list_any test (ports_below n)
some-within test m n below within =
    some-below test m below (m + n) (omega arith) ∙ sym (some-below test n within (m + n) (omega arith))

module _ (h : Header) (past : Trace) (a : IsAccepted h past) where
  -- a port that owes something was snooped
  owing-snooped : (q l : ℕ) → is_owed_by past l q ≡ true → was_snooped past q l ≡ true
  owing-snooped q l t =
      elim (or_cases (owes_answer past q l) (owes_data past q l) t) [
        | inl answer ↦ (and_parts (was_snooped past q l) (is_none (answer_of past q l)) answer).0
        | inr unsent ↦
            let w = is_some_and-is (answer_of past q l) (λ w. is_short past q w) unsent in
            elim (cases_Bool (was_snooped past q l)) [
              | inl s ↦ s
              | inr f ↦ let bad : None ≡ Some w.0 = sym ((snoops h past a).first q l f) ∙ w.1 in cc
            ]
      ]

  -- ---- what is kept of the grant ----

  -- what the stage of a port tells
  owing-is : (q l : ℕ) → is_owing (stage_of past q l) ≡ is_owed_by past l q
  owing-is q l = by (answer_of past q l) (was_snooped past q l)
    where
      by : (o : Option Answer) (b : Bool) → is_owing (stage_by past q b o) ≡ ((b && is_none o) || is_some_and o (λ w. is_short past q w))
      by None true = refl
      by None false = refl
      by (Some w) true = elim (cases_Bool (is_short past q w)) [ inl t ↦ rw t refl | inr f ↦ rw f refl ]
      by (Some w) false = elim (cases_Bool (is_short past q w)) [ inl t ↦ rw t refl | inr f ↦ rw f refl ]

  -- a port that isn't there owes nothing
  absent-owes : (q l : ℕ) (x : Transaction) → granted h past l ≡ Some x → h.ports ≤ q → is_owed_by past l q ≡ false
  absent-owes q l x g high =
      false_from_ne_true (is_owed_by past l q) (λ t.
      let s = snooped-under h past a q l x g (owing-snooped q l t) in
      let low = ltb-true q h.ports (and_parts _ _ s.ace).0 in
      absurd (omega (arith, low, high)))

  module _ (l : ℕ) where
    -- some snoop under the grant has no whole answer
    pub answering-law : (g : Option Grant) → GrantStands h past l g → is_owing_under g ≡ is_answering h past l
    answering-law None f = sym (ap (λ o. is_some o && list_any (is_owed_by past l) (ports_below h.ports)) f)
    answering-law (Some g) f =
        let n = length g.stages + h.ports in
        let kept = some-below (λ q. is_owing (stage_at g.stages q)) (length g.stages) (λ q high. beyond q high) n (omega arith) in
        let same = some_port-agree n (λ q. is_owing (stage_at g.stages q)) (is_owed_by past l) (λ q low. ap is_owing (f.stages q) ∙ owing-is q l) in
        let ports = some-below (is_owed_by past l) h.ports (λ q high. absent-owes q l g.transaction f.granted high) n (omega arith) in
        kept ∙ same ∙ sym ports ∙ sym (ap (λ o. is_some o && list_any (is_owed_by past l) (ports_below h.ports)) f.granted)
      where
        beyond : (q : ℕ) → length g.stages ≤ q → is_owing (stage_at g.stages q) ≡ false
        beyond q high = let none = slice_get_past g.stages q high in rw none refl

    -- another ACE port wasn't snooped
    pub unsnooped-law : (g : Option Grant) → GrantStands h past l g → may_snoop_more h g ≡ has_unsnooped h past l
    unsnooped-law None f = sym (ap (λ o. is_some_and o (λ x. not (is_begun past x) && list_any (is_unsnooped_beside h past l x) (ports_below h.ports))) f)
    unsnooped-law (Some g) f =
        let x = g.transaction in
        ap (λ b. not b && list_any (is_unsnooped_at h g) (ports_below h.ports)) f.begun
        ∙ ap (λ b. not (is_begun past x) && b) (some_port-agree h.ports (is_unsnooped_at h g) (is_unsnooped_beside h past l x) (λ q low.
        ap (λ s. is_unsnooped s && is_ace h q && not (q == x.port)) (f.stages q) ∙ ap (λ b. b && is_ace h q && not (q == x.port)) (unsnooped-is h past a q l)
        ∙ behind (not (was_snooped past q l)) (is_ace h q) (not (q == x.port))))
        ∙ sym (ap (λ o. is_some_and o (λ x. not (is_begun past x) && list_any (is_unsnooped_beside h past l x) (ports_below h.ports))) f.granted)

  -- ---- what breaks a rule ----

  -- where an answer isn't whole, the snoops aren't done, unless it is an exclusive store that failed
  pub answering-undone : (x : Transaction) → granted h past x.addr ≡ Some x → has_failed past x ≡ false → is_answering h past x.addr ≡ true → are_snoops_done h past x ≡ false
  answering-undone x g unfailed t =
      let r = some-found h.ports (is_owed_by past x.addr) (and_parts (is_some (granted h past x.addr)) (list_any (is_owed_by past x.addr) (ports_below h.ports)) t).1 in
      let q = r.0 in
      let s = snooped-under h past a q x.addr x g (owing-snooped q x.addr r.1) in
      false_from_ne_true (are_snoops_done h past x) (λ done.
      let each = each_at h.ports (is_port_done h past x) q (snoops_done-ports h past x s.kind s.causes unfailed done) r.2 in
      let both = and_parts (not (owes_answer past q x.addr)) (not (owes_data past q x.addr)) (and_parts (not (owes_answer past q x.addr) && not (owes_data past q x.addr)) _ each).0 in
      let no_answer = not-true (owes_answer past q x.addr) both.0 in
      let no_data = not-true (owes_data past q x.addr) both.1 in
      let owes = r.1 in
      let bad : false ≡ true = rw (no_answer, no_data) at owes in cc)

  -- its first transfer breaks a rule, whatever it says
  pub answering-transfer : (p i resp : ℕ) (last : Bool) (word : ℕ) (x : Transaction) → outstanding h past p Read i ≡ Some x → is_line x ≡ true → granted h past x.addr ≡ Some x
      → has_failed past x ≡ false → transfers past x.port x.id ≡ 0 → is_answering h past x.addr ≡ true → least_broken h past (R p i resp last word) ≡ None → ⊥
  answering-transfer p i resp last word x out line g unfailed none t kept =
      let keeps = accepted_keeps h past (R p i resp last word) (a, kept) in
      let due = is_some_and-at (outstanding h past p Read i) (is_due h past resp last) x keeps.rule_18 out in
      let may = implies-at (is_line x) (may_transfer h past x resp) (and_parts (is_some_and (read_kind x) (is_next_transfer past x last)) (implies (is_line x) (may_transfer h past x resp)) due).1 line in
      let first = (and_parts (is_granted h past x) _ (and_parts (is_granted h past x && implies (transfers past x.port x.id == 0) (are_snoops_done h past x)) _ may).0).1 in
      let zero : (transfers past x.port x.id == 0) ≡ true = rw none refl in
      let done = implies-at (transfers past x.port x.id == 0) (are_snoops_done h past x) first zero in
      let undone = answering-undone x g unfailed t in
      let bad : false ≡ true = sym undone ∙ done in cc

  -- its M breaks a rule, where it is a write, whatever the M writes
  pub answering-write : (p i : ℕ) (line : Line) (x : Transaction) → outstanding h past p Write i ≡ Some x → is_read x.chan ≡ false → granted h past x.addr ≡ Some x
      → has_failed past x ≡ false → is_answering h past x.addr ≡ true → least_broken h past (M p Write i line) ≡ None → ⊥
  answering-write p i line x out writes g unfailed t kept =
      let keeps = accepted_keeps h past (M p Write i line) (a, kept) in
      let may = is_some_and-at (outstanding h past p Write i) (may_write_memory h past) x keeps.rule_24 out in
      elim (data_may h past x may writes).how [
        | inl due ↦
            let done = (and_parts (is_granted h past x) (are_snoops_done h past x) due).1 in
            let undone = answering-undone x g unfailed t in
            let bad : false ≡ true = sym undone ∙ done in cc
        | inr update ↦ updates_ungranted x (granted_given h past a x.addr x g).kind writes (and_parts _ _ update).0
      ]

  -- where each ACE port was snooped, or the granted transaction has begun, each snoop of the line breaks a rule
  pub snooped-snoop : (q l snoop : ℕ) → snoops_a_line snoop ≡ true → has_unsnooped h past l ≡ false → least_broken h past (Ac q l snoop) ≡ None → ⊥
  snooped-snoop q l snoop line f kept =
      let keeps = accepted_keeps h past (Ac q l snoop) (a, kept) in
      let may = implies-at (snoops_a_line snoop) (may_snoop h past q l snoop) keeps.rule_13 line in
      let three = and_parts (is_some_and (granted h past l) (λ y. may_snoop_for past y q snoop) && not (was_snooped past q l)) (not (owes_wack h past q l)) may in
      let four = and_parts (is_some_and (granted h past l) (λ y. may_snoop_for past y q snoop)) (not (was_snooped past q l)) three.0 in
      let x = is_some_and-is (granted h past l) (λ y. may_snoop_for past y q snoop) four.0 in
      let five = and_parts ((not (x.0.port == q) && has_snoop_code x.0 snoop) && not (has_failed past x.0)) (not (is_begun past x.0)) x.2 in
      let six = and_parts (not (x.0.port == q) && has_snoop_code x.0 snoop) (not (has_failed past x.0)) five.0 in
      let other = (and_parts (not (x.0.port == q)) (has_snoop_code x.0 snoop) six.0).0 in
      let ace = (and_parts _ (is_ace h q) keeps.rule_1).1 in
      let low = ltb-true q h.ports (and_parts _ _ ace).0 in
      let beside : is_unsnooped_beside h past l x.0 q ≡ true = and_from _ _ (and_from _ _ ace (turned x.0.port q other)) four.1 in
      let some = and_from _ _ five.1 (some-at h.ports (is_unsnooped_beside h past l x.0) q beside low) in
      let yes : has_unsnooped h past l ≡ true = ap (λ o. is_some_and o (λ y. not (is_begun past y) && list_any (is_unsnooped_beside h past l y) (ports_below h.ports))) x.1 ∙ some in
      let bad : false ≡ true = sym f ∙ yes in cc
    where
      turned : (m n : ℕ) → not (m == n) ≡ true → not (n == m) ≡ true
      turned m n t =
          elim (cases_Bool (n == m)) [
            | inr f ↦ ap not f
            | inl same ↦ let back : (m == n) ≡ true = eq-eqb m n (sym (eqb-true n m same)) in let bad : false ≡ true = rw back at t in cc
          ]
