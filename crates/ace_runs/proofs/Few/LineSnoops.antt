-- Under a grant each ACE port is snooped at most once.
use Rattle.std.proofs.Common.{◌≡◌, ℕ, ◌+◌, ◌*◌, ◌≤◌, Bool, true, false, not, ◌&&◌, ◌||◌, ◌==◌, if◌then◌else◌, List, [], ◌∷◌, length, Option, Some, None, refl, sym, subst, inl, inr, arith}
use Rattle.std.proofs.lemmas.Bool.{cases_Bool, and_parts, and_from, not-true, eqb-true, eq-eqb}
use Rattle.ace_event.specs.declared.event.Event.{Event}
use Rattle.ace_event.specs.declared.event.Event.TheVariants.{Ac, G}
use Rattle.ace_event.specs.declared.header.Header.{Header}
use Rattle.ace_model.specs.declared.transactions.Transaction.{Transaction}
use Rattle.ace_model.specs.Accepted.{IsAccepted}
use Rattle.ace_model.specs.Trace.{Trace, is_some_and}
use Rattle.ace_model.specs.Transactions.{is_ace, is_line, is_some_on, ended, without, transaction_of}
use Rattle.ace_model.specs.Snoops.{snoops_a_line}
use Rattle.ace_model.specs.Grants.{given, gives_line, granted, is_snoop_to, was_snooped}
use Rattle.ace_model.specs.SnoopRules.{may_snoop, may_snoop_for}
use Rattle.ace_model.specs.States.{owes_wack}
use Rattle.ace_model.proofs.General.Options.{is_some_and-is}
use Rattle.ace_model.proofs.Rules.Keeps.{accepted_keeps}
use Rattle.ace_model.proofs.Trace.Looks.{newest_on-cases, was_there}
use Rattle.ace_runs.specs.Counts.{ace_ports, counted, is_snoop, snoops_line, is_grant}
use Rattle.ace_runs.proofs.Few.Sums.{times, each_bounds}
use Rattle.ace_runs.proofs.Few.Ports.{port_or_zero, at_port}
use Rattle.ace_runs.proofs.Few.Keys.{keys_of, all-keys, one-key}
use Rattle.ace_runs.proofs.Few.Counting.{one, counted-one, counted-less}
use Rattle.ace_runs.proofs.Few.AcePorts.{for-ace-ports}

-- a port that is no ACE port is never snooped
never-snooped : (h : Header) (past : Trace) (p : ℕ) → IsAccepted h past → is_ace h p ≡ false → counted (at_port is_snoop p) past ≡ 0
never-snooped h [] p a lite = refl
never-snooped h (Ac q addr snoop ∷ past) p a lite =
    let rest = never-snooped h past p a.0 lite in
    elim (cases_Bool (q == p)) [
      | inr n ↦ rw n rest
      | inl t ↦
          let ace : is_ace h q ≡ true = (and_parts _ (is_ace h q) (accepted_keeps h past (Ac q addr snoop) a).rule_1).1 in
          let here : is_ace h p ≡ true = subst (λ r. is_ace h r ≡ true) (eqb-true q p t) ace in
          cc
    ]
never-snooped h (_ ∷ past) p a lite = never-snooped h past p a.0 lite

pub none-elsewhere : (test : Event → Bool) (h : Header) (past : Trace) → ((e : Event) → test e ≡ true → is_snoop e ≡ true) → IsAccepted h past
    → (p : ℕ) → is_ace h p ≡ false → counted (at_port test p) past ≡ 0
none-elsewhere test h past all a p lite =
    let none = never-snooped h past p a lite in
    let less = counted-less (at_port test p) (at_port is_snoop p) past
    (λ e t. let parts = and_parts (test e) (port_or_zero e == p) t in and_from _ _ (all e parts.0) parts.1) in
    omega (arith, none, less)

-- ---- the lines that are granted ----------------------------------------------------------------------

abbrev add_line : Option Transaction → List ℕ → List ℕ
add_line None ls = ls
add_line (Some x) ls = if is_line x then x.addr ∷ ls else ls

-- a line for each grant
abbrev pub given_lines : Trace → List ℕ
given_lines [] = []
given_lines (e ∷ past) = add_line (given past e) (given_lines past)

line-added : (o : Option Transaction) (ls : List ℕ) → length (add_line o ls) ≤ length ls + 1
line-added None ls = omega arith
line-added (Some x) ls = elim (cases_Bool (is_line x)) [ inl t ↦ rw t (omega arith) | inr f ↦ rw f (omega arith) ]

pub few-lines : (past : Trace) → length (given_lines past) ≤ counted is_grant past
few-lines [] = omega arith
few-lines (G p c i ∷ past) =
    let rest = few-lines past in let more = line-added (transaction_of past p c i) (given_lines past) in omega (arith, rest, more)
few-lines (_ ∷ past) = few-lines past

line-times : (o : Option Transaction) (ls : List ℕ) (l : ℕ) → times l (add_line o ls) ≡ times l ls + one (is_some_on o l)
line-times None ls l = omega arith
line-times (Some x) ls l =
    elim (cases_Bool (is_line x)) [
      | inr f ↦ rw f (omega arith)
      | inl t ↦ rw t (elim (cases_Bool (x.addr == l)) [ inl u ↦ rw u refl | inr v ↦ rw v (omega arith) ])
    ]

-- the line of a granted transaction is one of them
pub granted-there : (h : Header) (past : Trace) (l : ℕ) (x : Transaction) → granted h past l ≡ Some x → 1 ≤ times l (given_lines past)
granted-there h [] l x g = cc
granted-there h (e ∷ past) l x g =
    let here = line-times (given past e) (given_lines past) l in
    elim (newest_on-cases (given past e) l (without (ended h past e) (granted h past l)) x g) [
      | inl new ↦ let on : is_some_on (given past e) l ≡ true = rw new.0 new.1 in let is : one (is_some_on (given past e) l) ≡ 1 = rw on refl in omega (arith, here, is)
      | inr old ↦ let rest = granted-there h past l x (was_there (ended h past e) (granted h past l) x old.0) in omega (arith, here, rest)
    ]

-- ---- snoops of a line --------------------------------------------------------------------------------

abbrev line_or_zero : Event → ℕ
line_or_zero (Ac p addr snoop) = addr
line_or_zero _ = 0

abbrev snoops_of_line : ℕ → ℕ → Event → Bool
snoops_of_line p l e = at_port snoops_line p e && (line_or_zero e == l)

-- at most one for each grant, and one fewer where the port wasn't snooped under the last
record OneEach (past : Trace) (p l : ℕ) : Type 0 where
  within : counted (snoops_of_line p l) past ≤ times l (given_lines past)
  room : was_snooped past p l ≡ false → 1 ≤ times l (given_lines past) → counted (snoops_of_line p l) past + 1 ≤ times l (given_lines past)

-- a snoop of the line
record IsNew (h : Header) (past : Trace) (e : Event) (p l : ℕ) : Type 0 where
  fresh : was_snooped past p l ≡ false
  granted_one : 1 ≤ times l (given_lines past)
  seen : is_snoop_to e p l ≡ true
  no_grant : gives_line past e l ≡ false

new-snoop : (h : Header) (past : Trace) (e : Event) (p l : ℕ) → IsAccepted h (e ∷ past) → snoops_of_line p l e ≡ true → IsNew h past e p l
new-snoop h past (Ac q addr snoop) p l a t =
    let parts = and_parts (snoops_a_line snoop && (q == p)) (addr == l) t in
    let on = and_parts (snoops_a_line snoop) (q == p) parts.0 in
    let port = eqb-true q p on.1 in
    let line = eqb-true addr l parts.1 in
    let may : may_snoop h past q addr snoop ≡ true = rw on.0 at (accepted_keeps h past (Ac q addr snoop) a).rule_13 in
    let x = and_parts (is_some_and (granted h past addr) (λ x. may_snoop_for past x q snoop) && not (was_snooped past q addr)) (not (owes_wack h past q addr)) may in
    let y = and_parts (is_some_and (granted h past addr) (λ x. may_snoop_for past x q snoop)) (not (was_snooped past q addr)) x.0 in
    let g = is_some_and-is (granted h past addr) (λ x. may_snoop_for past x q snoop) y.0 in
    let new : was_snooped past q addr ≡ false = not-true _ y.1 in
    record {
      fresh = rw (← port, ← line) new;
      granted_one = subst (λ m. 1 ≤ times m (given_lines past)) line (granted-there h past addr g.0 g.1);
      seen = and_from _ _ (and_from _ _ (eq-eqb p q (sym port)) on.0) (eq-eqb l addr (sym line));
      no_grant = refl;
    }
new-snoop h past e p l a t = cc

was-not : (g b k : Bool) → (if g then false else b || k) ≡ false → g ≡ false → k ≡ false
was-not false false k f n = f
was-not false true k f n = cc
was-not true b k f n = cc

was-now : (g b k : Bool) → b ≡ true → g ≡ false → (if g then false else b || k) ≡ false → ⊥
was-now false true k t n f = cc
was-now false false k t n f = cc
was-now true b k t n f = cc

-- what holds of the counts after an event that is a snoop of the line, that grants it, or that does neither
after-snoop : (past : Trace) (e : Event) (p l : ℕ) → OneEach past p l → snoops_of_line p l e ≡ true → was_snooped past p l ≡ false → 1 ≤ times l (given_lines past)
    → is_snoop_to e p l ≡ true → gives_line past e l ≡ false → OneEach (e ∷ past) p l
after-snoop past e p l i t fresh granted_one seen none =
    let up = counted-one (snoops_of_line p l) e past in
    let is : one (snoops_of_line p l e) ≡ 1 = rw t refl in
    let more = line-times (given past e) (given_lines past) l in
    let room = i.room fresh granted_one in
    record {
      within = omega (arith, up, is, more, room);
      room = λ f g. absurd (was-now (gives_line past e l) (is_snoop_to e p l) (was_snooped past p l) seen none f);
    }

after-other : (past : Trace) (e : Event) (p l : ℕ) → OneEach past p l → snoops_of_line p l e ≡ false → OneEach (e ∷ past) p l
after-other past e p l i f =
    let up = counted-one (snoops_of_line p l) e past in
    let is : one (snoops_of_line p l e) ≡ 0 = rw f refl in
    let more = line-times (given past e) (given_lines past) l in
    let within = i.within in
    record {
      within = omega (arith, up, is, more, within);
      room = λ fresh some. elim (cases_Bool (gives_line past e l)) [
        | inl t ↦ let new : one (gives_line past e l) ≡ 1 = rw t refl in omega (arith, up, is, more, within, new)
        | inr n ↦
            let none : one (gives_line past e l) ≡ 0 = rw n refl in
            let room = i.room (was-not (gives_line past e l) (is_snoop_to e p l) (was_snooped past p l) fresh n) (omega (arith, more, none, some)) in
            omega (arith, up, is, more, none, room)
      ];
    }

one-each : (h : Header) (past : Trace) (p l : ℕ) → IsAccepted h past → OneEach past p l
one-each h [] p l a = record { within = omega arith; room = λ f some. absurd (omega (arith, some)) }
one-each h (e ∷ past) p l a =
    let i = one-each h past p l a.0 in
    elim (cases_Bool (snoops_of_line p l e)) [
      | inl t ↦ let n = new-snoop h past e p l a t in after-snoop past e p l i t n.fresh n.granted_one n.seen n.no_grant
      | inr f ↦ after-other past e p l i f
    ]

-- of each port, and of all
pub snoops-each : (h : Header) (past : Trace) (p : ℕ) → IsAccepted h past → counted (at_port snoops_line p) past ≤ counted is_grant past
snoops-each h past p a =
    let all = each_bounds 1 (keys_of line_or_zero (at_port snoops_line p) past) (given_lines past)
    (λ l. rw (one-key line_or_zero (at_port snoops_line p) l past) (let within = (one-each h past p l a).within in omega (arith, within))) in
    let same = all-keys line_or_zero (at_port snoops_line p) past in
    let few = few-lines past in
    omega (arith, all, same, few)

line-is-snoop : (e : Event) → snoops_line e ≡ true → is_snoop e ≡ true
line-is-snoop (Ac p addr snoop) t = refl
line-is-snoop e t = cc

pub line-snoops-few : (h : Header) (past : Trace) → IsAccepted h past → counted snoops_line past ≤ length (ace_ports h) * counted is_grant past
line-snoops-few h past a =
    for-ace-ports (counted is_grant past) snoops_line h past (λ p. snoops-each h past p a) (none-elsewhere snoops_line h past line-is-snoop a)
