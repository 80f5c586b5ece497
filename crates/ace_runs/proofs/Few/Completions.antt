-- A Sync is completed once, and each ACE port issues at most one DVM Complete for each part of a message.
use Rattle.std.proofs.Common.{◌≡◌, ℕ, ◌+◌, ◌*◌, ◌≤◌, ◌<◌, Bool, true, false, not, ◌&&◌, ◌||◌, ◌==◌, if◌then◌else◌, List, [], ◌∷◌, ◌++◌, length, Option, Some, None, is_some, refl, subst, ◌∙◌, inl, inr, arith}
use Rattle.std.specs.List.{count_by}
use Rattle.std.proofs.lemmas.Bool.{cases_Bool, and_parts, not-true, eqb-true, ltb-true}
use Rattle.std.proofs.lemmas.List.Sums.{sum_by-append, count_by-le-length}
use Rattle.ace_codes.specs.Reads.{ar_kind_of}
use Rattle.ace_codes.specs.Snoops.{ac_kind_of}
use Rattle.ace_codes.specs.declared.kind.ArKind.{ArKind}
use Rattle.ace_codes.specs.declared.kind.ArKind.TheVariants as read
use Rattle.ace_event.specs.declared.event.Channel.TheVariants.{Read, Write}
use Rattle.ace_event.specs.declared.event.Event.TheVariants.{Ar, Aw, Ac}
use Rattle.ace_event.specs.declared.header.Header.{Header}
use Rattle.ace_model.specs.declared.transactions.Transaction.{Transaction}
use Rattle.ace_model.specs.Accepted.{IsAccepted}
use Rattle.ace_model.specs.Trace.{Trace, is_some_and}
use Rattle.ace_model.specs.Kinds.{is_complete_snoop, is_dvm_complete}
use Rattle.ace_model.specs.Transactions.{is_ace, issued}
use Rattle.ace_model.specs.Progress.{transactions}
use Rattle.ace_model.specs.AddressRules.{may_issue_read}
use Rattle.ace_model.specs.Messages.{is_message_part, is_dvm_completion, is_sync, is_sync_word, is_second_part, sync_in, last_sync, is_sync_completed, parts_in, parts_for, answered_parts, answered_syncs, dvm_completes}
use Rattle.ace_model.specs.OrderRules.{completes_next, may_complete, has_every_completion}
use Rattle.ace_model.specs.Progress.{is_completed}
use Rattle.ace_model.proofs.General.Lists.{start-length}
use Rattle.ace_model.proofs.General.Options.{is_some_and-is, is_none_or-at}
use Rattle.ace_model.proofs.Dvm.Forwarding.{answered-first}
use Rattle.ace_model.proofs.Rules.Keeps.{accepted_keeps}
use Rattle.ace_runs.specs.Counts.{ace_ports, counted, issues_part, issues_completion, says_complete}
use Rattle.ace_runs.proofs.Few.Ports.{port_or_zero, at_port}
use Rattle.ace_runs.proofs.Few.Keys.{for-each-key}
use Rattle.ace_runs.proofs.Few.Queues.{eqb-swap}
use Rattle.ace_runs.proofs.Few.Counting.{one, one-most, counted-one}
use Rattle.ace_runs.proofs.Few.Charges.{Leaves, charged}
use Rattle.ace_runs.proofs.Few.AcePorts.{for-ace-ports}
use Rattle.ace_runs.proofs.Few.Parts.{longer-list, parts-few}

-- ---- Syncs that are completed ------------------------------------------------------------------------

-- the port's last Sync isn't completed
abbrev left_sync : ℕ → Trace → ℕ
left_sync p past = one (is_some (last_sync past p) && not (is_sync_completed past p))

sync-step : (a b c k : Bool) → (b ≡ true → (a ≡ true) × (k ≡ false)) → c ≡ b → one (a && not (c || k)) + one b ≤ one (a && not k)
sync-step a true c k first same = let f = first refl in rw (same, f.0, f.1) (omega arith)
sync-step a false c k first same = rw same (omega arith)

-- an AC that completes a Sync completes the port's last, which wasn't completed
completes-last : (h : Header) (past : Trace) (q addr snoop : ℕ) → IsAccepted h (Ac q addr snoop ∷ past) → is_some_and (ac_kind_of snoop) is_complete_snoop ≡ true
    → (is_some (last_sync past q) ≡ true) × (is_sync_completed past q ≡ false)
completes-last h past q addr snoop a complete =
    let k = is_some_and-is (ac_kind_of snoop) is_complete_snoop complete in
    let well = is_none_or-at (ac_kind_of snoop) (completes_next h past q addr) k.0 (accepted_keeps h past (Ac q addr snoop) a).rule_39 k.1 in
    let fits : ((addr == 0) && is_some_and (last_sync past q) (may_complete h past q)) ≡ true = rw k.2 at well in
    let last = is_some_and-is (last_sync past q) (may_complete h past q) (and_parts (addr == 0) (is_some_and (last_sync past q) (may_complete h past q)) fits).1 in
    let may = and_parts (is_completed past last.0 && not (is_sync_completed past q)) (has_every_completion h past last.0) last.2 in
    let new = and_parts (is_completed past last.0) (not (is_sync_completed past q)) may.0 in
    (rw last.1 refl, not-true _ new.1)

-- what is no part of a message is no Sync
no-sync : (b s w c : Bool) (x : Transaction) → (b && c) ≡ false → (if b && s && w && c then Some x else None) ≡ None
no-sync false s w c x n = refl
no-sync true true true c x n = rw n refl
no-sync true true false c x n = refl
no-sync true false w c x n = refl

issue-step : (b : Bool) (now before : ℕ) → now ≤ 1 → (b ≡ false → now ≡ before) → now + 0 ≤ before + one b * 1
issue-step true now before most same = omega (arith, most)
issue-step false now before most same = let s = same refl in omega (arith, s)

both-true : (b : Bool) → (b && true) ≡ b
both-true true = refl
both-true false = refl

one-false : (b : Bool) → (b && false) ≡ false
one-false true = refl
one-false false = refl

swapped : (p q : ℕ) (b : Bool) → ((p == q) && b) ≡ (b && (q == p))
swapped p q true = both-true (p == q) ∙ eqb-swap p q
swapped p q false = one-false (p == q)

leaves-syncs : (h : Header) (p : ℕ) → Leaves 1 (at_port says_complete p) (at_port issues_part p) (left_sync p) h
leaves-syncs h p (Ac q addr snoop) past a =
    let complete = is_some_and (ac_kind_of snoop) is_complete_snoop in
    let step = sync-step (is_some (last_sync past p)) (complete && (q == p)) ((p == q) && complete) (is_sync_completed past p)
    (λ t.
    let parts = and_parts complete (q == p) t in
    let port = eqb-true q p parts.1 in
    subst (λ r. (is_some (last_sync past r) ≡ true) × (is_sync_completed past r ≡ false)) port (completes-last h past q addr snoop a parts.0))
    (swapped p q complete) in
    omega (arith, step)
leaves-syncs h p (Ar q j addr snoop dom bar lock) past a =
    let e = Ar q j addr snoop dom bar lock in
    let x : Transaction = record { place = length past; port = q; chan = Read; id = j; addr = addr; snoop = snoop; dom = dom; bar = bar; lock = lock } in
    issue-step (is_message_part x && (q == p)) (left_sync p (e ∷ past)) (left_sync p past)
    (one-most (is_some (last_sync (e ∷ past) p) && not (is_sync_completed (e ∷ past) p)))
    (λ n.
    let none : sync_in past (Some x) p ≡ None = no-sync (is_message_part x) (is_sync_word x.addr) (not (is_second_part past x)) (q == p) x n in
    rw none refl)
leaves-syncs h p e past a = omega arith

pub completed-few : (h : Header) (past : Trace) → IsAccepted h past → counted says_complete past ≤ counted issues_part past
completed-few h past a =
    let each = for-each-key 1 port_or_zero says_complete issues_part past
    (λ p. let all = charged 1 (at_port says_complete p) (at_port issues_part p) (left_sync p) h past refl (leaves-syncs h p) a in omega (arith, all)) in
    omega (arith, each)

-- ---- DVM Completes -----------------------------------------------------------------------------------

abbrev completes_of : ℕ → Transaction → Bool
completes_of p x = is_dvm_completion x && (x.port == p)

one-more : (test : Transaction → Bool) (xs : List Transaction) (x : Transaction) → count_by test (xs ++ x ∷ []) ≡ count_by test xs + one (test x)
one-more test xs x =
    let sum = sum_by-append (λ y. one (test y)) xs (x ∷ []) in
    omega (arith, sum)

completions-counted : (past : Trace) (p : ℕ) → counted (at_port issues_completion p) past ≡ dvm_completes past p
completions-counted [] p = refl
completions-counted (Ar q j addr snoop dom bar lock ∷ past) p =
    let rest = completions-counted past p in
    let up = counted-one (at_port issues_completion p) (Ar q j addr snoop dom bar lock) past in
    let more = one-more (completes_of p) (transactions past) (record { place = length past; port = q; chan = Read; id = j; addr = addr; snoop = snoop; dom = dom; bar = bar; lock = lock }) in
    omega (arith, rest, up, more)
completions-counted (Aw q j addr snoop dom bar ∷ past) p =
    let rest = completions-counted past p in
    let more = one-more (completes_of p) (transactions past) (record { place = length past; port = q; chan = Write; id = j; addr = addr; snoop = snoop; dom = dom; bar = bar; lock = false }) in
    omega (arith, rest, more)
completions-counted (_ ∷ past) p = completions-counted past p

-- a port that issues a DVM Complete has answered more parts than it has issued of them
owed : (h : Header) (past : Trace) (q j addr snoop dom bar : ℕ) (lock : Bool) → IsAccepted h (Ar q j addr snoop dom bar lock ∷ past)
    → is_some_and (ar_kind_of snoop dom bar) is_dvm_complete ≡ true → dvm_completes past q < length (parts_for past q)
owed h past q j addr snoop dom bar lock a complete =
    let k : (dvm_completes past q < answered_syncs past q) = ltb-true (dvm_completes past q) (answered_syncs past q) (rw complete at (accepted_keeps h past (Ar q j addr snoop dom bar lock) a).rule_38) in
    let few = count_by-le-length (is_sync past) (answered_parts past q) in
    let start = start-length (answered_parts past q) (parts_for past q) (answered-first past q) in
    omega (arith, k, few, start)

completions-within : (h : Header) (past : Trace) (p : ℕ) → IsAccepted h past → dvm_completes past p ≤ length (parts_for past p)
completions-within h [] p a = omega arith
completions-within h (Ar q j addr snoop dom bar lock ∷ past) p a =
    let e = Ar q j addr snoop dom bar lock in
    let x : Transaction = record { place = length past; port = q; chan = Read; id = j; addr = addr; snoop = snoop; dom = dom; bar = bar; lock = lock } in
    let rest = completions-within h past p a.0 in
    let more = one-more (completes_of p) (transactions past) x in
    let long = longer-list (parts_for past p) (parts_in past (issued (length past) e) p) in
    elim (cases_Bool (completes_of p x)) [
      | inr f ↦ let none : one (completes_of p x) ≡ 0 = rw f refl in omega (arith, rest, more, long, none)
      | inl t ↦
          let parts = and_parts (is_dvm_completion x) (q == p) t in
          let room : dvm_completes past p < length (parts_for past p) =
          subst (λ r. dvm_completes past r < length (parts_for past r)) (eqb-true q p parts.1) (owed h past q j addr snoop dom bar lock a parts.0) in
          let is : one (completes_of p x) ≡ 1 = rw t refl in
          omega (arith, more, long, is, room)
    ]
completions-within h (Aw q j addr snoop dom bar ∷ past) p a =
    let rest = completions-within h past p a.0 in
    let more = one-more (completes_of p) (transactions past) (record { place = length past; port = q; chan = Write; id = j; addr = addr; snoop = snoop; dom = dom; bar = bar; lock = false }) in
    let long = longer-list (parts_for past p) [] in
    omega (arith, rest, more, long)
completions-within h (e ∷ past) p a =
    let rest = completions-within h past p a.0 in
    let long = longer-list (parts_for past p) [] in
    omega (arith, rest, long)

-- a port that is no ACE port issues none
lite-issues-none : (h : Header) (q : ℕ) (k : Option ArKind) → is_some_and k is_dvm_complete ≡ true → is_some_and k (may_issue_read h q) ≡ true → is_ace h q ≡ true
lite-issues-none h q None complete may = cc
lite-issues-none h q (Some read.DvmComplete) complete may = ace (is_ace h q) may
  where
    ace : (b : Bool) → (b || false) ≡ true → b ≡ true
    ace true t = refl
    ace false t = cc
lite-issues-none h q (Some k) complete may = cc

none-of-lite : (h : Header) (past : Trace) (p : ℕ) → IsAccepted h past → is_ace h p ≡ false → counted (at_port issues_completion p) past ≡ 0
none-of-lite h [] p a lite = refl
none-of-lite h (Ar q j addr snoop dom bar lock ∷ past) p a lite =
    let rest = none-of-lite h past p a.0 lite in
    elim (cases_Bool (at_port issues_completion p (Ar q j addr snoop dom bar lock))) [
      | inr f ↦ rw f rest
      | inl t ↦
          let parts = and_parts (is_some_and (ar_kind_of snoop dom bar) is_dvm_complete) (q == p) t in
          let ace = lite-issues-none h q (ar_kind_of snoop dom bar) parts.0 (accepted_keeps h past (Ar q j addr snoop dom bar lock) a).rule_2 in
          let here : is_ace h p ≡ true = subst (λ r. is_ace h r ≡ true) (eqb-true q p parts.1) ace in
          cc
    ]
none-of-lite h (_ ∷ past) p a lite = none-of-lite h past p a.0 lite

pub completions-few : (h : Header) (past : Trace) → IsAccepted h past → counted issues_completion past ≤ length (ace_ports h) * counted issues_part past
completions-few h past a =
    for-ace-ports (counted issues_part past) issues_completion h past
    (λ p.
    let same = completions-counted past p in
    let within = completions-within h past p a in
    let few = parts-few past p in
    omega (arith, same, within, few))
    (λ p lite. none-of-lite h past p a lite)
