-- The first event of each burst, where it breaks no rule.
use Rattle.std.proofs.Common.{◌≡◌, ℕ, zero, suc, ◌<◌, Bool, true, false, not, ◌&&◌, ◌==◌, if◌then◌else◌, List, [], ◌∷◌, ◌++◌, map, Some, None, is_none, refl, sym, ap, subst, ◌∙◌, inl, inr, arith}
use Rattle.std.specs.List.{list_any}
use Rattle.std.specs.Option.{option_map, option_to_list}
use Rattle.std.proofs.lemmas.Bool.{and_from, and_parts, cases_Bool, eqb-true, false_from_ne_true, not-true}
use Rattle.ace_codes.specs.declared.kind.AwKind.{AwKind}
use Rattle.ace_codes.specs.declared.kind.AwKind.TheVariants as write
use Rattle.ace_codes.specs.declared.kind.SnoopKind.{SnoopKind}
use Rattle.ace_codes.specs.Snoops.{ac_code}
use Rattle.ace_event.specs.declared.event.Channel.TheVariants.{Read, Write}
use Rattle.ace_event.specs.declared.event.Event.{Event}
use Rattle.ace_event.specs.declared.event.Event.TheVariants.{M, R}
use Rattle.ace_event.specs.declared.header.Header.{Header}
use Rattle.ace_event.specs.declared.line.Line.{Line}
use Rattle.ace_model.specs.declared.transactions.Transaction.{Transaction}
use Rattle.ace_model.specs.Accepted.{IsAccepted, least_broken}
use Rattle.ace_model.specs.Grants.{granted, has_grant, has_passed_data, is_granted, ports_below}
use Rattle.ace_model.specs.Exclusives.{has_failed}
use Rattle.ace_model.specs.Kinds.{has_write_data, is_granted_write, is_line_snoop}
use Rattle.ace_model.specs.ReadRules.{is_due, is_next_transfer, may_transfer}
use Rattle.ace_model.specs.Replies.{passed_data}
use Rattle.ace_model.specs.Snoops.{snoops_a_line}
use Rattle.ace_model.specs.States.{are_snoops_done}
use Rattle.ace_model.specs.Trace.{Trace, implies, is_some_and}
use Rattle.ace_model.specs.Transactions.{is_line, is_read, outstanding, read_kind, snoop_of, takes_grant, transfers, write_kind}
use Rattle.ace_model.specs.WriteRules.{data_of, data_of_write, may_write_data, may_write_memory, may_write_passed}
use Rattle.ace_model.specs.Writes.{has_memory_write, is_burst_whole}
use Rattle.ace_model.proofs.General.Booleans.{else_of, implies-at}
use Rattle.ace_model.proofs.General.Options.{is_some_and-at, is_some_and-is, some_if-is}
use Rattle.ace_model.proofs.GrantLooks.Had.{takes-line}
use Rattle.ace_model.proofs.Grants.Granted.{data_may, granted_given, granted_write, has_passed, updates_ungranted}
use Rattle.ace_model.proofs.Rules.Keeps.{accepted_keeps}
use Rattle.ace_model.proofs.Tables.ReadSnoops.{kind_of_code}
use Rattle.ace_runs.specs.Bursts.{is_kept}
use Rattle.ace_runs.specs.LineSteps.{grant_burst, is_first_to_wait, is_last_beat, memory_write, next_word, passed_burst, response, response_bits, snoop_for, takes_dirt, transfer_burst, write_burst}
use Rattle.ace_runs.proofs.Accepting.{kept-breaks-none}
use Rattle.ace_runs.proofs.NeverStuck.Forwarding.Steps.{caused-line}
use Rattle.ace_runs.proofs.NeverStuck.Transactions.PassedDataMove.{passed-there}
use Rattle.ace_runs.proofs.NeverStuck.Updates.UpdatesMove.{data-there}
use Rattle.ace_portck.specs.declared.target.WriteData.{WriteData}
use Rattle.ace_portck.specs.Targets.{data_of_write as data_sent}
use Rattle.ace_lineck.specs.Waiting.{has_unsnooped, is_answering}
use Rattle.ace_lineck.proofs.WaitingLooks.{answering-undone, snooped-snoop, some-found}
use Rattle.ace_home.specs.Home.{IsOf, grant_of}
use Rattle.ace_home.specs.HeldUp.{is_stuck, is_stuck_read}
use Rattle.ace_home.specs.Services.{first_kept, has_snoop, if_kept}
use Rattle.ace_home.proofs.Outstanding.{granted-line, out-own, ungranted}
use Rattle.ace_home.proofs.Waiting.{had-not-kept, kept-takes}

-- what the shares answer
pub kept-is : (h : Header) (past : Trace) (e : Event) (b : Bool) → b ≡ is_none (least_broken h past e) → b ≡ is_kept h past e
unfolding is_kept
kept-is h past e b is = is

pub not-kept : (h : Header) (past : Trace) (e : Event) → is_kept h past e ≡ false → if_kept h past e ≡ None
not-kept h past e f = ap (λ b. if b then Some e else None) f

pub kept-some : (h : Header) (past : Trace) (d e : Event) → if_kept h past d ≡ Some e → (is_kept h past d ≡ true) × (d ≡ e)
kept-some h past d e is = some_if-is (is_kept h past d) d e is

either-none : (h : Header) (past : Trace) (b : Bool) (e : Event) (rest : List Event) → (b ≡ true → is_kept h past e ≡ false) → first_kept h past (if b then e ∷ rest else []) ≡ None
either-none h past true e rest f = not-kept h past e (f refl)
either-none h past false e rest f = refl

is-first : (h : Header) (past : Trace) (b : Bool) (e : Event) (rest : List Event) → b ≡ true → first_kept h past (if b then e ∷ rest else []) ≡ if_kept h past e
is-first h past b e rest t = ap (λ v. first_kept h past (if v then e ∷ rest else [])) t

pub none-below : (n : ℕ) (test : ℕ → Bool) → ((q : ℕ) → q < n → test q ≡ false) → list_any test (ports_below n) ≡ false
none-below zero test none = refl
none-below (suc n) test none =
    let here = none n (omega arith) in
    let rest = none-below n test (λ q low. none q (omega (arith, low))) in
    rw (here, rest) refl

pub stuck-not : (b c : Bool) → (b && not c) ≡ false → implies b c ≡ true
stuck-not true true f = refl
stuck-not true false f = cc
stuck-not false c f = refl

module _ (h : Header) (past : Trace) (a : IsAccepted h past) (p : ℕ) (x : Transaction) (o : IsOf h past p x) where
  -- ---- a grant ----

  pub grant-had : has_grant past x.port x.chan x.id ≡ true → first_kept h past (grant_burst h past x) ≡ None
  grant-had had = either-none h past (takes_grant x && is_first_to_wait h past x) (grant_of x) [] (λ _. had-not-kept h past a p x o had)

  pub grant-not-kept : is_kept h past (grant_of x) ≡ false → first_kept h past (grant_burst h past x) ≡ None
  grant-not-kept f = either-none h past (takes_grant x && is_first_to_wait h past x) (grant_of x) [] (λ _. f)

  pub grant-first : is_kept h past (grant_of x) ≡ true → is_first_to_wait h past x ≡ true → first_kept h past (grant_burst h past x) ≡ Some (grant_of x)
  grant-first kept first =
      is-first h past (takes_grant x && is_first_to_wait h past x) (grant_of x) [] (and_from _ _ (kept-takes h past a p x o kept) first)
      ∙ ap (λ b. if b then Some (grant_of x) else None) kept

  pub grant-later : is_kept h past (grant_of x) ≡ true → is_first_to_wait h past x ≡ false → first_kept h past (grant_burst h past x) ≡ None
  grant-later kept later =
      either-none h past (takes_grant x && is_first_to_wait h past x) (grant_of x) [] (λ t.
      let first = (and_parts (takes_grant x) (is_first_to_wait h past x) t).1 in cc)

  -- ---- snoops ----

  pub snoop-ungranted : has_grant past x.port x.chan x.id ≡ false → has_snoop h past x ≡ false
  snoop-ungranted none =
      ap (λ b. b && is_some_and (snoop_of x) (λ k. list_any (λ q. is_kept h past (snoop_for x k q)) (ports_below h.ports))) (ungranted h past a p x o none)

  pub snoop-uncaused : snoop_of x ≡ None → has_snoop h past x ≡ false
  snoop-uncaused none =
      ap (λ v. is_granted h past x && is_some_and v (λ k. list_any (λ q. is_kept h past (snoop_for x k q)) (ports_below h.ports))) none ∙ off (is_granted h past x)
    where
      off : (b : Bool) → (b && false) ≡ false
      off true = refl
      off false = refl

  pub snoop-none : (k : SnoopKind) → snoop_of x ≡ Some k → ((q : ℕ) → q < h.ports → is_kept h past (snoop_for x k q) ≡ false) → has_snoop h past x ≡ false
  snoop-none k is none =
      ap (λ v. is_granted h past x && is_some_and v (λ j. list_any (λ q. is_kept h past (snoop_for x j q)) (ports_below h.ports))) is
      ∙ ap (λ b. is_granted h past x && b) (none-below h.ports (λ q. is_kept h past (snoop_for x k q)) none)
      ∙ off (is_granted h past x)
    where
      off : (b : Bool) → (b && false) ≡ false
      off true = refl
      off false = refl

  -- where each ACE port was snooped, or it has begun
  pub snoop-over : has_unsnooped h past x.addr ≡ false → has_snoop h past x ≡ false
  snoop-over over =
      false_from_ne_true (has_snoop h past x) (λ t.
      let some = (and_parts (is_granted h past x) (is_some_and (snoop_of x) (λ k. list_any (λ q. is_kept h past (snoop_for x k q)) (ports_below h.ports))) t).1 in
      let k = is_some_and-is (snoop_of x) (λ k. list_any (λ q. is_kept h past (snoop_for x k q)) (ports_below h.ports)) some in
      let q = some-found h.ports (λ q. is_kept h past (snoop_for x k.0 q)) k.2 in
      let line : snoops_a_line (ac_code k.0) ≡ true = ap (λ o. is_some_and o is_line_snoop) (kind_of_code k.0) ∙ caused-line x k.0 k.1 in
      absurd (snooped-snoop h past a q.0 x.addr (ac_code k.0) line over (kept-breaks-none h past (snoop_for x k.0 q.0) q.1)))

  -- ---- answers that aren't whole ----

  -- whether it is held up by them
  held-parts : (n : ℕ) → ((n == 0) && not x.lock && is_answering h past x.addr) ≡ true → (n ≡ 0) × (has_failed past x ≡ false) × (is_answering h past x.addr ≡ true)
  held-parts n t =
      let two = and_parts ((n == 0) && not x.lock) (is_answering h past x.addr) t in
      let one = and_parts (n == 0) (not x.lock) two.0 in
      let free = not-true x.lock one.1 in (eqb-true n 0 one.0, rw free refl, two.1)

  -- ---- passed data ----

  no-passed : is_granted h past x ≡ false → has_passed_data h past x ≡ false
  no-passed f = false_from_ne_true (has_passed_data h past x) (λ t. let g = (has_passed h past x t).stands in cc)

  none-if : (b c d : Bool) → b ≡ false → ((c && b) && d) ≡ false
  none-if b true d f = ap (λ v. v && d) f
  none-if b false d f = refl

  pub without-passed : has_passed_data h past x ≡ false → first_kept h past (passed_burst h past x) ≡ None
  without-passed f =
      ap (λ b. first_kept h past (if b then memory_write h past x else [])) (none-if (has_passed_data h past x) (is_read x.chan) (not (takes_dirt h past x)) f)

  -- none that it can't take
  pub passed-unstuck : has_grant past x.port x.chan x.id ≡ true → is_stuck h past x.addr ≡ false → first_kept h past (passed_burst h past x) ≡ None
  passed-unstuck had none =
      let f = sym (ap (λ o. is_some_and o (is_stuck_read h past)) (granted-line h past a p x o had)) ∙ none in
      ap (λ b. first_kept h past (if b then memory_write h past x else [])) f

  pub passed-ungranted : has_grant past x.port x.chan x.id ≡ false → first_kept h past (passed_burst h past x) ≡ None
  passed-ungranted none = without-passed (no-passed (ungranted h past a p x o none))

  and-off : (b c : Bool) → c ≡ true → (b && not c) ≡ false
  and-off true c t = ap not t
  and-off false c t = refl

  pub passed-taken : takes_dirt h past x ≡ true → first_kept h past (passed_burst h past x) ≡ None
  passed-taken t =
      ap (λ b. first_kept h past (if b then memory_write h past x else [])) (and-off (is_read x.chan && has_passed_data h past x) (takes_dirt h past x) t)

  -- whether a granted one has passed data
  pub passed-is : has_grant past x.port x.chan x.id ≡ true → is_some_and (granted h past x.addr) (has_passed_data h past) ≡ has_passed_data h past x
  passed-is had = ap (λ o. is_some_and o (has_passed_data h past)) (granted-line h past a p x o had)

  pub passed-none : has_grant past x.port x.chan x.id ≡ true → passed_data h past x.addr ≡ None → first_kept h past (passed_burst h past x) ≡ None
  passed-none had none =
      without-passed (false_from_ne_true (has_passed_data h past x) (λ t.
      let d = passed-there h past x (granted-line h past a p x o had) t in
      let bad : None ≡ Some d.0 = sym none ∙ d.1 in cc))

  pub passed-some : has_grant past x.port x.chan x.id ≡ true → is_read x.chan ≡ true → takes_dirt h past x ≡ false → (line : Line) → passed_data h past x.addr ≡ Some line
      → first_kept h past (passed_burst h past x) ≡ if_kept h past (M x.port x.chan x.id line)
  passed-some had reads untaken line is =
      let has : has_passed_data h past x ≡ true = elim (cases_Bool (has_passed_data h past x)) [
        | inl t ↦ t
        | inr f ↦
            let no = passed-is had ∙ f in
            let bad : None ≡ Some line = sym (passed-if no) ∙ is in cc
      ] in
      ap (λ b. first_kept h past (if b then memory_write h past x else [])) (and_from _ _ (and_from _ _ reads has) (ap not untaken))
      ∙ ap (λ v. first_kept h past (map (λ l. M x.port x.chan x.id l) (option_to_list v)))
      (ap (λ b. if b then passed_data h past x.addr else option_map (data_of_write h past x) (write_kind x)) reads ∙ is)
    where
      passed-if : is_some_and (granted h past x.addr) (has_passed_data h past) ≡ false → passed_data h past x.addr ≡ None
      passed-if f = rw f refl

  -- ---- transfers ----

  abbrev transfer : Event
  transfer = R x.port x.id (response_bits h past x) (is_last_beat past x) (next_word past x)

  abbrev may-answer : Bool
  may-answer = is_read x.chan && is_line x && implies (has_passed_data h past x) (takes_dirt h past x)

  pub transfer-ungranted : x.chan ≡ Read → has_grant past x.port x.chan x.id ≡ false → first_kept h past (transfer_burst h past x) ≡ None
  transfer-ungranted chan none =
      either-none h past may-answer transfer [] (λ t.
      let line = (and_parts (is_read x.chan) (is_line x) (and_parts (is_read x.chan && is_line x) _ t).0).1 in
      false_from_ne_true (is_kept h past transfer) (λ kept.
      let keeps = accepted_keeps h past transfer (a, kept-breaks-none h past transfer kept) in
      let out : outstanding h past x.port Read x.id ≡ Some x = subst (λ c. outstanding h past x.port c x.id ≡ Some x) chan (out-own h past a p x o) in
      let due = is_some_and-at (outstanding h past x.port Read x.id) (is_due h past (response_bits h past x) (is_last_beat past x)) x keeps.rule_18 out in
      let may = (and_parts (is_some_and (read_kind x) (is_next_transfer past x (is_last_beat past x))) (implies (is_line x) (may_transfer h past x (response_bits h past x))) due).1 in
      let granted = may-granted line may in
      let no = ungranted h past a p x o none in cc))
    where
      may-granted : is_line x ≡ true → implies (is_line x) (may_transfer h past x (response_bits h past x)) ≡ true → is_granted h past x ≡ true
      may-granted line may =
          let here : may_transfer h past x (response_bits h past x) ≡ true = ap (λ b. implies b (may_transfer h past x (response_bits h past x))) (sym line) ∙ may in
          (and_parts (is_granted h past x) _ (and_parts (is_granted h past x && implies (transfers past x.port x.id == 0) (are_snoops_done h past x)) _ here).0).0

  pub transfer-dirty : has_passed_data h past x ≡ true → takes_dirt h past x ≡ false → first_kept h past (transfer_burst h past x) ≡ None
  transfer-dirty has untaken =
      either-none h past may-answer transfer [] (λ t.
      let both = (and_parts (is_read x.chan && is_line x) (implies (has_passed_data h past x) (takes_dirt h past x)) t).1 in
      let bad : false ≡ true = sym (implied has untaken) ∙ both in cc)
    where
      implied : has_passed_data h past x ≡ true → takes_dirt h past x ≡ false → implies (has_passed_data h past x) (takes_dirt h past x) ≡ false
      implied t f = rw (t, f) refl

  pub stuck-dirty : (has_passed_data h past x && not (takes_dirt h past x)) ≡ true → first_kept h past (transfer_burst h past x) ≡ None
  stuck-dirty both = let parts = and_parts (has_passed_data h past x) (not (takes_dirt h past x)) both in transfer-dirty parts.0 (not-true (takes_dirt h past x) parts.1)

  pub transfer-granted : x.chan ≡ Read → has_grant past x.port x.chan x.id ≡ true → implies (has_passed_data h past x) (takes_dirt h past x) ≡ true
      → first_kept h past (transfer_burst h past x) ≡ if_kept h past transfer
  transfer-granted chan had fits =
      let g = granted_given h past a x.addr x (granted-line h past a p x o had) in
      let reads : is_read x.chan ≡ true = rw chan refl in
      is-first h past may-answer transfer [] (and_from _ _ (and_from _ _ reads (takes-line x g.kind)) fits)

  -- a granted read that hasn't begun waits until its snoops are done
  pub transfer-undone : x.chan ≡ Read → has_grant past x.port x.chan x.id ≡ true → transfers past x.port x.id ≡ 0 → are_snoops_done h past x ≡ false
      → first_kept h past (transfer_burst h past x) ≡ None
  transfer-undone chan had first undone =
      let g = granted-line h past a p x o had in
      let line = takes-line x (granted_given h past a x.addr x g).kind in
      let out : outstanding h past x.port Read x.id ≡ Some x = subst (λ c. outstanding h past x.port c x.id ≡ Some x) chan (out-own h past a p x o) in
      either-none h past may-answer transfer [] (λ _. false_from_ne_true (is_kept h past transfer) (λ kept.
      let keeps = accepted_keeps h past transfer (a, kept-breaks-none h past transfer kept) in
      let due = is_some_and-at (outstanding h past x.port Read x.id) (is_due h past (response_bits h past x) (is_last_beat past x)) x keeps.rule_18 out in
      let may =
      implies-at (is_line x) (may_transfer h past x (response_bits h past x)) (and_parts (is_some_and (read_kind x) (is_next_transfer past x (is_last_beat past x))) (implies (is_line x) (may_transfer h past x (response_bits h past x))) due).1 line in
      let may-first = (and_parts (is_granted h past x) _ (and_parts (is_granted h past x && implies (transfers past x.port x.id == 0) (are_snoops_done h past x)) _ may).0).1 in
      let zero : (transfers past x.port x.id == 0) ≡ true = rw first refl in
      let done = implies-at (transfers past x.port x.id == 0) (are_snoops_done h past x) may-first zero in
      let bad : false ≡ true = sym undone ∙ done in cc))

  -- they aren't as long as answers aren't whole, unless it is an exclusive store that failed
  transfer-waits : x.chan ≡ Read → has_grant past x.port x.chan x.id ≡ true → transfers past x.port x.id ≡ 0 → has_failed past x ≡ false → is_answering h past x.addr ≡ true
      → first_kept h past (transfer_burst h past x) ≡ None
  transfer-waits chan had first unfailed answering =
      transfer-undone chan had first (answering-undone h past a x (granted-line h past a p x o had) unfailed answering)

  pub transfer-held : x.chan ≡ Read → has_grant past x.port x.chan x.id ≡ true → (n : ℕ) → n ≡ transfers past x.port x.id
      → ((n == 0) && not x.lock && is_answering h past x.addr) ≡ true → first_kept h past (transfer_burst h past x) ≡ None
  transfer-held chan had n count held = let parts = held-parts n held in transfer-waits chan had (sym count ∙ parts.0) parts.1 parts.2

  -- ---- writes ----

  abbrev writes-line : Bool
  writes-line = not (is_read x.chan) && takes_grant x

  -- the M comes first in the burst of a write that is granted
  written-first : x.chan ≡ Write → (line : Line) → data_of h past x ≡ Some line → takes_grant x ≡ true
      → first_kept h past (write_burst h past x) ≡ if_kept h past (M x.port x.chan x.id line)
  written-first chan line is takes =
      let writes : not (is_read x.chan) ≡ true = rw chan refl in
      ap (λ b. first_kept h past (if b then memory_write h past x ++ response x else [])) (and_from _ _ writes takes)
      ∙ ap (λ v. first_kept h past (map (λ l. M x.port x.chan x.id l) (option_to_list v) ++ response x)) is

  -- no write of memory that may not come
  none-written : x.chan ≡ Write → (may_write_data h past x ≡ true → takes_grant x ≡ true → ⊥) → first_kept h past (write_burst h past x) ≡ None
  none-written chan never = elim (cases_Bool (takes_grant x)) [
    | inr f ↦ ap (λ b. first_kept h past (if b then memory_write h past x ++ response x else [])) (off (not (is_read x.chan)) f)
    | inl takes ↦
        let writes : is_read x.chan ≡ false = rw chan refl in
        let k = granted_write x takes writes in
        let line = data_of_write h past x k.0 in
        let m = M x.port x.chan x.id line in
        written-first chan line (data-there h past x k.0 writes k.1) takes ∙ not-kept h past m (false_from_ne_true (is_kept h past m) (λ kept.
        let keeps = accepted_keeps h past m (a, kept-breaks-none h past m kept) in
        let may = is_some_and-at (outstanding h past x.port x.chan x.id) (may_write_memory h past) x keeps.rule_24 (out-own h past a p x o) in
        never (else_of (is_read x.chan) (may_write_passed h past x) (may_write_data h past x) writes may) takes))
  ]
    where
      off : (b : Bool) → takes_grant x ≡ false → (b && takes_grant x) ≡ false
      off true f = f
      off false f = refl

  pub write-ungranted : x.chan ≡ Write → has_grant past x.port x.chan x.id ≡ false → first_kept h past (write_burst h past x) ≡ None
  write-ungranted chan none =
      let writes : is_read x.chan ≡ false = rw chan refl in
      none-written chan (λ may takes.
      let no = ungranted h past a p x o none in
      let how = (data_may h past x (ap (λ b. if b then may_write_passed h past x else may_write_data h past x) writes ∙ may) writes).how in
      elim how [
        | inl due ↦ let g = (and_parts (is_granted h past x) (are_snoops_done h past x) due).0 in cc
        | inr update ↦ updates_ungranted x takes writes (and_parts _ _ update).0
      ])

  -- a granted write waits so too
  pub write-undone : x.chan ≡ Write → are_snoops_done h past x ≡ false → first_kept h past (write_burst h past x) ≡ None
  write-undone chan undone =
      let writes : is_read x.chan ≡ false = rw chan refl in
      none-written chan (λ may takes.
      let how = (data_may h past x (ap (λ b. if b then may_write_passed h past x else may_write_data h past x) writes ∙ may) writes).how in
      elim how [
        | inl due ↦ let done = (and_parts (is_granted h past x) (are_snoops_done h past x) due).1 in let bad : false ≡ true = sym undone ∙ done in cc
        | inr update ↦ updates_ungranted x takes writes (and_parts _ _ update).0
      ])

  write-waits : x.chan ≡ Write → has_grant past x.port x.chan x.id ≡ true → has_failed past x ≡ false → is_answering h past x.addr ≡ true → first_kept h past (write_burst h past x) ≡ None
  write-waits chan had unfailed answering = write-undone chan (answering-undone h past a x (granted-line h past a p x o had) unfailed answering)

  pub write-held : x.chan ≡ Write → has_grant past x.port x.chan x.id ≡ true → (n : ℕ) → ((n == 0) && not x.lock && is_answering h past x.addr) ≡ true
      → first_kept h past (write_burst h past x) ≡ None
  write-held chan had n held = let parts = held-parts n held in write-waits chan had parts.1 parts.2

  pub write-unsent : x.chan ≡ Write → data_sent past x ≡ None → first_kept h past (write_burst h past x) ≡ None
  write-unsent chan none =
      let writes : is_read x.chan ≡ false = rw chan refl in
      none-written chan (λ may takes.
      let m = data_may h past x (ap (λ b. if b then may_write_passed h past x else may_write_data h past x) writes ∙ may) writes in
      let k = granted_write x takes writes in
      let has : is_some_and (write_kind x) has_write_data ≡ true = ap (λ o. is_some_and o has_write_data) k.1 ∙ granted-data k.0 k.2 in
      sent-none (and_from _ _ (and_from _ _ has m.whole) (ap not m.first)) none)
    where
      granted-data : (k : AwKind) → is_granted_write k ≡ true → has_write_data k ≡ true
      granted-data write.WriteNoSnoop g = refl
      granted-data write.WriteUnique g = refl
      granted-data write.WriteLineUnique g = refl
      granted-data k g = cc

      some-no-none : (b : Bool) (d : WriteData) → b ≡ true → (if b then Some d else None) ≡ None → ⊥
      some-no-none true d t is = cc
      some-no-none false d t is = cc

      sent-none : (is_some_and (write_kind x) has_write_data && is_burst_whole past x && not (has_memory_write past x.port x.chan x.id)) ≡ true → data_sent past x ≡ None → ⊥
      sent-none t is = some-no-none _ _ t is

  pub write-granted : x.chan ≡ Write → has_grant past x.port x.chan x.id ≡ true → (line : Line) → Some line ≡ data_of h past x
      → first_kept h past (write_burst h past x) ≡ if_kept h past (M x.port x.chan x.id line)
  write-granted chan had line is =
      written-first chan line (sym is) (granted_given h past a x.addr x (granted-line h past a p x o had)).kind

  -- ---- the other channel ----

  pub read-no-write : x.chan ≡ Read → first_kept h past (write_burst h past x) ≡ None
  read-no-write chan =
      let no : (not (is_read x.chan) && takes_grant x) ≡ false = rw chan refl in
      ap (λ b. first_kept h past (if b then memory_write h past x ++ response x else [])) no

  pub write-no-passed : x.chan ≡ Write → first_kept h past (passed_burst h past x) ≡ None
  write-no-passed chan =
      let no : (is_read x.chan && has_passed_data h past x && not (takes_dirt h past x)) ≡ false = rw chan refl in
      ap (λ b. first_kept h past (if b then memory_write h past x else [])) no

  pub write-no-transfer : x.chan ≡ Write → first_kept h past (transfer_burst h past x) ≡ None
  write-no-transfer chan =
      let no : may-answer ≡ false = rw chan refl in either-none h past may-answer transfer [] (λ t. let bad : true ≡ false = sym t ∙ no in cc)
