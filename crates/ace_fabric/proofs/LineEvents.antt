-- The steps of the home and those of the engine of memory updates give their own events.
use Rattle.std.proofs.Common.{◌≡◌, ℕ, Bool, true, false, not, ◌&&◌, ◌||◌, ◌==◌, List, [], ◌∷◌, ◌++◌, map, Option, Some, None, inl, inr, refl, sym, ap, subst, ◌∙◌}
use Rattle.std.specs.List.{list_all}
use Rattle.std.specs.Option.{option_to_list}
use Rattle.std.proofs.lemmas.Bool.{and_from, and_parts, cases_Bool, eqb-true, false_from_ne_true, not-true, or_left, or_right}
use Rattle.ace_codes.specs.declared.kind.SnoopKind.{SnoopKind}
use Rattle.ace_codes.specs.Snoops.{ac_code}
use Rattle.ace_event.specs.declared.event.Channel.{Channel}
use Rattle.ace_event.specs.declared.event.Channel.TheVariants.{Read, Write}
use Rattle.ace_event.specs.declared.event.Event.{Event}
use Rattle.ace_event.specs.declared.event.Event.TheVariants.{Ac, B, M, R}
use Rattle.ace_event.specs.declared.header.Header.{Header}
use Rattle.ace_event.specs.declared.line.Line.{Line}
use Rattle.ace_model.specs.declared.transactions.Transaction.{Transaction}
use Rattle.ace_model.specs.Accepted.{IsAccepted}
use Rattle.ace_model.specs.Grants.{has_passed_data, is_granted}
use Rattle.ace_model.specs.Kinds.{is_evict, is_line_read, is_line_snoop, is_line_write, is_granted_write, is_update}
use Rattle.ace_model.specs.Progress.{evicts, updates_memory}
use Rattle.ace_model.specs.Snoops.{snoops_a_line}
use Rattle.ace_model.specs.Trace.{Trace, implies, is_some_and}
use Rattle.ace_model.specs.Transactions.{is_line, is_outstanding, is_read, read_kind, snoop_of, takes_grant, transaction_of, write_kind}
use Rattle.ace_model.specs.WriteRules.{data_of}
use Rattle.ace_model.proofs.General.Options.{is_some_and-is}
use Rattle.ace_model.proofs.Grants.Granted.{granted_at, granted_given, has_passed}
use Rattle.ace_model.proofs.Tables.ReadSnoops.{kind_of_code}
use Rattle.ace_model.proofs.Trace.Growth.{some_issued-is}
use Rattle.ace_model.proofs.Trace.Issued.{outstanding-named}
use Rattle.ace_model.proofs.Trace.LineOnce.{outstanding_is}
use Rattle.ace_model.proofs.Trace.Looks.{is_read-is, is_write-is}
use Rattle.ace_runs.specs.Bursts.{serves}
use Rattle.ace_runs.specs.LineSteps.{gives_snoops, grant_burst, is_last_beat, is_snoop_for, memory_write, next_word, passed_burst, response, response_bits, takes_dirt, transfer_burst, update_burst, write_burst}
use Rattle.ace_runs.proofs.NeverStuck.Steps.Lists.{all-append, all-implied}
use Rattle.ace_runs.proofs.NeverStuck.Steps.SameBursts.{all-as}
use Rattle.ace_runs.proofs.NeverStuck.Steps.SameEvents.{TellsSame, tells-same}
use Rattle.ace_runs.proofs.NeverStuck.Steps.Serving.{IsServed, grant-all, served, served-all}
use Rattle.ace_runs.proofs.NeverStuck.Forwarding.Steps.{caused-line}
use Rattle.ace_engine.specs.Engines.{gives_up_line, is_of_home, is_of_update}

same-home : (past : Trace) → TellsSame (is_of_home past)
same-home past = tells-same (is_of_home past) (λ p c i line. refl) (λ p a s x line. refl) (λ a line. refl)

same-update : (past : Trace) → TellsSame (is_of_update past)
same-update past = tells-same (is_of_update past) (λ p c i line. refl) (λ p a s x line. refl) (λ a line. refl)

-- ---- the transaction that is served ------------------------------------------------------------------

-- the port's last transaction under its name is it itself
pub named-own : (burst_for : Header → Trace → Transaction → List Event) (h : Header) (past : Trace) (burst : List Event) (s : IsServed burst_for h past burst)
    → transaction_of past s.of.port s.of.chan s.of.id ≡ Some s.of
named-own burst_for h past burst s = outstanding-named h past s.of.port s.of.chan s.of.id s.of (outstanding_is h past s.of s.issued s.out)

-- a test passes for what is so named
pub named-passes : (past : Trace) (p : ℕ) (c : Channel) (i : ℕ) (x : Transaction) (test : Transaction → Bool) → transaction_of past p c i ≡ Some x → test x ≡ true
    → is_some_and (transaction_of past p c i) test ≡ true
named-passes past p c i x test own t = ap (λ o. is_some_and o test) own ∙ t

memory-all : (test : Event → Bool) (h : Header) (past : Trace) (x : Transaction) → ((line : Line) → test (M x.port x.chan x.id line) ≡ true)
    → list_all test (memory_write h past x) ≡ true
memory-all test h past x writes = by (data_of h past x)
  where
    by : (o : Option Line) → list_all test (map (λ line. M x.port x.chan x.id line) (option_to_list o)) ≡ true
    by None = refl
    by (Some line) = and_from _ _ (writes line) refl

-- both events of a write that is named
module _ (test : Event → Bool) (h : Header) (past : Trace) (x : Transaction) (passes : Transaction → Bool)
    (writes : (p : ℕ) (c : Channel) (i : ℕ) (line : Line) → test (M p c i line) ≡ is_some_and (transaction_of past p c i) passes)
    (responds : (p i resp : ℕ) → test (B p i resp) ≡ is_some_and (transaction_of past p Write i) passes)
    (own : transaction_of past x.port x.chan x.id ≡ Some x) (t : passes x ≡ true) where
  memory-own : list_all test (memory_write h past x) ≡ true
  memory-own = memory-all test h past x (λ line. writes x.port x.chan x.id line ∙ named-passes past x.port x.chan x.id x passes own t)

  response-own : is_read x.chan ≡ false → list_all test (response x) ≡ true
  response-own off =
      let there : transaction_of past x.port Write x.id ≡ Some x = subst (λ (c : Channel). transaction_of past x.port c x.id ≡ Some x) (is_write-is x.chan off) own in
      and_from _ _ (responds x.port x.id 0 ∙ named-passes past x.port Write x.id x passes there t) refl

  both-own : is_read x.chan ≡ false → list_all test (memory_write h past x ++ response x) ≡ true
  both-own off = all-append test (memory_write h past x) (response x) memory-own (response-own off)

-- ---- step 3 ------------------------------------------------------------------------------------------

write-kind-writes : (x : Transaction) (test : Bool) → (is_read x.chan ≡ true → test ≡ false) → test ≡ true → is_read x.chan ≡ false
write-kind-writes x test none t = false_from_ne_true (is_read x.chan) (λ reads. let bad = none reads in cc)

no-write : (x : Transaction) → is_read x.chan ≡ true → write_kind x ≡ None
no-write x reads = rw reads refl

pub update-own : (h : Header) (past : Trace) (p : ℕ) (burst : List Event) → serves update_burst h past p burst ≡ true → list_all (is_of_update past) burst ≡ true
update-own h past p burst g =
    let s = served update_burst h past p burst g in
    let x = s.of in
    let own = named-own update_burst h past burst s in
    elim (cases_Bool (updates_memory x)) [
      | inl u ↦
          let off = write-kind-writes x (updates_memory x) (λ reads. ap (λ o. is_some_and o is_update) (no-write x reads)) u in
          all-as (is_of_update past) (same-update past) (memory_write h past x ++ response x) burst (rw u at s.same)
          (both-own (is_of_update past) h past x gives_up_line (λ q c i line. refl) (λ q i resp. refl) own (or_left (updates_memory x) (evicts x) u) off)
      | inr f ↦ elim (cases_Bool (evicts x)) [
        | inl v ↦
            let off = write-kind-writes x (evicts x) (λ reads. ap (λ o. is_some_and o is_evict) (no-write x reads)) v in
            all-as (is_of_update past) (same-update past) (response x) burst (rw (f, v) at s.same)
            (response-own (is_of_update past) h past x gives_up_line (λ q c i line. refl) (λ q i resp. refl) own (or_right (updates_memory x) (evicts x) v) off)
        | inr n ↦ all-as (is_of_update past) (same-update past) [] burst (rw (f, n) at s.same) refl
      ]
    ]

-- ---- steps 5 and 6 -----------------------------------------------------------------------------------

pub grant-own : (h : Header) (past : Trace) (p : ℕ) (burst : List Event) → serves grant_burst h past p burst ≡ true → list_all (is_of_home past) burst ≡ true
grant-own h past p burst g = served-all (is_of_home past) (same-home past) grant_burst h past p burst (grant-all (is_of_home past) (λ q c i. refl) h past) g

snoop-own : (past : Trace) (x : Transaction) (k : SnoopKind) → snoops_a_line (ac_code k) ≡ true → (e : Event) → is_snoop_for x k e ≡ true → is_of_home past e ≡ true
snoop-own past x k line (Ac q addr snoop) s =
    let code = eqb-true snoop (ac_code k) (and_parts ((q == q) && (addr == x.addr)) (snoop == ac_code k) s).1 in
    subst (λ (n : ℕ). snoops_a_line n ≡ true) (cc code) line
snoop-own past x k line e s = cc

pub snoops-own : (h : Header) (past : Trace) (p : ℕ) (burst : List Event) → gives_snoops h past p burst ≡ true → list_all (is_of_home past) burst ≡ true
snoops-own h past p burst s =
    let of_it = λ (x : Transaction). is_granted h past x && is_some_and (snoop_of x) (λ k. list_all (is_snoop_for x k) burst) in
    let x = some_issued-is past (λ x. (x.port == p) && is_outstanding h past x && of_it x) s in
    let of = (and_parts (is_granted h past x.0) _ (and_parts ((x.0.port == p) && is_outstanding h past x.0) (of_it x.0) x.2).1).1 in
    let k = is_some_and-is (snoop_of x.0) (λ k. list_all (is_snoop_for x.0 k) burst) of in
    let line : snoops_a_line (ac_code k.0) ≡ true = ap (λ o. is_some_and o is_line_snoop) (kind_of_code k.0) ∙ caused-line x.0 k.0 k.1 in
    all-implied (is_snoop_for x.0 k.0) (is_of_home past) (snoop-own past x.0 k.0 line) burst k.2

-- ---- steps 7 to 9 ------------------------------------------------------------------------------------

pub passed-own : (h : Header) (past : Trace) (p : ℕ) (burst : List Event) → IsAccepted h past → serves passed_burst h past p burst ≡ true → list_all (is_of_home past) burst ≡ true
passed-own h past p burst a g =
    let s = served passed_burst h past p burst g in
    let x = s.of in
    let own = named-own passed_burst h past burst s in
    elim (cases_Bool (is_read x.chan && has_passed_data h past x && not (takes_dirt h past x))) [
      | inl t ↦
          let passed = (and_parts (is_read x.chan) (has_passed_data h past x) (and_parts (is_read x.chan && has_passed_data h past x) _ t).0).1 in
          let out = outstanding_is h past x s.issued s.out in
          let holds = granted_at h past a x.port x.chan x.id x out (has_passed h past x passed).stands in
          let kind = (granted_given h past a x.addr x holds).kind in
          all-as (is_of_home past) (same-home past) (memory_write h past x) burst (rw t at s.same)
          (memory-own (is_of_home past) h past x takes_grant (λ q c i line. refl) (λ q i resp. refl) own kind)
      | inr f ↦ all-as (is_of_home past) (same-home past) [] burst (rw f at s.same) refl
    ]

-- a read with a line is granted it
line-read-takes : (x : Transaction) → is_read x.chan ≡ true → is_line x ≡ true → takes_grant x ≡ true
line-read-takes x reads line =
    let none = no-write x reads in
    let kind : (is_some_and (read_kind x) is_line_read || false) ≡ true = ap (λ o. is_some_and (read_kind x) is_line_read || is_some_and o is_line_write) (sym none) ∙ line in
    ap (λ o. is_some_and (read_kind x) is_line_read || is_some_and o is_granted_write) none ∙ kind

pub transfer-own : (h : Header) (past : Trace) (p : ℕ) (burst : List Event) → serves transfer_burst h past p burst ≡ true → list_all (is_of_home past) burst ≡ true
transfer-own h past p burst g =
    let s = served transfer_burst h past p burst g in
    let x = s.of in
    let own = named-own transfer_burst h past burst s in
    elim (cases_Bool (is_read x.chan && is_line x && implies (has_passed_data h past x) (takes_dirt h past x))) [
      | inl t ↦
          let both = and_parts (is_read x.chan) (is_line x) (and_parts (is_read x.chan && is_line x) _ t).0 in
          let there : transaction_of past x.port Read x.id ≡ Some x = subst (λ (c : Channel). transaction_of past x.port c x.id ≡ Some x) (is_read-is x.chan both.0) own in
          all-as (is_of_home past) (same-home past) (R x.port x.id (response_bits h past x) (is_last_beat past x) (next_word past x) ∷ []) burst (rw t at s.same)
          (and_from _ _ (named-passes past x.port Read x.id x takes_grant there (line-read-takes x both.0 both.1)) refl)
      | inr f ↦ all-as (is_of_home past) (same-home past) [] burst (rw f at s.same) refl
    ]

pub write-own : (h : Header) (past : Trace) (p : ℕ) (burst : List Event) → serves write_burst h past p burst ≡ true → list_all (is_of_home past) burst ≡ true
write-own h past p burst g =
    let s = served write_burst h past p burst g in
    let x = s.of in
    let own = named-own write_burst h past burst s in
    elim (cases_Bool (not (is_read x.chan) && takes_grant x)) [
      | inl t ↦
          let both = and_parts (not (is_read x.chan)) (takes_grant x) t in
          all-as (is_of_home past) (same-home past) (memory_write h past x ++ response x) burst (rw t at s.same)
          (both-own (is_of_home past) h past x takes_grant (λ q c i line. refl) (λ q i resp. refl) own both.1 (not-true (is_read x.chan) both.0))
      | inr f ↦ all-as (is_of_home past) (same-home past) [] burst (rw f at s.same) refl
    ]
