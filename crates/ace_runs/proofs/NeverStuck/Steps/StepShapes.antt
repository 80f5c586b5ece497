-- What a step puts of write data, of answers to snoops and of writes of memory: none, the four beats of a burst, one answer with its data,
-- or one write of memory, which for a write comes with the response.
use Rattle.std.proofs.Common.{◌≡◌, ◌⊎◌, ℕ, Bool, true, false, not, ◌&&◌, ◌==◌, nat_lt, if◌then◌else◌, List, [], ◌∷◌, ◌++◌, filter, Option, Some, None, inl, inr, refl, ap, ◌∙◌}
use Rattle.std.specs.Bool.{⊤}
use Rattle.std.specs.List.{list_all, list_any}
use Rattle.std.proofs.lemmas.Bool.{and_parts, and_from, or_cases, cases_Bool, eq-eqb, ltb-true, not-true, false_from_ne_true}
use Rattle.ace_codes.specs.declared.kind.SnoopKind.{SnoopKind}
use Rattle.ace_codes.specs.Snoops.{ac_code}
use Rattle.ace_codes.specs.declared.kind.SnoopKind.TheVariants as snoop
use Rattle.ace_event.specs.declared.event.Event.{Event}
use Rattle.ace_event.specs.declared.event.Event.TheVariants.{Ac, Cr, Cd, W, M, Mem}
use Rattle.ace_event.specs.declared.header.Header.{Header}
use Rattle.ace_model.specs.declared.transactions.Transaction.{Transaction}
use Rattle.ace_model.specs.Trace.{Trace, implies, is_some_and, port_of}
use Rattle.ace_model.specs.Accepted.{rules}
use Rattle.ace_model.specs.AddressRules.{k1, may_have}
use Rattle.ace_model.specs.Grants.{has_passed_data, is_granted, ports_below}
use Rattle.ace_model.specs.Messages.{is_other_ace, next_part, has_part}
use Rattle.ace_model.specs.Plans.{Plan}
use Rattle.ace_model.specs.Progress.{evicts, updates_memory}
use Rattle.ace_model.specs.Transactions.{is_outstanding, is_read, snoop_of, takes_grant}
use Rattle.ace_model.proofs.Trace.Growth.{some_issued-is}
use Rattle.ace_model.proofs.General.Booleans.{implies-at}
use Rattle.ace_model.proofs.General.Options.{is_none_or-at, is_some_and-is}
use Rattle.ace_model.proofs.General.Ports.{each_at}
use Rattle.ace_model.proofs.Rules.Keeps.{kept}
use Rattle.ace_runs.specs.Bursts.{are_kept, is_kept}
use Rattle.ace_runs.specs.LineSteps.{gives_snoops, grant_burst, is_snoop_for, memory_write, passed_burst, response, takes_dirt, transfer_burst, update_burst, write_burst}
use Rattle.ace_runs.specs.MasterSteps.{answers_snoop, sends}
use Rattle.ace_runs.specs.Operations.{next_operation}
use Rattle.ace_runs.specs.OrderSteps.{barrier_burst, dvm_burst, forwarded_to, forwards, gets_message, is_by_port, is_part_of, message_of, parts_missing, sync_completion}
use Rattle.ace_runs.specs.SameEvents.{same_burst}
use Rattle.ace_runs.specs.Segments.{is_at_port}
use Rattle.ace_runs.specs.Steps.{StepKind, is_sound, is_step, may_give, steps, steps_of}
use Rattle.ace_runs.proofs.Accepting.{kept-breaks-none}
use Rattle.ace_runs.proofs.Turns.{step-kept}
use Rattle.ace_runs.proofs.NeverStuck.Steps.SameBursts.{all-as, same-burst-all}
use Rattle.ace_runs.proofs.NeverStuck.Steps.SameEvents.{TellsSame, tells-same}
use Rattle.ace_runs.proofs.NeverStuck.Steps.Lists.{all-if, all-implied, all-map}
use Rattle.ace_runs.proofs.NeverStuck.Steps.Serving.{barrier-all, dvm-all, grant-all, served, served-all, transfer-all}
use Rattle.ace_runs.proofs.NeverStuck.Steps.StepEvents.{are_masters, is_masters, acknowledges-masters, goes-on-masters}

-- neither write data nor an answer to a snoop nor its data nor a write of memory
abbrev pub is_plain : Event → Bool
is_plain (W p strb last word) = false
is_plain (M p c i line) = false
is_plain (Cr p resp st) = false
is_plain (Cd p last word) = false
is_plain _ = true

abbrev pub are_plain : List Event → Bool
are_plain burst = list_all is_plain burst

-- The one write of memory of the step, for the transaction: with the response to a write, alone for a read's passed data.
abbrev pub WritesFor : Header → Trace → List Event → Transaction → Type 0
WritesFor h past burst x =
    ((is_read x.chan ≡ false) × (same_burst (memory_write h past x ++ response x) burst ≡ true))
    ⊎ ((is_read x.chan ≡ true) × (same_burst (memory_write h past x) burst ≡ true))

abbrev pub StepShape : Header → Trace → ℕ → List Event → Type 0
StepShape h past p burst = (are_plain burst ≡ true) ⊎ (sends h past p burst ≡ true) ⊎ (answers_snoop h past p burst ≡ true) ⊎ ((x : Transaction) × WritesFor h past burst x)

-- ---- plain events ------------------------------------------------------------------------------------

masters-plain : (e : Event) → is_masters e ≡ true → is_plain e ≡ true
masters-plain (W p strb last word) m = cc
masters-plain (M p c i line) m = cc
masters-plain (Cr p resp st) m = cc
masters-plain (Cd p last word) m = cc
masters-plain e m = refl

all-plain : (burst : List Event) → are_masters burst ≡ true → are_plain burst ≡ true
all-plain burst m = all-implied is_masters is_plain masters-plain burst m

same-plain : TellsSame is_plain
same-plain = tells-same is_plain (λ p c i line. refl) (λ p a s x line. refl) (λ a line. refl)

-- a burst that is the same as plain events
pub plain-as : (ds es : List Event) → same_burst ds es ≡ true → are_plain ds ≡ true → are_plain es ≡ true
plain-as ds es s m = all-as is_plain same-plain ds es s m

-- ---- steps that serve a transaction ------------------------------------------------------------------

pub updates_write : (x : Transaction) → updates_memory x ≡ true → is_read x.chan ≡ false
updates_write x u = false_from_ne_true (is_read x.chan) (λ t. let bad : false ≡ true = rw t at u in cc)

update-shape : (h : Header) (past : Trace) (p : ℕ) (burst : List Event) (x : Transaction) → same_burst (update_burst h past x) burst ≡ true → StepShape h past p burst
update-shape h past p burst x s =
    elim (cases_Bool (updates_memory x)) [
      | inl u ↦ inr (inr (inr (x, inl (updates_write x u, rw u at s))))
      | inr f ↦ let plain : same_burst (if evicts x then response x else []) burst ≡ true = rw f at s in
          inl (plain-as (if evicts x then response x else []) burst plain (all-if is_plain (evicts x) (response x) [] refl refl))
    ]

passed-shape : (h : Header) (past : Trace) (p : ℕ) (burst : List Event) (x : Transaction) → same_burst (passed_burst h past x) burst ≡ true → StepShape h past p burst
passed-shape h past p burst x s =
    elim (cases_Bool (is_read x.chan && has_passed_data h past x && not (takes_dirt h past x))) [
      | inl t ↦
          let reads = (and_parts (is_read x.chan) (has_passed_data h past x) (and_parts _ (not (takes_dirt h past x)) t).0).0 in
          inr (inr (inr (x, inr (reads, rw t at s))))
      | inr f ↦ let none : same_burst [] burst ≡ true = rw f at s in inl (plain-as [] burst none refl)
    ]

write-shape : (h : Header) (past : Trace) (p : ℕ) (burst : List Event) (x : Transaction) → same_burst (write_burst h past x) burst ≡ true → StepShape h past p burst
write-shape h past p burst x s =
    elim (cases_Bool (not (is_read x.chan) && takes_grant x)) [
      | inl t ↦ inr (inr (inr (x, inl (not-true (is_read x.chan) (and_parts (not (is_read x.chan)) (takes_grant x) t).0, rw t at s))))
      | inr f ↦ let none : same_burst [] burst ≡ true = rw f at s in inl (plain-as [] burst none refl)
    ]

-- ---- steps that send to other ports ------------------------------------------------------------------

snoop-plain : (x : Transaction) (k : SnoopKind) (e : Event) → is_snoop_for x k e ≡ true → is_plain e ≡ true
snoop-plain x k (W p strb last word) s = cc
snoop-plain x k (M p c i line) s = cc
snoop-plain x k (Cr p resp st) s = cc
snoop-plain x k (Cd p last word) s = cc
snoop-plain x k e s = refl

pub snoops-all : (test : Event → Bool) → ((x : Transaction) (k : SnoopKind) (e : Event) → is_snoop_for x k e ≡ true → test e ≡ true)
    → (h : Header) (past : Trace) (p : ℕ) (burst : List Event) → gives_snoops h past p burst ≡ true → list_all test burst ≡ true
snoops-all test each h past p burst s =
    let of_it = λ (x : Transaction). is_granted h past x && is_some_and (snoop_of x) (λ k. list_all (is_snoop_for x k) burst) in
    let x = some_issued-is past (λ x. (x.port == p) && is_outstanding h past x && of_it x) s in
    let of = (and_parts (is_granted h past x.0) _ (and_parts ((x.0.port == p) && is_outstanding h past x.0) (of_it x.0) x.2).1).1 in
    let k = is_some_and-is (snoop_of x.0) (λ k. list_all (is_snoop_for x.0 k) burst) of in
    all-implied (is_snoop_for x.0 k.0) test (each x.0 k.0) burst k.2

pub filtered-all : (test : Event → Bool) (q : ℕ) (burst : List Event) → list_all test (filter (is_at_port q) burst) ≡ true
    → list_all (λ e. implies (is_at_port q e) (test e)) burst ≡ true
filtered-all test q [] m = refl
filtered-all test q (e ∷ burst) m =
    elim (cases_Bool (is_at_port q e)) [
      | inl t ↦
          let here : list_all test (e ∷ filter (is_at_port q) burst) ≡ true = rw t at m in
          let parts = and_parts (test e) (list_all test (filter (is_at_port q) burst)) here in
          and_from _ _ (rw t parts.0) (filtered-all test q burst parts.1)
      | inr f ↦ and_from _ _ (rw f refl) (filtered-all test q burst (rw f at m))
    ]

-- an event of a port of the header that passes the test at each port passes it
at-its-port : (test : Event → Bool) → ((e : Event) → port_of e ≡ None → test e ≡ true) → (h : Header) (e : Event) → k1 h [] e ≡ true
    → ((q : ℕ) → nat_lt q h.ports ≡ true → implies (is_at_port q e) (test e) ≡ true) → test e ≡ true
at-its-port test portless h e k each = by (port_of e) refl
  where
    by : (o : Option ℕ) → port_of e ≡ o → test e ≡ true
    by None none = portless e none
    by (Some q) port =
        let low = (and_parts (nat_lt q h.ports) _ (is_none_or-at (port_of e) (may_have h e) q k port)).0 in
        let at : is_at_port q e ≡ true = ap (λ o. is_some_and o (λ r. r == q)) port ∙ eq-eqb q q refl in
        implies-at (is_at_port q e) (test e) (each q low) at

pub all-by-ports : (test : Event → Bool) → ((e : Event) → port_of e ≡ None → test e ≡ true) → (h : Header) (past : Trace) (burst : List Event) → are_kept h past burst ≡ true
    → ((q : ℕ) → nat_lt q h.ports ≡ true → list_all (λ e. implies (is_at_port q e) (test e)) burst ≡ true) → list_all test burst ≡ true
all-by-ports test portless h past [] k each = refl
all-by-ports test portless h past (e ∷ burst) k each =
    let parts = and_parts (is_kept h past e) (are_kept h (e ∷ past) burst) k in
    let one : k1 h past e ≡ true = kept rules 1 h past e (kept-breaks-none h past e parts.0) in
    and_from _ _
    (at-its-port test portless h e one (λ q low. (and_parts (implies (is_at_port q e) (test e)) _ (each q low)).0))
    (all-by-ports test portless h (e ∷ past) burst parts.1 (λ q low. (and_parts (implies (is_at_port q e) (test e)) _ (each q low)).1))

-- the events of step 11 pass a test that ACs pass, and events of no port
pub forwards-all : (test : Event → Bool) → TellsSame test → ((e : Event) → port_of e ≡ None → test e ≡ true) → ((q addr snoop : ℕ) → test (Ac q addr snoop) ≡ true)
    → (h : Header) (past : Trace) (p : ℕ) (burst : List Event) → are_kept h past burst ≡ true → forwards h past p burst ≡ true → list_all test burst ≡ true
forwards-all test same portless acs h past p burst k s =
    let x = some_issued-is past (λ x. is_part_of p x && list_all (gets_message h past x burst) (ports_below h.ports)) (and_parts (is_by_port burst) _ s).1 in
    let all = (and_parts (is_part_of p x.0) (list_all (gets_message h past x.0 burst) (ports_below h.ports)) x.2).1 in
    all-by-ports test portless h past burst k (λ q low.
    let gets = each_at h.ports (gets_message h past x.0 burst) q all (ltb-true q h.ports low) in
    filtered-all test q burst (same-burst-all test same (filter (is_at_port q) burst) (forwarded_to h past x.0 q) gets ∙ (all-if test (is_other_ace h x.0.port q && is_some_and (next_part past q) (has_part (message_of past x.0))) _ [] (all-map test (λ (y : Transaction). Ac q y.addr (ac_code snoop.DvmMessage)) (parts_missing past x.0 q) (λ y. acs q y.addr (ac_code snoop.DvmMessage))) refl)))

portless-plain : (e : Event) → port_of e ≡ None → is_plain e ≡ true
portless-plain (Mem addr line) none = refl
portless-plain (W p strb last word) none = cc
portless-plain (M p c i line) none = cc
portless-plain (Cr p resp st) none = cc
portless-plain (Cd p last word) none = cc
portless-plain e none = refl

-- ---- all steps ---------------------------------------------------------------------------------------

-- from what each of the steps gives
abbrev pub Each : Header → Trace → ℕ → List Event → Type 0 → List StepKind → Type 0
Each h past p burst P [] = ⊤
Each h past p burst P (s ∷ rest) = (s.gives h past p burst ≡ true → P) × Each h past p burst P rest

pub of-any : (h : Header) (past : Trace) (p : ℕ) (burst : List Event) (P : Type 0) (kinds : List StepKind) → Each h past p burst P kinds
    → list_any (may_give h past p burst) kinds ≡ true → P
of-any h past p burst P [] each s = cc
of-any h past p burst P (kind ∷ kinds) each s =
    elim (or_cases (may_give h past p burst kind) _ s) [
      | inl now ↦ each.0 (and_parts (kind.is_enabled h past p) (kind.gives h past p burst) now).1
      | inr later ↦ of-any h past p burst P kinds each.1 later
    ]

pub step-shape : (plan : Plan) (past : Trace) (p : ℕ) (burst : List Event) → is_step plan past p burst ≡ true → StepShape plan.header past p burst
step-shape plan past p burst s =
    let h = plan.header in
    let next = next_operation plan past p in
    let sound = and_parts (is_sound h past burst) (list_any (may_give h past p burst) (steps_of plan past p)) s in
    let kept_all = step-kept plan past p burst s in
    of-any h past p burst (StepShape h past p burst) (steps plan.ways next) (
      (λ g. inr (inr (inl g))),
      (
        (λ g. inr (inl g)),
        (
          (λ g. let x = served update_burst h past p burst g in update-shape h past p burst x.of x.same),
          (
            (λ g. inl (all-plain burst (acknowledges-masters next h past p burst g))),
            (
              (λ g. inl (served-all is_plain same-plain grant_burst h past p burst (grant-all is_plain (λ q c i. refl) h past) g)),
              (
                (λ g. inl (snoops-all is_plain snoop-plain h past p burst g)),
                (
                  (λ g. let x = served passed_burst h past p burst g in passed-shape h past p burst x.of x.same),
                  (
                    (λ g. inl (served-all is_plain same-plain transfer_burst h past p burst (transfer-all is_plain (λ q i resp last word. refl) h past) g)),
                    (
                      (λ g. let x = served write_burst h past p burst g in write-shape h past p burst x.of x.same),
                      (
                        (λ g. inl (served-all is_plain same-plain barrier_burst h past p burst (barrier-all is_plain (λ q i resp last word. refl) (λ q i resp. refl) h past) g)),
                        (
                          (λ g. inl (forwards-all is_plain same-plain portless-plain (λ q addr snoop. refl) h past p burst kept_all g)),
                          (
                            (λ g. inl (served-all is_plain same-plain dvm_burst h past p burst (dvm-all is_plain (λ q i resp last word. refl) h past) g)),
                            (
                              (λ g. inl (plain-as (sync_completion p) burst g refl)),
                              ((λ g. inl (all-plain burst (goes-on-masters plan.ways next h past p burst g))), tt),
                            ),
                          ),
                        ),
                      ),
                    ),
                  ),
                ),
              ),
            ),
          ),
        ),
      ),
    )
    sound.1
