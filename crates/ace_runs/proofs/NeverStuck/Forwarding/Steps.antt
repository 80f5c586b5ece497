-- Step 11 alone forwards parts of messages: the events of any other step are no AC DVM Message.
use Rattle.std.proofs.Common.{◌≡◌, ◌⊎◌, ℕ, Bool, true, false, not, ◌&&◌, ◌==◌, List, length, Option, Some, None, inl, inr, refl, ap, ◌∙◌}
use Rattle.std.specs.List.{list_all}
use Rattle.std.proofs.lemmas.Bool.{and_parts, eqb-true}
use Rattle.ace_codes.specs.declared.kind.ArKind.{ArKind}
use Rattle.ace_codes.specs.declared.kind.ArKind.TheVariants as read
use Rattle.ace_codes.specs.declared.kind.AwKind.{AwKind}
use Rattle.ace_codes.specs.declared.kind.AwKind.TheVariants as write
use Rattle.ace_codes.specs.declared.kind.SnoopKind.{SnoopKind}
use Rattle.ace_codes.specs.declared.kind.SnoopKind.TheVariants as snoop
use Rattle.ace_codes.specs.Snoops.{ac_code, ac_kind_of}
use Rattle.ace_event.specs.declared.event.Event.{Event}
use Rattle.ace_event.specs.declared.event.Event.TheVariants.{Ac}
use Rattle.ace_event.specs.declared.header.Header.{Header}
use Rattle.ace_tables.specs.SnoopKinds.{snoop_of_read, snoop_of_write}
use Rattle.ace_model.specs.declared.transactions.Transaction.{Transaction}
use Rattle.ace_model.specs.Grants.{is_granted}
use Rattle.ace_model.specs.Kinds.{is_line_snoop, is_message_snoop}
use Rattle.ace_model.specs.Plans.{Plan}
use Rattle.ace_model.specs.Trace.{Trace, is_none_or, is_some_and}
use Rattle.ace_model.specs.Transactions.{is_outstanding, read_kind, snoop_kind_of, snoop_of, write_kind}
use Rattle.ace_model.proofs.General.Options.{is_none_or-at, is_some_and-is}
use Rattle.ace_model.proofs.Tables.ReadSnoops.{kind_of_code}
use Rattle.ace_model.proofs.Trace.Growth.{some_issued-is}
use Rattle.ace_runs.specs.Counts.{forwards_part}
use Rattle.ace_runs.specs.LineSteps.{gives_snoops, grant_burst, is_snoop_for, passed_burst, transfer_burst, update_burst, write_burst}
use Rattle.ace_runs.specs.MasterSteps.{is_beat}
use Rattle.ace_runs.specs.Operations.{next_operation}
use Rattle.ace_runs.specs.OrderSteps.{barrier_burst, dvm_burst, forwards, sync_completion}
use Rattle.ace_runs.specs.Steps.{is_sound, is_step, steps}
use Rattle.ace_runs.proofs.NeverStuck.Steps.SameBursts.{all-as}
use Rattle.ace_runs.proofs.NeverStuck.Steps.SameEvents.{TellsSame, tells-same}
use Rattle.ace_runs.proofs.NeverStuck.Steps.Lists.{all-implied}
use Rattle.ace_runs.proofs.NeverStuck.Steps.Serving.{barrier-all, dvm-all, grant-all, passed-all, served-all, transfer-all, update-all, write-all}
use Rattle.ace_runs.proofs.NeverStuck.Steps.StepEvents.{acknowledges-masters, answers-answering, goes-on-masters, is_answering, is_masters}
use Rattle.ace_runs.proofs.NeverStuck.Steps.StepShapes.{of-any}

-- the event forwards no part of a message
abbrev pub forwards_none : Event → Bool
forwards_none e = not (forwards_part e)

-- ---- events ------------------------------------------------------------------------------------------

masters-none : (e : Event) → is_masters e ≡ true → forwards_none e ≡ true
masters-none (Ac p addr code) m = cc
masters-none e m = refl

answering-none : (e : Event) → is_answering e ≡ true → forwards_none e ≡ true
answering-none (Ac p addr code) m = cc
answering-none e m = refl

beat-none : (p : ℕ) (e : Event) → is_beat p e ≡ true → forwards_none e ≡ true
beat-none p (Ac q addr code) m = cc
beat-none p e m = refl

same-none : TellsSame forwards_none
same-none = tells-same forwards_none (λ p c i line. refl) (λ p a s x line. refl) (λ a line. refl)

-- ---- the snoops of a line ----------------------------------------------------------------------------

read-line : (k : ArKind) → is_none_or (snoop_of_read k) is_line_snoop ≡ true
read-line read.ReadOnce = refl
read-line k = refl

write-line : (k : AwKind) → is_none_or (snoop_of_write k) is_line_snoop ≡ true
write-line write.WriteUnique = refl
write-line k = refl

kinds-line : (r : Option ArKind) (w : Option AwKind) → is_none_or (snoop_kind_of r w) is_line_snoop ≡ true
kinds-line (Some k) w = read-line k
kinds-line None (Some k) = write-line k
kinds-line None None = refl

-- the snoop that a transaction causes is one of a line
pub caused-line : (x : Transaction) (k : SnoopKind) → snoop_of x ≡ Some k → is_line_snoop k ≡ true
caused-line x k caused = is_none_or-at (snoop_of x) is_line_snoop k (kinds-line (read_kind x) (write_kind x)) caused

pub line-no-message : (k : SnoopKind) → is_line_snoop k ≡ true → is_message_snoop k ≡ false
line-no-message snoop.DvmMessage line = cc
line-no-message k line = refl

snoop-none : (x : Transaction) (k : SnoopKind) → is_line_snoop k ≡ true → (e : Event) → is_snoop_for x k e ≡ true → forwards_none e ≡ true
snoop-none x k line (Ac p a s) of =
    let code = eqb-true s (ac_code k) (and_parts ((p == p) && (a == x.addr)) (s == ac_code k) of).1 in
    ap (λ n. not (is_some_and (ac_kind_of n) is_message_snoop)) code ∙ ap (λ o. not (is_some_and o is_message_snoop)) (kind_of_code k) ∙ ap not (line-no-message k line)
snoop-none x k line e of = refl

snoops-none : (h : Header) (past : Trace) (p : ℕ) (burst : List Event) → gives_snoops h past p burst ≡ true → list_all forwards_none burst ≡ true
snoops-none h past p burst s =
    let test = λ (x : Transaction). is_granted h past x && is_some_and (snoop_of x) (λ k. list_all (is_snoop_for x k) burst) in
    let x = some_issued-is past (λ x. (x.port == p) && is_outstanding h past x && test x) s in
    let of = (and_parts (is_granted h past x.0) _ (and_parts ((x.0.port == p) && is_outstanding h past x.0) (test x.0) x.2).1).1 in
    let k = is_some_and-is (snoop_of x.0) (λ k. list_all (is_snoop_for x.0 k) burst) of in
    all-implied (is_snoop_for x.0 k.0) forwards_none (snoop-none x.0 k.0 (caused-line x.0 k.0 k.1)) burst k.2

completion-none : (p : ℕ) → list_all forwards_none (sync_completion p) ≡ true
completion-none p = ap (λ o. not (is_some_and o is_message_snoop) && true) (kind_of_code snoop.DvmComplete)

-- ---- all steps ---------------------------------------------------------------------------------------

-- A step forwards no part, or is step 11.
pub forwards-by-one : (plan : Plan) (past : Trace) (p : ℕ) (burst : List Event) → is_step plan past p burst ≡ true
    → (list_all forwards_none burst ≡ true) ⊎ (forwards plan.header past p burst ≡ true)
forwards-by-one plan past p burst s =
    let h = plan.header in
    let next = next_operation plan past p in
    of-any h past p burst ((list_all forwards_none burst ≡ true) ⊎ (forwards h past p burst ≡ true)) (steps plan.ways next) (
      (λ g. inl (all-implied is_answering forwards_none answering-none burst (answers-answering h past p burst g))),
      (
        (λ g. inl (all-implied (is_beat p) forwards_none (beat-none p) burst (and_parts (list_all (is_beat p) burst) (length burst == 4) g).0)),
        (
          (λ g. inl (served-all forwards_none same-none update_burst h past p burst (update-all forwards_none (λ q c i line. refl) (λ q i resp. refl) h past) g)),
          (
            (λ g. inl (all-implied is_masters forwards_none masters-none burst (acknowledges-masters next h past p burst g))),
            (
              (λ g. inl (served-all forwards_none same-none grant_burst h past p burst (grant-all forwards_none (λ q c i. refl) h past) g)),
              (
                (λ g. inl (snoops-none h past p burst g)),
                (
                  (λ g. inl (served-all forwards_none same-none passed_burst h past p burst (passed-all forwards_none (λ q c i line. refl) h past) g)),
                  (
                    (λ g. inl (served-all forwards_none same-none transfer_burst h past p burst (transfer-all forwards_none (λ q i resp last word. refl) h past) g)),
                    (
                      (λ g. inl (served-all forwards_none same-none write_burst h past p burst (write-all forwards_none (λ q c i line. refl) (λ q i resp. refl) h past) g)),
                      (
                        (λ g. inl (served-all forwards_none same-none barrier_burst h past p burst (barrier-all forwards_none (λ q i resp last word. refl) (λ q i resp. refl) h past) g)),
                        (
                          (λ g. inr g),
                          (
                            (λ g. inl (served-all forwards_none same-none dvm_burst h past p burst (dvm-all forwards_none (λ q i resp last word. refl) h past) g)),
                            (
                              (λ g. inl (all-as forwards_none same-none (sync_completion p) burst g (completion-none p))),
                              ((λ g. inl (all-implied is_masters forwards_none masters-none burst (goes-on-masters plan.ways next h past p burst g))), tt),
                            ),
                          ),
                        ),
                      ),
                    ),
                  ),
                ),
              ),
            ),
          ),
        ),
      ),
    )
    (and_parts (is_sound h past burst) _ s).1
