-- The parts of a DVM message break no rule where the port may issue them now.
use Rattle.std.proofs.Common.{◌≡◌, ℕ, true, false, ◌&&◌, ◌||◌, nat_lt, if◌then◌else◌, ◌∷◌, Some, None, is_some, refl, ap, ◌∙◌}
use Rattle.std.proofs.lemmas.Bool.{and_from, eq-eqb, or_left}
use Rattle.ace_codes.specs.declared.kind.ArKind.TheVariants as read
use Rattle.ace_codes.specs.Reads.{ar_code, ar_kind_of}
use Rattle.ace_event.specs.declared.event.Channel.TheVariants.{Read}
use Rattle.ace_event.specs.declared.event.Event.TheVariants.{Ar}
use Rattle.ace_event.specs.declared.header.Header.{Header}
use Rattle.ace_model.specs.declared.transactions.Transaction.{Transaction}
use Rattle.ace_model.specs.AddressRules.{is_aligned, is_part_in_order, k2, k3, k5, k6, k8, k9, may_issue_read}
use Rattle.ace_model.specs.Kinds.{is_dvm_complete, is_dvm_message, is_lite_read, is_line_read, is_read_barrier}
use Rattle.ace_model.specs.Messages.{first_waiting, has_second, is_message_part, is_message_word, is_sync_completed, is_sync_word, last_sync, part_in, waits_after}
use Rattle.ace_model.specs.OrderRules.{k38}
use Rattle.ace_model.specs.Trace.{Trace, implies, is_none_or, is_some_and}
use Rattle.ace_model.specs.Transactions.{is_ace, is_line}
use Rattle.ace_model.proofs.Trace.Outstanding.{read_issued}
use Rattle.ace_runs.specs.Bursts.{is_kept}
use Rattle.ace_runs.specs.Requests.{is_free}
use Rattle.ace_runs.proofs.NeverStuck.Operations.Kept.AsksKept.{ar-kept, implies-none, implies-right, read-known}

-- the AR of a part with this word
abbrev pub part_issued : Trace → ℕ → ℕ → ℕ → Transaction
part_issued past p i word = read_issued past p i word (ar_code read.DvmMessage) 1 0 false

-- A part that comes in order breaks no rule.
pub part-kept : (h : Header) (past : Trace) (p i word : ℕ) → is_ace h p ≡ true → nat_lt p h.ports ≡ true → is_free h past p Read i ≡ true
    → is_part_in_order past (part_issued past p i word) (first_waiting past p) ≡ true → is_kept h past (Ar p i word (ar_code read.DvmMessage) 1 0 false) ≡ true
part-kept h past p i word ace low free order =
    let e = Ar p i word (ar_code read.DvmMessage) 1 0 false in
    let x = part_issued past p i word in
    let kind : ar_kind_of (ar_code read.DvmMessage) 1 0 ≡ Some read.DvmMessage = read-known read.DvmMessage refl in
    let none : is_line x ≡ false = ap (λ o. is_some_and o is_line_read || false) kind in
    let two : k2 h past e ≡ true = ap (λ o. is_some_and o (may_issue_read h p)) kind ∙ or_left (is_ace h p) (is_lite_read read.DvmMessage) ace in
    let three : k3 h past e ≡ true = ap (λ o. is_none_or (if is_some_and o is_line_read then Some word else None) is_aligned && true) kind in
    let five : k5 h past e ≡ true = implies-none (is_line x) _ none in
    let six : k6 h past e ≡ true = implies-none (is_line x) _ none in
    let eight : k8 h past e ≡ true = implies-none (is_line x) _ none in
    let nine : k9 h past e ≡ true =
    and_from _ _ (and_from _ _ (implies-none _ _ (ap (λ o. is_some_and o is_read_barrier || false) kind)) (implies-right (is_message_part x) _ order))
    (implies-none _ _ (ap (λ o. is_some_and o is_dvm_complete) kind)) in
    let last : k38 h past e ≡ true = implies-none _ _ (ap (λ o. is_some_and o is_dvm_complete) kind) in
    ar-kept h past p i word (ar_code read.DvmMessage) 1 0 false low two three free five six refl eight nine last

-- The port may issue a first part with the word: none of its messages lacks its second part, and if it is a Sync, its last Sync is completed.
pub record MessageFits (h : Header) (past : Trace) (p word : ℕ) : Type 0 where
  pub ace : is_ace h p ≡ true
  pub whole : first_waiting past p ≡ None
  pub means : is_message_word word ≡ true
  pub synced : implies (is_sync_word word && is_some (last_sync past p)) (is_sync_completed past p) ≡ true

pub first-part-kept : (h : Header) (past : Trace) (p i word : ℕ) → MessageFits h past p word → nat_lt p h.ports ≡ true → is_free h past p Read i ≡ true
    → is_kept h past (Ar p i word (ar_code read.DvmMessage) 1 0 false) ≡ true
first-part-kept h past p i word f low free =
    part-kept h past p i word f.ace low free (ap (is_part_in_order past (part_issued past p i word)) f.whole ∙ and_from _ _ f.means f.synced)

-- the first part then waits for its second
first-waits : (past : Trace) (p i word : ℕ) → first_waiting past p ≡ None → has_second word ≡ true
    → first_waiting (Ar p i word (ar_code read.DvmMessage) 1 0 false ∷ past) p ≡ Some (part_issued past p i word)
first-waits past p i word whole second =
    let x = part_issued past p i word in
    let part : is_message_part x ≡ true = ap (λ o. is_some_and o is_dvm_message) (read-known read.DvmMessage refl) in
    let in_part : part_in (Some x) p ≡ Some x = ap (λ b. if b then Some x else None) (and_from _ _ part (eq-eqb p p refl)) in
    ap (waits_after (first_waiting past p)) in_part ∙ ap (λ o. waits_after o (Some x)) whole ∙ ap (λ b. if b then Some x else None) second

-- and the second breaks no rule
pub second-part-kept : (h : Header) (past : Trace) (p i j word second : ℕ) → MessageFits h past p word → has_second word ≡ true → nat_lt p h.ports ≡ true
    → is_free h (Ar p i word (ar_code read.DvmMessage) 1 0 false ∷ past) p Read j ≡ true
    → is_kept h (Ar p i word (ar_code read.DvmMessage) 1 0 false ∷ past) (Ar p j second (ar_code read.DvmMessage) 1 0 false) ≡ true
second-part-kept h past p i j word second f two low free =
    let now = Ar p i word (ar_code read.DvmMessage) 1 0 false ∷ past in
    part-kept h now p j second f.ace low free (ap (is_part_in_order now (part_issued now p j second)) (first-waits past p i word f.whole two))
