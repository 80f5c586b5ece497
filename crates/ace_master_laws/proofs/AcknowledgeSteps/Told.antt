-- What the first response of a read may say: IsShared where its kind may be told so, and PassDirty where its kind takes passed data.
use Rattle.std.proofs.Common.{◌≡◌, ℕ, Bool, true, false, not, ◌&&◌, ◌||◌, ◌==◌, [], ◌∷◌, Option, Some, None, is_some, inl, inr, refl, sym, ap, subst, ◌∙◌}
use Rattle.std.proofs.lemmas.Bool.{and_from, and_parts, cases_Bool}
use Rattle.ace_codes.specs.declared.kind.ArKind.{ArKind}
use Rattle.ace_codes.specs.declared.kind.ArKind.TheVariants as read
use Rattle.ace_codes.specs.Responses.{is_shared, passes_dirty}
use Rattle.ace_event.specs.declared.event.Channel.TheVariants.{Read}
use Rattle.ace_event.specs.declared.event.Event.TheVariants.{R}
use Rattle.ace_event.specs.declared.header.Header.{Header}
use Rattle.ace_model.specs.declared.transactions.Transaction.{Transaction}
use Rattle.ace_model.specs.Accepted.{IsAccepted}
use Rattle.ace_model.specs.Grants.{are_passed_data_whole, has_passed_data, is_granted, passer}
use Rattle.ace_model.specs.Kinds.{is_read_not_shared_dirty, may_be_shared, takes_passed_data}
use Rattle.ace_model.specs.ReadRules.{fits_kind, has_upper_bits, must_be_shared}
use Rattle.ace_model.specs.Trace.{Trace, implies, is_none_or, is_some_and}
use Rattle.ace_model.specs.Writes.{has_memory_write}
use Rattle.ace_model.specs.Transactions.{first_resp, is_ace, is_line, outstanding, read_kind, transfers}
use Rattle.ace_model.proofs.General.Booleans.{implies-at}
use Rattle.ace_model.proofs.General.Options.{is_none_or-at}
use Rattle.ace_model.proofs.Grants.Begins.{line_due}
use Rattle.ace_model.proofs.Grants.Granted.{granted_at}
use Rattle.ace_model.proofs.Holders.Law.{accepted_holds}
use Rattle.ace_model.proofs.Rules.Keeps.{accepted_keeps}
use Rattle.ace_model.proofs.Trace.Issued.{outstanding-origin}
use Rattle.ace_model.proofs.Values.FullReads.{issue_transfers, transfer_moves}
use Rattle.ace_runs.proofs.NeverStuck.Reads.ReadsMove.{no-first}

-- a read of this kind may be told IsShared and PassDirty
abbrev pub may_be_told : ArKind → Bool → Bool → Bool
may_be_told k shared pass = implies shared (may_be_shared k) && not (is_read_not_shared_dirty k && pass && shared) && implies pass (takes_passed_data k)

abbrev pub may_say : ArKind → ℕ → Bool
may_say k resp = may_be_told k (is_shared resp) (passes_dirty resp)

implied : (a b : Bool) → (a ≡ true → b ≡ true) → implies a b ≡ true
implied true b t = t refl
implied false b t = refl

module _ (h : Header) (past : Trace) (p i : ℕ) (x : Transaction) (k : ArKind) (is : read_kind x ≡ Some k) (resp : ℕ) (last : Bool) (word : ℕ) (a : IsAccepted h (R p i resp last word ∷ past))
    (o : outstanding h past p Read i ≡ Some x) where
  passes-taken : has_passed_data h past x ≡ true → takes_passed_data k ≡ true
  passes-taken has =
      let granted = (and_parts (is_granted h past x) _ (and_parts (is_granted h past x && is_some (passer h past x.addr)) (not (has_memory_write past x.port x.chan x.id)) has).0).0 in
      let stands = granted_at h past a.0 p Read i x o granted in
      let on = ((accepted_holds h past a.0).grants x.addr x stands).1 in
      let line = (and_parts (is_line x) (x.addr == x.addr) on).0 in
      let takes = (line_due h past p i resp last word a x o line).takes has in
      let kind = (and_parts (is_some_and (read_kind x) takes_passed_data) (are_passed_data_whole h past x) (and_parts (is_some_and (read_kind x) takes_passed_data && are_passed_data_whole h past x) (passes_dirty resp) takes).0).0 in
      ap (λ v. is_some_and v takes_passed_data) (sym is) ∙ kind

  says-now : may_say k resp ≡ true
  says-now =
      let bits = is_none_or-at (outstanding h past p Read i) (has_upper_bits h past resp) x (accepted_keeps h past (R p i resp last word) a).rule_19 o in
      let some_bits = implies (passes_dirty resp) (has_passed_data h past x) in
      let three = (and_parts (some_bits && is_none_or (read_kind x) (fits_kind h past x resp) && implies (passes_dirty resp || is_shared resp) (is_ace h x.port)) _ bits).0 in
      let two = (and_parts (some_bits && is_none_or (read_kind x) (fits_kind h past x resp)) _ three).0 in
      let both = and_parts some_bits (is_none_or (read_kind x) (fits_kind h past x resp)) two in
      let kind = is_none_or-at (read_kind x) (fits_kind h past x resp) k both.1 is in
      let shared = (and_parts (implies (is_shared resp) (may_be_shared k) && not (is_read_not_shared_dirty k && passes_dirty resp && is_shared resp)) (implies (must_be_shared h past x k) (is_shared resp)) kind).0 in
      and_from _ _ shared (implied (passes_dirty resp) (takes_passed_data k) (λ t. passes-taken (implies-at (passes_dirty resp) (has_passed_data h past x) both.0 t)))

  first-says : is_none_or (first_resp past p i) (may_say k) ≡ true → is_none_or (first_resp (R p i resp last word ∷ past) p i) (may_say k) ≡ true
  first-says before =
      elim (cases_Bool ((p == p) && (i == i) && (transfers past p i == 0))) [
        | inl t ↦ rw t says-now
        | inr f ↦ rw f before
      ]

-- So of an outstanding read.
pub told : (h : Header) (past : Trace) → IsAccepted h past → (p i : ℕ) (x : Transaction) (k : ArKind) → read_kind x ≡ Some k → outstanding h past p Read i ≡ Some x
    → is_none_or (first_resp past p i) (may_say k) ≡ true
told h [] a p i x k is o = cc
told h (e ∷ past) a p i x k is o =
    elim (outstanding-origin h past e p Read i x o) [
      | inl new ↦ ap (λ v. is_none_or v (may_say k)) (no-first (e ∷ past) p i (issue_transfers past e p i x new.0 new.1))
      | inr old ↦ elim (transfer_moves past e p i old.other) [
        | inl same ↦ ap (λ v. is_none_or v (may_say k)) same.first ∙ told h past a.0 p i x k is old.was
        | inr t ↦
            ap (λ d. is_none_or (first_resp (d ∷ past) p i) (may_say k)) t.is
            ∙ first-says h past p i x k is t.resp t.last t.word (subst (λ d. IsAccepted h (d ∷ past)) t.is a) old.was (told h past a.0 p i x k is old.was)
      ]
    ]

-- a read may be told nothing
told-nothing : (k : ArKind) → may_be_told k false false ≡ true
told-nothing read.ReadNotSharedDirty = refl
told-nothing k = refl

pub told-bits : (k : ArKind) (first : Option ℕ) → is_none_or first (may_say k) ≡ true → may_be_told k (is_some_and first is_shared) (is_some_and first passes_dirty) ≡ true
told-bits k None t = told-nothing k
told-bits k (Some resp) t = t
