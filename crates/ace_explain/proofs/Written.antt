-- What is written of a write with data: its burst is whole, and what is granted has data.
use Rattle.std.proofs.Common.{◌≡◌, ℕ, Bool, true, false, not, ◌&&◌, ◌||◌, ◌==◌, if◌then◌else◌, [], ◌∷◌, length, Option, Some, None, is_some, option_and_then, refl, sym, ap, ◌∙◌, inl, inr}
use Rattle.std.proofs.lemmas.Bool.{and_right}
use Rattle.ace_model.specs.declared.transactions.Transaction.{Transaction}
use Rattle.ace_model.proofs.Terms.{Channel, Header, Trace, IsAccepted, has_write_data, is_some_and, is_read, read_kind, write_kind, outstanding, granted, is_granted, has_memory_write, is_burst_whole, has_failed, is_clean_unique, is_exclusive_store}
use Rattle.ace_model.specs.Exclusives.{passed_at_grant}
use Rattle.ace_model.proofs.Tables.Kinds.{granted_data}
use Rattle.ace_model.proofs.Trace.Growth.{named-issued}
use Rattle.ace_model.proofs.Trace.Issued.{outstanding-name, outstanding-named, outstanding-origin}
use Rattle.ace_model.proofs.Trace.Looks.{at_name}
use Rattle.ace_portck.specs.Targets.{data_in, data_of_write}
use Rattle.ace_portck.specs.declared.target.WriteData.{WriteData}
use Rattle.ace_event.specs.declared.event.Event.TheVariants.{M}
use Rattle.ace_event.specs.declared.line.Line.{Line}
use Rattle.ace_model.proofs.Grants.Granted.{data_may, granted_at, granted_given, granted_write, new_unwritten, written_cases}
use Rattle.ace_portck.proofs.WriteLaws.{whole_stays}

module _ (h : Header) where
  pub written_whole : (past : Trace) → IsAccepted h past → (p : ℕ) (c : Channel) (i : ℕ) (x : Transaction) → outstanding h past p c i ≡ Some x
      → is_read x.chan ≡ false → has_memory_write past p c i ≡ true → is_burst_whole past x ≡ true
  written_whole [] a p c i x o writes m = cc
  written_whole (e ∷ past) a p c i x o writes m =
      elim (outstanding-origin h past e p c i x o) [
        | inl new ↦ absurd (new_unwritten past e x p c i new.0 new.1 m)
        | inr old ↦
            let was = old.was in
            let before : is_burst_whole past x ≡ true = elim (written_cases h past e a p c i x was m) [
              | inl now ↦ (data_may h past x now.may writes).whole
              | inr earlier ↦ written_whole past a.0 p c i x was writes earlier
            ] in
            let stays = whole_stays past e x (named-issued past p c i x (outstanding-named h past p c i x was)) before in
            ap (λ b. length b == 4) stays ∙ before
      ]

  module _ (past : Trace) (a : IsAccepted h past) (p : ℕ) (c : Channel) (i : ℕ) (x : Transaction) (o : outstanding h past p c i ≡ Some x) (writes : is_read x.chan ≡ false) where
    -- a write without data isn't granted
    pub granted_sends : is_granted h past x ≡ true → is_some_and (write_kind x) has_write_data ≡ true
    granted_sends g =
        let stands = granted_at h past a p c i x o g in
        let k = granted_write x (granted_given h past a x.addr x stands).kind writes in
        ap (λ v. is_some_and v has_write_data) k.1 ∙ granted_data k.0 k.2

    -- what has had its M has a whole burst
    pub whole-written : has_memory_write past x.port x.chan x.id ≡ true → is_burst_whole past x ≡ true
    whole-written m = written_whole past a p c i x o writes (sym (at_name (has_memory_write past) x p c i (outstanding-name h past p c i x o)) ∙ m)

-- the burst of a write with data that has had no M is told where it is whole
module _ (h : Header) (past : Trace) (p : ℕ) (c : Channel) (i : ℕ) (x : Transaction) (o : outstanding h past p c i ≡ Some x) where
  pub burst-whole : is_some_and (write_kind x) has_write_data ≡ true → has_memory_write past x.port x.chan x.id ≡ false → (line : Line) (burst : Option WriteData)
      → burst ≡ data_in h past (M x.port x.chan x.id line) → is_some burst ≡ is_burst_whole past x
  burst-whole sends first line burst is =
      let here : outstanding h past x.port x.chan x.id ≡ Some x = at_name (outstanding h past) x p c i (outstanding-name h past p c i x o) ∙ o in
      ap is_some is ∙ ap (λ v. is_some (option_and_then (data_of_write past) v)) here
      ∙ some-if (is_some_and (write_kind x) has_write_data && is_burst_whole past x && not (has_memory_write past x.port x.chan x.id)) _
      ∙ only (is_some_and (write_kind x) has_write_data) (is_burst_whole past x) (has_memory_write past x.port x.chan x.id) sends first
    where
      some-if : (b : Bool) (v : WriteData) → is_some (if b then Some v else None) ≡ b
      some-if true v = refl
      some-if false v = refl

      only : (sent whole written : Bool) → sent ≡ true → written ≡ false → (sent && whole && not written) ≡ whole
      only true true false d w = refl
      only true false false d w = refl
      only true whole true d w = cc
      only false whole written d w = cc

-- no write is an exclusive store that failed
pub write_unfailed : (past : Trace) (x : Transaction) → is_read x.chan ≡ false → false ≡ has_failed past x
write_unfailed past x writes =
    let read : read_kind x ≡ None = rw writes refl in
    let none : is_exclusive_store x ≡ false = ap (λ o. x.lock && is_some_and o is_clean_unique) read ∙ and_right x.lock false refl in
    sym (ap (λ b. b && is_some_and (passed_at_grant past x.port x.id) not) none)

pub granted_other : (updates granted : Bool) → updates ≡ false → (updates || granted) ≡ true → granted ≡ true
granted_other true granted other given = cc
granted_other false granted other given = given
