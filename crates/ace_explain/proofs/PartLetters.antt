-- The clauses of K9 that are named of parts of DVM messages and of DVM Completes.
use Rattle.std.proofs.Common.{◌≡◌, true, false, ◌==◌, length, Option, Some, None, refl, inl, inr}
use Rattle.std.proofs.lemmas.Bool.{cases_Bool}
use Rattle.ace_codes.specs.declared.kind.ArKind.{ArKind}
use Rattle.ace_codes.specs.declared.kind.ArKind.TheVariants.{DvmMessage}
use Rattle.ace_event.specs.declared.event.Event.{Event}
use Rattle.ace_model.specs.declared.transactions.Transaction.{Transaction}
use Rattle.ace_model.specs.Trace.{implies}
use Rattle.ace_model.specs.AddressRules.{is_part_in_order}
use Rattle.ace_model.specs.Barriers.{is_barrier_half}
use Rattle.ace_model.specs.Messages.{is_message_part, is_message_word, is_dvm_completion, first_waiting}
use Rattle.ace_model.specs.Transactions.{is_read, issued, read_kind, write_kind}
use Rattle.ace_portck.specs.Targets.{Recording}
use Rattle.ace_clauses.specs.AddressClauses.{is_after_sync}
use Rattle.ace_clauses.specs.declared.letters.Letter.TheVariants as letter
use Rattle.ace_explain.specs.Names.{Names}
use Rattle.ace_explain.proofs.Broken.{has_clause, last_one, none_broken}

-- a part of a message is no half of a barrier and no completion
part_is_no_other : (x : Transaction) → is_message_part x ≡ true → (is_barrier_half x ≡ false) × (is_dvm_completion x ≡ false)
part_is_no_other x part = by (read_kind x) refl
  where
    writes_none : (k : ArKind) → read_kind x ≡ Some k → write_kind x ≡ None
    writes_none k is =
        elim (cases_Bool (is_read x.chan)) [
          | inl t ↦ rw t refl
          | inr f ↦ let bad : None ≡ Some k = rw f at is in cc
        ]

    by : (o : Option ArKind) → read_kind x ≡ o → (is_barrier_half x ≡ false) × (is_dvm_completion x ≡ false)
    by None is = let bad : false ≡ true = rw is at part in cc
    by (Some DvmMessage) is = let none = writes_none DvmMessage is in (rw (is, none) refl, rw is refl)
    by (Some _) is = let bad : false ≡ true = rw is at part in cc

module _ (r : Recording) (e : Event) where
  -- of an event that issues nothing
  pub issues_none : issued (length r.past) e ≡ None → Names r e 9 letter.A
  issues_none none least = none_broken (rw none at (has_clause r.header r.past e 9 least))

  module _ (x : Transaction) (is : issued (length r.past) e ≡ Some x) where
    module _ (part : is_message_part x ≡ true) where
      pub unlike_first : (first : Transaction) → first_waiting r.past x.port ≡ Some first → Names r e 9 letter.G
      unlike_first first waits least =
          let other = part_is_no_other x part in
          rw (is, other.0, other.1, part, waits)
          (last_one (is_part_in_order r.past x (Some first)) letter.G (rw (is, other.0, other.1, part, waits) at (has_clause r.header r.past e 9 least)))

      module _ (none : first_waiting r.past x.port ≡ None) where
        pub no_word : is_message_word x.addr ≡ false → Names r e 9 letter.E
        no_word word least = let other = part_is_no_other x part in rw (is, other.0, part, none, word) refl

        pub early_sync : is_message_word x.addr ≡ true → Names r e 9 letter.F
        early_sync word least =
            let other = part_is_no_other x part in
            rw (is, other.0, other.1, part, none, word)
            (last_one (is_after_sync r.past x) letter.F (rw (is, other.0, other.1, part, none, word) at (has_clause r.header r.past e 9 least)))

    pub of_completion : is_barrier_half x ≡ false → is_message_part x ≡ false → Names r e 9 letter.H
    of_completion half part least =
        rw (is, half, part)
        (last_one (implies (is_dvm_completion x) (x.addr == 0)) letter.H (rw (is, half, part) at (has_clause r.header r.past e 9 least)))
