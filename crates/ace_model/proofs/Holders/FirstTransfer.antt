-- The first transfer of a read at an ACE port: what its snoops and its response say of the other ports.
use Rattle.std.proofs.Common.{◌≡◌, ◌≢◌, ◌⊎◌, ℕ, ◌<◌, true, false, not, ◌&&◌, ◌||◌, nat_eq, nat_lt, Option, Some, None, is_none, is_some, refl, sym, ap, ◌∙◌, inl, inr}
use Rattle.std.proofs.lemmas.Bool.{and_parts, or_left, or_right, cases_Bool, ne_eqb, ltb-true, not-true, not_from_false}
use Rattle.ace_model.proofs.Terms.{ArKind, SnoopKind, I, passes_dirty, is_shared, Header, snoop_of_read, is_invalid, is_unique, Answer, Transaction, Trace, implies, is_some_and, is_none_or, is_clean_unique}
use Rattle.ace_model.proofs.Terms.{is_read_not_shared_dirty, may_be_shared, takes_passed_data, is_ace, read_kind, write_kind, snoop_of, snoop_kind_of, is_exclusive_store, granted, is_granted, was_snooped}
use Rattle.ace_model.proofs.Terms.{answer_of, owes_answer, owes_data, list_all, ports_below, shares, passes, has_sharer, passer, has_passed_data, are_passed_data_whole, has_failed, state_of}
use Rattle.ace_model.proofs.Terms.{is_port_done, are_snoops_done, has_upper_bits, fits_kind, must_be_shared, takes_passed}
use Rattle.ace_model.proofs.Tables.States.{invalidates, is_invalid-is}
use Rattle.ace_model.proofs.Tables.ReadEnds.{takes_alone, takes_shared}
use Rattle.ace_model.proofs.Holders.Facts.{OthersInvalid, OthersNotUnique, AllSettled, OneHolder}
use Rattle.ace_model.proofs.General.Options.{some_is, is_some_and-is, is_none_or-at}
use Rattle.ace_model.proofs.General.Booleans.{implies-at, not_more}
use Rattle.ace_model.proofs.General.Ports.{each_at, none_at, found_passes}
use Rattle.ace_model.proofs.Tables.ReadSnoops.{takes_alone_is, failed_takes_none, takes_shared_is, shared_not_clean_unique}

module _ (h : Header) (past : Trace) where
  -- An answer of the port under the grant of the line.
  pub record Answered (r l : ℕ) : Type 0 where
    pub low : r < h.ports
    pub answer : Answer
    pub is : answer_of past r l ≡ Some answer

  -- under the grant, once its snoops are done, another port holds nothing of the line or has answered
  pub done_port : (x : Transaction) (r : ℕ) → OneHolder h past → list_all (is_port_done h past x) (ports_below h.ports) ≡ true → x.port ≢ r
      → (state_of h past r x.addr ≡ I) ⊎ Answered r x.addr
  done_port x r f all ne =
      elim (cases_Bool (is_ace h r)) [
        | inr lite ↦ inl (f.outside r x.addr lite)
        | inl ace ↦
            let low : r < h.ports = ltb-true r h.ports (and_parts (nat_lt r h.ports) _ ace).0 in
            let here = each_at h.ports (is_port_done h past x) r all low in
            let parts = and_parts (not (owes_answer past r x.addr) && not (owes_data past r x.addr)) _ here in
            let owes_none = not-true (owes_answer past r x.addr) (and_parts (not (owes_answer past r x.addr)) _ parts.0).0 in
            let other : nat_eq r x.port ≡ false = ne_eqb r x.port (λ e. ne (sym e)) in
            elim (cases_Bool (is_invalid (state_of h past r x.addr))) [
              | inl none ↦ inl (is_invalid-is (state_of h past r x.addr) none)
              | inr held ↦
                  let snooped : was_snooped past r x.addr ≡ true = rw (other, ace, held) at parts.1 in
                  let a = has_answered (answer_of past r x.addr) (rw snooped at owes_none) in
                  inr (record { low = low; answer = a.0; is = a.1 })
            ]
      ]
    where
      has_answered : (o : Option Answer) → is_none o ≡ false → (a : Answer) × (o ≡ Some a)
      has_answered None e = cc
      has_answered (Some a) e = (a, refl)

  module _ (x : Transaction) (k : ArKind) (resp : ℕ) where
    -- What K19 says of the response to a read of this kind.
    pub record UpperBits : Type 0 where
      pub passed : passes_dirty resp ≡ true → has_passed_data h past x ≡ true
      pub shared : implies (must_be_shared h past x k) (is_shared resp) ≡ true

    pub upper_bits : read_kind x ≡ Some k → has_upper_bits h past resp x ≡ true → UpperBits
    upper_bits kind bits =
        let pass = implies (passes_dirty resp) (has_passed_data h past x) in
        let fits = is_none_or (read_kind x) (fits_kind h past x resp) in
        let share = implies (passes_dirty resp || is_shared resp) (is_ace h x.port) in
        let two = and_parts pass fits (and_parts (pass && fits) share (and_parts (pass && fits && share) _ bits).0).0 in
        let early = implies (is_shared resp) (may_be_shared k) && not ((is_read_not_shared_dirty k && passes_dirty resp) && is_shared resp) in
        record {
          passed = implies-at (passes_dirty resp) (has_passed_data h past x) two.0;
          shared = (and_parts early _ (is_none_or-at (read_kind x) (fits_kind h past x resp) k two.1 kind)).1;
        }

    -- What the rules say of the first transfer of a read at an ACE port.
    pub record IsFirst : Type 0 where
      pub ace : is_ace h x.port ≡ true
      pub kind : read_kind x ≡ Some k
      pub stands : granted h past x.addr ≡ Some x
      pub done : are_snoops_done h past x ≡ true
      pub takes : has_passed_data h past x ≡ true → takes_passed h past x resp ≡ true
      pub bits : UpperBits

    module _ (f : OneHolder h past) (d : IsFirst) where
      -- the snoop that the kind causes is the transaction's
      causes : (s : SnoopKind) → snoop_of_read k ≡ Some s → snoop_of x ≡ Some s
      causes s is = ap (λ o. snoop_kind_of o (write_kind x)) d.kind ∙ is

      -- the snoops of a kind that causes one are done at each port, unless the read is an exclusive store that failed
      done_ports : (s : SnoopKind) → snoop_of_read k ≡ Some s → (is_clean_unique k ≡ true → has_failed past x ≡ true → ⊥)
          → list_all (is_port_done h past x) (ports_below h.ports) ≡ true
      done_ports s is passed =
          elim (cases_Bool (has_failed past x)) [
            | inr fine ↦ rw (causes s is, fine) at d.done
            | inl failed ↦
                let store = (and_parts (is_exclusive_store x) _ failed).0 in
                absurd (passed (rw d.kind at (and_parts x.lock _ store).1) failed)
          ]

      -- where the response doesn't say IsShared, no answer does
      no_sharer : (r : ℕ) (a : Answer) → is_shared resp ≡ false → may_be_shared k ≡ true → r < h.ports → answer_of past r x.addr ≡ Some a
          → is_shared a.resp ≡ false
      no_sharer r a unshared may low is =
          let none : ((is_ace h x.port && may_be_shared k) && has_sharer h past x.addr) ≡ false =
          not_more (must_be_shared h past x k) (is_shared resp) d.bits.shared unshared in
          let ace = d.ace in
          let sharer : has_sharer h past x.addr ≡ false = rw (ace, may) at none in
          let port : is_some_and (answer_of past r x.addr) (λ v. is_shared v.resp) ≡ false = none_at h.ports (shares past x.addr) r sharer low in
          rw is at port

      -- so a read that takes the line alone finds the others with nothing
      pub first_alone : takes_alone k (is_shared resp) (has_failed past x) ≡ true → OthersInvalid h past x.port x.addr
      first_alone t r ne =
          let taken = takes_alone_is k (is_shared resp) (has_failed past x) t in
          elim (done_port x r f (done_ports taken.caused taken.is_caused (failed_takes_none k (is_shared resp) (has_failed past x) t)) ne) [
            | inl gone ↦ gone
            | inr a ↦
                let leaves = f.answers x.addr r x a.answer taken.caused d.stands a.is (causes taken.caused taken.is_caused) in
                leaves.gone (elim taken.how [
                  | inl all_gone ↦ or_right (not (is_shared a.answer.resp)) (invalidates taken.caused) all_gone
                  | inr unshared ↦
                      let kept = no_sharer r a.answer unshared.0 unshared.1 a.low a.is in
                      or_left (not (is_shared a.answer.resp)) (invalidates taken.caused) (not_from_false (is_shared a.answer.resp) kept)
                ])
          ]

      -- one that takes it to share finds none of them alone
      pub first_beside : takes_shared k ≡ true → OthersNotUnique h past x.port x.addr
      first_beside t r ne =
          let taken = takes_shared_is k t in
          elim (done_port x r f (done_ports taken.0 taken.1 (λ clean failed. shared_not_clean_unique k t clean)) ne) [
            | inl gone ↦ ap is_unique gone
            | inr a ↦ (f.answers x.addr r x a.answer taken.0 d.stands a.is (causes taken.0 taken.1)).not_unique taken.2
          ]

      -- and where it takes dirt, none is left
      pub first_dirty : passes_dirty resp ≡ true → AllSettled h past x.addr
      first_dirty t =
          let handed = d.bits.passed t in
          let takes = (and_parts (is_some_and (read_kind x) takes_passed_data) (are_passed_data_whole h past x)
          (and_parts (is_some_and (read_kind x) takes_passed_data && are_passed_data_whole h past x) _ (d.takes handed)).0).0 in
          let there = (and_parts (is_granted h past x) (is_some (passer h past x.addr)) (and_parts (is_granted h past x && is_some (passer h past x.addr)) _ handed).0).1 in
          let r = some_is (passer h past x.addr) there in
          let a = is_some_and-is (answer_of past r.0 x.addr) (λ v. passes_dirty v.resp) (found_passes h.ports (passes past x.addr) r.0 r.1) in
          f.passed x.addr r.0 x a.0 d.stands takes a.1 a.2
