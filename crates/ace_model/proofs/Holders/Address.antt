-- AR and AW: a transaction is issued, under a name that nothing outstanding has.
use Rattle.std.proofs.Common.{◌≡◌, ℕ, Bool, true, false, ◌∷◌, Some, is_none, refl, inl, inr}
use Rattle.ace_model.proofs.Terms.{Header, Read, Ar, Aw, Transaction, Trace, is_on, outstanding, newest_named}
use Rattle.ace_model.proofs.Terms.{granted, state_of, k4}
use Rattle.ace_model.proofs.Trace.Looks.{has_name-is}
use Rattle.ace_model.proofs.Trace.Outstanding.{read_issued, write_issued, outstanding_new, outstanding_stays, failed_issued, other_name, named_read}
use Rattle.ace_model.proofs.Tables.States.{Lessens-self}
use Rattle.ace_model.proofs.Holders.Facts.{TransfersArrive, QueueStands, OneHolder}
use Rattle.ace_model.proofs.Holders.Kept.{arrives_kept}

module _ (h : Header) (past : Trace) (f : OneHolder h past) where
  grants_issued : (y : Transaction) → is_none (outstanding h past y.port y.chan y.id) ≡ true → (l : ℕ) (x : Transaction) → granted h past l ≡ Some x
      → (newest_named (Some y) x.port x.chan x.id (outstanding h past x.port x.chan x.id) ≡ Some x) × (is_on x l ≡ true)
  grants_issued y free l x g =
      let s = f.grants l x g in
      ((outstanding_stays h past y x.port x.chan x.id x free s.0).1, s.1)

  module _ (q j addr snoop dom bar : ℕ) where
    module _ (lock : Bool) where
      -- the new read has had no transfer, and the others are of other names
      arrive_ar : TransfersArrive h (Ar q j addr snoop dom bar lock ∷ past)
      arrive_ar p i x ace o line some =
          let y = read_issued past q j addr snoop dom bar lock in
          elim (outstanding_new h past y p Read i x o) [
            | inl new ↦ absurd (some (rw (named_read past q j addr snoop dom bar lock p i true new.1) refl))
            | inr old ↦
                let other = named_read past q j addr snoop dom bar lock p i false old.1 in
                let a = f.arrive p i x ace old.0 line (λ z. some (rw other z)) in
                arrives_kept h past (Ar q j addr snoop dom bar lock) p i x a.stands (rw other refl)
                (failed_issued past y x (other_name h past y p i x old.0 old.1)) (λ r. Lessens-self (state_of h past r x.addr)) a
          ]

      queue_ar : k4 h past (Ar q j addr snoop dom bar lock) ≡ true → QueueStands h (Ar q j addr snoop dom bar lock ∷ past)
      queue_ar k p n i ace low e =
          let s = f.queue p n i ace low e in
          let stays = outstanding_stays h past (read_issued past q j addr snoop dom bar lock) p Read i s.0 k s.1 in
          let other = named_read past q j addr snoop dom bar lock p i false stays.0 in
          (s.0, stays.1, rw other s.2)

      pub keeps_ar : k4 h past (Ar q j addr snoop dom bar lock) ≡ true → OneHolder h (Ar q j addr snoop dom bar lock ∷ past)
      keeps_ar k = assumption (f, grants_issued (read_issued past q j addr snoop dom bar lock) k, arrive_ar, queue_ar k)

    -- a write is no read
    arrive_aw : TransfersArrive h (Aw q j addr snoop dom bar ∷ past)
    arrive_aw p i x ace o line some =
        let y = write_issued past q j addr snoop dom bar in
        elim (outstanding_new h past y p Read i x o) [
          | inl new ↦ let chan = (has_name-is y p Read i new.1).chan in cc
          | inr old ↦
              let a = f.arrive p i x ace old.0 line some in
              arrives_kept h past (Aw q j addr snoop dom bar) p i x a.stands refl
              (failed_issued past y x (other_name h past y p i x old.0 old.1)) (λ r. Lessens-self (state_of h past r x.addr)) a
        ]

    queue_aw : k4 h past (Aw q j addr snoop dom bar) ≡ true → QueueStands h (Aw q j addr snoop dom bar ∷ past)
    queue_aw k p n i ace low e =
        let s = f.queue p n i ace low e in
        (s.0, (outstanding_stays h past (write_issued past q j addr snoop dom bar) p Read i s.0 k s.1).1, s.2)

    pub keeps_aw : k4 h past (Aw q j addr snoop dom bar) ≡ true → OneHolder h (Aw q j addr snoop dom bar ∷ past)
    keeps_aw k = assumption (f, grants_issued (write_issued past q j addr snoop dom bar) k, arrive_aw, queue_aw k)
