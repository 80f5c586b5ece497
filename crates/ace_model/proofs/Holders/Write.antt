-- B and WK: a write is answered, and ends. A write is no read, and by its end its port holds no more than before.
use Rattle.std.proofs.Common.{◌≡◌, ◌≤◌, ℕ, ◌&&◌, nat_eq, ◌∷◌, Option, Some, true, false, slice_get, refl, sym, ap, ◌∙◌, inl, inr}
use Rattle.std.proofs.lemmas.Bool.{and_parts, or_cases, eqb-true}
use Rattle.ace_model.proofs.Terms.{AwKind, LineState, Header, Read, Write, B, Wk, ends_write, Transaction, Trace, is_some_and, is_line_read, is_line_write, is_ace, is_read, read_kind, write_kind}
use Rattle.ace_model.proofs.Terms.{is_line, is_on, is_some_on, transaction_of, acknowledged, acknowledgements, completed, ended, outstanding, without, state_of, held_of, k28, ends_write_well}
use Rattle.ace_model.proofs.Trace.Looks.{has_name-is, without-other}
use Rattle.ace_model.proofs.Trace.Issued.{outstanding-named, transaction_of-stands}
use Rattle.ace_model.proofs.Trace.Outstanding.{write_apart, acknowledged_is, ends_lite_write}
use Rattle.ace_model.proofs.Tables.States.{Lessens-self, write_lessens}
use Rattle.ace_model.proofs.Tables.Less.{Less, less_where, less-lessens, less-clean}
use Rattle.ace_model.proofs.General.Options.{is_some_and-is, is_none_or-at}
use Rattle.ace_model.proofs.Holders.Facts.{OneHolder}
use Rattle.ace_model.proofs.Holders.Kept.{LessenedAt, standing, arrive_kept, held_kept, one_dirty_kept}
use Rattle.ace_model.proofs.Trace.Transfers.{IsFull}

-- a write of a line has a kind
line_write : (y : Transaction) → y.chan ≡ Write → is_line y ≡ true → (k : AwKind) × (write_kind y ≡ Some k)
line_write y chan line =
    elim (or_cases (is_some_and (read_kind y) is_line_read) (is_some_and (write_kind y) is_line_write) line) [
      | inl reads ↦ let bad : false ≡ true = rw (ap is_read chan) at reads in cc
      | inr writes ↦ let k = is_some_and-is (write_kind y) is_line_write writes in (k.0, k.1)
    ]

module _ (h : Header) (past : Trace) (q : ℕ) where
  pub less_wk : (st : LineState) → k28 h past (Wk q st) ≡ true → (r l : ℕ) → Less (state_of h past r l) (state_of h (Wk q st ∷ past) r l)
  less_wk st k r l =
      less_where (nat_eq r q && is_some_on (acknowledged past r Write) l) (state_of h past r l) st (λ t.
      let parts = and_parts (nat_eq r q) _ t in
      let port = eqb-true r q parts.0 in
      let y = is_some_and-is (acknowledged past r Write) (λ x. is_on x l) parts.1 in
      let on = and_parts (is_line y.0) _ y.2 in
      let next = acknowledged_is past r Write y.0 y.1 in
      let name = has_name-is y.0 r Write next.id (transaction_of-stands past r Write next.id y.0 next.named).named in
      let kind = line_write y.0 name.chan on.0 in
      let well = is_none_or-at (acknowledged past q Write) (ends_write_well h past st) y.0 k (ap (λ a. acknowledged past a Write) (sym port) ∙ y.1) in
      let by = is_none_or-at (write_kind y.0) (λ c. ends_write c (held_of h past y.0) st) kind.0 well kind.1 in
      rw (on.0, name.port, eqb-true y.0.addr l on.1) at (write_lessens kind.0 (held_of h past y.0) st by))

  module _ (f : OneHolder h past) where
    -- the end of a write leaves the reads that wait
    waits_still : (y : Option Transaction) → ((z : Transaction) → y ≡ Some z → (j : ℕ) × (transaction_of past q Write j ≡ Some z))
        → (p n i : ℕ) → is_ace h p ≡ true → acknowledgements past p Read ≤ n → slice_get (completed past p Read) n ≡ Some i
        → (x : Transaction) × (without y (outstanding h past p Read i) ≡ Some x) × IsFull past p i x
    waits_still y writes p n i ace low e =
        let s = f.queue p n i ace low e in (
          s.0,
          without-other y (outstanding h past p Read i) s.0 s.1 (λ z is.
              write_apart past p q i (writes z is).0 s.0 z (outstanding-named h past p Read i s.0 s.1) (writes z is).1),
          s.2,
        )

    pub keeps_b : (j resp : ℕ) → OneHolder h (B q j resp ∷ past)
    keeps_b j resp = assumption (
      f,
      standing h past (B q j resp) f refl (λ l x g r. Lessens-self (state_of h past r l)),
      arrive_kept h past (B q j resp) f refl (λ l x g r. Lessens-self (state_of h past r l)) (λ p i. refl) (λ p i. refl),
      waits_still (ended h past (B q j resp)) (λ z is. (j, (ends_lite_write h past q j resp z is).1)),
    )

    pub keeps_wk : (st : LineState) → k28 h past (Wk q st) ≡ true → OneHolder h (Wk q st ∷ past)
    keeps_wk st k =
        let less : (l : ℕ) → LessenedAt h past (Wk q st) l = λ l r. less-lessens _ _ (less_wk st k r l) in
        assumption (
          f,
          standing h past (Wk q st) f refl (λ l x g. less l),
          arrive_kept h past (Wk q st) f refl (λ l x g. less l) (λ p i. refl) (λ p i. refl),
          waits_still (acknowledged past q Write) (λ z is. let next = acknowledged_is past q Write z is in (next.id, next.named)),
          held_kept h past (Wk q st) less f,
          one_dirty_kept h past (Wk q st) (λ r l. less-clean _ _ (less_wk st k r l)) f.one_dirty,
        )
