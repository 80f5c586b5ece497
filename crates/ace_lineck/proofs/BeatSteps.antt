-- What a transfer of a line read leaves of what is kept of its line.
use Rattle.std.proofs.Common.{◌≡◌, ◌⊎◌, ◌<◌, ◌-◌, ◌^◌, ℕ, true, false, Bool, not, ◌&&◌, List, ◌∷◌, length, Option, Some, None, option_map, option_and_then, slice_set, slice_get, unwrap_or, refl, sym, ap, subst, ◌∙◌, inl, inr}
use Rattle.std.proofs.lemmas.Bool.{and_parts, cases_eq, eq-eqb, ne_eqb}
use Rattle.ace_lineck.proofs.Terms.{ArKind, Line, Transaction, least_broken, received, is_line_read, read_kind, Header, Trace, R, Read, newer, is_ace, is_line, is_transaction, ended, outstanding, granted, copy_of, Recording, line_in, progress_of, target_of, Progress, Target, LineCheck, Holder, LineRecord, Grant, GrantFits, GrantStands, IsGrantStep, is_of, HoldersStand, IsHoldersStep, IsLineStep, IsRecordStep, has_three, Stands, MayApply, place_on}
use Rattle.ace_model.proofs.General.Options.{Some-injective}
use Rattle.ace_model.proofs.Trace.Issued.{outstanding-name}
use Rattle.ace_model.proofs.Trace.Looks.{is_on-addr}
use Rattle.ace_model.proofs.Grants.Begins.{may_of, line_due}
use Rattle.ace_model.proofs.Grants.Granted.{granted_at}
use Rattle.ace_lineck.proofs.OnLine.{on-transaction}
use Rattle.ace_lineck.proofs.GrantHear.{beat_heard, ends_heard, over_heard}
use Rattle.ace_lineck.proofs.HolderSteps.{holders-hear, holder-step}
use Rattle.ace_lineck.proofs.Received.{received-some, received-none}
use Rattle.ace_lineck.proofs.BeatLaws.{beat-line}
use Rattle.ace_lineck.proofs.Heard.{may-hear}

module _ (h : Header) (past : Trace) (l p i resp : ℕ) (last : Bool) (word : ℕ) (t : Target) where
  -- the read whose transfer the event is has the grant of its line
  granted-is : IsLineStep h past l (R p i resp last word) t → (g : Grant) → GrantFits h past l g → is_of t.transaction g.transaction ≡ true
  granted-is s g f =
      let m = may_of h past p i resp last word s.accepted in
      let line : line_in h past (R p i resp last word) ≡ Some l = ap (λ (v : Target). v.line) (sym s.target) ∙ s.line in
      let out = m.out in
      let on = rw out at (on-transaction h past (outstanding h past p Read i) l line) in
      let due = line_due h past p i resp last word s.accepted m.one m.out (and_parts (is_line m.one) _ on).0 in
      let stands : granted h past l ≡ Some m.one = ap (granted h past) (sym (is_on-addr m.one l on)) ∙ granted_at h past s.accepted.0 p Read i m.one m.out due.stands in
      let one : m.one ≡ g.transaction = Some-injective m.one g.transaction (sym stands ∙ f.granted) in
      ap (λ (v : Target). is_of v.transaction g.transaction) s.target ∙ ap (λ o. is_of (option_map (progress_of h past) o) g.transaction) out
      ∙ eq-eqb m.one.place g.transaction.place (ap (λ (v : Transaction). v.place) one)

  and-true : (b : Bool) → (b && true) ≡ b
  and-true true = refl
  and-true false = refl

  -- it ends with the transfer, where that is the last one of an ACE-Lite port
  ends-last : (g : Grant) (xs : List Holder) (memory : Line) → IsGrantStep h past l (R p i resp last word) t (Some g) xs memory
      → is_transaction (ended h past (R p i resp last word)) g.transaction ≡ (last && not (is_ace h p))
  ends-last g xs memory s =
      sym (ends_heard h past l t g xs memory (R p i resp last word) s.step) ∙ ap (λ b. (last && not (is_ace h p)) && b) (granted-is s.step g s.grant) ∙ and-true (last && not (is_ace h p))

  pub over : (g : Grant) (xs : List Holder) (memory : Line) → IsGrantStep h past l (R p i resp last word) t (Some g) xs memory → (last && not (is_ace h p)) ≡ true
      → GrantStands h (R p i resp last word ∷ past) l None
  over g xs memory s ends = over_heard h past l (R p i resp last word) g s.grant refl (ends-last g xs memory s ∙ ends)

  pub goes-on : (g y : Grant) (xs : List Holder) (memory : Line) → IsGrantStep h past l (R p i resp last word) t (Some g) xs memory → (last && not (is_ace h p)) ≡ false
      → y ≡ record g { begun = true; reply = newer g.reply (Some memory) } → GrantStands h (R p i resp last word ∷ past) l (Some y)
  goes-on g y xs memory s ends is =
      subst (GrantFits h (R p i resp last word ∷ past) l) (sym is)
      (beat_heard h past l t g xs memory p i resp last word s (ends-last g xs memory s ∙ ends))

  -- without the line whole, its port has what it had
  pub unreceived : (xs : List Holder) → IsHoldersStep h past l (R p i resp last word) t None xs → HoldersStand (R p i resp last word ∷ past) l xs
  unreceived xs s = record { copy = λ q. s.stand.copy q ∙ sym (same q (cases_eq q p)); sent = s.stand.sent }
    where
      none : (q : ℕ) → (q ≡ p) ⊎ (q ≡ p → ⊥) → received past (R p i resp last word) q l ≡ None
      none q (inl is) = ap (λ v. received past (R p i resp last word) v l) is ∙ sym (s.whole p refl)
      none q (inr other) = let apart = ne_eqb q p other in rw apart refl

      same : (q : ℕ) → (q ≡ p) ⊎ (q ≡ p → ⊥) → copy_of (R p i resp last word ∷ past) q l ≡ copy_of past q l
      same q c = ap (λ o. unwrap_or o (copy_of past q l)) (none q c)

  -- and with it, its copy is the line
  pub received-whole : (xs : List Holder) (line : Line) (x : Holder) → IsHoldersStep h past l (R p i resp last word) t (Some line) xs → slice_get xs p ≡ Some x → p < length xs
      → HoldersStand (R p i resp last word ∷ past) l (slice_set xs p (record x { copy = line }))
  received-whole xs line x s at low =
      let e = R p i resp last word in
      let step = holder-step h past l e t (Some line) xs p x s refl at in
      holders-hear h past l e t (Some line) xs p (record x { copy = line }) s refl low (record {
        copy = ap (λ o. unwrap_or o (copy_of past p l)) step.whole;
        sent = step.stands.sent;
      })

  module _ (x : Progress) (at : t.transaction ≡ Some x) where
    -- the transfer is that of a read of its port
    pub beat-port : IsLineStep h past l (R p i resp last word) t → x.transaction.port ≡ p
    beat-port s =
        let m = may_of h past p i resp last word s.accepted in
        let there : Some (progress_of h past m.one) ≡ Some x = ap (option_map (progress_of h past)) (sym m.out) ∙ ap (λ (v : Target). v.transaction) (sym s.target) ∙ at in
        ap (λ (v : Progress). v.transaction.port) (sym (Some-injective (progress_of h past m.one) x there)) ∙ (outstanding-name h past p Read i m.one m.out).port

    module _ (kept : LineRecord) (s : IsRecordStep h past l (R p i resp last word) t kept) where
      pub whole-some : (o : Option Line) → o ≡ option_and_then (λ (g : Grant). g.reply) kept.grant → ((v : Line) → o ≡ Some v → length v.words ≡ 4) → has_three (Some x) ≡ true
          → o ≡ received past (R p i resp last word) p l
      whole-some o is four three = received-some h past l p i resp last word t kept s (ap has_three at ∙ three) o is four

      pub whole-none : has_three (Some x) ≡ false → None ≡ received past (R p i resp last word) p l
      whole-none three = sym (received-none h past l p i resp last word t kept s (ap has_three at ∙ three))

-- the transfer may be taken
pub beat-may : (s : LineCheck) (r : Recording) (p i resp : ℕ) (last : Bool) (word : ℕ) (x : Progress) (k : ArKind) (place : Option ℕ) → Stands s r
    → option_map (progress_of r.header r.past) (outstanding r.header r.past p Read i) ≡ Some x → read_kind x.transaction ≡ Some k → is_line_read k ≡ true
    → place ≡ place_on s (Some x.transaction.addr)
    → least_broken r.header r.past (R p i resp last word) ≡ None → length r.past < 2 ^ 64 - 1
    → MayApply s r (R p i resp last word) (target_of r.header r.past (R p i resp last word)) place
beat-may s r p i resp last word x k place st out kind line at fine few = may-hear s r (R p i resp last word) place refl st (at ∙ ap (place_on s) (sym (beat-line r.header r.past p i resp last word x k out kind line))) fine few
