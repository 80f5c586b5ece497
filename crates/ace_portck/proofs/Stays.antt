-- An event of another port, or of another kind, leaves the outstanding transactions of a port on a channel as they are.
use Rattle.ace_portck.proofs.Terms.{filter, Channel, Read, Write, Event, Ar, R, Rk, Aw, B, Wk, G, M, D, Header, Transaction, Trace, port_of, is_some_and, more, IsAccepted, transactions, is_ace, is_read, same_channel, has_name, read_kind, is_make_unique_on, is_transaction, issued, ended, next_complete, transaction_of, transaction_under, outstanding, is_outstanding, acknowledgements, completed, Progress, progress_of, Pending, PendingStands, is_pending, renewed, moves_channel, moves_pending}
use Rattle.std.proofs.Common.{◌≡◌, ℕ, Bool, true, false, not, ◌&&◌, nat_eq, if◌then◌else◌, [], ◌∷◌, ◌++◌, map, length, drop, Option, Some, None, refl, sym, ap, ◌∙◌, inl, inr, arith}
use Rattle.std.proofs.lemmas.Bool.{and_parts, and_cases}
use Rattle.std.proofs.Math.Bool.{and_comm}
use Rattle.std.proofs.lemmas.List.{append-nil}
use Rattle.std.proofs.lemmas.List.Elements.{filter-append}
use Rattle.ace_model.proofs.General.Options.{Some-injective}
use Rattle.ace_model.proofs.Trace.Looks.{Named}
use Rattle.ace_model.proofs.Trace.Issued.{outstanding-name, outstanding-named}
use Rattle.ace_model.proofs.Trace.Growth.{IsIssued}
use Rattle.ace_model.proofs.Trace.LineOnce.{outstanding_is}
use Rattle.ace_model.proofs.Outstanding.Issued.{transactions-issued}
use Rattle.ace_model.proofs.Outstanding.Lists.{IsSame, kept_same, all_implies}
use Rattle.ace_model.proofs.Outstanding.Names.{named_is}
use Rattle.ace_model.proofs.Outstanding.Only.{outstanding_at-is}
use Rattle.ace_model.proofs.Outstanding.Steps.{outstanding_after}
use Rattle.ace_portck.proofs.Renewed.{renewed_is}

read_channel : (c : Channel) → same_channel c Read ≡ is_read c
read_channel Read = refl
read_channel Write = refl

write_channel : (c : Channel) → same_channel c Write ≡ not (is_read c)
write_channel Read = refl
write_channel Write = refl

-- an event that names another port, or another channel
unnamed : (x : Transaction) (p q : ℕ) (c d : Channel) (i j : ℕ) → Named x p c i → (nat_eq p q && same_channel c d) ≡ false → has_name x q d j ≡ false
unnamed x p q c d i j at f = rw (at.port, at.chan, f) refl

no_store : (x : Transaction) (p q addr : ℕ) (c : Channel) (i : ℕ) (b : Bool) → Named x p c i → (nat_eq p q && same_channel c Read) ≡ false
    → ((nat_eq x.port q && is_make_unique_on x addr) && b) ≡ false
no_store x p q addr c i b at f =
    elim (and_cases (nat_eq p q) (same_channel c Read) f) [
      | inl off ↦ rw (at.port, off) refl
      | inr write ↦
          let none : read_kind x ≡ None = rw (at.chan, sym (read_channel c) ∙ write) refl in
          rw none (nothing (nat_eq x.port q))
    ]
  where
    nothing : (m : Bool) → ((m && false) && b) ≡ false
    nothing true = refl
    nothing false = refl

-- of the same port and channel, turned round
turn : (q p : ℕ) → nat_eq q p ≡ nat_eq p q
turn q p = grind arith

swapped : (p q : ℕ) (c d : Channel) (b : Bool) → same_channel c d ≡ b → (nat_eq p q && same_channel c d) ≡ false → (b && nat_eq p q) ≡ false
swapped p q c d b is f = and_comm b (nat_eq p q) ∙ ap (λ v. nat_eq p q && v) (sym is) ∙ f

renewed_stays : (e : Event) (v : Progress) (p : ℕ) (c : Channel) (i : ℕ) → Named v.transaction p c i → moves_pending e p c ≡ false → renewed e v ≡ v
renewed_stays (R q j resp last word) v p c i at f = rw (unnamed v.transaction p q c Read i j at f) refl
renewed_stays (B q j resp) v p c i at f = rw (unnamed v.transaction p q c Write i j at f) refl
renewed_stays (G q d j) v p c i at f = rw (unnamed v.transaction p q c d i j at f) refl
renewed_stays (M q d j line) v p c i at f = rw (unnamed v.transaction p q c d i j at f) refl
renewed_stays (D q addr strobe b line) v p c i at f = rw (no_store v.transaction p q addr c i v.complete at f) refl
renewed_stays _ v p c i at f = refl

module _ (h : Header) (past : Trace) (x : Transaction) (p : ℕ) (c : Channel) (out : outstanding h past p c x.id ≡ Some x) where
  other : (q : ℕ) (d : Channel) (o : Option ℕ) → (nat_eq p q && same_channel c d) ≡ false → is_transaction (transaction_under past q d o) x ≡ false
  other q d None f = refl
  other q d (Some j) f =
      named_is past p q c d x.id j x (outstanding-named h past p c x.id x out) ∙ unnamed x p q c d x.id j (outstanding-name h past p c x.id x out) f

  either : (b : Bool) (o u : Option Transaction) → is_transaction o x ≡ false → is_transaction u x ≡ false → is_transaction (if b then o else u) x ≡ false
  either true o u fo fu = fo
  either false o u fo fu = fu

  lasts : (e : Event) → moves_pending e p c ≡ false → is_transaction (ended h past e) x ≡ false
  lasts (Rk q st) f = other q Read (next_complete past q Read) f
  lasts (Wk q st) f = other q Write (next_complete past q Write) f
  lasts (R q j resp last word) f = either (last && not (is_ace h q)) (transaction_of past q Read j) None (other q Read (Some j) f) refl
  lasts (B q j resp) f = either (is_ace h q) None (transaction_of past q Write j) refl (other q Write (Some j) f)
  lasts _ f = refl

turned : (p q : ℕ) (c d : Channel) → (nat_eq p q && same_channel c d) ≡ false → (nat_eq q p && same_channel d c) ≡ false
turned p q c Read f = ap (λ b. b && is_read c) (turn q p) ∙ sym (ap (λ b. nat_eq p q && b) (read_channel c)) ∙ f
turned p q c Write f = ap (λ b. b && not (is_read c)) (turn q p) ∙ sym (ap (λ b. nat_eq p q && b) (write_channel c)) ∙ f

no_new : (n : ℕ) (e : Event) (p : ℕ) (c : Channel) (y : Transaction) → moves_pending e p c ≡ false → issued n e ≡ Some y → (nat_eq y.port p && same_channel y.chan c) ≡ false
no_new n (Ar q j addr snoop dom bar lock) p c y f new = rw (← Some-injective _ y new) (turned p q c Read f)
no_new n (Aw q j addr snoop dom bar) p c y f new = rw (← Some-injective _ y new) (turned p q c Write f)
no_new n e p c y f new = cc

acknowledgements_stay : (past : Trace) (e : Event) (p : ℕ) (c : Channel) → moves_pending e p c ≡ false → acknowledgements (e ∷ past) p c ≡ acknowledgements past p c
acknowledgements_stay past (Rk q st) p c f = rw (swapped p q c Read (is_read c) (read_channel c) f) refl
acknowledgements_stay past (Wk q st) p c f = rw (swapped p q c Write (not (is_read c)) (write_channel c) f) refl
acknowledgements_stay past _ p c f = refl

completed_stay : (past : Trace) (e : Event) (p : ℕ) (c : Channel) → moves_pending e p c ≡ false → completed (e ∷ past) p c ≡ completed past p c
completed_stay past (R q j resp last word) p c f = rw (swapped p q c Read (is_read c) (read_channel c) f) refl
completed_stay past (B q j resp) p c f = rw (swapped p q c Write (not (is_read c)) (write_channel c) f) refl
completed_stay past _ p c f = refl

module _ (h : Header) (past : Trace) (e : Event) (p : ℕ) (c : Channel) (accepted : IsAccepted h (e ∷ past)) (still : moves_pending e p c ≡ false) where
  old_stays : (x : Transaction) → IsIssued past x → IsSame (progress_of h past) (progress_of h (e ∷ past)) (is_pending h past p c) (is_pending h (e ∷ past) p c) x
  old_stays x i = record {
    kept =
        stay (nat_eq x.port p && same_channel x.chan c) (is_outstanding h past x) (is_transaction (ended h past e) x)
        (λ t. lasts h past x p c (outstanding_at-is h past p c x i t) e still)
        ∙ sym (ap (λ o. (nat_eq x.port p && same_channel x.chan c) && o) (outstanding_after h past e x accepted i));
    same = λ t.
        let out = outstanding_is h past x i (and_parts (nat_eq x.port p && same_channel x.chan c) (is_outstanding h past x) t).1 in
        let at = outstanding-name h past p c x.id x (outstanding_at-is h past p c x i t) in
        sym (renewed_is h past x out e accepted ∙ renewed_stays e (progress_of h past x) p c x.id at still);
  }
    where
      stay : (a o t : Bool) → ((a && o) ≡ true → t ≡ false) → (a && o) ≡ (a && (o && not t))
      stay true true t lasts = rw (lasts refl) refl
      stay true false t lasts = refl
      stay false o t lasts = refl

  new_out : (o : Option Transaction) → issued (length past) e ≡ o
      → filter (is_pending h (e ∷ past) p c) (transactions past) ≡ filter (is_pending h (e ∷ past) p c) (more (transactions past) o)
  new_out None new = refl
  new_out (Some y) new =
      let f = no_new (length past) e p c y still new in
      let none : filter (is_pending h (e ∷ past) p c) (transactions past) ++ filter (is_pending h (e ∷ past) p c) (y ∷ [])
      ≡ filter (is_pending h (e ∷ past) p c) (transactions past) = rw f (append-nil (filter (is_pending h (e ∷ past) p c) (transactions past))) in
      sym (filter-append (is_pending h (e ∷ past) p c) (transactions past) (y ∷ []) ∙ none)

  -- what is kept of them stands
  pub pending_elsewhere : (s : Pending) → PendingStands h past p c s → PendingStands h (e ∷ past) p c s
  pending_elsewhere s stands =
      let a = acknowledgements_stay past e p c still in
      let d = completed_stay past e p c still in
      record {
        lists = record {
          list_is =
              stands.lists.list_is
              ∙ kept_same (progress_of h past) (progress_of h (e ∷ past)) (is_pending h past p c) (is_pending h (e ∷ past) p c) (transactions past)
              (all_implies (IsIssued past) (IsSame (progress_of h past) (progress_of h (e ∷ past)) (is_pending h past p c) (is_pending h (e ∷ past) p c)) (transactions past) old_stays (transactions-issued past))
              ∙ ap (map (progress_of h (e ∷ past))) (new_out (issued (length past) e) refl);
          waiting_is = λ ace. stands.lists.waiting_is ace ∙ ap (λ l. drop (acknowledgements past p c) l) (sym d) ∙ ap (λ n. drop n (completed (e ∷ past) p c)) (sym a);
        };
        roomy = stands.roomy;
      }

pub pending_stays : (h : Header) (past : Trace) (e : Event) (p : ℕ) (c : Channel) (s : Pending) → IsAccepted h (e ∷ past) → moves_channel e c ≡ false
    → PendingStands h past p c s → PendingStands h (e ∷ past) p c s
pending_stays h past e p c s accepted still stands = pending_elsewhere h past e p c accepted (idle (is_some_and (port_of e) (λ q. nat_eq p q))) s stands
  where
    idle : (b : Bool) → (b && moves_channel e c) ≡ false
    idle true = still
    idle false = refl
