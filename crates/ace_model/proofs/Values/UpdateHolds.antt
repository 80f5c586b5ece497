-- While a memory update of a port is outstanding, the port holds the line, and holds it dirty for a WriteBack and WriteClean; for
-- a WriteEvict and an Evict the line stays clean.
use Rattle.std.proofs.Common.{◌≡◌, ◌≢◌, ℕ, Bool, true, false, not, if◌then◌else◌, ◌&&◌, nat_eq, [], ◌∷◌, length, Some, None, unwrap_or, refl, sym, ap, subst, ◌∙◌, inl, inr}
use Rattle.std.proofs.lemmas.Bool.{and_parts, and_from, not-true, eqb-true, eq-eqb}
use Rattle.ace_model.proofs.Terms.{AwKind, LineState, UD, Channel, Read, Write, Event, Rk, Wk, Cr, S, D, Header, is_silent_move, starts_read, starts_write, is_invalid, is_dirty, is_unique}
use Rattle.ace_model.proofs.Terms.{Transaction, Trace, is_some_and, is_none_or, is_update, is_line, is_on, is_some_on, issued, ended, read_kind, write_kind, outstanding, is_outstanding}
use Rattle.ace_model.proofs.Terms.{acknowledged, has_outstanding_on, updates_memory, is_update_on, has_update, answers_line, state_of, starts_well, IsAccepted}
use Rattle.ace_model.proofs.Trace.Looks.{has_name-is, is_on-addr}
use Rattle.ace_model.proofs.Trace.Issued.{outstanding-named, transaction_of-stands, outstanding-name, outstanding-origin}
use Rattle.ace_model.proofs.Trace.Growth.{some_issued-found}
use Rattle.ace_model.proofs.Rules.Keeps.{accepted_keeps}
use Rattle.ace_model.proofs.Holders.Stores.{is_named_by_d}
use Rattle.ace_model.proofs.Trace.LineOnce.{outstanding_found, one_on_line}
use Rattle.ace_model.proofs.Trace.Outstanding.{outstanding_own}
use Rattle.ace_model.proofs.Holders.Rises.{dirty_moves, issue_leaves}
use Rattle.ace_model.proofs.Holders.Acknowledge.{is_named_by_rk}
use Rattle.ace_model.proofs.Tables.Kinds.{is_dirty_update, is_clean_write, update_starts, dirty_starts, clean_starts}
use Rattle.ace_model.proofs.Tables.SnoopRows.{beside_update, dirty_stays, silent_dirty}
use Rattle.ace_model.proofs.Grants.SnoopAnswers.{Answering, answering_cr}
use Rattle.ace_model.proofs.General.Options.{is_some_and-is, is_none_or-at}
use Rattle.ace_model.proofs.General.Booleans.{implies-at}
use Rattle.ace_model.proofs.Values.Ended.{write_ends}
use Rattle.ace_model.proofs.Holders.Rises.{ends_line_of}

-- an outstanding update is found on its line
pub update_found : (h : Header) (past : Trace) (p : ℕ) (c : Channel) (i l : ℕ) (x : Transaction)
    → outstanding h past p c i ≡ Some x → is_on x l ≡ true → updates_memory x ≡ true → has_update h past p l ≡ true
update_found h past p c i l x o on updates =
    let s = transaction_of-stands past p c i x (outstanding-named h past p c i x o) in
    let port = (outstanding-name h past p c i x o).port in
    let out : is_outstanding h past x ≡ true = rw (outstanding_own h past p c i x o) (eq-eqb x.place x.place refl) in
    some_issued-found past (is_update_on h past p l) x.place x s.there
    (and_from _ _ (and_from _ _ (and_from _ _ (eq-eqb x.port p port) updates) on) out)

-- The state of the line at the port of an outstanding update.
pub record HoldsLine (x : Transaction) (st : LineState) : Type 0 where
  pub held : is_invalid st ≡ false
  pub dirty : is_some_and (write_kind x) is_dirty_update ≡ true → is_dirty st ≡ true

-- what the start states say of a new write on the line
starts_at : (h : Header) (past : Trace) (e : Event) → IsAccepted h (e ∷ past) → (p i l : ℕ) (x : Transaction) (k : AwKind) → issued (length past) e ≡ Some x
    → (x.port ≡ p) → is_on x l ≡ true → write_kind x ≡ Some k → starts_write k (state_of h (e ∷ past) p l) ≡ true
starts_at h past e a p i l x k new port on kind =
    let parts = and_parts (is_line x) (nat_eq x.addr l) on in
    let well = is_none_or-at (issued (length past) e) (starts_well h past) x (accepted_keeps h past e a).rule_6 new in
    let both = implies-at (is_line x) _ well parts.0 in
    let write = (and_parts (is_none_or (read_kind x) (λ c. starts_read c (state_of h past x.port x.addr))) _ both).1 in
    let starts = is_none_or-at (write_kind x) (λ c. starts_write c (state_of h past x.port x.addr)) k write kind in
    let same : state_of h past x.port x.addr ≡ state_of h (e ∷ past) p l =
    ap (λ b. state_of h past b x.addr) port ∙ ap (state_of h past p) (is_on-addr x l on) ∙ sym (issue_leaves h past e x p l new) in
    subst (λ st. starts_write k st ≡ true) same starts

where_named : (x : Transaction) (test : Bool) (held st : LineState) → HoldsLine x held → (test ≡ true → HoldsLine x st) → HoldsLine x (unwrap_or (if test then Some st else None) held)
where_named x true held st k named = named refl
where_named x false held st k named = k

module _ (h : Header) (past : Trace) where
  -- The silent transition of the port, which gives up no line of an update.
  pub record MovesSilently (st : LineState) (p l : ℕ) : Type 0 where
    pub move : is_silent_move (state_of h past p l) st ≡ true
    pub keeps : has_update h past p l ≡ true → is_invalid st ≡ false

  pub moves_silently : (q addr : ℕ) (st : LineState) → IsAccepted h (S q addr st ∷ past) → (p l : ℕ) → (nat_eq p q && nat_eq l addr) ≡ true
      → MovesSilently st p l
  moves_silently q addr st a p l t =
      let parts = and_parts (nat_eq p q) (nat_eq l addr) t in
      let rule : (is_silent_move (state_of h past p l) st && not (is_invalid st && has_update h past p l)) ≡ true =
      rw (eqb-true p q parts.0, eqb-true l addr parts.1) (accepted_keeps h past (S q addr st) a).rule_29 in
      let two = and_parts (is_silent_move (state_of h past p l) st) _ rule in
      record { move = two.0; keeps = λ u. valid (is_invalid st) (has_update h past p l) u (not-true (is_invalid st && has_update h past p l) two.1) }
    where
      valid : (v u : Bool) → u ≡ true → (v && u) ≡ false → v ≡ false
      valid false u e n = refl
      valid true u e n = cc

  -- an event that doesn't end the update keeps this
  holds_step : (e : Event) → IsAccepted h (e ∷ past) → (p i l : ℕ) (x : Transaction) → outstanding h past p Write i ≡ Some x
      → is_on x l ≡ true → updates_memory x ≡ true → ((z : Transaction) → ended h past e ≡ Some z → z.place ≢ x.place)
      → HoldsLine x (state_of h past p l) → HoldsLine x (state_of h (e ∷ past) p l)
  holds_step (Rk q st) a p i l x o on updates lasts f =
      where_named x (is_named_by_rk past q p l) (state_of h past p l) st f (λ t.
      let r = ends_line_of h past q st a p l t in
      absurd (lasts r.one r.ends_it (ap (λ (y : Transaction). y.place) (one_on_line h past a.0 p Read Write r.id i l r.one x r.out o r.on on))))
  holds_step (Wk q st) a p i l x o on updates lasts f =
      where_named x (nat_eq p q && is_some_on (acknowledged past p Write) l) (state_of h past p l) st f (λ t.
      let w = write_ends h past q st a p l t in
      absurd (lasts w.one w.ends_it (ap (λ (y : Transaction). y.place) (one_on_line h past a.0 p Write Write w.id i l w.one x w.out o w.on on))))
  holds_step (Cr q resp st) a p i l x o on updates lasts f =
      where_named x (nat_eq p q && answers_line past p l) (state_of h past p l) st f (λ t.
      let parts = and_parts (nat_eq p q) (answers_line past p l) t in
      let port = eqb-true p q parts.0 in
      let n : Answering h past p resp st l = answering_cr h past p resp st (rw port a) l parts.1 in
      let row = n.beside (update_found h past p Write i l x o on updates) in
      let b = beside_update n.kind (state_of h past p l) resp st n.of_line f.held row in
      record {
        held = b.keeps;
        dirty = λ d. dirty_stays n.kind (state_of h past p l) true resp st n.of_line row b.no_make (f.dirty d) b.no_pass;
      })
  holds_step (S q addr st) a p i l x o on updates lasts f =
      where_named x (nat_eq p q && nat_eq l addr) (state_of h past p l) st f (λ t.
      let m = moves_silently q addr st a p l t in
      record { held = m.keeps (update_found h past p Write i l x o on updates); dirty = λ d. silent_dirty (state_of h past p l) st m.move (f.dirty d) })
  holds_step (D q addr strobe s line) a p i l x o on updates lasts f =
      where_named x (is_named_by_d h past q addr p l) (state_of h past p l) UD f (λ t. record { held = refl; dirty = λ d. refl })
  holds_step _ a p i l x o on updates lasts f = f

pub holds_line : (h : Header) (past : Trace) → IsAccepted h past → (p i l : ℕ) (x : Transaction) → outstanding h past p Write i ≡ Some x
    → is_on x l ≡ true → updates_memory x ≡ true → HoldsLine x (state_of h past p l)
holds_line h [] a p i l x o on updates = cc
holds_line h (e ∷ past) a p i l x o on updates =
    elim (outstanding-origin h past e p Write i x o) [
      | inl new ↦
          let kind = is_some_and-is (write_kind x) is_update updates in
          let starts = starts_at h past e a p i l x kind.0 new.0 (has_name-is x p Write i new.1).port on kind.1 in
          record {
            held = update_starts kind.0 _ kind.2 starts;
            dirty = λ d. dirty_starts kind.0 _ (subst (λ k. is_some_and k is_dirty_update ≡ true) kind.1 d) starts;
          }
      | inr old ↦
          holds_step h past e a p i l x old.was on updates old.lasts (holds_line h past a.0 p i l x old.was on updates)
    ]

-- a WriteEvict and an Evict are of a clean line
pub stays_clean : (h : Header) (past : Trace) → IsAccepted h past → (p i l : ℕ) (x : Transaction) → outstanding h past p Write i ≡ Some x
    → is_on x l ≡ true → is_some_and (write_kind x) is_clean_write ≡ true → is_dirty (state_of h past p l) ≡ false
stays_clean h [] a p i l x o on clean = refl
stays_clean h (e ∷ past) a p i l x o on clean =
    elim (outstanding-origin h past e p Write i x o) [
      | inl new ↦
          let kind = is_some_and-is (write_kind x) is_clean_write clean in
          clean_starts kind.0 _ kind.2 (starts_at h past e a p i l x kind.0 new.0 (has_name-is x p Write i new.1).port on kind.1)
      | inr old ↦
          elim (dirty_moves h past e a p l (stays_clean h past a.0 p i l x old.was on clean)) [
            | inl fine ↦ fine
            | inr (inl may) ↦
                let none = not-true (has_outstanding_on h past p l) (and_parts (is_unique (state_of h past p l)) _ may).1 in
                let some = outstanding_found h past p Write i l x old.was on in cc
            | inr (inr up) ↦
                let one = one_on_line h past a.0 p Read Write up.id i l up.read_one x up.out old.was up.on on in
                absurd (old.lasts up.read_one up.ends_it (ap (λ (y : Transaction). y.place) one))
          ]
    ]
