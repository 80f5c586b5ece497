-- What a WK leaves of the line of its write.
use Rattle.std.proofs.Common.{◌≡◌, ℕ, ◌&&◌, true, nat_eq, ◌∷◌, Some, sym, ap, ◌∙◌}
use Rattle.std.proofs.lemmas.Bool.{and_parts, eqb-true}
use Rattle.ace_model.proofs.Terms.{write_kind, LineState, Header, Transaction, Trace, is_some_and, is_on}
use Rattle.ace_model.proofs.Terms.{Channel, Write, Wk, is_some_on, has_memory_write, has_write_data, outstanding, acknowledged}
use Rattle.ace_model.proofs.Terms.{IsAccepted}
use Rattle.ace_model.proofs.General.Options.{is_some_and-is}
use Rattle.ace_model.proofs.Trace.WriteQueue.{ends_write_of}

module _ (h : Header) (past : Trace) where
  -- The write of the line that a WK of the port ends.
  pub record WriteEnded (q p l : ℕ) : Type 0 where
    pub one : Transaction
    pub id : ℕ
    pub out : outstanding h past p Write id ≡ Some one
    pub on : is_on one l ≡ true
    pub chan : one.chan ≡ Write
    pub ends_it : acknowledged past q Write ≡ Some one
    pub written : is_some_and (write_kind one) has_write_data ≡ true → has_memory_write past p Write id ≡ true

  pub write_ends : (q : ℕ) (st : LineState) → IsAccepted h (Wk q st ∷ past) → (p l : ℕ) → (nat_eq p q && is_some_on (acknowledged past p Write) l) ≡ true
      → WriteEnded q p l
  write_ends q st a p l t =
      let parts = and_parts (nat_eq p q) _ t in
      let port = eqb-true p q parts.0 in
      let z = is_some_and-is (acknowledged past p Write) (λ y. is_on y l) parts.1 in
      let is : acknowledged past q Write ≡ Some z.0 = ap (λ b. acknowledged past b Write) (sym port) ∙ z.1 in
      let e = ends_write_of h past q st a z.0 is in
      record {
        one = z.0;
        id = e.id;
        out = ap (λ b. outstanding h past b Write e.id) port ∙ e.out;
        on = z.2;
        chan = e.chan;
        ends_it = is;
        written = λ sends. ap (λ b. has_memory_write past b Write e.id) (port ∙ sym e.port) ∙ ap (λ (c : Channel). has_memory_write past z.0.port c e.id) (sym e.chan)
            ∙ ap (has_memory_write past z.0.port z.0.chan) (sym e.is_id) ∙ e.written sends;
      }
