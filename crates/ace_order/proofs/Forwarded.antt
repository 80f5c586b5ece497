-- The ACs that forward a message to the ports for which it is the next break no rule, and leave messages forwarded whole.
use Rattle.std.proofs.Common.{◌≡◌, ℕ, zero, suc, ◌+◌, ◌≤◌, true, false, ◌==◌, nat_lt, if◌then◌else◌, List, [], ◌∷◌, ◌++◌, append_assoc, filter, length, map, Some, None, slice_get, refl, sym, ap, subst, ◌∙◌, inl, inr, arith}
use Rattle.std.proofs.lemmas.Bool.{and_from, and_parts, cases_Bool, eq-eqb, ne_eqb}
use Rattle.std.proofs.lemmas.List.{append-nil}
use Rattle.ace_codes.specs.declared.kind.SnoopKind.TheVariants as snoop
use Rattle.ace_codes.specs.Snoops.{ac_code, ac_kind_of}
use Rattle.ace_event.specs.declared.header.Header.{Header}
use Rattle.ace_model.specs.declared.transactions.Transaction.{Transaction}
use Rattle.ace_model.specs.Accepted.{IsAccepted}
use Rattle.ace_model.specs.AddressRules.{k1}
use Rattle.ace_model.specs.Kinds.{is_message_snoop}
use Rattle.ace_model.specs.Messages.{forwarded, next_part, parts_among, parts_for}
use Rattle.ace_model.specs.OrderRules.{k36}
use Rattle.ace_model.specs.Plans.{Plan}
use Rattle.ace_model.specs.Trace.{Trace, is_some_and}
use Rattle.ace_model.specs.Transactions.{is_ace}
use Rattle.ace_model.proofs.Tables.ReadSnoops.{kind_of_code}
use Rattle.ace_runs.specs.Bursts.{are_kept, is_kept, onto}
use Rattle.ace_runs.specs.Segments.{is_at_port}
use Rattle.ace_runs.proofs.Accepting.{kept-breaks-none}
use Rattle.ace_runs.proofs.NeverStuck.Forwarding.Bursts.{grows, is_forwarding}
use Rattle.ace_runs.proofs.NeverStuck.Forwarding.NextMessage.{get-right}
use Rattle.ace_runs.proofs.NeverStuck.Transactions.SnoopsKept.{ac-kept}
use Rattle.ace_engine.specs.Engines.{IsLegal}
use Rattle.ace_engine.proofs.Heard.{onto-append}
use Rattle.ace_engine.proofs.OfInterconnect.{legal-with}
use Rattle.ace_sysck.specs.declared.inboxes.Message.{Message}
use Rattle.ace_sysck.specs.Inboxes.{message_with, next_message}
use Rattle.ace_order.specs.Messages.{forwarding, given_below, given_to, is_next_for, parts_of}

-- ---- the ACs of one port -----------------------------------------------------------------------------

pub is-forwarding : (q : ℕ) (x : Transaction) → is_forwarding (forwarding q x) ≡ true
is-forwarding q x = ap (λ o. is_some_and o is_message_snoop) (kind_of_code snoop.DvmMessage)

-- the AC that forwards the next part breaks no rule
next-kept : (h : Header) (past : Trace) (q : ℕ) (y : Transaction) → is_ace h q ≡ true → next_part past q ≡ Some y → is_kept h past (forwarding q y) ≡ true
unfolding ac_kind_of
next-kept h past q y ace next =
    let one : k1 h past (forwarding q y) ≡ true = and_from _ _ (and_parts (nat_lt q h.ports) _ ace).0 ace in
    let fits : is_some_and (next_part past q) (λ x. x.addr == y.addr) ≡ true = rw next (eq-eqb y.addr y.addr refl) in
    let order : k36 h past (forwarding q y) ≡ true = fits in
    ac-kept h past q y.addr (ac_code snoop.DvmMessage) one refl refl refl order refl

-- the parts that come next for the port may be forwarded one after the other
pub parts-kept : (h : Header) (q : ℕ) (ds : List Transaction) (past : Trace) (more : List Transaction) → is_ace h q ≡ true → IsAccepted h past
    → parts_for past q ≡ (parts_among (forwarded past q) ++ ds) ++ more → are_kept h past (map (forwarding q) ds) ≡ true
parts-kept h q [] past more ace a all = refl
parts-kept h q (d ∷ ds) past more ace a all =
    let done = parts_among (forwarded past q) in
    let next : next_part past q ≡ Some d = ap (λ l. slice_get l (length done)) (all ∙ append_assoc done (d ∷ ds) more) ∙ get-right done (d ∷ ds ++ more) in
    let kept = next-kept h past q d ace next in
    let accepted : IsAccepted h (forwarding q d ∷ past) = (a, kept-breaks-none h past (forwarding q d) kept) in
    let split : parts_for past q ≡ (parts_among (forwarded past q) ++ d ∷ []) ++ (ds ++ more) =
    all ∙ ap (λ l. l ++ more) (sym (append_assoc done (d ∷ []) ds)) ∙ append_assoc (done ++ d ∷ []) ds more in
    let here : length (filter (is_at_port q) (forwarding q d ∷ [])) ≡ 1 = rw (eq-eqb q q refl) refl in
    let one : parts_among (forwarded (forwarding q d ∷ past) q) ≡ parts_among (forwarded past q) ++ d ∷ [] =
    grows h (forwarding q d ∷ []) past q (d ∷ []) (ds ++ more) a (and_from _ _ kept refl) (and_from _ _ (is-forwarding q d) refl) split here in
    let later : parts_for (forwarding q d ∷ past) q ≡ (parts_among (forwarded (forwarding q d ∷ past) q) ++ ds) ++ more =
    append-nil (parts_for past q) ∙ split ∙ sym (append_assoc (done ++ d ∷ []) ds more) ∙ ap (λ l. (l ++ ds) ++ more) (sym one) in
    and_from _ _ kept (parts-kept h q ds (forwarding q d ∷ past) more ace accepted later)

pub legal-parts : (plan : Plan) (q : ℕ) (ds : List Transaction) (past : Trace) → IsLegal plan past → are_kept plan.header past (map (forwarding q) ds) ≡ true
    → IsLegal plan (onto (map (forwarding q) ds) past)
legal-parts plan q [] past legal kept = legal
legal-parts plan q (d ∷ ds) past legal kept =
    let both = and_parts (is_kept plan.header past (forwarding q d)) (are_kept plan.header (forwarding q d ∷ past) (map (forwarding q) ds)) kept in
    legal-parts plan q ds (forwarding q d ∷ past) (legal-with plan past (forwarding q d) refl legal both.0) both.1

-- ---- the ports that haven't had theirs -----------------------------------------------------------------

-- What is said of the port at the one trace is said at the other.
pub record IsSame (t past : Trace) (r : ℕ) : Type 0 where
  pub parts : parts_for t r ≡ parts_for past r
  pub done : forwarded t r ≡ forwarded past r

same-with : (q r : ℕ) (ds : List Transaction) (t past : Trace) → (r == q) ≡ false → IsSame t past r → IsSame (onto (map (forwarding q) ds) t) past r
same-with q r [] t past other s = s
same-with q r (d ∷ ds) t past other s =
    same-with q r ds (forwarding q d ∷ t) past other (record { parts = append-nil (parts_for t r) ∙ s.parts; done = rw other s.done })

pub same-below : (h : Header) (past : Trace) (m : Message) (n r : ℕ) → n ≤ r → IsSame (onto (given_below h past m n) past) past r
same-below h past m zero r low = record { parts = refl; done = refl }
same-below h past m (suc n) r low =
    let before = same-below h past m n r (omega (arith, low)) in
    let apart : (r == n) ≡ false = ne_eqb r n (λ same. absurd (omega (arith, low, same))) in
    subst (λ t. IsSame t past r) (sym (onto-append (given_below h past m n) (given_to h past m n) past))
    (elim (cases_Bool (is_next_for h past m n)) [
      | inr none ↦ rw none before
      | inl next ↦ rw next (same-with n r (parts_of m) (onto (given_below h past m n) past) past apart before)
    ])

-- what comes next goes by the parts for the port and those that were forwarded
pub message-by : (t past : Trace) (r : ℕ) → parts_for t r ≡ parts_for past r → parts_among (forwarded t r) ≡ parts_among (forwarded past r) → next_message t r ≡ next_message past r
message-by t past r parts done =
    ap (λ l. message_with (slice_get (parts_for t r) (length l)) (slice_get (parts_for t r) (length l + 1))) done
    ∙ ap (λ l. message_with (slice_get l (length (parts_among (forwarded past r)))) (slice_get l (length (parts_among (forwarded past r)) + 1))) parts

pub same-next : (h : Header) (t past : Trace) (m : Message) (r : ℕ) → IsSame t past r → is_next_for h t m r ≡ is_next_for h past m r
same-next h t past m r s = ap (λ o. is_some_and (if is_ace h r then o else None) (λ n. n.first.place == m.first.place)) (message-by t past r s.parts (ap parts_among s.done))
