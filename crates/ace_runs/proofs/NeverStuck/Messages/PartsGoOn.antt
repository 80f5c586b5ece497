-- Where all snoops are answered, a port that hasn't answered a part has a next part, which may be forwarded to it: the port of the message is
-- enabled by step 11.
use Rattle.std.proofs.Common.{◌≡◌, ℕ, ◌+◌, ◌≤◌, true, false, not, ◌&&◌, ◌==◌, nat_lt, if◌then◌else◌, List, [], ◌∷◌, ◌++◌, length, length-append, map, take, Option, Some, None, slice_get, refl, sym, ap, subst, ◌∙◌, inl, inr, arith}
use Rattle.std.specs.List.{list_any}
use Rattle.std.proofs.lemmas.Bool.{and_parts, and_from, eq-eqb, ltb-true, ne_eqb, or_left}
use Rattle.std.proofs.lemmas.List.{take_all}
use Rattle.std.proofs.lemmas.Option.{slice_get_cases}
use Rattle.ace_codes.specs.declared.kind.SnoopKind.TheVariants as snoop
use Rattle.ace_codes.specs.Snoops.{ac_code, ac_kind_of}
use Rattle.ace_event.specs.declared.event.Event.TheVariants.{Ac}
use Rattle.ace_event.specs.declared.header.Header.{Header}
use Rattle.ace_model.specs.declared.snoops.Snoop.{Snoop}
use Rattle.ace_model.specs.declared.transactions.Transaction.{Transaction}
use Rattle.ace_model.specs.AddressRules.{k1}
use Rattle.ace_model.specs.Grants.{ports_below}
use Rattle.ace_model.specs.Messages.{add_forwarded, answered_parts, first_waiting, forwarded, forwards, has_answered, has_part, is_other_ace, next_after, next_part, parts_among, parts_for, parts_with}
use Rattle.ace_model.specs.OrderRules.{k36}
use Rattle.ace_model.specs.Plans.{Plan}
use Rattle.ace_model.specs.Snoops.{answered, answers, snoop_at, snoops_of}
use Rattle.ace_model.specs.Trace.{Trace, is_some_and, more}
use Rattle.ace_model.specs.Transactions.{is_ace}
use Rattle.ace_model.proofs.General.Lists.{start-is}
use Rattle.ace_model.proofs.Trace.Growth.{IsIssued, some_issued-found}
use Rattle.ace_runs.specs.Bursts.{is_kept, may_begin}
use Rattle.ace_runs.specs.OrderSteps.{forwarded_to, is_part_of, may_forward, message_of, parts_missing}
use Rattle.ace_runs.specs.Steps.{is_enabled_by}
use Rattle.ace_runs.proofs.NeverStuck.Forwarding.NextMessage.{Begins, IsBetweenMessages, NextMessage, last-issued, parts-start}
use Rattle.ace_runs.proofs.NeverStuck.Transactions.SnoopsKept.{ac-kept}
use Rattle.ace_runs.proofs.NeverStuck.Transactions.SnoopsMove.{any-port}
use Rattle.ace_runs.proofs.NeverStuck.Forwarding.Whole.{all-missing, whole-message}

-- ---- where all snoops are answered -------------------------------------------------------------------

forwarded-length : (past : Trace) (q : ℕ) → length (forwarded past q) ≡ length (snoops_of past q)
forwarded-length [] q = refl
forwarded-length (e ∷ past) q = by (forwarded-length past q) (snoop_at (length past) e q)
  where
    by : length (forwarded past q) ≡ length (snoops_of past q) → (o : Option Snoop) → length (add_forwarded past q (forwarded past q) o) ≡ length (more (snoops_of past q) o)
    by same None = same
    by same (Some s) =
        length-append (forwarded past q) (forwards (next_after past q (forwarded past q)) s ∷ []) ∙ ap (λ n. n + 1) same
        ∙ sym (length-append (snoops_of past q) (s ∷ []))

past-end : {A : Type 0} → (xs : List A) (n : ℕ) → slice_get xs n ≡ None → length xs ≤ n
past-end xs n none =
    elim (slice_get_cases xs n).1 [
      | inl there ↦ let bad : None ≡ Some there.0 = sym none ∙ there.2 in cc
      | inr out ↦ out.0
    ]

-- the port has answered all that was forwarded to it
all-answered : (past : Trace) (q : ℕ) → answered past q ≡ None → answered_parts past q ≡ parts_among (forwarded past q)
all-answered past q none =
    let long = past-end (snoops_of past q) (answers past q) none in
    let same = forwarded-length past q in
    ap parts_among (take_all (answers past q) (forwarded past q) (omega (arith, long, same)))

-- a part that it hasn't answered is for it, so there is one that comes next
pub next-there : (past : Trace) (x : Transaction) (q : ℕ) → IsBetweenMessages past q → answered past q ≡ None → has_answered past x q ≡ false → has_part (parts_for past q) x ≡ true
    → (y : Transaction) × (next_part past q ≡ Some y)
next-there past x q w none unanswered for_it = by (next_part past q) refl
  where
    by : (o : Option Transaction) → next_part past q ≡ o → (y : Transaction) × (next_part past q ≡ Some y)
    by (Some y) next = (y, next)
    by None next =
        let done = parts_among (forwarded past q) in
        let short = past-end (parts_for past q) (length done) next in
        let start : take (length done) (parts_for past q) ≡ done =
        ap (λ l. take (length l) (parts_for past q)) w.3 ∙ ap (λ t. take (length (parts_for w.1 q)) (parts_for t q)) (sym w.2)
        ∙ start-is (parts_for w.1 q) (parts_for (w.0 ++ w.1) q) (parts-start w.0 w.1 q) ∙ sym w.3 in
        let all : parts_for past q ≡ answered_parts past q = sym (take_all (length done) (parts_for past q) short) ∙ start ∙ sym (all-answered past q none) in
        let bad : true ≡ false = sym for_it ∙ ap (λ l. has_part l x) all ∙ unanswered in cc

-- ---- the AC ------------------------------------------------------------------------------------------

-- the AC that forwards the next part breaks no rule
next-kept : (h : Header) (past : Trace) (q : ℕ) (y : Transaction) → is_ace h q ≡ true → next_part past q ≡ Some y → is_kept h past (Ac q y.addr (ac_code snoop.DvmMessage)) ≡ true
unfolding ac_kind_of
next-kept h past q y ace next =
    let one : k1 h past (Ac q y.addr (ac_code snoop.DvmMessage)) ≡ true = and_from _ _ (and_parts (nat_lt q h.ports) _ ace).0 ace in
    let fits : is_some_and (next_part past q) (λ x. x.addr == y.addr) ≡ true = rw next (eq-eqb y.addr y.addr refl) in
    let order : k36 h past (Ac q y.addr (ac_code snoop.DvmMessage)) ≡ true = fits in
    ac-kept h past q y.addr (ac_code snoop.DvmMessage) one refl refl refl order refl

-- ---- step 11 -----------------------------------------------------------------------------------------

-- the message begins with the part
first-of : (point : Trace) (q : ℕ) (z y : Transaction) → Begins point q z y → (rest : List Transaction) × (parts_with (first_waiting point z.port) z ≡ y ∷ rest)
first-of point q z y b =
    elim b.first [
      | inl waits ↦ (z ∷ [], rw waits refl)
      | inr alone ↦ ([], rw (alone.0, alone.2) (ap (λ v. v ∷ []) alone.1))
    ]

-- the port gets the message whose part is next
message-gets : (h : Header) (past : Trace) (q : ℕ) (y : Transaction) (m : NextMessage past q (parts_among (forwarded past q)) y) → is_ace h q ≡ true → next_part past q ≡ Some y
    → (rest : List Transaction) × (forwarded_to h past m.last q ≡ Ac q y.addr (ac_code snoop.DvmMessage) ∷ map (λ (z : Transaction). Ac q z.addr (ac_code snoop.DvmMessage)) rest)
message-gets h past q y m ace next =
    let f = first-of m.point q m.last y m.begins in
    let to_port = λ (z : Transaction). Ac q z.addr (ac_code snoop.DvmMessage) in
    let other_port = m.begins.other in
    let apart : (q == m.last.port) ≡ false = ne_eqb q m.last.port (λ same. let t = eq-eqb m.last.port q (sym same) in cc) in
    let other : is_other_ace h m.last.port q ≡ true = and_from _ _ ace (ap not apart) in
    let has : has_part (message_of past m.last) y ≡ true =
    ap (λ l. has_part l y) (whole-message past q m.last y m refl ∙ f.1) ∙ or_left (y.place == y.place) _ (eq-eqb y.place y.place refl) in
    let is_next : is_some_and (next_part past q) (has_part (message_of past m.last)) ≡ true = ap (λ o. is_some_and o (has_part (message_of past m.last))) next ∙ has in
    (f.0, ap (λ b. if b then map to_port (parts_missing past m.last q) else []) (and_from _ _ other is_next) ∙ ap (map to_port) (all-missing past q m.last y m refl ∙ f.1))

pub message-there : (past : Trace) (q : ℕ) (y : Transaction) (m : NextMessage past q (parts_among (forwarded past q)) y) → IsIssued past m.last
message-there past q y m = subst (λ t. IsIssued t m.last) m.is (last-issued m.later m.event m.point q m.last y m.issues m.begins)

-- The port of the message that comes next for some port is enabled by step 11.
pub next-enabled : (plan : Plan) (past : Trace) (q : ℕ) (y : Transaction) (m : NextMessage past q (parts_among (forwarded past q)) y) → is_ace plan.header q ≡ true
    → next_part past q ≡ Some y → is_enabled_by (11 ∷ []) plan past m.last.port ≡ true
next-enabled plan past q y m ace next =
    let h = plan.header in
    let begins : may_begin h past (forwarded_to h past m.last q) ≡ true = ap (may_begin h past) (message-gets h past q y m ace next).1 ∙ next-kept h past q y ace next in
    let low = ltb-true q h.ports (and_parts (nat_lt q h.ports) _ ace).0 in
    let some = any-port h.ports (λ r. may_begin h past (forwarded_to h past m.last r)) q low begins in
    let part : is_part_of m.last.port m.last ≡ true = and_from _ _ m.begins.part (eq-eqb m.last.port m.last.port refl) in
    let may : may_forward h past m.last.port ≡ true =
    some_issued-found past (λ x. is_part_of m.last.port x && list_any (λ r. may_begin h past (forwarded_to h past x r)) (ports_below h.ports)) m.last.place m.last (message-there past q y m).there
    (and_from _ _ part some) in
    or_left (may_forward h past m.last.port) _ may
