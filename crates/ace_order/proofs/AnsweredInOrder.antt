-- A port answers the parts of one sender in the order of their issue: once it has answered a part, it has answered each earlier one. So while the R of
-- a part has to wait, that of each later part of its port has to.
use Rattle.std.proofs.Common.{◌≡◌, ◌≢◌, ◌<◌, ◌+◌, ◌⊎◌, ℕ, Bool, true, false, not, ◌&&◌, ◌||◌, ◌==◌, if◌then◌else◌, List, [], ◌∷◌, ◌++◌, append_assoc, length, Some, slice_get, inl, inr, refl, sym, ap, subst, ◌∙◌, arith}
use Rattle.std.specs.List.{All, list_all}
use Rattle.std.proofs.lemmas.Bool.{and_from, and_parts, cases_lt, eq-eqb, false_from_ne_true, ne_eqb, or_left}
use Rattle.std.proofs.lemmas.List.Elements.{All-append, All-cons, All-nil}
use Rattle.ace_event.specs.declared.event.Channel.TheVariants.{Read}
use Rattle.ace_event.specs.declared.header.Header.{Header}
use Rattle.ace_model.specs.declared.transactions.Transaction.{Transaction}
use Rattle.ace_model.specs.Accepted.{IsAccepted}
use Rattle.ace_model.specs.Barriers.{is_barrier_half, may_answer, pair_of}
use Rattle.ace_model.specs.Grants.{ports_below}
use Rattle.ace_model.specs.Messages.{answered_parts, first_waiting, has_answered, has_part, is_message_part, is_other_ace, parts_for, parts_in, parts_with}
use Rattle.ace_model.specs.OrderRules.{is_answered_by_all, k37, may_answer_half}
use Rattle.ace_model.specs.Trace.{Trace, implies, is_some_and}
use Rattle.ace_model.specs.Transactions.{is_complete, issued, outstanding}
use Rattle.ace_model.proofs.Dvm.Forwarding.{answered-first}
use Rattle.ace_model.proofs.Dvm.Parts.{IsBelow, part-placed, parts-cases, parts-placed}
use Rattle.ace_model.proofs.General.Lists.{IsStart, any-right, start-all, start-any, start-append, start-both, start-trans}
use Rattle.ace_model.proofs.General.Options.{is_none_or-at}
use Rattle.ace_model.proofs.Rules.Keeps.{accepted_keeps}
use Rattle.ace_model.proofs.Trace.Growth.{IsIssued, issued-cases}
use Rattle.ace_model.proofs.Trace.Issued.{issued-place}
use Rattle.ace_runs.specs.Bursts.{is_kept, may_begin}
use Rattle.ace_runs.specs.OrderSteps.{dvm_burst, plain_transfer}
use Rattle.ace_runs.proofs.Accepting.{kept-breaks-none}
use Rattle.ace_runs.proofs.NeverStuck.Barriers.Halves.{dvm-no-half}
use Rattle.ace_runs.proofs.NeverStuck.Reads.PlainReads.{plain-kept}
use Rattle.ace_engine.proofs.Pending.{IsPending, pending-at}
use Rattle.ace_portck.specs.Pending.{pending_of}
use Rattle.ace_order.specs.Quiet.{is_dvm}
use Rattle.ace_order.proofs.DvmSteps.{begins-as, done-as, dvm-is-plain}
use Rattle.ace_order.proofs.PlainReads.{named-out}

-- The first parts for a port, of which the part y is one and x, with what was issued after it, none.
record Before (past : Trace) (x y : Transaction) (q : ℕ) : Type 0 where
  pub parts : List Transaction
  pub first : IsStart parts (parts_for past q)
  pub below : All (IsBelow x.place) parts
  pub has : has_part parts y ≡ true

-- two parts of one port, in order, and another port
module _ (x y : Transaction) (q : ℕ) (m : is_message_part x ≡ true) (n : is_message_part y ≡ true) (same : y.port ≡ x.port) (other : x.port ≢ q) (order : y.place < x.place) where
  -- the later one is issued
  at-issue : (past : Trace) → x.place ≡ length past → (has_part (parts_for past q) y ≡ true) ⊎ (first_waiting past y.port ≡ Some y)
      → (parts : List Transaction) × IsStart parts (parts_for past q ++ parts_in past (Some x) q) × All (IsBelow x.place) parts × (has_part parts y ≡ true)
  at-issue past at (inl there) = (
    parts_for past q,
    start-append (parts_for past q) (parts_in past (Some x) q),
    subst (λ k. All (IsBelow k) (parts_for past q)) (sym at) (parts-placed past q),
    there,
  )
  at-issue past at (inr waits) =
      let both : (is_message_part x && not (x.port == q)) ≡ true = and_from _ _ m (ap not (ne_eqb x.port q other)) in
      let waiting : first_waiting past x.port ≡ Some y = ap (first_waiting past) (sym same) ∙ waits in
      let added : parts_in past (Some x) q ≡ y ∷ x ∷ [] =
      ap (λ b. if b then parts_with (first_waiting past x.port) x else []) both ∙ ap (λ o. parts_with o x) waiting in (
        parts_for past q ++ y ∷ [],
        record { rest = x ∷ []; joined = append_assoc (parts_for past q) (y ∷ []) (x ∷ []) ∙ ap (λ l. parts_for past q ++ l) (sym added) },
        All-append (IsBelow x.place) (parts_for past q) (y ∷ []) (subst (λ k. All (IsBelow k) (parts_for past q)) (sym at) (parts-placed past q))
            (All-cons (IsBelow x.place) y [] order (All-nil (IsBelow x.place))),
        any-right (λ z. z.place == y.place) (parts_for past q) (y ∷ []) (own y),
      )
    where
      own : (z : Transaction) → has_part (z ∷ []) z ≡ true
      own z = ap (λ b. b || false) (eq-eqb z.place z.place refl)

  before : (past : Trace) → IsIssued past x → IsIssued past y → Before past x y q
  before [] i j = let low = i.before in absurd (omega (arith, low))
  before (e ∷ past) i j =
      elim (issued-cases e past x i) [
        | inl new ↦
            let at = issued-place (length past) e x new in
            elim (issued-cases e past y j) [
              | inl both ↦ let here = issued-place (length past) e y both in absurd (omega (arith, at, here, order))
              | inr old ↦
                  let b = at-issue past at (parts-cases y q n (λ own. other (sym same ∙ own)) past old) in
                  record { parts = b.0; first = subst (λ o. IsStart b.0 (parts_for past q ++ parts_in past o q)) (sym new) b.1; below = b.2; has = b.3 }
            ]
        | inr old ↦
            elim (issued-cases e past y j) [
              | inl late ↦ let here = issued-place (length past) e y late in let low = old.before in absurd (omega (arith, here, low, order))
              | inr older ↦
                  let b = before past old older in
                  record {
                    parts = b.parts;
                    first = start-trans b.parts (parts_for past q) (parts_for (e ∷ past) q) b.first (start-append (parts_for past q) (parts_in past (issued (length past) e) q));
                    below = b.below;
                    has = b.has;
                  }
            ]
      ]

  pub answered-before : (past : Trace) → IsIssued past x → IsIssued past y → has_answered past x q ≡ true → has_answered past y q ≡ true
  answered-before past i j answered =
      let b = before past i j in
      let start = answered-first past q in
      elim (cases_lt (length (answered_parts past q)) (length b.parts)) [
        | inl few ↦
            let within = start-both (answered_parts past q) b.parts (parts_for past q) start b.first (omega (arith, few)) in
            let low = part-placed (answered_parts past q) x.place x (start-all (IsBelow x.place) (answered_parts past q) b.parts within b.below) answered in
            absurd (omega (arith, low))
        | inr many ↦ start-any (λ z. z.place == y.place) b.parts (answered_parts past q) (start-both b.parts (answered_parts past q) (parts_for past q) b.first start many) b.has
      ]

-- ---- all ports -----------------------------------------------------------------------------------------

all-follow : (f g : ℕ → Bool) → ((q : ℕ) → f q ≡ true → g q ≡ true) → (qs : List ℕ) → list_all f qs ≡ true → list_all g qs ≡ true
all-follow f g follows [] t = refl
all-follow f g follows (q ∷ qs) t = let both = and_parts (f q) (list_all f qs) t in and_from (g q) (list_all g qs) (follows q both.0) (all-follow f g follows qs both.1)

implied : (a b c : Bool) → (a ≡ true → b ≡ true → c ≡ true) → implies a b ≡ true → implies a c ≡ true
implied false b c follows t = refl
implied true b c follows t = follows refl t

implied-none : (a b : Bool) → a ≡ false → implies a b ≡ true
implied-none false b none = refl
implied-none true b none = cc

-- two parts of one port, in order
module _ (h : Header) (past : Trace) (a : IsAccepted h past) (p : ℕ) (x y : Transaction) (v : IsPending h past p Read x) (w : IsPending h past p Read y)
    (m : is_message_part x ≡ true) (n : is_message_part y ≡ true) (order : y.place < x.place) where
  same : y.port ≡ x.port
  same = w.port ∙ sym v.port

  all-before : is_answered_by_all h past x ≡ true → is_answered_by_all h past y ≡ true
  all-before =
      all-follow (λ q. implies (is_other_ace h x.port q) (has_answered past x q)) (λ q. implies (is_other_ace h y.port q) (has_answered past y q)) (λ q answered.
      subst (λ r. implies (is_other_ace h r q) (has_answered past y q) ≡ true) (sym same)
      (implied (is_other_ace h x.port q) (has_answered past x q) (has_answered past y q) (λ is.
      let apart = (and_parts _ (not (q == x.port)) is).1 in
      answered-before x y q m n same (λ own. by q (sym own) apart) order past v.issued w.issued) answered)) (ports_below h.ports)
    where
      by : (q : ℕ) → q ≡ x.port → not (q == x.port) ≡ true → ⊥
      by q own apart = let bad : false ≡ true = ap not (sym (eq-eqb q x.port own)) ∙ apart in cc

  -- the R of the later part has to wait where that of the earlier one has to
  pub later-waits : is_dvm x ≡ true → is_dvm y ≡ true → is_complete past y.port y.chan y.id ≡ false → may_begin h past (dvm_burst h past y) ≡ false
      → may_begin h past (dvm_burst h past x) ≡ false
  later-waits dvm dvm_too undone waits =
      false_from_ne_true (may_begin h past (dvm_burst h past x)) (λ begins.
      let plain = dvm-is-plain h past a p x v dvm in
      let plain_too = dvm-is-plain h past a p y w dvm_too in
      let kept : is_kept h past (plain_transfer x) ≡ true = sym (begins-as h past a p x v dvm) ∙ begins in
      let accepted : IsAccepted h (plain_transfer x ∷ past) = (a, kept-breaks-none h past (plain_transfer x) kept) in
      let thirty_seven : k37 h past (plain_transfer x) ≡ true = (accepted_keeps h past (plain_transfer x) accepted).rule_37 in
      let message : implies (is_message_part x) (is_answered_by_all h past x) ≡ true =
      is_none_or-at (outstanding h past x.port Read x.id) (λ z. implies (is_message_part z) (is_answered_by_all h past z)) x thirty_seven (named-out h past x plain) in
      let all : is_answered_by_all h past x ≡ true = sym (ap (λ b. implies b (is_answered_by_all h past x)) m) ∙ message in
      let message_too : implies (is_message_part y) (is_answered_by_all h past y) ≡ true = ap (λ b. implies b (is_answered_by_all h past y)) n ∙ all-before all in
      let half : may_answer_half past y ≡ true = implied-none (is_barrier_half y) (is_some_and (pair_of past y) (may_answer past y.port)) (dvm-no-half y dvm_too) in
      let kept_too = plain-kept h past y plain_too.kind a w.issued w.is_out (sym (done-as h past a p y w dvm_too) ∙ undone) plain_too.kind_is plain_too.plain half message_too in
      let bad : true ≡ false = sym kept_too ∙ sym (begins-as h past a p y w dvm_too) ∙ waits in cc)

-- ---- the reads so far ------------------------------------------------------------------------------------

-- One of the first outstanding reads of the port is a part of a message, which has this place and isn't complete.
pub record Unanswered (h : Header) (past : Trace) (p few n : ℕ) : Type 0 where
  pub number : ℕ
  pub part : Transaction
  pub low : number < few
  pub there : slice_get (pending_of h past p Read) number ≡ Some part
  pub place : part.place ≡ n
  pub message : is_message_part part ≡ true
  pub undone : is_complete past part.port part.chan part.id ≡ false

pub unanswered-still : (h : Header) (past : Trace) (p few n : ℕ) → Unanswered h past p few n → Unanswered h past p (few + 1) n
unanswered-still h past p few n u = let low = u.low in record {
  number = u.number;
  part = u.part;
  low = omega (arith, low);
  there = u.there;
  place = u.place;
  message = u.message;
  undone = u.undone;
}

-- where none of the first ones may have its R, a part behind the one has none
pub behind-waits : (h : Header) (past : Trace) (a : IsAccepted h past) (p few n : ℕ) → Unanswered h past p few n
    → ((k : ℕ) (x : Transaction) → k < few → slice_get (pending_of h past p Read) k ≡ Some x → may_begin h past (dvm_burst h past x) ≡ false)
    → (k : ℕ) (x : Transaction) → slice_get (pending_of h past p Read) k ≡ Some x → is_message_part x ≡ true → n < x.place → may_begin h past (dvm_burst h past x) ≡ false
behind-waits h past a p few n u none k x there message behind =
    let y = u.part in
    let place = u.place in
    later-waits h past a p x y (pending-at h past p Read k x there) (pending-at h past p Read u.number y u.there) message u.message (omega (arith, place, behind))
    (or_left (is_message_part x) _ message) (or_left (is_message_part y) _ u.message) u.undone (none u.number y u.low u.there)
