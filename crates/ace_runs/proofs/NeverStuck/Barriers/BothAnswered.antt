-- Where both halves of a barrier are answered at once, the halves of barriers stay together; so they are in each run.
use Rattle.std.proofs.Common.{◌≡◌, ℕ, Bool, true, false, ◌&&◌, ◌||◌, ◌==◌, nat_lt, List, [], ◌∷◌, length, Some, slice_get, inl, inr, refl, sym, ap, subst, ◌∙◌, arith}
use Rattle.std.proofs.lemmas.Bool.{and_parts, cases_Bool, eqb-true, eq-eqb, ltb-true, ne_eqb, false_from_ne_true}
use Rattle.ace_codes.specs.declared.kind.ArKind.{ArKind}
use Rattle.ace_codes.specs.declared.kind.ArKind.TheVariants as read
use Rattle.ace_event.specs.declared.event.Channel.{Channel}
use Rattle.ace_event.specs.declared.event.Channel.TheVariants.{Read, Write}
use Rattle.ace_event.specs.declared.event.Event.{Event}
use Rattle.ace_event.specs.declared.event.Event.TheVariants.{R, B}
use Rattle.ace_event.specs.declared.header.Header.{Header}
use Rattle.ace_tables.specs.Answers.{same_test}
use Rattle.ace_model.specs.declared.transactions.Transaction.{Transaction}
use Rattle.ace_model.specs.Accepted.{IsAccepted, rules}
use Rattle.ace_model.specs.Barriers.{barriers, number_of}
use Rattle.ace_model.specs.Kinds.{beats_of, is_read_barrier}
use Rattle.ace_model.specs.Plans.{Plan}
use Rattle.ace_model.specs.Progress.{is_completed}
use Rattle.ace_model.specs.ReadRules.{is_due, is_next_transfer, k18}
use Rattle.ace_model.specs.Trace.{Trace, at_point, is_some_and}
use Rattle.ace_model.specs.Transactions.{is_outstanding, outstanding, read_kind, transaction_of, transfers}
use Rattle.ace_model.proofs.Barriers.Pairs.{barriers-half, is_barrier_of-is, pairs-halves}
use Rattle.ace_model.proofs.General.Booleans.{same_test-at}
use Rattle.ace_model.proofs.General.Options.{Some-injective, is_some_and-at, is_some_and-is}
use Rattle.ace_model.proofs.Outstanding.Names.{complete_by_name}
use Rattle.ace_model.proofs.Outstanding.Waiting.{ended_complete}
use Rattle.ace_model.proofs.Rules.Keeps.{kept}
use Rattle.ace_model.proofs.Trace.Growth.{IsIssued}
use Rattle.ace_model.proofs.Trace.Issued.{outstanding-named}
use Rattle.ace_model.proofs.Trace.LineOnce.{outstanding_is}
use Rattle.ace_model.proofs.Trace.Looks.{at_name, is_read-is, read_writes_none}
use Rattle.ace_model.proofs.Trace.Transfers.{full_some}
use Rattle.ace_model.proofs.Values.FullReads.{done_read}
use Rattle.ace_runs.specs.Bursts.{are_kept, is_kept, onto}
use Rattle.ace_runs.specs.OrderSteps.{plain_transfer}
use Rattle.ace_runs.specs.SameEvents.{same_burst, same_event}
use Rattle.ace_runs.specs.Steps.{AreSteps, is_step}
use Rattle.ace_runs.proofs.Accepting.{accepted-after, kept-breaks-none}
use Rattle.ace_runs.proofs.Turns.{of-each-run, step-kept}
use Rattle.ace_runs.proofs.NeverStuck.Reads.PlainTransfers.{half-there, reads-half}
use Rattle.ace_runs.proofs.NeverStuck.Barriers.BothIssued.{barrier-together}
use Rattle.ace_runs.proofs.NeverStuck.Barriers.StepShape.{AnswersBarrier, order-shape}
use Rattle.ace_runs.proofs.NeverStuck.Barriers.Together.{AreTogether, half-in, one-place, ordinary-together, quiet-together, responses-together}

-- ---- a half and its number ---------------------------------------------------------------------------

same-port : (past : Trace) (p q : ℕ) (c : Channel) (k m : ℕ) (x y : Transaction) → slice_get (barriers past p c) k ≡ Some x → slice_get (barriers past q c) m ≡ Some y → x ≡ y → p ≡ q
same-port past p q c k m x y a b same =
    let i = is_barrier_of-is x p c (barriers-half past p c k x a).barrier in
    let j = is_barrier_of-is y q c (barriers-half past q c m y b).barrier in
    sym i.port ∙ ap (λ (v : Transaction). v.port) same ∙ j.port

same-number : (past : Trace) (p : ℕ) (c : Channel) (k m : ℕ) (x y : Transaction) → slice_get (barriers past p c) k ≡ Some x → slice_get (barriers past p c) m ≡ Some y → x ≡ y → k ≡ m
same-number past p c k m x y a b same =
    sym (barriers-half past p c k x a).number ∙ ap (λ (v : Transaction). length (barriers (at_point v.place past) p c)) same ∙ (barriers-half past p c m y b).number

chan-of : (past : Trace) (p : ℕ) (c : Channel) (k : ℕ) (x : Transaction) → slice_get (barriers past p c) k ≡ Some x → x.chan ≡ c
chan-of past p c k x a = (is_barrier_of-is x p c (barriers-half past p c k x a).barrier).chan

-- halves on the two channels aren't one
apart : (past : Trace) (p q k m : ℕ) (x y : Transaction) → slice_get (barriers past p Read) k ≡ Some x → slice_get (barriers past q Write) m ≡ Some y → x.place ≡ y.place → ⊥
apart past p q k m x y a b same =
    let one = one-place past x y (half-in past p Read k x a).0 (half-in past q Write m y b).0 same in
    let bad : Read ≡ Write = sym (chan-of past p Read k x a) ∙ ap (λ (v : Transaction). v.chan) one ∙ chan-of past q Write m y b in cc

-- ---- the R and the B ---------------------------------------------------------------------------------

module _ (past : Trace) (t : AreTogether past) (p k : ℕ) (x y : Transaction) (rx : slice_get (barriers past p Read) k ≡ Some x) (wy : slice_get (barriers past p Write) k ≡ Some y)
    (nx : transaction_of past p Read x.id ≡ Some x) (ny : transaction_of past p Write y.id ≡ Some y) (resp word answer : ℕ) where
  abbrev later : Trace
  later = B p y.id answer ∷ R p x.id resp true word ∷ past

  completed-then : (z : Transaction) → is_completed later z ≡ ((y.place == z.place) || ((x.place == z.place) || is_completed past z))
  completed-then z = rw (nx, ny) refl

  -- the same pair, or another
  read-cases : (q m : ℕ) (u v : Transaction) → slice_get (barriers past q Read) m ≡ Some u → slice_get (barriers past q Write) m ≡ Some v
      → (x.place == u.place) ≡ (y.place == v.place)
  read-cases q m u v ru wv =
      elim (cases_Bool (x.place == u.place)) [
        | inl here ↦
            let one = one-place past x u (half-in past p Read k x rx).0 (half-in past q Read m u ru).0 (eqb-true x.place u.place here) in
            let port = same-port past p q Read k m x u rx ru one in
            let there : slice_get (barriers past p Read) m ≡ Some u = subst (λ r. slice_get (barriers past r Read) m ≡ Some u) (sym port) ru in
            let number = same-number past p Read k m x u rx there one in
            let also : slice_get (barriers past q Write) m ≡ Some y = rw (← port, ← number) wy in
            let other = Some-injective y v (sym also ∙ wv) in
            here ∙ sym (eq-eqb y.place v.place (ap (λ (z : Transaction). z.place) other))
        | inr none ↦ elim (cases_Bool (y.place == v.place)) [
          | inr also ↦ none ∙ sym also
          | inl there ↦
              let one = one-place past y v (half-in past p Write k y wy).0 (half-in past q Write m v wv).0 (eqb-true y.place v.place there) in
              let port = same-port past p q Write k m y v wy wv one in
              let at : slice_get (barriers past p Write) m ≡ Some v = subst (λ r. slice_get (barriers past r Write) m ≡ Some v) (sym port) wv in
              let number = same-number past p Write k m y v wy at one in
              let also : slice_get (barriers past q Read) m ≡ Some x = rw (← port, ← number) rx in
              let other = Some-injective x u (sym also ∙ ru) in
              let bad = eq-eqb x.place u.place (ap (λ (z : Transaction). z.place) other) in cc
        ]
      ]

  both-then : (q m : ℕ) (u v : Transaction) → slice_get (barriers past q Read) m ≡ Some u → slice_get (barriers past q Write) m ≡ Some v
      → is_completed later u ≡ is_completed later v
  both-then q m u v ru wv =
      let crossed : (y.place == u.place) ≡ false = ne_eqb y.place u.place (λ same. apart past q p m k u y ru wy (sym same)) in
      let uncrossed : (x.place == v.place) ≡ false = ne_eqb x.place v.place (λ same. apart past p q k m x v rx wv same) in
      let same = read-cases q m u v ru wv in
      let old = t.both q m u v ru wv in
      completed-then u
      ∙ ap (λ b. b || ((x.place == u.place) || is_completed past u)) crossed
      ∙ ap (λ b. b || is_completed past u) same
      ∙ ap (λ b. (y.place == v.place) || b) old
      ∙ sym (completed-then v ∙ ap (λ b. (y.place == v.place) || (b || is_completed past v)) uncrossed)

  answered-together : AreTogether later
  answered-together = record { as_many = t.as_many; both = both-then }

-- ---- the burst ---------------------------------------------------------------------------------------

-- A transfer, a response, in all but what they say.
record IsTransfer (p i : ℕ) (e : Event) : Type 0 where
  resp : ℕ
  word : ℕ
  is : e ≡ R p i resp true word

record IsResponse (p i : ℕ) (e : Event) : Type 0 where
  resp : ℕ
  is : e ≡ B p i resp

is-transfer : (p i resp word : ℕ) (e : Event) → same_event (R p i resp true word) e ≡ true → IsTransfer p i e
is-transfer p i resp word (R q j r l w) same =
    let p1 = and_parts ((p == q) && (i == j) && (resp == r) && same_test true l) (word == w) same in
    let p2 = and_parts ((p == q) && (i == j) && (resp == r)) (same_test true l) p1.0 in
    let p3 = and_parts ((p == q) && (i == j)) (resp == r) p2.0 in
    let p4 = and_parts (p == q) (i == j) p3.0 in
    record { resp = r; word = w; is = rw (eqb-true p q p4.0, eqb-true i j p4.1, ← same_test-at true l p2.1) refl }
is-transfer p i resp word e same = cc

is-response : (p i resp : ℕ) (e : Event) → same_event (B p i resp) e ≡ true → IsResponse p i e
is-response p i resp (B q j r) same =
    let p3 = and_parts ((p == q) && (i == j)) (resp == r) same in
    let p4 = and_parts (p == q) (i == j) p3.0 in
    record { resp = r; is = rw (eqb-true p q p4.0, eqb-true i j p4.1) refl }
is-response p i resp e same = cc

-- the first transfer of a barrier is to come, where its R breaks no rule
none-yet : (h : Header) (past : Trace) (x : Transaction) (resp : ℕ) (last : Bool) → is_some_and (read_kind x) is_read_barrier ≡ true → is_due h past resp last x ≡ true
    → transfers past x.port x.id ≡ 0
none-yet h past x resp last reads due =
    let k = is_some_and-is (read_kind x) is_read_barrier reads in
    let next = is_some_and-at (read_kind x) (is_next_transfer past x last) k.0 (and_parts (is_some_and (read_kind x) (is_next_transfer past x last)) _ due).0 k.1 in
    let low = ltb-true (transfers past x.port x.id) (beats_of k.0) (and_parts (nat_lt (transfers past x.port x.id) (beats_of k.0)) _ next).0 in
    let one = barrier-beats k.0 k.2 in
    omega (arith, low, one)
  where
    barrier-beats : (k : ArKind) → is_read_barrier k ≡ true → beats_of k ≡ 1
    barrier-beats read.Barrier b = refl
    barrier-beats k b = cc

-- an outstanding read without a transfer isn't complete
read-undone : (h : Header) (past : Trace) (x : Transaction) → IsAccepted h past → outstanding h past x.port Read x.id ≡ Some x → transfers past x.port x.id ≡ 0
    → is_completed past x ≡ false
read-undone h past x a out none =
    false_from_ne_true (is_completed past x) (λ done.
    let complete = complete_by_name past x.port Read x.id x (outstanding-named h past x.port Read x.id x out) ∙ done in
    full_some past x.port x.id x (done_read h past a x.port x.id x out complete) none)

-- what isn't complete is outstanding
pub undone-outstanding : (h : Header) (past : Trace) (y : Transaction) → IsAccepted h past → IsIssued past y → is_completed past y ≡ false → is_outstanding h past y ≡ true
undone-outstanding h past y a i undone =
    elim (cases_Bool (is_outstanding h past y)) [
      | inl out ↦ out
      | inr ended ↦ let done = ended_complete h past y a i ended in cc
    ]

-- the halves of the pair of an outstanding half
record PairOf (h : Header) (past : Trace) (x y : Transaction) : Type 0 where
  number : ℕ
  first : slice_get (barriers past x.port Read) number ≡ Some x
  second : slice_get (barriers past x.port Write) number ≡ Some y
  out : outstanding h past x.port Read x.id ≡ Some x
  reads : is_some_and (read_kind x) is_read_barrier ≡ true

pair-answered : (h : Header) (past : Trace) (x y : Transaction) (e f : Event) → IsAccepted h past → AreTogether past → PairOf h past x y
    → are_kept h past (e ∷ f ∷ []) ≡ true → IsTransfer x.port x.id e → IsResponse x.port y.id f → AreTogether (f ∷ e ∷ past)
pair-answered h past x y e f a t w k transfer response =
    let broken = kept-breaks-none h past e (and_parts (is_kept h past e) _ k).0 in
    let eighteen : k18 h past e ≡ true = kept rules 18 h past e broken in
    let due_some : is_some_and (outstanding h past x.port Read x.id) (is_due h past transfer.resp true) ≡ true = subst (λ d. k18 h past d ≡ true) transfer.is eighteen in
    let due = is_some_and-at (outstanding h past x.port Read x.id) (is_due h past transfer.resp true) x due_some w.out in
    let none = read-undone h past x a w.out (none-yet h past x transfer.resp true w.reads due) in
    let undone : is_completed past y ≡ false = sym (t.both x.port w.number x y w.first w.second) ∙ none in
    let i = half-in past x.port Write w.number y w.second in
    let half = is_barrier_of-is y x.port Write (barriers-half past x.port Write w.number y w.second).barrier in
    let out = outstanding_is h past y i.0 (undone-outstanding h past y a i.0 undone) in
    let own : transaction_of past y.port y.chan y.id ≡ Some y = outstanding-named h past y.port y.chan y.id y out in
    let named : transaction_of past x.port Write y.id ≡ Some y =
    sym (at_name (transaction_of past) y x.port Write y.id (record { port = half.port; chan = half.chan; id = refl })) ∙ own in
    let both = answered-together past t x.port w.number x y w.first w.second (outstanding-named h past x.port Read x.id x w.out) named transfer.resp transfer.word response.resp in
    subst (λ d. AreTogether (d ∷ e ∷ past)) (sym response.is)
    (subst (λ d. AreTogether (B x.port y.id response.resp ∷ d ∷ past)) (sym transfer.is) both)

answers-together : (h : Header) (past : Trace) (x y : Transaction) (burst : List Event) → IsAccepted h past → AreTogether past → PairOf h past x y → are_kept h past burst ≡ true
    → same_burst (plain_transfer x ∷ B x.port y.id 0 ∷ []) burst ≡ true → AreTogether (onto burst past)
answers-together h past x y [] a t w k same = cc
answers-together h past x y (e ∷ []) a t w k same = let bad = (and_parts (same_event (plain_transfer x) e) false same).1 in cc
answers-together h past x y (e ∷ f ∷ []) a t w k same =
    let first = and_parts (same_event (plain_transfer x) e) _ same in
    let second = (and_parts (same_event (B x.port y.id 0) f) true first.1).0 in
    pair-answered h past x y e f a t w k (is-transfer x.port x.id 0 0 e first.0) (is-response x.port y.id 0 f second)
answers-together h past x y (e ∷ f ∷ g ∷ burst) a t w k same =
    let first = and_parts (same_event (plain_transfer x) e) _ same in
    let bad = (and_parts (same_event (B x.port y.id 0) f) false first.1).1 in cc

barrier-answered : (h : Header) (past : Trace) (burst : List Event) → IsAccepted h past → AreTogether past → are_kept h past burst ≡ true → AnswersBarrier h past burst
    → AreTogether (onto burst past)
barrier-answered h past burst a t k b =
    let x = b.half in
    let kind = is_some_and-is (read_kind x) is_read_barrier b.reads in
    let reads = (read_writes_none x kind.0 kind.1).1 in
    let one = reads-half past x b.pair b.issued b.reads reads b.pair_is in
    let halves = pairs-halves past x.port (number_of past x) b.pair b.pair_is in
    let chan = is_read-is x.chan reads in
    let write = is_barrier_of-is b.pair.write x.port Write halves.write.barrier in
    let w : PairOf h past x b.pair.write = record {
      number = number_of past x;
      first = subst (λ (z : Transaction). slice_get (barriers past x.port Read) (number_of past x) ≡ Some z) one (half-there past x.port Read (number_of past x) b.pair.read halves.read);
      second = half-there past x.port Write (number_of past x) b.pair.write halves.write;
      out = subst (λ c. outstanding h past x.port c x.id ≡ Some x) chan (outstanding_is h past x b.issued b.out);
      reads = b.reads;
    } in
    let same : same_burst (plain_transfer x ∷ B x.port b.pair.write.id 0 ∷ []) burst ≡ true =
    subst (λ q. same_burst (plain_transfer x ∷ B q b.pair.write.id 0 ∷ []) burst ≡ true) write.port
    (subst (λ (z : Transaction). same_burst (plain_transfer z ∷ B b.pair.write.port b.pair.write.id 0 ∷ []) burst ≡ true) one b.same) in
    answers-together h past x b.pair.write burst a t w k same

-- ---- each step ---------------------------------------------------------------------------------------

together-kept : (plan : Plan) (past : Trace) (p : ℕ) (burst : List Event) → IsAccepted plan.header past → AreTogether past → is_step plan past p burst ≡ true
    → AreTogether (onto burst past)
together-kept plan past p burst a t step =
    elim (order-shape plan past p burst step) [
      | inl quiet ↦ quiet-together burst past t quiet
      | inr (inl r) ↦
          let out = outstanding_is plan.header past r.of r.issued r.out in
          responses-together burst past r.of t (outstanding-named plan.header past r.of.port r.of.chan r.of.id r.of out) r.issued r.no_barrier r.all
      | inr (inr (inl b)) ↦ barrier-answered plan.header past burst a t (step-kept plan past p burst step) b
      | inr (inr (inr (inl beside))) ↦ ordinary-together burst past p t beside.0
      | inr (inr (inr (inr (inl other)))) ↦ ordinary-together burst past p t other.1
      | inr (inr (inr (inr (inr asks)))) ↦ barrier-together past p burst t asks
    ]

-- In each run the halves of barriers are together.
pub halves-together : (plan : Plan) (past : Trace) → AreSteps plan past → AreTogether past
halves-together plan past s =
    (of-each-run plan (λ t. IsAccepted plan.header t × AreTogether t) (tt, record { as_many = λ p. refl; both = λ p k x y a b. cc })
    (λ before p burst both step. (accepted-after plan.header burst before both.0 (step-kept plan before p burst step), together-kept plan before p burst both.0 both.1 step))
    past s).1
