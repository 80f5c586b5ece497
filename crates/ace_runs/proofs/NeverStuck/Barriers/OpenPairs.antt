-- The pair of a barrier half that isn't complete: both halves are there, and none is complete. It may be answered where no line transaction of
-- the port is outstanding, as each that came before it is complete and has had its order point.
use Rattle.std.proofs.Common.{◌≡◌, ℕ, zero, suc, Bool, true, false, ◌&&◌, ◌==◌, nat_lt, if◌then◌else◌, List, [], ◌∷◌, length, Some, slice_get, get_or, refl, ap, ◌∙◌, arith}
use Rattle.std.proofs.lemmas.Bool.{and_parts, and_from, eqb-true, eq-eqb}
use Rattle.std.proofs.lemmas.Option.{slice_get-get_or, slice_get_within}
use Rattle.ace_event.specs.declared.event.Channel.{Channel}
use Rattle.ace_event.specs.declared.event.Channel.TheVariants.{Read, Write}
use Rattle.ace_event.specs.declared.header.Header.{Header}
use Rattle.ace_model.specs.declared.transactions.Transaction.{Transaction}
use Rattle.ace_model.specs.Accepted.{IsAccepted}
use Rattle.ace_model.specs.Barriers.{Pair, barriers, is_awaited, is_barrier_half, is_before, is_synchronisation, may_answer, number_of, pair_of, paired, pairs, place_of}
use Rattle.ace_model.specs.Progress.{is_completed, is_ordered}
use Rattle.ace_model.specs.Trace.{Trace, at_point, implies}
use Rattle.ace_model.specs.Transactions.{is_line, is_outstanding}
use Rattle.ace_model.proofs.Barriers.OrderPoints.{completed-ordered}
use Rattle.ace_model.proofs.Barriers.Pairs.{barriers-half, is_barrier_of-is}
use Rattle.ace_model.proofs.General.Options.{Some-injective}
use Rattle.ace_model.proofs.Outstanding.Waiting.{ended_complete}
use Rattle.ace_model.proofs.Trace.Growth.{IsIssued}
use Rattle.ace_model.proofs.Trace.Looks.{same_channel-self}
use Rattle.ace_runs.proofs.NeverStuck.Barriers.EachIssued.{each-from}
use Rattle.ace_runs.proofs.NeverStuck.Reads.PlainTransfers.{half-there}
use Rattle.ace_runs.proofs.NeverStuck.Reads.TransfersKept.{implied_by}
use Rattle.ace_runs.proofs.NeverStuck.Barriers.Together.{AreTogether}

-- ---- the pair of a half ------------------------------------------------------------------------------

-- The two halves of a barrier of the port, of which none is complete.
pub record IsOpen (past : Trace) (p : ℕ) (x y : Transaction) : Type 0 where
  pub number : ℕ
  pub first : slice_get (barriers past p Read) number ≡ Some x
  pub second : slice_get (barriers past p Write) number ≡ Some y
  pub undone : is_completed past x ≡ false

half-at : (past : Trace) (x : Transaction) → IsIssued past x → is_barrier_half x ≡ true → slice_get (barriers past x.port x.chan) (number_of past x) ≡ Some x
half-at past x i half =
    half-there past x.port x.chan (number_of past x) x
    (record { stands = i; barrier = and_from _ _ (and_from _ _ half (eq-eqb x.port x.port refl)) (same_channel-self x.chan); number = refl })

with-write : (past : Trace) (p k : ℕ) (x : Transaction) → AreTogether past → slice_get (barriers past p Read) k ≡ Some x → is_completed past x ≡ false
    → (y : Transaction) × IsOpen past p x y
with-write past p k x t there undone =
    let low = slice_get_within (barriers past p Read) k x there in
    let many = t.as_many p in
    let y = get_or (barriers past p Write) k x in
    (y, record { number = k; first = there; second = slice_get-get_or (barriers past p Write) k x (omega (arith, low, many)); undone = undone })

with-read : (past : Trace) (p k : ℕ) (y : Transaction) → AreTogether past → slice_get (barriers past p Write) k ≡ Some y → is_completed past y ≡ false
    → (x : Transaction) × IsOpen past p x y
with-read past p k y t there undone =
    let low = slice_get_within (barriers past p Write) k y there in
    let many = t.as_many p in
    let x = get_or (barriers past p Read) k y in
    let first = slice_get-get_or (barriers past p Read) k y (omega (arith, low, many)) in
    (x, record { number = k; first = first; second = there; undone = t.both p k x y first there ∙ undone })

pub open-pair : (past : Trace) (z : Transaction) → AreTogether past → IsIssued past z → is_barrier_half z ≡ true → is_completed past z ≡ false
    → (x : Transaction) × (y : Transaction) × IsOpen past z.port x y
open-pair past z t i half undone = by z.chan (half-at past z i half)
  where
    by : (c : Channel) → slice_get (barriers past z.port c) (number_of past z) ≡ Some z → (x : Transaction) × (y : Transaction) × IsOpen past z.port x y
    by Read there = let o = with-write past z.port (number_of past z) z t there undone in (z, o.0, o.1)
    by Write there = let o = with-read past z.port (number_of past z) z t there undone in (o.0, z, o.1)

pub paired-at : (rs ws : List Transaction) (k : ℕ) (x y : Transaction) → slice_get rs k ≡ Some x → slice_get ws k ≡ Some y
    → slice_get (paired rs ws) k ≡ Some (record { read = x; write = y })
paired-at [] ws k x y r w = cc
paired-at (a ∷ rs) [] k x y r w = cc
paired-at (a ∷ rs) (b ∷ ws) zero x y r w =
    let first = Some-injective a x r in let second = Some-injective b y w in
    ap (λ v. Some (record { read = v; write = b })) first ∙ ap (λ v. Some (record { read = x; write = v })) second
paired-at (a ∷ rs) (b ∷ ws) (suc k) x y r w = paired-at rs ws k x y r w

pub pair-is : (past : Trace) (p : ℕ) (x y : Transaction) → IsOpen past p x y → pair_of past x ≡ Some (record { read = x; write = y })
pair-is past p x y o =
    let i = barriers-half past p Read o.number x o.first in
    let half = is_barrier_of-is x p Read i.barrier in
    let number : number_of past x ≡ o.number = ap (λ q. length (barriers (at_point x.place past) q x.chan)) half.port ∙ ap (λ c. length (barriers (at_point x.place past) p c)) half.chan ∙ i.number in
    ap (λ q. slice_get (pairs past q) (number_of past x)) half.port ∙ ap (slice_get (pairs past p)) number
    ∙ paired-at (barriers past p Read) (barriers past p Write) o.number x y o.first o.second

-- ---- what comes before it ----------------------------------------------------------------------------

either : (b c d : Bool) → c ≡ true → d ≡ true → (if b then c else d) ≡ true
either true c d x y = x
either false c d x y = y

-- what is complete has come far enough
is-awaited : (h : Header) (past : Trace) (b : Pair) (y : Transaction) → IsAccepted h past → IsIssued past y → is_line y ≡ true → is_outstanding h past y ≡ false
    → is_awaited past b y ≡ true
is-awaited h past b y a i line ended =
    let done = ended_complete h past y a i ended in
    either (is_synchronisation b) (is_completed past y) (is_ordered past y) done (completed-ordered h y past done a i.there line)

-- no line transaction of the port is outstanding
abbrev pub HasNoLine : Header → Trace → ℕ → Type 0
HasNoLine h past p = (y : Transaction) → IsIssued past y → is_line y ≡ true → y.port ≡ p → is_outstanding h past y ≡ false

pub may-be-answered : (h : Header) (past : Trace) (p : ℕ) (b : Pair) → IsAccepted h past → HasNoLine h past p → may_answer past p b ≡ true
may-be-answered h past p b a none =
    each-from past (λ y. implies (is_before y p b) (is_awaited past b y)) (λ y i.
    implied_by (is_before y p b) (is_awaited past b y) (λ before.
    let p1 = and_parts ((y.port == p) && is_line y && (y.bar == 0)) (nat_lt y.place (place_of b)) before in
    let p2 = and_parts ((y.port == p) && is_line y) (y.bar == 0) p1.0 in
    let p3 = and_parts (y.port == p) (is_line y) p2.0 in
    is-awaited h past b y a i p3.1 (none y i p3.1 (eqb-true y.port p p3.0))))
