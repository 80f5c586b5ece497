-- The first of the steps that are due: what may be taken for a transaction below a number, and which of two goes first.
use Rattle.std.proofs.Common.{◌≡◌, ◌⊎◌, ℕ, ◌<◌, ◌≤◌, Bool, true, false, ◌==◌, nat_lt, if◌then◌else◌, List, [], ◌∷◌, Option, Some, None, refl, sym, ap, subst, ◌∙◌, inl, inr, arith}
use Rattle.std.proofs.lemmas.Bool.{cases_Bool, eqb-false, eqb-true, ltb-false, ltb-true}
use Rattle.ace_event.specs.declared.event.Channel.{Channel}
use Rattle.ace_event.specs.declared.event.Channel.TheVariants.{Read, Write}
use Rattle.ace_event.specs.declared.event.Event.{Event}
use Rattle.ace_event.specs.declared.header.Header.{Header}
use Rattle.ace_model.specs.declared.transactions.Transaction.{Transaction}
use Rattle.ace_model.specs.Accepted.{IsAccepted}
use Rattle.ace_model.specs.Grants.{has_grant}
use Rattle.ace_model.specs.Trace.{Trace}
use Rattle.ace_runs.specs.Bursts.{is_kept, may_begin}
use Rattle.ace_runs.specs.LineSteps.{grant_burst, passed_burst, transfer_burst, write_burst}
use Rattle.ace_home.specs.declared.due.Due.{Due}
use Rattle.ace_home.specs.declared.service.Service.{Service}
use Rattle.ace_home.specs.declared.service.Service.TheVariants as service
use Rattle.ace_home.specs.Among.{PortSets, has_snoop_among}
use Rattle.ace_home.specs.Home.{IsOf}
use Rattle.ace_home.specs.Services.{IsLeastFor, TakesNoneBelow, all_steps, first_kept, may_take, number_of}
use Rattle.ace_home.specs.Turns.{IsBehind, IsFirst, IsFirstOf, due_by, goes_first, sooner}
use Rattle.ace_home.proofs.Among.{fewer-snoops}
use Rattle.ace_home.proofs.FirstEvents.{passed-ungranted, read-no-write, snoop-ungranted, transfer-ungranted, write-no-transfer, write-ungranted}

-- ---- one transaction ---------------------------------------------------------------------------------

pub none-begins : (h : Header) (past : Trace) (burst : List Event) → first_kept h past burst ≡ None → may_begin h past burst ≡ false
none-begins h past [] none = refl
none-begins h past (e ∷ burst) none = by (is_kept h past e) none
  where
    by : (b : Bool) → (if b then Some e else None) ≡ None → b ≡ false
    by true is = cc
    by false is = refl

either-false : (b : Bool) (this rest : Bool) → (b ≡ true → this ≡ false) → rest ≡ false → (if b then this else rest) ≡ false
either-false true this rest f g = f refl
either-false false this rest f g = g

-- what none of the five takes below a number
takes-none-below : (among : PortSets) (h : Header) (past : Trace) (x : Transaction) (n : ℕ) → (5 < n → may_begin h past (grant_burst h past x) ≡ false) → (6 < n → has_snoop_among among h past x ≡ false)
    → (7 < n → may_begin h past (passed_burst h past x) ≡ false) → (8 < n → may_begin h past (transfer_burst h past x) ≡ false)
    → (9 < n → may_begin h past (write_burst h past x) ≡ false) → TakesNoneBelow among n h past x
takes-none-below among h past x n five six seven eight nine m low =
    either-false (m == 5) _ _ (λ is. let at = eqb-true m 5 is in five (omega (arith, low, at)))
    (either-false (m == 6) _ _ (λ is. let at = eqb-true m 6 is in six (omega (arith, low, at)))
    (either-false (m == 7) _ _ (λ is. let at = eqb-true m 7 is in seven (omega (arith, low, at)))
    (either-false (m == 8) _ _ (λ is. let at = eqb-true m 8 is in eight (omega (arith, low, at)))
    (either-false (m == 9) _ _ (λ is. let at = eqb-true m 9 is in nine (omega (arith, low, at))) refl))))

module _ (among : PortSets) (h : Header) (past : Trace) (x : Transaction) where
  abbrev NoGrant : Type 0
  NoGrant = first_kept h past (grant_burst h past x) ≡ None

  abbrev NoPassed : Type 0
  NoPassed = first_kept h past (passed_burst h past x) ≡ None

  abbrev NoTransfer : Type 0
  NoTransfer = first_kept h past (transfer_burst h past x) ≡ None

  abbrev NoWrite : Type 0
  NoWrite = first_kept h past (write_burst h past x) ≡ None

  pub below-grant : TakesNoneBelow among 5 h past x
  below-grant =
      takes-none-below among h past x 5 (λ low. absurd (omega (arith, low))) (λ low. absurd (omega (arith, low))) (λ low. absurd (omega (arith, low))) (λ low. absurd (omega (arith, low)))
      (λ low. absurd (omega (arith, low)))

  pub below-snoops : NoGrant → TakesNoneBelow among 6 h past x
  below-snoops grant =
      takes-none-below among h past x 6 (λ _. none-begins h past (grant_burst h past x) grant) (λ low. absurd (omega (arith, low))) (λ low. absurd (omega (arith, low))) (λ low. absurd (omega (arith, low)))
      (λ low. absurd (omega (arith, low)))

  pub below-passed : NoGrant → has_snoop_among among h past x ≡ false → TakesNoneBelow among 7 h past x
  below-passed grant snoop =
      takes-none-below among h past x 7 (λ _. none-begins h past (grant_burst h past x) grant) (λ _. snoop) (λ low. absurd (omega (arith, low))) (λ low. absurd (omega (arith, low)))
      (λ low. absurd (omega (arith, low)))

  pub below-transfer : NoGrant → has_snoop_among among h past x ≡ false → NoPassed → TakesNoneBelow among 8 h past x
  below-transfer grant snoop passed =
      takes-none-below among h past x 8 (λ _. none-begins h past (grant_burst h past x) grant) (λ _. snoop) (λ _. none-begins h past (passed_burst h past x) passed)
      (λ low. absurd (omega (arith, low))) (λ low. absurd (omega (arith, low)))

  pub below-write : NoGrant → has_snoop_among among h past x ≡ false → NoPassed → NoTransfer → TakesNoneBelow among 9 h past x
  below-write grant snoop passed transfer =
      takes-none-below among h past x 9 (λ _. none-begins h past (grant_burst h past x) grant) (λ _. snoop) (λ _. none-begins h past (passed_burst h past x) passed)
      (λ _. none-begins h past (transfer_burst h past x) transfer) (λ low. absurd (omega (arith, low)))

  pub takes-none : NoGrant → has_snoop_among among h past x ≡ false → NoPassed → NoTransfer → NoWrite → TakesNoneBelow among all_steps h past x
  takes-none grant snoop passed transfer write =
      takes-none-below among h past x 10 (λ _. none-begins h past (grant_burst h past x) grant) (λ _. snoop) (λ _. none-begins h past (passed_burst h past x) passed)
      (λ _. none-begins h past (transfer_burst h past x) transfer) (λ _. none-begins h past (write_burst h past x) write)

  -- one that isn't granted waits for its G
  pub ungranted-takes-none : IsAccepted h past → (p : ℕ) → IsOf h past p x → has_grant past x.port x.chan x.id ≡ false → NoGrant → TakesNoneBelow among all_steps h past x
  ungranted-takes-none a p o none grant =
      takes-none grant (fewer-snoops among h past x (snoop-ungranted h past a p x o none)) (passed-ungranted h past a p x o none) (no-transfer x.chan refl) (no-write x.chan refl)
    where
      no-transfer : (c : Channel) → x.chan ≡ c → NoTransfer
      no-transfer Read is = transfer-ungranted h past a p x o is none
      no-transfer Write is = write-no-transfer h past a p x o is

      no-write : (c : Channel) → x.chan ≡ c → NoWrite
      no-write Read is = read-no-write h past a p x o is
      no-write Write is = write-ungranted h past a p x o is none

-- ---- of two transactions -----------------------------------------------------------------------------

few-numbers : (s : Service) → number_of s < all_steps
few-numbers (service.Grant e) = omega arith
few-numbers service.Snoops = omega arith
few-numbers (service.Passed e) = omega arith
few-numbers (service.Transfer e) = omega arith
few-numbers (service.Write e) = omega arith

module _ (among : PortSets) (h : Header) (past : Trace) (p : ℕ) (these those all : Transaction → Type 0) (each : (y : Transaction) → all y → these y ⊎ those y) where
  -- what is first for some is first for all where none of the others goes before it
  stays-first : (d : Due) → IsFirst among h past p these d → ((y : Transaction) → those y → TakesNoneBelow among (number_of d.service) h past y)
      → ((y : Transaction) → those y → y.place < d.transaction.place → may_take among (number_of d.service) h past y ≡ false) → IsFirst among h past p all d
  stays-first d first least oldest = record {
    due = first.due;
    least = λ y one. elim (each y one) [ inl t ↦ first.least y t | inr t ↦ least y t ];
    oldest = λ y one older. elim (each y one) [ inl t ↦ first.oldest y t older | inr t ↦ oldest y t older ];
  }

  stays-alone : (d : Due) → IsFirst among h past p these d → ((y : Transaction) → those y → TakesNoneBelow among all_steps h past y) → IsFirst among h past p all d
  stays-alone d first none =
      let few = few-numbers d.service in
      stays-first d first (λ y t m low. none y t m (omega (arith, low, few))) (λ y t _. none y t (number_of d.service) few)

  stays-before : (d e : Due) → IsFirst among h past p these d → IsFirst among h past p those e
      → (number_of d.service < number_of e.service) ⊎ ((number_of d.service ≡ number_of e.service) × (d.transaction.place ≤ e.transaction.place)) → IsFirst among h past p all d
  stays-before d e first other before =
      elim before [
        | inl lesser ↦ stays-first d first (λ y t m low. other.least y t m (omega (arith, low, lesser))) (λ y t _. other.least y t (number_of d.service) lesser)
        | inr same ↦
            let number = same.0 in
            let older = same.1 in
            stays-first d first (λ y t m low. other.least y t m (omega (arith, low, number)))
            (λ y t low. ap (λ n. may_take among n h past y) number ∙ other.oldest y t (omega (arith, low, older)))
      ]

goes-before : (d e : Due) → goes_first d e ≡ true
    → (number_of d.service < number_of e.service) ⊎ ((number_of d.service ≡ number_of e.service) × (d.transaction.place ≤ e.transaction.place))
goes-before d e t = elim (cases_Bool (number_of d.service == number_of e.service)) [
  | inl same ↦
      let first : nat_lt d.transaction.place e.transaction.place ≡ true = rw same at t in
      let low = ltb-true d.transaction.place e.transaction.place first in
      inr (eqb-true (number_of d.service) (number_of e.service) same, omega (arith, low))
  | inr apart ↦ let lesser : nat_lt (number_of d.service) (number_of e.service) ≡ true = rw apart at t in inl (ltb-true (number_of d.service) (number_of e.service) lesser)
]

goes-after : (d e : Due) → goes_first d e ≡ false
    → (number_of e.service < number_of d.service) ⊎ ((number_of e.service ≡ number_of d.service) × (e.transaction.place ≤ d.transaction.place))
goes-after d e f = elim (cases_Bool (number_of d.service == number_of e.service)) [
  | inl same ↦
      let first : nat_lt d.transaction.place e.transaction.place ≡ false = rw same at f in
      let low = ltb-false d.transaction.place e.transaction.place first in
      inr (sym (eqb-true (number_of d.service) (number_of e.service) same), omega (arith, low))
  | inr apart ↦
      let lesser : nat_lt (number_of d.service) (number_of e.service) ≡ false = rw apart at f in
      let low = ltb-false (number_of d.service) (number_of e.service) lesser in
      let other = eqb-false (number_of d.service) (number_of e.service) apart in
      inl (omega (arith, low, other))
]

pub first-sooner : (among : PortSets) (h : Header) (past : Trace) (p : ℕ) (these those all : Transaction → Type 0) (one other : Option Due) → IsFirstOf among h past p these one → IsFirstOf among h past p those other
    → ((y : Transaction) → all y → these y ⊎ those y) → IsFirstOf among h past p all (sooner one other)
first-sooner among h past p these those all None None one other each = λ y t. elim (each y t) [ inl u ↦ one y u | inr u ↦ other y u ]
first-sooner among h past p these those all None (Some e) one other each =
    stays-alone among h past p those these all (λ y t. elim (each y t) [ inl u ↦ inr u | inr u ↦ inl u ]) e other one
first-sooner among h past p these those all (Some d) None one other each = stays-alone among h past p these those all each d one other
first-sooner among h past p these those all (Some d) (Some e) one other each =
    elim (cases_Bool (goes_first d e)) [
      | inl t ↦ subst (IsFirstOf among h past p all) (ap (λ b. Some (if b then d else e)) (sym t)) (stays-before among h past p these those all each d e one other (goes-before d e t))
      | inr f ↦
          subst (IsFirstOf among h past p all) (ap (λ b. Some (if b then d else e)) (sym f))
          (stays-before among h past p those these all (λ y t. elim (each y t) [ inl u ↦ inr u | inr u ↦ inl u ]) e d other one (goes-after d e f))
    ]

-- what is first stays so beside others that go behind it
pub first-stays : (among : PortSets) (h : Header) (past : Trace) (p : ℕ) (these those all : Transaction → Type 0) (one : Option Due) → IsFirstOf among h past p these one
    → ((y : Transaction) → those y → IsBehind among h past y one) → ((y : Transaction) → all y → these y ⊎ those y) → IsFirstOf among h past p all one
first-stays among h past p these those all None none behind each = λ y t. elim (each y t) [ inl u ↦ none y u | inr u ↦ behind y u ]
first-stays among h past p these those all (Some d) first behind each =
    stays-first among h past p these those all each d first (λ y t. (behind y t).0) (λ y t older. (behind y t).1 older)

pub sooner-none : (one : Option Due) → sooner one None ≡ one
sooner-none None = refl
sooner-none (Some d) = refl

-- the step of one transaction
pub first-alone : (among : PortSets) (h : Header) (past : Trace) (p : ℕ) (x : Transaction) (s : Option Service) → IsOf h past p x → IsLeastFor among h past x s → IsFirstOf among h past p (λ y. x ≡ y) (due_by x s)
first-alone among h past p x None o none = λ y same. subst (TakesNoneBelow among all_steps h past) same none
first-alone among h past p x (Some s) o least = record {
  due = record { pending = o; serves = least.0 };
  least = λ y same. subst (TakesNoneBelow among (number_of s) h past) same least.1;
  oldest = λ y same older. let place = ap (λ (v : Transaction). v.place) same in absurd (omega (arith, older, place));
}

-- what is first for some is first for fewer
pub first-of-fewer : (among : PortSets) (h : Header) (past : Trace) (p : ℕ) (these fewer : Transaction → Type 0) (one : Option Due) → IsFirstOf among h past p these one → ((y : Transaction) → fewer y → these y)
    → IsFirstOf among h past p fewer one
first-of-fewer among h past p these fewer None none each = λ y t. none y (each y t)
first-of-fewer among h past p these fewer (Some d) first each = record {
  due = first.due;
  least = λ y t. first.least y (each y t);
  oldest = λ y t. first.oldest y (each y t);
}
