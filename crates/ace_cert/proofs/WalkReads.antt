-- The places of reads with one more event, and whether a load or a beat is right by what is kept.
use Rattle.std.proofs.Common.{◌≡◌, inl, inr, ℕ, ◌+◌, ◌-◌, ◌<◌, Bool, true, false, not, ◌&&◌, ◌||◌, min, nat_eq, nat_le, nat_lt, if◌then◌else◌, List, ◌∷◌, length, reverse, Option, Some, None, option_map, refl, sym, ap, ◌∙◌, arith}
use Rattle.std.proofs.lemmas.Bool.{cases_Bool, cases_eq, eq-eqb, ne_eqb}
use Rattle.std.specs.Ordering.{nat_cmp}
use Rattle.std.specs.BTreeMap.{BTreeMap, get}
use Rattle.ace_model.specs.declared.transactions.Transaction.{Transaction}
use Rattle.ace_model.proofs.Terms.{Event, L, R, Read, Write, Trace, at_point, data_writes, stores_data, write_kind, is_line_read_transaction, is_some_and, option_filter, transaction_of, transfers, value_of, word_of}
use Rattle.ace_model.proofs.General.Options.{Some-injective}
use Rattle.ace_model.proofs.Trace.Issued.{transaction_of-name, transaction_of-stands}
use Rattle.ace_model.proofs.Trace.Places.{issued_at-below}
use Rattle.ace_cert.specs.declared.cert.ReadPlace.{ReadPlace}
use Rattle.ace_cert.specs.declared.verification.kept.Kept.{Kept}
use Rattle.ace_cert.specs.declared.verification.lines.Facts.{Facts}
use Rattle.ace_cert.specs.declared.verification.names.Reading.{Reading}
use Rattle.ace_cert.specs.declared.verification.names.Writing.{Writing}
use Rattle.ace_cert.specs.declared.verification.places.Placed.{Placed}
use Rattle.ace_cert.specs.Certificates.{place_in}
use Rattle.ace_cert.specs.Checks.{beat_passes, first_grant, is_read_at, is_read_number, transfer_passes}
use Rattle.ace_cert.specs.Walk.{ArePlacesKept, IsKept, facts_behind, is_beat_right_at, head_of, place_under, reading_of, seen_at, seen_one, writing_of}

-- A number

shift : (a n : ℕ) → (nat_lt 0 n && nat_eq a (n - 1)) ≡ nat_eq (a + 1) n
shift a n =
    elim (cases_eq (a + 1) n) [
      | inl same ↦
          let low : nat_lt 0 n ≡ true = grind (arith, same) in
          rw (low, eq-eqb a (n - 1) (omega (arith, same))) (sym (eq-eqb (a + 1) n same))
      | inr apart ↦ elim (cases_Bool (nat_lt 0 n)) [
        | inr f ↦ rw f (sym (ne_eqb (a + 1) n apart))
        | inl t ↦
            let low : 0 < n = grind (arith, t) in
            rw (t, ne_eqb a (n - 1) (λ e. apart (omega (arith, e, low)))) (sym (ne_eqb (a + 1) n apart))
      ]
    ]

and-or : (a b c : Bool) → (a && (b || c)) ≡ ((a && b) || (a && c))
and-or true b c = refl
and-or false b c = refl

and-false : (a b : Bool) → (a && (b || false)) ≡ ((a && b) || false)
and-false true b = refl
and-false false b = refl

-- which reads the trace has with one more event
number-grown : (past : Trace) (e : Event) (n : ℕ) → is_read_number (e ∷ past) n ≡ (is_read_number past n || is_some_and (seen_at past e) (λ m. nat_eq m n))
number-grown past (L p l w x word) n =
    and-or (nat_lt 0 n) (is_read_at past (n - 1)) (nat_eq (length past) (n - 1)) ∙ ap (λ b. is_read_number past n || b) (shift (length past) n)
number-grown past (R p i resp last word) n = by (transaction_of past p Read i)
  where
    by : (o : Option Transaction)
        → (nat_lt 0 n && (is_read_at past (n - 1) || is_some_and o (λ x. is_line_read_transaction x && nat_eq x.place (n - 1))))
        ≡ (is_read_number past n || is_some_and (option_map (λ (x : Transaction). x.place + 1) (option_filter is_line_read_transaction o)) (λ m. nat_eq m n))
    by None = and-false (nat_lt 0 n) (is_read_at past (n - 1))
    by (Some x) =
        elim (cases_Bool (is_line_read_transaction x)) [
          | inr f ↦ rw f (and-false (nat_lt 0 n) (is_read_at past (n - 1)))
          | inl t ↦
              rw t (and-or (nat_lt 0 n) (is_read_at past (n - 1)) (nat_eq x.place (n - 1)) ∙ ap (λ b. is_read_number past n || b) (shift x.place n))
        ]
number-grown past _ n = and-false (nat_lt 0 n) (is_read_at past (n - 1))

marked : (b r : Bool) (o : Option ℕ)
    → (if b then option_map seen_one (option_map {U = Placed} (λ q. record { place = q; seen = r }) o) else option_map {U = Placed} (λ q. record { place = q; seen = r }) o)
    ≡ option_map {U = Placed} (λ q. record { place = q; seen = r || b }) o
marked true true None = refl
marked true false None = refl
marked false true None = refl
marked false false None = refl
marked true true (Some q) = refl
marked true false (Some q) = refl
marked false true (Some q) = refl
marked false false (Some q) = refl

pub places-grown : (reads : List ReadPlace) (past : Trace) (e : Event) (old new : BTreeMap ℕ Placed) → ArePlacesKept reads past old
    → ((k : ℕ) → get nat_cmp new k ≡ (if is_some_and (seen_at past e) (λ m. nat_eq m k) then option_map seen_one (get nat_cmp old k) else get nat_cmp old k))
    → ArePlacesKept reads (e ∷ past) new
places-grown reads past e old new kept after = λ number.
    let b = is_some_and (seen_at past e) (λ m. nat_eq m number) in
    after number ∙ ap (λ o. if b then option_map seen_one o else o) (kept number) ∙ marked b (is_read_number past number) (place_under reads number)
    ∙ ap (λ r. option_map {U = Placed} (λ q. record { place = q; seen = r }) (place_under reads number)) (sym (number-grown past e number))

-- A place

placed-is : (o : Option ℕ) (s : Bool) (p : Placed) → option_map {U = Placed} (λ q. record { place = q; seen = s }) o ≡ Some p → (o ≡ Some p.place) × (p.seen ≡ s)
placed-is None s p is = cc
placed-is (Some q) s p is =
    let one = Some-injective {A = Placed} (record { place = q; seen = s }) p is in
    (ap (λ n. Some n) (ap (λ (v : Placed). v.place) one), sym (ap (λ (v : Placed). v.seen) one))

none-placed : (o : Option ℕ) (s : Bool) → option_map {U = Placed} (λ q. record { place = q; seen = s }) o ≡ None → o ≡ None
none-placed None s is = refl
none-placed (Some q) s is = cc

module _ (reads : List ReadPlace) (past : Trace) (places : BTreeMap ℕ Placed) (kept : ArePlacesKept reads past places) where
  pub place-is : (number : ℕ) (p : Placed) → get nat_cmp places number ≡ Some p → (place_under reads number ≡ Some p.place) × (p.seen ≡ is_read_number past number)
  place-is number p is = placed-is (place_under reads number) (is_read_number past number) p (sym (kept number) ∙ is)

  pub place-none : (number : ℕ) → get nat_cmp places number ≡ None → place_under reads number ≡ None
  place-none number is = none-placed (place_under reads number) (is_read_number past number) (sym (kept number) ∙ is)

never : (b c : Bool) → false ≡ ((b && false) && c)
never true c = refl
never false c = refl

-- what is kept of a read
pub reading-parts : (past : Trace) (p i : ℕ) (r : Reading) → reading_of past p i ≡ Some r
    → (transaction_of past p Read i ≡ Some r.transaction) × (r.transfers ≡ transfers past p i) × (r.granted ≡ first_grant past p i)
reading-parts past p i r is = by (transaction_of past p Read i) is
  where
    by : (o : Option Transaction) → option_map {U = Reading} (λ x. record { transaction = x; transfers = transfers past p i; granted = first_grant past p i }) o ≡ Some r
        → (o ≡ Some r.transaction) × (r.transfers ≡ transfers past p i) × (r.granted ≡ first_grant past p i)
    by None is = cc
    by (Some x) is =
        let one = Some-injective {A = Reading} (record { transaction = x; transfers = transfers past p i; granted = first_grant past p i }) r is in
        (ap (λ y. Some y) (ap (λ (v : Reading). v.transaction) one), sym (ap (λ (v : Reading). v.transfers) one), sym (ap (λ (v : Reading). v.granted) one))

-- a beat of a read, by what is kept
pub beat-exact : (reads : List ReadPlace) (past : Trace) (kept : Kept) (n p i : ℕ) (r : Reading) (word : ℕ) → IsKept past kept → ArePlacesKept reads past kept.places → n ≡ length past
    → length past < 1048576 → reading_of past p i ≡ Some r
    → is_some_and (get nat_cmp kept.places (min (r.transaction.place + 1) 18446744073709551615)) (λ q. is_beat_right_at kept n r q.place word)
    ≡ beat_passes reads past r.transaction r.transfers word
beat-exact reads past kept n p i r word k places here few is =
    let x = r.transaction in
    let parts = reading-parts past p i r is in
    let name = transaction_of-name past p Read i x parts.0 in
    let granted : first_grant past x.port x.id ≡ r.granted = ap (λ q. first_grant past q x.id) name.port ∙ ap (first_grant past p) name.id ∙ sym parts.2 in
    let low = issued_at-below past x.place x (transaction_of-stands past p Read i x parts.0).there in
    let number : min (x.place + 1) 18446744073709551615 ≡ x.place + 1 = omega (arith, low, few) in
    ap (λ m. is_some_and (get nat_cmp kept.places m) (λ (q : Placed). is_beat_right_at kept n r q.place word)) number
    ∙ by (get nat_cmp kept.places (x.place + 1)) refl granted
  where
    with_grant : (q : Placed) (g : Option ℕ) → first_grant past r.transaction.port r.transaction.id ≡ g
        → is_some_and g (λ v. nat_le q.place n && nat_le v q.place
        && nat_eq word (word_of (facts_behind (reverse kept.lines.marks.items) (head_of kept.lines.heads r.transaction.addr) q.place).value r.transfers))
        ≡ (nat_le q.place (length past) && is_some_and (first_grant past r.transaction.port r.transaction.id) (λ v. nat_le v q.place)
        && nat_eq word (word_of (value_of (at_point q.place past) r.transaction.addr) r.transfers))
    with_grant q None g = rw g (never (nat_le q.place (length past)) (nat_eq word (word_of (value_of (at_point q.place past) r.transaction.addr) r.transfers)))
    with_grant q (Some v) g =
        let value : (facts_behind (reverse kept.lines.marks.items) (head_of kept.lines.heads r.transaction.addr) q.place).value ≡ value_of (at_point q.place past) r.transaction.addr =
        ap (λ (f : Facts). f.value) (k.lines.facts r.transaction.addr q.place) in
        rw (g, value, here) refl

    by : (o : Option Placed) → get nat_cmp kept.places (r.transaction.place + 1) ≡ o → first_grant past r.transaction.port r.transaction.id ≡ r.granted
        → is_some_and o (λ q. is_beat_right_at kept n r q.place word) ≡ beat_passes reads past r.transaction r.transfers word
    by None there granted =
        let place : place_in reads r.transaction.place ≡ None = place-none reads past kept.places places (r.transaction.place + 1) there in
        rw place refl
    by (Some q) there granted =
        let place : place_in reads r.transaction.place ≡ Some q.place = (place-is reads past kept.places places (r.transaction.place + 1) q there).0 in
        rw place (with_grant q r.granted granted)

-- a transfer, by what is kept
pub transfer-exact : (reads : List ReadPlace) (past : Trace) (kept : Kept) (n p i : ℕ) (r : Reading) (word : ℕ) → IsKept past kept → ArePlacesKept reads past kept.places → n ≡ length past
    → length past < 1048576 → reading_of past p i ≡ Some r
    → (not (is_line_read_transaction r.transaction)
    || is_some_and (get nat_cmp kept.places (min (r.transaction.place + 1) 18446744073709551615)) (λ q. is_beat_right_at kept n r q.place word))
    ≡ transfer_passes reads past (transaction_of past p Read i) (transfers past p i) word
transfer-exact reads past kept n p i r word k places here few is =
    let parts = reading-parts past p i r is in
    ap (λ b. not (is_line_read_transaction r.transaction) || b) (beat-exact reads past kept n p i r word k places here few is)
    ∙ ap (λ m. not (is_line_read_transaction r.transaction) || beat_passes reads past r.transaction m word) parts.1
    ∙ ap (λ o. transfer_passes reads past o (transfers past p i) word) (sym parts.0)

pub transfer-beat : (reads : List ReadPlace) (past : Trace) (kept : Kept) (n p i : ℕ) (r : Reading) (word : ℕ) → IsKept past kept → ArePlacesKept reads past kept.places → n ≡ length past
    → length past < 1048576 → reading_of past p i ≡ Some r → is_line_read_transaction r.transaction ≡ true
    → is_some_and (get nat_cmp kept.places (min (r.transaction.place + 1) 18446744073709551615)) (λ q. is_beat_right_at kept n r q.place word)
    ≡ transfer_passes reads past (transaction_of past p Read i) (transfers past p i) word
transfer-beat reads past kept n p i r word k places here few is t =
    let beat = is_some_and (get nat_cmp kept.places (min (r.transaction.place + 1) 18446744073709551615)) (λ (q : Placed). is_beat_right_at kept n r q.place word) in
    ap (λ b. not b || beat) (sym t) ∙ transfer-exact reads past kept n p i r word k places here few is

-- what is kept of a write
pub writing-parts : (past : Trace) (p i : ℕ) (w : Writing) → writing_of past p i ≡ Some w
    → (transaction_of past p Write i ≡ Some w.transaction) × (w.earlier ≡ length (data_writes (at_point w.transaction.place past) p))
writing-parts past p i w is = by (transaction_of past p Write i) is
  where
    by : (o : Option Transaction) → option_map {U = Writing} (λ x. record { transaction = x; earlier = length (data_writes (at_point x.place past) p) }) o ≡ Some w
        → (o ≡ Some w.transaction) × (w.earlier ≡ length (data_writes (at_point w.transaction.place past) p))
    by None is = cc
    by (Some x) is =
        let one = Some-injective {A = Writing} (record { transaction = x; earlier = length (data_writes (at_point x.place past) p) }) w is in
        let same : x ≡ w.transaction = ap (λ (v : Writing). v.transaction) one in
        (ap (λ y. Some y) same, sym (ap (λ (v : Writing). v.earlier) one) ∙ ap (λ (y : Transaction). length (data_writes (at_point y.place past) p)) same)

-- a read stores no data
pub no-data : (past : Trace) (p i : ℕ) (x : Transaction) → transaction_of past p Read i ≡ Some x → stores_data x ≡ true → ⊥
no-data past p i x is stores =
    let chan = (transaction_of-name past p Read i x is).chan in
    let kind : write_kind x ≡ None = rw chan refl in
    let none : stores_data x ≡ false = rw kind refl in
    cc

-- The number of the read that a transfer shows

pub shown : (past : Trace) (p i : ℕ) (r : Reading) → length past < 1048576 → reading_of past p i ≡ Some r → is_line_read_transaction r.transaction ≡ true
    → Some (min (r.transaction.place + 1) 18446744073709551615)
    ≡ option_map (λ (x : Transaction). x.place + 1) (option_filter is_line_read_transaction (transaction_of past p Read i))
shown past p i r few is t =
    let parts = reading-parts past p i r is in
    let low = issued_at-below past r.transaction.place r.transaction (transaction_of-stands past p Read i r.transaction parts.0).there in
    let number : min (r.transaction.place + 1) 18446744073709551615 ≡ r.transaction.place + 1 = omega (arith, low, few) in
    rw (parts.0, t) (ap (λ n. Some n) number)
