-- Each accepted trace has each account: its reads follow one order of its stores, so it has a certificate.
use Rattle.std.proofs.Common.{◌≡◌, ◌<◌, ◌≤◌, ◌+◌, ◌-◌, ℕ, suc, zero, Bool, true, false, ◌||◌, ◌&&◌, nat_eq, nat_lt, List, [], ◌∷◌, length, map, slice_get, Option, Some, None, option_map, unwrap_or, ◌↔◌, refl, sym, ap, subst, ◌∙◌, inl, inr, arith}
use Rattle.std.specs.List.{All, AllByRecursion, Contains, filter, list_any, range_with_len}
use Rattle.std.specs.List.Sorted.{IsStrictlyIncreasing, IsStrictlySortedBy}
use Rattle.std.specs.Cmp.{nat_cmp_is}
use Rattle.std.specs.Ordering.{nat_cmp}
use Rattle.std.specs.declared.cmp.Ordering.TheVariants.{Less}
use Rattle.std.proofs.lemmas.Bool.{cases_Bool, and_parts, and_from, eqb-true, eq-eqb, ne_eqb, or_cases}
use Rattle.std.proofs.lemmas.List.Kept.{IsStrictlyIncreasing-filter}
use Rattle.std.proofs.lemmas.Map.Keys.{IsStrictlyIncreasing-from_sorted}
use Rattle.std.proofs.lemmas.Option.{slice_get-map, slice_get_within}
use Rattle.ace_event.specs.Range.{FitsFields}
use Rattle.ace_event.specs.declared.header.Header.{Header}
use Rattle.ace_model.specs.declared.transactions.Transaction.{Transaction}
use Rattle.ace_model.specs.Accepted.{IsAccepted}
use Rattle.ace_model.specs.Lines.{is_known, known_lines}
use Rattle.ace_model.specs.ReadsFollow.{FollowsAt, ReadsFollow}
use Rattle.ace_model.specs.Values.{value_of}
use Rattle.ace_model.specs.Copies.{word_of}
use Rattle.ace_model.proofs.Coherence.{accepted_coherent}
use Rattle.ace_model.proofs.Terms.{Event, L, R, Read, Trace, at_point, is_line_read_transaction, transaction_of, IsLoad, IsBeat, HasBeat, IsReadBy}
use Rattle.ace_model.proofs.General.Options.{is_some_and-is}
use Rattle.ace_model.proofs.Trace.Issued.{transaction_of-stands}
use Rattle.ace_cert.specs.declared.cert.Cert.{Cert}
use Rattle.ace_cert.specs.declared.cert.LineOrder.{LineOrder}
use Rattle.ace_cert.specs.declared.cert.ReadPlace.{ReadPlace}
use Rattle.ace_cert.specs.Certificates.{IsCertificate, IsReadNumber, place_in, place_of, store_numbers}
use Rattle.ace_cert.specs.Checks.{is_read_at, is_read_number, reads_at}
use Rattle.ace_cert.proofs.Elements.{all-from_places, contains-at, contains-from, find-at, rises}
use Rattle.ace_cert.proofs.ReadEvents.{read_at-from, read_at-is}
use Rattle.ace_report.specs.Report.{in_order, report_text}
use Rattle.ace_report.proofs.Order.{is_one, known-listed, lines-sorted, order-has}
use Rattle.ace_account.specs.Accounts.{IsAccount}
use Rattle.ace_account.specs.Certificate.{cert_text}
use Rattle.ace_account.specs.declared.listener.Account.{Account}
use Rattle.ace_account.specs.declared.listener.Account.TheVariants.{Report, Order}

-- ---- numbers in order

less : (a b : ℕ) → a < b → nat_cmp a b ≡ Less
less a b lt = sym (nat_cmp_is a b Less lt)

range-above : (a b n : ℕ) → a < b → AllByRecursion (λ y. nat_cmp a y ≡ Less) (range_with_len b n)
range-above a b zero lt = tt
range-above a b (suc n) lt = (less a b lt, range-above a (b + 1) n (omega (arith, lt)))

range-sorted : (a n : ℕ) → IsStrictlySortedBy nat_cmp (range_with_len a n)
unfolding IsStrictlySortedBy
range-sorted a zero = tt
range-sorted a (suc n) = (range-above a (a + 1) n (omega arith), range-sorted (a + 1) n)

in-range : (a n k : ℕ) → k < n → slice_get (range_with_len a n) k ≡ Some (a + k)
in-range a zero k low = absurd (omega (arith, low))
in-range a (suc n) zero low = ap (λ x. Some x) (omega arith)
in-range a (suc n) (suc k) low = in-range (a + 1) n k (omega (arith, low)) ∙ ap (λ x. Some x) (omega arith)

-- an element that passes is one of those that pass
passed : (test : ℕ → Bool) (xs : List ℕ) (k y : ℕ) → slice_get xs k ≡ Some y → test y ≡ true → (j : ℕ) × (slice_get (filter test xs) j ≡ Some y)
passed test [] k y there is = cc
passed test (x ∷ xs) zero y there is =
    let same : x ≡ y = cc in
    let now : test x ≡ true = ap test same ∙ is in
    (0, rw now there)
passed test (x ∷ xs) (suc k) y there is =
    let rest = passed test xs k y there is in
    elim (cases_Bool (test x)) [
      | inl t ↦ (suc rest.0, rw t rest.1)
      | inr f ↦ (rest.0, rw f rest.1)
    ]

passes : (test : ℕ → Bool) (xs : List ℕ) (j y : ℕ) → slice_get (filter test xs) j ≡ Some y → test y ≡ true
passes test [] j y there = cc
passes test (x ∷ xs) j y there =
    elim (cases_Bool (test x)) [
      | inl t ↦ first t j (rw t at there) (λ i. passes test xs i y)
      | inr f ↦ passes test xs j y (rw f at there)
    ]
  where
    first : test x ≡ true → (j : ℕ) → slice_get (x ∷ filter test xs) j ≡ Some y → ((i : ℕ) → slice_get (filter test xs) i ≡ Some y → test y ≡ true) → test y ≡ true
    first t zero there later = let same : x ≡ y = cc in ap test (sym same) ∙ t
    first t (suc i) there later = later i there

-- an element that a test finds
found : (q : ℕ) (xs : List ℕ) → is_one q xs ≡ true → (k : ℕ) × (slice_get xs k ≡ Some q)
found q [] is = cc
found q (x ∷ xs) is =
    elim (cases_Bool (nat_eq q x)) [
      | inl t ↦ (0, ap (λ n. Some n) (sym (eqb-true q x t)))
      | inr f ↦ let rest = found q xs (rw f at is) in (suc rest.0, rest.1)
    ]

finds : (q : ℕ) (xs : List ℕ) (k : ℕ) → slice_get xs k ≡ Some q → is_one q xs ≡ true
finds q [] k there = cc
finds q (x ∷ xs) zero there =
    let same : x ≡ q = cc in
    let t : nat_eq q x ≡ true = eq-eqb q x (sym same) in
    rw t refl
finds q (x ∷ xs) (suc k) there =
    elim (cases_Bool (nat_eq q x)) [ inl t ↦ rw t refl | inr f ↦ rw f (finds q xs k there) ]

-- ---- the lines

module _ (past : Trace) where
  abbrev order_of : ℕ → LineOrder
  order_of l = record { addr = l; stores = store_numbers past l }

  abbrev lines : List ℕ
  lines = in_order (known_lines past)

  abbrev orders : List LineOrder
  orders = map order_of lines

  addresses : (ls : List ℕ) → map (λ (o : LineOrder). o.addr) (map order_of ls) ≡ ls
  addresses [] = refl
  addresses (l ∷ ls) = ap (λ xs. l ∷ xs) (addresses ls)

  lines-rise : IsStrictlyIncreasing (map (λ (o : LineOrder). o.addr) orders)
  lines-rise = subst IsStrictlyIncreasing (sym (addresses lines)) (IsStrictlyIncreasing-from_sorted lines (lines-sorted past))

  is_listed : (l : ℕ) → is_one l lines ≡ is_known past l
  is_listed l = order-has l (known_lines past) ∙ known-listed past l

  order-at : (k l : ℕ) → slice_get lines k ≡ Some l → slice_get orders k ≡ Some (order_of l)
  order-at k l there = slice_get-map order_of lines k ∙ ap (option_map order_of) there

  order-is : (k : ℕ) (o : LineOrder) → slice_get orders k ≡ Some o → (l : ℕ) × (slice_get lines k ≡ Some l) × (o ≡ order_of l)
  order-is k o there = by (slice_get lines k) refl (sym (slice_get-map order_of lines k) ∙ there)
    where
      by : (found : Option ℕ) → slice_get lines k ≡ found → option_map order_of found ≡ Some o → (l : ℕ) × (slice_get lines k ≡ Some l) × (o ≡ order_of l)
      by None is e = cc
      by (Some l) is e = (l, is, cc)

  named : (l : ℕ) → Contains (map (λ (o : LineOrder). o.addr) orders) l ↔ (is_known past l ≡ true)
  named l = (
    λ c.
        let at = contains-at (λ (o : LineOrder). o.addr) orders l c in
        let is = order-is at.0 at.1.0 at.1.1.0 in
        let addr : is.0 ≡ l = sym (ap (λ (o : LineOrder). o.addr) is.2) ∙ at.1.1.1 in
        sym (is_listed l) ∙ finds l lines at.0 (is.1 ∙ ap (λ n. Some n) addr),
    λ known.
        let at = found l lines (is_listed l ∙ known) in
        contains-from (λ (o : LineOrder). o.addr) orders at.0 (order_of l) (order-at at.0 l at.1),
  )

  stores-right : All (λ (o : LineOrder). o.stores ≡ store_numbers past o.addr) orders
  stores-right =
      all-from_places (λ (o : LineOrder). o.stores ≡ store_numbers past o.addr) orders
      (λ k o there. let is = (order-is k o there).2 in subst (λ (x : LineOrder). x.stores ≡ store_numbers past x.addr) (sym is) refl)

-- ---- the reads

-- a read has its place in the trace
read-within : (past : Trace) (n : ℕ) → is_read_at past n ≡ true → n < length past
read-within [] n t = cc
read-within (e ∷ past) n t =
    elim (or_cases (is_read_at past n) (reads_at past e n) t) [
      | inl old ↦ let low = read-within past n old in omega (arith, low)
      | inr new ↦ now past e n new
    ]
  where
    now : (past : Trace) (e : Event) (n : ℕ) → reads_at past e n ≡ true → n < length (e ∷ past)
    now past (L p l w x word) n new = let here = eqb-true (length past) n new in omega (arith, here)
    now past (R p i resp last word) n new =
        let s = is_some_and-is (transaction_of past p Read i) (λ x. is_line_read_transaction x && nat_eq x.place n) new in
        let same = eqb-true s.0.place n (and_parts (is_line_read_transaction s.0) (nat_eq s.0.place n) s.2).1 in
        let before = (transaction_of-stands past p Read i s.0 s.1).before in
        omega (arith, before, same)
    now past e n new = cc

module _ (past : Trace) (point : ℕ → ℕ) where
  abbrev read_of : ℕ → ReadPlace
  read_of number = record { event = number; place = point (number - 1) }

  abbrev numbers : List ℕ
  numbers = filter (is_read_number past) (range_with_len 0 (length past + 1))

  abbrev reads : List ReadPlace
  reads = map read_of numbers

  events : (ns : List ℕ) → map (λ (r : ReadPlace). r.event) (map read_of ns) ≡ ns
  events [] = refl
  events (n ∷ ns) = ap (λ xs. n ∷ xs) (events ns)

  reads-rise : IsStrictlyIncreasing (map (λ (r : ReadPlace). r.event) reads)
  reads-rise =
      subst IsStrictlyIncreasing (sym (events numbers))
      (IsStrictlyIncreasing-filter (is_read_number past) (range_with_len 0 (length past + 1))
      (IsStrictlyIncreasing-from_sorted (range_with_len 0 (length past + 1)) (range-sorted 0 (length past + 1))))

  read-at : (k n : ℕ) → slice_get numbers k ≡ Some n → slice_get reads k ≡ Some (read_of n)
  read-at k n there = slice_get-map read_of numbers k ∙ ap (option_map read_of) there

  read-is : (k : ℕ) (r : ReadPlace) → slice_get reads k ≡ Some r → (n : ℕ) × (slice_get numbers k ≡ Some n) × (r ≡ read_of n)
  read-is k r there = by (slice_get numbers k) refl (sym (slice_get-map read_of numbers k) ∙ there)
    where
      by : (found : Option ℕ) → slice_get numbers k ≡ found → option_map read_of found ≡ Some r → (n : ℕ) × (slice_get numbers k ≡ Some n) × (r ≡ read_of n)
      by None is e = cc
      by (Some n) is e = (n, is, cc)

  -- the number of a read is one of them
  numbered : (n : ℕ) → is_read_at past n ≡ true → (k : ℕ) × (slice_get numbers k ≡ Some (n + 1))
  numbered n is =
      let low : n < length past = read-within past n is in
      let back : n + 1 - 1 ≡ n = omega arith in
      let positive : nat_lt 0 (n + 1) ≡ true = grind arith in
      let test : is_read_number past (n + 1) ≡ true = and_from (nat_lt 0 (n + 1)) (is_read_at past (n + 1 - 1)) positive (ap (is_read_at past) back ∙ is) in
      let within : n + 1 < length past + 1 = omega (arith, low) in
      let there : 0 + (n + 1) ≡ n + 1 = omega arith in
      passed (is_read_number past) (range_with_len 0 (length past + 1)) (n + 1) (n + 1)
      (in-range 0 (length past + 1) (n + 1) within ∙ ap (λ x. Some x) there) test

  reads_named : (number : ℕ) → Contains (map (λ (r : ReadPlace). r.event) reads) number ↔ IsReadNumber past number
  reads_named number = (
    λ c.
        let at = contains-at (λ (r : ReadPlace). r.event) reads number c in
        let is = read-is at.0 at.1.0 at.1.1.0 in
        let same : is.0 ≡ number = sym (ap (λ (r : ReadPlace). r.event) is.2) ∙ at.1.1.1 in
        let test : is_read_number past number ≡ true = ap (is_read_number past) (sym same) ∙ passes (is_read_number past) (range_with_len 0 (length past + 1)) at.0 is.0 is.1 in
        let parts = and_parts (nat_lt 0 number) (is_read_at past (number - 1)) test in
        let positive : 0 < number = grind (arith, parts) in
        let back : number ≡ number - 1 + 1 = omega (arith, positive) in
        (number - 1, (back, read_at-is past (number - 1) parts.1)),
    λ read.
        let test = read_at-from past read.1.1.0 read.1.1.1.0 read.0 read.1.1.1.1 in
        let at = numbered read.0 test in
        subst (Contains (map (λ (r : ReadPlace). r.event) reads)) (sym read.1.0)
        (contains-from (λ (r : ReadPlace). r.event) reads at.0 (read_of (read.0 + 1)) (read-at at.0 (read.0 + 1) at.1)),
  )

  -- the list gives each read its point
  place-is : (n : ℕ) → is_read_at past n ≡ true → place_of reads n ≡ point n
  place-is n is =
      let at = numbered n is in
      let there = read-at at.0 (n + 1) at.1 in
      let back : n + 1 - 1 ≡ n = omega arith in
      let placed : place_in reads n ≡ Some (point (n + 1 - 1)) =
      ap (option_map (λ (v : ReadPlace). v.place))
      (find-at (λ (v : ReadPlace). nat_eq v.event (n + 1)) reads at.0 (read_of (n + 1)) there (eq-eqb (n + 1) (n + 1) (refl {a = n + 1}))
      (λ j y low here. let below = rises (λ (v : ReadPlace). v.event) reads reads-rise j at.0 y (read_of (n + 1)) low here there in ne_eqb y.event (n + 1) (λ same. absurd (omega (arith, same, below)))))
      in
      ap (λ o. unwrap_or o 0) placed ∙ ap point back

  by_read : (p l n : ℕ) → IsReadBy past p l n → place_of reads n ≡ point n
  by_read p l n read = place-is n (read_at-from past p l n read)

  by_load : (n p l w word : ℕ) → IsLoad past n p l w word → place_of reads n ≡ point n
  by_load n p l w word load = by_read p l n (inl (w, (word, load)))

  by_beat : (x : Transaction) → HasBeat past x → place_of reads x.place ≡ point x.place
  by_beat x beat = by_read x.port x.addr x.place (inr (x, beat, refl, refl, refl))

  one_beat : (n k word : ℕ) (x : Transaction) → IsBeat past n x k word → place_of reads x.place ≡ point x.place
  one_beat n k word x beat = by_beat x (n, (k, (word, beat)))

  follows : FollowsAt past point → FollowsAt past (place_of reads)
  follows f = record {
    load_now = λ n p l w word load. by_load n p l w word load ∙ f.load_now n p l w word load;
    load_word = f.load_word;
    granted = λ x beat. let g = f.granted x beat in (g.0, (g.1.0, subst (λ m. g.0 < m) (sym (by_beat x beat)) g.1.1));
    before_beats = λ n k word x beat. subst (λ m. m ≤ n) (sym (one_beat n k word x beat)) (f.before_beats n k word x beat);
    beat_word = λ n k word x beat. f.beat_word n k word x beat ∙ ap (λ m. word_of (value_of (at_point m past) x.addr) k) (sym (one_beat n k word x beat));
    in_order = λ p l n m first second before.
        subst (λ a. a ≤ place_of reads m) (sym (by_read p l n first)) (subst (λ b. point n ≤ b) (sym (by_read p l m second)) (f.in_order p l n m first second before));
  }

-- ---- a certificate

-- a trace whose reads follow one order of its stores has a certificate
pub some_certificate : (past : Trace) → ReadsFollow past → (cert : Cert) × IsCertificate past cert
some_certificate past (point, f) = (
  record { lines = orders past; reads = reads past point },
  record {
    lines_in_order = lines-rise past;
    lines_named = named past;
    stores = stores-right past;
    reads_in_order = reads-rise past point;
    reads_named = reads_named past point;
    places = follows past point f;
  },
)

pub some_account : (account : Account) (h : Header) (past : Trace) → IsAccepted h past → AllByRecursion FitsFields past
    → (text : List ℕ) × IsAccount account h past text
some_account Report h past accepted fits = (report_text h past, refl)
some_account Order h past accepted fits =
    let cert = some_certificate past (accepted_coherent h past accepted fits).reads_follow in
    (cert_text cert.0, (cert.0, cert.1, refl))
