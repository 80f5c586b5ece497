-- The tests of a certificate pass exactly where it is one.
use Rattle.std.proofs.Common.{◌≡◌, inl, inr, ℕ, ◌+◌, ◌-◌, ◌<◌, ◌≤◌, true, ◌&&◌, nat_eq, nat_lt, List, [], ◌∷◌, length, map, reverse, slice_get, Option, Some, None, option_map, unwrap_or, refl, sym, ap, subst, ◌∙◌, arith}
use Rattle.std.specs.Prelude.{find}
use Rattle.std.specs.List.{Contains}
use Rattle.std.specs.List.Sorted.{IsStrictlyIncreasing}
use Rattle.std.proofs.lemmas.Bool.{and_parts, and_from, cases_Bool, eqb-true, eq-eqb, ne_eqb, or_cases, or_left, or_right}
use Rattle.std.proofs.lemmas.List.Folds.{Any-from_list_any, list_any-from_Any}
use Rattle.ace_model.specs.declared.transactions.Transaction.{Transaction}
use Rattle.ace_model.proofs.Terms.{Event, Trace, is_some_and, implies, is_known, is_line, is_on, issued, HasBeat, IsReadBy}
use Rattle.ace_model.specs.ReadsFollow.{FollowsAt}
use Rattle.ace_model.proofs.General.Options.{is_some_and-is}
use Rattle.ace_model.proofs.General.Booleans.{implies-at}
use Rattle.ace_model.proofs.General.Lists.{slice_get-all}
use Rattle.std.proofs.lemmas.Option.{get_or_from_slice_get, slice_get_within}
use Rattle.ace_model.proofs.Outstanding.Issued.{find-some}
use Rattle.ace_cert.specs.declared.cert.Cert.{Cert}
use Rattle.ace_cert.specs.declared.cert.LineOrder.{LineOrder}
use Rattle.ace_cert.specs.declared.cert.ReadPlace.{ReadPlace}
use Rattle.ace_cert.specs.Certificates.{IsCertificate, IsReadNumber, place_in, place_of, store_numbers}
use Rattle.ace_cert.specs.Checks.{AreInOrder, IsChecked, IsOrderOf, Reader, all_pass, has_line, is_read_at, is_read_number, lists_line, passes, reader_at, same_reader}
use Rattle.ace_cert.proofs.Elements.{all-from_places, contains-at, contains-from, element-at, find-at, place-below, rises}
use Rattle.ace_cert.proofs.Passing.{AreRight, pass-from_right, right-before, right-from_pass}
use Rattle.ace_cert.proofs.ReadEvents.{read_at-from, read_at-is, reader-is}

-- A line

-- the lines have each line that a transaction names
lists-known : (lines : List LineOrder) (reads : List ReadPlace) (past : Trace) (l : ℕ) → all_pass lines reads past ≡ true → is_known past l ≡ true → has_line lines l ≡ true
lists-known lines reads [] l t known = cc
lists-known lines reads (e ∷ past) l t known =
    let parts = and_parts (all_pass lines reads past) (lists_line lines (length past) e && passes reads past e) t in
    let listed = (and_parts (lists_line lines (length past) e) (passes reads past e) parts.1).0 in
    elim (or_cases (is_some_and (issued (length past) e) (λ x. is_on x l)) (is_known past l) known) [
      | inl new ↦
          let s = is_some_and-is (issued (length past) e) (λ x. is_on x l) new in
          let on = and_parts (is_line s.0) (nat_eq s.0.addr l) s.2 in
          let has : implies (is_line s.0) (has_line lines s.0.addr) ≡ true = rw s.1 at listed in
          ap (has_line lines) (sym (eqb-true s.0.addr l on.1)) ∙ implies-at _ _ has on.0
      | inr old ↦ lists-known lines reads past l parts.0 old
    ]

-- the line of the new transaction is in the lines
lists-new : (lines : List LineOrder) (past : Trace) (e : Event) → ((l : ℕ) → is_known (e ∷ past) l ≡ true → has_line lines l ≡ true)
    → lists_line lines (length past) e ≡ true
lists-new lines past e has = test (issued (length past) e) refl
  where
    test : (o : Option Transaction) → issued (length past) e ≡ o → lists_line lines (length past) e ≡ true
    test None is = rw is refl
    test (Some x) is =
        elim (cases_Bool (is_line x)) [
          | inr f ↦ rw (is, f) refl
          | inl t ↦
              let on : is_some_and (issued (length past) e) (λ y. is_on y x.addr) ≡ true =
              rw is (and_from (is_line x) (nat_eq x.addr x.addr) t (eq-eqb x.addr x.addr (refl {a = x.addr}))) in
              let found = has x.addr (or_left _ (is_known past x.addr) on) in
              rw (is, t, found) refl
        ]

all-listed : (lines : List LineOrder) (reads : List ReadPlace) (past : Trace) → ((l : ℕ) → is_known past l ≡ true → has_line lines l ≡ true) → AreRight reads past
    → all_pass lines reads past ≡ true
all-listed lines reads [] has right = refl
all-listed lines reads (e ∷ past) has right =
    and_from (all_pass lines reads past) (lists_line lines (length past) e && passes reads past e)
    (all-listed lines reads past (λ l known. has l (or_right (is_some_and (issued (length past) e) (λ x. is_on x l)) (is_known past l) known)) (right-before reads past e right))
    (and_from (lists_line lines (length past) e) (passes reads past e) (lists-new lines past e has) (pass-from_right reads past e right))

has-contained : (lines : List LineOrder) (l : ℕ) → has_line lines l ≡ true → Contains (map (λ (o : LineOrder). o.addr) lines) l
has-contained lines l has =
    let a = Any-from_list_any (λ (o : LineOrder). nat_eq o.addr l) lines has in
    let s = element-at lines a.0 a.2 in
    let one : s.0 ≡ a.1 = sym (get_or_from_slice_get lines a.0 s.0 a.1 s.1) ∙ a.3 in
    let addr : s.0.addr ≡ l = ap (λ (o : LineOrder). o.addr) one ∙ eqb-true a.1.addr l a.4 in
    subst (Contains (map (λ (o : LineOrder). o.addr) lines)) addr (contains-from (λ (o : LineOrder). o.addr) lines a.0 s.0 s.1)

contained-has : (lines : List LineOrder) (l : ℕ) → Contains (map (λ (o : LineOrder). o.addr) lines) l → has_line lines l ≡ true
contained-has lines l c =
    let s = contains-at (λ (o : LineOrder). o.addr) lines l c in
    list_any-from_Any (λ (o : LineOrder). nat_eq o.addr l) lines
    (s.0, s.1.0, slice_get_within lines s.0 s.1.0 s.1.1.0, get_or_from_slice_get lines s.0 s.1.0 s.1.0 s.1.1.0, eq-eqb s.1.0.addr l s.1.1.1)

-- A read

-- the place that the list gives a read of its
placed-found : (reads : List ReadPlace) (n q : ℕ) → place_in reads n ≡ Some q → (k : ℕ) × ((r : ReadPlace) × ((slice_get reads k ≡ Some r) × (r.event ≡ n + 1) × (r.place ≡ q)))
placed-found reads n q is = found (find (λ (r : ReadPlace). nat_eq r.event (n + 1)) reads) refl is
  where
    found : (o : Option ReadPlace) → find (λ (r : ReadPlace). nat_eq r.event (n + 1)) reads ≡ o → option_map (λ (r : ReadPlace). r.place) o ≡ Some q
        → (k : ℕ) × ((r : ReadPlace) × ((slice_get reads k ≡ Some r) × (r.event ≡ n + 1) × (r.place ≡ q)))
    found None is e = cc
    found (Some r) is e =
        let s = find-some (λ (v : ReadPlace). nat_eq v.event (n + 1)) reads r is in
        (s.0.0, (r, (s.0.1, eqb-true r.event (n + 1) s.1, cc)))

module _ (reads : List ReadPlace) (up : IsStrictlyIncreasing (map (λ (r : ReadPlace). r.event) reads)) where
  placed-at : (k : ℕ) (r : ReadPlace) (n : ℕ) → slice_get reads k ≡ Some r → r.event ≡ n + 1 → place_in reads n ≡ Some r.place
  placed-at k r n there is =
      ap (option_map (λ (v : ReadPlace). v.place))
      (find-at (λ (v : ReadPlace). nat_eq v.event (n + 1)) reads k r there (eq-eqb r.event (n + 1) is)
      (λ j y low at. let below = rises (λ (v : ReadPlace). v.event) reads up j k y r low at there in ne_eqb y.event (n + 1) (λ same. absurd (omega (arith, same)))))

  placed-contained : (n : ℕ) → Contains (map (λ (r : ReadPlace). r.event) reads) (n + 1) → (q : ℕ) × (place_in reads n ≡ Some q)
  placed-contained n c =
      let s = contains-at (λ (r : ReadPlace). r.event) reads (n + 1) c in
      (s.1.0.place, placed-at s.0 s.1.0 n s.1.1.0 s.1.1.1)

read-placed : (reads : List ReadPlace) (past : Trace) (p l n : ℕ) → AreRight reads past → IsReadBy past p l n → (q : ℕ) × (place_in reads n ≡ Some q)
read-placed reads past p l n right (inl load) = (n, right.placed n p l load.0 load.1.0 load.1.1)
read-placed reads past p l n right (inr x) =
    let b = right.beats x.1.0 x.1.1.0 x.1.1.1.0 x.0 x.1.1.1.1 in
    (b.place, ap (place_in reads) (sym x.4) ∙ b.placed)

number-read : (past : Trace) (number : ℕ) → is_read_number past number ≡ true → IsReadNumber past number
number-read past number t =
    let parts = and_parts (nat_lt 0 number) (is_read_at past (number - 1)) t in
    let r = read_at-is past (number - 1) parts.1 in
    let low : 0 < number = grind (arith, parts) in
    (number - 1, (omega arith, (r.0, (r.1.0, r.1.1))))

read-number : (past : Trace) (number : ℕ) → IsReadNumber past number → is_read_number past number ≡ true
read-number past number r =
    let is = r.1.0 in
    let at : number - 1 ≡ r.0 = omega arith in
    let low : nat_lt 0 number ≡ true = grind (arith, is) in
    and_from (nat_lt 0 number) (is_read_at past (number - 1)) low (ap (is_read_at past) at ∙ read_at-from past r.1.1.0 r.1.1.1.0 r.0 r.1.1.1.1)

-- the place of a read is that of its beats
place-of_beats : (reads : List ReadPlace) (n q : ℕ) → place_in reads n ≡ Some q → place_of reads n ≡ q
place-of_beats reads n q is = ap (λ o. unwrap_or o 0) is

same-self : (r : Reader) → same_reader r r ≡ true
same-self r = and_from (nat_eq r.port r.port) (nat_eq r.addr r.addr) (eq-eqb r.port r.port (refl {a = r.port})) (eq-eqb r.addr r.addr (refl {a = r.addr}))

module _ (past : Trace) (cert : Cert) where
  -- reads that the list has in order never go back
  in_order-from : IsChecked past cert → AreRight cert.reads past → (p l n m : ℕ) → IsReadBy past p l n → IsReadBy past p l m → n < m → place_of cert.reads n ≤ place_of cert.reads m
  in_order-from c right p l n m first later less =
      let q = read-placed cert.reads past p l n right first in
      let s = read-placed cert.reads past p l m right later in
      let a = placed-found cert.reads n q.0 q.1 in
      let b = placed-found cert.reads m s.0 s.1 in
      let number_a = a.1.1.1 in
      let number_b = b.1.1.1 in
      let low = place-below (λ (v : ReadPlace). v.event) cert.reads c.reads_rise a.0 b.0 a.1.0 b.1.0 (omega arith) a.1.1.0 b.1.1.0 in
      let same : same_reader (reader_at (reverse past) a.1.0) (reader_at (reverse past) b.1.0) ≡ true =
      rw (reader-is past p l n a.1.0 first number_a, reader-is past p l m b.1.0 later number_b) (same-self (record { port = p; addr = l })) in
      let le = c.in_order a.0 b.0 a.1.0 b.1.0 low a.1.1.0 b.1.1.0 same in
      let place_a = a.1.1.2 in
      let place_b = b.1.1.2 in
      let is_a = place-of_beats cert.reads n q.0 q.1 in
      let is_b = place-of_beats cert.reads m s.0 s.1 in
      omega arith

  follows : IsChecked past cert → AreRight cert.reads past → FollowsAt past (place_of cert.reads)
  follows c right = record {
    load_now = λ n p l w word load. place-of_beats cert.reads n n (right.placed n p l w word load);
    load_word = right.load_word;
    granted = λ x b.
        let s = right.beats b.0 b.1.0 b.1.1.0 x b.1.1.1 in
        let is = place-of_beats cert.reads x.place s.place s.placed in
        (s.granted.0, (s.granted.1.0, let low = s.granted.1.1 in omega arith));
    before_beats = λ n k word x b.
        let s = right.beats n k word x b in
        let is = place-of_beats cert.reads x.place s.place s.placed in
        let low = s.low in
        omega arith;
    beat_word = λ n k word x b.
        let s = right.beats n k word x b in
        let is = place-of_beats cert.reads x.place s.place s.placed in
        rw is s.word_is;
    in_order = in_order-from c right;
  }

  pub certificate-from_checks : IsChecked past cert → IsCertificate past cert
  certificate-from_checks c =
      let right = right-from_pass cert.reads cert.lines past c.passes in
      record {
        lines_in_order = c.lines_rise;
        lines_named = λ l. (
          λ has. let s = contains-at (λ (o : LineOrder). o.addr) cert.lines l has in
              ap (is_known past) (sym s.1.1.1) ∙ (slice_get-all (IsOrderOf past) cert.lines s.0 s.1.0 c.orders s.1.1.0).0,
          λ known. has-contained cert.lines l (lists-known cert.lines cert.reads past l c.passes known),
        );
        stores = all-from_places (λ (o : LineOrder). o.stores ≡ store_numbers past o.addr) cert.lines
            (λ k o there. (slice_get-all (IsOrderOf past) cert.lines k o c.orders there).1);
        reads_in_order = c.reads_rise;
        reads_named = λ number. (
          λ has. let s = contains-at (λ (r : ReadPlace). r.event) cert.reads number has in
              subst (IsReadNumber past) s.1.1.1
              (number-read past s.1.0.event (slice_get-all (λ (r : ReadPlace). is_read_number past r.event ≡ true) cert.reads s.0 s.1.0 c.reads s.1.1.0)),
          λ r. let q = read-placed cert.reads past r.1.1.0 r.1.1.1.0 r.0 right r.1.1.1.1 in
              let s = placed-found cert.reads r.0 q.0 q.1 in
              subst (Contains (map (λ (v : ReadPlace). v.event) cert.reads)) (s.1.1.1 ∙ sym r.1.0)
              (contains-from (λ (v : ReadPlace). v.event) cert.reads s.0 s.1.0 s.1.1.0),
        );
        places = follows c right;
      }

  right-from : IsCertificate past cert → AreRight cert.reads past
  right-from c = record {
    placed = λ n p l w word load.
        let q = placed n p l (inl (w, (word, load))) in
        let now = c.places.load_now n p l w word load in
        let is = place-of_beats cert.reads n q.0 q.1 in
        q.1 ∙ ap (λ v. Some v) (sym is ∙ now);
    load_word = c.places.load_word;
    beats = λ n k word x b.
        let beat : HasBeat past x = (n, (k, (word, b))) in
        let q = placed x.place x.port x.addr (inr (x, beat, refl, refl, refl)) in
        let is = place-of_beats cert.reads x.place q.0 q.1 in
        let g = c.places.granted x beat in
        let under = g.1.1 in
        let low = c.places.before_beats n k word x b in
        record {
          place = q.0;
          placed = q.1;
          low = omega arith;
          granted = (g.0, (g.1.0, omega arith));
          word_is = rw is at (c.places.beat_word n k word x b);
        };
  }
    where
      placed : (n p l : ℕ) → IsReadBy past p l n → (q : ℕ) × (place_in cert.reads n ≡ Some q)
      placed n p l r = placed-contained cert.reads c.reads_in_order n ((c.reads_named (n + 1)).1 (n, (refl, (p, (l, r)))))

  -- the places of the reads of one port and line stand in order in the list
  ordered : IsCertificate past cert → AreInOrder (reverse past) cert.reads
  ordered c = λ i j a b less at_i at_j same.
      let first = (c.reads_named a.event).0 (contains-from (λ (v : ReadPlace). v.event) cert.reads i a at_i) in
      let later = (c.reads_named b.event).0 (contains-from (λ (v : ReadPlace). v.event) cert.reads j b at_j) in
      let number_a = first.1.0 in
      let number_b = later.1.0 in
      let below = rises (λ (v : ReadPlace). v.event) cert.reads c.reads_in_order i j a b less at_i at_j in
      let reads_a = first.1.1.1.1 in
      let reads_b = later.1.1.1.1 in
      let reader_a = reader-is past first.1.1.0 first.1.1.1.0 first.0 a reads_a number_a in
      let reader_b = reader-is past later.1.1.0 later.1.1.1.0 later.0 b reads_b number_b in
      let parts = and_parts (nat_eq first.1.1.0 later.1.1.0) (nat_eq first.1.1.1.0 later.1.1.1.0) (rw (reader_a, reader_b) at same) in
      let port = eqb-true first.1.1.0 later.1.1.0 parts.0 in
      let addr = eqb-true first.1.1.1.0 later.1.1.1.0 parts.1 in
      let moved : IsReadBy past first.1.1.0 first.1.1.1.0 later.0 =
      subst (λ p. IsReadBy past p first.1.1.1.0 later.0) (sym port) (subst (λ l. IsReadBy past later.1.1.0 l later.0) (sym addr) reads_b) in
      let le = c.places.in_order first.1.1.0 first.1.1.1.0 first.0 later.0 reads_a moved (omega arith) in
      let is_a = place-of_beats cert.reads first.0 a.place (placed-at cert.reads c.reads_in_order i a first.0 at_i number_a) in
      let is_b = place-of_beats cert.reads later.0 b.place (placed-at cert.reads c.reads_in_order j b later.0 at_j number_b) in
      omega arith

  pub checks-from_certificate : IsCertificate past cert → IsChecked past cert
  checks-from_certificate c = record {
    lines_rise = c.lines_in_order;
    reads_rise = c.reads_in_order;
    passes = all-listed cert.lines cert.reads past (λ l known. contained-has cert.lines l ((c.lines_named l).1 known)) (right-from c);
    orders = all-from_places (IsOrderOf past) cert.lines (λ k o there. (
      (c.lines_named o.addr).0 (contains-from (λ (v : LineOrder). v.addr) cert.lines k o there),
      slice_get-all (λ (v : LineOrder). v.stores ≡ store_numbers past v.addr) cert.lines k o c.stores there,
    ));
    reads = all-from_places (λ (r : ReadPlace). is_read_number past r.event ≡ true) cert.reads (λ k r there.
        read-number past r.event ((c.reads_named r.event).0 (contains-from (λ (v : ReadPlace). v.event) cert.reads k r there)));
    in_order = λ i j a b less at_i at_j same. ordered c i j a b less at_i at_j same;
  }
