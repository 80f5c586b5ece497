-- What a maker has heard is listed as a certificate.
use Rattle.std.proofs.Common.{◌≡◌, ◌+◌, ◌↔◌, ℕ, Bool, true, false, nat_eq, if◌then◌else◌, List, [], ◌∷◌, map, slice_get, Option, Some, None, option_map, unwrap_or, refl, sym, ap, subst, ◌∙◌, arith, inl, inr}
use Rattle.std.proofs.lemmas.Bool.{cases_Bool, eq-eqb, ne_eqb}
use Rattle.std.proofs.lemmas.Map.Entries.{btree_map_get_place, place_from_lookup}
use Rattle.std.proofs.lemmas.Map.Keys.{IsStrictlyIncreasing-from_sorted}
use Rattle.std.proofs.lemmas.Map.Lookups.{exact_unsigned}
use Rattle.std.proofs.lemmas.Map.Views.{btree_map_contains_key_iff}
use Rattle.std.proofs.lemmas.Option.{slice_get-map}
use Rattle.std.specs.BTreeMap.{BTreeMap, IsOrdered, get, is_at, keys}
use Rattle.std.specs.Cmp.{nat_cmp_total}
use Rattle.std.specs.List.{All, AllByRecursion, Contains}
use Rattle.std.specs.List.Sorted.{IsStrictlyIncreasing}
use Rattle.std.specs.Map.{keys_of}
use Rattle.std.specs.Option.{IsSome}
use Rattle.std.specs.Ordering.{nat_cmp, is_eq}
use Rattle.std.specs.declared.cmp.Ordering.{Ordering}
use Rattle.std.specs.declared.cmp.Ordering.TheVariants.{Less, Equal, Greater}
use Rattle.ace_model.proofs.Terms.{FitsFields, Header, IsAccepted, Trace}
use Rattle.ace_model.specs.Lines.{is_known}
use Rattle.ace_model.specs.ReadsFollow.{FollowsAt}
use Rattle.ace_cert.specs.declared.cert.Cert.{Cert}
use Rattle.ace_cert.specs.declared.cert.LineOrder.{LineOrder}
use Rattle.ace_cert.specs.declared.cert.ReadPlace.{ReadPlace}
use Rattle.ace_cert.specs.Certificates.{IsCertificate, IsReadNumber, place_in, place_of, store_numbers}
use Rattle.ace_cert.proofs.Elements.{all-from_places, find-at, rises}
use Rattle.ace_cert.proofs.ReadEvents.{read_at-from, read_at-is}
use Rattle.ace_cert_make.specs.declared.track.LineTrack.{LineTrack}
use Rattle.ace_cert_make.specs.Places.{place_given}
use Rattle.ace_cert_make.specs.Tracks.{LinesStand, PlacesStand, order_of, read_of, track_of}
use Rattle.ace_cert_make.proofs.Law.{follows-same, given_follow}
use Rattle.ace_cert_make.proofs.PlacedReads.{given-read, read-given}

keys-listed : {X Y : Type 0} (f : ℕ × X → Y) (g : Y → ℕ) (es : List (ℕ × X)) → ((e : ℕ × X) → g (f e) ≡ e.0) → map g (map f es) ≡ keys_of es
keys-listed f g [] same = refl
keys-listed f g (e ∷ es) same = ap (λ k. k ∷ map g (map f es)) (same e) ∙ ap (λ ks. e.0 ∷ ks) (keys-listed f g es same)

-- the entry that a listed element was made of
listed-entry : {X Y : Type 0} (f : ℕ × X → Y) (es : List (ℕ × X)) (k : ℕ) (y : Y) → slice_get (map f es) k ≡ Some y
    → (e : ℕ × X) × ((slice_get es k ≡ Some e) × (f e ≡ y))
listed-entry {X = X} {Y = Y} f es k y there = found (slice_get es k) refl (sym (slice_get-map f es k) ∙ there)
  where
    found : (o : Option (ℕ × X)) → slice_get es k ≡ o → option_map f o ≡ Some y → (e : ℕ × X) × ((slice_get es k ≡ Some e) × (f e ≡ y))
    found None is e = cc
    found (Some e) is made = (e, (is, cc))

equal-key : (a b : ℕ) → is_at (nat_cmp a) b ≡ true → a ≡ b
equal-key a b t = by (nat_cmp a b) refl t
  where
    by : (o : Ordering) → nat_cmp a b ≡ o → is_eq o ≡ true → a ≡ b
    by Equal is e = exact_unsigned a b is
    by Less is e = cc
    by Greater is e = cc

some-if : {X : Type 0} (b : Bool) (x : X) → IsSome (if b then Some x else None) → b ≡ true
some-if true x some = refl
some-if false x some = cc

module _ (h : Header) (past : Trace) (a : IsAccepted h past) (range : AllByRecursion FitsFields past) where
  module _ (lines : BTreeMap ℕ LineTrack) (up : IsOrdered nat_cmp lines) (stands : LinesStand past lines) where
    line-keys : map (λ (o : LineOrder). o.addr) (map order_of lines.entries) ≡ keys lines
    line-keys = keys-listed order_of (λ (o : LineOrder). o.addr) lines.entries (λ e. refl)

    lines-rise : IsStrictlyIncreasing (map (λ (o : LineOrder). o.addr) (map order_of lines.entries))
    lines-rise = subst IsStrictlyIncreasing (sym line-keys) (IsStrictlyIncreasing-from_sorted (keys lines) up)

    known-there : (l : ℕ) → is_known past l ≡ true → get nat_cmp lines l ≡ Some (track_of past l)
    known-there l k = stands l ∙ rw k refl

    lines-known : (l : ℕ) → Contains (map (λ (o : LineOrder). o.addr) (map order_of lines.entries)) l ↔ (is_known past l ≡ true)
    lines-known l =
        let iff = btree_map_contains_key_iff nat_cmp_total exact_unsigned lines l in (
          λ c. some-if (is_known past l) (track_of past l) (subst IsSome (stands l) (iff.1 (subst (λ ks. Contains ks l) line-keys c))),
          λ k. subst (λ ks. Contains ks l) (sym line-keys) (iff.0 (subst IsSome (sym (known-there l k)) refl)),
        )

    track-is : (l : ℕ) (t : LineTrack) → get nat_cmp lines l ≡ Some t → t ≡ track_of past l
    track-is l t there =
        elim (cases_Bool (is_known past l)) [
          | inl k ↦ let is : Some t ≡ Some (track_of past l) = sym there ∙ known-there l k in cc
          | inr f ↦ let bad : Some t ≡ None = sym there ∙ stands l ∙ rw f refl in cc
        ]

    lines-stores : All (λ (o : LineOrder). o.stores ≡ store_numbers past o.addr) (map order_of lines.entries)
    lines-stores =
        all-from_places (λ (o : LineOrder). o.stores ≡ store_numbers past o.addr) (map order_of lines.entries) (λ k o there.
        let e = listed-entry order_of lines.entries k o there in
        let track = btree_map_get_place nat_cmp_total lines k e.0.0 e.0.1 up e.1.0 in
        subst (λ (v : LineOrder). v.stores ≡ store_numbers past v.addr) e.1.1 (ap (λ (t : LineTrack). t.stores) (track-is e.0.0 e.0.1 track)))

  module _ (reads : BTreeMap ℕ ℕ) (up : IsOrdered nat_cmp reads) (stands : PlacesStand past reads) where
    read-keys : map (λ (r : ReadPlace). r.event) (map read_of reads.entries) ≡ keys reads
    read-keys = keys-listed read_of (λ (r : ReadPlace). r.event) reads.entries (λ e. refl)

    reads-rise : IsStrictlyIncreasing (map (λ (r : ReadPlace). r.event) (map read_of reads.entries))
    reads-rise = subst IsStrictlyIncreasing (sym read-keys) (IsStrictlyIncreasing-from_sorted (keys reads) up)

    reads-named : (number : ℕ) → Contains (map (λ (r : ReadPlace). r.event) (map read_of reads.entries)) number ↔ IsReadNumber past number
    reads-named number =
        let iff = btree_map_contains_key_iff nat_cmp_total exact_unsigned reads number in (
          λ c. is-read (get nat_cmp reads number) refl (iff.1 (subst (λ ks. Contains ks number) read-keys c)),
          λ r.
              let q = read-given past r.0 (read_at-from past r.1.1.0 r.1.1.1.0 r.0 r.1.1.1.1) in
              let there : get nat_cmp reads number ≡ Some q.0 = stands number ∙ ap (place_given past) r.1.0 ∙ q.1 in
              subst (λ ks. Contains ks number) (sym read-keys) (iff.0 (subst IsSome (sym there) refl)),
        )
      where
        is-read : (o : Option ℕ) → get nat_cmp reads number ≡ o → IsSome (get nat_cmp reads number) → IsReadNumber past number
        is-read None is some = let bad = subst IsSome is some in cc
        is-read (Some q) is some =
            let r = given-read past number q (sym (stands number) ∙ is) in
            let by = read_at-is past r.0 r.1.1 in
            (r.0, (r.1.0, (by.0, (by.1.0, by.1.1))))

    -- the place that the list gives a read
    placed-at : (k : ℕ) (r : ReadPlace) (n : ℕ) → slice_get (map read_of reads.entries) k ≡ Some r → r.event ≡ n + 1
        → place_in (map read_of reads.entries) n ≡ Some r.place
    placed-at k r n there is =
        ap (option_map (λ (v : ReadPlace). v.place))
        (find-at (λ (v : ReadPlace). nat_eq v.event (n + 1)) (map read_of reads.entries) k r there (eq-eqb r.event (n + 1) is)
        (λ j y low at.
        let below = rises (λ (v : ReadPlace). v.event) (map read_of reads.entries) reads-rise j k y r low at there in
        ne_eqb y.event (n + 1) (λ same. absurd (omega (arith, same)))))

    listed-place : (n q : ℕ) → place_given past (n + 1) ≡ Some q → place_in (map read_of reads.entries) n ≡ Some q
    listed-place n q given =
        let s = place_from_lookup (is_at (nat_cmp (n + 1))) reads.entries q (stands (n + 1) ∙ given) in
        let key : n + 1 ≡ s.1 = equal-key (n + 1) s.1 s.3 in
        let there : slice_get (map read_of reads.entries) s.0 ≡ Some (read_of (s.1, q)) =
        slice_get-map read_of reads.entries s.0 ∙ ap (option_map read_of) s.2 in
        placed-at s.0 (read_of (s.1, q)) n there (sym key)

    reads-follow : FollowsAt past (place_of (map read_of reads.entries))
    reads-follow =
        follows-same past (λ n. unwrap_or (place_given past (n + 1)) 0) (place_of (map read_of reads.entries)) (given_follow h past a range) (λ p l n is.
        let q = read-given past n (read_at-from past p l n is) in
        ap (λ o. unwrap_or o 0) q.1 ∙ sym (ap (λ o. unwrap_or o 0) (listed-place n q.0 q.1)))

  pub made-certificate : (lines : BTreeMap ℕ LineTrack) (reads : BTreeMap ℕ ℕ) (cert : Cert) → IsOrdered nat_cmp lines → IsOrdered nat_cmp reads
      → LinesStand past lines → PlacesStand past reads
      → cert.lines ≡ map order_of lines.entries → cert.reads ≡ map read_of reads.entries → IsCertificate past cert
  made-certificate lines reads cert up rise line_stands read_stands line_list read_list =
      subst (IsCertificate past) cert-is (record {
        lines_in_order = lines-rise lines up line_stands;
        lines_named = lines-known lines up line_stands;
        stores = lines-stores lines up line_stands;
        reads_in_order = reads-rise reads rise read_stands;
        reads_named = reads-named reads rise read_stands;
        places = reads-follow reads rise read_stands;
      })
    where
      cert-is : (record { lines = map order_of lines.entries; reads = map read_of reads.entries }) ≡ cert
      cert-is = ap (λ v. record { lines = v; reads = map read_of reads.entries }) (sym line_list)
          ∙ ap (λ v. record { lines = cert.lines; reads = v }) (sym read_list)
