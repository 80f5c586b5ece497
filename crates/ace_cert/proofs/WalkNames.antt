-- The tables of transactions with one more event.
use Rattle.std.proofs.Common.{◌≡◌, inl, inr, ℕ, ◌+◌, ◌<◌, ◌≤◌, ◌&&◌, nat_eq, [], ◌∷◌, length, Option, Some, None, option_map, unwrap_or, refl, sym, ap, ◌∙◌, arith}
use Rattle.std.proofs.lemmas.Bool.{cases_Bool, eqb-true}
use Rattle.std.specs.Ordering.{nat_cmp}
use Rattle.std.specs.BTreeMap.{BTreeMap, get}
use Rattle.ace_model.specs.declared.transactions.Transaction.{Transaction}
use Rattle.ace_model.proofs.Terms.{Event, Ar, Aw, G, R, Read, Write, Trace, at_point, data_writes, transaction_of, transfers}
use Rattle.ace_model.proofs.Trace.Growth.{at_point-before}
use Rattle.ace_model.proofs.Trace.Issued.{transaction_of-stands}
use Rattle.ace_model.proofs.Trace.Places.{at_point-last, issued_at-below}
use Rattle.ace_cert.specs.Checks.{first_grant}
use Rattle.ace_cert.specs.declared.verification.names.Reading.{Reading}
use Rattle.ace_cert.specs.declared.verification.names.Writing.{Writing}
use Rattle.ace_cert.specs.Walk.{AreReadsKept, AreWritesKept, HasBytes, one_more, read_after, reading_of, transferred, granted_at, under, write_after, writing_of}
use Rattle.ace_cert.proofs.WalkKeys.{swapped, under-same}

-- a read has at most as many transfers as there are events
pub few-transfers : (past : Trace) (p i : ℕ) → transfers past p i ≤ length past
few-transfers [] p i = omega arith
few-transfers (Ar q j addr snoop dom bar lock ∷ past) p i =
    let low = few-transfers past p i in
    elim (cases_Bool (nat_eq p q && nat_eq i j)) [ inl t ↦ rw t (omega arith) | inr f ↦ rw f (omega arith) ]
few-transfers (R q j resp last word ∷ past) p i =
    let low = few-transfers past p i in
    elim (cases_Bool (nat_eq p q && nat_eq i j)) [ inl t ↦ rw t (omega arith) | inr f ↦ rw f (omega arith) ]
few-transfers (_ ∷ past) p i = let low = few-transfers past p i in omega arith

pub more-is : (count : ℕ) → count < 4294967295 → one_more count ≡ count + 1
more-is count low = omega (arith, low)

transferred-is : (o : Option Transaction) (count : ℕ) (g : Option ℕ) → count < 4294967295
    → option_map transferred (option_map {U = Reading} (λ x. record { transaction = x; transfers = count; granted = g }) o)
    ≡ option_map {U = Reading} (λ x. record { transaction = x; transfers = count + 1; granted = g }) o
transferred-is None count g low = refl
transferred-is (Some x) count g low =
    let read : ℕ → Reading = λ n. record { transaction = x; transfers = n; granted = g } in
    ap (λ n. Some (read n)) (more-is count low)

granted-is : (o : Option Transaction) (count n : ℕ) (g : Option ℕ)
    → option_map (granted_at n) (option_map {U = Reading} (λ x. record { transaction = x; transfers = count; granted = g }) o)
    ≡ option_map {U = Reading} (λ x. record { transaction = x; transfers = count; granted = Some (unwrap_or g n) }) o
granted-is None count n g = refl
granted-is (Some x) count n g = refl

-- the port's last read under the identifier, with one more event
pub reading-grown : (past : Trace) (e : Event) (p i : ℕ) → length past < 4294967295 → HasBytes e → i < 256
    → read_after (length past) e (under p i) (reading_of past p i) ≡ reading_of (e ∷ past) p i
reading-grown past (Ar q j addr snoop dom bar lock) p i few low_j low_i =
    let key = under-same q j p i low_j low_i in
    elim (cases_Bool (nat_eq q p)) [
      | inr f ↦ let g = swapped p q ∙ f in rw (key, f, g) refl
      | inl t ↦ let s = swapped p q ∙ t in
          elim (cases_Bool (nat_eq j i)) [
            | inr f ↦ let g = swapped i j ∙ f in rw (key, t, s, f, g) refl
            | inl u ↦ let v = swapped i j ∙ u in rw (key, t, s, u, v) refl
          ]
    ]
reading-grown past (R q j resp last word) p i few low_j low_i =
    let key = under-same q j p i low_j low_i in
    let count = few-transfers past p i in
    elim (cases_Bool (nat_eq q p)) [
      | inr f ↦ let g = swapped p q ∙ f in rw (key, f, g) refl
      | inl t ↦ let s = swapped p q ∙ t in
          elim (cases_Bool (nat_eq j i)) [
            | inr f ↦ let g = swapped i j ∙ f in rw (key, t, s, f, g) refl
            | inl u ↦ let v = swapped i j ∙ u in
                rw (key, t, s, u, v) (transferred-is (transaction_of past p Read i) (transfers past p i) (first_grant past p i) (omega arith))
          ]
    ]
reading-grown past (G q Write j) p i few low_j low_i = refl
reading-grown past (G q Read j) p i few low_j low_i =
    let key = under-same q j p i low_j low_i in
    elim (cases_Bool (nat_eq q p)) [
      | inr f ↦ let g = swapped p q ∙ f in rw (key, f, g) refl
      | inl t ↦ let s = swapped p q ∙ t in
          elim (cases_Bool (nat_eq j i)) [
            | inr f ↦ let g = swapped i j ∙ f in rw (key, t, s, f, g) refl
            | inl u ↦ let v = swapped i j ∙ u in
                rw (key, t, s, u, v) (granted-is (transaction_of past p Read i) (transfers past p i) (length past + 1) (first_grant past p i))
          ]
    ]
reading-grown past (Aw q j addr snoop dom bar) p i few low_j low_i =
    elim (cases_Bool (nat_eq q p)) [ inl t ↦ rw t refl | inr f ↦ rw f refl ]
reading-grown past _ p i few low_j low_i = refl

pub reads-grown : (past : Trace) (e : Event) (old new : BTreeMap ℕ Reading) → length past < 4294967295 → HasBytes e → AreReadsKept past old
    → ((k : ℕ) → get nat_cmp new k ≡ read_after (length past) e k (get nat_cmp old k)) → AreReadsKept (e ∷ past) new
reads-grown past e old new few bytes kept after = λ p i low.
    after (under p i) ∙ ap (read_after (length past) e (under p i)) (kept p i low) ∙ reading-grown past e p i few bytes low

-- an older write has as many writes with data before it
earlier-stays : (past : Trace) (e : Event) (p q i : ℕ) (o : Option Transaction) → transaction_of past q Write i ≡ o
    → option_map {U = Writing} (λ (x : Transaction). record { transaction = x; earlier = length (data_writes (at_point x.place past) p) }) o
    ≡ option_map {U = Writing} (λ (x : Transaction). record { transaction = x; earlier = length (data_writes (at_point x.place (e ∷ past)) p) }) o
earlier-stays past e p q i None is = refl
earlier-stays past e p q i (Some x) is =
    let low = issued_at-below past x.place x (transaction_of-stands past q Write i x is).there in
    let at = at_point-before e past x.place (omega arith) in
    let write : Trace → Writing = λ t. record { transaction = x; earlier = length (data_writes t p) } in
    ap (λ t. Some (write t)) (sym at)

stays : (past : Trace) (e : Event) (p i : ℕ) → transaction_of (e ∷ past) p Write i ≡ transaction_of past p Write i → writing_of past p i ≡ writing_of (e ∷ past) p i
stays past e p i same =
    earlier-stays past e p p i (transaction_of past p Write i) refl
    ∙ ap (option_map {U = Writing} (λ (x : Transaction). record { transaction = x; earlier = length (data_writes (at_point x.place (e ∷ past)) p) })) (sym same)

pub writing-grown : (past : Trace) (e : Event) (earlier p i : ℕ) → HasBytes e → i < 256
    → ((q j addr snoop dom bar : ℕ) → e ≡ Aw q j addr snoop dom bar → earlier ≡ length (data_writes past q))
    → write_after (length past) earlier e (under p i) (writing_of past p i) ≡ writing_of (e ∷ past) p i
writing-grown past (Aw q j addr snoop dom bar) earlier p i low_j low_i is =
    let key = under-same q j p i low_j low_i in
    elim (cases_Bool (nat_eq q p)) [
      | inr f ↦ rw (key, f) (earlier-stays past (Aw q j addr snoop dom bar) p p i (transaction_of past p Write i) refl)
      | inl t ↦
          elim (cases_Bool (nat_eq j i)) [
            | inr f ↦ rw (key, t, f) (earlier-stays past (Aw q j addr snoop dom bar) p p i (transaction_of past p Write i) refl)
            | inl u ↦
                let at = at_point-last (Aw q j addr snoop dom bar) past (length past) refl in
                let port : q ≡ p = eqb-true q p t in
                rw (key, t, u, at, is q j addr snoop dom bar refl, port) refl
          ]
    ]
writing-grown past (Ar q j addr snoop dom bar lock) earlier p i low_j low_i is =
    stays past (Ar q j addr snoop dom bar lock) p i (elim (cases_Bool (nat_eq q p)) [ inl t ↦ rw t refl | inr f ↦ rw f refl ])
writing-grown past e earlier p i low_j low_i is = stays past e p i refl

pub writes-grown : (past : Trace) (e : Event) (earlier : ℕ) (old new : BTreeMap ℕ Writing) → HasBytes e → AreWritesKept past old
    → ((q j addr snoop dom bar : ℕ) → e ≡ Aw q j addr snoop dom bar → earlier ≡ length (data_writes past q))
    → ((k : ℕ) → get nat_cmp new k ≡ write_after (length past) earlier e k (get nat_cmp old k)) → AreWritesKept (e ∷ past) new
writes-grown past e earlier old new bytes kept is after = λ p i low.
    after (under p i) ∙ ap (write_after (length past) earlier e (under p i)) (kept p i low) ∙ writing-grown past e earlier p i bytes low is
