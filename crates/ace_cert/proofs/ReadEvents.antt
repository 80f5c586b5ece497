-- Which events are reads, by the test of the events and by the definition of a read, and whose they are.
use Rattle.std.proofs.Common.{◌≡◌, inl, inr, ℕ, ◌+◌, ◌-◌, true, ◌&&◌, nat_eq, [], ◌∷◌, length, reverse, slice_get, Option, Some, option_map, unwrap_or, refl, sym, ap, subst, ◌∙◌, arith}
use Rattle.std.proofs.lemmas.Bool.{and_parts, and_from, eqb-true, eq-eqb, or_cases, or_left, or_right}
use Rattle.ace_model.specs.declared.transactions.Transaction.{Transaction}
use Rattle.ace_model.proofs.Terms.{Event, Ar, Aw, L, R, Read, Write, Trace, at_point, is_line_read_transaction, issued, transaction_of, IsLoad, IsBeat, HasBeat, IsReadBy}
use Rattle.ace_model.proofs.General.Options.{Some-injective, is_some_and-is}
use Rattle.ace_model.proofs.Trace.Issued.{issued_at, transaction_of-stands, transaction_of-name}
use Rattle.ace_model.proofs.Trace.Places.{event_at-below, issued-by, issued_at-later, load-cases, beat-cases}
use Rattle.ace_cert.specs.declared.cert.ReadPlace.{ReadPlace}
use Rattle.ace_cert.specs.Checks.{is_read_at, reads_at, reader_at, reader_of}
use Rattle.ace_cert.proofs.Passing.{beat-was, beat-new, load-was, load-new}

-- by whom
abbrev pub IsReadAt : Trace → ℕ → Type 0
IsReadAt past n = (p : ℕ) × ((l : ℕ) × IsReadBy past p l n)

has_beat-was : (past : Trace) (e : Event) (x : Transaction) → HasBeat past x → HasBeat (e ∷ past) x
has_beat-was past e x b = (b.0, (b.1.0, (b.1.1.0, beat-was [] past e b.0 b.1.0 b.1.1.0 x b.1.1.1)))

read-was : (past : Trace) (e : Event) (p l n : ℕ) → IsReadBy past p l n → IsReadBy (e ∷ past) p l n
read-was past e p l n (inl load) = inl (load.0, (load.1.0, load-was [] past e n p l load.0 load.1.0 load.1.1))
read-was past e p l n (inr x) = inr (x.0, has_beat-was past e x.0 x.1, x.2, x.3, x.4)

-- an event that the test takes for a read is one
pub read_at-is : (past : Trace) (n : ℕ) → is_read_at past n ≡ true → IsReadAt past n
read_at-is [] n t = cc
read_at-is (e ∷ past) n t =
    elim (or_cases (is_read_at past n) (reads_at past e n) t) [
      | inl old ↦ let r = read_at-is past n old in (r.0, (r.1.0, read-was past e r.0 r.1.0 n r.1.1))
      | inr new ↦ now past e n new
    ]
  where
    now : (past : Trace) (e : Event) (n : ℕ) → reads_at past e n ≡ true → IsReadAt (e ∷ past) n
    now past (L p l w x word) n new =
        let here = eqb-true (length past) n new in
        (p, (l, inl (w, (word, subst (λ m. IsLoad (L p l w x word ∷ past) m p l w word) here (load-new [] past p l w word x)))))
    now past (R p i resp last word) n new =
        let s = is_some_and-is (transaction_of past p Read i) (λ x. is_line_read_transaction x && nat_eq x.place n) new in
        let parts = and_parts (is_line_read_transaction s.0) (nat_eq s.0.place n) s.2 in
        let beat = beat-new [] past p i resp last word s.0 s.1 parts.0 in
        (s.0.port, (s.0.addr, inr (s.0, (length past, (_, (word, beat))), refl, refl, eqb-true s.0.place n parts.1)))
    now past e n new = cc

load_at-from : (past : Trace) (n p l w word : ℕ) → IsLoad past n p l w word → is_read_at past n ≡ true
load_at-from [] n p l w word load = let low = event_at-below [] n (L p l w load.0 word) load.1 in absurd (omega arith)
load_at-from (e ∷ past) n p l w word load =
    elim (load-cases e past n p l w word load) [
      | inl old ↦ or_left (is_read_at past n) (reads_at past e n) (load_at-from past n p l w word old)
      | inr new ↦ or_right (is_read_at past n) (reads_at past e n)
          (subst (λ (v : Event). reads_at past v n ≡ true) (sym new.1.1) (eq-eqb (length past) n (sym new.0)))
    ]

beat_at-from : (past : Trace) (n k word : ℕ) (x : Transaction) → IsBeat past n x k word → is_read_at past x.place ≡ true
beat_at-from [] n k word x beat = let low = event_at-below [] n (R x.port x.id beat.0 beat.1.0 word) beat.1.1.0 in absurd (omega arith)
beat_at-from (e ∷ past) n k word x beat =
    elim (beat-cases e past n x k word beat) [
      | inl old ↦ or_left (is_read_at past x.place) (reads_at past e x.place) (beat_at-from past n k word x old.0)
      | inr new ↦
          let b = new.1 in
          let here : reads_at past (R x.port x.id b.resp b.last word) x.place ≡ true =
          rw b.named (and_from (is_line_read_transaction x) (nat_eq x.place x.place) b.line_read (eq-eqb x.place x.place (refl {a = x.place}))) in
          or_right (is_read_at past x.place) (reads_at past e x.place) (subst (λ (v : Event). reads_at past v x.place ≡ true) (sym b.event) here)
    ]

-- and a read is one by the test
pub read_at-from : (past : Trace) (p l n : ℕ) → IsReadBy past p l n → is_read_at past n ≡ true
read_at-from past p l n (inl load) = load_at-from past n p l load.0 load.1.0 load.1.1
read_at-from past p l n (inr x) = subst (λ m. is_read_at past m ≡ true) x.4 (beat_at-from past x.1.0 x.1.1.0 x.1.1.1.0 x.0 x.1.1.1.1)

-- the AR of a read with a beat stands in the trace
beat-issued : (past : Trace) (x : Transaction) → HasBeat past x → issued_at past x.place ≡ Some x
beat-issued past x b =
    issued_at-later (length past - b.0) past x.place x
    (transaction_of-stands (at_point b.0 past) x.port Read x.id x b.1.1.1.1.1.1).there

reader-issued : (n : ℕ) (e : Event) (x : Transaction) → issued n e ≡ Some x → x.chan ≡ Read → reader_of e ≡ record { port = x.port; addr = x.addr }
reader-issued n (Ar p i addr snoop dom bar lock) x new chan = ap (λ (v : Transaction). record { port = v.port; addr = v.addr }) (Some-injective _ x new)
reader-issued n (Aw p i addr snoop dom bar) x new chan =
    let bad : Write ≡ Read = ap (λ (y : Transaction). y.chan) (Some-injective _ x new) ∙ chan in cc
reader-issued n e x new chan = cc

-- whose read it is, as the list of places is asked
pub reader-is : (past : Trace) (p l n : ℕ) (r : ReadPlace) → IsReadBy past p l n → r.event ≡ n + 1 → reader_at (reverse past) r ≡ record { port = p; addr = l }
reader-is past p l n r (inl load) is =
    let at : r.event - 1 ≡ n = omega arith in
    let there : slice_get (reverse past) (r.event - 1) ≡ Some (L p l load.0 load.1.1.0 load.1.0) = ap (slice_get (reverse past)) at ∙ load.1.1.1 in
    rw there refl
reader-is past p l n r (inr x) is =
    let at : r.event - 1 ≡ n = omega arith in
    let e = issued-by past n x.0 (ap (issued_at past) (sym x.4) ∙ beat-issued past x.0 x.1) in
    let there : slice_get (reverse past) (r.event - 1) ≡ Some e.0 = ap (slice_get (reverse past)) at ∙ e.1 in
    let b = x.1.1.1.1.1.1 in
    let chan = (transaction_of-name (at_point x.1.0 past) x.0.port Read x.0.id x.0 b.1).chan in
    let reader = reader-issued n e.0 x.0 e.2 chan in
    ap (λ (o : Option Event). unwrap_or (option_map reader_of o) (record { port = 0; addr = 0 })) there ∙ reader
    ∙ ap (λ v. record { port = v; addr = x.0.addr }) x.2 ∙ ap (λ v. record { port = p; addr = v }) x.3
