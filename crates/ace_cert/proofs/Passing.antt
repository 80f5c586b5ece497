-- What the tests of events say of the reads of a trace: that they pass exactly where each load and each beat is right at the
-- place that the list gives its read.
use Rattle.std.proofs.Common.{◌≡◌, inl, inr, ℕ, ◌<◌, ◌≤◌, Bool, true, ◌&&◌, nat_eq, nat_le, List, [], ◌∷◌, length, Option, Some, None, refl, sym, ap, subst, ◌∙◌, arith}
use Rattle.std.proofs.lemmas.Bool.{and_parts, and_from, cases_Bool, eqb-true, eq-eqb}
use Rattle.ace_model.specs.declared.transactions.Transaction.{Transaction}
use Rattle.ace_model.proofs.Terms.{Event, G, L, R, Read, Trace, at_point, is_some_and, is_line_read_transaction, transaction_of, transfers, value_of, word_of, IsLoad, IsBeat, IsGrantOf}
use Rattle.ace_model.proofs.General.Options.{is_some_and-is}
use Rattle.ace_model.proofs.General.Booleans.{implies-at}
use Rattle.ace_model.proofs.Trace.Issued.{transaction_of-name}
use Rattle.ace_model.proofs.Trace.Growth.{at_point-before}
use Rattle.ace_model.proofs.Trace.Places.{NewBeat, at_point-last, event_at-now, event_at-old, event_at-below, event_at-cases, grant-old, load-cases, beat-cases, beat-below}
use Rattle.ace_cert.proofs.Grants.{grant-found, grant-first}
use Rattle.ace_cert.specs.declared.cert.LineOrder.{LineOrder}
use Rattle.ace_cert.specs.declared.cert.ReadPlace.{ReadPlace}
use Rattle.ace_cert.specs.Certificates.{place_in}
use Rattle.ace_cert.specs.Checks.{all_pass, beat_passes, first_grant, load_passes, transfer_passes, lists_line, passes}

-- the beat is right at the place of its read
pub record IsBeatRight (reads : List ReadPlace) (past : Trace) (n k word : ℕ) (x : Transaction) : Type 0 where
  pub place : ℕ
  pub placed : place_in reads x.place ≡ Some place
  pub low : place ≤ n
  pub granted : (m : ℕ) × (IsGrantOf past m x × m < place)
  pub word_is : word ≡ word_of (value_of (at_point place past) x.addr) k

-- each load and each beat is right at the place of its read
pub record AreRight (reads : List ReadPlace) (past : Trace) : Type 0 where
  pub placed : (n p l w word : ℕ) → IsLoad past n p l w word → place_in reads n ≡ Some n
  pub load_word : (n p l w word : ℕ) → IsLoad past n p l w word → word ≡ word_of (value_of (at_point n past) l) w
  pub beats : (n k word : ℕ) (x : Transaction) → IsBeat past n x k word → IsBeatRight reads past n k word x

nat_le-true : (a b : ℕ) → nat_le a b ≡ true → a ≤ b
nat_le-true a b e = grind (arith, e)

nat_le-from : (a b : ℕ) → a ≤ b → nat_le a b ≡ true
nat_le-from a b e = grind (arith, e)

-- a grant of the longer trace that isn't the new event
grant-was : (past : Trace) (e : Event) (n : ℕ) (x : Transaction) → n < length past → IsGrantOf (e ∷ past) n x → IsGrantOf past n x
grant-was past e n x low g =
    elim (event_at-cases e past n (G x.port Read x.id) g.0) [
      | inl old ↦ (old.0, rw (at_point-before e past n (omega arith)) at g.1)
      | inr new ↦ let same = new.0 in absurd (omega arith)
    ]

module _ (reads : List ReadPlace) where
  -- a new beat that passes is right
  beat-right : (past : Trace) (e : Event) (k word : ℕ) (x : Transaction) → NewBeat past e x k word → beat_passes reads past x k word ≡ true
      → IsBeatRight reads (e ∷ past) (length past) k word x
  beat-right past e k word x b t =
      let s = is_some_and-is (place_in reads x.place) (λ q. nat_le q (length past)
      && is_some_and (first_grant past x.port x.id) (λ g. nat_le g q) && nat_eq word (word_of (value_of (at_point q past) x.addr) k)) t in
      let parts = and_parts _ _ s.2 in
      let two = and_parts _ _ parts.0 in
      let low = nat_le-true s.0 (length past) two.0 in
      let g = is_some_and-is (first_grant past x.port x.id) (λ g. nat_le g s.0) two.1 in
      let grant = grant-found past x.port x.id g.0 x b.named g.1 in
      let under = nat_le-true g.0 s.0 g.2 in
      let number = grant.1.1 in
      let same = at_point-before e past s.0 low in
      record {
        place = s.0;
        placed = s.1;
        low = low;
        granted = (grant.0, (grant-old e past grant.0 x grant.1.0, omega arith));
        word_is = rw same (eqb-true word _ parts.1);
      }

  right-grown : (past : Trace) (e : Event) (n k word : ℕ) (x : Transaction) → n < length past → IsBeatRight reads past n k word x → IsBeatRight reads (e ∷ past) n k word x
  right-grown past e n k word x low r =
      let under = r.low in
      let same = at_point-before e past r.place (omega arith) in
      record {
        place = r.place;
        placed = r.placed;
        low = r.low;
        granted = (r.granted.0, (grant-old e past r.granted.0 x r.granted.1.0, r.granted.1.1));
        word_is = rw same r.word_is;
      }

  -- one more event that passes
  right-more : (past : Trace) (e : Event) → passes reads past e ≡ true → AreRight reads past → AreRight reads (e ∷ past)
  right-more past e t r = record { placed = placed; load_word = load_word; beats = beats }
    where
      now : (p l w word : ℕ) (x : Bool) → e ≡ L p l w x word → load_passes reads past l w word ≡ true
      now p l w word x is = subst (λ (v : Event). passes reads past v ≡ true) is t

      placed : (n p l w word : ℕ) → IsLoad (e ∷ past) n p l w word → place_in reads n ≡ Some n
      placed n p l w word load =
          elim (load-cases e past n p l w word load) [
            | inl old ↦ r.placed n p l w word old
            | inr new ↦
                let parts = and_parts _ _ (now p l w word new.1.0 new.1.1) in
                let s = is_some_and-is (place_in reads (length past)) (λ q. nat_eq q (length past)) parts.0 in
                ap (place_in reads) new.0 ∙ s.1 ∙ ap (λ v. Some v) (eqb-true s.0 (length past) s.2 ∙ sym new.0)
          ]

      load_word : (n p l w word : ℕ) → IsLoad (e ∷ past) n p l w word → word ≡ word_of (value_of (at_point n (e ∷ past)) l) w
      load_word n p l w word load =
          elim (load-cases e past n p l w word load) [
            | inl old ↦
                let low = event_at-below past n (L p l w old.0 word) old.1 in
                rw (at_point-before e past n (omega arith)) (r.load_word n p l w word old)
            | inr new ↦
                let parts = and_parts _ _ (now p l w word new.1.0 new.1.1) in
                rw (at_point-last e past n new.0) (eqb-true word _ parts.1)
          ]

      beats : (n k word : ℕ) (x : Transaction) → IsBeat (e ∷ past) n x k word → IsBeatRight reads (e ∷ past) n k word x
      beats n k word x beat =
          elim (beat-cases e past n x k word beat) [
            | inl old ↦ right-grown past e n k word x old.1 (r.beats n k word x old.0)
            | inr new ↦
                let b = new.1 in
                let u : passes reads past (R x.port x.id b.resp b.last word) ≡ true = subst (λ (v : Event). passes reads past v ≡ true) b.event t in
                let v : transfer_passes reads past (Some x) k word ≡ true = rw (b.named, b.number) at u in
                subst (λ m. IsBeatRight reads (e ∷ past) m k word x) (sym new.0)
                (beat-right past e k word x b (implies-at _ _ v b.line_read))
          ]

  -- where each event passes, all reads are right
  pub right-from_pass : (lines : List LineOrder) (past : Trace) → all_pass lines reads past ≡ true → AreRight reads past
  right-from_pass lines [] t = record {
    placed = λ n p l w word load. let low = event_at-below [] n (L p l w load.0 word) load.1 in absurd (omega arith);
    load_word = λ n p l w word load. let low = event_at-below [] n (L p l w load.0 word) load.1 in absurd (omega arith);
    beats = λ n k word x b. let low = beat-below [] n x k word b in absurd (omega arith);
  }
  right-from_pass lines (e ∷ past) t =
      let parts = and_parts (all_pass lines reads past) (lists_line lines (length past) e && passes reads past e) t in
      right-more past e (and_parts (lists_line lines (length past) e) (passes reads past e) parts.1).1 (right-from_pass lines past parts.0)

  -- a load of the longer trace
  pub load-new : (past : Trace) (p l w word : ℕ) (x : Bool) → IsLoad (L p l w x word ∷ past) (length past) p l w word
  load-new past p l w word x = (x, event_at-now (L p l w x word) past)

  pub load-was : (past : Trace) (e : Event) (n p l w word : ℕ) → IsLoad past n p l w word → IsLoad (e ∷ past) n p l w word
  load-was past e n p l w word load = (load.0, event_at-old e past n (L p l w load.0 word) load.1)

  pub beat-was : (past : Trace) (e : Event) (n k word : ℕ) (x : Transaction) → IsBeat past n x k word → IsBeat (e ∷ past) n x k word
  beat-was past e n k word x beat =
      let low = beat-below past n x k word beat in
      let same = at_point-before e past n (omega arith) in
      let b = beat.1.1 in
      (beat.0, (beat.1.0, (event_at-old e past n (R x.port x.id beat.0 beat.1.0 word) b.0, rw same b.1, b.2, rw same b.3)))

  pub beat-new : (past : Trace) (p i resp : ℕ) (last : Bool) (word : ℕ) (x : Transaction) → transaction_of past p Read i ≡ Some x → is_line_read_transaction x ≡ true
      → IsBeat (R p i resp last word ∷ past) (length past) x (transfers past p i) word
  beat-new past p i resp last word x named line_read =
      let n = transaction_of-name past p Read i x named in
      let e = R p i resp last word in
      let there = event_at-now e past ∙ ap (λ v. Some (R v i resp last word)) (sym n.port) ∙ ap (λ v. Some (R x.port v resp last word)) (sym n.id) in
      let same = at_point-last e past (length past) refl in
      let called : transaction_of past x.port Read x.id ≡ Some x = ap (λ v. transaction_of past v Read x.id) n.port ∙ ap (transaction_of past p Read) n.id ∙ named in
      let count : transfers past x.port x.id ≡ transfers past p i = ap (λ v. transfers past v x.id) n.port ∙ ap (transfers past p) n.id in
      (resp, (last, (there, rw same called, line_read, rw same count)))

  -- what is right in the longer trace was so before
  pub right-before : (past : Trace) (e : Event) → AreRight reads (e ∷ past) → AreRight reads past
  right-before past e r = record {
    placed = λ n p l w word load. r.placed n p l w word (load-was past e n p l w word load);
    load_word = λ n p l w word load.
        let low = event_at-below past n (L p l w load.0 word) load.1 in
        rw (at_point-before e past n (omega arith)) at (r.load_word n p l w word (load-was past e n p l w word load));
    beats = λ n k word x beat. shrunk n k word x beat (r.beats n k word x (beat-was past e n k word x beat));
  }
    where
      shrunk : (n k word : ℕ) (x : Transaction) → IsBeat past n x k word → IsBeatRight reads (e ∷ past) n k word x → IsBeatRight reads past n k word x
      shrunk n k word x beat s =
          let low = beat-below past n x k word beat in
          let under = s.low in
          let g = s.granted in
          let before = g.1.1 in
          record {
            place = s.place;
            placed = s.placed;
            low = s.low;
            granted = (g.0, (grant-was past e g.0 x (omega arith) g.1.0, g.1.1));
            word_is = rw (at_point-before e past s.place (omega arith)) at s.word_is;
          }

  -- an event of a trace whose reads are right passes
  pub pass-from_right : (past : Trace) (e : Event) → AreRight reads (e ∷ past) → passes reads past e ≡ true
  pass-from_right past (L p l w x word) r =
      let load = load-new past p l w word x in
      let placed = r.placed (length past) p l w word load in
      let last = at_point-last (L p l w x word) past (length past) refl in
      let word_is : word ≡ word_of (value_of past l) w = rw last at (r.load_word (length past) p l w word load) in
      and_from _ _ (rw placed (eq-eqb (length past) (length past) (refl {a = length past}))) (eq-eqb word _ word_is)
  pass-from_right past (R p i resp last word) r = transfer (transaction_of past p Read i) refl
    where
      beat : (x : Transaction) → transaction_of past p Read i ≡ Some x → is_line_read_transaction x ≡ true → beat_passes reads past x (transfers past p i) word ≡ true
      beat x named line_read =
          let s = r.beats (length past) (transfers past p i) word x (beat-new past p i resp last word x named line_read) in
          let e = R p i resp last word in
          let g = s.granted in
          let before = g.1.1 in
          let low = s.low in
          let grant = grant-was past e g.0 x (omega arith) g.1.0 in
          let n = transaction_of-name past p Read i x named in
          let called : transaction_of past x.port Read x.id ≡ Some x = ap (λ v. transaction_of past v Read x.id) n.port ∙ ap (transaction_of past p Read) n.id ∙ named in
          let first = grant-first past g.0 x grant called in
          let under = first.1.1 in
          let word_is : word ≡ word_of (value_of (at_point s.place past) x.addr) (transfers past p i) = rw (at_point-before e past s.place low) at s.word_is in
          rw (s.placed, first.1.0) (and_from _ _ (and_from _ _ (nat_le-from s.place (length past) low) (nat_le-from first.0 s.place (omega arith))) (eq-eqb word _ word_is))

      transfer : (o : Option Transaction) → transaction_of past p Read i ≡ o → transfer_passes reads past o (transfers past p i) word ≡ true
      transfer None named = refl
      transfer (Some x) named =
          elim (cases_Bool (is_line_read_transaction x)) [
            | inl t ↦ rw t (beat x named t)
            | inr f ↦ rw f refl
          ]
  pass-from_right past _ r = refl
