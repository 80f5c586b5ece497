-- A read that has had no transfer has no beat in the trace, and a read is the one that was issued at its place.
use Rattle.std.proofs.Common.{◌≡◌, ◌≢◌, ℕ, ◌+◌, ◌<◌, Bool, false, [], ◌∷◌, length, Some, None, refl, sym, ap, subst, ◌∙◌, arith, inl, inr}
use Rattle.std.proofs.lemmas.Bool.{and_from, eq-eqb}
use Rattle.ace_model.proofs.Terms.{Event, R, L, Read, Transaction, Trace, is_named, issued, transaction_of, transfers, IsLoad, IsBeat, HasBeat}
use Rattle.ace_model.proofs.Trace.Places.{issued-by, placed-before, beat-cases, beat-below}
use Rattle.ace_model.proofs.Trace.Issued.{issued_at, issued-place, transaction_of-stands}
use Rattle.ace_model.proofs.Trace.Looks.{newest_named-cases}
use Rattle.ace_model.proofs.Values.FullReads.{transfer_moves}
use Rattle.ace_model.proofs.ReadsFollow.Order.{beat-issued}
use Rattle.ace_model.proofs.General.Options.{Some-injective}

-- the newest transfer of the name is counted
transfers-more : (past : Trace) (p i resp : ℕ) (last : Bool) (word : ℕ) → transfers (R p i resp last word ∷ past) p i ≡ transfers past p i + 1
transfers-more past p i resp last word = rw (and_from _ _ (eq-eqb p p (refl {a = p})) (eq-eqb i i (refl {a = i}))) (refl {a = transfers past p i + 1})

-- the name of the read goes on to have transfers
transfers-stay : (e : Event) (past : Trace) (p i : ℕ) → is_named (issued (length past) e) p Read i ≡ false → transfers past p i ≢ 0 → transfers (e ∷ past) p i ≢ 0
transfers-stay e past p i other some =
    elim (transfer_moves past e p i other) [
      | inl same ↦ λ z. some (sym same.count ∙ z)
      | inr t ↦ subst (λ (v : Event). transfers (v ∷ past) p i ≢ 0) (sym t.is) (λ z. let more = transfers-more past p i t.resp t.last t.word in absurd (omega (arith, more, z)))
    ]

-- a read with a beat has had a transfer, while it is the last of its name
beat-transfers : (past : Trace) (n : ℕ) (x : Transaction) (k word : ℕ) → IsBeat past n x k word → transaction_of past x.port Read x.id ≡ Some x
    → transfers past x.port x.id ≢ 0
beat-transfers [] n x k word beat named = absurd (none (beat-below [] n x k word beat))
  where
    none : n < 0 → ⊥
    none low = omega arith
beat-transfers (e ∷ past) n x k word beat named =
    elim (beat-cases e past n x k word beat) [
      | inr new ↦
          let b = new.1 in
          subst (λ (v : Event). transfers (v ∷ past) x.port x.id ≢ 0) (sym b.event) (λ z.
          let more = transfers-more past x.port x.id b.resp b.last word in absurd (omega (arith, more, z)))
      | inl old ↦
          elim (newest_named-cases (issued (length past) e) x.port Read x.id (transaction_of past x.port Read x.id) x named) [
            | inl new ↦
                let at = issued-place (length past) e x new.0 in
                let within = old.1 in
                let low = placed-before past n x.port Read x.id x (omega arith) old.0.1.1.1 in
                absurd (omega arith)
            | inr earlier ↦ transfers-stay e past x.port x.id earlier.1 (beat-transfers past n x k word old.0 earlier.0)
          ]
    ]

-- a load issues no transaction
pub load-elsewhere : (past : Trace) (n p l w word : ℕ) (x : Transaction) → IsLoad past n p l w word → issued_at past x.place ≡ Some x → n ≢ x.place
load-elsewhere past n p l w word x load there same =
    let b = issued-by past n x (ap (issued_at past) same ∙ there) in
    let one : L p l w load.0 word ≡ b.0 = Some-injective (L p l w load.0 word) b.0 (sym load.1 ∙ b.1) in
    let bad : None ≡ Some x = subst (λ (v : Event). issued n v ≡ Some x) (sym one) b.2 in cc

-- a read with a beat stands at another place than one that has had no transfer
pub beat-elsewhere : (past : Trace) (x y : Transaction) → transaction_of past x.port Read x.id ≡ Some x → transfers past x.port x.id ≡ 0 → HasBeat past y → y.place ≢ x.place
beat-elsewhere past x y named none b same =
    let there = (transaction_of-stands past x.port Read x.id x named).there in
    let one : y ≡ x = Some-injective y x (sym (beat-issued past y b) ∙ ap (issued_at past) same ∙ there) in
    let beat : IsBeat past b.0 x b.1.0 b.1.1.0 = subst (λ (v : Transaction). IsBeat past b.0 v b.1.0 b.1.1.0) one b.1.1.1 in
    beat-transfers past b.0 x b.1.0 b.1.1.0 beat named none
