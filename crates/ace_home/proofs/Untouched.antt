-- What an event leaves as it is: how far a transaction has come that doesn't move on with it, and that none has ended.
use Rattle.std.proofs.Common.{◌≡◌, ℕ, Bool, true, false, ◌&&◌, ◌==◌, if◌then◌else◌, ◌∷◌, Some, None, refl, sym, ap, ◌∙◌}
use Rattle.std.proofs.lemmas.Bool.{eq-eqb, eqb-true, false_from_ne_true, not-false}
use Rattle.ace_event.specs.declared.event.Channel.TheVariants.{Read, Write}
use Rattle.ace_event.specs.declared.event.Event.{Event}
use Rattle.ace_event.specs.declared.event.Event.TheVariants.{Ar, Aw, B, D, G, M, R, Rk, Wk}
use Rattle.ace_event.specs.declared.header.Header.{Header}
use Rattle.ace_model.specs.declared.transactions.Transaction.{Transaction}
use Rattle.ace_model.specs.Accepted.{IsAccepted}
use Rattle.ace_model.specs.Grants.{has_grant}
use Rattle.ace_model.specs.Trace.{Trace}
use Rattle.ace_model.specs.Transactions.{ended, has_name, is_ace, is_make_unique_on, is_read, issued, outstanding, same_channel, transfers}
use Rattle.ace_model.proofs.General.Options.{Some-injective}
use Rattle.ace_portck.specs.declared.target.Progress.{Progress}
use Rattle.ace_portck.specs.Pending.{renewed, transferred}
use Rattle.ace_portck.specs.Targets.{progress_of}
use Rattle.ace_portck.proofs.Renewed.{renewed_is}
use Rattle.ace_home.specs.Resting.{may_end, moves_own}

-- a transaction begins at its own port
pub begins-own : (n : ℕ) (e : Event) (p : ℕ) (x : Transaction) → issued n e ≡ Some x → x.port ≡ p → moves_own e p ≡ true
begins-own n (Ar q i addr snoop dom bar lock) p x new port = eq-eqb q p (ap (λ (v : Transaction). v.port) (Some-injective _ x new) ∙ port)
begins-own n (Aw q i addr snoop dom bar) p x new port = eq-eqb q p (ap (λ (v : Transaction). v.port) (Some-injective _ x new) ∙ port)
begins-own n e p x new port = cc

-- no transaction ends with an event with which none may
pub none-ends : (h : Header) (past : Trace) (e : Event) → may_end h e ≡ false → ended h past e ≡ None
none-ends h past (Rk p st) f = cc
none-ends h past (Wk p st) f = cc
none-ends h past (R p i resp last word) f = rw f refl
none-ends h past (B p i resp) f = let ace = not-false (is_ace h p) f in rw ace refl
none-ends h past e f = refl

turned : (q p : ℕ) → (q == p) ≡ false → (p == q) ≡ false
turned q p f = false_from_ne_true (p == q) (λ t. let own = eq-eqb q p (sym (eqb-true p q t)) in let bad : true ≡ false = sym own ∙ f in cc)

same-grant : (b : Bool) (one other : Progress) → one.granted ≡ other.granted → (if b then one else other).granted ≡ other.granted
same-grant true one other same = same
same-grant false one other same = refl

same-count : (b : Bool) (one other : Progress) → one.transfers ≡ other.transfers → (if b then one else other).transfers ≡ other.transfers
same-count true one other same = same
same-count false one other same = refl

-- whether it was granted
granted-stays : (e : Event) (v : Progress) → moves_own e v.transaction.port ≡ false → (renewed e v).granted ≡ v.granted
granted-stays (R q i resp last word) v own = same-grant (has_name v.transaction q Read i) (transferred resp last v) v refl
granted-stays (B q i resp) v own = same-grant (has_name v.transaction q Write i) (record v { complete = true }) v refl
granted-stays (M q c i line) v own = same-grant (has_name v.transaction q c i) (record v { written = true }) v refl
granted-stays (D q addr strobe y line) v own =
    same-grant ((v.transaction.port == q) && is_make_unique_on v.transaction addr && v.complete) (record v { stored = true }) v refl
granted-stays (G q c i) v own =
    ap (λ b. (if b && same_channel v.transaction.chan c && (v.transaction.id == i) then record v { granted = true } else v).granted) (turned q v.transaction.port own)
granted-stays e v own = refl

-- and how many transfers it has had
count-stays : (e : Event) (v : Progress) → moves_own e v.transaction.port ≡ false → (renewed e v).transfers ≡ v.transfers
count-stays (R q i resp last word) v own =
    ap (λ b. (if b && same_channel v.transaction.chan Read && (v.transaction.id == i) then transferred resp last v else v).transfers) (turned q v.transaction.port own)
count-stays (B q i resp) v own = same-count (has_name v.transaction q Write i) (record v { complete = true }) v refl
count-stays (M q c i line) v own = same-count (has_name v.transaction q c i) (record v { written = true }) v refl
count-stays (D q addr strobe y line) v own =
    same-count ((v.transaction.port == q) && is_make_unique_on v.transaction addr && v.complete) (record v { stored = true }) v refl
count-stays (G q c i) v own = same-count (has_name v.transaction q c i) (record v { granted = true }) v refl
count-stays e v own = refl

of-read : (b : Bool) (n : ℕ) → b ≡ true → (if b then n else 0) ≡ n
of-read true n t = refl
of-read false n t = cc

module _ (h : Header) (past : Trace) (e : Event) (a : IsAccepted h (e ∷ past)) (x : Transaction) (out : outstanding h past x.port x.chan x.id ≡ Some x)
    (own : moves_own e x.port ≡ false) where
  pub same-grant-of : has_grant (e ∷ past) x.port x.chan x.id ≡ has_grant past x.port x.chan x.id
  same-grant-of = ap (λ (v : Progress). v.granted) (renewed_is h past x out e a) ∙ granted-stays e (progress_of h past x) own

  pub same-count-of : x.chan ≡ Read → transfers (e ∷ past) x.port x.id ≡ transfers past x.port x.id
  same-count-of read =
      let reads : is_read x.chan ≡ true = ap is_read read in
      let same = ap (λ (v : Progress). v.transfers) (renewed_is h past x out e a) ∙ count-stays e (progress_of h past x) own in
      sym (of-read (is_read x.chan) (transfers (e ∷ past) x.port x.id) reads) ∙ same ∙ of-read (is_read x.chan) (transfers past x.port x.id) reads
