-- What a master keeps of the burst that it hasn't sent stands after an event that leaves its write data, after the burst, and after a new write.
use Rattle.std.proofs.Common.{◌≡◌, ℕ, zero, suc, ◌/◌, ◌%◌, ◌≤◌, Bool, true, false, ◌&&◌, ◌==◌, List, [], ◌∷◌, ◌++◌, length, length-append, Option, Some, None, is_some, slice_get, refl, sym, ap, subst, ◌∙◌, arith}
use Rattle.std.proofs.lemmas.Bool.{eq-eqb}
use Rattle.std.proofs.lemmas.Option.{slice_get_within}
use Rattle.ace_event.specs.declared.event.Event.{Event}
use Rattle.ace_model.specs.declared.transactions.Transaction.{Transaction}
use Rattle.ace_model.specs.Plans.{Plan}
use Rattle.ace_model.specs.Trace.{Trace}
use Rattle.ace_model.specs.Values.{stores_data}
use Rattle.ace_model.specs.Writes.{Beat, beats, data_writes, next_write, next_write_beat}
use Rattle.ace_model.proofs.General.Lists.{slice_get-at_end}
use Rattle.ace_model.proofs.General.Options.{Some-injective}
use Rattle.ace_runs.specs.Bursts.{onto}
use Rattle.ace_runs.specs.MasterSteps.{may_send}
use Rattle.ace_portck.specs.declared.target.WriteData.{WriteData}
use Rattle.ace_master.specs.Sending.{IsForData, IsSent, KeepsData, UnsentStands}
use Rattle.ace_master.proofs.LiteHeard.{behind-left}

none-past : (xs : List Transaction) (n : ℕ) → length xs ≤ n → slice_get xs n ≡ None
none-past [] n low = refl
none-past (x ∷ xs) zero low = absurd (omega (arith, low))
none-past (x ∷ xs) (suc n) low = none-past xs n (omega (arith, low))

-- the place past the end of a list
past-end : (xs : List Transaction) (n : ℕ) → is_some (slice_get xs n) ≡ false → length xs ≤ n
past-end [] n none = omega arith
past-end (x ∷ xs) zero none = cc
past-end (x ∷ xs) (suc n) none = let low = past-end xs n none in omega (arith, low)

-- where nothing is left to send, nothing need be kept
pub none-keeps : (plan : Plan) (past : Trace) (p : ℕ) (unsent : Option WriteData) → next_write past p ≡ None → KeepsData plan past p unsent
none-keeps plan past p unsent none = λ x next stores. let bad : None ≡ Some x = sym none ∙ next in cc

pub unsent-first : (plan : Plan) (p : ℕ) (unsent : Option WriteData) → UnsentStands plan [] p unsent
unsent-first plan p unsent = record { whole = refl; last = omega arith; data_is = none-keeps plan [] p unsent refl }

pub unsent-left : (plan : Plan) (past : Trace) (p : ℕ) (e : Event) (unsent : Option WriteData) → data_writes (e ∷ past) p ≡ data_writes past p → beats (e ∷ past) p ≡ beats past p
    → UnsentStands plan past p unsent → UnsentStands plan (e ∷ past) p unsent
unsent-left plan past p e unsent writes beats_are u = record {
  whole = ap (λ (bs : List Beat). length bs % 4) beats_are ∙ u.whole;
  last =
      let low = u.last in
      let many = ap length writes in
      let sent = ap length beats_are in
      omega (arith, low, many, sent);
  data_is = λ x next stores.
      let before : next_write past p ≡ Some x = sym (ap (λ (xs : List Transaction). slice_get xs (length (beats (e ∷ past) p) / 4)) writes ∙ ap (λ (bs : List Beat). slice_get (data_writes past p) (length bs / 4)) beats_are) ∙ next in
      let k = u.data_is x before stores in (
        k.0,
        k.1,
        record { behind = k.2.behind; is_behind = behind-left plan past p (length (beats past p) / 4) x e before ∙ k.2.is_behind; kind = k.2.kind; carries = k.2.carries },
      );
}

pub unsent-sent : (plan : Plan) (past : Trace) (p : ℕ) (burst : List Event) (before unsent : Option WriteData) → IsSent plan past p burst → UnsentStands plan past p before
    → UnsentStands plan (onto burst past) p unsent
unsent-sent plan past p burst before unsent s u =
    let more_now = s.more in
    let whole = u.whole in
    let low = u.last in
    let many = ap length s.writes in
    let all : length (data_writes (onto burst past) p) ≤ length (beats (onto burst past) p) / 4 = omega (arith, more_now, whole, low, many) in
    record {
      whole = omega (arith, more_now, whole);
      last = omega (arith, more_now, low, many);
      data_is = none-keeps plan (onto burst past) p unsent (none-past (data_writes (onto burst past) p) (length (beats (onto burst past) p) / 4) all);
    }

pub none-first : (a b : Bool) → b ≡ true → (a && b) ≡ false → a ≡ false
none-first true b t f = let bad : true ≡ false = sym t ∙ f in cc
none-first false b t f = refl

-- A write with data is issued where none is left to send.
pub unsent-issued : (plan : Plan) (past : Trace) (p : ℕ) (e : Event) (x : Transaction) (before unsent : Option WriteData) → data_writes (e ∷ past) p ≡ data_writes past p ++ x ∷ []
    → beats (e ∷ past) p ≡ beats past p → may_send plan.header past p ≡ false → UnsentStands plan past p before
    → (stores_data x ≡ true → (d : WriteData) × (unsent ≡ Some d) × IsForData plan (e ∷ past) x d) → UnsentStands plan (e ∷ past) p unsent
unsent-issued plan past p e x before unsent writes beats_are none u new =
    let whole = u.whole in
    let low = u.last in
    let idle = none-first (is_some (next_write past p)) (next_write_beat past p == 0) (eq-eqb (next_write_beat past p) 0 whole) none in
    let all = past-end (data_writes past p) (length (beats past p) / 4) idle in
    let many = ap length writes ∙ length-append (data_writes past p) (x ∷ []) in
    let sent = ap length beats_are in
    record {
      whole = ap (λ (bs : List Beat). length bs % 4) beats_are ∙ whole;
      last = omega (arith, all, many, sent);
      data_is = λ y next stores.
          let there : slice_get (data_writes past p ++ x ∷ []) (length (beats past p) / 4) ≡ Some y =
          sym (ap (λ (xs : List Transaction). slice_get xs (length (beats (e ∷ past) p) / 4)) writes ∙ ap (λ (bs : List Beat). slice_get (data_writes past p ++ x ∷ []) (length bs / 4)) beats_are) ∙ next in
          let within = slice_get_within (data_writes past p ++ x ∷ []) (length (beats past p) / 4) y there in
          let long = length-append (data_writes past p) (x ∷ []) in
          let at : length (beats past p) / 4 ≡ length (data_writes past p) = omega (arith, all, within, long) in
          let one : x ≡ y = Some-injective x y (sym (slice_get-at_end (data_writes past p) (length (beats past p) / 4) x at) ∙ there) in
          subst (λ z. (d : WriteData) × (unsent ≡ Some d) × IsForData plan (e ∷ past) z d) one (new (ap stores_data one ∙ stores));
    }
