-- Between the steps of a run the halves of barriers go together: the k-th AR Barrier of a port is there exactly where its k-th AW Barrier is,
-- and one is complete exactly where the other is. Step 14 issues both halves, and step 10 answers both. This file has what changes neither.
use Rattle.std.proofs.Common.{◌≡◌, ℕ, Bool, true, false, not, ◌&&◌, ◌||◌, ◌==◌, List, [], ◌∷◌, length, Option, Some, None, slice_get, refl, sym, ap, ◌∙◌}
use Rattle.std.specs.List.{list_all}
use Rattle.std.proofs.lemmas.Bool.{and_parts, eqb-true, ne_eqb, not-true}
use Rattle.ace_event.specs.declared.event.Channel.{Channel}
use Rattle.ace_event.specs.declared.event.Channel.TheVariants.{Read, Write}
use Rattle.ace_event.specs.declared.event.Event.{Event}
use Rattle.ace_event.specs.declared.event.Event.TheVariants.{Ar, R, Aw, B}
use Rattle.ace_model.specs.declared.transactions.Transaction.{Transaction}
use Rattle.ace_model.specs.Barriers.{barriers, is_barrier_half, is_barrier_of}
use Rattle.ace_model.specs.Progress.{is_completed, is_completion_event, has_had, served_by}
use Rattle.ace_model.specs.Trace.{Trace, more, option_filter}
use Rattle.ace_model.specs.Transactions.{is_read, is_transaction, issued, transaction_of}
use Rattle.ace_model.proofs.Barriers.Pairs.{barriers-half, is_barrier_of-is}
use Rattle.ace_model.proofs.General.Options.{Some-injective}
use Rattle.ace_model.proofs.Trace.Growth.{IsIssued, issued-old}
use Rattle.ace_model.proofs.Trace.Issued.{issued_at}
use Rattle.ace_model.proofs.Trace.Looks.{is_read-is, is_write-is}
use Rattle.ace_runs.specs.Bursts.{onto}
use Rattle.ace_runs.proofs.NeverStuck.Barriers.DoneBefore.{new-ordinary}
use Rattle.ace_runs.proofs.NeverStuck.Barriers.Quiet.{is_ordinary, is_quiet}
use Rattle.ace_runs.proofs.NeverStuck.Barriers.Responses.{is_response_for}

-- Each port has as many halves on the one channel as on the other, and the k-th ones are complete together.
pub record AreTogether (past : Trace) : Type 0 where
  pub as_many : (p : ℕ) → length (barriers past p Read) ≡ length (barriers past p Write)
  pub both : (p k : ℕ) (x y : Transaction) → slice_get (barriers past p Read) k ≡ Some x → slice_get (barriers past p Write) k ≡ Some y
      → is_completed past x ≡ is_completed past y

-- ---- events that leave barriers alone ----------------------------------------------------------------

-- The event issues no half of a barrier, and completes none.
pub record IsApart (past : Trace) (e : Event) : Type 0 where
  pub issues_none : (x : Transaction) → issued (length past) e ≡ Some x → is_barrier_half x ≡ false
  pub completes_none : (x : Transaction) → IsIssued past x → is_barrier_half x ≡ true → (is_completion_event e && is_transaction (served_by past e) x) ≡ false

none-added : (xs : List Transaction) (o : Option Transaction) (p : ℕ) (c : Channel) → ((x : Transaction) → o ≡ Some x → is_barrier_half x ≡ false)
    → more xs (option_filter (λ x. is_barrier_of x p c) o) ≡ xs
none-added xs None p c none = refl
none-added xs (Some x) p c none = let other = none x refl in rw other refl

same-barriers : (past : Trace) (e : Event) (p : ℕ) (c : Channel) → IsApart past e → barriers (e ∷ past) p c ≡ barriers past p c
same-barriers past e p c a = none-added (barriers past p c) (issued (length past) e) p c a.issues_none

pub half-in : (past : Trace) (p : ℕ) (c : Channel) (k : ℕ) (x : Transaction) → slice_get (barriers past p c) k ≡ Some x → IsIssued past x × (is_barrier_half x ≡ true)
half-in past p c k x there = let i = barriers-half past p c k x there in (i.stands, (is_barrier_of-is x p c i.barrier).barrier)

pub same-completed : (past : Trace) (e : Event) (x : Transaction) → (is_completion_event e && is_transaction (served_by past e) x) ≡ false → is_completed (e ∷ past) x ≡ is_completed past x
same-completed past e x none = ap (λ b. b || has_had is_completion_event past x) none

apart-keeps : (past : Trace) (e : Event) → AreTogether past → IsApart past e → AreTogether (e ∷ past)
apart-keeps past e t a =
    record {
      as_many = λ p. ap length (same-barriers past e p Read a) ∙ t.as_many p ∙ sym (ap length (same-barriers past e p Write a));
      both = λ p k x y r w.
          let first : slice_get (barriers past p Read) k ≡ Some x = ap (λ xs. slice_get xs k) (sym (same-barriers past e p Read a)) ∙ r in
          let second : slice_get (barriers past p Write) k ≡ Some y = ap (λ xs. slice_get xs k) (sym (same-barriers past e p Write a)) ∙ w in
          let hx = half-in past p Read k x first in
          let hy = half-in past p Write k y second in
          same-completed past e x (a.completes_none x hx.0 hx.1) ∙ t.both p k x y first second ∙ sym (same-completed past e y (a.completes_none y hy.0 hy.1));
    }

quiet-apart : (past : Trace) (e : Event) → is_quiet e ≡ true → IsApart past e
quiet-apart past e m = record { issues_none = λ x new. issues e x new m; completes_none = λ x i half. completes e x m }
  where
    issues : (e : Event) (x : Transaction) → issued (length past) e ≡ Some x → is_quiet e ≡ true → is_barrier_half x ≡ false
    issues (Ar q i addr snoop dom bar lock) x new m = cc
    issues (Aw q i addr snoop dom bar) x new m = cc
    issues e x new m = cc

    completes : (e : Event) (x : Transaction) → is_quiet e ≡ true → (is_completion_event e && is_transaction (served_by past e) x) ≡ false
    completes (R q i resp last word) x m = cc
    completes (B q i resp) x m = cc
    completes e x m = refl

ordinary-apart : (past : Trace) (p : ℕ) (e : Event) → is_ordinary p e ≡ true → IsApart past e
ordinary-apart past p e m = record { issues_none = λ x new. (new-ordinary past p e x new m).1; completes_none = λ x i half. completes e x m }
  where
    completes : (e : Event) (x : Transaction) → is_ordinary p e ≡ true → (is_completion_event e && is_transaction (served_by past e) x) ≡ false
    completes (R q i resp last word) x m = cc
    completes (B q i resp) x m = cc
    completes e x m = refl

pub none-second : (b : Bool) → (b && false) ≡ false
none-second true = refl
none-second false = refl

-- two transactions at one place are one
pub one-place : (past : Trace) (x y : Transaction) → IsIssued past x → IsIssued past y → x.place ≡ y.place → x ≡ y
one-place past x y ix iy same = Some-injective x y (sym ix.there ∙ ap (issued_at past) same ∙ iy.there)

-- an event that belongs to another transaction completes none of the barriers
pub other-served : (past : Trace) (x y : Transaction) (o : Option Transaction) → o ≡ Some x → IsIssued past x → IsIssued past y → is_barrier_half x ≡ false → is_barrier_half y ≡ true
    → is_transaction o y ≡ false
other-served past x y o is ix iy none half =
    ap (λ v. is_transaction v y) is
    ∙ ne_eqb x.place y.place (λ same. let one = one-place past x y ix iy same in let bad : false ≡ true = sym none ∙ ap is_barrier_half one ∙ half in cc)

response-apart : (past : Trace) (x : Transaction) (e : Event) → transaction_of past x.port x.chan x.id ≡ Some x → IsIssued past x → is_barrier_half x ≡ false
    → is_response_for x e ≡ true → IsApart past e
response-apart past x e named ix none m = record { issues_none = λ y new. issues e y new m; completes_none = λ y i half. completes e y i half m }
  where
    issues : (e : Event) (y : Transaction) → issued (length past) e ≡ Some y → is_response_for x e ≡ true → is_barrier_half y ≡ false
    issues (Ar q i addr snoop dom bar lock) y new m = cc
    issues (Aw q i addr snoop dom bar) y new m = cc
    issues e y new m = cc

    completes : (e : Event) (y : Transaction) → IsIssued past y → is_barrier_half y ≡ true → is_response_for x e ≡ true → (is_completion_event e && is_transaction (served_by past e) y) ≡ false
    completes (R q i resp last word) y iy half m =
        let p1 = and_parts (is_read x.chan && (x.port == q)) (x.id == i) m in
        let p2 = and_parts (is_read x.chan) (x.port == q) p1.0 in
        let of : transaction_of past q Read i ≡ Some x = rw (← eqb-true x.port q p2.1, ← is_read-is x.chan p2.0, ← eqb-true x.id i p1.1) named in
        let other = other-served past x y (transaction_of past q Read i) of ix iy none half in
        ap (λ b. last && b) other ∙ none-second last
    completes (B q i resp) y iy half m =
        let p1 = and_parts (not (is_read x.chan) && (x.port == q)) (x.id == i) m in
        let p2 = and_parts (not (is_read x.chan)) (x.port == q) p1.0 in
        let of : transaction_of past q Write i ≡ Some x = rw (← eqb-true x.port q p2.1, ← is_write-is x.chan (not-true (is_read x.chan) p2.0), ← eqb-true x.id i p1.1) named in
        other-served past x y (transaction_of past q Write i) of ix iy none half
    completes e y iy half m = refl

-- ---- bursts ------------------------------------------------------------------------------------------

pub quiet-together : (burst : List Event) (past : Trace) → AreTogether past → list_all is_quiet burst ≡ true → AreTogether (onto burst past)
quiet-together [] past t m = t
quiet-together (e ∷ burst) past t m =
    let parts = and_parts (is_quiet e) (list_all is_quiet burst) m in
    quiet-together burst (e ∷ past) (apart-keeps past e t (quiet-apart past e parts.0)) parts.1

pub ordinary-together : (burst : List Event) (past : Trace) (p : ℕ) → AreTogether past → list_all (is_ordinary p) burst ≡ true → AreTogether (onto burst past)
ordinary-together [] past p t m = t
ordinary-together (e ∷ burst) past p t m =
    let parts = and_parts (is_ordinary p e) (list_all (is_ordinary p) burst) m in
    ordinary-together burst (e ∷ past) p (apart-keeps past e t (ordinary-apart past p e parts.0)) parts.1

-- a response leaves the name to the transaction
still-named : (past : Trace) (x : Transaction) (e : Event) → transaction_of past x.port x.chan x.id ≡ Some x → is_response_for x e ≡ true
    → transaction_of (e ∷ past) x.port x.chan x.id ≡ Some x
still-named past x (Ar q i addr snoop dom bar lock) named m = cc
still-named past x (Aw q i addr snoop dom bar) named m = cc
still-named past x e named m = named

pub responses-together : (burst : List Event) (past : Trace) (x : Transaction) → AreTogether past → transaction_of past x.port x.chan x.id ≡ Some x → IsIssued past x
    → is_barrier_half x ≡ false → list_all (is_response_for x) burst ≡ true → AreTogether (onto burst past)
responses-together [] past x t named i none m = t
responses-together (e ∷ burst) past x t named i none m =
    let parts = and_parts (is_response_for x e) (list_all (is_response_for x) burst) m in
    responses-together burst (e ∷ past) x (apart-keeps past e t (response-apart past x e named i none parts.0)) (still-named past x e named parts.0) (issued-old e past x i) none parts.1
