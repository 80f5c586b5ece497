-- A B: what it asks of its write, and what that of a line write leaves.
use Rattle.std.proofs.Common.{◌≡◌, ◌<◌, ◌-◌, ◌^◌, ℕ, true, false, not, ◌&&◌, ◌∷◌, List, length, Option, Some, None, option_map, refl, sym, ap, ◌∙◌}
use Rattle.ace_lineck.proofs.Terms.{AwKind, Line, Transaction, least_broken, has_write_data, k26_memory, B, Header, Trace, Write, implies, is_ace, is_transaction, ended, outstanding, write_kind, Recording, after, line_in, line_of, progress_of, target_of, line_write, Progress, Target, Grant, LineCheck, Holder, GrantStands, IsGrantStep, is_of, Stands, MayApply, place_on}
use Rattle.ace_model.proofs.General.Options.{Some-injective}
use Rattle.ace_model.proofs.Trace.Issued.{outstanding-name}
use Rattle.ace_portck.proofs.LineWrites.{line_write-is, line_write-line}
use Rattle.ace_lineck.proofs.GrantHear.{ends_heard, other_heard, over_heard}
use Rattle.ace_lineck.proofs.Heard.{may-hear}
use Rattle.ace_lineck.proofs.AllLines.{untouched-lines}

-- the M of K26
pub memory-law : (h : Header) (past : Trace) (p i resp : ℕ) (x : Progress) (k : AwKind) → option_map (progress_of h past) (outstanding h past p Write i) ≡ Some x
    → write_kind x.transaction ≡ Some k → implies (has_write_data k) x.written ≡ k26_memory h past (B p i resp)
memory-law h past p i resp x k out kind = by (outstanding h past p Write i) refl
  where
    by : (o : Option Transaction) → outstanding h past p Write i ≡ o → implies (has_write_data k) x.written ≡ k26_memory h past (B p i resp)
    by None is = let bad : None ≡ Some x = rw is at out in cc
    by (Some y) is =
        let same : Some (progress_of h past y) ≡ Some x = rw is at out in
        let one : progress_of h past y ≡ x = cc in
        let own : write_kind y ≡ Some k = ap (λ (v : Progress). write_kind v.transaction) one ∙ kind in
        rw (is, own, ← one) refl

-- at an ACE port it ends no transaction, and all lines stay as they are
pub ace_response-still : (s : LineCheck) (r : Recording) (p i resp : ℕ) → is_ace r.header p ≡ true → Stands s r → least_broken r.header r.past (B p i resp) ≡ None
    → Stands s (after r (B p i resp))
ace_response-still s r p i resp ace st fine =
    untouched-lines s r (B p i resp) st fine refl refl refl (rw ace refl) (λ l. record { memory = refl; state = λ p. refl; copy = λ p. refl; sent = λ p. refl })

-- the port of the write is that of its B
pub response-port : (h : Header) (past : Trace) (p i : ℕ) (x : Progress) → option_map (progress_of h past) (outstanding h past p Write i) ≡ Some x → x.transaction.port ≡ p
response-port h past p i x out = by (outstanding h past p Write i) refl
  where
    by : (o : Option Transaction) → outstanding h past p Write i ≡ o → x.transaction.port ≡ p
    by None is = let bad : None ≡ Some x = rw is at out in cc
    by (Some y) is =
        let same : Some (progress_of h past y) ≡ Some x = rw is at out in
        ap (λ (v : Progress). v.transaction.port) (sym (Some-injective (progress_of h past y) x same)) ∙ (outstanding-name h past p Write i y is).port

-- its line is that of the write
response-line : (h : Header) (past : Trace) (p i resp : ℕ) (x : Progress) (k : AwKind) → option_map (progress_of h past) (outstanding h past p Write i) ≡ Some x
    → line_write x.transaction ≡ Some k → line_in h past (B p i resp) ≡ Some x.transaction.addr
response-line h past p i resp x k out line = ap line_of out ∙ (let on = line_write-line x.transaction k (line_write-is x.transaction k line) in rw on refl)

-- it may be taken
pub response-may : (s : LineCheck) (r : Recording) (p i resp : ℕ) (x : Progress) (k : AwKind) (place : Option ℕ) → Stands s r
    → option_map (progress_of r.header r.past) (outstanding r.header r.past p Write i) ≡ Some x → line_write x.transaction ≡ Some k → place ≡ place_on s (Some x.transaction.addr)
    → least_broken r.header r.past (B p i resp) ≡ None → length r.past < 2 ^ 64 - 1 → MayApply s r (B p i resp) (target_of r.header r.past (B p i resp)) place
response-may s r p i resp x k place st out line at fine few = may-hear s r (B p i resp) place refl st (at ∙ ap (place_on s) (sym (response-line r.header r.past p i resp x k out line))) fine few

-- at an ACE-Lite port it ends the grant of its write, and no other
module _ (h : Header) (past : Trace) (l p i resp : ℕ) (t : Target) (xs : List Holder) (memory : Line) where
  module _ (g : Grant) (x : Progress) (s : IsGrantStep h past l (B p i resp) t (Some g) xs memory) (at : t.transaction ≡ Some x) (lite : is_ace h p ≡ false) where
    ends-own : is_transaction (ended h past (B p i resp)) g.transaction ≡ is_of (Some x) g.transaction
    ends-own = sym (ends_heard h past l t g xs memory (B p i resp) s.step) ∙ ap (λ b. not b && is_of t.transaction g.transaction) lite ∙ ap (λ o. is_of o g.transaction) at

    pub own-ends : is_of (Some x) g.transaction ≡ true → GrantStands h (B p i resp ∷ past) l None
    own-ends own = over_heard h past l (B p i resp) g s.grant refl (ends-own ∙ own)

    pub other-stays : is_of (Some x) g.transaction ≡ false → GrantStands h (B p i resp ∷ past) l (Some g)
    other-stays apart = other_heard h past l t g xs memory (B p i resp) refl s (ends-own ∙ apart)
