-- An operation that doesn't wait: nothing that was issued for it is outstanding, little was issued, and no outstanding read of its port brings a line in.
use Rattle.std.proofs.Common.{◌≡◌, ◌⊎◌, ◌≤◌, ◌+◌, ℕ, Bool, true, false, ◌&&◌, ◌||◌, ◌==◌, if◌then◌else◌, List, [], ◌∷◌, length, filter, slice_get, suc, Some, inl, inr, refl, sym, ap, ◌∙◌, arith}
use Rattle.ace_event.specs.declared.event.Channel.TheVariants.{Read}
use Rattle.ace_event.specs.declared.header.Header.{Header}
use Rattle.ace_model.specs.declared.plans.Op.{Op}
use Rattle.ace_model.specs.declared.plans.Op.TheVariants as op
use Rattle.ace_codes.specs.declared.kind.ArKind.{ArKind}
use Rattle.ace_codes.specs.declared.kind.ArKind.TheVariants as read
use Rattle.ace_model.specs.declared.transactions.Transaction.{Transaction}
use Rattle.ace_model.specs.Transactions.{has_outstanding_on, is_on, is_outstanding, is_outstanding_on, same_channel, write_kind}
use Rattle.ace_runs.specs.Segments.{segment, acts_made, silent_moves}
use Rattle.ace_master_laws.specs.Orderly.{IsFor, acts, brings, gives, owns, IsUnderWay, brings_line, has_lost, is_cleared, owns_line, read_wanted, store_wanted, takes_line}
use Rattle.ace_runs.proofs.NeverStuck.Operations.Fits.Ends.{CanNotEnd}
use Rattle.ace_runs.specs.Follows.{FollowsSoFar}
use Rattle.ace_master_laws.proofs.Progress.Come.{HasCome, NoneBrought, no-read}
use Rattle.ace_model.specs.Accepted.{IsAccepted}
use Rattle.ace_model.proofs.Trace.Growth.{IsIssued, some_issued-found}
use Rattle.ace_runs.proofs.NeverStuck.Phases.CalmEvents.{IsOfPort, segment-of-port}
use Rattle.ace_model.specs.Plans.{IsRight, Plan, line_named}
use Rattle.ace_model.specs.Trace.{Trace, is_some_and}
use Rattle.std.proofs.lemmas.Bool.{and_from, and_parts, eq-eqb, false_from_ne_true, or_cases, or_left, or_right}
use Rattle.ace_master_laws.proofs.Acknowledges.Due.{any-from, brings-on-line}
use Rattle.ace_runs.specs.Requests.{awaits_update}
use Rattle.ace_master_laws.proofs.Acknowledges.Acknowledging.{gives-update, kind-on-line, on-line, pair-parts, read-of-line}
use Rattle.ace_runs.specs.Acts.{is_act_transaction}
use Rattle.ace_model.specs.Kinds.{is_clean_unique, is_update}
use Rattle.ace_model.proofs.General.Options.{is_some_and-is}
use Rattle.ace_runs.proofs.NeverStuck.Operations.Lines.OfPlan.{next-planned}
use Rattle.ace_runs.specs.Operations.{next_operation}
use Rattle.ace_model.proofs.Outstanding.Only.{outstanding_at-from}
use Rattle.ace_runs.proofs.NeverStuck.Operations.SegmentOf.{segment-of}
use Rattle.ace_master_laws.proofs.Acknowledges.Settling.{store-parts, wanted-taken}
use Rattle.ace_model.specs.Progress.{updates_memory}

-- The operation is the port's next one, doesn't wait, and can't end.
pub record IsReady (plan : Plan) (past : Trace) (p : ℕ) (o : Op) : Type 0 where
  pub next : next_operation plan past p ≡ Some o
  pub free : (l : ℕ) → line_named o ≡ Some l → has_outstanding_on plan.header past p l ≡ false
  pub quiet : awaits_update plan.header past p ≡ false
  pub made : acts_made past p ≡ 0
  pub stays : CanNotEnd plan.header past p o

pub wanted-named : (o : Op) (k : ArKind) (l : ℕ) → read_wanted o ≡ Some (k, l) → line_named o ≡ Some l
wanted-named (op.Ld a w) k l is = ap Some (pair-parts (Some (read.ReadShared, a)) read.ReadShared k a l refl is).1
wanted-named (op.Ldx a w) k l is = ap Some (pair-parts (Some (read.ReadShared, a)) read.ReadShared k a l refl is).1
wanted-named (op.St a w word) k l is = ap Some (pair-parts (Some (read.ReadUnique, a)) read.ReadUnique k a l refl is).1
wanted-named (op.Fill a line) k l is = ap Some (pair-parts (Some (read.MakeUnique, a)) read.MakeUnique k a l refl is).1
wanted-named (op.Pf a j) k l is = ap Some (pair-parts (Some (j, a)) j k a l refl is).1
wanted-named o k l is = cc

pub stored-named : (o : Op) (l : ℕ) (lock : Bool) → store_wanted o ≡ Some (l, lock) → line_named o ≡ Some l
stored-named (op.St b w word) l lock is = ap Some (store-parts (Some (b, false)) b false l lock refl is).0
stored-named (op.Stx b w word) l lock is = ap Some (store-parts (Some (b, true)) b true l lock refl is).0
stored-named o l lock is = cc

filter-none : (test : Transaction → Bool) (xs : List Transaction) → ((k : ℕ) (y : Transaction) → slice_get xs k ≡ Some y → test y ≡ false) → length (filter test xs) ≤ 0
filter-none test [] none = omega arith
filter-none test (x ∷ xs) none =
    let rest = filter-none test xs (λ k y there. none (suc k) y there) in
    let f = none 0 x refl in rw f (omega (arith, rest))

-- each of a list passes one of two tests
filter-both : (test other : Transaction → Bool) (xs : List Transaction) → ((k : ℕ) (y : Transaction) → slice_get xs k ≡ Some y → (test y || other y) ≡ true)
    → length xs ≤ length (filter test xs) + length (filter other xs)
filter-both test other [] each = omega arith
filter-both test other (x ∷ xs) each =
    let rest = filter-both test other xs (λ k y there. each (suc k) y there) in
    by (test x) (other x) refl refl (each 0 x refl) rest
  where
    by : (a b : Bool) → test x ≡ a → other x ≡ b → (test x || other x) ≡ true → length xs ≤ length (filter test xs) + length (filter other xs)
        → suc (length xs) ≤ length (if test x then x ∷ filter test xs else filter test xs) + length (if other x then x ∷ filter other xs else filter other xs)
    by true true t u e rest = rw (t, u) (omega (arith, rest))
    by true false t u e rest = rw (t, u) (omega (arith, rest))
    by false true t u e rest = rw (t, u) (omega (arith, rest))
    by false false t u e rest = let bad : false ≡ true = rw (t, u) at e in cc

module _ (plan : Plan) (past : Trace) (p : ℕ) (o : Op) (right : IsRight plan) (a : IsAccepted plan.header past) (f : FollowsSoFar plan past) (c : HasCome plan past p) (r : IsReady plan past p o) where
  abbrev h : Header
  h = plan.header

  u : IsUnderWay plan past p o
  u = c.under_way o r.next

  busy : (l : ℕ) (y : Transaction) → line_named o ≡ Some l → IsIssued past y → y.port ≡ p → is_on y l ≡ true → is_outstanding h past y ≡ true → ⊥
  busy l y line i port on out =
      let some = some_issued-found past (is_outstanding_on h past p l) y.place y i.there (and_from _ _ (and_from _ _ (eq-eqb y.port p port) on) out) in
      let none = r.free l line in
      let bad : false ≡ true = sym none ∙ some in cc

  pub no-act : (k : ℕ) (y : Transaction) → slice_get (segment past p) k ≡ Some y → is_act_transaction y ≡ false
  no-act k y there =
      false_from_ne_true (is_act_transaction y) (λ act.
      let some = (segment-of past p k y there).acts act in
      let none = r.made in absurd (omega (arith, some, none)))

  -- nothing that it issued is outstanding
  pub idle : (k : ℕ) (y : Transaction) → slice_get (segment past p) k ≡ Some y → is_outstanding h past y ≡ false
  idle k y there = false_from_ne_true (is_outstanding h past y) (λ out. by out (u.asked k y there))
    where
      own : IsOfPort past p y
      own = segment-of-port past p k y there

      by : is_outstanding h past y ≡ true → IsFor o y → ⊥
      by out (acts act) = let none = no-act k y there in let bad : true ≡ false = sym act ∙ none in cc
      by out (brings j l wanted is of) =
          let taken = wanted-taken o j l wanted (next-planned plan past p o right r.next).fields in
          let b : brings_line y ≡ true = ap (λ v. is_some_and v takes_line) is ∙ taken in
          busy l y (wanted-named o j l wanted) own.there own.port (on-line y l (brings-on-line y b) (read-of-line j l y of)) out
      by out (owns l lock wanted is addr locked) = busy l y (stored-named o l lock wanted) own.there own.port (on-line y l (kind-on-line y read.CleanUnique is refl) addr) out
      by out (gives j is t) =
          let some = any-from (λ x. updates_memory x && is_outstanding h past x) (segment past p) k y there (and_from _ _ (gives-update y j o is t) out) in
          let bad : false ≡ true = sym r.quiet ∙ some in cc

  -- nor is a read of the port that brings a line in
  pub none-brought : NoneBrought h past p
  none-brought i y out b =
      let of = c.brought i y out b in
      let out_y = (and_parts ((y.port == p) && same_channel y.chan Read) (is_outstanding h past y) (outstanding_at-from h past p Read i y out).1).1 in
      let none = idle of.1 y of.3 in
      let bad : true ≡ false = sym out_y ∙ none in cc

  -- each is a write that cleared a line, or a CleanUnique whose line was lost
  pub settled-as : (k : ℕ) (y : Transaction) → slice_get (segment past p) k ≡ Some y
      → ((updates_memory y ≡ true) × (is_cleared plan.ways h past p o ≡ true)) ⊎ ((owns_line y ≡ true) × (has_lost h past p o ≡ true))
  settled-as k y there =
      let none = no-act k y there in
      elim (or_cases (is_act_transaction y || (updates_memory y && is_cleared plan.ways h past p o)) (owns_line y && has_lost h past p o) (u.settled k y there (idle k y there))) [
        | inr lost ↦ inr (and_parts (owns_line y) (has_lost h past p o) lost)
        | inl some ↦ elim (or_cases (is_act_transaction y) (updates_memory y && is_cleared plan.ways h past p o) some) [
          | inl act ↦ let bad : true ≡ false = sym act ∙ none in cc
          | inr clears ↦ inl (and_parts (updates_memory y) (is_cleared plan.ways h past p o) clears)
        ]
      ]

  -- so there are at most two
  pub few-issued : length (segment past p) ≤ 2
  few-issued =
      let both = filter-both updates_memory owns_line (segment past p) (λ k y there. elim (settled-as k y there) [
        | inl s ↦ or_left (updates_memory y) (owns_line y) s.0
        | inr s ↦ or_right (updates_memory y) (owns_line y) s.0
      ]) in
      let one = u.one_update in
      let other = u.one_owner in
      omega (arith, both, one, other)

  owner-kind : (y : Transaction) → owns_line y ≡ true → updates_memory y ≡ true → ⊥
  owner-kind y own updates =
      let k = is_some_and-is (write_kind y) is_update updates in
      let bad : false ≡ true = ap (λ v. is_some_and v is_clean_unique) (sym (no-read y k.0 k.1)) ∙ own in cc

  -- none cleared a line, where that isn't done
  pub none-cleared : is_cleared plan.ways h past p o ≡ false → (length (filter updates_memory (segment past p)) ≤ 0) × (silent_moves past p ≡ 0)
  none-cleared not_yet = (
    filter-none updates_memory (segment past p) (λ k y there. false_from_ne_true (updates_memory y) (λ updates. elim (settled-as k y there) [
      | inl s ↦ let bad : true ≡ false = sym s.1 ∙ not_yet in cc
      | inr s ↦ owner-kind y s.0 updates
    ])),
    elim u.silent [
      | inl none ↦ none
      | inr one ↦ let bad : true ≡ false = sym one.1 ∙ not_yet in cc
    ],
  )

  -- no CleanUnique came, where the line isn't lost
  pub none-owned : has_lost h past p o ≡ false → length (filter owns_line (segment past p)) ≤ 0
  none-owned held =
      filter-none owns_line (segment past p) (λ k y there. false_from_ne_true (owns_line y) (λ own. elim (settled-as k y there) [
        | inl s ↦ owner-kind y own s.0
        | inr s ↦ let bad : true ≡ false = sym s.1 ∙ held in cc
      ]))

  -- nothing was issued, where neither can be
  pub none-issued : is_cleared plan.ways h past p o ≡ false → has_lost h past p o ≡ false → length (segment past p) ≤ 0
  none-issued not_yet held =
      let both = filter-both updates_memory owns_line (segment past p) (λ k y there. elim (settled-as k y there) [
        | inl s ↦ or_left (updates_memory y) (owns_line y) s.0
        | inr s ↦ or_right (updates_memory y) (owns_line y) s.0
      ]) in
      let one = (none-cleared not_yet).0 in
      let other = none-owned held in
      omega (arith, both, one, other)
