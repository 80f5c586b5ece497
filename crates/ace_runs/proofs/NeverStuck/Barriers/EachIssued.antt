-- What holds of each transaction of a trace: the test of all of them says so, and of those that pass a test there is an oldest.
use Rattle.std.proofs.Common.{◌≡◌, ◌≤◌, Bool, true, false, not, [], ◌∷◌, length, Some, inl, inr, ap, arith}
use Rattle.std.proofs.lemmas.Bool.{cases_Bool, false_from_ne_true, or_cases}
use Rattle.ace_event.specs.declared.event.Event.{Event}
use Rattle.ace_model.specs.declared.transactions.Transaction.{Transaction}
use Rattle.ace_model.specs.Progress.{each_issued}
use Rattle.ace_model.specs.Trace.{Trace, is_some_and}
use Rattle.ace_model.specs.Transactions.{issued, some_issued}
use Rattle.ace_model.proofs.General.Options.{is_some_and-is}
use Rattle.ace_model.proofs.Trace.Growth.{IsIssued, issued-cases, issued-new, issued-old, some_issued-found, some_issued-is}
use Rattle.ace_model.proofs.Trace.Issued.{issued-place}

pub each-from : (past : Trace) (test : Transaction → Bool) → ((y : Transaction) → IsIssued past y → test y ≡ true) → each_issued past test ≡ true
each-from past test each =
    ap not (false_from_ne_true (some_issued past (λ y. not (test y))) (λ some.
    let y = some_issued-is past (λ y. not (test y)) some in
    let passes = each y.0 y.1 in
    let bad : false ≡ true = rw passes at y.2 in cc))

-- the oldest transaction of the trace that passes the test
pub record IsOldest (past : Trace) (test : Transaction → Bool) : Type 0 where
  pub of : Transaction
  pub issued : IsIssued past of
  pub passes : test of ≡ true
  pub none_before : (y : Transaction) → IsIssued past y → test y ≡ true → of.place ≤ y.place

older : (e : Event) (past : Trace) (test : Transaction → Bool) → IsOldest past test → IsOldest (e ∷ past) test
older e past test o =
    record {
      of = o.of;
      issued = issued-old e past o.of o.issued;
      passes = o.passes;
      none_before = λ y i t.
          elim (issued-cases e past y i) [
            | inl new ↦ let place = issued-place (length past) e y new in let low = o.issued.before in omega (arith, place, low)
            | inr old ↦ o.none_before y old t
          ];
    }

newest : (e : Event) (past : Trace) (test : Transaction → Bool) (x : Transaction) → issued (length past) e ≡ Some x → test x ≡ true → some_issued past test ≡ false
    → IsOldest (e ∷ past) test
newest e past test x new t none =
    record {
      of = x;
      issued = issued-new e past x new;
      passes = t;
      none_before = λ y i u.
          elim (issued-cases e past y i) [
            | inl also ↦ let px = issued-place (length past) e x new in let py = issued-place (length past) e y also in omega (arith, px, py)
            | inr old ↦ let some = some_issued-found past test y.place y old.there u in cc
          ];
    }

pub oldest : (past : Trace) (test : Transaction → Bool) → some_issued past test ≡ true → IsOldest past test
oldest [] test s = cc
oldest (e ∷ past) test s =
    elim (cases_Bool (some_issued past test)) [
      | inl earlier ↦ older e past test (oldest past test earlier)
      | inr none ↦ elim (or_cases (is_some_and (issued (length past) e) test) (some_issued past test) s) [
        | inl now ↦ let x = is_some_and-is (issued (length past) e) test now in newest e past test x.0 x.1 x.2 none
        | inr earlier ↦ cc
      ]
    ]
