-- What the rules say, in the words of what is kept of the line.
use Rattle.std.proofs.Common.{◌≡◌, ℕ, true, false, Bool, not, ◌&&◌, if◌then◌else◌, [], ◌∷◌, length, Option, Some, None, is_some, option_map, refl, sym, ap, subst, ◌∙◌, inl, inr}
use Rattle.std.proofs.lemmas.Bool.{and_parts, cases_Bool, false_from_ne_true}
use Rattle.ace_codes.specs.declared.kind.SnoopKind.TheVariants as snoop
use Rattle.ace_lineck.proofs.Terms.{is_snoop_row, same_test, Transaction, Header, Trace, Event, Ar, Aw, SnoopKind, LineState, IsAccepted, implies, is_some_and, is_read, is_line, is_on, is_line_snoop, is_make_unique, read_kind, issued, has_outstanding_on, has_store, each_issued, is_no_snoop, is_used_alike, some_issued, wants_store, line_in, own_of, progress_of, Progress, Use, Unknown, Shareable, NoSnoop, use_by, use_of, newest_use, goes_with}
use Rattle.ace_model.proofs.General.Options.{Some-injective}
use Rattle.ace_model.proofs.General.Booleans.{implies-at}
use Rattle.ace_model.proofs.Trace.Growth.{IsIssued, issued-new, issued-old, issued-cases, each_issued-at, some_issued-is}
use Rattle.ace_model.proofs.Holders.ShareableLines.{used_alike}
use Rattle.ace_lineck.specs.Holders.{awaits_store}
use Rattle.ace_portck.proofs.Own.{has_outstanding-own, wants_store-own, awaits_own_store}

-- the line of an event that issues a transaction
pub issue-line : (h : Header) (past : Trace) (e : Event) (y : Transaction) → issued (length past) e ≡ Some y → line_in h past e ≡ (if is_line y then Some y.addr else None)
issue-line h past (Ar p i addr snoop dom bar lock) y new = ap (λ (v : Transaction). if is_line v then Some v.addr else None) (Some-injective _ y new)
issue-line h past (Aw p i addr snoop dom bar) y new = ap (λ (v : Transaction). if is_line v then Some v.addr else None) (Some-injective _ y new)
issue-line h past e y new = cc

-- How a line is used: as one of its transactions does, and as none of them where there is none.
record UsedBy (past : Trace) (l : ℕ) (b : Bool) : Type 0 where
  one : Transaction
  there : IsIssued past one
  on : is_on one l ≡ true
  alike : is_no_snoop one ≡ b

abbrev UseIs : Trace → ℕ → Use → Type 0
UseIs past l Unknown = (x : Transaction) → IsIssued past x → is_on x l ≡ true → ⊥
UseIs past l Shareable = UsedBy past l false
UseIs past l NoSnoop = UsedBy past l true

-- what is kept of the use stays where the event issues nothing on the line
use-older : (past : Trace) (e : Event) (l : ℕ) (u : Use) → UseIs past l u → ((x : Transaction) → issued (length past) e ≡ Some x → is_on x l ≡ false) → UseIs (e ∷ past) l u
use-older past e l Unknown f off =
    λ x i on. elim (issued-cases e past x i) [
      | inl new ↦ let none = off x new in cc
      | inr old ↦ f x old on
    ]
use-older past e l Shareable f off = record { one = f.one; there = issued-old e past f.one f.there; on = f.on; alike = f.alike }
use-older past e l NoSnoop f off = record { one = f.one; there = issued-old e past f.one f.there; on = f.on; alike = f.alike }

use-new : (past : Trace) (e : Event) (l : ℕ) (y : Transaction) → issued (length past) e ≡ Some y → is_on y l ≡ true → UseIs (e ∷ past) l (use_by y)
use-new past e l y new on =
    elim (cases_Bool (is_no_snoop y)) [
      | inl t ↦
          let is : use_by y ≡ NoSnoop = rw t refl in
          subst (UseIs (e ∷ past) l) (sym is) (record { one = y; there = issued-new e past y new; on = on; alike = t })
      | inr f ↦
          let is : use_by y ≡ Shareable = rw f refl in
          subst (UseIs (e ∷ past) l) (sym is) (record { one = y; there = issued-new e past y new; on = on; alike = f })
    ]

use-is : (past : Trace) (l : ℕ) → UseIs past l (use_of past l)
use-is [] l = λ x i on. let there = i.there in cc
use-is (e ∷ past) l = by (issued (length past) e) refl (use-is past l)
  where
    by : (o : Option Transaction) → issued (length past) e ≡ o → UseIs past l (use_of past l) → UseIs (e ∷ past) l (newest_use o l (use_of past l))
    by None is f = use-older past e l (use_of past l) f (λ x new. let bad = sym is ∙ new in cc)
    by (Some y) is f =
        elim (cases_Bool (is_on y l)) [
          | inl on ↦
              let one : newest_use (Some y) l (use_of past l) ≡ use_by y = rw on refl in
              subst (UseIs (e ∷ past) l) (sym one) (use-new past e l y is on)
          | inr off ↦
              let one : newest_use (Some y) l (use_of past l) ≡ use_of past l = rw off refl in
              subst (UseIs (e ∷ past) l) (sym one)
              (use-older past e l (use_of past l) f (λ x new. subst (λ (v : Transaction). is_on v l ≡ false) (Some-injective y x (sym is ∙ new)) off))
        ]

-- a test that holds of each transaction
each-from : (past : Trace) (test : Transaction → Bool) → ((z : Transaction) → IsIssued past z → test z ≡ true) → each_issued past test ≡ true
each-from past test all =
    let none = false_from_ne_true (some_issued past (λ z. not (test z))) (λ t.
    let z = some_issued-is past (λ z. not (test z)) t in
    let yes = all z.0 z.1 in
    let bad : false ≡ true = rw yes at z.2 in cc) in
    rw none refl

-- a transaction of a line with a transaction is like each of the line where it is like that one
each-same : (h : Header) (past : Trace) → IsAccepted h past → (y : Transaction) (b : Bool) → UsedBy past y.addr b → each_issued past (is_used_alike y) ≡ same_test (is_no_snoop y) b
each-same h past a y b u =
    elim (cases_Bool (each_issued past (is_used_alike y))) [
      | inl t ↦
          let alike = each_issued-at past (is_used_alike y) u.one.place u.one t u.there.there in
          let same = implies-at (is_on u.one y.addr) (same_test (is_no_snoop y) (is_no_snoop u.one)) alike u.on in
          t ∙ sym (subst (λ v. same_test (is_no_snoop y) v ≡ true) u.alike same)
      | inr f ↦
          f ∙ sym (false_from_ne_true (same_test (is_no_snoop y) b) (λ e.
          let all = each-from past (is_used_alike y) (λ z i.
          elim (cases_Bool (is_on z y.addr)) [
            | inr off ↦ rw off refl
            | inl on ↦
                let like : is_no_snoop z ≡ b = used_alike h past a z u.one y.addr i u.there on u.on ∙ u.alike in
                rw (on, like) e
          ]) in cc))
    ]

same-false : (b : Bool) → not b ≡ same_test b false
same-false true = refl
same-false false = refl

same-true : (b : Bool) → b ≡ same_test b true
same-true true = refl
same-true false = refl

-- a transaction goes with the use of its line exactly where it goes with each of the line
pub uses-law : (h : Header) (past : Trace) → IsAccepted h past → (y : Transaction) → goes_with (use_of past y.addr) (is_no_snoop y) ≡ each_issued past (is_used_alike y)
uses-law h past a y = by (use_of past y.addr) (use-is past y.addr)
  where
    by : (u : Use) → UseIs past y.addr u → goes_with u (is_no_snoop y) ≡ each_issued past (is_used_alike y)
    by Unknown f = sym (each-from past (is_used_alike y) (λ z i. let off = false_from_ne_true (is_on z y.addr) (f z i) in rw off refl))
    by Shareable f = same-false (is_no_snoop y) ∙ sym (each-same h past a y false f)
    by NoSnoop f = same-true (is_no_snoop y) ∙ sym (each-same h past a y true f)

-- a row of a snoop that isn't of a line asks for no state and for no memory update
pub row-apart : (k : SnoopKind) (held other : LineState) (update also : Bool) (resp : ℕ) (st : LineState) → is_line_snoop k ≡ false
    → is_snoop_row k held update resp st ≡ is_snoop_row k other also resp st
row-apart snoop.DvmComplete held other update also resp st f = refl
row-apart snoop.DvmMessage held other update also resp st f = refl
row-apart k held other update also resp st f = cc

pub implies-true : (b c : Bool) → c ≡ true → implies b c ≡ true
implies-true true c e = e
implies-true false c e = refl

make_unique-reads : (past : Trace) (x : Transaction) → awaits_own_store past x ≡ true → is_read x.chan ≡ true
make_unique-reads past x t =
    elim (cases_Bool (is_read x.chan)) [
      | inl reads ↦ reads
      | inr writes ↦ let bad = (and_parts (is_some_and (read_kind x) is_make_unique) _ t).0 in let no : false ≡ true = rw writes at bad in cc
    ]

module _ (h : Header) (past : Trace) where
  -- what is asked of the port's own transaction
  pub own-some : (p addr : ℕ) (o : Option Progress) → o ≡ option_map (progress_of h past) (own_of h past p addr) → IsAccepted h past → is_some o ≡ has_outstanding_on h past p addr
  own-some p addr o is a = ap is_some is ∙ by (own_of h past p addr) ∙ sym (has_outstanding-own h past a p addr)
    where
      by : (w : Option Transaction) → is_some (option_map (progress_of h past) w) ≡ is_some w
      by None = refl
      by (Some z) = refl

  pub own-wants : (p addr : ℕ) (o : Option Progress) → o ≡ option_map (progress_of h past) (own_of h past p addr) → IsAccepted h past
      → is_some_and o (λ y. awaits_store y && not y.stored) ≡ wants_store h past p addr
  own-wants p addr o is a = ap (λ v. is_some_and v (λ y. awaits_store y && not y.stored)) is ∙ by (own_of h past p addr) ∙ sym (wants_store-own h past a p addr)
    where
      by : (w : Option Transaction) → is_some_and (option_map (progress_of h past) w) (λ y. awaits_store y && not y.stored)
          ≡ is_some_and w (λ z. awaits_own_store past z && not (has_store h past z.port z.id))
      by None = refl
      by (Some z) =
          elim (cases_Bool (awaits_own_store past z)) [
            | inr f ↦ rw f refl
            | inl t ↦ let reads = make_unique-reads past z t in rw reads refl
          ]
