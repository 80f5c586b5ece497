-- What the parts of a checker say together.
use Rattle.std.proofs.Common.{◌≡◌, ◌==◌, ℕ, Bool, true, false, not, Option, Some, None, is_some, is_none, option_map, Result, Ok, Err, is_err, IsOk, IfOk, OnOk, OnErr, refl, sym, ap, subst, ◌∙◌, inl, inr}
use Rattle.std.proofs.lemmas.Bool.{cases_Bool}
use Rattle.ace_check.proofs.Terms.{found_unless, AllByRecursion, FitsFields, Channel, Write, Event, Header, Transaction, Trace, is_some_and, outstanding, IsAccepted, least_broken, least_of, k1, has_failed, granted, has_failed_on, lesser, port_rules, line_rules, system_rules, IsSound}
use Rattle.std.specs.Result.{result_err}
use Rattle.ace_model.proofs.Rules.Shares.{least_of_shares}
use Rattle.ace_model.proofs.Coherence.{accepted_coherent}
use Rattle.ace_model.proofs.Barriers.Law.{accepted_barriers_order}
use Rattle.ace_model.proofs.Exclusives.Law.{accepted_exclusive_holds}
use Rattle.ace_model.proofs.Dvm.Law.{accepted_dvm_holds}
use Rattle.ace_model.proofs.Holders.Law.{accepted_holds}

-- an accepted trace whose events fit their fields is sound
pub accepted_sound : (h : Header) (past : Trace) → IsAccepted h past → AllByRecursion FitsFields past → IsSound h past
accepted_sound h past a fits = record {
  coherent = accepted_coherent h past a fits;
  exclusive = accepted_exclusive_holds h past a;
  barrier = accepted_barriers_order h past a;
  dvm = accepted_dvm_holds h past a;
}

-- the name of a transaction
abbrev pub name_of : Transaction → ℕ × Channel × ℕ
name_of x = (x.port, x.chan, x.id)

named : (o : Option Transaction) (n : ℕ × Channel × ℕ) → option_map name_of o ≡ Some n → (x : Transaction) × (o ≡ Some x) × (name_of x ≡ n)
named None n is = cc
named (Some x) n is = (x, refl, cc)

-- the granted transaction of a line is the outstanding one of its name
pub granted_named : (h : Header) (past : Trace) (l p : ℕ) (c : Channel) (i : ℕ) → IsAccepted h past → option_map name_of (granted h past l) ≡ Some (p, c, i)
    → (x : Transaction) × (granted h past l ≡ Some x) × (outstanding h past p c i ≡ Some x) × (x.chan ≡ c)
granted_named h past l p c i a is =
    let n = named (granted h past l) (p, c, i) is in
    let x = n.0 in
    let out : outstanding h past x.port x.chan x.id ≡ Some x = ((accepted_holds h past a).grants l x n.1).0 in
    let port : x.port ≡ p = ap (λ (m : ℕ × Channel × ℕ). m.0) n.2 in
    let chan : x.chan ≡ c = ap (λ (m : ℕ × Channel × ℕ). m.1) n.2 in
    let id : x.id ≡ i = ap (λ (m : ℕ × Channel × ℕ). m.2) n.2 in
    let found : outstanding h past p c i ≡ Some x =
    subst (λ q. outstanding h past q c i ≡ Some x) port (subst (λ d. outstanding h past x.port d i ≡ Some x) chan (subst (λ j. outstanding h past x.port x.chan j ≡ Some x) id out)) in
    (x, n.1, found, chan)

pub no_write_fails : (past : Trace) (x : Transaction) → x.chan ≡ Write → false ≡ has_failed past x
no_write_fails past x chan = by x.lock refl
  where
    by : (b : Bool) → x.lock ≡ b → false ≡ has_failed past x
    by true t = rw (t, chan) refl
    by false f = rw f refl

pub failed_none : (h : Header) (past : Trace) (l : ℕ) → option_map name_of (granted h past l) ≡ None → false ≡ has_failed_on h past l
failed_none h past l is = by (granted h past l) refl
  where
    by : (o : Option Transaction) → granted h past l ≡ o → false ≡ has_failed_on h past l
    by None n = rw n refl
    by (Some x) s = let bad : Some (name_of x) ≡ None = rw s at is in cc

-- only a transaction with lock 1 is an exclusive store that failed
pub unlocked_stands : (h : Header) (past : Trace) (l : ℕ) → is_some_and (granted h past l) (λ x. x.lock) ≡ false → false ≡ has_failed_on h past l
unlocked_stands h past l = by (granted h past l) refl
  where
    by : (o : Option Transaction) → granted h past l ≡ o → is_some_and o (λ x. x.lock) ≡ false → false ≡ has_failed_on h past l
    by None n unlocked = rw n refl
    by (Some x) s unlocked = rw (s, unlocked) refl

-- where K1 is broken, the ports say so
pub ports_say_1 : (h : Header) (past : Trace) (e : Event) → k1 h past e ≡ false → least_of port_rules h past e ≡ Some 1
ports_say_1 h past e f = rw f refl

pub from_err : {A E P : Type 0} → (r : Result A E) → is_err r ≡ true → OnErr r P → P
from_err (Ok x) b p = cc
from_err (Err e) b p = p

pub from_ok : {A E P : Type 0} → (r : Result A E) → is_err r ≡ false → OnOk r P → P
from_ok (Ok x) b p = p
from_ok (Err e) b p = cc

-- it is K1
abbrev is_first : Option ℕ → Bool
is_first rule = is_some_and rule (λ k. k == 1)

-- where the rule of the ports isn't K1, K1 is kept
pub k1_kept : (h : Header) (past : Trace) (e : Event) (rule : Option ℕ) → rule ≡ least_of port_rules h past e → is_first rule ≡ false → k1 h past e ≡ true
k1_kept h past e rule is f =
    elim (cases_Bool (k1 h past e)) [
      | inl k ↦ k
      | inr n ↦ let one : rule ≡ Some 1 = is ∙ ports_say_1 h past e n in let bad : is_first (Some 1) ≡ false = subst (λ o. is_first o ≡ false) one f in cc
    ]

pub least_with : (h : Header) (past : Trace) (e : Event) (a b c : Option ℕ) → a ≡ least_of port_rules h past e → b ≡ least_of line_rules h past e → c ≡ least_of system_rules h past e
    → lesser a (lesser b c) ≡ least_broken h past e
least_with h past e a b c p l s = rw (p, l, s) (sym (least_of_shares h past e))

pub err_is_no_ok : {A E : Type 0} → (r : Result A E) → is_err r ≡ true → IsOk r → ⊥
err_is_no_ok (Ok x) b ok = cc
err_is_no_ok (Err e) b ok = cc

pub none_from_some : {A : Type 0} → (o : Option A) (b : Bool) → is_some o ≡ not b → b ≡ is_none o
none_from_some None true is = refl
none_from_some None false is = cc
none_from_some (Some x) true is = cc
none_from_some (Some x) false is = refl

pub some-mapped : {A B : Type 0} → (o : Option A) (f : A → B) → is_some o ≡ is_some (option_map f o)
some-mapped None f = refl
some-mapped (Some x) f = refl

-- what is found where no rule is broken, and which rule it is else
pub found-rule : {A : Type 0} → (x : A) (rule : Option ℕ) (r : Result A ℕ) → r ≡ found_unless x rule → result_err r ≡ rule
found-rule x None r is = ap result_err is
found-rule x (Some k) r is = ap result_err is

pub found-holds : {A : Type 0} → (P : A → Type 0) (x : A) (rule : Option ℕ) (r : Result A ℕ) → r ≡ found_unless x rule → P x → IfOk r P
found-holds P x None r is holds = subst (λ v. IfOk v P) (sym is) holds
found-holds P x (Some k) r is holds = subst (λ v. IfOk v P) (sym is) tt
