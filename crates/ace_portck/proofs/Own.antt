-- A port has at most one outstanding transaction on a line (K5), so what the rules ask of all its transactions is asked of that one.
use Rattle.std.proofs.Common.{◌≡◌, ℕ, true, false, Bool, not, ◌&&◌, nat_eq, Option, Some, None, is_some, refl, sym, ap, ◌∙◌, inl, inr}
use Rattle.std.proofs.lemmas.Bool.{and_parts, and_from, cases_Bool, or_left}
use Rattle.ace_codes.specs.declared.kind.ArKind.TheVariants as read
use Rattle.ace_portck.proofs.Terms.{Transaction, ArKind, Header, Trace, IsAccepted, is_some_and, is_line, is_on, is_make_unique, is_make_unique_on, is_line_read, is_line_write, read_kind, write_kind, is_outstanding, is_outstanding_on, has_outstanding_on, is_complete, some_issued, updates_memory, is_update_on, has_update, has_store, awaits_store, is_in_make_unique, wants_store, own_of}
use Rattle.ace_model.proofs.General.Options.{Some-injective, is_some_and-is}
use Rattle.ace_model.proofs.Trace.Growth.{IsIssued, some_issued-found}
use Rattle.ace_model.proofs.Outstanding.Only.{IsFound, found_some, one_outstanding_on}
use Rattle.ace_portck.proofs.Found.{last-found}

module _ (h : Header) (past : Trace) (a : IsAccepted h past) (p l : ℕ) where
  -- The port's own transaction on the line.
  pub record Owns (x : Transaction) : Type 0 where
    pub issued_one : IsIssued past x
    pub out : is_outstanding h past x ≡ true
    pub port : nat_eq x.port p ≡ true
    pub on : is_on x l ≡ true

  own-at : IsFound past (is_outstanding_on h past p l) (own_of h past p l)
  own-at = last-found past (is_outstanding_on h past p l)

  own-is : (x : Transaction) → own_of h past p l ≡ Some x → Owns x
  own-is x is =
      let f = own-at.some x is in
      let parts = and_parts (nat_eq x.port p && is_on x l) (is_outstanding h past x) f.1 in
      let two = and_parts (nat_eq x.port p) (is_on x l) parts.0 in
      record { issued_one = f.0; out = parts.1; port = two.0; on = two.1 }

  -- where it has none that passes a test, none of the trace does that asks for an outstanding transaction of the port on the line
  none-own : (test : Transaction → Bool) → ((x : Transaction) → test x ≡ true → is_outstanding_on h past p l x ≡ true)
      → ((x : Transaction) → own_of h past p l ≡ Some x → test x ≡ false) → some_issued past test ≡ false
  none-own test implied fails =
      found_some past test None (record {
        some = λ x is. cc;
        none = λ none x i t. by x i t (own_of h past p l) refl;
      })
    where
      by : (x : Transaction) → IsIssued past x → test x ≡ true → (o : Option Transaction) → own_of h past p l ≡ o → ⊥
      by x i t None is = own-at.none is x i (implied x t)
      by x i t (Some y) is =
          let f = own-at.some y is in
          let one : x ≡ y = one_outstanding_on h past p l x y a i f.0 (implied x t) f.1 in
          let off : test x ≡ false = ap test one ∙ fails y is in cc

  -- a test that asks for an outstanding transaction of the port on the line
  some-own : (test own_test : Transaction → Bool) → ((x : Transaction) → test x ≡ true → is_outstanding_on h past p l x ≡ true)
      → ((x : Transaction) → Owns x → test x ≡ own_test x) → some_issued past test ≡ is_some_and (own_of h past p l) own_test
  some-own test own_test implied same = by (own_of h past p l) refl
    where
      by : (o : Option Transaction) → own_of h past p l ≡ o → some_issued past test ≡ is_some_and o own_test
      by None is = none-own test implied (λ x own. let bad : None ≡ Some x = sym is ∙ own in cc)
      by (Some y) is =
          let s = own-is y is in
          elim (cases_Bool (test y)) [
            | inl t ↦ some_issued-found past test y.place y s.issued_one.there t ∙ sym t ∙ same y s
            | inr f ↦ none-own test implied (λ x own. ap test (Some-injective x y (sym own ∙ is)) ∙ f) ∙ sym f ∙ same y s
          ]

-- what is asked of a transaction beside that it is outstanding
stripped : (x y z m c : Bool) → x ≡ true → y ≡ true → z ≡ true → (((x && (m && y)) && z) && c) ≡ (m && c)
stripped x y z true c ex ey ez = rw (ex, ey, ez) refl
stripped x y z false c ex ey ez = rw ex refl

stripped_two : (x y z m : Bool) → x ≡ true → y ≡ true → z ≡ true → (((x && m) && y) && z) ≡ m
stripped_two x y z true ex ey ez = rw (ex, ey, ez) refl
stripped_two x y z false ex ey ez = rw ex refl

-- a MakeUnique has a line
make_unique-line : (k : ArKind) → is_make_unique k ≡ true → is_line_read k ≡ true
make_unique-line read.MakeUnique e = refl
make_unique-line _ e = cc

pub make_unique-on : (x : Transaction) (l : ℕ) → is_make_unique_on x l ≡ true → is_on x l ≡ true
make_unique-on x l t =
    let b = and_parts (is_some_and (read_kind x) is_make_unique) (nat_eq x.addr l) t in
    let k = is_some_and-is (read_kind x) is_make_unique b.0 in
    let kind = k.1 in
    let line = make_unique-line k.0 k.2 in
    and_from (is_line x) (nat_eq x.addr l) (or_left (is_some_and (read_kind x) is_line_read) (is_some_and (write_kind x) is_line_write) (rw kind line)) b.1

-- whether a transaction is a MakeUnique that has had its R
abbrev pub awaits_own_store : Trace → Transaction → Bool
awaits_own_store past x = is_some_and (read_kind x) is_make_unique && is_complete past x.port x.chan x.id

module _ (h : Header) (past : Trace) (a : IsAccepted h past) (p l : ℕ) where
  -- a transaction of the port on the line is outstanding
  pub has_outstanding-own : has_outstanding_on h past p l ≡ is_some (own_of h past p l)
  has_outstanding-own = found_some past (is_outstanding_on h past p l) (own_of h past p l) (last-found past (is_outstanding_on h past p l))

  -- a memory update
  pub has_update-own : has_update h past p l ≡ is_some_and (own_of h past p l) updates_memory
  has_update-own =
      some-own h past a p l (is_update_on h past p l) updates_memory
      (λ x t.
      let o = and_parts ((nat_eq x.port p && updates_memory x) && is_on x l) (is_outstanding h past x) t in
      let n = and_parts (nat_eq x.port p && updates_memory x) (is_on x l) o.0 in
      and_from _ _ (and_from _ _ (and_parts (nat_eq x.port p) (updates_memory x) n.0).0 n.1) o.1)
      (λ x s. stripped_two (nat_eq x.port p) (is_on x l) (is_outstanding h past x) (updates_memory x) s.port s.on s.out)

  -- a MakeUnique that is complete, and whose store is the next of the port to the line
  awaits-on : (x : Transaction) → awaits_store h past p l x ≡ true → is_outstanding_on h past p l x ≡ true
  awaits-on x t =
      let c = and_parts ((nat_eq x.port p && is_make_unique_on x l) && is_outstanding h past x) (is_complete past x.port x.chan x.id) t in
      let o = and_parts (nat_eq x.port p && is_make_unique_on x l) (is_outstanding h past x) c.0 in
      let n = and_parts (nat_eq x.port p) (is_make_unique_on x l) o.0 in
      and_from _ _ (and_from _ _ n.0 (make_unique-on x l n.1)) o.1

  awaits-own : (x : Transaction) → Owns h past a p l x → awaits_store h past p l x ≡ awaits_own_store past x
  awaits-own x s =
      stripped (nat_eq x.port p) (nat_eq x.addr l) (is_outstanding h past x) (is_some_and (read_kind x) is_make_unique) (is_complete past x.port x.chan x.id)
      s.port (and_parts (is_line x) (nat_eq x.addr l) s.on).1 s.out

  pub in_make_unique-own : is_in_make_unique h past p l ≡ is_some_and (own_of h past p l) (awaits_own_store past)
  in_make_unique-own = some-own h past a p l (awaits_store h past p l) (awaits_own_store past) awaits-on awaits-own

  pub wants_store-own : wants_store h past p l ≡ is_some_and (own_of h past p l) (λ x. awaits_own_store past x && not (has_store h past x.port x.id))
  wants_store-own =
      some-own h past a p l (λ x. awaits_store h past p l x && not (has_store h past x.port x.id)) (λ x. awaits_own_store past x && not (has_store h past x.port x.id))
      (λ x t. awaits-on x (and_parts (awaits_store h past p l x) _ t).0)
      (λ x s. ap (λ b. b && not (has_store h past x.port x.id)) (awaits-own x s))
