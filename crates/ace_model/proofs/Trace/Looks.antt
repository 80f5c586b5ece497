-- What the small tests of the looks at a trace say.
use Rattle.std.proofs.Common.{◌≡◌, ◌≢◌, ◌⊎◌, ℕ, true, false, ◌&&◌, nat_eq, Option, Some, None, refl, sym, ap, subst, ◌∙◌, inl, inr}
use Rattle.std.proofs.lemmas.Bool.{and_parts, and_from, cases_Bool, eqb-true, eq-eqb}
use Rattle.ace_model.proofs.Terms.{Channel, Read, Write, Transaction, is_read, same_channel, has_name, is_named, is_on, is_line, is_some_on, newest_named, without, newest_on, ArKind, SnoopKind, Header, Trace, read_kind, write_kind, snoop_of, has_failed, are_snoops_done, list_all, ports_below, is_port_done}
use Rattle.ace_model.proofs.General.Options.{some_or-cases, Some-injective}

pub is_read-is : (c : Channel) → is_read c ≡ true → c ≡ Read
is_read-is Read e = refl
is_read-is Write e = cc

pub same_channel-is : (c d : Channel) → same_channel c d ≡ true → c ≡ d
same_channel-is Read Read e = refl
same_channel-is Read Write e = cc
same_channel-is Write Read e = cc
same_channel-is Write Write e = refl

pub same_channel-self : (c : Channel) → same_channel c c ≡ true
same_channel-self Read = refl
same_channel-self Write = refl

pub record Named (x : Transaction) (p : ℕ) (c : Channel) (i : ℕ) : Type 0 where
  pub port : x.port ≡ p
  pub chan : x.chan ≡ c
  pub id : x.id ≡ i

pub has_name-is : (x : Transaction) (p : ℕ) (c : Channel) (i : ℕ) → has_name x p c i ≡ true → Named x p c i
has_name-is x p c i e =
    let a = and_parts (nat_eq x.port p && same_channel x.chan c) (nat_eq x.id i) e in
    let b = and_parts (nat_eq x.port p) (same_channel x.chan c) a.0 in
    record { port = eqb-true x.port p b.0; chan = same_channel-is x.chan c b.1; id = eqb-true x.id i a.1 }

-- what is asked of the name of a transaction
pub at_name : {A : Type 0} → (look : ℕ → Channel → ℕ → A) (x : Transaction) (p : ℕ) (c : Channel) (i : ℕ) → Named x p c i → look x.port x.chan x.id ≡ look p c i
at_name look x p c i n = ap (λ a. look a x.chan x.id) n.port ∙ ap (λ a. look p a x.id) n.chan ∙ ap (look p c) n.id

pub has_name-self : (x : Transaction) → has_name x x.port x.chan x.id ≡ true
has_name-self x = and_from _ _ (and_from _ _ (eq-eqb x.port x.port refl) (same_channel-self x.chan)) (eq-eqb x.id x.id refl)

-- the newest of the name is the first one, with the name, or else the older one
pub newest_named-cases : (new : Option Transaction) (p : ℕ) (c : Channel) (i : ℕ) (older : Option Transaction) (x : Transaction)
    → newest_named new p c i older ≡ Some x
    → ((new ≡ Some x) × (has_name x p c i ≡ true)) ⊎ ((older ≡ Some x) × (is_named new p c i ≡ false))
newest_named-cases None p c i older x e = inr (e, refl)
newest_named-cases (Some y) p c i older x e = some_or-cases (λ z. has_name z p c i) y older x e

pub newest_named-first : (new : Option Transaction) (p : ℕ) (c : Channel) (i : ℕ) (older : Option Transaction) (x : Transaction)
    → new ≡ Some x → has_name x p c i ≡ true → newest_named new p c i older ≡ Some x
newest_named-first None p c i older x e n = cc
newest_named-first (Some y) p c i older x e n =
    rw (subst (λ (z : Transaction). has_name z p c i ≡ true) (sym (Some-injective y x e)) n) e

pub newest_named-older : (new : Option Transaction) (p : ℕ) (c : Channel) (i : ℕ) (older : Option Transaction)
    → is_named new p c i ≡ false → newest_named new p c i older ≡ older
newest_named-older None p c i older f = refl
newest_named-older (Some y) p c i older f = rw f refl

-- what stays when a transaction ends was there, and is another one
pub without-some : (y o : Option Transaction) (x : Transaction) → without y o ≡ Some x → (o ≡ Some x) × ((z : Transaction) → y ≡ Some z → z.place ≢ x.place)
without-some None o x e = (e, λ z is. cc)
without-some (Some y) None x e = cc
without-some (Some y) (Some w) x e =
    elim (cases_Bool (nat_eq w.place y.place)) [
      | inl t ↦ let f : None ≡ Some x = rw t at e in cc
      | inr f ↦
          let same : Some w ≡ Some x = rw f at e in (
            same,
            λ z is eq.
                let apart : nat_eq x.place z.place ≡ false = rw (Some-injective w x same, Some-injective y z is) at f in
                let t = eq-eqb x.place z.place (sym eq) in
                cc,
          )
    ]

-- what was there is there still, or is what ends
pub without-cases : (y o : Option Transaction) (x : Transaction) → o ≡ Some x → (without y o ≡ Some x) ⊎ ((z : Transaction) × (y ≡ Some z) × (z.place ≡ x.place))
without-cases None o x e = inl e
without-cases (Some z) None x e = cc
without-cases (Some z) (Some w) x e =
    let one : w ≡ x = Some-injective w x e in
    elim (cases_Bool (nat_eq w.place z.place)) [
      | inl t ↦ inr (z, refl, sym (eqb-true w.place z.place t) ∙ ap (λ (v : Transaction). v.place) one)
      | inr f ↦ inl (rw f e)
    ]

-- a transaction at another place than the one that ends stays
pub without-other : (y o : Option Transaction) (x : Transaction) → o ≡ Some x → ((z : Transaction) → y ≡ Some z → z.place ≢ x.place) → without y o ≡ Some x
without-other y o x e other =
    elim (without-cases y o x e) [
      | inl stays ↦ stays
      | inr ends ↦ absurd (other ends.0 ends.1 ends.2)
    ]

-- the newest on a line is the first one, on the line, or else the older one
pub newest_on-cases : (new : Option Transaction) (l : ℕ) (older : Option Transaction) (x : Transaction)
    → newest_on new l older ≡ Some x
    → ((new ≡ Some x) × (is_on x l ≡ true)) ⊎ ((older ≡ Some x) × (is_some_on new l ≡ false))
newest_on-cases None l older x e = inr (e, refl)
newest_on-cases (Some y) l older x e = some_or-cases (λ z. is_on z l) y older x e

pub newest_on-older : (new : Option Transaction) (l : ℕ) (older : Option Transaction) → is_some_on new l ≡ false → newest_on new l older ≡ older
newest_on-older None l older f = refl
newest_on-older (Some y) l older f = rw f refl

-- a transaction on a line has its address
pub is_on-addr : (x : Transaction) (l : ℕ) → is_on x l ≡ true → x.addr ≡ l
is_on-addr x l e = eqb-true x.addr l ((and_parts (is_line x) _ e).1)

-- what is there after an end was there before
pub was_there : (ended_one o : Option Transaction) (x : Transaction) → without ended_one o ≡ Some x → o ≡ Some x
was_there ended_one o x e = (without-some ended_one o x e).0

-- a transaction of a kind of read is no write
pub read_writes_none : (x : Transaction) (k : ArKind) → read_kind x ≡ Some k → (write_kind x ≡ None) × (is_read x.chan ≡ true)
read_writes_none x k kind =
    elim (cases_Bool (is_read x.chan)) [
      | inl t ↦ (rw t refl, t)
      | inr f ↦ let none : read_kind x ≡ None = rw f refl in cc
    ]

-- where a transaction that causes a snoop and hasn't failed has its snoops done, each port is done
pub snoops_done-ports : (h : Header) (past : Trace) (x : Transaction) (s : SnoopKind) → snoop_of x ≡ Some s → has_failed past x ≡ false → are_snoops_done h past x ≡ true
    → list_all (is_port_done h past x) (ports_below h.ports) ≡ true
snoops_done-ports h past x s causes failed done = rw (causes, failed) at done

pub is_write-is : (c : Channel) → is_read c ≡ false → c ≡ Write
is_write-is Read e = cc
is_write-is Write e = refl
