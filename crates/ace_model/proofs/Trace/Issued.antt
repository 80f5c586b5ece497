-- Which transaction a name means: it stands at its place, and what is outstanding is the last of its name.
use Rattle.std.proofs.Common.{◌≡◌, ◌≢◌, ◌⊎◌, ℕ, false, ◌<◌, true, cond, nat_eq, [], ◌∷◌, length, Option, Some, None, sym, ap, ◌∙◌, arith, inl, inr}
use Rattle.std.proofs.lemmas.Bool.{eq-eqb, ne_eqb}
use Rattle.ace_model.proofs.Terms.{Event, Ar, Aw, Channel, Header, Transaction, Trace, has_name, is_named, issued, ended, transaction_of, outstanding}
use Rattle.ace_model.proofs.Trace.Looks.{Named, has_name-is, newest_named-cases, newest_named-first, newest_named-older, without-some}
use Rattle.ace_model.proofs.General.Options.{Some-injective}

-- a transaction knows how many events came before it
pub issued-place : (n : ℕ) (e : Event) (x : Transaction) → issued n e ≡ Some x → x.place ≡ n
issued-place n (Ar p i addr snoop dom bar lock) x s = ap (λ (v : Transaction). v.place) (sym (Some-injective _ x s))
issued-place n (Aw p i addr snoop dom bar) x s = ap (λ (v : Transaction). v.place) (sym (Some-injective _ x s))
issued-place n e x s = cc

-- the transaction that the event with so many events before it issues
abbrev pub issued_at : Trace → ℕ → Option Transaction
issued_at [] n = None
issued_at (e ∷ past) n = cond (nat_eq (length past) n) (issued (length past) e) (issued_at past n)

-- it stands in the trace, with its name
pub record Stands (past : Trace) (p : ℕ) (c : Channel) (i : ℕ) (x : Transaction) : Type 0 where
  pub there : issued_at past x.place ≡ Some x
  pub before : x.place < length past
  pub named : has_name x p c i ≡ true

pub transaction_of-stands : (past : Trace) (p : ℕ) (c : Channel) (i : ℕ) (x : Transaction) → transaction_of past p c i ≡ Some x → Stands past p c i x
transaction_of-stands [] p c i x e = cc
transaction_of-stands (e ∷ past) p c i x t =
    elim (newest_named-cases (issued (length past) e) p c i (transaction_of past p c i) x t) [
      | inl new ↦
          let at = issued-place (length past) e x new.0 in
          record {
            there = rw (eq-eqb (length past) x.place (sym at)) new.0;
            before = omega (arith, at);
            named = new.1;
          }
      | inr old ↦
          let s = transaction_of-stands past p c i x old.0 in
          record {
            there = rw (ne_eqb (length past) x.place (λ q. let b = s.before in absurd (omega (arith, q)))) s.there;
            before = let b = s.before in omega arith;
            named = s.named;
          }
    ]

pub transaction_of-name : (past : Trace) (p : ℕ) (c : Channel) (i : ℕ) (x : Transaction) → transaction_of past p c i ≡ Some x → Named x p c i
transaction_of-name past p c i x t = has_name-is x p c i (transaction_of-stands past p c i x t).named

-- two transactions of a trace at one place are one
pub same_place : (past : Trace) (p q : ℕ) (c d : Channel) (i j : ℕ) (x y : Transaction)
    → transaction_of past p c i ≡ Some x → transaction_of past q d j ≡ Some y → x.place ≡ y.place → x ≡ y
same_place past p q c d i j x y a b e =
    let s = transaction_of-stands past p c i x a in
    let t = transaction_of-stands past q d j y b in
    Some-injective x y (sym s.there ∙ ap (issued_at past) e ∙ t.there)

-- What is outstanding after an event was so before it, and the event gives its name to no other.
pub record Earlier (h : Header) (past : Trace) (e : Event) (p : ℕ) (c : Channel) (i : ℕ) (x : Transaction) : Type 0 where
  pub was : outstanding h past p c i ≡ Some x
  pub other : is_named (issued (length past) e) p c i ≡ false
  pub lasts : (z : Transaction) → ended h past e ≡ Some z → z.place ≢ x.place

-- or the event issues it
pub outstanding-origin : (h : Header) (past : Trace) (e : Event) (p : ℕ) (c : Channel) (i : ℕ) (x : Transaction) → outstanding h (e ∷ past) p c i ≡ Some x
    → ((issued (length past) e ≡ Some x) × (has_name x p c i ≡ true)) ⊎ Earlier h past e p c i x
outstanding-origin h past e p c i x o =
    elim (newest_named-cases (issued (length past) e) p c i _ x o) [
      | inl new ↦ inl new
      | inr old ↦ let w = without-some (ended h past e) (outstanding h past p c i) x old.0 in inr (record { was = w.0; other = old.1; lasts = w.1 })
    ]

-- an outstanding transaction is the last of its name
pub outstanding-named : (h : Header) (past : Trace) (p : ℕ) (c : Channel) (i : ℕ) (x : Transaction) → outstanding h past p c i ≡ Some x → transaction_of past p c i ≡ Some x
outstanding-named h [] p c i x o = cc
outstanding-named h (e ∷ past) p c i x o =
    elim (outstanding-origin h past e p c i x o) [
      | inl new ↦ newest_named-first (issued (length past) e) p c i (transaction_of past p c i) x new.0 new.1
      | inr old ↦ newest_named-older (issued (length past) e) p c i (transaction_of past p c i) old.other ∙ outstanding-named h past p c i x old.was
    ]

-- so it has the name
pub outstanding-name : (h : Header) (past : Trace) (p : ℕ) (c : Channel) (i : ℕ) (x : Transaction) → outstanding h past p c i ≡ Some x → Named x p c i
outstanding-name h past p c i x o = transaction_of-name past p c i x (outstanding-named h past p c i x o)
