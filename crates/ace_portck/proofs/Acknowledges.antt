-- An RK or WK of a transaction: its port is an ACE port, it breaks no rule that looks at one port, and what its line is.
use Rattle.std.proofs.Common.{◌≡◌, ℕ, Bool, true, false, ◌&&◌, ◌||◌, nat_lt, if◌then◌else◌, Option, Some, None, is_none, option_map, refl, sym, ap, ◌∙◌}
use Rattle.std.proofs.lemmas.Bool.{and_parts, and_from}
use Rattle.std.specs.Bool.{then_some}
use Rattle.ace_portck.proofs.Terms.{ArKind, AwKind, LineState, Channel, Read, Write, Rk, Wk, Header, IsAccepted, least_of, k1, is_line_read, is_line_write, k22, k27, port_rules, Trace, acknowledged, is_ace, is_line, is_read, read_kind, write_kind, Transaction, acknowledge, progress_of, transaction_in, Progress}
use Rattle.ace_model.proofs.General.Options.{Some-injective}
use Rattle.ace_model.proofs.Trace.Looks.{read_writes_none}
use Rattle.ace_portck.proofs.Kept.{rk_keeps, wk_keeps}

module _ (h : Header) (past : Trace) (p : ℕ) (st : LineState) where
  -- what it belongs to
  pub acknowledge-in : (c : Channel) → transaction_in h past (acknowledge c p st) ≡ option_map (progress_of h past) (if is_ace h p then acknowledged past p c else None)
  acknowledge-in Read = refl
  acknowledge-in Write = refl

  module _ (x : Progress) where
    of-ace : (b : Bool) (o : Option Transaction) → option_map (progress_of h past) (if b then o else None) ≡ Some x → (b ≡ true) × (o ≡ Some x.transaction)
    of-ace true None is = cc
    of-ace true (Some y) is = (refl, ap (λ (v : Progress). Some v.transaction) (Some-injective (progress_of h past y) x is))
    of-ace false o is = cc

    pub acknowledge-ace : (c : Channel) → transaction_in h past (acknowledge c p st) ≡ Some x → is_ace h p ≡ true
    acknowledge-ace c is = (of-ace (is_ace h p) (acknowledged past p c) (sym (acknowledge-in c) ∙ is)).0

    pub acknowledge-one : (c : Channel) → transaction_in h past (acknowledge c p st) ≡ Some x → acknowledged past p c ≡ Some x.transaction
    acknowledge-one c is = (of-ace (is_ace h p) (acknowledged past p c) (sym (acknowledge-in c) ∙ is)).1

    first-from : is_ace h p ≡ true → (nat_lt p h.ports && is_ace h p) ≡ true
    first-from ace = and_from (nat_lt p h.ports) (is_ace h p) (and_parts (nat_lt p h.ports) _ ace).0 ace

    -- it keeps K1
    pub acknowledge-first : (c : Channel) → transaction_in h past (acknowledge c p st) ≡ Some x → k1 h past (acknowledge c p st) ≡ true
    acknowledge-first Read is = first-from (acknowledge-ace Read is)
    acknowledge-first Write is = first-from (acknowledge-ace Write is)

    rk-fits : k1 h past (Rk p st) ≡ true → k22 h past (Rk p st) ≡ true → is_none (least_of port_rules h past (Rk p st)) ≡ true
    rk-fits first there = rw (first, there) refl

    wk-fits : k1 h past (Wk p st) ≡ true → k27 h past (Wk p st) ≡ true → is_none (least_of port_rules h past (Wk p st)) ≡ true
    wk-fits first there = rw (first, there) refl

    -- and all others of the share
    pub acknowledge-keeps : (c : Channel) → IsAccepted h past → transaction_in h past (acknowledge c p st) ≡ Some x → is_none (least_of port_rules h past (acknowledge c p st)) ≡ true
    acknowledge-keeps Read a is =
        let first = acknowledge-first Read is in
        rk-fits first (sym (rk_keeps h past a p st (Rk p st) (Some x) first refl (sym is)))
    acknowledge-keeps Write a is =
        let first = acknowledge-first Write is in
        wk-fits first (sym (wk_keeps h past a p st (Wk p st) (Some x) first refl (sym is)))

or-false : (b : Bool) → (b || false) ≡ b
or-false true = refl
or-false false = refl

pub then_some-is : {A : Type 0} → (b : Bool) (x : A) → then_some b x ≡ (if b then Some x else None)
then_some-is true x = refl
then_some-is false x = refl

-- whether a read of a kind is one of a line, the kind says
pub read-line : (x : Transaction) (k : ArKind) → read_kind x ≡ Some k → is_line x ≡ is_line_read k
read-line x k kind =
    let none = (read_writes_none x k kind).0 in
    rw (kind, none) (or-false (is_line_read k))

-- and whether a write is
pub write-line : (x : Transaction) (k : AwKind) → write_kind x ≡ Some k → is_line x ≡ is_line_write k
write-line x k kind = by (is_read x.chan) refl
  where
    by : (b : Bool) → is_read x.chan ≡ b → is_line x ≡ is_line_write k
    by true t = let none : write_kind x ≡ None = rw t refl in cc
    by false f =
        let none : read_kind x ≡ None = rw f refl in
        rw (kind, none) refl
