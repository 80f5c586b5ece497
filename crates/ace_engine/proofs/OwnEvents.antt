-- No event is one that steps of engines of two kinds give, or of masters of two ports.
use Rattle.std.proofs.Common.{◌≡◌, ◌≢◌, ℕ, Bool, true, false, not, ◌&&◌, ◌||◌, ◌==◌, if◌then◌else◌, Option, Some, None, refl, sym, ap, ◌∙◌, inl, inr}
use Rattle.std.proofs.lemmas.Bool.{and_parts, eqb-true, false_from_ne_true, not-true, or_cases, or_right}
use Rattle.ace_codes.specs.declared.kind.ArKind.{ArKind}
use Rattle.ace_codes.specs.declared.kind.AwKind.{AwKind}
use Rattle.ace_codes.specs.declared.kind.AwKind.TheVariants as write
use Rattle.ace_event.specs.declared.event.Event.{Event}
use Rattle.ace_event.specs.declared.event.Event.TheVariants.{R, B, Ac, G, M}
use Rattle.ace_event.specs.declared.event.Channel.TheVariants.{Read, Write}
use Rattle.ace_model.specs.declared.transactions.Transaction.{Transaction}
use Rattle.ace_model.specs.Kinds.{is_evict, is_granted_write, is_line_read, is_line_write, is_update}
use Rattle.ace_model.specs.Snoops.{snoops_a_line}
use Rattle.ace_model.specs.Trace.{Trace, is_some_and, port_of}
use Rattle.ace_model.specs.Transactions.{is_line, is_read, read_kind, takes_grant, transaction_of, write_kind}
use Rattle.ace_model.proofs.General.Options.{Some-injective, is_some_and-is}
use Rattle.ace_model.proofs.GrantLooks.Had.{takes-line}
use Rattle.ace_runs.specs.Segments.{is_at_port}
use Rattle.ace_engine.specs.Engines.{EngineKind, Home, Master, Order, Update, gives_up_line, is_given_by, is_of_home, is_of_interconnect, is_of_order, is_of_update}

-- ---- kinds of transactions ---------------------------------------------------------------------------

gives-up-apart : (k : AwKind) → (is_update k || is_evict k) ≡ true → is_granted_write k ≡ false
gives-up-apart write.WriteBack t = refl
gives-up-apart write.WriteClean t = refl
gives-up-apart write.WriteEvict t = refl
gives-up-apart write.Evict t = refl
gives-up-apart k t = cc

gives-up-line : (k : AwKind) → (is_update k || is_evict k) ≡ true → is_line_write k ≡ true
gives-up-line write.WriteBack t = refl
gives-up-line write.WriteClean t = refl
gives-up-line write.WriteEvict t = refl
gives-up-line write.Evict t = refl
gives-up-line k t = cc

kind-of-either : (o : Option AwKind) → (is_some_and o is_update || is_some_and o is_evict) ≡ true → (k : AwKind) × (o ≡ Some k) × ((is_update k || is_evict k) ≡ true)
kind-of-either None t = cc
kind-of-either (Some k) t = (k, refl, t)

write-no-read : (b : Bool) (r : Option ArKind) (w : Option AwKind) (k : AwKind) → (if b then None else w) ≡ Some k → (if b then r else None) ≡ None
write-no-read true r w k t = cc
write-no-read false r w k t = refl

granted-apart : (x : Transaction) → takes_grant x ≡ true → gives_up_line x ≡ true → ⊥
granted-apart x t g =
    let k = kind-of-either (write_kind x) g in
    let none : read_kind x ≡ None = write-no-read (is_read x.chan) _ _ k.0 k.1 in
    elim (or_cases (is_some_and (read_kind x) is_line_read) (is_some_and (write_kind x) is_granted_write) t) [
      | inl reads ↦ let bad : false ≡ true = sym (ap (λ o. is_some_and o is_line_read) none) ∙ reads in cc
      | inr writes ↦ let bad : true ≡ false = sym (sym (ap (λ o. is_some_and o is_granted_write) k.1) ∙ writes) ∙ gives-up-apart k.0 k.2 in cc
    ]

given-up-on-line : (x : Transaction) → gives_up_line x ≡ true → is_line x ≡ true
given-up-on-line x g =
    let k = kind-of-either (write_kind x) g in
    or_right (is_some_and (read_kind x) is_line_read) _ (ap (λ o. is_some_and o is_line_write) k.1 ∙ gives-up-line k.0 k.2)

-- two tests that exclude each other don't both hold of what is there
not-both : {A : Type 0} → (o : Option A) (test other : A → Bool) → ((x : A) → test x ≡ true → other x ≡ true → ⊥) → is_some_and o test ≡ true → is_some_and o other ≡ true → ⊥
not-both None test other apart s t = cc
not-both (Some x) test other apart s t = apart x s t

no-line : (x : Transaction) → is_line x ≡ true → not (is_line x) ≡ true → ⊥
no-line x line none = let off = not-true (is_line x) none in let bad : true ≡ false = sym line ∙ off in cc

-- ---- kinds of engines --------------------------------------------------------------------------------

home-of-interconnect : (past : Trace) (e : Event) → is_of_home past e ≡ true → is_of_interconnect e ≡ true
home-of-interconnect past (R p i resp last word) t = refl
home-of-interconnect past (B p i resp) t = refl
home-of-interconnect past (Ac p addr snoop) t = refl
home-of-interconnect past (G p c i) t = refl
home-of-interconnect past (M p c i line) t = refl
home-of-interconnect past e t = cc

update-of-interconnect : (past : Trace) (e : Event) → is_of_update past e ≡ true → is_of_interconnect e ≡ true
update-of-interconnect past (B p i resp) t = refl
update-of-interconnect past (M p c i line) t = refl
update-of-interconnect past e t = cc

order-of-interconnect : (past : Trace) (e : Event) → is_of_order past e ≡ true → is_of_interconnect e ≡ true
order-of-interconnect past (R p i resp last word) t = refl
order-of-interconnect past (B p i resp) t = refl
order-of-interconnect past (Ac p addr snoop) t = refl
order-of-interconnect past e t = cc

home-or-update : (past : Trace) (e : Event) → is_of_home past e ≡ true → is_of_update past e ≡ true → ⊥
home-or-update past (B p i resp) s t = not-both (transaction_of past p Write i) takes_grant gives_up_line granted-apart s t
home-or-update past (M p c i line) s t = not-both (transaction_of past p c i) takes_grant gives_up_line granted-apart s t
home-or-update past e s t = cc

home-or-order : (past : Trace) (e : Event) → is_of_home past e ≡ true → is_of_order past e ≡ true → ⊥
home-or-order past (Ac p addr snoop) s t = let off = not-true (snoops_a_line snoop) t in let bad : true ≡ false = sym s ∙ off in cc
home-or-order past (R p i resp last word) s t =
    not-both (transaction_of past p Read i) takes_grant (λ x. not (is_line x)) (λ x g none. no-line x (takes-line x g) none) s t
home-or-order past (B p i resp) s t =
    not-both (transaction_of past p Write i) takes_grant (λ x. not (is_line x)) (λ x g none. no-line x (takes-line x g) none) s t
home-or-order past e s t = cc

update-or-order : (past : Trace) (e : Event) → is_of_update past e ≡ true → is_of_order past e ≡ true → ⊥
update-or-order past (B p i resp) s t =
    not-both (transaction_of past p Write i) gives_up_line (λ x. not (is_line x)) (λ x g none. no-line x (given-up-on-line x g) none) s t
update-or-order past e s t = cc

no-master : (own inter : Bool) → (own && not inter) ≡ true → inter ≡ true → ⊥
no-master true true s t = cc
no-master true false s t = cc
no-master false b s t = cc

one-kind : (past : Trace) (kind other : EngineKind) (p q : ℕ) (e : Event) → is_given_by kind past p e ≡ true → is_given_by other past q e ≡ true → kind ≡ other
unfolding is_given_by
one-kind past Master Master p q e s t = refl
one-kind past Home Home p q e s t = refl
one-kind past Update Update p q e s t = refl
one-kind past Order Order p q e s t = refl
one-kind past Master Home p q e s t = absurd (no-master (is_at_port p e) (is_of_interconnect e) s (home-of-interconnect past e t))
one-kind past Master Update p q e s t = absurd (no-master (is_at_port p e) (is_of_interconnect e) s (update-of-interconnect past e t))
one-kind past Master Order p q e s t = absurd (no-master (is_at_port p e) (is_of_interconnect e) s (order-of-interconnect past e t))
one-kind past Home Master p q e s t = absurd (no-master (is_at_port q e) (is_of_interconnect e) t (home-of-interconnect past e s))
one-kind past Update Master p q e s t = absurd (no-master (is_at_port q e) (is_of_interconnect e) t (update-of-interconnect past e s))
one-kind past Order Master p q e s t = absurd (no-master (is_at_port q e) (is_of_interconnect e) t (order-of-interconnect past e s))
one-kind past Home Update p q e s t = absurd (home-or-update past e s t)
one-kind past Update Home p q e s t = absurd (home-or-update past e t s)
one-kind past Home Order p q e s t = absurd (home-or-order past e s t)
one-kind past Order Home p q e s t = absurd (home-or-order past e t s)
one-kind past Update Order p q e s t = absurd (update-or-order past e s t)
one-kind past Order Update p q e s t = absurd (update-or-order past e t s)

pub kinds-apart : (past : Trace) (kind other : EngineKind) (p q : ℕ) (e : Event) → kind ≢ other → is_given_by kind past p e ≡ true → is_given_by other past q e ≡ false
kinds-apart past kind other p q e apart s = false_from_ne_true (is_given_by other past q e) (λ t. apart (one-kind past kind other p q e s t))

-- the port of a master's event
port-of-own : (p : ℕ) (e : Event) → is_at_port p e ≡ true → port_of e ≡ Some p
port-of-own p e t = let q = is_some_and-is (port_of e) (λ q. q == p) t in q.1 ∙ ap Some (eqb-true q.0 p q.2)

pub masters-apart : (past : Trace) (p q : ℕ) (e : Event) → p ≢ q → is_given_by Master past p e ≡ true → is_given_by Master past q e ≡ false
unfolding is_given_by
masters-apart past p q e apart s =
    false_from_ne_true (is_at_port q e && not (is_of_interconnect e)) (λ t.
    let own = (and_parts (is_at_port p e) (not (is_of_interconnect e)) s).0 in
    let too = (and_parts (is_at_port q e) (not (is_of_interconnect e)) t).0 in
    apart (Some-injective p q (sym (port-of-own p e own) ∙ port-of-own q e too)))
