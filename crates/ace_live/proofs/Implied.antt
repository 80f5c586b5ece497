-- What the rule and the promise of a call imply.
use Rattle.std.proofs.Common.{◌≡◌, ℕ, suc, ◌<◌, ◌⊎◌, List, [], ◌∷◌, ◌++◌, length, sym, refl, ap, ◌∙◌, subst, arith, length-append, ⊎_elim, inl, inr, Option, eq-eqb, ne_eqb}
use Rattle.std.proofs.lemmas.List.{append-nil, append_assoc}
use mathlib.Core.Logic.{dite}
use mathlib.Core.Option.{some, some-injective}
use native.Mathlib.Decide.{ℕ_discrete, dec_le}
use lib.ListN.{get_elem?}
use Rattle.atomic_table.specs.Table.{State}
use Rattle.atomic_table.proofs.Lists.{at_last}
use Rattle.ace_history.specs.declared.entry.Entry.{Entry}
use Rattle.ace_live.specs.declared.setting.Setting.{Setting}
use Rattle.ace_live.specs.declared.rule.View.{View}
use Rattle.ace_live.specs.Running.{Running}
use Rattle.ace_live.specs.Entries.{of_port}
use Rattle.ace_live.specs.Rule.{Keeps}
use Rattle.ace_live.specs.Views.{total, count_of, owns, NoneBy, PortsBelow}
use Rattle.ace_live.proofs.Keeps.{same_self}

total_some : (f : View → ℕ) (vs : List View) → 0 < total f vs → (i : ℕ) × (v : View) × (get_elem? vs i ≡ some v) × (0 < f v)
total_some f [] l = absurd (omega arith)
total_some f (x ∷ xs) l = dite (dec_le 1 (f x)) (λ h. (0, x, refl, h)) (λ n. let r = total_some f xs (omega arith) in (suc r.0, r.1, r.2, r.3))

ends_or_not : (h : List Entry) → (h ≡ []) ⊎ ((init : List Entry) × (e : Entry) × (h ≡ init ++ e ∷ []))
ends_or_not [] = inl refl
ends_or_not (x ∷ xs) = inr (⊎_elim (λ z. ([], x, ap (λ (t : List Entry). x ∷ t) z)) (λ s. (x ∷ s.0, s.1, ap (λ (t : List Entry). x ∷ t) s.2)) (ends_or_not xs))

same_last : (a b : List Entry) (x y : Entry) → a ++ x ∷ [] ≡ b ++ y ∷ [] → x ≡ y
same_last a b x y e = let n : length a
    ≡ length b = (let p = ap length e in let q = length-append a (x ∷ []) in let r = length-append b (y ∷ []) in omega arith) in
    some-injective x y (sym (at_last a x (length b) n) ∙ (ap (λ (l : List Entry). get_elem? l (length b)) e ∙ at_last b y (length b) refl))

last_below : (n : ℕ) (init : List Entry) (e : Entry) → PortsBelow n (init ++ e ∷ []) → e.port < n
last_below n [] e b = b.0
last_below n (x ∷ xs) e b = last_below n xs e b.1

last_none : (ps : List ℕ) (init : List Entry) (e : Entry) → NoneBy ps (init ++ e ∷ []) → count_of e.port ps ≡ 0
last_none ps [] e b = b.0
last_none ps (x ∷ xs) e b = last_none ps xs e b.1

nothing_more : (seen more : List Entry) (e : Entry) (init : List Entry) (ps : List ℕ) → init ++ e ∷ [] ≡ seen ++ more → 0 < count_of e.port ps
    → NoneBy ps more → more ≡ []
nothing_more seen more e init ps is own none = ⊎_elim (λ z. z)
    (λ s. let same_entry : e
    ≡ s.1 = same_last init (seen ++ s.0) e s.1 (is ∙ (ap (λ (m : List Entry). seen ++ m) s.2 ∙ sym (append_assoc seen s.0 (s.1 ∷ [])))) in
    let z = last_none ps s.0 s.1 (subst (NoneBy ps) s.2 none) in let q : count_of e.port ps ≡ count_of s.1.port ps = ap
    (λ (x : Entry). count_of x.port ps) same_entry in absurd (omega arith)) (ends_or_not more)

left_nil : (a b : List Entry) → [] ≡ a ++ b → a ≡ []
left_nil [] b e = refl
left_nil (x ∷ a) b e = let n = ap length e in absurd (omega arith)

-- some view has seen all of the served history
pub someone : (key : Setting) (s : State (Option Running) View) (r : Keeps key s) → 0 < key.ports
    → (i : ℕ) × (v : View) × (get_elem? s.views i ≡ some v) × (v.seen ≡ r.history)
someone key s r some_port = ⊎_elim
    (λ z. let o = r.ports.owned 0 some_port in
    let w = total_some (owns 0) s.views (omega arith) in
    let k = r.known w.0 w.1 w.2 in
    let b = k.behind in (w.0, w.1, w.2, left_nil w.1.seen b.0 (sym z ∙ b.1) ∙ sym z))
    (λ t. let o = r.ports.owned t.1.port (last_below key.ports t.0 t.1
    (subst (PortsBelow key.ports) t.2 r.below)) in
    let w = total_some (owns t.1.port) s.views (omega arith) in
    let k = r.known w.0 w.1 w.2 in
    let b = k.behind in
    let m = nothing_more w.1.seen b.0 t.1 t.0 w.1.ports
    (sym t.2 ∙ b.1) w.3 b.2 in (w.0, w.1, w.2, sym (b.1 ∙ (ap (λ (x : List Entry). w.1.seen ++ x) m ∙ append-nil w.1.seen)))) (ends_or_not r.history)

of_port_append : (p : ℕ) (a b : List Entry) → of_port p (a ++ b) ≡ of_port p a ++ of_port p b
of_port_append p [] b = refl
of_port_append p (e ∷ a) b = let h = of_port_append p a b in dite (ℕ_discrete e.port p)
    (λ q. let t = eq-eqb e.port p q in rw (t, h) refl) (λ n. let t = ne_eqb e.port p n in rw (t, h) refl)

of_port_none : (p : ℕ) (es : List Entry) → NoneBy (p ∷ []) es → of_port p es ≡ []
of_port_none p [] n = refl
of_port_none p (e ∷ es) n = dite (ℕ_discrete e.port p) (λ q. let o = same_self e.port p q in let z = n.0 in absurd (omega arith))
    (λ ne. let t = ne_eqb e.port p ne in rw t (of_port_none p es n.1))

-- of the calls of its port, the new history has those that the seat had seen, and then this one
pub port_calls : (p : ℕ) (seen others : List Entry) (e : Entry) → NoneBy (p ∷ []) others → e.port ≡ p → of_port p (seen ++ (others ++ e ∷ []))
    ≡ of_port p seen ++ e ∷ []
port_calls p seen others e n is = let mine : of_port p (e ∷ []) ≡ e ∷ [] = (let t = eq-eqb e.port p is in rw t refl) in
    of_port_append p seen (others ++ e ∷ []) ∙ ap
    (λ (l : List Entry). of_port p seen ++ l) (of_port_append p others (e ∷ []) ∙ ((λ i. of_port_none p others n i ++ mine i)))
