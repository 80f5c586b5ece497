-- An accepted trace was accepted at each earlier point, and stays so with a burst that breaks no rule.
use Rattle.std.proofs.Common.{◌≡◌, true, List, [], ◌∷◌, Option, Some, None, is_none, ℕ, refl, Bool, if◌then◌else◌}
use Rattle.std.proofs.lemmas.Bool.{and_parts}
use Rattle.ace_event.specs.declared.event.Event.{Event}
use Rattle.ace_event.specs.declared.header.Header.{Header}
use Rattle.ace_model.specs.Trace.{Trace}
use Rattle.ace_model.specs.Accepted.{Rule, rules, least_broken, least_of, IsAcceptedBy, IsAccepted}
use Rattle.ace_runs.specs.Bursts.{onto, is_kept, are_kept}

pub accepted-before : (rs : List Rule) (h : Header) (burst : List Event) (past : Trace) → IsAcceptedBy rs h (onto burst past) → IsAcceptedBy rs h past
accepted-before rs h [] past a = a
accepted-before rs h (e ∷ burst) past a = (accepted-before rs h burst (e ∷ past) a).0

nothing-broken : (o : Option ℕ) → is_none o ≡ true → o ≡ None
nothing-broken None e = refl
nothing-broken (Some k) e = cc

pub kept-breaks-none : (h : Header) (past : Trace) (e : Event) → is_kept h past e ≡ true → least_broken h past e ≡ None
unfolding is_kept
kept-breaks-none h past e k = nothing-broken (least_of rules h past e) k

pub accepted-after : (h : Header) (burst : List Event) (past : Trace) → IsAccepted h past → are_kept h past burst ≡ true → IsAccepted h (onto burst past)
accepted-after h [] past a k = a
accepted-after h (e ∷ burst) past a k =
    let parts = and_parts (is_kept h past e) (are_kept h (e ∷ past) burst) k in
    accepted-after h burst (e ∷ past) (a, kept-breaks-none h past e parts.0) parts.1

-- ---- an event that breaks none of the rules that look at it ------------------------------------------

pub two-kept : (a b : Bool) (i j : ℕ) → a ≡ true → b ≡ true → is_none {T = ℕ} (if a then (if b then None else Some j) else Some i) ≡ true
two-kept a b i j x y = rw (x, y) refl

pub three-kept : (a b c : Bool) (i j k : ℕ) → a ≡ true → b ≡ true → c ≡ true → is_none {T = ℕ} (if a then (if b then (if c then None else Some k) else Some j) else Some i) ≡ true
three-kept a b c i j k x y z = rw (x, y, z) refl

pub four-kept : (a b c d : Bool) (i j k l : ℕ) → a ≡ true → b ≡ true → c ≡ true → d ≡ true
    → is_none {T = ℕ} (if a then (if b then (if c then (if d then None else Some l) else Some k) else Some j) else Some i) ≡ true
four-kept a b c d i j k l w x y z = rw (w, x, y, z) refl
