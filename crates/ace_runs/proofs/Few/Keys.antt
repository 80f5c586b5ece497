-- Where for each key of the events, or each name of transactions, there are at most so many of one kind as of another, there are so in all.
use Rattle.std.proofs.Common.{◌≡◌, ℕ, ◌+◌, ◌*◌, ◌≤◌, Bool, ◌&&◌, ◌==◌, if◌then◌else◌, List, [], ◌∷◌, length, refl, ap, inl, inr, arith}
use Rattle.std.proofs.lemmas.Bool.{cases_Bool}
use Rattle.ace_event.specs.declared.event.Event.{Event}
use Rattle.ace_event.specs.declared.event.Event.TheVariants.{Ar, R, Aw, B, G, M}
use Rattle.ace_model.specs.Trace.{Trace}
use Rattle.ace_runs.specs.Counts.{counted}
use Rattle.ace_runs.proofs.Few.Sums.{times, each_bounds}
use Rattle.ace_runs.proofs.Few.Ports.{port_or_zero}

-- the keys of the events that pass the test
abbrev pub keys_of : (Event → ℕ) → (Event → Bool) → Trace → List ℕ
keys_of key test [] = []
keys_of key test (e ∷ past) = if test e then key e ∷ keys_of key test past else keys_of key test past

pub all-keys : (key : Event → ℕ) (test : Event → Bool) (past : Trace) → length (keys_of key test past) ≡ counted test past
all-keys key test [] = refl
all-keys key test (e ∷ past) =
    let rest = all-keys key test past in
    elim (cases_Bool (test e)) [ inl t ↦ rw t (omega (arith, rest)) | inr f ↦ rw f rest ]

pub one-key : (key : Event → ℕ) (test : Event → Bool) (n : ℕ) (past : Trace) → times n (keys_of key test past) ≡ counted (λ e. test e && (key e == n)) past
one-key key test n [] = refl
one-key key test n (e ∷ past) =
    let rest = one-key key test n past in
    elim (cases_Bool (test e)) [
      | inr f ↦ rw f rest
      | inl t ↦ rw t (elim (cases_Bool (key e == n)) [ inl same ↦ rw same (ap (λ n. n + 1) rest) | inr other ↦ rw other rest ])
    ]

pub for-each-key : (k : ℕ) (key : Event → ℕ) (these those : Event → Bool) (past : Trace)
    → ((n : ℕ) → counted (λ e. these e && (key e == n)) past ≤ counted (λ e. those e && (key e == n)) past * k)
    → counted these past ≤ counted those past * k
for-each-key k key these those past each =
    let all = each_bounds k (keys_of key these past) (keys_of key those past)
    (λ n. rw (one-key key these n past, one-key key those n past) (each n)) in
    rw (all-keys key these past, all-keys key those past) at all

-- the identifier that the event names, 0 where it names none
abbrev pub id_or_zero : Event → ℕ
id_or_zero (Ar p i addr snoop dom bar lock) = i
id_or_zero (R p i resp last word) = i
id_or_zero (Aw p i addr snoop dom bar) = i
id_or_zero (B p i resp) = i
id_or_zero (G p c i) = i
id_or_zero (M p c i line) = i
id_or_zero _ = 0

-- the event passes the test, and names the port and the identifier
abbrev pub of_name : (Event → Bool) → ℕ → ℕ → Event → Bool
of_name test p i e = (test e && (port_or_zero e == p)) && (id_or_zero e == i)

pub for-each-name : (k : ℕ) (these those : Event → Bool) (past : Trace)
    → ((p i : ℕ) → counted (of_name these p i) past ≤ counted (of_name those p i) past * k)
    → counted these past ≤ counted those past * k
for-each-name k these those past each =
    for-each-key k port_or_zero these those past
    (λ p. for-each-key k id_or_zero (λ e. these e && (port_or_zero e == p)) (λ e. those e && (port_or_zero e == p)) past (λ i. each p i))
