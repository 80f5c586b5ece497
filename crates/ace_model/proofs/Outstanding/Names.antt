-- What the last transaction of a name has had is what the looks by name say.
use Rattle.std.proofs.Common.{◌≡◌, ℕ, ◌≤◌, Bool, true, false, not, cond, ◌&&◌, ◌||◌, nat_eq, [], ◌∷◌, length, Option, Some, None, refl, sym, ◌∙◌, inl, inr, arith}
use Rattle.std.proofs.lemmas.Bool.{cases_Bool, eq-eqb, ne_eqb, and_right}
use Rattle.ace_model.proofs.Terms.{Event, Ar, R, Aw, B, G, M, Channel, Read, Write, Transaction, Trace, is_some_and, is_read, same_channel, has_name, is_named, issued, is_transaction, transaction_of}
use Rattle.ace_model.proofs.Terms.{served_by, has_had, is_completion_event, is_completed, is_grant, is_write_of_memory, is_completion, is_complete, given, has_grant, is_memory_write, has_memory_write}
use Rattle.ace_model.proofs.Trace.Looks.{at_name, has_name-is, same_channel-self, newest_named-cases}
use Rattle.ace_model.proofs.Trace.Issued.{issued-place, transaction_of-stands, transaction_of-name}
use Rattle.ace_model.proofs.Trace.Outstanding.{one_name}

-- the transaction of a name is this one exactly where this one has the name
pub named_is : (past : Trace) (p q : ℕ) (c d : Channel) (i j : ℕ) (x : Transaction) → transaction_of past p c i ≡ Some x
    → is_transaction (transaction_of past q d j) x ≡ has_name x q d j
named_is past p q c d i j x of_name =
    elim (cases_Bool (has_name x q d j)) [
      | inl t ↦
          let there : transaction_of past q d j ≡ Some x =
          sym (at_name (transaction_of past) x q d j (has_name-is x q d j t)) ∙ at_name (transaction_of past) x p c i (transaction_of-name past p c i x of_name) ∙ of_name in
          rw (there, t) (eq-eqb x.place x.place refl)
      | inr f ↦ rw f (other (transaction_of past q d j) refl f)
    ]
  where
    self : (q : ℕ) (d : Channel) (j : ℕ) → ((nat_eq q q && same_channel d d) && nat_eq j j) ≡ true
    self q d j = rw (eq-eqb q q refl, eq-eqb j j refl, same_channel-self d) refl

    other : (o : Option Transaction) → transaction_of past q d j ≡ o → has_name x q d j ≡ false → is_transaction o x ≡ false
    other None is f = refl
    other (Some y) is f =
        ne_eqb y.place x.place (λ same.
        let n = one_name past q p d c j i y x is of_name same in
        let m = transaction_of-name past p c i x of_name in
        let named : has_name x q d j ≡ true = rw (m.port ∙ sym n.port, m.chan ∙ sym n.chan, m.id ∙ sym n.id) (self q d j) in cc)

-- nothing belongs to a transaction before it is issued
not_yet : (test : Event → Bool) (past : Trace) (x : Transaction) → length past ≤ x.place → has_had test past x ≡ false
not_yet test [] x low = refl
not_yet test (e ∷ past) x low =
    let none : is_transaction (served_by past e) x ≡ false = served e in
    let rest = not_yet test past x (omega arith) in rw (none, rest, and_right (test e) false refl) refl
  where
    earlier : (p : ℕ) (c : Channel) (i : ℕ) (o : Option Transaction) → transaction_of past p c i ≡ o → is_transaction o x ≡ false
    earlier p c i None is = refl
    earlier p c i (Some y) is = let b = (transaction_of-stands past p c i y is).before in ne_eqb y.place x.place (λ same. absurd (omega (arith, b, same, low)))

    served : (e : Event) → is_transaction (served_by past e) x ≡ false
    served (R p i resp last word) = earlier p Read i _ refl
    served (B p i resp) = earlier p Write i _ refl
    served (G p c i) = earlier p c i _ refl
    served (M p c i line) = earlier p c i _ refl
    served _ = refl

-- an event that issues a transaction belongs to none
issue_serves : (past : Trace) (e : Event) (y : Transaction) → issued (length past) e ≡ Some y → served_by past e ≡ None
issue_serves past (Ar p i addr snoop dom bar lock) y new = refl
issue_serves past (Aw p i addr snoop dom bar) y new = refl
issue_serves past e y new = cc

-- A look by name: what an event does for the name, and then until the name is given to another.
record IsByName (test : Event → Bool) (now : Trace → Event → ℕ → Channel → ℕ → Bool) (look : Trace → ℕ → Channel → ℕ → Bool) : Type 0 where
  step : (past : Trace) (e : Event) (p : ℕ) (c : Channel) (i : ℕ)
      → look (e ∷ past) p c i ≡ (now past e p c i || (not (is_named (issued (length past) e) p c i) && look past p c i))
  agrees : (past : Trace) (e : Event) (p : ℕ) (c : Channel) (i : ℕ) (x : Transaction) → transaction_of past p c i ≡ Some x
      → now past e p c i ≡ (test e && is_transaction (served_by past e) x)
  idle : (past : Trace) (e : Event) (p : ℕ) (c : Channel) (i : ℕ) (y : Transaction) → issued (length past) e ≡ Some y → now past e p c i ≡ false

had_by_name : (test : Event → Bool) (now : Trace → Event → ℕ → Channel → ℕ → Bool) (look : Trace → ℕ → Channel → ℕ → Bool) → IsByName test now look
    → (past : Trace) (p : ℕ) (c : Channel) (i : ℕ) (x : Transaction) → transaction_of past p c i ≡ Some x → look past p c i ≡ has_had test past x
had_by_name test now look n [] p c i x of_name = cc
had_by_name test now look n (e ∷ past) p c i x of_name =
    n.step past e p c i
    ∙ elim (newest_named-cases (issued (length past) e) p c i (transaction_of past p c i) x of_name) [
      | inl new ↦
          let idle = n.idle past e p c i x new.0 in
          let none = issue_serves past e x new.0 in
          let place = issued-place (length past) e x new.0 in
          let early = not_yet test past x (omega (arith, place)) in
          rw (idle, none, early, new.0, new.1, and_right (test e) false refl) refl
      | inr old ↦
          let now_same = n.agrees past e p c i x old.0 in
          let rest = had_by_name test now look n past p c i x old.0 in rw (now_same, old.1, rest) refl
    ]

channel_is : (c d : Channel) → same_channel c d ≡ same_channel d c
channel_is Read Read = refl
channel_is Read Write = refl
channel_is Write Read = refl
channel_is Write Write = refl

-- whether an event names the transaction, by its name
names : (past : Trace) (p q : ℕ) (c d : Channel) (i j : ℕ) (x : Transaction) → transaction_of past p c i ≡ Some x
    → is_transaction (transaction_of past q d j) x ≡ ((nat_eq p q && same_channel c d) && nat_eq i j)
names past p q c d i j x of_name =
    let m = transaction_of-name past p c i x of_name in named_is past p q c d i j x of_name ∙ rw (m.port, m.chan, m.id) refl

pub completion_agrees : (past : Trace) (e : Event) (p : ℕ) (c : Channel) (i : ℕ) (x : Transaction) → transaction_of past p c i ≡ Some x
    → is_completion e p c i ≡ (is_completion_event e && is_transaction (served_by past e) x)
completion_agrees past (R q j resp last word) p c i x of_name = rw (names past p q c Read i j x of_name) (tests c last (nat_eq p q))
  where
    tests : (c : Channel) (last same : Bool) → is_some_and (cond (is_read c && same && last) (Some j) None) (nat_eq i) ≡ (last && ((same && same_channel c Read) && nat_eq i j))
    tests Read true true = refl
    tests Read true false = refl
    tests Read false true = refl
    tests Read false false = refl
    tests Write true true = refl
    tests Write true false = refl
    tests Write false true = refl
    tests Write false false = refl
completion_agrees past (B q j resp) p c i x of_name = rw (names past p q c Write i j x of_name) (tests c (nat_eq p q))
  where
    tests : (c : Channel) (same : Bool) → is_some_and (cond (not (is_read c) && same) (Some j) None) (nat_eq i) ≡ ((same && same_channel c Write) && nat_eq i j)
    tests Read true = refl
    tests Read false = refl
    tests Write true = refl
    tests Write false = refl
completion_agrees past _ p c i x of_name = refl

completion_idle : (past : Trace) (e : Event) (p : ℕ) (c : Channel) (i : ℕ) (y : Transaction) → issued (length past) e ≡ Some y → is_completion e p c i ≡ false
completion_idle past (Ar q j addr snoop dom bar lock) p c i y new = refl
completion_idle past (Aw q j addr snoop dom bar) p c i y new = refl
completion_idle past e p c i y new = cc

-- it is complete
pub complete_by_name : (past : Trace) (p : ℕ) (c : Channel) (i : ℕ) (x : Transaction) → transaction_of past p c i ≡ Some x
    → is_complete past p c i ≡ is_completed past x
complete_by_name =
    had_by_name is_completion_event (λ past e p c i. is_completion e p c i) is_complete
    (record { step = λ past e p c i. refl; agrees = completion_agrees; idle = completion_idle })

pub grant_agrees : (past : Trace) (e : Event) (p : ℕ) (c : Channel) (i : ℕ) (x : Transaction) → transaction_of past p c i ≡ Some x
    → is_named (given past e) p c i ≡ (is_grant e && is_transaction (served_by past e) x)
grant_agrees past (G q d j) p c i x of_name = elim (cases_Bool (has_name x q d j)) [
  | inl t ↦
      let n = has_name-is x q d j t in
      let m = transaction_of-name past p c i x of_name in
      let there : transaction_of past q d j ≡ Some x = sym (at_name (transaction_of past) x q d j n) ∙ at_name (transaction_of past) x p c i m ∙ of_name in
      rw there (rw (m.port, m.chan, m.id, eq-eqb p p refl, eq-eqb i i refl, same_channel-self c, eq-eqb x.place x.place refl) refl)
  | inr f ↦ rw (named_is past p q c d i j x of_name, f) (other (transaction_of past q d j) refl f)
]
  where
    other : (o : Option Transaction) → transaction_of past q d j ≡ o → has_name x q d j ≡ false → is_named o p c i ≡ false
    other None is f = refl
    other (Some y) is f =
        elim (cases_Bool (has_name y p c i)) [
          | inr none ↦ none
          | inl t ↦
              let n = has_name-is y p c i t in
              let m = transaction_of-name past q d j y is in
              let k = transaction_of-name past p c i x of_name in
              let named : has_name x q d j ≡ true =
              rw (k.port, k.chan, k.id) (rw (← n.port, ← n.chan, ← n.id) (rw (m.port, m.chan, m.id, eq-eqb q q refl, eq-eqb j j refl, same_channel-self d) refl)) in cc
        ]
grant_agrees past _ p c i x of_name = refl

grant_idle : (past : Trace) (e : Event) (p : ℕ) (c : Channel) (i : ℕ) (y : Transaction) → issued (length past) e ≡ Some y → is_named (given past e) p c i ≡ false
grant_idle past (Ar q j addr snoop dom bar lock) p c i y new = refl
grant_idle past (Aw q j addr snoop dom bar) p c i y new = refl
grant_idle past e p c i y new = cc

-- it has had its G
pub grant_by_name : (past : Trace) (p : ℕ) (c : Channel) (i : ℕ) (x : Transaction) → transaction_of past p c i ≡ Some x
    → has_grant past p c i ≡ has_had is_grant past x
grant_by_name =
    had_by_name is_grant (λ past e p c i. is_named (given past e) p c i) has_grant
    (record { step = λ past e p c i. refl; agrees = grant_agrees; idle = grant_idle })

pub memory_agrees : (past : Trace) (e : Event) (p : ℕ) (c : Channel) (i : ℕ) (x : Transaction) → transaction_of past p c i ≡ Some x
    → is_memory_write e p c i ≡ (is_write_of_memory e && is_transaction (served_by past e) x)
memory_agrees past (M q d j line) p c i x of_name = sym (names past p q c d i j x of_name)
memory_agrees past _ p c i x of_name = refl

memory_idle : (past : Trace) (e : Event) (p : ℕ) (c : Channel) (i : ℕ) (y : Transaction) → issued (length past) e ≡ Some y → is_memory_write e p c i ≡ false
memory_idle past (Ar q j addr snoop dom bar lock) p c i y new = refl
memory_idle past (Aw q j addr snoop dom bar) p c i y new = refl
memory_idle past e p c i y new = cc

-- it has had its M
pub memory_by_name : (past : Trace) (p : ℕ) (c : Channel) (i : ℕ) (x : Transaction) → transaction_of past p c i ≡ Some x
    → has_memory_write past p c i ≡ has_had is_write_of_memory past x
memory_by_name =
    had_by_name is_write_of_memory (λ past e p c i. is_memory_write e p c i) has_memory_write
    (record { step = λ past e p c i. refl; agrees = memory_agrees; idle = memory_idle })
