-- An event that is no snoop and no answer of a line leaves what is looked at under the grant of the line.
use Rattle.std.proofs.Common.{◌≡◌, ℕ, zero, suc, ◌<◌, arith, Bool, false, ◌∷◌, Option, Some, None, option_and_then, option_map, refl, ap, ◌∙◌}
use Rattle.ace_model.proofs.Terms.{Event, Header, Answer, Trace, at_point, is_some_and, gives_line, is_snoop_to, was_snooped, answer_at, answer_of, list_any, ports_below, find, shares, passes, has_sharer, passer}
use Rattle.ace_model.proofs.Terms.{is_shared, passes_dirty, copy_of, copy_at_answer, first_sender, sender_at}
use Rattle.ace_model.proofs.General.Options.{newer-none}
use Rattle.ace_model.proofs.Values.Stays.{copy_at-old}

-- tests that agree on the ports below a number
pub some_port-agree : (n : ℕ) (test other : ℕ → Bool) → ((r : ℕ) → r < n → test r ≡ other r) → list_any test (ports_below n) ≡ list_any other (ports_below n)
some_port-agree zero test other same = refl
some_port-agree (suc n) test other same =
    let here = same n (omega arith) in
    let rest = some_port-agree n test other (λ r low. same r (omega arith)) in rw (here, rest) refl

pub find_port-agree : (n : ℕ) (test other : ℕ → Bool) → ((r : ℕ) → r < n → test r ≡ other r) → find test (ports_below n) ≡ find other (ports_below n)
find_port-agree zero test other same = refl
find_port-agree (suc n) test other same =
    let here = same n (omega arith) in
    let rest = find_port-agree n test other (λ r low. same r (omega arith)) in rw (here, rest) refl

-- The event doesn't grant the line, and is no snoop and no answer of it.
pub record Quiet (past : Trace) (e : Event) (l : ℕ) : Type 0 where
  pub gives : gives_line past e l ≡ false
  pub snoop : (p : ℕ) → is_snoop_to e p l ≡ false
  pub answer : (p : ℕ) → answer_at past e p l ≡ None
  pub sender : sender_at past e l ≡ None

-- an answer under the grant is there still, with the copy at it
pub copy_at_answer-old : (past : Trace) (e : Event) (p l : ℕ) → answer_of (e ∷ past) p l ≡ answer_of past p l → copy_at_answer (e ∷ past) l p ≡ copy_at_answer past l p
copy_at_answer-old past e p l same =
    ap (option_map (λ (w : Answer). copy_of (at_point w.place (e ∷ past)) p l)) same ∙ there (answer_of past p l) refl
  where
    there : (o : Option Answer) → answer_of past p l ≡ o
        → option_map (λ (w : Answer). copy_of (at_point w.place (e ∷ past)) p l) o ≡ option_map (λ (w : Answer). copy_of (at_point w.place past) p l) o
    there None is = refl
    there (Some w) is = ap (λ v. Some v) (copy_at-old past e p l w is)

module _ (h : Header) (past : Trace) (e : Event) (l : ℕ) (s : Quiet past e l) where
  pub snooped-stays : (p : ℕ) → was_snooped (e ∷ past) p l ≡ was_snooped past p l
  snooped-stays p = let gives = s.gives in let none = s.snoop p in rw (gives, none) refl

  pub answer-stays : (p : ℕ) → answer_of (e ∷ past) p l ≡ answer_of past p l
  answer-stays p = let gives = s.gives in let none = s.answer p in rw (gives, none) refl

  pub sharer-stays : has_sharer h (e ∷ past) l ≡ has_sharer h past l
  sharer-stays = some_port-agree h.ports (shares (e ∷ past) l) (shares past l) (λ p low. ap (λ o. is_some_and o (λ (a : Answer). is_shared a.resp)) (answer-stays p))

  pub passer-stays : passer h (e ∷ past) l ≡ passer h past l
  passer-stays = find_port-agree h.ports (passes (e ∷ past) l) (passes past l) (λ p low. ap (λ o. is_some_and o (λ (a : Answer). passes_dirty a.resp)) (answer-stays p))

  pub sender-stays : first_sender (e ∷ past) l ≡ first_sender past l
  sender-stays = let gives = s.gives in let none = s.sender in rw (gives, none) (newer-none (first_sender past l))

  pub copies-stay : (o : Option ℕ) → option_and_then (copy_at_answer (e ∷ past) l) o ≡ option_and_then (copy_at_answer past l) o
  copies-stay None = refl
  copies-stay (Some p) = copy_at_answer-old past e p l (answer-stays p)

  -- the copy of the first port that sent data
  pub sent-stays : option_and_then (copy_at_answer (e ∷ past) l) (first_sender (e ∷ past) l) ≡ option_and_then (copy_at_answer past l) (first_sender past l)
  sent-stays = ap (option_and_then (copy_at_answer (e ∷ past) l)) sender-stays ∙ copies-stay (first_sender past l)
