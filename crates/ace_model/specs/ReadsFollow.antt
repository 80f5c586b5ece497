-- All reads of a line follow one order of its stores, which is that of the trace.
use Rattle.std.specs.Prelude.{ℕ, ◌≡◌, ◌<◌, ◌≤◌, ◌⊎◌, Bool, true, Some}
use Rattle.ace_event.specs.declared.event.Channel.TheVariants.{Read}
use Rattle.ace_event.specs.declared.event.Event.TheVariants.{L, R, G}
use Rattle.ace_model.specs.declared.transactions.Transaction.{Transaction}
use Rattle.ace_model.specs.Trace.{Trace, event_at, at_point}
use Rattle.ace_model.specs.Transactions.{transaction_of, transfers}
use Rattle.ace_model.specs.Copies.{is_line_read_transaction, word_of}
use Rattle.ace_model.specs.Values.{value_of}

-- the event with n events before it is a load
abbrev pub IsLoad : Trace → ℕ → ℕ → ℕ → ℕ → ℕ → Type 0
IsLoad past n p l w word = (x : Bool) × (event_at past n ≡ Some (L p l w x word))

-- the event with n events before it is a beat of the line read, the k-th from 0
abbrev pub IsBeat : Trace → ℕ → Transaction → ℕ → ℕ → Type 0
IsBeat past n x k word =
    (resp : ℕ) × ((last : Bool) × (event_at past n ≡ Some (R x.port x.id resp last word)
    × (transaction_of (at_point n past) x.port Read x.id ≡ Some x)
    × (is_line_read_transaction x ≡ true)
    × (transfers (at_point n past) x.port x.id ≡ k)))

-- the event with n events before it is the G of the line read
abbrev pub IsGrantOf : Trace → ℕ → Transaction → Type 0
IsGrantOf past n x =
    (event_at past n ≡ Some (G x.port Read x.id))
    × (transaction_of (at_point n past) x.port Read x.id ≡ Some x)

-- it is a line read with at least one beat
abbrev pub HasBeat : Trace → Transaction → Type 0
HasBeat past x = (n : ℕ) × ((k : ℕ) × ((word : ℕ) × IsBeat past n x k word))

-- a read of the line by the port: a load, or a line read with at least one beat, by the place of
-- its L or AR
abbrev pub IsReadBy : Trace → ℕ → ℕ → ℕ → Type 0
IsReadBy past p l n =
    ((w : ℕ) × ((word : ℕ) × IsLoad past n p l w word))
    ⊎ ((x : Transaction) × HasBeat past x × (x.port ≡ p) × (x.addr ≡ l) × (x.place ≡ n))

-- Each read has a point of the trace. That of a load is the point before it, and its word is that
-- of the line's value there. That of a line read isn't before its G and is before its first beat,
-- and each beat has its word of the value there. For each port and line the points of its reads, in
-- the order of their L and AR, never go back.
pub record FollowsAt (past : Trace) (point : ℕ → ℕ) : Type 0 where
  pub load_now : (n p l w word : ℕ) → IsLoad past n p l w word → point n ≡ n
  pub load_word : (n p l w word : ℕ) → IsLoad past n p l w word
      → word ≡ word_of (value_of (at_point n past) l) w
  pub granted : (x : Transaction) → HasBeat past x → (n : ℕ)
      × (IsGrantOf past n x × n < point x.place)
  pub before_beats : (n k word : ℕ) (x : Transaction) → IsBeat past n x k word → point x.place ≤ n
  pub beat_word : (n k word : ℕ) (x : Transaction) → IsBeat past n x k word
      → word ≡ word_of (value_of (at_point (point x.place) past) x.addr) k
  pub in_order : (p l n m : ℕ) → IsReadBy past p l n → IsReadBy past p l m
      → n < m → point n ≤ point m

abbrev pub ReadsFollow : Trace → Type 0
ReadsFollow past = (point : ℕ → ℕ) × FollowsAt past point
