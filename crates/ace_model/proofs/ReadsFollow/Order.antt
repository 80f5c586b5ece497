-- The points of the reads of a line by one port never go back: an earlier read has all its beats before the later one.
use Rattle.std.proofs.Common.{◌≡◌, ◌⊎◌, ℕ, ◌-◌, ◌<◌, ◌≤◌, true, false, length, drop, Some, sym, ap, subst, ◌∙◌, arith, inl, inr}
use Rattle.std.proofs.lemmas.Bool.{cases_lt, not-true}
use Rattle.ace_model.proofs.Terms.{is_line_read_transaction, has_free_line, is_on, I, is_invalid, L, R, G, Read, Header, Transaction, Trace, at_point, issued, outstanding, state_of, k30, k18, IsLoad}
use Rattle.ace_model.proofs.Terms.{IsBeat, IsGrantOf, HasBeat, IsReadBy, IsAccepted}
use Rattle.ace_model.proofs.Trace.Places.{event-accepted, issued-by, issued_at-later, placed-before, event_at-below, at_point-twice, at_point-length, beat-below}
use Rattle.ace_model.proofs.Trace.Growth.{accepted-before}
use Rattle.ace_model.proofs.Trace.Issued.{issued_at, transaction_of-stands}
use Rattle.ace_model.proofs.Trace.LineOnce.{free_line}
use Rattle.ace_model.proofs.General.Options.{is_none_or-at}
use Rattle.ace_model.proofs.Rules.Keeps.{accepted_keeps}
use Rattle.ace_model.proofs.Holders.Transfer.{may}
use Rattle.ace_model.proofs.ReadsFollow.Outstanding.{outstanding-before, line_read-on, empty_while_read}

-- at a load its port holds the line
load-holds : (h : Header) (past : Trace) (n p l w word : ℕ) → IsAccepted h past → IsLoad past n p l w word → state_of h (at_point n past) p l ≡ I → ⊥
load-holds h past n p l w word a load gone =
    let k : k30 h (at_point n past) (L p l w load.0 word) ≡ true =
    (accepted_keeps h (at_point n past) (L p l w load.0 word) (event-accepted h past n (L p l w load.0 word) a load.1)).rule_30 in
    let held = not-true (is_invalid (state_of h (at_point n past) p l)) k in
    let bad : is_invalid I ≡ false = subst (λ s. is_invalid s ≡ false) gone held in cc

-- at a beat its read is outstanding, and so it was since it was issued
beat-outstanding : (h : Header) (past : Trace) (n : ℕ) (x : Transaction) (k word : ℕ) → IsAccepted h past → IsBeat past n x k word
    → outstanding h (at_point n past) x.port Read x.id ≡ Some x
beat-outstanding h past n x k word a beat =
    let z = R x.port x.id beat.0 beat.1.0 word in
    let due : k18 h (at_point n past) z ≡ true = (accepted_keeps h (at_point n past) z (event-accepted h past n z a beat.1.1.0)).rule_18 in
    let m = may h (at_point n past) x.port x.id beat.0 beat.1.0 word due in
    m.out ∙ sym m.named ∙ beat.1.1.1

beat-since : (h : Header) (past : Trace) (n m : ℕ) (x : Transaction) (k word : ℕ) → IsAccepted h past → IsBeat past n x k word → m ≤ n → x.place < m
    → outstanding h (at_point m past) x.port Read x.id ≡ Some x
beat-since h past n m x k word a beat le low =
    let within = beat-below past n x k word beat in
    let twice : at_point m (at_point n past) ≡ at_point m past = at_point-twice past m n le (omega arith) in
    let long : length (at_point m past) ≡ m = at_point-length past m (omega arith) in
    let below : x.place < length (drop (length (at_point n past) - m) (at_point n past)) =
    subst (λ (t : Trace). x.place < length t) (sym twice) (omega arith) in
    subst (λ (t : Trace). outstanding h t x.port Read x.id ≡ Some x) twice
    (outstanding-before h (length (at_point n past) - m) (at_point n past) x.port Read x.id x (beat-outstanding h past n x k word a beat) below)

-- a read is issued before its grant
granted-later : (past : Trace) (n : ℕ) (x : Transaction) → IsGrantOf past n x → x.place < n
granted-later past n x g = let low = event_at-below past n (G x.port Read x.id) g.0 in placed-before past n x.port Read x.id x (omega arith) g.1

pub beat-issued : (past : Trace) (x : Transaction) → HasBeat past x → issued_at past x.place ≡ Some x
beat-issued past x b =
    issued_at-later (length past - b.0) past x.place x
    (transaction_of-stands (at_point b.0 past) x.port Read x.id x b.1.1.1.1.1.1).there

-- What the order of the points rests on.
pub record PointsSet (past : Trace) (point : ℕ → ℕ) : Type 0 where
  pub load_now : (n p l w word : ℕ) → IsLoad past n p l w word → point n ≡ n
  pub granted : (x : Transaction) → HasBeat past x → (n : ℕ) × (IsGrantOf past n x × n < point x.place)
  pub before_beats : (n k word : ℕ) (x : Transaction) → IsBeat past n x k word → point x.place ≤ n

module _ (h : Header) (past : Trace) (point : ℕ → ℕ) (a : IsAccepted h past) (s : PointsSet past point) (l m : ℕ) where
  -- a read that was issued before a place has its point before it, or is outstanding there
  earlier : (x : Transaction) → HasBeat past x → x.place < m → (point x.place < m) ⊎ (outstanding h (at_point m past) x.port Read x.id ≡ Some x)
  earlier x b less =
      elim (cases_lt b.0 m) [
        | inl before ↦ let low = s.before_beats b.0 b.1.0 b.1.1.0 x b.1.1.1 in inl (omega arith)
        | inr after ↦ inr (beat-since h past b.0 m x b.1.0 b.1.1.0 a b.1.1.1 after less)
      ]

  -- at a load no read of the line is outstanding at its port
  no_load : (p w word : ℕ) (x : Transaction) → IsLoad past m p l w word → is_line_read_transaction x ≡ true → x.port ≡ p → x.addr ≡ l
      → outstanding h (at_point m past) x.port Read x.id ≡ Some x → ⊥
  no_load p w word x load reads port addr out =
      load-holds h past m p l w word a load (ap (λ v. state_of h (at_point m past) v l) (sym port) ∙ ap (state_of h (at_point m past) x.port) (sym addr)
      ∙ empty_while_read h (at_point m past) (accepted-before h (length past - m) past a) x.port x.id x out reads)

  -- nor where its port issues another one
  no_read : (x y : Transaction) → HasBeat past y → y.place ≡ m → is_line_read_transaction x ≡ true → x.port ≡ y.port → x.addr ≡ l → y.addr ≡ l
      → outstanding h (at_point m past) x.port Read x.id ≡ Some x → ⊥
  no_read x y b place reads port addr_x addr_y out =
      let beat = b.1.1.1 in
      let t = issued-by past m y (ap (issued_at past) (sym place) ∙ beat-issued past y b) in
      let long = at_point-length past m (let low = event_at-below past m t.0 t.1 in omega arith) in
      let free = is_none_or-at (issued (length (at_point m past)) t.0) (has_free_line h (at_point m past)) y
      (accepted_keeps h (at_point m past) t.0 (event-accepted h past m t.0 a t.1)).rule_5 (ap (λ v. issued v t.0) long ∙ t.2) in
      let on_x : is_on x l ≡ true = subst (λ v. is_on x v ≡ true) addr_x (line_read-on x reads) in
      let on_y : is_on y l ≡ true = subst (λ v. is_on y v ≡ true) addr_y (line_read-on y beat.1.1.2) in
      let named = (transaction_of-stands (at_point b.0 past) y.port Read y.id y beat.1.1.1).named in
      free_line h (at_point m past) y.port Read Read y.id x.id l y x free named (ap (λ v. outstanding h (at_point m past) v Read x.id) (sym port) ∙ out) on_y on_x

pub points-in_order : (h : Header) (past : Trace) (point : ℕ → ℕ) → IsAccepted h past → PointsSet past point
    → (p l n m : ℕ) → IsReadBy past p l n → IsReadBy past p l m → n < m → point n ≤ point m
points-in_order h past point a s p l n m (inl load) (inl later) less =
    let first = s.load_now n p l load.0 load.1.0 load.1.1 in
    let second = s.load_now m p l later.0 later.1.0 later.1.1 in
    omega arith
points-in_order h past point a s p l n m (inl load) (inr y) less =
    let first = s.load_now n p l load.0 load.1.0 load.1.1 in
    let g = s.granted y.0 y.1 in
    let after = granted-later past g.0 y.0 g.1.0 in
    let below = g.1.1 in
    let place = y.4 in
    let same : point y.0.place ≡ point m = ap point place in
    omega arith
points-in_order h past point a s p l n m (inr x) (inl load) less =
    let second = s.load_now m p l load.0 load.1.0 load.1.1 in
    let place = x.4 in
    let same : point x.0.place ≡ point n = ap point place in
    elim (earlier h past point a s l m x.0 x.1 (omega arith)) [
      | inl before ↦ omega arith
      | inr out ↦ absurd (no_load h past point a s l m p load.0 load.1.0 x.0 load.1.1 x.1.1.1.1.1.1.2 x.2 x.3 out)
    ]
points-in_order h past point a s p l n m (inr x) (inr y) less =
    let g = s.granted y.0 y.1 in
    let after = granted-later past g.0 y.0 g.1.0 in
    let below = g.1.1 in
    let place = x.4 in
    let place_y = y.4 in
    let first : point x.0.place ≡ point n = ap point place in
    let second : point y.0.place ≡ point m = ap point place_y in
    elim (earlier h past point a s l m x.0 x.1 (omega arith)) [
      | inl before ↦ omega arith
      | inr out ↦ absurd (no_read h past point a s l m x.0 y.0 y.1 place_y x.1.1.1.1.1.1.2 (x.2 ∙ sym y.2) x.3 y.3 out)
    ]
