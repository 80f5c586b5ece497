-- The writes of a port whose bursts are whole and that have had no M: they are outstanding, each under an identifier of its own,
-- and they are all that have data to write.
use Rattle.ace_portck.proofs.Terms.{All, filter, find, list_any, option_and_then, Read, Write, Event, W, M, Header, Trace, IsAccepted, is_some_and, more, has_write_data, write_kind, outstanding, is_memory_write, has_memory_write, data_writes, next_write, next_write_beat, Beat, beats, beat_at, burst_of, is_burst_whole, Transaction, data_of_burst, open_burst, filled_at, filled}
use Rattle.std.proofs.Common.{◌≡◌, ◌≢◌, ℕ, ◌+◌, ◌*◌, ◌/◌, ◌<◌, ◌≤◌, Bool, true, false, not, ◌&&◌, nat_eq, List, [], ◌∷◌, ◌++◌, length, take, drop, Option, Some, None, option_map, slice_get, get_or, le_refl, refl, sym, ap, subst, ◌∙◌, arith, inl, inr, length-drop, length-append}
use Rattle.std.proofs.Math.Seq.{take-length}
use Rattle.std.proofs.lemmas.Bool.{and_parts, and_right, not-true, cases_Bool, eqb-true, eq-eqb, lt-ltb}
use Rattle.std.proofs.lemmas.List.{length-take, take-append-le, drop-append-le}
use Rattle.std.proofs.lemmas.List.Kept.{AllPairs-filter}
use Rattle.std.proofs.lemmas.List.Quantifiers.{all_pairs_push}
use Rattle.std.proofs.lemmas.Option.{slice_get_within}
use Rattle.ace_model.proofs.General.Lists.{any-right, slice_get-all, start-any, start-more}
use Rattle.ace_model.proofs.Outstanding.Issued.{find-some}
use Rattle.std.proofs.lemmas.Map.Views.{any-filter_same}
use Rattle.std.proofs.lemmas.List.Elements.{All-filter, All-push, filter_passes}
use Rattle.ace_model.proofs.General.Options.{is_some_and-is}
use Rattle.ace_model.proofs.General.Pigeonhole.{AreApart}
use Rattle.ace_model.proofs.Rules.Keeps.{accepted_keeps}
use Rattle.ace_model.proofs.Trace.Looks.{Named, at_name}
use Rattle.ace_model.proofs.Trace.Issued.{outstanding-name, outstanding-named}
use Rattle.ace_model.proofs.Trace.Growth.{IsIssued, at_point-before, named-issued}
use Rattle.ace_model.proofs.Trace.WriteBursts.{start_of, IsBeat, burst_grows, burst_new, four_beats}
use Rattle.ace_model.proofs.Trace.UnwrittenWrites.{Unwritten, one_unwritten, unwritten_stays, unwritten_origin, data_write-at, burst_short, filling_unwritten}
use Rattle.ace_portck.specs.Targets.{data_of_write}

-- a whole burst stays as it is
pub whole_stays : (past : Trace) (e : Event) (x : Transaction) → IsIssued past x → is_burst_whole past x ≡ true → burst_of (e ∷ past) x ≡ burst_of past x
whole_stays past e x i whole =
    let at = at_point-before e past x.place (let low = i.before in omega arith) in rw at (grown (beat_at (beats past x.port) (data_writes past x.port) e x.port))
  where
    fits : 4 * start_of past x + 4 ≤ length (beats past x.port)
    fits =
        let all = eqb-true (length (burst_of past x)) 4 whole in
        let long = length-take 4 (drop (4 * start_of past x) (beats past x.port)) in
        let rest = length-drop (4 * start_of past x) (beats past x.port) in
        omega (arith, all, long, rest)

    grown : (o : Option Beat) → take 4 (drop (4 * start_of past x) (more (beats past x.port) o)) ≡ take 4 (drop (4 * start_of past x) (beats past x.port))
    grown None = refl
    grown (Some b) =
        let f = fits in
        let rest = length-drop (4 * start_of past x) (beats past x.port) in
        ap (take 4) (drop-append-le (4 * start_of past x) (beats past x.port) (b ∷ []) (omega (arith, f)))
        ∙ take-append-le 4 (drop (4 * start_of past x) (beats past x.port)) (b ∷ []) (omega (arith, f, rest))

-- it was issued
pub unwritten-issued : (h : Header) (past : Trace) (p i : ℕ) (x : Transaction) → Unwritten h past p i x → IsIssued past x
unwritten-issued h past p i x u = named-issued past p Write i x (outstanding-named h past p Write i x u.out)

-- A W that keeps the rules: the write that it belongs to, and the beats after it.
pub record Adds (past : Trace) (p strb : ℕ) (last : Bool) (word : ℕ) : Type 0 where
  pub one : Transaction
  pub next : next_write past p ≡ Some one
  pub within : length (beats past p) / 4 < length (data_writes past p)
  pub added : beats (W p strb last word ∷ past) p ≡ beats past p ++ (record { strobe = strb; word = word }) ∷ []

pub adds : (h : Header) (past : Trace) (p strb : ℕ) (last : Bool) (word : ℕ) → IsAccepted h (W p strb last word ∷ past) → Adds past p strb last word
adds h past p strb last word a =
    let x = is_some_and-is (next_write past p) _ (accepted_keeps h past (W p strb last word) a).rule_11 in
    let within = slice_get_within (data_writes past p) (length (beats past p) / 4) x.0 x.1 in
    let room : length (beats past p) < 4 * length (data_writes past p) = omega (arith, within) in
    record {
      one = x.0;
      next = x.1;
      within = within;
      added = rw (eq-eqb p p (refl {a = p}), lt-ltb (length (beats past p)) (4 * length (data_writes past p)) room) refl;
    }

-- the fourth beat makes the burst whole
pub fourth : (h : Header) (past : Trace) (p strb : ℕ) (last : Bool) (word : ℕ) (x : Transaction) → IsAccepted h (W p strb last word ∷ past)
    → next_write past p ≡ Some x → next_write_beat past p ≡ 3
    → burst_of (W p strb last word ∷ past) x ≡ open_burst past p ++ (record { strobe = strb; word = word }) ∷ []
fourth h past p strb last word x a next beat =
    let d = data_write-at past p (length (beats past p) / 4) x next in
    let at = at_point-before (W p strb last word) past x.place (let low = d.issued.before in omega arith) in
    rw (at, d.start, d.port, (adds h past p strb last word a).added) four
  where
    new : Beat
    new = record { strobe = strb; word = word }

    four : take 4 (drop (4 * (length (beats past p) / 4)) (beats past p ++ new ∷ [])) ≡ open_burst past p ++ new ∷ []
    four =
        let long = length-drop (4 * (length (beats past p) / 4)) (beats past p) in
        let longer = length-append (open_burst past p) (new ∷ []) in
        let all : 4 ≡ length (open_burst past p ++ new ∷ []) = omega (arith, long, longer, beat) in
        ap (take 4) (drop-append-le (4 * (length (beats past p) / 4)) (beats past p) (new ∷ []) (omega arith))
        ∙ ap (λ n. take n (open_burst past p ++ new ∷ [])) all
        ∙ take-length (open_burst past p ++ new ∷ [])

-- A write whose burst is whole and that has had no M.
pub record IsFilled (h : Header) (past : Trace) (p : ℕ) (x : Transaction) : Type 0 where
  pub open' : Unwritten h past p x.id x
  pub whole : is_burst_whole past x ≡ true

-- they stay so but at their M
filled_stay : (h : Header) (past : Trace) (e : Event) (p : ℕ) (xs : List Transaction) → IsAccepted h (e ∷ past) → All (IsFilled h past p) xs
    → All (λ (x : Transaction). is_memory_write e p Write x.id ≡ false) xs → All (IsFilled h (e ∷ past) p) xs
filled_stay h past e p xs a filled not_now k d low =
    let x = get_or xs k d in
    let f = filled k d low in
    let same = whole_stays past e x (unwritten-issued h past p x.id x f.open') f.whole in
    record { open' = unwritten_stays h past p x.id x f.open' e a (not_now k d low); whole = rw same f.whole }

-- the write that a fourth beat makes whole
filled_new : (h : Header) (past : Trace) (p strb : ℕ) (last : Bool) (word : ℕ) (x : Transaction) → IsAccepted h (W p strb last word ∷ past)
    → next_write past p ≡ Some x → next_write_beat past p ≡ 3 → IsFilled h (W p strb last word ∷ past) p x
filled_new h past p strb last word x a next beat =
    let u = filling_unwritten h past a.0 p (length (beats past p) / 4) x (le_refl (length (beats past p) / 4)) next in
    let is = fourth h past p strb last word x a next beat in
    let long = length-drop (4 * (length (beats past p) / 4)) (beats past p) in
    let new : Beat = record { strobe = strb; word = word } in
    let longer = length-append (open_burst past p) (new ∷ []) in
    let all : length (open_burst past p ++ new ∷ []) ≡ 4 = omega (arith, long, longer, beat) in
    record {
      open' = unwritten_stays h past p x.id x u (W p strb last word) a refl;
      whole = rw is (eq-eqb (length (open_burst past p ++ new ∷ [])) 4 all);
    }

-- which write a W fills
filled_at-is : (past : Trace) (q strb : ℕ) (last : Bool) (word : ℕ) (p : ℕ) (x : Transaction) → filled_at past (W q strb last word) p ≡ Some x
    → (p ≡ q) × (next_write_beat past p ≡ 3) × (next_write past p ≡ Some x)
filled_at-is past q strb last word p x e =
    elim (cases_Bool (nat_eq p q && nat_eq (next_write_beat past p) 3)) [
      | inr f ↦ let none : None ≡ Some x = rw f at e in cc
      | inl t ↦
          let parts = and_parts (nat_eq p q) _ t in
          (eqb-true p q parts.0, eqb-true (next_write_beat past p) 3 parts.1, rw t at e)
    ]

-- each whole burst without M is of an outstanding write
pub filled_are : (h : Header) (past : Trace) → IsAccepted h past → (p : ℕ) → All (IsFilled h past p) (filled past p)
filled_are h [] a p = λ k d low. absurd (omega (arith, low))
filled_are h (W q strb last word ∷ past) a p =
    grown (filled_stay h past (W q strb last word) p (filled past p) a (filled_are h past a.0 p) (λ k d low. refl)) (filled_at past (W q strb last word) p) refl
  where
    grown : All (IsFilled h (W q strb last word ∷ past) p) (filled past p) → (o : Option Transaction) → filled_at past (W q strb last word) p ≡ o
        → All (IsFilled h (W q strb last word ∷ past) p) (more (filled past p) o)
    grown old None is = old
    grown old (Some x) is =
        let n = filled_at-is past q strb last word p x is in
        let one : IsAccepted h (W p strb last word ∷ past) = subst (λ v. IsAccepted h (W v strb last word ∷ past)) (sym n.0) a in
        All-push (IsFilled h (W q strb last word ∷ past) p) (filled past p) x old
        (subst (λ v. IsFilled h (W v strb last word ∷ past) p x) n.0 (filled_new h past p strb last word x one n.2 n.1))
filled_are h (M q Write i line ∷ past) a p =
    let old = filled_are h past a.0 p in
    elim (cases_Bool (nat_eq p q)) [
      | inr f ↦ rw f (filled_stay h past (M q Write i line) p (filled past p) a old (λ k d low. rw f refl))
      | inl t ↦
          rw t
          (filled_stay h past (M q Write i line) p (filter (λ (y : Transaction). not (nat_eq y.id i)) (filled past p)) a
          (All-filter (λ (y : Transaction). not (nat_eq y.id i)) (IsFilled h past p) (filled past p) old)
          (λ k d low. rw (not-true _ (filter_passes (λ (y : Transaction). not (nat_eq y.id i)) (filled past p) k d low)) (and_right _ false refl)))
    ]
filled_are h (M q Read i line ∷ past) a p =
    filled_stay h past (M q Read i line) p (filled past p) a (filled_are h past a.0 p) (λ k d low. rw (and_right (nat_eq p q) false refl) refl)
filled_are h (e ∷ past) a p = filled_stay h past e p (filled past p) a (filled_are h past a.0 p) (λ k d low. refl)

-- and each such write is among them
filled_there : (h : Header) (past : Trace) → IsAccepted h past → (p i : ℕ) (x : Transaction) → Unwritten h past p i x → is_burst_whole past x ≡ true
    → list_any (λ y. nat_eq y.id i) (filled past p) ≡ true
filled_there h [] a p i x u whole = let none = u.out in cc
filled_there h (e ∷ past) a p i x u whole =
    elim (unwritten_origin h past e p i x u) [
      | inl new ↦
          let four = four_beats (e ∷ past) x whole in
          absurd (burst_new past e x 0 four.b0 new (ap (λ bs. slice_get bs 0) four.is))
      | inr old ↦
          elim (cases_Bool (is_burst_whole past x)) [
            | inl before ↦ still e (filled_there h past a.0 p i x old.0 before) old.1
            | inr not_yet ↦
                let four = four_beats (e ∷ past) x whole in
                elim (burst_grows past e x 3 four.b3 (unwritten-issued h past p i x old.0) u.sends (ap (λ bs. slice_get bs 3) four.is)) [
                  | inl there ↦
                      let low = slice_get_within (burst_of past x) 3 four.b3 there in
                      let long = length-take 4 (drop (4 * start_of past x) (beats past x.port)) in
                      let four_then = eq-eqb (length (burst_of past x)) 4 (omega (arith, low, long)) in
                      let bad : false ≡ true = sym not_yet ∙ four_then in cc
                  | inr b ↦ now e four.b3 b (outstanding-name h past p Write i x old.0.out)
                ]
          ]
    ]
  where
    still : (d : Event) → list_any (λ y. nat_eq y.id i) (filled past p) ≡ true → is_memory_write d p Write i ≡ false
        → list_any (λ y. nat_eq y.id i) (filled (d ∷ past) p) ≡ true
    still (W q strb last word) there other =
        start-any (λ (y : Transaction). nat_eq y.id i) (filled past p) (filled (W q strb last word ∷ past) p)
        (start-more (filled past p) (filled_at past (W q strb last word) p)) there
    still (M q Write j line) there other =
        elim (cases_Bool (nat_eq p q)) [
          | inr f ↦ rw f there
          | inl t ↦
              let apart : nat_eq i j ≡ false = rw t at other in
              rw t
              (any-filter_same (λ (y : Transaction). nat_eq y.id i) (λ (y : Transaction). not (nat_eq y.id j)) true
              (λ y is. rw (eqb-true y.id i is, apart) refl) (filled past p) ∙ there)
        ]
    still (M q Read j line) there other = there
    still d there other = there

    now : (d : Event) (b : Beat) → IsBeat past d x 3 b → Named x p Write i → list_any (λ y. nat_eq y.id i) (filled (d ∷ past) p) ≡ true
    now d b is name =
        let third = eq-eqb (next_write_beat past x.port) 3 is.number in
        let at : filled_at past (W x.port b.strobe is.last b.word) x.port ≡ Some x = rw (eq-eqb x.port x.port refl, third) is.next in
        let here : list_any (λ y. nat_eq y.id i) (filled (W x.port b.strobe is.last b.word ∷ past) x.port) ≡ true =
        rw at (any-right (λ (y : Transaction). nat_eq y.id i) (filled past x.port) (x ∷ []) (rw (eq-eqb x.id i name.id) refl)) in
        ap (λ q. list_any (λ (y : Transaction). nat_eq y.id i) (filled (d ∷ past) q)) (sym name.port)
        ∙ ap (λ (v : Event). list_any (λ (y : Transaction). nat_eq y.id i) (filled (v ∷ past) x.port)) is.is ∙ here

-- the write that a W fills has an identifier of its own among them
pub other_filled : (h : Header) (past : Trace) → IsAccepted h past → (p : ℕ) (x : Transaction) → next_write past p ≡ Some x
    → All (λ (y : Transaction). y.id ≢ x.id) (filled past p)
other_filled h past a p x next k d low same =
    let y = get_or (filled past p) k d in
    let f = filled_are h past a p k d low in
    let u = filling_unwritten h past a p (length (beats past p) / 4) x (le_refl (length (beats past p) / 4)) next in
    let one : y ≡ x = one_unwritten h past p y.id x.id y x f.open' u same in
    let short = burst_short past p (length (beats past p) / 4) x next (le_refl (length (beats past p) / 4)) in
    let whole : is_burst_whole past x ≡ true = subst (λ (v : Transaction). is_burst_whole past v ≡ true) one f.whole in
    let bad : false ≡ true = sym short ∙ whole in cc

-- so no two have one
pub filled_apart : (h : Header) (past : Trace) → IsAccepted h past → (p : ℕ) → AreApart (λ (y : Transaction). y.id) (filled past p)
filled_apart h [] a p = λ i j d less low same. absurd (omega (arith, low))
filled_apart h (W q strb last word ∷ past) a p =
    one_more (filled_apart h past a.0 p) (filled_at past (W q strb last word) p) (filled_at-is past q strb last word p)
  where
    one_more : AreApart (λ (y : Transaction). y.id) (filled past p) → (o : Option Transaction)
        → ((x : Transaction) → o ≡ Some x → (p ≡ q) × (next_write_beat past p ≡ 3) × (next_write past p ≡ Some x))
        → AreApart (λ (y : Transaction). y.id) (more (filled past p) o)
    one_more before None is = before
    one_more before (Some x) is =
        all_pairs_push (λ (y z : Transaction). y.id ≢ z.id) (filled past p) x before (other_filled h past a.0 p x (is x refl).2)
filled_apart h (M q Write i line ∷ past) a p =
    elim (cases_Bool (nat_eq p q)) [
      | inr f ↦ rw f (filled_apart h past a.0 p)
      | inl t ↦
          rw t
          (AllPairs-filter (λ (y z : Transaction). y.id ≢ z.id) (λ (y : Transaction). not (nat_eq y.id i)) (filled past p) (filled_apart h past a.0 p))
    ]
filled_apart h (M q Read i line ∷ past) a p = filled_apart h past a.0 p
filled_apart h (e ∷ past) a p = filled_apart h past a.0 p

-- the burst that is found under an identifier is the data of the write that is outstanding under it
pub filled-data : (h : Header) (past : Trace) → IsAccepted h past → (p i : ℕ)
    → option_map (λ x. data_of_burst (burst_of past x)) (find (λ (x : Transaction). nat_eq x.id i) (filled past p))
    ≡ option_and_then (data_of_write past) (outstanding h past p Write i)
filled-data h past a p i = by (find (λ (x : Transaction). nat_eq x.id i) (filled past p)) refl
  where
    find-none_any : (xs : List Transaction) → find (λ (x : Transaction). nat_eq x.id i) xs ≡ None → list_any (λ x. nat_eq x.id i) xs ≡ false
    find-none_any [] e = refl
    find-none_any (x ∷ xs) e =
        elim (cases_Bool (nat_eq x.id i)) [
          | inl t ↦ let bad : Some x ≡ None = rw t at e in cc
          | inr f ↦ rw f (find-none_any xs (rw f at e))
        ]

    none : (o : Option Transaction) → outstanding h past p Write i ≡ o → find (λ (x : Transaction). nat_eq x.id i) (filled past p) ≡ None
        → None ≡ option_and_then (data_of_write past) o
    none None out missing = refl
    none (Some x) out missing =
        elim (cases_Bool (is_some_and (write_kind x) has_write_data && is_burst_whole past x && not (has_memory_write past x.port x.chan x.id))) [
          | inr f ↦ rw f refl
          | inl t ↦
              let parts = and_parts (is_some_and (write_kind x) has_write_data && is_burst_whole past x) _ t in
              let two = and_parts (is_some_and (write_kind x) has_write_data) (is_burst_whole past x) parts.0 in
              let name = outstanding-name h past p Write i x out in
              let unwritten = sym (at_name (has_memory_write past) x p Write i name) ∙ not-true (has_memory_write past x.port x.chan x.id) parts.1 in
              let some = filled_there h past a p i x (record { out = out; sends = two.0; unwritten = unwritten }) two.1 in
              let bad : false ≡ true = sym (find-none_any (filled past p) missing) ∙ some in cc
        ]

    by : (r : Option Transaction) → find (λ (x : Transaction). nat_eq x.id i) (filled past p) ≡ r
        → option_map (λ x. data_of_burst (burst_of past x)) r ≡ option_and_then (data_of_write past) (outstanding h past p Write i)
    by None missing = none (outstanding h past p Write i) refl missing
    by (Some y) is =
        let r = find-some (λ (x : Transaction). nat_eq x.id i) (filled past p) y is in
        let f = slice_get-all (IsFilled h past p) (filled past p) r.0.0 y (filled_are h past a p) r.0.1 in
        let id = eqb-true y.id i r.1 in
        let out : outstanding h past p Write i ≡ Some y = ap (outstanding h past p Write) (sym id) ∙ f.open'.out in
        let name = outstanding-name h past p Write i y out in
        let unwritten : has_memory_write past y.port y.chan y.id ≡ false =
        at_name (has_memory_write past) y p Write i name ∙ ap (has_memory_write past p Write) (sym id) ∙ f.open'.unwritten in
        let sends = f.open'.sends in
        let whole = f.whole in
        rw out (rw (sends, whole, unwritten) refl)

-- a read has no write data
pub read-data : (h : Header) (past : Trace) (p i : ℕ) → None ≡ option_and_then (data_of_write past) (outstanding h past p Read i)
read-data h past p i = by (outstanding h past p Read i) refl
  where
    by : (o : Option Transaction) → outstanding h past p Read i ≡ o → None ≡ option_and_then (data_of_write past) o
    by None out = refl
    by (Some x) out = let chan = (outstanding-name h past p Read i x out).chan in rw chan refl
