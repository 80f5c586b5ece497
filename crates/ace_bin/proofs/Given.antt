-- What a writer has given stays a front of its bytes.
use Rattle.std.proofs.Common.{rules, ◌≡◌, ℕ, ◌+◌, ◌-◌, ◌^◌, ◌≤◌, min, true, false, List, [], ◌++◌, length, take, drop, Option, sym, ap, ◌∙◌, subst, arith, append_assoc, append-nil, length-append, take-append-drop, Result, Ok, Err, OnOk, is_err}
use Rattle.std.proofs.lemmas.Grind.{common_steps}
use Rattle.std.proofs.lemmas.List.{drop_all, nil_from_length}
use Rattle.std.specs.Io.KnownBytes.{Appends}
use Rattle.std.proofs.KnownBytes.{Appends-trans}
use Rattle.ace_bin.specs.declared.writer.BinWriter.{BinWriter}
use Rattle.ace_bin.specs.Given.{sink_of, in_hand, has_failed, given_of, counted, GivesFront}

-- two lengths are counted one after the other
counted_both : (front piece : List ℕ) (given n : ℕ) → given ≡ counted (length front) → length piece ≡ n → min (given + n) (2 ^ 64 - 1) ≡ counted (length (front ++ piece))
counted_both front piece given n is len = rw length-append (omega (arith, is, len))

-- a front of what was in hand was given, and the rest of it only where nothing failed
pub given_more : {K : Type 0} (held : K → Option (List ℕ)) (before : Option (List ℕ)) (bytes : List ℕ) (old new : BinWriter K) (n : ℕ)
    → GivesFront held before bytes old → has_failed old ≡ false → n ≤ length (in_hand old)
    → Appends (held (sink_of old).now) (held (sink_of new).now) (take n (in_hand old))
    → given_of new ≡ min (given_of old + n) (2 ^ 64 - 1)
    → (has_failed new ≡ false → length (in_hand old) ≤ n) → in_hand new ≡ [] → GivesFront held before bytes new
given_more held before bytes old new n so_far sound fits given count whole none =
    let hand : in_hand old ≡ so_far.rest = so_far.waiting sound in
    let len : length (take n (in_hand old)) ≡ n = grind (arith, common_steps) in
    record {
      front = so_far.front ++ take n (in_hand old);
      rest = drop n (in_hand old);
      cut = so_far.cut ∙ ap (λ l. so_far.front ++ l) (sym hand ∙ sym (take-append-drop n (in_hand old))) ∙ sym (append_assoc so_far.front (take n (in_hand old)) (drop n (in_hand old)));
      taken = Appends-trans _ _ _ _ _ so_far.taken given;
      given = count ∙ counted_both so_far.front (take n (in_hand old)) (given_of old) n so_far.given len;
      waiting = λ ok. none ∙ sym (drop_all n (in_hand old) (whole ok));
    }

-- a record was added to what is in hand
pub record_added : {K : Type 0} (held : K → Option (List ℕ)) (before : Option (List ℕ)) (bytes more : List ℕ) (old new : BinWriter K)
    → GivesFront held before bytes old → has_failed old ≡ false → (sink_of new).now ≡ (sink_of old).now → given_of new ≡ given_of old
    → in_hand new ≡ in_hand old ++ more → GivesFront held before (bytes ++ more) new
record_added held before bytes more old new so_far sound sink count added = record {
  front = so_far.front;
  rest = so_far.rest ++ more;
  cut = ap (λ l. l ++ more) so_far.cut ∙ append_assoc so_far.front so_far.rest more;
  taken = subst (λ s. Appends before (held s) so_far.front) (sym sink) so_far.taken;
  given = count ∙ so_far.given;
  waiting = λ ok. added ∙ ap (λ l. l ++ more) (so_far.waiting sound);
}

-- after a fault what was given is a front of any more bytes
pub record_lost : {K : Type 0} (held : K → Option (List ℕ)) (before : Option (List ℕ)) (bytes more : List ℕ) (writer : BinWriter K)
    → GivesFront held before bytes writer → has_failed writer ≡ true → GivesFront held before (bytes ++ more) writer
record_lost held before bytes more writer so_far failed = record {
  front = so_far.front;
  rest = so_far.rest ++ more;
  cut = ap (λ l. l ++ more) so_far.cut ∙ append_assoc so_far.front so_far.rest more;
  taken = so_far.taken;
  given = so_far.given;
  waiting = λ ok. absurd (search (rules, failed, ok));
}

-- once nothing is in hand all bytes were given
pub whole_given : {K : Type 0} (held : K → Option (List ℕ)) (old new : BinWriter K) {T E : Type 0} (result : Result T E)
    → ((before : Option (List ℕ)) (bytes : List ℕ) → GivesFront held before bytes old → GivesFront held before bytes new)
    → has_failed new ≡ is_err result → OnOk result (length (in_hand new) ≤ 0)
    → OnOk result ((before : Option (List ℕ)) (bytes : List ℕ) → GivesFront held before bytes old → Appends before (held (sink_of new).now) bytes)
whole_given held old new (Ok done) kept sound none = λ before bytes so_far.
    let g = kept before bytes so_far in
    let rest : g.rest ≡ [] = nil_from_length g.rest (omega (arith, none, ap length (g.waiting sound))) in
    subst (λ t. Appends before (held (sink_of new).now) t) (sym (g.cut ∙ ap (λ l. g.front ++ l) rest ∙ append-nil g.front)) g.taken
whole_given held old new (Err fault) kept sound none = tt
