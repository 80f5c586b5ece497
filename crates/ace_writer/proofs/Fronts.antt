-- What a writer has given stays a front of its text.
use Rattle.std.proofs.Common.{rules, ◌≡◌, ℕ, ◌+◌, ◌-◌, ◌^◌, ◌≤◌, min, true, false, List, [], ◌++◌, length, take, drop, Option, sym, ap, ◌∙◌, subst, arith, append_assoc, append-nil, length-append, take-append-drop, Result, Ok, Err, OnOk, is_err}
use Rattle.std.proofs.lemmas.Grind.{common_steps}
use Rattle.std.proofs.lemmas.List.{drop_all, nil_from_length}
use Rattle.std.specs.Io.KnownBytes.{Appends}
use Rattle.std.proofs.KnownBytes.{Appends-trans}
use Rattle.ace_writer.specs.declared.writer.Writer.{Writer}
use Rattle.ace_writer.specs.Given.{sink_of, in_hand, has_failed, given_of, counted, GivesFront}

-- two lengths are counted one after the other
counted_both : (front piece : List ℕ) (given n : ℕ) → given ≡ counted (length front) → length piece ≡ n → min (given + n) (2 ^ 64 - 1) ≡ counted (length (front ++ piece))
counted_both front piece given n is len = rw length-append (omega (arith, is, len))

-- a front of what was in hand was given, and the rest of it only where nothing failed
pub given_more : {K : Type 0} (held : K → Option (List ℕ)) (before : Option (List ℕ)) (text : List ℕ) (old new : Writer K) (n : ℕ)
    → GivesFront held before text old → has_failed old ≡ false → n ≤ length (in_hand old)
    → Appends (held (sink_of old).now) (held (sink_of new).now) (take n (in_hand old))
    → given_of new ≡ min (given_of old + n) (2 ^ 64 - 1)
    → (has_failed new ≡ false → length (in_hand old) ≤ n) → in_hand new ≡ [] → GivesFront held before text new
given_more held before text old new n so_far sound fits given count whole none =
    let hand : in_hand old ≡ so_far.rest = so_far.waiting sound in
    let len : length (take n (in_hand old)) ≡ n = grind (arith, common_steps) in
    record {
      front = so_far.front ++ take n (in_hand old);
      rest = drop n (in_hand old);
      cut = so_far.cut ∙ ap (λ l. so_far.front ++ l) (sym hand ∙ sym (take-append-drop n (in_hand old))) ∙ sym (append_assoc so_far.front (take n (in_hand old)) (drop n (in_hand old)));
      bytes = Appends-trans _ _ _ _ _ so_far.bytes given;
      given = count ∙ counted_both so_far.front (take n (in_hand old)) (given_of old) n so_far.given len;
      waiting = λ ok. none ∙ sym (drop_all n (in_hand old) (whole ok));
    }

-- a line was added to what is in hand
pub line_added : {K : Type 0} (held : K → Option (List ℕ)) (before : Option (List ℕ)) (text line : List ℕ) (old new : Writer K)
    → GivesFront held before text old → has_failed old ≡ false → (sink_of new).now ≡ (sink_of old).now → given_of new ≡ given_of old
    → in_hand new ≡ in_hand old ++ line → GivesFront held before (text ++ line) new
line_added held before text line old new so_far sound sink count added = record {
  front = so_far.front;
  rest = so_far.rest ++ line;
  cut = ap (λ l. l ++ line) so_far.cut ∙ append_assoc so_far.front so_far.rest line;
  bytes = subst (λ s. Appends before (held s) so_far.front) (sym sink) so_far.bytes;
  given = count ∙ so_far.given;
  waiting = λ ok. added ∙ ap (λ l. l ++ line) (so_far.waiting sound);
}

-- after a fault what was given is a front of any longer text
pub line_lost : {K : Type 0} (held : K → Option (List ℕ)) (before : Option (List ℕ)) (text line : List ℕ) (writer : Writer K)
    → GivesFront held before text writer → has_failed writer ≡ true → GivesFront held before (text ++ line) writer
line_lost held before text line writer so_far failed = record {
  front = so_far.front;
  rest = so_far.rest ++ line;
  cut = ap (λ l. l ++ line) so_far.cut ∙ append_assoc so_far.front so_far.rest line;
  bytes = so_far.bytes;
  given = so_far.given;
  waiting = λ ok. absurd (search (rules, failed, ok));
}

-- once nothing is in hand the whole text was given
pub whole_given : {K : Type 0} (held : K → Option (List ℕ)) (old new : Writer K) {T E : Type 0} (result : Result T E)
    → ((before : Option (List ℕ)) (text : List ℕ) → GivesFront held before text old → GivesFront held before text new)
    → has_failed new ≡ is_err result → OnOk result (length (in_hand new) ≤ 0)
    → OnOk result ((before : Option (List ℕ)) (text : List ℕ) → GivesFront held before text old → Appends before (held (sink_of new).now) text)
whole_given held old new (Ok done) kept sound none = λ before text so_far.
    let g = kept before text so_far in
    let rest : g.rest ≡ [] = nil_from_length g.rest (omega (arith, none, ap length (g.waiting sound))) in
    subst (λ t. Appends before (held (sink_of new).now) t) (sym (g.cut ∙ ap (λ l. g.front ++ l) rest ∙ append-nil g.front)) g.bytes
whole_given held old new (Err fault) kept sound none = tt
