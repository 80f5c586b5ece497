-- The complete WriteBacks, WriteEvicts and Evicts of a port that wait for their WK: one for each line at most.
use Rattle.std.proofs.Common.{◌≡◌, ℕ, ◌≤◌, ◌<◌, true, false, not, nat_eq, ◌∷◌, length, drop, get_or, Some, slice_get, sym, ap, subst, ◌∙◌, arith}
use Rattle.std.proofs.lemmas.Bool.{and_parts, not-true}
use Rattle.std.proofs.lemmas.Option.{slice_get-get_or, slice_get_within}
use Rattle.ace_model.specs.WriteRules.{may_respond}
use Rattle.ace_model.specs.Transactions.{is_complete}
use Rattle.ace_filter.proofs.Terms.{B, Write, Header, Transaction, Trace, IsAccepted, is_ace, is_on, known_lines, transaction_of, outstanding, completed, acknowledgements, completed_lines, dropped_line, is_drop_of, turns_from}
use Rattle.ace_model.proofs.KeptPorts.{dropping}
use Rattle.ace_filter.proofs.Issuers.{dropped-is, dropper-ace}
use Rattle.ace_filter.proofs.Rooms.{AreApart, few-wait}
use Rattle.ace_filter.proofs.Waiting.{lines-count, waits}
use Rattle.ace_model.proofs.General.Options.{Some-injective, is_some_and-is}
use Rattle.ace_model.proofs.Lines.Known.{known-outstanding}
use Rattle.ace_model.proofs.Rules.Keeps.{accepted_keeps}
use Rattle.ace_model.proofs.Trace.Growth.{named-issued}
use Rattle.ace_model.proofs.Trace.Issued.{outstanding-name, outstanding-named, transaction_of-name}
use Rattle.ace_model.proofs.Trace.LineOnce.{one_on_line}
use Rattle.ace_model.proofs.Trace.Looks.{at_name}
use Rattle.ace_model.proofs.Trace.WriteQueue.{write_queue}

-- A write that waits, and gives up the line.
record Waits (h : Header) (past : Trace) (p n l : ℕ) : Type 0 where
  late : acknowledgements past p Write ≤ n
  id : ℕ
  one : Transaction
  there : slice_get (completed past p Write) n ≡ Some id
  out : outstanding h past p Write id ≡ Some one
  complete : is_complete past p Write id ≡ true
  on : is_on one l ≡ true

module _ (h : Header) (past : Trace) (p : ℕ) (a : IsAccepted h past) (ace : is_ace h p ≡ true) where
  waiting : (n l : ℕ) → acknowledgements past p Write ≤ n → slice_get (completed_lines past p) n ≡ Some (Some l) → Waits h past p n l
  waiting n l late is =
      let count = lines-count past p in
      let low = slice_get_within (completed_lines past p) n (Some l) is in
      let there = slice_get-get_or (completed past p Write) n 0 (omega (arith, low, count)) in
      let w = (write_queue h past a p ace).stands n (get_or (completed past p Write) n 0) late there in
      let line : dropped_line (transaction_of past p Write (get_or (completed past p Write) n 0)) ≡ Some l =
      Some-injective _ (Some l) (sym (waits h past a p n (get_or (completed past p Write) n 0) ace late there) ∙ is) in
      let d = dropped-is (transaction_of past p Write (get_or (completed past p Write) n 0)) l line in
      let same : w.0 ≡ d.0 = Some-injective w.0 d.0 (sym (outstanding-named h past p Write (get_or (completed past p Write) n 0) w.0 w.1) ∙ d.1) in
      record {
        late = late;
        id = get_or (completed past p Write) n 0;
        one = w.0;
        there = there;
        out = w.1;
        complete = w.2;
        on = subst (λ (v : Transaction). is_on v l ≡ true) (sym same) (dropping d.0 l d.2).on;
      }

  -- two of one line are one
  one_id : (l i j : ℕ) (x y : Transaction) → outstanding h past p Write i ≡ Some x → outstanding h past p Write j ≡ Some y → is_on x l ≡ true
      → is_on y l ≡ true → i ≡ j
  one_id l i j x y ox oy nx ny =
      let one = one_on_line h past a p Write Write i j l x y ox oy nx ny in
      sym (outstanding-name h past p Write i x ox).id ∙ ap (λ (v : Transaction). v.id) one ∙ (outstanding-name h past p Write j y oy).id

  once : (m n l : ℕ) → Waits h past p m l → Waits h past p n l → m ≡ n
  once m n l x y =
      let same : x.id ≡ y.id = one_id l x.id y.id x.one y.one x.out y.out x.on y.on in
      (write_queue h past a p ace).distinct m n y.id x.late y.late (x.there ∙ ap Some same) y.there

module _ (h : Header) (past : Trace) (p i resp l : ℕ) (a : IsAccepted h (B p i resp ∷ past))
    (line : dropped_line (transaction_of past p Write i) ≡ Some l) where
  apart : AreApart past (completed_lines past p) (acknowledgements past p Write) l
  apart = record {
    once = λ m n k late_m late_n x y. once h past p a.0 ace m n k (waiting h past p a.0 ace m k late_m x) (waiting h past p a.0 ace n k late_n y);
    known = λ n k late x. let w = waiting h past p a.0 ace n k late x in known-outstanding h past p Write w.id k w.one w.out w.on;
    fresh = λ n late x.
        let w = waiting h past p a.0 ace n l late x in
        let same : w.id ≡ i = one_id h past p a.0 ace l w.id i w.one d.0 w.out out w.on on in
        let done : is_complete past p Write i ≡ true = subst (λ v. is_complete past p Write v ≡ true) same w.complete in
        let none = unanswered in cc;
    line_known = known-outstanding h past p Write i l d.0 out on;
  }
    where
      d : (x : Transaction) × (transaction_of past p Write i ≡ Some x) × (is_drop_of x l ≡ true)
      d = dropped-is (transaction_of past p Write i) l line

      on : is_on d.0 l ≡ true
      on = (dropping d.0 l d.2).on

      ace : is_ace h p ≡ true
      ace = subst (λ v. is_ace h v ≡ true) (transaction_of-name past p Write i d.0 d.1).port
          (dropper-ace h past d.0 l a.0 (named-issued past p Write i d.0 d.1) d.2)

      y : (x : Transaction) × (outstanding h past p Write i ≡ Some x) × (may_respond past x ≡ true)
      y = is_some_and-is (outstanding h past p Write i) (may_respond past) (and_parts (nat_eq resp 0) _ (accepted_keeps h past (B p i resp) a).rule_26).1

      out : outstanding h past p Write i ≡ Some d.0
      out = y.1 ∙ ap Some (Some-injective y.0 d.0 (sym (outstanding-named h past p Write i y.0 y.1) ∙ d.1))

      unanswered : is_complete past p Write i ≡ false
      unanswered =
          let name = outstanding-name h past p Write i y.0 y.1 in
          sym (at_name (is_complete past) y.0 p Write i name) ∙ not-true _ (and_parts (not (is_complete past y.0.port y.0.chan y.0.id)) _ y.2).0

  -- so there is room for the write
  pub few-writes : length (turns_from (acknowledgements past p Write) (drop (acknowledgements past p Write) (completed_lines past p)))
      < length (known_lines past)
  few-writes = few-wait past (completed_lines past p) (acknowledgements past p Write) l apart
