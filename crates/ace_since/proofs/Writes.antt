-- The events of a line: what they write and grant, and what those of other lines don't.
use Rattle.std.proofs.Common.{◌≡◌, ℕ, true, ◌∷◌, if◌then◌else◌, length, Option, Some, None, option_map, nat_eq, refl, sym, ap, subst}
use Rattle.std.proofs.lemmas.Bool.{eq-eqb, eqb-true, false_from_ne_true}
use Rattle.ace_belongs.specs.Belongs.{event_line, line_of_transaction}
use Rattle.ace_event.specs.declared.event.Channel.{Channel}
use Rattle.ace_event.specs.declared.event.Channel.TheVariants.{Read, Write}
use Rattle.ace_event.specs.declared.event.Event.{Event}
use Rattle.ace_event.specs.declared.event.Event.TheVariants.{Ar, R, Rk, Aw, W, B, Wk, Ac, G, M, Mem}
use Rattle.ace_event.specs.declared.header.Header.{Header}
use Rattle.ace_event.specs.declared.line.Line.{Line}
use Rattle.ace_lineck.proofs.OffLine.{written-of}
use Rattle.ace_lineck.proofs.OnLine.{IsOff, line-transaction, on-transaction, outstanding-of}
use Rattle.ace_model.proofs.General.Options.{Some-injective}
use Rattle.ace_model.proofs.Rules.Keeps.{accepted_keeps}
use Rattle.ace_model.specs.Accepted.{IsAccepted}
use Rattle.ace_model.specs.Copies.{written}
use Rattle.ace_model.specs.Grants.{gives_line}
use Rattle.ace_model.specs.SnoopRules.{may_be_granted}
use Rattle.ace_model.specs.Trace.{Trace, newer}
use Rattle.ace_model.specs.Transactions.{acknowledged, is_ace, is_some_on, issued, outstanding, transaction_of}
use Rattle.ace_model.specs.Writes.{next_write}
use Rattle.ace_model.specs.declared.transactions.Transaction.{Transaction}
use Rattle.ace_portck.specs.Targets.{begun, line_in, line_of, progress_of}

module _ (h : Header) (past : Trace) where
  issued-line : (o : Option Transaction) → line_of_transaction (newer o None) ≡ line_of (option_map begun o)
  issued-line None = refl
  issued-line (Some x) = refl

  served-line : (o : Option Transaction) → line_of_transaction o ≡ line_of (option_map (progress_of h past) o)
  served-line None = refl
  served-line (Some x) = refl

  -- the line of an event is the one that is looked at in what is kept of lines
  pub same-line : (e : Event) → event_line h past e ≡ line_in h past e
  same-line (Ar p i addr snoop dom bar lock) = issued-line (issued (length past) (Ar p i addr snoop dom bar lock))
  same-line (Aw p i addr snoop dom bar) = issued-line (issued (length past) (Aw p i addr snoop dom bar))
  same-line (R p i resp last word) = served-line (outstanding h past p Read i)
  same-line (B p i resp) = served-line (outstanding h past p Write i)
  same-line (G p c i) = served-line (outstanding h past p c i)
  same-line (M p c i line) = served-line (outstanding h past p c i)
  same-line (Rk p st) = served-line (if is_ace h p then acknowledged past p Read else None)
  same-line (Wk p st) = served-line (if is_ace h p then acknowledged past p Write else None)
  same-line (W p strb last word) = served-line (next_write past p)
  same-line (Ac p addr snoop) = rw (eq-eqb p p refl) refl
  same-line _ = refl

  -- an event of another line writes no memory of this one
  pub writes-off : (e : Event) → IsAccepted h (e ∷ past) → (l : ℕ) → IsOff h past e l → written past e l ≡ None
  writes-off (M q c i line) a l n =
      let f = false_from_ne_true (is_some_on (transaction_of past q c i) l)
      (λ t. n (line-transaction h past (outstanding h past q c i) l (subst (λ o. is_some_on o l ≡ true) (written-of h past q c i line a) t))) in rw f refl
  writes-off (Mem addr line) a l n = let f = false_from_ne_true (nat_eq l addr) (λ t. n (ap Some (sym (eqb-true l addr t)))) in rw f refl
  writes-off _ a l n = refl

  -- an M and a MEM write memory of their line, and a G grants it
  pub writes-on : (q : ℕ) (c : Channel) (i : ℕ) (line : Line) → IsAccepted h (M q c i line ∷ past) → (l : ℕ) → line_in h past (M q c i line) ≡ Some l
      → written past (M q c i line) l ≡ Some line
  writes-on q c i line a l on =
      let f = on-transaction h past (outstanding h past q c i) l on in rw (written-of h past q c i line a, f) refl

  pub opens-on : (addr : ℕ) (line : Line) (l : ℕ) → line_in h past (Mem addr line) ≡ Some l → written past (Mem addr line) l ≡ Some line
  opens-on addr line l on = let f = eq-eqb l addr (sym (Some-injective addr l on)) in rw f refl

  pub grants-on : (q : ℕ) (c : Channel) (i : ℕ) → IsAccepted h (G q c i ∷ past) → (l : ℕ) → line_in h past (G q c i) ≡ Some l
      → gives_line past (G q c i) l ≡ true
  grants-on q c i a l on =
      let is = outstanding-of h past q c i (may_be_granted h past) (accepted_keeps h past (G q c i) a).rule_12 in
      rw is (on-transaction h past (outstanding h past q c i) l on)
