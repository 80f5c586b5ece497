-- What the engine gives each port of a message is what the port is to get of it.
use Rattle.std.proofs.Common.{◌≡◌, ℕ, Bool, true, false, not, ◌&&◌, ◌==◌, if◌then◌else◌, [], map, Option, Some, None, refl, sym, ap, subst, ◌∙◌}
use Rattle.std.proofs.lemmas.Bool.{and_from, eq-eqb, ne_eqb}
use Rattle.ace_event.specs.declared.header.Header.{Header}
use Rattle.ace_model.specs.declared.transactions.Transaction.{Transaction}
use Rattle.ace_model.specs.Messages.{has_part, is_other_ace, next_part}
use Rattle.ace_model.specs.Trace.{Trace, is_some_and}
use Rattle.ace_model.specs.Transactions.{is_ace}
use Rattle.ace_runs.specs.OrderSteps.{forwarded_to, message_of, parts_missing}
use Rattle.ace_runs.proofs.NeverStuck.Barriers.Together.{none-second}
use Rattle.ace_runs.proofs.NeverStuck.Forwarding.Whole.{all-missing, whole-message}
use Rattle.ace_sysck.specs.declared.inboxes.Message.{Message}
use Rattle.ace_sysck.specs.Inboxes.{next_message}
use Rattle.ace_order.specs.Messages.{IsForwardedWhole, forwarding, forwards_to, given_to, is_next_for, next_for, parts_of}
use Rattle.ace_order.proofs.NextMessages.{Gets, gets, has-as, last-same, message-same, parts-are}

-- where no message is next, no part is
none-next : (past : Trace) (r : ℕ) → next_message past r ≡ None → next_part past r ≡ None
none-next past r none = by (next_part past r) refl none
  where
    by : (o : Option Transaction) → next_part past r ≡ o → next_message past r ≡ None → next_part past r ≡ None
    by None is none = is
    by (Some y) is none = let some = is in cc

module _ (h : Header) (past : Trace) (whole : (r : ℕ) → IsForwardedWhole past r) (q : ℕ) (m : Message) (g : Gets h past q m) where
  abbrev last : Transaction
  last = g.message.last

  -- the port gets the message too
  pub gets-too : (r : ℕ) → is_next_for h past m r ≡ true → Gets h past r m
  gets-too r is = by (next_for h past r) refl is
    where
      by : (o : Option Message) → next_for h past r ≡ o → is_some_and o (λ n. n.first.place == m.first.place) ≡ true → Gets h past r m
      by None next t = cc
      by (Some n) next t =
          let f = gets h past r n (whole r) next in
          subst (Gets h past r) (sym (message-same h past q m g r n f (has-as h past q m g r n f ∙ t))) f

  other-port : (r : ℕ) (n : Message) (f : Gets h past r n) → g.message.last ≡ f.message.last → (r == g.message.last.port) ≡ false
  other-port r n f same = ne_eqb r last.port (λ own.
      let here = eq-eqb f.message.last.port r (ap (λ (v : Transaction). v.port) (sym same) ∙ sym own) in
      let bad : true ≡ false = sym here ∙ f.message.begins.other in cc)

  -- the parts that the port lacks are those of the message
  all-lacking : (r : ℕ) (n : Message) (f : Gets h past r n) → g.message.last ≡ f.message.last → parts_missing past g.message.last r ≡ parts_of m
  all-lacking r n f same =
      all-missing past r last n.first f.message same ∙ sym (whole-message past r last n.first f.message same) ∙ parts-are h past q m g

  -- what the port gets is what it is to get of the message that the last part issues
  pub given-as : (r : ℕ) → forwarded_to h past g.message.last r ≡ given_to h past m r
  given-as r = by (is_ace h r) refl (next_message past r) refl
    where
      by : (ace : Bool) → is_ace h r ≡ ace → (o : Option Message) → next_message past r ≡ o → forwarded_to h past g.message.last r ≡ given_to h past m r
      by false lite o next =
          ap (λ b. if (b && not (r == last.port)) && is_some_and (next_part past r) (has_part (message_of past last)) then map (forwarding r) (parts_missing past last r) else []) lite
          ∙ sym (ap (λ b. if is_some_and (if b then next_message past r else None) (λ n. n.first.place == m.first.place) then forwards_to r m else []) lite)
      by true ace None next =
          ap (λ v. if is_other_ace h last.port r && is_some_and v (has_part (message_of past last)) then map (forwarding r) (parts_missing past last r) else []) (none-next past r next)
          ∙ ap (λ b. if b then map (forwarding r) (parts_missing past last r) else []) (none-second (is_other_ace h last.port r))
          ∙ sym (ap (λ b. if is_some_and (if b then next_message past r else None) (λ n. n.first.place == m.first.place) then forwards_to r m else []) ace
          ∙ ap (λ v. if is_some_and v (λ n. n.first.place == m.first.place) then forwards_to r m else []) next)
      by true ace (Some n) next =
          let next_is : next_for h past r ≡ Some n = ap (λ b. if b then next_message past r else None) ace ∙ next in
          let f = gets h past r n (whole r) next_is in
          let has : is_some_and (next_part past r) (has_part (message_of past g.message.last)) ≡ (n.first.place == m.first.place) =
          ap (λ v. is_some_and v (has_part (message_of past last))) f.next ∙ has-as h past q m g r n f in
          let right : given_to h past m r ≡ (if n.first.place == m.first.place then forwards_to r m else []) =
          ap (λ v. if is_some_and v (λ k. k.first.place == m.first.place) then forwards_to r m else []) next_is in
          let left : forwarded_to h past g.message.last r
          ≡ (if is_other_ace h g.message.last.port r && (n.first.place == m.first.place) then map (forwarding r) (parts_missing past g.message.last r) else []) =
          ap (λ b. if is_other_ace h last.port r && b then map (forwarding r) (parts_missing past last r) else []) has in
          left ∙ same-place (n.first.place == m.first.place) refl ∙ sym right
        where
          same-place : (b : Bool) → (n.first.place == m.first.place) ≡ b
              → (if is_other_ace h g.message.last.port r && (n.first.place == m.first.place) then map (forwarding r) (parts_missing past g.message.last r) else [])
              ≡ (if n.first.place == m.first.place then forwards_to r m else [])
          same-place false apart =
              ap (λ b. if is_other_ace h last.port r && b then map (forwarding r) (parts_missing past last r) else []) apart
              ∙ ap (λ b. if b then map (forwarding r) (parts_missing past last r) else []) (none-second (is_other_ace h last.port r))
              ∙ sym (ap (λ b. if b then forwards_to r m else []) apart)
          same-place true same =
              let f = gets h past r n (whole r) (ap (λ b. if b then next_message past r else None) ace ∙ next) in
              let one = last-same h past q m g r n f (has-as h past q m g r n f ∙ same) in
              let other : is_other_ace h g.message.last.port r ≡ true = and_from _ _ ace (ap not (other-port r n f one)) in
              ap (λ b. if b && (n.first.place == m.first.place) then map (forwarding r) (parts_missing past last r) else []) other
              ∙ ap (λ b. if b then map (forwarding r) (parts_missing past last r) else []) same
              ∙ ap (map (forwarding r)) (all-lacking r n f one)
              ∙ sym (ap (λ b. if b then forwards_to r m else []) same)
