-- The message that is next for a port: where messages were forwarded whole, its parts are those of the message that its last part issues.
use Rattle.std.proofs.Common.{◌≡◌, ℕ, suc, ◌+◌, true, false, not, ◌&&◌, ◌==◌, if◌then◌else◌, List, [], ◌∷◌, ◌++◌, length, Option, Some, None, slice_get, refl, sym, ap, subst, ◌∙◌, inl, inr, arith}
use Rattle.std.specs.Option.{option_to_list}
use Rattle.std.proofs.lemmas.Bool.{and_from, cases_Bool, eq-eqb, eqb-true, false_from_ne_true, or_left}
use Rattle.ace_event.specs.declared.event.Event.{Event}
use Rattle.ace_event.specs.declared.header.Header.{Header}
use Rattle.ace_model.specs.declared.transactions.Transaction.{Transaction}
use Rattle.ace_model.specs.Messages.{first_waiting, forwarded, has_part, has_second, is_message_part, next_part, parts_among, parts_for, parts_in, parts_with}
use Rattle.ace_model.specs.Trace.{Trace}
use Rattle.ace_model.specs.Transactions.{is_ace}
use Rattle.ace_model.proofs.General.Options.{Some-injective}
use Rattle.ace_model.proofs.Trace.Growth.{IsIssued, issued-old}
use Rattle.ace_runs.specs.OrderSteps.{message_of}
use Rattle.ace_runs.proofs.NeverStuck.Forwarding.NextMessage.{NextMessage, next-begins, parts-start, same-message}
use Rattle.ace_runs.proofs.NeverStuck.Forwarding.Waiting.{waiting-is}
use Rattle.ace_runs.proofs.NeverStuck.Forwarding.Whole.{whole-message}
use Rattle.ace_runs.proofs.NeverStuck.Messages.PartsGoOn.{message-there}
use Rattle.ace_sysck.specs.declared.inboxes.Message.{Message}
use Rattle.ace_sysck.specs.Inboxes.{message_with, next_message}
use Rattle.ace_order.specs.Messages.{IsForwardedWhole, next_for, parts_of}

-- ---- what the port gets next -------------------------------------------------------------------------

first-is : (o second : Option Transaction) (m : Message) → message_with o second ≡ Some m → (o ≡ Some m.first) × (m.second ≡ (if has_second m.first.addr then second else None))
first-is None second m e = cc
first-is (Some y) second m e =
    let same : record { first = y; second = if has_second y.addr then second else None } ≡ m = Some-injective _ m e in
    (ap (λ (v : Message). Some v.first) same, subst (λ (v : Message). v.second ≡ (if has_second v.first.addr then second else None)) same refl)

-- The port is an ACE port, and this message is the next for it.
pub record Gets (h : Header) (past : Trace) (q : ℕ) (m : Message) : Type 0 where
  pub ace : is_ace h q ≡ true
  pub next : next_part past q ≡ Some m.first
  pub second : m.second ≡ (if has_second m.first.addr then slice_get (parts_for past q) (length (parts_among (forwarded past q)) + 1) else None)
  pub message : NextMessage past q (parts_among (forwarded past q)) m.first

pub gets : (h : Header) (past : Trace) (q : ℕ) (m : Message) → IsForwardedWhole past q → next_for h past q ≡ Some m → Gets h past q m
gets h past q m w next =
    elim (cases_Bool (is_ace h q)) [
      | inr lite ↦ let bad : None ≡ Some m = sym (ap (λ b. if b then next_message past q else None) lite) ∙ next in cc
      | inl ace ↦
          let there : next_message past q ≡ Some m = sym (ap (λ b. if b then next_message past q else None) ace) ∙ next in
          let is = first-is (next_part past q) (slice_get (parts_for past q) (length (parts_among (forwarded past q)) + 1)) m there in
          record { ace = ace; next = is.0; second = is.1; message = next-begins past q m.first w is.0 }
    ]

-- ---- its parts ---------------------------------------------------------------------------------------

issued-later : (more : List Event) (past : Trace) (x : Transaction) → IsIssued past x → IsIssued (more ++ past) x
issued-later [] past x i = i
issued-later (e ∷ more) past x i = issued-old e (more ++ past) x (issued-later more past x i)

-- the second of two elements after a list
pub second-after : (xs : List Transaction) (a b : Transaction) (ys : List Transaction) → slice_get ((xs ++ a ∷ b ∷ []) ++ ys) (length xs + 1) ≡ Some b
second-after [] a b ys = refl
second-after (x ∷ xs) a b ys = let more : suc (length xs) + 1 ≡ suc (length xs + 1) = omega arith in rw more (second-after xs a b ys)

module _ (h : Header) (past : Trace) (q : ℕ) (m : Message) (g : Gets h past q m) where
  abbrev last : Transaction
  last = g.message.last

  abbrev waiting : Option Transaction
  waiting = first_waiting g.message.point g.message.last.port

  pub last-issued : IsIssued past g.message.last
  last-issued = message-there past q m.first g.message

  pub first-issued : IsIssued past m.first
  first-issued = elim g.message.begins.first [
    | inr alone ↦ subst (IsIssued past) alone.1 last-issued
    | inl waits ↦
        let i = (waiting-is g.message.point last.port m.first waits).issued in
        subst (λ t. IsIssued t m.first) g.message.is (issued-later g.message.later (g.message.event ∷ g.message.point) m.first (issued-old g.message.event g.message.point m.first i))
  ]

  pub one-port : m.first.port ≡ g.message.last.port
  one-port = elim g.message.begins.first [
    | inr alone ↦ ap (λ (v : Transaction). v.port) (sym alone.1)
    | inl waits ↦ (waiting-is g.message.point last.port m.first waits).port
  ]

  -- what was forwarded and the message are the parts for the port once the message is issued
  with-message : parts_for (g.message.event ∷ g.message.point) q ≡ parts_among (forwarded past q) ++ parts_with (first_waiting g.message.point g.message.last.port) g.message.last
  with-message =
      let point = g.message.point in
      let both : (is_message_part last && not (last.port == q)) ≡ true = and_from _ _ g.message.begins.part (ap not g.message.begins.other) in
      let added : parts_in point (Some last) q ≡ parts_with waiting last = ap (λ b. if b then parts_with waiting last else []) both in
      ap (λ o. parts_for point q ++ parts_in point o q) g.message.issues ∙ ap (λ l. l ++ parts_in point (Some last) q) g.message.so_far ∙ ap (λ l. parts_among (forwarded past q) ++ l) added

  -- they come first among the parts for it
  come-first : (rest : List Transaction) × (parts_for past q ≡ (parts_among (forwarded past q) ++ parts_with (first_waiting g.message.point g.message.last.port) g.message.last) ++ rest)
  come-first =
      let start = parts-start g.message.later (g.message.event ∷ g.message.point) q in
      (start.rest, ap (λ t. parts_for t q) (sym g.message.is) ∙ sym start.joined ∙ ap (λ l. l ++ start.rest) with-message)

  parts-with-are : parts_with (first_waiting g.message.point g.message.last.port) g.message.last ≡ parts_of m
  parts-with-are = elim g.message.begins.first [
    | inr alone ↦
        let none : has_second m.first.addr ≡ false = ap (λ (v : Transaction). has_second v.addr) (sym alone.1) ∙ alone.2 in
        let second : m.second ≡ None = g.second ∙ ap (λ b. if b then slice_get (parts_for past q) (length (parts_among (forwarded past q)) + 1) else None) none in
        ap (λ o. parts_with o last) alone.0 ∙ ap (λ b. if b then [] else last ∷ []) alone.2 ∙ ap (λ v. v ∷ []) alone.1 ∙ ap (λ o. m.first ∷ option_to_list o) (sym second)
    | inl waits ↦
        let two = (waiting-is g.message.point last.port m.first waits).second in
        let all : parts_for past q ≡ (parts_among (forwarded past q) ++ m.first ∷ last ∷ []) ++ come-first.0 =
        come-first.1 ∙ ap (λ o. (parts_among (forwarded past q) ++ parts_with o last) ++ come-first.0) waits in
        let second : m.second ≡ Some last =
        g.second ∙ ap (λ b. if b then slice_get (parts_for past q) (length (parts_among (forwarded past q)) + 1) else None) two
        ∙ ap (λ l. slice_get l (length (parts_among (forwarded past q)) + 1)) all ∙ second-after (parts_among (forwarded past q)) m.first last come-first.0 in
        ap (λ o. parts_with o last) waits ∙ ap (λ o. m.first ∷ option_to_list o) (sym second)
  ]

  -- the message that the last part issues has the parts of the message
  pub parts-are : message_of past g.message.last ≡ parts_of m
  parts-are = whole-message past q last m.first g.message refl ∙ parts-with-are

  -- what was forwarded and the parts of the message come first among the parts for the port
  pub parts-next : (rest : List Transaction) × (parts_for past q ≡ (parts_among (forwarded past q) ++ parts_of m) ++ rest)
  parts-next = (come-first.0, come-first.1 ∙ ap (λ l. (parts_among (forwarded past q) ++ l) ++ come-first.0) parts-with-are)

  -- and once the message is issued they are all
  pub parts-then : parts_for (g.message.event ∷ g.message.point) q ≡ parts_among (forwarded past q) ++ parts_of m
  parts-then = with-message ∙ ap (λ l. parts_among (forwarded past q) ++ l) parts-with-are

-- ---- two ports -----------------------------------------------------------------------------------------

first-same : (x y : Transaction) (xs ys : List Transaction) → x ∷ xs ≡ y ∷ ys → x ≡ y
first-same x y xs ys e = cc

rest-same : (x y : Transaction) (xs ys : List Transaction) → x ∷ xs ≡ y ∷ ys → xs ≡ ys
rest-same x y xs ys e = cc

same-second : (a b : Option Transaction) → option_to_list a ≡ option_to_list b → a ≡ b
same-second None None e = refl
same-second None (Some y) e = cc
same-second (Some x) None e = cc
same-second (Some x) (Some y) e = ap Some (first-same x y [] [] e)

has-first : (xs : List Transaction) (y x : Transaction) → (x.place == y.place) ≡ true → has_part (x ∷ xs) y ≡ true
has-first xs y x t = or_left (x.place == y.place) _ t

module _ (h : Header) (past : Trace) (q : ℕ) (m : Message) (g : Gets h past q m) (r : ℕ) (n : Message) (f : Gets h past r n) where
  -- where the message of the one has the first part of the other's, it is that one
  pub last-same : has_part (message_of past g.message.last) n.first ≡ true → g.message.last ≡ f.message.last
  last-same has =
      same-message f.message.later f.message.event f.message.point r f.message.last n.first f.message.issues f.message.begins g.message.last
      (subst (λ t. IsIssued t g.message.last) (sym f.message.is) (last-issued h past q m g)) g.message.begins.part
      (subst (λ t. has_part (message_of t g.message.last) n.first ≡ true) (sym f.message.is) has)

  pub same-parts : has_part (message_of past g.message.last) n.first ≡ true → parts_of m ≡ parts_of n
  same-parts has = sym (parts-are h past q m g) ∙ ap (message_of past) (last-same has) ∙ parts-are h past r n f

  pub message-same : has_part (message_of past g.message.last) n.first ≡ true → m ≡ n
  message-same has =
      let first = first-same m.first n.first (option_to_list m.second) (option_to_list n.second) (same-parts has) in
      let second = same-second m.second n.second (rest-same m.first n.first (option_to_list m.second) (option_to_list n.second) (same-parts has)) in
      ap (λ (v : Transaction). record { first = v; second = m.second }) first ∙ ap (λ (v : Option Transaction). record { first = n.first; second = v }) second

  pub has-as : has_part (message_of past g.message.last) n.first ≡ (n.first.place == m.first.place)
  has-as =
      elim (cases_Bool (n.first.place == m.first.place)) [
        | inl same ↦
            ap (λ l. has_part l n.first) (parts-are h past q m g)
            ∙ has-first (option_to_list m.second) n.first m.first (eq-eqb m.first.place n.first.place (sym (eqb-true n.first.place m.first.place same))) ∙ sym same
        | inr apart ↦
            false_from_ne_true (has_part (message_of past g.message.last) n.first) (λ has.
            let t = eq-eqb n.first.place m.first.place (ap (λ (v : Message). v.first.place) (sym (message-same has))) in
            let bad : true ≡ false = sym t ∙ apart in cc)
            ∙ sym apart
      ]
