-- What comes next for a port stays until a part of a message is issued or one is forwarded to the port. So does the port that sends it.
use Rattle.std.proofs.Common.{◌≡◌, ◌≢◌, ◌⊎◌, ℕ, Bool, true, false, not, ◌&&◌, ◌==◌, if◌then◌else◌, List, [], ◌∷◌, ◌++◌, length, Option, Some, None, refl, sym, ap, ◌∙◌, inl, inr}
use Rattle.std.proofs.lemmas.Bool.{cases_Bool, eq-eqb, eqb-true}
use Rattle.std.specs.Option.{option_to_list}
use Rattle.std.proofs.lemmas.List.{append-nil}
use Rattle.std.proofs.lemmas.List.Concat.{flat_map-append}
use Rattle.ace_event.specs.declared.event.Event.{Event}
use Rattle.ace_event.specs.declared.header.Header.{Header}
use Rattle.ace_model.specs.declared.transactions.Transaction.{Transaction}
use Rattle.ace_model.specs.Messages.{add_forwarded, first_waiting, forwarded, forwards, is_message_part, next_after, parts_among, parts_for, parts_in, parts_with}
use Rattle.ace_model.specs.declared.snoops.Snoop.{Snoop}
use Rattle.ace_model.specs.Snoops.{snoop_at}
use Rattle.ace_model.specs.Trace.{Trace, is_some_and}
use Rattle.ace_model.specs.Transactions.{is_ace, issued}
use Rattle.ace_sysck.specs.declared.inboxes.Message.{Message}
use Rattle.ace_sysck.specs.Inboxes.{next_message}
use Rattle.ace_order.specs.Messages.{next_for}
use Rattle.ace_order.specs.Senders.{IsSender, forwards_part, sender_of}
use Rattle.ace_order.specs.declared.senders.NextSenders.{NextSenders}
use Rattle.ace_order.proofs.Forwarded.{message-by}

-- ---- what comes next ---------------------------------------------------------------------------------

no-part : (past : Trace) (o : Option Transaction) (q : ℕ) → is_some_and o is_message_part ≡ false → parts_in past o q ≡ []
no-part past None q none = refl
no-part past (Some x) q none = ap (λ b. if b && not (x.port == q) then parts_with (first_waiting past x.port) x else []) none

nothing-forwarded : (o : Option Transaction) (s : Snoop) → forwards_part s ≡ false → forwards o s ≡ None
nothing-forwarded None s none = refl
nothing-forwarded (Some x) s none = ap (λ b. if b && (x.addr == s.addr) then Some x else None) none

same-parts : (past : Trace) (q : ℕ) (done : List (Option Transaction)) (o : Option Snoop) → is_some_and o forwards_part ≡ false → parts_among (add_forwarded past q done o) ≡ parts_among done
same-parts past q done None none = refl
same-parts past q done (Some s) none =
    ap (λ d. parts_among (done ++ d ∷ [])) (nothing-forwarded (next_after past q done) s none) ∙ flat_map-append option_to_list done (None ∷ []) ∙ append-nil (parts_among done)

pub next-stays : (h : Header) (past : Trace) (e : Event) (q : ℕ) → is_some_and (issued (length past) e) is_message_part ≡ false
    → is_some_and (snoop_at (length past) e q) forwards_part ≡ false → next_for h (e ∷ past) q ≡ next_for h past q
next-stays h past e q none other =
    let parts : parts_for (e ∷ past) q ≡ parts_for past q = ap (λ l. parts_for past q ++ l) (no-part past (issued (length past) e) q none) ∙ append-nil (parts_for past q) in
    let done : parts_among (forwarded (e ∷ past) q) ≡ parts_among (forwarded past q) = same-parts past q (forwarded past q) (snoop_at (length past) e q) other in
    ap (λ o. if is_ace h q then o else None) (message-by (e ∷ past) past q parts done)

pub sender-stays : (h : Header) (past : Trace) (e : Event) (s n : NextSenders) (q : ℕ) → is_some_and (issued (length past) e) is_message_part ≡ false
    → is_some_and (snoop_at (length past) e q) forwards_part ≡ false → sender_of n q ≡ sender_of s q → IsSender h past s q → IsSender h (e ∷ past) n q
sender-stays h past e s n q none other kept is = λ m low next. kept ∙ is m low (sym (next-stays h past e q none other) ∙ next)

pub none-at-first : (h : Header) (q : ℕ) (m : Message) → next_for h [] q ≡ Some m → {A : Type 0} → A
none-at-first h q m next = by (is_ace h q) next
  where
    by : (b : Bool) → (if b then next_message [] q else None) ≡ Some m → {A : Type 0} → A
    by true e = cc
    by false e = cc

pub the-same : (q p : ℕ) → (q ≡ p) ⊎ (q ≢ p)
the-same q p = elim (cases_Bool (q == p)) [
  | inl same ↦ inl (eqb-true q p same)
  | inr apart ↦ inr (λ same. let bad : true ≡ false = sym (eq-eqb q p same) ∙ apart in cc)
]
