-- The transaction of an event's own target.
use Rattle.std.proofs.Common.{◌≡◌, true, false, ◌&&◌, nat_eq, ◌∷◌, length, Option, Some, None, refl, sym, ap, ◌∙◌}
use Rattle.ace_sysck.proofs.Terms.{option_map, Read, Write, Transaction, Event, Ar, Aw, R, B, Header, Trace, is_transaction, issued, outstanding, served_by, is_completion_event, is_due, may_respond, IsAccepted, port_of, Target, target_of, progress_of, begun, own_of, carried, begun_in, responded_in, completed_in}
use Rattle.std.proofs.lemmas.Bool.{and_parts}
use Rattle.ace_model.proofs.Rules.Keeps.{accepted_keeps}
use Rattle.ace_model.proofs.General.Options.{is_some_and-is}
use Rattle.ace_model.proofs.Trace.Issued.{outstanding-named, outstanding-name}
use Rattle.ace_model.proofs.Trace.Growth.{IsIssued, named-issued}

carried-begun : (o : Option Transaction) → option_map own_of (option_map begun o) ≡ o
carried-begun None = refl
carried-begun (Some x) = refl

carried-progress : (h : Header) (past : Trace) (o : Option Transaction) → option_map own_of (option_map (progress_of h past) o) ≡ o
carried-progress h past None = refl
carried-progress h past (Some x) = refl

pub begun-is : (h : Header) (past : Trace) (e : Event) (t : Target) → t ≡ target_of h past e → begun_in e t ≡ issued (length past) e
begun-is h past (Ar p i addr snoop dom bar lock) t own = ap carried own ∙ carried-begun (issued (length past) (Ar p i addr snoop dom bar lock))
begun-is h past (Aw p i addr snoop dom bar) t own = ap carried own ∙ carried-begun (issued (length past) (Aw p i addr snoop dom bar))
begun-is h past e t own = refl

-- what an R or B answers is outstanding
abbrev pub responding : Header → Trace → Event → Option Transaction
responding h past (R p i resp last word) = outstanding h past p Read i
responding h past (B p i resp) = outstanding h past p Write i
responding h past _ = None

pub responded_is : (h : Header) (past : Trace) (e : Event) (t : Target) → t ≡ target_of h past e → responded_in e t ≡ responding h past e
responded_is h past (R p i resp last word) t own = ap carried own ∙ carried-progress h past (outstanding h past p Read i)
responded_is h past (B p i resp) t own = ap carried own ∙ carried-progress h past (outstanding h past p Write i)
responded_is h past e t own = refl

-- what is answered was issued, by the port of the event
pub record Responds (h : Header) (past : Trace) (e : Event) (x : Transaction) : Type 0 where
  pub there : IsIssued past x
  pub port : port_of e ≡ Some x.port
  pub served : served_by past e ≡ Some x

pub responds-at : (h : Header) (past : Trace) (e : Event) (x : Transaction) → responding h past e ≡ Some x → Responds h past e x
responds-at h past (R p i resp last word) x out =
    let named = outstanding-named h past p Read i x out in
    record { there = named-issued past p Read i x named; port = ap Some (sym (outstanding-name h past p Read i x out).port); served = named }
responds-at h past (B p i resp) x out =
    let named = outstanding-named h past p Write i x out in
    record { there = named-issued past p Write i x named; port = ap Some (sym (outstanding-name h past p Write i x out).port); served = named }
responds-at h past e x out = cc

-- What an event completes: it is what the event answers.
pub record Completes (h : Header) (past : Trace) (e : Event) (x : Transaction) : Type 0 where
  pub answers : responding h past e ≡ Some x
  pub completes : is_completion_event e ≡ true

pub completes-at : (h : Header) (past : Trace) (e : Event) (t : Target) (x : Transaction) → t ≡ target_of h past e → completed_in e t ≡ Some x → Completes h past e x
completes-at h past (R p i resp true word) t x own is =
    record { answers = sym (carried-progress h past (outstanding h past p Read i)) ∙ ap carried (sym own) ∙ is; completes = refl }
completes-at h past (R p i resp false word) t x own is = cc
completes-at h past (B p i resp) t x own is =
    record { answers = sym (carried-progress h past (outstanding h past p Write i)) ∙ ap carried (sym own) ∙ is; completes = refl }
completes-at h past e t x own is = cc

-- where an accepted event completes nothing by its target, no transaction has had its last R or its B by it
pub completes-none : (h : Header) (past : Trace) (e : Event) (t : Target) (y : Transaction) → IsAccepted h (e ∷ past) → t ≡ target_of h past e → completed_in e t ≡ None
    → (is_completion_event e && is_transaction (served_by past e) y) ≡ false
completes-none h past (R p i resp true word) t y accepted own none =
    let o = is_some_and-is (outstanding h past p Read i) (is_due h past resp true) (accepted_keeps h past (R p i resp true word) accepted).rule_18 in
    let bad : Some o.0 ≡ None = sym o.1 ∙ sym (carried-progress h past (outstanding h past p Read i)) ∙ ap carried (sym own) ∙ none in cc
completes-none h past (R p i resp false word) t y accepted own none = refl
completes-none h past (B p i resp) t y accepted own none =
    let o = is_some_and-is (outstanding h past p Write i) (may_respond past) (and_parts (nat_eq resp 0) _ (accepted_keeps h past (B p i resp) accepted).rule_26).1 in
    let bad : Some o.0 ≡ None = sym o.1 ∙ sym (carried-progress h past (outstanding h past p Write i)) ∙ ap carried (sym own) ∙ none in cc
completes-none h past e t y accepted own none = refl
