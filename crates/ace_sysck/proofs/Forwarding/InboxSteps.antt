-- The inboxes, event by event.
use Rattle.std.proofs.Common.{◌≡◌, ℕ, ◌≤◌, List, [], ◌∷◌, ◌++◌, length, slice_get, slice_set, length-set, Some, refl, sym, ap, subst, ◌∙◌, arith, inl, inr}
use Rattle.std.proofs.lemmas.Bool.{eq-eqb}
use Rattle.std.proofs.lemmas.List.{append-nil}
use Rattle.std.proofs.lemmas.Option.{slice_get_within}
use Rattle.ace_sysck.proofs.Terms.{Header, Part, Inbox, Inboxes, IsEmptyInbox, ChangesOne, SendsOne}
use Rattle.ace_model.proofs.General.Lists.{slice_get-more}
use Rattle.ace_model.proofs.General.Options.{Some-injective}
use Rattle.ace_sysck.proofs.Tables.{slice_get-set_same, slice_get-set_other}

-- with one more
pub fresh_more : (h : Header) (xs : List Inbox) (n : Inbox) → ((q : ℕ) (b : Inbox) → slice_get xs q ≡ Some b → IsEmptyInbox h q b) → IsEmptyInbox h (length xs) n
    → (q : ℕ) (b : Inbox) → slice_get (xs ++ n ∷ []) q ≡ Some b → IsEmptyInbox h q b
fresh_more h xs n all new q b at =
    elim (slice_get-more xs (Some n) q b at) [
      | inl old ↦ all q b old
      | inr here ↦ subst (IsEmptyInbox h q) (Some-injective n b here.1) (subst (λ k. IsEmptyInbox h k n) (sym here.0) new)
    ]

-- nothing is sent to the sender
pub sends_own : (s : Inboxes) (q sender : ℕ) (sent : List Part) → q ≡ sender → SendsOne q sender sent s s
sends_own s q sender sent own = record {
  size = refl;
  one = λ b at. (b, at, rw (eq-eqb q sender own) (record { items = λ fits. sym (append-nil b.parts.items); count = refl; room = refl }));
  others = λ k off. refl;
}

-- where the port isn't there no inbox changes
pub changes_outside : (changes : Inbox → Inbox → Type 0) (s : Inboxes) (p : ℕ) → length s.ports.items ≤ p → ChangesOne p changes s s
changes_outside changes s p high = record {
  size = refl;
  one = λ b at. let low = slice_get_within s.ports.items p b at in absurd (omega (arith, low, high));
  others = λ k off. refl;
}

-- and else that of the port, as its own does
pub changes_one : (changes : Inbox → Inbox → Type 0) (s n : Inboxes) (p : ℕ) (b c : Inbox) → slice_get s.ports.items p ≡ Some b
    → n.ports.items ≡ slice_set s.ports.items p c → changes b c → ChangesOne p changes s n
changes_one changes s n p b c at items change = record {
  size = ap length items ∙ length-set s.ports.items p c;
  one = λ d there. (
    c,
    ap (λ l. slice_get l p) items ∙ slice_get-set_same s.ports.items p c (slice_get_within s.ports.items p b at),
    subst (λ v. changes v c) (Some-injective b d (sym at ∙ there)) change,
  );
  others = λ k off. ap (λ l. slice_get l k) items ∙ slice_get-set_other s.ports.items p k c off;
}
