-- From the first transfer of a granted read on no answer comes under its grant, and passed data neither come nor go.
use Rattle.std.proofs.Common.{◌≡◌, ◌≢◌, ℕ, Bool, true, false, ◌&&◌, ◌||◌, ◌==◌, ◌∷◌, Some, None, refl, sym, ap, subst, ◌∙◌, inl, inr}
use Rattle.std.proofs.lemmas.Bool.{and_parts, cases_Bool, eqb-true, false_from_ne_true}
use Rattle.ace_codes.specs.Responses.{is_shared, passes_dirty}
use Rattle.ace_event.specs.declared.event.Event.{Event}
use Rattle.ace_event.specs.declared.event.Event.TheVariants.{Cr, R}
use Rattle.ace_event.specs.declared.header.Header.{Header}
use Rattle.ace_model.specs.declared.snoops.Answer.{Answer}
use Rattle.ace_model.specs.declared.transactions.Transaction.{Transaction}
use Rattle.ace_model.specs.Accepted.{IsAccepted}
use Rattle.ace_model.specs.Grants.{answer_at, answer_of, answers_grant, are_passed_data_whole, granted, has_passed_data, has_sharer, is_begun, is_granted, passer, passes, shares}
use Rattle.ace_model.specs.Trace.{Trace, is_some_and}
use Rattle.ace_model.specs.Transactions.{is_read, outstanding, transfers}
use Rattle.ace_model.specs.WriteRules.{may_write_data, may_write_passed}
use Rattle.ace_model.specs.Writes.{has_memory_write, is_memory_write}
use Rattle.ace_model.proofs.General.Booleans.{then_of}
use Rattle.ace_model.proofs.General.Options.{Some-injective}
use Rattle.ace_model.proofs.GrantLooks.Progress.{written-now}
use Rattle.ace_model.proofs.GrantLooks.Quiet.{find_port-agree, some_port-agree}
use Rattle.ace_model.proofs.Grants.Granted.{granted_is, writes_now}
use Rattle.ace_model.proofs.Grants.Pending.{answering, snoops}
use Rattle.ace_model.proofs.Grants.Stays.{Stays}
use Rattle.ace_model.proofs.Holders.Law.{accepted_holds}
use Rattle.ace_model.proofs.Trace.Looks.{is_read-is}
use Rattle.ace_model.proofs.Values.FullReads.{begun_read}

-- The event leaves what a transfer of the granted read tells.
pub record Leaves (h : Header) (past : Trace) (e : Event) (x : Transaction) : Type 0 where
  pub passed : has_passed_data h (e ∷ past) x ≡ has_passed_data h past x
  pub sharer : has_sharer h (e ∷ past) x.addr ≡ has_sharer h past x.addr

-- no answer under the grant, and no write of memory for the read
pub without-answer : (h : Header) (past : Trace) (e : Event) (x : Transaction) → Stays h past e x.addr x → ((r : ℕ) → answer_at past e r x.addr ≡ None)
    → has_memory_write (e ∷ past) x.port x.chan x.id ≡ has_memory_write past x.port x.chan x.id → Leaves h past e x
without-answer h past e x stays none written = record {
  passed = rw (now, was, passer_same, written) refl;
  sharer = some_port-agree h.ports (shares (e ∷ past) x.addr) (shares past x.addr) (λ r low. ap (λ o. is_some_and o (λ (a : Answer). is_shared a.resp)) (same r));
}
  where
    same : (r : ℕ) → answer_of (e ∷ past) r x.addr ≡ answer_of past r x.addr
    same r = let gives = stays.gives in let no = none r in rw (gives, no) refl

    passer_same : passer h (e ∷ past) x.addr ≡ passer h past x.addr
    passer_same = find_port-agree h.ports (passes (e ∷ past) x.addr) (passes past x.addr) (λ r low. ap (λ o. is_some_and o (λ (a : Answer). passes_dirty a.resp)) (same r))

    now : is_granted h (e ∷ past) x ≡ true
    now = granted_is h (e ∷ past) x.addr x stays.is refl

    was : is_granted h past x ≡ true
    was = granted_is h past x.addr x stays.was refl

-- a transfer is neither
pub transfer-leaves : (h : Header) (past : Trace) (e : Event) (p i resp : ℕ) (last : Bool) (word : ℕ) (x : Transaction) → e ≡ R p i resp last word → Stays h past e x.addr x → Leaves h past e x
transfer-leaves h past e p i resp last word x is stays =
    without-answer h past e x stays (λ r. ap (λ d. answer_at past d r x.addr) is) (ap (λ d. has_memory_write (d ∷ past) x.port x.chan x.id) is)

-- no port answers under the grant of a read that has had a transfer
no-answer : (h : Header) (past : Trace) (e : Event) (r : ℕ) (x : Transaction) → IsAccepted h past → granted h past x.addr ≡ Some x → is_begun past x ≡ true
    → answer_at past e r x.addr ≡ None
no-answer h past (Cr q resp st) r x a g begun =
    elim (cases_Bool ((r == q) && answers_grant past r x.addr)) [
      | inr f ↦ rw f refl
      | inl t ↦
          let s = answering past q r x.addr t in
          let p = (snoops h past a).pending r _ x.addr s.0 s.1 in
          let one : p.one ≡ x = Some-injective p.one x (sym p.stands ∙ g) in
          let bad : true ≡ false = sym begun ∙ ap (is_begun past) (sym one) ∙ p.unbegun in cc
    ]
no-answer h past e r x a g begun = refl

-- and none of its data is written to memory
no-write : (h : Header) (past : Trace) (e : Event) (x : Transaction) → IsAccepted h (e ∷ past) → is_read x.chan ≡ true → outstanding h past x.port x.chan x.id ≡ Some x
    → transfers past x.port x.id ≢ 0 → is_memory_write e x.port x.chan x.id ≡ false
no-write h past e x a reads o some =
    false_from_ne_true (is_memory_write e x.port x.chan x.id) (λ m.
    let w = writes_now h past e a x.port x.chan x.id x o m in
    let may : may_write_passed h past x ≡ true = sym (then_of (is_read x.chan) (may_write_passed h past x) (may_write_data h past x) reads) ∙ w.may in
    let none = (and_parts (has_passed_data h past x && are_passed_data_whole h past x) (transfers past x.port x.id == 0) may).1 in
    some (eqb-true (transfers past x.port x.id) 0 none))

-- So while the grant of a read that has had a transfer stays, nothing changes.
pub begun-leaves : (h : Header) (past : Trace) (e : Event) (x : Transaction) → IsAccepted h (e ∷ past) → is_read x.chan ≡ true → Stays h past e x.addr x
    → transfers past x.port x.id ≢ 0 → Leaves h past e x
begun-leaves h past e x a reads stays some =
    let o = ((accepted_holds h past a.0).grants x.addr x stays.was).0 in
    let begun = begun_read h past x.port x.id x (subst (λ c. outstanding h past x.port c x.id ≡ Some x) (is_read-is x.chan reads) o) some in
    let none = no-write h past e x a reads o some in
    without-answer h past e x stays (λ r. no-answer h past e r x a.0 stays.was begun)
    (written-now h past e a x.port x.chan x.id x o ∙ ap (λ b. b || has_memory_write past x.port x.chan x.id) none)
