-- What an event leaves of the identifiers that the outstanding transactions of a port have.
use Rattle.std.proofs.Common.{◌≡◌, ℕ, ◌<◌, Bool, true, false, not, ◌&&◌, ◌||◌, ◌==◌, if◌then◌else◌, ◌∷◌, length, Option, Some, None, option_map, refl, sym, ap, ◌∙◌}
use Rattle.std.proofs.Math.Bool.{and-false}
use Rattle.std.proofs.lemmas.Bool.{and_parts, eq-eqb, eqb-true}
use Rattle.ace_codes.specs.declared.state.LineState.{LineState}
use Rattle.ace_event.specs.declared.event.Channel.{Channel}
use Rattle.ace_event.specs.declared.event.Channel.TheVariants.{Read, Write}
use Rattle.ace_event.specs.declared.event.Event.{Event}
use Rattle.ace_event.specs.declared.event.Event.TheVariants.{Ar, Aw, R, Rk, B, Wk}
use Rattle.ace_event.specs.declared.header.Header.{Header}
use Rattle.ace_model.specs.declared.transactions.Transaction.{Transaction}
use Rattle.ace_model.specs.Accepted.{IsAccepted}
use Rattle.ace_model.specs.Trace.{Trace, is_some_and, port_of}
use Rattle.ace_model.specs.Transactions.{acknowledged, ended, has_name, is_ace, issued, same_channel, transaction_of}
use Rattle.ace_model.proofs.General.Options.{Some-injective}
use Rattle.ace_model.proofs.Rules.Keeps.{accepted_keeps}
use Rattle.ace_model.proofs.Trace.Issued.{transaction_of-name}
use Rattle.ace_model.proofs.Trace.Outstanding.{acknowledged_is, ends_lite, ends_lite_write}
use Rattle.ace_portck.specs.declared.target.Progress.{Progress}
use Rattle.ace_portck.specs.Targets.{progress_of}
use Rattle.ace_runs.specs.Segments.{is_at_port}
use Rattle.ace_master_state.specs.declared.identifier_set.IdentifierSet.{IdentifierSet}
use Rattle.ace_master_state.specs.declared.identifiers.Identifiers.{Identifiers}
use Rattle.ace_master_state.specs.Identifiers.{AreTaken, IdentifiersStand, has}
use Rattle.ace_master_state.proofs.FreeIdentifiers.{taken-begun, taken-ended, taken-kept, taken-unknown}

or-same : (a b : Bool) → b ≡ false → a ≡ (a || b)
or-same true b f = refl
or-same false b f = sym f

and-same : (a b : Bool) → b ≡ false → a ≡ (a && not b)
and-same true b f = sym (ap not f)
and-same false b f = refl

-- the transaction has its own name, and none on another channel or at another port
named-own : (z : Transaction) (p : ℕ) (c : Channel) (i : ℕ) → (z.port == p) ≡ true → same_channel z.chan c ≡ true → has_name z p c i ≡ (z.id == i)
named-own z p c i port chan = ap (λ b. b && same_channel z.chan c && (z.id == i)) port ∙ ap (λ b. b && (z.id == i)) chan

named-off : (z : Transaction) (p : ℕ) (c : Channel) (i : ℕ) → same_channel z.chan c ≡ false → has_name z p c i ≡ false
named-off z p c i chan = ap (λ b. (z.port == p) && b && (z.id == i)) chan ∙ ap (λ b. b && (z.id == i)) (and-false (z.port == p))

named-elsewhere : (z : Transaction) (p : ℕ) (c : Channel) (i : ℕ) → (z.port == p) ≡ false → has_name z p c i ≡ false
named-elsewhere z p c i port = ap (λ b. b && same_channel z.chan c && (z.id == i)) port

-- ---- an event of the port ----------------------------------------------------------------------------

module _ (h : Header) (past : Trace) (p : ℕ) (s : Identifiers) (was : IdentifiersStand h past p s) where
  pub read-begun : (t : IdentifierSet) (q id addr snoop dom bar : ℕ) (lock : Bool) → (q == p) ≡ true → ((i : ℕ) → i < 16 → has t i ≡ (has s.reads i || (id == i)))
      → IdentifiersStand h (Ar q id addr snoop dom bar lock ∷ past) p (record s { reads = t })
  read-begun t q id addr snoop dom bar lock own more =
      let e : Event = Ar q id addr snoop dom bar lock in
      let x : Transaction = record { place = length past; port = q; chan = Read; id = id; addr = addr; snoop = snoop; dom = dom; bar = bar; lock = lock } in
      record {
        reads = taken-begun h past e p Read s.reads t was.reads x refl refl (λ i low. more i low ∙ ap (λ b. has s.reads i || b) (sym (named-own x p Read i own refl)));
        writes = taken-begun h past e p Write s.writes s.writes was.writes x refl refl (λ i low. or-same (has s.writes i) (has_name x p Write i) (named-off x p Write i refl));
      }

  pub write-begun : (t : IdentifierSet) (q id addr snoop dom bar : ℕ) → (q == p) ≡ true → ((i : ℕ) → i < 16 → has t i ≡ (has s.writes i || (id == i)))
      → IdentifiersStand h (Aw q id addr snoop dom bar ∷ past) p (record s { writes = t })
  write-begun t q id addr snoop dom bar own more =
      let e : Event = Aw q id addr snoop dom bar in
      let x : Transaction = record { place = length past; port = q; chan = Write; id = id; addr = addr; snoop = snoop; dom = dom; bar = bar; lock = false } in
      record {
        reads = taken-begun h past e p Read s.reads s.reads was.reads x refl refl (λ i low. or-same (has s.reads i) (has_name x p Read i) (named-off x p Read i refl));
        writes = taken-begun h past e p Write s.writes t was.writes x refl refl (λ i low. more i low ∙ ap (λ b. has s.writes i || b) (sym (named-own x p Write i own refl)));
      }

  module _ (e : Event) (none : issued (length past) e ≡ None) where
    pub stands-kept : ended h past e ≡ None → IdentifiersStand h (e ∷ past) p s
    stands-kept stays = record { reads = taken-kept h past e p Read s.reads s.reads was.reads none stays (λ i low. refl); writes = taken-kept h past e p Write s.writes s.writes was.writes none stays (λ i low. refl) }

    pub read-ended : (t : IdentifierSet) (z : Transaction) (j : ℕ) → ended h past e ≡ Some z → transaction_of past p Read j ≡ Some z
        → ((i : ℕ) → i < 16 → has t i ≡ (has s.reads i && not (z.id == i))) → IdentifiersStand h (e ∷ past) p (record s { reads = t })
    read-ended t z j gone there less =
        let name = transaction_of-name past p Read j z there in
        let own = eq-eqb z.port p name.port in
        record {
          reads =
              taken-ended h past e p Read s.reads t was.reads z p Read j none gone there
              (λ i low. less i low ∙ ap (λ b. has s.reads i && not b) (sym (named-own z p Read i own (ap (λ c. same_channel c Read) name.chan))));
          writes =
              taken-ended h past e p Write s.writes s.writes was.writes z p Read j none gone there
              (λ i low. and-same (has s.writes i) (has_name z p Write i) (named-off z p Write i (ap (λ c. same_channel c Write) name.chan)));
        }

    pub write-ended : (t : IdentifierSet) (z : Transaction) (j : ℕ) → ended h past e ≡ Some z → transaction_of past p Write j ≡ Some z
        → ((i : ℕ) → i < 16 → has t i ≡ (has s.writes i && not (z.id == i))) → IdentifiersStand h (e ∷ past) p (record s { writes = t })
    write-ended t z j gone there less =
        let name = transaction_of-name past p Write j z there in
        let own = eq-eqb z.port p name.port in
        record {
          reads =
              taken-ended h past e p Read s.reads s.reads was.reads z p Write j none gone there
              (λ i low. and-same (has s.reads i) (has_name z p Read i) (named-off z p Read i (ap (λ c. same_channel c Read) name.chan)));
          writes =
              taken-ended h past e p Write s.writes t was.writes z p Write j none gone there
              (λ i low. less i low ∙ ap (λ b. has s.writes i && not b) (sym (named-own z p Write i own (ap (λ c. same_channel c Write) name.chan))));
        }

  -- ---- of an ACE port ----

  pub read-acknowledged : (t : IdentifierSet) (q : ℕ) (st : LineState) (due : Option Progress) → (q == p) ≡ true → due ≡ option_map (progress_of h past) (acknowledged past p Read)
      → ((i : ℕ) → i < 16 → has t i ≡ (has s.reads i && not (is_some_and due (λ x. x.transaction.id == i)))) → IdentifiersStand h (Rk q st ∷ past) p (record s { reads = t })
  read-acknowledged t q st due own is less = by (acknowledged past p Read) refl
    where
      gone : ended h past (Rk q st) ≡ acknowledged past p Read
      gone = ap (λ r. acknowledged past r Read) (eqb-true q p own)

      by : (o : Option Transaction) → acknowledged past p Read ≡ o → IdentifiersStand h (Rk q st ∷ past) p (record s { reads = t })
      by (Some z) there =
          let n = acknowledged_is past p Read z there in
          read-ended (Rk q st) refl t z n.id (gone ∙ there) n.named
          (λ i low. less i low ∙ ap (λ (o : Option Progress). has s.reads i && not (is_some_and o (λ x. x.transaction.id == i))) (is ∙ ap (option_map (progress_of h past)) there))
      by None never = record {
        reads =
            taken-kept h past (Rk q st) p Read s.reads t was.reads refl (gone ∙ never)
            (λ i low. less i low ∙ ap (λ (o : Option Progress). has s.reads i && not (is_some_and o (λ x. x.transaction.id == i))) (is ∙ ap (option_map (progress_of h past)) never) ∙ sym (and-same (has s.reads i) false refl));
        writes = taken-kept h past (Rk q st) p Write s.writes s.writes was.writes refl (gone ∙ never) (λ i low. refl);
      }

  pub write-acknowledged : (t : IdentifierSet) (q : ℕ) (st : LineState) (due : Option Progress) → (q == p) ≡ true → due ≡ option_map (progress_of h past) (acknowledged past p Write)
      → ((i : ℕ) → i < 16 → has t i ≡ (has s.writes i && not (is_some_and due (λ x. x.transaction.id == i)))) → IdentifiersStand h (Wk q st ∷ past) p (record s { writes = t })
  write-acknowledged t q st due own is less = by (acknowledged past p Write) refl
    where
      gone : ended h past (Wk q st) ≡ acknowledged past p Write
      gone = ap (λ r. acknowledged past r Write) (eqb-true q p own)

      by : (o : Option Transaction) → acknowledged past p Write ≡ o → IdentifiersStand h (Wk q st ∷ past) p (record s { writes = t })
      by (Some z) there =
          let n = acknowledged_is past p Write z there in
          write-ended (Wk q st) refl t z n.id (gone ∙ there) n.named
          (λ i low. less i low ∙ ap (λ (o : Option Progress). has s.writes i && not (is_some_and o (λ x. x.transaction.id == i))) (is ∙ ap (option_map (progress_of h past)) there))
      by None never = record {
        reads = taken-kept h past (Wk q st) p Read s.reads s.reads was.reads refl (gone ∙ never) (λ i low. refl);
        writes =
            taken-kept h past (Wk q st) p Write s.writes t was.writes refl (gone ∙ never)
            (λ i low. less i low ∙ ap (λ (o : Option Progress). has s.writes i && not (is_some_and o (λ x. x.transaction.id == i))) (is ∙ ap (option_map (progress_of h past)) never) ∙ sym (and-same (has s.writes i) false refl));
      }

  -- ---- of an ACE-Lite port ----

  pub read-answered : (t : IdentifierSet) (q j resp word : ℕ) → is_ace h p ≡ false → (q == p) ≡ true → ((i : ℕ) → i < 16 → has t i ≡ (has s.reads i && not (j == i)))
      → IdentifiersStand h (R q j resp true word ∷ past) p (record s { reads = t })
  read-answered t q j resp word lite own less = by (transaction_of past p Read j) refl
    where
      e : Event
      e = R q j resp true word

      is : ended h past e ≡ transaction_of past p Read j
      is =
          ap (λ r. if not (is_ace h r) then transaction_of past r Read j else None) (eqb-true q p own)
          ∙ ap (λ b. if not b then transaction_of past p Read j else None) lite

      by : (o : Option Transaction) → transaction_of past p Read j ≡ o → IdentifiersStand h (e ∷ past) p (record s { reads = t })
      by (Some z) there =
          read-ended e refl t z j (is ∙ there) there
          (λ i low. less i low ∙ ap (λ k. has s.reads i && not (k == i)) (sym (transaction_of-name past p Read j z there).id))
      by None never = record {
        reads = taken-unknown h past e p Read s.reads t was.reads j refl (is ∙ never) never less;
        writes = taken-kept h past e p Write s.writes s.writes was.writes refl (is ∙ never) (λ i low. refl);
      }

  pub write-answered : (t : IdentifierSet) (q j resp : ℕ) → is_ace h p ≡ false → (q == p) ≡ true → ((i : ℕ) → i < 16 → has t i ≡ (has s.writes i && not (j == i)))
      → IdentifiersStand h (B q j resp ∷ past) p (record s { writes = t })
  write-answered t q j resp lite own less = by (transaction_of past p Write j) refl
    where
      e : Event
      e = B q j resp

      is : ended h past e ≡ transaction_of past p Write j
      is =
          ap (λ r. if is_ace h r then None else transaction_of past r Write j) (eqb-true q p own)
          ∙ ap (λ b. if b then None else transaction_of past p Write j) lite

      by : (o : Option Transaction) → transaction_of past p Write j ≡ o → IdentifiersStand h (e ∷ past) p (record s { writes = t })
      by (Some z) there =
          write-ended e refl t z j (is ∙ there) there
          (λ i low. less i low ∙ ap (λ k. has s.writes i && not (k == i)) (sym (transaction_of-name past p Write j z there).id))
      by None never = record {
        reads = taken-kept h past e p Read s.reads s.reads was.reads refl (is ∙ never) (λ i low. refl);
        writes = taken-unknown h past e p Write s.writes t was.writes j refl (is ∙ never) never less;
      }

-- ---- what ends no transaction ------------------------------------------------------------------------

module _ (h : Header) (past : Trace) (p : ℕ) where
  -- of an ACE port all but RK and WK
  pub ends-none : (e : Event) → is_at_port p e ≡ true → is_ace h p ≡ true → ((q : ℕ) (st : LineState) → e ≡ Rk q st → ⊥) → ((q : ℕ) (st : LineState) → e ≡ Wk q st → ⊥) → ended h past e ≡ None
  ends-none (R q i resp last word) at ace no-rk no-wk =
      ap (λ r. if last && not (is_ace h r) then transaction_of past r Read i else None) (eqb-true q p at)
      ∙ ap (λ b. if last && not b then transaction_of past p Read i else None) ace ∙ ap (λ b. if b then transaction_of past p Read i else None) (and-false last)
  ends-none (B q i resp) at ace no-rk no-wk =
      ap (λ r. if is_ace h r then None else transaction_of past r Write i) (eqb-true q p at) ∙ ap (λ b. if b then None else transaction_of past p Write i) ace
  ends-none (Rk q st) at ace no-rk no-wk = absurd (no-rk q st refl)
  ends-none (Wk q st) at ace no-rk no-wk = absurd (no-wk q st refl)
  ends-none e at ace no-rk no-wk = refl

  -- of an ACE-Lite port all but the last R and B: it has no RK and WK
  pub ends-none-lite : (e : Event) → IsAccepted h (e ∷ past) → is_at_port p e ≡ true → is_ace h p ≡ false
      → ((q i resp : ℕ) (last : Bool) (word : ℕ) → e ≡ R q i resp last word → ⊥) → ((q i resp : ℕ) → e ≡ B q i resp → ⊥) → ended h past e ≡ None
  ends-none-lite (R q i resp last word) a at lite no-r no-b = absurd (no-r q i resp last word refl)
  ends-none-lite (B q i resp) a at lite no-r no-b = absurd (no-b q i resp refl)
  ends-none-lite (Rk q st) a at lite no-r no-b =
      let may = (accepted_keeps h past (Rk q st) a).rule_1 in
      let bad : true ≡ false = sym (and_parts _ (is_ace h q) may).1 ∙ ap (is_ace h) (eqb-true q p at) ∙ lite in cc
  ends-none-lite (Wk q st) a at lite no-r no-b =
      let may = (accepted_keeps h past (Wk q st) a).rule_1 in
      let bad : true ≡ false = sym (and_parts _ (is_ace h q) may).1 ∙ ap (is_ace h) (eqb-true q p at) ∙ lite in cc
  ends-none-lite e a at lite no-r no-b = refl

  pub not-last : (e : Event) (q i resp : ℕ) (last : Bool) (word : ℕ) → e ≡ R q i resp last word → last ≡ false → ended h past e ≡ None
  not-last e q i resp last word is f = ap (ended h past) is ∙ ap (λ b. if b && not (is_ace h q) then transaction_of past q Read i else None) f

  -- what is no AR or AW issues nothing
  pub issues-none : (e : Event)
      → ((q i addr snoop dom bar : ℕ) (lock : Bool) → e ≡ Ar q i addr snoop dom bar lock → ⊥) → ((q i addr snoop dom bar : ℕ) → e ≡ Aw q i addr snoop dom bar → ⊥) → issued (length past) e ≡ None
  issues-none (Ar q i addr snoop dom bar lock) no-ar no-aw = absurd (no-ar q i addr snoop dom bar lock refl)
  issues-none (Aw q i addr snoop dom bar) no-ar no-aw = absurd (no-aw q i addr snoop dom bar refl)
  issues-none e no-ar no-aw = refl

  -- ---- an event of another port ----

  issues-only : (e : Event) (x : Transaction) → issued (length past) e ≡ Some x → (ended h past e ≡ None) × (port_of e ≡ Some x.port)
  issues-only (Ar q i addr snoop dom bar lock) x is = (refl, ap (λ (v : Transaction). Some v.port) (Some-injective _ x is))
  issues-only (Aw q i addr snoop dom bar) x is = (refl, ap (λ (v : Transaction). Some v.port) (Some-injective _ x is))
  issues-only e x is = cc

  -- The name of a transaction that an event ends.
  record IsEnding (e : Event) (z : Transaction) : Type 0 where
    chan : Channel
    id : ℕ
    port : ℕ
    there : transaction_of past port chan id ≡ Some z
    at : port_of e ≡ Some port

  ending : (e : Event) (z : Transaction) → ended h past e ≡ Some z → IsEnding e z
  ending (Rk q st) z is = let n = acknowledged_is past q Read z is in record { chan = Read; id = n.id; port = q; there = n.named; at = refl }
  ending (Wk q st) z is = let n = acknowledged_is past q Write z is in record { chan = Write; id = n.id; port = q; there = n.named; at = refl }
  ending (R q i resp last word) z is = record { chan = Read; id = i; port = q; there = (ends_lite h past q i resp last word z is).1; at = refl }
  ending (B q i resp) z is = record { chan = Write; id = i; port = q; there = (ends_lite_write h past q i resp z is).1; at = refl }
  ending e z is = cc

  module _ (e : Event) (apart : is_at_port p e ≡ false) where
    other-port : (q : ℕ) → port_of e ≡ Some q → (q == p) ≡ false
    other-port q is = sym (ap (λ o. is_some_and o (λ r. r == p)) is) ∙ apart

    taken-elsewhere : (c : Channel) (s : IdentifierSet) → AreTaken h past p c s → AreTaken h (e ∷ past) p c s
    taken-elsewhere c s was = by (issued (length past) e) refl (ended h past e) refl
      where
        by : (o : Option Transaction) → issued (length past) e ≡ o → (g : Option Transaction) → ended h past e ≡ g → AreTaken h (e ∷ past) p c s
        by (Some x) new g gone =
            let i = issues-only e x new in
            taken-begun h past e p c s s was x new i.0 (λ k low. or-same (has s k) (has_name x p c k) (named-elsewhere x p c k (other-port x.port i.1)))
        by None none (Some z) gone =
            let n = ending e z gone in
            let port = (transaction_of-name past n.port n.chan n.id z n.there).port in
            taken-ended h past e p c s s was z n.port n.chan n.id none gone n.there
            (λ k low. and-same (has s k) (has_name z p c k) (named-elsewhere z p c k (other-port z.port (n.at ∙ ap Some (sym port)))))
        by None none None stays = taken-kept h past e p c s s was none stays (λ k low. refl)

    pub stands-elsewhere : (s : Identifiers) → IdentifiersStand h past p s → IdentifiersStand h (e ∷ past) p s
    stands-elsewhere s was = record { reads = taken-elsewhere Read s.reads was.reads; writes = taken-elsewhere Write s.writes was.writes }
