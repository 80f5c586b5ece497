-- The stores to a line: a D of a port that may store, the D of a MakeUnique, and the M of a write and the R of a MakeInvalid, which
-- find no port with the line.
use Rattle.std.proofs.Common.{◌≡◌, ◌⊎◌, ◌<◌, ℕ, Bool, true, false, not, ◌&&◌, ◌||◌, nat_eq, nat_lt, ◌∷◌, Option, Some, None, refl, sym, ap, subst, ◌∙◌, arith, inl, inr}
use Rattle.std.proofs.lemmas.Bool.{and_from, and_parts, or_cases, not-true, cases_Bool, eqb-true, or_right, cases_eq}
use Rattle.std.proofs.Math.Bool.{and-false}
use Rattle.std.specs.List.{AllByRecursion}
use Rattle.ace_model.proofs.Terms.{FitsFields, AwKind, Channel, Read, Event, R, M, Mem, D, Header, Line, merged, Transaction, Trace, is_some_and, is_make_unique, is_update, is_unique_write, is_no_snoop_write, beats_of}
use Rattle.ace_model.proofs.Terms.{SnoopKind, I, is_shared, snoop_of_write, snoop_of, snoop_kind_of, has_failed, state_of, is_ace, is_read, is_line, is_on, read_kind, write_kind, outstanding, transaction_of}
use Rattle.ace_model.proofs.Terms.{is_outstanding, is_make_unique_on, is_complete, transfers, updates_memory, is_burst_whole, granted, is_granted, is_begun, awaits_store, has_store}
use Rattle.ace_model.proofs.Terms.{are_snoops_done, memory_of, stores_data, discards_data, value_of, may_store, wants_store, full_line, may_write_memory, is_write_due, IsAccepted}
use Rattle.ace_codes.specs.declared.kind.ArKind.TheVariants as read
use Rattle.ace_codes.specs.declared.kind.SnoopKind.TheVariants as snoop
use Rattle.ace_model.proofs.Trace.Looks.{at_name, is_read-is, is_on-addr, read_writes_none, snoops_done-ports}
use Rattle.ace_model.proofs.Trace.Issued.{outstanding-name, outstanding-named, transaction_of-stands}
use Rattle.ace_model.proofs.Trace.Growth.{some_issued-is}
use Rattle.ace_model.proofs.Trace.Opening.{Opens, opens_of}
use Rattle.ace_model.proofs.Rules.Keeps.{accepted_keeps}
use Rattle.ace_model.proofs.Holders.Facts.{OthersInvalid}
use Rattle.ace_model.proofs.Trace.LineOnce.{outstanding_is}
use Rattle.ace_model.proofs.Trace.Outstanding.{outstanding_own}
use Rattle.ace_model.proofs.Values.FullReads.{done_read, beat_due}
use Rattle.ace_model.proofs.Trace.Transfers.{full_some}
use Rattle.ace_model.proofs.Tables.Kinds.{make_unique_is, granted_stores, granted_apart, unique_write_snoops}
use Rattle.ace_model.proofs.Tables.ReadSnoops.{discards_kind, discards_causes}
use Rattle.ace_model.proofs.Grants.Granted.{granted_at, data_may}
use Rattle.ace_model.proofs.Grants.Begins.{may_of}
use Rattle.ace_model.proofs.Holders.Law.{accepted_holds}
use Rattle.ace_model.proofs.General.Options.{Some-injective, is_some_and-is}
use Rattle.ace_model.proofs.Tables.States.{invalidates}
use Rattle.ace_model.proofs.Holders.FirstTransfer.{done_port}
use Rattle.ace_model.proofs.Holders.Rises.{StartsEmpty, stays_empty}
use Rattle.ace_model.proofs.Holders.ShareableLines.{no_snoop_unheld}
use Rattle.ace_model.proofs.Values.MergedLines.{merged-line, memory-line}
use Rattle.ace_model.proofs.Values.Facts.{StoresUnheld}

pub stores_write : (x : Transaction) → stores_data x ≡ true → is_read x.chan ≡ false
stores_write x s =
    elim (cases_Bool (is_read x.chan)) [
      | inr f ↦ f
      | inl t ↦ let bad : false ≡ true = rw t at s in cc
    ]

pub stores_kind : (x : Transaction) → stores_data x ≡ true → (k : AwKind) × (write_kind x ≡ Some k) × ((is_unique_write k || is_no_snoop_write k) ≡ true)
stores_kind x s = by (write_kind x) refl s
  where
    by : (o : Option AwKind) → write_kind x ≡ o → (is_some_and o is_unique_write || is_some_and o is_no_snoop_write) ≡ true
        → (k : AwKind) × (write_kind x ≡ Some k) × ((is_unique_write k || is_no_snoop_write k) ≡ true)
    by None is t = cc
    by (Some k) is t = (k, is, t)

module _ (h : Header) (past : Trace) where
  -- what waits for its store: a MakeUnique of the port on the line that is outstanding and complete
  pub record Awaits (q l : ℕ) (x : Transaction) : Type 0 where
    pub port : x.port ≡ q
    pub kind : read_kind x ≡ Some read.MakeUnique
    pub on : is_on x l ≡ true
    pub out : is_outstanding h past x ≡ true
    pub complete : is_complete past x.port x.chan x.id ≡ true

  pub awaits_store-is : (q l : ℕ) (x : Transaction) → awaits_store h past q l x ≡ true → Awaits q l x
  awaits_store-is q l x t =
      let one = and_parts ((nat_eq x.port q && is_make_unique_on x l) && is_outstanding h past x) (is_complete past x.port x.chan x.id) t in
      let two = and_parts (nat_eq x.port q && is_make_unique_on x l) (is_outstanding h past x) one.0 in
      let three = and_parts (nat_eq x.port q) (is_make_unique_on x l) two.0 in
      let four = and_parts (is_some_and (read_kind x) is_make_unique) (nat_eq x.addr l) three.1 in
      let k = is_some_and-is (read_kind x) is_make_unique four.0 in
      let kind : read_kind x ≡ Some read.MakeUnique = k.1 ∙ ap (λ v. Some v) (make_unique_is k.0 k.2) in
      record { port = eqb-true x.port q three.0; kind = kind; on = rw kind four.1; out = two.1; complete = one.1 }

  -- The D of a MakeUnique.
  pub record Made (q l strobe : ℕ) : Type 0 where
    pub one : Transaction
    pub id : ℕ
    pub out : outstanding h past q Read id ≡ Some one
    pub on : is_on one l ≡ true
    pub kind : read_kind one ≡ Some read.MakeUnique
    pub stands : granted h past l ≡ Some one
    pub alone : OthersInvalid h past q l
    pub first : has_store h past q id ≡ false
    pub whole : strobe ≡ full_line

  -- a D is of a port that may store, or of a MakeUnique
  pub stores_d : (q l strobe : ℕ) (b : Bool) (line : Line) → IsAccepted h (D q l strobe b line ∷ past)
      → (may_store h past q l ≡ true) ⊎ Made q l strobe
  stores_d q l strobe b line a =
      elim (or_cases (may_store h past q l) _ (accepted_keeps h past (D q l strobe b line) a).rule_32) [
        | inl may ↦ inl may
        | inr made ↦
            let ace : is_ace h q ≡ true = (and_parts (nat_lt q h.ports) (is_ace h q) (accepted_keeps h past (D q l strobe b line) a).rule_1).1 in
            let all = and_parts (wants_store h past q l && not b) (nat_eq strobe full_line) made in
            let wants = (and_parts (wants_store h past q l) (not b) all.0).0 in
            let x = some_issued-is past (λ y. awaits_store h past q l y && not (has_store h past y.port y.id)) wants in
            let both = and_parts (awaits_store h past q l x.0) (not (has_store h past x.0.port x.0.id)) x.2 in
            let w = awaits_store-is q l x.0 both.0 in
            let chan = is_read-is x.0.chan (read_writes_none x.0 read.MakeUnique w.kind).1 in
            let out : outstanding h past q Read x.0.id ≡ Some x.0 =
            ap (λ v. outstanding h past v Read x.0.id) (sym w.port) ∙ ap (λ (c : Channel). outstanding h past x.0.port c x.0.id) (sym chan) ∙ outstanding_is h past x.0 x.1 w.out in
            let complete : is_complete past q Read x.0.id ≡ true =
            ap (λ v. is_complete past v Read x.0.id) (sym w.port) ∙ ap (λ (c : Channel). is_complete past x.0.port c x.0.id) (sym chan) ∙ w.complete in
            let addr = is_on-addr x.0 l w.on in
            let some = full_some past q x.0.id x.0 (done_read h past a.0 q x.0.id x.0 out complete) in
            let arrives = (accepted_holds h past a.0).arrive q x.0.id x.0 ace out (and_parts (is_line x.0) _ w.on).0 some in
            inr (record {
              one = x.0;
              id = x.0.id;
              out = out;
              on = w.on;
              kind = w.kind;
              stands = ap (granted h past) (sym addr) ∙ arrives.stands;
              alone = subst (OthersInvalid h past q) addr (arrives.alone read.MakeUnique w.kind refl);
              first = ap (λ v. has_store h past v x.0.id) (sym w.port) ∙ not-true (has_store h past x.0.port x.0.id) both.1;
              whole = eqb-true strobe full_line all.1;
            })
      ]

  -- A granted transaction before its M or its transfer, which is a store to the line that no port holds.
  pub record Unheld (l : ℕ) : Type 0 where
    pub one : Transaction
    pub out : outstanding h past one.port one.chan one.id ≡ Some one
    pub on : is_on one l ≡ true
    pub stands : granted h past l ≡ Some one
    pub done : are_snoops_done h past one ≡ true
    pub first : is_begun past one ≡ false
    pub stores : StoresUnheld one

  -- The M of a write that stores.
  pub record Writes (q : ℕ) (c : Channel) (j l : ℕ) : Type 0 where
    pub unheld : Unheld l
    pub open unheld use {one, out, on, stands}
    pub named : transaction_of past q c j ≡ Some one
    pub writes : is_read one.chan ≡ false
    pub whole : is_burst_whole past one ≡ true
    pub stores : stores_data one ≡ true

  -- The R of a MakeInvalid.
  pub record Discards (q j l : ℕ) : Type 0 where
    pub unheld : Unheld l
    pub open unheld use {one, on, stands}
    pub named : transaction_of past q Read j ≡ Some one
    pub discards : discards_data one ≡ true

  -- what an M names is outstanding, and may write memory
  pub record MayWrite (q : ℕ) (c : Channel) (j : ℕ) (x : Transaction) : Type 0 where
    pub out : outstanding h past q c j ≡ Some x
    pub may : may_write_memory h past x ≡ true

  pub may_write : (q : ℕ) (c : Channel) (j : ℕ) (line : Line) → IsAccepted h (M q c j line ∷ past) → (x : Transaction) → transaction_of past q c j ≡ Some x → MayWrite q c j x
  may_write q c j line a x named =
      let z = is_some_and-is (outstanding h past q c j) (may_write_memory h past) (accepted_keeps h past (M q c j line) a).rule_24 in
      let one : z.0 ≡ x = Some-injective z.0 x (sym (outstanding-named h past q c j z.0 z.1) ∙ named) in
      record { out = z.1 ∙ ap Some one; may = subst (λ y. may_write_memory h past y ≡ true) one z.2 }

  pub stores_m : (q : ℕ) (c : Channel) (j : ℕ) (line : Line) (l : ℕ) → IsAccepted h (M q c j line ∷ past) → (x : Transaction)
      → transaction_of past q c j ≡ Some x → (stores_data x && is_on x l) ≡ true → Writes q c j l
  stores_m q c j line l a x named t =
      let parts = and_parts (stores_data x) (is_on x l) t in
      let m = may_write q c j line a x named in
      let writes = stores_write x parts.0 in
      let d = data_may h past x m.may writes in
      let due : is_write_due h past x ≡ true = elim d.how [
        | inl due ↦ due
        | inr update ↦
            let k = stores_kind x parts.0 in
            let updates : is_update k.0 ≡ true = subst (λ o. is_some_and o is_update ≡ true) k.1 (and_parts (updates_memory x) _ update).0 in
            let apart = granted_apart k.0 (sym (granted_stores k.0) ∙ k.2) in cc
      ] in
      let two = and_parts (is_granted h past x) (are_snoops_done h past x) due in
      record {
        unheld = record {
          one = x;
          out = outstanding_own h past q c j x m.out;
          on = parts.1;
          stands = ap (granted h past) (sym (is_on-addr x l parts.1)) ∙ granted_at h past a.0 q c j x m.out two.0;
          done = two.1;
          first = rw writes d.first;
          stores = inl parts.0;
        };
        named = named;
        writes = writes;
        whole = d.whole;
        stores = parts.0;
      }

  pub discards_r : (q j resp : ℕ) (last : Bool) (word : ℕ) (l : ℕ) → IsAccepted h (R q j resp last word ∷ past) → (x : Transaction)
      → transaction_of past q Read j ≡ Some x → (discards_data x && is_on x l) ≡ true → Discards q j l
  discards_r q j resp last word l a x named t =
      let parts = and_parts (discards_data x) (is_on x l) t in
      let m = may_of h past q j resp last word a in
      let out : outstanding h past q Read j ≡ Some x = m.out ∙ sym m.named ∙ named in
      let due = beat_due h past q j x (R q j resp last word) a (record { resp = resp; last = last; word = word; is = refl }) out (and_parts (is_line x) _ parts.1).0 in
      let kind : m.kind ≡ read.MakeInvalid =
      Some-injective m.kind read.MakeInvalid (sym m.is_kind ∙ ap read_kind (Some-injective m.one x (sym m.named ∙ named)) ∙ discards_kind x parts.0) in
      let few : transfers past q j < 1 = subst (λ k. transfers past q j < beats_of k) kind m.few in
      let none : transfers past q j ≡ 0 = omega arith in
      let name = outstanding-name h past q Read j x out in
      let here : transfers past x.port x.id ≡ 0 = at_name (λ b c. transfers past b) x q Read j name ∙ none in
      record {
        unheld = record {
          one = x;
          out = outstanding_own h past q Read j x out;
          on = parts.1;
          stands = ap (granted h past) (sym (is_on-addr x l parts.1)) ∙ due.stands;
          done = due.done none;
          first = rw (ap is_read name.chan) (rw here refl);
          stores = inr parts.0;
        };
        named = named;
        discards = parts.0;
      }

  pub record ByPort (e : Event) (l : ℕ) : Type 0 where
    pub port : ℕ
    pub strobe : ℕ
    pub ex : Bool
    pub line : Line
    pub is : e ≡ D port l strobe ex line
    pub may : may_store h past port l ≡ true

  pub record ByMake (e : Event) (l : ℕ) : Type 0 where
    pub port : ℕ
    pub strobe : ℕ
    pub ex : Bool
    pub line : Line
    pub is : e ≡ D port l strobe ex line
    pub made : Made port l strobe

  pub record ByWrite (e : Event) (l : ℕ) : Type 0 where
    pub port : ℕ
    pub chan : Channel
    pub id : ℕ
    pub line : Line
    pub is : e ≡ M port chan id line
    pub by : Writes port chan id l

  pub record ByDiscard (e : Event) (l : ℕ) : Type 0 where
    pub port : ℕ
    pub id : ℕ
    pub resp : ℕ
    pub last : Bool
    pub word : ℕ
    pub is : e ≡ R port id resp last word
    pub by : Discards port id l

  abbrev pub Stored : Event → ℕ → Type 0
  Stored e l = ByPort e l ⊎ ByMake e l ⊎ (ByWrite e l ⊎ ByDiscard e l) ⊎ Opens h past e

  pub unheld_of : (e : Event) (l : ℕ) → ByWrite e l ⊎ ByDiscard e l → Unheld l
  unheld_of e l by =
      elim by [
        | inl w ↦ w.by.unheld
        | inr d ↦ d.by.unheld
      ]

  -- an event leaves the value of the line, or is a store to it, or opens memory
  pub value_moves : (e : Event) → IsAccepted h (e ∷ past) → (l : ℕ) → (value_of (e ∷ past) l ≡ value_of past l) ⊎ Stored e l
  value_moves (D q addr strobe b line) a l =
      elim (cases_Bool (nat_eq l addr)) [
        | inr f ↦ inl (rw f refl)
        | inl t ↦
            let same = eqb-true l addr t in
            let is : D q addr strobe b line ≡ D q l strobe b line = ap (λ v. D q v strobe b line) (sym same) in
            inr (elim (stores_d q l strobe b line (rw same a)) [
              | inl may ↦ inl (record { port = q; strobe = strobe; ex = b; line = line; is = is; may = may })
              | inr made ↦ inr (inl (record { port = q; strobe = strobe; ex = b; line = line; is = is; made = made }))
            ])
      ]
  value_moves (M q c j line) a l = by (transaction_of past q c j) refl
    where
      by : (o : Option Transaction) → transaction_of past q c j ≡ o → (value_of (M q c j line ∷ past) l ≡ value_of past l) ⊎ Stored (M q c j line) l
      by None is = inl (rw is refl)
      by (Some x) is =
          elim (cases_Bool (stores_data x && is_on x l)) [
            | inr f ↦ inl (rw (is, f) refl)
            | inl t ↦ inr (inr (inr (inl (inl (record { port = q; chan = c; id = j; line = line; is = refl; by = stores_m q c j line l a x is t })))))
          ]
  value_moves (R q j resp last word) a l = by (transaction_of past q Read j) refl
    where
      by : (o : Option Transaction) → transaction_of past q Read j ≡ o → (value_of (R q j resp last word ∷ past) l ≡ value_of past l) ⊎ Stored (R q j resp last word) l
      by None is = inl (rw is refl)
      by (Some x) is =
          elim (cases_Bool (discards_data x && is_on x l)) [
            | inr f ↦ inl (rw (is, f) refl)
            | inl t ↦ inr (inr (inr (inl (inr (record { port = q; id = j; resp = resp; last = last; word = word; is = refl; by = discards_r q j resp last word l a x is t })))))
          ]
  value_moves (Mem addr line) a l = inr (inr (inr (inr (opens_of h past addr line a))))
  value_moves _ a l = inl refl

pub snoop_of_kind : (x : Transaction) (k : AwKind) (s : SnoopKind) → is_read x.chan ≡ false → write_kind x ≡ Some k → snoop_of_write k ≡ Some s → snoop_of x ≡ Some s
snoop_of_kind x k s writes kind c =
    let none : read_kind x ≡ None = rw writes refl in
    ap (λ o. snoop_kind_of o (write_kind x)) none ∙ ap (snoop_kind_of None) kind ∙ c

-- the R of a MakeInvalid makes the value what memory has
pub discard_true : (h : Header) (past : Trace) (q j resp : ℕ) (last : Bool) (word : ℕ) (l : ℕ) → AllByRecursion FitsFields past → Discards h past q j l
    → value_of (R q j resp last word ∷ past) l ≡ memory_of past l
discard_true h past q j resp last word l r d =
    let named = d.named in
    let discards = and_from (discards_data d.one) (is_on d.one l) d.discards d.on in
    let value : value_of (R q j resp last word ∷ past) l ≡ merged (value_of past l) full_line (memory_of past l) = rw (named, discards) refl in
    value ∙ merged-line (value_of past l) (memory_of past l) (memory-line past r l)

module _ (h : Header) (past : Trace) where
  -- such a store finds no port with the line
  pub all_empty : IsAccepted h past → (l : ℕ) → Unheld h past l → (p : ℕ) → state_of h past p l ≡ I
  all_empty a l u p =
      elim u.stores [
        | inr discards ↦
            let kind = discards_kind x discards in
            let unfailed : has_failed past x ≡ false = rw (kind, and-false x.lock) refl in
            snooped snoop.MakeInvalid (discards_causes x discards) refl unfailed (inr (inr discards))
        | inl stores ↦
            let k = stores_kind x stores in
            let writes = stores_write x stores in
            elim (or_cases (is_unique_write k.0) (is_no_snoop_write k.0) k.2) [
              | inr quiet ↦
                  let s = transaction_of-stands past x.port x.chan x.id x (outstanding-named h past x.port x.chan x.id x u.out) in
                  no_snoop_unheld h past x p l a (record { there = s.there; before = s.before }) u.on
                  (or_right (is_some_and (read_kind x) _) (is_some_and (write_kind x) is_no_snoop_write) (rw k.1 quiet))
              | inl unique ↦
                  let s = is_some_and-is (snoop_of_write k.0) invalidates (unique_write_snoops k.0 unique) in
                  let unfailed : has_failed past x ≡ false = rw (writes, and-false x.lock) refl in
                  snooped s.0 (snoop_of_kind x k.0 s.0 writes k.1 s.1) s.2 unfailed (inr (inl (rw k.1 (sym (granted_stores k.0) ∙ k.2))))
            ]
      ]
    where
      x : Transaction
      x = u.one

      addr : x.addr ≡ l
      addr = is_on-addr x l u.on

      snooped : (s : SnoopKind) → snoop_of x ≡ Some s → invalidates s ≡ true → has_failed past x ≡ false → StartsEmpty x → state_of h past p l ≡ I
      snooped s causes gone unfailed starts =
          elim (cases_eq x.port p) [
            | inl own ↦ ap (λ b. state_of h past b l) (sym own) ∙ stays_empty h past a x.port x.chan x.id l x u.out u.on starts
            | inr other ↦
                let f = accepted_holds h past a in
                let stands : granted h past x.addr ≡ Some x = ap (granted h past) addr ∙ u.stands in
                subst (λ b. state_of h past p b ≡ I) addr (elim (done_port h past x p f (snoops_done-ports h past x s causes unfailed u.done) other) [
                  | inl empty ↦ empty
                  | inr answered ↦ (f.answers x.addr p x answered.answer s stands answered.is causes).gone (or_right (not (is_shared answered.answer.resp)) (invalidates s) gone)
                ])
          ]
