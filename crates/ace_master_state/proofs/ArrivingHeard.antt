-- What an event leaves of the lines that come to a port.
use Rattle.std.proofs.Common.{◌≡◌, ◌≢◌, ℕ, ◌<◌, Bool, true, false, not, ◌&&◌, ◌||◌, ◌==◌, if◌then◌else◌, List, [], ◌∷◌, ◌++◌, length, slice_get, slice_set, Option, Some, None, inl, inr, refl, sym, ap, subst, ◌∙◌, arith}
use Rattle.std.proofs.lemmas.Bool.{and_parts, and_from, cases_Bool, cases_eq, eq-eqb, eqb-true, false_from_ne_true, ne_eqb, or_cases}
use Rattle.std.proofs.lemmas.List.{length-set}
use Rattle.std.proofs.lemmas.Option.{slice_get_within}
use Rattle.ace_codes.specs.declared.kind.ArKind.{ArKind}
use Rattle.ace_codes.specs.declared.kind.ArKind.TheVariants as read
use Rattle.ace_event.specs.Bytes.{merged}
use Rattle.ace_event.specs.Range.{IsLine}
use Rattle.ace_event.specs.declared.event.Channel.{Channel}
use Rattle.ace_event.specs.declared.event.Channel.TheVariants.{Read, Write}
use Rattle.ace_event.specs.declared.event.Event.{Event}
use Rattle.ace_event.specs.declared.event.Event.TheVariants as event
use Rattle.ace_event.specs.declared.header.Header.{Header}
use Rattle.ace_event.specs.declared.line.Line.{Line}
use Rattle.ace_tables.specs.EndStates.{is_fetch}
use Rattle.ace_model.specs.declared.transactions.Transaction.{Transaction}
use Rattle.ace_model.specs.Accepted.{IsAccepted}
use Rattle.ace_model.specs.CacheRules.{may_store, wants_store}
use Rattle.ace_model.specs.Copies.{copy_of, is_line_read_transaction, words_read}
use Rattle.ace_codes.specs.Reads.{ar_kind_of}
use Rattle.ace_model.specs.Kinds.{beats_of, is_line_read, is_line_write, is_make_unique, reads_a_line}
use Rattle.ace_model.specs.ReadRules.{is_due}
use Rattle.ace_model.specs.States.{awaits_store, has_store, is_store_of}
use Rattle.ace_model.specs.Trace.{Trace, is_some_and, port_of}
use Rattle.ace_model.specs.Transactions.{has_name, has_outstanding_on, is_line, is_make_unique_on, is_named, is_on, is_outstanding, is_outstanding_on, is_read, issued, outstanding, read_kind, some_issued, transaction_of, transfers, write_kind}
use Rattle.ace_model.specs.Values.{full_line}
use Rattle.ace_model.proofs.General.Lists.{slice_get-more}
use Rattle.ace_model.proofs.General.Options.{Some-injective, is_some_and-is}
use Rattle.ace_model.proofs.Rules.Keeps.{accepted_keeps}
use Rattle.ace_model.proofs.Trace.Growth.{IsIssued, issued-new, issued-old, some_issued-is}
use Rattle.ace_model.proofs.Trace.Issued.{outstanding-name, outstanding-named, outstanding-origin}
use Rattle.ace_model.proofs.Trace.LineOnce.{one_on_line, outstanding_found, outstanding_is}
use Rattle.ace_model.proofs.Trace.Looks.{Named, has_name-is}
use Rattle.ace_model.proofs.Values.FullReads.{issue_transfers, transfer_moves, words-length}
use Rattle.ace_model.proofs.Values.MergedLines.{merged-line}
use Rattle.ace_model.proofs.Values.Stays.{may_free}
use Rattle.ace_model.proofs.Values.Stores.{awaits_store-is}
use Rattle.ace_model.proofs.Grants.Begins.{may_of}
use Rattle.ace_portck.specs.Targets.{last_issued, own_of}
use Rattle.ace_runs.specs.Segments.{is_at_port}
use Rattle.ace_master_state.specs.Arriving.{line_under}
use Rattle.ace_master_state.specs.Cached.{ArrivingStand, HasLowId}
use Rattle.ace_master_state.proofs.ArrivingLists.{get-other, get-set, under-other, under-set}

-- ---- MakeUniques -------------------------------------------------------------------------------------

make-line : (x : Transaction) → is_some_and (read_kind x) is_make_unique ≡ true → is_on x x.addr ≡ true
make-line x t =
    let k = is_some_and-is (read_kind x) is_make_unique t in
    and_from _ _ (by (read_kind x) k.0 k.1 k.2) (eq-eqb x.addr x.addr refl)
  where
    by : (o : Option ArKind) (k : ArKind) → o ≡ Some k → is_make_unique k ≡ true → (is_some_and o is_line_read || is_some_and (write_kind x) is_line_write) ≡ true
    by None k is m = cc
    by (Some read.MakeUnique) k is m = refl
    by (Some v) k is m = (let same = Some-injective v k is in let bad : is_make_unique v ≡ true = ap is_make_unique same ∙ m in cc)

-- it brings no line
make-no-line-read : (x : Transaction) → is_some_and (read_kind x) is_make_unique ≡ true → is_line_read_transaction x ≡ true → ⊥
make-no-line-read x t r = by (read_kind x) t r
  where
    by : (o : Option ArKind) → is_some_and o is_make_unique ≡ true → is_some_and o reads_a_line ≡ true → ⊥
    by None t r = cc
    by (Some read.MakeUnique) t r = cc
    by (Some k) t r = cc

make-no-fetch : (x : Transaction) → is_some_and (read_kind x) is_make_unique ≡ true → is_some_and (read_kind x) is_fetch ≡ true → ⊥
make-no-fetch x t r = by (read_kind x) t r
  where
    by : (o : Option ArKind) → is_some_and o is_make_unique ≡ true → is_some_and o is_fetch ≡ true → ⊥
    by None t r = cc
    by (Some read.MakeUnique) t r = cc
    by (Some k) t r = cc

-- The port's own transaction on a line.
pub record Owns (h : Header) (past : Trace) (p l : ℕ) (y : Transaction) : Type 0 where
  pub out : outstanding h past p y.chan y.id ≡ Some y
  pub on : is_on y l ≡ true

last-passes : (past : Trace) (test : Transaction → Bool) (y : Transaction) → last_issued past test ≡ Some y → IsIssued past y × (test y ≡ true)
last-passes [] test y is = cc
last-passes (e ∷ past) test y is =
    elim (cases_Bool (is_some_and (issued (length past) e) test)) [
      | inl t ↦
          let new : issued (length past) e ≡ Some y = rw t at is in
          (issued-new e past y new, (let both = t in rw new at both))
      | inr f ↦ let old = last-passes past test y (rw f at is) in (issued-old e past y old.0, old.1)
    ]

pub last-none : (past : Trace) (test : Transaction → Bool) → last_issued past test ≡ None → some_issued past test ≡ false
last-none [] test is = refl
last-none (e ∷ past) test is =
    elim (cases_Bool (is_some_and (issued (length past) e) test)) [
      | inl t ↦
          let x = is_some_and-is (issued (length past) e) test t in
          let new : issued (length past) e ≡ None = rw t at is in
          let bad : None ≡ Some x.0 = sym new ∙ x.1 in cc
      | inr f ↦ let old : last_issued past test ≡ None = rw f at is in rw f (last-none past test old)
    ]

pub own-on : (h : Header) (past : Trace) (p l : ℕ) (y : Transaction) → own_of h past p l ≡ Some y → Owns h past p l y
own-on h past p l y is =
    let o = last-passes past (is_outstanding_on h past p l) y is in
    let parts = and_parts ((y.port == p) && is_on y l) (is_outstanding h past y) o.1 in
    let two = and_parts (y.port == p) (is_on y l) parts.0 in
    record { out = ap (λ q. outstanding h past q y.chan y.id) (sym (eqb-true y.port p two.0)) ∙ outstanding_is h past y o.0 parts.1; on = two.1 }

fetch-beats : (k : ArKind) → is_fetch k ≡ true → beats_of k ≡ 4
fetch-beats read.ReadClean f = refl
fetch-beats read.ReadNotSharedDirty f = refl
fetch-beats read.ReadShared f = refl
fetch-beats read.ReadUnique f = refl
fetch-beats k f = cc

module _ (h : Header) (past : Trace) (p : ℕ) where
  -- The MakeUnique to which a store of the port belongs, where a transaction on the line is outstanding.
  pub record Makes (addr strobe : ℕ) : Type 0 where
    pub one : Transaction
    pub out : outstanding h past p Read one.id ≡ Some one
    pub make : is_some_and (read_kind one) is_make_unique ≡ true
    pub on : is_on one addr ≡ true
    pub lacks : has_store h past p one.id ≡ false
    pub whole : strobe ≡ full_line

  pub makes : (addr strobe : ℕ) (x : Bool) (line : Line) → IsAccepted h (event.D p addr strobe x line ∷ past) → has_outstanding_on h past p addr ≡ true → Makes addr strobe
  makes addr strobe x line a busy =
      elim (or_cases (may_store h past p addr) _ (accepted_keeps h past (event.D p addr strobe x line) a).rule_32) [
        | inl may ↦ let free = may_free h past p addr may in let bad : true ≡ false = sym busy ∙ free in cc
        | inr wants ↦
            let parts = and_parts (wants_store h past p addr && not x) (strobe == full_line) wants in
            let some = some_issued-is past (λ y. awaits_store h past p addr y && not (has_store h past y.port y.id)) (and_parts (wants_store h past p addr) _ parts.0).0 in
            let y = some.0 in
            let both = and_parts (awaits_store h past p addr y) _ some.2 in
            let w = awaits_store-is h past p addr y both.0 in
            let chan = make-reads y (make-kind y addr (and_parts _ _ (and_parts _ _ (and_parts _ _ both.0).0).0).1) in
            let out : outstanding h past p Read y.id ≡ Some y = ap (λ c. outstanding h past p c y.id) (sym chan) ∙ ap (λ q. outstanding h past q y.chan y.id) (sym w.port) ∙ outstanding_is h past y some.1 w.out in
            record {
              one = y;
              out = out;
              make = make-kind y addr (and_parts _ _ (and_parts _ _ (and_parts _ _ both.0).0).0).1;
              on = w.on;
              lacks = ap (λ q. has_store h past q y.id) (sym w.port) ∙ turned (has_store h past y.port y.id) both.1;
              whole = eqb-true strobe full_line parts.1;
            }
      ]
    where
      turned : (b : Bool) → not b ≡ true → b ≡ false
      turned true t = cc
      turned false t = refl

      make-kind : (y : Transaction) (l : ℕ) → is_make_unique_on y l ≡ true → is_some_and (read_kind y) is_make_unique ≡ true
      make-kind y l t = (and_parts _ (y.addr == l) t).0

      make-reads : (y : Transaction) → is_some_and (read_kind y) is_make_unique ≡ true → y.chan ≡ Read
      make-reads y t = by y.chan t
        where
          by : (c : Channel) → is_some_and (if is_read c then ar_kind_of y.snoop y.dom y.bar else None) is_make_unique ≡ true → c ≡ Read
          by Read t = refl
          by Write t = cc

  -- a MakeUnique that has its store keeps its copy
  pub store-stays : (e : Event) → IsAccepted h (e ∷ past) → (i : ℕ) (x : Transaction) → outstanding h past p Read i ≡ Some x → is_some_and (read_kind x) is_make_unique ≡ true
      → has_store h past p i ≡ true → copy_of (e ∷ past) p x.addr ≡ copy_of past p x.addr
  store-stays (event.R q j resp last word) a i x out make has =
      elim (cases_Bool (((p == q) && (length (words_read past p j) == 3)) && is_some_and (transaction_of past p Read j) (λ y. is_on y x.addr && is_line_read_transaction y))) [
        | inr f ↦ rw f refl
        | inl t ↦
            let parts = and_parts ((p == q) && (length (words_read past p j) == 3)) _ t in
            let port = eqb-true p q (and_parts (p == q) _ parts.0).0 in
            let y = is_some_and-is (transaction_of past p Read j) (λ y. is_on y x.addr && is_line_read_transaction y) parts.1 in
            let two = and_parts (is_on y.0 x.addr) (is_line_read_transaction y.0) y.2 in
            let z = is_some_and-is (outstanding h past q Read j) (is_due h past resp last) (accepted_keeps h past (event.R q j resp last word) a).rule_18 in
            let out_z : outstanding h past p Read j ≡ Some z.0 = ap (λ r. outstanding h past r Read j) port ∙ z.1 in
            let same : z.0 ≡ y.0 = Some-injective z.0 y.0 (sym (outstanding-named h past p Read j z.0 out_z) ∙ y.1) in
            let one = one_on_line h past a.0 p Read Read j i x.addr y.0 x (out_z ∙ ap Some same) out two.0 (make-line x make) in
            absurd (make-no-line-read x make (ap is_line_read_transaction (sym one) ∙ two.1))
      ]
  store-stays (event.D q addr strobe b line) a i x out make has =
      elim (cases_Bool ((p == q) && (x.addr == addr))) [
        | inr f ↦ rw f refl
        | inl t ↦
            let parts = and_parts (p == q) (x.addr == addr) t in
            let port = eqb-true p q parts.0 in
            let at = eqb-true x.addr addr parts.1 in
            let on : is_on x addr ≡ true = ap (is_on x) (sym at) ∙ make-line x make in
            let m = makes addr strobe b line (subst (λ r. IsAccepted h (event.D r addr strobe b line ∷ past)) (sym port) a) (outstanding_found h past p Read i addr x out on) in
            let one = one_on_line h past a.0 p Read Read m.one.id i addr m.one x m.out out m.on on in
            let id : m.one.id ≡ i = ap (λ (v : Transaction). v.id) one ∙ (outstanding-name h past p Read i x out).id in
            let bad : true ≡ false = sym has ∙ ap (has_store h past p) (sym id) ∙ m.lacks in cc
      ]
  store-stays e a i x out make has = refl

-- ---- an event ----------------------------------------------------------------------------------------

-- What is asked of the lines after the event: each that was there before is as the trace says now.
pub record IsBrought (h : Header) (past : Trace) (e : Event) (p : ℕ) (now : List Line) : Type 0 where
  pub four : (i : ℕ) → i < 16 → length (line_under now i).words ≡ 4
  pub words :
      (i : ℕ) (x : Transaction) → outstanding h past p Read i ≡ Some x → is_named (issued (length past) e) p Read i ≡ false → is_some_and (read_kind x) is_fetch ≡ true
      → (n w : ℕ) → slice_get (words_read (e ∷ past) p i) n ≡ Some w → slice_get (line_under now i).words n ≡ Some w
  pub stored :
      (i : ℕ) (x : Transaction) → outstanding h past p Read i ≡ Some x → is_some_and (read_kind x) is_make_unique ≡ true → (is_store_of h past e p i || has_store h past p i) ≡ true
      → line_under now i ≡ copy_of (e ∷ past) p x.addr

module _ (h : Header) (past : Trace) (e : Event) (p : ℕ) where
  low-id : (i : ℕ) (x : Transaction) → issued (length past) e ≡ Some x → has_name x p Read i ≡ true → (port_of e ≡ Some p → HasLowId e) → i < 16
  low-id i x new named low = by e new low
    where
      name : Named x p Read i
      name = has_name-is x p Read i named

      by : (d : Event) → issued (length past) d ≡ Some x → (port_of d ≡ Some p → HasLowId d) → i < 16
      by (event.Ar q j addr snoop dom bar lock) new low =
          let same = Some-injective _ x new in
          let own = low (ap Some (ap (λ (v : Transaction). v.port) same ∙ name.port)) in
          let id : j ≡ i = ap (λ (v : Transaction). v.id) same ∙ name.id in
          omega (arith, own, id)
      by (event.Aw q j addr snoop dom bar) new low = (let bad : Write ≡ Read = ap (λ (v : Transaction). v.chan) (Some-injective _ x new) ∙ name.chan in cc)
      by d new low = cc

  -- a new read has no words
  no-words : (i n w : ℕ) (x : Transaction) → issued (length past) e ≡ Some x → has_name x p Read i ≡ true → slice_get (words_read (e ∷ past) p i) n ≡ Some w → ⊥
  no-words i n w x new named is =
      let within = slice_get_within (words_read (e ∷ past) p i) n w is in
      let count = words-length (e ∷ past) p i in
      let none = issue_transfers past e p i x new named in
      absurd (omega (arith, within, count, none))

  -- and no store
  no-store : (i : ℕ) (x : Transaction) → issued (length past) e ≡ Some x → has_name x p Read i ≡ true → has_store h (e ∷ past) p i ≡ false
  no-store i x new named = by e new
    where
      by : (d : Event) → issued (length past) d ≡ Some x → (is_store_of h past d p i || (not (is_named (issued (length past) d) p Read i) && has_store h past p i)) ≡ false
      by (event.Ar q j addr snoop dom bar lock) new = (let is : is_named (issued (length past) (event.Ar q j addr snoop dom bar lock)) p Read i ≡ true = ap (λ o. is_named o p Read i) new ∙ named in rw is refl)
      by (event.Aw q j addr snoop dom bar) new = (let is : is_named (issued (length past) (event.Aw q j addr snoop dom bar)) p Read i ≡ true = ap (λ o. is_named o p Read i) new ∙ named in rw is refl)
      by d new = cc

  pub arriving-heard : (was now : List Line) → ArrivingStand h past p was → (port_of e ≡ Some p → HasLowId e) → IsBrought h past e p now → ArrivingStand h (e ∷ past) p now
  arriving-heard was now s ids b = record {
    low = λ i x out. elim (outstanding-origin h past e p Read i x out) [
      | inl new ↦ low-id i x new.0 new.1 ids
      | inr old ↦ s.low i x old.was
    ];
    four = b.four;
    words = λ i x out fetch n w is. elim (outstanding-origin h past e p Read i x out) [
      | inl new ↦ absurd (no-words i n w x new.0 new.1 is)
      | inr old ↦ b.words i x old.was old.other fetch n w is
    ];
    stored = λ i x out make has. elim (outstanding-origin h past e p Read i x out) [
      | inl new ↦ (let none = no-store i x new.0 new.1 in let bad : true ≡ false = sym has ∙ none in cc)
      | inr old ↦
          let other = old.other in
          let kept : (is_store_of h past e p i || has_store h past p i) ≡ true = (let t : (is_store_of h past e p i || (not (is_named (issued (length past) e) p Read i) && has_store h past p i)) ≡ true = has in rw other at t) in
          b.stored i x old.was make kept
    ];
  }

-- ---- an event that brings nothing --------------------------------------------------------------------

module _ (h : Header) (past : Trace) (e : Event) (a : IsAccepted h (e ∷ past)) (p : ℕ) (was : List Line) (s : ArrivingStand h past p was) where
  -- no words, and no store
  nothing-brought : ((i : ℕ) → is_named (issued (length past) e) p Read i ≡ false → words_read (e ∷ past) p i ≡ words_read past p i)
      → ((i : ℕ) → is_store_of h past e p i ≡ false) → IsBrought h past e p was
  nothing-brought words none = record {
    four = s.four;
    words = λ i x out other fetch n w is. s.words i x out fetch n w (ap (λ ws. slice_get ws n) (sym (words i other)) ∙ is);
    stored = λ i x out make has.
        let off = none i in
        let old : has_store h past p i ≡ true = rw off at has in
        s.stored i x out make old ∙ sym (store-stays h past p e a i x out make old);
  }

  pub quiet-brings : ((q i resp : ℕ) (last : Bool) (word : ℕ) → e ≢ event.R q i resp last word) → ((q addr strobe : ℕ) (x : Bool) (line : Line) → e ≢ event.D q addr strobe x line) → IsBrought h past e p was
  quiet-brings no_read no_store =
      nothing-brought (λ i other. elim (transfer_moves past e p i other) [
        | inl none ↦ none.words
        | inr t ↦ absurd (no_read p i t.resp t.last t.word t.is)
      ]) (λ i. by e no_store i)
    where
      by : (d : Event) → ((q addr strobe : ℕ) (x : Bool) (line : Line) → d ≢ event.D q addr strobe x line) → (i : ℕ) → is_store_of h past d p i ≡ false
      by (event.D q addr strobe x line) none i = absurd (none q addr strobe x line refl)
      by d none i = refl

  pub elsewhere-brings : is_at_port p e ≡ false → IsBrought h past e p was
  elsewhere-brings apart =
      nothing-brought (λ i other. elim (transfer_moves past e p i other) [
        | inl none ↦ none.words
        | inr t ↦
            let here : is_at_port p e ≡ true = ap (is_at_port p) t.is ∙ eq-eqb p p refl in
            let bad : true ≡ false = sym here ∙ apart in cc
      ]) (λ i. by e apart i)
    where
      by : (d : Event) → is_at_port p d ≡ false → (i : ℕ) → is_store_of h past d p i ≡ false
      by (event.D q addr strobe x line) off i = (let swapped : (p == q) ≡ false = false_from_ne_true (p == q) (λ t. let back = eq-eqb q p (sym (eqb-true p q t)) in cc) in rw swapped refl)
      by d off i = refl

-- ---- a transfer --------------------------------------------------------------------------------------

module _ (h : Header) (past : Trace) (p i resp : ℕ) (last : Bool) (word : ℕ) (a : IsAccepted h (event.R p i resp last word ∷ past)) (was : List Line) (s : ArrivingStand h past p was) where
  abbrev transfer : Event
  transfer = event.R p i resp last word

  words-here : words_read (transfer ∷ past) p i ≡ words_read past p i ++ word ∷ []
  words-here = let pp : (p == p) ≡ true = eq-eqb p p refl in let ii : (i == i) ≡ true = eq-eqb i i refl in rw (pp, ii) refl

  words-other : (j : ℕ) → j ≢ i → words_read (transfer ∷ past) p j ≡ words_read past p j
  words-other j apart = let f : (j == i) ≡ false = ne_eqb j i apart in let none : ((p == p) && (j == i)) ≡ false = ap (λ b. (p == p) && b) f ∙ and-false (p == p) in rw none refl
    where
      and-false : (b : Bool) → (b && false) ≡ false
      and-false true = refl
      and-false false = refl

  -- of a read that isn't a fetch
  pub other-transfer-brings : (x : Transaction) → outstanding h past p Read i ≡ Some x → is_some_and (read_kind x) is_fetch ≡ false → IsBrought h past transfer p was
  other-transfer-brings x out off = record {
    four = s.four;
    words = λ j y out_y other fetch n w is. elim (cases_eq j i) [
      | inl same ↦
          let one : y ≡ x = Some-injective y x (sym out_y ∙ ap (outstanding h past p Read) same ∙ out) in
          let bad : true ≡ false = sym fetch ∙ ap (λ (v : Transaction). is_some_and (read_kind v) is_fetch) one ∙ off in cc
      | inr apart ↦ s.words j y out_y fetch n w (ap (λ ws. slice_get ws n) (sym (words-other j apart)) ∙ is)
    ];
    stored = λ j y out_y make has. s.stored j y out_y make has ∙ sym (store-stays h past p transfer a j y out_y make has);
  }

  pub few-words : (x : Transaction) → outstanding h past p Read i ≡ Some x → is_some_and (read_kind x) is_fetch ≡ true → transfers past p i < 4
  few-words x out fetch =
      let m = may_of h past p i resp last word a in
      let one : m.one ≡ x = Some-injective m.one x (sym m.out ∙ out) in
      let k = is_some_and-is (read_kind x) is_fetch fetch in
      let kind : m.kind ≡ k.0 = Some-injective m.kind k.0 (sym m.is_kind ∙ ap read_kind one ∙ k.1) in
      let beats = ap beats_of kind ∙ fetch-beats k.0 k.2 in
      let low = m.few in
      omega (arith, low, beats)

  -- of a fetch
  pub transfer-brings : (x : Transaction) → outstanding h past p Read i ≡ Some x → is_some_and (read_kind x) is_fetch ≡ true → length was ≡ 16
      → IsBrought h past transfer p (slice_set was i (record { words = slice_set (line_under was i).words (transfers past p i) word }))
  transfer-brings x out fetch long =
      let low = s.low i x out in
      let new : Line = record { words = slice_set (line_under was i).words (transfers past p i) word } in
      let there : line_under (slice_set was i new) i ≡ new = under-set was i new (omega (arith, low, long)) in
      let count = words-length past p i in
      let few = few-words x out fetch in
      record {
        four = λ j low_j. elim (cases_eq j i) [
          | inl same ↦ ap (λ k. length (line_under (slice_set was i new) k).words) same ∙ ap (λ (v : Line). length v.words) there ∙ length-set (line_under was i).words (transfers past p i) word ∙ s.four i low
          | inr apart ↦ ap (λ (v : Line). length v.words) (under-other was i j new apart) ∙ s.four j low_j
        ];
        words = λ j y out_y other kind n w is. elim (cases_eq j i) [
          | inr apart ↦
              ap (λ (v : Line). slice_get v.words n) (under-other was i j new apart)
              ∙ s.words j y out_y kind n w (ap (λ ws. slice_get ws n) (sym (words-other j apart)) ∙ is)
          | inl same ↦
              ap (λ k. slice_get (line_under (slice_set was i new) k).words n) same ∙ ap (λ (v : Line). slice_get v.words n) there
              ∙ elim (slice_get-more (words_read past p i) (Some word) n w (ap (λ ws. slice_get ws n) (sym words-here) ∙ ap (λ k. slice_get (words_read (transfer ∷ past) p k) n) (sym same) ∙ is)) [
                | inl old ↦
                    let within = slice_get_within (words_read past p i) n w old in
                    get-other (line_under was i).words (transfers past p i) n word (λ e. absurd (omega (arith, within, count, e)))
                    ∙ s.words i x out fetch n w old
                | inr now ↦
                    let four = s.four i low in
                    let at : n ≡ transfers past p i = now.0 ∙ count in
                    ap (slice_get (slice_set (line_under was i).words (transfers past p i) word)) at
                    ∙ get-set (line_under was i).words (transfers past p i) word (omega (arith, four, few)) ∙ now.1
              ]
        ];
        stored = λ j y out_y make has. elim (cases_eq j i) [
          | inl same ↦
              let one : y ≡ x = Some-injective y x (sym out_y ∙ ap (outstanding h past p Read) same ∙ out) in
              absurd (make-no-fetch y make (ap (λ (v : Transaction). is_some_and (read_kind v) is_fetch) one ∙ fetch))
          | inr apart ↦ under-other was i j new apart ∙ s.stored j y out_y make has ∙ sym (store-stays h past p transfer a j y out_y make has)
        ];
      }

-- ---- a store -----------------------------------------------------------------------------------------

module _ (h : Header) (past : Trace) (p addr strobe : ℕ) (x : Bool) (line : Line) (a : IsAccepted h (event.D p addr strobe x line ∷ past)) (fits : IsLine line) (was : List Line) (s : ArrivingStand h past p was) where
  abbrev store : Event
  store = event.D p addr strobe x line

  -- whether it is the store of the read under the identifier
  stores-here : (j : ℕ) (y : Transaction) → outstanding h past p Read j ≡ Some y → is_store_of h past store p j ≡ awaits_store h past p addr y
  stores-here j y out = ap (λ b. b && is_some_and (outstanding h past p Read j) (awaits_store h past p addr)) (eq-eqb p p refl) ∙ ap (λ o. is_some_and o (awaits_store h past p addr)) out

  -- a line on which nothing is outstanding
  pub plain-store-brings : has_outstanding_on h past p addr ≡ false → IsBrought h past store p was
  plain-store-brings free = record {
    four = s.four;
    words = λ j y out other fetch n w is. s.words j y out fetch n w is;
    stored = λ j y out make has.
        elim (or_cases (is_store_of h past store p j) (has_store h past p j) has) [
          | inr old ↦ s.stored j y out make old ∙ sym (store-stays h past p store a j y out make old)
          | inl now ↦
              let w = awaits_store-is h past p addr y (sym (stores-here j y out) ∙ now) in
              let busy = outstanding_found h past p Read j addr y out w.on in
              let bad : true ≡ false = sym busy ∙ free in cc
        ];
  }

  -- the store of a MakeUnique
  pub store-brings : (y : Transaction) → own_of h past p addr ≡ Some y → length was ≡ 16 → IsBrought h past store p (slice_set was y.id line)
  store-brings y own long =
      let o = own-on h past p addr y own in
      let m = makes h past p addr strobe x line a (outstanding_found h past p y.chan y.id addr y o.out o.on) in
      let one = one_on_line h past a.0 p y.chan Read y.id m.one.id addr y m.one o.out m.out o.on m.on in
      let id : y.id ≡ m.one.id = ap (λ (v : Transaction). v.id) one in
      let low : y.id < 16 = (let l = s.low m.one.id m.one m.out in omega (arith, l, id)) in
      let there : line_under (slice_set was y.id line) y.id ≡ line = under-set was y.id line (omega (arith, low, long)) in
      let named : outstanding h past p Read y.id ≡ Some m.one = ap (outstanding h past p Read) id ∙ m.out in
      record {
        four = λ j low_j. elim (cases_eq j y.id) [
          | inl same ↦ ap (λ k. length (line_under (slice_set was y.id line) k).words) same ∙ ap (λ (v : Line). length v.words) there ∙ fits.0
          | inr apart ↦ ap (λ (v : Line). length v.words) (under-other was y.id j line apart) ∙ s.four j low_j
        ];
        words = λ j z out other fetch n w is. elim (cases_eq j y.id) [
          | inr apart ↦ ap (λ (v : Line). slice_get v.words n) (under-other was y.id j line apart) ∙ s.words j z out fetch n w is
          | inl same ↦
              let z_is : z ≡ m.one = Some-injective z m.one (sym out ∙ ap (outstanding h past p Read) same ∙ named) in
              absurd (make-no-fetch m.one m.make (ap (λ (v : Transaction). is_some_and (read_kind v) is_fetch) (sym z_is) ∙ fetch))
        ];
        stored = λ j z out make has. elim (cases_eq j y.id) [
          | inr apart ↦
              elim (or_cases (is_store_of h past store p j) (has_store h past p j) has) [
                | inr old ↦ under-other was y.id j line apart ∙ s.stored j z out make old ∙ sym (store-stays h past p store a j z out make old)
                | inl now ↦
                    let w = awaits_store-is h past p addr z (sym (stores-here j z out) ∙ now) in
                    let z_is = one_on_line h past a.0 p Read Read j m.one.id addr z m.one out m.out w.on m.on in
                    absurd (apart (sym (outstanding-name h past p Read j z out).id ∙ ap (λ (v : Transaction). v.id) z_is ∙ sym id))
              ]
          | inl same ↦
              let z_is : z ≡ m.one = Some-injective z m.one (sym out ∙ ap (outstanding h past p Read) same ∙ named) in
              let at : z.addr ≡ addr = ap (λ (v : Transaction). v.addr) z_is ∙ eqb-true m.one.addr addr (and_parts (is_line m.one) (m.one.addr == addr) m.on).1 in
              let pp : (p == p) ≡ true = eq-eqb p p refl in
              let aa : (addr == addr) ≡ true = eq-eqb addr addr refl in
              let now : copy_of (store ∷ past) p addr ≡ merged (copy_of past p addr) strobe line = rw (pp, aa) refl in
              ap (line_under (slice_set was y.id line)) same ∙ there
              ∙ sym (ap (copy_of (store ∷ past) p) at ∙ now ∙ ap (λ v. merged (copy_of past p addr) v line) m.whole ∙ merged-line (copy_of past p addr) line fits)
        ];
      }
