-- With each event of a port, what its change leaves of the way of a line says what the port has of the line.
use Rattle.std.proofs.Common.{◌≡◌, ◌≢◌, ℕ, Bool, true, false, not, ◌&&◌, ◌==◌, if◌then◌else◌, List, ◌∷◌, length, Option, Some, None, unwrap_or, inl, inr, refl, sym, ap, subst, ◌∙◌, arith}
use Rattle.std.specs.List.{AllByRecursion}
use Rattle.std.proofs.lemmas.Bool.{and_parts, and_from, cases_Bool, eq-eqb, eqb-true, or_cases}
use Rattle.std.proofs.lemmas.Option.{slice_get-get_or, slice_get_within}
use Rattle.ace_codes.specs.declared.kind.ArKind.{ArKind}
use Rattle.ace_codes.specs.declared.kind.ArKind.TheVariants as read
use Rattle.ace_codes.specs.declared.state.LineState.{LineState}
use Rattle.ace_codes.specs.declared.state.LineState.TheVariants.{I, UD}
use Rattle.ace_event.specs.Bytes.{merged}
use Rattle.ace_event.specs.Range.{FitsFields}
use Rattle.ace_event.specs.declared.event.Channel.TheVariants.{Read, Write}
use Rattle.ace_event.specs.declared.event.Event.{Event}
use Rattle.ace_event.specs.declared.event.Event.TheVariants as event
use Rattle.ace_event.specs.declared.header.Header.{Header}
use Rattle.ace_event.specs.declared.line.Line.{Line}
use Rattle.ace_tables.specs.EndStates.{is_fetch}
use Rattle.ace_tables.specs.States.{is_invalid, is_unique}
use Rattle.ace_model.specs.declared.transactions.Transaction.{Transaction}
use Rattle.ace_model.specs.Accepted.{IsAccepted}
use Rattle.ace_model.specs.CacheRules.{may_store, wants_store}
use Rattle.ace_model.specs.Copies.{copy_of, is_line_read_transaction, received, words_read}
use Rattle.ace_model.specs.Kinds.{beats_of, is_make_unique}
use Rattle.ace_model.specs.ReadRules.{is_due}
use Rattle.ace_model.specs.Snoops.{answered, answers_line}
use Rattle.ace_model.specs.States.{awaits_store, has_store, is_in_make_unique, state_of}
use Rattle.ace_model.specs.Trace.{Trace, is_some_and, port_of}
use Rattle.ace_model.specs.Transactions.{acknowledged, ended, has_outstanding_on, is_ace, is_on, is_outstanding_on, is_some_on, issued, outstanding, read_kind, transaction_of, transfers}
use Rattle.ace_model.specs.Values.{value_of}
use Rattle.ace_model.proofs.General.Options.{Some-injective, is_some_and-is}
use Rattle.ace_model.proofs.Holders.Rises.{ends_line_of, stays_empty, state_moves}
use Rattle.ace_model.proofs.Rules.Keeps.{accepted_keeps}
use Rattle.ace_model.proofs.Trace.Growth.{some_issued-weaker}
use Rattle.ace_model.proofs.Trace.Issued.{outstanding-name, outstanding-named}
use Rattle.ace_model.proofs.Trace.Outstanding.{acknowledged_is}
use Rattle.ace_model.proofs.Trace.Transfers.{full_count}
use Rattle.ace_model.proofs.Values.FullReads.{words-length}
use Rattle.ace_model.proofs.Values.Law.{facts}
use Rattle.ace_model.proofs.Values.MergedLines.{value-length, whole_line}
use Rattle.ace_model.proofs.Values.Passed.{no_make_unique}
use Rattle.ace_model.proofs.Values.Stays.{may_free, may_unique}
use Rattle.ace_model.proofs.Values.Stores.{awaits_store-is}
use Rattle.ace_portck.proofs.Found.{acknowledged_named}
use Rattle.ace_cache.specs.declared.way.Way.{Way}
use Rattle.ace_master_state.specs.Arriving.{line_under}
use Rattle.ace_master_state.specs.Cached.{ArrivingStand, LineHeld, state_in}
use Rattle.ace_master_state.specs.Change.{change_of, changed}
use Rattle.ace_master_state.proofs.OwnLines.{becomes-held, becomes-here, begins-held, ends-held, stays-held, stores-held}
use Rattle.ace_master_state.proofs.UnderWay.{as-before}

fetch-beats : (k : ArKind) → is_fetch k ≡ true → beats_of k ≡ 4
fetch-beats read.ReadClean f = refl
fetch-beats read.ReadNotSharedDirty f = refl
fetch-beats read.ReadShared f = refl
fetch-beats read.ReadUnique f = refl
fetch-beats k f = cc

module _ (h : Header) (past : Trace) (p l : ℕ) where
  -- no event but an RK brings a line that the port doesn't hold
  stays-none : (e : Event) → IsAccepted h (e ∷ past) → ((q : ℕ) (st : LineState) → e ≢ event.Rk q st) → state_of h past p l ≡ I → state_of h (e ∷ past) p l ≡ I
  stays-none e a other none =
      elim (state_moves h past e a p l) [
        | inl less ↦ less.gone none
        | inr up ↦ absurd (other up.port up.st up.is)
      ]

  -- an event that begins and ends nothing
  stays-busy : (e : Event) → IsAccepted h (e ∷ past) → issued (length past) e ≡ None → ended h past e ≡ None → has_outstanding_on h (e ∷ past) p l ≡ has_outstanding_on h past p l
  stays-busy e a new gone =
      as-before h past e a p l (λ x is port. let bad : None ≡ Some x = sym new ∙ is in cc) (λ z is. let bad : None ≡ Some z = sym gone ∙ is in cc)

  -- ---- what comes with an RK -------------------------------------------------------------------------

  -- the bytes that a fetch has brought are the copy
  fetched : (arriving : List Line) → IsAccepted h past → AllByRecursion FitsFields past → ArrivingStand h past p arriving → (i : ℕ) (x : Transaction) (k : ArKind)
      → outstanding h past p Read i ≡ Some x → is_on x l ≡ true → read_kind x ≡ Some k → is_fetch k ≡ true → transfers past p i ≡ 4 → line_under arriving i ≡ copy_of past p l
  fetched arriving a fits s i x k out on kind fetch four =
      let f = (facts h past a fits).fetches p i l x k out on kind fetch (λ none. let n = four in absurd (omega (arith, n, none))) in
      let low = s.low i x out in
      let length4 = s.four i low in
      let kinds : is_some_and (read_kind x) is_fetch ≡ true = ap (λ o. is_some_and o is_fetch) kind ∙ fetch in
      let count = words-length past p i in
      whole_line (line_under arriving i).words (value_of past l) length4 (value-length past l fits)
      (λ n w is.
      let within = slice_get_within (line_under arriving i).words n w is in
      let there = slice_get-get_or (words_read past p i) n 0 (omega (arith, within, length4, four, count)) in
      let mine = s.words i x out kinds n _ there in
      let same = Some-injective _ w (sym mine ∙ is) in
      sym same ∙ f.words n _ there)
      ∙ sym (f.whole four)

  fresh : (st : LineState) → IsAccepted h (event.Rk p st ∷ past) → (arriving : List Line) → AllByRecursion FitsFields past → ArrivingStand h past p arriving
      → (x : Transaction) → acknowledged past p Read ≡ Some x → is_on x l ≡ true → state_of h past p l ≡ I → is_invalid st ≡ false → line_under arriving x.id ≡ copy_of past p l
  fresh st a arriving fits s x is on none some =
      let named : ((p == p) && is_some_on (acknowledged past p Read) l) ≡ true = and_from _ _ (eq-eqb p p refl) (ap (λ o. is_some_on o l) is ∙ on) in
      let d = ends_line_of h past p st a p l named in
      let one : d.one ≡ x = Some-injective d.one x (sym d.ends_it ∙ is) in
      let id : x.id ≡ d.id = ap (λ (v : Transaction). v.id) (sym one) ∙ (outstanding-name h past p Read d.id d.one d.out).id in
      let invalid : is_invalid (state_of h past p l) ≡ true = ap is_invalid none in
      ap (line_under arriving) id
      ∙ elim (d.state.gains invalid some) [
        | inl fetch ↦ fetched arriving a.0 fits s d.id d.one d.kind d.out d.on d.is_kind fetch (full_count past p d.id d.one d.kind d.full d.is_kind ∙ fetch-beats d.kind fetch)
        | inr make ↦ s.stored d.id d.one d.out (ap (λ o. is_some_and o is_make_unique) d.is_kind ∙ make) (d.stored make) ∙ ap (copy_of past p) d.line
      ]

  -- ---- a store ---------------------------------------------------------------------------------------

  -- Whether it is one of a MakeUnique.
  record Stored (addr : ℕ) : Type 0 where
    same : is_in_make_unique h past p addr ≡ has_outstanding_on h past p addr
    valid : has_outstanding_on h past p addr ≡ false → is_invalid (state_of h past p addr) ≡ false

  unique-valid : (st : LineState) → is_unique st ≡ true → is_invalid st ≡ false
  unique-valid I u = cc
  unique-valid st u = refl

  stored : (addr strobe : ℕ) (x : Bool) (line : Line) → IsAccepted h (event.D p addr strobe x line ∷ past) → Stored addr
  stored addr strobe x line a =
      elim (or_cases (may_store h past p addr) _ (accepted_keeps h past (event.D p addr strobe x line) a).rule_32) [
        | inl may ↦ record {
          same = no_make_unique h past p addr may ∙ sym (may_free h past p addr may);
          valid = λ free. unique-valid (state_of h past p addr) (may_unique h past p addr may);
        }
        | inr makes ↦
            let wants = (and_parts (wants_store h past p addr) _ (and_parts (wants_store h past p addr && not x) _ makes).0).0 in
            let awaits : is_in_make_unique h past p addr ≡ true =
            some_issued-weaker past (λ y. awaits_store h past p addr y && not (has_store h past y.port y.id)) (awaits_store h past p addr) (λ y t. (and_parts (awaits_store h past p addr y) _ t).0) wants in
            let out : has_outstanding_on h past p addr ≡ true =
            some_issued-weaker past (awaits_store h past p addr) (is_outstanding_on h past p addr)
            (λ y t. let w = awaits_store-is h past p addr y t in and_from _ _ (and_from _ _ (eq-eqb y.port p w.port) w.on) w.out) awaits in
            record { same = awaits ∙ sym out; valid = λ free. let bad : true ≡ false = sym out ∙ free in cc }
      ]

  -- ---- each event ------------------------------------------------------------------------------------

  module _ (o : Option Way) (s : LineHeld h past p l o) where
    here : (b : Bool) → ((p == p) && b) ≡ b
    here b = ap (λ v. v && b) (eq-eqb p p refl)

    at-rk : is_ace h p ≡ true → (arriving : List Line) → AllByRecursion FitsFields past → ArrivingStand h past p arriving → (st : LineState) → IsAccepted h (event.Rk p st ∷ past)
        → LineHeld h (event.Rk p st ∷ past) p l (changed (change_of h past arriving (event.Rk p st)) l o)
    at-rk ace arriving fits t st a =
        ends-held h past (event.Rk p st) a p l o s Read st arriving refl refl
        (ap (λ b. unwrap_or (if b then Some st else None) (state_of h past p l)) (here (is_some_on (acknowledged past p Read) l))) refl
        (λ x is. let n = acknowledged_is past p Read x is in (n.id, acknowledged_named h past p Read n.id a.0 ace n.next ∙ is))
        (fresh st a arriving fits t)

    at-wk : is_ace h p ≡ true → (arriving : List Line) → (st : LineState) → IsAccepted h (event.Wk p st ∷ past)
        → LineHeld h (event.Wk p st ∷ past) p l (changed (change_of h past arriving (event.Wk p st)) l o)
    at-wk ace arriving st a =
        let left : state_of h (event.Wk p st ∷ past) p l ≡ unwrap_or (if is_some_on (acknowledged past p Write) l then Some st else None) (state_of h past p l) =
        ap (λ b. unwrap_or (if b then Some st else None) (state_of h past p l)) (here (is_some_on (acknowledged past p Write) l)) in
        ends-held h past (event.Wk p st) a p l o s Write st arriving refl refl left refl
        (λ x is. let n = acknowledged_is past p Write x is in (n.id, acknowledged_named h past p Write n.id a.0 ace n.next ∙ is))
        (λ x is on none some.
        let now : state_of h (event.Wk p st ∷ past) p l ≡ st = left ∙ ap (λ v. unwrap_or (if is_some_on v l then Some st else None) (state_of h past p l)) is
        ∙ ap (λ b. unwrap_or (if b then Some st else None) (state_of h past p l)) on in
        let gone : st ≡ I = sym now ∙ stays-none (event.Wk p st) a (λ q v is. cc) none in
        let bad : true ≡ false = ap is_invalid (sym gone) ∙ some in cc)

    at-cr : (arriving : List Line) → (resp : ℕ) (st : LineState) → IsAccepted h (event.Cr p resp st ∷ past)
        → LineHeld h (event.Cr p resp st ∷ past) p l (changed (change_of h past arriving (event.Cr p resp st)) l o)
    at-cr arriving resp st a =
        becomes-held h past (event.Cr p resp st) a p l o s (answered past p) st (stays-busy (event.Cr p resp st) a refl refl) refl
        (ap (λ b. unwrap_or (if b then Some st else None) (state_of h past p l)) (here (answers_line past p l)))
        (stays-none (event.Cr p resp st) a (λ q v is. cc))

    at-s : (arriving : List Line) → (addr : ℕ) (st : LineState) → IsAccepted h (event.S p addr st ∷ past)
        → LineHeld h (event.S p addr st ∷ past) p l (changed (change_of h past arriving (event.S p addr st)) l o)
    at-s arriving addr st a =
        becomes-here h past (event.S p addr st) a p l o s addr st (stays-busy (event.S p addr st) a refl refl) refl
        (ap (λ b. unwrap_or (if b then Some st else None) (state_of h past p l)) (here (l == addr)))
        (stays-none (event.S p addr st) a (λ q v is. cc))

    at-d : (arriving : List Line) → (addr strobe : ℕ) (x : Bool) (line : Line) → IsAccepted h (event.D p addr strobe x line ∷ past)
        → LineHeld h (event.D p addr strobe x line ∷ past) p l (changed (change_of h past arriving (event.D p addr strobe x line)) l o)
    at-d arriving addr strobe x line a =
        let e = event.D p addr strobe x line in
        let d = stored addr strobe x line a in
        let left : state_of h (e ∷ past) p l ≡ unwrap_or (if (l == addr) && not (is_in_make_unique h past p l) then Some UD else None) (state_of h past p l) =
        ap (λ b. unwrap_or (if (b && (l == addr)) && not (is_in_make_unique h past p l) then Some UD else None) (state_of h past p l)) (eq-eqb p p refl) in
        stores-held h past e a p l o s addr strobe line (if has_outstanding_on h past p addr then None else Some UD) (stays-busy e a refl refl)
        (ap (λ b. if b && (l == addr) then merged (copy_of past p l) strobe line else copy_of past p l) (eq-eqb p p refl))
        (λ t.
        let imu : is_in_make_unique h past p l ≡ has_outstanding_on h past p addr = ap (is_in_make_unique h past p) (eqb-true l addr t) ∙ d.same in
        left ∙ ap (λ b. unwrap_or (if b && not (is_in_make_unique h past p l) then Some UD else None) (state_of h past p l)) t
        ∙ ap (λ b. unwrap_or (if not b then Some UD else None) (state_of h past p l)) imu ∙ turned (has_outstanding_on h past p addr) (state_of h past p l))
        (λ f. left ∙ ap (λ b. unwrap_or (if b && not (is_in_make_unique h past p l) then Some UD else None) (state_of h past p l)) f)
        (stays-none e a (λ q v is. cc))
        (λ t. valid (has_outstanding_on h past p addr) refl (state_of h past p l) (λ free. ap (λ v. is_invalid (state_of h past p v)) (eqb-true l addr t) ∙ d.valid free))
      where
        turned : (b : Bool) (st : LineState) → unwrap_or (if not b then Some UD else None) st ≡ unwrap_or (if b then None else Some UD) st
        turned true st = refl
        turned false st = refl

        valid : (b : Bool) → has_outstanding_on h past p addr ≡ b → (st : LineState) → (has_outstanding_on h past p addr ≡ false → is_invalid st ≡ false)
            → is_invalid (unwrap_or (if b then None else Some UD) st) ≡ is_invalid st
        valid true is st some = refl
        valid false is st some = sym (some is)

    at-r : is_ace h p ≡ true → (i resp : ℕ) (last : Bool) (word : ℕ) → IsAccepted h (event.R p i resp last word ∷ past) → LineHeld h (event.R p i resp last word ∷ past) p l o
    at-r ace i resp last word a =
        let e = event.R p i resp last word in
        stays-held h past e p l o refl (stays-busy e a refl (none last (is_ace h p) ace))
        (λ w is. ap (λ v. unwrap_or v (copy_of past p l)) (nothing w is)) s
      where
        none : (b ace : Bool) → ace ≡ true → (if b && not ace then transaction_of past p Read i else None) ≡ None
        none true true t = refl
        none false true t = refl
        none b false t = cc

        nothing : (w : Way) → o ≡ Some w → received past (event.R p i resp last word) p l ≡ None
        nothing w is =
            elim (cases_Bool (((p == p) && (length (words_read past p i) == 3)) && is_some_and (transaction_of past p Read i) (λ x. is_on x l && is_line_read_transaction x))) [
              | inr f ↦ rw f refl
              | inl t ↦
                  let x = is_some_and-is (transaction_of past p Read i) (λ x. is_on x l && is_line_read_transaction x) (and_parts _ (is_some_and (transaction_of past p Read i) (λ x. is_on x l && is_line_read_transaction x)) t).1 in
                  let two = and_parts (is_on x.0 l) (is_line_read_transaction x.0) x.2 in
                  let y = is_some_and-is (outstanding h past p Read i) (is_due h past resp last) (accepted_keeps h past (event.R p i resp last word) a).rule_18 in
                  let one : y.0 ≡ x.0 = Some-injective y.0 x.0 (sym (outstanding-named h past p Read i y.0 y.1) ∙ x.1) in
                  let empty = stays_empty h past a.0 p Read i l x.0 (y.1 ∙ ap Some one) two.0 (inl two.1) in
                  let held : w.st ≡ I = ap state_in (sym is) ∙ s.state ∙ empty in
                  let bad : true ≡ false = ap is_invalid (sym held) ∙ s.some w is in cc
            ]

    quiet : (e : Event) → IsAccepted h (e ∷ past) → issued (length past) e ≡ None → ended h past e ≡ None → state_of h (e ∷ past) p l ≡ state_of h past p l
        → copy_of (e ∷ past) p l ≡ copy_of past p l → LineHeld h (e ∷ past) p l o
    quiet e a new gone state copy = stays-held h past e p l o state (stays-busy e a new gone) (λ w is. copy) s

    at-b : is_ace h p ≡ true → (i resp : ℕ) → IsAccepted h (event.B p i resp ∷ past) → LineHeld h (event.B p i resp ∷ past) p l o
    at-b ace i resp a = quiet (event.B p i resp) a refl (ap (λ b. if b then None else transaction_of past p Write i) ace) refl refl

    pub line-heard : (e : Event) → IsAccepted h (e ∷ past) → is_ace h p ≡ true → (arriving : List Line) → AllByRecursion FitsFields past → ArrivingStand h past p arriving
        → port_of e ≡ Some p → LineHeld h (e ∷ past) p l (changed (change_of h past arriving e) l o)
    line-heard (event.Ar q i addr snoop dom bar lock) a ace arriving fits t own = begins-held h past (event.Ar q i addr snoop dom bar lock) a p l o s _ refl (Some-injective q p own) refl refl refl
    line-heard (event.Aw q i addr snoop dom bar) a ace arriving fits t own = begins-held h past (event.Aw q i addr snoop dom bar) a p l o s _ refl (Some-injective q p own) refl refl refl
    line-heard (event.Rk q st) a ace arriving fits t own =
        subst (λ r. IsAccepted h (event.Rk r st ∷ past) → LineHeld h (event.Rk r st ∷ past) p l (changed (change_of h past arriving (event.Rk r st)) l o)) (sym (Some-injective q p own))
        (at-rk ace arriving fits t st) a
    line-heard (event.Wk q st) a ace arriving fits t own =
        subst (λ r. IsAccepted h (event.Wk r st ∷ past) → LineHeld h (event.Wk r st ∷ past) p l (changed (change_of h past arriving (event.Wk r st)) l o)) (sym (Some-injective q p own))
        (at-wk ace arriving st) a
    line-heard (event.Cr q resp st) a ace arriving fits t own =
        subst (λ r. IsAccepted h (event.Cr r resp st ∷ past) → LineHeld h (event.Cr r resp st ∷ past) p l (changed (change_of h past arriving (event.Cr r resp st)) l o)) (sym (Some-injective q p own))
        (at-cr arriving resp st) a
    line-heard (event.S q addr st) a ace arriving fits t own =
        subst (λ r. IsAccepted h (event.S r addr st ∷ past) → LineHeld h (event.S r addr st ∷ past) p l (changed (change_of h past arriving (event.S r addr st)) l o)) (sym (Some-injective q p own))
        (at-s arriving addr st) a
    line-heard (event.D q addr strobe x line) a ace arriving fits t own =
        subst (λ r. IsAccepted h (event.D r addr strobe x line ∷ past) → LineHeld h (event.D r addr strobe x line ∷ past) p l (changed (change_of h past arriving (event.D r addr strobe x line)) l o)) (sym (Some-injective q p own))
        (at-d arriving addr strobe x line) a
    line-heard (event.R q i resp last word) a ace arriving fits t own =
        subst (λ r. IsAccepted h (event.R r i resp last word ∷ past) → LineHeld h (event.R r i resp last word ∷ past) p l o) (sym (Some-injective q p own)) (at-r ace i resp last word) a
    line-heard (event.B q i resp) a ace arriving fits t own =
        subst (λ r. IsAccepted h (event.B r i resp ∷ past) → LineHeld h (event.B r i resp ∷ past) p l o) (sym (Some-injective q p own)) (at-b ace i resp) a
    line-heard (event.Mem addr line) a ace arriving fits t own = cc
    line-heard e a ace arriving fits t own = quiet e a refl refl refl refl
