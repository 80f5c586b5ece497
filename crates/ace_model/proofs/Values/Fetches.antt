-- A read that keeps the line receives its value.
use Rattle.std.proofs.Common.{◌≡◌, ◌≢◌, ◌==◌, ℕ, ◌+◌, Bool, true, false, ◌&&◌, nat_eq, [], ◌∷◌, ◌++◌, length, Some, None, slice_get, refl, sym, ap, subst, ◌∙◌, arith, inl, inr}
use Rattle.std.proofs.lemmas.Bool.{and_parts, and_from, or_cases, cases_eq, eqb-true, eq-eqb, ne_eqb}
use Rattle.std.specs.List.{AllByRecursion}
use Rattle.ace_model.proofs.Terms.{ArKind, FitsFields, ar_kind_of, Event, Ar, R, Aw, Read, Header, is_fetch, is_unique, Transaction, Trace, is_some_and, is_make_invalid, is_lite_read}
use Rattle.ace_model.proofs.Terms.{first_sender, memory_at_first_beat, reply_of, value_of, may_issue_read, has_word, discards_data, copy_of, IsAccepted}
use Rattle.ace_model.proofs.Terms.{is_ace, is_line, has_name, read_kind, issued, ended, transfers, outstanding, granted, has_failed, state_of, is_line_read_transaction, words_read, word_of}
use Rattle.ace_model.proofs.Trace.Looks.{has_name-is, is_on-addr, without-some}
use Rattle.ace_model.proofs.Trace.Issued.{outstanding-named, outstanding-name, outstanding-origin}
use Rattle.ace_model.proofs.Rules.Keeps.{accepted_keeps}
use Rattle.ace_model.proofs.General.Lists.{slice_get-more}
use Rattle.ace_model.proofs.Tables.Kinds.{Fetch, fetch_is}
use Rattle.ace_model.proofs.Values.FullReads.{transfer_moves, words-length, issue_transfers}
use Rattle.ace_model.proofs.Grants.Begins.{line_due}
use Rattle.ace_model.proofs.Holders.Facts.{Arrives}
use Rattle.ace_model.proofs.Trace.LineOnce.{one_on_line}
use Rattle.ace_model.proofs.Grants.Stays.{gives_none}
use Rattle.ace_model.proofs.Values.MergedLines.{value-length, whole_line}
use Rattle.ace_model.proofs.Values.Stores.{stores_d}
use Rattle.ace_model.proofs.Values.Copies.{copy_moves}
use Rattle.ace_model.proofs.Values.Stays.{value_stays, made_apart, sent_step, none_may_store, read_no_store}
use Rattle.ace_model.proofs.Values.Replies.{sender_before, reply_true, memory_true}
use Rattle.ace_model.proofs.Values.Replies.{memory-before}
use Rattle.ace_model.proofs.Values.Facts.{SentTrue, Fetches, FetchesTrue, DirtyPlaced}
use Rattle.ace_model.proofs.Holders.Law.{accepted_holds}
use Rattle.ace_model.proofs.General.Options.{Some-injective, is_some_and-at, is_none_or-at}
use Rattle.std.proofs.lemmas.Option.{slice_get_within}

-- only an ACE port issues what an ACE-Lite port may not
pub ace_read : (h : Header) (past : Trace) → IsAccepted h past → (p i : ℕ) (x : Transaction) (k : ArKind) → outstanding h past p Read i ≡ Some x → read_kind x ≡ Some k
    → is_lite_read k ≡ false → is_ace h p ≡ true
ace_read h [] a p i x k o kind lite = cc
ace_read h (e ∷ past) a p i x k o kind lite =
    elim (outstanding-origin h past e p Read i x o) [
      | inr old ↦ ace_read h past a.0 p i x k old.was kind lite
      | inl new ↦ by e a new.0 new.1
    ]
  where
    by : (d : Event) → IsAccepted h (d ∷ past) → issued (length past) d ≡ Some x → has_name x p Read i ≡ true → is_ace h p ≡ true
    by (Ar q j addr snoop dom bar lock) a new named =
        let same = Some-injective _ x new in
        let may = is_some_and-at (ar_kind_of snoop dom bar) (may_issue_read h q) k (accepted_keeps h past (Ar q j addr snoop dom bar lock) a).rule_2 (ap read_kind same ∙ kind) in
        let port : q ≡ p = ap (λ (y : Transaction). y.port) same ∙ (has_name-is x p Read i named).port in
        elim (or_cases (is_ace h q) (is_lite_read k) may) [
          | inl ace ↦ ap (is_ace h) (sym port) ∙ ace
          | inr t ↦ cc
        ]
    by (Aw q j addr snoop dom bar) a new named =
        let same = Some-injective _ x new in
        let none : None ≡ Some k = ap read_kind same ∙ kind in cc
    by d a new named = cc

module _ (h : Header) (past : Trace) where
  -- the reply after an event
  reply_next : (e : Event) → IsAccepted h (e ∷ past) → SentTrue h (e ∷ past) → (l : ℕ) (x : Transaction) (k : ArKind) → granted h past l ≡ Some x
      → granted h (e ∷ past) l ≡ Some x → x.addr ≡ l → read_kind x ≡ Some k → is_fetch k ≡ true → value_of (e ∷ past) l ≡ value_of past l
      → nat_eq (transfers (e ∷ past) x.port x.id) 0 ≡ false → reply_of past x ≡ value_of past l → reply_of (e ∷ past) x ≡ value_of (e ∷ past) l
  reply_next e a sent l x k g g' addr kind fetch same some replies =
      reply_true h (e ∷ past) a sent l x k g' addr kind fetch (λ none.
      let before = (sender_before past e l (gives_none h past e a l x g) none).0 in
      let silent : first_sender past x.addr ≡ None = ap (first_sender past) addr ∙ before in
      let memory : reply_of past x ≡ memory_at_first_beat past x.port x.id x.addr = rw silent refl in
      let here : memory_at_first_beat past x.port x.id l ≡ value_of past l = ap (memory_at_first_beat past x.port x.id) (sym addr) ∙ sym memory ∙ replies in
      rw some (here ∙ sym same))

  pub fetches_step : (e : Event) → IsAccepted h (e ∷ past) → AllByRecursion FitsFields past → DirtyPlaced h past → FetchesTrue h (e ∷ past)
  fetches_step e a fits f p i l x k o on kind fetch some =
      elim (outstanding-origin h past e p Read i x o) [
        | inl new ↦ absurd (some (issue_transfers past e p i x new.0 new.1))
        | inr old ↦ elim (transfer_moves past e p i old.other) [
          | inl none ↦ waits old.was none.count none.words
          | inr t ↦
              rw t.is
              (arrives t.resp t.last t.word (subst (λ d. IsAccepted h (d ∷ past)) t.is a) old.was (subst (λ d. outstanding h (d ∷ past) p Read i ≡ Some x) t.is o))
        ]
      ]
    where
      tables : Fetch k
      tables = fetch_is k fetch

      line : (is_line x ≡ true) × (nat_eq x.addr l ≡ true)
      line = and_parts (is_line x) (nat_eq x.addr l) on

      addr : x.addr ≡ l
      addr = is_on-addr x l on

      stands : (t : Trace) → IsAccepted h t → outstanding h t p Read i ≡ Some x → transfers t p i ≢ 0 → Arrives h t p i x
      stands t b out n = (accepted_holds h t b).arrive p i x (ace_read h t b p i x k out kind tables.full) out line.0 n

      waits : outstanding h past p Read i ≡ Some x → transfers (e ∷ past) p i ≡ transfers past p i → words_read (e ∷ past) p i ≡ words_read past p i → Fetches h (e ∷ past) p i l x
      waits was same same_words =
          let before : transfers past p i ≢ 0 = λ z. some (same ∙ z) in
          let r = stands past a.0 was before in
          let r' = stands (e ∷ past) a o some in
          let g : granted h past l ≡ Some x = ap (granted h past) (sym addr) ∙ r.stands in
          let g' : granted h (e ∷ past) l ≡ Some x = ap (granted h (e ∷ past)) (sym addr) ∙ r'.stands in
          let name = outstanding-name h past p Read i x was in
          let no_port = none_may_store h past p Read i l x was on (λ q apart yes.
          let unique : is_unique (state_of h past q x.addr) ≡ true = ap (λ v. is_unique (state_of h past q v)) addr ∙ yes in
          elim (tables.takes _ (has_failed past x)) [
            | inl alone ↦ let gone = r.alone k kind alone q apart in let bad = sym (ap is_unique gone) ∙ unique in cc
            | inr shared ↦ let beside = r.beside k kind shared q apart in cc
          ]) in
          let value = value_stays h past e a l x g no_port (made_apart h past l x k kind fetch) (read_no_store h past x k l kind tables.discards) in
          let known = f.fetches p i l x k was on kind fetch before in
          let some_named : nat_eq (transfers (e ∷ past) x.port x.id) 0 ≡ false = rw (name.port, name.id) (ne_eqb (transfers (e ∷ past) p i) 0 some) in
          record {
            replies = reply_next e a (sent_step h past e a f) l x k g g' addr kind fetch value some_named known.replies;
            words = λ n v is. known.words n v (ap (λ ws. slice_get ws n) (sym same_words) ∙ is) ∙ ap (λ b. word_of b n) (sym value);
            whole = λ four. elim (copy_moves h past e a p l) [
              | inl kept ↦ kept ∙ known.whole (sym same ∙ four) ∙ sym value
              | inr (inl c) ↦
                  let one = one_on_line h past a.0 p Read Read c.id i l c.one x c.out was c.on on in
                  let id : c.id ≡ i = sym (outstanding-name h past p Read c.id c.one c.out).id ∙ ap (λ (y : Transaction). y.id) one ∙ name.id in
                  let next : transfers (e ∷ past) p i ≡ transfers past p i + 1 = rw (c.is, eq-eqb p p refl, eq-eqb i c.id (sym id)) refl in
                  absurd (omega (arith, same, next))
              | inr (inr d) ↦ elim (stores_d h past p l d.strobe d.ex d.line (subst (λ v. IsAccepted h (v ∷ past)) d.is a)) [
                | inl may ↦ absurd (no_port p may)
                | inr m ↦ absurd (made_apart h past l x k kind fetch p d.strobe m (one_on_line h past a.0 p Read Read m.id i l m.one x m.out was m.on on))
              ]
            ];
          }

      arrives : (resp : ℕ) (last : Bool) (word : ℕ) → IsAccepted h (R p i resp last word ∷ past) → outstanding h past p Read i ≡ Some x
          → outstanding h (R p i resp last word ∷ past) p Read i ≡ Some x → Fetches h (R p i resp last word ∷ past) p i l x
      arrives resp last word b was out =
          let t = R p i resp last word ∷ past in
          let name = outstanding-name h past p Read i x was in
          let named = outstanding-named h past p Read i x was in
          let keeps : discards_data x ≡ false = ap (λ o. is_some_and o is_make_invalid) kind ∙ tables.discards in
          let value : value_of t l ≡ value_of past l = rw (named, keeps) refl in
          let own : (nat_eq p p && nat_eq i i) ≡ true = and_from _ _ (eq-eqb p p refl) (eq-eqb i i refl) in
          let count : transfers t p i ≡ transfers past p i + 1 = rw own refl in
          let more_words : words_read t p i ≡ words_read past p i ++ word ∷ [] = rw own refl in
          let due = line_due h past p i resp last word b x was line.0 in
          let after = stands t b out (λ z. absurd (omega (arith, count, z))) in
          let g' : granted h t l ≡ Some x = ap (granted h t) (sym addr) ∙ after.stands in
          let g : granted h past l ≡ Some x = (without-some (ended h past (R p i resp last word)) (granted h past l) x g').0 in
          let first_name : transfers past x.port x.id ≡ transfers past p i = ap (λ v. transfers past v x.id) name.port ∙ ap (transfers past p) name.id in
          let replies : reply_of past x ≡ value_of past l = elim (cases_eq (transfers past p i) 0) [
            | inr later ↦ (f.fetches p i l x k was on kind fetch later).replies
            | inl z ↦
                let done = due.first (eq-eqb (transfers past x.port x.id) 0 (first_name ∙ z)) in
                reply_true h past a.0 f.sent l x k g addr kind fetch (λ none. memory-before past x.port x.id l (first_name ∙ z) ∙ memory_true h past a.0 f l x k g kind fetch done none)
          ] in
          let reads : is_line_read_transaction x ≡ true = rw kind tables.reads in
          let has = is_none_or-at (outstanding h past p Read i) (has_word past word) x (accepted_keeps h past (R p i resp last word) b).rule_20 was in
          let said : word ≡ word_of (reply_of past x) (transfers past x.port x.id) = eqb-true word _ (rw reads at has) in
          let word_is : word ≡ word_of (value_of past l) (transfers past p i) = said ∙ ap (λ v. word_of v (transfers past x.port x.id)) replies ∙ ap (word_of (value_of past l)) first_name in
          let words : (n v : ℕ) → slice_get (words_read t p i) n ≡ Some v → v ≡ word_of (value_of past l) n = λ n v is.
          elim (slice_get-more (words_read past p i) (Some word) n v (ap (λ ws. slice_get ws n) (sym more_words) ∙ is)) [
            | inl old ↦ elim (cases_eq (transfers past p i) 0) [
              | inr later ↦ (f.fetches p i l x k was on kind fetch later).words n v old
              | inl z ↦ absurd (omega (arith, slice_get_within (words_read past p i) n v old, words-length past p i, z))
            ]
            | inr new ↦ sym (Some-injective word v new.1) ∙ word_is ∙ ap (word_of (value_of past l)) (sym (words-length past p i) ∙ sym new.0)
          ] in
          let some_named : nat_eq (transfers t x.port x.id) 0 ≡ false = rw (name.port, name.id, own) (ne_eqb (transfers past p i + 1) 0 (λ q. absurd (omega (arith, q)))) in
          record {
            replies = reply_next (R p i resp last word) b (sent_step h past (R p i resp last word) b f) l x k g g' addr kind fetch value some_named replies;
            words = λ n v is. words n v is ∙ ap (λ b. word_of b n) (sym value);
            whole = λ four.
                let three : transfers past p i + 1 ≡ 4 = sym count ∙ four in
                let fourth : (length (words_read past p i) == 3) ≡ true = eq-eqb _ 3 (words-length past p i ∙ omega (arith, three)) in
                let whole : record { words = words_read past p i ++ word ∷ [] } ≡ value_of past l = whole_line (words_read past p i ++ word ∷ []) (value_of past l)
                (ap length (sym more_words) ∙ words-length t p i ∙ four) (value-length past l fits) (λ n v is. words n v (ap (λ ws. slice_get ws n) more_words ∙ is)) in
                let copy : copy_of t p l ≡ record { words = words_read past p i ++ word ∷ [] } = rw (eq-eqb p p refl, fourth, named, on, reads) refl in
                copy ∙ whole ∙ sym value;
          }
