-- The line that a port receives whole with the fourth R of its read is the reply that is kept of the grant.
use Rattle.std.proofs.Common.{◌≡◌, ◌≢◌, ℕ, ◌+◌, true, false, Bool, ◌&&◌, nat_eq, [], ◌∷◌, ◌++◌, length, length-append, Option, Some, None, slice_get, option_map, option_and_then, unwrap_or, refl, sym, ap, ◌∙◌, arith, inl, inr}
use Rattle.std.proofs.lemmas.Bool.{and_parts, eqb-true, eq-eqb, ne_eqb}
use Rattle.ace_lineck.proofs.Terms.{Line, Transaction, newer, received, Header, Trace, R, Read, IsAccepted, is_read, is_line, is_on, is_some_and, outstanding, transaction_of, transfers, words_read, is_line_read_transaction, granted, word_of, reply_of, first_sender, copy_at_answer, memory_at_first_beat, line_in, progress_of, Target, Grant, LineRecord, GrantStands, settled_reply, IsRecordStep, has_three}
use Rattle.ace_model.proofs.General.Options.{Some-injective}
use Rattle.ace_model.proofs.General.Lists.{slice_get-more}
use Rattle.ace_model.proofs.Trace.Looks.{is_on-addr}
use Rattle.ace_model.proofs.Trace.Issued.{outstanding-name}
use Rattle.ace_model.proofs.Grants.Begins.{may_of, line_due}
use Rattle.ace_model.proofs.Grants.Granted.{granted_at}
use Rattle.ace_model.proofs.Values.FullReads.{words-length}
use Rattle.ace_model.proofs.Values.MergedLines.{whole_line}
use Rattle.ace_model.proofs.Lines.ReplyWords.{word-replied, reply-words}
use Rattle.ace_lineck.proofs.OnLine.{on-transaction}

newer-some : (o : Option Line) (m : Line) → newer o (Some m) ≡ Some (unwrap_or o m)
newer-some None m = refl
newer-some (Some v) m = refl

-- the reply that is kept of a granted read that has had a beat
reply-kept : (h : Header) (past : Trace) (l : ℕ) (g : Option Grant) → GrantStands h past l g → (x : Transaction) → granted h past l ≡ Some x → x.addr ≡ l → is_read x.chan ≡ true
    → transfers past x.port x.id ≢ 0 → option_and_then (λ (v : Grant). v.reply) g ≡ Some (reply_of past x)
reply-kept h past l None s x g addr reads some = let bad : None ≡ Some x = sym s ∙ g in cc
reply-kept h past l (Some g) s x is addr reads some =
    let one : g.transaction ≡ x = Some-injective g.transaction x (sym s.granted ∙ is) in
    let here : settled_reply past x.addr x ≡ Some (reply_of past x) = rw (reads, ne_eqb (transfers past x.port x.id) 0 some)
    (newer-some (option_and_then (copy_at_answer past x.addr) (first_sender past x.addr)) (memory_at_first_beat past x.port x.id x.addr)) in
    s.reply ∙ ap (λ v. settled_reply past v g.transaction) (sym addr) ∙ ap (settled_reply past x.addr) one ∙ here

-- the words with the fourth are those of the reply
whole-reply : (h : Header) (past : Trace) (p i resp : ℕ) (last : Bool) (word : ℕ) → IsAccepted h (R p i resp last word ∷ past) → (x : Transaction) → outstanding h past p Read i ≡ Some x
    → is_line_read_transaction x ≡ true → transfers past p i ≡ 3 → length (reply_of past x).words ≡ 4 → record { words = words_read past p i ++ word ∷ [] } ≡ reply_of past x
whole-reply h past p i resp last word a x o reads three four =
    whole_line (words_read past p i ++ word ∷ []) (reply_of past x)
    (length-append (words_read past p i) (word ∷ []) ∙ ap (λ n. n + 1) (words-length past p i ∙ three)) four each
  where
    each : (n w : ℕ) → slice_get (words_read past p i ++ word ∷ []) n ≡ Some w → w ≡ word_of (reply_of past x) n
    each n w is =
        elim (slice_get-more (words_read past p i) (Some word) n w is) [
          | inl earlier ↦ reply-words h past a.0 p i x o reads n w earlier
          | inr now ↦
              let same : word ≡ w = Some-injective word w now.1 in
              sym same ∙ word-replied h past p i resp last word a x o reads ∙ ap (word_of (reply_of past x)) (sym (words-length past p i) ∙ sym now.0)
        ]

module _ (h : Header) (past : Trace) (l p i resp : ℕ) (last : Bool) (word : ℕ) (t : Target) (kept : LineRecord) (s : IsRecordStep h past l (R p i resp last word) t kept) where
  -- The read of the transfer.
  record ReadsLine : Type 0 where
    one : Transaction
    out : outstanding h past p Read i ≡ Some one
    named : transaction_of past p Read i ≡ Some one
    on : is_on one l ≡ true
    chan : is_read one.chan ≡ true
    count : transfers past one.port one.id ≡ transfers past p i
    target : has_three t.transaction ≡ (nat_eq (transfers past p i) 3 && is_line_read_transaction one)

  reads : ReadsLine
  reads =
      let m = may_of h past p i resp last word s.step.accepted in
      let line : line_in h past (R p i resp last word) ≡ Some l = ap (λ (v : Target). v.line) (sym s.step.target) ∙ s.step.line in
      let out = m.out in
      let on : is_on m.one l ≡ true = rw out at (on-transaction h past (outstanding h past p Read i) l line) in
      let name = outstanding-name h past p Read i m.one m.out in
      let chan : is_read m.one.chan ≡ true = ap is_read name.chan in
      let count : transfers past m.one.port m.one.id ≡ transfers past p i = ap (λ v. transfers past v m.one.id) name.port ∙ ap (transfers past p) name.id in
      let target : t.transaction ≡ Some (progress_of h past m.one) = ap (λ (v : Target). v.transaction) s.step.target ∙ ap (option_map (progress_of h past)) out in
      record {
        one = m.one;
        out = m.out;
        named = m.named;
        on = on;
        chan = chan;
        count = count;
        target = ap has_three target ∙ ap (λ n. nat_eq n 3 && is_line_read_transaction m.one) (rw chan count);
      }

  -- whether the line is whole with it
  whole : ((nat_eq p p && nat_eq (length (words_read past p i)) 3) && is_some_and (transaction_of past p Read i) (λ x. is_on x l && is_line_read_transaction x)) ≡ has_three t.transaction
  whole =
      let r = reads in
      let named = r.named in
      let on = r.on in
      rw (eq-eqb p p (refl {a = p}), named, on, words-length past p i) (sym r.target)

  pub received-none : has_three t.transaction ≡ false → received past (R p i resp last word) p l ≡ None
  received-none none = let is = whole ∙ none in rw is refl

  pub received-some : has_three t.transaction ≡ true → (o : Option Line) → o ≡ option_and_then (λ (v : Grant). v.reply) kept.grant → ((v : Line) → o ≡ Some v → length v.words ≡ 4)
      → o ≡ received past (R p i resp last word) p l
  received-some three o is four =
      let r = reads in
      let both = and_parts (nat_eq (transfers past p i) 3) (is_line_read_transaction r.one) (sym r.target ∙ three) in
      let count = eqb-true (transfers past p i) 3 both.0 in
      let due = line_due h past p i resp last word s.step.accepted r.one r.out (and_parts (is_line r.one) _ r.on).0 in
      let addr = is_on-addr r.one l r.on in
      let granted : granted h past l ≡ Some r.one = ap (granted h past) (sym addr) ∙ granted_at h past s.step.accepted.0 p Read i r.one r.out due.stands in
      let some : transfers past r.one.port r.one.id ≢ 0 = λ z. let e = r.count in absurd (omega (arith, e, z, count)) in
      let reply : o ≡ Some (reply_of past r.one) = is ∙ reply-kept h past l kept.grant s.stands.grant r.one granted addr r.chan some in
      let full = whole-reply h past p i resp last word s.step.accepted r.one r.out both.1 count (four (reply_of past r.one) reply) in
      let now : received past (R p i resp last word) p l ≡ Some (record { words = words_read past p i ++ word ∷ [] }) = (let w = whole ∙ three in rw w refl) in
      reply ∙ ap Some (sym full) ∙ sym now
