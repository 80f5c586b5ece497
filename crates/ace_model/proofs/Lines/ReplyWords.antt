-- The words that a read of a line has had are those of its reply.
use Rattle.std.proofs.Common.{◌≡◌, ◌≢◌, ◌==◌, ℕ, true, if◌then◌else◌, [], ◌∷◌, ◌++◌, Some, slice_get, refl, sym, ap, subst, ◌∙◌, arith, inl, inr}
use Rattle.std.proofs.lemmas.Bool.{eqb-true, eq-eqb}
use Rattle.std.proofs.lemmas.Option.{slice_get_within}
use Rattle.ace_model.proofs.Terms.{Event, R, Read, Header, Transaction, Trace, IsAccepted, outstanding, transfers, words_read, is_line_read_transaction, word_of, reply_of, has_word}
use Rattle.ace_model.proofs.General.Options.{is_none_or-at}
use Rattle.ace_model.proofs.General.Lists.{slice_get-more}
use Rattle.ace_model.proofs.Rules.Keeps.{accepted_keeps}
use Rattle.ace_model.proofs.Trace.Issued.{outstanding-origin, outstanding-name}
use Rattle.ace_model.proofs.Values.FullReads.{issue_transfers, transfer_moves, words-length}
use Rattle.ace_model.proofs.ReadsFollow.UnderWay.{reply-stays}

-- by the rule on data the word of a transfer is that of the reply
pub word-replied : (h : Header) (past : Trace) (p i resp : ℕ) (last : _) (word : ℕ) → IsAccepted h (R p i resp last word ∷ past) → (x : Transaction) → outstanding h past p Read i ≡ Some x
    → is_line_read_transaction x ≡ true → word ≡ word_of (reply_of past x) (transfers past p i)
word-replied h past p i resp last word a x o reads =
    let t = is_none_or-at (outstanding h past p Read i) (has_word past word) x (accepted_keeps h past (R p i resp last word) a).rule_20 o in
    let e : word ≡ word_of (reply_of past x) (transfers past x.port x.id) = eqb-true word _ (rw reads at t) in
    let n = outstanding-name h past p Read i x o in
    e ∙ ap (word_of (reply_of past x)) (ap (λ v. transfers past v x.id) n.port ∙ ap (transfers past p) n.id)

pub reply-words : (h : Header) (past : Trace) → IsAccepted h past → (p i : ℕ) (x : Transaction) → outstanding h past p Read i ≡ Some x → is_line_read_transaction x ≡ true
    → (n w : ℕ) → slice_get (words_read past p i) n ≡ Some w → w ≡ word_of (reply_of past x) n
reply-words h [] a p i x o reads n w is = cc
reply-words h (e ∷ past) a p i x o reads n w is =
    let low = slice_get_within (words_read (e ∷ past) p i) n w is in
    let count = words-length (e ∷ past) p i in
    let had : transfers (e ∷ past) p i ≢ 0 = λ z. absurd (omega (arith, z, low, count)) in
    let stays = ap (λ v. word_of v n) (sym (reply-stays h past x e p i a o reads had)) in
    elim (outstanding-origin h past e p Read i x o) [
      | inl new ↦ absurd (had (issue_transfers past e p i x new.0 new.1))
      | inr old ↦ elim (transfer_moves past e p i old.other) [
        | inl same ↦ reply-words h past a.0 p i x old.was reads n w (rw same.words at is) ∙ stays
        | inr t ↦
            let more : words_read (e ∷ past) p i ≡ words_read past p i ++ t.word ∷ [] =
            subst (λ d. words_read (d ∷ past) p i ≡ words_read past p i ++ t.word ∷ []) (sym t.is) (rw (eq-eqb p p (refl {a = p}), eq-eqb i i (refl {a = i})) refl) in
            elim (slice_get-more (words_read past p i) (Some t.word) n w (ap (λ ws. slice_get ws n) (sym more) ∙ is)) [
              | inl earlier ↦ reply-words h past a.0 p i x old.was reads n w earlier ∙ stays
              | inr now ↦
                  let word : t.word ≡ w = cc in
                  let at : transfers past p i ≡ n = sym (words-length past p i) ∙ sym now.0 in
                  sym word ∙ word-replied h past p i t.resp t.last t.word (subst (λ d. IsAccepted h (d ∷ past)) t.is a) x old.was reads ∙ ap (word_of (reply_of past x)) at ∙ stays
            ]
      ]
    ]
