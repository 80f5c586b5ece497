-- The least rule of the share that a transfer of a line read breaks, in the words of what is kept of its line.
use Rattle.std.proofs.Common.{◌≡◌, ℕ, true, Bool, Option, Some, None, option_map, refl, sym, ap, subst, ◌∙◌}
use Rattle.ace_lineck.proofs.Terms.{has_upper_bits, has_word, may_transfer, ArKind, Transaction, least_of, is_line_read, line_rules, k18_line, read_kind, Header, Trace, Channel, R, Read, IsAccepted, implies, is_none_or, is_line, outstanding, has_failed, k19, k20, line_in, line_of, progress_of, Progress, LineRecord, Grant, GrantStands, LineStands, may_have_beat, fits_bits, fits_reply, has_passed_for, is_shared_under, rule_of_beat, IsOfPlace}
use Rattle.ace_model.proofs.General.Options.{Some-injective}
use Rattle.ace_lineck.proofs.GrantLaws.{its-is, may-law}
use Rattle.ace_lineck.proofs.Asked.{asked, asked_both, ruled}
use Rattle.ace_lineck.proofs.ReplyLaws.{kind-line, k19-law, k20-law}

-- the transaction whose progress this is
pub progress-from : (h : Header) (past : Trace) (o : Option Transaction) (x : Progress) → option_map (progress_of h past) o ≡ Some x → o ≡ Some x.transaction
progress-from h past None x is = cc
progress-from h past (Some y) x is = ap (λ (v : Progress). Some v.transaction) (Some-injective (progress_of h past y) x is)

-- what is kept of the grant of the line of an outstanding transaction is of it where the place is
pub granted-of_place : (h : Header) (past : Trace) (p : ℕ) (c : Channel) (i : ℕ) (x : Transaction) (g : Option Grant) → IsAccepted h past → outstanding h past p c i ≡ Some x
    → GrantStands h past x.addr g → IsOfPlace g x
granted-of_place h past p c i x o a out s g is same =
    let f : GrantStands h past x.addr (Some g) = subst (GrantStands h past x.addr) is s in
    its-is h past a x.addr g f p c i x out refl same

pub progress-is : (h : Header) (past : Trace) (o : Option Transaction) (x : Progress) → option_map (progress_of h past) o ≡ Some x → x ≡ progress_of h past x.transaction
progress-is h past None x is = cc
progress-is h past (Some y) x is = let one : progress_of h past y ≡ x = Some-injective (progress_of h past y) x is in sym (ap (λ (v : Progress). progress_of h past v.transaction) (sym one) ∙ one)

-- K19 and K20, where K18 lets the transfer through
pub beat-answers : (h : Header) (past : Trace) → IsAccepted h past → (p i resp : ℕ) (last : Bool) (word : ℕ) (x : Progress) → option_map (progress_of h past) (outstanding h past p Read i) ≡ Some x
    → (kept : LineRecord) → (is_line x.transaction ≡ true → LineStands h past x.transaction.addr kept) → (is_line x.transaction ≡ true → may_transfer h past x.transaction resp ≡ true)
    → asked_both 19 20 (fits_bits h (has_passed_for kept.grant x.transaction) (is_shared_under kept.grant) resp x) (fits_reply kept.grant kept.memory word x)
    ≡ asked_both 19 20 (k19 h past (R p i resp last word)) (k20 h past (R p i resp last word))
beat-answers h past a p i resp last word x out kept s may =
    let y = x.transaction in
    let o = progress-from h past (outstanding h past p Read i) x out in
    let is = progress-is h past (outstanding h past p Read i) x out in
    ruled (fits_bits h (has_passed_for kept.grant y) (is_shared_under kept.grant) resp x) (k19 h past (R p i resp last word)) 19
    (asked 20 (fits_reply kept.grant kept.memory word x)) (asked 20 (k20 h past (R p i resp last word)))
    (ap (fits_bits h (has_passed_for kept.grant y) (is_shared_under kept.grant) resp) is ∙ k19-law h past a p i resp y o kept s may ∙ sym (ap (λ v. is_none_or v (has_upper_bits h past resp)) o))
    (λ fits. ap (asked 20) (ap (fits_reply kept.grant kept.memory word) is ∙ k20-law h past a p i resp y o kept s may word ∙ sym (ap (λ v. is_none_or v (has_word past word)) o)))

module _ (h : Header) (past : Trace) (p i resp : ℕ) (last : Bool) (word : ℕ) (x : Progress) (k : ArKind) (out : option_map (progress_of h past) (outstanding h past p Read i) ≡ Some x)
    (kind : read_kind x.transaction ≡ Some k) (line : is_line_read k ≡ true) where
  -- its line
  pub beat-line : line_in h past (R p i resp last word) ≡ Some x.transaction.addr
  beat-line = ap line_of out ∙ (let on = kind-line x.transaction k kind line in rw on refl)

  module _ (kept : LineRecord) (a : IsAccepted h past) (s : LineStands h past x.transaction.addr kept) where
    pub of-place : IsOfPlace kept.grant x.transaction
    of-place = granted-of_place h past p Read i x.transaction kept.grant a (progress-from h past (outstanding h past p Read i) x out) s.grant

    pub beat-rule : (failed : Bool) → failed ≡ has_failed past x.transaction → rule_of_beat h failed kept x resp word ≡ least_of line_rules h past (R p i resp last word)
    beat-rule failed own =
        let y = x.transaction in
        let o = progress-from h past (outstanding h past p Read i) x out in
        let is = progress-is h past (outstanding h past p Read i) x out in
        let on = kind-line y k kind line in
        let law : may_have_beat h failed kept.grant kept.states x resp ≡ may_transfer h past y resp =
        ap (λ v. may_have_beat h failed kept.grant kept.states v resp) is ∙ may-law h past a p i y o kept resp failed own s in
        ruled (may_have_beat h failed kept.grant kept.states x resp) (k18_line h past (R p i resp last word)) 18 _ _
        (law ∙ sym (ap (λ v. is_none_or v (λ z. implies (is_line z) (may_transfer h past z resp))) o ∙ ap (λ b. implies b (may_transfer h past y resp)) on))
        (λ due. beat-answers h past a p i resp last word x out kept (λ t. s)
        (λ t. sym (ap (λ v. is_none_or v (λ z. implies (is_line z) (may_transfer h past z resp))) o ∙ ap (λ b. implies b (may_transfer h past y resp)) on) ∙ due))
