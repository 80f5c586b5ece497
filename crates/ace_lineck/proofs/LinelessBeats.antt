-- The least rule of the share that a transfer of a read without a line breaks, and what it leaves.
use Rattle.std.proofs.Common.{◌≡◌, ◌==◌, ◌&&◌, ℕ, true, false, Bool, not, Some, None, option_map, refl, sym, ap, ◌∙◌}
use Rattle.ace_lineck.proofs.Terms.{ar_kind_of, is_shared, passes_dirty, ArKind, least_broken, least_of, is_line_read, is_read_not_shared_dirty, may_be_shared, line_rules, k18_line, Transaction, Header, Trace, R, Read, IsAccepted, is_ace, is_line, is_read, outstanding, read_kind, write_kind, k19, k20, Recording, after, line_in, line_of, progress_of, Progress, LineCheck, LineRecord, fits_bits, fits_reply, has_passed_for, is_shared_under, rule_of_dataless, Stands}
use Rattle.ace_codes.specs.declared.kind.ArKind.TheVariants as read
use Rattle.ace_portck.proofs.LineReads.{on_reads}
use Rattle.ace_lineck.proofs.AllLines.{unchanged}
use Rattle.ace_lineck.proofs.Asked.{asked_both, ruled}
use Rattle.ace_lineck.proofs.BeatLaws.{beat-answers, progress-from}

-- a read without a line is never shared, and no ReadNotSharedDirty
never-shared : (k : ArKind) → is_line_read k ≡ false → may_be_shared k ≡ false
never-shared read.Barrier lineless = refl
never-shared read.DvmMessage lineless = refl
never-shared read.DvmComplete lineless = refl
never-shared k lineless = cc

no-not_shared_dirty : (k : ArKind) → is_line_read k ≡ false → is_read_not_shared_dirty k ≡ false
no-not_shared_dirty read.ReadNotSharedDirty lineless = cc
no-not_shared_dirty k lineless = refl

-- its first transfer may have neither PassDirty nor IsShared
bits-are : (h : Header) (passed shared : Bool) (resp : ℕ) (x : Progress) (k : ArKind) → read_kind x.transaction ≡ Some k → is_line_read k ≡ false → x.transfers ≡ 0 → passed ≡ false
    → (not (passes_dirty resp) && not (is_shared resp)) ≡ fits_bits h passed shared resp x
bits-are h passed shared resp x k kind lineless first none = by (is_ace h x.transaction.port) (passes_dirty resp) (is_shared resp) refl refl refl
  where
    by : (a d s : Bool) → is_ace h x.transaction.port ≡ a → passes_dirty resp ≡ d → is_shared resp ≡ s → (not (passes_dirty resp) && not (is_shared resp)) ≡ fits_bits h passed shared resp x
    by a true s ace dirty told = rw (dirty, none) refl
    by a false true ace dirty told = rw (kind, dirty, told, never-shared k lineless) refl
    by true false false ace dirty told = rw (kind, dirty, told, first, ace, never-shared k lineless, no-not_shared_dirty k lineless) refl
    by false false false ace dirty told = rw (kind, dirty, told, first, ace, no-not_shared_dirty k lineless) refl

-- and has the word 0
word-is : (kept : LineRecord) (word : ℕ) (x : Progress) (k : ArKind) → read_kind x.transaction ≡ Some k → is_line_read k ≡ false → (word == 0) ≡ fits_reply kept.grant kept.memory word x
word-is kept word x k kind lineless = by k lineless kind
  where
    by : (j : ArKind) → is_line_read j ≡ false → read_kind x.transaction ≡ Some j → (word == 0) ≡ fits_reply kept.grant kept.memory word x
    by read.Barrier lineless own = rw own refl
    by read.DvmMessage lineless own = rw own refl
    by read.DvmComplete lineless own = rw own refl
    by j lineless own = cc

-- it is no line transaction
no-line : (x : Transaction) (k : ArKind) → read_kind x ≡ Some k → is_line_read k ≡ false → is_line x ≡ false
no-line x k kind lineless =
    let reads = on_reads (is_read x.chan) (ar_kind_of x.snoop x.dom x.bar) k kind in
    let writes : write_kind x ≡ None = rw reads refl in
    rw (kind, writes, lineless) refl

module _ (h : Header) (past : Trace) (p i resp : ℕ) (last : Bool) (word : ℕ) (x : Progress) (k : ArKind) (out : option_map (progress_of h past) (outstanding h past p Read i) ≡ Some x)
    (kind : read_kind x.transaction ≡ Some k) (lineless : is_line_read k ≡ false) where
  -- it has no line
  pub beat-off : line_in h past (R p i resp last word) ≡ None
  beat-off = ap line_of out ∙ (let off = no-line x.transaction k kind lineless in rw off refl)

  -- its first transfer breaks no rule of the share where it is dataless
  pub lineless-beat-rule : (kept : LineRecord) → IsAccepted h past → x.transfers ≡ 0 → rule_of_dataless resp word ≡ least_of line_rules h past (R p i resp last word)
  lineless-beat-rule kept a first =
      let off = no-line x.transaction k kind lineless in
      let free : k18_line h past (R p i resp last word) ≡ true = rw (progress-from h past (outstanding h past p Read i) x out, off) refl in
      let none : has_passed_for kept.grant x.transaction ≡ false = rw off refl in
      ruled true (k18_line h past (R p i resp last word)) 18 (rule_of_dataless resp word) (asked_both 19 20 (k19 h past (R p i resp last word)) (k20 h past (R p i resp last word))) (sym free)
      (λ due. ap (λ b. asked_both 19 20 b (word == 0)) (bits-are h (has_passed_for kept.grant x.transaction) (is_shared_under kept.grant) resp x k kind lineless first none)
      ∙ ap (asked_both 19 20 (fits_bits h (has_passed_for kept.grant x.transaction) (is_shared_under kept.grant) resp x)) (word-is kept word x k kind lineless)
      ∙ beat-answers h past a p i resp last word x out kept (λ line. let bad : false ≡ true = sym off ∙ line in cc) (λ line. let bad : false ≡ true = sym off ∙ line in cc))

-- and all lines stay as they are
pub lines-unmoved : (s : LineCheck) (r : Recording) (p i resp : ℕ) (last : Bool) (word : ℕ) (x : Progress) (k : ArKind) → Stands s r
    → option_map (progress_of r.header r.past) (outstanding r.header r.past p Read i) ≡ Some x → read_kind x.transaction ≡ Some k → is_line_read k ≡ false
    → least_broken r.header r.past (R p i resp last word) ≡ None → Stands s (after r (R p i resp last word))
lines-unmoved s r p i resp last word x k st out kind lineless fine =
    unchanged s r (R p i resp last word) st fine (beat-off r.header r.past p i resp last word x k out kind lineless)
