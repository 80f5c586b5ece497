use Rattle.std.proofs.Common.{refl, ap, arith, ◌≡◌, ℕ, zero, suc, false, inl, inr, sym, ◌∙◌, reverse}
use Rattle.std.proofs.Math.Dec.{eqb-suc-zero}
use Rattle.std.proofs.lemmas.Bool.{true≢false}
use Rattle.ace_event.specs.Bytes.{merged, number_of_bytes}
use Rattle.ace_codes.specs.Reads.{ar_kind_of}
use Rattle.ace_codes.specs.Writes.{aw_kind_of}
use Rattle.ace_codes.specs.Snoops.{ac_kind_of}
use Rattle.ace_rows.specs.Shorthands.{two_ace, line_a, repeated_line}
use Rattle.ace_model.specs.States.{state_of}
use Rattle.ace_model.specs.Copies.{word_of, zero_line}
use Rattle.ace_tables.specs.States.{is_dirty}
use Rattle.ace_rows.specs.Broken.{loses_a_store}
use Rattle.ace_rows.proofs.properties.broken_runs_lack_a_property.Goals as goal

pub returns-clause-unique : goal.returns-clause-unique
unfolding ar_kind_of aw_kind_of ac_kind_of
returns-clause-unique c u = let h = u.1 64 0 1 refl (λ e. cc) in cc

pub returns-clause-one_dirty : goal.returns-clause-one_dirty
unfolding ar_kind_of aw_kind_of ac_kind_of
returns-clause-one_dirty c u = let h = u.1 line_a 0 1 refl refl in cc

-- no port holds the line dirty
is_clean : (p : ℕ) → is_dirty (state_of two_ace (reverse loses_a_store) p line_a) ≡ false
unfolding ar_kind_of aw_kind_of ac_kind_of
is_clean zero = refl
is_clean (suc p) = rw (eqb-suc-zero p) refl

are_other_lines : zero_line ≡ repeated_line 0x11 → ⊥
are_other_lines e = let w : 0 ≡ word_of (repeated_line 0x11) 0 = ap (λ line. word_of line 0) e in cc

pub returns-clause-dirty_place : goal.returns-clause-dirty_place
unfolding ar_kind_of aw_kind_of ac_kind_of merged number_of_bytes
returns-clause-dirty_place c d = elim ((d.1 line_a).1) [ inl m ↦ absurd (are_other_lines m) | inr (inl holder) ↦ absurd (true≢false (sym holder.1 ∙ is_clean holder.0)) | inr (inr (inl p)) ↦ cc | inr (inr (inr g)) ↦ cc ]

pub returns-clause-reads_follow : goal.returns-clause-reads_follow
unfolding ar_kind_of aw_kind_of ac_kind_of merged number_of_bytes
returns-clause-reads_follow c f = let h = f.1.load_word 15 0 64 0 0 (false, refl) in cc

pub returns-clause-coherent : goal.returns-clause-coherent
returns-clause-coherent c h = returns-clause-reads_follow c h.reads_follow

pub returns-clause-barrier_holds : goal.returns-clause-barrier_holds
unfolding ar_kind_of aw_kind_of ac_kind_of
returns-clause-barrier_holds c b =
    let h = b.1 _ _ _ refl refl (0, refl) (omega arith) (0, refl) refl in cc

pub returns-clause-dvm_holds : goal.returns-clause-dvm_holds
unfolding ar_kind_of aw_kind_of ac_kind_of
returns-clause-dvm_holds c d =
    let h = d.1 0 refl in let s = (h.2 1 refl (λ e. cc)).sync in cc

pub returns-clause-dvm_holds_of_a_stray : goal.returns-clause-dvm_holds_of_a_stray
unfolding ar_kind_of aw_kind_of ac_kind_of
returns-clause-dvm_holds_of_a_stray c d =
    let h = d.1 0 refl in let s = (h.2 1 refl (λ e. cc)).sync in cc
