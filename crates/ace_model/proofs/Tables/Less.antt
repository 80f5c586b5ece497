-- A state that is no more than another, and what that keeps.
use Rattle.std.proofs.Common.{◌≡◌, Bool, true, false, if◌then◌else◌, ◌&&◌, Some, None, unwrap_or, refl}
use Rattle.std.proofs.lemmas.Bool.{and_parts}
use Rattle.ace_model.proofs.Terms.{SnoopKind, LineState, I, UC, UD, SC, is_dirty, is_unique}
use Rattle.ace_model.proofs.Tables.States.{each_state, lessens, cleans, Lessens, lessens-is, Leaves, Lessens-self, is_settled}
use Rattle.ace_model.proofs.General.Booleans.{not_more}

-- the new state is no more than the old one
abbrev pub Less : LineState → LineState → Type 0
Less old new = (lessens old new && cleans old new) ≡ true

pub less_self : (st : LineState) → Less st st
less_self = each_state (λ st. Less st st) refl refl refl refl refl

pub less-lessens : (old new : LineState) → Less old new → Lessens old new
less-lessens old new e = lessens-is old new (and_parts (lessens old new) (cleans old new) e).0

pub less-clean : (old new : LineState) → Less old new → is_dirty old ≡ false → is_dirty new ≡ false
less-clean old new e = not_more (is_dirty new) (is_dirty old) (and_parts (lessens old new) (cleans old new) e).1

-- a state that is named where the test holds
pub less_where : (test : Bool) (held st : LineState) → (test ≡ true → Less held st) → Less held (unwrap_or (if test then Some st else None) held)
less_where true held st less = less refl
less_where false held st less = less_self held

pub leaves_kept : (k : SnoopKind) (shared : Bool) (old new : LineState) → Lessens old new → Leaves k shared old → Leaves k shared new
leaves_kept k shared old new less leaves = record {
  gone = λ t. less.gone (leaves.gone t);
  not_unique = λ t. less.not_unique (leaves.not_unique t);
}

pub unique_to_dirty : (held : LineState) → is_unique held ≡ true → lessens held UD ≡ true
unique_to_dirty UC e = refl
unique_to_dirty UD e = refl
unique_to_dirty held e = cc

pub lessens_where : (test : Bool) (held st : LineState) → (test ≡ true → Lessens held st) → Lessens held (unwrap_or (if test then Some st else None) held)
lessens_where true held st less = less refl
lessens_where false held st less = Lessens-self held

pub settled : (st : LineState) → is_unique st ≡ false → is_dirty st ≡ false → is_settled st ≡ true
settled I u d = refl
settled SC u d = refl
settled st u d = cc

pub settled_clean : (st : LineState) → is_settled st ≡ true → is_dirty st ≡ false
settled_clean I s = refl
settled_clean SC s = refl
settled_clean st s = cc
