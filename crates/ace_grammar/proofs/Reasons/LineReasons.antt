-- The reasons of lines.
use Rattle.std.proofs.Common.{◌≡◌, ◌≢◌, ℕ, List, [], Option, Some, None, refl, sym, ap, ◌∙◌, inl, inr, ◌⊎◌}
use Rattle.std.specs.List.{join_with_byte}
use Rattle.std.proofs.lemmas.List.Elements.{All-from_recursion}
use Rattle.ace_io.specs.Line.{HasNoLf}
use Rattle.std.proofs.lemmas.List.Splits.{join_with_byte-slice_split}
use Rattle.ace_event.specs.declared.event.Event.{Event}
use Rattle.ace_event.specs.declared.event.Event.TheVariants.{Ar, R, Rk, Aw, W, B, Wk, Ac, Cr, Cd, G, M, S, L, D, Op, Mem}
use Rattle.ace_event.specs.Range.{InRange}
use Rattle.ace_event.specs.Text.{event_text, fields}
use Rattle.ace_grammar.specs.declared.reason.Reason.{Reason}
use Rattle.ace_grammar.specs.Records.{event_at}
use Rattle.ace_grammar.specs.Reasons.{AreFields, HasReason, line_reason}
use Rattle.ace_grammar.proofs.Texts.LineTexts.{event_again}
use Rattle.ace_grammar.proofs.General.Options.{some_is, none_isn't}
use Rattle.ace_grammar.proofs.Reasons.CutFields.{cut, cut_are_fields, are_cut}
use Rattle.ace_grammar.proofs.Reasons.EventReasons.{without_reason, event_without_reason, event_visible}
use Rattle.ace_grammar.proofs.General.Visible.{IsPlain, IsVisible, all-weaker, visible-plain, joined-clean}

some_fields : (version : ℕ) (event : Event) → fields version event ≢ []
some_fields version (Ar port id addr snoop dom bar lock) e = absurd cc
some_fields version (R port id resp last word) e = absurd cc
some_fields version (Rk port st) e = absurd cc
some_fields version (Aw port id addr snoop dom bar) e = absurd cc
some_fields version (W port strb last word) e = absurd cc
some_fields version (B port id resp) e = absurd cc
some_fields version (Wk port st) e = absurd cc
some_fields version (Ac port addr snoop) e = absurd cc
some_fields version (Cr port resp st) e = absurd cc
some_fields version (Cd port last word) e = absurd cc
some_fields version (G port chan id) e = absurd cc
some_fields version (M port chan id line) e = absurd cc
some_fields version (S port addr st) e = absurd cc
some_fields version (L port addr w x word) e = absurd cc
some_fields version (D port addr strobe x line) e = absurd cc
some_fields version (Op port k res) e = absurd cc
some_fields version (Mem addr line) e = absurd cc

event_fields : (version : ℕ) (event : Event) → AreFields (event_text version event) (fields version event)
event_fields version event = record {
  some_field = some_fields version event;
  joined = refl;
  no_space = all-weaker IsVisible IsPlain visible-plain (fields version event) (event_visible version event);
}

-- the line of an event holds no line feed
pub event_no_lf : (version : ℕ) (event : Event) → HasNoLf (event_text version event)
event_no_lf version event = All-from_recursion (λ b. b ≢ 10) (event_text version event) (joined-clean (fields version event) (event_visible version event))

-- ---- reasons of lines

pub has_reason : (version : ℕ) (line : List ℕ) (reason : Reason) → line_reason version (cut line) ≡ Some reason → HasReason version line reason
has_reason version line reason e = (cut line, cut_are_fields line, e)

pub same_reason : (version : ℕ) (line : List ℕ) (one other : Reason) → HasReason version line one → HasReason version line other → one ≡ other
same_reason version line one other h k =
    some_is one other (sym h.2 ∙ ap (line_reason version) (sym (are_cut line h.0 h.1) ∙ are_cut line k.0 k.1) ∙ k.2)

-- the line of an event in range has no reason
pub event_has_none : (version : ℕ) (line : List ℕ) (reason : Reason) (event : Event) → HasReason version line reason → InRange version event → event_text version event ≢ line
event_has_none version line reason event h is e =
    let same : cut line ≡ fields version event = ap cut (sym e) ∙ are_cut (event_text version event) (fields version event) (event_fields version event) in
    none_isn't reason _ (sym (event_without_reason version event is) ∙ ap (line_reason version) (sym same ∙ are_cut line h.0 h.1) ∙ h.2)

-- a line without a reason is that of an event in range
pub line_without_reason : (version : ℕ) (line : List ℕ) → line_reason version (cut line) ≡ None → (event : Event) × InRange version event × (event_text version event ≡ line)
line_without_reason version line e =
    let told = without_reason version (cut line) e in
    (told.0, told.1, ap (join_with_byte 32) told.2 ∙ join_with_byte-slice_split 32 line)

-- what isn't read as an event has a reason
pub unread_has_reason : (version : ℕ) (line : List ℕ) → event_at version line ≡ None → line_reason version (cut line) ≢ None
unread_has_reason version line none e =
    let told = line_without_reason version line e in
    none_isn't told.0 _ (sym none ∙ ap (event_at version) (sym told.2) ∙ event_again version told.0 told.1)

told : (version : ℕ) (line : List ℕ) (reason : Option Reason) → line_reason version (cut line) ≡ reason
    → ((event : Event) × InRange version event × (event_text version event ≡ line)) ⊎ ((why : Reason) × HasReason version line why)
told version line None e = inl (line_without_reason version line e)
told version line (Some why) e = inr (why, has_reason version line why e)

-- each line is that of an event in range, or has a reason
pub event_or_reason : (version : ℕ) (line : List ℕ) → ((event : Event) × InRange version event × (event_text version event ≡ line)) ⊎ ((why : Reason) × HasReason version line why)
event_or_reason version line = told version line (line_reason version (cut line)) refl
