-- What a field has to be for no reason to apply: the text of a value in its range.
use Rattle.std.proofs.Common.{◌≡◌, ℕ, ◌^◌, ◌<◌, ◌≤◌, Bool, true, false, cond, eqb, leb, List, length, Option, Some, None, refl, sym, ap, subst, ◌∙◌, arith, inl, inr}
use Rattle.std.specs.Prelude.{codes}
use Rattle.std.specs.Option.{is_some}
use Rattle.std.specs.List.{list_all}
use Rattle.std.specs.Str.{bytes_eq}
use Rattle.std.proofs.lemmas.Bool.{eqb-true, eq-eqb, leb-true, le-leb, cond-true, or_cases}
use Rattle.std.proofs.lemmas.Slice.Eq.{bytes_eq-Decides}
use Rattle.ace_codes.specs.declared.state.LineState.{LineState}
use Rattle.ace_codes.specs.declared.state.LineState.TheVariants.{I, UC, UD, SC, SD}
use Rattle.ace_event.specs.declared.event.Channel.{Channel}
use Rattle.ace_event.specs.declared.event.Channel.TheVariants.{Read, Write}
use Rattle.ace_event.specs.declared.event.Outcome.{Outcome}
use Rattle.ace_event.specs.declared.event.Outcome.TheVariants.{Ok, Skip, Fail}
use Rattle.ace_event.specs.Range.{IsPort}
use Rattle.ace_event.specs.Text.{hex_text, port_digits, port_text, flag_text, channel_text, state_text, outcome_text}
use Rattle.ace_grammar.specs.declared.reason.Reason.TheVariants.{F4, F5, F6}
use Rattle.ace_grammar.specs.declared.shapes.Shape.{Shape}
use Rattle.ace_grammar.specs.declared.shapes.Shape.TheVariants.{Port, Digits, AtMost, SnoopResponse, ChannelWord, StateWord, OutcomeWord}
use Rattle.ace_grammar.specs.Fields.{digits_onto, state_of, outcome_of}
use Rattle.ace_grammar.specs.Reasons.{is_digit, digits_reason, number_reason, limited_reason, word_reason, field_reason}
use Rattle.ace_grammar.proofs.General.Options.{is_there, chosen}
use Rattle.ace_grammar.proofs.Digits.Hex.{hex_text-visible, length-hex_text, hex_digits, number_of_digits, number_again, digits_text}
use Rattle.ace_grammar.proofs.Texts.FieldTexts.{Any, room_of_response, bit_text, flag_bit, state_takes, state_again, outcome_takes, outcome_again}
use Rattle.ace_grammar.proofs.General.Visible.{IsVisible}

pub some_isn't_none : {A : Type 0} (x : A) (P : Type 0) → Some x ≡ None → P
some_isn't_none x P e = absurd cc

-- a field of some shape: the values whose texts have no reason, and no other text
pub record Kind (version : ℕ) (A : Type 0) : Type 1 where
  pub shape : Shape
  pub text : A → List ℕ
  pub IsIn : A → Type 0
  pub decode : (field : List ℕ) → field_reason version shape field ≡ None → (value : A) × IsIn value × (field ≡ text value)
  pub encode : (value : A) → IsIn value → field_reason version shape (text value) ≡ None
  pub visible : (value : A) → IsVisible (text value)

-- ---- digits

pub digits_none : (count : ℕ) (field : List ℕ) → digits_reason count field ≡ None → (length field ≡ count) × (list_all is_digit field ≡ true)
digits_none count field e =
    elim (chosen (eqb (length field) count) (cond (list_all is_digit field) None (Some F5)) (Some F4) None e) [
      | inl p ↦
          elim (chosen (list_all is_digit field) None (Some F5) None p.1) [
            | inl q ↦ (eqb-true (length field) count p.0, q.0)
            | inr q ↦ some_isn't_none F5 _ q.1
          ]
      | inr p ↦ some_isn't_none F4 _ p.1
    ]

pub digits_decode : (count : ℕ) (field : List ℕ) → digits_reason count field ≡ None → (number : ℕ) × (number < 16 ^ count) × (field ≡ hex_text count number)
digits_decode count field e =
    let told = digits_none count field e in
    let number = number_of_digits field told.1 in
    (number.0, subst (λ k. number.0 < 16 ^ k) told.0 number.1, number.2 ∙ ap (λ k. hex_text k number.0) told.0)

pub digits_fine : (count : ℕ) (field : List ℕ) → length field ≡ count → list_all is_digit field ≡ true → digits_reason count field ≡ None
digits_fine count field size all =
    cond-true (eqb (length field) count) _ _ (eq-eqb (length field) count size) ∙ cond-true (list_all is_digit field) _ _ all

pub digits_encode : (count number : ℕ) → digits_reason count (hex_text count number) ≡ None
digits_encode count number = digits_fine count (hex_text count number) (length-hex_text count number) (hex_digits count number)

abbrev pub digits : {version : ℕ} → ℕ → Kind version ℕ
digits {version} count = record {
  shape = Digits count;
  text = hex_text count;
  IsIn = λ number. number < 16 ^ count;
  decode = digits_decode count;
  encode = λ number h. digits_encode count number;
  visible = hex_text-visible count;
}

-- a port, in a trace of a version
abbrev pub port : {version : ℕ} → Kind version ℕ
port {version} = record {
  shape = Port;
  text = port_text version;
  IsIn = IsPort version;
  decode = digits_decode (port_digits version);
  encode = λ number h. digits_encode (port_digits version) number;
  visible = hex_text-visible (port_digits version);
}

number_none : (most : ℕ) (read : Option ℕ) → number_reason most read ≡ None → (number : ℕ) × (read ≡ Some number) × (number ≤ most)
number_none most None e = some_isn't_none F5 _ e
number_none most (Some number) e =
    elim (chosen (leb number most) None (Some F6) None e) [
      | inl p ↦ (number, refl, leb-true number most p.0)
      | inr p ↦ some_isn't_none F6 _ p.1
    ]

pub limited_decode : (count most : ℕ) (field : List ℕ) → limited_reason count most field ≡ None → (number : ℕ) × (number ≤ most) × (field ≡ hex_text count number)
limited_decode count most field e =
    elim (chosen (eqb (length field) count) (number_reason most (digits_onto 0 field)) (Some F4) None e) [
      | inl p ↦
          let number = number_none most (digits_onto 0 field) p.1 in
          (number.0, number.2, digits_text field number.0 number.1 ∙ ap (λ k. hex_text k number.0) (eqb-true (length field) count p.0))
      | inr p ↦ some_isn't_none F4 _ p.1
    ]

pub limited_encode : (count most number : ℕ) → most < 16 ^ count → number ≤ most → limited_reason count most (hex_text count number) ≡ None
limited_encode count most number room h =
    cond-true (eqb (length (hex_text count number)) count) _ _ (eq-eqb (length (hex_text count number)) count (length-hex_text count number))
    ∙ ap (number_reason most) (number_again count number (omega (arith, room, h)))
    ∙ cond-true (leb number most) _ _ (le-leb number most h)

abbrev pub at_most : {version : ℕ} (most : ℕ) → most < 16 ^ 1 → Kind version ℕ
at_most {version} most room = record {
  shape = AtMost most;
  text = hex_text 1;
  IsIn = λ number. number ≤ most;
  decode = limited_decode 1 most;
  encode = λ number h. limited_encode 1 most number room h;
  visible = hex_text-visible 1;
}

abbrev pub response : {version : ℕ} → Kind version ℕ
response {version} = record {
  shape = SnoopResponse;
  text = hex_text 2;
  IsIn = λ number. number ≤ 0x1f;
  decode = limited_decode 2 0x1f;
  encode = λ number h. limited_encode 2 0x1f number room_of_response h;
  visible = hex_text-visible 2;
}

pub flag_decode : (field : List ℕ) → limited_reason 1 1 field ≡ None → (value : Bool) × Any value × (field ≡ flag_text value)
flag_decode field e =
    let bit = limited_decode 1 1 field e in
    (eqb bit.0 1, tt, bit.2 ∙ bit_text bit.0 bit.1)

pub flag_encode : (value : Bool) → limited_reason 1 1 (flag_text value) ≡ None
flag_encode value =
    let bit = flag_bit value in
    ap (limited_reason 1 1) (sym (bit_text bit.0 bit.1 ∙ ap flag_text bit.2)) ∙ limited_encode 1 1 bit.0 (omega arith) bit.1

pub flag_text-visible : (flag : Bool) → IsVisible (flag_text flag)
flag_text-visible false = grind arith
flag_text-visible true = grind arith

abbrev pub flag : {version : ℕ} → Kind version Bool
flag {version} = record {
  shape = AtMost 1;
  text = flag_text;
  IsIn = Any;
  decode = flag_decode;
  encode = λ value h. flag_encode value;
  visible = flag_text-visible;
}

-- ---- words

word_none : (known : Bool) → word_reason known ≡ None → known ≡ true
word_none true e = refl
word_none false e = some_isn't_none F5 _ e

pub channel_decode : (version : ℕ) (field : List ℕ) → field_reason version ChannelWord field ≡ None → (value : Channel) × Any value × (field ≡ channel_text value)
channel_decode version field e =
    elim (or_cases (bytes_eq field (codes "R")) (bytes_eq field (codes "W")) (word_none _ e)) [
      | inl p ↦ (Read, tt, (bytes_eq-Decides field (codes "R")).0 p)
      | inr p ↦ (Write, tt, (bytes_eq-Decides field (codes "W")).0 p)
    ]

pub channel_encode : (version : ℕ) (value : Channel) → field_reason version ChannelWord (channel_text value) ≡ None
channel_encode version Read = refl
channel_encode version Write = refl

pub channel_text-visible : (channel : Channel) → IsVisible (channel_text channel)
channel_text-visible Read = grind arith
channel_text-visible Write = grind arith

abbrev pub channel : {version : ℕ} → Kind version Channel
channel {version} = record {
  shape = ChannelWord;
  text = channel_text;
  IsIn = Any;
  decode = channel_decode version;
  encode = λ value h. channel_encode version value;
  visible = channel_text-visible;
}

pub state_decode : (version : ℕ) (field : List ℕ) → field_reason version StateWord field ≡ None → (value : LineState) × Any value × (field ≡ state_text value)
state_decode version field e =
    let there = is_there (state_of field) (word_none (is_some (state_of field)) e) in
    (there.0, tt, state_takes field there.0 there.1)

pub state_encode : (version : ℕ) (value : LineState) → field_reason version StateWord (state_text value) ≡ None
state_encode version value = ap (λ (o : Option LineState). word_reason (is_some o)) (state_again value)

pub state_text-visible : (st : LineState) → IsVisible (state_text st)
state_text-visible I = grind arith
state_text-visible UC = grind arith
state_text-visible UD = grind arith
state_text-visible SC = grind arith
state_text-visible SD = grind arith

abbrev pub state : {version : ℕ} → Kind version LineState
state {version} = record {
  shape = StateWord;
  text = state_text;
  IsIn = Any;
  decode = state_decode version;
  encode = λ value h. state_encode version value;
  visible = state_text-visible;
}

pub outcome_decode : (version : ℕ) (field : List ℕ) → field_reason version OutcomeWord field ≡ None → (value : Outcome) × Any value × (field ≡ outcome_text value)
outcome_decode version field e =
    let there = is_there (outcome_of field) (word_none (is_some (outcome_of field)) e) in
    (there.0, tt, outcome_takes field there.0 there.1)

pub outcome_encode : (version : ℕ) (value : Outcome) → field_reason version OutcomeWord (outcome_text value) ≡ None
outcome_encode version value = ap (λ (o : Option Outcome). word_reason (is_some o)) (outcome_again value)

pub outcome_text-visible : (res : Outcome) → IsVisible (outcome_text res)
outcome_text-visible Ok = grind arith
outcome_text-visible Skip = grind arith
outcome_text-visible Fail = grind arith

abbrev pub outcome : {version : ℕ} → Kind version Outcome
outcome {version} = record {
  shape = OutcomeWord;
  text = outcome_text;
  IsIn = Any;
  decode = outcome_decode version;
  encode = λ value h. outcome_encode version value;
  visible = outcome_text-visible;
}
