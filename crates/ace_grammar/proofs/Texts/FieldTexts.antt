-- The fields of a line: what takes each is exact.
use Rattle.std.proofs.Common.{◌≡◌, ℕ, zero, suc, ◌+◌, ◌-◌, ◌^◌, ◌<◌, ◌≤◌, Bool, true, false, cond, List, [], ◌∷◌, ◌++◌, length, Option, Some, None, refl, sym, ap, ◌∙◌, arith, eqb, inl, inr}
use Rattle.std.proofs.lemmas.Bool.{eqb-true}
use Rattle.std.specs.Option.{option_map}
use Rattle.std.specs.Str.{bytes_eq}
use Rattle.std.proofs.lemmas.Slice.Eq.{bytes_eq-Decides}
use Rattle.ace_codes.specs.declared.state.LineState.{LineState}
use Rattle.ace_codes.specs.declared.state.LineState.TheVariants.{I, UC, UD, SC, SD}
use Rattle.ace_event.specs.declared.event.Channel.{Channel}
use Rattle.ace_event.specs.declared.event.Channel.TheVariants.{Read, Write}
use Rattle.ace_event.specs.declared.event.Outcome.{Outcome}
use Rattle.ace_event.specs.declared.event.Outcome.TheVariants.{Ok, Skip, Fail}
use Rattle.ace_event.specs.Range.{IsPort}
use Rattle.ace_event.specs.Text.{hex_text, port_text, flag_text, channel_text, state_text, outcome_text}
use Rattle.ace_grammar.specs.Fields.{digits_at, number_at, port_at, flag_at, channel_of, letter_at, channel_at, state_of, state_at, outcome_of, outcome_at}
use Rattle.ace_grammar.proofs.General.Options.{map_some, some_is, none_isn't, chosen}
use Rattle.ace_grammar.proofs.Digits.Hex.{length-hex_text, digits_takes, digits_again}
use Rattle.ace_grammar.proofs.Texts.Exact.{Takes, ReadsAll, takes_spaced, reads_spaced, Field, Rest}

pub digits_exact : (count most : ℕ) → most < 16 ^ count → Takes (digits_at count most) (hex_text count) (λ number. number ≤ most) count
digits_exact count most room = record {
  takes = λ bytes rest number e. digits_takes count most bytes rest number e;
  again = λ number rest h. digits_again count most number rest room h;
  short = λ number h. omega (arith, length-hex_text count number);
}

pub number_exact : (count most : ℕ) → most < 16 ^ count → Takes (number_at count most) (λ number. 32 ∷ hex_text count number) (λ number. number ≤ most) (count + 1)
unfolding number_at
number_exact count most room = takes_spaced (digits_at count most) (hex_text count) (λ number. number ≤ most) count (digits_exact count most room)

-- every value of the type is in range
abbrev pub Any : {A : Type 0} → A → Type 0
Any value = Unit {0}

pub bit_text : (bit : ℕ) → bit ≤ 1 → hex_text 1 bit ≡ flag_text (eqb bit 1)
unfolding hex_text
bit_text zero h = refl
bit_text (suc zero) h = refl
bit_text (suc (suc n)) h = absurd (omega arith)

pub flag_bit : (flag : Bool) → (bit : ℕ) × (bit ≤ 1) × (eqb bit 1 ≡ flag)
flag_bit false = (0, omega arith, refl)
flag_bit true = (1, omega arith, refl)

flag_text-short : (flag : Bool) → length (flag_text flag) ≤ 1
flag_text-short false = omega arith
flag_text-short true = omega arith

one_digit : 1 < 16 ^ 1
one_digit = omega arith

flag_takes : (bytes rest : List ℕ) (flag : Bool) → flag_at bytes ≡ Some (flag, rest) → bytes ≡ 32 ∷ flag_text flag ++ rest
unfolding flag_at
flag_takes bytes rest flag e =
    let step = map_some (number_at 1 1 bytes) (λ bit. (eqb bit.0 1, bit.1)) (flag, rest) e in
    let bit = (number_exact 1 1 one_digit).takes bytes step.0.1 step.0.0 step.1 in
    let text = bit_text step.0.0 bit.0 in
    bit.1 ∙ ap (λ (l : List ℕ). 32 ∷ l ++ step.0.1) text ∙ ap (λ (x : Bool × List ℕ). 32 ∷ flag_text x.0 ++ x.1) step.2

flag_again : (flag : Bool) (rest : List ℕ) → flag_at (32 ∷ flag_text flag ++ rest) ≡ Some (flag, rest)
unfolding flag_at
flag_again flag rest =
    let bit = flag_bit flag in
    let text : hex_text 1 bit.0 ≡ flag_text flag = bit_text bit.0 bit.1 ∙ ap flag_text bit.2 in
    let told : number_at 1 1 (32 ∷ flag_text flag ++ rest) ≡ Some (bit.0, rest) =
    ap (λ (l : List ℕ). number_at 1 1 (32 ∷ l ++ rest)) (sym text) ∙ (number_exact 1 1 one_digit).again bit.0 rest bit.1 in
    ap (option_map (λ bit. (eqb bit.0 1, bit.1))) told ∙ ap (λ b. Some (b, rest)) bit.2

pub flag_exact : Takes flag_at (λ flag. 32 ∷ flag_text flag) Any 2
flag_exact = record {
  takes = λ bytes rest flag e. (tt, flag_takes bytes rest flag e);
  again = λ flag rest h. flag_again flag rest;
  short = λ flag h. omega (arith, flag_text-short flag);
}

letter_takes : (byte : ℕ) (channel : Channel) → channel_of byte ≡ Some channel → byte ∷ [] ≡ channel_text channel
letter_takes byte channel e =
    elim (chosen (eqb byte 82) (Some Read) _ (Some channel) e) [
      | inl p ↦ ap (λ b. b ∷ []) (eqb-true byte 82 p.0) ∙ ap channel_text (some_is Read channel p.1)
      | inr q ↦
          elim (chosen (eqb byte 87) (Some Write) None (Some channel) q.1) [
            | inl p ↦ ap (λ b. b ∷ []) (eqb-true byte 87 p.0) ∙ ap channel_text (some_is Write channel p.1)
            | inr p ↦ none_isn't channel _ p.1
          ]
    ]

channel_takes : (bytes rest : List ℕ) (channel : Channel) → letter_at bytes ≡ Some (channel, rest) → bytes ≡ channel_text channel ++ rest
unfolding letter_at
channel_takes [] rest channel e = none_isn't (channel, rest) _ e
channel_takes (byte ∷ bytes) rest channel e =
    let step = map_some (channel_of byte) (λ c. (c, bytes)) (channel, rest) e in
    ap (λ (l : List ℕ). l ++ bytes) (letter_takes byte step.0 step.1) ∙ ap (λ (x : Channel × List ℕ). channel_text x.0 ++ x.1) step.2

channel_again : (channel : Channel) (rest : List ℕ) → letter_at (channel_text channel ++ rest) ≡ Some (channel, rest)
unfolding letter_at
channel_again Read rest = refl
channel_again Write rest = refl

channel_text-short : (channel : Channel) → length (channel_text channel) ≤ 1
channel_text-short Read = omega arith
channel_text-short Write = omega arith

letter_exact : Takes letter_at channel_text Any 1
letter_exact = record {
  takes = λ bytes rest channel e. (tt, channel_takes bytes rest channel e);
  again = λ channel rest h. channel_again channel rest;
  short = λ channel h. channel_text-short channel;
}

pub channel_exact : Takes channel_at (λ channel. 32 ∷ channel_text channel) Any 2
unfolding channel_at
channel_exact = takes_spaced letter_at channel_text Any 1 letter_exact

-- the bytes are this word, or they are what is told of them then
word_or : {A : Type 0} (text : A → List ℕ) (bytes : List ℕ) (known value : A) (other : Option A)
    → (other ≡ Some value → bytes ≡ text value) → cond (bytes_eq bytes (text known)) (Some known) other ≡ Some value → bytes ≡ text value
word_or text bytes known value other told e =
    elim (chosen (bytes_eq bytes (text known)) (Some known) other (Some value) e) [
      | inl p ↦ (bytes_eq-Decides bytes (text known)).0 p.0 ∙ ap text (some_is known value p.1)
      | inr q ↦ told q.1
    ]

pub state_takes : (bytes : List ℕ) (st : LineState) → state_of bytes ≡ Some st → bytes ≡ state_text st
state_takes bytes st e =
    word_or state_text bytes I st _ (λ e.
    word_or state_text bytes UC st _ (λ e.
    word_or state_text bytes UD st _ (λ e.
    word_or state_text bytes SC st _ (λ e.
    word_or state_text bytes SD st _ (λ e. none_isn't st _ e) e) e) e) e) e

pub state_again : (st : LineState) → state_of (state_text st) ≡ Some st
state_again I = refl
state_again UC = refl
state_again UD = refl
state_again SC = refl
state_again SD = refl

state_text-short : (st : LineState) → length (state_text st) ≤ 2
state_text-short I = omega arith
state_text-short UC = omega arith
state_text-short UD = omega arith
state_text-short SC = omega arith
state_text-short SD = omega arith

word_exact : ReadsAll state_of state_text Any 2
word_exact = record {
  takes = λ bytes st e. (tt, state_takes bytes st e);
  again = λ st h. state_again st;
  short = λ st h. state_text-short st;
}

pub state_exact : ReadsAll state_at (λ st. 32 ∷ state_text st) Any 3
unfolding state_at
state_exact = reads_spaced state_of state_text Any 2 word_exact

pub outcome_takes : (bytes : List ℕ) (res : Outcome) → outcome_of bytes ≡ Some res → bytes ≡ outcome_text res
outcome_takes bytes res e =
    word_or outcome_text bytes Ok res _ (λ e.
    word_or outcome_text bytes Skip res _ (λ e.
    word_or outcome_text bytes Fail res _ (λ e. none_isn't res _ e) e) e) e

pub outcome_again : (res : Outcome) → outcome_of (outcome_text res) ≡ Some res
outcome_again Ok = refl
outcome_again Skip = refl
outcome_again Fail = refl

outcome_text-short : (res : Outcome) → length (outcome_text res) ≤ 4
outcome_text-short Ok = omega arith
outcome_text-short Skip = omega arith
outcome_text-short Fail = omega arith

outcome_word_exact : ReadsAll outcome_of outcome_text Any 4
outcome_word_exact = record {
  takes = λ bytes res e. (tt, outcome_takes bytes res e);
  again = λ res h. outcome_again res;
  short = λ res h. outcome_text-short res;
}

pub outcome_exact : ReadsAll outcome_at (λ res. 32 ∷ outcome_text res) Any 5
unfolding outcome_at
outcome_exact = reads_spaced outcome_of outcome_text Any 4 outcome_word_exact

-- ---- the fields of the records

abbrev pub number : (count most : ℕ) → most < 16 ^ count → Field ℕ
number count most room = record {
  take_first = number_at count most;
  text = λ n. 32 ∷ hex_text count n;
  IsIn = λ n. n ≤ most;
  size = count + 1;
  exact = number_exact count most room;
}

pub room_of_digit : 15 < 16 ^ 1
room_of_digit = omega arith

pub room_of_domain : 3 < 16 ^ 1
room_of_domain = omega arith

pub room_of_response : 0x1f < 16 ^ 2
room_of_response = omega arith

pub room_of_address : 0xffff_ffff < 16 ^ 8
room_of_address = omega arith

pub room_of_write_snoop : 7 < 16 ^ 1
room_of_write_snoop = omega arith

pub room_of_four : 0xffff < 16 ^ 4
room_of_four = omega arith

pub room_of_strobe : 0xffff_ffff_ffff_ffff < 16 ^ 16
room_of_strobe = omega arith

pub room_of_word : 2 ^ 128 - 1 < 16 ^ 32
room_of_word = omega arith

abbrev pub digit : Field ℕ
digit = number 1 15 room_of_digit

room_of_two : 0xff < 16 ^ 2
room_of_two = omega arith

-- every number of its digits is in range
port_exact_by : (one : Bool) → Takes (λ bytes. cond one (number_at 1 15 bytes) (number_at 2 0xff bytes)) (λ port. 32 ∷ hex_text (cond one 1 2) port) (λ port. port < 16 ^ cond one 1 2) 3
port_exact_by true =
    let f = number_exact 1 15 room_of_digit in
    record {
      takes = λ bytes rest port e. let taken = f.takes bytes rest port e in (omega (arith, taken.0), taken.1);
      again = λ port rest h. f.again port rest (omega (arith, h));
      short = λ port h. omega (arith, f.short port (omega (arith, h)));
    }
port_exact_by false =
    let f = number_exact 2 0xff room_of_two in
    record {
      takes = λ bytes rest port e. let taken = f.takes bytes rest port e in (omega (arith, taken.0), taken.1);
      again = λ port rest h. f.again port rest (omega (arith, h));
      short = λ port h. omega (arith, f.short port (omega (arith, h)));
    }

pub port_exact : (version : ℕ) → Takes (port_at version) (λ port. 32 ∷ port_text version port) (IsPort version) 3
unfolding port_at
port_exact version = port_exact_by (eqb version 1)

-- a port, in a trace of a version
abbrev pub port : ℕ → Field ℕ
port version = record { take_first = port_at version; text = λ p. 32 ∷ port_text version p; IsIn = IsPort version; size = 3; exact = port_exact version }

-- a domain, a barrier, a write response, or the number of a word
abbrev pub two_bits : Field ℕ
two_bits = number 1 3 room_of_domain

abbrev pub response : Field ℕ
response = number 2 0x1f room_of_response

abbrev pub address : Field ℕ
address = number 8 0xffff_ffff room_of_address

abbrev pub word : Field ℕ
word = number 32 (2 ^ 128 - 1) room_of_word

abbrev pub write_snoop : Field ℕ
write_snoop = number 1 7 room_of_write_snoop

-- the strobe of a beat
abbrev pub strobe_of_word : Field ℕ
strobe_of_word = number 4 0xffff room_of_four

-- the number of an operation
abbrev pub place : Field ℕ
place = number 4 0xffff room_of_four

-- the strobe of a line
abbrev pub strobe_of_line : Field ℕ
strobe_of_line = number 16 0xffff_ffff_ffff_ffff room_of_strobe

-- a word right behind another one
abbrev pub next_word : Field ℕ
next_word = record {
  take_first = digits_at 32 (2 ^ 128 - 1);
  text = hex_text 32;
  IsIn = λ n. n ≤ 2 ^ 128 - 1;
  size = 32;
  exact = digits_exact 32 (2 ^ 128 - 1) room_of_word;
}

abbrev pub flag : Field Bool
flag = record { take_first = flag_at; text = λ b. 32 ∷ flag_text b; IsIn = Any; size = 2; exact = flag_exact }

abbrev pub channel : Field Channel
channel = record { take_first = channel_at; text = λ c. 32 ∷ channel_text c; IsIn = Any; size = 2; exact = channel_exact }

-- a state, which is always the last
abbrev pub state : Rest LineState
state = record { read = state_at; text = λ st. 32 ∷ state_text st; IsIn = Any; size = 3; exact = state_exact }

abbrev pub outcome : Rest Outcome
outcome = record { read = outcome_at; text = λ res. 32 ∷ outcome_text res; IsIn = Any; size = 5; exact = outcome_exact }
