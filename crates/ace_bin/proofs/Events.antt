-- The tag and the numbers of each event: they say which it is, and in range they fit the fields of the tag.
use Rattle.std.proofs.Common.{◌≡◌, ◌≢◌, ℕ, zero, suc, ◌-◌, ◌^◌, ◌<◌, ◌≤◌, Bool, true, false, cond, eqb, ltb, leb, List, [], ◌∷◌, length, get_or, drop, refl, sym, ap, subst, ◌∙◌, arith, inl, inr, lt-ltb, ltb-true, leb-true, le-leb, ne_eqb}
use Rattle.std.specs.List.{AllByRecursion}
use Rattle.std.proofs.lemmas.Bool.{cases_Bool, and_parts, and_from}
use Rattle.ace_codes.specs.declared.state.LineState.{LineState}
use Rattle.ace_codes.specs.declared.state.LineState.TheVariants.{I, UC, UD, SC, SD}
use Rattle.ace_event.specs.declared.event.Channel.{Channel}
use Rattle.ace_event.specs.declared.event.Channel.TheVariants.{Read, Write}
use Rattle.ace_event.specs.declared.event.Outcome.{Outcome}
use Rattle.ace_event.specs.declared.event.Outcome.TheVariants.{Ok, Skip, Fail}
use Rattle.ace_event.specs.declared.event.Event.{Event}
use Rattle.ace_event.specs.declared.event.Event.TheVariants.{Ar, R, Rk, Aw, W, B, Wk, Ac, Cr, Cd, G, M, S, L, D, Op, Mem}
use Rattle.ace_event.specs.Range.{InRange, IsWord, IsPort}
use Rattle.ace_event.specs.Text.{port_digits}
use Rattle.ace_bin.specs.Fields.{Field, number_at, numbers_at, size_of_all}
use Rattle.ace_bin.specs.Records.{word_bytes, records, fields_of, is_tag, tag_of, numbers_of, flag_number, channel_number, state_number, outcome_number}
use Rattle.ace_bin.proofs.FieldBytes.{Fit, port_below}

-- ---- numbers of one byte

flag_of : ℕ → Bool
flag_of zero = false
flag_of (suc n) = true

flag_again : (flag : Bool) → flag_of (flag_number flag) ≡ flag
unfolding flag_of
flag_again false = refl
flag_again true = refl

flag_back : (n : ℕ) → n ≤ 1 → flag_number (flag_of n) ≡ n
unfolding flag_of
flag_back zero h = refl
flag_back (suc zero) h = refl
flag_back (suc (suc n)) h = absurd (omega (arith, h))

flag_most : (flag : Bool) → flag_number flag ≤ 1
flag_most false = omega arith
flag_most true = omega arith

channel_of : ℕ → Channel
channel_of zero = Read
channel_of (suc n) = Write

channel_again : (channel : Channel) → channel_of (channel_number channel) ≡ channel
unfolding channel_of
channel_again Read = refl
channel_again Write = refl

channel_back : (n : ℕ) → n ≤ 1 → channel_number (channel_of n) ≡ n
unfolding channel_of
channel_back zero h = refl
channel_back (suc zero) h = refl
channel_back (suc (suc n)) h = absurd (omega (arith, h))

channel_most : (channel : Channel) → channel_number channel ≤ 1
channel_most Read = omega arith
channel_most Write = omega arith

state_of : ℕ → LineState
state_of zero = I
state_of (suc zero) = UC
state_of (suc (suc zero)) = UD
state_of (suc (suc (suc zero))) = SC
state_of (suc (suc (suc (suc n)))) = SD

state_again : (state : LineState) → state_of (state_number state) ≡ state
unfolding state_of
state_again I = refl
state_again UC = refl
state_again UD = refl
state_again SC = refl
state_again SD = refl

state_back : (n : ℕ) → n ≤ 4 → state_number (state_of n) ≡ n
unfolding state_of
state_back zero h = refl
state_back (suc zero) h = refl
state_back (suc (suc zero)) h = refl
state_back (suc (suc (suc zero))) h = refl
state_back (suc (suc (suc (suc zero)))) h = refl
state_back (suc (suc (suc (suc (suc n))))) h = absurd (omega (arith, h))

state_most : (state : LineState) → state_number state ≤ 4
state_most I = omega arith
state_most UC = omega arith
state_most UD = omega arith
state_most SC = omega arith
state_most SD = omega arith

outcome_of : ℕ → Outcome
outcome_of zero = Ok
outcome_of (suc zero) = Skip
outcome_of (suc (suc n)) = Fail

outcome_again : (outcome : Outcome) → outcome_of (outcome_number outcome) ≡ outcome
unfolding outcome_of
outcome_again Ok = refl
outcome_again Skip = refl
outcome_again Fail = refl

outcome_back : (n : ℕ) → n ≤ 2 → outcome_number (outcome_of n) ≡ n
unfolding outcome_of
outcome_back zero h = refl
outcome_back (suc zero) h = refl
outcome_back (suc (suc zero)) h = refl
outcome_back (suc (suc (suc n))) h = absurd (omega (arith, h))

outcome_most : (outcome : Outcome) → outcome_number outcome ≤ 2
outcome_most Ok = omega arith
outcome_most Skip = omega arith
outcome_most Fail = omega arith

-- ---- the event of a tag and numbers

event_of : ℕ → List ℕ → Event
event_of tag numbers =
    cond (eqb tag 1) (Ar (get_or numbers 0 0) (get_or numbers 1 0) (get_or numbers 2 0) (get_or numbers 3 0) (get_or numbers 4 0) (get_or numbers 5 0) (flag_of (get_or numbers 6 0)))
    (cond (eqb tag 2) (R (get_or numbers 0 0) (get_or numbers 1 0) (get_or numbers 2 0) (flag_of (get_or numbers 3 0)) (get_or numbers 4 0))
    (cond (eqb tag 3) (Rk (get_or numbers 0 0) (state_of (get_or numbers 1 0)))
    (cond (eqb tag 4) (Aw (get_or numbers 0 0) (get_or numbers 1 0) (get_or numbers 2 0) (get_or numbers 3 0) (get_or numbers 4 0) (get_or numbers 5 0))
    (cond (eqb tag 5) (W (get_or numbers 0 0) (get_or numbers 1 0) (flag_of (get_or numbers 2 0)) (get_or numbers 3 0))
    (cond (eqb tag 6) (B (get_or numbers 0 0) (get_or numbers 1 0) (get_or numbers 2 0))
    (cond (eqb tag 7) (Wk (get_or numbers 0 0) (state_of (get_or numbers 1 0)))
    (cond (eqb tag 8) (Ac (get_or numbers 0 0) (get_or numbers 1 0) (get_or numbers 2 0))
    (cond (eqb tag 9) (Cr (get_or numbers 0 0) (get_or numbers 1 0) (state_of (get_or numbers 2 0)))
    (cond (eqb tag 10) (Cd (get_or numbers 0 0) (flag_of (get_or numbers 1 0)) (get_or numbers 2 0))
    (cond (eqb tag 11) (G (get_or numbers 0 0) (channel_of (get_or numbers 1 0)) (get_or numbers 2 0))
    (cond (eqb tag 12) (M (get_or numbers 0 0) (channel_of (get_or numbers 1 0)) (get_or numbers 2 0) (record { words = drop 3 numbers }))
    (cond (eqb tag 13) (S (get_or numbers 0 0) (get_or numbers 1 0) (state_of (get_or numbers 2 0)))
    (cond (eqb tag 14) (L (get_or numbers 0 0) (get_or numbers 1 0) (get_or numbers 2 0) (flag_of (get_or numbers 3 0)) (get_or numbers 4 0))
    (cond (eqb tag 15) (D (get_or numbers 0 0) (get_or numbers 1 0) (get_or numbers 2 0) (flag_of (get_or numbers 3 0)) (record { words = drop 4 numbers }))
    (cond (eqb tag 16) (Op (get_or numbers 0 0) (get_or numbers 1 0) (outcome_of (get_or numbers 2 0)))
    (Mem (get_or numbers 0 0) (record { words = drop 1 numbers })))))))))))))))))

event_again : (event : Event) → event_of (tag_of event) (numbers_of event) ≡ event
unfolding event_of
event_again (Ar port id addr snoop dom bar lock) = ap (λ v. Ar port id addr snoop dom bar v) (flag_again lock)
event_again (R port id resp last word) = ap (λ v. R port id resp v word) (flag_again last)
event_again (Rk port st) = ap (λ v. Rk port v) (state_again st)
event_again (Aw port id addr snoop dom bar) = refl
event_again (W port strb last word) = ap (λ v. W port strb v word) (flag_again last)
event_again (B port id resp) = refl
event_again (Wk port st) = ap (λ v. Wk port v) (state_again st)
event_again (Ac port addr snoop) = refl
event_again (Cr port resp st) = ap (λ v. Cr port resp v) (state_again st)
event_again (Cd port last word) = ap (λ v. Cd port v word) (flag_again last)
event_again (G port chan id) = ap (λ v. G port v id) (channel_again chan)
event_again (M port chan id line) = ap (λ v. M port v id line) (channel_again chan)
event_again (S port addr st) = ap (λ v. S port addr v) (state_again st)
event_again (L port addr w x word) = ap (λ v. L port addr w v word) (flag_again x)
event_again (D port addr strobe x line) = ap (λ v. D port addr strobe v line) (flag_again x)
event_again (Op port k res) = ap (λ v. Op port k v) (outcome_again res)
event_again (Mem addr line) = refl

-- two events with the same tag and numbers are one
pub same_event : (one other : Event) → tag_of one ≡ tag_of other → numbers_of one ≡ numbers_of other → one ≡ other
same_event one other tags numbers =
    sym (event_again one) ∙ ap (λ tag. event_of tag (numbers_of one)) tags ∙ ap (event_of (tag_of other)) numbers ∙ event_again other

-- ---- in range

four : (version : ℕ) (words : List ℕ) → length words ≡ 4 → AllByRecursion IsWord words → Fit version (word_bytes ∷ word_bytes ∷ word_bytes ∷ word_bytes ∷ []) words
four version [] len all = absurd (omega (arith, len))
four version (a ∷ []) len all = absurd (omega (arith, len))
four version (a ∷ b ∷ []) len all = absurd (omega (arith, len))
four version (a ∷ b ∷ c ∷ []) len all = absurd (omega (arith, len))
four version (a ∷ b ∷ c ∷ d ∷ []) len all = (refl, all.0, (refl, all.1.0, (refl, all.1.1.0, (refl, all.1.1.1.0, tt))))
four version (a ∷ b ∷ c ∷ d ∷ e ∷ words) len all = absurd (omega (arith, len))

-- the numbers of an event in range fit the fields of its tag
pub in_range_fits : (version : ℕ) (event : Event) → InRange version event → Fit version (fields_of (tag_of event)) (numbers_of event)
in_range_fits version (Ar port id addr snoop dom bar lock) h = (lt-ltb port (16 ^ port_digits version) h.0, port_below version port (eqb version 1) h.0, (le-leb id 15 (omega (arith, h.1)), omega (arith, h.1), (refl, h.2, (le-leb snoop 15 (omega (arith, h.3)), omega (arith, h.3), (le-leb dom 3 h.4, omega (arith, h.4), (le-leb bar 3 h.5, omega (arith, h.5), (le-leb (flag_number lock) 1 (flag_most lock), omega (arith, flag_most lock), tt)))))))
in_range_fits version (R port id resp last word) h = (lt-ltb port (16 ^ port_digits version) h.0, port_below version port (eqb version 1) h.0, (le-leb id 15 (omega (arith, h.1)), omega (arith, h.1), (le-leb resp 15 (omega (arith, h.2)), omega (arith, h.2), (le-leb (flag_number last) 1 (flag_most last), omega (arith, flag_most last), (refl, h.3, tt)))))
in_range_fits version (Rk port st) h = (lt-ltb port (16 ^ port_digits version) h, port_below version port (eqb version 1) h, (le-leb (state_number st) 4 (state_most st), omega (arith, state_most st), tt))
in_range_fits version (Aw port id addr snoop dom bar) h = (lt-ltb port (16 ^ port_digits version) h.0, port_below version port (eqb version 1) h.0, (le-leb id 15 (omega (arith, h.1)), omega (arith, h.1), (refl, h.2, (le-leb snoop 7 h.3, omega (arith, h.3), (le-leb dom 3 h.4, omega (arith, h.4), (le-leb bar 3 h.5, omega (arith, h.5), tt))))))
in_range_fits version (W port strb last word) h = (lt-ltb port (16 ^ port_digits version) h.0, port_below version port (eqb version 1) h.0, (refl, h.1, (le-leb (flag_number last) 1 (flag_most last), omega (arith, flag_most last), (refl, h.2, tt))))
in_range_fits version (B port id resp) h = (lt-ltb port (16 ^ port_digits version) h.0, port_below version port (eqb version 1) h.0, (le-leb id 15 (omega (arith, h.1)), omega (arith, h.1), (le-leb resp 3 h.2, omega (arith, h.2), tt)))
in_range_fits version (Wk port st) h = (lt-ltb port (16 ^ port_digits version) h, port_below version port (eqb version 1) h, (le-leb (state_number st) 4 (state_most st), omega (arith, state_most st), tt))
in_range_fits version (Ac port addr snoop) h = (lt-ltb port (16 ^ port_digits version) h.0, port_below version port (eqb version 1) h.0, (refl, h.1, (le-leb snoop 15 (omega (arith, h.2)), omega (arith, h.2), tt)))
in_range_fits version (Cr port resp st) h = (lt-ltb port (16 ^ port_digits version) h.0, port_below version port (eqb version 1) h.0, (le-leb resp 31 h.1, omega (arith, h.1), (le-leb (state_number st) 4 (state_most st), omega (arith, state_most st), tt)))
in_range_fits version (Cd port last word) h = (lt-ltb port (16 ^ port_digits version) h.0, port_below version port (eqb version 1) h.0, (le-leb (flag_number last) 1 (flag_most last), omega (arith, flag_most last), (refl, h.1, tt)))
in_range_fits version (G port chan id) h = (lt-ltb port (16 ^ port_digits version) h.0, port_below version port (eqb version 1) h.0, (le-leb (channel_number chan) 1 (channel_most chan), omega (arith, channel_most chan), (le-leb id 15 (omega (arith, h.1)), omega (arith, h.1), tt)))
in_range_fits version (M port chan id line) h = (lt-ltb port (16 ^ port_digits version) h.0, port_below version port (eqb version 1) h.0, (le-leb (channel_number chan) 1 (channel_most chan), omega (arith, channel_most chan), (le-leb id 15 (omega (arith, h.1)), omega (arith, h.1), four version line.words h.2.0 h.2.1)))
in_range_fits version (S port addr st) h = (lt-ltb port (16 ^ port_digits version) h.0, port_below version port (eqb version 1) h.0, (refl, h.1, (le-leb (state_number st) 4 (state_most st), omega (arith, state_most st), tt)))
in_range_fits version (L port addr w x word) h = (lt-ltb port (16 ^ port_digits version) h.0, port_below version port (eqb version 1) h.0, (refl, h.1, (le-leb w 3 h.2, omega (arith, h.2), (le-leb (flag_number x) 1 (flag_most x), omega (arith, flag_most x), (refl, h.3, tt)))))
in_range_fits version (D port addr strobe x line) h = (lt-ltb port (16 ^ port_digits version) h.0, port_below version port (eqb version 1) h.0, (refl, h.1, (refl, h.2, (le-leb (flag_number x) 1 (flag_most x), omega (arith, flag_most x), four version line.words h.3.0 h.3.1))))
in_range_fits version (Op port k res) h = (lt-ltb port (16 ^ port_digits version) h.0, port_below version port (eqb version 1) h.0, (refl, h.1, (le-leb (outcome_number res) 2 (outcome_most res), omega (arith, outcome_most res), tt)))
in_range_fits version (Mem addr line) h = (refl, h.1, four version line.words h.2.0 h.2.1)

pub some_tag : (version tag : ℕ) → leb 1 tag ≡ true → leb tag 0x10 ≡ true → is_tag version tag ≡ true
some_tag version tag first last =
    let within : tag ≤ cond (eqb version 1) 0x10 0x11 =
    elim (cases_Bool (eqb version 1)) [
      | inl is ↦ rw is (leb-true tag 0x10 last)
      | inr other ↦ rw other (omega (arith, leb-true tag 0x10 last))
    ] in
    and_from (leb 1 tag) (leb tag (cond (eqb version 1) 0x10 0x11)) first (le-leb tag _ within)

mem_tag : (version : ℕ) → version ≢ 1 → is_tag version 0x11 ≡ true
mem_tag version other = ap (λ b. leb 0x11 (cond b 0x10 0x11)) (ne_eqb version 1 other)

-- its tag is one of the version
pub in_range_tag : (version : ℕ) (event : Event) → InRange version event → is_tag version (tag_of event) ≡ true
in_range_tag version (Ar port id addr snoop dom bar lock) h = some_tag version 1 refl refl
in_range_tag version (R port id resp last word) h = some_tag version 2 refl refl
in_range_tag version (Rk port st) h = some_tag version 3 refl refl
in_range_tag version (Aw port id addr snoop dom bar) h = some_tag version 4 refl refl
in_range_tag version (W port strb last word) h = some_tag version 5 refl refl
in_range_tag version (B port id resp) h = some_tag version 6 refl refl
in_range_tag version (Wk port st) h = some_tag version 7 refl refl
in_range_tag version (Ac port addr snoop) h = some_tag version 8 refl refl
in_range_tag version (Cr port resp st) h = some_tag version 9 refl refl
in_range_tag version (Cd port last word) h = some_tag version 10 refl refl
in_range_tag version (G port chan id) h = some_tag version 11 refl refl
in_range_tag version (M port chan id line) h = some_tag version 12 refl refl
in_range_tag version (S port addr st) h = some_tag version 13 refl refl
in_range_tag version (L port addr w x word) h = some_tag version 14 refl refl
in_range_tag version (D port addr strobe x line) h = some_tag version 15 refl refl
in_range_tag version (Op port k res) h = some_tag version 16 refl refl
in_range_tag version (Mem addr line) h = mem_tag version h.0

-- ---- numbers that fit are those of an event

-- the event of a tag and numbers that fit
abbrev pub Made : ℕ → ℕ → List ℕ → Type 0
Made version tag numbers = (event : Event) × InRange version event × (tag_of event ≡ tag) × (numbers_of event ≡ numbers)

port_is : (version port : ℕ) → ltb port (16 ^ port_digits version) ≡ true → IsPort version port
port_is version port h = ltb-true port (16 ^ port_digits version) h

made_ar : (version port id addr snoop dom bar lock : ℕ) → Fit version (fields_of 1) (port ∷ id ∷ addr ∷ snoop ∷ dom ∷ bar ∷ lock ∷ []) → Made version 1 (port ∷ id ∷ addr ∷ snoop ∷ dom ∷ bar ∷ lock ∷ [])
made_ar version port id addr snoop dom bar lock f = (
  Ar port id addr snoop dom bar (flag_of lock),
  (port_is version port f.0, omega (arith, leb-true id 15 f.2.0), f.2.2.1, omega (arith, leb-true snoop 15 f.2.2.2.0), leb-true dom 3 f.2.2.2.2.0, leb-true bar 3 f.2.2.2.2.2.0),
  refl,
  ap (λ v. port ∷ id ∷ addr ∷ snoop ∷ dom ∷ bar ∷ v ∷ []) (flag_back lock (leb-true lock 1 f.2.2.2.2.2.2.0)),
)

made_r : (version port id resp last word : ℕ) → Fit version (fields_of 2) (port ∷ id ∷ resp ∷ last ∷ word ∷ []) → Made version 2 (port ∷ id ∷ resp ∷ last ∷ word ∷ [])
made_r version port id resp last word f = (
  R port id resp (flag_of last) word,
  (port_is version port f.0, omega (arith, leb-true id 15 f.2.0), omega (arith, leb-true resp 15 f.2.2.0), f.2.2.2.2.1),
  refl,
  ap (λ v. port ∷ id ∷ resp ∷ v ∷ word ∷ []) (flag_back last (leb-true last 1 f.2.2.2.0)),
)

made_rk : (version port st : ℕ) → Fit version (fields_of 3) (port ∷ st ∷ []) → Made version 3 (port ∷ st ∷ [])
made_rk version port st f = (
  Rk port (state_of st),
  port_is version port f.0,
  refl,
  ap (λ v. port ∷ v ∷ []) (state_back st (leb-true st 4 f.2.0)),
)

made_aw : (version port id addr snoop dom bar : ℕ) → Fit version (fields_of 4) (port ∷ id ∷ addr ∷ snoop ∷ dom ∷ bar ∷ []) → Made version 4 (port ∷ id ∷ addr ∷ snoop ∷ dom ∷ bar ∷ [])
made_aw version port id addr snoop dom bar f = (
  Aw port id addr snoop dom bar,
  (port_is version port f.0, omega (arith, leb-true id 15 f.2.0), f.2.2.1, leb-true snoop 7 f.2.2.2.0, leb-true dom 3 f.2.2.2.2.0, leb-true bar 3 f.2.2.2.2.2.0),
  refl,
  refl,
)

made_w : (version port strb last word : ℕ) → Fit version (fields_of 5) (port ∷ strb ∷ last ∷ word ∷ []) → Made version 5 (port ∷ strb ∷ last ∷ word ∷ [])
made_w version port strb last word f = (
  W port strb (flag_of last) word,
  (port_is version port f.0, f.2.1, f.2.2.2.1),
  refl,
  ap (λ v. port ∷ strb ∷ v ∷ word ∷ []) (flag_back last (leb-true last 1 f.2.2.0)),
)

made_b : (version port id resp : ℕ) → Fit version (fields_of 6) (port ∷ id ∷ resp ∷ []) → Made version 6 (port ∷ id ∷ resp ∷ [])
made_b version port id resp f = (
  B port id resp,
  (port_is version port f.0, omega (arith, leb-true id 15 f.2.0), leb-true resp 3 f.2.2.0),
  refl,
  refl,
)

made_wk : (version port st : ℕ) → Fit version (fields_of 7) (port ∷ st ∷ []) → Made version 7 (port ∷ st ∷ [])
made_wk version port st f = (
  Wk port (state_of st),
  port_is version port f.0,
  refl,
  ap (λ v. port ∷ v ∷ []) (state_back st (leb-true st 4 f.2.0)),
)

made_ac : (version port addr snoop : ℕ) → Fit version (fields_of 8) (port ∷ addr ∷ snoop ∷ []) → Made version 8 (port ∷ addr ∷ snoop ∷ [])
made_ac version port addr snoop f = (
  Ac port addr snoop,
  (port_is version port f.0, f.2.1, omega (arith, leb-true snoop 15 f.2.2.0)),
  refl,
  refl,
)

made_cr : (version port resp st : ℕ) → Fit version (fields_of 9) (port ∷ resp ∷ st ∷ []) → Made version 9 (port ∷ resp ∷ st ∷ [])
made_cr version port resp st f = (
  Cr port resp (state_of st),
  (port_is version port f.0, leb-true resp 31 f.2.0),
  refl,
  ap (λ v. port ∷ resp ∷ v ∷ []) (state_back st (leb-true st 4 f.2.2.0)),
)

made_cd : (version port last word : ℕ) → Fit version (fields_of 10) (port ∷ last ∷ word ∷ []) → Made version 10 (port ∷ last ∷ word ∷ [])
made_cd version port last word f = (
  Cd port (flag_of last) word,
  (port_is version port f.0, f.2.2.1),
  refl,
  ap (λ v. port ∷ v ∷ word ∷ []) (flag_back last (leb-true last 1 f.2.0)),
)

made_g : (version port chan id : ℕ) → Fit version (fields_of 11) (port ∷ chan ∷ id ∷ []) → Made version 11 (port ∷ chan ∷ id ∷ [])
made_g version port chan id f = (
  G port (channel_of chan) id,
  (port_is version port f.0, omega (arith, leb-true id 15 f.2.2.0)),
  refl,
  ap (λ v. port ∷ v ∷ id ∷ []) (channel_back chan (leb-true chan 1 f.2.0)),
)

made_m : (version port chan id first second third fourth : ℕ) → Fit version (fields_of 12) (port ∷ chan ∷ id ∷ first ∷ second ∷ third ∷ fourth ∷ []) → Made version 12 (port ∷ chan ∷ id ∷ first ∷ second ∷ third ∷ fourth ∷ [])
made_m version port chan id first second third fourth f = (
  M port (channel_of chan) id (record { words = first ∷ second ∷ third ∷ fourth ∷ [] }),
  (port_is version port f.0, omega (arith, leb-true id 15 f.2.2.0), (refl, (f.2.2.2.1, (f.2.2.2.2.1, (f.2.2.2.2.2.1, (f.2.2.2.2.2.2.1, tt)))))),
  refl,
  ap (λ v. port ∷ v ∷ id ∷ first ∷ second ∷ third ∷ fourth ∷ []) (channel_back chan (leb-true chan 1 f.2.0)),
)

made_s : (version port addr st : ℕ) → Fit version (fields_of 13) (port ∷ addr ∷ st ∷ []) → Made version 13 (port ∷ addr ∷ st ∷ [])
made_s version port addr st f = (
  S port addr (state_of st),
  (port_is version port f.0, f.2.1),
  refl,
  ap (λ v. port ∷ addr ∷ v ∷ []) (state_back st (leb-true st 4 f.2.2.0)),
)

made_l : (version port addr w x word : ℕ) → Fit version (fields_of 14) (port ∷ addr ∷ w ∷ x ∷ word ∷ []) → Made version 14 (port ∷ addr ∷ w ∷ x ∷ word ∷ [])
made_l version port addr w x word f = (
  L port addr w (flag_of x) word,
  (port_is version port f.0, f.2.1, leb-true w 3 f.2.2.0, f.2.2.2.2.1),
  refl,
  ap (λ v. port ∷ addr ∷ w ∷ v ∷ word ∷ []) (flag_back x (leb-true x 1 f.2.2.2.0)),
)

made_d : (version port addr strobe x first second third fourth : ℕ) → Fit version (fields_of 15) (port ∷ addr ∷ strobe ∷ x ∷ first ∷ second ∷ third ∷ fourth ∷ []) → Made version 15 (port ∷ addr ∷ strobe ∷ x ∷ first ∷ second ∷ third ∷ fourth ∷ [])
made_d version port addr strobe x first second third fourth f = (
  D port addr strobe (flag_of x) (record { words = first ∷ second ∷ third ∷ fourth ∷ [] }),
  (port_is version port f.0, f.2.1, f.2.2.1, (refl, (f.2.2.2.2.1, (f.2.2.2.2.2.1, (f.2.2.2.2.2.2.1, (f.2.2.2.2.2.2.2.1, tt)))))),
  refl,
  ap (λ v. port ∷ addr ∷ strobe ∷ v ∷ first ∷ second ∷ third ∷ fourth ∷ []) (flag_back x (leb-true x 1 f.2.2.2.0)),
)

made_op : (version port k res : ℕ) → Fit version (fields_of 16) (port ∷ k ∷ res ∷ []) → Made version 16 (port ∷ k ∷ res ∷ [])
made_op version port k res f = (
  Op port k (outcome_of res),
  (port_is version port f.0, f.2.1),
  refl,
  ap (λ v. port ∷ k ∷ v ∷ []) (outcome_back res (leb-true res 2 f.2.2.0)),
)

made_mem : (version addr first second third fourth : ℕ) → version ≢ 1 → Fit version (fields_of 17) (addr ∷ first ∷ second ∷ third ∷ fourth ∷ []) → Made version 17 (addr ∷ first ∷ second ∷ third ∷ fourth ∷ [])
made_mem version addr first second third fourth other f = (
  Mem addr (record { words = first ∷ second ∷ third ∷ fourth ∷ [] }),
  (other, f.1, (refl, (f.2.1, (f.2.2.1, (f.2.2.2.1, (f.2.2.2.2.1, tt)))))),
  refl,
  refl,
)

-- MEM is no record of version 1
not_first : (version : ℕ) → is_tag version 0x11 ≡ true → version ≢ 1
not_first version known is =
    let one : is_tag 1 0x11 ≡ true = subst (λ v. is_tag v 0x11 ≡ true) is known in
    absurd cc

no_tag : (version tag : ℕ) → 0x11 < tag → is_tag version tag ≡ true → ⊥
no_tag version tag above known =
    let last = leb-true tag (cond (eqb version 1) 0x10 0x11) (and_parts (leb 1 tag) (leb tag (cond (eqb version 1) 0x10 0x11)) known).1 in
    elim (cases_Bool (eqb version 1)) [
      | inl is ↦ let most : tag ≤ 0x10 = subst (λ b. tag ≤ cond b 0x10 0x11) is last in omega (arith, above, most)
      | inr other ↦ let most : tag ≤ 0x11 = subst (λ b. tag ≤ cond b 0x10 0x11) other last in omega (arith, above, most)
    ]

-- the numbers that the fields of a tag of the version have in some bytes are those of an event, where they fit
pub made : (version tag : ℕ) (bytes : List ℕ) → is_tag version tag ≡ true → Fit version (fields_of tag) (numbers_at (fields_of tag) 0 bytes)
    → Made version tag (numbers_at (fields_of tag) 0 bytes)
made version zero bytes known fit = absurd cc
made version (suc zero) bytes known fit = made_ar version (number_at 1 0 bytes) (number_at 1 1 bytes) (number_at 4 2 bytes) (number_at 1 6 bytes) (number_at 1 7 bytes) (number_at 1 8 bytes) (number_at 1 9 bytes) fit
made version (suc (suc zero)) bytes known fit = made_r version (number_at 1 0 bytes) (number_at 1 1 bytes) (number_at 1 2 bytes) (number_at 1 3 bytes) (number_at 16 4 bytes) fit
made version (suc (suc (suc zero))) bytes known fit = made_rk version (number_at 1 0 bytes) (number_at 1 1 bytes) fit
made version (suc (suc (suc (suc zero)))) bytes known fit = made_aw version (number_at 1 0 bytes) (number_at 1 1 bytes) (number_at 4 2 bytes) (number_at 1 6 bytes) (number_at 1 7 bytes) (number_at 1 8 bytes) fit
made version (suc (suc (suc (suc (suc zero))))) bytes known fit = made_w version (number_at 1 0 bytes) (number_at 2 1 bytes) (number_at 1 3 bytes) (number_at 16 4 bytes) fit
made version (suc (suc (suc (suc (suc (suc zero)))))) bytes known fit = made_b version (number_at 1 0 bytes) (number_at 1 1 bytes) (number_at 1 2 bytes) fit
made version (suc (suc (suc (suc (suc (suc (suc zero))))))) bytes known fit = made_wk version (number_at 1 0 bytes) (number_at 1 1 bytes) fit
made version (suc (suc (suc (suc (suc (suc (suc (suc zero)))))))) bytes known fit = made_ac version (number_at 1 0 bytes) (number_at 4 1 bytes) (number_at 1 5 bytes) fit
made version (suc (suc (suc (suc (suc (suc (suc (suc (suc zero))))))))) bytes known fit = made_cr version (number_at 1 0 bytes) (number_at 1 1 bytes) (number_at 1 2 bytes) fit
made version (suc (suc (suc (suc (suc (suc (suc (suc (suc (suc zero)))))))))) bytes known fit = made_cd version (number_at 1 0 bytes) (number_at 1 1 bytes) (number_at 16 2 bytes) fit
made version (suc (suc (suc (suc (suc (suc (suc (suc (suc (suc (suc zero))))))))))) bytes known fit = made_g version (number_at 1 0 bytes) (number_at 1 1 bytes) (number_at 1 2 bytes) fit
made version (suc (suc (suc (suc (suc (suc (suc (suc (suc (suc (suc (suc zero)))))))))))) bytes known fit = made_m version (number_at 1 0 bytes) (number_at 1 1 bytes) (number_at 1 2 bytes) (number_at 16 3 bytes) (number_at 16 19 bytes) (number_at 16 35 bytes) (number_at 16 51 bytes) fit
made version (suc (suc (suc (suc (suc (suc (suc (suc (suc (suc (suc (suc (suc zero))))))))))))) bytes known fit = made_s version (number_at 1 0 bytes) (number_at 4 1 bytes) (number_at 1 5 bytes) fit
made version (suc (suc (suc (suc (suc (suc (suc (suc (suc (suc (suc (suc (suc (suc zero)))))))))))))) bytes known fit = made_l version (number_at 1 0 bytes) (number_at 4 1 bytes) (number_at 1 5 bytes) (number_at 1 6 bytes) (number_at 16 7 bytes) fit
made version (suc (suc (suc (suc (suc (suc (suc (suc (suc (suc (suc (suc (suc (suc (suc zero))))))))))))))) bytes known fit = made_d version (number_at 1 0 bytes) (number_at 4 1 bytes) (number_at 8 5 bytes) (number_at 1 13 bytes) (number_at 16 14 bytes) (number_at 16 30 bytes) (number_at 16 46 bytes) (number_at 16 62 bytes) fit
made version (suc (suc (suc (suc (suc (suc (suc (suc (suc (suc (suc (suc (suc (suc (suc (suc zero)))))))))))))))) bytes known fit = made_op version (number_at 1 0 bytes) (number_at 2 1 bytes) (number_at 1 3 bytes) fit
made version (suc (suc (suc (suc (suc (suc (suc (suc (suc (suc (suc (suc (suc (suc (suc (suc (suc zero))))))))))))))))) bytes known fit = made_mem version (number_at 4 0 bytes) (number_at 16 4 bytes) (number_at 16 20 bytes) (number_at 16 36 bytes) (number_at 16 52 bytes) (not_first version known) fit
made version (suc (suc (suc (suc (suc (suc (suc (suc (suc (suc (suc (suc (suc (suc (suc (suc (suc (suc tag)))))))))))))))))) bytes known fit = absurd (no_tag version (suc (suc (suc (suc (suc (suc (suc (suc (suc (suc (suc (suc (suc (suc (suc (suc (suc (suc tag)))))))))))))))))) (omega arith) known)

-- ---- how many bytes

-- none of these has more fields than the longest record
AreShort : List (List Field) → Type 0
AreShort [] = Unit {0}
AreShort (fields ∷ more) = (size_of_all fields ≤ 78) × AreShort more

short_at : (all : List (List Field)) (place : ℕ) → AreShort all → size_of_all (get_or all place []) ≤ 78
unfolding AreShort
short_at [] place h = omega arith
short_at (fields ∷ more) zero h = h.0
short_at (fields ∷ more) (suc place) h = short_at more place h.1

are_short : AreShort records
unfolding AreShort
are_short = (omega arith, (omega arith, (omega arith, (omega arith, (omega arith, (omega arith, (omega arith, (omega arith, (omega arith, (omega arith, (omega arith, (omega arith, (omega arith, (omega arith, (omega arith, (omega arith, (omega arith, tt)))))))))))))))))

pub fields_short : (tag : ℕ) → size_of_all (fields_of tag) ≤ 78
fields_short tag = short_at records (tag - 1) are_short
