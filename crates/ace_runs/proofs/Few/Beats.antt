-- Beats of write data are at most four for each write, and those of snoop data four for each answer.
use Rattle.std.proofs.Common.{◌≡◌, ℕ, ◌+◌, ◌*◌, ◌/◌, ◌≤◌, ◌<◌, Bool, true, false, ◌&&◌, ◌==◌, nat_lt, if◌then◌else◌, List, [], ◌∷◌, length, Option, Some, None, option_map, slice_get, refl, sym, subst, inl, inr, arith, length-append}
use Rattle.std.proofs.lemmas.Bool.{cases_Bool, eqb-true, lt-ltb, ltb-true}
use Rattle.std.proofs.lemmas.Option.{slice_get_within}
use Rattle.ace_event.specs.declared.event.Channel.TheVariants.{Write}
use Rattle.ace_event.specs.declared.event.Event.TheVariants.{Ar, Aw, W, Cr, Cd}
use Rattle.ace_event.specs.declared.header.Header.{Header}
use Rattle.ace_codes.specs.Responses.{transfers_data}
use Rattle.ace_model.specs.declared.transactions.Transaction.{Transaction}
use Rattle.ace_model.specs.Accepted.{IsAccepted}
use Rattle.ace_model.specs.Trace.{Trace, more, option_filter}
use Rattle.ace_model.specs.Transactions.{issued}
use Rattle.ace_model.specs.Writes.{Beat, is_data_write_of, data_writes, beats, next_write, next_write_beat}
use Rattle.ace_model.specs.SnoopRules.{is_next_beat}
use Rattle.ace_model.specs.Snoops.{answers, answered, data_beats}
use Rattle.ace_model.specs.Replies.{sent_at, sent, next_sent, next_sent_beat}
use Rattle.ace_model.specs.Copies.{copy_of, word_of}
use Rattle.ace_tables.specs.Answers.{same_test}
use Rattle.ace_model.proofs.General.Options.{is_some_and-is}
use Rattle.ace_model.proofs.Rules.Keeps.{accepted_keeps}
use Rattle.ace_runs.specs.Counts.{counted, issues_on, is_write_beat, is_answer, is_snoop_beat}
use Rattle.ace_runs.proofs.Few.Ports.{port_or_zero, at_port}
use Rattle.ace_runs.proofs.Few.Keys.{for-each-key}
use Rattle.ace_runs.proofs.Few.Queues.{eqb-swap, counted-next, answers-counted}

-- the oldest burst that isn't whole has room
room-for : {A : Type 0} → (xs : List A) (n : ℕ) (x : A) → slice_get xs (n / 4) ≡ Some x → n < 4 * length xs
room-for xs n x there = let below = slice_get_within xs (n / 4) x there in omega (arith, below)

-- ---- write data --------------------------------------------------------------------------------------

next-beat : (h : Header) (past : Trace) (p strb : ℕ) (last : Bool) (word : ℕ) → IsAccepted h (W p strb last word ∷ past)
    → length (beats past p) < 4 * length (data_writes past p)
next-beat h past p strb last word a =
    let o = is_some_and-is (next_write past p) (is_next_beat past (next_write_beat past p) strb last word) (accepted_keeps h past (W p strb last word) a).rule_11 in
    room-for (data_writes past p) (length (beats past p)) o.0 o.1

beat-counted : (b : Bool) (count : ℕ) (xs : List Beat) (x : Beat) (room : Bool) → count ≡ length xs → (b ≡ true → room ≡ true)
    → (if b then count + 1 else count) ≡ length (more xs (if b && room then Some x else None))
beat-counted true count xs x room same there = rw (there refl) (rw (length-append xs (x ∷ []), same) refl)
beat-counted false count xs x room same there = same

pub beats-counted : (h : Header) (past : Trace) (p : ℕ) → IsAccepted h past → counted (at_port is_write_beat p) past ≡ length (beats past p)
beats-counted h [] p a = refl
beats-counted h (W q strb last word ∷ past) p a =
    rw (eqb-swap q p)
    (beat-counted (p == q) (counted (at_port is_write_beat p) past) (beats past p) (record { strobe = strb; word = word })
    (nat_lt (length (beats past p)) (4 * length (data_writes past p))) (beats-counted h past p a.0)
    (λ same. lt-ltb (length (beats past p)) (4 * length (data_writes past p))
    (subst (λ r. length (beats past r) < 4 * length (data_writes past r)) (sym (eqb-true p q same)) (next-beat h past q strb last word a))))
beats-counted h (_ ∷ past) p a = beats-counted h past p a.0

longer : {A : Type 0} → (xs : List A) (o : Option A) → length xs ≤ length (more xs o)
longer xs None = omega arith
longer xs (Some x) = rw (length-append xs (x ∷ [])) (omega arith)

beat-within : (b : Bool) (xs : List Beat) (x : Beat) (n : ℕ) → length xs ≤ 4 * n → length (more xs (if b && nat_lt (length xs) (4 * n) then Some x else None)) ≤ 4 * n
beat-within true xs x n within =
    elim (cases_Bool (nat_lt (length xs) (4 * n))) [
      | inl t ↦ let room = ltb-true (length xs) (4 * n) t in rw t (rw (length-append xs (x ∷ [])) (omega (arith, room)))
      | inr f ↦ rw f within
    ]
beat-within false xs x n within = within

beats-within : (past : Trace) (p : ℕ) → length (beats past p) ≤ 4 * length (data_writes past p)
beats-within [] p = omega arith
beats-within (W q strb last word ∷ past) p =
    beat-within (p == q) (beats past p) (record { strobe = strb; word = word }) (length (data_writes past p)) (beats-within past p)
beats-within (Ar q j addr snoop dom bar lock ∷ past) p =
    let rest = beats-within past p in
    let long = longer (data_writes past p) (option_filter (is_data_write_of p) (issued (length past) (Ar q j addr snoop dom bar lock))) in
    omega (arith, rest, long)
beats-within (Aw q j addr snoop dom bar ∷ past) p =
    let rest = beats-within past p in
    let long = longer (data_writes past p) (option_filter (is_data_write_of p) (issued (length past) (Aw q j addr snoop dom bar))) in
    omega (arith, rest, long)
beats-within (_ ∷ past) p = beats-within past p

write-counted : (b c : Bool) (count : ℕ) (xs : List Transaction) (x : Transaction) → length xs ≤ count
    → length (more xs (if b && c then Some x else None)) ≤ (if b then count + 1 else count)
write-counted true true count xs x within = rw (length-append xs (x ∷ [])) (omega (arith, within))
write-counted true false count xs x within = omega (arith, within)
write-counted false c count xs x within = within

no-write : (b : Bool) (xs : List Transaction) (x : Transaction) → length (more xs (if b && false then Some x else None)) ≡ length xs
no-write true xs x = refl
no-write false xs x = refl

writes-within : (past : Trace) (p : ℕ) → length (data_writes past p) ≤ counted (at_port (issues_on Write) p) past
writes-within [] p = omega arith
writes-within (Ar q j addr snoop dom bar lock ∷ past) p =
    let rest = writes-within past p in rw (no-write (q == p) (data_writes past p) _) rest
writes-within (Aw q j addr snoop dom bar ∷ past) p =
    write-counted (q == p) _ (counted (at_port (issues_on Write) p) past) (data_writes past p) _ (writes-within past p)
writes-within (_ ∷ past) p = writes-within past p

pub write-beats-few : (h : Header) (past : Trace) → IsAccepted h past → counted is_write_beat past ≤ counted (issues_on Write) past * 4
write-beats-few h past a =
    for-each-key 4 port_or_zero is_write_beat (issues_on Write) past
    (λ p.
    let sum = beats-counted h past p a in
    let within = beats-within past p in
    let few = writes-within past p in
    omega (arith, sum, within, few))

-- ---- snoop data --------------------------------------------------------------------------------------

snoop-beats-counted : (past : Trace) (p : ℕ) → counted (at_port is_snoop_beat p) past ≡ data_beats past p
snoop-beats-counted [] p = refl
snoop-beats-counted (Cd q last word ∷ past) p =
    rw (eqb-swap q p) (counted-next (p == q) (counted (at_port is_snoop_beat p) past) (data_beats past p) (snoop-beats-counted past p))
snoop-beats-counted (_ ∷ past) p = snoop-beats-counted past p

next-snoop-beat : (h : Header) (past : Trace) (p : ℕ) (last : Bool) (word : ℕ) → IsAccepted h (Cd p last word ∷ past) → data_beats past p < 4 * length (sent past p)
next-snoop-beat h past p last word a =
    let o = is_some_and-is (next_sent past p) (λ line. same_test last (next_sent_beat past p == 3) && (word == word_of line (next_sent_beat past p)))
    (accepted_keeps h past (Cd p last word) a).rule_17 in
    room-for (sent past p) (data_beats past p) o.0 o.1

snoop-beats-within : (h : Header) (past : Trace) (p : ℕ) → IsAccepted h past → data_beats past p ≤ 4 * length (sent past p)
snoop-beats-within h [] p a = omega arith
snoop-beats-within h (Cd q last word ∷ past) p a =
    let rest = snoop-beats-within h past p a.0 in
    elim (cases_Bool (p == q)) [
      | inr n ↦ rw n rest
      | inl t ↦
          let next : data_beats past p < 4 * length (sent past p) =
          subst (λ r. data_beats past r < 4 * length (sent past r)) (sym (eqb-true p q t)) (next-snoop-beat h past q last word a) in
          rw t (omega (arith, next))
    ]
snoop-beats-within h (e ∷ past) p a =
    let rest = snoop-beats-within h past p a.0 in
    let long = longer (sent past p) (sent_at past e p) in
    omega (arith, rest, long)

sent-counted : {A : Type 0} → (b c : Bool) (count : ℕ) (xs : List A) (o : Option A) → length xs ≤ count
    → length (more xs (if b && c then o else None)) ≤ (if b then count + 1 else count)
sent-counted true true count xs None within = omega (arith, within)
sent-counted true true count xs (Some x) within = rw (length-append xs (x ∷ [])) (omega (arith, within))
sent-counted true false count xs o within = omega (arith, within)
sent-counted false c count xs o within = within

sent-within : (past : Trace) (p : ℕ) → length (sent past p) ≤ answers past p
sent-within [] p = omega arith
sent-within (Cr q resp st ∷ past) p =
    sent-counted (p == q) (transfers_data resp) (answers past p) (sent past p) (option_map (λ s. copy_of past p s.addr) (answered past p)) (sent-within past p)
sent-within (_ ∷ past) p = sent-within past p

pub snoop-beats-few : (h : Header) (past : Trace) → IsAccepted h past → counted is_snoop_beat past ≤ counted is_answer past * 4
snoop-beats-few h past a =
    for-each-key 4 port_or_zero is_snoop_beat is_answer past
    (λ p.
    let sum = snoop-beats-counted past p in
    let within = snoop-beats-within h past p a in
    let few = sent-within past p in
    let all = answers-counted past p in
    omega (arith, sum, within, few, all))
