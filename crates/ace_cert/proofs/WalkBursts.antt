-- Write data with one more event, and the bursts of writes.
use Rattle.std.proofs.Common.{◌≡◌, inl, inr, ℕ, zero, suc, ◌+◌, ◌-◌, ◌*◌, ◌/◌, ◌%◌, ◌<◌, ◌≤◌, Bool, true, false, ◌&&◌, nat_eq, nat_lt, if◌then◌else◌, List, [], ◌∷◌, ◌++◌, length, min, take, drop, slice_get, Option, Some, None, option_map, unwrap_or, refl, sym, ap, ◌∙◌, arith, length-append}
use Rattle.std.specs.Int.{byte_at, bit_at}
use Rattle.std.proofs.lemmas.Bool.{cases_Bool, eqb-true, eq-eqb}
use Rattle.std.specs.Ordering.{nat_cmp}
use Rattle.std.specs.BTreeMap.{BTreeMap, get}
use Rattle.ace_codes.specs.Writes.{aw_kind_of}
use Rattle.ace_event.specs.declared.line.Line.{Line}
use Rattle.ace_event.specs.Bytes.{byte_of, merged, number_of_bytes, stored_byte}
use Rattle.ace_model.specs.declared.transactions.Transaction.{Transaction}
use Rattle.ace_model.proofs.Terms.{Event, Ar, Aw, W, Write, transaction_of, Beat, Trace, beat_at, beats, burst_line, burst_of, burst_strobe, data_writes, has_write_data, is_data_write_of, is_some_and, issued, more, option_filter, word_of, at_point}
use Rattle.ace_model.proofs.General.Lists.{slice_get-at_end, slice_get-drop, slice_get-not_at_end}
use Rattle.ace_cert.specs.declared.verification.bursts.Bytes.{Bytes}
use Rattle.ace_cert.specs.declared.verification.bursts.Counts.{Counts}
use Rattle.ace_cert.specs.declared.verification.bursts.SentBeat.{SentBeat}
use Rattle.ace_cert.specs.Walk.{AreBeatsKept, AreCountsKept, beat_after, beat_in, burst_in, counts_after, counts_in, nth_of, one_more, sent}
use Rattle.ace_cert.proofs.WalkKeys.{nth-same, swapped}
use Rattle.ace_cert.proofs.WalkNames.{more-is}
use Rattle.ace_model.proofs.Trace.Issued.{transaction_of-name, transaction_of-stands}
use Rattle.ace_model.proofs.Trace.Places.{at_point-length, issued_at-below}
use Rattle.ace_cert.specs.declared.verification.names.Writing.{Writing}

more-few : {A : Type 0} → (xs : List A) (o : Option A) (n : ℕ) → length xs ≤ n → length (more xs o) ≤ n + 1
more-few xs None n low = omega arith
more-few xs (Some x) n low = let count = length-append xs (x ∷ []) in omega arith

pub few-writes : (past : Trace) (p : ℕ) → length (data_writes past p) ≤ length past
few-writes [] p = omega arith
few-writes (e ∷ past) p =
    let low = more-few (data_writes past p) (option_filter (is_data_write_of p) (issued (length past) e)) (length past) (few-writes past p) in
    omega (arith, low)

pub few-beats : (past : Trace) (p : ℕ) → length (beats past p) ≤ length past
few-beats [] p = omega arith
few-beats (e ∷ past) p =
    let low = more-few (beats past p) (beat_at (beats past p) (data_writes past p) e p) (length past) (few-beats past p) in
    omega (arith, low)

abbrev pub counted : ℕ → ℕ → Counts
counted writes sent_beats = record { writes = writes; beats = sent_beats }

added : {A : Type 0} → (xs : List A) (x : A) → length xs < 4294967295 → one_more (length xs) ≡ length (xs ++ x ∷ [])
added xs x few = let count = length-append xs (x ∷ []) in more-is (length xs) few ∙ sym count

counts-at : (past : Trace) (e : Event) (p : ℕ) → length past < 4294967295
    → counts_after e p (record { writes = length (data_writes past p); beats = length (beats past p) })
    ≡ record { writes = length (data_writes (e ∷ past) p); beats = length (beats (e ∷ past) p) }
counts-at past (Ar q j addr snoop dom bar lock) p few =
    elim (cases_Bool (nat_eq q p)) [ inl t ↦ rw t refl | inr f ↦ rw f refl ]
counts-at past (Aw q j addr snoop dom bar) p few =
    let low = few-writes past p in
    elim (cases_Bool (nat_eq q p && is_some_and (aw_kind_of snoop dom bar) has_write_data)) [
      | inl t ↦ rw t (ap (λ n. counted n (length (beats past p))) (added (data_writes past p) _ (omega arith)))
      | inr f ↦ rw f refl
    ]
counts-at past (W q strb last word) p few =
    let low = few-beats past p in
    let turned = swapped p q in
    elim (cases_Bool (nat_eq q p && nat_lt (length (beats past p)) (4 * length (data_writes past p)))) [
      | inl t ↦ rw (turned, t) (ap (λ n. counted (length (data_writes past p)) n) (added (beats past p) _ (omega arith)))
      | inr f ↦ rw (turned, f) refl
    ]
counts-at past _ p few = refl

pub counts-grown : (past : Trace) (e : Event) (old new : BTreeMap ℕ Counts) → length past < 4294967295 → AreCountsKept past old
    → ((p : ℕ) → counts_in new p ≡ counts_after e p (counts_in old p)) → AreCountsKept (e ∷ past) new
counts-grown past e old new few kept after = λ p. after p ∙ ap (counts_after e p) (kept p) ∙ counts-at past e p few

at-end : (xs : List Beat) (b : Beat) (k : ℕ)
    → (if nat_eq (length xs) k then Some (sent b) else option_map sent (slice_get xs k)) ≡ option_map sent (slice_get (xs ++ b ∷ []) k)
at-end xs b k =
    elim (cases_Bool (nat_eq (length xs) k)) [
      | inl t ↦ rw t (ap (option_map sent) (sym (slice_get-at_end xs k b (sym (eqb-true (length xs) k t)))))
      | inr f ↦ rw f (ap (option_map sent) (sym (slice_get-not_at_end xs k b (λ e. let t = eq-eqb (length xs) k (sym e) in cc))))
    ]

beat-at : (past : Trace) (counts : BTreeMap ℕ Counts) (e : Event) (p k : ℕ) → length past < 4294967295 → AreCountsKept past counts → k < 4294967296
    → beat_after counts e (nth_of p k) (option_map sent (slice_get (beats past p) k)) ≡ option_map sent (slice_get (beats (e ∷ past) p) k)
beat-at past counts (W q strb last word) p k few kept low =
    let count = few-beats past q in
    let key = nth-same q (length (beats past q)) p k (omega arith) low in
    let turned = swapped p q in
    elim (cases_Bool (nat_eq q p)) [
      | inr f ↦ rw (kept q, key, turned, f) (either (nat_lt (length (beats past q)) (4 * length (data_writes past q))))
      | inl t ↦
          let one = eqb-true q p t in
          rw (kept q, key, turned, t, one)
          (elim (cases_Bool (nat_lt (length (beats past p)) (4 * length (data_writes past p)))) [
            | inr f ↦ rw f refl
            | inl r ↦ rw r (at-end (beats past p) (record { strobe = strb; word = word }) k)
          ])
    ]
  where
    either : (b : Bool) → (if b && false then Some (record { strobe = strb; word = word }) else option_map sent (slice_get (beats past p) k)) ≡ option_map sent (slice_get (beats past p) k)
    either true = refl
    either false = refl
beat-at past counts _ p k few kept low = refl

pub beats-grown : (past : Trace) (e : Event) (counts : BTreeMap ℕ Counts) (old new : BTreeMap ℕ SentBeat) → length past < 4294967295 → AreCountsKept past counts → AreBeatsKept past old
    → ((k : ℕ) → get nat_cmp new k ≡ beat_after counts e k (get nat_cmp old k)) → AreBeatsKept (e ∷ past) new
beats-grown past e counts old new few kept before after = λ p k low.
    after (nth_of p k) ∙ ap (beat_after counts e (nth_of p k)) (before p k low) ∙ beat-at past counts e p k few kept low

-- A burst

bytes-same : (f g : ℕ → ℕ) (n : ℕ) → ((k : ℕ) → f k ≡ g k) → number_of_bytes f n ≡ number_of_bytes g n
unfolding number_of_bytes
bytes-same f g zero same = refl
bytes-same f g (suc n) same = rw (bytes-same f g n same, same n) refl

stored-same : (v b c : Line) (strobe n : ℕ) → ((k : ℕ) → word_of b k ≡ word_of c k) → stored_byte v strobe b n ≡ stored_byte v strobe c n
stored-same v b c strobe n same =
    ap (λ w. if nat_eq (bit_at strobe n) 1 then byte_at (15 - n % 16) w else byte_of v n) (same (n / 16))

-- a store takes its bytes from the words
pub merged-words : (v b c : Line) (strobe : ℕ) → ((k : ℕ) → word_of b k ≡ word_of c k) → merged v strobe b ≡ merged v strobe c
unfolding merged
merged-words v b c strobe same =
    let word : (k : ℕ) → number_of_bytes (λ j. stored_byte v strobe b (16 * k + j)) 16 ≡ number_of_bytes (λ j. stored_byte v strobe c (16 * k + j)) 16 =
    λ k. bytes-same (λ j. stored_byte v strobe b (16 * k + j)) (λ j. stored_byte v strobe c (16 * k + j)) 16 (λ j. stored-same v b c strobe (16 * k + j) same) in
    rw (word 0, word 1, word 2, word 3) refl

abbrev pub beat_of : List Beat → ℕ → SentBeat
beat_of ys k = unwrap_or (option_map sent (slice_get ys k)) (record { strobe = 0; word = 0 })

abbrev pub line_in : List Beat → Line
line_in ys = record { words = (beat_of ys 0).word ∷ (beat_of ys 1).word ∷ (beat_of ys 2).word ∷ (beat_of ys 3).word ∷ [] }

padded : (ys : List Beat) (k : ℕ) → word_of (burst_line (take 4 ys)) k ≡ word_of (line_in ys) k
padded [] zero = refl
padded [] (suc zero) = refl
padded [] (suc (suc zero)) = refl
padded [] (suc (suc (suc zero))) = refl
padded [] (suc (suc (suc (suc k)))) = refl
padded (a ∷ []) zero = refl
padded (a ∷ []) (suc zero) = refl
padded (a ∷ []) (suc (suc zero)) = refl
padded (a ∷ []) (suc (suc (suc zero))) = refl
padded (a ∷ []) (suc (suc (suc (suc k)))) = refl
padded (a ∷ b ∷ []) zero = refl
padded (a ∷ b ∷ []) (suc zero) = refl
padded (a ∷ b ∷ []) (suc (suc zero)) = refl
padded (a ∷ b ∷ []) (suc (suc (suc zero))) = refl
padded (a ∷ b ∷ []) (suc (suc (suc (suc k)))) = refl
padded (a ∷ b ∷ c ∷ []) zero = refl
padded (a ∷ b ∷ c ∷ []) (suc zero) = refl
padded (a ∷ b ∷ c ∷ []) (suc (suc zero)) = refl
padded (a ∷ b ∷ c ∷ []) (suc (suc (suc zero))) = refl
padded (a ∷ b ∷ c ∷ []) (suc (suc (suc (suc k)))) = refl
padded (a ∷ b ∷ c ∷ d ∷ ys) zero = refl
padded (a ∷ b ∷ c ∷ d ∷ ys) (suc zero) = refl
padded (a ∷ b ∷ c ∷ d ∷ ys) (suc (suc zero)) = refl
padded (a ∷ b ∷ c ∷ d ∷ ys) (suc (suc (suc zero))) = refl
padded (a ∷ b ∷ c ∷ d ∷ ys) (suc (suc (suc (suc k)))) = refl

strobes : (ys : List Beat)
    → burst_strobe (take 4 ys) ≡ (beat_of ys 0).strobe + 65536 * (beat_of ys 1).strobe + 4294967296 * (beat_of ys 2).strobe + 281474976710656 * (beat_of ys 3).strobe
strobes [] = refl
strobes (a ∷ []) = omega arith
strobes (a ∷ b ∷ []) = omega arith
strobes (a ∷ b ∷ c ∷ []) = omega arith
strobes (a ∷ b ∷ c ∷ d ∷ ys) = omega arith

-- the burst of a write, as it is kept
pub burst-is : (past : Trace) (kept : BTreeMap ℕ SentBeat) (x : Transaction) (first : ℕ) (v : Line) → AreBeatsKept past kept
    → first ≡ 4 * length (data_writes (at_point x.place past) x.port) → first < 4294967290
    → merged v (burst_strobe (burst_of past x)) (burst_line (burst_of past x)) ≡ merged v (burst_in kept x.port first).strobe (burst_in kept x.port first).line
burst-is past kept x first v beats_kept is low =
    let ys = drop first (beats past x.port) in
    let one : (k : ℕ) → k < 4 → beat_in kept x.port (first + k) ≡ beat_of ys k =
    λ k under. ap (λ o. unwrap_or o (record { strobe = 0; word = 0 }))
    (beats_kept x.port (first + k) (omega (arith, low, under)) ∙ ap (option_map sent) (sym (slice_get-drop (beats past x.port) first k (first + k) refl))) in
    let b0 : beat_in kept x.port first ≡ beat_of ys 0 = ap (beat_in kept x.port) (omega arith) ∙ one 0 (omega arith) in
    let b1 = one 1 (omega arith) in
    let b2 = one 2 (omega arith) in
    let b3 = one 3 (omega arith) in
    let burst : burst_of past x ≡ take 4 ys = ap (λ n. take 4 (drop n (beats past x.port))) (sym is) in
    rw (burst, b0, b1, b2, b3)
    (merged-words v (burst_line (take 4 ys)) (line_in ys) (burst_strobe (take 4 ys)) (padded ys) ∙ ap (λ s. merged v s (line_in ys)) (strobes ys))

-- the burst of a write, by how many its port had issued before it
pub written-is : (past : Trace) (kept : BTreeMap ℕ SentBeat) (p i : ℕ) (w : Writing) (v : Line) → AreBeatsKept past kept → length past < 1048576
    → transaction_of past p Write i ≡ Some w.transaction → w.earlier ≡ length (data_writes (at_point w.transaction.place past) p)
    → (burst : Bytes) → burst ≡ burst_in kept p (min (w.earlier * 4) 4294967292)
    → merged v (burst_strobe (burst_of past w.transaction)) (burst_line (burst_of past w.transaction)) ≡ merged v burst.strobe burst.line
written-is past kept p i w v beats_kept few is earlier burst same =
    let x = w.transaction in
    let port : x.port ≡ p = (transaction_of-name past p Write i x is).port in
    let low = issued_at-below past x.place x (transaction_of-stands past p Write i x is).there in
    let point = at_point-length past x.place (omega (arith, low)) in
    let count = few-writes (at_point x.place past) p in
    let first : min (w.earlier * 4) 4294967292 ≡ 4 * length (data_writes (at_point x.place past) p) = omega (arith, earlier, count, point, low, few) in
    let start : 4 * length (data_writes (at_point x.place past) p) ≡ 4 * length (data_writes (at_point x.place past) x.port) =
    ap (λ q. 4 * length (data_writes (at_point x.place past) q)) (sym port) in
    let whole : burst ≡ burst_in kept x.port (4 * length (data_writes (at_point x.place past) p)) =
    same ∙ ap (burst_in kept p) first ∙ ap (λ q. burst_in kept q (4 * length (data_writes (at_point x.place past) p))) (sym port) in
    burst-is past kept x (4 * length (data_writes (at_point x.place past) p)) v beats_kept start (omega (arith, count, point, low, few))
    ∙ ap (λ (b : Bytes). merged v b.strobe b.line) (sym whole)
