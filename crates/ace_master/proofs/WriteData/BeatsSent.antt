-- The four W of a burst that isn't sent break no rule, and carry the data that they have to.
use Rattle.std.proofs.Common.{◌≡◌, ℕ, Bool, ◌<◌, ◌+◌, ◌*◌, ◌/◌, true, false, ◌&&◌, ◌==◌, nat_lt, if◌then◌else◌, [], ◌∷◌, length, length-append, Some, None, is_some, slice_get, refl, ap, subst, ◌∙◌, arith}
use Rattle.std.proofs.Math.Bool.{and-false}
use Rattle.std.proofs.lemmas.Bool.{and_from, eq-eqb, lt-ltb}
use Rattle.std.proofs.lemmas.Option.{slice_get_within}
use Rattle.ace_event.specs.declared.event.Event.{Event}
use Rattle.ace_event.specs.declared.header.Header.{Header}
use Rattle.ace_model.specs.declared.transactions.Transaction.{Transaction}
use Rattle.ace_model.specs.AddressRules.{k1}
use Rattle.ace_model.specs.Copies.{word_of}
use Rattle.ace_model.specs.Plans.{Plan}
use Rattle.ace_model.specs.SnoopRules.{is_next_beat, k11}
use Rattle.ace_model.specs.Trace.{Trace, implies, is_none_or, is_some_and, more}
use Rattle.ace_model.specs.Values.{stores_data}
use Rattle.ace_model.specs.Writes.{Beat, beats, data_writes, next_write, next_write_beat}
use Rattle.ace_model.proofs.Trace.UnwrittenWrites.{data_write-at}
use Rattle.ace_model.proofs.Trace.IssuedTransactions.{issuer-low}
use Rattle.ace_runs.specs.Acts.{data_of_operation}
use Rattle.ace_runs.specs.Bursts.{is_kept, onto}
use Rattle.ace_runs.specs.Follows.{carries, is_beat_of}
use Rattle.ace_runs.specs.Operations.{operation_behind}
use Rattle.ace_runs.specs.Segments.{acts_made}
use Rattle.ace_runs.proofs.Accepting.{two-kept}
use Rattle.ace_runs.proofs.NeverStuck.Steps.SameEvents.{same_test-self}
use Rattle.ace_engine.specs.Engines.{IsLegal}
use Rattle.ace_engine.proofs.LegalSteps.{legal-more}
use Rattle.ace_portck.specs.declared.target.WriteData.{WriteData}
use Rattle.ace_master_laws.specs.Chosen.{is_chosen}
use Rattle.ace_master.specs.Operations.{beat_of, beats_of_data}
use Rattle.ace_master.specs.Sending.{Carries, IsSent, strobe_of}
use Rattle.ace_master.proofs.LiteHeard.{behind-left}
use Rattle.ace_master.proofs.Obeying.{w-obeys}

-- So many beats of the burst are sent.
record IsSending (plan : Plan) (past : Trace) (p : ℕ) (x : Transaction) (d : WriteData) (number k : ℕ) : Type 0 where
  there : slice_get (data_writes past p) number ≡ Some x
  sent : length (beats past p) ≡ 4 * number + k
  data_is : Carries plan past x d

-- ---- one beat ----------------------------------------------------------------------------------------

module _ (plan : Plan) (past : Trace) (p : ℕ) (x : Transaction) (d : WriteData) (n k : ℕ) (some : k < 4) (legal : IsLegal plan past) (low : nat_lt p plan.header.ports ≡ true)
    (s : IsSending plan past p x d n k) where
  abbrev h : Header
  h = plan.header

  abbrev e : Event
  e = beat_of p d k

  abbrev strobe : ℕ
  strobe = strobe_of d k

  abbrev word : ℕ
  word = word_of d.line k

  next-is : next_write past p ≡ Some x
  next-is =
      let sent = s.sent in
      let number : length (beats past p) / 4 ≡ n = omega (arith, sent, some) in
      ap (slice_get (data_writes past p)) number ∙ s.there

  beat-is : next_write_beat past p ≡ k
  beat-is = let sent = s.sent in omega (arith, sent, some)

  kept : is_kept h past e ≡ true
  unfolding is_kept
  kept =
      let one : k1 h past e ≡ true = and_from _ _ low refl in
      let fits : is_next_beat past k strobe (k == 3) word x ≡ true = and_from _ _ (same_test-self (k == 3)) (s.data_is.fits k some) in
      let eleven : k11 h past e ≡ true =
      ap (λ o. is_some_and o (is_next_beat past (next_write_beat past p) strobe (k == 3) word)) next-is
      ∙ ap (λ n. is_next_beat past n strobe (k == 3) word x) beat-is ∙ fits in
      two-kept (k1 h past e) (k11 h past e) 1 11 one eleven

  carried : carries plan past p strobe word x ≡ true
  carried = by (stores_data x) refl
    where
      by : (b : Bool) → stores_data x ≡ b → implies b (is_some_and (operation_behind plan past x) (λ op. is_some_and (data_of_operation op) (is_beat_of (next_write_beat past p) strobe word))) ≡ true
      by false none = refl
      by true stores =
          let of = s.data_is.carried stores in
          ap (λ o. is_some_and o (λ op. is_some_and (data_of_operation op) (is_beat_of (next_write_beat past p) strobe word))) of.1
          ∙ ap (λ o. is_some_and o (is_beat_of (next_write_beat past p) strobe word)) of.2
          ∙ ap (λ n. is_beat_of n strobe word (d.strobe, d.line)) beat-is
          ∙ and_from _ _ (eq-eqb strobe strobe refl) (eq-eqb word word refl)

  chosen : is_chosen plan past e ≡ true
  chosen = ap (λ o. is_none_or o (carries plan past p strobe word)) next-is ∙ carried

  after : IsLegal plan (e ∷ past)
  after = legal-more plan past e legal kept (w-obeys plan past legal.follows p strobe (k == 3) word x next-is carried) refl

  beats-now : length (beats (e ∷ past) p) ≡ length (beats past p) + 1
  beats-now =
      let sent = s.sent in
      let within = slice_get_within (data_writes past p) n x s.there in
      let room : ((p == p) && nat_lt (length (beats past p)) (4 * length (data_writes past p))) ≡ true = and_from _ _ (eq-eqb p p refl) (lt-ltb _ _ (omega (arith, sent, within, some))) in
      let b : Beat = record { strobe = strobe; word = word } in
      ap (λ t. length (more (beats past p) (if t then Some b else None))) room ∙ length-append (beats past p) (b ∷ [])

  sending-now : IsSending plan (e ∷ past) p x d n (k + 1)
  sending-now = record {
    there = s.there;
    sent = (let sent = s.sent in let more_now = beats-now in omega (arith, sent, more_now));
    data_is = record {
      fits = s.data_is.fits;
      carried = λ stores. let of = s.data_is.carried stores in (of.0, behind-left plan past p n x e s.there ∙ of.1, of.2);
    };
  }

  made-now : acts_made (e ∷ past) p ≡ acts_made past p
  made-now = ap (λ b. if b then acts_made past p + 1 else acts_made past p) (and-false (p == p))

-- ---- the burst ---------------------------------------------------------------------------------------

pub send-all : (plan : Plan) (past : Trace) (p : ℕ) (x : Transaction) (d : WriteData) → IsLegal plan past → next_write past p ≡ Some x
    → next_write_beat past p ≡ 0 → Carries plan past x d → IsSent plan past p (beats_of_data p d)
send-all plan past p x d legal next first data_is =
    let w = data_write-at past p (length (beats past p) / 4) x next in
    let low : nat_lt p plan.header.ports ≡ true = subst (λ q. nat_lt q plan.header.ports ≡ true) w.port (issuer-low plan.header past x legal.accepted w.issued) in
    let count : length (beats past p) ≡ 4 * (length (beats past p) / 4) + 0 = omega (arith, first) in
    let n = length (beats past p) / 4 in
    let s0 : IsSending plan past p x d n 0 = record { there = next; sent = count; data_is = data_is } in
    let a = after plan past p x d n 0 (omega arith) legal low s0 in
    let s1 = sending-now plan past p x d n 0 (omega arith) legal low s0 in
    let past1 = beat_of p d 0 ∷ past in
    let b = after plan past1 p x d n 1 (omega arith) a low s1 in
    let s2 = sending-now plan past1 p x d n 1 (omega arith) a low s1 in
    let past2 = beat_of p d 1 ∷ past1 in
    let c = after plan past2 p x d n 2 (omega arith) b low s2 in
    let s3 = sending-now plan past2 p x d n 2 (omega arith) b low s2 in
    let past3 = beat_of p d 2 ∷ past2 in
    let last = after plan past3 p x d n 3 (omega arith) c low s3 in
    let s4 = sending-now plan past3 p x d n 3 (omega arith) c low s3 in
    let all : (p == p) ≡ true = eq-eqb p p refl in
    record {
      may = and_from _ _ (ap is_some next) (eq-eqb (next_write_beat past p) 0 first);
      step = and_from _ _ (and_from _ _ all (and_from _ _ all (and_from _ _ all (and_from _ _ all refl)))) refl;
      kept =
          and_from _ _ (kept plan past p x d n 0 (omega arith) legal low s0) (and_from _ _ (kept plan past1 p x d n 1 (omega arith) a low s1)
          (and_from _ _ (kept plan past2 p x d n 2 (omega arith) b low s2) (and_from _ _ (kept plan past3 p x d n 3 (omega arith) c low s3) refl)));
      chosen = (
        chosen plan past p x d n 0 (omega arith) legal low s0,
        (chosen plan past1 p x d n 1 (omega arith) a low s1, (chosen plan past2 p x d n 2 (omega arith) b low s2, (chosen plan past3 p x d n 3 (omega arith) c low s3, tt))),
      );
      legal = last;
      made =
          made-now plan past3 p x d n 3 (omega arith) c low s3 ∙ made-now plan past2 p x d n 2 (omega arith) b low s2 ∙ made-now plan past1 p x d n 1 (omega arith) a low s1
          ∙ made-now plan past p x d n 0 (omega arith) legal low s0;
      writes = refl;
      more = (let four : length (beats (onto (beats_of_data p d) past) p) ≡ 4 * n + 4 = s4.sent in omega (arith, four, first, count));
    }
