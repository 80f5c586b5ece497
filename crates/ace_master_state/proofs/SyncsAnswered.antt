-- How many Syncs a port has answered, and whether the next part that it answers is a second one, after an event.
use Rattle.std.proofs.Common.{◌≡◌, ◌≢◌, ℕ, ◌+◌, ◌<◌, ◌≤◌, true, false, not, cond, ◌&&◌, ◌==◌, if◌then◌else◌, List, [], ◌∷◌, ◌++◌, length, length-append, slice_get, Option, Some, None, is_some, inl, inr, refl, sym, ap, subst, ◌∙◌, arith}
use Rattle.std.specs.List.{All, count_by}
use Rattle.std.proofs.lemmas.Bool.{and_parts, cases_Bool, cases_lt, eqb-true, false_from_ne_true}
use Rattle.std.proofs.lemmas.List.{append-nil}
use Rattle.std.proofs.lemmas.List.Elements.{All-weaker}
use Rattle.std.proofs.lemmas.List.Sums.{sum_by_push}
use Rattle.std.proofs.lemmas.Option.{slice_get_within}
use Rattle.ace_codes.specs.Snoops.{ac_kind_of}
use Rattle.ace_codes.specs.declared.state.LineState.{LineState}
use Rattle.ace_event.specs.declared.event.Event.{Event}
use Rattle.ace_event.specs.declared.event.Event.TheVariants.{Ac, Cr}
use Rattle.ace_event.specs.declared.header.Header.{Header}
use Rattle.ace_model.specs.declared.snoops.Snoop.{Snoop}
use Rattle.ace_model.specs.declared.transactions.Transaction.{Transaction}
use Rattle.ace_model.specs.Accepted.{IsAccepted}
use Rattle.ace_model.specs.Kinds.{is_message_snoop}
use Rattle.ace_model.specs.Messages.{add_forwarded, answered_parts, answered_syncs, dvm_completes, forwarded, forwards, has_second, is_dvm_completion, is_message_part, is_second_part, is_sync, is_sync_word, next_after, parts_for, parts_in}
use Rattle.ace_model.specs.Progress.{transactions}
use Rattle.ace_model.specs.Snoops.{answered, answers, snoop_at, snoops_of}
use Rattle.ace_model.specs.Trace.{Trace, is_some_and, more}
use Rattle.ace_model.specs.Transactions.{issued}
use Rattle.ace_model.proofs.Dvm.Forwarding.{answered-first}
use Rattle.ace_model.proofs.Dvm.Parts.{IsBelow, parts-placed}
use Rattle.ace_model.proofs.General.Lists.{count_by-agree, slice_get-at_end, slice_get-more, slice_get-start, start-all, start-length}
use Rattle.ace_model.proofs.General.Options.{Some-injective, is_some_and-is}
use Rattle.ace_sysck.proofs.Forwarding.InboxHears.{answered-more, answered-now, idle-answered, no_more}
use Rattle.ace_sysck.proofs.PartLaws.{forwarded-length, forwards-at}
use Rattle.ace_runs.specs.Segments.{is_at_port}
use Rattle.ace_master_state.proofs.LinesHeard.{issued-port}
use Rattle.ace_master_state.specs.Completions.{awaits_second}
use Rattle.ace_master_state.proofs.PartOrder.{below-at, get-left, get-past, get-right, message-plain, parts-led, parts-messages, second-old}

-- ---- the part that comes next ------------------------------------------------------------------------

-- where the port answers nothing
pub awaits-stays : (past : Trace) (e : Event) (p : ℕ) → answered_parts (e ∷ past) p ≡ answered_parts past p → awaits_second (e ∷ past) p ≡ awaits_second past p
awaits-stays past e p same =
    let xs = parts_for past p in
    let ys = parts_in past (issued (length past) e) p in
    let a = length (answered_parts past p) in
    let within : a ≤ length xs = start-length (answered_parts past p) xs (answered-first past p) in
    ap (λ l. is_some_and (slice_get (parts_for (e ∷ past) p) (length l)) (is_second_part (e ∷ past))) same
    ∙ elim (cases_lt a (length xs)) [
      | inl low ↦ ap (λ o. is_some_and o (is_second_part (e ∷ past))) (get-left xs ys a low) ∙ by (slice_get xs a) refl
      | inr high ↦
          ap (λ o. is_some_and o (is_second_part (e ∷ past))) (get-right xs ys a 0 (omega (arith, high, within))) ∙ message-plain e past p
          ∙ sym (ap (λ o. is_some_and o (is_second_part past)) (get-past xs a high))
    ]
  where
    by : (o : Option Transaction) → slice_get (parts_for past p) (length (answered_parts past p)) ≡ o → is_some_and o (is_second_part (e ∷ past)) ≡ is_some_and o (is_second_part past)
    by None at = refl
    by (Some z) at = second-old e past z (below-at (parts_for past p) _ z (parts-placed past p) at)

-- ---- what a snoop forwards ---------------------------------------------------------------------------

forwards-addr : (next : Option Transaction) (s : Snoop) (y : Transaction) → forwards next s ≡ Some y → y.addr ≡ s.addr
forwards-addr None s y is = cc
forwards-addr (Some x) s y is =
    elim (cases_Bool (is_some_and (ac_kind_of s.snoop) is_message_snoop && (x.addr == s.addr))) [
      | inr f ↦ (let none : None ≡ Some y = rw f at is in cc)
      | inl t ↦
          let same : Some x ≡ Some y = rw t at is in
          ap (λ (v : Transaction). v.addr) (sym (Some-injective x y same)) ∙ eqb-true x.addr s.addr (and_parts _ (x.addr == s.addr) t).1
    ]

pub forwarded-addr : (past : Trace) (p k : ℕ) (s : Snoop) (y : Transaction) → slice_get (snoops_of past p) k ≡ Some s → slice_get (forwarded past p) k ≡ Some (Some y) → y.addr ≡ s.addr
forwarded-addr [] p k s y at is = cc
forwarded-addr (e ∷ past) p k s y at is = by (λ old older. forwarded-addr past p k s y old older) (snoop_at (length past) e p) refl at is
  where
    by : (slice_get (snoops_of past p) k ≡ Some s → slice_get (forwarded past p) k ≡ Some (Some y) → y.addr ≡ s.addr) → (o : Option Snoop) → snoop_at (length past) e p ≡ o
        → slice_get (more (snoops_of past p) o) k ≡ Some s → slice_get (add_forwarded past p (forwarded past p) o) k ≡ Some (Some y) → y.addr ≡ s.addr
    by before None new at is = before at is
    by before (Some v) new at is =
        let count = forwarded-length past p in
        elim (slice_get-more (snoops_of past p) (Some v) k s at) [
          | inl old ↦
              let low = slice_get_within (snoops_of past p) k s old in
              before old (sym (get-left (forwarded past p) (forwards (next_after past p (forwarded past p)) v ∷ []) k (omega (arith, low, count))) ∙ is)
          | inr now ↦
              let one : v ≡ s = Some-injective v s now.1 in
              let here = slice_get-at_end (forwarded past p) k (forwards (next_after past p (forwarded past p)) v) (now.0 ∙ sym count) in
              let same : forwards (next_after past p (forwarded past p)) v ≡ Some y = Some-injective _ _ (sym here ∙ is) in
              forwards-addr (next_after past p (forwarded past p)) v y same ∙ ap (λ (w : Snoop). w.addr) one
        ]

-- ---- an answer ---------------------------------------------------------------------------------------

sync-old : (e : Event) (past : Trace) (z : Transaction) → z.place < length past → is_sync (e ∷ past) z ≡ is_sync past z
sync-old e past z low = ap (λ b. is_message_part z && is_sync_word z.addr && not b) (second-old e past z low)

count-old : (e : Event) (past : Trace) (xs : List Transaction) → All (IsBelow (length past)) xs → count_by (is_sync (e ∷ past)) xs ≡ count_by (is_sync past) xs
count-old e past xs all =
    count_by-agree (is_sync (e ∷ past)) (is_sync past) xs (All-weaker (IsBelow (length past)) (λ z. is_sync (e ∷ past) z ≡ is_sync past z) (sync-old e past) xs all)

answered-below : (past : Trace) (p : ℕ) → All (IsBelow (length past)) (answered_parts past p)
answered-below past p = start-all (IsBelow (length past)) (answered_parts past p) (parts_for past p) (answered-first past p) (parts-placed past p)

pub syncs-stay : (past : Trace) (e : Event) (p : ℕ) → answered_parts (e ∷ past) p ≡ answered_parts past p → answered_syncs (e ∷ past) p ≡ answered_syncs past p
syncs-stay past e p same = ap (count_by (is_sync (e ∷ past))) same ∙ count-old e past (answered_parts past p) (answered-below past p)

-- What the port answers.
pub record Answers (past : Trace) (e : Event) (p : ℕ) (s : Snoop) : Type 0 where
  pub syncs : answered_syncs (e ∷ past) p ≡ answered_syncs past p + (if is_sync_word s.addr && not (awaits_second past p) then 1 else 0)
  pub awaits : awaits_second (e ∷ past) p ≡ (not (awaits_second past p) && has_second s.addr)

pub answers-message : (h : Header) (past : Trace) (p resp : ℕ) (st : LineState) (s : Snoop) → IsAccepted h (Cr p resp st ∷ past) → answered past p ≡ Some s
    → is_some_and (ac_kind_of s.snoop) is_message_snoop ≡ true → Answers past (Cr p resp st) p s
answers-message h past p resp st s a at message =
    let f = forwards-at h past p (answers past p) s a.0 at in
    by f.part f.there (f.kind ∙ message)
  where
    by : (o : Option Transaction) → slice_get (forwarded past p) (answers past p) ≡ Some o → is_some o ≡ true → Answers past (Cr p resp st) p s
    by None there some = cc
    by (Some y) there some =
        let xs = parts_for past p in
        let n = length (answered_parts past p) in
        let addr = forwarded-addr past p (answers past p) s y at there in
        let new : answered_parts (Cr p resp st ∷ past) p ≡ answered_parts past p ++ y ∷ [] = answered-more h past p resp st a (Some y) there in
        let all : parts_for (Cr p resp st ∷ past) p ≡ xs = append-nil xs in
        let first = answered-first (Cr p resp st ∷ past) p in
        let mine : slice_get xs n ≡ Some y =
        ap (λ l. slice_get l n) (sym all)
        ∙ slice_get-start (answered_parts (Cr p resp st ∷ past) p) (parts_for (Cr p resp st ∷ past) p) n y first (ap (λ l. slice_get l n) new ∙ slice_get-at_end (answered_parts past p) n y refl) in
        let low : y.place < length past = below-at xs n y (parts-placed past p) mine in
        let second : awaits_second past p ≡ is_second_part past y = ap (λ o. is_some_and o (is_second_part past)) mine in
        let part : is_message_part y ≡ true = parts-messages past p n y mine in
        let sync : is_sync (Cr p resp st ∷ past) y ≡ (is_sync_word s.addr && not (awaits_second past p)) =
        sync-old (Cr p resp st) past y low ∙ ap (λ b. b && is_sync_word y.addr && not (is_second_part past y)) part ∙ ap (λ v. is_sync_word v && not (is_second_part past y)) addr
        ∙ ap (λ b. is_sync_word s.addr && not b) (sym second) in
        let count : length (answered_parts (Cr p resp st ∷ past) p) ≡ n + 1 = ap length new ∙ length-append (answered_parts past p) (y ∷ []) in
        record {
          syncs =
              ap (count_by (is_sync (Cr p resp st ∷ past))) new
              ∙ sum_by_push (λ z. cond {A = ℕ} (is_sync (Cr p resp st ∷ past) z) 1 0) (answered_parts past p) y
              ∙ ap (λ m. m + cond {A = ℕ} (is_sync (Cr p resp st ∷ past) y) 1 0) (count-old (Cr p resp st) past (answered_parts past p) (answered-below past p))
              ∙ ap (λ b. answered_syncs past p + cond {A = ℕ} b 1 0) sync;
          awaits =
              ap (λ k. is_some_and (slice_get (parts_for (Cr p resp st ∷ past) p) k) (is_second_part (Cr p resp st ∷ past))) count
              ∙ ap (λ l. is_some_and (slice_get l (n + 1)) (is_second_part (Cr p resp st ∷ past))) all
              ∙ next (slice_get xs (n + 1)) refl
              ∙ parts-led past p n y mine
              ∙ ap (λ b. not b && has_second y.addr) (sym second) ∙ ap (λ v. not (awaits_second past p) && has_second v) addr;
        }
      where
        next : (o : Option Transaction) → slice_get (parts_for past p) (length (answered_parts past p) + 1) ≡ o
            → is_some_and o (is_second_part (Cr p resp st ∷ past)) ≡ is_some_and o (is_second_part past)
        next None at = refl
        next (Some z) at = second-old (Cr p resp st) past z (below-at (parts_for past p) _ z (parts-placed past p) at)

pub answers-no-message : (h : Header) (past : Trace) (p resp : ℕ) (st : LineState) (s : Snoop) → IsAccepted h (Cr p resp st ∷ past) → answered past p ≡ Some s
    → is_some_and (ac_kind_of s.snoop) is_message_snoop ≡ false → answered_parts (Cr p resp st ∷ past) p ≡ answered_parts past p
answers-no-message h past p resp st s a at none =
    let f = forwards-at h past p (answers past p) s a.0 at in
    answered-more h past p resp st a f.part f.there ∙ no_more (answered_parts past p) f.part (f.kind ∙ none)

-- ---- other events ------------------------------------------------------------------------------------

-- any event but an answer of the port
pub answered-stay : (h : Header) (past : Trace) (e : Event) (p : ℕ) → IsAccepted h (e ∷ past) → ((q resp : ℕ) (st : LineState) → e ≡ Cr q resp st → q ≢ p) → answered_parts (e ∷ past) p ≡ answered_parts past p
answered-stay h past (Ac q addr snoop) p a other =
    elim (cases_Bool (p == q)) [
      | inl t ↦
          let same = eqb-true p q t in
          subst (λ r. IsAccepted h (Ac r addr snoop ∷ past) → answered_parts (Ac r addr snoop ∷ past) p ≡ answered_parts past p) same (answered-now h past p addr snoop) a
      | inr f ↦ idle-answered past (Ac q addr snoop) p (record { same_answers = refl; no_snoop = rw f refl })
    ]
answered-stay h past (Cr q resp st) p a other =
    let off : (p == q) ≡ false = false_from_ne_true (p == q) (λ t. other q resp st refl (sym (eqb-true p q t))) in
    idle-answered past (Cr q resp st) p (record { same_answers = rw off refl; no_snoop = refl })
answered-stay h past e p a other = idle-answered past e p (record { same_answers = refl; no_snoop = refl })

-- ---- DVM Completes -----------------------------------------------------------------------------------

pub completes-more : (past : Trace) (e : Event) (p : ℕ)
    → dvm_completes (e ∷ past) p ≡ dvm_completes past p + (if is_some_and (issued (length past) e) (λ x. is_dvm_completion x && (x.port == p)) then 1 else 0)
completes-more past e p = by (issued (length past) e) refl
  where
    by : (o : Option Transaction) → issued (length past) e ≡ o → dvm_completes (e ∷ past) p ≡ dvm_completes past p + (if is_some_and o (λ x. is_dvm_completion x && (x.port == p)) then 1 else 0)
    by None is = rw is (omega arith)
    by (Some x) is = rw is (sum_by_push (λ y. cond {A = ℕ} (is_dvm_completion y && (y.port == p)) 1 0) (transactions past) x)

pub completes-stay : (past : Trace) (e : Event) (p : ℕ) → is_some_and (issued (length past) e) (λ x. is_dvm_completion x && (x.port == p)) ≡ false → dvm_completes (e ∷ past) p ≡ dvm_completes past p
completes-stay past e p none =
    let more_by = completes-more past e p ∙ ap (λ b. dvm_completes past p + (if b then 1 else 0)) none in
    omega (arith, more_by)

pub completes-elsewhere : (past : Trace) (e : Event) (p : ℕ) → is_at_port p e ≡ false → dvm_completes (e ∷ past) p ≡ dvm_completes past p
completes-elsewhere past e p apart =
    completes-stay past e p (false_from_ne_true (is_some_and (issued (length past) e) (λ x. is_dvm_completion x && (x.port == p))) (λ t.
    let x = is_some_and-is (issued (length past) e) (λ x. is_dvm_completion x && (x.port == p)) t in
    let port = (and_parts (is_dvm_completion x.0) (x.0.port == p) x.2).1 in
    let here : is_at_port p e ≡ true = ap (λ o. is_some_and o (λ q. q == p)) (issued-port past e x.0 x.1) ∙ port in
    let bad : true ≡ false = sym here ∙ apart in cc))
