-- The Syncs that reach the ports, event by event.
use Rattle.std.proofs.Common.{◌≡◌, ◌≢◌, ◌⊎◌, ℕ, ◌+◌, ◌-◌, ◌^◌, ◌<◌, ◌≤◌, Bool, true, false, not, cond, ◌&&◌, nat_eq, nat_le, nat_lt, if◌then◌else◌, List, [], ◌∷◌, ◌++◌, length, map, slice_get, slice_set, get_or, replicate, count_by, Option, Some, None, is_some, refl, sym, ap, subst, ◌∙◌, arith, inl, inr, length-set}
use Rattle.ace_sysck.proofs.Terms.{All, Transaction, Header, Event, Ac, Cr, Trace, at_point, newer, is_some_and, implies, issued, transactions, is_ace, is_message_part, is_message_word, is_sync, is_sync_word, has_second, first_waiting, parts_with, parts_in, parts_for, last_sync, sync_in, sync_number, answered_parts, answered_syncs, dvm_completes, is_dvm_completion, begins_well, begins_message, is_part_in_order, IsAccepted, is_other_ace, has_every_completion, LineState, read_kind, ArKind, is_dvm_message, answers, is_dvm_complete, Target, Recording, after, target_of, PortMessages, PortSyncs, Syncs, begun_in, PortMessagesStand, is_new_sync, SyncsStand, PortSyncsStand, ReachesAll, syncs_for, next_count, untold, reached_by, one_answered, one_completed, completes_all, IsStep, option_map, option_to_list, Inboxes, InboxesStand, part_of, first_is_sync, is_sync_part, answers_message}
use Rattle.std.proofs.lemmas.Bool.{cases_Bool, cases_eq, and_parts, and_right, eq-eqb, ne_eqb}
use Rattle.std.proofs.lemmas.List.{length-replicate, append-nil, get_or-set_same, get_or-set_other}
use Rattle.std.proofs.lemmas.List.Elements.{All-weaker}
use Rattle.std.proofs.lemmas.Option.{slice_get-map}
use Rattle.std.proofs.lemmas.List.Sums.{sum_by-append, sum_by_push}
use Rattle.ace_codes.specs.declared.kind.ArKind.TheVariants as kind
use Rattle.ace_model.proofs.Rules.Keeps.{accepted_keeps}
use Rattle.ace_model.proofs.Dvm.Parts.{IsBelow, parts-placed}
use Rattle.ace_model.proofs.Dvm.Forwarding.{answered-first}
use Rattle.ace_model.proofs.Dvm.Syncs.{last_sync-is}
use Rattle.ace_model.proofs.Trace.Growth.{at_point-before, at_point-end}
use Rattle.ace_model.proofs.Trace.Places.{at_point-last, at_point-length}
use Rattle.ace_model.proofs.Trace.Issued.{issued-place}
use Rattle.ace_model.proofs.General.Options.{Some-injective, is_none_or-at}
use Rattle.ace_model.proofs.General.Booleans.{implies-at, not_both}
use Rattle.ace_model.proofs.General.Lists.{start-all, count_by-start, count_by-agree, count_by-cons}
use Rattle.ace_sysck.proofs.Tables.{entries_set, repeated}
use Rattle.ace_sysck.proofs.Steps.{port_within}
use Rattle.ace_sysck.proofs.BarrierSteps.{issuing-port}
use Rattle.ace_sysck.proofs.EventLaws.{begun-is}
use Rattle.ace_sysck.proofs.Forwarding.InboxHears.{idle-answered, answered-now, answered-more, forwards-part, is-message, snoop_there, no_more}
use Rattle.std.proofs.lemmas.List.Elements.{All-drop}
use Rattle.ace_model.proofs.General.Lists.{slice_get-at_end, slice_get-start, slice_get-drop, slice_get-all}
use Rattle.ace_sysck.proofs.PartLaws.{Forwards}
use Rattle.ace_sysck.proofs.Forwarding.InboxRules.{unanswered, inbox_of, all_ports-same}
use Rattle.ace_sysck.proofs.PartLaws.{waits-cases, waits-is, waits-old}

-- what is kept after the empty trace
pub syncs_fresh : (h : Header) (s : Syncs) → s.ports.items ≡ replicate h.ports untold → SyncsStand (record { header = h; past = [] }) s
syncs_fresh h s is = record {
  size = ap length is ∙ length-replicate h.ports untold;
  ports = λ q low. subst (PortSyncsStand [] q) (sym (ap (λ xs. get_or xs q untold) is ∙ repeated h.ports q untold))
      (record { reached = refl; answered = refl; completes = refl; table = refl; numbers = λ p x small is. cc });
}

-- K9 of a part that an accepted event issues
message_order : (h : Header) (past : Trace) (e : Event) (x : Transaction) → IsAccepted h (e ∷ past) → issued (length past) e ≡ Some x → is_message_part x ≡ true
    → is_part_in_order past x (first_waiting past x.port) ≡ true
message_order h past e x accepted new part =
    let well = is_none_or-at (issued (length past) e) (begins_well past) x (accepted_keeps h past e accepted).rule_9 new in
    implies-at (is_message_part x) _ (and_parts _ _ (and_parts _ _ well).0).1 part

-- a first part that waits for its second is no Sync
first-no_sync : (h : Header) (past : Trace) (p : ℕ) (f : Transaction) → IsAccepted h past → first_waiting past p ≡ Some f → is_sync_word f.addr ≡ false
first-no_sync h [] p f accepted w = cc
first-no_sync h (e ∷ past) p f accepted w = elim (waits-cases past e p f w) [
  | inl old ↦ first-no_sync h past p f accepted.0 old.0
  | inr k ↦
      let order = message_order h past e f accepted k.new k.part in
      let begins : begins_message past f ≡ true = sym (ap (is_part_in_order past f) (ap (first_waiting past) k.port ∙ k.was)) ∙ order in
      let word = (and_parts (is_message_word f.addr) _ begins).0 in
      elim (cases_Bool (is_sync_word f.addr)) [
        | inl y ↦ let bad : false ≡ true = sym (not_both _ (is_sync_word f.addr) (has_second f.addr) word y) ∙ k.second in cc
        | inr n ↦ n
      ]
]

-- whether a transaction of the trace is a Sync stays
sync-old : (e : Event) (past : Trace) (z : Transaction) → z.place < length past → is_sync (e ∷ past) z ≡ is_sync past z
sync-old e past z low = ap (λ (t : Trace). is_message_part z && is_sync_word z.addr && not (is_some (first_waiting t z.port))) (at_point-before e past z.place (omega arith))

count-old : (e : Event) (past : Trace) (xs : List Transaction) → All (IsBelow (length past)) xs → count_by (is_sync (e ∷ past)) xs ≡ count_by (is_sync past) xs
count-old e past xs all =
    count_by-agree (is_sync (e ∷ past)) (is_sync past) xs (All-weaker (IsBelow (length past)) (λ z. is_sync (e ∷ past) z ≡ is_sync past z) (sync-old e past) xs all)

-- how many Syncs an event adds to those for a port
grown : (e : Event) (past : Trace) (q : ℕ) → syncs_for (e ∷ past) q ≡ syncs_for past q + count_by (is_sync (e ∷ past)) (parts_in past (issued (length past) e) q)
grown e past q =
    sum_by-append (λ x. cond {A = ℕ} (is_sync (e ∷ past) x) 1 0) (parts_for past q) (parts_in past (issued (length past) e) q)
    ∙ ap (λ n. n + count_by (is_sync (e ∷ past)) (parts_in past (issued (length past) e) q)) (count-old e past (parts_for past q) (parts-placed past q))

one_count : (test : Transaction → Bool) (x : Transaction) (b : Bool) → test x ≡ b → count_by test (x ∷ []) ≡ (if b then 1 else 0)
one_count test x true t = let c = count_by-cons test x [] in let v : cond {A = ℕ} (test x) 1 0 ≡ 1 = rw t refl in omega arith
one_count test x false f = let c = count_by-cons test x [] in let v : cond {A = ℕ} (test x) 1 0 ≡ 0 = rw f refl in omega arith

two_count : (test : Transaction → Bool) (f x : Transaction) → test f ≡ false → test x ≡ false → count_by test (f ∷ x ∷ []) ≡ 0
two_count test f x first last =
    let c = count_by-cons test f (x ∷ []) in
    let v : cond {A = ℕ} (test f) 1 0 ≡ 0 = rw first refl in
    let d = one_count test x false last in
    omega arith

-- the parts of a message have one Sync where it is one
module _ (h : Header) (past : Trace) (e : Event) (x : Transaction) (accepted : IsAccepted h (e ∷ past)) (new : issued (length past) e ≡ Some x) (part : is_message_part x ≡ true) where
  now : at_point x.place (e ∷ past) ≡ past
  now = at_point-last e past x.place (issued-place (length past) e x new)

  is-sync : (o : Option Transaction) → first_waiting past x.port ≡ o → is_sync (e ∷ past) x ≡ (is_sync_word x.addr && not (is_some o))
  is-sync o was = ap (λ (t : Trace). is_message_part x && is_sync_word x.addr && not (is_some (first_waiting t x.port))) now ∙ rw (part, was) refl

  message-syncs : (o : Option Transaction) → first_waiting past x.port ≡ o → count_by (is_sync (e ∷ past)) (parts_with o x) ≡ (if is_sync_word x.addr && not (is_some o) then 1 else 0)
  message-syncs (Some f) was =
      let w = waits-old e past x.port f (waits-is past x.port f was) in
      let plain = first-no_sync h past x.port f accepted.0 was in
      let first : is_sync (e ∷ past) f ≡ false = rw (w.part, plain) refl in
      let last : is_sync (e ∷ past) x ≡ false = is-sync (Some f) was ∙ and_right (is_sync_word x.addr) false refl in
      two_count (is_sync (e ∷ past)) f x first last
      ∙ sym (ap (λ b. if b then 1 else 0) (and_right (is_sync_word x.addr) false refl))
  message-syncs None was =
      let order = message_order h past e x accepted new part in
      let begins : begins_message past x ≡ true = rw was at order in
      let word = (and_parts (is_message_word x.addr) _ begins).0 in
      elim (cases_Bool (is_sync_word x.addr)) [
        | inl t ↦
            let none : has_second x.addr ≡ false = not_both _ (is_sync_word x.addr) (has_second x.addr) word t in
            let yes : is_sync (e ∷ past) x ≡ true = is-sync None was ∙ rw t refl in
            ap (λ b. count_by (is_sync (e ∷ past)) (if b then [] else x ∷ [])) none ∙ one_count (is_sync (e ∷ past)) x true yes ∙ sym (ap (λ b. if b && true then 1 else 0) t)
        | inr f ↦ elim (cases_Bool (has_second x.addr)) [
          | inl y ↦ ap (λ b. count_by (is_sync (e ∷ past)) (if b then [] else x ∷ [])) y ∙ sym (ap (λ b. if b && true then 1 else 0) f)
          | inr n ↦
              let other : is_sync (e ∷ past) x ≡ false = is-sync None was ∙ rw f refl in
              ap (λ b. count_by (is_sync (e ∷ past)) (if b then [] else x ∷ [])) n ∙ one_count (is_sync (e ∷ past)) x false other ∙ sym (ap (λ b. if b && true then 1 else 0) f)
        ]
      ]

  -- for another port and for its own
  pub sent-syncs : (q : ℕ) → x.port ≢ q → count_by (is_sync (e ∷ past)) (parts_in past (issued (length past) e) q) ≡ (if is_sync_word x.addr && not (is_some (first_waiting past x.port)) then 1 else 0)
  sent-syncs q other = rw (new, part, ne_eqb x.port q other) (message-syncs (first_waiting past x.port) refl)

  pub own-syncs : count_by (is_sync (e ∷ past)) (parts_in past (issued (length past) e) x.port) ≡ 0
  own-syncs = rw (new, part, eq-eqb x.port x.port refl) refl

no_part-syncs : (past : Trace) (e : Event) (n : Option Transaction) (q : ℕ) → is_some_and n is_message_part ≡ false → count_by (is_sync (e ∷ past)) (parts_in past n q) ≡ 0
no_part-syncs past e None q plain = refl
no_part-syncs past e (Some x) q plain = rw plain refl

at_most : (b : Bool) (n : ℕ) → n ≡ (if b then 1 else 0) → n ≤ 1
at_most true n is = omega arith
at_most false n is = omega arith

-- there are no more Syncs for a port than events
pub syncs-few : (h : Header) (past : Trace) (q : ℕ) → IsAccepted h past → syncs_for past q ≤ length past
syncs-few h [] q accepted = omega arith
syncs-few h (e ∷ past) q accepted =
    let before = syncs-few h past q accepted.0 in
    let sum = grown e past q in
    let few = new-few (issued (length past) e) refl (cases_Bool (is_some_and (issued (length past) e) is_message_part)) in
    omega arith
  where
    new-few : (n : Option Transaction) → issued (length past) e ≡ n → (is_some_and (issued (length past) e) is_message_part ≡ true) ⊎ (is_some_and (issued (length past) e) is_message_part ≡ false)
        → count_by (is_sync (e ∷ past)) (parts_in past (issued (length past) e) q) ≤ 1
    new-few n is (inr plain) = let zero_is = no_part-syncs past e (issued (length past) e) q plain in omega arith
    new-few None is (inl t) = let bad : false ≡ true = rw is at t in cc
    new-few (Some x) is (inl t) =
        let part : is_message_part x ≡ true = rw is at t in
        elim (cases_eq x.port q) [
          | inl same ↦ let zero_is = ap (λ m. count_by (is_sync (e ∷ past)) (parts_in past (issued (length past) e) m)) (sym same) ∙ own-syncs h past e x accepted is part in omega arith
          | inr off ↦ at_most (is_sync_word x.addr && not (is_some (first_waiting past x.port))) _ (sent-syncs h past e x accepted is part q off)
        ]

pub answered-few : (h : Header) (past : Trace) (q : ℕ) → IsAccepted h past → answered_syncs past q ≤ length past
answered-few h past q accepted =
    let few = syncs-few h past q accepted in
    let start = count_by-start (is_sync past) (answered_parts past q) (parts_for past q) (answered-first past q) in
    omega arith

completes-more : (past : Trace) (e : Event) (q : ℕ) (n : Option Transaction) → issued (length past) e ≡ n
    → dvm_completes (e ∷ past) q ≡ dvm_completes past q + (if is_some_and n (λ x. is_dvm_completion x && nat_eq x.port q) then 1 else 0)
completes-more past e q None is = rw is (omega arith)
completes-more past e q (Some x) is = rw is (sum_by_push (λ y. cond {A = ℕ} (is_dvm_completion y && nat_eq y.port q) 1 0) (transactions past) x)

pub completes-few : (past : Trace) (q : ℕ) → dvm_completes past q ≤ length past
completes-few [] q = omega arith
completes-few (e ∷ past) q =
    let before = completes-few past q in
    let more_by = completes-more past e q (issued (length past) e) refl in
    let few = at_most (is_some_and (issued (length past) e) (λ x. is_dvm_completion x && nat_eq x.port q)) _ refl in
    omega arith

-- the number of a Sync stays
number-old : (e : Event) (past : Trace) (x : Transaction) (q : ℕ) → x.place < length past → sync_number (e ∷ past) x q ≡ sync_number past x q
number-old e past x q low =
    let same = at_point-before e past x.place (omega arith) in
    let long = at_point-length past x.place (omega arith) in
    ap (λ (t : Trace). count_by (is_sync (e ∷ past)) (parts_for t q) + 1) same
    ∙ ap (λ n. n + 1) (count-old e past (parts_for (at_point x.place past) q) (All-weaker (IsBelow (length (at_point x.place past))) (IsBelow (length past)) (λ z b. omega (arith, b, long, low)) (parts_for (at_point x.place past) q) (parts-placed (at_point x.place past) q)))

next-is : (n m : ℕ) → n ≡ m → m < 2 ^ 64 - 1 → next_count n ≡ m + 1
next-is n m is low = omega arith

-- what the port has answered, where the event is no CR of it
answered-same : (h : Header) (past : Trace) (e : Event) (q : ℕ) → IsAccepted h (e ∷ past) → ((resp : ℕ) (st : LineState) → e ≡ Cr q resp st → ⊥) → answered_parts (e ∷ past) q ≡ answered_parts past q
answered-same h past (Ac p addr snoop) q accepted not_cr =
    elim (cases_eq q p) [
      | inl same ↦ subst (λ m. answered_parts (Ac p addr snoop ∷ past) m ≡ answered_parts past m) (sym same) (answered-now h past p addr snoop accepted)
      | inr off ↦ idle-answered past (Ac p addr snoop) q (record { same_answers = refl; no_snoop = rw (ne_eqb q p off) refl })
    ]
answered-same h past (Cr p resp st) q accepted not_cr =
    idle-answered past (Cr p resp st) q (record { same_answers = rw (ne_eqb q p (λ same. not_cr resp st (ap (λ m. Cr m resp st) (sym same)))) refl; no_snoop = refl })
answered-same h past e q accepted not_cr = refl

answered-count : (e : Event) (past : Trace) (q : ℕ) → answered_parts (e ∷ past) q ≡ answered_parts past q → answered_syncs (e ∷ past) q ≡ answered_syncs past q
answered-count e past q same =
    ap (count_by (is_sync (e ∷ past))) same
    ∙ count-old e past (answered_parts past q) (start-all (IsBelow (length past)) (answered_parts past q) (parts_for past q) (answered-first past q) (parts-placed past q))

-- an event that issues no Sync leaves the numbers as they are
port_counted : (past : Trace) (e : Event) (q : ℕ) (s n : PortSyncs) → PortSyncsStand past q s → n.reached ≡ s.reached → n.numbers ≡ s.numbers
    → n.answered ≡ answered_syncs (e ∷ past) q → n.completes ≡ dvm_completes (e ∷ past) q → count_by (is_sync (e ∷ past)) (parts_in past (issued (length past) e) q) ≡ 0
    → ((p : ℕ) → sync_in past (issued (length past) e) p ≡ None) → PortSyncsStand (e ∷ past) q n
port_counted past e q s n k reached numbers answered completes none plain = record {
  reached = reached ∙ (let was = k.reached in let sum = grown e past q in omega arith);
  answered = answered;
  completes = completes;
  table = ap length numbers ∙ k.table;
  numbers = λ p x small is.
      let was : last_sync past p ≡ Some x = sym (ap (λ o. newer o (last_sync past p)) (plain p)) ∙ is in
      ap (λ l. get_or l p 0) numbers ∙ k.numbers p x small was ∙ sym (number-old e past x q (last_sync-is past p x was).0.issued.before);
}

-- an event that issues no Sync and no DVM Complete of the port, and is no CR of it
port_stays : (h : Header) (past : Trace) (e : Event) (q : ℕ) (s : PortSyncs) → IsAccepted h (e ∷ past) → ((resp : ℕ) (st : LineState) → e ≡ Cr q resp st → ⊥)
    → count_by (is_sync (e ∷ past)) (parts_in past (issued (length past) e) q) ≡ 0 → ((p : ℕ) → sync_in past (issued (length past) e) p ≡ None)
    → dvm_completes (e ∷ past) q ≡ dvm_completes past q → PortSyncsStand past q s → PortSyncsStand (e ∷ past) q s
port_stays h past e q s accepted not_cr none plain same k =
    port_counted past e q s s k refl refl (k.answered ∙ sym (answered-count e past q (answered-same h past e q accepted not_cr))) (k.completes ∙ sym same) none plain

-- what an event issues, of Syncs
sync-in : (past : Trace) (e : Event) (x : Transaction) (p : ℕ) → issued (length past) e ≡ Some x → is_message_part x ≡ true
    → sync_in past (issued (length past) e) p ≡ (if is_sync_word x.addr && not (is_some (first_waiting past x.port)) && nat_eq x.port p then Some x else None)
sync-in past e x p new part =
    ap (λ o. sync_in past o p) new ∙ rw part (ap (λ (t : Trace). if is_sync_word x.addr && not (is_some (first_waiting t x.port)) && nat_eq x.port p then Some x else None) (at_point-end past x.place (issued-place (length past) e x new)))

no_sync-in : (past : Trace) (e : Event) (n : Option Transaction) (p : ℕ) → is_some_and n is_message_part ≡ false → sync_in past n p ≡ None
no_sync-in past e None p plain = refl
no_sync-in past e (Some x) p plain = rw plain refl

not_completion : (x : Transaction) → is_message_part x ≡ true → is_dvm_completion x ≡ false
not_completion x part = by (read_kind x) part
  where
    by : (o : Option ArKind) → is_some_and o is_dvm_message ≡ true → is_some_and o is_dvm_complete ≡ false
    by None m = cc
    by (Some kind.DvmMessage) m = refl
    by (Some k) m = cc

completes-same : (past : Trace) (e : Event) (q : ℕ) → is_some_and (issued (length past) e) (λ x. is_dvm_completion x && nat_eq x.port q) ≡ false → dvm_completes (e ∷ past) q ≡ dvm_completes past q
completes-same past e q other = let more_by = completes-more past e q (issued (length past) e) refl in more_by ∙ rw other (omega arith)

-- an event that issues something is no CR
issues-no_cr : (past : Trace) (e : Event) (x : Transaction) (q : ℕ) → issued (length past) e ≡ Some x → (resp : ℕ) (st : LineState) → e ≡ Cr q resp st → ⊥
issues-no_cr past e x q new resp st is = let bad : None ≡ Some x = sym (ap (issued (length past)) is) ∙ new in cc

-- a Sync of the port x.port
port_reached : (h : Header) (past : Trace) (e : Event) (x : Transaction) (q : ℕ) (s : PortSyncs) → IsAccepted h (e ∷ past) → h.ports ≤ 32 → length past < 2 ^ 64 - 1 → issued (length past) e ≡ Some x
    → is_message_part x ≡ true → (is_sync_word x.addr && not (is_some (first_waiting past x.port))) ≡ true → x.port < h.ports
    → PortSyncsStand past q s → PortSyncsStand (e ∷ past) q (reached_by s x.port (nat_eq q x.port))
port_reached h past e x q s accepted few_ports few new part sync within k = record {
  reached = reached (cases_eq q x.port);
  answered = k.answered ∙ sym (answered-count e past q (answered-same h past e q accepted (issues-no_cr past e x q new)));
  completes = k.completes ∙ sym (completes-same past e q (rw (new, not_completion x part) refl));
  table = length-set s.numbers x.port (next_count s.reached) ∙ k.table;
  numbers = λ p y small is. numbers p y small is (cases_eq p x.port);
}
  where
    small_count : syncs_for past q < 2 ^ 64 - 1
    small_count = let n = syncs-few h past q accepted.0 in omega arith

    next : next_count s.reached ≡ syncs_for past q + 1
    next = next-is s.reached (syncs_for past q) k.reached small_count

    reached : (q ≡ x.port) ⊎ (q ≡ x.port → ⊥) → (if nat_eq q x.port then s.reached else next_count s.reached) ≡ syncs_for (e ∷ past) q
    reached (inl same) =
        let none : count_by (is_sync (e ∷ past)) (parts_in past (issued (length past) e) q) ≡ 0 = ap (λ m. count_by (is_sync (e ∷ past)) (parts_in past (issued (length past) e) m)) same ∙ own-syncs h past e x accepted new part in
        rw (eq-eqb q x.port same) (let was = k.reached in let sum = grown e past q in omega arith)
    reached (inr off) =
        let one : count_by (is_sync (e ∷ past)) (parts_in past (issued (length past) e) q) ≡ 1 = sent-syncs h past e x accepted new part q (λ i. off (sym i)) ∙ rw sync refl in
        rw (ne_eqb q x.port off) (next ∙ (let sum = grown e past q in omega arith))

    numbers : (p : ℕ) (y : Transaction) → p < 32 → last_sync (e ∷ past) p ≡ Some y → (p ≡ x.port) ⊎ (p ≡ x.port → ⊥) → get_or (slice_set s.numbers x.port (next_count s.reached)) p 0 ≡ sync_number (e ∷ past) y q
    numbers p y small is (inl same) =
        let issues : sync_in past (issued (length past) e) p ≡ Some x = sync-in past e x p new part ∙ rw (sync, eq-eqb x.port p (sym same)) refl in
        let mine : last_sync (e ∷ past) p ≡ Some x = ap (λ o. newer o (last_sync past p)) issues in
        let one : x ≡ y = Some-injective x y (sym mine ∙ is) in
        let at = at_point-last e past x.place (issued-place (length past) e x new) in
        let number : sync_number (e ∷ past) x q ≡ syncs_for past q + 1 =
        ap (λ (t : Trace). count_by (is_sync (e ∷ past)) (parts_for t q) + 1) at ∙ ap (λ n. n + 1) (count-old e past (parts_for past q) (parts-placed past q)) in
        ap (λ m. get_or (slice_set s.numbers x.port (next_count s.reached)) m 0) same ∙ get_or-set_same s.numbers x.port (next_count s.reached) 0 (let size = k.table in omega (arith, size, within, few_ports))
        ∙ next ∙ sym number ∙ ap (λ z. sync_number (e ∷ past) z q) one
    numbers p y small is (inr off) =
        let none : sync_in past (issued (length past) e) p ≡ None = sync-in past e x p new part ∙ rw (sync, ne_eqb x.port p (λ i. off (sym i))) refl in
        let was : last_sync past p ≡ Some y = sym (ap (λ o. newer o (last_sync past p)) none) ∙ is in
        let low = (last_sync-is past p y was).0.issued.before in
        get_or-set_other s.numbers x.port p (next_count s.reached) 0 off ∙ k.numbers p y small was ∙ sym (number-old e past y q low)

-- a DVM Complete of the port
port_completed : (h : Header) (past : Trace) (e : Event) (x : Transaction) (s : PortSyncs) → IsAccepted h (e ∷ past) → length past < 2 ^ 64 - 1 → issued (length past) e ≡ Some x
    → is_message_part x ≡ false → is_dvm_completion x ≡ true → PortSyncsStand past x.port s → PortSyncsStand (e ∷ past) x.port (one_completed s)
port_completed h past e x s accepted few new plain completion k =
    let n = completes-few past x.port in
    port_counted past e x.port s (one_completed s) k refl refl
    (k.answered ∙ sym (answered-count e past x.port (answered-same h past e x.port accepted (issues-no_cr past e x x.port new))))
    (next-is s.completes (dvm_completes past x.port) k.completes (omega (arith, n, few))
    ∙ sym (completes-more past e x.port (issued (length past) e) refl ∙ rw (new, completion, eq-eqb x.port x.port refl) refl))
    (no_part-syncs past e (issued (length past) e) x.port (rw new plain)) (λ p. no_sync-in past e (issued (length past) e) p (rw new plain))

-- a CR of the port: what it answers, and whether that is a Sync
module _ (h : Header) (past : Trace) (q resp : ℕ) (st : LineState) (accepted : IsAccepted h (Cr q resp st ∷ past)) (t : Target) (own : t ≡ target_of h past (Cr q resp st)) where
  abbrev cr_event : Event
  cr_event = Cr q resp st

  -- the part that is answered is the first that was not
  first-part : (y : Transaction) → answered_parts (cr_event ∷ past) q ≡ answered_parts past q ++ y ∷ [] → slice_get (unanswered past q) 0 ≡ Some y
  first-part y is =
      let a = length (answered_parts past q) in
      let at : slice_get (answered_parts (cr_event ∷ past) q) a ≡ Some y = ap (λ l. slice_get l a) is ∙ slice_get-at_end (answered_parts past q) a y refl in
      let there = slice_get-start (answered_parts (cr_event ∷ past) q) (parts_for (cr_event ∷ past) q) a y (answered-first (cr_event ∷ past) q) at in
      slice_get-drop (parts_for past q) a 0 a (omega arith) ∙ ap (λ l. slice_get l a) (sym (append-nil (parts_for past q))) ∙ there

  first-sync : (s : Inboxes) (r : Recording) → r.header ≡ h → r.past ≡ past → InboxesStand r s → is_ace h q ≡ true → (y : Transaction) → slice_get (unanswered past q) 0 ≡ Some y
      → is_some_and (slice_get s.ports.items q) first_is_sync ≡ is_sync past y
  first-sync s r hs ps stands ace y there =
      let b = inbox_of r s q stands (ap (λ v. is_ace v q) hs ∙ ace) in
      let k = stands.ports q b.0 b.1 (ap (λ v. is_ace v q) hs ∙ ace) in
      ap (λ o. is_some_and o first_is_sync) b.1 ∙ ap (λ l. is_some_and (slice_get l 0) is_sync_part) (k.parts_are ∙ ap (λ v. map (part_of v) (unanswered v q)) ps)
      ∙ ap (λ o. is_some_and o is_sync_part) (slice_get-map (part_of past) (unanswered past q) 0 ∙ ap (option_map (part_of past)) there)

  -- how many Syncs it has answered
  pub answers-none : answers_message t ≡ false → answered_syncs (cr_event ∷ past) q ≡ answered_syncs past q
  answers-none other =
      let k = forwards-part h past q resp st accepted in
      let none : is_some k.part ≡ false = is-message h past q resp st accepted t own ∙ other in
      answered-count cr_event past q (answered-more h past q resp st accepted k.part k.there ∙ no_more (answered_parts past q) k.part none)

  pub answers-one : (s : Inboxes) (r : Recording) (sync : Bool) → r.header ≡ h → r.past ≡ past → InboxesStand r s → is_ace h q ≡ true → answers_message t ≡ true
      → sync ≡ is_some_and (slice_get s.ports.items q) first_is_sync → answered_syncs (cr_event ∷ past) q ≡ answered_syncs past q + (if sync then 1 else 0)
  answers-one s r sync hs ps stands ace message told = go k.part refl
    where
      k : Forwards past q (answers past q) (snoop_there h past q resp st accepted).0
      k = forwards-part h past q resp st accepted

      below : (y : Transaction) → slice_get (unanswered past q) 0 ≡ Some y → y.place < length past
      below y there = slice_get-all (IsBelow (length past)) (unanswered past q) 0 y (All-drop (IsBelow (length past)) (length (answered_parts past q)) (parts_for past q) (parts-placed past q)) there

      go : (o : Option Transaction) → k.part ≡ o → answered_syncs (cr_event ∷ past) q ≡ answered_syncs past q + (if sync then 1 else 0)
      go None is = let bad : false ≡ true = sym (ap is_some is) ∙ is-message h past q resp st accepted t own ∙ message in cc
      go (Some y) is =
          let new : answered_parts (cr_event ∷ past) q ≡ answered_parts past q ++ y ∷ [] = answered-more h past q resp st accepted k.part k.there ∙ ap (λ o. answered_parts past q ++ option_to_list o) is in
          let there = first-part y new in
          let same : is_sync (cr_event ∷ past) y ≡ sync = sync-old cr_event past y (below y there) ∙ sym (first-sync s r hs ps stands ace y there) ∙ sym told in
          ap (count_by (is_sync (cr_event ∷ past))) new ∙ sum_by_push (λ z. cond {A = ℕ} (is_sync (cr_event ∷ past) z) 1 0) (answered_parts past q) y
          ∙ ap (λ n. n + cond {A = ℕ} (is_sync (cr_event ∷ past) y) 1 0)
          (count-old cr_event past (answered_parts past q) (start-all (IsBelow (length past)) (answered_parts past q) (parts_for past q) (answered-first past q) (parts-placed past q)))
          ∙ ap (λ b. answered_syncs past q + cond {A = ℕ} b 1 0) same

  -- so what is kept of the port
  pub port_answers : (s n : PortSyncs) → PortSyncsStand past q s → n.reached ≡ s.reached → n.completes ≡ s.completes → n.numbers ≡ s.numbers → n.answered ≡ answered_syncs (cr_event ∷ past) q
      → PortSyncsStand (cr_event ∷ past) q n
  port_answers s n k reached completes numbers answered =
      port_counted past cr_event q s n k reached numbers answered (completes ∙ k.completes) refl (λ p. refl)

-- a list in which one port's is set
syncs_set : (r : Recording) (s n : Syncs) (e : Event) (q : ℕ) (v : PortSyncs) → SyncsStand r s → q < r.header.ports → n.ports.items ≡ slice_set s.ports.items q v
    → PortSyncsStand (e ∷ r.past) q v → ((p : ℕ) (m : PortSyncs) → (q ≡ p → ⊥) → PortSyncsStand r.past p m → PortSyncsStand (e ∷ r.past) p m) → SyncsStand (after r e) n
syncs_set r s n e q v stands within items new others = record {
  size = ap length items ∙ length-set s.ports.items q v ∙ stands.size;
  ports = λ p low.
      entries_set (PortSyncsStand r.past) (PortSyncsStand (e ∷ r.past)) s.ports.items n.ports.items q r.header.ports v untold stands.size within items new others p (stands.ports p low);
}

pub syncs_all : (r : Recording) (s : Syncs) (e : Event) → SyncsStand r s → ((p : ℕ) (m : PortSyncs) → PortSyncsStand r.past p m → PortSyncsStand (e ∷ r.past) p m) → SyncsStand (after r e) s
syncs_all r s e stands each = record { size = stands.size; ports = λ p low. each p (get_or s.ports.items p untold) (stands.ports p low) }

-- a Sync
pub syncs_sync : (r : Recording) (s n : Syncs) (e : Event) (t : Target) (x : Transaction) (m : PortMessages) → IsStep r e t → begun_in e t ≡ Some x → is_message_part x ≡ true
    → is_new_sync m x ≡ true → PortMessagesStand r.past x.port m → SyncsStand r s → ReachesAll x.port s n → SyncsStand (after r e) n
syncs_sync r s n e t x m step begun part sync kept stands reaches = record {
  size = reaches.size ∙ stands.size;
  ports = λ q low.
      let inside : q < length s.ports.items = let k = stands.size in omega arith in
      subst (PortSyncsStand (e ∷ r.past) q) (sym (reaches.each q inside))
      (port_reached r.header r.past e x q (get_or s.ports.items q untold) step.accepted step.header.most_ports step.few new part
      (ap (λ o. is_sync_word x.addr && not (is_some o)) (sym kept.first) ∙ sync) (port_within r.header r.past e x.port step.accepted (issuing-port r.past e x new)) (stands.ports q low));
}
  where
    new : issued (length r.past) e ≡ Some x
    new = sym (begun-is r.header r.past e t step.target) ∙ begun

-- any other part
pub syncs_part : (r : Recording) (s : Syncs) (e : Event) (t : Target) (x : Transaction) (m : PortMessages) → IsStep r e t → begun_in e t ≡ Some x → is_message_part x ≡ true
    → is_new_sync m x ≡ false → PortMessagesStand r.past x.port m → SyncsStand r s → SyncsStand (after r e) s
syncs_part r s e t x m step begun part other kept stands = syncs_all r s e stands (λ q k st.
    port_stays r.header r.past e q k step.accepted (issues-no_cr r.past e x q new) (none q (cases_eq x.port q))
    (λ p. sync-in r.past e x p new part ∙ ap (λ b. if b && nat_eq x.port p then Some x else None) plain)
    (completes-same r.past e q (rw (new, not_completion x part) refl)) st)
  where
    new : issued (length r.past) e ≡ Some x
    new = sym (begun-is r.header r.past e t step.target) ∙ begun

    plain : (is_sync_word x.addr && not (is_some (first_waiting r.past x.port))) ≡ false
    plain = ap (λ o. is_sync_word x.addr && not (is_some o)) (sym kept.first) ∙ other

    none : (q : ℕ) → (x.port ≡ q) ⊎ (x.port ≡ q → ⊥) → count_by (is_sync (e ∷ r.past)) (parts_in r.past (issued (length r.past) e) q) ≡ 0
    none q (inl same) = ap (λ k. count_by (is_sync (e ∷ r.past)) (parts_in r.past (issued (length r.past) e) k)) (sym same) ∙ own-syncs r.header r.past e x step.accepted new part
    none q (inr off) = sent-syncs r.header r.past e x step.accepted new part q off ∙ ap (λ b. if b then 1 else 0) plain

-- a DVM Complete
pub syncs_completion : (r : Recording) (s n : Syncs) (e : Event) (t : Target) (x : Transaction) → IsStep r e t → begun_in e t ≡ Some x → is_message_part x ≡ false → is_dvm_completion x ≡ true
    → SyncsStand r s → n.ports.items ≡ slice_set s.ports.items x.port (one_completed (get_or s.ports.items x.port untold)) → SyncsStand (after r e) n
syncs_completion r s n e t x step begun plain completion stands items =
    syncs_set r s n e x.port (one_completed (get_or s.ports.items x.port untold)) stands within items
    (port_completed r.header r.past e x (get_or s.ports.items x.port untold) step.accepted step.few new plain completion (stands.ports x.port within))
    (λ p k off st. port_stays r.header r.past e p k step.accepted (issues-no_cr r.past e x p new) (no_part-syncs r.past e (issued (length r.past) e) p (rw new plain))
    (λ m. no_sync-in r.past e (issued (length r.past) e) m (rw new plain)) (completes-same r.past e p (rw (new, completion, ne_eqb x.port p off) refl)) st)
  where
    new : issued (length r.past) e ≡ Some x
    new = sym (begun-is r.header r.past e t step.target) ∙ begun

    within : x.port < r.header.ports
    within = port_within r.header r.past e x.port step.accepted (issuing-port r.past e x new)

-- any other transaction
pub syncs_other_issue : (r : Recording) (s : Syncs) (e : Event) (t : Target) (x : Transaction) → IsStep r e t → begun_in e t ≡ Some x → is_message_part x ≡ false → is_dvm_completion x ≡ false
    → SyncsStand r s → SyncsStand (after r e) s
syncs_other_issue r s e t x step begun plain other stands =
    let new : issued (length r.past) e ≡ Some x = sym (begun-is r.header r.past e t step.target) ∙ begun in
    syncs_all r s e stands (λ p k st. port_stays r.header r.past e p k step.accepted (issues-no_cr r.past e x p new) (no_part-syncs r.past e (issued (length r.past) e) p (rw new plain))
    (λ m. no_sync-in r.past e (issued (length r.past) e) m (rw new plain)) (completes-same r.past e p (rw (new, other) refl)) st)

-- an event that issues nothing, for a port of which it is no CR
pub quiet_port : (h : Header) (past : Trace) (e : Event) (q : ℕ) (s : PortSyncs) → IsAccepted h (e ∷ past) → issued (length past) e ≡ None → ((resp : ℕ) (st : LineState) → e ≡ Cr q resp st → ⊥)
    → PortSyncsStand past q s → PortSyncsStand (e ∷ past) q s
quiet_port h past e q s accepted none not_cr st =
    port_stays h past e q s accepted not_cr (ap (λ o. count_by (is_sync (e ∷ past)) (parts_in past o q)) none) (λ p. ap (λ o. sync_in past o p) none) (completes-same past e q (rw none refl)) st

-- a CR that answers a Sync
pub syncs_answer : (r : Recording) (s n : Syncs) (t : Target) (q resp : ℕ) (st : LineState) (boxes : Inboxes) (sync : Bool) → IsStep r (Cr q resp st) t → answers_message t ≡ true → sync ≡ true
    → InboxesStand r boxes → sync ≡ is_some_and (slice_get boxes.ports.items q) first_is_sync → SyncsStand r s
    → n.ports.items ≡ slice_set s.ports.items q (one_answered (get_or s.ports.items q untold)) → SyncsStand (after r (Cr q resp st)) n
syncs_answer r s n t q resp st boxes sync step message is_one boxes_stand told stands items =
    syncs_set r s n e q (one_answered k) stands within items
    (port_answers r.header r.past q resp st step.accepted t step.target k (one_answered k) (stands.ports q within) refl refl refl answered)
    (λ p m off z. quiet_port r.header r.past e p m step.accepted refl (λ a b is. off (cr-port is)) z)
  where
    e : Event
    e = Cr q resp st

    k : PortSyncs
    k = get_or s.ports.items q untold

    within : q < r.header.ports
    within = port_within r.header r.past (Cr q resp st) q step.accepted refl

    ace : is_ace r.header q ≡ true
    ace = (and_parts (nat_lt q r.header.ports) (is_ace r.header q) (accepted_keeps r.header r.past (Cr q resp st) step.accepted).rule_1).1

    answered : next_count k.answered ≡ answered_syncs (Cr q resp st ∷ r.past) q
    answered =
        let few = answered-few r.header r.past q step.accepted.0 in
        let low = step.few in
        next-is k.answered (answered_syncs r.past q) (stands.ports q within).answered (omega (arith, few, low))
        ∙ sym (answers-one r.header r.past q resp st step.accepted t step.target boxes r sync refl refl boxes_stand ace message told ∙ ap (λ b. answered_syncs r.past q + (if b then 1 else 0)) is_one)

    cr-port : {p a : ℕ} {b : LineState} → Cr q resp st ≡ Cr p a b → q ≡ p
    cr-port is = cc

-- any other CR
pub syncs_other_cr : (r : Recording) (s : Syncs) (t : Target) (q resp : ℕ) (st : LineState) → IsStep r (Cr q resp st) t
    → answered_syncs (Cr q resp st ∷ r.past) q ≡ answered_syncs r.past q → SyncsStand r s → SyncsStand (after r (Cr q resp st)) s
syncs_other_cr r s t q resp st step same stands = syncs_all r s (Cr q resp st) stands (λ p k z. elim (cases_eq q p) [
  | inl own ↦ subst (λ m. PortSyncsStand (Cr q resp st ∷ r.past) m k) own (mine k (subst (λ m. PortSyncsStand r.past m k) (sym own) z))
  | inr off ↦ quiet_port r.header r.past (Cr q resp st) p k step.accepted refl (λ a b is. off (cr-port is)) z
])
  where
    cr-port : {p a : ℕ} {b : LineState} → Cr q resp st ≡ Cr p a b → q ≡ p
    cr-port is = cc

    mine : (k : PortSyncs) → PortSyncsStand r.past q k → PortSyncsStand (Cr q resp st ∷ r.past) q k
    mine k z = port_answers r.header r.past q resp st step.accepted t step.target k k z refl refl refl (z.answered ∙ sym same)

pub syncs_no_message : (r : Recording) (s : Syncs) (t : Target) (q resp : ℕ) (st : LineState) → IsStep r (Cr q resp st) t → answers_message t ≡ false → SyncsStand r s → SyncsStand (after r (Cr q resp st)) s
syncs_no_message r s t q resp st step other stands =
    syncs_other_cr r s t q resp st step (answers-none r.header r.past q resp st step.accepted t step.target other) stands

pub syncs_no_sync : (r : Recording) (s : Syncs) (t : Target) (q resp : ℕ) (st : LineState) (boxes : Inboxes) (sync : Bool) → IsStep r (Cr q resp st) t → answers_message t ≡ true → sync ≡ false
    → InboxesStand r boxes → sync ≡ is_some_and (slice_get boxes.ports.items q) first_is_sync → SyncsStand r s → SyncsStand (after r (Cr q resp st)) s
syncs_no_sync r s t q resp st boxes sync step message other boxes_stand told stands =
    let ace = (and_parts (nat_lt q r.header.ports) (is_ace r.header q) (accepted_keeps r.header r.past (Cr q resp st) step.accepted).rule_1).1 in
    syncs_other_cr r s t q resp st step
    (answers-one r.header r.past q resp st step.accepted t step.target boxes r sync refl refl boxes_stand ace message told ∙ rw other (omega arith)) stands

-- K39's part on the other ports
pub completes_all-is : (r : Recording) (s : Syncs) (x : Transaction) (p : ℕ) → SyncsStand r s → p < 32 → last_sync r.past p ≡ Some x → x.port ≡ p
    → has_every_completion r.header r.past x ≡ completes_all r.header s p
completes_all-is r s x p stands small is port =
    all_ports-same r.header.ports (λ q. implies (is_other_ace r.header x.port q) (nat_le (sync_number r.past x q) (dvm_completes r.past q)))
    (λ q. implies (is_other_ace r.header p q) (nat_le (get_or (get_or s.ports.items q untold).numbers p 0) (get_or s.ports.items q untold).completes))
    (λ q low.
    let k = stands.ports q low in
    ap (λ m. implies (is_other_ace r.header m q) (nat_le (sync_number r.past x q) (dvm_completes r.past q))) port
    ∙ ap (λ n. implies (is_other_ace r.header p q) (nat_le n (dvm_completes r.past q))) (sym (k.numbers p x small is))
    ∙ ap (λ n. implies (is_other_ace r.header p q) (nat_le (get_or (get_or s.ports.items q untold).numbers p 0) n)) (sym k.completes))

-- what a CR that answers a part leaves
pub ruleset syncs_answered = (syncs_answer, syncs_no_sync)

-- what a part leaves
pub ruleset syncs_begun = (syncs_sync, syncs_part)
