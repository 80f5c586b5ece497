-- What the events leave of what is kept of the system, where the ports are kept beside it.
use Rattle.std.proofs.Common.{◌≡◌, ◌∙◌, ◌<◌, ◌-◌, ◌^◌, ℕ, Bool, true, false, ◌&&◌, ◌||◌, not, nat_eq, if◌then◌else◌, [], ◌∷◌, length, slice_get, Option, Some, None, is_some, option_map, Result, Ok, Err, IsOk, OnOk, refl, sym, ap, subst, inl, inr}
use Rattle.std.proofs.lemmas.Bool.{and_from, and_parts}
use Rattle.ace_sysck.proofs.Terms.{ar_kind_of, ac_kind_of, ArKind, LineState, Channel, Read, Write, Ar, Aw, R, B, Ac, Cr, G, Snoop, Transaction, IsAccepted, least_broken, may_issue_read, may_lock, is_barrier_half, is_dvm_complete, is_dvm_message, is_line_read, is_read_barrier, may_be_exclusive, is_dvm_completion, is_message_part, answered, answers, snoop_at, snoops_of, implies, is_some_and, acknowledged, is_ace, issued, outstanding, read_kind, Event, Header, Trace, is_due, may_respond, PortCheck, acknowledge, Recording, after, line_in, line_of, progress_of, target_of, SysCheck, is_issue, BeginsLine, Hears, MayHear, StandsRoomy, Stands, IsRoomy}
use Rattle.ace_codes.specs.declared.kind.ArKind.TheVariants as read
use Rattle.ace_model.proofs.General.Lists.{slice_get-more}
use Rattle.ace_model.proofs.General.Options.{Some-injective, is_none_or-at, is_some_and-is, some_if-is}
use Rattle.ace_model.proofs.Rules.Keeps.{accepted_keeps}
use Rattle.ace_model.proofs.Trace.Outstanding.{write_issued}
use Rattle.ace_portck.specs.DvmReads.{is_completion}
use Rattle.ace_portck.proofs.LineMaps.{room-stays}
use Rattle.ace_portck.proofs.ReadAddresses.{read_of}
use Rattle.ace_sysck.proofs.BarrierSteps.{barriers_stay}
use Rattle.ace_sysck.proofs.Forwarding.InboxHears.{inboxes_other_ac}
use Rattle.ace_sysck.proofs.MessageSteps.{messages_stay, messages_untold}
use Rattle.ace_sysck.proofs.ByKind.ReadAddresses.{issue-stands}
use Rattle.ace_sysck.proofs.Steps.{granted_one}
use Rattle.ace_sysck.proofs.Unmoved.{moves_nothing, results_still, system_responded, system_snooped, system_still}

-- what stands after the event, in which no room was taken
pub next : (s n : SysCheck) (p : PortCheck) (lines : ℕ) (r : Recording) (e : Event) → MayHear s p r lines e → Stands n (after r e)
    → ((k : ℕ) (past : Trace) → IsRoomy k past s → IsRoomy k past n) → StandsRoomy n (after r e) lines
next s n p lines r e m stands roomy = record { stands = stands; room = room-stays lines e r.past n.registrations.lines (roomy lines r.past m.room) }

-- the same, of a function that says what it leaves
pub heard : (s n : SysCheck) (p : PortCheck) (e : Event)
    → ((r : Recording) → Stands s r → least_broken r.header r.past e ≡ None → length r.past < 2 ^ 64 - 1 → Stands n (after r e))
    → ((k : ℕ) (past : Trace) → IsRoomy k past s → IsRoomy k past n) → Hears s p e n
heard s n p e stands roomy = λ lines r m. next s n p lines r e m (stands r m.stands m.kept m.few) roomy

-- an event that moves nothing
pub heard_still : (s : SysCheck) (p : PortCheck) (e : Event) → moves_nothing e ≡ true → Hears s p e s
heard_still s p e nothing = heard s s p e (λ r st fine few. system_still s r e nothing st fine few) (λ k past room. room)

-- ---- what an event issues ----------------------------------------------------------------------------

-- what is so of each AR and AW, and what it issues
each-issue : (P : Event → Transaction → Type 0) (past : Trace)
    → ((p i addr snoop dom bar : ℕ) (lock : Bool) → P (Ar p i addr snoop dom bar lock) (read_of (length past) p i addr snoop dom bar lock))
    → ((p i addr snoop dom bar : ℕ) → P (Aw p i addr snoop dom bar) (write_issued past p i addr snoop dom bar))
    → (e : Event) (x : Transaction) → issued (length past) e ≡ Some x → P e x
each-issue P past reads writes (Ar p i addr snoop dom bar lock) x new =
    subst (P (Ar p i addr snoop dom bar lock)) (Some-injective (read_of (length past) p i addr snoop dom bar lock) x new) (reads p i addr snoop dom bar lock)
each-issue P past reads writes (Aw p i addr snoop dom bar) x new =
    subst (P (Aw p i addr snoop dom bar)) (Some-injective (write_issued past p i addr snoop dom bar) x new) (writes p i addr snoop dom bar)
each-issue P past reads writes e x new = let bad : None ≡ Some x = new in cc

unlocked-else : (lock a b : Bool) → implies lock (a && b) ≡ true → b ≡ false → lock ≡ false
unlocked-else false a b may off = refl
unlocked-else true true false may off = cc
unlocked-else true false b may off = cc
unlocked-else true true true may off = cc

-- a transaction that can't be exclusive has lock 0
pub unlocked : (h : Header) (past : Trace) (e : Event) (x : Transaction) → IsAccepted h (e ∷ past) → issued (length past) e ≡ Some x
    → is_some_and (read_kind x) may_be_exclusive ≡ false → x.lock ≡ false
unlocked h past e x accepted new off =
    unlocked-else x.lock (is_ace h x.port) (is_some_and (read_kind x) may_be_exclusive)
    (is_none_or-at (issued (length past) e) (may_lock h) x (accepted_keeps h past e accepted).rule_7 new) off

completion-unlocked : (o : Option ArKind) → is_some_and o is_dvm_complete ≡ true → is_some_and o may_be_exclusive ≡ false
completion-unlocked None is = cc
completion-unlocked (Some read.DvmComplete) is = refl
completion-unlocked (Some k) is = cc

-- what an AR of a DVM Complete leaves, the event that issues one leaves
pub completion-heard : (r : Recording) (n : SysCheck) (e : Event) (x : Transaction) → issued (length r.past) e ≡ Some x → is_dvm_completion x ≡ true
    → IsAccepted r.header (e ∷ r.past)
    → ((addr snoop dom bar : ℕ) (lock : Bool) → is_completion snoop dom bar lock ≡ true
    → least_broken r.header r.past (Ar x.port x.id addr snoop dom bar lock) ≡ None
    → Stands n (after r (Ar x.port x.id addr snoop dom bar lock))) → Stands n (after r e)
completion-heard r n e x new =
    each-issue (λ e x. is_dvm_completion x ≡ true → IsAccepted r.header (e ∷ r.past)
    → ((addr snoop dom bar : ℕ) (lock : Bool) → is_completion snoop dom bar lock ≡ true
    → least_broken r.header r.past (Ar x.port x.id addr snoop dom bar lock) ≡ None
    → Stands n (after r (Ar x.port x.id addr snoop dom bar lock))) → Stands n (after r e)) r.past
    (λ p i addr snoop dom bar lock completion accepted leaves.
    let open_lock : lock ≡ false =
    unlocked r.header r.past (Ar p i addr snoop dom bar lock) (read_of (length r.past) p i addr snoop dom bar lock) accepted refl
    (completion-unlocked (ar_kind_of snoop dom bar) completion) in
    leaves addr snoop dom bar lock (and_from (is_some_and (ar_kind_of snoop dom bar) is_dvm_complete) (not lock) completion (ap not open_lock)) accepted.1)
    (λ p i addr snoop dom bar completion accepted leaves. cc) e x new

line-kind : (k : ArKind) → (is_read_barrier k || false) ≡ false → is_dvm_message k ≡ false → is_dvm_complete k ≡ false → is_line_read k ≡ true
line-kind read.Barrier barrier message complete = cc
line-kind read.DvmMessage barrier message complete = cc
line-kind read.DvmComplete barrier message complete = cc
line-kind k barrier message complete = refl

read-kind : (o : Option ArKind) (test : ArKind → Bool) → is_some_and o test ≡ true
    → (is_some_and o is_read_barrier || false) ≡ false → is_some_and o is_dvm_message ≡ false
    → is_some_and o is_dvm_complete ≡ false → (k : ArKind) × (o ≡ Some k) × (is_line_read k ≡ true)
read-kind None test is barrier message complete = cc
read-kind (Some k) test is barrier message complete = (k, refl, line-kind k barrier message complete)

-- what an AR of a line read leaves, the event that issues a read leaves that is of no other sort
pub line_read-heard : (r : Recording) (n : SysCheck) (e : Event) (x : Transaction) → BeginsLine r.past e x → x.chan ≡ Read → IsAccepted r.header (e ∷ r.past)
    → ((addr snoop dom bar : ℕ) (lock : Bool) (k : ArKind) → ar_kind_of snoop dom bar ≡ Some k → is_line_read k ≡ true
    → least_broken r.header r.past (Ar x.port x.id addr snoop dom bar lock) ≡ None
    → Stands n (after r (Ar x.port x.id addr snoop dom bar lock))) → Stands n (after r e)
line_read-heard r n e x b =
    each-issue (λ e x. is_barrier_half x ≡ false → is_message_part x ≡ false → is_dvm_completion x ≡ false → x.chan ≡ Read → IsAccepted r.header (e ∷ r.past)
    → ((addr snoop dom bar : ℕ) (lock : Bool) (k : ArKind) → ar_kind_of snoop dom bar ≡ Some k → is_line_read k ≡ true
    → least_broken r.header r.past (Ar x.port x.id addr snoop dom bar lock) ≡ None
    → Stands n (after r (Ar x.port x.id addr snoop dom bar lock))) → Stands n (after r e)) r.past
    (λ p i addr snoop dom bar lock half part completion chan accepted leaves.
    let k =
    read-kind (ar_kind_of snoop dom bar) (may_issue_read r.header p)
    (accepted_keeps r.header r.past (Ar p i addr snoop dom bar lock) accepted).rule_2 half part completion in
    leaves addr snoop dom bar lock k.0 k.1 k.2 accepted.1)
    (λ p i addr snoop dom bar half part completion chan accepted leaves. cc) e x b.issues b.half b.part b.completion

-- an event that issues a write of no other sort moves nothing
pub line_write-heard : (s : SysCheck) (r : Recording) (e : Event) (x : Transaction) → BeginsLine r.past e x → x.chan ≡ Write → x.id < 256 → Stands s r
    → least_broken r.header r.past e ≡ None → length r.past < 2 ^ 64 - 1 → Stands s (after r e)
line_write-heard s r e x b =
    each-issue (λ e x. is_barrier_half x ≡ false → x.chan ≡ Write → x.id < 256 → Stands s r
    → least_broken r.header r.past e ≡ None → length r.past < 2 ^ 64 - 1 → Stands s (after r e)) r.past
    (λ p i addr snoop dom bar lock half chan low st fine few. cc)
    (λ p i addr snoop dom bar half chan low st fine few.
    issue-stands s s.results r (Aw p i addr snoop dom bar) (write_issued r.past p i addr snoop dom bar) st refl refl half refl refl low fine few
    (results_still r s.results (Aw p i addr snoop dom bar) refl st.results)) e x b.issues b.half

-- ---- responses ---------------------------------------------------------------------------------------

found : {A B : Type 0} → (f : A → B) (o : Option A) (x : A) → o ≡ Some x → option_map f o ≡ None → ⊥
found f o x is none = let bad : Some (f x) ≡ None = sym (ap (option_map f) is) ∙ none in cc

-- an accepted R is one of an outstanding read, and an accepted B one of an outstanding write
pub transfer-found : (h : Header) (past : Trace) (p i resp : ℕ) (last : Bool) (word : ℕ) → IsAccepted h (R p i resp last word ∷ past)
    → option_map (progress_of h past) (outstanding h past p Read i) ≡ None → ⊥
transfer-found h past p i resp last word accepted none =
    let o = is_some_and-is (outstanding h past p Read i) (is_due h past resp last) (accepted_keeps h past (R p i resp last word) accepted).rule_18 in
    found (progress_of h past) (outstanding h past p Read i) o.0 o.1 none

pub response-found : (h : Header) (past : Trace) (p i resp : ℕ) → IsAccepted h (B p i resp ∷ past)
    → option_map (progress_of h past) (outstanding h past p Write i) ≡ None → ⊥
response-found h past p i resp accepted none =
    let o =
    is_some_and-is (outstanding h past p Write i) (may_respond past)
    (and_parts (nat_eq resp 0) _ (accepted_keeps h past (B p i resp) accepted).rule_26).1 in
    found (progress_of h past) (outstanding h past p Write i) o.0 o.1 none

-- an R that isn't the last of its read moves nothing
pub transfer-still : (s : SysCheck) (r : Recording) (p i resp : ℕ) (last : Bool) (word : ℕ) → last ≡ false → Stands s r
    → least_broken r.header r.past (R p i resp last word) ≡ None → length r.past < 2 ^ 64 - 1 → Stands s (after r (R p i resp last word))
transfer-still s r p i resp true word off st fine few = cc
transfer-still s r p i resp false word off st fine few =
    let e = R p i resp false word in
    let t = target_of r.header r.past e in
    let accepted : IsAccepted r.header (e ∷ r.past) = (st.accepted, fine) in
    system_responded s s.barriers s.messages r e st fine few refl (barriers_stay r s.barriers e t accepted refl refl refl st.barriers)
    (messages_stay r s.messages e t accepted refl refl refl (λ q. refl) st.messages)

-- ---- snoops ------------------------------------------------------------------------------------------

-- an AC whose code is that of no snoop moves nothing
pub snoop_still : (s : SysCheck) (r : Recording) (p addr code : ℕ) → ac_kind_of code ≡ None → Stands s r
    → least_broken r.header r.past (Ac p addr code) ≡ None → length r.past < 2 ^ 64 - 1 → Stands s (after r (Ac p addr code))
snoop_still s r p addr code none st fine few =
    system_snooped s s.messages s.inboxes r p addr code st fine few (messages_untold r s.messages p addr code (rw none refl) st.messages)
    (inboxes_other_ac r s.inboxes p addr code (st.accepted, fine) (rw none refl) st.inboxes)

-- each snoop of an accepted trace has a kind
new-kind : (h : Header) (past : Trace) (e : Event) (p : ℕ) (x : Snoop) → IsAccepted h (e ∷ past)
    → snoop_at (length past) e p ≡ Some x → is_some (ac_kind_of x.snoop) ≡ true
new-kind h past (Ac q addr code) p x a is =
    subst (λ (v : Snoop). is_some (ac_kind_of v.snoop) ≡ true) (some_if-is _ _ x is).1 (accepted_keeps h past (Ac q addr code) a).rule_2
new-kind h past e p x a is = cc

snoop-kind : (h : Header) (past : Trace) (p n : ℕ) (x : Snoop) → IsAccepted h past
    → slice_get (snoops_of past p) n ≡ Some x → is_some (ac_kind_of x.snoop) ≡ true
snoop-kind h [] p n x a is = cc
snoop-kind h (e ∷ past) p n x a is =
    elim (slice_get-more (snoops_of past p) (snoop_at (length past) e p) n x is) [
      | inl old ↦ snoop-kind h past p n x a.0 old
      | inr new ↦ new-kind h past e p x a new.1
    ]

-- so a snoop that is answered has one, and an accepted CR answers a snoop
pub answered-kind : (h : Header) (past : Trace) (p : ℕ) (x : Snoop) → IsAccepted h past → answered past p ≡ Some x → ac_kind_of x.snoop ≡ None → ⊥
answered-kind h past p x a next none =
    let some = snoop-kind h past p (answers past p) x a next in
    let bad : false ≡ true = sym (ap is_some none) ∙ some in cc

pub answer-found : (h : Header) (past : Trace) (p resp : ℕ) (st : LineState) → IsAccepted h (Cr p resp st ∷ past) → answered past p ≡ None → ⊥
answer-found h past p resp st accepted none =
    let some : is_some (answered past p) ≡ true = (accepted_keeps h past (Cr p resp st) accepted).rule_14 in
    let bad : false ≡ true = sym (ap is_some none) ∙ some in cc

-- an event that issues nothing is neither an AR nor an AW
pub issue_found : (n : ℕ) (e : Event) → is_issue e ≡ true → issued n e ≡ None → ⊥
issue_found n (Ar p i addr snoop dom bar lock) is none = cc
issue_found n (Aw p i addr snoop dom bar) is none = cc
issue_found n e is none = cc

-- the line of what is acknowledged
pub line_acknowledged : (h : Header) (past : Trace) (c : Channel) (p : ℕ) (st : LineState)
    → line_of (option_map (progress_of h past) (if is_ace h p then acknowledged past p c else None)) ≡ line_in h past (acknowledge c p st)
line_acknowledged h past Read p st = refl
line_acknowledged h past Write p st = refl

-- an accepted G is one of an outstanding transaction
pub grant-found : (h : Header) (past : Trace) (p : ℕ) (c : Channel) (i : ℕ) → IsAccepted h (G p c i ∷ past)
    → option_map (progress_of h past) (outstanding h past p c i) ≡ None → ⊥
grant-found h past p c i accepted none =
    let o = granted_one h past p c i accepted in
    found (progress_of h past) (outstanding h past p c i) o.0 o.1 none

pub where-ok : {T E P : Type 0} → (o : Result T E) → IsOk o → OnOk o P → P
where-ok (Ok x) t p = p
where-ok (Err e) t p = cc
