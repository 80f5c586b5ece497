-- What a port asks for breaks no rule, where no transaction of the port on the line is outstanding, and the kind is one for the port, its state and
-- the line.
use Rattle.std.proofs.Common.{◌≡◌, ℕ, Bool, true, false, not, ◌&&◌, ◌||◌, ◌==◌, nat_lt, if◌then◌else◌, Option, Some, None, is_none, refl, sym, ap, ◌∙◌}
use Rattle.std.proofs.lemmas.Bool.{and_parts, and_from, false_from_ne_true}
use Rattle.ace_codes.specs.declared.kind.ArKind.{ArKind}
use Rattle.ace_codes.specs.declared.kind.ArKind.TheVariants as read
use Rattle.ace_codes.specs.declared.kind.AwKind.{AwKind}
use Rattle.ace_codes.specs.declared.kind.AwKind.TheVariants as write
use Rattle.ace_codes.specs.declared.state.LineState.TheVariants.{I}
use Rattle.ace_codes.specs.Reads.{ar_code, ar_kind_of}
use Rattle.ace_codes.specs.Writes.{aw_code, aw_kind_of}
use Rattle.ace_event.specs.declared.event.Channel.TheVariants.{Read, Write}
use Rattle.ace_event.specs.declared.event.Event.TheVariants.{Ar, Aw, S}
use Rattle.ace_event.specs.declared.header.Header.{Header}
use Rattle.ace_tables.specs.Answers.{same_test}
use Rattle.ace_tables.specs.SilentTransitions.{is_silent_move}
use Rattle.ace_tables.specs.StartStates.{starts_read, starts_write}
use Rattle.ace_model.specs.AddressRules.{is_aligned, is_no_snoop, k1, k2, k3, k4, k5, k6, k7, k8, k9, k10, keeps_apart, may_issue_read, may_issue_write}
use Rattle.ace_model.specs.CacheRules.{k29}
use Rattle.ace_model.specs.Kinds.{is_dvm_complete, is_dvm_message, is_line_read, is_line_write, is_no_snoop_read, is_no_snoop_write, is_read_barrier, is_write_barrier, may_be_exclusive}
use Rattle.ace_model.specs.OrderRules.{k38}
use Rattle.ace_model.specs.Progress.{each_issued, has_update, is_update_on, updates_memory}
use Rattle.ace_model.specs.States.{state_of}
use Rattle.ace_model.specs.Trace.{Trace, implies, is_none_or, is_some_and}
use Rattle.ace_model.specs.Transactions.{has_outstanding_on, is_ace, is_on, is_outstanding, is_outstanding_on}
use Rattle.ace_model.proofs.Trace.Growth.{some_issued-found, some_issued-is}
use Rattle.ace_runs.specs.Bursts.{is_kept}
use Rattle.ace_runs.specs.Requests.{domain_for, is_free}
use Rattle.ace_runs.proofs.Accepting.{three-kept}

-- ---- booleans ----------------------------------------------------------------------------------------

pub implies-right : (a b : Bool) → b ≡ true → implies a b ≡ true
implies-right true b t = t
implies-right false b t = refl

pub implies-none : (a b : Bool) → a ≡ false → implies a b ≡ true
implies-none true b f = cc
implies-none false b f = refl

eleven-kept : (a b c d e f g i j k l : Bool) → a ≡ true → b ≡ true → c ≡ true → d ≡ true → e ≡ true → f ≡ true → g ≡ true → i ≡ true → j ≡ true → k ≡ true → l ≡ true
    → is_none {T = ℕ} (if a then (if b then (if c then (if d then (if e then (if f then (if g then (if i then (if j then (if k then (if l then None else Some 38) else Some 10) else Some 9) else Some 8) else Some 7) else Some 6) else Some 5) else Some 4) else Some 3) else Some 2) else Some 1) ≡ true
eleven-kept a b c d e f g i j k l one two three four five six seven eight nine ten last = rw (one, two, three, four, five, six, seven, eight, nine, ten, last) refl

-- ---- kinds -------------------------------------------------------------------------------------------

pub read-known : (k : ArKind) → is_read_barrier k ≡ false → ar_kind_of (ar_code k) (domain_for (is_no_snoop_read k)) 0 ≡ Some k
unfolding ar_kind_of
read-known read.Barrier b = cc
read-known k b = refl

pub write-known : (k : AwKind) → is_write_barrier k ≡ false → aw_kind_of (aw_code k) (domain_for (is_no_snoop_write k)) 0 ≡ Some k
unfolding aw_kind_of
write-known write.Barrier b = cc
write-known k b = refl

-- a read of a line is no barrier and none of DVM
record IsLineKind (k : ArKind) : Type 0 where
  barrier : is_read_barrier k ≡ false
  message : is_dvm_message k ≡ false
  completion : is_dvm_complete k ≡ false

line-kind : (k : ArKind) → is_line_read k ≡ true → IsLineKind k
line-kind read.Barrier l = cc
line-kind read.DvmComplete l = cc
line-kind read.DvmMessage l = cc
line-kind k l = record { barrier = refl; message = refl; completion = refl }

line-write : (k : AwKind) → is_line_write k ≡ true → is_write_barrier k ≡ false
line-write write.Barrier l = cc
line-write k l = refl

-- ---- what fits ---------------------------------------------------------------------------------------

-- each transaction of the line is NoSnoop, or none is
abbrev pub IsOfClass : Trace → ℕ → Bool → Type 0
IsOfClass past a c = each_issued past (λ y. implies (is_on y a) (same_test c (is_no_snoop y))) ≡ true

-- The port may issue the read of the line.
pub record ReadFits (h : Header) (past : Trace) (p : ℕ) (k : ArKind) (a : ℕ) (lock : Bool) : Type 0 where
  pub quiet : has_outstanding_on h past p a ≡ false
  pub line : is_line_read k ≡ true
  pub may : may_issue_read h p k ≡ true
  pub aligned : is_aligned a ≡ true
  pub starts : starts_read k (state_of h past p a) ≡ true
  pub locked : implies lock (is_ace h p && may_be_exclusive k) ≡ true
  pub alike : IsOfClass past a (is_no_snoop_read k)

-- The port may issue the write of the line.
pub record WriteFits (h : Header) (past : Trace) (p : ℕ) (k : AwKind) (a : ℕ) : Type 0 where
  pub quiet : has_outstanding_on h past p a ≡ false
  pub line : is_line_write k ≡ true
  pub may : may_issue_write h p k ≡ true
  pub aligned : is_aligned a ≡ true
  pub starts : starts_write k (state_of h past p a) ≡ true
  pub alike : IsOfClass past a (is_no_snoop_write k)

-- The port may give up the clean line.
pub record DropFits (h : Header) (past : Trace) (p : ℕ) (a : ℕ) : Type 0 where
  pub quiet : has_outstanding_on h past p a ≡ false
  pub ace : is_ace h p ≡ true
  pub aligned : is_aligned a ≡ true
  pub moves : is_silent_move (state_of h past p a) I ≡ true

pub or-none : (b : Bool) → (b || false) ≡ b
or-none true = refl
or-none false = refl

-- An AR keeps all rules where it keeps those that look at it: K7 where it isn't exclusive, and K10 looks at writes alone.
pub ar-kept : (h : Header) (past : Trace) (p i a s d b : ℕ) (lock : Bool) → nat_lt p h.ports ≡ true → k2 h past (Ar p i a s d b lock) ≡ true → k3 h past (Ar p i a s d b lock) ≡ true
    → is_free h past p Read i ≡ true → k5 h past (Ar p i a s d b lock) ≡ true → k6 h past (Ar p i a s d b lock) ≡ true → k7 h past (Ar p i a s d b lock) ≡ true
    → k8 h past (Ar p i a s d b lock) ≡ true → k9 h past (Ar p i a s d b lock) ≡ true → k38 h past (Ar p i a s d b lock) ≡ true → is_kept h past (Ar p i a s d b lock) ≡ true
unfolding is_kept
ar-kept h past p i a s d b lock low two three free five six seven eight nine last =
    let e = Ar p i a s d b lock in
    let one : k1 h past e ≡ true = and_from _ _ low refl in
    eleven-kept (k1 h past e) (k2 h past e) (k3 h past e) (k4 h past e) (k5 h past e) (k6 h past e) (k7 h past e) (k8 h past e) (k9 h past e) (k10 h past e) (k38 h past e)
    one two three free five six seven eight nine refl last

-- An AW does so too; no AW is exclusive or a DVM Complete.
pub aw-kept : (h : Header) (past : Trace) (p i a s d b : ℕ) → nat_lt p h.ports ≡ true → k2 h past (Aw p i a s d b) ≡ true → k3 h past (Aw p i a s d b) ≡ true
    → is_free h past p Write i ≡ true → k5 h past (Aw p i a s d b) ≡ true → k6 h past (Aw p i a s d b) ≡ true → k8 h past (Aw p i a s d b) ≡ true
    → k9 h past (Aw p i a s d b) ≡ true → k10 h past (Aw p i a s d b) ≡ true → is_kept h past (Aw p i a s d b) ≡ true
unfolding is_kept
aw-kept h past p i a s d b low two three free five six eight nine ten =
    let e = Aw p i a s d b in
    let one : k1 h past e ≡ true = and_from _ _ low refl in
    eleven-kept (k1 h past e) (k2 h past e) (k3 h past e) (k4 h past e) (k5 h past e) (k6 h past e) (k7 h past e) (k8 h past e) (k9 h past e) (k10 h past e) (k38 h past e)
    one two three free five six refl eight nine ten refl

-- no memory update is outstanding on such a line
no-update : (h : Header) (past : Trace) (p l : ℕ) → has_outstanding_on h past p l ≡ false → has_update h past p l ≡ false
no-update h past p l quiet =
    false_from_ne_true (has_update h past p l) (λ some.
    let x = some_issued-is past (is_update_on h past p l) some in
    let p1 = and_parts ((x.0.port == p) && updates_memory x.0 && is_on x.0 l) (is_outstanding h past x.0) x.2 in
    let p2 = and_parts ((x.0.port == p) && updates_memory x.0) (is_on x.0 l) p1.0 in
    let port = (and_parts (x.0.port == p) (updates_memory x.0) p2.0).0 in
    let there = some_issued-found past (is_outstanding_on h past p l) x.0.place x.0 x.1.there (and_from _ _ (and_from _ _ port p2.1) p1.1) in
    let bad : false ≡ true = sym quiet ∙ there in cc)

module _ (h : Header) (past : Trace) (p : ℕ) (low : nat_lt p h.ports ≡ true) where
  -- a read of a line
  pub read-kept : (k : ArKind) (i a : ℕ) (lock : Bool) → ReadFits h past p k a lock → is_free h past p Read i ≡ true
      → is_kept h past (Ar p i a (ar_code k) (domain_for (is_no_snoop_read k)) 0 lock) ≡ true
  read-kept k i a lock f free =
      let e = Ar p i a (ar_code k) (domain_for (is_no_snoop_read k)) 0 lock in
      let of = line-kind k f.line in
      let kind = read-known k of.barrier in
      let st = state_of h past p a in
      let half = λ (o : Option ArKind). is_some_and o is_read_barrier || false in
      let two : k2 h past e ≡ true = ap (λ o. is_some_and o (may_issue_read h p)) kind ∙ f.may in
      let three : k3 h past e ≡ true =
      ap (λ o. is_none_or (if is_some_and o is_line_read then Some a else None) is_aligned && true) kind
      ∙ ap (λ b. is_none_or (if b then Some a else None) is_aligned && true) f.line ∙ and_from _ _ f.aligned refl in
      let five : k5 h past e ≡ true = implies-right _ (not (has_outstanding_on h past p a)) (ap not f.quiet) in
      let six : k6 h past e ≡ true =
      implies-right _ (is_none_or (ar_kind_of (ar_code k) (domain_for (is_no_snoop_read k)) 0) (λ k. starts_read k st) && true)
      (and_from _ _ (ap (λ o. is_none_or o (λ k. starts_read k st)) kind ∙ f.starts) refl) in
      let seven : k7 h past e ≡ true = ap (λ o. implies lock (is_ace h p && is_some_and o may_be_exclusive)) kind ∙ f.locked in
      let eight : k8 h past e ≡ true =
      implies-right _ (each_issued past (λ y. implies (is_on y a) (same_test (is_some_and (ar_kind_of (ar_code k) (domain_for (is_no_snoop_read k)) 0) is_no_snoop_read || false) (is_no_snoop y))))
      (ap (λ o. each_issued past (λ y. implies (is_on y a) (same_test (is_some_and o is_no_snoop_read || false) (is_no_snoop y)))) kind
      ∙ ap (λ c. each_issued past (λ y. implies (is_on y a) (same_test c (is_no_snoop y)))) (or-none (is_no_snoop_read k)) ∙ f.alike) in
      let nine : k9 h past e ≡ true =
      and_from _ _ (and_from _ _ (implies-none _ _ (ap half kind ∙ or-none (is_read_barrier k) ∙ of.barrier))
      (implies-none _ _ (ap (λ o. is_some_and o is_dvm_message) kind ∙ of.message)))
      (implies-none _ _ (ap (λ o. is_some_and o is_dvm_complete) kind ∙ of.completion)) in
      let last : k38 h past e ≡ true = implies-none _ _ (ap (λ o. is_some_and o is_dvm_complete) kind ∙ of.completion) in
      ar-kept h past p i a (ar_code k) (domain_for (is_no_snoop_read k)) 0 lock low two three free five six seven eight nine last

  -- a write of a line
  pub write-kept : (k : AwKind) (i a : ℕ) → WriteFits h past p k a → keeps_apart h past p k ≡ true → is_free h past p Write i ≡ true
      → is_kept h past (Aw p i a (aw_code k) (domain_for (is_no_snoop_write k)) 0) ≡ true
  write-kept k i a f apart free =
      let e = Aw p i a (aw_code k) (domain_for (is_no_snoop_write k)) 0 in
      let kind = write-known k (line-write k f.line) in
      let st = state_of h past p a in
      let two : k2 h past e ≡ true = ap (λ o. is_some_and o (may_issue_write h p)) kind ∙ f.may in
      let three : k3 h past e ≡ true =
      ap (λ o. is_none_or (if is_some_and o is_line_write then Some a else None) is_aligned && true) kind
      ∙ ap (λ b. is_none_or (if b then Some a else None) is_aligned && true) f.line ∙ and_from _ _ f.aligned refl in
      let five : k5 h past e ≡ true = implies-right _ (not (has_outstanding_on h past p a)) (ap not f.quiet) in
      let six : k6 h past e ≡ true =
      implies-right _ (is_none_or (aw_kind_of (aw_code k) (domain_for (is_no_snoop_write k)) 0) (λ k. starts_write k st))
      (ap (λ o. is_none_or o (λ k. starts_write k st)) kind ∙ f.starts) in
      let eight : k8 h past e ≡ true =
      implies-right _ (each_issued past (λ y. implies (is_on y a) (same_test (is_some_and (aw_kind_of (aw_code k) (domain_for (is_no_snoop_write k)) 0) is_no_snoop_write) (is_no_snoop y))))
      (ap (λ o. each_issued past (λ y. implies (is_on y a) (same_test (is_some_and o is_no_snoop_write) (is_no_snoop y)))) kind ∙ f.alike) in
      let nine : k9 h past e ≡ true = and_from _ _ (and_from _ _ (implies-none _ _ (ap (λ o. is_some_and o is_write_barrier) kind ∙ line-write k f.line)) refl) refl in
      let ten : k10 h past e ≡ true = ap (λ o. is_none_or o (keeps_apart h past p)) kind ∙ apart in
      aw-kept h past p i a (aw_code k) (domain_for (is_no_snoop_write k)) 0 low two three free five six eight nine ten

  -- a clean line given up
  pub drop-kept : (a : ℕ) → DropFits h past p a → is_kept h past (S p a I) ≡ true
  unfolding is_kept
  drop-kept a f =
      let e = S p a I in
      let one : k1 h past e ≡ true = and_from _ _ low f.ace in
      let three : k3 h past e ≡ true = and_from _ _ f.aligned refl in
      let twenty_nine : k29 h past e ≡ true = and_from _ _ f.moves (ap not (no-update h past p a f.quiet)) in
      three-kept (k1 h past e) (k3 h past e) (k29 h past e) 1 3 29 one three twenty_nine
