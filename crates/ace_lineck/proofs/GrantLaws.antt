-- What the rules of a grant say, in the words of what is kept of the line.
use Rattle.std.proofs.Common.{◌≡◌, ◌≤◌, arith, ℕ, zero, suc, true, false, Bool, not, ◌&&◌, ◌||◌, ◌==◌, List, length, Option, Some, None, is_some, is_none, option_map, refl, sym, ap, ◌∙◌, inl, inr}
use Rattle.std.proofs.lemmas.Bool.{cases_Bool, cases_eq, eq-eqb}
use Rattle.std.proofs.lemmas.Option.{slice_get_past}
use Rattle.std.proofs.Math.Bool.{or-true}
use Rattle.ace_lineck.proofs.Terms.{LineStands, passes_dirty, Answer, Transaction, is_short, Header, Trace, Channel, Read, IsAccepted, implies, is_some_and, is_ace, is_read, is_transaction, read_kind, snoop_of, takes_passed_data, outstanding, transfers, granted, is_granted, was_snooped, answer_of, owes_answer, owes_data, passer, list_all, ports_below, has_passed_data, are_passed_data_whole, has_failed, has_memory_write, state_of, is_invalid, is_port_done, are_snoops_done, has_snoop_code, may_snoop_for, may_transfer, takes_passed, progress_of, LineState, LineRecord, Grant, Stage, Unsnooped, Unanswered, Sending, Done, StatesStand, state_at, GrantFits, GrantStands, stage_at, stage_by, stage_of, is_unsnooped, is_sending, is_settled, may_be_snooped, has_passed, is_passed_whole, is_done_at, are_done, is_its, takes_data, may_have_beat}
use Rattle.ace_model.proofs.General.Options.{Some-injective}
use Rattle.ace_model.proofs.Trace.Looks.{is_on-addr}
use Rattle.ace_model.proofs.Trace.Issued.{outstanding-name}
use Rattle.ace_model.proofs.Holders.Law.{accepted_holds}
use Rattle.ace_model.proofs.Grants.Granted.{granted_at}
use Rattle.ace_model.proofs.Grants.Pending.{snoops}
use Rattle.ace_lineck.proofs.GrantFrame.{passed_at}

-- nothing is kept exactly where nothing is granted
pub none-is : (h : Header) (past : Trace) (l : ℕ) (g : Option Grant) → GrantStands h past l g → is_none g ≡ is_none (granted h past l)
none-is h past l None f = sym (ap is_none f)
none-is h past l (Some g) f = sym (ap is_none f.granted)

each_port-agree : (n : ℕ) (test other : ℕ → Bool) → ((r : ℕ) → test r ≡ other r) → list_all test (ports_below n) ≡ list_all other (ports_below n)
each_port-agree zero test other same = refl
each_port-agree (suc n) test other same = let here = same n in let rest = each_port-agree n test other same in rw (here, rest) refl

module _ (h : Header) (past : Trace) (a : IsAccepted h past) (p l : ℕ) where
  -- a port that has answered was snooped
  answered-snooped : (w : Answer) → answer_of past p l ≡ Some w → was_snooped past p l ≡ true
  answered-snooped w is =
      elim (cases_Bool (was_snooped past p l)) [
        | inl t ↦ t
        | inr f ↦ let bad : None ≡ Some w = sym ((snoops h past a).first p l f) ∙ is in cc
      ]

  -- what the stage of a port tells
  pub unsnooped-is : is_unsnooped (stage_of past p l) ≡ not (was_snooped past p l)
  unsnooped-is = by (answer_of past p l) refl (was_snooped past p l) refl
    where
      by : (o : Option Answer) → answer_of past p l ≡ o → (b : Bool) → was_snooped past p l ≡ b → is_unsnooped (stage_by past p b o) ≡ not b
      by None is true s = refl
      by None is false s = refl
      by (Some w) is true s =
          elim (cases_Bool (is_short past p w)) [ inl t ↦ rw t refl | inr f ↦ rw f refl ]
      by (Some w) is false s = let yes = answered-snooped w is in cc

  pub sending-is : is_sending (stage_of past p l) ≡ owes_data past p l
  sending-is = by (answer_of past p l) (was_snooped past p l)
    where
      by : (o : Option Answer) (b : Bool) → is_sending (stage_by past p b o) ≡ is_some_and o (is_short past p)
      by None true = refl
      by None false = refl
      by (Some w) b = elim (cases_Bool (is_short past p w)) [ inl t ↦ rw t refl | inr f ↦ rw f refl ]

  pub settled-is : (spared : Bool) → is_settled (stage_of past p l) spared ≡ (not (owes_answer past p l) && not (owes_data past p l) && (spared || was_snooped past p l))
  settled-is spared = by (answer_of past p l) refl (was_snooped past p l) refl
    where
      plain : (b : Bool) → b ≡ (b || false)
      plain true = refl
      plain false = refl

      certain : (b : Bool) → true ≡ (b || true)
      certain true = refl
      certain false = refl

      by : (o : Option Answer) → answer_of past p l ≡ o → (b : Bool) → was_snooped past p l ≡ b
          → is_settled (stage_by past p b o) spared ≡ (not (b && is_none o) && not (is_some_and o (is_short past p)) && (spared || b))
      by None is true s = refl
      by None is false s = plain spared
      by (Some w) is true s =
          elim (cases_Bool (is_short past p w)) [ inl t ↦ rw t refl | inr f ↦ rw f (certain spared) ]
      by (Some w) is false s = let yes = answered-snooped w is in cc

module _ (h : Header) (past : Trace) (a : IsAccepted h past) (l : ℕ) (g : Grant) (f : GrantFits h past l g) where
  -- the line of the granted transaction
  pub addr-of : g.transaction.addr ≡ l
  addr-of = is_on-addr g.transaction l ((accepted_holds h past a).grants l g.transaction f.granted).1

  pub granted-is : is_granted h past g.transaction ≡ true
  granted-is = ap (λ o. is_transaction o g.transaction) (ap (granted h past) addr-of ∙ f.granted) ∙ eq-eqb g.transaction.place g.transaction.place refl

  -- an outstanding transaction of the same place is the granted one
  pub its-is : (p : ℕ) (c : Channel) (i : ℕ) (y : Transaction) → outstanding h past p c i ≡ Some y → y.addr ≡ l → is_its g y ≡ true → g.transaction ≡ y
  its-is p c i y o addr same =
      let there : granted h past y.addr ≡ Some g.transaction = ap (granted h past) addr ∙ f.granted in
      let is : is_granted h past y ≡ true = rw there same in
      Some-injective g.transaction y (sym there ∙ granted_at h past a p c i y o is)

  pub its-granted : (y : Transaction) → y.addr ≡ l → is_granted h past y ≡ is_its g y
  its-granted y addr = ap (λ o. is_transaction o y) (ap (granted h past) addr ∙ f.granted)

  -- its passed data
  pub passed-law : has_passed g ≡ has_passed_data h past g.transaction
  passed-law =
      let some : is_some g.passed ≡ is_some (passer h past l) = ap is_some f.passed ∙ by (passer h past l) in
      ap (λ b. b && not g.written) some ∙ ap (λ b. is_some (passer h past l) && not b) f.written
      ∙ sym (ap (λ b. (b && is_some (passer h past g.transaction.addr)) && not (has_memory_write past g.transaction.port g.transaction.chan g.transaction.id)) granted-is
      ∙ ap (λ v. is_some (passer h past v) && not (has_memory_write past g.transaction.port g.transaction.chan g.transaction.id)) addr-of)
    where
      by : (o : Option ℕ) → is_some (option_map (passed_at past l) o) ≡ is_some o
      by None = refl
      by (Some p) = refl

  pub whole-law : is_passed_whole g ≡ are_passed_data_whole h past g.transaction
  whole-law =
      ap (λ o. is_some_and o (λ p. not (is_sending (stage_at g.stages p.port)))) f.passed ∙ by (passer h past l)
      ∙ ap (λ v. is_some_and (passer h past v) (λ p. not (owes_data past p v))) (sym addr-of)
    where
      by : (o : Option ℕ) → is_some_and (option_map (passed_at past l) o) (λ p. not (is_sending (stage_at g.stages p.port))) ≡ is_some_and o (λ p. not (owes_data past p l))
      by None = refl
      by (Some p) = ap (λ s. not (is_sending s)) (f.stages p) ∙ ap not (sending-is h past a p l)

  -- its snoops
  pub done-law : (failed : Bool) (xs : List LineState) → failed ≡ has_failed past g.transaction → StatesStand h past l xs → are_done h failed g xs ≡ are_snoops_done h past g.transaction
  done-law failed xs is held =
      ap (λ b. (is_none (snoop_of g.transaction) || b) || list_all (is_done_at h g xs) (ports_below h.ports)) is
      ∙ ap (λ b. (is_none (snoop_of g.transaction) || has_failed past g.transaction) || b) (each_port-agree h.ports (is_done_at h g xs) (is_port_done h past g.transaction) port)
    where
      port : (q : ℕ) → is_done_at h g xs q ≡ is_port_done h past g.transaction q
      port q =
          ap (λ s. is_settled s (((q == g.transaction.port) || not (is_ace h q)) || is_invalid (state_at xs q))) (f.stages q)
          ∙ settled-is h past a q l (((q == g.transaction.port) || not (is_ace h q)) || is_invalid (state_at xs q))
          ∙ ap (λ st. not (owes_answer past q l) && not (owes_data past q l) && ((((q == g.transaction.port) || not (is_ace h q)) || is_invalid st) || was_snooped past q l)) (held.state q)
          ∙ ap (λ v. not (owes_answer past q v) && not (owes_data past q v) && ((((q == g.transaction.port) || not (is_ace h q)) || is_invalid (state_of h past q v)) || was_snooped past q v)) (sym addr-of)

-- Ports that are all let through count for nothing.
pub all-below : (test : ℕ → Bool) (k : ℕ) → ((q : ℕ) → k ≤ q → test q ≡ true) → (n : ℕ) → k ≤ n → list_all test (ports_below k) ≡ list_all test (ports_below n)
all-below test k through zero low = let none : k ≡ zero = omega arith in ap (λ v. list_all test (ports_below v)) none
all-below test k through (suc n) low =
    elim (cases_eq k (suc n)) [
      | inl same ↦ ap (λ v. list_all test (ports_below v)) same
      | inr other ↦
          let less : k ≤ n = omega arith in
          let one = through n less in
          rw one (all-below test k through n less)
    ]

-- a port that has no place in what is kept is done
pub done-beyond : (h : Header) (g : Grant) (xs : List LineState) (q : ℕ) → length g.stages ≤ q → length xs ≤ q → is_done_at h g xs q ≡ true
done-beyond h g xs q stages states =
    let unsnooped = slice_get_past g.stages q stages in
    let invalid = slice_get_past xs q states in
    rw (unsnooped, invalid) (or-true ((q == g.transaction.port) || not (is_ace h q)))

-- where each port is quiet, each is done
pub quiet_done : (h : Header) (g : Grant) (xs : List LineState) (n : ℕ) → ((q : ℕ) → is_settled (stage_at g.stages q) (is_invalid (state_at xs q)) ≡ true)
    → true ≡ list_all (is_done_at h g xs) (ports_below n)
quiet_done h g xs n quiet = all-below (is_done_at h g xs) 0 (λ q low. spared (stage_at g.stages q) _ _ (quiet q)) n (omega arith)
  where
    spared : (stage : Stage) (a b : Bool) → is_settled stage b ≡ true → is_settled stage (a || b) ≡ true
    spared Unsnooped a b is = rw is (or-true a)
    spared Done a b is = refl
    spared Unanswered a b is = is
    spared Sending a b is = is

-- K13: whether the port may be snooped under the grant
pub snooped-law : (h : Header) (past : Trace) → IsAccepted h past → (addr p snoop : ℕ) (failed : Bool) (g : Option Grant)
    → ((y : Transaction) → granted h past addr ≡ Some y → failed ≡ has_failed past y) → GrantStands h past addr g
    → may_be_snooped failed g p snoop ≡ (is_some_and (granted h past addr) (λ y. may_snoop_for past y p snoop) && not (was_snooped past p addr))
snooped-law h past a addr p snoop failed None fails f = sym (ap (λ o. is_some_and o (λ y. may_snoop_for past y p snoop) && not (was_snooped past p addr)) f)
snooped-law h past a addr p snoop failed (Some g) fails f =
    let y = g.transaction in
    let failed_is : failed ≡ has_failed past y = fails y f.granted in
    ap (λ b. (((not (y.port == p) && has_snoop_code y snoop) && not b) && not g.begun) && is_unsnooped (stage_at g.stages p)) failed_is
    ∙ ap (λ b. (((not (y.port == p) && has_snoop_code y snoop) && not (has_failed past y)) && not b) && is_unsnooped (stage_at g.stages p)) f.begun
    ∙ ap (λ b. may_snoop_for past y p snoop && b) (ap is_unsnooped (f.stages p) ∙ unsnooped-is h past a p addr)
    ∙ sym (ap (λ o. is_some_and o (λ v. may_snoop_for past v p snoop) && not (was_snooped past p addr)) f.granted)

module _ (h : Header) (past : Trace) (a : IsAccepted h past) (p i : ℕ) (y : Transaction) (o : outstanding h past p Read i ≡ Some y) where
  -- how many transfers the read has had
  pub read-count : (progress_of h past y).transfers ≡ transfers past y.port y.id
  read-count = let reads = ap is_read (outstanding-name h past p Read i y o).chan in rw reads refl

  -- K18 of a line: whether it may have the transfer
  pub may-law : (x : LineRecord) (resp : ℕ) (failed : Bool) → failed ≡ has_failed past y → LineStands h past y.addr x
      → may_have_beat h failed x.grant x.states (progress_of h past y) resp ≡ may_transfer h past y resp
  may-law x resp failed fails s = by x.grant s.grant
    where
      by : (g : Option Grant) → GrantStands h past y.addr g → may_have_beat h failed g x.states (progress_of h past y) resp ≡ may_transfer h past y resp
      by None f = let none : is_granted h past y ≡ false = ap (λ v. is_transaction v y) f in rw none refl
      by (Some g) f =
          elim (cases_Bool (is_its g y)) [
            | inr n ↦ let none : is_granted h past y ≡ false = its-granted h past a y.addr g f y refl ∙ n in rw (n, none) refl
            | inl own ↦
                let one = its-is h past a y.addr g f p Read i y o refl own in
                let yes : is_granted h past y ≡ true = its-granted h past a y.addr g f y refl ∙ own in
                let done : are_done h failed g x.states ≡ are_snoops_done h past y =
                done-law h past a y.addr g f failed x.states (fails ∙ ap (has_failed past) (sym one)) s.states ∙ ap (are_snoops_done h past) one in
                let passed : has_passed g ≡ has_passed_data h past y = passed-law h past a y.addr g f ∙ ap (has_passed_data h past) one in
                let whole : is_passed_whole g ≡ are_passed_data_whole h past y = whole-law h past a y.addr g f ∙ ap (are_passed_data_whole h past) one in
                let first : implies ((progress_of h past y).transfers == 0) (are_done h failed g x.states) ≡ implies (transfers past y.port y.id == 0) (are_snoops_done h past y) =
                ap (λ n. implies (n == 0) (are_done h failed g x.states)) read-count ∙ ap (implies (transfers past y.port y.id == 0)) done in
                let takes : implies (has_passed g) (takes_data g y resp) ≡ implies (has_passed_data h past y) (takes_passed h past y resp) =
                ap (λ b. implies b (takes_data g y resp)) passed
                ∙ ap (λ b. implies (has_passed_data h past y) ((is_some_and (read_kind y) takes_passed_data && b) && passes_dirty resp)) whole in
                ap (λ b. (b && implies ((progress_of h past y).transfers == 0) (are_done h failed g x.states)) && implies (has_passed g) (takes_data g y resp)) (own ∙ sym yes)
                ∙ ap (λ b. (is_granted h past y && b) && implies (has_passed g) (takes_data g y resp)) first
                ∙ ap (λ b. (is_granted h past y && implies (transfers past y.port y.id == 0) (are_snoops_done h past y)) && b) takes
          ]

pub flip-none : {A : Type 0} → (o : Option A) (b : Bool) → is_some o ≡ not b → b ≡ is_none o
flip-none None true e = refl
flip-none None false e = cc
flip-none (Some x) true e = cc
flip-none (Some x) false e = refl
