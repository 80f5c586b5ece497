-- Snoops for one transaction, one after the other: a port that may not be snooped may not be snooped later either.
use Rattle.std.proofs.Common.{◌≡◌, ℕ, ◌+◌, ◌<◌, Bool, true, false, not, ◌&&◌, ◌||◌, ◌==◌, nat_lt, List, [], ◌∷◌, ◌++◌, length, length-append, Option, Some, None, is_some, slice_get, refl, sym, ap, subst, ◌∙◌, inl, inr, arith}
use Rattle.std.specs.List.{list_any}
use Rattle.std.proofs.lemmas.Bool.{and_from, and_parts, cases_Bool, cases_eq, eq-eqb, false_from_ne_true, ltb-true, ne_eqb, not-true, or_left, or_right}
use Rattle.std.proofs.lemmas.List.{append-nil}
use Rattle.ace_codes.specs.declared.kind.SnoopKind.{SnoopKind}
use Rattle.ace_codes.specs.Snoops.{ac_code, ac_kind_of}
use Rattle.ace_event.specs.declared.event.Event.{Event}
use Rattle.ace_event.specs.declared.event.Event.TheVariants.{Ac}
use Rattle.ace_event.specs.declared.header.Header.{Header}
use Rattle.ace_model.specs.declared.transactions.Transaction.{Transaction}
use Rattle.ace_model.specs.Accepted.{IsAccepted}
use Rattle.ace_model.specs.Grants.{granted, is_granted, ports_below, was_snooped}
use Rattle.ace_model.specs.Kinds.{is_line_snoop, is_message_snoop}
use Rattle.ace_model.specs.Messages.{first_waiting, forwarded, is_second_part, next_part, parts_among, parts_for}
use Rattle.ace_model.specs.OrderRules.{completes_next, forwards_next}
use Rattle.ace_model.specs.Plans.{Plan}
use Rattle.ace_model.specs.SnoopRules.{may_snoop, may_snoop_for}
use Rattle.ace_model.specs.Snoops.{snoops_a_line}
use Rattle.ace_model.specs.States.{owes_wack}
use Rattle.ace_model.specs.Trace.{Trace, implies, is_none_or, is_some_and}
use Rattle.ace_model.specs.Transactions.{is_ace, snoop_of}
use Rattle.ace_model.proofs.Dvm.Parts.{IsBelow, parts-placed}
use Rattle.ace_model.proofs.General.Lists.{slice_get-all}
use Rattle.ace_model.proofs.General.Options.{is_none_or-at}
use Rattle.ace_model.proofs.Rules.Keeps.{Keeps, accepted_keeps}
use Rattle.ace_model.proofs.Tables.ReadSnoops.{kind_of_code}
use Rattle.ace_model.proofs.Trace.Growth.{at_point-before}
use Rattle.ace_runs.specs.Bursts.{are_kept, is_kept, onto}
use Rattle.ace_runs.specs.LineSteps.{snoop_for}
use Rattle.ace_runs.proofs.Accepting.{kept-breaks-none}
use Rattle.ace_runs.proofs.NeverStuck.Data.WholeAnswers.{line-not-complete}
use Rattle.ace_runs.proofs.NeverStuck.Forwarding.Steps.{caused-line, line-no-message}
use Rattle.ace_runs.proofs.NeverStuck.Steps.Lists.{all-append}
use Rattle.ace_runs.proofs.NeverStuck.Steps.SameEvents.{event-self}
use Rattle.ace_runs.proofs.NeverStuck.Transactions.SnoopsKept.{ac-kept}
use Rattle.ace_model.proofs.General.Ports.{none_at}
use Rattle.ace_engine.proofs.Heard.{onto-append}
use Rattle.ace_home.specs.declared.home.Home.{Home}
use Rattle.ace_home.specs.Home.{HomeStands}
use Rattle.ace_home.specs.Among.{PortSets, has_snoop_among, is_snoop_among}
use Rattle.ace_home.specs.Turns.{AreSnoops}
use Rattle.ace_home.proofs.FirstEvents.{none-below}

-- ---- one snoop ---------------------------------------------------------------------------------------

module _ (h : Header) (past : Trace) (a : IsAccepted h past) (q addr code : ℕ) (kept : is_kept h past (Ac q addr code) ≡ true) where
  kept-keeps : Keeps h past (Ac q addr code)
  kept-keeps = accepted_keeps h past (Ac q addr code) (a, kept-breaks-none h past (Ac q addr code) kept)

  kept-ace : is_ace h q ≡ true
  kept-ace = (and_parts (nat_lt q h.ports) (is_ace h q) kept-keeps.rule_1).1

  kept-may : snoops_a_line code ≡ true → may_snoop h past q addr code ≡ true
  kept-may snoops = ap (λ b. implies b (may_snoop h past q addr code)) (sym snoops) ∙ kept-keeps.rule_13

-- the code of a snoop that a transaction causes
pub line-code : (x : Transaction) (k : SnoopKind) → snoop_of x ≡ Some k → snoops_a_line (ac_code k) ≡ true
line-code x k caused = ap (λ o. is_some_and o is_line_snoop) (kind_of_code k) ∙ caused-line x k caused

-- no port without a cache may be snooped
pub lite-not-kept : (h : Header) (past : Trace) (x : Transaction) (k : SnoopKind) (q : ℕ) → IsAccepted h past → is_ace h q ≡ false → is_kept h past (snoop_for x k q) ≡ false
lite-not-kept h past x k q a lite =
    false_from_ne_true (is_kept h past (snoop_for x k q)) (λ kept. let ace = kept-ace h past a q x.addr (ac_code k) kept in cc)

-- ---- a second snoop ----------------------------------------------------------------------------------

-- the message of which a port awaits a part is the same after the snoop of another port
module _ (past : Trace) (r q addr code : ℕ) (other : (q == r) ≡ false) where
  abbrev later : Trace
  later = Ac r addr code ∷ past

  same-next : next_part later q ≡ next_part past q
  same-next = rw other (ap (λ (ps : List Transaction). slice_get ps (length (parts_among (forwarded past q)))) (append-nil (parts_for past q)))

  same-second : (o : Option Transaction) → next_part past q ≡ o → is_some_and o (is_second_part later) ≡ is_some_and o (is_second_part past)
  same-second None is = refl
  same-second (Some y) is =
      let low : y.place < length past = slice_get-all (IsBelow (length past)) (parts_for past q) (length (parts_among (forwarded past q))) y (parts-placed past q) is in
      ap (λ t. is_some (first_waiting t y.port)) (at_point-before (Ac r addr code) past y.place (omega (arith, low)))

  same-message : is_some_and (next_part later q) (is_second_part later) ≡ is_some_and (next_part past q) (is_second_part past)
  same-message = ap (λ o. is_some_and o (is_second_part later)) same-next ∙ same-second (next_part past q) refl

no-second : (b c d : Bool) → b ≡ false → implies (b || c) (b && d) ≡ true → c ≡ false
no-second true c d f t = cc
no-second false true d f t = cc
no-second false false d f t = refl

first-forwarded : (b c d : Bool) → b ≡ false → c ≡ false → implies (b || c) (b && d) ≡ true
first-forwarded b c d f g = rw (f, g) refl

module _ (h : Header) (past : Trace) (x : Transaction) (k : SnoopKind) (caused : snoop_of x ≡ Some k) (r : ℕ) (a : IsAccepted h (snoop_for x k r ∷ past)) where
  abbrev after : Trace
  after = snoop_for x k r ∷ past

  abbrev snooped : ℕ → Event
  snooped q = snoop_for x k q

  snoops : snoops_a_line (ac_code k) ≡ true
  snoops = line-code x k caused

  -- what may still be snooped could be snooped before
  may-before : (q : ℕ) → (q == r) ≡ false → may_snoop h after q x.addr (ac_code k) ≡ true → may_snoop h past q x.addr (ac_code k) ≡ true
  may-before q other may =
      let two = and_parts (is_some_and (granted h past x.addr) (λ y. may_snoop_for past y q (ac_code k)) && not (was_snooped after q x.addr)) (not (owes_wack h past q x.addr)) may in
      let one = and_parts (is_some_and (granted h past x.addr) (λ y. may_snoop_for past y q (ac_code k))) (not (was_snooped after q x.addr)) two.0 in
      let same : was_snooped after q x.addr ≡ was_snooped past q x.addr = rw other refl in
      and_from _ _ (and_from _ _ one.0 (ap not (sym same) ∙ one.1)) two.1

  pub kept-before : (q : ℕ) → (q == r) ≡ false → is_kept h after (snooped q) ≡ true → is_kept h past (snooped q) ≡ true
  kept-before q other kept =
      let keeps = kept-keeps h after a q x.addr (ac_code k) kept in
      let code = kind_of_code k in
      let of_line = caused-line x k caused in
      let no_message = line-no-message k of_line in
      let no_completion = line-not-complete k of_line in
      let forwards = is_none_or-at (ac_kind_of (ac_code k)) (forwards_next after q x.addr) k keeps.rule_36 code in
      let whole = sym (same-message past r q x.addr (ac_code k) other)
      ∙ no-second (is_message_snoop k) (is_some_and (next_part after q) (is_second_part after)) (is_some_and (next_part after q) (λ y. y.addr == x.addr)) no_message forwards in
      let forwards_now : forwards_next past q x.addr k ≡ true =
      first-forwarded (is_message_snoop k) (is_some_and (next_part past q) (is_second_part past)) (is_some_and (next_part past q) (λ y. y.addr == x.addr)) no_message whole in
      let completes : completes_next h past q x.addr k ≡ true = rw no_completion refl in
      let may = may-before q other (kept-may h after a q x.addr (ac_code k) kept snoops) in
      ac-kept h past q x.addr (ac_code k) keeps.rule_1 keeps.rule_2 keeps.rule_3
      (or_right (not (snoops_a_line (ac_code k))) (may_snoop h past q x.addr (ac_code k)) may)
      (ap (λ o. is_none_or o (forwards_next past q x.addr)) code ∙ forwards_now)
      (ap (λ o. is_none_or o (completes_next h past q x.addr)) code ∙ completes)

  -- no port is snooped twice
  pub not-again : is_kept h after (snooped r) ≡ false
  not-again =
      false_from_ne_true (is_kept h after (snooped r)) (λ kept.
      let may = kept-may h after a r x.addr (ac_code k) kept snoops in
      let two = and_parts (is_some_and (granted h past x.addr) (λ y. may_snoop_for past y r (ac_code k)) && not (was_snooped after r x.addr)) (not (owes_wack h past r x.addr)) may in
      let one = and_parts (is_some_and (granted h past x.addr) (λ y. may_snoop_for past y r (ac_code k))) (not (was_snooped after r x.addr)) two.0 in
      let own : was_snooped after r x.addr ≡ true =
      or_left _ _ (and_from _ _ (and_from _ _ (eq-eqb r r refl) snoops) (eq-eqb x.addr x.addr refl)) in
      let none = not-true (was_snooped after r x.addr) one.1 in cc)

-- ---- the snoops of a burst ---------------------------------------------------------------------------

kept-append : (h : Header) (past : Trace) (burst : List Event) (e : Event) → are_kept h past burst ≡ true → is_kept h (onto burst past) e ≡ true
    → are_kept h past (burst ++ e ∷ []) ≡ true
kept-append h past [] e kept last = and_from _ _ last refl
kept-append h past (d ∷ burst) e kept last =
    let parts = and_parts (is_kept h past d) (are_kept h (d ∷ past) burst) kept in and_from _ _ parts.0 (kept-append h (d ∷ past) burst e parts.1 last)

and-off : (b c : Bool) → c ≡ false → (b && c) ≡ false
and-off true c f = f
and-off false c f = refl

module _ (among : PortSets) (plan : Plan) (past : Trace) (x : Transaction) (k : SnoopKind) where
  abbrev ac : ℕ → Event
  ac q = snoop_for x k q

  pub no-snoops : (s : Home) → HomeStands s plan past → AreSnoops among s plan past x k 0 []
  no-snoops s stands = record { stands = stands; kept = refl; all = refl; few = omega arith; none = λ q low. absurd (omega (arith, low)) }

  -- a port that may not be snooped has none
  pub snoops-as-before : (s : Home) (n : ℕ) (burst : List Event) → AreSnoops among s plan past x k n burst
      → (among x.addr n && is_kept plan.header (onto burst past) (ac n)) ≡ false → AreSnoops among s plan past x k (n + 1) burst
  snoops-as-before s n burst b none = record {
    stands = b.stands;
    kept = b.kept;
    all = b.all;
    few = let few = b.few in omega (arith, few);
    none = λ q low. elim (cases_eq q n) [
      | inr earlier ↦ b.none q (omega (arith, low, earlier))
      | inl here ↦ ap (λ r. among x.addr r && is_kept plan.header (onto burst past) (ac r)) here ∙ none
    ];
  }

  -- an engine that stands for the trace with them may be in the place of another
  pub snoops-looked : (s later : Home) (n : ℕ) (burst : List Event) → AreSnoops among s plan past x k n burst → HomeStands later plan (onto burst past) → AreSnoops among later plan past x k n burst
  snoops-looked s later n burst b stands = record { stands = stands; kept = b.kept; all = b.all; few = b.few; none = b.none }

  pub snoops-with : (s later : Home) (n : ℕ) (burst : List Event) → snoop_of x ≡ Some k → AreSnoops among s plan past x k n burst → among x.addr n ≡ true
      → is_kept plan.header (onto burst past) (ac n) ≡ true → HomeStands later plan (ac n ∷ onto burst past) → AreSnoops among later plan past x k (n + 1) (burst ++ ac n ∷ [])
  snoops-with s later n burst caused b own kept stands =
      let h = plan.header in
      let t = onto burst past in
      let joined : onto (burst ++ ac n ∷ []) past ≡ ac n ∷ t = onto-append burst (ac n ∷ []) past in
      let a : IsAccepted h (ac n ∷ t) = stands.legal.accepted in
      record {
        stands = subst (HomeStands later plan) (sym joined) stands;
        kept = kept-append h past burst (ac n) b.kept kept;
        all = all-append (is_snoop_among among x k) burst (ac n ∷ []) b.all (and_from _ _ (and_from (among x.addr n) _ own (event-self (ac n))) refl);
        few = let few = b.few in let long = length-append burst (ac n ∷ []) in omega (arith, few, long);
        none = λ q low. ap (λ u. among x.addr q && is_kept h u (ac q)) joined ∙ elim (cases_eq q n) [
          | inl here ↦ and-off (among x.addr q) (is_kept h (ac n ∷ t) (ac q)) (ap (λ r. is_kept h (ac n ∷ t) (ac r)) here ∙ not-again h t x k caused n a)
          | inr earlier ↦
              let before = b.none q (omega (arith, low, earlier)) in
              false_from_ne_true (among x.addr q && is_kept h (ac n ∷ t) (ac q)) (λ again.
              let parts = and_parts (among x.addr q) (is_kept h (ac n ∷ t) (ac q)) again in
              let was : (among x.addr q && is_kept h t (ac q)) ≡ true =
              and_from (among x.addr q) _ parts.0 (kept-before h t x k caused n a q (ne_eqb q n earlier) parts.1) in
              let bad : true ≡ false = sym was ∙ before in cc)
        ];
      }

-- after them no port of the set may be snooped
pub no-snoop-left : (among : PortSets) (h : Header) (t : Trace) (x : Transaction) (k : SnoopKind) → snoop_of x ≡ Some k
    → ((q : ℕ) → q < h.ports → (among x.addr q && is_kept h t (snoop_for x k q)) ≡ false) → has_snoop_among among h t x ≡ false
no-snoop-left among h t x k caused none =
    ap (λ v. is_granted h t x && is_some_and v (λ j. list_any (λ q. among x.addr q && is_kept h t (snoop_for x j q)) (ports_below h.ports))) caused
    ∙ ap (λ b. is_granted h t x && b) (none-below h.ports (λ q. among x.addr q && is_kept h t (snoop_for x k q)) none)
    ∙ and-off (is_granted h t x) false refl

-- a port that may be snooped
pub has-snoop-at : (among : PortSets) (h : Header) (past : Trace) (x : Transaction) (k : SnoopKind) (q : ℕ) → IsAccepted h past → is_granted h past x ≡ true → snoop_of x ≡ Some k
    → among x.addr q ≡ true → is_kept h past (snoop_for x k q) ≡ true → has_snoop_among among h past x ≡ true
has-snoop-at among h past x k q a granted caused own kept =
    let keeps = kept-keeps h past a q x.addr (ac_code k) kept in
    let low = (and_parts (nat_lt q h.ports) (is_ace h q) keeps.rule_1).0 in
    and_from _ _ granted
    (ap (λ v. is_some_and v (λ j. list_any (λ r. among x.addr r && is_kept h past (snoop_for x j r)) (ports_below h.ports))) caused
    ∙ some-below h.ports (λ r. among x.addr r && is_kept h past (snoop_for x k r)) q low (and_from (among x.addr q) _ own kept))
  where
    some-below : (n : ℕ) (test : ℕ → Bool) (q : ℕ) → nat_lt q n ≡ true → test q ≡ true → list_any test (ports_below n) ≡ true
    some-below n test q low t = elim (cases_Bool (list_any test (ports_below n))) [
      | inl some ↦ some
      | inr none ↦ let no = none_at n test q none (ltb-true q n low) in cc
    ]
