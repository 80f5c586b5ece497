-- What the answers under a grant say of the states of the ports.
use Rattle.std.proofs.Common.{◌≡◌, ◌≢◌, ℕ, Bool, true, false, not, ◌||◌, ◌∷◌, Some, refl, sym, ap, subst, ◌∙◌, inl, inr}
use Rattle.std.proofs.lemmas.Bool.{false_from_ne_true, and_parts, or_right, cases_Bool, cases_eq}
use Rattle.ace_model.proofs.Terms.{SnoopKind, LineState, I, passes_dirty, transfers_data, is_shared, Event, Cr, Header, is_unique, is_dirty, Answer, Transaction, Trace, snoop_of}
use Rattle.ace_model.proofs.Terms.{has_outstanding_on, granted, answer_of, state_of, IsAccepted}
use Rattle.ace_codes.specs.declared.kind.SnoopKind.TheVariants as snoop
use Rattle.ace_model.proofs.Tables.ReadSnoops.{not_unique_after}
use Rattle.ace_model.proofs.Grants.SnoopAnswers.{since_answer, stays_less, Answering, answering_cr, NewAnswer, no_rise}
use Rattle.ace_model.proofs.Grants.Stays.{Stays}
use Rattle.ace_model.proofs.Tables.States.{is_settled, invalidates, shares_line, row_is}
use Rattle.ace_model.proofs.Holders.Facts.{OneHolder}
use Rattle.ace_model.proofs.Holders.Snoop.{less_cr}
use Rattle.ace_model.proofs.Rules.Keeps.{accepted_keeps}
use Rattle.ace_model.proofs.Holders.Rises.{dirty_moves}
use Rattle.ace_model.proofs.Tables.SnoopRows.{is_make_invalid_snoop, dirty_sends, sends_held, passes_other}
use Rattle.ace_model.proofs.Holders.Law.{accepted_holds}
use Rattle.ace_model.proofs.General.Options.{Some-injective}
use Rattle.ace_model.proofs.Tables.Less.{less-clean, settled}

-- beside a dirty port no other is unique or dirty
beside_dirty : (h : Header) (past : Trace) → OneHolder h past → (l r z : ℕ) → is_dirty (state_of h past r l) ≡ true → z ≢ r → is_settled (state_of h past z l) ≡ true
beside_dirty h past f l r z d apart = settled (state_of h past z l) unique dirty
  where
    unique : is_unique (state_of h past z l) ≡ false
    unique =
        false_from_ne_true (is_unique (state_of h past z l)) (λ u. let bad : is_dirty I ≡ true = subst (λ v. is_dirty v ≡ true) (f.unique l z r u apart) d in cc)

    dirty : is_dirty (state_of h past z l) ≡ false
    dirty =
        false_from_ne_true (is_dirty (state_of h past z l)) (λ e. absurd (apart (f.one_dirty l z r e d)))

-- the facts of a new answer, at the CR
abbrev pub Answered : Header → Trace → ℕ → ℕ → Answer → Type 0
Answered h past r l w = (st : LineState) × Answering h past r w.resp st l

pub new_answer : (h : Header) (past : Trace) (e : Event) → IsAccepted h (e ∷ past) → (r l : ℕ) (w : Answer) → NewAnswer past e r l w → Answered h past r l w
new_answer h past e a r l w n =
    let resp : n.resp ≡ w.resp = ap (λ (v : Answer). v.resp) (sym n.now) in
    (n.st, subst (λ m. Answering h past r m n.st l) resp (answering_cr h past r n.resp n.st (subst (λ d. IsAccepted h (d ∷ past)) n.is a) l n.line))

-- its snoop is the one that the granted transaction causes
pub new_causes : (h : Header) (past : Trace) (r l : ℕ) (w : Answer) (x : Transaction) → (n : Answered h past r l w) → granted h past l ≡ Some x → snoop_of x ≡ Some n.1.kind
new_causes h past r l w x n g = ap snoop_of (Some-injective x n.1.pending.one (sym g ∙ n.1.pending.stands)) ∙ n.1.causes

-- once a port has passed on a dirty line under the grant, no other port holds it dirty or may store
pub others_settled : (h : Header) (past : Trace) → IsAccepted h past → (l r z : ℕ) (x : Transaction) (w : Answer) → granted h past l ≡ Some x
    → answer_of past r l ≡ Some w → passes_dirty w.resp ≡ true → z ≢ r → is_settled (state_of h past z l) ≡ true
others_settled h past a l r z x w g is d apart =
    since_answer h l r x w (λ t. is_settled (state_of h t z l) ≡ true)
    (λ past e a stays new is.
    let n = new_answer h past e a r l w new in
    let row = row_is n.1.kind (state_of h past r l) w.resp n.0 n.1.row in
    (stays_less h past e a l z x stays).settled (beside_dirty h past (accepted_holds h past a.0) l r z (row.passes d).0 apart))
    (λ past e a stays was before. (stays_less h past e a l z x stays).settled before) past a g is

-- a snoop after which no port holds the line in a unique state
abbrev pub is_levelling : SnoopKind → Bool
is_levelling k = invalidates k || shares_line k

-- once a port has sent data to such a snoop under the grant, no port holds the line in a unique state
pub none_unique : (h : Header) (past : Trace) → IsAccepted h past → (l r z : ℕ) (x : Transaction) (w : Answer) (k : SnoopKind) → granted h past l ≡ Some x
    → answer_of past r l ≡ Some w → transfers_data w.resp ≡ true → snoop_of x ≡ Some k → is_levelling k ≡ true → is_unique (state_of h past z l) ≡ false
none_unique h past a l r z x w k g is d c lev =
    elim (cases_eq r z) [
      | inl same ↦ subst (λ v. is_unique (state_of h past v l) ≡ false) same (not_unique_after k _ _ lev ((accepted_holds h past a).answers l r x w k g is c))
      | inr apart ↦
          since_answer h l r x w (λ t. is_unique (state_of h t z l) ≡ false)
          (λ past e a stays new is.
          let n = new_answer h past e a r l w new in
          (stays_less h past e a l z x stays).not_unique (false_from_ne_true (is_unique (state_of h past z l)) (λ u.
          let gone = (accepted_holds h past a.0).unique l z r u (λ same. apart (sym same)) in
          absurd (sends_held n.1.kind w.resp n.0 (rw gone at n.1.row) d))))
          (λ past e a stays was before. (stays_less h past e a l z x stays).not_unique before) past a g is
    ]

-- a port that has answered such a snoop without data doesn't hold the line dirty
pub unsent_clean : (h : Header) (past : Trace) → IsAccepted h past → (l r : ℕ) (x : Transaction) (w : Answer) (k : SnoopKind) → granted h past l ≡ Some x
    → answer_of past r l ≡ Some w → transfers_data w.resp ≡ false → snoop_of x ≡ Some k → is_levelling k ≡ true → is_dirty (state_of h past r l) ≡ false
unsent_clean h past a l r x w k g is d c lev = since_answer h l r x w (λ t. is_dirty (state_of h t r l) ≡ false) at_answer kept past a g is
  where
    make_gone : (k : SnoopKind) → is_make_invalid_snoop k ≡ true → invalidates k ≡ true
    make_gone snoop.MakeInvalid m = refl
    make_gone k m = cc

    kept : (past : Trace) (e : Event) → IsAccepted h (e ∷ past) → Stays h past e l x → answer_of past r l ≡ Some w → is_dirty (state_of h past r l) ≡ false → is_dirty (state_of h (e ∷ past) r l) ≡ false
    kept past e a stays was before =
        elim (dirty_moves h past e a r l before) [
          | inl fine ↦ fine
          | inr (inr up) ↦ absurd (no_rise h past e l r x stays up)
          | inr (inl may) ↦
              let unique = (and_parts (is_unique (state_of h past r l)) (not (has_outstanding_on h past r l)) may).0 in
              let levelled = not_unique_after k _ _ lev ((accepted_holds h past a.0).answers l r x w k stays.was was c) in
              cc
        ]

    at_answer : (past : Trace) (e : Event) → IsAccepted h (e ∷ past) → Stays h past e l x → NewAnswer past e r l w → answer_of (e ∷ past) r l ≡ Some w → is_dirty (state_of h (e ∷ past) r l) ≡ false
    at_answer past e a stays new now =
        let n = new_answer h past e a r l w new in
        let kind : n.1.kind ≡ k = Some-injective n.1.kind k (sym (new_causes h past r l w x n stays.was) ∙ c) in
        elim (cases_Bool (is_make_invalid_snoop k)) [
          | inl m ↦ ap is_dirty (((accepted_holds h (e ∷ past) a).answers l r x w k stays.is now c).gone (or_right (not (is_shared w.resp)) (invalidates k) (make_gone k m)))
          | inr m ↦
              let row = n.1.row in
              elim (cases_Bool (is_dirty (state_of h past r l))) [
                | inl dirty ↦ let sends = dirty_sends n.1.kind (state_of h past r l) w.resp n.0 n.1.of_line row (ap is_make_invalid_snoop kind ∙ m) dirty in cc
                | inr clean ↦
                    let keeps = (accepted_keeps h past (Cr r new.resp new.st) (subst (λ d. IsAccepted h (d ∷ past)) new.is a)).rule_15 in
                    subst (λ d. is_dirty (state_of h (d ∷ past) r l) ≡ false) (sym new.is) (less-clean _ _ (less_cr h past r new.resp new.st keeps r l) clean)
              ]
        ]

-- a dirty line is passed on to no snoop that makes it invalid
pub passed_kind : (h : Header) (past : Trace) → IsAccepted h past → (l r : ℕ) (x : Transaction) (w : Answer) → granted h past l ≡ Some x
    → answer_of past r l ≡ Some w → passes_dirty w.resp ≡ true → (k : SnoopKind) × (snoop_of x ≡ Some k) × (is_make_invalid_snoop k ≡ false) × (transfers_data w.resp ≡ true)
passed_kind h past a l r x w g is d =
    since_answer h l r x w (λ t. (k : SnoopKind) × (snoop_of x ≡ Some k) × (is_make_invalid_snoop k ≡ false) × (transfers_data w.resp ≡ true))
    (λ past e a stays new is.
    let n = new_answer h past e a r l w new in
    let held = state_of h past r l in
    let dirty = ((row_is n.1.kind held w.resp n.0 n.1.row).passes d).0 in
    let m = passes_other n.1.kind held w.resp n.0 n.1.of_line n.1.row d dirty in
    (n.1.kind, new_causes h past r l w x n stays.was, m, dirty_sends n.1.kind held w.resp n.0 n.1.of_line n.1.row m dirty))
    (λ past e a stays was before. before) past a g is

-- so none is passed on to a transaction that causes it
pub passed_no_make : (h : Header) (past : Trace) → IsAccepted h past → (l r : ℕ) (x : Transaction) (w : Answer) → granted h past l ≡ Some x
    → answer_of past r l ≡ Some w → passes_dirty w.resp ≡ true → snoop_of x ≡ Some snoop.MakeInvalid → ⊥
passed_no_make h past a l r x w g is d causes =
    let k = passed_kind h past a l r x w g is d in
    let kind : k.0 ≡ snoop.MakeInvalid = Some-injective k.0 snoop.MakeInvalid (sym k.1 ∙ causes) in
    let bad : true ≡ false = sym (ap is_make_invalid_snoop kind) ∙ k.2 in cc
