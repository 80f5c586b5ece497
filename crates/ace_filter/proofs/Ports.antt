-- What is kept of a port, event by event.
use Rattle.std.proofs.Common.{◌≡◌, ◌≢◌, ℕ, zero, suc, ◌+◌, ◌≤◌, ◌<◌, Bool, true, false, ◌&&◌, ◌++◌, nat_eq, nat_lt, le_refl, [], ◌∷◌, length, replicate, Option, Some, None, option_map, slice_get, if◌then◌else◌, refl, sym, ap, subst, ◌∙◌, inl, inr, arith, length-append}
use Rattle.std.proofs.lemmas.Bool.{and_parts, cases_Bool, eq-eqb, ne_eqb}
use Rattle.std.proofs.lemmas.List.{length-map, map-append}
use Rattle.std.proofs.lemmas.Option.{slice_get-map, slice_get_within}
use Rattle.ace_model.specs.Transactions.{transaction_under}
use Rattle.ace_filter.proofs.Terms.{Ac, Ar, Aw, B, Channel, Cr, G, Wk, Read, Write, Event, Header, LineState, Snoop, Transaction, Trace, IsAccepted, is_some_and, is_invalid, is_ace, port_of, acknowledged, acknowledgements, answered, answers, answers_line, completed, is_snoop_on, next_complete, read_kind, snoops_a_line, snoops_of, transaction_of, write_kind}
use Rattle.ace_filter.proofs.Terms.{IsChange, PortStands, PortWatch, Change, Drops, Takes, completed_lines, drops_at, drops_line, dropped_line, is_drop_of, is_dropped, is_take_of, is_taken, taken_line, takes_line, line_under, snooped_line, snooped_lines}
use Rattle.ace_filter.proofs.Waiting.{lines-count, waits}
use Rattle.ace_model.proofs.General.Options.{Some-injective, some_is}
use Rattle.ace_model.proofs.Trace.Issued.{transaction_of-name}
use Rattle.ace_model.proofs.Rules.Keeps.{accepted_keeps}

-- under no identifier a line is kept
pub none-under : (n i : ℕ) → line_under (replicate n None) i ≡ None
none-under zero i = refl
none-under (suc n) zero = refl
none-under (suc n) (suc i) = none-under n i

-- the port has no more snoops than there are events
snoops-few : (past : Trace) (p : ℕ) → length (snoops_of past p) ≤ length past
snoops-few [] p = omega arith
snoops-few (e ∷ past) p = by e (snoops-few past p)
  where
    by : (e : Event) → length (snoops_of past p) ≤ length past → length (snoops_of (e ∷ past) p) ≤ length (e ∷ past)
    by (Ac q addr snoop) low =
        elim (cases_Bool (nat_eq p q)) [
          | inr f ↦ rw f (omega (arith, low))
          | inl t ↦
              let a = length-append (snoops_of past p) (record { place = length past; addr = addr; snoop = snoop } ∷ []) in
              rw t (omega (arith, a, low))
        ]
    by e low = omega (arith, low)

module _ (past : Trace) (p : ℕ) where
  pub few-lines : length (snooped_lines past p) ≤ length past
  few-lines = let count = length-map (snoops_of past p) snooped_line in let few = snoops-few past p in omega (arith, count, few)

  -- one more snoop
  pub snooped-more : (addr code : ℕ) → snooped_lines (Ac p addr code ∷ past) p ≡ snooped_lines past p ++ (if snoops_a_line code then Some addr else None) ∷ []
  snooped-more addr code =
      let own = eq-eqb p p (refl {a = p}) in
      rw own (map-append snooped_line (snoops_of past p) (record { place = length past; addr = addr; snoop = code } ∷ []))

  -- one more complete write
  pub completed-more : (i resp : ℕ) → completed_lines (B p i resp ∷ past) p ≡ completed_lines past p ++ dropped_line (transaction_of past p Write i) ∷ []
  completed-more i resp = let own = eq-eqb p p (refl {a = p}) in rw own (refl {a = completed_lines past p ++ dropped_line (transaction_of past p Write i) ∷ []})

  -- one more answer, one more WK
  pub answers-more : (resp : ℕ) (st : LineState) → answers (Cr p resp st ∷ past) p ≡ answers past p + 1
  answers-more resp st = let own = eq-eqb p p (refl {a = p}) in rw own (refl {a = answers past p + 1})

  pub acknowledged-more : (st : LineState) → acknowledgements (Wk p st ∷ past) p Write ≡ acknowledgements past p Write + 1
  acknowledged-more st = let own = eq-eqb p p (refl {a = p}) in rw own (refl {a = acknowledgements past p Write + 1})

-- ---- snoops ------------------------------------------------------------------------------------------

module _ (h : Header) (past : Trace) (p : ℕ) where
  -- a CR answers a snoop of the port
  pub some-snoop : (resp : ℕ) (st : LineState) → IsAccepted h (Cr p resp st ∷ past) → answers past p < length (snooped_lines past p)
  some-snoop resp st a =
      let s = some_is (answered past p) (accepted_keeps h past (Cr p resp st) a).rule_14 in
      let low = slice_get_within (snoops_of past p) (answers past p) s.0 s.1 in
      let count = length-map (snoops_of past p) snooped_line in omega (arith, low, count)

  -- a WK belongs to a complete write of the port
  pub some-write : (st : LineState) → IsAccepted h (Wk p st ∷ past) → acknowledgements past p Write < length (completed_lines past p)
  some-write st a =
      let i = some_is (next_complete past p Write) (accepted_keeps h past (Wk p st) a).rule_27 in
      let low = slice_get_within (completed past p Write) (acknowledgements past p Write) i.0 i.1 in
      let count = lines-count past p in omega (arith, low, count)

-- the line that the answered snoop names
answers-drop : (o : Option Snoop) (line : Option ℕ) (l : ℕ) → option_map snooped_line o ≡ Some line
    → is_some_and o (λ s. is_snoop_on s l) ≡ is_dropped (option_map Drops line) l
answers-drop None line l is = cc
answers-drop (Some s) line l is = by (snoops_a_line s.snoop) refl (Some-injective _ line is)
  where
    by : (b : Bool) → snoops_a_line s.snoop ≡ b → (if snoops_a_line s.snoop then Some s.addr else None) ≡ line
        → is_snoop_on s l ≡ is_dropped (option_map Drops line) l
    by true t is = let there : Some s.addr ≡ line = rw t at is in subst (λ o. is_snoop_on s l ≡ is_dropped (option_map Drops o) l) there (rw t refl)
    by false f is = let there : None ≡ line = rw f at is in subst (λ o. is_snoop_on s l ≡ is_dropped (option_map Drops o) l) there (rw f refl)

-- the line that the acknowledged write gives up
write-drop : (o : Option Transaction) (l : ℕ) → is_some_and o (λ x. is_drop_of x l) ≡ is_dropped (option_map Drops (dropped_line o)) l
write-drop None l = refl
write-drop (Some x) l =
    elim (cases_Bool (is_some_and (write_kind x) drops_line)) [
      | inl t ↦ rw t refl
      | inr f ↦ rw f refl
    ]

-- ---- grants ------------------------------------------------------------------------------------------

-- the line that the granted read takes
read-take : (o : Option Transaction) (p l : ℕ) → ((x : Transaction) → o ≡ Some x → x.port ≡ p)
    → is_some_and o (λ x. nat_eq x.port p && is_take_of x l) ≡ is_taken (option_map Takes (taken_line o)) l
read-take None p l port = refl
read-take (Some x) p l port =
    let own = eq-eqb x.port p (port x refl) in
    elim (cases_Bool (is_some_and (read_kind x) takes_line)) [
      | inl t ↦ rw (own, t) refl
      | inr f ↦ rw (own, f) refl
    ]

-- a write takes none
write-take : (o : Option Transaction) (p l : ℕ) → ((x : Transaction) → o ≡ Some x → x.chan ≡ Write)
    → is_some_and o (λ x. nat_eq x.port p && is_take_of x l) ≡ false
write-take None p l chan = refl
write-take (Some x) p l chan =
    let none : read_kind x ≡ None = rw (chan x refl) refl in
    elim (cases_Bool (nat_eq x.port p)) [
      | inl t ↦ rw (t, none) refl
      | inr f ↦ rw f refl
    ]

-- a taken line isn't dropped
take-drops : (line : Option ℕ) (l : ℕ) → is_dropped (option_map Takes line) l ≡ false
take-drops None l = refl
take-drops (Some m) l = refl

module _ (past : Trace) (p i : ℕ) where
  pub read-granted : (c : Channel) → c ≡ Read → (change : Option Change) → change ≡ option_map Takes (taken_line (transaction_of past p Read i))
      → IsChange past (G p c i) p change
  read-granted Write chan change is = cc
  read-granted Read chan change is = record {
    takes_it = λ l. read-take (transaction_of past p Read i) p l (λ x o. (transaction_of-name past p Read i x o).port) ∙ ap (λ o. is_taken o l) (sym is);
    drops_it = λ l. sym (ap (λ o. is_dropped o l) is ∙ take-drops (taken_line (transaction_of past p Read i)) l);
  }

  pub write-granted : (c : Channel) → c ≡ Write → IsChange past (G p c i) p None
  write-granted Read chan = cc
  write-granted Write chan = record {
    takes_it = λ l. write-take (transaction_of past p Write i) p l (λ x o. (transaction_of-name past p Write i x o).chan);
    drops_it = λ l. refl;
  }

-- ---- what a port drops -------------------------------------------------------------------------------

-- a dropped line isn't taken
pub drop-takes : (line : Option ℕ) (l : ℕ) → is_taken (option_map Drops line) l ≡ false
drop-takes None l = refl
drop-takes (Some m) l = refl

module _ (past : Trace) (p : ℕ) where
  pub answered-drop : (resp : ℕ) (st : LineState) (line : Option ℕ) → slice_get (snooped_lines past p) (answers past p) ≡ Some line → (l : ℕ)
      → drops_at past (Cr p resp st) p l ≡ is_dropped (option_map Drops (if is_invalid st then line else None)) l
  answered-drop resp st line is l =
      let named = answers-drop (answered past p) line l (sym (slice_get-map snooped_line (snoops_of past p) (answers past p)) ∙ is) in
      let own = eq-eqb p p (refl {a = p}) in
      elim (cases_Bool (is_invalid st)) [
        | inl t ↦ rw (own, t) (with_true (answers_line past p l) ∙ named)
        | inr f ↦ rw (own, f) (with_false (answers_line past p l))
      ]
    where
      with_true : (b : Bool) → (b && true) ≡ b
      with_true true = refl
      with_true false = refl

      with_false : (b : Bool) → (b && false) ≡ false
      with_false true = refl
      with_false false = refl

module _ (h : Header) (past : Trace) (p : ℕ) where
  pub acknowledged-drop : (st : LineState) → IsAccepted h (Wk p st ∷ past) → (line : Option ℕ)
      → slice_get (completed_lines past p) (acknowledgements past p Write) ≡ Some line → (l : ℕ)
      → drops_at past (Wk p st) p l ≡ is_dropped (option_map Drops line) l
  acknowledged-drop st a line is l =
      let own = eq-eqb p p (refl {a = p}) in
      let ace : is_ace h p ≡ true = (and_parts (nat_lt p h.ports) (is_ace h p) (accepted_keeps h past (Wk p st) a).rule_1).1 in
      let i = some_is (next_complete past p Write) (accepted_keeps h past (Wk p st) a).rule_27 in
      let kept = waits h past a.0 p (acknowledgements past p Write) i.0 ace (le_refl (acknowledgements past p Write)) i.1 in
      let next : acknowledged past p Write ≡ transaction_of past p Write i.0 = ap (transaction_under past p Write) i.1 in
      let same : dropped_line (acknowledged past p Write) ≡ line = ap dropped_line next ∙ Some-injective _ line (sym kept ∙ is) in
      rw own (write-drop (acknowledged past p Write) l ∙ ap (λ o. is_dropped (option_map Drops o) l) same)

-- ---- other ports -------------------------------------------------------------------------------------

-- an event of another port leaves what is kept of the port as it is
module _ (past : Trace) (p : ℕ) (w : PortWatch) (s : PortStands past p w) where
  pub stands-elsewhere : (e : Event) → port_of e ≢ Some p → PortStands (e ∷ past) p w
  stands-elsewhere (Ar q j addr snoop dom bar lock) n =
      let f = ne_eqb q p (λ same. n (ap Some same)) in
      record { reads = λ i low. rw f (s.reads i low); writes = λ i low. rw f (s.writes i low); complete = s.complete; snoops = s.snoops }
  stands-elsewhere (Aw q j addr snoop dom bar) n =
      let f = ne_eqb q p (λ same. n (ap Some same)) in
      record { reads = λ i low. rw f (s.reads i low); writes = λ i low. rw f (s.writes i low); complete = s.complete; snoops = s.snoops }
  stands-elsewhere (B q j resp) n =
      let f = ne_eqb p q (λ same. n (ap Some (sym same))) in
      record { reads = s.reads; writes = s.writes; complete = rw f s.complete; snoops = s.snoops }
  stands-elsewhere (Wk q st) n =
      let f = ne_eqb p q (λ same. n (ap Some (sym same))) in
      record { reads = s.reads; writes = s.writes; complete = rw f s.complete; snoops = s.snoops }
  stands-elsewhere (Ac q addr snoop) n =
      let f = ne_eqb p q (λ same. n (ap Some (sym same))) in
      record { reads = s.reads; writes = s.writes; complete = s.complete; snoops = rw f s.snoops }
  stands-elsewhere (Cr q resp st) n =
      let f = ne_eqb p q (λ same. n (ap Some (sym same))) in
      record { reads = s.reads; writes = s.writes; complete = s.complete; snoops = rw f s.snoops }
  stands-elsewhere e n = record { reads = s.reads; writes = s.writes; complete = s.complete; snoops = s.snoops }
