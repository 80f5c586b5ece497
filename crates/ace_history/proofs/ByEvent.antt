-- What each event makes of a call.
use Rattle.std.proofs.Common.{◌≡◌, ℕ, ◌+◌, ◌≤◌, Bool, true, false, ◌&&◌, ◌==◌, if◌then◌else◌, [], ◌∷◌, ◌++◌, Some, None, option_map, slice_get, refl, sym, ap, subst, ◌∙◌, inl, inr, arith}
use Rattle.std.specs.List.{AllByRecursion}
use Rattle.std.proofs.lemmas.Bool.{cases_Bool, cases_eq, eq-eqb}
use Rattle.ace_event.specs.Bytes.{merged}
use Rattle.ace_event.specs.Range.{FitsFields}
use Rattle.ace_event.specs.declared.event.Event.{Event}
use Rattle.ace_event.specs.declared.event.Event.TheVariants as event
use Rattle.ace_event.specs.declared.event.Outcome.{Outcome}
use Rattle.ace_event.specs.declared.line.Line.{Line}
use Rattle.ace_model.specs.declared.plans.Op.{Op}
use Rattle.ace_model.specs.declared.plans.PlanOp.{PlanOp}
use Rattle.ace_model.specs.Accepted.{IsAccepted}
use Rattle.ace_model.specs.Copies.{word_of}
use Rattle.ace_model.specs.OrderRules.{retired}
use Rattle.ace_model.specs.Plans.{Plan, longer}
use Rattle.ace_model.specs.Trace.{Trace, is_some_and, more, port_of}
use Rattle.ace_model.specs.Values.{value_of}
use Rattle.ace_model.proofs.General.Options.{Some-injective}
use Rattle.ace_runs.specs.Acts.{acts_of, is_act, is_load_or_store}
use Rattle.ace_runs.specs.Follows.{FollowsSoFar}
use Rattle.ace_runs.specs.Operations.{next_operation}
use Rattle.ace_runs.specs.Retiring.{may_retire}
use Rattle.ace_runs.specs.Segments.{acts_made, is_at_port}
use Rattle.ace_history.specs.Reserved.{MayEnd, reserved_by}
use Rattle.ace_history.specs.Watched.{is_watched, watched_by}
use Rattle.ace_history.proofs.Watching.{exclusive-watched}
use Rattle.ace_history.specs.Histories.{entry, entry_at, history_of, word_loaded}
use Rattle.ace_history.specs.Newest.{last_entry, last_outcome, word_retired}
use Rattle.ace_history.specs.Stored.{line_by}
use Rattle.ace_history.specs.Settled.{are_calls, is_call}
use Rattle.ace_history.proofs.Acts.{load-act, load-value, store-act, store-value}
use Rattle.ace_runs.proofs.NeverStuck.Phases.NextActs.{retires-next}
use Rattle.ace_history.proofs.OneMore.{next-own, next-over, next-other}
use Rattle.ace_history.proofs.PlainEvents.{ActsFor, act-is, act-of-call, none-acts, not-act, value-stays}
use Rattle.ace_history.proofs.Stages.{IsClosed, IsOpen, IsUntouched, OthersRest, Stage, touched-retires, untouched-retires, word_now}

-- ---- events other than L, D and OP -------------------------------------------------------------------

abbrev pub is_quiet : Event → Bool
is_quiet (event.L p addr w x word) = false
is_quiet (event.D p addr strobe x line) = false
is_quiet (event.Op p k res) = false
is_quiet _ = true

retired-same : (past : Trace) (e : Event) (p : ℕ) → is_quiet e ≡ true → retired (e ∷ past) p ≡ retired past p
retired-same past (event.Op q k res) p quiet = cc
retired-same past e p quiet = refl

loaded-same : (past : Trace) (e : Event) (p : ℕ) → is_quiet e ≡ true → word_loaded (e ∷ past) p ≡ word_loaded past p
loaded-same past (event.Op q k res) p quiet = cc
loaded-same past (event.L q addr w x word) p quiet = cc
loaded-same past e p quiet = refl

history-same : (plan : Plan) (past : Trace) (e : Event) → is_quiet e ≡ true → history_of plan (e ∷ past) ≡ history_of plan past
history-same plan past (event.Op q k res) quiet = cc
history-same plan past e quiet = refl

never : {A : Type 0} → (b : Bool) (x y : A) → (if b && false then x else y) ≡ y
never true x y = refl
never false x y = refl

outcome-same : (past : Trace) (e : Event) (p : ℕ) → is_quiet e ≡ true → last_outcome (e ∷ past) p ≡ last_outcome past p
outcome-same past (event.Op q k res) p quiet = cc
outcome-same past e p quiet = refl

word-same : (past : Trace) (e : Event) (p : ℕ) → is_quiet e ≡ true → word_retired (e ∷ past) p ≡ word_retired past p
word-same past (event.Op q k res) p quiet = cc
word-same past e p quiet = refl

last-same : (past : Trace) (e : Event) (o : PlanOp) → is_quiet e ≡ true → last_entry o (e ∷ past) ≡ last_entry o past
last-same past (event.Op q k res) o quiet = cc
last-same past e o quiet = refl

acts-same : (past : Trace) (e : Event) (p : ℕ) → is_quiet e ≡ true → is_act e ≡ false → acts_made (e ∷ past) p ≡ acts_made past p
acts-same past (event.Op q k res) p quiet none = cc
acts-same past e p quiet none =
    ap (λ t. if is_at_port p e && t then acts_made past p + 1 else acts_made past p) none ∙ never (is_at_port p e) (acts_made past p + 1) (acts_made past p)

watched-same : (past : Trace) (e : Event) (q a : ℕ) → is_quiet e ≡ true → is_watched (e ∷ past) q a ≡ is_watched past q a
watched-same past (event.L p addr w x word) q a quiet = cc
watched-same past (event.D p addr strobe x line) q a quiet = cc
watched-same past e q a quiet = refl

quiet-other : (e : Event) → is_quiet e ≡ true → is_load_or_store e ≡ false
quiet-other (event.L p addr w x word) quiet = cc
quiet-other (event.D p addr strobe x line) quiet = cc
quiet-other e quiet = refl

module _ (plan : Plan) (o : PlanOp) (start past : Trace) where
  -- what is known of the trace, and of the event that comes
  pub record Before (e : Event) : Type 0 where
    pub version : plan.header.version ≡ 1
    pub calls : are_calls (longer plan o).operations ≡ true
    pub call : is_call o.op ≡ true
    pub accepted : IsAccepted plan.header (e ∷ past)
    pub follows : FollowsSoFar (longer plan o) (e ∷ past)
    pub fits : AllByRecursion FitsFields (e ∷ past)
    pub others : OthersRest plan o past

  -- the value of each line stays, but at a D
  stays : (e : Event) → Before e → is_quiet e ≡ true → (a : ℕ) → value_of (e ∷ past) a ≡ value_of past a
  stays (event.D p addr strobe x line) b quiet a = cc
  stays (event.L p addr w x word) b quiet a = cc
  stays (event.Op p k res) b quiet a = cc
  stays e b quiet a = value-stays plan.header past e a b.version b.accepted (none-acts (longer plan o) past b.calls b.follows.0) refl

  quiet-begun : (e : Event) → Before e → is_quiet e ≡ true → IsOpen plan o start past → IsOpen plan o start (e ∷ past)
  quiet-begun e b quiet begun =
      let no = not-act (longer plan o) past e b.calls b.follows.1 (quiet-other e quiet) in
      let made = acts-same past e o.port quiet no in
      let loaded = loaded-same past e o.port quiet in
      record {
        behind = retired-same past e o.port quiet ∙ begun.behind;
        history = history-same (longer plan o) past e quiet ∙ begun.history;
        acts = elim begun.acts [
          | inl u ↦ inl (record {
            none = made ∙ u.none;
            silent = loaded ∙ u.silent;
            values = λ a. stays e b quiet a ∙ u.values a;
            watched = λ q a. watched-same past e q a quiet ∙ u.watched q a;
          })
          | inr t ↦ inr (record {
            one = made ∙ t.one;
            word = loaded ∙ t.word;
            values = λ a. stays e b quiet a ∙ t.values a;
            watched = λ q a. watched-same past e q a quiet ∙ t.watched q a;
            may = t.may;
          })
        ];
      }

  quiet-closed : (e : Event) → Before e → is_quiet e ≡ true → IsClosed plan o start past → IsClosed plan o start (e ∷ past)
  quiet-closed e b quiet closed =
      let outcome = outcome-same past e o.port quiet in
      let word = word-same past e o.port quiet in
      record {
        over = rw (retired-same past e o.port quiet) closed.over;
        history = history-same (longer plan o) past e quiet ∙ closed.history ∙ ap (λ m. history_of plan start ++ m ∷ []) (sym (last-same past e o quiet));
        word = word ∙ closed.word;
        values = λ a. stays e b quiet a ∙ closed.values a ∙ ap (λ r. line_by a o.op r (value_of start a)) (sym outcome);
        watched = λ q a. watched-same past e q a quiet ∙ closed.watched q a ∙ ap (λ r. reserved_by q a o.port o.op r (is_watched start q a)) (sym outcome);
        may = subst (MayEnd (is_watched start) o.port o.op) (sym outcome) closed.may;
      }

  -- ---- whose turn it is ------------------------------------------------------------------------------

  -- only the port of the call has a next operation
  next-mine : (q : ℕ) (op : Op) → OthersRest plan o past → next_operation (longer plan o) past q ≡ Some op → q ≡ o.port
  next-mine q op others next =
      elim (cases_eq q o.port) [
        | inl same ↦ same
        | inr other ↦ let none = next-other plan o past q other (others q other) in let bad : Some op ≡ None = sym next ∙ none in cc
      ]

  -- when it is over, none has
  next-none : (q : ℕ) (op : Op) → OthersRest plan o past → IsClosed plan o start past → next_operation (longer plan o) past q ≡ Some op → ⊥
  next-none q op others closed next =
      let mine = next-mine q op others next in
      let here : next_operation (longer plan o) past o.port ≡ Some op = subst (λ r. next_operation (longer plan o) past r ≡ Some op) mine next in
      let bad : Some op ≡ None = sym here ∙ next-over plan o past closed.over in cc

  -- ---- the OP ----------------------------------------------------------------------------------------

  closes-with : (k : ℕ) (res : Outcome) → IsOpen plan o start past → word_loaded past o.port ≡ word_now start o.op
      → ((a : ℕ) → value_of past a ≡ line_by a o.op res (value_of start a))
      → ((q a : ℕ) → is_watched past q a ≡ reserved_by q a o.port o.op res (is_watched start q a)) → MayEnd (is_watched start) o.port o.op res
      → IsClosed plan o start (event.Op o.port k res ∷ past)
  closes-with k res begun word values watched may =
      let same = eq-eqb o.port o.port refl in
      let f = entry o.port res (word_loaded past o.port) in
      let is_last : last_entry o (event.Op o.port k res ∷ past) ≡ f o.op = rw same refl in
      record {
        over = rw same (let r = begun.behind in omega (arith, r));
        history = ap (λ h. more h (entry_at (longer plan o) past (event.Op o.port k res))) begun.history
            ∙ ap (λ n. more (history_of plan start) (option_map f n)) (next-own plan o past begun.behind)
            ∙ ap (λ m. history_of plan start ++ m ∷ []) (sym is_last);
        word = rw same word;
        values = λ a. rw same (values a);
        watched = λ q a. rw same (watched q a);
        may = rw same may;
      }

  op-closes : (k : ℕ) (res : Outcome) → Before (event.Op o.port k res) → IsOpen plan o start past → IsClosed plan o start (event.Op o.port k res ∷ past)
  op-closes k res b begun =
      let own = next-own plan o past begun.behind in
      let retires = retires-next (longer plan o) past o.port k res b.follows.1 in
      let mine : retires.0 ≡ o.op = Some-injective retires.0 o.op (sym retires.1 ∙ own) in
      let may : may_retire plan.header past o.port o.op res ≡ true = subst (λ op. may_retire plan.header past o.port op res ≡ true) mine retires.2 in
      elim begun.acts [
        | inl u ↦
            let c = untouched-retires plan.header past start o.port o.op res b.call u.none may in
            closes-with k res begun (u.silent ∙ sym c.word) (λ a. u.values a ∙ sym (c.lines a (value_of start a)))
            (λ q a. u.watched q a ∙ sym (c.watched q a o.port (is_watched start q a))) (c.may (is_watched start) o.port)
        | inr t ↦
            let ok = touched-retires plan.header past o.port o.op res t.one may in
            closes-with k res begun t.word (λ a. t.values a ∙ ap (λ r. line_by a o.op r (value_of start a)) (sym ok))
            (λ q a. t.watched q a ∙ ap (λ r. reserved_by q a o.port o.op r (is_watched start q a)) (sym ok))
            (subst (MayEnd (is_watched start) o.port o.op) (sym ok) t.may)
      ]

  -- ---- the load or store -----------------------------------------------------------------------------

  -- it comes once, while nothing has been done
  untouched-at-act : (e : Event) → Before e → (act : ActsFor (longer plan o) past e) → act.port ≡ o.port → IsOpen plan o start past
      → IsUntouched o.port start past
  untouched-at-act e b act mine begun =
      let zero = (act-of-call (longer plan o) past e b.calls act).0 in
      let none : acts_made past o.port ≡ 0 = subst (λ q. acts_made past q ≡ 0) mine zero in
      elim begun.acts [
        | inl u ↦ u
        | inr t ↦ absurd (omega (arith, none, t.one))
      ]

  -- the act fits the operation of the call
  fits-call : (e : Event) → Before e → (act : ActsFor (longer plan o) past e) → act.port ≡ o.port → IsOpen plan o start past
      → is_some_and (slice_get (acts_of o.op) 0) (λ fits. fits e) ≡ true
  fits-call e b act mine begun =
      let zero = (act-of-call (longer plan o) past e b.calls act).0 in
      let here : next_operation (longer plan o) past o.port ≡ Some act.op = subst (λ r. next_operation (longer plan o) past r ≡ Some act.op) mine act.next in
      let op : act.op ≡ o.op = Some-injective act.op o.op (sym here ∙ next-own plan o past begun.behind) in
      subst (λ n. is_some_and (slice_get (acts_of o.op) n) (λ fits. fits e) ≡ true) zero
      (subst (λ op. is_some_and (slice_get (acts_of op) (acts_made past act.port)) (λ fits. fits e) ≡ true) op act.fits)

  load-goes : (addr w word : ℕ) (x : Bool) → Before (event.L o.port addr w x word) → IsOpen plan o start past
      → IsOpen plan o start (event.L o.port addr w x word ∷ past)
  load-goes addr w word x b begun =
      let e = event.L o.port addr w x word in
      let act = act-is (longer plan o) past e b.follows.1 refl in
      let mine = next-mine act.port act.op b.others act.next in
      let u = untouched-at-act e b act mine begun in
      let for = load-act o.op o.port addr w word x b.call (fits-call e b act mine begun) in
      let same = eq-eqb o.port o.port refl in
      record {
        behind = begun.behind;
        history = begun.history;
        acts = inr (record {
          one = rw same (ap (λ n. n + 1) u.none);
          word = rw same (load-value plan.header past o.port addr w word x b.accepted b.fits ∙ ap (λ v. word_of v w) (u.values addr) ∙ sym (for.word start));
          values = λ a. u.values a ∙ sym (for.lines a (value_of start a));
          watched = λ q a. ap (watched_by q a e) (u.watched q a) ∙ for.watched q a (is_watched start q a);
          may = for.may (is_watched start);
        });
      }

  -- where the store is exclusive, its port watches the line
  watched-here : (addr s : ℕ) (x : Bool) (line : Line) → Before (event.D o.port addr s x line) → x ≡ true → is_watched past o.port addr ≡ true
  watched-here addr s x line b own =
      let accepted : IsAccepted plan.header (event.D o.port addr s true line ∷ past) =
      subst (λ t. IsAccepted plan.header (event.D o.port addr s t line ∷ past)) own b.accepted in
      exclusive-watched plan.header past o.port addr s line accepted

  store-goes : (addr s : ℕ) (x : Bool) (line : Line) → Before (event.D o.port addr s x line) → IsOpen plan o start past
      → IsOpen plan o start (event.D o.port addr s x line ∷ past)
  store-goes addr s x line b begun =
      let e = event.D o.port addr s x line in
      let act = act-is (longer plan o) past e b.follows.1 refl in
      let mine = next-mine act.port act.op b.others act.next in
      let u = untouched-at-act e b act mine begun in
      let for = store-act o.op o.port addr s x line b.call b.fits.0.1.0 (fits-call e b act mine begun) in
      let same = eq-eqb o.port o.port refl in
      record {
        behind = begun.behind;
        history = begun.history;
        acts = inr (record {
          one = rw same (ap (λ n. n + 1) u.none);
          word = u.silent ∙ sym (for.word start);
          values = λ a. store-value (a == addr) o.port s line (value_of past a)
              ∙ ap (λ v. if a == addr then merged v s line else v) (u.values a) ∙ sym (for.lines a (value_of start a));
          watched = λ q a. ap (watched_by q a e) (u.watched q a) ∙ for.watched q a (is_watched start q a);
          may = for.may (is_watched start) (λ own. sym (u.watched o.port addr) ∙ watched-here addr s x line b own);
        });
      }

  -- ---- each event ------------------------------------------------------------------------------------

  -- an event of the call's port, or none of another can come
  port-of-op : (q k : ℕ) (res : Outcome) → Before (event.Op q k res) → q ≡ o.port
  port-of-op q k res b = let r = retires-next (longer plan o) past q k res b.follows.1 in next-mine q r.0 b.others r.1

  port-of-act : (e : Event) (q : ℕ) → port_of e ≡ Some q → is_act e ≡ true → Before e → q ≡ o.port
  port-of-act e q here act b =
      let a = act-is (longer plan o) past e b.follows.1 act in
      Some-injective q a.port (sym here ∙ a.here) ∙ next-mine a.port a.op b.others a.next

  begun-goes : (e : Event) → Before e → IsOpen plan o start past → Stage plan o start (e ∷ past)
  begun-goes (event.Op q k res) b begun =
      subst (λ r. Before (event.Op r k res) → Stage plan o start (event.Op r k res ∷ past)) (sym (port-of-op q k res b)) (λ c. inr (op-closes k res c begun)) b
  begun-goes (event.L q addr w x word) b begun =
      subst (λ r. Before (event.L r addr w x word) → Stage plan o start (event.L r addr w x word ∷ past))
      (sym (port-of-act (event.L q addr w x word) q refl refl b))
      (λ c. inl (load-goes addr w word x c begun)) b
  begun-goes (event.D q addr s x line) b begun =
      subst (λ r. Before (event.D r addr s x line) → Stage plan o start (event.D r addr s x line ∷ past))
      (sym (port-of-act (event.D q addr s x line) q refl refl b))
      (λ c. inl (store-goes addr s x line c begun)) b
  begun-goes e b begun = inl (quiet-begun e b refl begun)

  no-more-acts : (e : Event) → is_act e ≡ true → Before e → IsClosed plan o start past → ⊥
  no-more-acts e act b closed = let a = act-is (longer plan o) past e b.follows.1 act in next-none a.port a.op b.others closed a.next

  closed-goes : (e : Event) → Before e → IsClosed plan o start past → Stage plan o start (e ∷ past)
  closed-goes (event.Op q k res) b closed = let r = retires-next (longer plan o) past q k res b.follows.1 in absurd (next-none q r.0 b.others closed r.1)
  closed-goes (event.L q addr w x word) b closed = absurd (no-more-acts (event.L q addr w x word) refl b closed)
  closed-goes (event.D q addr s x line) b closed = absurd (no-more-acts (event.D q addr s x line) refl b closed)
  closed-goes e b closed = inr (quiet-closed e b refl closed)

  pub each-goes : (e : Event) → Before e → Stage plan o start past → Stage plan o start (e ∷ past)
  each-goes e b stage = elim stage [ inl begun ↦ begun-goes e b begun | inr closed ↦ closed-goes e b closed ]

-- what has retired stays so
retired-grows : (past : Trace) (e : Event) (q : ℕ) → retired past q ≤ retired (e ∷ past) q
retired-grows past (event.Op p k res) q =
    elim (cases_Bool (q == p)) [
      | inl t ↦ rw t (omega arith)
      | inr f ↦ rw f (omega arith)
    ]
retired-grows past e q = omega arith

pub others-rest : (plan : Plan) (o : PlanOp) (past : Trace) (e : Event) → OthersRest plan o past → OthersRest plan o (e ∷ past)
others-rest plan o past e rest = λ q other. let was = rest q other in let more = retired-grows past e q in omega (arith, was, more)
