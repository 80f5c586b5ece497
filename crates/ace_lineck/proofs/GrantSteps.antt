-- What is kept of a grant after an event of its line.
use Rattle.std.proofs.Common.{arith, ◌+◌, ◌*◌, ◌≤◌, nat_le, ◌≡◌, ◌≢◌, ℕ, ◌%◌, true, false, Bool, not, ◌&&◌, ◌||◌, ◌==◌, if◌then◌else◌, nat_eq, nat_lt, List, ◌∷◌, length, Option, Some, None, option_map, option_and_then, unwrap_or, refl, sym, ap, subst, ◌∙◌, inl, inr}
use Rattle.std.proofs.lemmas.Bool.{and_parts, cases_Bool, cases_eq, eqb-true, eq-eqb, ne_eqb, not-true, lt-ltb, lt-leb}
use Rattle.ace_lineck.proofs.Terms.{has_sharer, port_of, Line, Answer, Transaction, data_beats, is_short, zero_line, Header, Trace, Event, R, Ac, Cr, Cd, G, M, LineState, IsAccepted, is_some_and, newer, is_read, ended, gives_line, is_snoop_to, was_snooped, answered, answer_at, answer_of, snoops_a_line, is_shared, passes_dirty, transfers_data, first_sender, sender_at, data_answers, passer, passes, at_point, transfers, is_memory_write, is_begun, copy_of, copy_at_answer, answers_line, line_in, Stage, Unanswered, Sending, Done, Grant, GrantFits, GrantStands, IsMoved, stage_at, stage_by, stage_of, passed_by, fetched, settled_reply}
use Rattle.ace_model.proofs.Rules.Keeps.{accepted_keeps}
use Rattle.ace_model.proofs.General.Options.{Some-injective, newer-none}
use Rattle.ace_model.proofs.General.Booleans.{implies-at, then_of}
use Rattle.ace_model.proofs.Grants.Pending.{snoops}
use Rattle.ace_model.proofs.General.Ports.{found_passes}
use Rattle.ace_model.proofs.Grants.Stays.{Stays, granted_after}
use Rattle.ace_model.proofs.Values.FullReads.{Transfer}
use Rattle.ace_model.proofs.Values.Replies.{sender_sent}
use Rattle.ace_model.proofs.GrantLooks.Quiet.{Quiet, copy_at_answer-old}
use Rattle.ace_model.proofs.GrantLooks.Answered.{the_answer, answering, answer-now, answer-other, copy-now, copy-other, sharer-now, passer-same, passer-now, sender-silent, sender-now}
use Rattle.ace_model.proofs.GrantLooks.Progress.{Untouched, begun-stays, untouched}
use Rattle.ace_lineck.proofs.OnLine.{on-snoop}
use Rattle.ace_lineck.proofs.StateSteps.{port-below}
use Rattle.ace_lineck.proofs.GrantFrame.{passed_at, stage-same, fits-stays, stages-stay, fetched-stays, none-stays}
use Rattle.ace_lineck.proofs.Bursts.{sent_few, short-apart, beat_of, short-before, whole-now, short-now}

pub otherwise_of : {A : Type 0} → (b : Bool) (t u : A) → b ≡ false → (if b then t else u) ≡ u
otherwise_of true t u e = cc
otherwise_of false t u e = refl

-- what hasn't begun has had no beat
pub unfetched : (past : Trace) (x : Transaction) → is_begun past x ≡ false → fetched past x ≡ None
unfetched past x unbegun =
    elim (cases_Bool (is_read x.chan)) [
      | inr writes ↦ rw writes refl
      | inl reads ↦ let none : not (nat_eq (transfers past x.port x.id) 0) ≡ false = rw reads at unbegun in rw (reads, none) refl
    ]

moved_here : (q : ℕ) (x y : Stage) → nat_lt q 32 ≡ true → (if (q == q) && nat_lt q 32 then x else y) ≡ x
moved_here q x y low = rw (eq-eqb q q (refl {a = q}), low) refl

moved_there : (p q : ℕ) (x y : Stage) → p ≢ q → (if (p == q) && nat_lt p 32 then x else y) ≡ y
moved_there p q x y apart = rw (ne_eqb p q apart) refl

-- neither a transfer nor an M
abbrev pub serves : Event → Bool
serves (R p i resp last word) = true
serves (M p c i line) = true
serves e = false

-- an event that moves nothing under a grant, whatever its line
abbrev pub is_calm : Event → Bool
is_calm (Ac p addr snoop) = false
is_calm (Cr p resp st) = false
is_calm (Cd p last word) = false
is_calm (G p c i) = false
is_calm e = true

calm-gives : (past : Trace) (l : ℕ) (e : Event) → is_calm e ≡ true → gives_line past e l ≡ false
calm-gives past l (G p c i) s = cc
calm-gives past l e s = refl

module _ (h : Header) (past : Trace) (l : ℕ) (g : Grant) (f : GrantFits h past l g) where
  -- an event that ends no transaction leaves the grant
  pub stays-unended : (e : Event) → IsAccepted h (e ∷ past) → ended h past e ≡ None → Stays h past e l g.transaction
  stays-unended e a none =
      elim (granted_after h past e a l g.transaction f.granted) [
        | inl stays ↦ stays
        | inr ends ↦ let is = ends.1 in let bad : None ≡ Some ends.0 = sym none ∙ is in cc
      ]

  pub untouched-idle : (e : Event) → IsAccepted h (e ∷ past) → serves e ≡ false → Untouched past e g.transaction
  untouched-idle e a idle = untouched h past e a l g.transaction f.granted (λ reads t. beat e idle t) (write e idle)
    where
      beat : (d : Event) → serves d ≡ false → Transfer d g.transaction.port g.transaction.id → ⊥
      beat (R p i resp last word) s t = cc
      beat d s t = let is = t.is in cc

      write : (d : Event) → serves d ≡ false → is_memory_write d g.transaction.port g.transaction.chan g.transaction.id ≡ false
      write (M p c i line) s = cc
      write d s = refl

  pub quiet-calm : (e : Event) → is_calm e ≡ true → Quiet past e l
  quiet-calm e calm = record { gives = calm-gives past l e calm; snoop = λ p. snoop e calm p; answer = λ p. answer e calm p; sender = sender e calm }
    where
      snoop : (d : Event) → is_calm d ≡ true → (p : ℕ) → is_snoop_to d p l ≡ false
      snoop (Ac q addr code) s p = cc
      snoop d s p = refl

      answer : (d : Event) → is_calm d ≡ true → (p : ℕ) → answer_at past d p l ≡ None
      answer (Cr q resp st) s p = cc
      answer d s p = refl

      sender : (d : Event) → is_calm d ≡ true → sender_at past d l ≡ None
      sender (Cr q resp st) s = cc
      sender d s = refl

  short-calm : (e : Event) → is_calm e ≡ true → (p : ℕ) (w : Answer) → is_short (e ∷ past) p w ≡ is_short past p w
  short-calm (Cd q last word) s p w = cc
  short-calm e s p w = refl

  pub stages-calm : (e : Event) → is_calm e ≡ true → (p : ℕ) → stage_of (e ∷ past) p l ≡ stage_of past p l
  stages-calm e calm = stages-stay h past e l (quiet-calm e calm) (λ p w is. short-calm e calm p w)

  -- the grant stays at such an event, where it doesn't end, and isn't served
  pub calm-stays : (e : Event) → IsAccepted h (e ∷ past) → is_calm e ≡ true → serves e ≡ false → Stays h past e l g.transaction → GrantFits h (e ∷ past) l g
  calm-stays e a calm idle s = fits-stays h past e l g s (quiet-calm e calm) (untouched-idle e a idle) (stages-calm e calm) f

  -- where the answers stay, so do the copies at them
  copies_same : (e : Event) → ((p : ℕ) → answer_of (e ∷ past) p l ≡ answer_of past p l) → (o : Option ℕ)
      → (option_map (passed_at (e ∷ past) l) o ≡ option_map (passed_at past l) o) × (option_and_then (copy_at_answer (e ∷ past) l) o ≡ option_and_then (copy_at_answer past l) o)
  copies_same e same None = (refl, refl)
  copies_same e same (Some p) =
      let copy = copy_at_answer-old past e p l (same p) in
      (ap (λ c. Some (record { port = p; line = unwrap_or c zero_line })) copy, copy)

  -- and the reply
  pub settled_same : (e : Event) → first_sender (e ∷ past) l ≡ first_sender past l
      → option_and_then (copy_at_answer (e ∷ past) l) (first_sender past l) ≡ option_and_then (copy_at_answer past l) (first_sender past l)
      → Untouched past e g.transaction → settled_reply (e ∷ past) l g.transaction ≡ settled_reply past l g.transaction
  settled_same e sender copies idle =
      ap (λ o. newer (option_and_then (copy_at_answer (e ∷ past) l) o) (fetched (e ∷ past) g.transaction)) sender
      ∙ ap (λ o. newer o (fetched (e ∷ past) g.transaction)) copies
      ∙ ap (newer (option_and_then (copy_at_answer past l) (first_sender past l))) (fetched-stays h past e l g.transaction idle)

  -- where the port of the event comes to this stage, and no other port moves
  stage_moved : (e : Event) (q : ℕ) (new : Stage) → IsAccepted h (e ∷ past) → port_of e ≡ Some q → h.ports ≤ 32 → new ≡ stage_of (e ∷ past) q l
      → ((p : ℕ) → p ≢ q → stage_of (e ∷ past) p l ≡ stage_of past p l) → (p : ℕ) → (if (p == q) && nat_lt p 32 then new else stage_at g.stages p) ≡ stage_of (e ∷ past) p l
  stage_moved e q new a port few here others p =
      elim (cases_eq p q) [
        | inr apart ↦ moved_there p q new (stage_at g.stages p) apart ∙ f.stages p ∙ sym (others p apart)
        | inl same ↦
            let low = port-below h past e a q port in
            subst (λ v. (if (v == q) && nat_lt v 32 then new else stage_at g.stages v) ≡ stage_of (e ∷ past) v l) (sym same)
            (moved_here q new (stage_at g.stages q) (lt-ltb q 32 (omega arith)) ∙ here)
      ]

  -- an event that moves stages, and nothing else
  stages_step : (e : Event) → IsAccepted h (e ∷ past) → serves e ≡ false → ended h past e ≡ None → ((p : ℕ) → answer_of (e ∷ past) p l ≡ answer_of past p l)
      → has_sharer h (e ∷ past) l ≡ has_sharer h past l → passer h (e ∷ past) l ≡ passer h past l → first_sender (e ∷ past) l ≡ first_sender past l
      → (stages : List Stage) → ((p : ℕ) → stage_at stages p ≡ stage_of (e ∷ past) p l) → GrantFits h (e ∷ past) l (record g { stages = stages })
  stages_step e a idle none answers shared passed sender stages moved =
      let u = untouched-idle e a idle in
      let same = copies_same e answers in
      record {
        granted = (stays-unended e a none).is;
        begun = f.begun ∙ sym (begun-stays past e g.transaction u);
        written = f.written ∙ sym u.written;
        stages = moved;
        shared = f.shared ∙ sym shared;
        passed = f.passed ∙ sym (ap (option_map (passed_at (e ∷ past) l)) passed ∙ (same (passer h past l)).0);
        reply = f.reply ∙ sym (settled_same e sender (same (first_sender past l)).1 u);
      }

  -- AC: the port is snooped
  module _ (q addr code : ℕ) (a : IsAccepted h (Ac q addr code ∷ past)) (on : line_in h past (Ac q addr code) ≡ Some l) (few : h.ports ≤ 32) where
    ac_line : (snoops_a_line code ≡ true) × (addr ≡ l)
    ac_line =
        let here = rw (eq-eqb q q (refl {a = q})) at on in
        let both = and_parts (snoops_a_line code) (nat_eq addr l) (on-snoop (Some (record { place = length past; addr = addr; snoop = code })) l here) in
        (both.0, eqb-true addr l both.1)

    ac_unsnooped : was_snooped past q l ≡ false
    ac_unsnooped =
        let may = implies-at (snoops_a_line code) _ (accepted_keeps h past (Ac q addr code) a).rule_13 ac_line.0 in
        let two = and_parts (_ && not (was_snooped past q addr)) _ may in
        subst (λ b. was_snooped past q b ≡ false) ac_line.1 (not-true (was_snooped past q addr) (and_parts _ (not (was_snooped past q addr)) two.0).1)

    pub snoop_step : (stages : List Stage) → IsMoved g.stages stages q Unanswered → GrantFits h (Ac q addr code ∷ past) l (record g { stages = stages })
    snoop_step stages moved =
        stages_step (Ac q addr code) a refl refl (λ p. refl) refl refl (newer-none (first_sender past l)) stages
        (λ p. moved p ∙ stage_moved (Ac q addr code) q Unanswered a refl few now (λ p apart. let other = ne_eqb p q apart in stage-same (Ac q addr code ∷ past) past p l (rw other refl) refl (λ w is. refl)) p)
      where
        now : Unanswered ≡ stage_of (Ac q addr code ∷ past) q l
        now = let none = (snoops h past a.0).first q l ac_unsnooped in rw (eq-eqb q q (refl {a = q}), ac_line.0, eq-eqb l addr (sym ac_line.1), none) refl

  -- CD: a beat of the port's data
  module _ (q : ℕ) (last : Bool) (word : ℕ) (a : IsAccepted h (Cd q last word ∷ past)) (on : line_in h past (Cd q last word) ≡ Some l) (few : h.ports ≤ 32) where
    cd_other : (p : ℕ) → p ≢ q → stage_of (Cd q last word ∷ past) p l ≡ stage_of past p l
    cd_other p apart = stage-same (Cd q last word ∷ past) past p l refl refl (λ w is. short-apart h past q last word a l p apart w)

    cd_fits : (stages : List Stage) → ((p : ℕ) → stage_at stages p ≡ stage_of (Cd q last word ∷ past) p l) → GrantFits h (Cd q last word ∷ past) l (record g { stages = stages })
    cd_fits = stages_step (Cd q last word) a refl refl (λ p. refl) refl refl (newer-none (first_sender past l))

    -- the fourth
    pub fourth_step : data_beats past q % 4 ≡ 3 → (stages : List Stage) → IsMoved g.stages stages q Done → GrantFits h (Cd q last word ∷ past) l (record g { stages = stages })
    fourth_step fourth stages moved = cd_fits stages (λ p. moved p ∙ stage_moved (Cd q last word) q Done a refl few now cd_other p)
      where
        now : Done ≡ stage_of (Cd q last word ∷ past) q l
        now =
            let b = beat_of h past q last word a l on in
            let is : answer_of (Cd q last word ∷ past) q l ≡ Some b.answer = b.is in
            let whole = whole-now h past q last word a l b.answer b.sends b.bursts fourth in
            sym (ap (stage_by (Cd q last word ∷ past) q (was_snooped past q l)) is ∙ ap (λ v. if v then Sending else Done) whole)

    -- an earlier one
    pub earlier_step : data_beats past q % 4 ≢ 3 → GrantFits h (Cd q last word ∷ past) l g
    earlier_step earlier = cd_fits g.stages (λ p. f.stages p ∙ sym (stage p))
      where
        stage : (p : ℕ) → stage_of (Cd q last word ∷ past) p l ≡ stage_of past p l
        stage p =
            elim (cases_eq p q) [
              | inr apart ↦ cd_other p apart
              | inl same ↦
                  let b = beat_of h past q last word a l on in
                  subst (λ v. stage_of (Cd q last word ∷ past) v l ≡ stage_of past v l) (sym same)
                  (stage-same (Cd q last word ∷ past) past q l refl refl (λ w is.
                  let one : b.answer ≡ w = Some-injective b.answer w (sym b.is ∙ is) in
                  subst (λ v. is_short (Cd q last word ∷ past) q v ≡ is_short past q v) one
                  (short-now h past q last word a l b.answer b.sends b.bursts earlier ∙ sym (short-before h past q last word a l b.answer b.sends b.bursts))))
            ]

  -- CR: the port answers
  module _ (q resp : ℕ) (st : LineState) (a : IsAccepted h (Cr q resp st ∷ past)) (on : line_in h past (Cr q resp st) ≡ Some l) (few : h.ports ≤ 32) where
    cr_line : answers_line past q l ≡ true
    cr_line = on-snoop (answered past q) l on

    -- its data, if it sends any, are still to come
    cr_short : is_short (Cr q resp st ∷ past) q (the_answer h past q resp st l a cr_line) ≡ transfers_data resp
    cr_short =
        elim (cases_Bool (transfers_data resp)) [
          | inr silent ↦ rw silent refl
          | inl sends ↦
              let few_beats = sent_few h past a.0 q in
              let more : nat_le (4 * (data_answers past q + 1)) (data_beats past q) ≡ false = lt-leb (4 * (data_answers past q + 1)) (data_beats past q) (omega arith) in
              rw (sends, more) refl
        ]

    cr_stage : (p : ℕ) → (if (p == q) && nat_lt p 32 then (if transfers_data resp then Sending else Done) else stage_at g.stages p) ≡ stage_of (Cr q resp st ∷ past) p l
    cr_stage =
        stage_moved (Cr q resp st) q (if transfers_data resp then Sending else Done) a refl few
        (sym (ap (stage_by (Cr q resp st ∷ past) q (was_snooped past q l)) (answer-now h past q resp st l a cr_line) ∙ ap (λ b. if b then Sending else Done) cr_short))
        (λ p apart. stage-same (Cr q resp st ∷ past) past p l refl (answer-other h past q resp st l a cr_line p apart) (λ w is. refl))

    -- the copies at the other answers
    cr_passed : passes_dirty resp ≡ false → passed_by h (Cr q resp st ∷ past) l ≡ passed_by h past l
    cr_passed clean = ap (option_map (passed_at (Cr q resp st ∷ past) l)) (passer-same h past q resp st l a cr_line clean) ∙ by (passer h past l) refl
      where
        by : (o : Option ℕ) → passer h past l ≡ o → option_map (passed_at (Cr q resp st ∷ past) l) o ≡ option_map (passed_at past l) o
        by None is = refl
        by (Some p) is =
            elim (cases_eq p q) [
              | inr apart ↦ ap (λ c. Some (record { port = p; line = unwrap_or c zero_line })) (copy-other h past q resp st l a cr_line p apart)
              | inl same ↦
                  let none = (answering h past q resp st l a cr_line).pending.unanswered in
                  let passes_it : passes past l q ≡ true = subst (λ v. passes past l v ≡ true) same (found_passes h.ports (passes past l) p is) in
                  let fails : passes past l q ≡ false = ap (λ o. is_some_and o (λ (w : Answer). passes_dirty w.resp)) none in
                  cc
            ]

    cr_passes : (mine : Line) → mine ≡ copy_of past q l → passes_dirty resp ≡ true → Some (record { port = q; line = mine }) ≡ passed_by h (Cr q resp st ∷ past) l
    cr_passes mine copy dirty =
        sym (ap (option_map (passed_at (Cr q resp st ∷ past) l)) (passer-now h past q resp st l a cr_line dirty)
        ∙ ap (λ c. Some (record { port = q; line = unwrap_or c zero_line })) (copy-now h past q resp st l a cr_line ∙ ap (λ v. Some v) (sym copy)))

    cr_unbegun : fetched past g.transaction ≡ None
    cr_unbegun =
        let p = (answering h past q resp st l a cr_line).pending in
        let one : p.one ≡ g.transaction = Some-injective p.one g.transaction (sym p.stands ∙ f.granted) in
        unfetched past g.transaction (subst (λ (v : Transaction). is_begun past v ≡ false) one p.unbegun)

    -- a port that sent data before is another one, and its copy at its answer is there
    cr_sent : (p : ℕ) → first_sender past l ≡ Some p → (p ≢ q) × (c : Line) × (copy_at_answer past l p ≡ Some c)
    cr_sent p is =
        let s = sender_sent h past a.0 p l is in
        let none = (answering h past q resp st l a cr_line).pending.unanswered in (
          (λ same. let bad : None ≡ Some s.answer = sym none ∙ ap (λ v. answer_of past v l) (sym same) ∙ s.is in cc),
          copy_of (at_point s.answer.place past) p l,
          ap (option_map (λ (w : Answer). copy_of (at_point w.place past) p l)) s.is,
        )

    cr_silent : transfers_data resp ≡ false → Untouched past (Cr q resp st) g.transaction → g.reply ≡ settled_reply (Cr q resp st ∷ past) l g.transaction
    cr_silent silent idle = f.reply ∙ sym (settled_same (Cr q resp st) (sender-silent h past q resp st l a cr_line silent) (by (first_sender past l) refl) idle)
      where
        by : (o : Option ℕ) → first_sender past l ≡ o → option_and_then (copy_at_answer (Cr q resp st ∷ past) l) o ≡ option_and_then (copy_at_answer past l) o
        by None is = refl
        by (Some p) is = copy-other h past q resp st l a cr_line p (cr_sent p is).0

    cr_sends : (mine : Line) → mine ≡ copy_of past q l → transfers_data resp ≡ true → newer g.reply (Some mine) ≡ settled_reply (Cr q resp st ∷ past) l g.transaction
    cr_sends mine copy sends = by (first_sender past l) refl
      where
        now : (o : Option ℕ) → first_sender past l ≡ o → settled_reply (Cr q resp st ∷ past) l g.transaction
            ≡ newer (option_and_then (copy_at_answer (Cr q resp st ∷ past) l) (newer o (Some q))) (fetched (Cr q resp st ∷ past) g.transaction)
        now o is =
            ap (λ v. newer (option_and_then (copy_at_answer (Cr q resp st ∷ past) l) v) (fetched (Cr q resp st ∷ past) g.transaction))
            (sender-now h past q resp st l a cr_line sends ∙ ap (λ v. newer v (Some q)) is)

        before : (o : Option ℕ) → first_sender past l ≡ o → g.reply ≡ newer (option_and_then (copy_at_answer past l) o) (fetched past g.transaction)
        before o is = f.reply ∙ ap (λ v. newer (option_and_then (copy_at_answer past l) v) (fetched past g.transaction)) is

        by : (o : Option ℕ) → first_sender past l ≡ o → newer g.reply (Some mine) ≡ settled_reply (Cr q resp st ∷ past) l g.transaction
        by None is =
            ap (λ v. newer v (Some mine)) (before None is ∙ cr_unbegun)
            ∙ sym (now None is ∙ ap (λ v. newer v (fetched (Cr q resp st ∷ past) g.transaction)) (copy-now h past q resp st l a cr_line ∙ ap (λ v. Some v) (sym copy)))
        by (Some p) is =
            let s = cr_sent p is in
            ap (λ v. newer v (Some mine)) (before (Some p) is ∙ ap (λ v. newer v (fetched past g.transaction)) s.2)
            ∙ sym (now (Some p) is ∙ ap (λ v. newer v (fetched (Cr q resp st ∷ past) g.transaction)) (copy-other h past q resp st l a cr_line p s.0 ∙ s.2))

    pub answer_step : (stages : List Stage) (mine : Line) → IsMoved g.stages stages q (if transfers_data resp then Sending else Done) → mine ≡ copy_of past q l
        → GrantFits h (Cr q resp st ∷ past) l (record g {
          stages = stages;
          shared = is_shared resp || g.shared;
          passed = if passes_dirty resp then Some (record { port = q; line = mine }) else g.passed;
          reply = if transfers_data resp then newer g.reply (Some mine) else g.reply;
        })
    answer_step stages mine moved copy =
        let e = Cr q resp st in
        let idle = untouched-idle e a refl in
        record {
          granted = (stays-unended e a refl).is;
          begun = f.begun ∙ sym (begun-stays past e g.transaction idle);
          written = f.written ∙ sym idle.written;
          stages = λ p. moved p ∙ cr_stage p;
          shared = ap (λ b. is_shared resp || b) f.shared ∙ sym (sharer-now h past q resp st l a cr_line);
          passed = passed;
          reply = reply idle;
        }
      where
        passed : (if passes_dirty resp then Some (record { port = q; line = mine }) else g.passed) ≡ passed_by h (Cr q resp st ∷ past) l
        passed =
            elim (cases_Bool (passes_dirty resp)) [
              | inl t ↦ then_of (passes_dirty resp) _ _ t ∙ cr_passes mine copy t
              | inr n ↦ otherwise_of (passes_dirty resp) _ _ n ∙ f.passed ∙ sym (cr_passed n)
            ]

        reply : Untouched past (Cr q resp st) g.transaction → (if transfers_data resp then newer g.reply (Some mine) else g.reply) ≡ settled_reply (Cr q resp st ∷ past) l g.transaction
        reply idle =
            elim (cases_Bool (transfers_data resp)) [
              | inl t ↦ then_of (transfers_data resp) _ _ t ∙ cr_sends mine copy t
              | inr n ↦ otherwise_of (transfers_data resp) _ _ n ∙ cr_silent n idle
            ]

-- what is kept of the grant of a line stays at a calm event that serves none and ends none
pub calm-granted : (h : Header) (past : Trace) (e : Event) (l : ℕ) (g : Option Grant) → IsAccepted h (e ∷ past) → is_calm e ≡ true → serves e ≡ false → ended h past e ≡ None
    → GrantStands h past l g → GrantStands h (e ∷ past) l g
calm-granted h past e l None a calm idle none f = none-stays h past e l (calm-gives past l e calm) f
calm-granted h past e l (Some g) a calm idle none f = calm-stays h past l g f e a calm idle (stays-unended h past l g f e a none)
