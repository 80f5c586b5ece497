-- Two acts at once: the halves of a barrier, and the parts of a DVM message.
use Rattle.std.proofs.Common.{◌≡◌, ◌≤◌, ℕ, true, false, not, ◌||◌, List, [], ◌∷◌, length, length-append, slice_get, Some, inl, inr, sym, ap, subst, ◌∙◌, arith}
use Rattle.ace_event.specs.declared.event.Channel.TheVariants.{Read}
use Rattle.ace_event.specs.declared.event.Event.{Event}
use Rattle.ace_event.specs.declared.header.Header.{Header}
use Rattle.ace_model.specs.declared.plans.Op.{Op}
use Rattle.ace_model.specs.declared.transactions.Transaction.{Transaction}
use Rattle.ace_model.specs.Transactions.{issued, is_line, is_outstanding}
use Rattle.ace_runs.specs.Segments.{segment}
use Rattle.ace_master_laws.specs.Orderly.{acts, brings_line, owns_line, wants_way}
use Rattle.ace_runs.specs.Follows.{FollowsSoFar, acts_well, answers_well, carries_data, retires_well}
use Rattle.ace_master_laws.proofs.Progress.Come.{HasCome, NoneBrought}
use Rattle.ace_model.specs.Accepted.{IsAccepted}
use Rattle.ace_master_laws.proofs.GoesOn.Asks.{IsGood}
use Rattle.ace_master_laws.proofs.GoesOn.Ready.{IsReady, none-brought, idle}
use Rattle.ace_model.specs.Plans.{IsRight, Plan}
use Rattle.ace_master_laws.proofs.GoesOn.Issuing.{Issues, issue-at, issue-come, issue-next, issue-outs, issue-segment, issue-well}
use Rattle.ace_master_laws.proofs.Answers.Answering.{KeepsOn, accepted-one, kept-rest}
use Rattle.ace_model.proofs.General.Options.{Some-injective}
use Rattle.ace_model.specs.Trace.{Trace, port_of}
use Rattle.std.proofs.lemmas.Bool.{and_parts, or_left}
use Rattle.ace_runs.specs.Bursts.{are_kept, onto}
use Rattle.ace_master_laws.proofs.Progress.Endings.{closing-well}
use Rattle.ace_runs.specs.Closing.{closing_of}
use Rattle.ace_master_laws.proofs.Progress.Ended.{ended-come}
use Rattle.ace_runs.proofs.NeverStuck.Steps.SameEvents.{equal-event, is_lineless}
use Rattle.ace_runs.specs.Acts.{is_act_transaction}
use Rattle.ace_model.specs.Messages.{is_dvm_completion}
use Rattle.ace_runs.specs.Lean.{is_on_named_line, is_one_of_two}
use Rattle.ace_runs.specs.Operations.{next_operation}
use Rattle.ace_model.proofs.Trace.Issued.{outstanding-origin}
use Rattle.ace_runs.specs.SameEvents.{same_burst, same_event}
use Rattle.ace_model.specs.Progress.{updates_memory}

-- An event that issues an act of no line.
pub record IsAct (plan : Plan) (past : Trace) (p : ℕ) (e : Event) (x : Transaction) : Type 0 where
  pub plain : is_lineless e ≡ true
  pub new : issued (length past) e ≡ Some x
  pub at : port_of e ≡ Some p
  pub port : x.port ≡ p
  pub act : is_act_transaction x ≡ true
  pub own : is_dvm_completion x ≡ false
  pub off : is_line x ≡ false
  pub still : brings_line x ≡ false
  pub no_update : updates_memory x ≡ false
  pub no_owner : owns_line x ≡ false
  pub well : acts_well plan past e ≡ true
  pub rest : (retires_well plan past e ≡ true) × ((carries_data plan past e ≡ true) × ((answers_well plan past e ≡ true) × (is_one_of_two plan past e ≡ true)))

none-issue : (h : Header) (past : Trace) (p : ℕ) (e : Event) (x : Transaction) → issued (length past) e ≡ Some x → brings_line x ≡ false → NoneBrought h past p → NoneBrought h (e ∷ past) p
none-issue h past p e x new still none i y out b =
    elim (outstanding-origin h past e p Read i y out) [
      | inl now ↦
          let same : x ≡ y = Some-injective x y (sym new ∙ now.0) in
          let bad : false ≡ true = sym still ∙ ap brings_line same ∙ b in cc
      | inr old ↦ none i y old.was b
    ]

act-issues : (plan : Plan) (past : Trace) (p : ℕ) (o : Op) (e : Event) (x : Transaction) → IsAct plan past p e x → IsAccepted plan.header (e ∷ past)
    → ((k : ℕ) (y : Transaction) → slice_get (segment past p) k ≡ Some y → brings_line y ≡ true → is_outstanding plan.header past y ≡ false)
    → ((k : ℕ) (y : Transaction) → slice_get (segment past p) k ≡ Some y → updates_memory y ≡ true → is_outstanding plan.header past y ≡ false) → Issues plan past p o e x
act-issues plan past p o e x t now brought cleared =
    record {
      accepted = now;
      new = t.new;
      port = t.port;
      own = t.own;
      wanted = acts t.act;
      updates = λ m. let bad : false ≡ true = sym t.no_update ∙ m in cc;
      owners = λ m. let bad : false ≡ true = sym t.no_owner ∙ m in cc;
      way = λ m.
          let some = (and_parts (wants_way o) (brings_line x || updates_memory x) m).1 in
          let bad : false ≡ true = sym (ap (λ b. b || updates_memory x) t.still ∙ t.no_update) ∙ some in cc;
      absent = λ m l used. let bad : false ≡ true = sym t.no_update ∙ m in cc;
      brought = brought;
      cleared = cleared;
    }

act-named : (plan : Plan) (x : Transaction) → is_line x ≡ false → is_on_named_line plan x ≡ true
act-named plan x off = or_left (not (is_line x)) _ (ap not off)

module _ (plan : Plan) (past : Trace) (p : ℕ) (o : Op) (right : IsRight plan) (a : IsAccepted plan.header past) (f : FollowsSoFar plan past) (c : HasCome plan past p) (r : IsReady plan past p o)
    (few : length (segment past p) ≤ 0) (e g : Event) (x y : Transaction) (t : IsAct plan past p e x) (w : IsAct plan (e ∷ past) p g y) where
  abbrev h : Header
  h = plan.header

  abbrev now : Trace
  now = e ∷ past

  first : IsAccepted h now → Issues plan past p o e x
  first acc = act-issues plan past p o e x t acc (λ k z there b. idle plan past p o right a f c r k z there) (λ k z there b. idle plan past p o right a f c r k z there)

  second : IsAccepted h now → IsAccepted h (g ∷ now) → Issues plan now p o g y
  second acc later =
      let s = first acc in
      act-issues plan now p o g y w later
      (λ k z there b. elim (issue-at plan past p o e x r.next s c k z there) [
        | inl old ↦ issue-outs plan past p o e x r.next s c k z old ∙ idle plan past p o right a f c r k z old
        | inr same ↦ let bad : false ≡ true = sym t.still ∙ ap brings_line same ∙ b in cc
      ])
      (λ k z there b. elim (issue-at plan past p o e x r.next s c k z there) [
        | inl old ↦ issue-outs plan past p o e x r.next s c k z old ∙ idle plan past p o right a f c r k z old
        | inr same ↦ let bad : false ≡ true = sym t.no_update ∙ ap updates_memory same ∙ b in cc
      ])

  keeps-both : (rest : List Event) → are_kept h past (e ∷ g ∷ rest) ≡ true → same_burst (closing_of h (g ∷ now) p o) rest ≡ true → KeepsOn plan past p (e ∷ g ∷ rest)
  keeps-both rest kept same =
      let acc = accepted-one plan past e (g ∷ rest) a kept in
      let kept1 = kept-rest h past e (g ∷ rest) kept in
      let acc2 = accepted-one plan now g rest acc kept1 in
      let s = first acc in
      let s2 = second acc acc2 in
      let c1 = issue-come plan past p o e x r.next s c in
      let next1 : next_operation plan now p ≡ Some o = issue-next plan past p o e x r.next s c ∙ r.next in
      let w1 = issue-well plan past p o e x r.next s c f t.at t.well (omega (arith, few)) (act-named plan x t.off) t.rest.0 t.rest.1.0 t.rest.1.1.0 t.rest.1.1.1 in
      let f1 : FollowsSoFar plan now = (f, w1.obeying) in
      let long = ap length (issue-segment plan past p o e x r.next s c) in
      let count = length-append (segment past p) (x ∷ []) in
      let w2 = issue-well plan now p o g y next1 s2 c1 f1 w.at w.well (omega (arith, few, long, count)) (act-named plan y w.off) w.rest.0 w.rest.1.0 w.rest.1.1.0 w.rest.1.1.1 in
      let next2 : next_operation plan (g ∷ now) p ≡ Some o = issue-next plan now p o g y next1 s2 c1 ∙ next1 in
      let none = none-issue h now p g y w.new w.still (none-issue h past p e x t.new t.still (none-brought plan past p o right a f c r)) in
      record {
        well = (w1, (w2, closing-well plan (g ∷ now) p o (f1, w2.obeying) next2 rest acc2 same (kept-rest h now g rest kept1)));
        come = elim (ended-come plan (g ∷ now) p o rest same none) [
          | inr done ↦ done
          | inl empty ↦ subst (λ l. HasCome plan (onto l (g ∷ now)) p) (sym empty.1) (issue-come plan now p o g y next1 s2 c1)
        ];
      }

  -- Both acts, and what ends the operation then.
  pub both-good : IsGood plan past p o right a f c r (e ∷ g ∷ [])
  both-good [] kept same = cc
  both-good (d ∷ []) kept same = let bad = (and_parts (same_event e d) false same).1 in cc
  both-good (d ∷ b ∷ rest) kept same =
      let one = and_parts (same_event e d) (same_burst (g ∷ closing_of h (g ∷ now) p o) (b ∷ rest)) same in
      let two = and_parts (same_event g b) (same_burst (closing_of h (g ∷ now) p o) rest) one.1 in
      let is_e : e ≡ d = equal-event e d one.0 t.plain in
      let is_g : g ≡ b = equal-event g b two.0 w.plain in
      let is : e ∷ g ∷ rest ≡ d ∷ b ∷ rest = ap (λ v. v ∷ g ∷ rest) is_e ∙ ap (λ v. d ∷ v ∷ rest) is_g in
      subst (KeepsOn plan past p) is (keeps-both rest (ap (are_kept h past) is ∙ kept) two.1)
