-- What a step of one engine puts is nothing that another gives.
use Rattle.std.proofs.Common.{◌≡◌, ◌≢◌, ℕ, true, false, not, ◌&&◌, List, [], ◌∷◌, None, inl, inr, refl, sym, ap, ◌∙◌}
use Rattle.std.specs.Bool.{⊤}
use Rattle.std.specs.List.{list_all, list_any}
use Rattle.std.proofs.lemmas.Bool.{and_from, and_parts, eq-eqb, or_cases}
use Rattle.ace_event.specs.declared.event.Channel.{Channel}
use Rattle.ace_event.specs.declared.event.Channel.TheVariants.{Read, Write}
use Rattle.ace_event.specs.declared.event.Event.{Event}
use Rattle.ace_event.specs.declared.event.Event.TheVariants.{Ar, Aw, B, M, R}
use Rattle.ace_event.specs.declared.header.Header.{Header}
use Rattle.ace_model.specs.Plans.{Plan}
use Rattle.ace_model.specs.Trace.{Trace, is_some_and}
use Rattle.ace_model.specs.Transactions.{is_line, issued, newest_named, takes_grant, transaction_of}
use Rattle.ace_runs.specs.Operations.{next_operation}
use Rattle.ace_runs.specs.Steps.{AreSteps, StepKind, has_number, is_sound, is_step_by, may_give, steps_of}
use Rattle.ace_runs.proofs.Turns.{step-kept}
use Rattle.ace_engine.specs.Engines.{EngineKind, Home, IsLegal, Master, Order, Update, gives_up_line, is_given_by, is_of_home, is_of_order, is_of_update, numbers_of}
use Rattle.ace_engine.proofs.OwnEvents.{kinds-apart, masters-apart}
use Rattle.ace_fabric.specs.Parts.{NoneGiven}
use Rattle.ace_fabric.proofs.Barriers.{barrier-own}
use Rattle.ace_fabric.proofs.LineEvents.{grant-own, passed-own, snoops-own, transfer-own, update-own, write-own}
use Rattle.ace_fabric.proofs.MasterEvents.{acknowledges-own, answers-own, goes-on-own, is_own, sends-own}
use Rattle.ace_fabric.proofs.OrderEvents.{completion-own, dvm-own, forwards-own}
use Rattle.ace_fabric.proofs.Taken.{step-by-is}

-- ---- from what the steps of some numbers give --------------------------------------------------------

abbrev EachOf : List ℕ → Header → Trace → ℕ → List Event → Type 0 → List StepKind → Type 0
EachOf numbers h past p burst P [] = ⊤
EachOf numbers h past p burst P (s ∷ rest) = (has_number numbers s ≡ true → s.gives h past p burst ≡ true → P) × EachOf numbers h past p burst P rest

of-numbered : (numbers : List ℕ) (h : Header) (past : Trace) (p : ℕ) (burst : List Event) (P : Type 0) (steps : List StepKind) → EachOf numbers h past p burst P steps
    → list_any (λ s. has_number numbers s && may_give h past p burst s) steps ≡ true → P
of-numbered numbers h past p burst P [] each s = cc
of-numbered numbers h past p burst P (kind ∷ kinds) each s =
    elim (or_cases (has_number numbers kind && may_give h past p burst kind) _ s) [
      | inl now ↦
          let parts = and_parts (has_number numbers kind) (may_give h past p burst kind) now in
          each.0 parts.0 (and_parts (kind.is_enabled h past p) (kind.gives h past p burst) parts.1).1
      | inr later ↦ of-numbered numbers h past p burst P kinds each.1 later
    ]

-- ---- each event of a step is its engine's ------------------------------------------------------------

module _ (plan : Plan) (past : Trace) (p : ℕ) (burst : List Event) (legal : IsLegal plan past) (steps : AreSteps plan past) where
  given-of : (kind : EngineKind) → EachOf (numbers_of kind) plan.header past p burst (list_all (is_given_by kind past p) burst ≡ true) (steps_of plan past p)
      → is_step_by (numbers_of kind) plan past p burst ≡ true → list_all (is_given_by kind past p) burst ≡ true
  given-of kind each s =
      of-numbered (numbers_of kind) plan.header past p burst (list_all (is_given_by kind past p) burst ≡ true) (steps_of plan past p) each
      (and_parts (is_sound plan.header past burst) (list_any (λ r. has_number (numbers_of kind) r && may_give plan.header past p burst r) (steps_of plan past p)) s).1

  master-own : is_step_by (numbers_of Master) plan past p burst ≡ true → list_all (is_given_by Master past p) burst ≡ true
  unfolding is_given_by
  master-own s =
      let h = plan.header in
      let next = next_operation plan past p in
      given-of Master ((λ n g. answers-own h past p burst g), ((λ n g. sends-own h past p burst g), ((λ n g. cc), ((λ n g. acknowledges-own next h past p burst g), ((λ n g. cc), ((λ n g. cc), ((λ n g. cc), ((λ n g. cc), ((λ n g. cc), ((λ n g. cc), ((λ n g. cc), ((λ n g. cc), ((λ n g. cc), ((λ n g. goes-on-own plan.ways next h past p burst g), tt)))))))))))))) s

  home-own : is_step_by (numbers_of Home) plan past p burst ≡ true → list_all (is_given_by Home past p) burst ≡ true
  unfolding is_given_by
  home-own s =
      let h = plan.header in
      given-of Home ((λ n g. cc), ((λ n g. cc), ((λ n g. cc), ((λ n g. cc), ((λ n g. grant-own h past p burst g), ((λ n g. snoops-own h past p burst g), ((λ n g. passed-own h past p burst legal.accepted g), ((λ n g. transfer-own h past p burst g), ((λ n g. write-own h past p burst g), ((λ n g. cc), ((λ n g. cc), ((λ n g. cc), ((λ n g. cc), ((λ n g. cc), tt)))))))))))))) s

  update-given : is_step_by (numbers_of Update) plan past p burst ≡ true → list_all (is_given_by Update past p) burst ≡ true
  unfolding is_given_by
  update-given s =
      given-of Update ((λ n g. cc), ((λ n g. cc), ((λ n g. update-own plan.header past p burst g), ((λ n g. cc), ((λ n g. cc), ((λ n g. cc), ((λ n g. cc), ((λ n g. cc), ((λ n g. cc), ((λ n g. cc), ((λ n g. cc), ((λ n g. cc), ((λ n g. cc), ((λ n g. cc), tt)))))))))))))) s

  order-own : is_step_by (numbers_of Order) plan past p burst ≡ true → list_all (is_given_by Order past p) burst ≡ true
  unfolding is_given_by
  order-own s =
      let h = plan.header in
      let k = step-kept plan past p burst (step-by-is (numbers_of Order) plan past p burst s) in
      given-of Order ((λ n g. cc), ((λ n g. cc), ((λ n g. cc), ((λ n g. cc), ((λ n g. cc), ((λ n g. cc), ((λ n g. cc), ((λ n g. cc), ((λ n g. cc), ((λ n g. barrier-own plan past p burst legal.accepted steps k g), ((λ n g. forwards-own h past p burst legal.right.version legal.accepted k g), ((λ n g. dvm-own h past p burst g), ((λ n g. completion-own h past p burst g), ((λ n g. cc), tt)))))))))))))) s

  own : (kind : EngineKind) → is_step_by (numbers_of kind) plan past p burst ≡ true → list_all (is_given_by kind past p) burst ≡ true
  own Master s = master-own s
  own Home s = home-own s
  own Update s = update-given s
  own Order s = order-own s

-- ---- the events that come after others of the burst --------------------------------------------------

-- what an engine gives rests on the transactions alone
abbrev SameNames : Trace → Trace → Type 0
SameNames now past = (p : ℕ) (c : Channel) (i : ℕ) → transaction_of now p c i ≡ transaction_of past p c i

same-home : (now past : Trace) (e : Event) → SameNames now past → is_of_home now e ≡ is_of_home past e
same-home now past (R p i resp last word) same = ap (λ o. is_some_and o takes_grant) (same p Read i)
same-home now past (B p i resp) same = ap (λ o. is_some_and o takes_grant) (same p Write i)
same-home now past (M p c i line) same = ap (λ o. is_some_and o takes_grant) (same p c i)
same-home now past e same = refl

same-update : (now past : Trace) (e : Event) → SameNames now past → is_of_update now e ≡ is_of_update past e
same-update now past (B p i resp) same = ap (λ o. is_some_and o gives_up_line) (same p Write i)
same-update now past (M p c i line) same = ap (λ o. is_some_and o gives_up_line) (same p c i)
same-update now past e same = refl

same-order : (now past : Trace) (e : Event) → SameNames now past → is_of_order now e ≡ is_of_order past e
same-order now past (R p i resp last word) same = ap (λ o. is_some_and o (λ x. not (is_line x))) (same p Read i)
same-order now past (B p i resp) same = ap (λ o. is_some_and o (λ x. not (is_line x))) (same p Write i)
same-order now past e same = refl

same-given : (kind : EngineKind) (now past : Trace) (p : ℕ) (e : Event) → SameNames now past → is_given_by kind now p e ≡ is_given_by kind past p e
unfolding is_given_by
same-given Master now past p e same = refl
same-given Home now past p e same = same-home now past e same
same-given Update now past p e same = same-update now past e same
same-given Order now past p e same = same-order now past e same

-- an event that issues a transaction is a master's
none-issued : (now : Trace) (n : ℕ) (e : Event) → ((q : ℕ) → is_given_by Master now q e ≡ false) → issued n e ≡ None
unfolding is_given_by
none-issued now n (Ar p i addr snoop dom bar lock) none = let here = eq-eqb p p refl in let off = none p in let bad : true ≡ false = sym (and_from _ _ here refl) ∙ off in cc
none-issued now n (Aw p i addr snoop dom bar) none = let here = eq-eqb p p refl in let off = none p in let bad : true ≡ false = sym (and_from _ _ here refl) ∙ off in cc
none-issued now n e none = refl

-- a step of the interconnect
none-after : (kind other : EngineKind) (p q : ℕ) (now past : Trace) (burst : List Event) → kind ≢ Master → kind ≢ other → SameNames now past
    → list_all (is_given_by kind past p) burst ≡ true → NoneGiven other q now burst
none-after kind other p q now past [] inter apart same all = refl
none-after kind other p q now past (e ∷ burst) inter apart same all =
    let parts = and_parts (is_given_by kind past p e) (list_all (is_given_by kind past p) burst) all in
    let mine : is_given_by kind now p e ≡ true = same-given kind now past p e same ∙ parts.0 in
    let none = none-issued now _ e (λ r. kinds-apart now kind Master p r e inter mine) in
    and_from _ _ (ap not (kinds-apart now kind other p q e apart mine))
    (none-after kind other p q (e ∷ now) past burst inter apart (λ r c i. ap (λ o. newest_named o r c i (transaction_of now r c i)) none ∙ same r c i) parts.1)

-- a step of a master: what it gives doesn't rest on the trace
none-beside : (other : EngineKind) (p q : ℕ) (now past : Trace) (burst : List Event)
    → ((before : Trace) (e : Event) → is_given_by Master before p e ≡ true → is_given_by other before q e ≡ false)
    → list_all (is_given_by Master past p) burst ≡ true → NoneGiven other q now burst
unfolding is_given_by
none-beside other p q now past [] apart all = refl
none-beside other p q now past (e ∷ burst) apart all =
    let parts = and_parts (is_own p e) (list_all (is_own p) burst) all in
    and_from _ _ (ap not (apart now e parts.0)) (none-beside other p q (e ∷ now) past burst apart parts.1)

pub none-of-kind : (plan : Plan) (past : Trace) (kind other : EngineKind) (p q : ℕ) (burst : List Event) → IsLegal plan past → AreSteps plan past → kind ≢ other
    → is_step_by (numbers_of kind) plan past p burst ≡ true → NoneGiven other q past burst
none-of-kind plan past Master other p q burst legal steps apart s =
    none-beside other p q past past burst (λ before e mine. kinds-apart before Master other p q e apart mine) (own plan past p burst legal steps Master s)
none-of-kind plan past Home other p q burst legal steps apart s =
    none-after Home other p q past past burst (λ e. cc) apart (λ r c i. refl) (own plan past p burst legal steps Home s)
none-of-kind plan past Update other p q burst legal steps apart s =
    none-after Update other p q past past burst (λ e. cc) apart (λ r c i. refl) (own plan past p burst legal steps Update s)
none-of-kind plan past Order other p q burst legal steps apart s =
    none-after Order other p q past past burst (λ e. cc) apart (λ r c i. refl) (own plan past p burst legal steps Order s)

pub none-of-master : (plan : Plan) (past : Trace) (p q : ℕ) (burst : List Event) → IsLegal plan past → AreSteps plan past → p ≢ q
    → is_step_by (numbers_of Master) plan past p burst ≡ true → NoneGiven Master q past burst
none-of-master plan past p q burst legal steps apart s =
    none-beside Master p q past past burst (λ before e mine. masters-apart before p q e apart mine) (own plan past p burst legal steps Master s)
