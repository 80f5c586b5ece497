-- What ends an operation, and what acknowledges: a test passes for all of it that passes for acknowledges, loads, stores and OPs of the port.
use Rattle.std.proofs.Common.{◌≡◌, ℕ, Bool, true, false, not, ◌&&◌, ◌||◌, if◌then◌else◌, List, [], ◌∷◌, ◌++◌, Option, Some, None, unwrap_or, inl, inr, refl, sym, subst}
use Rattle.std.specs.List.{list_all}
use Rattle.std.specs.Option.{option_to_list, option_map}
use Rattle.std.proofs.lemmas.Bool.{and_parts, and_from, or_cases, cases_Bool}
use Rattle.ace_codes.specs.declared.state.LineState.{LineState}
use Rattle.ace_event.specs.declared.event.Channel.{Channel}
use Rattle.ace_event.specs.declared.event.Channel.TheVariants.{Read, Write}
use Rattle.ace_event.specs.declared.event.Event.{Event}
use Rattle.ace_event.specs.declared.event.Event.TheVariants.{Rk, Wk, L, D, Op as Retires}
use Rattle.ace_event.specs.declared.event.Outcome.{Outcome}
use Rattle.ace_event.specs.declared.event.Outcome.TheVariants.{Ok, Skip, Fail}
use Rattle.ace_event.specs.declared.header.Header.{Header}
use Rattle.ace_event.specs.declared.line.Line.{Line}
use Rattle.ace_model.specs.declared.plans.Op.{Op}
use Rattle.ace_model.specs.declared.plans.Op.TheVariants as op
use Rattle.ace_model.specs.declared.transactions.Transaction.{Transaction}
use Rattle.ace_model.specs.Trace.{Trace, is_some_and}
use Rattle.ace_model.specs.Kinds.{is_make_unique}
use Rattle.ace_model.specs.Transactions.{is_read, read_kind, is_ace}
use Rattle.ace_model.specs.States.{has_store}
use Rattle.ace_model.specs.Copies.{copy_of, word_of}
use Rattle.ace_model.specs.OrderRules.{retired}
use Rattle.ace_model.specs.Values.{full_line}
use Rattle.ace_model.proofs.General.Options.{is_some_and-is}
use Rattle.ace_runs.specs.Acts.{word_line, word_strobe}
use Rattle.ace_runs.specs.Bursts.{onto}
use Rattle.ace_runs.specs.Closing.{access_of, gives_access, state_named, access_and_retirement, closing_of, and_closing, retirement}
use Rattle.ace_runs.specs.MasterSteps.{store_lacked, acknowledge, acknowledge_for, acknowledge_in, acknowledge_of, acknowledges, acknowledges_on, due, end_of, is_finished}
use Rattle.ace_runs.specs.Retiring.{may_retire}
use Rattle.ace_runs.specs.SameEvents.{same_burst}
use Rattle.ace_runs.specs.Segments.{is_in_segment}
use Rattle.ace_runs.proofs.NeverStuck.Steps.SameBursts.{all-as}
use Rattle.ace_runs.proofs.NeverStuck.Steps.SameEvents.{TellsSame}
use Rattle.ace_runs.proofs.NeverStuck.Steps.Lists.{all-append, all-if}
use Rattle.ace_model.proofs.Trace.IssuedTransactions.{acknowledged-of}

-- ---- what ends an operation --------------------------------------------------------------------------

-- A test that passes for what acknowledges, for loads and stores, and for OPs, of the port.
pub record Concludes (p : ℕ) (test : Event → Bool) : Type 0 where
  pub reads : (st : LineState) → test (Rk p st) ≡ true
  pub writes : (st : LineState) → test (Wk p st) ≡ true
  pub loads : (addr w : ℕ) (x : Bool) (word : ℕ) → test (L p addr w x word) ≡ true
  pub stores : (addr strobe : ℕ) (x : Bool) (line : Line) → test (D p addr strobe x line) ≡ true
  pub retires : (k : ℕ) (res : Outcome) → test (Retires p k res) ≡ true

module _ (p : ℕ) (test : Event → Bool) (c : Concludes p test) where
  one-passes : (e : Event) → test e ≡ true → list_all test (e ∷ []) ≡ true
  one-passes e t = and_from _ _ t refl

  access-all : (past : Trace) (o : Op) → list_all test (option_to_list (access_of past p o)) ≡ true
  access-all past (op.Ld a w) = one-passes _ (c.loads a w false (word_of (copy_of past p a) w))
  access-all past (op.Ldx a w) = one-passes _ (c.loads a w true (word_of (copy_of past p a) w))
  access-all past (op.St a w word) = one-passes _ (c.stores a (word_strobe w) false (word_line w word))
  access-all past (op.Stx a w word) = one-passes _ (c.stores a (word_strobe w) true (word_line w word))
  access-all past (op.Fill a line) = one-passes _ (c.stores a full_line false line)
  access-all past o = refl

  retirement-all : (past : Trace) (res : Outcome) → list_all test (retirement past p res) ≡ true
  retirement-all past res = one-passes _ (c.retires (retired past p) res)

  and-retirement : (past : Trace) (o : Option Event) → list_all test (option_to_list o) ≡ true → list_all test (access_and_retirement past p o) ≡ true
  and-retirement past None m = refl
  and-retirement past (Some e) m = and_from _ _ (and_parts (test e) true m).0 (retirement-all past Ok)

  pub closing-all : (h : Header) (past : Trace) (o : Op) → list_all test (closing_of h past p o) ≡ true
  unfolding closing_of
  closing-all h past o =
      all-if test (may_retire h past p o Ok) _ _ (retirement-all past Ok)
      (all-if test (may_retire h past p o Skip) _ _ (retirement-all past Skip)
      (all-if test (may_retire h past p o Fail) _ _ (retirement-all past Fail)
      (all-if test (gives_access o (state_named h past p o)) _ [] (and-retirement past (access_of past p o) (access-all past o)) refl)))

  pub and-closing-all : (h : Header) (past : Trace) (o : Op) (burst : List Event) → list_all test burst ≡ true → list_all test (and_closing h past p o burst) ≡ true
  and-closing-all h past o burst m = all-append test burst _ m (closing-all h (onto burst past) o)

-- ---- step 4 ------------------------------------------------------------------------------------------

module _ (test : Event → Bool) (x : Transaction) (c : Concludes x.port test) where
  acknowledge-all : (st : LineState) → list_all test (acknowledge x st) ≡ true
  acknowledge-all st = by (is_read x.chan)
    where
      by : (b : Bool) → list_all test ((if b then Rk x.port st else Wk x.port st) ∷ []) ≡ true
      by true = and_from _ _ (c.reads st) refl
      by false = and_from _ _ (c.writes st) refl

  acknowledge-for-all : (h : Header) (past : Trace) (next : Option Op) (st : LineState) → list_all test (acknowledge_for h past x next st) ≡ true
  acknowledge-for-all h past None st = refl
  acknowledge-for-all h past (Some o) st =
      and-closing-all x.port test c h past o (store_lacked h past x o ++ acknowledge x st)
      (all-append test (store_lacked h past x o) (acknowledge x st)
      (all-if test (is_some_and (read_kind x) is_make_unique && not (has_store h past x.port x.id)) _ [] (access-all x.port test c past o) refl)
      (acknowledge-all st))

  acknowledge-of-all : (next : Option Op) (h : Header) (past : Trace) → list_all test (acknowledge_of next h past x) ≡ true
  acknowledge-of-all next h past = by (end_of h past x)
    where
      by : (o : Option LineState) → list_all test (unwrap_or (option_map (acknowledge_in next h past x) o) []) ≡ true
      by None = refl
      by (Some st) = all-if test (is_in_segment past x) _ _ (acknowledge-for-all h past next st) (acknowledge-all st)

due-port : (h : Header) (past : Trace) (p : ℕ) (c : Channel) (x : Transaction) → due h past p c ≡ Some x → x.port ≡ p
due-port h past p c x is =
    elim (cases_Bool (is_ace h p)) [
      | inl t ↦ (acknowledged-of past p c x (rw t at is)).1
      | inr f ↦ let none : None ≡ Some x = rw f at is in cc
    ]

module _ (p : ℕ) (test : Event → Bool) (c : Concludes p test) (same : TellsSame test) where
  acknowledges-on-all : (next : Option Op) (h : Header) (past : Trace) (burst : List Event) (chan : Channel) → acknowledges_on next h past p burst chan ≡ true → list_all test burst ≡ true
  acknowledges-on-all next h past burst chan s =
      let x = is_some_and-is (due h past p chan) (λ x. same_burst (acknowledge_of next h past x) burst) s in
      all-as test same (acknowledge_of next h past x.0) burst x.2
      (acknowledge-of-all test x.0 (subst (λ q. Concludes q test) (sym (due-port h past p chan x.0 x.1)) c) next h past)

  pub acknowledges-all : (next : Option Op) (h : Header) (past : Trace) (burst : List Event) → acknowledges next h past p burst ≡ true → list_all test burst ≡ true
  acknowledges-all next h past burst s =
      elim (or_cases (acknowledges_on next h past p burst Read || acknowledges_on next h past p burst Write) _ s) [
        | inr finished ↦ all-as test same (retirement past p Ok) burst (and_parts (is_finished next h past p) _ finished).1 (retirement-all p test c past Ok)
        | inl on ↦ elim (or_cases (acknowledges_on next h past p burst Read) (acknowledges_on next h past p burst Write) on) [
          | inl reads ↦ acknowledges-on-all next h past burst Read reads
          | inr writes ↦ acknowledges-on-all next h past burst Write writes
        ]
      ]
