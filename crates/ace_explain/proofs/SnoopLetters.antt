-- The clauses of K11 to K13 and K17 that are named.
use Rattle.std.proofs.Common.{◌≡◌, ℕ, Bool, true, false, not, ◌==◌, Option, Some, None, is_some, is_none, option_map, refl, sym, ap, ◌∙◌}
use Rattle.ace_event.specs.declared.event.Channel.{Channel}
use Rattle.ace_event.specs.declared.event.Event.{Event}
use Rattle.ace_event.specs.declared.event.Event.TheVariants.{W, G, Ac, Cd}
use Rattle.ace_event.specs.declared.header.Header.{Header}
use Rattle.ace_event.specs.declared.line.Line.{Line}
use Rattle.ace_tables.specs.Answers.{same_test}
use Rattle.ace_model.specs.Copies.{word_of}
use Rattle.ace_model.specs.Replies.{next_sent, next_sent_beat}
use Rattle.ace_model.specs.Trace.{Trace}
use Rattle.ace_model.specs.declared.transactions.Transaction.{Transaction}
use Rattle.ace_model.specs.Transactions.{outstanding, takes_grant}
use Rattle.ace_model.specs.Grants.{has_grant, granted, is_begun, was_snooped}
use Rattle.ace_model.specs.Exclusives.{has_failed}
use Rattle.ace_model.specs.SnoopRules.{has_snoop_code}
use Rattle.ace_model.specs.Snoops.{snoops_a_line}
use Rattle.ace_model.specs.States.{owes_wack}
use Rattle.ace_model.proofs.General.Options.{Some-injective, some_is}
use Rattle.ace_model.specs.declared.snoops.Snoop.{Snoop}
use Rattle.ace_portck.proofs.SnoopSteps.{sent-sending}
use Rattle.ace_portck.specs.Targets.{Recording, progress_of, sending}
use Rattle.ace_portck.specs.declared.target.Progress.{Progress}
use Rattle.ace_lineck.specs.Records.{name_of}
use Rattle.ace_clauses.specs.declared.letters.Letter.TheVariants as letter
use Rattle.ace_explain.specs.Names.{Names}
use Rattle.ace_explain.proofs.Broken.{has_clause, last_one, none_broken}

-- what a look tells of a transaction that is outstanding, and of none
pub made_of : (h : Header) (past : Trace) (o : Option Transaction) (y : Progress) → option_map (progress_of h past) o ≡ Some y
    → (o ≡ Some y.transaction) × (y ≡ progress_of h past y.transaction)
made_of h past None y is = cc
made_of h past (Some x) y is =
    let same = Some-injective (progress_of h past x) y is in
    let one : x ≡ y.transaction = ap (λ (v : Progress). v.transaction) same in
    (ap Some one, sym same ∙ ap (progress_of h past) one)

pub none_named : (o : Option Transaction) → option_map name_of o ≡ None → o ≡ None
none_named None is = refl
none_named (Some x) is = cc

-- where the port sends data for a snoop, it sends a line
pub sends_line : (past : Trace) (p : ℕ) (s : Snoop) → sending past p ≡ Some s → (line : Line) × (next_sent past p ≡ Some line)
sends_line past p s is = some_is (next_sent past p) (sent-sending past p ∙ ap is_some is)

module _ (r : Recording) where
  -- K11, of an event that is no W
  pub k11_of_others : (e : Event) → ((p strb : ℕ) (last : Bool) (word : ℕ) → e ≡ W p strb last word → ⊥) → Names r e 11 letter.A
  k11_of_others (W p strb last word) w least = absurd (w p strb last word refl)
  k11_of_others e w least = none_broken (has_clause r.header r.past e 11 least)

  -- K17, of a CD, and of an event that is none
  module _ (p : ℕ) (last : Bool) (word : ℕ) where
    pub unsent_cd : next_sent r.past p ≡ None → Names r (Cd p last word) 17 letter.A
    unsent_cd none least = rw none refl

    module _ (line : Line) (sends : next_sent r.past p ≡ Some line) where
      pub miscounted_cd : same_test last (next_sent_beat r.past p == 3) ≡ false → Names r (Cd p last word) 17 letter.B
      miscounted_cd counts least = rw (sends, counts) refl

      pub wrong_cd : same_test last (next_sent_beat r.past p == 3) ≡ true → Names r (Cd p last word) 17 letter.C
      wrong_cd counts least =
          rw (sends, counts)
          (last_one (word == word_of line (next_sent_beat r.past p)) letter.C (rw (sends, counts) at (has_clause r.header r.past (Cd p last word) 17 least)))

  pub k17_of_others : (e : Event) → ((p : ℕ) (last : Bool) (word : ℕ) → e ≡ Cd p last word → ⊥) → Names r e 17 letter.A
  k17_of_others (Cd p last word) cd least = absurd (cd p last word refl)
  k17_of_others e cd least = none_broken (has_clause r.header r.past e 17 least)

  -- K12, of an event that is no G
  pub k12_of_others : (e : Event) → ((p : ℕ) (c : Channel) (i : ℕ) → e ≡ G p c i → ⊥) → Names r e 12 letter.A
  k12_of_others (G p c i) g least = absurd (g p c i refl)
  k12_of_others e g least = none_broken (has_clause r.header r.past e 12 least)

  module _ (p : ℕ) (c : Channel) (i : ℕ) where
    -- K12, by what is outstanding
    pub unnamed_g : outstanding r.header r.past p c i ≡ None → Names r (G p c i) 12 letter.A
    unnamed_g none least = rw none refl

    module _ (x : Transaction) (out : outstanding r.header r.past p c i ≡ Some x) where
      pub ungranted_g : takes_grant x ≡ false → Names r (G p c i) 12 letter.B
      ungranted_g kind least = rw (out, kind) refl

      module _ (takes : takes_grant x ≡ true) where
        pub second_g : has_grant r.past x.port x.chan x.id ≡ true → Names r (G p c i) 12 letter.C
        second_g has least = rw (out, takes, has) refl

        pub crossing_g : has_grant r.past x.port x.chan x.id ≡ false → Names r (G p c i) 12 letter.D
        crossing_g has least =
            rw (out, takes, has) (last_one (is_none (granted r.header r.past x.addr)) letter.D (rw (out, takes, has) at (has_clause r.header r.past (G p c i) 12 least)))

  -- K13, of an event that is no AC, and of a snoop of no line
  pub k13_of_others : (e : Event) → ((p addr snoop : ℕ) → e ≡ Ac p addr snoop → ⊥) → Names r e 13 letter.A
  k13_of_others (Ac p addr snoop) ac least = absurd (ac p addr snoop refl)
  k13_of_others e ac least = none_broken (has_clause r.header r.past e 13 least)

  pub k13_of_dvm : (p addr snoop : ℕ) → snoops_a_line snoop ≡ false → Names r (Ac p addr snoop) 13 letter.A
  k13_of_dvm p addr snoop line least = none_broken (rw line at (has_clause r.header r.past (Ac p addr snoop) 13 least))

  module _ (p addr snoop : ℕ) (line : snoops_a_line snoop ≡ true) where
    -- K13, by what is granted
    pub nothing_granted : granted r.header r.past addr ≡ None → Names r (Ac p addr snoop) 13 letter.A
    nothing_granted none least = rw (line, none) refl

    module _ (x : Transaction) (on : granted r.header r.past addr ≡ Some x) where
      pub own_snoop : (x.port == p) ≡ true → Names r (Ac p addr snoop) 13 letter.B
      own_snoop own least = rw (line, on, own) refl

      module _ (other : (x.port == p) ≡ false) where
        pub wrong_code : has_snoop_code x snoop ≡ false → Names r (Ac p addr snoop) 13 letter.C
        wrong_code code least = rw (line, on, other, code) refl

        module _ (code : has_snoop_code x snoop ≡ true) where
          pub failed_store : has_failed r.past x ≡ true → Names r (Ac p addr snoop) 13 letter.D
          failed_store failed least = rw (line, on, other, code, failed) refl

          module _ (passes : has_failed r.past x ≡ false) where
            pub late_snoop : is_begun r.past x ≡ true → Names r (Ac p addr snoop) 13 letter.E
            late_snoop begun least = rw (line, on, other, code, passes, begun) refl

            module _ (early : is_begun r.past x ≡ false) where
              pub second_snoop : was_snooped r.past p addr ≡ true → Names r (Ac p addr snoop) 13 letter.F
              second_snoop was least = rw (line, on, other, code, passes, early, was) refl

              pub hasty_snoop : was_snooped r.past p addr ≡ false → Names r (Ac p addr snoop) 13 letter.G
              hasty_snoop was least =
                  rw (line, on, other, code, passes, early, was)
                  (last_one (not (owes_wack r.header r.past p addr)) letter.G
                  (rw (line, on, other, code, passes, early, was) at (has_clause r.header r.past (Ac p addr snoop) 13 least)))
