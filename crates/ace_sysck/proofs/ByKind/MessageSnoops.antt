-- ACs: what the rules ask of one of a kind.
use Rattle.std.proofs.Common.{◌≡◌, ℕ, Bool, true, false, not, ◌||◌, Some, slice_get, refl, ap, ◌∙◌}
use Rattle.ace_sysck.proofs.Terms.{SnoopKind, k1, completes_next, k39, Ac, ac_kind_of, is_complete_snoop, is_message_snoop, is_none_or, is_some_and, k36, Recording, target_of, SysCheck, forwards_in, next_in, completes_now, Stands, IsAsked}
use Rattle.ace_codes.specs.declared.kind.SnoopKind.TheVariants as snoop
use Rattle.ace_sysck.proofs.Forwarding.InboxRules.{k36-is}
use Rattle.ace_sysck.proofs.RuleLaws.{k39-is}

-- the kinds of line snoops
pub other-kind : (k : SnoopKind) → (k ≡ snoop.DvmMessage → ⊥) → (k ≡ snoop.DvmComplete → ⊥) → (is_message_snoop k ≡ false) × (is_complete_snoop k ≡ false)
other-kind snoop.DvmMessage no_message no_complete = absurd (no_message refl)
other-kind snoop.DvmComplete no_message no_complete = absurd (no_complete refl)
other-kind k no_message no_complete = (refl, refl)

module _ (r : Recording) (p addr code : ℕ) (k : SnoopKind) (kind : ac_kind_of code ≡ Some k) where
  -- a test of the kind
  pub of-kind : (test : SnoopKind → Bool) (b : Bool) → test k ≡ b → is_some_and (ac_kind_of code) test ≡ b
  of-kind test b is = ap (λ o. is_some_and o test) kind ∙ is

  module _ (s : SysCheck) (stands : Stands s r) where
    -- K39
    pub completes : k1 r.header r.past (Ac p addr code) ≡ true → (b : Bool) → is_complete_snoop k ≡ b
        → k39 r.header r.past (Ac p addr code) ≡ (not b || completes_now s.header s.messages s.syncs p addr)
    completes first true is =
        k39-is r s.header s.messages s.syncs p addr code (target_of r.header r.past (Ac p addr code)) (record {
          asked = record { header = stands.ports; accepted = stands.accepted; first = first; target = refl };
          header = stands.header;
          messages = stands.messages;
          syncs = stands.syncs;
        }) (of-kind is_complete_snoop true is)
    completes first false is = ap (λ o. is_none_or o (completes_next r.header r.past p addr)) kind ∙ rw is refl

    -- K36
    pub forwards : k1 r.header r.past (Ac p addr code) ≡ true → k36 r.header r.past (Ac p addr code) ≡ forwards_in (next_in (slice_get s.inboxes.ports.items p)) addr k
    forwards first =
        let asked : IsAsked r (Ac p addr code) (target_of r.header r.past (Ac p addr code)) = record { header = stands.ports; accepted = stands.accepted; first = first; target = refl } in
        k36-is r s.inboxes p addr code (target_of r.header r.past (Ac p addr code)) k (record { asked = asked; stands = stands.inboxes }) kind
