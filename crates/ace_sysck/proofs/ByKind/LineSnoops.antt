-- A line snoop leaves what is kept of the system as it is.
use Rattle.std.proofs.Common.{◌≡◌, ℕ, Bool, true, false, ◌∷◌, length, Option, Some, None, ◌<◌, ◌-◌, ◌^◌, refl}
use Rattle.ace_sysck.proofs.Terms.{SnoopKind, is_line_snoop, Ac, IsAccepted, ac_kind_of, is_complete_snoop, is_message_snoop, is_some_and, snoops_a_line, Recording, after, SysCheck, Stands}
use Rattle.ace_codes.specs.declared.kind.SnoopKind.TheVariants as snoop
use Rattle.ace_sysck.proofs.Forwarding.InboxHears.{inboxes_other_ac}
use Rattle.ace_sysck.proofs.MessageSteps.{messages_untold}
use Rattle.ace_sysck.proofs.Unmoved.{system_snooped}

-- a line snoop is none of DVM
no_message : (k : SnoopKind) → is_line_snoop k ≡ true → is_message_snoop k ≡ false
no_message snoop.DvmMessage line = cc
no_message _ line = refl

no_complete : (k : SnoopKind) → is_line_snoop k ≡ true → is_complete_snoop k ≡ false
no_complete snoop.DvmComplete line = cc
no_complete _ line = refl

apart : (test : SnoopKind → Bool) → ((k : SnoopKind) → is_line_snoop k ≡ true → test k ≡ false) → (code : ℕ) → snoops_a_line code ≡ true → is_some_and (ac_kind_of code) test ≡ false
apart test never code = by (ac_kind_of code)
  where
    by : (o : Option SnoopKind) → is_some_and o is_line_snoop ≡ true → is_some_and o test ≡ false
    by None line = refl
    by (Some k) line = never k line

-- a line snoop moves nothing
pub system_still : (r : Recording) (s : SysCheck) (p addr code : ℕ) → Stands s r → IsAccepted r.header (Ac p addr code ∷ r.past) → snoops_a_line code ≡ true
    → length r.past < 2 ^ 64 - 1 → Stands s (after r (Ac p addr code))
system_still r s p addr code stands accepted line few =
    system_snooped s s.messages s.inboxes r p addr code stands accepted.1 few
    (messages_untold r s.messages p addr code (apart is_complete_snoop no_complete code line) stands.messages)
    (inboxes_other_ac r s.inboxes p addr code accepted (apart is_message_snoop no_message code line) stands.inboxes)
