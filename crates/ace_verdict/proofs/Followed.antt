-- From what was followed to the verdict.
use Rattle.std.proofs.Common.{◌≡◌, ◌++◌, ◌∙◌, ℕ, List, Option, None, Some, IfSome, ap, append-nil, length, refl, sym, subst, reverse}
use Rattle.std.proofs.lemmas.List.{length-reverse, reverse-reverse}
use Rattle.ace_event.specs.Text.{trace_text}
use Rattle.ace_event.specs.declared.header.Header.{Header}
use Rattle.ace_grammar.specs.Errors.{LeavesNothing}
use Rattle.ace_model.specs.Trace.{Trace}
use Rattle.ace_outstanding.specs.Outstanding.{outstanding_count}
use Rattle.ace_verdict.specs.Ended.{IsOutstanding}
use Rattle.ace_verdict.specs.declared.limits.Limits.{Limits}
use Rattle.ace_verdict.specs.declared.verdict.Verdict.{Verdict}
use Rattle.ace_verdict.specs.declared.verdict.Verdict.TheVariants.{Accepted, Refused, Malformed, ReadFault, LimitEvents, LimitLines, NoMemory}
use Rattle.ace_verdict.specs.declared.follow.Follower.{Follower}
use Rattle.ace_verdict.specs.Follow.{Follows, HasFollowed}
use Rattle.ace_verdict.specs.Progress.{HasReadCause, IsRefusal}
use Rattle.ace_verdict.specs.Verdict.{IsVerdictWithin, ReadsSoundWithin}

-- a trace that was followed to its end is accepted, with so many events
pub followed_accepted : (limits : Limits) (told : Option (List ℕ)) (f : Follower) (count : ℕ) → HasFollowed limits told f
    → ((lines : ℕ) (h : Header) (past : Trace) → Follows lines f h past → count ≡ length past) → IfSome told (λ bytes. IsVerdictWithin limits bytes (Accepted count))
followed_accepted limits None f count w is = tt
followed_accepted limits (Some bytes) f count w is =
    (w.header, reverse w.past, w.reads, w.unbroken, length-reverse w.past ∙ sym (is _ w.header w.past w.follows))

-- so many are outstanding at its end
pub followed_outstanding : (limits : Limits) (told : Option (List ℕ)) (f : Follower) (count outstanding : ℕ) → HasFollowed limits told f
    → ((lines : ℕ) (h : Header) (past : Trace) → Follows lines f h past → outstanding ≡ outstanding_count h past)
    → IfSome told (λ bytes. IsOutstanding bytes (Accepted count) outstanding)
followed_outstanding limits None f count outstanding w is = tt
followed_outstanding limits (Some bytes) f count outstanding w is =
    let (rest, text, ends) = w.reads.text in (
      w.header,
      reverse w.past,
      w.reads.header_is_readable,
      w.reads.events_are_readable,
      text ∙ ap (λ r. trace_text w.header (reverse w.past) ++ r) ends.1 ∙ append-nil _,
      is _ w.header w.past w.follows ∙ ap (outstanding_count w.header) (sym (reverse-reverse w.past)),
    )

-- none where there is none
pub none_outstanding : (told : Option (List ℕ)) (verdict : Verdict) → IsRefusal verdict → IfSome told (λ bytes. IsOutstanding bytes verdict 0)
none_outstanding None verdict r = tt
none_outstanding (Some bytes) (Accepted events) r = absurd r
none_outstanding (Some bytes) (Refused index rule) r = refl
none_outstanding (Some bytes) (Malformed line reason) r = refl
none_outstanding (Some bytes) ReadFault r = refl
none_outstanding (Some bytes) LimitEvents r = refl
none_outstanding (Some bytes) LimitLines r = refl
none_outstanding (Some bytes) NoMemory r = refl

-- a trace that isn't accepted has another verdict
pub refusal_whole : (verdict : Verdict) (old left : Option (List ℕ)) → IsRefusal verdict → (events : ℕ) → verdict ≡ Accepted events → LeavesNothing old left
refusal_whole verdict old left r events is = absurd (subst IsRefusal is r)

pub refusal_sound : (most : ℕ) (verdict : Verdict) (told : Option (List ℕ)) → IsRefusal verdict → (events : ℕ) → verdict ≡ Accepted events → IfSome told (ReadsSoundWithin most)
refusal_sound most verdict told r events is = absurd (subst IsRefusal is r)

pub accepted_cause : (before now events : ℕ) → now ≡ before → HasReadCause before now (Accepted events)
accepted_cause before now events same = record { failed = λ is. absurd cc; steady = λ not. same }

pub ruleset followed = (none_outstanding, followed_accepted, refusal_whole, refusal_sound, accepted_cause)
