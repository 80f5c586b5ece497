-- Once each port for which a message is the next has had it, messages were forwarded whole; and the burst is a step.
use Rattle.std.proofs.Common.{◌≡◌, ℕ, zero, suc, true, is_none, if◌then◌else◌, List, [], ◌∷◌, ◌++◌, filter, length, refl, sym, ap, ◌∙◌, inl, inr}
use Rattle.std.specs.List.{list_all}
use Rattle.std.proofs.lemmas.Bool.{and_from, cases_Bool, cases_lt}
use Rattle.std.proofs.lemmas.List.{append-nil, length-map}
use Rattle.ace_event.specs.declared.event.Event.{Event}
use Rattle.ace_event.specs.declared.header.Header.{Header}
use Rattle.ace_model.specs.Accepted.{IsAccepted, rules}
use Rattle.ace_model.specs.Messages.{forwarded, parts_among, parts_for}
use Rattle.ace_model.specs.Trace.{Trace}
use Rattle.ace_runs.specs.Bursts.{are_kept, is_kept, onto}
use Rattle.ace_runs.specs.Segments.{is_at_port}
use Rattle.ace_runs.proofs.Accepting.{accepted-before}
use Rattle.ace_runs.proofs.NeverStuck.Forwarding.Bursts.{grows, is_forwarding}
use Rattle.ace_runs.proofs.NeverStuck.Forwarding.NextMessage.{parts-start}
use Rattle.ace_runs.proofs.NeverStuck.Steps.Lists.{all-append, all-map}
use Rattle.ace_sysck.specs.declared.inboxes.Message.{Message}
use Rattle.ace_order.specs.Messages.{IsForwardedWhole, forwarding, forwards_to, given_below, given_to, is_next_for, parts_of}
use Rattle.ace_order.proofs.ByPorts.{all-given, none-given}
use Rattle.ace_order.proofs.Forwarded.{is-forwarding}
use Rattle.ace_order.proofs.GivenParts.{gets-too}
use Rattle.ace_order.proofs.NextMessages.{Gets, parts-next, parts-then}

onto-later : (burst later : List Event) (before : Trace) → (more : List Event) × (more ++ before ≡ onto burst (later ++ before))
onto-later [] later before = (later, refl)
onto-later (e ∷ burst) later before = onto-later burst (e ∷ later) before

pub all-forwarding : (h : Header) (past : Trace) (m : Message) (n : ℕ) → list_all is_forwarding (given_below h past m n) ≡ true
all-forwarding h past m zero = refl
all-forwarding h past m (suc n) =
    all-append is_forwarding (given_below h past m n) (given_to h past m n) (all-forwarding h past m n)
    (elim (cases_Bool (is_next_for h past m n)) [
      | inr none ↦ rw none refl
      | inl next ↦ rw next (all-map is_forwarding (forwarding n) (parts_of m) (is-forwarding n))
    ])

pub kept-of-accepted : (h : Header) (burst : List Event) (past : Trace) → IsAccepted h (onto burst past) → are_kept h past burst ≡ true
unfolding is_kept
kept-of-accepted h [] past a = refl
kept-of-accepted h (e ∷ burst) past a =
    let one = (accepted-before rules h burst (e ∷ past) a).1 in
    and_from _ _ (ap is_none one) (kept-of-accepted h burst (e ∷ past) a)

module _ (h : Header) (past : Trace) (whole : (r : ℕ) → IsForwardedWhole past r) (q : ℕ) (m : Message) (g : Gets h past q m) (n : ℕ)
    (a : IsAccepted h past) (k : are_kept h past (given_below h past m n) ≡ true) where
  abbrev burst : List Event
  burst = given_below h past m n

  -- nothing is forwarded to the port
  after-none : (r : ℕ) → length (filter (is_at_port r) (given_below h past m n)) ≡ 0 → IsForwardedWhole (onto (given_below h past m n) past) r
  after-none r none =
      let w = whole r in
      let done = parts_among (forwarded past r) in
      let start = parts-start w.0 w.1 r in
      let all : parts_for past r ≡ (parts_among (forwarded past r) ++ []) ++ start.rest =
      ap (λ t. parts_for t r) (sym w.2) ∙ sym start.joined ∙ ap (λ l. l ++ start.rest) (sym w.3 ∙ sym (append-nil done)) in
      let later = onto-later burst w.0 w.1 in
      (later.0, w.1, later.1 ∙ ap (onto burst) w.2, grows h burst past r [] start.rest a k (all-forwarding h past m n) all none ∙ append-nil done ∙ w.3)

  -- the message is
  after-message : (r : ℕ) → Gets h past r m → filter (is_at_port r) (given_below h past m n) ≡ forwards_to r m → IsForwardedWhole (onto (given_below h past m n) past) r
  after-message r f had =
      let all = parts-next h past r m f in
      let later = onto-later burst f.message.later (f.message.event ∷ f.message.point) in (
        later.0,
        f.message.event ∷ f.message.point,
        later.1 ∙ ap (onto burst) f.message.is,
        grows h burst past r (parts_of m) all.0 a k (all-forwarding h past m n) all.1 (ap length had ∙ length-map (parts_of m) (forwarding r)) ∙ sym (parts-then h past r m f),
      )

  pub whole-after : (r : ℕ) → IsForwardedWhole (onto (given_below h past m n) past) r
  whole-after r = elim (cases_lt r n) [
    | inr high ↦ after-none r (ap length (none-given h past m n r high))
    | inl low ↦ elim (cases_Bool (is_next_for h past m r)) [
      | inr none ↦ after-none r (ap length (all-given h past m n r low ∙ ap (λ b. if b then forwards_to r m else []) none))
      | inl next ↦ after-message r (gets-too h past whole q m g r next) (all-given h past m n r low ∙ ap (λ b. if b then forwards_to r m else []) next)
    ]
  ]
