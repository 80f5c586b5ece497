-- Each run forwards whole messages: step 11 puts the parts of a message that a port lacks, and these are all its parts.
use Rattle.std.proofs.Common.{◌≡◌, ℕ, true, false, not, ◌&&◌, ◌==◌, nat_lt, if◌then◌else◌, List, [], ◌∷◌, ◌++◌, length, map, filter, Option, Some, None, refl, sym, ap, subst, ◌∙◌, inl, inr, arith}
use Rattle.std.specs.List.{list_all}
use Rattle.std.proofs.lemmas.Bool.{and_parts, and_from, cases_Bool, false_from_ne_true, ltb-true}
use Rattle.std.proofs.lemmas.List.{append-nil, length-map}
use Rattle.ace_codes.specs.declared.kind.SnoopKind.TheVariants as snoop
use Rattle.ace_codes.specs.Snoops.{ac_code}
use Rattle.ace_event.specs.declared.event.Event.{Event}
use Rattle.ace_event.specs.declared.event.Event.TheVariants.{Ac, Mem}
use Rattle.ace_event.specs.declared.header.Header.{Header}
use Rattle.ace_model.specs.declared.transactions.Transaction.{Transaction}
use Rattle.ace_model.specs.Accepted.{IsAccepted}
use Rattle.ace_model.specs.Grants.{ports_below}
use Rattle.ace_model.specs.Kinds.{is_message_snoop}
use Rattle.ace_model.specs.Messages.{first_waiting, forwarded, has_part, has_second, is_message_part, is_other_ace, is_second_part, next_part, parts_among, parts_for, parts_in, parts_with}
use Rattle.ace_model.specs.Plans.{Plan}
use Rattle.ace_model.specs.Trace.{Trace, is_some_and, port_of}
use Rattle.ace_model.proofs.Dvm.Parts.{part-placed, parts-placed}
use Rattle.ace_model.proofs.General.Options.{is_some_and-is}
use Rattle.ace_model.proofs.General.Ports.{each_at}
use Rattle.ace_model.proofs.Tables.ReadSnoops.{kind_of_code}
use Rattle.ace_model.proofs.Trace.Growth.{IsIssued, some_issued-is}
use Rattle.ace_model.proofs.Trace.Issued.{issued-place}
use Rattle.ace_runs.specs.Bursts.{are_kept, onto}
use Rattle.ace_runs.specs.OrderSteps.{forwarded_to, forwards, gets_message, is_by_port, is_part_of, message_of, parts_missing}
use Rattle.ace_runs.specs.Segments.{is_at_port}
use Rattle.ace_runs.specs.Steps.{AreSteps, is_step}
use Rattle.ace_runs.proofs.Accepting.{accepted-after}
use Rattle.ace_runs.proofs.Turns.{of-each-run, step-kept}
use Rattle.ace_runs.proofs.NeverStuck.Steps.SameBursts.{same-burst-all, same-length}
use Rattle.ace_runs.proofs.NeverStuck.Steps.SameEvents.{TellsSame, tells-same}
use Rattle.ace_runs.proofs.NeverStuck.Steps.Lists.{all-if, all-map}
use Rattle.ace_runs.proofs.NeverStuck.Steps.StepShapes.{all-by-ports, filtered-all}
use Rattle.ace_runs.proofs.NeverStuck.Forwarding.Bursts.{grows, is_forwarding, still-between}
use Rattle.ace_runs.proofs.NeverStuck.Forwarding.NextMessage.{IsBetweenMessages, NextMessage, next-begins, no-second-next, parts-start, point-of-last, same-message}
use Rattle.ace_runs.proofs.NeverStuck.Forwarding.Steps.{forwards-by-one}
use Rattle.ace_runs.proofs.NeverStuck.Forwarding.Waiting.{waiting-apart}

-- ---- the events of the burst -------------------------------------------------------------------------

same-forwarding : TellsSame is_forwarding
same-forwarding = tells-same is_forwarding (λ p c i line. refl) (λ p a s x line. refl) (λ a line. refl)

no-port : (e : Event) → port_of e ≡ None → is_forwarding e ≡ true
no-port (Mem addr line) none = refl
no-port e none = cc

-- ---- step 11 -----------------------------------------------------------------------------------------

-- where none of the parts was forwarded, all are missing
none-had : (done : List Transaction) (o : Option Transaction) (z : Transaction) → ((g : Transaction) → o ≡ Some g → has_part done g ≡ false) → has_part done z ≡ false
    → filter (λ y. not (has_part done y)) (parts_with o z) ≡ parts_with o z
none-had done (Some g) z first last = let none = first g refl in rw (none, last) refl
none-had done None z first last =
    elim (cases_Bool (has_second z.addr)) [
      | inl t ↦ rw t refl
      | inr f ↦ rw (f, last) refl
    ]

module _ (past : Trace) (q : ℕ) (x y : Transaction) (m : NextMessage past q (parts_among (forwarded past q)) y) (same : x ≡ m.last) where
  pub whole-message : message_of past x ≡ parts_with (first_waiting m.point m.last.port) m.last
  whole-message =
      ap (message_of past) same ∙ ap (λ t. message_of t m.last) (sym m.is)
      ∙ ap (λ t. parts_with (first_waiting t m.last.port) m.last) (point-of-last m.later m.event m.point q m.last y m.issues m.begins)

  pub all-missing : parts_missing past x q ≡ parts_with (first_waiting m.point m.last.port) m.last
  all-missing =
      ap (filter (λ z. not (has_part (parts_among (forwarded past q)) z))) whole-message
      ∙ none-had (parts_among (forwarded past q)) (first_waiting m.point m.last.port) m.last
      (λ g waits. false_from_ne_true (has_part (parts_among (forwarded past q)) g) (λ has.
      waiting-apart m.point m.last.port q g waits (ap (λ l. has_part l g) m.so_far ∙ has)))
      (false_from_ne_true (has_part (parts_among (forwarded past q)) m.last) (λ has.
      let low = part-placed (parts_for m.point q) (length m.point) m.last (parts-placed m.point q) (ap (λ l. has_part l m.last) m.so_far ∙ has) in
      let at = issued-place (length m.point) m.event m.last m.issues in absurd (omega (arith, low, at))))

  -- what was forwarded and the message are the parts for the port once the message is issued
  with-message : parts_for (m.event ∷ m.point) q ≡ parts_among (forwarded past q) ++ parts_with (first_waiting m.point m.last.port) m.last
  with-message =
      let other = m.begins.other in
      let both : (is_message_part m.last && not (m.last.port == q)) ≡ true = and_from _ _ m.begins.part (ap not other) in
      let added : parts_in m.point (Some m.last) q ≡ parts_with (first_waiting m.point m.last.port) m.last =
      ap (λ b. if b then parts_with (first_waiting m.point m.last.port) m.last else []) both in
      ap (λ o. parts_for m.point q ++ parts_in m.point o q) m.issues ∙ ap (λ l. l ++ parts_in m.point (Some m.last) q) m.so_far
      ∙ ap (λ l. parts_among (forwarded past q) ++ l) added

onto-later : (burst later : List Event) (before : Trace) → (more : List Event) × (more ++ before ≡ onto burst (later ++ before))
onto-later [] later before = (later, refl)
onto-later (e ∷ burst) later before = onto-later burst (e ∷ later) before

module _ (h : Header) (past : Trace) (burst : List Event) (q : ℕ) (a : IsAccepted h past) (k : are_kept h past burst ≡ true) (f : list_all is_forwarding burst ≡ true) where
  -- the burst forwards nothing to the port
  after-none : IsBetweenMessages past q → length (filter (is_at_port q) burst) ≡ 0 → IsBetweenMessages (onto burst past) q
  after-none w none =
      let done = parts_among (forwarded past q) in
      let start = parts-start w.0 w.1 q in
      let all : parts_for past q ≡ (parts_among (forwarded past q) ++ []) ++ start.rest =
      ap (λ t. parts_for t q) (sym w.2) ∙ sym start.joined ∙ ap (λ l. l ++ start.rest) (sym w.3 ∙ sym (append-nil done)) in
      let later = onto-later burst w.0 w.1 in
      (later.0, w.1, later.1 ∙ ap (onto burst) w.2, grows h burst past q [] start.rest a k f all none ∙ append-nil done ∙ w.3)

  -- it forwards the next message
  after-message : (x y : Transaction) (m : NextMessage past q (parts_among (forwarded past q)) y) → x ≡ m.last
      → length (filter (is_at_port q) burst) ≡ length (parts_with (first_waiting m.point m.last.port) m.last) → IsBetweenMessages (onto burst past) q
  after-message x y m same count =
      let block = parts_with (first_waiting m.point m.last.port) m.last in
      let whole = with-message past q x y m same in
      let start = parts-start m.later (m.event ∷ m.point) q in
      let all : parts_for past q ≡ (parts_among (forwarded past q) ++ parts_with (first_waiting m.point m.last.port) m.last) ++ start.rest =
      ap (λ t. parts_for t q) (sym m.is) ∙ sym start.joined ∙ ap (λ l. l ++ start.rest) whole in
      let later = onto-later burst m.later (m.event ∷ m.point) in
      (later.0, m.event ∷ m.point, later.1 ∙ ap (onto burst) m.is, grows h burst past q block start.rest a k f all count ∙ sym whole)

  -- it forwards what the step gives the port
  after-step : (x : Transaction) → IsIssued past x → is_message_part x ≡ true → gets_message h past x burst q ≡ true → IsBetweenMessages past q → IsBetweenMessages (onto burst past) q
  after-step x i part gets w =
      let long = same-length (filter (is_at_port q) burst) (forwarded_to h past x q) gets in
      let next = is_other_ace h x.port q && is_some_and (next_part past q) (has_part (message_of past x)) in
      elim (cases_Bool (is_other_ace h x.port q && is_some_and (next_part past q) (has_part (message_of past x)))) [
        | inr not_next ↦
            let nothing : forwarded_to h past x q ≡ [] =
            ap (λ b. if b then map (λ (y : Transaction). Ac q y.addr (ac_code snoop.DvmMessage)) (parts_missing past x q) else []) not_next in
            after-none w (sym long ∙ ap length nothing)
        | inl is_next ↦
            let y = is_some_and-is (next_part past q) (has_part (message_of past x)) (and_parts (is_other_ace h x.port q) _ is_next).1 in
            let m = next-begins past q y.0 w y.1 in
            let same = same-message m.later m.event m.point q m.last y.0 m.issues m.begins x (subst (λ t. IsIssued t x) (sym m.is) i) part
            (subst (λ t. has_part (message_of t x) y.0 ≡ true) (sym m.is) y.2) in
            let to_port = λ (z : Transaction). Ac q z.addr (ac_code snoop.DvmMessage) in
            let given : forwarded_to h past x q ≡ map (λ (z : Transaction). Ac q z.addr (ac_code snoop.DvmMessage)) (parts_with (first_waiting m.point m.last.port) m.last) =
            ap (λ b. if b then map to_port (parts_missing past x q) else []) is_next ∙ ap (map to_port) (all-missing past q x y.0 m same) in
            after-message x y.0 m same (sym long ∙ ap length given ∙ length-map (parts_with (first_waiting m.point m.last.port) m.last) to_port)
      ]

-- ---- all steps ---------------------------------------------------------------------------------------

-- what was forwarded to each port of the header are whole messages
abbrev pub AreBetweenMessages : Header → Trace → Type 0
AreBetweenMessages h past = (q : ℕ) → nat_lt q h.ports ≡ true → IsBetweenMessages past q

given-forwarding : (h : Header) (past : Trace) (x : Transaction) (q : ℕ) → list_all is_forwarding (forwarded_to h past x q) ≡ true
given-forwarding h past x q =
    all-if is_forwarding (is_other_ace h x.port q && is_some_and (next_part past q) (has_part (message_of past x))) _ []
    (all-map is_forwarding (λ (y : Transaction). Ac q y.addr (ac_code snoop.DvmMessage)) (parts_missing past x q) (λ y. ap (λ o. is_some_and o is_message_snoop) (kind_of_code snoop.DvmMessage))) refl

kept-by-message : (h : Header) (past : Trace) (p : ℕ) (burst : List Event) → IsAccepted h past → are_kept h past burst ≡ true → AreBetweenMessages h past → forwards h past p burst ≡ true
    → AreBetweenMessages h (onto burst past)
kept-by-message h past p burst a k w s q low =
    let x = some_issued-is past (λ x. is_part_of p x && list_all (gets_message h past x burst) (ports_below h.ports)) (and_parts (is_by_port burst) _ s).1 in
    let of = and_parts (is_part_of p x.0) (list_all (gets_message h past x.0 burst) (ports_below h.ports)) x.2 in
    let part = (and_parts (is_message_part x.0) (x.0.port == p) of.0).0 in
    let gets : (r : ℕ) → nat_lt r h.ports ≡ true → gets_message h past x.0 burst r ≡ true = λ r under. each_at h.ports (gets_message h past x.0 burst) r of.1 (ltb-true r h.ports under) in
    let forwarding = all-by-ports is_forwarding no-port h past burst k (λ r under.
    filtered-all is_forwarding r burst
    (same-burst-all is_forwarding same-forwarding (filter (is_at_port r) burst) (forwarded_to h past x.0 r) (gets r under) ∙ given-forwarding h past x.0 r)) in
    after-step h past burst q a k forwarding x.0 x.1 part (gets q low) (w q low)

messages-kept : (plan : Plan) (past : Trace) (p : ℕ) (burst : List Event) → IsAccepted plan.header past → AreBetweenMessages plan.header past → is_step plan past p burst ≡ true
    → AreBetweenMessages plan.header (onto burst past)
messages-kept plan past p burst a w s =
    elim (forwards-by-one plan past p burst s) [
      | inl none ↦ λ q low. still-between burst past q (w q low) none
      | inr g ↦ kept-by-message plan.header past p burst a (step-kept plan past p burst s) w g
    ]

-- In each run what was forwarded to a port are whole messages.
pub messages-whole : (plan : Plan) (past : Trace) → AreSteps plan past → AreBetweenMessages plan.header past
messages-whole plan past s =
    (of-each-run plan (λ t. IsAccepted plan.header t × AreBetweenMessages plan.header t) (tt, λ q low. ([], [], refl, refl))
    (λ before p burst both step. (accepted-after plan.header burst before both.0 (step-kept plan before p burst step), messages-kept plan before p burst both.0 both.1 step))
    past s).1

-- So the next part for a port is no second one.
pub next-not-second : (plan : Plan) (past : Trace) (q : ℕ) → AreSteps plan past → nat_lt q plan.header.ports ≡ true → is_some_and (next_part past q) (is_second_part past) ≡ false
next-not-second plan past q s low = no-second-next past q (messages-whole plan past s q low)
