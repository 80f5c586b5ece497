use Rattle.std.proofs.Common.{◌≡◌, ℕ, ◌∷◌, ◌+◌, ◌<◌, true, false, ◌&&◌, if◌then◌else◌, length, Option, Some, sym, ap, ◌∙◌, vec_capacity, arith}
use Rattle.ace_event.specs.declared.event.Event.{Event}
use Rattle.ace_model.specs.Plans.{Plan}
use Rattle.ace_model.specs.declared.transactions.Transaction.{Transaction}
use Rattle.ace_model.specs.Trace.{Trace, more, option_filter}
use Rattle.ace_model.specs.Transactions.{issued}
use Rattle.ace_runs.specs.Acts.{is_act}
use Rattle.ace_runs.specs.Segments.{acts_made, is_at_port, is_for_operation, segment}
use Rattle.ace_engine.specs.Engines.{IsLegal}
use Rattle.ace_master_state.specs.declared.segment.Segment.{Segment}
use Rattle.ace_master_state.specs.Segment.{SegmentStands}
use Rattle.ace_master_state.proofs.SegmentMoves.{acts-grow, one-of-three, segment-ends, segment-grows, two-acts-most}
use Rattle.ace_master_state.proofs.Elsewhere.{segment-stays}
use Rattle.ace_master_state.proofs.segment.Segment.hear.Goals as goal

pub returns-then-not-is_at : goal.returns-then-not-is_at
returns-then-not-is_at c = λ plan past p legal place s.
    let e = c.args.event.now in
    let apart : is_at_port p e ≡ false = ap (λ q. is_at_port q e) (sym s.port) ∙ sym c.is_at.ensures ∙ c.if-not-is_at.true in
    segment-stays plan past p e legal apart c.args.self.now s

pub returns-then-is_retirement : goal.returns-then-is_retirement
returns-then-is_retirement c = λ plan past p legal place s.
    let e = c.args.event.now in
    let at : is_at_port p e ≡ true = ap (λ q. is_at_port q e) (sym s.port) ∙ sym c.is_at.ensures ∙ c.if-not-is_at.false in
    let ends = segment-ends past e p at (sym c.is_retirement.ensures ∙ c.if-is_retirement.true) in
    let room = s.room in
    let same = c.clear.ensures.capacity in
    record { port = s.port; issued = c.clear.ensures.items ∙ sym ends.0; acts = sym ends.1; room = omega (arith, room, same) }

-- the transactions with those that the event adds
issued-with : (plan : Plan) (past : Trace) (p : ℕ) (e : Event) (place : ℕ) (begun : Option Transaction) (was now : Segment) → IsLegal plan (e ∷ past) → SegmentStands past p was → place ≡ length past
    → begun ≡ issued place e
    → (((x : Transaction) → option_filter (is_for_operation was.port) begun ≡ Some x → length was.issued.items < vec_capacity was.issued)
    → now.issued.items ≡ more was.issued.items (option_filter (is_for_operation was.port) begun))
    → now.issued.items ≡ more (segment past p) (option_filter (is_for_operation p) (issued (length past) e))
issued-with plan past p e place begun was now legal s at is_begun add =
    let same : option_filter (is_for_operation was.port) begun ≡ option_filter (is_for_operation p) (issued (length past) e) =
    ap (option_filter (is_for_operation was.port)) (is_begun ∙ ap (λ n. issued n e) at) ∙ ap (λ q. option_filter (is_for_operation q) (issued (length past) e)) s.port in
    add (λ x is.
    let low = one-of-three plan past e p x legal (sym same ∙ is) in
    let room = s.room in
    let size = ap length s.issued in
    omega (arith, low, room, size))
    ∙ ap (λ xs. more xs (option_filter (is_for_operation was.port) begun)) s.issued ∙ ap (more (segment past p)) same

pub returns-then-is_act : goal.returns-then-is_act
returns-then-is_act c = λ plan past p legal place s.
    let e = c.args.event.now in
    let at : is_at_port p e ≡ true = ap (λ q. is_at_port q e) (sym s.port) ∙ sym c.is_at.ensures ∙ c.if-not-is_at.false in
    let stays = sym c.is_retirement.ensures ∙ c.if-is_retirement.false in
    let act : is_act e ≡ true = sym c.is_act.ensures ∙ c.if-is_act.true in
    let items = issued-with plan past p e c.args.place c.issued.result c.args.self.now c.add.new.self legal s place c.issued.ensures c.add.ensures.issued in
    let grow : acts_made (e ∷ past) p ≡ acts_made past p + 1 = acts-grow past e p stays ∙ ap (λ b. if b && is_act e then acts_made past p + 1 else acts_made past p) at ∙ ap (λ b. if b then acts_made past p + 1 else acts_made past p) act in
    let most = two-acts-most plan (e ∷ past) p legal in
    let was = c.add.ensures.acts in
    let acts = s.acts in
    let room = s.room in
    let more_room = c.add.ensures.room in
    record {
      port = c.add.ensures.port ∙ s.port;
      issued = items ∙ sym (segment-grows past e p stays);
      acts = omega (arith, grow, most, was, acts);
      room = omega (arith, room, more_room);
    }

pub returns-else-is_act : goal.returns-else-is_act
returns-else-is_act c = λ plan past p legal place s.
    let e = c.args.event.now in
    let at : is_at_port p e ≡ true = ap (λ q. is_at_port q e) (sym s.port) ∙ sym c.is_at.ensures ∙ c.if-not-is_at.false in
    let stays = sym c.is_retirement.ensures ∙ c.if-is_retirement.false in
    let none : is_act e ≡ false = sym c.is_act.ensures ∙ c.if-is_act.false in
    let items = issued-with plan past p e c.args.place c.issued.result c.args.self.now c.add.new.self legal s place c.issued.ensures c.add.ensures.issued in
    let grow : acts_made (e ∷ past) p ≡ acts_made past p = acts-grow past e p stays ∙ ap (λ b. if b && is_act e then acts_made past p + 1 else acts_made past p) at ∙ ap (λ b. if b then acts_made past p + 1 else acts_made past p) none in
    let room = s.room in
    let more_room = c.add.ensures.room in
    record {
      port = c.add.ensures.port ∙ s.port;
      issued = items ∙ sym (segment-grows past e p stays);
      acts = c.add.ensures.acts ∙ s.acts ∙ sym grow;
      room = omega (arith, room, more_room);
    }
