use Rattle.std.proofs.Common.{◌≡◌, ◌<◌, ◌∷◌, ◌++◌, [], Some, length, drop, slice_get, ap, ◌∙◌, arith, length-append, length-drop}
use Rattle.std.proofs.lemmas.Grind.{common_steps}
use Rattle.std.proofs.lemmas.Option.{slice_get_within}
use Rattle.ace_portck.proofs.Terms.{vec_capacity, vec_len, IsPart, open_burst, data_of_burst}
use Rattle.ace_portck.proofs.WriteLaws.{adds}
use Rattle.ace_portck.proofs.WriteSteps.{beat_of, next-is, part_length, writes_w, writes_w_last}
use Rattle.ace_portck.proofs.write_data.WriteBursts.add.Goals as goal

pub returns-then-self-lt4 : goal.returns-then-self-lt4
returns-then-self-lt4 c = λ h past p last a s.
    let q = c.args.self.now in
    let beats = part_length h past p q s in
    let low : length (open_burst past p) < 4 = omega (arith, beats) in
    writes_w h past p q s c.args.strobe last c.args.word a c.add.new.self
    (c.add.ensures (open_burst past p) low s.part_is) c.if-self-lt4.true

pub returns-in-Some : goal.returns-in-Some
returns-in-Some c = λ h past p last a s.
    let q = c.args.self.now in
    let x = c.in-Some.write in
    let e = c.in-Some.ensures in
    let bs = open_burst past p ++ (beat_of c.args.strobe c.args.word) ∷ [] in
    let beats = part_length h past p q s in
    let low : length (open_burst past p) < 4 = omega (arith, beats) in
    let is : IsPart bs c.add.new.self = c.add.ensures (open_burst past p) low s.part_is in
    let longer = length-append (open_burst past p) ((beat_of c.args.strobe c.args.word) ∷ []) in
    let came = is.beats_are in
    let high = c.if-self-lt4.false in
    let all : length bs ≡ 4 = omega (arith, longer, came, high, low) in
    let front : slice_get q.filling.items 0 ≡ Some x = ap (λ v. slice_get v 0) e.items in
    let step = writes_w_last h past p q s c.args.strobe last c.args.word a c.add.new.self is high c.new-self.result
    c.new-self.ensures x front in
    let sent = c.data-sent.ensures bs all is in
    let k = c.push-full.ensures in
    let room = step.0 in
    let fit = s.whole_fit in
    let fits : vec_len q.whole < vec_capacity q.whole = omega (arith, room, fit) in
    let new : c.push-full.new.self.items ≡ q.whole.items ++ (record { id = x.id; sent = c.data-sent.result }) ∷ [] = grind (arith, common_steps, k.succeeds fits, k.items) in
    let items : c.push-full.new.self.items ≡ q.whole.items ++ (record { id = x.id; sent = data_of_burst bs }) ∷ [] =
    new ∙ ap (λ v. q.whole.items ++ (record { id = x.id; sent = v }) ∷ []) sent in
    rw (e.rest, items, e.capacity) (step.1 (vec_capacity c.push-full.new.self) k.capacity)

pub returns-in_default : goal.returns-in_default
returns-in_default c = λ h past p last a s.
    let q = c.args.self.now in
    let e = c.in_default.ensures in
    let front = next-is h past p q s
    ∙ (adds h past p c.args.strobe last c.args.word a).next in
    let some = slice_get_within q.filling.items 0 _ front in
    let whole : length q.filling.items ≡ length (drop 1 q.filling.items) = ap length (e.items ∙ e.rest) in
    let less = length-drop 1 q.filling.items in
    absurd (omega (arith, some, whole, less))
