use Rattle.std.proofs.Common.{◌≡◌, ◌/◌, ◌*◌, ◌^◌, ◌%◌, ap, ◌∙◌, ◌==◌}
use Rattle.std.specs.Prelude.{bit_and}
use Rattle.std.proofs.Math.ListN.{get_or}
use Rattle.std.proofs.lemmas.Nat.{and_mask}
use Rattle.ace_event.specs.declared.event.Event.TheVariants.{W}
use Rattle.ace_master.proofs.Beats.{beat-power}
use Rattle.ace_master.proofs.operations.beat.Goals as goal

pub returns : goal.returns
returns c =
    let s = c.args.carried.now.strobe in
    let k = c.args.number in
    let strobe : bit_and (s / 2 ^ (16 * k)) 65535 ≡ s / 65536 ^ k % 65536 = and_mask (s / 2 ^ (16 * k)) 16 ∙ ap (λ n. s / n % 65536) (beat-power k c.requires) in
    ap (λ n. W c.args.port n (k == 3) (get_or c.args.carried.now.line.words c.from.result 0)) strobe
    ∙ ap (λ n. W c.args.port (s / 65536 ^ k % 65536) (k == 3) (get_or c.args.carried.now.line.words n 0)) c.from.ensures
