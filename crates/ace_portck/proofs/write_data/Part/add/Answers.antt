use Rattle.ace_portck.proofs.Parts.{part_more}
use Rattle.ace_portck.proofs.write_data.Part.add.Goals as goal

pub returns-then-beat-lt4 : goal.returns-then-beat-lt4
returns-then-beat-lt4 c = λ bs low s.
    part_more bs (record { strobe = c.args.strobe; word = c.args.word }) c.args.self.now c.from-beat.result low c.from-beat.ensures s
