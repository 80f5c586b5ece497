use Rattle.ace_tool.proofs.Sound.{sound_where_accepted}
use Rattle.ace_tool.proofs.laws.accepted_traces_are_sound.Goals as goal

pub returns : goal.returns
returns c options = sound_where_accepted options (c.one_verdict_is_due.ensures.sound options.limits)
