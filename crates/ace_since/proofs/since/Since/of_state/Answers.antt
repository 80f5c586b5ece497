use Rattle.std.proofs.Common.{◌∙◌, ap, sym}
use Rattle.std.specs.Option.{option_copied}
use Rattle.ace_since.proofs.Kept.{never-moved}
use Rattle.ace_since.proofs.since.Since.of_state.Goals as goal

pub returns-in-None : goal.returns-in-None
returns-in-None c = λ h past s. sym (never-moved h past c.args.self.now c.args.line c.args.port (sym c.get.ensures ∙ ap option_copied c.in-None.is) s)
