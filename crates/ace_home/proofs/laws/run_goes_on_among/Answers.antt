use Rattle.ace_home.proofs.GoesOnAmong.{goes-on-among}
use Rattle.ace_home.proofs.laws.run_goes_on_among.Goals as goal

pub returns : goal.returns
returns c = λ among plan past right steps follows holders. goes-on-among among plan past steps holders right follows
