use Rattle.ace_cert_make.proofs.Law.{given_follow}
use Rattle.ace_cert_make.proofs.laws.given_places_follow.Goals as goal

pub returns : goal.returns
returns c = given_follow
