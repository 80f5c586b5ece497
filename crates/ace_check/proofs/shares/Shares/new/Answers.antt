use Rattle.std.proofs.Common.{refl}
use Rattle.ace_check.proofs.shares.Shares.new.Goals as goal

pub returns : goal.returns
returns c = record {
  tell = record {
    ports = c.in_ok-ports.ensures.stands c.requires;
    lines = c.in_ok-lines.ensures.stands c.requires;
    system = c.in_ok-system.ensures.stands c.requires;
  };
  room = record { most = refl; ports = c.in_ok-ports.ensures.room; lines = c.in_ok-lines.ensures.room; system = c.in_ok-system.ensures.room };
}
