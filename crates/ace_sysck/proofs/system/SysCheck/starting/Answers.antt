use Rattle.std.proofs.Common.{refl}
use Rattle.ace_sysck.proofs.system.SysCheck.starting.Goals as goal

pub returns-clause-stands : goal.returns-clause-stands
returns-clause-stands c = λ registrations is_header. record {
  header = refl;
  ports = is_header;
  accepted = tt;
  barriers = c.in-Ok.ensures c.args.header refl;
  monitors = c.in-Ok-new.ensures c.args.header refl;
  results = c.in-Ok-new-2.ensures c.args.header refl;
  registrations = registrations;
  messages = c.in-Ok-new-3.ensures c.args.header refl;
  inboxes = c.in-Ok-new-4.ensures;
  syncs = c.in-Ok-new-5.ensures c.args.header refl;
}
