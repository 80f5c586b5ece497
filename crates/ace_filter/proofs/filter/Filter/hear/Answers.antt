use Rattle.std.proofs.Common.{◌≡◌, ◌≢◌, ◌&&◌, ◌||◌, not, nat_eq, ◌∷◌, ◌<◌, ℕ, Some, sym, ap, ◌∙◌, arith}
use Rattle.ace_filter.proofs.Terms.{IsAccepted, IsChange, IsHeard, bit_at, is_dropped, is_taken, port_of, set_of}
use Rattle.ace_filter.proofs.Issuers.{taking}
use Rattle.ace_filter.proofs.SetSteps.{known-fits, sets-after, sets-still}
use Rattle.ace_filter.proofs.Watched.{watched-still}
use Rattle.ace_model.proofs.Lines.Known.{known-grown}
use Rattle.ace_portck.proofs.AllPorts.{port_below}
use Rattle.ace_filter.proofs.filter.Filter.hear.Goals as goal

pub returns-in-Some-clause-stands : goal.returns-in-Some-clause-stands
returns-in-Some-clause-stands c = λ h past m.
    let s = m.stands in
    let e = c.args.event.now in
    let room = c.args.self.now.room in
    let port = c.in-Some.port in
    let change = c.hear_at-change.result in
    let own : port_of e ≡ Some port = sym c.port_of.ensures ∙ c.in-Some.is in
    let accepted : IsAccepted h (e ∷ past) = (s.accepted, m.keeps) in
    let in_header = port_below h past e port accepted own in
    let most = s.header.most_ports in
    let below : port < 32 = omega (arith, in_header, most) in
    let heard : IsHeard h past e port = record { accepted = accepted; port = own; few = m.few } in
    let fits = known-fits past e room s.fits m.room in
    let lines = c.begin.ensures.lines past room s.sets.lines_stand fits in
    let is : IsChange past e port change = c.hear_at-change.ensures.change h past room heard below s.ports in
    let bits = c.change.ensures.sets below (λ l t. lines.there l (known-grown e past l (taking h past e port l s.accepted (is.takes_it l ∙ t)).known)) in
    record {
      header = s.header;
      accepted = accepted;
      fits = fits;
      sets = record {
        sets = sets-after h past e port change s.accepted own is (set_of c.args.self.now.sets) (set_of c.change.new.self) s.sets.sets
            (λ l p. bits l p
            ∙ ap (λ b. (nat_eq port p && is_taken change l) || (not (nat_eq port p && is_dropped change l) && nat_eq (bit_at b p) 1)) (c.begin.ensures.sets l));
        lines_stand = c.change.ensures.lines (e ∷ past) room lines;
      };
      ports = c.hear_at-change.ensures.stands h past room heard s.fits s.ports;
    }

pub returns-in_default-clause-stands : goal.returns-in_default-clause-stands
returns-in_default-clause-stands c = λ h past m.
    let s = m.stands in
    let e = c.args.event.now in
    let room = c.args.self.now.room in
    let none : (p : ℕ) → port_of e ≢ Some p = λ p own. c.in_default.not-Some p (c.port_of.ensures ∙ own) in
    let fits = known-fits past e room s.fits m.room in
    record {
      header = s.header;
      accepted = (s.accepted, m.keeps);
      fits = fits;
      sets = record {
        sets = λ l p. ap (λ b. nat_eq (bit_at b p) 1) (c.begin.ensures.sets l) ∙ s.sets.sets l p ∙ sym (sets-still h past e none l p);
        lines_stand = c.begin.ensures.lines past room s.sets.lines_stand fits;
      };
      ports = watched-still room past e c.args.self.now.ports.items s.ports (λ p low. none p);
    }
