use Rattle.std.proofs.Common.{◌≡◌, ◌∷◌, true, false, refl, sym, subst}
use Rattle.ace_lineck.proofs.Terms.{R, target_of, LineStands, IsRecordStep}
use Rattle.ace_lineck.proofs.AllLines.{unplaced}
use Rattle.ace_lineck.proofs.Heard.{heard, taken}
use Rattle.ace_lineck.proofs.Rooms.{written-fits}
use Rattle.ace_lineck.proofs.BeatSteps.{beat-may, beat-port}
use Rattle.ace_lineck.proofs.lines.LineCheck.hear_beat.Goals as goal

pub returns-in_default-clause-stands : goal.returns-in_default-clause-stands
returns-in_default-clause-stands c r p i resp word st out kind line at fine few = unplaced c.args.self.now r _ _ c.args.place (beat-may c.args.self.now r p i resp c.args.last word c.args.x.now c.args.kind c.args.place st out kind line at fine few) c.in_default.is

pub returns-in_default-get_index_mut-clause-stands : goal.returns-in_default-get_index_mut-clause-stands
returns-in_default-get_index_mut-clause-stands c r p i resp word st out kind line at fine few =
    let within = taken c.args.self.now r _ c.args.place (beat-may c.args.self.now r p i resp c.args.last word c.args.x.now c.args.kind c.args.place st out kind line at fine few) c.in-Some.place c.in-Some.is in
    let bad : false ≡ true = c.in_default-get_index_mut.ensures.found.1 within in cc

pub returns-clause-stands : goal.returns-clause-stands
returns-clause-stands c r p i resp word st out kind line at fine few =
    let was = c.in-Some-get_index_mut.kept.now in
    heard c.args.self.now r _ c.args.place (beat-may c.args.self.now r p i resp c.args.last word c.args.x.now c.args.kind c.args.place st out kind line at fine few) c.in-Some.place c.in-Some.is was c.advance.new.kept c.in-Some-get_index_mut.ensures.value c.get_index_mut.ensures.unique
    (λ l step.
    let e = R p i resp c.args.last word in
    let port = beat-port r.header r.past l p i resp c.args.last word _ c.args.x.now out step.step in
    subst (λ v. LineStands v (e ∷ r.past) l c.advance.new.kept) st.header
    (subst (λ q. IsRecordStep c.args.self.now.header r.past l (R q i resp c.args.last word) (target_of r.header r.past e) was → LineStands c.args.self.now.header (R q i resp c.args.last word ∷ r.past) l c.advance.new.kept) port
    (λ s. c.advance.ensures.stands r.past l i resp word _ s out kind) (subst (λ v. IsRecordStep v r.past l e (target_of r.header r.past e) was) (sym st.header) step))) c.advance.ensures.room c.advance.ensures.used

pub returns-clause-roomy : goal.returns-clause-roomy
returns-clause-roomy c = written-fits c.args.self.now _ c.in-Some.place _ refl refl
