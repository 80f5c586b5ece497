use Rattle.std.proofs.Common.{◌≡◌, true, List, [], reverse, take}
use Rattle.ace_cert.specs.declared.cert.LineOrder.{LineOrder}
use Rattle.ace_cert.specs.declared.cert.ReadPlace.{ReadPlace}
use Rattle.ace_cert.specs.Checks.{all_pass}
use Rattle.ace_cert.specs.Walk.{AreListed, AreMarksFit, ArePlacesKept, IsKept}
use Rattle.ace_cert.proofs.verification.walk.Given as goal

abbrev pub invariant-loop-place : goal.invariant-loop-place
invariant-loop-place l = record {
  passes : (lines : List LineOrder) (reads : List ReadPlace) → IsKept [] l.fn.kept → ArePlacesKept reads [] l.fn.kept.places → AreListed lines l.listed
      → all_pass lines reads (reverse (take l.place l.trace)) ≡ true;
  kept : (reads : List ReadPlace) → IsKept [] l.fn.kept → ArePlacesKept reads [] l.fn.kept.places
      → IsKept (reverse (take l.place l.trace)) l.kept × ArePlacesKept reads (reverse (take l.place l.trace)) l.kept.places;
  fit : AreMarksFit l.kept.lines.heads l.kept.lines.marks.items;
}
