-- Whether events are the same, as a test.
use Rattle.std.specs.Prelude.{Bool, true, false, ◌&&◌, ◌==◌, List, [], ◌∷◌}
use Rattle.ace_event.specs.declared.event.Event.{Event}
use Rattle.ace_event.specs.declared.event.Event.TheVariants.{Ar, R, Rk, Aw, W, B, Wk, Ac, Cr, Cd, G, M, S, L, D, Op, Mem}
use Rattle.ace_event.specs.declared.event.Outcome.{Outcome}
use Rattle.ace_event.specs.declared.event.Outcome.TheVariants.{Ok, Skip, Fail}
use Rattle.ace_tables.specs.Answers.{same_test}
use Rattle.ace_tables.specs.States.{same_state}
use Rattle.ace_model.specs.Transactions.{same_channel}
use Rattle.ace_model.specs.Copies.{same_line}

abbrev pub same_outcome : Outcome → Outcome → Bool
same_outcome Ok Ok = true
same_outcome Skip Skip = true
same_outcome Fail Fail = true
same_outcome _ _ = false

abbrev pub same_event : Event → Event → Bool
same_event (Ar p i a s d b l) (Ar q j c t e f m) =
    (p == q) && (i == j) && (a == c) && (s == t) && (d == e) && (b == f) && same_test l m
same_event (R p i resp last word) (R q j r l w) =
    (p == q) && (i == j) && (resp == r) && same_test last l && (word == w)
same_event (Rk p st) (Rk q t) = (p == q) && same_state st t
same_event (Aw p i a s d b) (Aw q j c t e f) =
    (p == q) && (i == j) && (a == c) && (s == t) && (d == e) && (b == f)
same_event (W p strb last word) (W q s l w) =
    (p == q) && (strb == s) && same_test last l && (word == w)
same_event (B p i resp) (B q j r) = (p == q) && (i == j) && (resp == r)
same_event (Wk p st) (Wk q t) = (p == q) && same_state st t
same_event (Ac p a s) (Ac q c t) = (p == q) && (a == c) && (s == t)
same_event (Cr p resp st) (Cr q r t) = (p == q) && (resp == r) && same_state st t
same_event (Cd p last word) (Cd q l w) = (p == q) && same_test last l && (word == w)
same_event (G p c i) (G q d j) = (p == q) && same_channel c d && (i == j)
same_event (M p c i line) (M q d j l) = (p == q) && same_channel c d && (i == j) && same_line line l
same_event (S p a st) (S q c t) = (p == q) && (a == c) && same_state st t
same_event (L p a w x word) (L q c v y o) =
    (p == q) && (a == c) && (w == v) && same_test x y && (word == o)
same_event (D p a s x line) (D q c t y l) =
    (p == q) && (a == c) && (s == t) && same_test x y && same_line line l
same_event (Op p k res) (Op q n r) = (p == q) && (k == n) && same_outcome res r
same_event (Mem a line) (Mem c l) = (a == c) && same_line line l
same_event _ _ = false

abbrev pub same_burst : List Event → List Event → Bool
same_burst [] [] = true
same_burst (d ∷ ds) (e ∷ es) = same_event d e && same_burst ds es
same_burst _ _ = false
