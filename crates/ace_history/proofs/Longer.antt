-- A history with one entry more, and that of a trace whose plan is longer.
use Rattle.std.proofs.Common.{◌≡◌, ℕ, List, [], ◌∷◌, ◌++◌, refl, sym, ap, ◌∙◌, append_assoc}
use Rattle.ace_event.specs.declared.event.Event.TheVariants as event
use Rattle.ace_event.specs.declared.line.Line.{Line}
use Rattle.ace_model.specs.declared.plans.PlanOp.{PlanOp}
use Rattle.ace_model.specs.Plans.{Plan, longer}
use Rattle.ace_model.specs.Trace.{Trace}
use Rattle.ace_runs.specs.Follows.{FollowsSoFar}
use Rattle.ace_runs.proofs.LongerPlans.{next-longer}
use Rattle.ace_runs.proofs.NeverStuck.Phases.NextActs.{retires-next}
use Rattle.ace_history.specs.declared.entry.Entry.{Entry}
use Rattle.ace_history.specs.Histories.{history_of}
use Rattle.ace_history.specs.Stored.{AreRightWords, line_after, line_by, word_left}

pub line_after-snoc : (a : ℕ) (line : Line) (h : List Entry) (e : Entry) → line_after a line (h ++ e ∷ []) ≡ line_by a e.op e.res (line_after a line h)
line_after-snoc a line [] e = refl
line_after-snoc a line (x ∷ h) e = line_after-snoc a (line_by a x.op x.res line) h e

pub words-snoc : (before h : List Entry) (e : Entry) → AreRightWords before h → e.word ≡ word_left (before ++ h) e.op → AreRightWords before (h ++ e ∷ [])
words-snoc before [] e w right = (right ∙ ap (λ b. word_left b e.op) (append-none before), tt)
  where
    append-none : (xs : List Entry) → xs ++ [] ≡ xs
    append-none [] = refl
    append-none (x ∷ xs) = ap (λ l. x ∷ l) (append-none xs)
words-snoc before (x ∷ h) e w right =
    (w.0, words-snoc (before ++ x ∷ []) h e w.1 (right ∙ ap (λ b. word_left b e.op) (sym (append_assoc before (x ∷ []) h))))

-- a longer plan has the same history
pub history-longer : (plan : Plan) (o : PlanOp) (past : Trace) → FollowsSoFar plan past → history_of (longer plan o) past ≡ history_of plan past
history-longer plan o [] f = refl
history-longer plan o (event.Op p k res ∷ past) f =
    let r = retires-next plan past p k res f.1 in
    let later = next-longer plan (o ∷ []) past p r.0 r.1 in
    rw (r.1, later, history-longer plan o past f.0) refl
history-longer plan o (_ ∷ past) f = history-longer plan o past f.0
