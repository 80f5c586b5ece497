-- Events that issue no transaction and are no response, among them what ends an operation and what acknowledges.
use Rattle.std.proofs.Common.{◌≡◌, ℕ, Bool, true, false, not, ◌&&◌, ◌==◌, List, Option, refl}
use Rattle.std.specs.List.{list_all}
use Rattle.ace_event.specs.declared.event.Event.{Event}
use Rattle.ace_event.specs.declared.event.Event.TheVariants.{Ar, R, Aw, B}
use Rattle.ace_event.specs.declared.header.Header.{Header}
use Rattle.ace_model.specs.declared.plans.Op.{Op}
use Rattle.ace_model.specs.Trace.{Trace, is_none_or}
use Rattle.ace_model.specs.Transactions.{is_line, issued}
use Rattle.ace_runs.specs.Closing.{closing_of}
use Rattle.ace_runs.specs.MasterSteps.{acknowledges}
use Rattle.ace_runs.proofs.NeverStuck.Steps.SameEvents.{TellsSame, tells-same}
use Rattle.ace_runs.proofs.NeverStuck.Steps.Concluding.{Concludes, acknowledges-all, closing-all}

-- the event issues no transaction, and no response
abbrev pub is_quiet : Event → Bool
is_quiet (Ar p i addr snoop dom bar lock) = false
is_quiet (Aw p i addr snoop dom bar) = false
is_quiet (R p i resp last word) = false
is_quiet (B p i resp) = false
is_quiet _ = true

-- it is no response; what it issues is a transaction of the port with bar 0, which is no barrier
abbrev pub is_ordinary : ℕ → Event → Bool
is_ordinary p (Ar q i addr snoop dom bar lock) = (p == q) && (bar == 0)
is_ordinary p (Aw q i addr snoop dom bar) = (p == q) && (bar == 0)
is_ordinary p (R q i resp last word) = false
is_ordinary p (B q i resp) = false
is_ordinary p _ = true

-- what it issues is no line transaction
abbrev pub issues_no_line : Event → Bool
issues_no_line e = is_none_or (issued 0 e) (λ x. not (is_line x))

pub quiet-ordinary : (p : ℕ) (e : Event) → is_quiet e ≡ true → is_ordinary p e ≡ true
quiet-ordinary p (Ar q i addr snoop dom bar lock) m = cc
quiet-ordinary p (Aw q i addr snoop dom bar) m = cc
quiet-ordinary p (R q i resp last word) m = cc
quiet-ordinary p (B q i resp) m = cc
quiet-ordinary p e m = refl

pub quiet-no-line : (e : Event) → is_quiet e ≡ true → issues_no_line e ≡ true
quiet-no-line (Ar q i addr snoop dom bar lock) m = cc
quiet-no-line (Aw q i addr snoop dom bar) m = cc
quiet-no-line e m = refl

pub same-quiet : TellsSame is_quiet
same-quiet = tells-same is_quiet (λ p c i line. refl) (λ p a s x line. refl) (λ a line. refl)

-- ---- what ends an operation, and what acknowledges ---------------------------------------------------

quiet-concludes : (p : ℕ) → Concludes p is_quiet
quiet-concludes p = record { reads = λ st. refl; writes = λ st. refl; loads = λ a w x word. refl; stores = λ a s x line. refl; retires = λ k res. refl }

pub closing-quiet : (h : Header) (past : Trace) (p : ℕ) (o : Op) → list_all is_quiet (closing_of h past p o) ≡ true
closing-quiet h past p o = closing-all p is_quiet (quiet-concludes p) h past o

pub acknowledges-quiet : (next : Option Op) (h : Header) (past : Trace) (p : ℕ) (burst : List Event) → acknowledges next h past p burst ≡ true → list_all is_quiet burst ≡ true
acknowledges-quiet next h past p burst s = acknowledges-all p is_quiet (quiet-concludes p) same-quiet next h past burst s
