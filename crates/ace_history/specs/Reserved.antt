-- Which lines the ports have reserved after the entries of a history, and exclusive stores.
use Rattle.std.specs.Prelude.{ℕ, ◌≡◌, ⊤, Bool, true, false, not, ◌&&◌, ◌||◌, ◌==◌}
use Rattle.std.specs.Prelude.{if◌then◌else◌, List, [], ◌∷◌, ◌++◌}
use Rattle.std.specs.List.{AllByRecursion}
use Rattle.ace_event.specs.declared.event.Outcome.{Outcome}
use Rattle.ace_event.specs.declared.event.Outcome.TheVariants.{Ok}
use Rattle.ace_model.specs.declared.plans.Op.{Op}
use Rattle.ace_model.specs.declared.plans.Op.TheVariants.{Ldx, St, Stx}
use Rattle.ace_history.specs.declared.entry.Entry.{Entry}
use Rattle.ace_history.specs.Stored.{is_ok}

-- Whether port p has line a reserved after an operation of port q with this outcome, where it was
-- so before. A `ldx` of the port reserves its own line alone. A store of another port to the line
-- ends that, and so does a `stx` of the port that is `ok`.
abbrev pub reserved_by : ℕ → ℕ → ℕ → Op → Outcome → Bool → Bool
reserved_by p a q (Ldx b w) res was = if p == q then a == b else was
reserved_by p a q (St b w word) res was = if not (p == q) && (a == b) then false else was
reserved_by p a q (Stx b w word) res was =
    if is_ok res && ((p == q) || (a == b)) then false else was
reserved_by p a q _ res was = was

-- whether the port has the line reserved after the entries
abbrev pub reserved_after : ℕ → ℕ → Bool → List Entry → Bool
reserved_after p a was [] = was
reserved_after p a was (e ∷ history) =
    reserved_after p a (reserved_by p a e.port e.op e.res was) history

-- With these lines reserved the operation may end with the outcome: a `stx` that is `ok` has its
-- own line reserved.
abbrev pub MayEnd : (ℕ → ℕ → Bool) → ℕ → Op → Outcome → Type 0
MayEnd reserved p (Stx a w word) Ok = reserved p a ≡ true
MayEnd reserved p _ res = ⊤

abbrev pub is_reserved : List Entry → ℕ → ℕ → Bool
is_reserved before p a = reserved_after p a false before

-- Each `stx` of the rest that is `ok` has its line reserved by the entries before it.
abbrev pub AreExclusive : List Entry → List Entry → Type 0
AreExclusive before [] = ⊤
AreExclusive before (e ∷ rest) =
    MayEnd (is_reserved before) e.port e.op e.res × AreExclusive (before ++ e ∷ []) rest

-- ---- in plain words --------------------------------------------------------------------------

-- the operation is a `ldx` of the line
abbrev pub reserves_line : ℕ → Op → Bool
reserves_line a (Ldx b w) = a == b
reserves_line a _ = false

-- with this outcome it stores to the line
abbrev pub is_store_to : ℕ → Op → Outcome → Bool
is_store_to a (St b w word) res = a == b
is_store_to a (Stx b w word) res = is_ok res && (a == b)
is_store_to a _ res = false

-- the entry is no store of another port to the line
abbrev pub LeavesLine : ℕ → ℕ → Entry → Type 0
LeavesLine p a e = (not (p == e.port) && is_store_to a e.op e.res) ≡ false

-- Among the entries is a `ldx` of the port on the line, and after it no other port stores to it.
pub record IsLoadedBefore (before : List Entry) (p a : ℕ) : Type 0 where
  pub earlier : List Entry
  pub load : Entry
  pub between : List Entry
  pub parts : before ≡ earlier ++ load ∷ between
  pub port : load.port ≡ p
  pub line : reserves_line a load.op ≡ true
  pub undisturbed : AllByRecursion (LeavesLine p a) between
