-- Exclusive transactions and the monitor of the interconnect, kept by port and line (Arm IHI 0022E,
-- C9).
use Rattle.std.specs.Prelude.{ℕ, Bool, false, not, ◌&&◌, ◌||◌, ◌==◌, if◌then◌else◌, [], ◌∷◌, Option, None, length, option_map}
use Rattle.ace_event.specs.declared.event.Channel.TheVariants.{Read}
use Rattle.ace_event.specs.declared.event.Event.{Event}
use Rattle.ace_model.specs.declared.transactions.Transaction.{Transaction}
use Rattle.ace_model.specs.Trace.{Trace, newer, is_some_and, option_filter}
use Rattle.ace_model.specs.Transactions.{has_name, is_named, is_on, issued, is_exclusive_store}
use Rattle.ace_model.specs.Grants.{given}

-- the exclusive load or store to which the event grants the line
abbrev pub exclusive_given : Trace → Event → ℕ → Option Transaction
exclusive_given past e l = option_filter (λ x. x.lock && is_on x l) (given past e)

-- The port is registered for the line: from the G of its own exclusive load or store until an
-- exclusive store of another port passes. A store passes where its own port is registered; that it
-- registers its port where it fails is our choice.
abbrev pub is_registered : Trace → ℕ → ℕ → Bool
is_registered [] p l = false
is_registered (e ∷ past) p l =
    is_some_and (exclusive_given past e l) (λ x. x.port == p)
    || (not (is_some_and (exclusive_given past e l) (λ x. is_exclusive_store x
    && is_registered past x.port l)) && is_registered past p l)

-- the exclusive store passes, if its G is next
abbrev pub store_passes : Trace → Transaction → Bool
store_passes past x = is_registered past x.port x.addr

-- what the event says of the port's exclusive store under the identifier: it passes or fails at its
-- G
abbrev pub store_result : Trace → Option Transaction → ℕ → ℕ → Option Bool
store_result past o p i =
    option_map (store_passes past) (option_filter (λ x. has_name x p Read i
    && is_exclusive_store x) o)

-- whether the port's last read under the identifier, where it is an exclusive store that had its G,
-- passed
abbrev pub passed_at_grant : Trace → ℕ → ℕ → Option Bool
passed_at_grant [] p i = None
passed_at_grant (e ∷ past) p i =
    if is_named (issued (length past) e) p Read i then None
    else newer (store_result past (given past e) p i) (passed_at_grant past p i)

-- it is an exclusive store that failed
abbrev pub has_failed : Trace → Transaction → Bool
has_failed past x = is_exclusive_store x && is_some_and (passed_at_grant past x.port x.id) not

-- it is an exclusive store that passed
abbrev pub has_passed : Trace → Transaction → Bool
has_passed past x =
    is_exclusive_store x && is_some_and (passed_at_grant past x.port x.id) (λ passed. passed)
