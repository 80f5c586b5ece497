-- What an event belongs to, and what else is asked of its port: the state before the event.
use Rattle.std.specs.Prelude.{ℕ, Option}
use Rattle.ace_model.specs.declared.snoops.Snoop.{Snoop}
use Rattle.ace_portck.specs.declared.target.Progress.{Progress}
use Rattle.ace_portck.specs.declared.target.WriteData.{WriteData}

pub record Target : Type 0 where
  -- the transaction that the event begins, or belongs to
  pub transaction : Option Progress
  -- the snoop that it begins, answers, or sends data for
  pub snoop : Option Snoop
  -- the line that it names, or that these name
  pub line : Option ℕ
  -- of an S, L, D, AC or CR: the port's outstanding transaction on that line
  pub own : Option Progress
  -- of a W or CD: which beat of its burst it is, from 0
  pub beat : ℕ
  -- of the M of a write: its burst, where it is whole and the write has had no M
  pub «data» : Option WriteData
  -- of an R or B of a barrier: the place of the port's oldest line transaction with bar 0 without
  -- its order point
  pub unordered : Option ℕ
  -- of an R or B of a barrier: the place of the port's oldest line transaction with bar 0 that
  -- isn't complete
  pub incomplete : Option ℕ
