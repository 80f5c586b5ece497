-- What a command that reads no input leaves of it, and why it ends with its status.
use Rattle.std.proofs.Common.{◌≡◌, ◌≢◌, ◌⊎◌, ℕ, inl, inr, refl, arith}
use Rattle.ace_io.specs.Faults.{Rose}
use Rattle.ace_top.specs.Answer.{HasStatusCause}

pub alone_cause : (status input out out' notes notes' : ℕ) → (status ≡ 5 → Rose out out' ⊎ Rose notes notes') → (status ≢ 5 → out' ≡ out)
    → (status ≢ 5 → notes' ≡ notes) → (status ≡ 0) ⊎ ((status ≡ 5) ⊎ (status ≡ 7)) → HasStatusCause status input input out out' notes notes'
alone_cause status input out out' notes notes' fault out_steady notes_steady (inl is) = record {
  read_fault = λ four. absurd (omega (arith, is, four));
  input_failed = λ failed. absurd (failed refl);
  write_fault = fault;
  out_steady = out_steady;
  notes_steady = notes_steady;
  no_usage = λ two. absurd (omega (arith, is, two));
  bound = omega (arith, is);
}
alone_cause status input out out' notes notes' fault out_steady notes_steady (inr (inl is)) = record {
  read_fault = λ four. absurd (omega (arith, is, four));
  input_failed = λ failed. absurd (failed refl);
  write_fault = fault;
  out_steady = out_steady;
  notes_steady = notes_steady;
  no_usage = λ two. absurd (omega (arith, is, two));
  bound = omega (arith, is);
}
alone_cause status input out out' notes notes' fault out_steady notes_steady (inr (inr is)) = record {
  read_fault = λ four. absurd (omega (arith, is, four));
  input_failed = λ failed. absurd (failed refl);
  write_fault = fault;
  out_steady = out_steady;
  notes_steady = notes_steady;
  no_usage = λ two. absurd (omega (arith, is, two));
  bound = omega (arith, is);
}

pub ruleset carried_out = (alone_cause)
