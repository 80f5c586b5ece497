-- The plan that is made from a number.
use Rattle.std.specs.Prelude.{ℕ, zero, suc, ◌+◌, ◌*◌, ◌/◌, ◌%◌, ◌^◌, ◌==◌, nat_le, if◌then◌else◌, List, [], ◌∷◌}
use Rattle.rand_pcg.specs.Lcg.{Lcg, started, increment_of}
use Rattle.rand_pcg.specs.Pcg.{pcg32, multiplier_64}
use Rattle.ace_codes.specs.declared.kind.ArKind.TheVariants as read
use Rattle.ace_event.specs.declared.header.Header.{Header}
use Rattle.ace_event.specs.declared.line.Line.{Line}
use Rattle.ace_model.specs.declared.plans.Op.{Op}
use Rattle.ace_model.specs.declared.plans.Op.TheVariants.{Ld, Ldx, St, Stx, Fill, Pf, Wb, Wc, Ro, Cs, Ci, Rn, Wu, Wlu, Wn, Mb, Sb, Dvm}
use Rattle.ace_model.specs.declared.plans.PlanOp.{PlanOp}
use Rattle.ace_model.specs.declared.plans.PolicyWord.TheVariants.{Mixed}
use Rattle.ace_model.specs.Plans.{Plan}

-- three ACE ports and one ACE-Lite port
abbrev pub generated_header : Header
generated_header = record { version = 1; ports = 4; ace = 7 }

-- the four bytes of y, four times
abbrev pub repeated : ℕ → ℕ
repeated y = y * 0x1_0000_0001_0000_0001_0000_0001

-- that word, four times
abbrev pub repeated_line : ℕ → Line
repeated_line y = record { words = repeated y ∷ repeated y ∷ repeated y ∷ repeated y ∷ [] }

-- one of eight lines that are snooped, and one of eight that aren't
abbrev pub snooped_address : ℕ → ℕ
snooped_address x = 0x1000 + 64 * (x / 4 % 8)

abbrev pub unsnooped_address : ℕ → ℕ
unsnooped_address x = 0x8000 + 64 * (x / 4 % 8)

-- the number of a word
abbrev pub drawn_place : ℕ → ℕ
drawn_place x = x / 32 % 4

-- an operation of an ACE port, by the pick from 0 to 15
abbrev pub ace_op : ℕ → ℕ → ℕ → Op
ace_op pick x y =
    if nat_le pick 3 then Ld (snooped_address x) (drawn_place x)
    else (if nat_le pick 6 then St (snooped_address x) (drawn_place x) (repeated y)
    else (if pick == 7 then Ldx (snooped_address x) (drawn_place x)
    else (if pick == 8 then Stx (snooped_address x) (drawn_place x) (repeated y)
    else (if pick == 9 then Fill (snooped_address x) (repeated_line y)
    else (if pick == 10 then Wb (snooped_address x)
    else (if pick == 11 then Wc (snooped_address x)
    else (if pick == 12 then Cs (snooped_address x)
    else (if pick == 13 then Pf (snooped_address x) read.ReadUnique
    else (if pick == 14 then Mb else Dvm 0x1000)))))))))

-- an operation of the ACE-Lite port
abbrev pub lite_op : ℕ → ℕ → ℕ → Op
lite_op pick x y =
    if nat_le pick 3 then Ro (snooped_address x)
    else (if nat_le pick 6 then Wu (snooped_address x) (0xffff * 2 ^ (16 * drawn_place x))
    (repeated_line y)
    else (if nat_le pick 9 then Wlu (snooped_address x) (repeated_line y)
    else (if pick == 10 then Cs (snooped_address x)
    else (if pick == 11 then Ci (snooped_address x)
    else (if pick == 12 then Mb
    else (if pick == 13 then Sb
    else (if pick == 14 then Rn (unsnooped_address x)
    else Wn (unsnooped_address x) 0xffff_ffff_ffff_ffff (repeated_line y))))))))

-- the operation of two words of the generator
unfoldable pub drawn_operation : ℕ → ℕ → PlanOp
drawn_operation x y =
    record {
      port = x % 4;
      op = if x % 4 == 3 then lite_op (x / 256 % 16) x y
          else ace_op (x / 256 % 16) x y;
    }

-- so many operations, each of the generator's next two words
unfoldable pub drawn : ℕ → Lcg → List PlanOp
drawn zero words = []
drawn (suc count) words =
    drawn_operation (pcg32 words).0 (pcg32 (pcg32 words).1).0
    ∷ drawn count (pcg32 (pcg32 words).1).1

-- how many operations a generated plan has
abbrev pub generated_count : ℕ
generated_count = 512

-- the plan that is made from n, by the generator that starts from n, on stream 1
abbrev pub generated : ℕ → Plan
generated n = record {
  header = generated_header;
  ways = 4;
  policy = Mixed n;
  operations = drawn generated_count (started 64 multiplier_64 n (increment_of 64 1));
}
