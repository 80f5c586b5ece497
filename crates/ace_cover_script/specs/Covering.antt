-- The plan that is made from a number to reach points of coverage.
use Rattle.std.specs.Prelude.{ℕ, zero, suc, ◌+◌, ◌*◌, ◌/◌, ◌%◌, ◌^◌, ◌==◌, nat_le, nat_lt, if◌then◌else◌, List, [], ◌∷◌}
use Rattle.rand_pcg.specs.Lcg.{Lcg, started, increment_of}
use Rattle.rand_pcg.specs.Pcg.{pcg32, multiplier_64}
use Rattle.ace_codes.specs.declared.kind.ArKind.{ArKind}
use Rattle.ace_codes.specs.declared.kind.ArKind.TheVariants as read
use Rattle.ace_model.specs.declared.plans.Op.{Op}
use Rattle.ace_model.specs.declared.plans.Op.TheVariants.{Ld, Ldx, St, Stx, Fill, Pf, Wb, Wc, Ev, We, Ro, Cs, Ci, Mi, Rn, Wu, Wlu, Wn, Mb, Sb, Dvm, Sync, Dvm2}
use Rattle.ace_model.specs.declared.plans.PlanOp.{PlanOp}
use Rattle.ace_model.specs.Plans.{Plan}
use Rattle.ace_script.specs.Generated.{repeated, repeated_line}
use Rattle.ace_cover_script.specs.Shapes.{shape_of, header_of, policy_of}
use Rattle.ace_cover_script.specs.declared.places.Places.{Places}
use Rattle.ace_cover_script.specs.declared.shape.Shape.{Shape}

-- what an operation may name: one of the lines that are snooped, one of those that aren't, and a
-- word of the line
abbrev pub places_of : Shape → ℕ → Places
places_of shape x = record {
  snooped = 0x1000 + 64 * (x / 256 % shape.lines);
  unsnooped = 0x8000 + 64 * (x / 256 % shape.lines);
  word = x / 4096 % 4;
}

-- the word of a message of one of four operations
abbrev pub message_word : ℕ → ℕ
message_word y = 0x1000 * (y % 4)

-- loads and stores, by a pick from 0 to 15
abbrev pub access_op : ℕ → Places → ℕ → Op
access_op pick places y =
    if nat_le pick 3 then Ld places.snooped places.word
    else (if nat_le pick 6 then Ldx places.snooped places.word
    else (if nat_le pick 10 then St places.snooped places.word (repeated y)
    else (if nat_le pick 13 then Stx places.snooped places.word (repeated y)
    else Fill places.snooped (repeated_line y))))

-- how a line is read ahead
abbrev pub fetch_kind : ℕ → ArKind
fetch_kind pick =
    if nat_le pick 2 then read.ReadShared
    else (if nat_le pick 6 then read.ReadClean
    else (if nat_le pick 10 then read.ReadNotSharedDirty
    else read.ReadUnique))

-- a cache gives a line up or writes it to memory; DVM messages
abbrev pub yielding_op : ℕ → Places → ℕ → Op
yielding_op pick places y =
    if nat_le pick 2 then Wb places.snooped
    else (if nat_le pick 5 then Wc places.snooped
    else (if nat_le pick 7 then Ev places.snooped
    else (if nat_le pick 11 then We places.snooped
    else (if nat_le pick 13 then Dvm (message_word y)
    else (if pick == 14 then Dvm2 (message_word y + 1) y
    else Sync 0xc000)))))

-- what any port may do
abbrev pub shared_op : ℕ → Places → ℕ → Op
shared_op pick places y =
    if nat_le pick 4 then Ro places.snooped
    else (if nat_le pick 7 then Cs places.snooped
    else (if pick == 8 then Ci places.snooped
    else (if pick == 9 then Mi places.snooped
    else (if pick == 10 then Wu places.snooped (0xffff * 2 ^ (16 * places.word)) (repeated_line y)
    else (if pick == 11 then Wlu places.snooped (repeated_line y)
    else (if pick == 12 then Rn places.unsnooped
    else (if pick == 13 then Wn places.unsnooped 0xffff_ffff_ffff_ffff (repeated_line y)
    else (if pick == 14 then Mb else Sb))))))))

-- an operation of an ACE port, by its sort from 0 to 3 and the pick
abbrev pub ace_op : ℕ → ℕ → Places → ℕ → Op
ace_op sort pick places y =
    if sort == 0 then access_op pick places y
    else (if sort == 1 then Pf places.snooped (fetch_kind pick)
    else (if sort == 2 then yielding_op pick places y
    else shared_op pick places y))

-- the operation of two words of the generator
unfoldable pub drawn_operation : Shape → ℕ → ℕ → PlanOp
drawn_operation shape x y =
    record {
      port = x % (shape.aces + shape.lites);
      op = if nat_lt (x % (shape.aces + shape.lites)) shape.aces
          then ace_op (x / 0x10_0000 % 4) (x / 0x1_0000 % 16) (places_of shape x) y
          else shared_op (x / 0x1_0000 % 16) (places_of shape x) y;
    }

-- so many operations, each of the generator's next two words
unfoldable pub drawn : Shape → ℕ → Lcg → List PlanOp
drawn shape zero words = []
drawn shape (suc count) words =
    drawn_operation shape (pcg32 words).0 (pcg32 (pcg32 words).1).0
    ∷ drawn shape count (pcg32 (pcg32 words).1).1

-- how many operations such a plan has
abbrev pub covering_count : ℕ
covering_count = 1024

-- the plan of this shape, whose operations these words give
abbrev pub covering_of : ℕ → Shape → Lcg → Plan
covering_of n shape words = record {
  header = header_of shape;
  ways = shape.ways;
  policy = policy_of n;
  operations = drawn shape covering_count words;
}

-- by a generator: its next two words give the shape, and those behind them the operations
abbrev pub covering_from : ℕ → Lcg → Plan
covering_from n words =
    covering_of n (shape_of (pcg32 words).0 (pcg32 (pcg32 words).1).0) (pcg32 (pcg32 words).1).1

-- the plan that is made from n, by the generator that starts from n, on stream 1
abbrev pub covering : ℕ → Plan
covering n = covering_from n (started 64 multiplier_64 n (increment_of 64 1))
