-- The rules in three shares, as three folds look at them: what is kept of each port, of each line,
-- and of the system as a whole. Four rules have a part in two shares; such a rule is kept where
-- both parts are.
use Rattle.std.specs.Prelude.{ℕ, Bool, true, not, ◌&&◌, ◌||◌, ◌==◌, nat_lt, if◌then◌else◌, List, [], ◌∷◌, Option, Some, None}
use Rattle.ace_codes.specs.declared.kind.AwKind.{AwKind}
use Rattle.ace_event.specs.declared.event.Channel.TheVariants.{Read, Write}
use Rattle.ace_event.specs.declared.event.Event.{Event}
use Rattle.ace_event.specs.declared.event.Event.TheVariants.{W, Cd, R, B}
use Rattle.ace_event.specs.declared.header.Header.{Header}
use Rattle.ace_tables.specs.Answers.{same_test}
use Rattle.ace_model.specs.declared.transactions.Transaction.{Transaction}
use Rattle.ace_model.specs.Trace.{Trace, implies, is_none_or, is_some_and}
use Rattle.ace_model.specs.Kinds.{is_update, is_write_line_unique, has_write_data}
use Rattle.ace_model.specs.Transactions.{is_line, outstanding, read_kind, write_kind, is_complete}
use Rattle.ace_model.specs.Writes.{next_write, next_write_beat, has_memory_write}
use Rattle.ace_model.specs.Copies.{word_of, copy_of}
use Rattle.ace_model.specs.Replies.{next_sent, next_sent_beat}
use Rattle.ace_model.specs.AddressRules.{k1, k2, k3, k4, k5, k6, k7, k8, k9, k10}
use Rattle.ace_model.specs.SnoopRules.{full_beat, k12, k13, k14, k15, k16}
use Rattle.ace_model.specs.ReadRules.{is_next_transfer, may_transfer, k19, k20, k21, k22, k23}
use Rattle.ace_model.specs.WriteRules.{k24, k25, k27, k28}
use Rattle.ace_model.specs.CacheRules.{k29, k30, k31, k32, k33}
use Rattle.ace_model.specs.OrderRules.{k34, k35, k36, k37, k38, k39, k40}
use Rattle.ace_model.specs.Accepted.{Rule, rule}

-- the strobe is one that the kind asks for
abbrev pub fits_strobe : ℕ → AwKind → Bool
fits_strobe strobe k = implies (is_update k || is_write_line_unique k) (strobe == full_beat)

-- the beat of this number is the last exactly where it says so, and has the strobe that the kind
-- asks for
abbrev pub fits_burst : ℕ → ℕ → Bool → Transaction → Bool
fits_burst beat strobe last x =
    same_test last (beat == 3) && is_none_or (write_kind x) (fits_strobe strobe)

-- K11 but its data: the port of a W has a write with data whose burst isn't whole, and the beat
-- fits the burst.
abbrev pub k11_burst : Header → Trace → Event → Bool
k11_burst h past (W p strb last word) =
    is_some_and (next_write past p) (fits_burst (next_write_beat past p) strb last)
k11_burst h past _ = true

-- the word is the one that a memory update sends with the beat of this number
abbrev pub fits_copy : Trace → ℕ → ℕ → Transaction → Bool
fits_copy past beat word x =
    is_none_or (write_kind x) (λ k. implies (is_update k)
    (word == word_of (copy_of past x.port x.addr) beat))

-- The data of K11: a memory update sends the words of the port's copy.
abbrev pub k11_data : Header → Trace → Event → Bool
k11_data h past (W p strb last word) =
    is_none_or (next_write past p) (fits_copy past (next_write_beat past p) word)
k11_data h past _ = true

-- K17 but its data: the port of a CD has an answer whose burst isn't whole, and the beat is the
-- last exactly where it says so.
abbrev pub k17_burst : Header → Trace → Event → Bool
k17_burst h past (Cd p last word) =
    is_some_and (next_sent past p) (λ line. same_test last (next_sent_beat past p == 3))
k17_burst h past _ = true

-- The data of K17: the word is that of the port's copy at its answer.
abbrev pub k17_data : Header → Trace → Event → Bool
k17_data h past (Cd p last word) =
    is_none_or (next_sent past p) (λ line. word == word_of line (next_sent_beat past p))
k17_data h past _ = true

-- K18 but grant, snoops and passed data: an R names an outstanding read with transfers left, and is
-- the last exactly where it says so.
abbrev pub k18_transfer : Header → Trace → Event → Bool
k18_transfer h past (R p i resp last word) =
    is_some_and (outstanding h past p Read i) (λ x. is_some_and (read_kind x)
    (is_next_transfer past x last))
k18_transfer h past _ = true

-- The grant, the snoops and the passed data of K18, for a line transaction.
abbrev pub k18_line : Header → Trace → Event → Bool
k18_line h past (R p i resp last word) =
    is_none_or (outstanding h past p Read i) (λ x. implies (is_line x) (may_transfer h past x resp))
k18_line h past _ = true

-- K26 but M: a B names an outstanding write without B, and its response is 0.
abbrev pub k26_response : Header → Trace → Event → Bool
k26_response h past (B p i resp) =
    (resp == 0) && is_some_and (outstanding h past p Write i)
    (λ x. not (is_complete past x.port x.chan x.id))
k26_response h past _ = true

-- The M of K26: a write with data has had it.
abbrev pub k26_memory : Header → Trace → Event → Bool
k26_memory h past (B p i resp) =
    is_none_or (outstanding h past p Write i)
    (λ x. implies (is_some_and (write_kind x) has_write_data)
    (has_memory_write past x.port x.chan x.id))
k26_memory h past _ = true

-- the share of what is kept of a port
abbrev pub port_rules : List Rule
port_rules =
    rule 1 k1 ∷ rule 2 k2 ∷ rule 3 k3 ∷ rule 4 k4 ∷ rule 5 k5 ∷ rule 7 k7
    ∷ rule 10 k10 ∷ rule 11 k11_burst ∷ rule 14 k14
    ∷ rule 17 k17_burst ∷ rule 18 k18_transfer ∷ rule 22 k22 ∷ rule 26 k26_response
    ∷ rule 27 k27 ∷ rule 40 k40 ∷ []

-- the share of what is kept of a line
abbrev pub line_rules : List Rule
line_rules =
    rule 6 k6 ∷ rule 8 k8 ∷ rule 11 k11_data ∷ rule 12 k12 ∷ rule 13 k13
    ∷ rule 15 k15 ∷ rule 16 k16 ∷ rule 17 k17_data
    ∷ rule 18 k18_line ∷ rule 19 k19 ∷ rule 20 k20 ∷ rule 23 k23
    ∷ rule 24 k24 ∷ rule 25 k25 ∷ rule 26 k26_memory ∷ rule 28 k28
    ∷ rule 29 k29 ∷ rule 30 k30 ∷ rule 31 k31 ∷ rule 32 k32 ∷ []

-- the share of barriers, DVM messages and exclusives
abbrev pub system_rules : List Rule
system_rules =
    rule 9 k9 ∷ rule 21 k21 ∷ rule 33 k33 ∷ rule 34 k34 ∷ rule 35 k35
    ∷ rule 36 k36 ∷ rule 37 k37 ∷ rule 38 k38 ∷ rule 39 k39 ∷ []

-- the lesser number, where there is one
abbrev pub lesser : Option ℕ → Option ℕ → Option ℕ
lesser None k = k
lesser (Some j) None = Some j
lesser (Some j) (Some k) = if nat_lt k j then Some k else Some j
