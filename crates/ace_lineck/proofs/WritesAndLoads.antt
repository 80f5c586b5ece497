-- What a W and an L ask of the line that they stand on.
use Rattle.std.proofs.Common.{◌≡◌, ℕ, Bool, not, ◌==◌, if◌then◌else◌, Option, Some, None, refl, sym, ap, ◌∙◌}
use Rattle.ace_lineck.proofs.Terms.{AwKind, Transaction, least_of, word_of, line_rules, k11_data, L, W, copy_of, implies, is_invalid, is_none_or, is_some_and, is_update, next_write, next_write_beat, state_of, updates_memory, write_kind, Recording, LineCheck, LineRecord, holder_at, Stands, record_of, state_at}
use Rattle.ace_model.proofs.Lines.Known.{data_write-issued}

-- what is kept of a port's copy, and of its state, in the record of a line
copy-on : (s : LineCheck) (r : Recording) (p l : ℕ) (x : LineRecord) → Stands s r → x ≡ record_of s l → (holder_at x.holders.items p).copy ≡ copy_of r.past p l
copy-on s r p l x st at = ap (λ (v : LineRecord). (holder_at v.holders.items p).copy) at ∙ (st.lines l).holders.copy p

pub state-on : (s : LineCheck) (r : Recording) (p l : ℕ) (x : LineRecord) → Stands s r → x ≡ record_of s l → state_at x.states p ≡ state_of r.header r.past p l
state-on s r p l x st at = ap (λ (v : LineRecord). state_at v.states p) at ∙ (st.lines l).states.state p

-- of a W the data of K11
pub word-law : (s : LineCheck) (r : Recording) (p strb : ℕ) (last : Bool) (word : ℕ) (z : Transaction) (n : ℕ) (x : LineRecord) → Stands s r
    → next_write r.past p ≡ Some z → n ≡ next_write_beat r.past p → x ≡ record_of s z.addr
    → implies (updates_memory z) (word == word_of (holder_at x.holders.items p).copy n) ≡ k11_data r.header r.past (W p strb last word)
word-law s r p strb last word z n x st is beat at = rw (is, beat) (by (write_kind z))
  where
    copy : (holder_at x.holders.items p).copy ≡ copy_of r.past z.port z.addr
    copy = copy-on s r p z.addr x st at ∙ ap (λ v. copy_of r.past v z.addr) (sym (data_write-issued r.past p _ z is).1)

    by : (o : Option AwKind) → implies (is_some_and o is_update) (word == word_of (holder_at x.holders.items p).copy (next_write_beat r.past p))
        ≡ is_none_or o (λ k. implies (is_update k) (word == word_of (copy_of r.past z.port z.addr) (next_write_beat r.past p)))
    by None = refl
    by (Some k) = ap (λ v. implies (is_update k) (word == word_of v (next_write_beat r.past p))) copy

-- of an L K30 and K31
pub load-law : (s : LineCheck) (r : Recording) (p addr w : ℕ) (b : Bool) (word : ℕ) (x : LineRecord) → Stands s r → x ≡ record_of s addr
    → (if not (is_invalid (state_at x.states p)) then (if word == word_of (holder_at x.holders.items p).copy w then None else Some 31) else Some 30)
    ≡ least_of line_rules r.header r.past (L p addr w b word)
load-law s r p addr w b word x st at =
    let held = state-on s r p addr x st at in
    let copy = copy-on s r p addr x st at in
    rw (held, copy) refl
