-- The bytes that an M or an R stores.
use Rattle.std.proofs.Common.{◌≡◌, ℕ, Bool, true, ◌||◌, nat_eq, if◌then◌else◌, Option, Some, None, option_map, refl, ap, ◌∙◌, inl, inr}
use Rattle.std.proofs.lemmas.Bool.{cases_Bool, and_parts, eqb-true}
use Rattle.ace_codes.specs.declared.kind.AwKind.{AwKind}
use Rattle.ace_codes.specs.declared.kind.AwKind.TheVariants as write
use Rattle.ace_event.specs.declared.event.Channel.{Channel}
use Rattle.ace_event.specs.declared.event.Event.TheVariants.{R, M}
use Rattle.ace_event.specs.declared.header.Header.{Header}
use Rattle.ace_event.specs.declared.line.Line.{Line}
use Rattle.ace_model.specs.declared.transactions.Transaction.{Transaction}
use Rattle.ace_model.specs.Trace.{Trace, is_some_and}
use Rattle.ace_model.specs.Kinds.{has_write_data, is_unique_write, is_no_snoop_write}
use Rattle.ace_model.specs.Copies.{memory_of}
use Rattle.ace_model.specs.Transactions.{is_line, is_on, outstanding, write_kind}
use Rattle.ace_model.specs.Writes.{burst_of}
use Rattle.ace_model.specs.WriteRules.{may_write_memory}
use Rattle.ace_model.specs.Values.{burst_strobe, burst_line, stores_data, discards_data, store_of, discard_of, store_at}
use Rattle.ace_model.proofs.General.Options.{is_some_and-is}
use Rattle.ace_model.proofs.Rules.Keeps.{accepted_keeps}
use Rattle.ace_model.proofs.Trace.Issued.{outstanding-named}
use Rattle.ace_model.proofs.Grants.Begins.{may_of}
use Rattle.ace_model.proofs.Grants.Granted.{data_may}
use Rattle.ace_model.proofs.Values.Stores.{stores_write, stores_kind}
use Rattle.ace_portck.specs.Targets.{data_in, data_of_write, line_in, line_of, progress_of, transaction_in}
use Rattle.ace_report.specs.Heard.{bytes_of, bytes_to, whole, written_bytes}
use Rattle.ace_report.specs.Next.{IsNext, discarded_line, wanted_line}

no_bytes : (o : Option ℕ) (l : ℕ) → bytes_to o None l ≡ None
no_bytes None l = refl
no_bytes (Some m) l =
    elim (cases_Bool (nat_eq m l)) [
      | inl t ↦ rw t refl
      | inr f ↦ rw f refl
    ]

stores_send : (k : AwKind) → (is_unique_write k || is_no_snoop_write k) ≡ true → has_write_data k ≡ true
stores_send write.Evict s = cc
stores_send write.Barrier s = cc
stores_send k s = refl

burst_is : (h : Header) (past : Trace) (x : Transaction) → may_write_memory h past x ≡ true → stores_data x ≡ true
    → data_of_write past x ≡ Some (record { strobe = burst_strobe (burst_of past x); line = burst_line (burst_of past x) })
burst_is h past x may s =
    let d = data_may h past x may (stores_write x s) in
    let k = stores_kind x s in
    let sends : is_some_and (write_kind x) has_write_data ≡ true = ap (λ o. is_some_and o has_write_data) k.1 ∙ stores_send k.0 k.2 in
    rw (sends, d.whole, d.first) refl

write_bytes : (h : Header) (past : Trace) (x : Transaction) (l : ℕ) → may_write_memory h past x ≡ true
    → bytes_to (if is_line x then Some x.addr else None) (if stores_data x then data_of_write past x else None) l ≡ option_map bytes_of (store_of past l x)
write_bytes h past x l may =
    elim (cases_Bool (stores_data x)) [
      | inr f ↦ rw f (no_bytes (if is_line x then Some x.addr else None) l)
      | inl s ↦
          let burst = burst_is h past x may s in
          elim (cases_Bool (is_line x)) [
            | inr g ↦ rw (s, g) refl
            | inl t ↦ elim (cases_Bool (nat_eq x.addr l)) [
              | inr g ↦ rw (s, burst, t, g) refl
              | inl e ↦ rw (s, burst, t, e) refl
            ]
          ]
    ]

-- the M of a write that stores
pub written_are : (h : Header) (past : Trace) (p : ℕ) (c : Channel) (i : ℕ) (line : Line) (before : Line) → IsNext h past (M p c i line) before
    → (l : ℕ) → bytes_to (line_in h past (M p c i line)) (written_bytes (transaction_in h past (M p c i line)) (data_in h past (M p c i line))) l ≡ option_map bytes_of (store_at past (M p c i line) l)
written_are h past p c i line before n l =
    let z = is_some_and-is (outstanding h past p c i) (may_write_memory h past) (accepted_keeps h past (M p c i line) n.accepted).rule_24 in
    let named = outstanding-named h past p c i z.0 z.1 in
    rw (z.1, named) (write_bytes h past z.0 l z.2)

discard_bytes : (past : Trace) (x : Transaction) (before : Line) (l : ℕ)
    → (discards_data x ≡ true → is_on x l ≡ true → before ≡ memory_of past l)
    → bytes_to (if discards_data x then (if is_line x then Some x.addr else None) else None) (Some (whole before)) l
    ≡ option_map bytes_of (discard_of past l x)
discard_bytes past x before l memory =
    elim (cases_Bool (discards_data x)) [
      | inr f ↦ rw f refl
      | inl s ↦ elim (cases_Bool (is_line x)) [
        | inr g ↦ rw (s, g) refl
        | inl t ↦ elim (cases_Bool (nat_eq x.addr l)) [
          | inr g ↦ rw (s, t, g) refl
          | inl e ↦
              let on : is_on x l ≡ true = rw (t, e) refl in
              rw (s, t, e) (ap (λ (v : Line). Some (whole v)) (memory s on))
        ]
      ]
    ]

on_line : (x : Transaction) (l : ℕ) → is_on x l ≡ true → (if is_line x then Some x.addr else None) ≡ Some l
on_line x l on =
    let parts = and_parts (is_line x) (nat_eq x.addr l) on in
    rw parts.0 (ap (λ n. Some n) (eqb-true x.addr l parts.1))

-- the R of a MakeInvalid
pub discarded_are : (h : Header) (past : Trace) (p i resp : ℕ) (last : Bool) (word : ℕ) (before : Line) → IsNext h past (R p i resp last word) before
    → (l : ℕ) → bytes_to (wanted_line h past (R p i resp last word)) (Some (whole before)) l ≡ option_map bytes_of (store_at past (R p i resp last word) l)
discarded_are h past p i resp last word before n l =
    let m = may_of h past p i resp last word n.accepted in
    let line : wanted_line h past (R p i resp last word) ≡ (if discards_data m.one then (if is_line m.one then Some m.one.addr else None) else None) =
    ap (λ o. discarded_line (option_map (progress_of h past) o)) m.out in
    let memory : discards_data m.one ≡ true → is_on m.one l ≡ true → before ≡ memory_of past l =
    λ s on. n.memory l (line ∙ rw s (on_line m.one l on)) in
    rw (m.out, m.named) (discard_bytes past m.one before l memory)
