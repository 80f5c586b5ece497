-- An answer to a transaction that is neither half of a barrier nor part of a DVM message leaves what is kept of the system as it is.
use Rattle.std.proofs.Common.{◌≡◌, ◌<◌, ◌-◌, ◌^◌, ℕ, true, false, length, get_or, Some, None, is_none, refl, sym, ap, ◌∙◌}
use Rattle.std.proofs.lemmas.Bool.{and_right, ne_eqb}
use Rattle.ace_sysck.proofs.Terms.{AwKind, Write, Transaction, least_broken, least_of, system_rules, Event, R, B, Header, Trace, is_barrier_half, is_barrier_of, is_completion_event, is_message_part, last_sync, option_filter, outstanding, part_in, sync_in, Recording, after, line_write, Idle, Barriers, Messages, SysCheck, BarriersStand, is_response, MessagesStand, silent, Stands}
use Rattle.ace_model.proofs.Dvm.Syncs.{last_sync-is, sync-at}
use Rattle.ace_model.proofs.General.Options.{Some-injective}
use Rattle.ace_model.proofs.Trace.Issued.{issued_at}
use Rattle.ace_portck.proofs.LineWrites.{line_write-is, line_write-no_half, line_write-no_message}
use Rattle.ace_sysck.proofs.BarrierSteps.{answers-unissued, barrier_stays, hits, same-half}
use Rattle.ace_sysck.proofs.EventLaws.{responding, responds-at}
use Rattle.ace_sysck.proofs.MessageSteps.{answers-no_ac, stays}
use Rattle.ace_sysck.proofs.Unmoved.{system_responded}

-- it completes no transaction that was issued elsewhere
misses : (h : Header) (past : Trace) (e : Event) (x y : Transaction) → responding h past e ≡ Some x → (x.place ≡ y.place → ⊥) → hits past e y ≡ false
misses h past e x y answers off =
    rw ((responds-at h past e x answers).served, ne_eqb x.place y.place off) (and_right (is_completion_event e) false refl)

pub barriers_unanswered : (r : Recording) (s : Barriers) (e : Event) (x : Transaction) → responding r.header r.past e ≡ Some x → is_barrier_half x ≡ false
    → BarriersStand r s → BarriersStand (after r e) s
barriers_unanswered r s e x answers none stands = record {
  size = stands.size;
  ports = λ p.
      barrier_stays r.past e p (get_or s.ports.items p Idle)
      (λ c. ap (λ o. option_filter (λ y. is_barrier_of y p c) o) (answers-unissued r.header r.past e x answers))
      (λ c y is.
      misses r.header r.past e x y answers (λ at.
      let same = same-half r.past p (get_or s.ports.items p Idle) (stands.ports p) c y x is (responds-at r.header r.past e x answers).there at in
      let bad : true ≡ false = sym same.1 ∙ none in cc))
      (stands.ports p);
}

-- the last Sync of a port is a part of a message
last_sync-part : (past : Trace) (p : ℕ) (y : Transaction) → last_sync past p ≡ Some y → is_message_part y ≡ true
last_sync-part past p y is = (sync-at past y (last_sync-is past p y is).0.kind).part

pub messages_unanswered : (r : Recording) (s : Messages) (e : Event) (x : Transaction) → responding r.header r.past e ≡ Some x → is_message_part x ≡ false
    → MessagesStand r s → MessagesStand (after r e) s
messages_unanswered r s e x answers none stands =
    let unissued = answers-unissued r.header r.past e x answers in
    let k = responds-at r.header r.past e x answers in record {
      size = stands.size;
      ports = λ p.
          stays r.past e p (get_or s.ports.items p silent) (ap (λ o. part_in o p) unissued) (ap (λ o. sync_in r.past o p) unissued) (answers-no_ac r.header r.past e x p answers)
          (λ y is.
          misses r.header r.past e x y answers (λ at.
          let one : x ≡ y = Some-injective x y (sym k.there.there ∙ ap (issued_at r.past) at ∙ (last_sync-is r.past p y is).0.issued.there) in
          let bad : false ≡ true = sym none ∙ ap is_message_part one ∙ last_sync-part r.past p y is in cc))
          (stands.ports p);
    }

answers-response : (h : Header) (past : Trace) (e : Event) (x : Transaction) → responding h past e ≡ Some x → is_response e ≡ true
answers-response h past (R p i resp last word) x answers = refl
answers-response h past (B p i resp) x answers = refl
answers-response h past e x answers = cc

-- an accepted R or B of such a transaction leaves all of it
pub system_unanswered : (s : SysCheck) (r : Recording) (e : Event) (x : Transaction) → Stands s r → least_broken r.header r.past e ≡ None → length r.past < 2 ^ 64 - 1
    → responding r.header r.past e ≡ Some x → is_barrier_half x ≡ false → is_message_part x ≡ false → Stands s (after r e)
system_unanswered s r e x k kept few answers no_half no_message =
    system_responded s s.barriers s.messages r e k kept few (answers-response r.header r.past e x answers) (barriers_unanswered r s.barriers e x answers no_half k.barriers)
    (messages_unanswered r s.messages e x answers no_message k.messages)

-- a B of a line write leaves all of it
pub system_unmoved_by_response : (s : SysCheck) (r : Recording) (p id resp : ℕ) (x : Transaction) (k : AwKind) → Stands s r → outstanding r.header r.past p Write id ≡ Some x
    → line_write x ≡ Some k → least_broken r.header r.past (B p id resp) ≡ None → length r.past < 2 ^ 64 - 1 → Stands s (after r (B p id resp))
system_unmoved_by_response s r p id resp x k stands out line kept few =
    let is = line_write-is x k line in
    system_unanswered s r (B p id resp) x stands kept few out (line_write-no_half x k is) (line_write-no_message x k is)

-- it breaks no rule of the share
pub response_rules : (h : Header) (past : Trace) (p id resp : ℕ) (x : Transaction) (k : AwKind) → outstanding h past p Write id ≡ Some x → line_write x ≡ Some k
    → is_none (least_of system_rules h past (B p id resp)) ≡ true
response_rules h past p id resp x k out line = let half = line_write-no_half x k (line_write-is x k line) in rw (out, half) refl
