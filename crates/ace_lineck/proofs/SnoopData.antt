-- A CD: what it asks of its line, and what it leaves.
use Rattle.std.proofs.Common.{◌≡◌, ◌<◌, ◌≤◌, ◌-◌, ◌^◌, ℕ, Bool, ◌==◌, ◌∷◌, length, Option, Some, None, refl, sym, ap, ◌∙◌}
use Rattle.std.proofs.lemmas.Bool.{and_from, eq-eqb}
use Rattle.ace_lineck.proofs.Terms.{sent_on, Snoop, least_broken, word_of, next_sent_beat, k17_data, Cd, Header, Trace, IsAccepted, Recording, after, line_in, sending, target_of, Grant, LineCheck, LineRecord, GrantStands, holder_at, Stands, MayApply, place_on, record_of}
use Rattle.ace_lineck.proofs.AllLines.{left, still}
use Rattle.ace_lineck.proofs.GrantFrame.{none-stays}
use Rattle.ace_lineck.proofs.GrantSteps.{earlier_step}
use Rattle.ace_lineck.proofs.Sent.{next-sent, sends-a_line}
use Rattle.ace_lineck.proofs.Heard.{may-hear}

-- a CD stands on the line of its snoop
sent-line : (h : Header) (past : Trace) → IsAccepted h past → (p : ℕ) (last : Bool) (word : ℕ) (z : Snoop) → sending past p ≡ Some z
    → line_in h past (Cd p last word) ≡ Some z.addr
sent-line h past a p last word z is = let line = sends-a_line h past a p _ z is in rw (is, line) refl

-- of a CD the data of K17
pub sent-law : (s : LineCheck) (r : Recording) (p : ℕ) (last : Bool) (word : ℕ) (z : Snoop) (n : ℕ) (x : LineRecord) → Stands s r
    → sending r.past p ≡ Some z → n ≡ next_sent_beat r.past p → x ≡ record_of s z.addr
    → (word == word_of (holder_at x.holders.items p).sent n) ≡ k17_data r.header r.past (Cd p last word)
sent-law s r p last word z n x st is beat at =
    let here = and_from _ _ (sends-a_line r.header r.past st.accepted p _ z is) (eq-eqb z.addr z.addr refl) in
    let next = next-sent r.header r.past st.accepted p z.addr z is here in
    let sent : (holder_at x.holders.items p).sent ≡ sent_on r.past p z.addr = ap (λ (v : LineRecord). (holder_at v.holders.items p).sent) at ∙ (st.lines z.addr).holders.sent p in
    rw (next, beat, sent) refl

-- before the fourth beat the grant of the line stays
earlier-granted : (h : Header) (past : Trace) (p : ℕ) (last : Bool) (word l : ℕ) (g : Option Grant) → h.ports ≤ 32 → IsAccepted h (Cd p last word ∷ past)
    → line_in h past (Cd p last word) ≡ Some l → (next_sent_beat past p ≡ 3 → ⊥) → GrantStands h past l g → GrantStands h (Cd p last word ∷ past) l g
earlier-granted h past p last word l None most a on earlier none = none-stays h past (Cd p last word) l refl none
earlier-granted h past p last word l (Some g) most a on earlier f = earlier_step h past l g f p last word a on most earlier

-- and so does all that is kept of the lines
pub earlier-still : (s : LineCheck) (r : Recording) (p : ℕ) (last : Bool) (word : ℕ) → (next_sent_beat r.past p ≡ 3 → ⊥) → Stands s r
    → least_broken r.header r.past (Cd p last word) ≡ None → Stands s (after r (Cd p last word))
earlier-still s r p last word earlier st fine =
    still s r (Cd p last word) st fine refl
    (λ l on. left r.header r.past (Cd p last word) l (record_of s l) _ _ (st.lines l).used (record { memory = refl; state = λ p. refl; copy = λ p. refl; sent = λ p. refl }) (st.lines l)
    (earlier-granted r.header r.past p last word l (record_of s l).grant st.ports.most_ports (st.accepted, fine) on earlier (st.lines l).grant))

-- it may be taken
pub sent-may : (s : LineCheck) (r : Recording) (p : ℕ) (last : Bool) (word : ℕ) (z : Snoop) (place : Option ℕ) → Stands s r → sending r.past p ≡ Some z
    → place ≡ place_on s (Some z.addr) → least_broken r.header r.past (Cd p last word) ≡ None → length r.past < 2 ^ 64 - 1
    → MayApply s r (Cd p last word) (target_of r.header r.past (Cd p last word)) place
sent-may s r p last word z place st is at fine few = may-hear s r (Cd p last word) place refl st (at ∙ ap (place_on s) (sym (sent-line r.header r.past st.accepted p last word z is))) fine few
