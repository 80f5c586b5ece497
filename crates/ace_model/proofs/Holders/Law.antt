-- In an accepted trace a unique line has one holder, and one port at most holds a line dirty.
use Rattle.std.proofs.Common.{[], ◌∷◌, refl}
use Rattle.ace_model.proofs.Terms.{Header, Event, Ar, R, Rk, Aw, B, Wk, Ac, Cr, G, S, D, Trace, IsAcceptedBy, IsAccepted, Unique, OneDirty}
use Rattle.ace_model.proofs.Holders.RestsOn.{holder_rules, KeepsEach, keeps_each, of_accepted}
use Rattle.ace_model.proofs.Holders.Facts.{OneHolder}
use Rattle.ace_model.proofs.Holders.Address.{keeps_ar, keeps_aw}
use Rattle.ace_model.proofs.Holders.Grant.{keeps_g}
use Rattle.ace_model.proofs.Holders.Snoop.{keeps_ac, keeps_cr}
use Rattle.ace_model.proofs.Holders.Transfer.{keeps_r}
use Rattle.ace_model.proofs.Holders.Acknowledge.{ends, keeps_rk}
use Rattle.ace_model.proofs.Holders.Write.{keeps_b, keeps_wk}
use Rattle.ace_model.proofs.Holders.Stores.{keeps_s, keeps_d}

-- each event that keeps the rules keeps the facts
step : (h : Header) (past : Trace) (e : Event) → OneHolder h past → KeepsEach h past e → OneHolder h (e ∷ past)
step h past (Ar q j addr snoop dom bar lock) f k = keeps_ar h past f q j addr snoop dom bar lock (k 4)
step h past (R q j resp last word) f k = keeps_r h past q j resp last word f (k 18) (k 19)
step h past (Rk q st) f k = keeps_rk h past q st (k 23) (ends h past q st f (k 1) (k 22)) f
step h past (Aw q j addr snoop dom bar) f k = keeps_aw h past f q j addr snoop dom bar (k 4)
step h past (B q j resp) f k = keeps_b h past q f j resp
step h past (Wk q st) f k = keeps_wk h past q f st (k 28)
step h past (Ac q addr code) f k = keeps_ac h past q addr code f (k 13)
step h past (Cr q resp st) f k = keeps_cr h past q resp st (k 15) f
step h past (G q c j) f k = keeps_g h past q c j f (k 12)
step h past (S q addr st) f k = keeps_s h past q addr st f (k 29)
step h past (D q addr strobe x line) f k = keeps_d h past q addr strobe x line (k 32) f
step h past e f k = f

-- the empty trace
start : (h : Header) → OneHolder h []
start h = record {
  grants = λ l x g. cc;
  snoops = λ r n l s x e on place g. cc;
  answers = λ l r x a k g w c. cc;
  passed = λ l r x a g takes w d. cc;
  arrive = λ p i x ace o line some. cc;
  queue = λ p n i ace low e. cc;
  distinct = λ p m n i ace a b e g. cc;
  outside = λ q l o. refl;
  unique = λ l p q u ne. refl;
  one_dirty = λ l p q dp dq. cc;
}

-- the facts hold at each point of what the rules that they rest on accept
inductive : (h : Header) (t : Trace) → IsAcceptedBy holder_rules h t → OneHolder h t
inductive h [] a = start h
inductive h (e ∷ past) a = step h past e (inductive h past a.0) (keeps_each h past e a)

pub unique_of : (h : Header) (t : Trace) → IsAcceptedBy holder_rules h t → Unique h t
unique_of h [] a = (start h).unique
unique_of h (e ∷ past) a = (unique_of h past a.0, (inductive h (e ∷ past) a).unique)

one_dirty_of : (h : Header) (t : Trace) → IsAcceptedBy holder_rules h t → OneDirty h t
one_dirty_of h [] a = (start h).one_dirty
one_dirty_of h (e ∷ past) a = (one_dirty_of h past a.0, (inductive h (e ∷ past) a).one_dirty)

-- the facts hold at the last point of an accepted trace
pub accepted_holds : (h : Header) (t : Trace) → IsAccepted h t → OneHolder h t
accepted_holds h t a = inductive h t (of_accepted h t a)

pub accepted_unique : (h : Header) (t : Trace) → IsAccepted h t → Unique h t
accepted_unique h t a = unique_of h t (of_accepted h t a)

pub accepted_one_dirty : (h : Header) (t : Trace) → IsAccepted h t → OneDirty h t
accepted_one_dirty h t a = one_dirty_of h t (of_accepted h t a)
