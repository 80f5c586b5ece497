-- What is kept of a line, looked up for the transaction that is granted on it.
use Rattle.std.proofs.Common.{◌≡◌, ℕ, true, false, not, ◌&&◌, if◌then◌else◌, Option, Some, None, option_map, refl, sym, ap, ◌∙◌}
use Rattle.std.proofs.lemmas.Bool.{and_parts}
use Rattle.ace_lineck.proofs.Terms.{AwKind, Channel, Read, Write, Line, Transaction, data_of, Header, Trace, IsAccepted, is_some_and, is_read, write_kind, has_write_data, granted, has_passed_data, has_sharer, passed_data, memory_of, reply_of, is_burst_whole, has_memory_write, WriteData, Grant, GrantStands, has_passed, is_shared_under, reply_kept, written_kept}
use Rattle.ace_model.specs.WriteRules as rules
use Rattle.ace_model.proofs.General.Options.{Some-injective, is_some_and-is, some_if-is}
use Rattle.ace_portck.specs.Targets.{data_of_write}
use Rattle.ace_lineck.proofs.GrantLaws.{passed-law}
use Rattle.ace_lineck.proofs.ReplyLaws.{reply-law}
use Rattle.ace_lineck.proofs.WriteLaws.{the_burst, written-law}

module _ (h : Header) (past : Trace) (a : IsAccepted h past) (l : ℕ) where
  -- passed data of the granted transaction
  pub passed-look : (g : Option Grant) → GrantStands h past l g → is_some_and g has_passed ≡ is_some_and (granted h past l) (has_passed_data h past)
  passed-look None f = sym (ap (λ o. is_some_and o (has_passed_data h past)) f)
  passed-look (Some g) f = passed-law h past a l g f ∙ sym (ap (λ o. is_some_and o (has_passed_data h past)) f.granted)

  module _ (x : Transaction) (there : granted h past l ≡ Some x) where
    -- an answer with IsShared
    pub sharer-look : (g : Option Grant) → GrantStands h past l g → is_shared_under g ≡ has_sharer h past l
    sharer-look None f = let bad : None ≡ Some x = sym f ∙ there in cc
    sharer-look (Some g) f = f.shared

    -- the reply of the granted read
    pub reply-look : (g : Option Grant) (memory : Line) → GrantStands h past l g → memory ≡ memory_of past l → is_read x.chan ≡ true → reply_kept g memory ≡ reply_of past x
    reply-look None memory f kept reads = let bad : None ≡ Some x = sym f ∙ there in cc
    reply-look (Some g) memory f kept reads =
        let one : g.transaction ≡ x = Some-injective g.transaction x (sym f.granted ∙ there) in
        reply-law h past a l g f (ap (λ (v : Transaction). is_read v.chan) one ∙ reads) memory kept ∙ ap (reply_of past) one

-- the channel of a transaction that is a write of some kind
write-chan : (x : Transaction) (k : AwKind) → write_kind x ≡ Some k → is_read x.chan ≡ false
write-chan x k kind = by x.chan refl
  where
    by : (c : Channel) → x.chan ≡ c → is_read x.chan ≡ false
    by Read is = let none : None ≡ Some k = sym (rw is refl) ∙ kind in cc
    by Write is = ap is_read is

-- what a write writes whose burst is whole
pub written-look : (h : Header) (past : Trace) (x : Transaction) (burst : WriteData) (passed : Option Line) (memory : Line) (k : AwKind) → data_of_write past x ≡ Some burst
    → passed ≡ passed_data h past x.addr → memory ≡ memory_of past x.addr → write_kind x ≡ Some k → Some (written_kept passed memory burst k) ≡ data_of h past x
written-look h past x burst passed memory k whole passed_is memory_is kind =
    let own : the_burst past x ≡ burst =
    (some_if-is ((is_some_and (write_kind x) has_write_data && is_burst_whole past x) && not (has_memory_write past x.port x.chan x.id)) (the_burst past x) burst whole).1 in
    let writes = write-chan x k kind in
    ap (λ b. Some (written_kept passed memory b k)) (sym own) ∙ ap Some (written-law h past x passed memory passed_is memory_is k)
    ∙ sym (ap (λ b. if b then passed_data h past x.addr else option_map (rules.data_of_write h past x) (write_kind x)) writes ∙ ap (option_map (rules.data_of_write h past x)) kind)

-- a write whose burst is whole has a kind
pub whole-kind : (past : Trace) (x : Transaction) (burst : WriteData) → data_of_write past x ≡ Some burst → write_kind x ≡ None → ⊥
whole-kind past x burst whole none =
    let all = (some_if-is ((is_some_and (write_kind x) has_write_data && is_burst_whole past x) && not (has_memory_write past x.port x.chan x.id)) (the_burst past x) burst whole).0 in
    let two = and_parts (is_some_and (write_kind x) has_write_data && is_burst_whole past x) _ all in
    let k = is_some_and-is (write_kind x) has_write_data (and_parts (is_some_and (write_kind x) has_write_data) _ two.0).0 in
    let bad : None ≡ Some k.0 = sym none ∙ k.1 in cc
