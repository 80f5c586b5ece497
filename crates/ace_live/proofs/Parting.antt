-- A view is cut in two, two views become one, and the table closes.
use Rattle.std.proofs.Common.{◌≡◌, ◌≢◌, ℕ, zero, suc, ◌+◌, ◌<◌, ◌≤◌, List, [], ◌∷◌, ◌++◌, length, set, sym, refl, ap, ◌∙◌, subst, arith, lt_of_not-le, length-append, ⊎_elim, inl, Some, Option, drop, Bool, if◌then◌else◌}
use Rattle.std.proofs.lemmas.Bool.{lt-ltb, le-ltb}
use Rattle.std.proofs.lemmas.List.{append-nil}
use mathlib.Core.Logic.{dite}
use mathlib.Core.Option.{some, some-injective, some-ne-none}
use native.Mathlib.Decide.{ℕ_discrete, dec_le}
use lib.ListN.{get_elem?}
use Rattle.atomic_table.specs.Table.{State, Splits, Joins, Final, Seen, opening}
use Rattle.atomic_table.proofs.Lists.{at_set, at_snoc}
use Rattle.ace_history.specs.declared.entry.Entry.{Entry}
use Rattle.ace_live.specs.declared.setting.Setting.{Setting}
use Rattle.ace_live.specs.declared.rule.View.{View}
use Rattle.ace_live.specs.declared.rule.Stage.TheVariants.{Idle}
use Rattle.ace_live.specs.Running.{Running}
use Rattle.ace_live.specs.Rule.{Knows, Shelved, SharedOut, Keeps}
use Rattle.ace_live.specs.Steps.{spent}
use Rattle.ace_live.specs.Views.{total, count_of, ticket, with_ticket, with_turn, owns, port_count, NoneBy, Behind, PortsBelow, view_of, longer_of, joined_view, AllBegin, ports_from, opening_view}
use Rattle.ace_live.proofs.Totals.{set_known, total_has, total_two, total_none, total_cut, total_glued}
use Rattle.ace_live.proofs.Keeps.{homes_there, same_self, same_else, turn_ticket}

pub count_of-append : (p : ℕ) (ps qs : List ℕ) → count_of p (ps ++ qs) ≡ count_of p ps + count_of p qs
count_of-append p [] qs = omega arith
count_of-append p (q ∷ ps) qs = let h = count_of-append p ps qs in omega arith

none_head : (p : ℕ) (ps : List ℕ) (es : List Entry) → NoneBy (p ∷ ps) es → NoneBy (p ∷ []) es
none_head p ps [] n = tt
none_head p ps (e ∷ es) n = (let h = n.0 in omega arith, none_head p ps es n.1)

none_tail : (p : ℕ) (ps : List ℕ) (es : List Entry) → NoneBy (p ∷ ps) es → NoneBy ps es
none_tail p ps [] n = tt
none_tail p ps (e ∷ es) n = (let h = n.0 in omega arith, none_tail p ps es n.1)

none_both : (ps qs : List ℕ) (es : List Entry) → NoneBy ps es → NoneBy qs es → NoneBy (ps ++ qs) es
none_both ps qs [] a b = tt
none_both ps qs (e ∷ es) a b = (let h = a.0 in let k = b.0 in let t = count_of-append e.port ps qs in omega arith, none_both ps qs es a.1 b.1)

none_rest : (ps : List ℕ) (a b : List Entry) → NoneBy ps (a ++ b) → NoneBy ps b
none_rest ps [] b n = n
none_rest ps (e ∷ a) b n = none_rest ps a b n.1

-- of two beginnings of one list the shorter is the beginning of the other
beyond : (a m b n : List Entry) → a ++ m ≡ b ++ n → length a ≤ length b → (mid : List Entry) × (b ≡ a ++ mid) × (m ≡ mid ++ n)
beyond [] m b n e l = (b, refl, e)
beyond (x ∷ a) m [] n e l = absurd (omega arith)
beyond (x ∷ a) m (y ∷ b) n e l = let h = beyond a m b n (ap (drop 1) e) (omega arith) in
    (h.0, (let q = h.1 in let p : x ≡ y = some-injective x y (ap (λ (z : List Entry). get_elem? z 0) e) in λ i. (sym p i) ∷ (q i)), h.2)

behind_both : (ps qs : List ℕ) (a b h : List Entry) → Behind ps a h → Behind qs b h → Behind (ps ++ qs) (longer_of a b) h
behind_both ps qs a b h p q = dite (dec_le (length b) (length a))
    (λ l. subst (λ (t : Bool). Behind (ps ++ qs) (if t then b else a) h) (sym (le-ltb (length a) (length b) l))
    (let m = beyond b q.0 a p.0 (sym q.1 ∙ p.1) l in (p.0, p.1, none_both ps qs p.0 p.2 (none_rest qs m.0 p.0 (subst (NoneBy qs) m.2 q.2)))))
    (λ n. let g = lt_of_not-le n in subst (λ (t : Bool). Behind (ps ++ qs) (if t then b else a) h) (sym (lt-ltb (length a) (length b) g))
    (let m = beyond a p.0 b q.0 (sym p.1 ∙ q.1) (omega arith) in (q.0, q.1, none_both ps qs q.0 (none_rest ps m.0 q.0 (subst (NoneBy ps) m.2 p.2)) q.2)))

ports_moved : (key : Setting) (vs ws : List View) → ((p : ℕ) → total (owns p) ws ≡ total (owns p) vs) → total port_count ws ≡ total port_count vs
    → SharedOut key vs → SharedOut key ws
ports_moved key vs ws o c r = record {
  owned = λ p l. o p ∙ r.owned p l;
  foreign = λ p l. o p ∙ r.foreign p l;
  counted = c ∙ r.counted;
  few_ports = r.few_ports;
}

module _ (key : Setting) (id : ℕ) (seen : List Entry) where
  pub splits : (p : ℕ) (ps : List ℕ) → Splits (Keeps key) id (view_of (p ∷ ps) Idle seen key) (view_of ps Idle seen key) (view_of (p ∷ []) Idle seen key)
  splits p ps s r at =
      let v : View = view_of (p ∷ ps) Idle seen key in
      let left : View = view_of ps Idle seen key in
      let right : View = view_of (p ∷ []) Idle seen key in
      let mine = r.known id v at in
      let b = mine.behind in
      let K = Knows key r.turn (total ticket s.views) r.history in
      let know_left : K left = record { behind = (b.0, b.1, none_tail p ps b.0 b.2); in_turn = tt; few = omega arith; told = λ _. refl; heard = tt } in
      let know_right : K right = record { behind = (b.0, b.1, none_head p ps b.0 b.2); in_turn = tt; few = omega arith; told = λ _. refl; heard = tt } in
      let tickets : total ticket (set s.views id left ++ right ∷ []) ≡ total ticket s.views = total_cut ticket s.views id v left right at refl in record {
        history = r.history;
        turn = r.turn;
        words = r.words ∙ (rw tickets refl);
        known = subst (λ (n : ℕ). (j : ℕ) (d : View) → get_elem? (set s.views id left ++ right ∷ []) j ≡ some d → Knows key r.turn n r.history d) (sym tickets)
            (λ j d e. ⊎_elim (set_known K s.views id left know_left (λ i x _. r.known i x) j d)
            (λ (t : right ≡ d). subst K t know_right) (at_snoc (set s.views id left) right d j e));
        apart = λ n. let c = total_cut (with_ticket n) s.views id v left right at refl in let a = r.apart n in omega arith;
        ports = ports_moved key s.views (set s.views id left ++ right ∷ [])
            (λ q. total_cut (owns q) s.views id v left right at (omega arith)) (total_cut port_count s.views id v left right at (omega arith)) r.ports;
        below = r.below;
        shelved = subst (λ (n : ℕ). Shelved key r.history n s.homes) (sym (total_cut with_turn s.views id v left right at refl)) r.shelved;
      }

  pub joins : (ps : List ℕ) (hs : List (List Entry)) (other : ℕ) (qs : List ℕ) (seen' : List Entry)
      → Joins (Keeps key) id (joined_view ps seen key hs) other (view_of qs Idle seen' key)
      (joined_view (ps ++ qs) (longer_of seen seen') key (seen ∷ seen' ∷ hs)) spent
  joins ps hs other qs seen' s r at apart there =
      let v : View = joined_view ps seen key hs in
      let w : View = view_of qs Idle seen' key in
      let both : View = joined_view (ps ++ qs) (longer_of seen seen') key (seen ∷ seen' ∷ hs) in
      let there' : get_elem? s.views other ≡ some w = ⊎_elim (λ t. absurd (apart t.0)) (λ t. t.1) (at_set s.views id other both w there) in
      let mine = r.known id v at in let others = r.known other w there' in let K = Knows key r.turn (total ticket s.views) r.history in
      let know_both : K both = (let a = mine.behind in
      let b = others.behind in record {
        behind = behind_both ps qs seen seen' r.history mine.behind others.behind;
        in_turn = tt;
        few = omega arith;
        told = λ _. refl;
        heard = ((a.0, a.1), ((b.0, b.1), mine.heard));
      }) in
      let know_spent : K spent = record {
        behind = (r.history, refl, none_by_none r.history);
        in_turn = tt;
        few = omega arith;
        told = λ l. absurd (omega arith);
        heard = tt;
      } in
      let after : List View = set (set s.views id both) other spent in
      let glued : (f : View → ℕ) → f both + f spent ≡ f v + f w → total f after ≡ total f s.views =
      (λ f e. total_glued f s.views id other v w both spent at there e) in
      let tickets : total ticket after ≡ total ticket s.views = glued ticket refl in record {
        history = r.history;
        turn = r.turn;
        words = r.words ∙ (rw tickets refl);
        known = subst (λ (n : ℕ). (j : ℕ) (d : View) → get_elem? after j ≡ some d → Knows key r.turn n r.history d) (sym tickets)
            (set_known K (set s.views id both) other spent know_spent (λ j d _. set_known K s.views id both know_both (λ i x _. r.known i x) j d));
        apart = λ n. let c = glued (with_ticket n) refl in let a = r.apart n in omega arith;
        ports = ports_moved key s.views after
            (λ q. glued (owns q) (let t = count_of-append q ps qs in omega arith)) (glued port_count (let t = length-append ps qs in omega arith)) r.ports;
        below = r.below;
        shelved = subst (λ (n : ℕ). Shelved key r.history n s.homes) (sym (glued with_turn refl)) r.shelved;
      }
    where
      none_by_none : (es : List Entry) → NoneBy [] es
      none_by_none [] = tt
      none_by_none (e ∷ es) = (refl, none_by_none es)

below_rest : (n : ℕ) (a b : List Entry) → PortsBelow n (a ++ b) → PortsBelow n b
below_rest n [] b p = p
below_rest n (e ∷ a) b p = below_rest n a b p.1

none_left : (n : ℕ) (ps : List ℕ) (es : List Entry) → ((p : ℕ) → p < n → 0 < count_of p ps) → PortsBelow n es → NoneBy ps es → es ≡ []
none_left n ps [] owns_all b o = refl
none_left n ps (e ∷ es) owns_all b o = let h = owns_all e.port b.0 in let z = o.0 in absurd (omega arith)

times_head : (q : ℕ) (qs : List ℕ) → 0 < count_of q (q ∷ qs)
times_head q qs = let h = same_self q q refl in omega arith

-- where one seat owns each port, no other has one
module _ (key : Setting) (id : ℕ) (ps : List ℕ) (seen : List Entry) (hs : List (List Entry)) (owns_all : (p : ℕ) → p < key.ports
    → 0 < count_of p ps) (s : State (Option Running) View) (r : Keeps key s) (at : get_elem? s.views id ≡ some (joined_view ps seen key hs)) where
  portless : (j : ℕ) (x : View) → j ≢ id → get_elem? s.views j ≡ some x → (qs : List ℕ) → x.ports ≡ qs → length qs ≡ 0
  portless j x ne e [] is = refl
  portless j x ne e (q ∷ qs) is = let h = times_head q qs in let own : owns q x
      ≡ count_of q (q ∷ qs) = ap (count_of q) is in
      let two = total_two (owns q) s.views id j (joined_view ps seen key hs) x ne at e in
      let one = total_has (owns q) s.views j x e in
      dite (dec_le key.ports q) (λ l. let z = r.ports.foreign q l in absurd (omega arith))
      (λ n. let l = lt_of_not-le n in let o = r.ports.owned q l in let m = owns_all q l in absurd (omega arith))

  turnless : total with_turn s.views ≡ 0
  turnless = total_none with_turn s.views (λ j x e. dite (ℕ_discrete j id)
      (λ is. ap with_turn (some-injective x (joined_view ps seen key hs) (sym e ∙ (ap (get_elem? s.views) is ∙ at))))
      (λ ne. let k = r.known j x e in let few = k.few in let z = portless j x ne e x.ports refl in let t = turn_ticket x.stage in omega arith))

  all_seen : r.history ≡ seen
  all_seen = let k = r.known id (joined_view ps seen key hs) at in let b = k.behind in
      let z = none_left key.ports ps b.0 owns_all (below_rest key.ports seen b.0 (subst (PortsBelow key.ports) b.1 r.below)) b.2 in b.1
      ∙ (ap (λ (m : List Entry). seen ++ m) z ∙ append-nil seen)

  ends : s.homes ≡ some (Some record { setting = key; history = seen }) ∷ []
  ends = homes_there key id ps seen s r turnless ∙ ap (λ (h : List Entry). some (Some record { setting = key; history = h }) ∷ []) all_seen

pub closes : (key : Setting) (id : ℕ) (ps : List ℕ) (seen : List Entry) (hs : List (List Entry)) (ws : List ℕ) (xs : List (Option Running))
    → ((p : ℕ) → p < key.ports → 0 < count_of p ps) → Final (Seen (Keeps key) id (joined_view ps seen key hs)) ws xs
    → (get_elem? xs 0 ≡ some (Some record { setting = key; history = seen })) × AllBegin hs seen × (length xs ≡ 1)
closes key id ps seen hs ws xs owns_all f =
    let s = f.0 in
    let r = f.1.0 in
    let at = f.1.1 in
    let e = ends key id ps seen hs owns_all s r at in
    let k = r.known id (joined_view ps seen key hs) at in
    (f.4 0 _ (ap (λ l. get_elem? l 0) e), subst (AllBegin hs) (all_seen key id ps seen hs owns_all s r at) k.heard, sym f.3 ∙ ap length e)

times_before : (p a n : ℕ) → p < a → count_of p (ports_from a n) ≡ 0
times_before p a zero l = refl
times_before p a (suc n) l = let h = times_before p (suc a) n (omega arith) in let o = same_else p a (λ e. omega arith) in omega arith

times_in : (p a n : ℕ) → a ≤ p → p < a + n → count_of p (ports_from a n) ≡ 1
times_in p a zero l m = absurd (omega arith)
times_in p a (suc n) l m = dite (ℕ_discrete p a) (λ e. let h = times_before p (suc a) n (omega arith) in let o = same_self p a e in omega arith)
    (λ ne. let h = times_in p (suc a) n (omega arith) (omega arith) in let o = same_else p a ne in omega arith)

times_after : (p a n : ℕ) → a + n ≤ p → count_of p (ports_from a n) ≡ 0
times_after p a zero l = refl
times_after p a (suc n) l = let h = times_after p (suc a) n (omega arith) in let o = same_else p a (λ e. omega arith) in omega arith

pub length_from : (a n : ℕ) → length (ports_from a n) ≡ n
length_from a zero = refl
length_from a (suc n) = let h = length_from (suc a) n in omega arith

pub opens : (key : Setting) → key.ports < 256 → Keeps key (opening (0 ∷ 0 ∷ []) (Some record { setting = key; history = [] } ∷ []) (opening_view key))
opens key few = record {
  history = [];
  turn = 0;
  words = refl;
  known = λ j d e. ⊎_elim (λ h. absurd (some-ne-none d (sym h)))
      (λ h. subst (Knows key 0 0 []) h (record {
        behind = ([], refl, tt);
        in_turn = tt;
        few = omega arith;
        told = λ _. refl;
        heard = tt;
      })) (at_snoc [] (opening_view key) d j e);
  apart = λ t. omega arith;
  ports = record {
    owned = λ p l. let h = times_in p 0 key.ports (omega arith) (omega arith) in omega arith;
    foreign = λ p l. let h = times_after p 0 key.ports (omega arith) in omega arith;
    counted = let h = length_from 0 key.ports in omega arith;
    few_ports = few;
  };
  below = tt;
  shelved = inl (refl, refl);
}
