-- Each kind of step keeps the rule.
use Rattle.std.proofs.Common.{◌≡◌, ◌≢◌, ℕ, ◌+◌, ◌%◌, ◌^◌, ◌<◌, ◌≤◌, List, [], ◌∷◌, ◌++◌, length, get_or, set, sym, refl, ap, ◌∙◌, subst, arith, lt_of_not-le, ⊎_elim, inl, inr, eq-eqb, ne_eqb, Some, Option}
use Rattle.std.proofs.Math.Nat.{mod-add-mod, add_assoc}
use Rattle.std.proofs.lemmas.List.{append-nil, append_assoc}
use mathlib.Core.Logic.{dite}
use mathlib.Core.Option.{some, none}
use native.Mathlib.Decide.{ℕ_discrete, dec_le}
use lib.ListN.{get_elem?}
use lib.Seq.{set-get_or}
use Rattle.atomic_table.specs.Table.{State, step, keeps, takes, gives, stepped, Allows}
use Rattle.atomic_table.proofs.Lists.{set_again, one_turn}
use Rattle.ace_history.specs.declared.entry.Entry.{Entry}
use Rattle.ace_live.specs.declared.setting.Setting.{Setting}
use Rattle.ace_live.specs.declared.rule.View.{View}
use Rattle.ace_live.specs.declared.rule.Stage.{Stage}
use Rattle.ace_live.specs.declared.rule.Stage.TheVariants.{Idle, Waits, Holds}
use Rattle.ace_live.specs.Running.{Running}
use Rattle.ace_live.specs.Rule.{InTurn, Knows, Shelved, SharedOut, Keeps}
use Rattle.ace_live.specs.Steps.{claimed, looked, served}
use Rattle.ace_live.specs.Views.{total, one_if_same, count_of, ticket, has_ticket, with_ticket, with_turn, owns, port_count, NoneBy, AllBy, Behind, AllBegin, PortsBelow, view_of}
use Rattle.ace_live.proofs.Totals.{set_known, total_set, total_same, total_has, total_two, total_below, total_beside, total_none}

pub same_self : (n m : ℕ) → n ≡ m → one_if_same n m ≡ 1
same_self n m e = rw (eq-eqb n m e) refl

pub same_else : (n m : ℕ) → n ≢ m → one_if_same n m ≡ 0
same_else n m e = rw (ne_eqb n m e) refl

ports_stay : (key : Setting) (vs : List View) (id : ℕ) (v w : View) → get_elem? vs id ≡ some v → w.ports ≡ v.ports → SharedOut key vs
    → SharedOut key (set vs id w)
ports_stay key vs id v w at e r = record {
  owned = λ p l. total_same (owns p) vs id v w at (ap (count_of p) e) ∙ r.owned p l;
  foreign = λ p l. total_same (owns p) vs id v w at (ap (count_of p) e) ∙ r.foreign p l;
  counted = total_same port_count vs id v w at (ap length e) ∙ r.counted;
  few_ports = r.few_ports;
}

module _ (key : Setting) (s : State (Option Running) View) (r : Keeps key s) where
  -- a seat that owns a port and has no ticket: fewer tickets than ports
  tickets_fit : total ticket s.views ≤ key.ports
  tickets_fit = let b = total_below ticket port_count s.views (λ j x e. let k = r.known j x e in k.few) in let c = r.ports.counted in omega arith

  free_ticket : (id : ℕ) (v : View) → get_elem? s.views id ≡ some v → v.stage ≡ Idle → 0 < port_count v → total ticket s.views < key.ports
  free_ticket id v at idle some_port = let b = total_beside ticket port_count s.views id v
      (λ j x e. let k = r.known j x e in k.few) at in let c = r.ports.counted in
      let z : ticket v ≡ 0 = ap (λ (x : Stage). Rattle.ace_live.specs.Views.ticket_of x) idle in omega arith

-- what another seat knows stays where one more ticket is given
more_waiting : (key : Setting) (turn waiting : ℕ) (history : List Entry) (d : View) → Knows key turn waiting history d → Knows key turn (waiting + 1) history d
more_waiting key turn waiting history d k = record { behind = k.behind; in_turn = later d.stage d.seen k.in_turn; few = k.few; told = k.told; heard = k.heard }
  where
    later : (st : Stage) (seen : List Entry) → InTurn turn waiting history st seen → InTurn turn (waiting + 1) history st seen
    later Idle seen i = tt
    later (Waits t) seen i = let a = i.0 in let b = i.1 in (a, omega arith)
    later (Holds t) seen i = i

module _ (key : Setting) (id : ℕ) (ps : List ℕ) (seen : List Entry) where
  -- the ticket that comes next is held by no view
  next_unheld : (s : State (Option Running) View) (r : Keeps key s) → total (with_ticket (r.turn + total ticket s.views)) s.views ≡ 0
  next_unheld s r = total_none (with_ticket (r.turn + total ticket s.views)) s.views
      (λ j x e. let k = r.known j x e in let h = total_has ticket s.views j x e in unheld x.stage x.seen k.in_turn h)
    where
      unheld : (st : Stage) (old : List Entry) → InTurn r.turn (total ticket s.views) r.history st old
          → Rattle.ace_live.specs.Views.ticket_of st ≤ total ticket s.views → has_ticket (r.turn + total ticket s.views) st ≡ 0
      unheld Idle old i h = refl
      unheld (Waits t) old i h = let b = i.1 in same_else (r.turn + total ticket s.views) t (λ e. omega arith)
      unheld (Holds t) old i h = let b = i.0 in same_else (r.turn + total ticket s.views) t (λ e. omega arith)

  pub claims : (slots : ℕ) → 0 < length ps → Allows (Keeps key) slots id (view_of ps Idle seen key, []) 0
      (λ n. (n + 1) % 2 ^ 64) (claimed (step slots 0 1 0 none) (view_of ps Idle seen key, []))
  claims slots some_port s r _ at _ =
      let k : ℕ = total ticket s.views in
      let v : View = view_of ps Idle seen key in
      let w : View = view_of ps (Waits (r.turn + k)) seen key in
      let grown : total ticket (set s.views id w) ≡ k + 1 = (let t = total_set ticket s.views id v w at in omega arith) in
      let mine = r.known id v at in (
        w,
        keeps,
        tt,
        record {
          history = r.history;
          turn = r.turn;
          words = ap (λ (ws : List ℕ). set ws 0 ((get_or ws 0 0 + 1) % 2 ^ 64)) r.words ∙ (rw (mod-add-mod, grown) (rw (add_assoc r.turn k 1) refl));
          known = subst (λ (n : ℕ). (j : ℕ) (d : View) → get_elem? (set s.views id w) j ≡ some d → Knows key r.turn n r.history d) (sym grown)
              (set_known (Knows key r.turn (k + 1) r.history) s.views id w (record {
                behind = mine.behind;
                in_turn = (omega arith, omega arith);
                few = some_port;
                told = λ _. refl;
                heard = tt;
              })
              (λ j d _ e. more_waiting key r.turn k r.history d (r.known j d e)));
          apart = λ t. let b = total_set (with_ticket t) s.views id v w at in let c = r.apart t in
              dite (ℕ_discrete t (r.turn + k))
              (λ e. let z : total (with_ticket t) s.views ≡ 0 = ap (λ (n : ℕ). total (with_ticket n) s.views) e
              ∙ next_unheld s r in let o = same_self t (r.turn + k) e in omega arith)
              (λ ne. let o = same_else t (r.turn + k) ne in omega arith);
          ports = ports_stay key s.views id v w at refl r.ports;
          below = r.below;
          shelved = subst (λ (n : ℕ). Shelved key r.history n s.homes) (sym (total_same with_turn s.views id v w at refl)) r.shelved;
        },
        (r.turn + k, refl, ap (λ (ws : List ℕ). get_or ws 0 0) r.words),
      )

  -- while a seat waits with the ticket of the turn, no seat holds the turn
  pub turn_free : (s : State (Option Running) View) (r : Keeps key s) → get_elem? s.views id ≡ some (view_of ps (Waits r.turn) seen key)
      → total with_turn s.views ≡ 0
  turn_free s r at = let u = r.turn in let b = total_beside with_turn (with_ticket u) s.views id (view_of ps (Waits u) seen key)
      (λ j x e. let k = r.known j x e in has_its x.stage x.seen k.in_turn) at in
      let a = r.apart u in let o = same_self u u refl in omega arith
    where
      has_its : (st : Stage) (old : List Entry) → InTurn r.turn (total ticket s.views) r.history st old
          → Rattle.ace_live.specs.Views.turn_of st ≤ has_ticket r.turn st
      has_its Idle old i = omega arith
      has_its (Waits t) old i = omega arith
      has_its (Holds t) old i = let o = same_self r.turn t (sym i.0) in omega arith

  pub homes_there : (s : State (Option Running) View) (r : Keeps key s) → total with_turn s.views ≡ 0 → s.homes
      ≡ some (Some record { setting = key; history = r.history }) ∷ []
  homes_there s r z = ⊎_elim (λ t. t.0) (λ t. let o = t.1 in absurd (omega arith)) r.shelved

  pub homes_out : (s : State (Option Running) View) (r : Keeps key s) → 0 < total with_turn s.views → s.homes ≡ none ∷ []
  homes_out s r z = ⊎_elim (λ t. let o = t.1 in absurd (omega arith)) (λ t. t.0) r.shelved

  takes_turn : (t slots : ℕ) (s : State (Option Running) View) (r : Keeps key s) (at : get_elem? s.views id ≡ some (view_of ps (Waits t) seen key)) → t
      ≡ r.turn → get_or s.words 1 0 ≡ t % 2 ^ 64
      → Keeps key (stepped s 1 (get_or s.words 1 0) id [] (view_of ps (Holds t) r.history key) (takes 0 (Some record { setting = key; history = r.history })))
  takes_turn t slots s r at is found =
      let v : View = view_of ps (Waits t) seen key in
      let w : View = view_of ps (Holds t) r.history key in
      let mine = r.known id v at in
      let same_tickets : total ticket (set s.views id w) ≡ total ticket s.views = total_same ticket s.views id v w at refl in
      let free : total with_turn s.views ≡ 0 = turn_free s r (subst (λ (n : ℕ). get_elem? s.views id ≡ some (view_of ps (Waits n) seen key)) is at) in record {
        history = r.history;
        turn = r.turn;
        words = set-get_or s.words 1 0 ∙ (r.words ∙ (rw same_tickets refl));
        known = subst (λ (n : ℕ). (j : ℕ) (d : View) → get_elem? (set s.views id w) j ≡ some d → Knows key r.turn n r.history d) (sym same_tickets)
            (set_known (Knows key r.turn (total ticket s.views) r.history) s.views id w (record {
              behind = ([], sym (append-nil r.history), tt);
              in_turn = (is, refl);
              few = mine.few;
              told = λ _. refl;
              heard = tt;
            }) (λ j d _ e. r.known j d e));
        apart = λ n. let a = r.apart n in let e = total_same (with_ticket n) s.views id v w at refl in omega arith;
        ports = ports_stay key s.views id v w at refl r.ports;
        below = r.below;
        shelved = inr (ap (λ hs. set hs 0 none) (homes_there s r free), let e = total_set with_turn s.views id v w at in omega arith);
      }

  pub looks : (t slots : ℕ) → Allows (Keeps key) slots id (view_of ps (Waits t) seen key, []) 1
      (λ n. n) (looked (step slots 1 0 0 none) (view_of ps (Waits t) seen key, []))
  looks t slots s r _ at _ =
      let v : View = view_of ps (Waits t) seen key in
      let w : View = view_of ps (Holds t) r.history key in
      let mine = r.known id v at in
      let n : ℕ = get_or s.words 1 0 in
      let turn_word : n ≡ r.turn % 2 ^ 64 = ap
      (λ (ws : List ℕ). get_or ws 1 0) r.words in
      let fit = tickets_fit key s r in
      let small = r.ports.few_ports in
      let low : r.turn ≤ t = mine.in_turn.0 in
      let high : t < r.turn + total ticket s.views = mine.in_turn.1 in
      dite (ℕ_discrete n (t % 2 ^ 64))
      (λ e. let is : t ≡ r.turn = sym (one_turn r.turn t (2 ^ 64) low (omega arith) (sym turn_word ∙ e)) in (
        w,
        takes 0 (Some record { setting = key; history = r.history }),
        ap (λ hs. get_elem? hs 0) (homes_there s r (turn_free s r (subst (λ (m : ℕ). get_elem? s.views id ≡ some (view_of ps (Waits m) seen key)) is at))),
        takes_turn t slots s r at is e,
        (λ _. (r.history, refl, mine.behind), λ ne. absurd (ne e)),
      ))
      (λ ne. (
        v,
        keeps,
        tt,
        subst (λ (vs : List View). Keeps key record { words = set s.words 1 n; homes = s.homes; views = vs }) (sym (set_again s.views id v at))
            (subst (λ (ws : List ℕ). Keeps key record { words = ws; homes = s.homes; views = s.views }) (sym (set-get_or s.words 1 0)) r),
        (λ e. absurd (ne e), λ _. refl),
      ))

none_by_append : (ports : List ℕ) (a b : List Entry) → NoneBy ports a → NoneBy ports b → NoneBy ports (a ++ b)
none_by_append ports [] b p q = q
none_by_append ports (e ∷ es) b p q = (p.0, none_by_append ports es b p.1 q)

below_append : (n : ℕ) (a b : List Entry) → PortsBelow n a → PortsBelow n b → PortsBelow n (a ++ b)
below_append n [] b p q = q
below_append n (e ∷ es) b p q = (p.0, below_append n es b p.1 q)

-- entries of ports that one view owns are of no port of another
none_of_other : (ps qs : List ℕ) (new : List Entry) → ((p : ℕ) → count_of p ps + count_of p qs ≤ 1) → AllBy ps new → NoneBy qs new
none_of_other ps qs [] u a = tt
none_of_other ps qs (e ∷ es) u a = (let h = u e.port in let b = a.0 in omega arith, none_of_other ps qs es u a.1)

inside : (key : Setting) (vs : List View) (id : ℕ) (v : View) (new : List Entry) → get_elem? vs id ≡ some v → SharedOut key vs → AllBy v.ports new
    → PortsBelow key.ports new
inside key vs id v [] at r a = tt
inside key vs id v (e ∷ es) at r a = (
  let h = total_has (owns e.port) vs id v at in let b = a.0 in lt_of_not-le
      (λ l. let z = r.foreign e.port l in absurd (omega arith)),
  inside key vs id v es at r a.1,
)

all_begin_more : (hs : List (List Entry)) (history new : List Entry) → AllBegin hs history → AllBegin hs (history ++ new)
all_begin_more [] history new a = tt
all_begin_more (h ∷ hs) history new a = let b = a.0 in ((b.0 ++ new, ap (λ k. k ++ new) b.1 ∙ append_assoc h b.0 new), all_begin_more hs history new a.1)

module _ (key : Setting) (turn waiting : ℕ) (history new : List Entry) where
  -- what another seat knows stays where the holder of the turn serves
  one_served : (d : View) → has_ticket turn d.stage ≡ 0 → NoneBy d.ports new → Knows key turn (waiting + 1) history d
      → Knows key (turn + 1) waiting (history ++ new) d
  one_served d other none_by k = let b = k.behind in record {
    behind = (b.0 ++ new, ap (λ h. h ++ new) b.1 ∙ append_assoc d.seen b.0 new, none_by_append d.ports b.0 new b.2 none_by);
    in_turn = later d.stage d.seen other k.in_turn;
    few = k.few;
    told = k.told;
    heard = all_begin_more d.heard history new k.heard;
  }
    where
      later : (st : Stage) (seen : List Entry) → has_ticket turn st ≡ 0 → InTurn turn (waiting + 1) history st seen
          → InTurn (turn + 1) waiting (history ++ new) st seen
      later Idle seen o i = tt
      later (Waits t) seen o i = let a = i.0 in let b = i.1 in let n : turn ≢ t =
          (λ e. let c = same_self turn t e in absurd (omega arith)) in (omega arith, omega arith)
      later (Holds t) seen o i = let c = same_self turn t (sym i.0) in absurd (omega arith)

module _ (key : Setting) (id : ℕ) (ps : List ℕ) (seen new : List Entry) (t : ℕ) where
  abbrev put : List (ℕ × Option Running)
  put = (0, Some record { setting = key; history = seen ++ new }) ∷ []

  pub serves : (slots : ℕ) → AllBy ps new → Allows (Keeps key) slots id (view_of ps (Holds t) seen key, put) 1
      (λ n. (n + 1) % 2 ^ 64) (served (step slots 1 1 0 none) (view_of ps (Holds t) seen key, put))
  serves slots mine_new s r _ at _ =
      let v : View = view_of ps (Holds t) seen key in
      let w : View = view_of ps Idle (seen ++ new) key in
      let mine = r.known id v at in
      let is : t ≡ r.turn = mine.in_turn.0 in let all : seen ≡ r.history = mine.in_turn.1 in let k' : ℕ = total ticket (set s.views id w) in
      let fewer : total ticket s.views ≡ k' + 1 = (let b = total_set ticket s.views id v w at in omega arith) in
      let holds : 0 < total with_turn s.views = (let b = total_has with_turn s.views id v at in omega arith) in (
        w,
        gives,
        tt,
        record {
          history = seen ++ new;
          turn = r.turn + 1;
          words = ap (λ (ws : List ℕ). set ws 1 ((get_or ws 1 0 + 1) % 2 ^ 64)) r.words ∙
              (rw (mod-add-mod, fewer) (let e : r.turn + (k' + 1) ≡ r.turn + 1 + k' = omega arith in rw e refl));
          known = set_known (Knows key (r.turn + 1) k' (seen ++ new)) s.views id w (record {
            behind = ([], sym (append-nil (seen ++ new)), tt);
            in_turn = tt;
            few = omega arith;
            told = λ _. refl;
            heard = tt;
          })
              (λ j d ne e. one_served key r.turn k' seen new d
              (let b = total_two (with_ticket r.turn) s.views id j v d ne at e in let a = r.apart r.turn in let o = same_self r.turn t (sym is) in omega arith)
              (none_of_other ps d.ports new
              (λ p. let b = total_two (owns p) s.views id j v d ne at e in owned_once s r p (count_of p ps + count_of p d.ports) b) mine_new)
              (subst (λ (x : ℕ × List Entry). Knows key r.turn x.0 x.1 d) (λ i. (fewer i, sym all i)) (r.known j d e)));
          apart = λ n. let b = total_set (with_ticket n) s.views id v w at in let a = r.apart n in omega arith;
          ports = ports_stay key s.views id v w at refl r.ports;
          below = below_append key.ports seen new (subst (PortsBelow key.ports) (sym all) r.below) (inside key s.views id v new at r.ports mine_new);
          shelved = inl (
            ap (λ hs. set hs 0 (some (Some record {
              setting = key;
              history = seen ++ new;
            }))) (homes_out key id ps seen s r holds),
            let e = total_set with_turn s.views id v w at in holders s r e,
          );
        },
        refl,
      )
    where
      owned_once : (s : State (Option Running) View) (r : Keeps key s) (p n : ℕ) → n ≤ total (owns p) s.views → n ≤ 1
      owned_once s r p n l = dite (dec_le key.ports p) (λ b. let z = r.ports.foreign p b in omega arith)
          (λ b. let z = r.ports.owned p (lt_of_not-le b) in omega arith)

      holders : (s : State (Option Running) View) (r : Keeps key s) {n : ℕ} → n + 1 ≡ total with_turn s.views + 0 → n ≡ 0
      holders s r {n} e = ⊎_elim (λ h. let z = h.1 in absurd (omega arith)) (λ h. let z = h.1 in omega arith) r.shelved

pub turn_ticket : (st : Stage) → Rattle.ace_live.specs.Views.turn_of st ≤ Rattle.ace_live.specs.Views.ticket_of st
turn_ticket Idle = omega arith
turn_ticket (Waits t) = omega arith
turn_ticket (Holds t) = omega arith
