-- What leaves the room that there is for lines.
use Rattle.std.proofs.Common.{◌≡◌, ℕ, zero, suc, ◌+◌, ◌≤◌, ◌<◌, nat_eq, ◌∷◌, length, is_some, unwrap_or, refl, sym, ap, subst, ◌∙◌, arith}
use Rattle.ace_lineck.proofs.Terms.{AreRoomFor, IsDistinct, list_any, lookup, get, index_map_len, keys, spare, with_value_at, Event, Trace, HasRoomForLines, Recording, LineCheck, LineRecord, LineStands, Stands, IsEmpty, IsRoomy, record_of}
use Rattle.std.proofs.lemmas.Map.Made.{is_some-lookup}
use Rattle.indexmap.proofs.CallerLemmas.{keys-with_value_at, index_map_len-with_value_at}
use Rattle.ace_portck.proofs.LineMaps.{room-same, room-stays}

-- a record that is written
pub written-fits : (s t : LineCheck) (i : ℕ) (y : LineRecord) → t.lines ≡ with_value_at s.lines i y → t.spare ≡ s.spare → (lines : ℕ) (past : Trace) → IsRoomy lines past s → IsRoomy lines past t
written-fits s t i y written kept lines past room =
    let n = with_value_at s.lines i y in
    let same : keys n ≡ keys s.lines = keys-with_value_at s.lines i y in
    let len : index_map_len n ≡ index_map_len s.lines = index_map_len-with_value_at s.lines i y in
    let records = room.records in
    record {
      map = subst (HasRoomForLines lines past) (sym written)
          (room-same lines past s.lines n room.map
          (λ l. is_some-lookup (nat_eq l) n.entries ∙ ap (list_any (nat_eq l)) same ∙ sym (is_some-lookup (nat_eq l) s.lines.entries))
          (omega (arith, len)) (omega arith) (subst (IsDistinct nat_eq) (sym same) room.map.unique));
      records = rw (written, kept) (omega (arith, len, records));
    }

-- the trace grows
pub grown-roomy : (lines : ℕ) (past : Trace) (e : Event) (s : LineCheck) → IsRoomy lines past s → IsRoomy lines (e ∷ past) s
grown-roomy lines past e s room = record { map = room-stays lines e past s.lines room.map; records = room.records }

-- spare room is taken, or there was none; and no record is put into the map, which has the same room
pub spent-roomy : (lines : ℕ) (past : Trace) (s t : LineCheck) → IsRoomy lines past s → t.lines.entries ≡ s.lines.entries → IsDistinct nat_eq (keys t.lines)
    → spare s.lines ≤ spare t.lines → lines ≤ index_map_len s.lines + length t.spare.items → IsRoomy lines past t
spent-roomy lines past s t room same unique left records =
    let len : index_map_len t.lines ≡ index_map_len s.lines = ap length same in
    record {
      map = room-same lines past s.lines t.lines room.map (λ l. ap (λ es. is_some (lookup (nat_eq l) es)) same) (omega (arith, len)) left unique;
      records = omega (arith, records, len);
    }

-- other spare room, for each port of the header
pub respared : (s t : LineCheck) (r : Recording) → t.header ≡ s.header → t.empty ≡ s.empty → t.known ≡ s.known → t.lines.entries ≡ s.lines.entries
    → AreRoomFor r.header.ports t.spare.items → Stands s r → Stands t r
respared s t r header empty known same spare st = record {
  header = header ∙ st.header;
  ports = st.ports;
  accepted = st.accepted;
  empty = subst IsEmpty (sym empty) st.empty;
  lines = λ l. subst (LineStands r.header r.past l) (sym (one l)) (st.lines l);
  holders = λ l y is. st.holders l y (sym (ap (lookup (nat_eq l)) same) ∙ is);
  known = known ∙ st.known;
  spare = spare;
}
  where
    one : (l : ℕ) → record_of t l ≡ record_of s l
    one l = ap (λ o. unwrap_or o t.empty) (ap (lookup (nat_eq l)) same) ∙ ap (unwrap_or (get nat_eq s.lines l)) empty

-- what would be so where there are some isn't so, so there are none
pub none-left : {P : Type 0} (n : ℕ) → (0 < n → P) → (P → ⊥) → n ≡ 0
none-left zero some not-so = refl
none-left (suc n) some not-so = absurd (not-so (some (omega arith)))
