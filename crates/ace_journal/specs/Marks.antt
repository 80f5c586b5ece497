-- Which rows are marked, and how: what a look shows among the rows of the line of an event.
use Rattle.std.specs.Prelude.{ℕ, ◌++◌, ◌&&◌, ◌||◌, ◌==◌, not, Bool, true, false, if◌then◌else◌, List, [], Option, Some, None, codes, length}
use Rattle.std.specs.List.{list_any}
use Rattle.ace_codes.specs.Responses.{is_shared, passes_dirty, transfers_data}
use Rattle.ace_clauses.specs.declared.letters.Letter.{Letter}
use Rattle.ace_event_words.specs.declared.deed.Deed.{Deed}
use Rattle.ace_event_words.specs.declared.deed.Deed.TheVariants as deed
use Rattle.ace_journal.specs.Looks.{looks_of}
use Rattle.ace_journal.specs.declared.looks.Look.{Look}
use Rattle.ace_journal.specs.declared.looks.Look.TheVariants.{Issue, OtherUse, Grant, Snoop, Unanswered, DataAnswer, PassedDirty, Kept, Begun, Transfer, Sent, Response, OwnWrite, MemoryWrite, Store, State, ExclusiveLoad, ExclusiveStore, Lost}
use Rattle.ace_journal.specs.declared.looks.Looks.{Looks}
use Rattle.ace_journal.specs.declared.rows.Row.{Row}
use Rattle.ace_tables.specs.States.{is_invalid}

-- the port of an event: 32, which is none, of a MEM
abbrev pub port_of : Deed → ℕ
port_of (deed.Ar p kind id lock) = p
port_of (deed.R p kind resp) = p
port_of (deed.Rk p kind st) = p
port_of (deed.Aw p kind id) = p
port_of (deed.W p kind) = p
port_of (deed.B p kind resp) = p
port_of (deed.Wk p kind st) = p
port_of (deed.Ac p snoop) = p
port_of (deed.Cr p resp st) = p
port_of (deed.Cd p) = p
port_of (deed.G p kind) = p
port_of (deed.M p kind) = p
port_of (deed.S p st) = p
port_of (deed.L p w x) = p
port_of (deed.D p x) = p
port_of (deed.Op p k res) = p
port_of deed.Mem = 32

-- it begins a transaction; it does so, and is the port's
abbrev pub is_issue : Deed → Bool
is_issue (deed.Ar q kind id lock) = true
is_issue (deed.Aw q kind id) = true
is_issue _ = false

abbrev pub is_issue_of : ℕ → Deed → Bool
is_issue_of p d = (port_of d == p) && is_issue d

abbrev pub is_grant : Deed → Bool
is_grant (deed.G q kind) = true
is_grant _ = false

abbrev pub is_store_of : ℕ → Deed → Bool
is_store_of p (deed.D q x) = q == p
is_store_of p _ = false

abbrev pub is_exclusive_load_of : ℕ → Deed → Bool
is_exclusive_load_of p (deed.L q w x) = (q == p) && x
is_exclusive_load_of p _ = false

-- it leaves the line in I
abbrev pub leaves_nothing : Deed → Bool
leaves_nothing (deed.Rk q kind st) = is_invalid st
leaves_nothing (deed.Wk q kind st) = is_invalid st
leaves_nothing (deed.Cr q resp st) = is_invalid st
leaves_nothing (deed.S q st) = is_invalid st
leaves_nothing _ = false

-- it names the state in which it leaves the line
abbrev pub names_state : Deed → Bool
names_state (deed.Rk q kind st) = true
names_state (deed.Wk q kind st) = true
names_state (deed.Cr q resp st) = true
names_state (deed.S q st) = true
names_state _ = false

-- what is looked for, by the port of the event that breaks a rule
abbrev pub shows : Look → ℕ → Deed → Bool
shows Issue p d = is_issue_of p d
shows OtherUse p d = is_issue d
shows Grant p d = is_grant d
shows Snoop p (deed.Ac q snoop) = q == p
shows Unanswered p (deed.Ac q snoop) = true
shows DataAnswer p (deed.Cr q resp st) = (q == p) && transfers_data resp
shows PassedDirty p (deed.Cr q resp st) = passes_dirty resp
shows Kept p (deed.Cr q resp st) = is_shared resp
shows Begun p (deed.R q kind resp) = true
shows Transfer p (deed.R q kind resp) = q == p
shows Sent p (deed.W q kind) = q == p
shows Response p (deed.B q kind resp) = q == p
shows OwnWrite p (deed.M q kind) = q == p
shows MemoryWrite p (deed.M q kind) = true
shows Store p d = is_store_of p d
shows State p d = (port_of d == p) && names_state d
shows ExclusiveLoad p d = is_exclusive_load_of p d
shows ExclusiveStore p (deed.D q x) = (q == p) && x
shows Lost p d = (port_of d == p) && leaves_nothing d
shows _ p d = false

-- it answers a snoop of this port
abbrev pub answers : Deed → Deed → Bool
answers (deed.Ac p snoop) (deed.Cr q resp st) = p == q
answers _ _ = false

-- a newer event after which what the look showed counts no more
abbrev pub ends : Look → ℕ → Deed → Deed → Bool
ends Unanswered p d newer = answers d newer
ends Lost p d newer = is_exclusive_load_of p newer
ends PassedDirty p d newer = is_grant newer || shows PassedDirty p newer
ends Kept p d newer = is_grant newer || shows Kept p newer
ends Begun p d newer = is_grant newer || shows Begun p newer
ends Transfer p d newer = is_issue_of p newer || shows Transfer p newer
ends Sent p d newer = is_issue_of p newer || shows Sent p newer
ends Response p d newer = is_issue_of p newer || shows Response p newer
ends OwnWrite p d newer = is_issue_of p newer || shows OwnWrite p newer
ends State p d newer = is_store_of p newer || shows State p newer
ends ExclusiveStore p d newer = is_exclusive_load_of p newer || shows ExclusiveStore p newer
ends look p d newer = shows look p newer

-- the look shows the row, behind which these newer rows stand
abbrev pub is_shown : Look → ℕ → List Row → Row → Bool
is_shown look p newer row =
    shows look p row.deed && not (list_any (λ (r : Row). ends look p row.deed r.deed) newer)

abbrev pub look_words : Look → List ℕ
look_words Issue = codes "is outstanding"
look_words OtherUse = codes "uses the line the other way"
look_words Grant = codes "the grant"
look_words Snoop = codes "the snoop"
look_words Unanswered = codes "no answer yet"
look_words DataAnswer = codes "the answer"
look_words PassedDirty = codes "passes the dirty line"
look_words Kept = codes "keeps the line"
look_words Begun = codes "the transfers have begun"
look_words Transfer = codes "its last transfer"
look_words Sent = codes "its last data"
look_words Response = codes "its response"
look_words OwnWrite = codes "memory is written for it"
look_words MemoryWrite = codes "the last write of memory"
look_words Store = codes "its last store"
look_words State = codes "its state since then"
look_words ExclusiveLoad = codes "its last exclusive load"
look_words ExclusiveStore = codes "its exclusive store"
look_words Lost = codes "leaves the line in I"

-- the mark of the row by the look, if there is one
abbrev pub mark_by : Option Look → ℕ → List Row → Row → List ℕ
mark_by None p newer row = []
mark_by (Some look) p newer row = if is_shown look p newer row then look_words look else []

-- the same behind the row, if there is one
unfoldable pub mark_part : List ℕ → List ℕ
mark_part mark = if length mark == 0 then [] else codes "   <- " ++ mark

abbrev pub marks_by : Looks → ℕ → List Row → Row → List ℕ
marks_by looks p newer row =
    mark_part (mark_by looks.first p newer row) ++ mark_part (mark_by looks.second p newer row)

-- what is looked for among the rows of the event: of one without a line nothing
abbrev pub looks_for : Option ℕ → ℕ → Letter → Looks
looks_for None rule letter = record { first = None; second = None }
looks_for (Some line) rule letter = looks_of rule letter
