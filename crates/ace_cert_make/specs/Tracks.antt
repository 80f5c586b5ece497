-- What is kept of each line, and what an event changes of it.
use Rattle.std.specs.Prelude.{ℕ, ◌+◌, ◌-◌, ◌≡◌, ◌==◌, ◌<◌, ◌&&◌, ⊤, nat_le, if◌then◌else◌, [], ◌∷◌, ◌++◌, Option, Some, None, unwrap_or}
use Rattle.std.specs.Ordering.{nat_cmp}
use Rattle.std.specs.BTreeMap.{BTreeMap, get}
use Rattle.ace_model.specs.Trace.{Trace, newer}
use Rattle.ace_model.specs.Lines.{is_known}
use Rattle.ace_model.specs.Grants.{grant_place}
use Rattle.ace_model.specs.Copies.{is_line_read_transaction}
use Rattle.ace_portck.specs.declared.target.Progress.{Progress}
use Rattle.ace_cert.specs.declared.cert.LineOrder.{LineOrder}
use Rattle.ace_cert.specs.declared.cert.ReadPlace.{ReadPlace}
use Rattle.ace_cert.specs.Certificates.{store_numbers}
use Rattle.ace_cert_make.specs.declared.track.LineTrack.{LineTrack}
use Rattle.ace_cert_make.specs.declared.track.LineChange.{LineChange}
use Rattle.ace_cert_make.specs.declared.track.Change.{Change}
use Rattle.ace_cert_make.specs.declared.track.Change.TheVariants.{Grant, Store, Write, Answer}
use Rattle.ace_cert_make.specs.Places.{memory_place, place_given, sent_place}

-- what is kept of the line
abbrev pub track_of : Trace → ℕ → LineTrack
track_of past l = record {
  stores = store_numbers past l;
  granted = grant_place past l;
  memory = memory_place past l;
  sent = sent_place past l;
}

-- the lines that line transactions name have what is kept of them
abbrev pub LinesStand : Trace → BTreeMap ℕ LineTrack → Type 0
LinesStand past lines =
    (l : ℕ) → get nat_cmp lines l ≡ (if is_known past l then Some (track_of past l) else None)

-- each read that has a place has it under its number
abbrev pub PlacesStand : Trace → BTreeMap ℕ ℕ → Type 0
PlacesStand past reads = (number : ℕ) → get nat_cmp reads number ≡ place_given past number

-- what is kept of a line that the event with the number changes
abbrev pub changed : Change → ℕ → LineTrack → LineTrack
changed Grant number t =
    record { stores = t.stores; granted = number; memory = number; sent = None }
changed Store number t =
    record {
      stores = t.stores ++ number ∷ [];
      granted = t.granted;
      memory = t.memory;
      sent = t.sent;
    }
changed (Write stores) number t = record {
  stores = if stores then t.stores ++ number ∷ [] else t.stores;
  granted = t.granted;
  memory = number;
  sent = t.sent;
}
changed (Answer snooped) number t = record {
  stores = t.stores;
  granted = t.granted;
  memory = t.memory;
  sent = if nat_le t.granted snooped then newer t.sent (Some (number - 1)) else t.sent;
}

-- the same, where the change is one of the line
abbrev pub changed_to : Option LineChange → ℕ → ℕ → LineTrack → LineTrack
changed_to None number l t = t
changed_to (Some c) number l t = if c.line == l then changed c.change number t else t

-- the place of a read of the line whose first beat comes next, by what is kept of the line
abbrev pub place_kept : Option LineTrack → ℕ
place_kept None = 0
place_kept (Some t) = unwrap_or t.sent t.memory

-- a line of the certificate, by what is kept of it
abbrev pub order_of : ℕ × LineTrack → LineOrder
order_of e = record { addr = e.0; stores = e.1.stores }

-- a read of it
abbrev pub read_of : ℕ × ℕ → ReadPlace
read_of e = record { event = e.0; place = e.1 }

-- it was issued by one of the first events
abbrev pub IsEarly : Option Progress → Type 0
IsEarly None = ⊤
IsEarly (Some x) = x.transaction.place < 1048576

-- the place that a read gets by a beat, by what is kept of the lines
abbrev pub place_of_beat : Option Progress → BTreeMap ℕ LineTrack → Option ReadPlace
place_of_beat None lines = None
place_of_beat (Some x) lines =
    if (x.transfers == 0) && is_line_read_transaction x.transaction
    then Some (record {
      event = x.transaction.place + 1;
      place = place_kept (get nat_cmp lines x.transaction.addr);
    }) else None
