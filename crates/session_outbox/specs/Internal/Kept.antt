-- How the sessions are kept: a map from each one's number to its facts.
use Rattle.std.specs.Prelude.{ℕ, List, map}
use Rattle.session_outbox.specs.declared.facts.Facts.{Facts}
use Rattle.opid.specs.Sessions.{Session}

-- the session of this number with these facts
abbrev pub session_of : ℕ × Facts → Session
session_of e = record {
  number = e.0;
  first = e.1.first;
  sent = e.1.sent;
  last = e.1.last;
  start = e.1.start;
  end = e.1.end;
  units = e.1.units;
}

-- the sessions that the entries stand for
abbrev pub sessions_of : List (ℕ × Facts) → List Session
sessions_of entries = map session_of entries
