-- What one turn at a connection does: a message is read, and its answer sent; and what serving a connection to its end does, turn by
-- turn, by what its reads and sends are alone. The rules are the server's own.
use Rattle.std.specs.Prelude.{◌≡◌, ◌⊎◌, ℕ, zero, suc, Bool, true, false, List, Option, Some, None, Result, Ok, Err, []}
use Rattle.tungstenite.specs.CloseCode.{close_code_of}
use Rattle.tungstenite.specs.Content.{Content, text, binary, ping, pong, close}
use Rattle.tungstenite.specs.Socket.{Socket, Reads, content_of}
use Rattle.tungstenite.specs.declared.message.Message.{Message}
use Rattle.tungstenite.specs.declared.error.Error.{Error}
use Rattle.tungstenite.specs.declared.error.Error.TheVariants.{ConnectionClosed, Capacity, OutOfMemory}
use Rattle.shared_room.specs.declared.pass.Pass.{Pass}
use Rattle.shared_room.specs.Views.{View}
use Rattle.ws_server.specs.declared.conn.Conn.{Conn}
use Rattle.line_engine.specs.LineBytes.{TellsNoRefusal}
use Rattle.line_engine.specs.declared.fault.ServeFault.{ServeFault}
use Rattle.line_engine.specs.declared.fault.ServeFault.TheVariants.{Read, Write, Memory}
use Rattle.ws_server.specs.declared.hall.Hall.{Hall}
use Rattle.ws_server.specs.declared.socket.HandshakeFault.{HandshakeFault}
use Rattle.ws_server.specs.declared.socket.HandshakeFault.TheVariants.{Memory as NoMemory}
use Rattle.ws_server.specs.Frames.{Side, AnswersFrame}
use Rattle.ws_server.specs.Gates.{TellsAfter}
use Rattle.ws_server.specs.Sockets.{Sends, IsOfHandshake}

-- the bytes of a text or binary message
abbrev pub bytes_of : Content → Option (List ℕ)
bytes_of (text bytes) = Some bytes
bytes_of (binary bytes) = Some bytes
bytes_of (ping bytes) = None
bytes_of (pong bytes) = None
bytes_of (close code) = None

-- how a turn ends at a read that gave no message: well where the connection is closed, and with `Read` for all but want of memory
abbrev pub end_of_read : Error → Result Bool ServeFault
end_of_read ConnectionClosed = Ok false
end_of_read OutOfMemory = Err Memory
end_of_read why = Err Read

-- a read that gave no message is answered by nothing, but at a message above a limit one send was made, well or not, of a close frame
-- that says so (RFC 6455, 7.4.1)
abbrev pub RefusesSize : {C : Type 0} → (C → Content → Result (Unit {0}) Error → C → Type 0) → Error → C → C → Type 0
RefusesSize sends (Capacity cause) mid last = (sent : Result (Unit {0}) Error) × sends mid (close (Some (close_code_of 1009, []))) sent last
RefusesSize sends why mid last = last ≡ mid

-- how a turn ends at a send that failed: with `Write` for all but want of memory
abbrev pub fault_of_send : Error → ServeFault
fault_of_send OutOfMemory = Memory
fault_of_send why = Write

-- how serving ends where there is no connection: with `Read` for all but want of memory
abbrev pub fault_of_handshake : HandshakeFault → ServeFault
fault_of_handshake NoMemory = Memory
fault_of_handshake why = Read

-- a connection that has opened no room and made no call
abbrev pub IsNew : Conn → Type 0
IsNew conn = (conn.opened ≡ None) × (conn.calls ≡ 0)

-- how the last turn ended, where serving ended so
abbrev pub turn_of : {T : Type 0} → Result T ServeFault → Result Bool ServeFault
turn_of (Ok done) = Ok false
turn_of (Err why) = Err why

-- an answer wasn't sent: there was no memory for its text, which is no refusal's, and no send was made; or one send failed, for a cause
-- with which a turn ends so
abbrev pub FailsToSend : {C : Type 0} → (C → Content → Result (Unit {0}) Error → C → Type 0) → C → List ℕ → C → ServeFault → Type 0
FailsToSend sends mid answer last why =
    ((why ≡ Memory) × TellsNoRefusal answer × (last ≡ mid))
    ⊎ ((cause : Error) × sends mid (text answer) (Err cause) last × (fault_of_send cause ≡ why))

module _ {C G : Type 0} (reads : C → Result Message Error → C → Type 0) (sends : C → Content → Result (Unit {0}) Error → C → Type 0)
    (told_before : G → ℕ → View → G → Type 0) (told_after : G → ℕ → G → Type 0) (hall : Hall) where
  -- the bytes were answered, one send took the text message of the answer, and the gate was told after it; any other message leaves
  -- the connection, the passes and the gate as before
  abbrev pub AnswersMessage : Option (List ℕ) → C → Side G → C → Side G → Type 0
  AnswersMessage (Some bytes) mid old last new =
      (answer : List ℕ) × (made : Option ℕ) × (gate : G) × AnswersFrame told_before hall old bytes answer made (record new { gate = gate })
      × sends mid (text answer) (Ok tt) last × TellsAfter told_after made gate new.gate
  AnswersMessage None mid old last new = (last ≡ mid) × (new ≡ old)

  -- one read gave a text or binary message, whose bytes were answered, and the answer wasn't sent
  abbrev pub AnswersUnsent : C → Side G → C → Side G → ServeFault → Type 0
  AnswersUnsent first old last new why =
      (message : Message) × (mid : C) × (bytes : List ℕ) × (answer : List ℕ) × (made : Option ℕ)
      × reads first (Ok message) mid × (bytes_of (content_of message) ≡ Some bytes)
      × AnswersFrame told_before hall old bytes answer made new × FailsToSend sends mid answer last why

  -- a read gave no message, for a cause with which a turn ends so, and nothing was answered but that it was too large
  abbrev pub ReadsNothing : C → Side G → C → Side G → Result Bool ServeFault → Type 0
  ReadsNothing first old last new end =
      (why : Error) × (mid : C) × reads first (Err why) mid × RefusesSize sends why mid last × (end_of_read why ≡ end) × (new ≡ old)

  -- one read gave a message, which was answered; or it told that the connection is closed. `Read` comes of a read alone, `Write` of
  -- a send alone
  abbrev pub ServesTurn : C → Side G → C → Side G → Result Bool ServeFault → Type 0
  ServesTurn first old last new (Ok true) =
      (message : Message) × (mid : C) × reads first (Ok message) mid × AnswersMessage (bytes_of (content_of message)) mid old last new
  ServesTurn first old last new (Ok false) = reads first (Err ConnectionClosed) last × (new ≡ old)
  ServesTurn first old last new (Err Read) = ReadsNothing first old last new (Err Read)
  ServesTurn first old last new (Err Write) = AnswersUnsent first old last new Write
  ServesTurn first old last new (Err Memory) = ReadsNothing first old last new (Err Memory) ⊎ AnswersUnsent first old last new Memory

  -- so many messages were read and answered, one after another
  abbrev pub ServesMany : ℕ → C → Side G → C → Side G → Type 0
  ServesMany zero first old last new = (last ≡ first) × (new ≡ old)
  ServesMany (suc n) first old last new =
      (mid : C) × (side : Side G) × ServesMany n first old mid side × ServesTurn mid side last new (Ok true)

  -- some messages were answered, and then the other side had closed, or a turn ended with the fault
  abbrev pub ServesToEnd : {T : Type 0} → C → Side G → C → Side G → Result T ServeFault → Type 0
  ServesToEnd first old last new result =
      (n : ℕ) × (mid : C) × (side : Side G) × ServesMany n first old mid side × ServesTurn mid side last new (turn_of result)

-- there was no handshake, and nothing was answered; or it gave a socket, at which a connection that had opened no room was served to
-- its end
abbrev pub ServesSocket : {S G T : Type 0} → (S → Option (List ℕ)) → (S → Option (List ℕ)) → (G → ℕ → View → G → Type 0)
    → (G → ℕ → G → Type 0) → Hall → List Pass → G → List Pass → G → Result T ServeFault → Type 0
ServesSocket {S} remaining contents told_before told_after hall passes gate passes' gate' result =
    (((result ≡ Err Read) ⊎ (result ≡ Err Memory)) × (passes' ≡ passes) × (gate' ≡ gate))
    ⊎ ((first last : Socket S) × (conn conn' : Conn) × IsOfHandshake first × IsNew conn
    × ServesToEnd (λ old result new. Reads remaining old new result) (Sends contents) told_before told_after hall
    first (record { conn = conn; passes = passes; gate = gate }) last (record { conn = conn'; passes = passes'; gate = gate' }) result)
