-- What a server's WebSocket is to the server: what one send at it does, as `tungstenite` tells it, and how a handshake leaves it.
use Rattle.std.specs.Prelude.{◌≡◌, List, [], ℕ, Option, Some, false, Result, Ok, Err}
use Rattle.tungstenite.specs.Connection.{close_step, write_step}
use Rattle.tungstenite.specs.Content.{Content, close}
use Rattle.tungstenite.specs.Failure.{WriteFails}
use Rattle.tungstenite.specs.Heads.{Serves as IsOfServer}
use Rattle.tungstenite.specs.Socket.{Socket, Writes}
use Rattle.tungstenite.specs.declared.error.Error.{Error}
use Rattle.tungstenite.specs.declared.error.Error.TheVariants.{Io, WriteBufferFull, OutOfMemory}

module _ {S : Type 0} (contents : S → Option (List ℕ)) where
  -- what a send that failed left: the socket as it was, where there was no memory, or too much waited for a message that is no close;
  -- its frame behind what waited, of which some went to the stream, where the stream failed; nothing is told where the protocol refused
  abbrev pub LeavesUnsent : Socket S → Content → Error → Socket S → Type 0
  LeavesUnsent old content OutOfMemory new = new ≡ old
  LeavesUnsent old (close frame) WriteBufferFull new = Unit {0}
  LeavesUnsent old content WriteBufferFull new = new ≡ old
  LeavesUnsent old (close frame) (Io cause) new = Writes contents old new (close_step old.conn frame)
  LeavesUnsent old content (Io cause) new = Writes contents old new (write_step old.conn content)
  LeavesUnsent old content why new = Unit {0}

  -- one send: the message's frame went to the stream behind what waited, and nothing waits; or it failed, for a cause that a write has.
  -- A close goes out once, also where a read has failed
  abbrev pub Sends : {T : Type 0} → Socket S → Content → Result T Error → Socket S → Type 0
  Sends old (close frame) (Ok done) new = Writes contents old new (close_step old.conn frame) × (new.output ≡ [])
  Sends old content (Ok done) new = Writes contents old new (write_step old.conn content) × (new.output ≡ [])
  Sends old (close frame) (Err why) new = WriteFails (close_step old.conn frame) why × LeavesUnsent old (close frame) why new
  Sends old content (Err why) new = WriteFails (write_step old.conn content) why × LeavesUnsent old content why new

-- the socket that a handshake gave, which took a head and has read and written nothing since; but neither a message nor a frame has
-- more than 131,072 bytes, and a frame is masked
abbrev pub IsOfHandshake : {S : Type 0} → Socket S → Type 0
IsOfHandshake {S} first =
    (given : Socket S) × IsOfServer given
    × (first ≡ record given {
      conn = record given.conn {
        config = record given.conn.config { max_message_size = Some 131072; max_frame_size = Some 131072; accept_unmasked_frames = false };
      };
    })
