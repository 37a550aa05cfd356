-- What a turn that ended with a fault has done, and the socket that a handshake gave.
use Rattle.std.proofs.Common.{◌≡◌, ℕ, List, Option, Some, Result, Ok, Err, Bool, false, inl, inr, refl, sym, ap, subst, ◌∙◌}
use Rattle.tungstenite.specs.Content.{Content}
use Rattle.tungstenite.specs.Heads.{Serves as IsOfServer}
use Rattle.tungstenite.specs.Socket.{Socket, content_of}
use Rattle.tungstenite.specs.declared.message.Message.{Message}
use Rattle.tungstenite.specs.declared.error.Error.{Error}
use Rattle.tungstenite.specs.declared.error.Error.TheVariants.{ConnectionClosed, OutOfMemory}
use Rattle.line_engine.specs.declared.fault.ServeFault.{ServeFault}
use Rattle.line_engine.specs.declared.fault.ServeFault.TheVariants.{Read, Write, Memory}
use Rattle.ws_server.specs.declared.hall.Hall.{Hall}
use Rattle.shared_room.specs.Views.{View}
use Rattle.ws_server.specs.Frames.{Side, AnswersFrame}
use Rattle.ws_server.specs.Serving.{bytes_of, FailsToSend, RefusesSize, ServesTurn, end_of_read, fault_of_send}
use Rattle.ws_server.specs.Sockets.{IsOfHandshake}

-- not the fault of a read
abbrev IsNotRead : ServeFault → Type 0
IsNotRead Read = ⊥
IsNotRead why = Unit {0}

-- no send ends a turn with `Read`
no_read : (cause : Error) → IsNotRead (fault_of_send cause)
no_read OutOfMemory = tt
no_read cause = tt

-- a message was answered, and the answer wasn't sent
pub serves_unsent : {C G : Type 0} (reads : C → Result Message Error → C → Type 0)
    (sends : C → Content → Result (Unit {0}) Error → C → Type 0) (told_before : G → ℕ → View → G → Type 0)
    (told_after : G → ℕ → G → Type 0) (hall : Hall)
    (first mid last : C) (old new : Side G) (message : Message) (bytes answer : List ℕ) (made : Option ℕ) (why : ServeFault)
    → reads first (Ok message) mid → bytes_of (content_of message) ≡ Some bytes
    → AnswersFrame told_before hall old bytes answer made new → FailsToSend sends mid answer last why
    → ServesTurn reads sends told_before told_after hall first old last new (Err why)
serves_unsent reads sends told_before told_after hall first mid last old new message bytes answer made Read read taken answers (inl fails) =
    absurd (subst IsNotRead (sym fails.0) tt)
serves_unsent reads sends told_before told_after hall first mid last old new message bytes answer made Read read taken answers (inr fails) =
    absurd (subst IsNotRead fails.2 (no_read fails.0))
serves_unsent reads sends told_before told_after hall first mid last old new message bytes answer made Write read taken answers fails =
    (message, mid, bytes, answer, made, read, taken, answers, fails)
serves_unsent reads sends told_before told_after hall first mid last old new message bytes answer made Memory read taken answers fails =
    inr (message, mid, bytes, answer, made, read, taken, answers, fails)

-- a read gave no message
pub serves_nothing : {C G : Type 0} (reads : C → Result Message Error → C → Type 0)
    (sends : C → Content → Result (Unit {0}) Error → C → Type 0) (told_before : G → ℕ → View → G → Type 0)
    (told_after : G → ℕ → G → Type 0) (hall : Hall)
    (first mid last : C) (side : Side G) (why : Error) (end : Result Bool ServeFault)
    → reads first (Err why) mid → RefusesSize sends why mid last → end ≡ end_of_read why
    → ServesTurn reads sends told_before told_after hall first side last side end
serves_nothing reads sends told_before told_after hall first mid last side ConnectionClosed end read refused is =
    subst (λ e. ServesTurn reads sends told_before told_after hall first side last side e) (sym is)
    (subst (λ c. reads first (Err ConnectionClosed) c) (sym refused) read, refl)
serves_nothing reads sends told_before told_after hall first mid last side OutOfMemory end read refused is =
    subst (λ e. ServesTurn reads sends told_before told_after hall first side last side e) (sym is)
    (inl (OutOfMemory, mid, read, refused, refl, refl))
serves_nothing reads sends told_before told_after hall first mid last side why end read refused is =
    subst (λ e. ServesTurn reads sends told_before told_after hall first side last side e) (sym is)
    (why, mid, read, refused, refl, refl)

-- the socket of a handshake, once its limits were set
pub handed_over : {S : Type 0} (given limited : Socket S) → IsOfServer given
    → limited ≡ record given { conn = record given.conn { config = limited.conn.config } }
    → limited.conn.config.max_message_size ≡ Some 131072 → limited.conn.config.max_frame_size ≡ Some 131072
    → limited.conn.config.accept_unmasked_frames ≡ false → IsOfHandshake limited
handed_over {S} given limited handshake is message frame masked =
    let with_message : Option ℕ → Socket S = λ m.
    record given { conn = record given.conn { config = record limited.conn.config { max_message_size = m } } } in
    let with_frame : Option ℕ → Socket S = λ f.
    record given {
      conn = record given.conn { config = record limited.conn.config { max_message_size = Some 131072; max_frame_size = f } };
    } in
    let with_masks : Bool → Socket S = λ a.
    record given {
      conn = record given.conn {
        config = record limited.conn.config { max_message_size = Some 131072; max_frame_size = Some 131072; accept_unmasked_frames = a };
      };
    } in
    (given, handshake, is ∙ ap with_message message ∙ ap with_frame frame ∙ ap with_masks masked)
