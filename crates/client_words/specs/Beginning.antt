-- How `mux` begins with the server.
use Rattle.std.specs.Prelude.{◌≡◌, ℕ, List, [], Option, Some, None}
use Rattle.attach_proto.specs.Spelling.{spelling, IsSpellable}
use Rattle.attach_proto.specs.declared.message.Message.{Message}
use Rattle.attach_proto.specs.declared.message.Message.TheVariants as message
use Rattle.client_words.specs.declared.arguments.Arguments.{Arguments}
use Rattle.client_words.specs.declared.arguments.Subcommand.{Subcommand}
use Rattle.client_words.specs.declared.arguments.Subcommand.TheVariants.{Attach, Window, Command, Ping}

-- the message by which a peer of this kind begins, with this token
abbrev pub first_of : Subcommand → Arguments → List ℕ → Option Message
first_of Attach a token = Some (message.Attach a.rows a.columns token a.user.now)
first_of Window a token =
    Some (message.Window a.rows a.columns a.keep token a.user.now a.title.now)
first_of Command a token = Some (message.Command a.window token a.user.now a.line.now)
first_of Ping a token = None

-- the first message that the arguments mean
abbrev pub first_message : Arguments → List ℕ → Option Message
first_message a token = first_of a.subcommand a token

-- these bytes are the frame of the message; of no message there are none
abbrev pub IsFrameOf : Option Message → List ℕ → Type 0
IsFrameOf None bytes = bytes ≡ []
IsFrameOf (Some m) bytes = IsSpellable m × (bytes ≡ spelling m)

-- no frame is long enough for the message
abbrev pub HasNoFrame : Option Message → Type 0
HasNoFrame None = ⊥
HasNoFrame (Some m) = IsSpellable m → ⊥
