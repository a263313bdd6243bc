-- What the program does, command by command.
use Rattle.std.specs.Prelude.{Err, List, None, Ok, Option, Result, Some, String, drop, map, string_bytes, ℕ, ◌≡◌, ◌⊎◌}
use Rattle.std.specs.declared.alloc.Global.{Global}
use Rattle.std.specs.declared.io.Error.{Error}
use Rattle.std.specs.declared.vec.IntoIter.{IntoIter}
use Rattle.bodies.specs.declared.format.Format.{Format}
use Rattle.dr_base.specs.declared.position.Side.{Side}
use Rattle.dr_model.specs.Machines.Acts.{dropping}
use Rattle.endings.specs.declared.ending.Ending.{Ending}
use Rattle.endings.specs.declared.ending.Ending.TheVariants.{NoMemory, Usage}
use Rattle.command_words.specs.Commands.{Work, command_of, value}
use Rattle.command_words.specs.declared.command.Ask.{Ask}
use Rattle.command_words.specs.declared.command.Ask.TheVariants.{Begin, Check, Done, DoneLong, Duet, DuetFan, DuetMake, Fan, Forget, Long, Relay, RelayKeys, Say, SayLong, Sent, Sync, Take, Awaiting as ShowsAwaiting, Inbox as ShowsInbox, List as ShowsNames, Outbox as ShowsOutbox, State as ShowsState}
use Rattle.command_words.specs.declared.command.Where.{Where}
use Rattle.command_words.specs.declared.command.Where.TheVariants.{Book, Folder}
use Rattle.command_lines.specs.Acting.{ClientAsk}
use Rattle.command_lines.specs.Asking.{asked_drop, asked_say}
use Rattle.command_lines.specs.InWorlds.{RunsActAt}
use Rattle.command_lines.specs.Listings.{lines_of}
use Rattle.command_lines.specs.declared.listing.Listing.{Listing}
use Rattle.command_lines.specs.declared.listing.Listing.TheVariants.{Awaiting, Inbox, Outbox, State}
use Rattle.session_model.specs.declared.answer.Items.TheVariants.{Packets, Texts}
use Rattle.session_model.specs.declared.answer.Which.{Which}
use Rattle.session_model.specs.declared.answer.Which.TheVariants.{OfId, Oldest}
use Rattle.book_commands.specs.Beginning.{RunsBeginUnder}
use Rattle.book_commands.specs.Fanning.{RunsFan}
use Rattle.book_commands.specs.Forgetting.{RunsForget}
use Rattle.book_commands.specs.Listing.{RunsList}
use Rattle.session_commands.specs.Beginning.{RunsBegin}
use Rattle.session_commands.specs.Checking.{RunsCheck}
use Rattle.session_commands.specs.KeysShown.{RunsKeys}
use Rattle.session_commands.specs.LongSaying.{RunsSayLong}
use Rattle.session_commands.specs.LongShown.{RunsLong}
use Rattle.command_lines.specs.Runs.{RunsTakeAt}
use Rattle.command_lines.specs.Showing.{RunsShowAt}
use Rattle.session_commands.specs.Syncing.{RunsSync}
use Rattle.relay_command.specs.Relaying.{RunsRelay}
use Rattle.sntrup761.specs.Mechanism.{sntrup761_kem}
use Rattle.messenger_cli.specs.Arguments.{ending_without_words, words_of}
use Rattle.messenger_cli.specs.FanPlaying.{PlaysFanBy, fan_mode}
use Rattle.messenger_cli.specs.Homes.{DrawsAndWrites, EndsIdle, Home, ReadsAndWrites, WritesAlone, WritesEnding, home_of, text_of}
use Rattle.messenger_cli.specs.Held.{IsOffline, LeavesAllButSink, PortTypes, PortsNow, Seen}
use Rattle.messenger_cli.specs.Making.{PlaysMade}
use Rattle.messenger_cli.specs.Runs.{RunsDuet}

-- a script is played: the disks, the link, the door and the draws are left alone
pub record PlaysAlone {P : PortTypes} (seen : Seen P) (old new : PortsNow P) (code : ℕ)
    : Type 0 where
  pub plays : RunsDuet (seen.source old.source) (seen.source new.source)
      (seen.sink old.sink) (seen.sink new.sink) code
  pub disk : new.disk ≡ old.disk
  pub draws : new.draws ≡ old.draws
  pub book : new.book ≡ old.book
  pub offline : IsOffline old new

-- a script made from a number is played: all but the sink is left alone
pub record MakesAlone {P : PortTypes} (rounds number : ℕ) (seen : Seen P) (old new : PortsNow P)
    (code : ℕ) : Type 0 where
  pub writes : WritesEnding (PlaysMade rounds number) seen old new code
  pub idle : LeavesAllButSink old new

-- the parts of a long text are said: the book, the relay's disk, the link and the door are left alone
pub record SaysParts {P : PortTypes} (seen : Seen P) (id from : ℕ) (old new : PortsNow P)
    (code : ℕ) : Type 0 where
  pub writes : WritesEnding (RunsSayLong seen.disk seen.draws sntrup761_kem id from
      (seen.source old.source) (seen.source new.source) old.disk new.disk old.draws new.draws
      (seen.sink old.sink).faults (seen.sink new.sink).faults) seen old new code
  pub book : new.book ≡ old.book
  pub offline : IsOffline old new

-- a text is said in several sessions of the book: the session's disk, the source, the relay's disk,
-- the link and the door are left alone
pub record FansAlone {P : PortTypes} (seen : Seen P) (text : List ℕ) (names : List (List ℕ))
    (old new : PortsNow P) (code : ℕ) : Type 0 where
  pub writes : WritesEnding (RunsFan seen.book seen.draws sntrup761_kem text names
      old.book new.book old.draws new.draws) seen old new code
  pub disk : new.disk ≡ old.disk
  pub source : new.source ≡ old.source
  pub offline : IsOffline old new

-- a fan is played: all but the sink is left alone
pub record PlaysFanAlone {P : PortTypes} (peers calls : ℕ) (word : List ℕ) (seen : Seen P)
    (old new : PortsNow P) (code : ℕ) : Type 0 where
  pub writes : WritesEnding (PlaysFanBy peers calls (fan_mode peers word)) seen old new code
  pub idle : LeavesAllButSink old new

-- a sync at an address: the relay's disk, the book, the source, the door and the draws are left
-- alone
pub record SyncsAlone {P : PortTypes} (seen : Seen P) (address : List ℕ) (old new : PortsNow P)
    (code : ℕ) : Type 0 where
  pub writes : WritesEnding (RunsSync seen.disk seen.link sntrup761_kem address
      old.disk new.disk old.link new.link (seen.sink old.sink).faults (seen.sink new.sink).faults)
      seen old new code
  pub relay_disk : new.relay_disk ≡ old.relay_disk
  pub book : new.book ≡ old.book
  pub source : new.source ≡ old.source
  pub door : new.door ≡ old.door
  pub draws : new.draws ≡ old.draws

-- a relay serves: the session's disk, the book, the source, the link and the draws are left alone
pub record ServesAlone {P : PortTypes} (seen : Seen P) (port count : ℕ) (boxes : List (List ℕ))
    (old new : PortsNow P) (code : ℕ) : Type 0 where
  pub serves : RunsRelay seen.relay_disk seen.door boxes port count old.relay_disk new.relay_disk
      old.door new.door (seen.sink old.sink) (seen.sink new.sink) code
  pub disk : new.disk ≡ old.disk
  pub book : new.book ≡ old.book
  pub source : new.source ≡ old.source
  pub link : new.link ≡ old.link
  pub draws : new.draws ≡ old.draws

-- a session begins: in the book it is one of a new name
abbrev pub RunsBeginAt : {P : PortTypes} → Seen P → Where → List (List ℕ) → Side → Format
    → PortsNow P → PortsNow P → Ending → List ℕ → Type 0
RunsBeginAt seen Folder values side format old new =
    RunsBegin seen.disk sntrup761_kem side format
    (seen.source old.source) (seen.source new.source) old.disk new.disk
RunsBeginAt seen Book values side format old new =
    RunsBeginUnder seen.book sntrup761_kem (value values 0) side format
    (seen.source old.source) (seen.source new.source) old.book new.book

-- what is asked of the session at its home
abbrev pub ActsAt : {P : PortTypes} → Home P → ClientAsk → PortsNow P → PortsNow P
    → Ending → List ℕ → Type 0
ActsAt home asked old new =
    RunsActAt home.place home.tells sntrup761_kem asked (home.store old) (home.store new)

-- items leave a box
abbrev pub Drops : {P : PortTypes} → Which → Home P → Seen P → PortsNow P → PortsNow P → ℕ → Type 0
Drops which home seen old new code =
    WritesAlone home (ActsAt home (asked_drop (dropping which)) old new) seen old new code

-- a list is shown
abbrev pub Shows : {P : PortTypes} → Listing → Home P → Seen P → PortsNow P → PortsNow P → ℕ
    → Type 0
Shows listing home seen old new code =
    WritesAlone home (RunsShowAt home.place home.tells sntrup761_kem (lines_of listing)
    (home.store old) (home.store new)) seen old new code

-- What a command on a session comes to, wherever that is, by what it asks for and its values.
-- Sessions are over sntrup761. What no session of a book is asked for is no command there.
abbrev pub Performs : {P : PortTypes} → Where → Ask → List (List ℕ) → Seen P
    → PortsNow P → PortsNow P → ℕ → Type 0
Performs at (Begin side format) values seen old new code =
    ReadsAndWrites (home_of seen at values) (RunsBeginAt seen at values side format old new)
    seen old new code
Performs at Say values seen old new code =
    let home = home_of seen at values in
    DrawsAndWrites home
    (ActsAt home (asked_say seen.draws (text_of at values) old.draws new.draws) old new)
    seen old new code
Performs at Take values seen old new code =
    let home = home_of seen at values in
    ReadsAndWrites home (RunsTakeAt home.place home.tells sntrup761_kem
    (seen.source old.source) (seen.source new.source) (home.store old) (home.store new))
    seen old new code
Performs at (Done n) values seen old new code =
    Drops (Oldest Texts n) (home_of seen at values) seen old new code
Performs at (Sent n) values seen old new code =
    Drops (Oldest Packets n) (home_of seen at values) seen old new code
Performs at ShowsInbox values seen old new code =
    Shows Inbox (home_of seen at values) seen old new code
Performs at ShowsOutbox values seen old new code =
    Shows Outbox (home_of seen at values) seen old new code
Performs at ShowsAwaiting values seen old new code =
    Shows Awaiting (home_of seen at values) seen old new code
Performs at ShowsState values seen old new code =
    Shows State (home_of seen at values) seen old new code
Performs Folder RelayKeys values seen old new code =
    WritesAlone (home_of seen Folder values)
    (RunsKeys seen.disk sntrup761_kem old.disk new.disk) seen old new code
Performs Folder (Long id) values seen old new code =
    WritesAlone (home_of seen Folder values)
    (RunsLong seen.disk sntrup761_kem id old.disk new.disk) seen old new code
Performs Folder (DoneLong id) values seen old new code =
    Drops (OfId id) (home_of seen Folder values) seen old new code
Performs Folder (SayLong id from) values seen old new code =
    SaysParts seen id from old new code
Performs Folder Fan values seen old new code =
    FansAlone seen (value values 0) (drop 1 values) old new code
Performs Folder Check values seen old new code =
    WritesAlone (home_of seen Folder values)
    (RunsCheck seen.disk sntrup761_kem old.disk new.disk) seen old new code
Performs Folder Duet values seen old new code = PlaysAlone seen old new code
Performs Folder (DuetMake rounds number) values seen old new code =
    MakesAlone rounds number seen old new code
Performs Folder (DuetFan peers calls) values seen old new code =
    PlaysFanAlone peers calls (value values 2) seen old new code
Performs Folder (Relay port count) values seen old new code =
    ServesAlone seen port count (drop 2 values) old new code
Performs Folder Sync values seen old new code = SyncsAlone seen (value values 0) old new code
Performs Book Forget values seen old new code =
    WritesAlone (home_of seen Book values)
    (RunsForget seen.book sntrup761_kem (value values 0) old.book new.book) seen old new code
Performs Book ShowsNames values seen old new code =
    WritesAlone (home_of seen Book values)
    (RunsList seen.book sntrup761_kem old.book new.book) seen old new code
Performs at ask values seen old new code = EndsIdle Usage seen old new code

-- What the program does on words: what the command that they are comes to, or the last line of
-- words that are none.
abbrev pub AnswersWords : {P : PortTypes} → Option Work → Seen P
    → PortsNow P → PortsNow P → ℕ → Type 0
AnswersWords None seen old new code = EndsIdle Usage seen old new code
AnswersWords (Some work) seen old new code =
    Performs work.place work.ask work.values seen old new code

-- or memory was wanting for the words, and nothing was done
abbrev pub RunsProgram : {P : PortTypes} → Option Work → Seen P
    → PortsNow P → PortsNow P → ℕ → Type 0
RunsProgram asked seen old new code =
    AnswersWords asked seen old new code ⊎ EndsIdle NoMemory seen old new code

-- The same of the arguments as the system gave them. Arguments that aren't text are no command.
abbrev pub RunsArguments : {P : PortTypes} → Result (IntoIter (String Global) Global) Error
    → Seen P → PortsNow P → PortsNow P → ℕ → Type 0
RunsArguments (Ok arguments) seen old new code =
    RunsProgram (command_of (map string_bytes (words_of arguments))) seen old new code
RunsArguments (Err error) seen old new code =
    EndsIdle (ending_without_words error) seen old new code
