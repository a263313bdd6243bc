-- How an event is stored, so that types of code may stand for events.
use Rattle.std.specs.Prelude.{Bool, List, None, Option, Some, [], false, refl, true, ℕ, ◌∷◌, ◌≡◌, ◌⊎◌}
use Rattle.std.proofs.Common.{ap, inl, inr}
use Rattle.std.specs.Coded.{Coded, code_by, coded_bool, coded_list, coded_option, coded_ℕ, coded×, coded⊎}
use Rattle.dr_base.specs.declared.position.Position.{Position}
use Rattle.dr_base.specs.declared.position.Side.{Side}
use Rattle.dr_base.specs.declared.position.Side.TheVariants.{First, Second}
use Rattle.session_model.specs.Contents.{Content}
use Rattle.session_model.specs.declared.answer.Amount.{Amount}
use Rattle.session_model.specs.declared.answer.Amount.TheVariants.{All, Exactly}
use Rattle.session_model.specs.declared.answer.Items.{Items}
use Rattle.session_model.specs.declared.answer.Items.TheVariants.{Packets, Texts}
use Rattle.dr_model.specs.Machines.Events.{Event, PacketSource, SideCall, cuts, does, drops, drops_long, of_bytes, of_flip, of_number, of_position, says, seeds, shows_awaiting, shows_inbox, shows_state, takes}

-- ---- a side, a position, an amount of items

abbrev is_second : Side → Bool
is_second First = false
is_second Second = true

abbrev side_by : Bool → Side
side_by false = First
side_by true = Second

pub same_side : (side : Side) → side_by (is_second side) ≡ side
same_side First = refl
same_side Second = refl

abbrev pub side_code : Coded Side
side_code = code_by Bool coded_bool is_second side_by same_side

abbrev pub position_code : Coded Position
position_code =
    code_by (ℕ × ℕ) (coded× coded_ℕ coded_ℕ) (λ p. (p.epoch, p.index)) (λ e. record { epoch = e.0; index = e.1 }) (λ _. refl)

abbrev are_packets : Items → Bool
are_packets Texts = false
are_packets Packets = true

abbrev items_by : Bool → Items
items_by false = Texts
items_by true = Packets

pub same_items : (items : Items) → items_by (are_packets items) ≡ items
same_items Texts = refl
same_items Packets = refl

abbrev pub items_code : Coded Items
items_code = code_by Bool coded_bool are_packets items_by same_items

abbrev number_in : Amount → Option ℕ
number_in All = None
number_in (Exactly n) = Some n

abbrev amount_by : Option ℕ → Amount
amount_by None = All
amount_by (Some n) = Exactly n

pub same_amount : (amount : Amount) → amount_by (number_in amount) ≡ amount
same_amount All = refl
same_amount (Exactly n) = refl

abbrev pub amount_code : Coded Amount
amount_code = code_by (Option ℕ) (coded_option coded_ℕ) number_in amount_by same_amount

-- ---- what is said, a packet that is taken, a call

abbrev pub content_code : Coded Content
content_code =
    code_by (ℕ × List ℕ) (coded× coded_ℕ (coded_list coded_ℕ)) (λ c. (c.kind, c.bytes))
    (λ e. record { kind = e.0; bytes = e.1 }) (λ _. refl)

abbrev StoredSource : Type 0
StoredSource = Position ⊎ (ℕ ⊎ ((Position × ℕ) ⊎ List ℕ))

abbrev stored_source : PacketSource → StoredSource
stored_source (of_position p) = inl p
stored_source (of_number nth) = inr (inl nth)
stored_source (of_flip p bit) = inr (inr (inl (p, bit)))
stored_source (of_bytes bytes) = inr (inr (inr bytes))

abbrev source_by : StoredSource → PacketSource
source_by (inl p) = of_position p
source_by (inr (inl nth)) = of_number nth
source_by (inr (inr (inl flip))) = of_flip flip.0 flip.1
source_by (inr (inr (inr bytes))) = of_bytes bytes

pub same_source : (source : PacketSource) → source_by (stored_source source) ≡ source
same_source (of_position p) = refl
same_source (of_number nth) = refl
same_source (of_flip p bit) = refl
same_source (of_bytes bytes) = refl

abbrev pub source_code : Coded PacketSource
source_code =
    code_by StoredSource
    (coded⊎ position_code (coded⊎ coded_ℕ
    (coded⊎ (coded× position_code coded_ℕ) (coded_list coded_ℕ))))
    stored_source source_by same_source

abbrev StoredCall : Type 0
StoredCall = Content ⊎ (PacketSource ⊎ ((Items × Amount) ⊎ ℕ))

abbrev stored_call : SideCall → StoredCall
stored_call (says content) = inl content
stored_call (takes source) = inr (inl source)
stored_call (drops items amount) = inr (inr (inl (items, amount)))
stored_call (drops_long id) = inr (inr (inr id))

abbrev call_by : StoredCall → SideCall
call_by (inl content) = says content
call_by (inr (inl source)) = takes source
call_by (inr (inr (inl dropped))) = drops dropped.0 dropped.1
call_by (inr (inr (inr id))) = drops_long id

pub same_call : (call : SideCall) → call_by (stored_call call) ≡ call
same_call (says content) = refl
same_call (takes source) = refl
same_call (drops items amount) = refl
same_call (drops_long id) = refl

abbrev pub call_code : Coded SideCall
call_code =
    code_by StoredCall
    (coded⊎ content_code (coded⊎ source_code (coded⊎ (coded× items_code amount_code) coded_ℕ)))
    stored_call call_by same_call

-- ---- an event: whether each cut took effect, and the event that was cut off

-- a seed; or a call of a side; or a look
abbrev pub Plain : Type 0
Plain = List ℕ ⊎ ((Side × SideCall) ⊎ (Side ⊎ (Side ⊎ Side)))

abbrev pub plain_code : Coded Plain
plain_code =
    coded⊎ (coded_list coded_ℕ)
    (coded⊎ (coded× side_code call_code) (coded⊎ side_code (coded⊎ side_code side_code)))

abbrev stored : Event → List Bool × Plain
stored (seeds seed) = ([], inl seed)
stored (does side call) = ([], inr (inl (side, call)))
stored (shows_inbox side) = ([], inr (inr (inl side)))
stored (shows_state side) = ([], inr (inr (inr (inl side))))
stored (shows_awaiting side) = ([], inr (inr (inr (inr side))))
stored (cuts took event) = (took ∷ (stored event).0, (stored event).1)

abbrev plain_by : Plain → Event
plain_by (inl seed) = seeds seed
plain_by (inr (inl called)) = does called.0 called.1
plain_by (inr (inr (inl side))) = shows_inbox side
plain_by (inr (inr (inr (inl side)))) = shows_state side
plain_by (inr (inr (inr (inr side)))) = shows_awaiting side

abbrev cut_by : List Bool → Event → Event
cut_by [] event = event
cut_by (took ∷ more) event = cuts took (cut_by more event)

pub same_event : (event : Event) → cut_by (stored event).0 (plain_by (stored event).1) ≡ event
same_event (seeds seed) = refl
same_event (does side call) = refl
same_event (shows_inbox side) = refl
same_event (shows_state side) = refl
same_event (shows_awaiting side) = refl
same_event (cuts took event) = ap (cuts took) (same_event event)

abbrev pub event_code : Coded Event
event_code =
    code_by (List Bool × Plain) (coded× (coded_list coded_bool) plain_code) stored (λ e. cut_by e.0 (plain_by e.1)) same_event
