-- The groups that a record consists of, each as its fields in their order and as their text: the
-- heading, the keys, the boxes. What the heading says is handed to the others, the version too.
-- After them stand the texts that wait (`Awaiting`), and the keys of the session's boxes (`Relay`).
use Rattle.std.specs.Prelude.{ℕ, List, ◌++◌, Option}
use Rattle.std.specs.Int.{w8, w16, w32, to_be_bytes}
use Rattle.bodies.specs.declared.format.Format.{Format}
use Rattle.boxes.specs.Entries.{Entry}
use Rattle.boxes.specs.Posts.{Post}
use Rattle.dr_base.specs.declared.key.Kept.{Kept}
use Rattle.dr_base.specs.declared.position.Side.{Side}
use Rattle.grammar.specs.Printer.{print_maybe, print_counted}
use Rattle.grammar.specs.Reader.{Reader, piece, mapped, both}
use Rattle.kem_laws.specs.Mechanism.{Mechanism}
use Rattle.session_model.specs.States.{Phase, Reception}
use Rattle.session_record.specs.Fields.{code_of, epoch_field, format_field, format_text, phase_field, phase_text, previous_field, receiving_field, reception_text, side_field, version_field}
use Rattle.session_record.specs.Lists.{entry_text, inbox_field, kept_field, kept_text, outbox_field, post_text, reach_of}
use Rattle.session_record.specs.Versions.{version_code}
use Rattle.session_record.specs.declared.groups.Heading.{Heading}
use Rattle.session_record.specs.declared.versions.Version.{Version}

-- ---- the heading

abbrev pub heading_of : Version × (Side × (Format × (List ℕ × (List ℕ × ℕ)))) → Heading
heading_of e = record {
  version = e.0;
  side = e.1.0;
  format = e.1.1.0;
  session = e.1.1.1.0;
  root = record { bytes = e.1.1.1.1.0 };
  epoch = e.1.1.1.1.1;
}

abbrev pub of_heading : Heading → Version × (Side × (Format × (List ℕ × (List ℕ × ℕ))))
of_heading h = (h.version, (h.side, (h.format, (h.session, (h.root.bytes, h.epoch)))))

unfoldable pub heading_fields : Reader Heading
heading_fields =
    mapped heading_of
    (both version_field (λ version.
    both side_field (λ _.
    both (format_field version) (λ _.
    both (piece 16) (λ _.
    both (piece 32) (λ _.
    epoch_field))))))

abbrev pub heading_text : Heading → List ℕ
heading_text h =
    to_be_bytes w8 (version_code h.version)
    ++ (to_be_bytes w8 (code_of h.side)
    ++ (format_text h.version h.format
    ++ (h.session
    ++ (h.root.bytes
    ++ to_be_bytes w32 h.epoch))))

-- ---- the keys

pub record Keys : Type 0 where
  pub phase : Phase
  pub previous : ℕ
  pub receiving : Option Reception
  pub kept : List Kept

abbrev pub keys_of : Phase × (ℕ × (Option Reception × List Kept)) → Keys
keys_of e = record { phase = e.0; previous = e.1.0; receiving = e.1.1.0; kept = e.1.1.1 }

abbrev pub of_keys : Keys → Phase × (ℕ × (Option Reception × List Kept))
of_keys keys = (keys.phase, (keys.previous, (keys.receiving, keys.kept)))

unfoldable pub keys_fields : Mechanism → Heading → Reader Keys
keys_fields k h =
    mapped keys_of
    (both (phase_field k h.side h.epoch) (λ _.
    both (previous_field h.side h.epoch) (λ _.
    both (receiving_field h.side h.epoch) (λ receiving.
    kept_field h.version h.side h.epoch (reach_of receiving)))))

abbrev pub keys_text : Keys → List ℕ
keys_text keys =
    phase_text keys.phase
    ++ (to_be_bytes w32 keys.previous
    ++ (print_maybe reception_text keys.receiving
    ++ print_counted w16 kept_text keys.kept))

-- ---- the boxes

pub record Boxes : Type 0 where
  pub inbox : List Entry
  pub outbox : List Post

abbrev pub boxes_of : List Entry × List Post → Boxes
boxes_of e = record { inbox = e.0; outbox = e.1 }

abbrev pub of_boxes : Boxes → List Entry × List Post
of_boxes boxes = (boxes.inbox, boxes.outbox)

unfoldable pub boxes_fields : Mechanism → Heading → Reader Boxes
boxes_fields k h =
    mapped boxes_of
    (both (inbox_field h.version h.side h.epoch) (λ _.
    outbox_field k h.version h.session h.side h.epoch))

abbrev pub boxes_text : Version → Boxes → List ℕ
boxes_text version boxes =
    print_counted w8 (entry_text version) boxes.inbox ++ print_counted w8 post_text boxes.outbox
