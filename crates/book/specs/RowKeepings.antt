-- A row of a book keeps its session. The other rows are part of its place, which no act changes.
use Rattle.std.specs.Prelude.{List, None, Option, Some, [], get_or, is_some, slice_set, true, ℕ, ◌≡◌}
use Rattle.book_model.specs.Rows.{Row, Rows}
use Rattle.bodies.specs.declared.format.Format.TheVariants.{Plain}
use Rattle.dr_base.specs.declared.position.Side.TheVariants.{First}
use Rattle.dr_disk.specs.State.{DiskState}
use Rattle.session_model.specs.Clients.{Client}
use Rattle.session_model.specs.States.{in_peers}
use Rattle.client.specs.Keepings.{Keeping}
use Rattle.book.specs.Books.{BookNow, IsBookReady}
use Rattle.book.specs.RowCells.{row_cell}

-- a book, and the row in use
pub record RowNow : Type 0 where
  pub book : BookNow
  pub at : ℕ

abbrev pub row_at : {C : Type 0} → Rows C → ℕ → Option (Row C)
row_at rows at = get_or rows at None

-- stands for the session of a row that is absent, of which nothing is said
abbrev pub no_client : Client
no_client = record {
  state = record {
    side = First;
    format = Plain;
    session = [];
    root = [];
    epoch = 0;
    phase = in_peers [];
    previous = 0;
    receiving = None;
    kept = [];
    awaiting = [];
  };
  inbox = [];
  outbox = [];
  relay = None;
}

abbrev pub kept_of : Option (Row Client) → Client
kept_of None = no_client
kept_of (Some row) = row.kept

-- a row that keeps this from now on
abbrev pub with_kept : Option (Row Client) → Client → Option (Row Client)
with_kept None next = None
with_kept (Some row) next = Some (record { name = row.name; kept = next })

-- a row's name, and the same where it is known to be present
abbrev pub name_of : {C : Type 0} → Option (Row C) → Option (List ℕ)
name_of None = None
name_of (Some row) = Some row.name

abbrev pub known_name : Option (List ℕ) → List ℕ
known_name None = []
known_name (Some name) = name

-- the row, how many rows there may be, its name, and all other rows
pub record RowPlace : Type 0 where
  pub at : ℕ
  pub rows : ℕ
  pub name : Option (List ℕ)
  pub others : Rows Client

-- the disk is at rest for the book, and the row is present
pub record IsRowReady (row : RowNow) (disk : DiskState) : Type 0 where
  pub book : IsBookReady row.book disk
  pub there : is_some (row_at row.book.rows row.at) ≡ true

abbrev pub row_keeping : Keeping RowNow
row_keeping = record {
  kept = λ row. kept_of (row_at row.book.rows row.at);
  closed = λ row. row.book.closed;
  there = λ row. is_some (row_at row.book.rows row.at) ≡ true;
  Place = RowPlace;
  place = λ row. record {
    at = row.at;
    rows = row.book.store.rows;
    name = name_of (row_at row.book.rows row.at);
    others = slice_set row.book.rows row.at None;
  };
  cell = λ place. row_cell place.rows (known_name place.name);
  ready = IsRowReady;
}
