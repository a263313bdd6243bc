-- A text that is said is a step of the machine, with what was drawn for it.
use Rattle.std.proofs.Common.{Err, List, None, Ok, Option, Result, Some, ap, ℕ, ◌≡◌}
use Rattle.dr_base.specs.declared.position.Position.{Position}
use Rattle.dr_disk.specs.State.{DiskState}
use Rattle.dr_model.specs.Machines.Acts.{act_on, saying}
use Rattle.dr_ports.specs.States.{DrawsState}
use Rattle.kem_laws.specs.Mechanism.{Mechanism}
use Rattle.client.specs.Outcomes.{KeeperActs, said_as}
use Rattle.client.specs.Saying.{KeeperSaysWithDraw, draw_failed, with_draw, without_draw}
use Rattle.client.specs.declared.refusals.SayRefusal.{SayRefusal}
use Rattle.client.specs.declared.refusals.SayRefusal.TheVariants.{Closed, DrawFault, NoPair, Refused, StoreFault}
use Rattle.book.specs.Books.{BookNow, IsBookReady}
use Rattle.book.specs.Calling.{row_in}
use Rattle.book.specs.Naming.{IsPlaceOf}
use Rattle.book.specs.RowKeepings.{RowNow, row_keeping}
use Rattle.book.specs.Stepping.{SaysAsStep, WasDrawn, was_none, was_seed}
use Rattle.book.specs.declared.refusals.BookRefusal.{BookRefusal}
use Rattle.book.specs.declared.refusals.BookRefusal.TheVariants.{Of}
use Rattle.book.proofs.Stepped.{act_step}
use Rattle.session_model.specs.Contents.{text_content}

-- what the row's session answers, as the book does
abbrev pub in_book : Result Position SayRefusal → Result Position (BookRefusal SayRefusal)
in_book (Ok position) = Ok position
in_book (Err e) = Err (Of e)

module _ (k : Mechanism) (name text : List ℕ) (old new : BookNow) (at : ℕ) (is : IsPlaceOf name old.rows at)
    (disk : DiskState) (ready : IsBookReady old disk) (is_open : old.closed ≡ None)
    {X W : Type 0} (state : X → DiskState) (draws : W → DrawsState) (start now : X) (source left : W) where
  stepped : (result : Result Position SayRefusal) (draw : Option (List ℕ)) → WasDrawn draws source left draw
      → KeeperActs row_keeping state (act_on k (row_keeping.kept (row_in old at)) (saying (text_content text) draw)) (row_in old at)
      (row_in new at)
      start now (said_as result)
      → SaysAsStep draws k text name old new source left (in_book result)
  stepped (Ok position) draw was does = (
    draw,
    was,
    act_step k name (saying (text_content text) draw) old new at is disk ready state start now (said_as (Ok position)) is_open
        does,
  )
  stepped (Err (Closed call)) draw was does = (
    draw,
    was,
    act_step k name (saying (text_content text) draw) old new at is disk ready state start now (said_as (Err (Closed call)))
        is_open does,
  )
  stepped (Err (Refused refusal)) draw was does = (
    draw,
    was,
    act_step k name (saying (text_content text) draw) old new at is disk ready state start now (said_as (Err (Refused refusal)))
        is_open does,
  )
  stepped (Err DrawFault) draw was does = absurd does
  stepped (Err (NoPair seed)) draw was does = (
    draw,
    was,
    act_step k name (saying (text_content text) draw) old new at is disk ready state start now (said_as (Err (NoPair seed)))
        is_open does,
  )
  stepped (Err (StoreFault call)) draw was does = (
    draw,
    was,
    act_step k name (saying (text_content text) draw) old new at is disk ready state start now (said_as (Err (StoreFault call)))
        is_open does,
  )

  pub says_step : (result : Result Position SayRefusal)
      → KeeperSaysWithDraw row_keeping state draws k (text_content text) (row_in old at) (row_in new at) start now source left result
      → SaysAsStep draws k text name old new source left (in_book result)
  says_step result (without_draw r none same does) = stepped r None (was_none same) does
  says_step result (with_draw r seed asks long drew quiet does back) =
      stepped r (Some seed.bytes) (was_seed seed.bytes long drew quiet) does
  says_step result (draw_failed asks rose same stays leaves) = ap (λ (r : RowNow). r.book) stays
