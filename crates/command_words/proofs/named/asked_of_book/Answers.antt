use Rattle.std.proofs.Common.{◌≡◌, ◌∙◌, ◌-◌, List, [], ◌∷◌, None, codes, ◌++◌, drop, get_or, length, subst, sym, take}
use Rattle.std.specs.Borrow.{Bor}
use Rattle.clap.specs.Walk.{Text, texts}
use Rattle.command_words.specs.Commands.{asked, book_rows, named_rows}
use Rattle.command_words.proofs.Answering.{none_given}
use Rattle.command_words.proofs.Tables.{named_with, named_without, not_list, one_and_more}
use Rattle.command_words.proofs.named.asked_of_book.Goals as goal

-- what a place past the end gives
abbrev some : Bor Text
some = record { ref_ptr = (0, 0); now = [] }

pub returns-in_default-empty : goal.returns-in_default-empty
returns-in_default-empty c =
    subst (λ (vs : List Text). None ≡ asked book_rows (codes "book-" ++ c.args.name.now) vs)
    (sym (none_given c.args.values.now c.in_default-empty.len_below))
    (named_without named_rows c.args.name.now ∙ not_list c.args.name.now [] c.in_default-empty.not-list-0)

pub returns-in_default-len1-up : goal.returns-in_default-len1-up
returns-in_default-len1-up c =
    let given = one_and_more c.args.values.now some c.in_default-len1-up.len_at_least in
    let name = (get_or c.args.values.now 0 some).now in
    let behind = texts (take (length c.args.values.now - 1) (drop 1 c.args.values.now)) in
    subst (λ (vs : List Text). c.asked_of_named.result ≡ asked book_rows (codes "book-" ++ c.args.name.now) vs) (sym given)
    (c.asked_of_named.ensures ∙ named_with named_rows c.args.name.now name behind
    ∙ not_list c.args.name.now (name ∷ behind) c.in_default-len1-up.not-list-0)
