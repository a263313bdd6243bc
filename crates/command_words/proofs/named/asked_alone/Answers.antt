use Rattle.std.proofs.Common.{◌≡◌, List, arith, subst, sym, []}
use Rattle.std.specs.Borrow.{Bor}
use Rattle.clap.specs.Walk.{Text}
use Rattle.command_words.specs.Commands.{asked, folder_rows}
use Rattle.command_words.proofs.Answering.{four_or_more, none_given, one_given, three_given, two_given}
use Rattle.command_words.proofs.named.asked_alone.Goals as goal

-- what a place past the end gives
abbrev some : Bor Text
some = record { ref_ptr = (0, 0); now = [] }

pub returns-in-empty : goal.returns-in-empty
returns-in-empty c =
    subst (λ (vs : List Text). c.alone_bare.result ≡ asked folder_rows c.args.name.now vs)
    (sym (none_given c.args.values.now c.in-empty.len_below)) c.alone_bare.ensures

pub returns-in-len1 : goal.returns-in-len1
returns-in-len1 c =
    subst (λ (vs : List Text). c.alone_with.result ≡ asked folder_rows c.args.name.now vs)
    (sym (one_given c.args.values.now some c.in-len1.len_at_least c.in-len1.len_below)) c.alone_with.ensures

pub returns-in-len2 : goal.returns-in-len2
returns-in-len2 c =
    subst (λ (vs : List Text). c.alone_with_two.result ≡ asked folder_rows c.args.name.now vs)
    (sym (two_given c.args.values.now some c.in-len2.len_at_least c.in-len2.len_below)) c.alone_with_two.ensures

pub returns-in-len3 : goal.returns-in-len3
returns-in-len3 c =
    let parts = three_given c.args.values.now some c.in-len3.len_at_least c.in-len3.len_below in
    subst (λ (vs : List Text). c.alone_with_three.result ≡ asked folder_rows c.args.name.now vs)
    (sym parts.1) (c.alone_with_three.ensures parts.0)

pub returns-in-len2-up : goal.returns-in-len2-up
returns-in-len2-up c =
    let parts = four_or_more c.args.values.now some (omega (arith, c.in-len2-up)) in
    subst (λ (vs : List Text). c.alone_with_more.result ≡ asked folder_rows c.args.name.now vs)
    (sym parts.3) (c.alone_with_more.ensures parts.0 parts.1 parts.2)
