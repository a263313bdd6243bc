-- What the printed lines of texts and of parts of long ones are read as.
use Rattle.std.proofs.Common.{List, None, Option, Some, [], ap, arith, inl, inr, refl, subst, sym, ℕ, ◌++◌, ◌<◌, ◌^◌, ◌∙◌, ◌≡◌}
use Rattle.std.specs.Prelude.{codes, decimal, option_map}
use Rattle.std.specs.Option.{option_and_then, option_or, unwrap_or}
use Rattle.std.proofs.lemmas.Bool.{cond-true, le-leb}
use Rattle.boxes.proofs.Reading.{both_true, read}
use Rattle.boxes.specs.Parts.{IsPart, Part, part_text}
use Rattle.boxes.specs.declared.limits.TheConstants.{PARTS_LIMIT, PART_LIMIT}
use Rattle.dr_model.specs.Machines.Events.{SideCall, says, takes}
use Rattle.session_model.specs.Contents.{Content, part_content, text_content}
use Rattle.session_model.specs.declared.answer.Items.TheVariants.{Packets, Texts}
use Rattle.scripts.specs.Longs.{after_prefix, counted_part, drop_long_words, halves_of, halves_or_all, identified_part, if_lawful, is_lawful, numbered_part, part_with, part_words}
use Rattle.scripts.specs.Printed.{IsSayableContent, call_text, part_said_text, said_text}
use Rattle.scripts.specs.Words.{called_words, drop_words, say_words, source_words}
use Rattle.scripts.proofs.PrintedParts.{digits_of, digits_without, halves_back, number_back, spaced}

-- ---- a part

lawful_back : (part : Part) → IsPart part → if_lawful part ≡ Some part
lawful_back part is =
    cond-true (is_lawful part) (Some part) None
    (both_true _ _
    (both_true _ _ (le-leb 1 part.number is.one) (le-leb part.number part.count is.most))
    (both_true _ _ (le-leb part.count PARTS_LIMIT is.few) (le-leb _ PART_LIMIT is.short)))

-- a number, and what stands behind it and a space
behind : (n : ℕ) (rest : List ℕ) → n < 2 ^ 32 → halves_of 32 (decimal n ++ codes " " ++ rest) ≡ Some (decimal n, rest)
behind n rest small =
    ap (halves_of 32) (spaced (decimal n) rest)
    ∙ halves_back (decimal n) rest 32 (digits_without (decimal n) 32 (omega arith) (digits_of n small))

-- what stands behind the id, and behind the number
abbrev after_number : Part → List ℕ
after_number part = decimal part.count ++ codes " " ++ part.bytes

abbrev after_id : Part → List ℕ
after_id part = decimal part.number ++ codes " " ++ after_number part

counted_back : (part : Part) → IsPart part
    → counted_part part.id part.number (halves_or_all (after_number part)) ≡ Some part
counted_back part is =
    let small : part.count < 2 ^ 32 = let few = is.few in omega (arith, few) in
    ap (λ (o : Option (List ℕ × List ℕ)). counted_part part.id part.number (unwrap_or o (after_number part, [])))
    (behind part.count part.bytes small)
    ∙ ap (option_and_then (λ count. if_lawful (part_with part.id part.number part.bytes count))) (number_back part.count small)
    ∙ lawful_back part is

numbered_back : (part : Part) → IsPart part → numbered_part part.id (decimal part.number, after_number part) ≡ Some part
numbered_back part is =
    let small : part.number < 2 ^ 32 = let few = is.few in let most = is.most in omega (arith, few, most) in
    ap (option_and_then (λ number. counted_part part.id number (halves_or_all (after_number part))))
    (number_back part.number small)
    ∙ counted_back part is

identified_back : (part : Part) → IsPart part → part.id < 2 ^ 32 → identified_part (decimal part.id, after_id part) ≡ Some part
identified_back part is fits =
    let small : part.number < 2 ^ 32 = let few = is.few in let most = is.most in omega (arith, few, most) in
    ap (option_and_then (λ id. option_and_then (numbered_part id) (halves_of 32 (after_id part)))) (number_back part.id fits)
    ∙ ap (option_and_then (numbered_part part.id)) (behind part.number (after_number part) small)
    ∙ numbered_back part is

part_back : (part : Part) → IsPart part → part.id < 2 ^ 32 → part_words (part_said_text part) ≡ Some (says (part_content part))
unfolding part_words part_said_text after_prefix
part_back part is fits =
    let said : Part → SideCall = λ p. says (part_content p) in
    ap (λ o. option_map said (option_and_then identified_part o)) (behind part.id (after_id part) fits)
    ∙ ap (option_map said) (identified_back part is fits)

-- ---- what is said

second_of : {A : Type 0} (a b c : Option A) (x : A) → a ≡ None → b ≡ Some x → option_or a (option_or b c) ≡ Some x
second_of a b c x none is = ap (λ o. option_or o (option_or b c)) none ∙ ap (λ o. option_or o c) is

-- no text begins so
textless : (part : Part) → say_words (part_said_text part) ≡ None
unfolding say_words part_said_text after_prefix
textless part = refl

part_called : (part : Part) → IsPart part → part.id < 2 ^ 32 → called_words (part_said_text part) ≡ Some (says (part_content part))
unfolding called_words
part_called part is fits =
    let words = part_said_text part in
    let rest = option_or (option_map takes (source_words words)) (option_or (drop_words Packets words)
    (option_or (drop_words Texts words) (drop_long_words words))) in
    second_of (say_words words) (part_words words) rest (says (part_content part)) (textless part) (part_back part is fits)

-- a part is printed as one
part_printed : (part : Part) → IsPart part → part.id < 2 ^ 32 → call_text (says (part_content part)) ≡ part_said_text part
unfolding call_text
part_printed part is fits = ap (said_text (part_text part)) (read part is fits)

text_called : (bytes : List ℕ) → called_words (call_text (says (text_content bytes))) ≡ Some (says (text_content bytes))
unfolding after_prefix call_text called_words say_words
text_called bytes = refl

pub content_back : (content : Content) → IsSayableContent content → called_words (call_text (says content)) ≡ Some (says content)
content_back content (inl is) =
    subst (λ (c : Content). called_words (call_text (says c)) ≡ Some (says c)) (sym is) (text_called content.bytes)
content_back content (inr said) =
    let part = said.0 in
    let is = said.1.1 in
    let fits = said.1.2 in
    let whole = ap called_words (part_printed part is fits) ∙ part_called part is fits in
    subst (λ (c : Content). called_words (call_text (says c)) ≡ Some (says c)) (sym said.1.0) whole
