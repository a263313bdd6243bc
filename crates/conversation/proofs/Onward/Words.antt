-- The lines of a sync hold no line feed but their last byte: so split at these, its text is their words.
use Rattle.std.proofs.Common.{Bool, List, [], ap, append_assoc, arith, map, refl, true, ℕ, ◌++◌, ◌∙◌, ◌∷◌, ◌≡◌}
use Rattle.std.specs.List.{slice_split}
use Rattle.std.specs.Prelude.{codes, decimal, flat_map}
use Rattle.std.proofs.lemmas.List.Splits.{slice_split_at}
use Rattle.answer_lines.specs.Answers.{answer_text, kind_text, position_text, refusal_text}
use Rattle.dr_base.specs.declared.position.Position.{Position}
use Rattle.packet.specs.declared.fault.Kind.{Kind}
use Rattle.packet.specs.declared.fault.Kind.TheVariants.{Agreement, Epoch, Index, Long, Previous, Short, Text, Version}
use Rattle.session_model.specs.declared.answer.Answer.TheVariants.{Opened, Refused}
use Rattle.session_model.specs.declared.answer.Refusal.{Refusal}
use Rattle.session_model.specs.declared.answer.Refusal.TheVariants.{Ahead, BadPadding, BadTag, Count, EpochFull, Fewer, InboxFull, LastEpoch, Malformed, NoLong, NoPair, NoParts, OtherSession, OutboxFull, OwnPacket, SkipLimit, Spent, TextTooLong}
use Rattle.sync_model.specs.declared.more.More.{More}
use Rattle.sync_model.specs.declared.more.More.TheVariants.{End, More as MoreStands}
use Rattle.client.specs.Syncing.Lines.{answer_line, end_line, stored_line}
use Rattle.conversation.proofs.Onward.Plain.{IsPlain, both, is_cut, plain, plain_number, plain_words}
use Rattle.conversation.specs.Shown.{SyncLine, ended, opened, refused, stored, sync_words}

abbrev is_feed : ℕ → Bool
is_feed = is_cut 10

abbrev IsLine : List ℕ → Type 0
IsLine = IsPlain 10

number : (n : ℕ) → IsLine (decimal n)
number = plain_number 10 (omega arith)

known : (bytes : List ℕ) → plain_words 10 bytes ≡ true → IsLine bytes
known = plain 10

joined : (xs ys : List ℕ) → IsLine xs → IsLine ys → IsLine (xs ++ ys)
joined = both 10

-- ---- the words of lines

plain_position : (p : Position) → IsLine (position_text p)
unfolding position_text plain_words
plain_position p =
    joined (decimal p.epoch ++ codes ".") (decimal p.index)
    (joined (decimal p.epoch) (codes ".") (number p.epoch) (known (codes ".") refl))
    (number p.index)

plain_kind : (kind : Kind) → IsLine (kind_text kind)
unfolding kind_text plain_words
plain_kind Version = known (codes "Version") refl
plain_kind Epoch = known (codes "Epoch") refl
plain_kind Previous = known (codes "Previous") refl
plain_kind Index = known (codes "Index") refl
plain_kind Agreement = known (codes "Agreement") refl
plain_kind Text = known (codes "Text") refl
plain_kind Short = known (codes "Short") refl
plain_kind Long = known (codes "Long") refl

-- a word and a number
numbered : (words : List ℕ) (n : ℕ) → plain_words 10 words ≡ true → IsLine (words ++ decimal n)
numbered words n is = joined words (decimal n) (known words is) (number n)

-- and one more number
numbered_twice : (words : List ℕ) (n m : ℕ) → plain_words 10 words ≡ true
    → IsLine (words ++ decimal n ++ codes " " ++ decimal m)
unfolding plain_words
numbered_twice words n m is =
    joined (words ++ decimal n ++ codes " ") (decimal m)
    (joined (words ++ decimal n) (codes " ") (numbered words n is) (known (codes " ") refl))
    (number m)

plain_refusal : (refusal : Refusal) → IsLine (refusal_text refusal)
unfolding refusal_text plain_words
plain_refusal NoParts = known (codes "NoParts") refl
plain_refusal (TextTooLong len) = numbered (codes "TextTooLong ") len refl
plain_refusal OutboxFull = known (codes "OutboxFull") refl
plain_refusal EpochFull = known (codes "EpochFull") refl
plain_refusal LastEpoch = known (codes "LastEpoch") refl
plain_refusal NoPair = known (codes "NoPair") refl
plain_refusal (Malformed fault) =
    joined (codes "Malformed " ++ kind_text fault.kind ++ codes " ") (decimal fault.at)
    (joined (codes "Malformed " ++ kind_text fault.kind) (codes " ")
    (joined (codes "Malformed ") (kind_text fault.kind) (known (codes "Malformed ") refl)
    (plain_kind fault.kind)) (known (codes " ") refl)) (number fault.at)
plain_refusal OtherSession = known (codes "OtherSession") refl
plain_refusal (OwnPacket epoch) = numbered (codes "OwnPacket ") epoch refl
plain_refusal (Ahead epoch reached) = numbered_twice (codes "Ahead ") epoch reached refl
plain_refusal (Spent p) =
    joined (codes "Spent ") (position_text p) (known (codes "Spent ") refl) (plain_position p)
plain_refusal (Count claimed known) = numbered_twice (codes "Count ") claimed known refl
plain_refusal (SkipLimit would) = numbered (codes "SkipLimit ") would refl
plain_refusal BadTag = known (codes "BadTag") refl
plain_refusal BadPadding = known (codes "BadPadding") refl
plain_refusal InboxFull = known (codes "InboxFull") refl
plain_refusal (Fewer held) = numbered (codes "Fewer ") held refl
plain_refusal NoLong = known (codes "NoLong") refl

plain_line : (line : SyncLine) → IsLine (sync_words line)
unfolding plain_words
plain_line (opened p) =
    joined (codes "opened ") (position_text p) (known (codes "opened ") refl) (plain_position p)
plain_line (refused refusal) =
    joined (codes "refused ") (refusal_text refusal) (known (codes "refused ") refl)
    (plain_refusal refusal)
plain_line (stored number) = numbered (codes "stored ") number refl
plain_line (ended MoreStands) = known (codes "more") refl
plain_line (ended End) = known (codes "end") refl

-- ---- the text of lines

abbrev pub sync_line : SyncLine → List ℕ
sync_line line = sync_words line ++ 10 ∷ []

pub split_lines : (lines : List SyncLine)
    → slice_split is_feed (flat_map sync_line lines) ≡ map sync_words lines ++ [] ∷ []
split_lines [] = refl
split_lines (line ∷ lines) =
    ap (slice_split is_feed)
    (append_assoc (sync_words line) (10 ∷ []) (flat_map sync_line lines))
    ∙ slice_split_at is_feed (sync_words line) 10 (flat_map sync_line lines) (plain_line line) refl
    ∙ ap (λ (words : List (List ℕ)). sync_words line ∷ words) (split_lines lines)

-- as a client prints them
pub opened_line_is : (p : Position) → answer_line [] (Opened p) ≡ sync_line (opened p)
unfolding answer_line answer_text
opened_line_is p = refl

pub refused_line_is : (refusal : Refusal) → answer_line [] (Refused refusal) ≡ sync_line (refused refusal)
unfolding answer_line answer_text
refused_line_is refusal = refl

pub stored_line_is : (number : ℕ) → stored_line [] number ≡ sync_line (stored number)
unfolding stored_line
stored_line_is number = refl

pub end_line_is : (which : More) → end_line [] which ≡ sync_line (ended which)
unfolding end_line
end_line_is MoreStands = refl
end_line_is End = refl
