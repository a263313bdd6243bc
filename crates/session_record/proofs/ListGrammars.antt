-- The grammars of the lists.
use Rattle.std.proofs.Common.{◌≡◌, ℕ, ◌^◌, ◌<◌, Bool, true, false, List, length, Option, Some, None, refl, sym, arith, if◌then◌else◌}
use Rattle.std.specs.Int.{w8, w16, w32}
use Rattle.std.proofs.lemmas.Bool.{leb-true}
use Rattle.std.proofs.lemmas.Bool.Decides.{Decides-eqb, nat_tests}
use Rattle.dr_base.specs.declared.key.Kept.{Kept}
use Rattle.dr_base.specs.declared.position.Side.{Side}
use Rattle.boxes.specs.Parts.{is_content}
use Rattle.boxes.specs.Entries.{Entry}
use Rattle.boxes.specs.Posts.{Post}
use Rattle.kem_laws.specs.Mechanism.{Mechanism}
use Rattle.grammar.specs.Grammar.{IsGrammar}
use Rattle.grammar.specs.Printer.{print_counted, AreItems, IsMaybe}
use Rattle.grammar.proofs.Fields.{number_grammar, piece_grammar}
use Rattle.dr_base.proofs.Widths.{exact8, exact16, exact32}
use Rattle.grammar.proofs.Choices.{maybe_grammar}
use Rattle.grammar.proofs.Combined.{both_grammar, checked_grammar, mapped_grammar}
use Rattle.grammar.proofs.Lists.{counted_grammar, sized_grammar}
use Rattle.session_record.specs.Fields.{up_to}
use Rattle.session_record.specs.Lists.{is_kept_epoch, is_kept_index, last_position, kept_of, of_kept, kept_behind, kept_item, kept_text, kept_field, is_peers, kind_field, kind_text, kind_told, told_kind, entry_of, of_entry, entry_field, entry_text, inbox_field, is_post, post_of, any_length, post_field, post_text, outbox_field}
use Rattle.packet.specs.Reading.{is_index}
use Rattle.session_record.proofs.Passing.{PassesKept, PassesEntry, PassesPost}
use Rattle.session_record.specs.Versions.{has_kinds, inbox_most, is_kind_of, kept_most, outbox_most, text_most}
use Rattle.session_record.specs.declared.versions.Version.{Version}
use Rattle.session_record.proofs.FieldGrammars.{small_number}
use Rattle.session_record.proofs.VersionLimits.{kind_fits, kind_untold, text-limit, text_kind}

kept_grammar : (side : Side) (epoch reach : ℕ) (before : List Kept) → IsGrammar kept_text (PassesKept side epoch reach before) (kept_item side epoch reach before)
unfolding kept_behind
kept_grammar side epoch reach before =
    mapped_grammar _ _ _
    (both_grammar _ _ _ _ _ _ (checked_grammar _ _ _ (number_grammar w32 (2 ^ 32) exact32) (is_kept_epoch side epoch (last_position before))) (λ t _.
    both_grammar _ _ _ _ _ _ (checked_grammar _ _ _ (number_grammar w32 (2 ^ 32) exact32) (is_kept_index epoch reach (last_position before) t)) (λ _ _.
    piece_grammar 32)))
    (PassesKept side epoch reach before) kept_of of_kept
    (λ e l. (record { epoch_is = l.0.1; epoch_fits = l.0.0; index_is = l.1.0.1; index_fits = l.1.0.0; key_long = l.1.1 }, refl))
    (λ kept l. (((l.epoch_fits, l.epoch_is), ((l.index_fits, l.index_is), l.key_long)), refl))

pub kept_list : (version : Version) (side : Side) (epoch reach : ℕ) → IsGrammar (print_counted w16 kept_text)
    (λ list. ((length list < 2 ^ 16) × (up_to (kept_most version) (length list) ≡ true)) × AreItems (PassesKept side epoch reach) (length list) list)
    (kept_field version side epoch reach)
unfolding kept_field
kept_list version side epoch reach =
    counted_grammar kept_text (PassesKept side epoch reach) (kept_item side epoch reach) (kept_grammar side epoch reach) w16 (2 ^ 16) exact16
    (up_to (kept_most version))

abbrev IsKind : Version → ℕ → Type 0
IsKind version n = (n < 2 ^ 8) × (is_kind_of version n ≡ true)

-- a kind that was read, or a text's where no byte says it
kind_there : (version : Version) (has : Bool) (o : Option ℕ) → IsMaybe has (IsKind version) o
    → (is_kind_of version (kind_told o) ≡ true) × ((if has then Some (kind_told o) else None) ≡ o)
kind_there version true None lawful = absurd (let e : true ≡ false = lawful in cc)
kind_there version false None lawful = (text_kind version, refl)
kind_there version true (Some n) lawful = (lawful.1.1, refl)
kind_there version false (Some n) lawful = absurd (let e : false ≡ true = lawful.0 in cc)

kind_back : (version : Version) (has : Bool) (n : ℕ) → has_kinds version ≡ has → is_kind_of version n ≡ true
    → IsMaybe has (IsKind version) (if has then Some n else None) × (kind_told (if has then Some n else None) ≡ n)
kind_back version true n _ is = ((refl, (kind_fits version n is, is)), refl)
kind_back version false n none is = (refl, sym (kind_untold version n none is))

kind_grammar : (version : Version) → IsGrammar (kind_text version) (λ n. is_kind_of version n ≡ true) (kind_field version)
unfolding kind_field
kind_grammar version =
    mapped_grammar _ _ _
    (maybe_grammar _ _ _ (checked_grammar _ _ _ (number_grammar w8 (2 ^ 8) exact8) (is_kind_of version)) (has_kinds version))
    (λ n. is_kind_of version n ≡ true) kind_told (told_kind version)
    (kind_there version (has_kinds version)) (λ n. kind_back version (has_kinds version) n refl)

entry_grammar : (version : Version) (side : Side) (epoch : ℕ) (before : List Entry)
    → IsGrammar (entry_text version) (PassesEntry version side epoch before) (entry_field version side epoch)
unfolding entry_field
entry_grammar version side epoch before =
    mapped_grammar _ _ _
    (both_grammar _ _ _ _ _ _ (checked_grammar _ _ _ (number_grammar w32 (2 ^ 32) exact32) (is_peers side epoch)) (λ _ _.
    both_grammar _ _ _ _ _ _ (small_number is_index (λ n passes. grind (arith, nat_tests))) (λ _ _.
    both_grammar _ _ _ _ _ _ (kind_grammar version) (λ kind _.
    sized_grammar w16 (2 ^ 16) exact16 (up_to (text_most version)) (is_content kind)))))
    (PassesEntry version side epoch before) entry_of of_entry
    (λ e l. (record { epoch_is = l.0.1; epoch_fits = l.0.0; index_is = l.1.0; kind_is = l.1.1.0; short = l.1.1.1.0.1; content = l.1.1.1.1 }, refl))
    (λ entry l. (((l.epoch_fits, l.epoch_is), (l.index_is, (l.kind_is, ((below _ l.short, l.short), l.content)))), refl))
  where
    below : (n : ℕ) → up_to (text_most version) n ≡ true → n < 2 ^ 16
    below n passes = omega (arith, leb-true n (text_most version) passes, text-limit version)

pub inbox_list : (version : Version) (side : Side) (epoch : ℕ) → IsGrammar (print_counted w8 (entry_text version))
    (λ list. ((length list < 2 ^ 8) × (up_to (inbox_most version) (length list) ≡ true)) × AreItems (PassesEntry version side epoch) (length list) list)
    (inbox_field version side epoch)
unfolding inbox_field
inbox_list version side epoch =
    counted_grammar (entry_text version) (PassesEntry version side epoch) (λ _. entry_field version side epoch) (entry_grammar version side epoch) w8 (2 ^ 8) exact8
    (up_to (inbox_most version))

post_grammar : (k : Mechanism) (version : Version) (session : List ℕ) (side : Side) (epoch : ℕ) (before : List Post)
    → IsGrammar post_text (PassesPost k version session side epoch before) (post_field k version session side epoch)
unfolding post_field post_of
post_grammar k version session side epoch before =
    mapped_grammar _ _ _ (sized_grammar w16 (2 ^ 16) exact16 any_length (is_post k version session side epoch))
    (PassesPost k version session side epoch before) (post_of k) (λ post. post.packet)
    (λ e l. (record { post = l.1; fits = l.0.0; own_place = refl }, refl))
    (λ post l. (((l.fits, refl), l.post), l.own_place))

pub outbox_list : (k : Mechanism) (version : Version) (session : List ℕ) (side : Side) (epoch : ℕ) → IsGrammar (print_counted w8 post_text)
    (λ list. ((length list < 2 ^ 8) × (up_to (outbox_most version) (length list) ≡ true)) × AreItems (PassesPost k version session side epoch) (length list) list)
    (outbox_field k version session side epoch)
unfolding outbox_field
outbox_list k version session side epoch =
    counted_grammar post_text (PassesPost k version session side epoch) (λ _. post_field k version session side epoch) (post_grammar k version session side epoch) w8 (2 ^ 8) exact8
    (up_to (outbox_most version))
