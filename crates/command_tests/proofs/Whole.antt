-- The pieces of a conversation, put together.
use Rattle.std.proofs.Common.{List, Option, Some, inl, refl, subst, sym, true, ℕ, ◌∙◌, ◌≡◌}
use Rattle.bodies.specs.declared.format.Format.TheVariants.{Plain}
use Rattle.boxes.specs.Posts.{Post}
use Rattle.dr_disk.specs.MemoryDisks.{state_of}
use Rattle.dr_disk.specs.declared.memory.MemoryDisk.{MemoryDisk}
use Rattle.dr_ports.specs.Memory.{Turning, turning_at}
use Rattle.kem_laws.specs.Mechanism.{Mechanism}
use Rattle.command_lines.specs.Asking.{asked_take}
use Rattle.session_commands.specs.Acting.{RunsAct}
use Rattle.conversation.specs.Talk.{HasWholeTalked, IsWholeTalk}
use Rattle.command_tests.specs.Talks.{HasPosted, HasTakenTwice, HasTalked, HaveBegun}

-- digits are read as one value alone
one_value : (read : Option (List ℕ)) (x y : List ℕ) → read ≡ Some x → read ≡ Some y → x ≡ y
one_value read x y is is_other = let e : Some x ≡ Some y = sym is ∙ is_other in cc

module _ (k : Mechanism) (key text digits : List ℕ) (first second : MemoryDisk)
    (begun : HaveBegun k key first second) (posted : HasPosted k text digits first)
    (took : HasTakenTwice k digits second true) where
  abbrev post : Post
  post = posted.holds.post

  abbrev taken : List ℕ
  taken = took.takes_again.lines

  whole : IsWholeTalk state_of state_of turning_at k first posted.now took.stopped took.cut
      took.crashed took.took text posted.said.source posted.said.left post posted.said.lines taken
  whole = record {
    key = begun.one.key32;
    other = begun.two.key32;
    same = one_value _ _ _ begun.two.key_is begun.one.key_is;
    one = Plain;
    two = Plain;
    start = begun.one.start;
    starts = begun.two.start;
    begun = second;
    shown = begun.one.lines;
    shows = begun.two.lines;
    first = begun.one.began;
    second = begun.two.began;
    rests = took.rests;
    first_bytes = first.platter.bytes.items;
    first_told = refl;
    says_it = posted.said.says;
    posted = posted.holds.posted;
    second_bytes = took.stopped.platter.bytes.items;
    second_told = refl;
    ending = took.takes.ending;
    lines = took.takes.lines;
    takes_it = subst (λ packet. RunsAct state_of k (asked_take k packet) took.stopped took.cut took.takes.ending took.takes.lines)
        (one_value _ _ _ took.takes.hex posted.holds.hex) took.takes.takes;
    crashes = λ c image. inl (took.crashes c image);
    last_bytes = took.crashed.platter.bytes.items;
    last_told = refl;
    takes_again =
        subst (λ ending. RunsAct state_of k (asked_take k post.packet) took.crashed took.took ending taken)
        (took.takes_again.is_done refl)
        (subst (λ packet. RunsAct state_of k (asked_take k packet) took.crashed took.took took.takes_again.ending taken)
        (one_value _ _ _ took.takes_again.hex posted.holds.hex) took.takes_again.takes);
  }

  pub has_talked : ((a b c d e f : MemoryDisk) (text : List ℕ) (source left : Turning) (post : Post)
      (said taken : List ℕ)
      → IsWholeTalk state_of state_of turning_at k a b c d e f text source left post said taken
      → HasWholeTalked state_of state_of turning_at k a b c e f text source left post.packet said taken)
      → HasTalked k text
  has_talked law = record {
    a = first;
    b = posted.now;
    c = took.stopped;
    e = took.crashed;
    f = took.took;
    source = posted.said.source;
    left = posted.said.left;
    packet = post.packet;
    said = posted.said.lines;
    taken = taken;
    talked = law first posted.now took.stopped took.cut took.crashed took.took text
        posted.said.source posted.said.left post posted.said.lines taken whole;
  }
