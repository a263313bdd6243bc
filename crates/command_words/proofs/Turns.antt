-- What clap makes of one word, at a place of its walk where nothing waits for a value.
use Rattle.std.proofs.Common.{◌≡◌, ℕ, Bool, true, false, cond, refl, List, [], ◌∷◌, Option, Some, None}
use Rattle.std.specs.Prelude.{slice_get}
use Rattle.std.specs.Str.{chars}
use Rattle.clap.specs.Lexer.{long_of, short_of}
use Rattle.clap.specs.declared.error.kind.ErrorKind.TheVariants.{UnknownArgument, InvalidSubcommand}
use Rattle.clap.specs.Kinds.{Kinds, or_else}
use Rattle.clap.specs.Walk.{Held, Names, Text, Waiting, Walk, arg_by_index, arg_by_long, arg_by_short, idle, nothing_held, positional, subcommand_met, value, walked, word_met}
use Rattle.clap.specs.Simple.{Shape}
use Rattle.clap.specs.Faults.{stray_fault, turn_fault, word_fault}
use Rattle.clap.proofs.OnLiterals.{clap_on_literals}
use Rattle.command_words.specs.Values.{is_separator}
use Rattle.command_words.proofs.WordKinds.{divides, stands, long, short, kind_of}

-- what takes the next word: a positional that may have more values, or nothing yet
abbrev pub waiting_for : Bool → Waiting
waiting_for several = cond several positional idle

-- a place of the walk: what is held, the next position, and whether the last word may have more beside it
pub record Place : Type 0 where
  pub held : Held
  pub position : ℕ
  pub several : Bool

-- the walk there, after `--` or not
abbrev pub walk_of : Place → Bool → Walk
walk_of l is_trailing = record { held = l.held; waiting = waiting_for l.several; position = l.position; is_trailing = is_trailing; stopped = None }

-- before the first word
abbrev pub start : Place
start = record { held = nothing_held; position = 1; several = false }

-- ---- kinds

pub first_fails : (a b : Kinds) → (a ≡ [] → ⊥) → or_else a b ≡ [] → ⊥
first_fails [] b f e = f refl
first_fails (k ∷ ks) b f e = f e

pub next_fails : (a b : Kinds) → (b ≡ [] → ⊥) → or_else a b ≡ [] → ⊥
next_fails [] b f e = f e
next_fails (k ∷ ks) b f e = cc

pub first_none : (a b : Kinds) → or_else a b ≡ [] → a ≡ []
first_none [] b e = refl
first_none (k ∷ ks) b e = cc

pub stray_fails : (s : Shape) → stray_fault s ≡ [] → ⊥
stray_fails s = go s.is_leaf
  where
    go : (b : Bool) → cond b (UnknownArgument ∷ []) (UnknownArgument ∷ InvalidSubcommand ∷ []) ≡ [] → ⊥
    go true e = cc
    go false e = cc

pub joined : (a b c : Kinds) → or_else (or_else a b) c ≡ or_else a (or_else b c)
joined [] b c = refl
joined (k ∷ ks) b c = refl

-- ---- one word

-- nothing waits for a value, so a word may be anything
module _ (s : Shape) (names : Names) (l : Place) (word : Text) (unmet : subcommand_met names (waiting_for l.several) word ≡ None) where
  pub divided : is_separator word ≡ true → (turn_fault s names (walk_of l false) word ≡ []) × (walked s.rules names (walk_of l false) word ≡ walk_of l true)
  unfolding clap_on_literals
  divided is = (rw (unmet, is) refl, rw (unmet, is) refl)

  pub long_fails : (p : Text × Option Text) → is_separator word ≡ false → long_of word ≡ Some p → arg_by_long s.rules p.0 ≡ None
      → turn_fault s names (walk_of l false) word ≡ [] → ⊥
  unfolding clap_on_literals
  long_fails p apart is none = rw (unmet, apart, is, none) (λ bad. cc)

  pub short_fails : (y : ℕ) (zs : List ℕ) (x : ℕ) → is_separator word ≡ false → long_of word ≡ None → short_of word ≡ Some (y ∷ zs)
      → slice_get (chars (y ∷ zs)) 0 ≡ Some x → arg_by_short s.rules x ≡ None → l.held.skip ≡ 0
      → turn_fault s names (walk_of l false) word ≡ [] → ⊥
  unfolding clap_on_literals
  short_fails y zs x apart no_long is first none no_skip = rw (unmet, apart, no_long, is, first, no_skip, none) (λ bad. cc)

  -- a word that is no flag is a value
  pub stands_so : is_separator word ≡ false → long_of word ≡ None → short_of word ≡ None
      → word_met s.rules names false (waiting_for l.several) l.position word l.held ≡ (l.held, value)
  stands_so apart no_long no_short = go l.several unmet
    where
      go : (several : Bool) → subcommand_met names (waiting_for several) word ≡ None → word_met s.rules names false (waiting_for several) l.position word l.held ≡ (l.held, value)
      go true none = rw (apart, no_long, no_short) refl
      go false none = rw (none, apart, no_long, no_short) refl

  pub no_fault_so : is_separator word ≡ false → long_of word ≡ None → short_of word ≡ None
      → word_fault s names false (waiting_for l.several) word l.held ≡ []
  no_fault_so apart no_long no_short = rw (unmet, apart, no_long, no_short) refl

-- ---- a word where no positional is left

-- the command has no flags, and no positional at this place; no bundle of flags was cut
pub record IsFull (s : Shape) (l : Place) : Type 0 where
  pub by_index : arg_by_index s.rules l.position ≡ None
  pub by_long : (name : Text) → arg_by_long s.rules name ≡ None
  pub by_short : (x : ℕ) → arg_by_short s.rules x ≡ None
  pub no_skip : l.held.skip ≡ 0

pub surplus_fails : (s : Shape) (names : Names) (l : Place) (word : Text) → IsFull s l → turn_fault s names (walk_of l true) word ≡ [] → ⊥
surplus_fails s names l word full = rw full.by_index (stray_fails s)

pub full_fails : (s : Shape) (names : Names) (l : Place) (word : Text) → IsFull s l
    → subcommand_met names (waiting_for l.several) word ≡ None → is_separator word ≡ false → l.several ≡ false
    → turn_fault s names (walk_of l false) word ≡ [] → ⊥
unfolding clap_on_literals
full_fails s names l word full none apart alone = elim (kind_of word) [
  | divides e ↦ absurd cc
  | stands e f p h ↦ rw (no_fault_so s names l word none e p h, stands_so s names l word none e p h, full.by_index) (stray_fails s)
  | long e f p is ↦ long_fails s names l word none p e is (full.by_long p.0)
  | short e f p y zs h is ↦ go y zs e p h (slice_get (chars (y ∷ zs)) 0) refl
]
  where
    go : (y : ℕ) (zs : List ℕ) → is_separator word ≡ false → long_of word ≡ None → short_of word ≡ Some (y ∷ zs) → (o : Option ℕ) → slice_get (chars (y ∷ zs)) 0 ≡ o
        → turn_fault s names (walk_of l false) word ≡ [] → ⊥
    go y zs e p h (Some x) q = short_fails s names l word none y zs x e p h q (full.by_short x) full.no_skip
    go y zs e p h None q = rw (none, e, p, h, q, alone, full.by_index) (stray_fails s)
