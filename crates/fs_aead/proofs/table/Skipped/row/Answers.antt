use Rattle.std.proofs.Common.{◌≡◌, ◌+◌, ◌<◌, ◌∙◌, List, ℕ, length, get_or, ap, sym, subst, arith}
use Rattle.dr_base.specs.declared.key.Kept.{Kept}
use Rattle.fs_aead.specs.Rows.{starts_of}
use Rattle.fs_aead.proofs.Starts.{starts-ascend, starts-inside}
use Rattle.fs_aead.proofs.table.Skipped.row.Goals as goal
use Rattle.fs_aead.proofs.table.Skipped.row.Goals.{then-k-len-2, else-k-len-2}

-- a start is the place of a key
start_inside : (keys : List Kept) (starts : List ℕ) (k : ℕ) → starts ≡ starts_of keys → k < length starts → get_or starts k 0 < length keys
start_inside keys starts k is below =
    let rows : k < length (starts_of keys) = subst (λ (l : List ℕ). k < length l) is below in
    subst (λ (l : List ℕ). get_or l k 0 < length keys) (sym is) (starts-inside keys k 0 rows)

-- and stands before the next
before_next : (keys : List Kept) (starts : List ℕ) (k : ℕ) → starts ≡ starts_of keys → k + 1 < length starts → get_or starts k 0 < get_or starts (k + 1) 0
before_next keys starts k is below =
    let rows : k + 1 < length (starts_of keys) = subst (λ (l : List ℕ). k + 1 < length l) is below in
    subst (λ (l : List ℕ). get_or l k 0 < get_or l (k + 1) 0) (sym is) (starts-ascend keys k (k + 1) 0 (omega arith) rows)

pub bounds-deref-start : goal.bounds-deref-start
bounds-deref-start c =
    let inside = start_inside c.self.inside.keys.items c.self.inside.starts.items c.args.k c.self.invariant.1 (omega (arith, c.len.ensures.value)) in
    let start = c.from-start.ensures ∙ ap (λ (l : List ℕ). get_or l c.args.k 0) c.deref.ensures.0 in
    omega (arith, inside, start, ap (λ (l : List Kept). length l) c.deref-2.ensures.0)

pub overflow_sub-result : goal.overflow_sub-result
overflow_sub-result c =
    let start = c.from-start.ensures ∙ ap (λ (l : List ℕ). get_or l c.args.k 0) c.deref.ensures.0 in
    elim c.if-k-len-2.branch [
      | then-k-len-2 w ↦
          let more : c.args.k + 1 < length c.self.inside.starts.items = omega (arith, c.len-2.ensures.value, w.if-k-len-2.true) in
          let next = before_next c.self.inside.keys.items c.self.inside.starts.items c.args.k c.self.invariant.1 more in
          let end = w.from-end.ensures ∙ ap (λ (l : List ℕ). get_or l (c.args.k + 1) 0) w.deref-then-k-len-2.ensures.0 in
          omega (arith, start, next, end, w.end-is)
      | else-k-len-2 w ↦
          let inside = start_inside c.self.inside.keys.items c.self.inside.starts.items c.args.k c.self.invariant.1 (omega (arith, c.len.ensures.value)) in
          omega (arith, start, inside, w.len-end.ensures.value, w.end-is)
    ]
