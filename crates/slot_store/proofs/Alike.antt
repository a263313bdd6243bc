-- Bytes that stand for what was read.
use Rattle.std.proofs.Common.{◌≡◌, ⊎_elim, ℕ, List, Option, Some, None, refl, sym, ◌∙◌, ap, subst}
use Rattle.dr_disk.specs.State.{Always, DiskState, IsLawful, IsSettled}
use Rattle.dr_disk.specs.Spans.{Span}
use Rattle.dr_disk.proofs.Steps.{spans, widen}
use Rattle.pages.specs.Clearing.{IsSameShots}
use Rattle.record_pages.specs.Tables.{record_names}
use Rattle.slot_store.specs.Areas.{Area, layout_of}
use Rattle.slot_store.specs.Reading.{IsLikeRead, IsUndamaged, OpensAs, read_as, area_reading}
use Rattle.slot_store.specs.Records.{stored_record, shot_in, record_shown}
use Rattle.slot_store.proofs.Outside.{self_outside, twice_outside}

module _ (area : Area) (c d : List ℕ) (same : shot_in area c ≡ shot_in area d) where
  pub same_record : stored_record area c ≡ stored_record area d
  unfolding stored_record
  same_record = ap (record_shown area) same

  same_reading : (fault_at : List ℕ → Option ℕ) → area_reading fault_at area c ≡ area_reading fault_at area d
  unfolding area_reading
  same_reading fault_at = ap (read_as fault_at area) same

  pub same_undamaged : IsUndamaged area d → IsUndamaged area c
  same_undamaged whole = by (stored_record area d) (stored_record area c) same_record whole
    where
      by : (o p : Option (List ℕ)) → p ≡ o → OpensAs area o d → OpensAs area p c
      by None p is opens = subst (λ q. OpensAs area q c) (sym is) (λ fault_at. same_reading fault_at ∙ opens fault_at)
      by (Some kept) p is opens =
          subst (λ q. OpensAs area q c) (sym is) (λ fault_at none. same_reading fault_at ∙ opens fault_at none)

pub as_read : (area : Area) (start : DiskState) (s : List ℕ) → start.seen ≡ Some s → IsLikeRead area start s
as_read area start s told = record {
  read = s;
  told = told;
  same = refl;
  undamaged = λ whole. whole;
  outside = self_outside area s;
}

module _ (area : Area) (start : DiskState) (settled : IsSettled start) where
  like_shot : (c : List ℕ) → IsSameShots record_names (layout_of area) start c → IsLikeRead area start c
  like_shot c is = record {
    read = is.entry;
    told = settled is.entry is.image;
    same = same_record area c is.entry is.same;
    undamaged = same_undamaged area c is.entry is.same;
    outside = is.outside;
  }

  pub like_shots : (now : DiskState) → Span start now (IsSameShots record_names (layout_of area) start)
      → Span start now (IsLikeRead area start)
  like_shots now span =
      widen start now (IsSameShots record_names (layout_of area) start) (IsLikeRead area start) like_shot span

  pub left_like : (now : DiskState) → Span start now (IsLikeRead area start) → Always (IsLikeRead area start) now
  left_like now span c left =
      ⊎_elim (λ was. as_read area start c (settled c was)) (λ like. like) (span.last c left)

-- ---- what is like what was read at a later moment

pub like_twice : (area : Area) (start a : DiskState) → IsLawful a → Always (IsLikeRead area start) a → (c : List ℕ)
    → IsLikeRead area a c → IsLikeRead area start c
like_twice area start a lawful was c now =
    let first = was now.read (lawful.seen_now now.read now.told) in
    record {
      read = first.read;
      told = first.told;
      same = now.same ∙ first.same;
      undamaged = λ whole. now.undamaged (first.undamaged whole);
      outside = twice_outside area first.read now.read c first.outside now.outside;
    }

pub both_moments : (area : Area) (start a b : DiskState) → IsLawful a → Always (IsLikeRead area start) a
    → Span start a (IsLikeRead area start) → Span a b (IsLikeRead area a) → Span start b (IsLikeRead area start)
both_moments area start a b lawful was one next = spans start a b (IsLikeRead area start) one
    (widen a b (IsLikeRead area a) (IsLikeRead area start) (like_twice area start a lawful was) next)

-- where the moments are told the same
pub like_before : (area : Area) (start a : DiskState) → a.seen ≡ start.seen → (c : List ℕ) → IsLikeRead area a c
    → IsLikeRead area start c
like_before area start a same c like = record {
  read = like.read;
  told = sym same ∙ like.told;
  same = like.same;
  undamaged = like.undamaged;
  outside = like.outside;
}
