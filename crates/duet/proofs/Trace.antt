-- Lines of a trace, one deed after another.
use Rattle.std.proofs.Common.{◌≡◌, ℕ, List, [], ◌∷◌, ◌++◌, Option, refl, sym, ◌∙◌, ap, append_assoc, append-nil, subst}
use Rattle.dr_ports.specs.Ports.{appended}
use Rattle.dr_ports.specs.Writing.{TookBeginning}
use Rattle.dr_ports.proofs.Told.{appended-appended, appended-none}
use Rattle.dr_ports.proofs.WritingLemmas.{took_of_first, took_of_second}
use Rattle.kem_laws.specs.Mechanism.{Mechanism}
use Rattle.duet.specs.Outcomes.{Beside, Played, SidesBeside, deed_on}
use Rattle.scripts.specs.Deeds.{Deed}
use Rattle.duet.specs.Held.{DuetNow, after_deed, beside}
use Rattle.duet.specs.Trace.{lines_by, after_by}

module _ {S L : Type 0} (act : Beside S L → Deed → Played S L) where
  -- the lines of deeds and of those that follow
  lines_by-append : (s : Beside S L) (deeds others : List Deed)
      → lines_by act s (deeds ++ others) ≡ lines_by act s deeds ++ lines_by act (after_by act s deeds) others
  unfolding lines_by after_by
  lines_by-append s [] others = refl
  lines_by-append s (deed ∷ deeds) others =
      ap (λ lines. (act s deed).lines ++ lines) (lines_by-append (act s deed).next deeds others)
      ∙ sym (append_assoc (act s deed).lines (lines_by act (act s deed).next deeds) (lines_by act (after_by act (act s deed).next deeds) others))

  -- what stands after one deed more
  after_by-push : (s : Beside S L) (deeds : List Deed) (deed : Deed)
      → after_by act s (deeds ++ deed ∷ []) ≡ (act (after_by act s deeds) deed).next
  unfolding after_by
  after_by-push s [] deed = refl
  after_by-push s (first ∷ deeds) deed = after_by-push (act s first).next deeds deed

  one_deed : (s : Beside S L) (deed : Deed) → lines_by act s (deed ∷ []) ≡ (act s deed).lines
  unfolding lines_by
  one_deed s deed = append-nil (act s deed).lines

  -- the lines of one deed more
  lines_by-push : (s : Beside S L) (deeds : List Deed) (deed : Deed)
      → lines_by act s (deeds ++ deed ∷ []) ≡ lines_by act s deeds ++ (act (after_by act s deeds) deed).lines
  lines_by-push s deeds deed =
      lines_by-append s deeds (deed ∷ []) ∙ ap (λ lines. lines_by act s deeds ++ lines) (one_deed (after_by act s deeds) deed)

  -- a sink that took the lines so far, and then those of one deed more
  took_line : (old mid new : Option (List ℕ)) (s : Beside S L) (deeds : List Deed) (deed : Deed) → mid ≡ appended old (lines_by act s deeds)
      → new ≡ appended mid (act (after_by act s deeds) deed).lines → new ≡ appended old (lines_by act s (deeds ++ deed ∷ []))
  took_line old mid new s deeds deed e f =
      f ∙ ap (λ t. appended t (act (after_by act s deeds) deed).lines) e
      ∙ appended-appended old (lines_by act s deeds) (act (after_by act s deeds) deed).lines
      ∙ ap (appended old) (sym (lines_by-push s deeds deed))

  -- a sink that took the lines so far, and then a beginning of the next: it took a beginning of all
  took_until : (old mid new : Option (List ℕ)) (s : Beside S L) (deeds : List Deed) (deed : Deed) (others : List Deed)
      → mid ≡ appended old (lines_by act s deeds) → TookBeginning mid new (act (after_by act s deeds) deed).lines
      → TookBeginning old new (lines_by act s ((deeds ++ deed ∷ []) ++ others))
  took_until old mid new s deeds deed others e t =
      let so_far : TookBeginning old new (lines_by act s deeds ++ (act (after_by act s deeds) deed).lines) =
      took_of_second old mid new (lines_by act s deeds) (act (after_by act s deeds) deed).lines e t in
      let whole : lines_by act s ((deeds ++ deed ∷ []) ++ others)
      ≡ (lines_by act s deeds ++ (act (after_by act s deeds) deed).lines) ++ lines_by act (after_by act s (deeds ++ deed ∷ [])) others =
      lines_by-append s (deeds ++ deed ∷ []) others ∙ ap (λ lines. lines ++ lines_by act (after_by act s (deeds ++ deed ∷ [])) others) (lines_by-push s deeds deed) in
      subst (λ lines. TookBeginning old new lines) (sym whole) (took_of_first old new _ (lines_by act (after_by act s (deeds ++ deed ∷ [])) others) so_far)

  -- nothing was taken yet
  pub no_lines_yet : (told : Option (List ℕ)) (s : Beside S L) → told ≡ appended told (lines_by act s [])
  unfolding lines_by
  no_lines_yet told s = appended-none told

-- ---- both sides

module _ (k : Mechanism) (start : SidesBeside) where
  -- after one deed more
  pub stands_more : (deeds : List Deed) (deed : Deed) (old new : DuetNow) → new ≡ after_deed old (deed_on k (beside old) deed)
      → beside old ≡ after_by (deed_on k) start deeds → beside new ≡ after_by (deed_on k) start (deeds ++ deed ∷ [])
  stands_more deeds deed old new next stands =
      ap beside next ∙ ap (λ (s : SidesBeside). (deed_on k s deed).next) stands ∙ sym (after_by-push (deed_on k) start deeds deed)

  -- the lines so far, and then those of one deed more
  pub wrote_more : (told mid new : Option (List ℕ)) (deeds : List Deed) (deed : Deed) (s : SidesBeside)
      → new ≡ appended mid (deed_on k s deed).lines
      → s ≡ after_by (deed_on k) start deeds → mid ≡ appended told (lines_by (deed_on k) start deeds) → new ≡ appended told (lines_by (deed_on k) start (deeds ++ deed ∷ []))
  wrote_more told mid new deeds deed s wrote stands so_far =
      took_line (deed_on k) told mid new start deeds deed so_far (wrote ∙ ap (λ (s : SidesBeside). appended mid (deed_on k s deed).lines) stands)

  -- the lines so far, and then a beginning of those of the next deed
  pub wrote_part : (told mid new : Option (List ℕ)) (deeds others all : List Deed) (deed : Deed) (s : SidesBeside)
      → TookBeginning mid new (deed_on k s deed).lines
      → all ≡ (deeds ++ deed ∷ []) ++ others → s ≡ after_by (deed_on k) start deeds → mid ≡ appended told (lines_by (deed_on k) start deeds) → TookBeginning told new (lines_by (deed_on k) start all)
  wrote_part told mid new deeds others all deed s part e stands so_far =
      subst (λ ds. TookBeginning told new (lines_by (deed_on k) start ds)) (sym e)
      (took_until (deed_on k) told mid new start deeds deed others so_far
      (subst (λ (s : SidesBeside). TookBeginning mid new (deed_on k s deed).lines) stands part))

  -- the lines so far are a beginning of all
  pub wrote_first : (told taken : Option (List ℕ)) (deeds others all : List Deed) → all ≡ deeds ++ others
      → taken ≡ appended told (lines_by (deed_on k) start deeds) → TookBeginning told taken (lines_by (deed_on k) start all)
  wrote_first told taken deeds others all e so_far = record {
    beginning = lines_by (deed_on k) start deeds;
    remainder = lines_by (deed_on k) (after_by (deed_on k) start deeds) others;
    split = ap (lines_by (deed_on k) start) e ∙ lines_by-append (deed_on k) start deeds others;
    took = so_far;
  }
