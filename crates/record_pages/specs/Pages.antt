-- A record cut into pages.
use Rattle.std.specs.Prelude.{ℕ, zero, suc, ◌-◌, ◌*◌, List, [], ◌∷◌, ◌++◌, length, take, drop, replicate}
use Rattle.std.specs.Int.{div_ceil}
use Rattle.dr_base.specs.declared.limits.TheConstants.{PAGE}

-- how many pages a record of this length has
abbrev pub page_count : ℕ → ℕ
page_count length = div_ceil length PAGE

-- a piece, filled with zeros to a page
abbrev pub filled_page : List ℕ → List ℕ
filled_page piece = piece ++ replicate (PAGE - length piece) 0

-- a record cut into n pages
abbrev pub pages_of : ℕ → List ℕ → List (List ℕ)
pages_of zero text = []
pages_of (suc n) text = filled_page (take PAGE text) ∷ pages_of n (drop PAGE text)

-- a record's own pages
abbrev pub pages_in : List ℕ → List (List ℕ)
pages_in text = pages_of (page_count (length text)) text

-- the first n pages of these bytes
abbrev pub cut : ℕ → List ℕ → List (List ℕ)
cut zero bytes = []
cut (suc n) bytes = take PAGE bytes ∷ cut n (drop PAGE bytes)

-- pages, one after the other
abbrev pub joined : List (List ℕ) → List ℕ
joined [] = []
joined (page ∷ pages) = page ++ joined pages

-- the page at a place of these bytes, shorter where they end in it
abbrev pub page_at : List ℕ → ℕ → List ℕ
page_at bytes at = take PAGE (drop (PAGE * at) bytes)
