-- Pairs that stand in pages.
use Rattle.std.specs.Prelude.{◌≡◌, ℕ, ◌+◌, ◌*◌, ◌^◌, ◌<◌, ◌≤◌, List, length}
use Rattle.std.specs.List.{All, flat_map}
use Rattle.sp_plan.specs.declared.pairs.Pair.{Pair}

-- the pairs of the pages, one page behind the other
abbrev pub joined : List (List Pair) → List Pair
joined pages = flat_map (λ page. page) pages

-- So many pairs of the pages are in use, all but some of the last page, and each page is full.
pub record Paged (pages : List (List Pair)) (paged : ℕ) : Type 0 where
  pub full : All (λ page. length page ≡ 32) pages
  pub within : paged ≤ 32 * length pages
  pub needed : 32 * length pages < paged + 32
  pub most : paged ≤ 2 ^ 62
