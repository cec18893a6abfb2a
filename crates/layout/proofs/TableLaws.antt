-- A table with an entry for each row, and one for "no row": what it holds is compared once, entry by entry, and read at a row.
use mathlib.Core.Path.{◌≡◌, ap, ◌∙◌}
use mathlib.Core.List.{List}
use Prim.Native.Nat.{ℕ, suc, ◌≤◌, suc-le-suc}
use lib.ListN.{get_or}
use Rattle.layout.specs.Lists.{tabulate}
use Rattle.layout.specs.Rows.{row_count}
use Rattle.layout.proofs.TabulateLaws.{tabulate_at}

module _ {A : Type 0} (f : ℕ → A) where
  -- f of each row, and of no row
  abbrev pub of_rows : List A
  of_rows = tabulate (suc row_count) f

  pub row_entry : {table : List A} → table ≡ of_rows → (r : ℕ) (d : A) → r ≤ row_count → get_or table r d ≡ f r
  row_entry held r d h = ap (λ entries. get_or entries r d) held ∙ tabulate_at (suc row_count) f r d (suc-le-suc h)
