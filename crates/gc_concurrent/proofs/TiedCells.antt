-- A seat fits the words that both ends own.
use Rattle.std.proofs.Common.{◌≡◌, ℕ, sym, ap, ◌∙◌}
use Rattle.std.specs.declared.alloc.Global.{Global}
use Rattle.atomic_table.specs.Seated.{TableId}
use Rattle.gc_cells.specs.declared.table.Table.{Table}
use Rattle.gc_concurrent.specs.declared.cells.CellsKey.{CellsKey}
use Rattle.gc_concurrent.specs.declared.cells.CellsRule.{CellsRule}
use Rattle.gc_concurrent.specs.Ends.{Known}
use Rattle.gc_concurrent.specs.Internal.Rule.{RootWords}

abbrev pub Cells : Type 0
Cells = Table RootWords Known CellsKey CellsRule Global

pub tied : (x y : Cells) (tid : TableId) → x ≡ y → y.shared.table_id ≡ tid → tid ≡ x.shared.table_id
tied x y tid e r = sym (ap (λ (s : Cells). s.shared.table_id) e ∙ r)

pub tied_words : (x y : Cells) (tid : TableId) (n : ℕ) → x ≡ y → y.shared.table_id ≡ tid → tid.words ≡ n → x.shared.table_id.words ≡ n
tied_words x y tid n e r w = ap (λ (s : Cells). s.shared.table_id.words) e ∙ (ap (λ (i : TableId). i.words) r ∙ w)
