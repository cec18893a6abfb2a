-- The fresh state is that of no bytes, by computation.
use mathlib.Core.Path.{◌≡◌, ◌∙◌, refl, sym, ap}
use mathlib.Core.List.{[]}
use Rattle.layout.specs.Text.{bytes, code_number, text_number}
use Rattle.layout.specs.Rows.{row_table, listed, code, fields, is_opening, is_closing}
use Rattle.layout.specs.Sheets.{sheets}
use Rattle.layout.specs.Kinds.{kind_of, sheet_of, fitted, kinds_of, kind}
use Rattle.layout.specs.Packed.{kind_number}
use Rattle.rules.specs.Bytes.{cut, lines, line_at_hand, part, field, row_of_word, row_of, rows, row_at_hand, bars, word}
use Rattle.rules.specs.Order.{last, last_number}
use Rattle.rules.specs.Counts.{lines_of_row, lines_of_block, counts_of_rows, totals_of_rows}
use Rattle.layout.specs.Lists.{tabulate}
use Rattle.rules.proofs.BlockLaws.{since}
use Rattle.rules.proofs.OccurrenceLaws.{stamps, occurrences, occurred}
use Rattle.rules.proofs.CleanLaws.{clean_start}
use Rattle.field.specs.Streaming.{field_after}
use Rattle.state.specs.Piece.{open_of}
use Rattle.state.specs.Piece.{fresh}
use Rattle.line.proofs.HotOf.{says, last_says}
use Rattle.line.proofs.StatementLaws.{stated_of_row}
use Rattle.line.proofs.PairLaws.{pairs_of}
use Rattle.sef.proofs.StateAfter.{open_at, checked_after, after_clean}

fresh_open : fresh ≡ (open_at []).state
unfolding fresh open_of says last_says lines rows last since cut line_at_hand bars word row_at_hand row_of row_of_word
    field part fields listed row_table kind kinds_of is_opening is_closing code bytes code_number text_number
    fitted kind_of sheet_of sheets kind_number field_after counts_of_rows tabulate lines_of_row stamps last_number occurrences occurred
    totals_of_rows lines_of_block stated_of_row pairs_of
fresh_open = refl

pub fresh_is : fresh ≡ (checked_after []).state
fresh_is = fresh_open ∙ ap (λ t. t.state) (sym (after_clean [] clean_start))
