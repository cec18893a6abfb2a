-- The table holds the block of each silent row.
use Rattle.std.proofs.Common.{◌≡◌, refl, None, Option, ℕ}
use Rattle.layout.specs.Text.{bytes, code_number, text_number}
use Rattle.layout.specs.Lists.{tabulate}
use Rattle.layout.specs.Rows.{blocks, block, place_of, block_letters, level, code, listed, row_table}
use Rattle.layout.specs.Periods.{periods, period_codes, period_of}
use Rattle.layout.specs.Silent.{is_silent, silent_block}
use Rattle.layout.specs.Packed.{some_but}
use Rattle.layout.specs.declared.silent.TheConstants.{TABLE}
use Rattle.layout.proofs.TableLaws.{of_rows, row_entry}
use Rattle.layout.proofs.silent.silent_at.Goals as goal

abbrev silent : ℕ → Option ℕ
silent r = some_but blocks (silent_block r)

held : TABLE ≡ of_rows silent
unfolding tabulate silent_block is_silent period_of period_codes periods place_of block block_letters
    level code listed row_table text_number code_number bytes
held = refl

pub returns : goal.returns
returns c = row_entry silent held c.args.r None c.requires
