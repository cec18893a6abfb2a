-- What the letter of a command asks for.
use Rattle.std.specs.Prelude.{ℕ, ◌≡◌, ⊤}
use Rattle.pieces.specs.declared.commands.Command.{Command}
use Rattle.pieces.specs.declared.commands.Command.TheVariants.{NewFile, Piece, Finish, Report, ReportWithoutRoom, Nothing}

-- this letter names the command. Nothing comes of any other letter, and of a piece that can't be read.
abbrev pub Names : ℕ → Command → Type 0
-- N
Names letter NewFile = letter ≡ 78
-- P
Names letter (Piece bytes) = letter ≡ 80
-- F
Names letter Finish = letter ≡ 70
-- C
Names letter Report = letter ≡ 67
-- S
Names letter ReportWithoutRoom = letter ≡ 83
Names letter Nothing = ⊤
