-- What has been handed to a writer that gathers.
use Rattle.std.specs.Prelude.{ℕ, List}
use Rattle.std.specs.declared.option.Option.{Option}
use Rattle.std.specs.Io.KnownBytes.{append_known}
use Rattle.pieces.specs.declared.gathered.Gathered.{Gathered}

-- the bytes that the writer behind it holds, where those are known, and then the ones that are gathered
abbrev pub handed : {W : Type 0} → (W → Option (List ℕ)) → Gathered W → Option (List ℕ)
handed contents g = append_known (contents g.to) g.bytes.items
