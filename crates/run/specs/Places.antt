-- Whole lines and fields at once: a place between fields or lines, the state there, and what leads from one place to the next.
use Rattle.std.specs.Prelude.{true, false, ◌≡◌, List, [], ◌∷◌, ℕ, ◌+◌, ◌-◌, ◌*◌, ◌≤◌, ◌<◌, min, eqb, length, get_or, drop}
use Rattle.layout.specs.Pick.{pick}
use Rattle.layout.specs.Rows.{row_count, none, fields, block, row_of_code, row9999}
use Rattle.layout.specs.Kinds.{kind, row_start}
use Rattle.layout.specs.Packed.{kind_number}
use Rattle.layout.specs.Silent.{is_silent}
use Rattle.rules.specs.Bytes.{bar, CR, LF}
use Rattle.rules.specs.Rules.{byte_limit}
use Rattle.field.specs.Streaming.{empty_field}
use Rattle.whole.specs.Whole.{longest, margin}
use Rattle.line.specs.Machine.{code_kind, code_only, stands_of, misplaced_of, room_of}
use Rattle.line.specs.declared.hot.Hot.{Hot}
use Rattle.line.specs.Machine.{Next, Broken}
use Rattle.line.specs.Tally.{Held}
use Rattle.line.specs.declared.tally.Tally.{Tally}
use Rattle.run.specs.declared.place.Place.{Place}
use Rattle.line.specs.Tally.{counted_tally, raised_tally, tally_with, step_with}

-- From h, with t kept, the bytes of xs are accepted one by one up to ys: there the state is h', and t' is kept.
pub data Passes : Hot → Tally → List ℕ → Hot → Tally → List ℕ → Type 0 where
  here : {h : Hot} {t : Tally} {xs : List ℕ} → Passes h t xs h t xs
  byte : {h n h' : Hot} {t t' : Tally} {b : ℕ} {xs ys : List ℕ} → step_with h t b ≡ Next n
      → Passes n (tally_with h n.lines b t) xs h' t' ys → Passes h t (b ∷ xs) h' t' ys

-- The state at a place, so many bytes on: at a line's start, and at the start of a field of a row, or past its last.
abbrev pub line_start : Place → ℕ → Hot
line_start p bytes =
    record {
      lines = p.lines;
      bytes = bytes;
      last = p.last;
      since = p.since;
      says = p.says;
      bars = 0;
      row = none;
      fields = code_only;
      kind = code_kind;
      field = empty_field;
    }

abbrev pub bars_at : Place → ℕ
bars_at p = p.index - row_start p.row + 1

abbrev pub field_start : Place → ℕ → Hot
field_start p bytes =
    record {
      lines = p.lines;
      bytes = bytes;
      last = p.last;
      since = p.since;
      says = p.says;
      bars = bars_at p;
      row = p.row;
      fields = fields p.row;
      kind = kind_number (kind p.row (bars_at p));
      field = empty_field;
    }

unfoldable pub hot_at : Place → ℕ → Hot
hot_at p bytes = pick (eqb p.row none) (line_start p bytes) (field_start p bytes)

-- what a place may be: at the start of a line that is not after 9999, or of a field of a silent row, or past its last field
pub record Placed (p : Place) : Type 0 where
  pub row : p.row ≤ row_count
  pub going : p.row ≡ none → eqb p.last row9999 ≡ false
  pub silent : p.row < row_count → is_silent p.row ≡ true
  pub from : p.row < row_count → row_start p.row < p.index
  pub to : p.row < row_count → p.index ≤ row_start p.row + fields p.row

-- The place of a state, i bytes into the piece.
unfoldable pub index_of : Hot → ℕ
index_of h = pick (eqb h.bars 0) 0 (row_start h.row + (h.bars - 1))

abbrev pub place_of : Hot → ℕ → Place
place_of h i =
    record {
      at = i;
      lines = h.lines;
      last = h.last;
      since = h.since;
      says = h.says;
      row = h.row;
      index = index_of h;
    }

-- the state is that of a line's start, or of a field's
pub record StartsLine (h : Hot) : Type 0 where
  pub going : eqb h.last row9999 ≡ false
  pub row : h.row ≡ none
  pub fields : h.fields ≡ code_only
  pub kind : h.kind ≡ code_kind

pub record StartsField (h : Hot) : Type 0 where
  pub later : 2 ≤ h.bars
  pub row : h.row < row_count
  pub fields : h.fields ≡ fields h.row
  pub within : h.bars ≤ h.fields
  pub silent : is_silent h.row ≡ true
  pub kind : h.kind ≡ kind_number (kind h.row h.bars)

-- the state is that of its place
pub record Begins (h : Hot) : Type 0 where
  pub placed : (i : ℕ) → Placed (place_of h i)
  pub same : (i : ℕ) → hot_at (place_of h i) h.bytes ≡ h

-- From the place p the bytes lead to the place r; `before` bytes have come in the pieces before, t is kept at p and t' at r.
abbrev pub PassesTo : List ℕ → ℕ → Place → Tally → Place → Tally → Type 0
PassesTo s before p t r t' =
    Passes (hot_at p (before + p.at)) t (drop p.at s) (hot_at r (before + r.at)) t' (drop r.at s)

-- the code in four bytes, the first highest
abbrev pub code_at : List ℕ → ℕ → ℕ
code_at s i = ((get_or s i 0 * 256 + get_or s (i + 1) 0) * 256 + get_or s (i + 2) 0) * 256 + get_or s (i + 3) 0

-- between two bars stands the code of row r
pub record HasCode (s : List ℕ) (i r : ℕ) : Type 0 where
  pub row : r < row_count
  pub opens : get_or s i 0 ≡ bar
  pub code : row_of_code (code_at s (i + 1)) ≡ r
  pub closes : get_or s (i + 5) 0 ≡ bar

-- a line of a silent row r can follow
pub record Follows (t : Tally) (last says r : ℕ) : Type 0 where
  pub silent : is_silent r ≡ true
  pub stands : stands_of last r ≡ true
  pub placed : misplaced_of says r ≡ false
  pub room : room_of t.stamps t.occurrences r ≡ true

-- over a line's head, at what is kept
pub record Headed (s : List ℕ) (t : Tally) (p r : Place) : Type 0 where
  pub placed : Placed r
  pub inside : r.row < row_count
  pub on : p.at ≤ r.at
  pub near : r.at ≤ p.at + 6
  pub passes : (before : ℕ) → before + p.at + 6 ≤ byte_limit → PassesTo s before p t r t

-- over whole fields, as far as they go: each starts before `safe`
pub record Fielded (s : List ℕ) (safe : ℕ) (p r : Place) : Type 0 where
  pub placed : Placed r
  pub row : r.row ≡ p.row
  pub on : p.at ≤ r.at
  pub near : r.at < safe + longest
  pub passes : (before : ℕ) (t : Tally) → safe ≤ byte_limit - before - margin → PassesTo s before p t r t

-- the line at hand ends: past its row's last field stand CR and LF
pub record EndsHere (s : List ℕ) (p : Place) : Type 0 where
  pub past : p.index ≡ row_start p.row + fields p.row
  pub cr : get_or s p.at 0 ≡ CR
  pub lf : get_or s (p.at + 1) 0 ≡ LF

abbrev pub next_line : Place → Place
next_line p =
    record {
      at = p.at + 2;
      lines = p.lines + 1;
      last = p.row;
      since = p.since + 1;
      says = p.says;
      row = none;
      index = 0;
    }

-- the tally after a line of a silent row r, the file's line n
abbrev pub counted_with : Tally → ℕ → ℕ → Tally
counted_with t r n = raised_tally (counted_tally t r n) (block r)

-- up to where fields are looked for: the end of the piece, or of the byte limit if that is nearer, less the margin
unfoldable pub safe_of : ℕ → ℕ → ℕ
safe_of before n = min n (byte_limit - before) - margin

-- Over whole lines and fields, as far as they go.
pub record Along (s : List ℕ) (before : ℕ) (p : Place) (t : Tally) (r : Place) (t' : Tally) : Type 0 where
  pub placed : Placed r
  pub on : p.at ≤ r.at
  pub within : r.at ≤ length s
  pub held : Held (hot_at r (before + r.at)) t'
  pub passes : PassesTo s before p t r t'

-- the same from a state h, i bytes into the piece, to the state r
pub record Onward (s : List ℕ) (before i : ℕ) (h : Hot) (t : Tally) (r : Hot) (t' : Tally) : Type 0 where
  pub on : before + i ≤ r.bytes
  pub within : r.bytes ≤ before + length s
  pub passes : Passes h t (drop i s) r t' (drop (r.bytes - before) s)

-- The bytes are accepted one by one up to one that breaks a rule in some field: there the state is h', and t' is kept.
pub record Stops (h : Hot) (t : Tally) (bytes : List ℕ) (rule field : ℕ) (h' : Hot) (t' : Tally) : Type 0 where
  pub byte : ℕ
  pub rest : List ℕ
  pub passes : Passes h t bytes h' t' (byte ∷ rest)
  pub broken : step_with h' t' byte ≡ Broken rule field
