-- A line's head, a bar, a code and a bar: the six bytes lead from the line's start to the start of its field 2.
use Rattle.std.specs.Prelude.{Option, Some, None, IfSome}
use Rattle.std.specs.Int.{from_be_bytes, w32}
use mathlib.Core.Path.{◌≡◌, ◌∙◌, refl}
use mathlib.Core.Bool.{Bool, true, false, not, ◌&&◌}
use mathlib.Core.List.{List, [], ◌∷◌}
use Prim.Native.Nat.{ℕ, zero, suc, ◌+◌, ◌-◌, ◌*◌, ◌/◌, ◌%◌, ◌<◌, ◌≤◌}
use native.Mathlib.Omega.{arith}
use native.Mathlib.Nat.{zero-add, add-zero, add-suc, mod-eq_of_lt, div-eq_of_lt, mul-add-mod_self_right, mul-add-div_right}
use native.Mathlib.Numerals.{add-one}
use native.Mathlib.Decide.{ℕ_discrete}
use lib.Dec.{T, eqb}
use lib.Ieee.Bits.{is_true}
use lib.ListN.{length, get_or, drop}
use lib.Seq.{drop-cons}
use borrow.Author.Tests.{not-true, ne_eqb, eqb-false, lt-leb}
use Rattle.layout.specs.Pick.{pick}
use Rattle.layout.specs.Packed.{some_but}
use Rattle.layout.specs.Lists.{all_below}
use Rattle.layout.specs.Text.{bytes, code_number, text_number}
use Rattle.layout.specs.Rows.{row_table, row_count, none, listed, code, row_of_code, row9999}
use Rattle.layout.specs.Kinds.{row_start}
use Rattle.layout.proofs.RowLaws.{fields_two}
use Rattle.layout.proofs.Below.{below_at}
use Rattle.layout.proofs.CodeLaws.{row_of_code_code}
use Rattle.rules.specs.Bytes.{bar, LF}
use Rattle.rules.specs.Rules.{byte_limit}
use Rattle.std.proofs.lemmas.Bool.{and_parts}
use Rattle.field.specs.Streaming.{with_byte}
use Rattle.whole.specs.Whole.{ends}
use Rattle.line.specs.Machine.{code_kind, code_only, word_row, code_bar_of, bar_of, in_field_of, start_of, step_of}
use Rattle.line.specs.declared.hot.Hot.{Hot}
use Rattle.line.specs.Machine.{Next}
use Rattle.line.specs.declared.tally.Tally.{Tally}
use Rattle.run.specs.declared.place.Place.{Place}
use Rattle.line.specs.Tally.{step_with}
use Rattle.rules.specs.Bytes.{AllBytes}
use Rattle.run.specs.Places.{Passes, code_at, Follows, line_start, field_start, PassesTo, Placed, Headed}
use Rattle.run.specs.Places.Passes.{here}
use Rattle.run.proofs.PassLaws.{no_control, no_bar, no_end, passes_join, passes_byte}
use Rattle.run.proofs.PlaceLaws.{silent_row, at_line, at_field}

-- None of the last n bytes of a number ends a field: so it is with the four of each row's code.
unfoldable plain : ℕ → ℕ → Bool
plain zero c = true
plain (suc n) c = not (ends (c % 256)) && plain n (c / 256)

computed : T (all_below row_count (λ r. plain 4 (code r)))
unfolding all_below plain ends code listed row_table text_number code_number bytes
computed = tt

code_plain : (c : ℕ) → row_of_code c < row_count → plain 4 c ≡ true
code_plain c l =
    let passed = below_at row_count (λ r. plain 4 (code r)) computed (row_of_code c) l in
    rw (row_of_code_code c l) at (is_true (plain 4 (code (row_of_code c))) passed)

plain_parts : (n x b : ℕ) → b < 256 → plain (suc n) (x * 256 + b) ≡ true → (ends b ≡ false) × (plain n x ≡ true)
unfolding plain
plain_parts n x b l e =
    let low : (x * 256 + b) % 256 ≡ b = mul-add-mod_self_right x 256 b ∙ mod-eq_of_lt l in
    let high : (x * 256 + b) / 256 ≡ x = mul-add-div_right (omega arith) x b ∙ rw (div-eq_of_lt l, add-zero) in
    let parts = rw (low, high) at e in
    (not-true (ends b) (and_parts (not (ends b)) (plain n x) parts).0, (and_parts (not (ends b)) (plain n x) parts).1)

-- The code's bytes, from i on.
module _ (s : List ℕ) (i : ℕ) where
  -- the number that the first n bytes of the code make
  unfoldable word_at : ℕ → ℕ
  word_at zero = 0
  word_at (suc n) = word_at n * 256 + get_or s (i + n) 0

  word_is : word_at 4 ≡ code_at s i
  unfolding word_at
  word_is = rw (zero-add, add-zero)

  module _ (all : AllBytes s) where
    -- none of the first n bytes ends a field, by the test of their number
    plain_from : (n k : ℕ) → plain n (word_at n) ≡ true → k < n → ends (get_or s (i + k) 0) ≡ false
    unfolding word_at
    plain_from zero k e l = absurd (omega arith)
    plain_from (suc n) k e l =
        let parts = plain_parts n (word_at n) (get_or s (i + n) 0) (all (i + n)) e in
        go (ℕ_discrete k n) parts.0 (plain_from n k parts.1)
      where
        go : Dec (k ≡ n) → ends (get_or s (i + n) 0) ≡ false → (k < n → ends (get_or s (i + k) 0) ≡ false)
            → ends (get_or s (i + k) 0) ≡ false
        go (yes q) e r = rw q e
        go (no q) e r = r (omega arith)

    code_byte : row_of_code (code_at s i) < row_count → (k : ℕ) → k < 4 → ends (get_or s (i + k) 0) ≡ false
    code_byte known k l = plain_from 4 k (rw word_is (code_plain (code_at s i) known)) l

    -- before the last one they make a number of three bytes at most
    word_small : (n : ℕ) → n < 4 → word_at n < 16777216
    unfolding word_at
    word_small zero l = omega arith
    word_small (suc zero) l = omega (arith, all (i + 0))
    word_small (suc (suc zero)) l = omega (arith, all (i + 0), all (i + 1))
    word_small (suc (suc (suc zero))) l = omega (arith, all (i + 0), all (i + 1), all (i + 2))
    word_small (suc (suc (suc (suc n)))) l = absurd (omega arith)

-- four bytes as one number, the first highest
pub code_bytes : (s : List ℕ) (i : ℕ)
    → from_be_bytes w32 (get_or s (i + 1) 0 ∷ get_or s (i + 2) 0 ∷ get_or s (i + 3) 0 ∷ get_or s (i + 4) 0 ∷ []) ≡ code_at s (i + 1)
code_bytes s i =
    let second : i + 1 + 1 ≡ i + 2 = omega arith in
    let third : i + 1 + 2 ≡ i + 3 = omega arith in
    let fourth : i + 1 + 3 ≡ i + 4 = omega arith in
    rw (second, third, fourth) (omega arith)

-- what is asked of a number that may be none
pub if_some : (P : ℕ → Type 0) (z n : ℕ) → ((n ≡ z → ⊥) → P n) → IfSome (some_but z n) P
if_some P z n p = go (eqb n z) refl
  where
    go : (t : Bool) → eqb n z ≡ t → IfSome (pick t None (Some n)) P
    go true e = tt
    go false e = p (eqb-false n z e)

-- the place after the head of a line of row r
abbrev pub past_head : Place → ℕ → Place
past_head p r =
    record { at = p.at + 6; lines = p.lines; last = p.last; since = p.since; says = 0; row = r; index = row_start r + 1 }

-- From the place p, at a line's start, over its head; `before` bytes have come in the pieces before.
module _ (s : List ℕ) (p : Place) (before : ℕ) where
  -- the state after the bar and n bytes of the code
  abbrev in_code : ℕ → Hot
  in_code n =
      record {
        lines = p.lines;
        bytes = before + p.at + 1 + n;
        last = p.last;
        since = p.since;
        says = p.says;
        bars = 1;
        row = none;
        fields = code_only;
        kind = code_kind;
        field = record { length = n; wrong = 0; value = word_at s (p.at + 1) n };
      }

  module _ (t : Tally) (room : before + p.at + 6 ≤ byte_limit) where
    start_step : eqb p.last row9999 ≡ false → step_with (line_start p (before + p.at)) t bar ≡ Next (in_code 0)
    unfolding step_of start_of word_at
    start_step going = rw (lt-leb byte_limit (before + p.at) (omega arith), going, add-zero)

    code_step : (n : ℕ) → n < 4 → ends (get_or s (p.at + 1 + n) 0) ≡ false → word_at s (p.at + 1) n < 16777216
        → step_with (in_code n) t (get_or s (p.at + 1 + n) 0) ≡ Next (in_code (suc n))
    unfolding step_of in_field_of with_byte word_at
    code_step n l e small =
        let b = get_or s (p.at + 1 + n) 0 in
        let at = before + p.at + 1 in
        let below = lt-leb byte_limit (at + n) (omega arith) in
        rw (below, no_bar b e, no_control b e, mod-eq_of_lt small, add-one n, add-one (at + n), add-suc at n)

    end_step : (r : ℕ) → row_of_code (code_at s (p.at + 1)) ≡ r → Follows t p.last p.says r
        → step_with (in_code 4) t bar ≡ Next (field_start (past_head p r) (before + (p.at + 6)))
    unfolding step_of in_field_of bar_of code_bar_of word_row
    end_step r is f =
        let known = silent_row r f.silent in
        let below = lt-leb byte_limit (before + p.at + 1 + 4) (omega arith) in
        let at : before + p.at + 1 + 4 + 1 ≡ before + (p.at + 6) = omega arith in
        let second : row_start r + 1 - row_start r + 1 ≡ 2 = omega arith in
        rw (below, word_is, is, ne_eqb r none (λ e. omega arith), f.stands, f.placed, f.room, at, second)

    module _ (all : AllBytes s) (within : p.at + 6 ≤ length s) where
      byte_passes : {h n : Hot} (i j : ℕ) → i < length s → j ≡ suc i → eqb (get_or s i 0) LF ≡ false
          → step_with h t (get_or s i 0) ≡ Next n → Passes h t (drop i s) n t (drop j s)
      byte_passes {h} {n} i j l next other e =
          rw (drop-cons s i 0 l, next) (passes_byte h n t (get_or s i 0) other e here)

      code_passes : row_of_code (code_at s (p.at + 1)) < row_count → (n : ℕ) → n ≤ 4
          → Passes (in_code 0) t (drop (p.at + 1) s) (in_code n) t (drop (p.at + 1 + n) s)
      code_passes known zero l = rw (add-zero (p.at + 1)) here
      code_passes known (suc n) l =
          let i = p.at + 1 in
          let e = code_byte s i all known n l in
          passes_join (code_passes known n (omega arith))
          (byte_passes (i + n) (i + suc n) (omega arith) (add-suc i n) (no_end _ e) (code_step n l e (word_small s i all n l)))

      head_passes : p.row ≡ none → eqb p.last row9999 ≡ false → (r : ℕ)
          → Follows t p.last p.says r
          → get_or s p.at 0 ≡ bar → row_of_code (code_at s (p.at + 1)) ≡ r → get_or s (p.at + 5) 0 ≡ bar
          → PassesTo s before p t (past_head p r) t
      head_passes start going r f opens is closes =
          let known = silent_row r f.silent in
          let fifth : p.at + 1 + 4 ≡ p.at + 5 = omega arith in
          rw (at_line p (before + p.at) start, at_field (past_head p r) (before + (p.at + 6)) known)
          (passes_join (byte_passes p.at (p.at + 1) (omega arith) (omega arith) (rw opens) (rw opens (start_step going)))
          (passes_join (code_passes (rw is known) 4 (omega arith))
          (rw fifth
          (byte_passes (p.at + 5) (p.at + 6) (omega arith) (omega arith) (rw closes) (rw closes (end_step r is f))))))

-- inside a line no head is passed
pub stays : (s : List ℕ) (t : Tally) (p : Place) → Placed p → p.row < row_count → Headed s t p p
stays s t p placed inside =
    record { placed = placed; inside = inside; on = omega arith; near = omega arith; passes = λ before room. here }

pub over_head : (s : List ℕ) (t : Tally) (p : Place) → Placed p → AllBytes s → p.at + 6 ≤ length s → p.row ≡ none
    → (r : ℕ) → Follows t p.last p.says r
    → get_or s p.at 0 ≡ bar → row_of_code (code_at s (p.at + 1)) ≡ r → get_or s (p.at + 5) 0 ≡ bar
    → Headed s t p (past_head p r)
over_head s t p placed all within start r f opens is closes =
    let known = silent_row r f.silent in
    let two = fields_two r known in
    record {
      placed =
          record {
            row = omega arith;
            going = λ e. absurd (omega arith);
            silent = λ l. f.silent;
            from = λ l. omega arith;
            to = λ l. omega arith;
          };
      inside = known;
      on = omega arith;
      near = omega arith;
      passes = λ before room. head_passes s p before t room all within start (placed.going start) r f opens is closes;
    }
