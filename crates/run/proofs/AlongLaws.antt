-- Over whole lines and fields: what leads on from a place keeps what `Along` says, whether a head, fields or a line's end.
use mathlib.Core.Path.{◌≡◌, refl}
use mathlib.Core.List.{List}
use Prim.Native.Nat.{ℕ, ◌+◌, ◌-◌, ◌≤◌, ◌<◌}
use native.Mathlib.Omega.{arith}
use native.Mathlib.Nat.{min-le_left, min-le_right}
use lib.Dec.{eqb}
use lib.ListN.{length}
use Rattle.layout.specs.Rows.{row_count, none}
use Rattle.rules.specs.Rules.{byte_limit}
use Rattle.rules.proofs.TestLaws.{split}
use Rattle.whole.specs.Whole.{longest, margin}
use Rattle.line.specs.Machine.{HotFit}
use Rattle.line.specs.declared.hot.Hot.{Hot}
use Rattle.line.specs.Tally.{Held}
use Rattle.line.specs.declared.tally.Tally.{Tally}
use Rattle.run.specs.declared.place.Place.{Place}
use Rattle.rules.specs.Bytes.{AllBytes}
use Rattle.run.specs.Places.{hot_at, Placed, place_of, Begins, PassesTo, Headed, Fielded, EndsHere}
use Rattle.run.specs.Places.{next_line, counted_with, safe_of, Along, Onward}
use Rattle.run.specs.Places.Passes.{here}
use Rattle.run.proofs.PassLaws.{bytes_from, passes_join, passes_held}
use Rattle.run.proofs.PlaceLaws.{silent_9999, place_bytes}
use Rattle.run.proofs.EndPasses.{end_passes}

-- fields are looked for well before the end of the piece, and of the byte limit
pub safe_length : (before n : ℕ) → safe_of before n ≤ n - margin
unfolding safe_of
safe_length before n = omega (arith, min-le_left n (byte_limit - before))

pub safe_limit : (before n : ℕ) → safe_of before n ≤ byte_limit - before - margin
unfolding safe_of
safe_limit before n = omega (arith, min-le_right n (byte_limit - before))

-- the numbers of a place are in range where its state is
pub record PlaceFit (p : Place) (bytes : ℕ) : Type 0 where
  pub last : p.last ≤ row_count
  pub lines : p.lines ≤ bytes
  pub since : p.since ≤ bytes

pub place_fit : (p : Place) (bytes : ℕ) → HotFit (hot_at p bytes) → PlaceFit p bytes
unfolding hot_at
place_fit p bytes f =
    split (eqb p.row none)
    (λ e. let g = rw e at f in record { last = g.last; lines = g.lines; since = g.since })
    (λ e. let g = rw e at f in record { last = g.last; lines = g.lines; since = g.since })

pub place_within : (p : Place) (bytes : ℕ) {t : Tally} → Held (hot_at p bytes) t → bytes ≤ byte_limit
place_within p bytes d = omega (arith, d.within_limit, place_bytes p bytes)

module _ {s : List ℕ} {before : ℕ} {p : Place} {t : Tally} {q : Place} {u : Tally} (all : AllBytes s)
    (a : Along s before p t q u) where
  along_on : {r : Place} {v : Tally} → Placed r → q.at ≤ r.at → r.at ≤ length s → PassesTo s before q u r v
      → Along s before p t r v
  along_on placed on within passes =
      record {
        placed = placed;
        on = omega (arith, a.on);
        within = within;
        held = passes_held passes (bytes_from s all q.at) a.held;
        passes = passes_join a.passes passes;
      }

  along_head : {r : Place} → q.at < safe_of before (length s) → Headed s u q r → Along s before p t r u
  along_head l h =
      let fits = safe_length before (length s) in
      let limit = safe_limit before (length s) in
      along_on h.placed h.on (omega (arith, h.near)) (h.passes before (omega arith))

  along_fields : {r : Place} → 0 < safe_of before (length s) → Fielded s (safe_of before (length s)) q r
      → Along s before p t r u
  along_fields l f =
      let fits = safe_length before (length s) in
      along_on f.placed f.on (omega (arith, f.near)) (f.passes before _ (safe_limit before (length s)))

  pub along_end : {safe : ℕ} → safe ≡ safe_of before (length s) → 0 < safe → q.at < safe + longest → q.row < row_count → EndsHere s q
      → Along s before p t (next_line q) (counted_with u q.row (q.lines + 1))
  along_end is l near row ends =
      let fits = safe_length before (length s) in
      let limit = safe_limit before (length s) in
      let silent = a.placed.silent row in
      along_on
      record {
        row = omega arith;
        going = λ e. silent_9999 q.row silent;
        silent = λ r. absurd (omega arith);
        from = λ r. absurd (omega arith);
        to = λ r. absurd (omega arith);
      }
      (omega arith)
      (omega arith)
      (end_passes s q row silent ends (omega arith) before (omega arith) u)

-- over the head of a line, if the place is at one, and over its fields
pub along_line : {s : List ℕ} {before : ℕ} {p : Place} {t : Tally} {q : Place} {u : Tally} {r f : Place} {safe : ℕ}
    → Along s before p t q u → AllBytes s → safe ≡ safe_of before (length s) → q.at < safe → Headed s u q r → Fielded s safe r f
    → Along s before p t f u
along_line a all is l h fields =
    let near = rw is at l in along_fields all (along_head all a near h) (omega (arith, near)) (rw is at fields)

-- The whole way from a state: it starts at the state's place, if it is at one, and ends at a place's state.
module _ (s : List ℕ) (i : ℕ) (h : Hot) (within : i ≤ length s) (known : i ≤ h.bytes) (t : Tally) where
  pub onward_none : Onward s (h.bytes - i) i h t h t
  onward_none =
      let here_again : h.bytes - (h.bytes - i) ≡ i = omega arith in
      record { on = omega arith; within = omega arith; passes = rw here_again here }

  module _ (b : Begins h) where
    here_is : hot_at (place_of h i) (h.bytes - i + i) ≡ h
    here_is = let bytes : h.bytes - i + i ≡ h.bytes = omega arith in rw bytes (b.same i)

    pub along_start : Held h t → Along s (h.bytes - i) (place_of h i) t (place_of h i) t
    along_start d =
        record { placed = b.placed i; on = omega arith; within = within; held = rw here_is d; passes = here }

    pub onward_along : {r : Place} {u : Tally} → Along s (h.bytes - i) (place_of h i) t r u
        → Onward s (h.bytes - i) i h t (hot_at r (h.bytes - i + r.at)) u
    onward_along {r} a =
        let bytes = place_bytes r (h.bytes - i + r.at) in
        let there : (hot_at r (h.bytes - i + r.at)).bytes - (h.bytes - i) ≡ r.at = omega (arith, bytes) in
        record {
          on = omega (arith, bytes, a.on);
          within = omega (arith, bytes, a.within);
          passes = rw there (rw here_is at a.passes);
        }
