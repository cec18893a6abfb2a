-- The loop over a piece: the bytes before the place have passed, turn by turn.
use mathlib.Core.Path.{◌≡◌, ◌∙◌, refl, sym}
use mathlib.Core.List.{List, [], ◌∷◌}
use Prim.Native.Nat.{ℕ, ◌+◌, ◌-◌, ◌<◌, ◌≤◌}
use native.Mathlib.Omega.{arith}
use native.Mathlib.Numerals.{add-one}
use lib.ListN.{length, get_or, drop}
use lib.Seq.{drop-cons, drop-length}
use Rattle.rules.specs.Bytes.{AllBytes}
use Rattle.line.specs.Machine.{Step, Next, Broken}
use Rattle.line.specs.declared.hot.Hot.{Hot}
use Rattle.line.specs.declared.tally.Tally.{Tally}
use Rattle.line.specs.Tally.{Held, tally_of, tally_with, step_with, kept_after}
use Rattle.line.proofs.HeldLaws.{bytes_next, held_next}
use Rattle.run.specs.Places.{Passes, Stops, Onward}
use Rattle.run.specs.Places.Passes.{here, byte}
use Rattle.run.proofs.PassLaws.{bytes_from, passes_held, passes_join}

-- The loop's invariant: what is left of the piece follows on bytes that passed.
pub record Passed (p : List ℕ) (h₀ : Hot) (t₀ : Tally) (h : Hot) (t : Tally) (i : ℕ) : Type 0 where
  pub passes : Passes h₀ t₀ p h t (drop i p)
  pub within : i ≤ length p
  pub bytes : h.bytes ≡ h₀.bytes + i
  pub held : Held h t

pub passed_start : (p : List ℕ) (h : Hot) (t : Tally) → Held h t → Passed p h t h t 0
passed_start p h t d = record { passes = here; within = omega arith; bytes = omega arith; held = d }

module _ {p : List ℕ} {h₀ : Hot} {t₀ : Tally} {h : Hot} {t : Tally} {i : ℕ} (g : Passed p h₀ t₀ h t i) where
  -- all bytes have passed
  pub passed_end : length p ≤ i → Passes h₀ t₀ p h t []
  passed_end l = let e : i ≡ length p = omega (arith, g.within) in rw (e, drop-length) at g.passes

  -- the step at the next byte, and what is kept after it
  module _ (l : i < length p) (u : Tally) (kept : u ≡ kept_after (step_with h t (get_or p i 0)) h (get_or p i 0) t) where
    pub passed_stop : (rule field : ℕ) → Broken rule field ≡ step_with h t (get_or p i 0) → Stops h₀ t₀ p rule field h u
    passed_stop rule field e =
        let same : u ≡ t = kept ∙ rw (← e) in
        record {
          byte = get_or p i 0;
          rest = drop (i + 1) p;
          passes = rw same (rw (add-one i) (rw (drop-cons p i 0 l) at g.passes));
          broken = rw same (sym e);
        }

    pub passed_next : get_or p i 0 < 256 → (n : Hot) → Next n ≡ step_with h t (get_or p i 0) → Passed p h₀ t₀ n u (i + 1)
    passed_next small n e =
        let step = sym e in
        let same : u ≡ tally_with h n.lines (get_or p i 0) t = kept ∙ rw (← e) in
        let one : Passes h t (drop i p) n u (drop (i + 1) p) =
        rw (drop-cons p i 0 l, add-one, same) (byte step here) in
        record {
          passes = passes_join g.passes one;
          within = omega arith;
          bytes = omega (arith, bytes_next h n t (get_or p i 0) g.held small step, g.bytes);
          held = rw same (held_next h n t (get_or p i 0) g.held small step);
        }

  -- whole lines and fields at once
  pub passed_on : {r : Hot} {u : Tally} → AllBytes p → Onward p (h.bytes - i) i h t r u → Passed p h₀ t₀ r u (r.bytes - h₀.bytes)
  passed_on {r} {u} all o =
      let start : h.bytes - i ≡ h₀.bytes = omega (arith, g.bytes) in
      let led = rw start at o.passes in
      record {
        passes = passes_join g.passes led;
        within = omega (arith, start, o.within);
        bytes = omega (arith, start, o.on);
        held = passes_held led (bytes_from p all i) g.held;
      }

-- what is stated and the pairs have no part in the ranges of the others
pub held_rows : (h : Hot) (cs ss os bs ds ps : List ℕ) → Held h (tally_of cs ss os bs ds ps) → Held h (tally_of cs ss os bs [] [])
held_rows h cs ss os bs ds ps d =
    let f = d.tally in
    record {
      fit = d.fit;
      within_limit = d.within_limit;
      tally =
          record {
            each_row = f.each_row;
            each_block = f.each_block;
            stamps = f.stamps;
            occurrences = f.occurrences;
            stated = λ k l. omega arith;
            totals = f.totals;
            add_up = f.add_up;
          };
    }
