-- What a piece comes to keeps all within the ranges.
use mathlib.Core.Path.{◌≡◌, ◌∙◌, refl}
use mathlib.Core.Bool.{true}
use mathlib.Core.List.{List, [], ◌∷◌}
use Prim.Native.Nat.{ℕ, suc, ◌+◌, ◌-◌, ◌≤◌}
use native.Mathlib.Omega.{arith}
use lib.ListN.{length, drop}
use Rattle.line.specs.Machine.{most_bars}
use Rattle.line.specs.Tally.{tally_with, on_step, step_with}
use Rattle.state.specs.Piece.{open_of, stopped_of, run_of}
use Rattle.rules.specs.Numbers.{is_rule}
use Rattle.line.specs.Tally.{Held}
use Rattle.rules.specs.Bytes.{AllBytes}
use Rattle.line.specs.declared.hot.Hot.{Hot}
use Rattle.line.specs.Machine.{Step, Next, Broken}
use Rattle.line.specs.declared.tally.Tally.{Tally}
use Rattle.state.specs.declared.answers.Checked.{Checked}
use Rattle.line.proofs.StepRanges.{Leads, stops, step_leads}
use Rattle.line.proofs.HeldLaws.{held_next}
use Rattle.run.specs.Places.{Passes, Stops, Onward}
use Rattle.run.proofs.LoopLaws.{Passed}
use Rattle.run.proofs.PassLaws.{bytes_from, passes_held}
use Rattle.run.specs.Places.Passes.{here, byte}

-- What a piece comes to: nothing is refused so far, or a byte has broken a rule; all within the ranges.
pub data Comes : Checked → Type 0 where
  opens : (h : Hot) (t : Tally) → Held h t → Comes (open_of h t)
  stops_by : (h : Hot) (t : Tally) (rule field : ℕ) → Held h t → is_rule rule ≡ true → field ≤ most_bars
      → Comes (stopped_of h t rule field)

pub run_comes : (piece : List ℕ) → AllBytes piece → (h : Hot) (t : Tally) → Held h t → Comes (run_of h t piece)
unfolding run_of
run_comes [] all h t d = opens h t d
run_comes (b ∷ piece) all h t d =
    go (step_with h t b) refl (step_leads h d.fit t.stamps t.occurrences _ b (all 0))
    (λ n e. run_comes piece (λ k. all (suc k)) n (tally_with h n.lines b t) (held_next h n t b d (all 0) e))
  where
    go : (s : Step) → step_with h t b ≡ s → Leads h s
        → ((n : Hot) → step_with h t b ≡ Next n → Comes (run_of n (tally_with h n.lines b t) piece))
        → Comes (on_step s (λ n. run_of n (tally_with h n.lines b t) piece) (stopped_of h t))
    go (Next n) e l ih = ih n e
    go (Broken r f) e (stops is named) ih = stops_by h t r f d is named

-- Over bytes that are all accepted: the run over them is the run from where they lead.
pub passes_run : {h h' : Hot} {t t' : Tally} {xs ys : List ℕ} → Passes h t xs h' t' ys → run_of h t xs ≡ run_of h' t' ys
unfolding run_of
passes_run here = refl
passes_run (byte e p) = rw e (passes_run p)

-- what the bytes come to: all have passed, or one has broken a rule
pub run_all : {h h' : Hot} {t t' : Tally} {xs : List ℕ} → Passes h t xs h' t' [] → run_of h t xs ≡ open_of h' t'
unfolding run_of
run_all p = passes_run p

pub run_stops : {h h' : Hot} {t t' : Tally} {xs : List ℕ} {rule field : ℕ} → Stops h t xs rule field h' t'
    → run_of h t xs ≡ stopped_of h' t' rule field
unfolding run_of
run_stops s = passes_run s.passes ∙ rw s.broken

-- The run from the start of a piece is the run from here over what is left of it: so it is at each turn of the loop (`Passed` is its
-- invariant), and so it stays over whole lines and fields.
pub record Going (p : List ℕ) (h₀ : Hot) (t₀ : Tally) (h : Hot) (t : Tally) (i : ℕ) : Type 0 where
  pub runs : run_of h₀ t₀ p ≡ run_of h t (drop i p)
  pub within : i ≤ length p
  pub bytes : h.bytes ≡ h₀.bytes + i
  pub held : Held h t

pub going_passed : {p : List ℕ} {h₀ : Hot} {t₀ : Tally} {h : Hot} {t : Tally} {i : ℕ} → Passed p h₀ t₀ h t i → Going p h₀ t₀ h t i
going_passed g = record { runs = passes_run g.passes; within = g.within; bytes = g.bytes; held = g.held }

pub going_start : (p : List ℕ) (h : Hot) (t : Tally) → Held h t → Going p h t h t 0
going_start p h t d = record { runs = refl; within = omega arith; bytes = omega arith; held = d }

pub going_on : {p : List ℕ} {h₀ : Hot} {t₀ : Tally} {h r : Hot} {t u : Tally} {i : ℕ} → Going p h₀ t₀ h t i → AllBytes p
    → Onward p (h.bytes - i) i h t r u → Going p h₀ t₀ r u (r.bytes - h₀.bytes)
going_on {p} {h₀} {t₀} {h} {r} {t} {u} {i} g all o =
    let start : h.bytes - i ≡ h₀.bytes = omega (arith, g.bytes) in
    let led = rw start at o.passes in
    record {
      runs = g.runs ∙ passes_run led;
      within = omega (arith, start, o.within);
      bytes = omega (arith, start, o.on);
      held = passes_held led (bytes_from p all i) g.held;
    }
