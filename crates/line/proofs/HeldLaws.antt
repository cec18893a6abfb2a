-- A step that goes on keeps all within the ranges.
use mathlib.Core.Path.{◌≡◌, subst}
use Prim.Native.Nat.{ℕ, ◌+◌, ◌<◌}
use native.Mathlib.Omega.{arith}
use Rattle.rules.specs.Rules.{byte_limit}
use Rattle.line.specs.Machine.{Below, HotFit, Step, Next}
use Rattle.line.specs.Tally.{tally_with, step_with, Held}
use Rattle.line.specs.declared.hot.Hot.{Hot}
use Rattle.line.specs.declared.tally.Tally.{Tally}
use Rattle.line.proofs.StepRanges.{Leads, goes, stops, step_leads}
use Rattle.line.proofs.StepLines.{lf_lines, other_lines}
use Rattle.line.proofs.TallyRanges.{tally_next, total_le, count_le}

module _ (h n : Hot) (t : Tally) (b : ℕ) (d : Held h t) where
  led : (s : Step) → Leads h s → s ≡ Next n → HotFit n × (n.bytes ≡ h.bytes + 1) × (h.bytes < byte_limit)
  led s (goes {n = k} f e l) p =
      let q : k ≡ n = cc in
      subst (λ m. HotFit m × (m.bytes ≡ h.bytes + 1) × (h.bytes < byte_limit)) q (f, e, l)
  led s (stops is named) p = absurd (let z : ◌≡◌ {A = ℕ} 0 1 = cc in omega arith)

  pub bytes_next : b < 256 → step_with h t b ≡ Next n → n.bytes ≡ h.bytes + 1
  bytes_next byte e = (led (step_with h t b) (step_leads h d.fit t.stamps t.occurrences _ b byte) e).1

  pub held_next : b < 256 → step_with h t b ≡ Next n → Held n (tally_with h n.lines b t)
  held_next byte e =
      let s = led (step_with h t b) (step_leads h d.fit t.stamps t.occurrences _ b byte) e in
      record {
        fit = s.0;
        within_limit = omega (arith, s.1, s.2);
        tally =
            rw s.1
            (tally_next h n.lines b t h.lines h.bytes d.tally (omega (arith, s.0.lines, s.1)) d.fit.says
            (λ p. lf_lines h t.stamps t.occurrences _ b n e d.fit p)
            (λ p. other_lines h t.stamps t.occurrences _ b n e p));
      }

-- what is kept of each row and of each block is small
pub held_small : (h : Hot) (t : Tally) → Held h t
    → Below (byte_limit + 1) t.counts × Below (byte_limit + 1) t.occurrences × Below (byte_limit + 1) t.totals
held_small h t d =
    let bytes = d.fit.bytes in
    let counts = count_le t h.lines h.bytes d.tally d.fit.lines in
    let totals = total_le t h.lines h.bytes d.tally d.fit.lines in (
      λ k l. omega (arith, counts k l),
      λ k l. omega (arith, d.tally.occurrences k l),
      λ k l. omega (arith, totals k l),
    )
