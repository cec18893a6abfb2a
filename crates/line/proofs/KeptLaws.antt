-- What is noted of a byte: one that ends no line is not.
use mathlib.Core.Path.{◌≡◌, ◌∙◌, sym}
use Prim.Native.Nat.{ℕ, ◌+◌}
use native.Mathlib.Omega.{arith}
use lib.Dec.{eqb}
use borrow.Author.Tests.{ne_eqb, eqb-true}
use Rattle.layout.specs.Rows.{row9999}
use Rattle.rules.specs.Bytes.{bar, LF}
use Rattle.rules.proofs.TestLaws.{split}
use Rattle.line.specs.Machine.{HotFit, Next, start_of}
use Rattle.line.specs.Tally.{counts_with, stamps_with, occurrences_with, totals_with, stated_with, pairs_with, tally_with}
use Rattle.line.specs.Tally.{step_with, kept_after}
use Rattle.line.proofs.StepLines.{lf_lines}
use Rattle.line.specs.declared.hot.Hot.{Hot}
use Rattle.line.specs.declared.tally.Tally.{Tally}

pub kept_other : (h : Hot) (n b : ℕ) (t : Tally) → (b ≡ LF → ⊥) → tally_with h n b t ≡ t
unfolding counts_with stamps_with occurrences_with totals_with stated_with pairs_with
kept_other h n b t other = rw (ne_eqb b LF other)

-- so a line's first byte is not, wherever the line stands and also where it breaks a rule
pub kept_start : (h : Hot) (b : ℕ) (t : Tally) → kept_after (start_of h b) h b t ≡ t
unfolding start_of
kept_start h b t =
    split (eqb h.last row9999) (λ l. rw l)
    (λ l. rw l
    (split (eqb b bar) (λ e. rw e (let is = eqb-true b bar e in kept_other h h.lines b t (λ lf. omega arith))) (λ e. rw e)))

-- What is kept after a step that goes on: at LF what the end of the line makes of it, and after any other byte the same.
module _ (h n : Hot) (t : Tally) (b : ℕ) (e : Next n ≡ step_with h t b) where
  pub kept_lf : HotFit h → b ≡ LF → (u : Tally) → u ≡ tally_with h (h.lines + 1) LF t → u ≡ kept_after (step_with h t b) h b t
  kept_lf f p u is =
      let lines = (lf_lines h t.stamps t.occurrences _ b n (sym e) f p).0 in
      is ∙ rw (← e, lines, p)

  pub kept_else : (b ≡ LF → ⊥) → t ≡ kept_after (step_with h t b) h b t
  kept_else other = rw (← e) (sym (kept_other h n.lines b t other))
