-- Bytes that are all accepted, one by one: the ranges hold where they lead.
use mathlib.Core.Path.{◌≡◌, refl}
use mathlib.Core.Bool.{false}
use mathlib.Core.List.{List, ◌∷◌}
use Prim.Native.Nat.{ℕ, suc, ◌+◌}
use native.Mathlib.Omega.{arith}
use lib.Dec.{eqb, ltb}
use lib.ListN.{drop}
use lib.Seq.{get_or-drop}
use borrow.Author.Tests.{ne_eqb, ltb-false}
use Rattle.rules.specs.Bytes.{bar, LF}
use Rattle.std.proofs.lemmas.Bool.{or_parts}
use Rattle.whole.specs.Whole.{ends}
use Rattle.line.specs.declared.hot.Hot.{Hot}
use Rattle.line.specs.Machine.{Next}
use Rattle.line.specs.Tally.{Held}
use Rattle.line.specs.declared.tally.Tally.{Tally}
use Rattle.line.specs.Tally.{counts_with, stamps_with, occurrences_with, totals_with, stated_with, pairs_with, tally_with, step_with}
use Rattle.rules.specs.Bytes.{AllBytes}
use Rattle.run.specs.Places.{Passes}
use Rattle.run.specs.Places.Passes.{here, byte}
use Rattle.line.proofs.HeldLaws.{held_next}

pub bytes_from : (s : List ℕ) → AllBytes s → (i : ℕ) → AllBytes (drop i s)
bytes_from s all i k = rw (get_or-drop i s k 0) (all (i + k))

pub passes_held : {h h' : Hot} {t t' : Tally} {xs ys : List ℕ} → Passes h t xs h' t' ys → AllBytes xs → Held h t → Held h' t'
passes_held here all d = d
passes_held (byte {h} {n} {h'} {t} {t'} {b} e p) all d =
    passes_held p (λ k. all (suc k)) (held_next h n t b d (all 0) e)

pub passes_join : {h g k : Hot} {t u v : Tally} {xs ys zs : List ℕ}
    → Passes h t xs g u ys → Passes g u ys k v zs → Passes h t xs k v zs
passes_join here q = q
passes_join (byte e p) q = byte e (passes_join p q)

-- a byte that ends no field
module _ (b : ℕ) (e : ends b ≡ false) where
  pub no_control : ltb b 32 ≡ false
  unfolding ends
  no_control = (or_parts (ltb b 32) (eqb b bar) e).0

  pub no_bar : eqb b bar ≡ false
  unfolding ends
  no_bar = (or_parts (ltb b 32) (eqb b bar) e).1

  pub no_end : eqb b LF ≡ false
  no_end = ne_eqb b LF (λ q. omega (arith, ltb-false b 32 no_control))

-- a byte that is no LF leaves what is kept
module _ (h n : Hot) (t : Tally) (b : ℕ) (other : eqb b LF ≡ false) where
  tally_stays : tally_with h n.lines b t ≡ t
  unfolding counts_with stamps_with occurrences_with totals_with stated_with pairs_with
  tally_stays = rw other

  pub passes_byte : {h' : Hot} {t' : Tally} {xs ys : List ℕ} → step_with h t b ≡ Next n → Passes n t xs h' t' ys
      → Passes h t (b ∷ xs) h' t' ys
  passes_byte {h'} {t'} {xs} {ys} e p = byte {h = h} {n = n} {h' = h'} {t = t} {t' = t'} {b = b} {xs = xs} {ys = ys} e (rw tally_stays p)
