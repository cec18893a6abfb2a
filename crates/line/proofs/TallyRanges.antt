-- What is kept for each row and each block stays within the ranges: a line sets the entries at its row and at its block, and other
-- bytes set none.
use mathlib.Core.Path.{◌≡◌, ◌∙◌, refl, sym}
use mathlib.Core.Bool.{Bool, true, false, ◌&&◌}
use mathlib.Core.List.{List, [], ◌∷◌}
use Prim.Native.Nat.{ℕ, zero, suc, ◌+◌, ◌*◌, ◌/◌, ◌%◌, ◌≤◌, ◌<◌}
use native.Mathlib.Nat.{div-lt_iff_lt-mul}
use native.Mathlib.Omega.{arith}
use native.Mathlib.Numerals.{add-one}
use native.Mathlib.Decide.{ℕ_discrete}
use lib.Dec.{eqb, ltb}
use lib.ListN.{length, get_or, set, length-set}
use lib.Seq.{get_or-set_same, get_or-set_other}
use borrow.Author.Tests.{lt-ltb, ltb-true, eqb-true, eq-eqb, ne_eqb}
use Rattle.layout.specs.Pick.{pick}
use Rattle.layout.specs.Rows.{row_count, row9900, parent, block, blocks}
use Rattle.layout.proofs.StartLaws.{block_below}
use Rattle.rules.specs.Bytes.{LF}
use Rattle.rules.specs.Totals.{block_count}
use Rattle.rules.proofs.TestLaws.{split, pick_le}
use Rattle.rules.proofs.CountLaws.{sum_set, sum_most, block_set, block_most}
use Rattle.line.specs.Machine.{Below, entry_of, used_of, number_unit, untrue, most_says, joined_of}
use Rattle.line.proofs.StatementLaws.{entry_most}
use Rattle.line.specs.Tally.{set_of, counts_with, stamps_with, occurrences_with, raised_of, totals_with, stated_of, stated_with}
use Rattle.line.specs.Tally.{tally_with}
use Rattle.line.specs.Tally.{TallyFit}
use Rattle.line.specs.declared.hot.Hot.{Hot}
use Rattle.line.specs.declared.tally.Tally.{Tally}

pub used_le : (m r : ℕ) (ss os : List ℕ) → Below m os → used_of ss os r ≤ m
unfolding used_of
used_le m r ss os b = pick_le (ltb (entry_of ss (parent r)) (entry_of ss r)) (entry_of os r) 0 m (entry_most m os b r) (omega arith)

set_le : (xs : List ℕ) (r v m k : ℕ) → k ≡ r → get_or xs k 0 ≤ m → v ≤ m → get_or (set xs r v) k 0 ≤ m
set_le [] r v m k e p le = p
set_le (x ∷ xs) zero v m zero e p le = le
set_le (x ∷ xs) zero v m (suc k) e p le = p
set_le (x ∷ xs) (suc r) v m zero e p le = p
set_le (x ∷ xs) (suc r) v m (suc k) e p le = set_le xs r v m k (omega arith) p le

below_set : (m r v : ℕ) (xs : List ℕ) → Below m xs → v ≤ m → Below m (set_of xs r v)
unfolding set_of
below_set m r v xs b le k h = go (ltb r row_count)
  where
    at : Dec (k ≡ r) → get_or (set xs r v) k 0 ≤ m
    at (yes p) = set_le xs r v m k p (b k h) le
    at (no p) = rw (get_or-set_other xs r k v 0 p) (b k h)

    go : (t : Bool) → get_or (pick t (set xs r v) xs) k 0 ≤ m
    go true = at (ℕ_discrete k r)
    go false = b k h

-- an array that is set, by a value within the next bound, where a test holds
below_next : (m r v : ℕ) (t : Bool) (xs : List ℕ) → Below m xs → v ≤ m + 1 → Below (m + 1) (pick t (set_of xs r v) xs)
below_next m r v t xs b le = go t
  where
    more : Below (m + 1) xs
    more k h = omega (arith, b k h)

    go : (t : Bool) → Below (m + 1) (pick t (set_of xs r v) xs)
    go true = below_set (m + 1) r v xs more le
    go false = more

-- What is stated stays a number or one that can't be true.
joined_most : (old new : ℕ) → old ≤ untrue → new ≤ untrue → joined_of old new ≤ untrue
unfolding joined_of
joined_most old new p q =
    pick_le (eqb old 0) new (pick (eqb old new) old untrue) untrue q (pick_le (eqb old new) old untrue untrue p (omega arith))

module _ (h : Hot) (b : ℕ) (stated : List ℕ) (said : h.says ≤ most_says) where
  new_most : h.says / number_unit ≤ untrue
  new_most =
      let below : h.says < (untrue + 1) * number_unit = omega arith in
      let less : h.says / number_unit < untrue + 1 =
      (div-lt_iff_lt-mul {k = number_unit} {x = h.says} {y = untrue + 1} (omega arith)).1 below
      in
      omega arith

  pub stated_most : ((k : ℕ) → k < suc row_count → get_or stated k 0 ≤ untrue)
      → (k : ℕ) → k < suc row_count → get_or (stated_with h b stated) k 0 ≤ untrue
  unfolding stated_with stated_of
  stated_most most k l = go (eqb b LF && eqb h.row row9900) (ltb row (suc row_count)) refl
    where
      row : ℕ
      row = h.says % number_unit

      new : ℕ
      new = joined_of (get_or stated row 0) (h.says / number_unit)

      at : row < suc row_count → Dec (k ≡ row) → get_or (set stated row new) k 0 ≤ untrue
      at r (yes p) = set_le stated row new untrue k p (most k l) (joined_most _ _ (most row r) new_most)
      at r (no p) = rw (get_or-set_other stated row k new 0 p) (most k l)

      go : (t u : Bool) → ltb row (suc row_count) ≡ u → get_or (pick t (pick u (set stated row new) stated) stated) k 0 ≤ untrue
      go true true e = at (ltb-true _ _ e) (ℕ_discrete k row)
      go true false e = most k l
      go false u e = most k l

-- No count and no total is above the lines ended, and so above the bytes.
module _ (t : Tally) (lines bytes : ℕ) (f : TallyFit t lines bytes) (le : lines ≤ bytes) where
  pub total_le : Below bytes t.totals
  total_le x h = omega (arith, sum_most t.totals x, f.add_up)

  pub count_le : Below bytes t.counts
  count_le r h =
      let x = block r in
      omega (
        arith,
        block_most x t.counts r refl,
        f.totals x (block_below r h),
        sum_most t.totals x,
        f.add_up,
      )

-- One line more of row r: its count and its block's total are one more.
module _ (counts totals : List ℕ) (r : ℕ) (known : r < row_count) (rows : length counts ≡ row_count) (all : length totals ≡ blocks) where
  total_next : (x : ℕ) → block_count x counts ≡ get_or totals x 0
      → block_count x (set counts r (suc (get_or counts r 0))) ≡ get_or (set totals (block r) (suc (get_or totals (block r) 0))) x 0
  total_next x e = block_set x counts r (omega arith) ∙ go (ℕ_discrete (block r) x)
    where
      go : Dec (block r ≡ x)
          → pick (eqb (block r) x) 1 0 + block_count x counts ≡ get_or (set totals (block r) (suc (get_or totals (block r) 0))) x 0
      go (yes p) =
          let l = block_below r known in
          let q : block_count (block r) counts ≡ get_or totals (block r) 0 = rw p e in
          rw (eq-eqb (block r) x p, ← p, get_or-set_same totals (block r) _ 0 (omega arith)) (omega arith)
      go (no p) = rw (ne_eqb (block r) x p, get_or-set_other totals (block r) x _ 0 (λ q. p (sym q))) (omega arith)

module _ (h : Hot) (n b : ℕ) (t : Tally) (lines bytes : ℕ) (f : TallyFit t lines bytes) (le : n ≤ bytes + 1)
    (said : h.says ≤ most_says) where
  stamps_next : Below (bytes + 1) (stamps_with h n b t.stamps)
  unfolding stamps_with
  stamps_next = below_next bytes h.row n (eqb b LF) t.stamps f.stamps le

  occurrences_next : Below (bytes + 1) (occurrences_with h b t.stamps t.occurrences)
  unfolding occurrences_with
  occurrences_next =
      below_next bytes h.row _ (eqb b LF) t.occurrences f.occurrences
      (omega (arith, used_le bytes h.row t.stamps t.occurrences f.occurrences))

  -- the line at hand ends
  module _ (e : eqb b LF ≡ true) (known : h.row < row_count) where
    counts_ended : counts_with h b t.counts ≡ set t.counts h.row (suc (get_or t.counts h.row 0))
    unfolding counts_with set_of entry_of
    counts_ended = rw (e, lt-ltb h.row row_count known, add-one)

    totals_ended : totals_with h b t.totals
        ≡ set t.totals (block h.row) (suc (get_or t.totals (block h.row) 0))
    unfolding totals_with raised_of
    totals_ended = rw (e, lt-ltb (block h.row) blocks (block_below h.row known), add-one)

    ended_fit : n ≡ lines + 1 → TallyFit (tally_with h n b t) n (bytes + 1)
    ended_fit more =
        record {
          each_row = rw (counts_ended, length-set) f.each_row;
          each_block = rw (totals_ended, length-set) f.each_block;
          stamps = stamps_next;
          occurrences = occurrences_next;
          stated = stated_most h b t.stated said f.stated;
          totals = λ x l. rw (counts_ended, totals_ended)
              (total_next t.counts t.totals h.row known f.each_row f.each_block x (f.totals x l));
          add_up =
              let l = block_below h.row known in
              let s = sum_set t.totals (block h.row) (omega (arith, f.each_block)) in
              rw totals_ended (omega (arith, s, f.add_up));
        }

  -- every other byte
  module _ (e : eqb b LF ≡ false) where
    counts_stay : counts_with h b t.counts ≡ t.counts
    unfolding counts_with
    counts_stay = rw e

    totals_stay : totals_with h b t.totals ≡ t.totals
    unfolding totals_with
    totals_stay = rw e

    same_fit : n ≡ lines → TallyFit (tally_with h n b t) n (bytes + 1)
    same_fit same =
        record {
          each_row = rw counts_stay f.each_row;
          each_block = rw totals_stay f.each_block;
          stamps = stamps_next;
          occurrences = occurrences_next;
          stated = stated_most h b t.stated said f.stated;
          totals = λ x l. rw (counts_stay, totals_stay) (f.totals x l);
          add_up = rw totals_stay (f.add_up ∙ sym same);
        }

  pub tally_next : (b ≡ LF → (n ≡ lines + 1) × (h.row < row_count)) → (eqb b LF ≡ false → n ≡ lines)
      → TallyFit (tally_with h n b t) n (bytes + 1)
  tally_next ends same =
      split (eqb b LF) (λ e. let p = ends (eqb-true b LF e) in ended_fit e p.1 p.0) (λ e. same_fit e (same e))
