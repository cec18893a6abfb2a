-- The ranges: what their tests say, in both directions.
use mathlib.Core.Path.{◌≡◌}
use mathlib.Core.Bool.{true, ◌&&◌}
use mathlib.Core.List.{List}
use Prim.Native.Nat.{ℕ, suc, ◌+◌, ◌^◌, ◌<◌, ◌≤◌}
use native.Mathlib.Omega.{arith}
use lib.Dec.{eqb, leb}
use lib.ListN.{length, get_or}
use Rattle.std.proofs.lemmas.Bool.Decides.{nat_tests}
use borrow.Author.Tests.{eq-eqb, eqb-true, le-leb, leb-true}
use Rattle.layout.specs.Rows.{row_count, blocks}
use Rattle.layout.proofs.Below.{all_at, all_below_lem}
use Rattle.rules.specs.Rules.{byte_limit}
use Rattle.rules.specs.Totals.{sum, block_count}
use Rattle.rules.proofs.TestLaws.{both, split}
use Rattle.field.specs.Streaming.{wrong_at}
use Rattle.field.proofs.LengthLaws.{wrong_at_le}
use Rattle.field.proofs.WrongLaws.{wrong_at_some}
use Rattle.rules.specs.Numbers.{is_rule}
use Rattle.line.specs.Machine.{HotFit, most_bars, untrue, position_of}
use Rattle.state.specs.Ranges.{within_to, line_ranged, hot_ranged, position_ranged, refusal_ranged}
use Rattle.state.specs.Ranges.{tally_ranged, ranged_of}
use Rattle.line.specs.Tally.{TallyFit, Held}
use Rattle.line.specs.declared.hot.Hot.{Hot}
use Rattle.state.specs.declared.State.{State}
use Rattle.line.specs.declared.tally.Tally.{Tally}

-- at each entry of an array
module _ (m : ℕ) (xs : List ℕ) (n : ℕ) where
  within_at : within_to m xs n ≡ true → (k : ℕ) → k < n → get_or xs k 0 ≤ m
  within_at e k h = leb-true _ _ (all_at (λ j. leb (get_or xs j 0) m) n e k h)

  within_all : ((k : ℕ) → k < n → get_or xs k 0 ≤ m) → within_to m xs n ≡ true
  within_all f = all_below_lem (λ j. leb (get_or xs j 0) m) n (λ k h. le-leb _ _ (f k h))

-- The hot part.
fit_of : (h : Hot) → hot_ranged h ≡ true → HotFit h
unfolding hot_ranged line_ranged
fit_of h e =
    record {
      bytes = grind (arith, nat_tests);
      lines = grind (arith, nat_tests);
      last = grind (arith, nat_tests);
      since = grind (arith, nat_tests);
      says = grind (arith, nat_tests);
      bars = grind (arith, nat_tests);
      row = grind (arith, nat_tests);
      coded = λ two. grind (arith, nat_tests);
      some_field = grind (arith, nat_tests);
      fields = grind (arith, nat_tests);
      kind = grind (arith, nat_tests);
      length = grind (arith, nat_tests);
      wrong = grind (arith, nat_tests);
      value = grind (arith, nat_tests);
    }

hot_ranged_lem : (h : Hot) → HotFit h → hot_ranged h ≡ true
unfolding hot_ranged line_ranged
hot_ranged_lem h f = grind (arith, nat_tests)

-- What is kept for each row and each block.
module _ (t : Tally) (lines bytes : ℕ) where
  tally_fit : tally_ranged t lines bytes ≡ true → TallyFit t lines bytes
  unfolding tally_ranged
  tally_fit e =
      record {
        each_row = grind (arith, nat_tests);
        each_block = grind (arith, nat_tests);
        stamps = within_at bytes t.stamps row_count (grind (arith, nat_tests));
        occurrences = within_at bytes t.occurrences row_count (grind (arith, nat_tests));
        stated = within_at untrue t.stated (suc row_count) (grind (arith, nat_tests));
        totals = λ x h. eqb-true _ _ (all_at (λ y. eqb (block_count y t.counts) (get_or t.totals y 0)) blocks (grind (arith, nat_tests)) x h);
        add_up = grind (arith, nat_tests);
      }

  tally_ranged_lem : TallyFit t lines bytes → tally_ranged t lines bytes ≡ true
  unfolding tally_ranged
  tally_ranged_lem f =
      rw (
        eq-eqb (length t.counts) row_count f.each_row,
        eq-eqb (length t.totals) blocks f.each_block,
        within_all bytes t.stamps row_count f.stamps,
        within_all bytes t.occurrences row_count f.occurrences,
        within_all untrue t.stated (suc row_count) f.stated,
        all_below_lem (λ x. eqb (block_count x t.counts) (get_or t.totals x 0)) blocks (λ x h. eq-eqb _ _ (f.totals x h)),
        eq-eqb (sum t.totals) lines f.add_up,
      )

-- The refusal that is kept.
pub open_ranged : (bytes : ℕ) → bytes ≤ byte_limit → refusal_ranged 0 0 0 bytes ≡ true
unfolding refusal_ranged
open_ranged bytes l = grind (arith, nat_tests)

pub rule_some : (rule : ℕ) → is_rule rule ≡ true → rule ≡ 0 → ⊥
rule_some rule e z = both e (rw z)

-- a rule is broken, and this is what its refusal names, at so many bytes judged
pub record Names (rule field position bytes : ℕ) : Type 0 where
  pub rule_is : is_rule rule ≡ true
  pub field_in : field ≤ most_bars
  pub position_in : position_ranged rule position bytes ≡ true

pub broken_ranged : (rule field position bytes : ℕ) → Names rule field position bytes
    → refusal_ranged rule field position bytes ≡ true
unfolding refusal_ranged
broken_ranged rule field position bytes n =
    let some = rule_some rule n.rule_is in
    grind (arith, nat_tests, n.rule_is, n.position_in)

record Unbroken (field position bytes : ℕ) : Type 0 where
  no_field : field ≡ 0
  no_position : position ≡ 0
  limit : bytes ≤ byte_limit

unbroken : (rule field position bytes : ℕ) → rule ≡ 0 → refusal_ranged rule field position bytes ≡ true
    → Unbroken field position bytes
unfolding refusal_ranged
unbroken rule field position bytes z e =
    record {
      no_field = grind (arith, nat_tests);
      no_position = grind (arith, nat_tests);
      limit = grind (arith, nat_tests);
    }

broken : (rule field position bytes : ℕ) → (rule ≡ 0 → ⊥) → refusal_ranged rule field position bytes ≡ true
    → Names rule field position bytes
unfolding refusal_ranged
broken rule field position bytes z e =
    record {
      rule_is = grind (arith, nat_tests);
      field_in = grind (arith, nat_tests);
      position_in = grind (arith, nat_tests);
    }

-- A state in range, in its parts.
module _ (s : State) (e : ranged_of s ≡ true) where
  pub state_fit : HotFit s.hot
  unfolding ranged_of
  state_fit = fit_of s.hot (grind (arith, nat_tests))

  -- there is room for one more line
  pub state_room : s.hot.lines + 1 < 2 ^ 64
  state_room = omega (arith, state_fit.lines, state_fit.bytes)

  pub state_tally : TallyFit s.tally s.hot.lines s.hot.bytes
  unfolding ranged_of
  state_tally = tally_fit s.tally s.hot.lines s.hot.bytes (grind (arith, nat_tests))

  kept_ranged : refusal_ranged s.rule s.field s.position s.hot.bytes ≡ true
  unfolding ranged_of
  kept_ranged = grind (arith, nat_tests)

  pub kept_refusal : (s.rule ≡ 0 → ⊥) → Names s.rule s.field s.position s.hot.bytes
  kept_refusal z = broken s.rule s.field s.position s.hot.bytes z kept_ranged

  module _ (z : s.rule ≡ 0) where
    none_broken_lem : Unbroken s.field s.position s.hot.bytes
    none_broken_lem = unbroken s.rule s.field s.position s.hot.bytes z kept_ranged

    pub no_field_lem : s.field ≡ 0
    no_field_lem = none_broken_lem.no_field

    pub no_position_lem : s.position ≡ 0
    no_position_lem = none_broken_lem.no_position

    pub held_of : Held s.hot s.tally
    held_of =
        record {
          fit = state_fit;
          within_limit = none_broken_lem.limit;
          tally = state_tally;
        }

pub ranged_by : (s : State) → HotFit s.hot → TallyFit s.tally s.hot.lines s.hot.bytes
    → refusal_ranged s.rule s.field s.position s.hot.bytes ≡ true → ranged_of s ≡ true
unfolding ranged_of
ranged_by s f t r = rw (hot_ranged_lem s.hot f, r, tally_ranged_lem s.tally s.hot.lines s.hot.bytes t)

-- the position that a rule's refusal gives is within the bytes judged
pub position_ranged_lem : (h : Hot) → HotFit h → (rule : ℕ) → position_ranged rule (position_of h rule) (h.bytes + 1) ≡ true
unfolding position_ranged position_of
position_ranged_lem h f rule =
    split (eqb rule 2)
    (λ t. rw t (within (h.field.length + 1) (omega arith) (omega (arith, f.length))))
    (λ t. split (eqb rule 10)
    (λ u. rw (t, u)
    (within (wrong_at h.field) (wrong_at_some h.field) (omega (arith, f.length, wrong_at_le h.field f.wrong))))
    (λ u. rw (t, u)))
  where
    within : (p : ℕ) → 1 ≤ p → p ≤ h.bytes + 1 → (leb 1 p && leb p (h.bytes + 1)) ≡ true
    within p l m = rw (le-leb 1 p l, le-leb p (h.bytes + 1) m)
