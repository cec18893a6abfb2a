-- What a byte breaks is a rule of the table: its number is not 0.
use mathlib.Core.Path.{◌≡◌}
use mathlib.Core.Bool.{Bool, true, false}
use mathlib.Core.List.{List, [], ◌∷◌}
use Prim.Native.Nat.{ℕ, ◌≤◌}
use native.Mathlib.Omega.{arith}
use Rattle.layout.specs.Pick.{pick}
use Rattle.rules.specs.Rules.{Fault, clear, breaks, Rule, rules, first_broken, fault_by, fault, full, complete}

data Numbered : Fault → Type 0 where
  no_rule : Numbered clear
  a_rule : {n f p : ℕ} → 1 ≤ n → Numbered (breaks n f p)

pick_numbered : (t : Bool) (a b : Fault) → Numbered a → Numbered b → Numbered (pick t a b)
pick_numbered true a b p q = p
pick_numbered false a b p q = q

abbrev AllNumbered : List Rule → Type 0
AllNumbered [] = Unit {0}
AllNumbered (r ∷ rs) = (1 ≤ r.number) × AllNumbered rs

first_numbered : (seen : List ℕ) (b : ℕ) (rs : List Rule) → AllNumbered rs → Numbered (first_broken rs seen b)
unfolding first_broken
first_numbered seen b [] n = no_rule
first_numbered seen b (r ∷ rs) n = pick_numbered (r.broken seen b) _ _ (a_rule n.0) (first_numbered seen b rs n.1)

rules_numbered : AllNumbered rules
unfolding rules
rules_numbered = omega arith

module _ (seen : List ℕ) (b : ℕ) where
  fault_numbered : Numbered (fault seen b)
  unfolding fault fault_by
  fault_numbered =
      pick_numbered (full seen) _ _ (a_rule (omega arith))
      (pick_numbered (complete seen) _ _ (a_rule (omega arith)) (first_numbered seen b rules rules_numbered))

  pub fault_number : (n f p : ℕ) → fault seen b ≡ breaks n f p → 1 ≤ n
  fault_number n f p e = go (fault seen b) fault_numbered e
    where
      go : (t : Fault) → Numbered t → t ≡ breaks n f p → 1 ≤ n
      go t no_rule q = absurd (let z : ◌≡◌ {A = ℕ} 0 1 = cc in omega arith)
      go t (a_rule {n = k} one) q = let e : k ≡ n = cc in omega arith
