-- What is passed as of a class and a size is passed as of the kind that has them.
use Rattle.std.proofs.Common.{◌≡◌, ℕ, ◌+◌, ◌*◌, ◌≤◌, true, List, Option, IfSome, mod-eq_of_lt, ◌∙◌, ap}
use Rattle.std.proofs.lemmas.Option.{IfSome_then}
use Rattle.layout.specs.Packed.{size_unit, class_number, number_of}
use Rattle.layout.specs.declared.kinds.Class.{Class}
use Rattle.layout.specs.declared.kinds.Kind.{Kind}
use Rattle.layout.proofs.NumberLaws.{class_within, class_is}
use Rattle.whole.specs.Whole.{is_quick, Past}
use Rattle.whole.proofs.PastLaws.{past_farther}
use Rattle.whole.proofs.EmptyLaws.{bar_at_once}
use Rattle.whole.proofs.NumberLaws.{exact_past, any_past, date_past, cnpj_past, cpf_past}

-- whether it can be passed is said by the class alone
quick_class : (kind : Kind) → is_quick (number_of kind) ≡ is_quick (class_number kind.class)
unfolding is_quick
quick_class kind = rw (class_is kind, mod-eq_of_lt (class_within kind.class))

pub of_class : (kind : Kind) {class : Class} {size : ℕ} → kind.class ≡ class → kind.size ≡ size → is_quick (class_number class) ≡ true
    → (s : List ℕ) (i far : ℕ) {more : ℕ} → far ≤ more → (r : Option ℕ) → IfSome r (Past (class_number class + size_unit * size) s i far)
    → IfSome r (λ j. Past (number_of kind) s i more j × (is_quick (number_of kind) ≡ true))
unfolding number_of
of_class kind class size quick s i far h r past =
    IfSome_then r past (λ j p. (rw (class, size) (past_farther _ h p), quick_class kind ∙ ap (λ c. is_quick (class_number c)) class ∙ quick))

-- what is said of a field, by its class
pub ruleset field_laws = (of_class, bar_at_once, exact_past, any_past, date_past, cnpj_past, cpf_past)
