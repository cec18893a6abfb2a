-- A kind's number tells its class and its size.
use mathlib.Core.Path.{◌≡◌, refl, sym, ap, ap₂, ◌∙◌}
use mathlib.Core.List.{List, [], ◌∷◌}
use Prim.Native.Nat.{ℕ, ◌%◌, ◌/◌, ◌<◌}
use native.Mathlib.Omega.{arith}
use lib.ListN.{get_or}
use Rattle.layout.specs.Packed.{size_unit, class_number, number_of}
use Rattle.layout.specs.declared.kinds.Class as Class
use Rattle.layout.specs.declared.kinds.Class.TheVariants as K
use Rattle.layout.specs.declared.kinds.Kind as Held

pub class_within : (c : Class.Class) → class_number c < size_unit
class_within K.NoField = omega arith
class_within K.Code = omega arith
class_within K.LineCode = omega arith
class_within K.Text = omega arith
class_within K.Digits = omega arith
class_within K.Number = omega arith
class_within K.Decimals = omega arith
class_within K.Date = omega arith
class_within K.Lfpd = omega arith
class_within K.Brasil = omega arith
class_within K.Opens = omega arith
class_within K.Count = omega arith
class_within K.Cnpj = omega arith
class_within K.Cpf = omega arith
class_within K.Unused14 = omega arith
class_within K.Unused15 = omega arith

pub class_is : (k : Held.Kind) → number_of k % size_unit ≡ class_number k.class
unfolding number_of
class_is k = let h = class_within k.class in omega arith

pub size_is : (k : Held.Kind) → number_of k / size_unit ≡ k.size
unfolding number_of
size_is k = let h = class_within k.class in omega arith

-- the classes by their numbers
abbrev classes : List Class.Class
classes =
    K.NoField ∷ K.Code ∷ K.LineCode ∷ K.Text ∷ K.Digits ∷ K.Number ∷ K.Decimals ∷ K.Date ∷ K.Lfpd ∷ K.Brasil ∷ K.Opens ∷ K.Count ∷ K.Cnpj ∷
    K.Cpf ∷ K.Unused14 ∷ K.Unused15 ∷ []

abbrev classed : ℕ → Class.Class
classed n = get_or classes n K.NoField

classed_number : (c : Class.Class) → classed (class_number c) ≡ c
classed_number K.NoField = refl
classed_number K.Code = refl
classed_number K.LineCode = refl
classed_number K.Text = refl
classed_number K.Digits = refl
classed_number K.Number = refl
classed_number K.Decimals = refl
classed_number K.Date = refl
classed_number K.Lfpd = refl
classed_number K.Brasil = refl
classed_number K.Opens = refl
classed_number K.Count = refl
classed_number K.Cnpj = refl
classed_number K.Cpf = refl
classed_number K.Unused14 = refl
classed_number K.Unused15 = refl

pub class_one : (a b : Class.Class) → class_number a ≡ class_number b → a ≡ b
class_one a b e = sym (classed_number a) ∙ ap classed e ∙ classed_number b

-- no two kinds have the same number: what is said of a kind's number fixes the kind
pub number_one : (a b : Held.Kind) → number_of a ≡ number_of b → a ≡ b
number_one a b e =
    let class = class_one a.class b.class (sym (class_is a) ∙ ap (λ n. n % size_unit) e ∙ class_is b) in
    let size = sym (size_is a) ∙ ap (λ n. n / size_unit) e ∙ size_is b in
    ap₂ (λ c s. record { class = c; size = s }) class size
