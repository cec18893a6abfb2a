-- What the step and its laws need of kinds.
use mathlib.Core.Path.{◌≡◌, refl}
use mathlib.Core.Bool.{◌&&◌}
use Prim.Native.Nat.{ℕ, zero, suc, ◌+◌, ◌*◌, ◌%◌, ◌≤◌}
use native.Mathlib.Omega.{arith}
use native.Mathlib.Nat.{le_refl}
use lib.Dec.{eqb}
use denote.Enum.Bare.{sameb}
use denote.Enum.Declared.{tag_of}
use borrow.Author.Tests.{eq-eqb, ne_eqb, eqb-true, eqb-false}
use Rattle.layout.specs.Pick.{pick}
use Rattle.layout.specs.Rows.{row_count, none}
use Rattle.layout.specs.Kinds.{kind}
use Rattle.layout.specs.Packed.{size_unit, count_class, class_number, number_of, kind_number}
use Rattle.layout.specs.contracts.kinds.Class.{the_type}
use Rattle.layout.specs.declared.kinds.Class.{Class}
use Rattle.layout.specs.declared.kinds.Class.TheVariants as K
use Rattle.layout.specs.declared.kinds.Kind.{Kind}
use Rattle.layout.proofs.KindLaws.{kinds_none}
use Rattle.layout.proofs.NumberLaws.{class_within}
use Rattle.rules.proofs.TestLaws.{split}
use Rattle.field.specs.Streaming.{fault_of}
use Rattle.field.specs.declared.bytes.Field.{Field}
use Rattle.field.proofs.FaultLaws.{countless_fault}

-- until its code has come a line has field 1 alone, the code
pub early_kind : (n : ℕ) → n ≤ 1 → kind_number (kind none n) ≡ 1
unfolding kind kind_number
early_kind zero h = rw (kinds_none none (le_refl row_count))
early_kind (suc zero) h = rw (kinds_none none (le_refl row_count))
early_kind (suc (suc n)) h = absurd (omega arith)

tag_is : (c : Class) → tag_of the_type c ≡ class_number c
tag_is K.NoField = refl
tag_is K.Code = refl
tag_is K.LineCode = refl
tag_is K.Text = refl
tag_is K.Digits = refl
tag_is K.Number = refl
tag_is K.Decimals = refl
tag_is K.Date = refl
tag_is K.Lfpd = refl
tag_is K.Brasil = refl
tag_is K.Opens = refl
tag_is K.Count = refl
tag_is K.Cnpj = refl
tag_is K.Cpf = refl
tag_is K.Unused14 = refl
tag_is K.Unused15 = refl

-- two kinds are the same where their numbers are
pub same_kind : (a b : Kind) → (sameb the_type a.class b.class && eqb a.size b.size) ≡ eqb (number_of a) (number_of b)
unfolding number_of
same_kind a b =
    let x = class_number a.class in
    let y = class_number b.class in
    let l = class_within a.class in
    let m = class_within b.class in
    rw (tag_is a.class, tag_is b.class)
    (split (eqb x y)
    (λ t. let c = eqb-true x y t in
    split (eqb a.size b.size)
    (λ u. let s = eqb-true a.size b.size u in
    rw (t, u, eq-eqb (x + size_unit * a.size) (y + size_unit * b.size) (omega arith)))
    (λ u. let s = eqb-false a.size b.size u in
    rw (t, u, ne_eqb (x + size_unit * a.size) (y + size_unit * b.size) (λ e. omega arith))))
    (λ t. let c = eqb-false x y t in rw (t, ne_eqb (x + size_unit * a.size) (y + size_unit * b.size) (λ e. omega arith))))

-- what is due is asked of counts alone
pub counts_alone : (kind : ℕ) (f : Field) (due : ℕ) → fault_of kind f (pick (eqb (kind % size_unit) count_class) due 0) ≡ fault_of kind f due
counts_alone kind f due =
    split (eqb (kind % size_unit) count_class) (λ t. rw t) (λ t. rw t (countless_fault kind f 0 due t))
