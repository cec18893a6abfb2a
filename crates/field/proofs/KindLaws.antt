-- By a kind's class and size: what is kept of one more byte, and what the bar finds.
use mathlib.Core.Path.{◌≡◌}
use Prim.Native.Nat.{ℕ}
use lib.Dec.{eqb, ltb}
use Rattle.layout.specs.Pick.{pick}
use Rattle.layout.specs.Packed.{c_class, line_code_class, decimals_class, class_number, number_of}
use Rattle.layout.specs.declared.kinds.Kind.{Kind}
use Rattle.layout.proofs.NumberLaws.{class_is, size_is}
use Rattle.field.specs.declared.bytes.Field.{Field}
use Rattle.field.specs.Streaming.{longer, code_with, digit_with, text_with, decimal_with, is_fixed_class, fixed_text, with_byte}
use Rattle.field.specs.Streaming.{is_text_class, text_fault, number_fault, fault_of}

pub byte_at : (k : Kind) (f : Field) (b : ℕ) → with_byte (number_of k) f b
    ≡ pick (eqb (class_number k.class) c_class) (longer f f.wrong f.value)
    (pick (ltb (class_number k.class) c_class) (code_with f b)
    (pick (eqb (class_number k.class) decimals_class) (decimal_with k.size f b)
    (pick (is_fixed_class (class_number k.class)) (text_with (fixed_text (class_number k.class)) f b) (digit_with f b))))
unfolding with_byte
byte_at k f b = rw (class_is k, size_is k)

pub fault_at : (k : Kind) (f : Field) (due : ℕ) → fault_of (number_of k) f due
    ≡ pick (ltb (class_number k.class) line_code_class) 0
    (pick (is_text_class (class_number k.class)) (text_fault (class_number k.class) k.size f) (number_fault (class_number k.class) k.size f due))
unfolding fault_of
fault_at k f due = rw (class_is k, size_is k)
