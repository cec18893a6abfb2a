-- A whole field at once: what it is that a field and its bar are passed.
use Rattle.std.specs.Prelude.{◌≡◌, ℕ, zero, suc, ◌+◌, ◌-◌, ◌*◌, ◌%◌, ◌<◌, ◌≤◌, Bool, false, ◌&&◌, ◌||◌, List, ◌∷◌, drop, ◌==◌, nat_le, nat_lt, slice_index, slice_index_or}
use Rattle.layout.specs.Packed.{size_unit, c_class, date_class, cnpj_class, cpf_class}
use Rattle.rules.specs.Bytes.{bar}
use Rattle.rules.specs.Fields.{comma}
use Rattle.field.specs.Streaming.{empty_field, with_byte, fault_of}
use Rattle.field.specs.declared.bytes.Field.{Field}
use Rattle.whole.specs.Word.{leading}

-- a byte that no field holds
unfoldable pub ends : ℕ → Bool
ends b = nat_lt b 32 || b == bar

-- from i up to e no byte ends a field
abbrev pub Plain : List ℕ → ℕ → ℕ → Type 0
Plain s i e = (k : ℕ) → k < e → i ≤ k → ends (slice_index s k) ≡ false

-- the number that n digits from i on stand for
unfoldable pub number_at : ℕ → List ℕ → ℕ → ℕ
number_at zero s i = 0
number_at (suc n) s i = number_at n s i * 10 + (slice_index s (i + n) - 48)

-- the kinds that can be passed: C, N with and without a size, with decimals, dates, CNPJ and CPF
unfoldable pub is_quick : ℕ → Bool
is_quick kind = let class = kind % size_unit in nat_le c_class class && nat_le class date_class || nat_le cnpj_class class && nat_le class cpf_class

-- a field of this kind, so far f, goes on in xs up to its bar, which finds nothing; ys stands behind the bar
pub data Whole (kind : ℕ) : Field → List ℕ → List ℕ → Type 0 where
  at_bar : {f : Field} {ys : List ℕ} → ((due : ℕ) → fault_of kind f due ≡ 0) → Whole kind f (bar ∷ ys) ys
  one_byte_more : {f : Field} {b : ℕ} {xs ys : List ℕ} → ends b ≡ false → Whole kind (with_byte kind f b) xs ys
      → Whole kind f (b ∷ xs) ys

-- the longest number that is passed: 16 digits, a comma, two digits and the bar
abbrev pub longest : ℕ
longest = 20

-- so many bytes must stand from a place on that is looked at last: such a number from there, and CR LF, less one byte
abbrev pub margin : ℕ
margin = longest + 1

-- j is past two decimals, whose comma stands at c, and their bar
pub record CentsPast (s : List ℕ) (c j : ℕ) : Type 0 where
  pub on : j ≡ c + 4
  pub comma_first : slice_index_or s c 0 ≡ comma
  pub two_digits : leading 2 s (c + 1) ≡ 2
  pub bar_last : slice_index_or s (c + 3) 0 ≡ bar

-- j is past n digits from i on, which are all that stand there, 16 at most, and their bar
pub record DigitsPast (s : List ℕ) (i n j : ℕ) : Type 0 where
  pub on : j ≡ i + n + 1
  pub all_digits : leading 16 s i ≡ n
  pub bar_last : slice_index s (i + n) ≡ bar

-- j is past the bar of a whole field of this kind that starts at i, and at most far
pub record Past (kind : ℕ) (s : List ℕ) (i far j : ℕ) : Type 0 where
  pub on : i < j
  pub near : j ≤ far
  pub whole : Whole kind empty_field (drop i s) (drop j s)
