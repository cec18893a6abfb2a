-- One field as it streams through: what is kept of its bytes, and what its bar finds, at every kind number and field.
use Rattle.std.specs.Prelude.{Bool, not, ◌&&◌, ◌||◌, List, [], ◌∷◌, ℕ, ◌+◌, ◌-◌, ◌*◌, ◌/◌, ◌%◌, ◌^◌, ◌≤◌, min, eqb, leb, ltb, get_or}
use Rattle.layout.specs.Pick.{pick}
use Rattle.layout.specs.Text.{bytes}
use Rattle.layout.specs.Packed.{brasil_class, c_class, cnpj_class, count_class, cpf_class, date_class, decimals_class}
use Rattle.layout.specs.Packed.{lfpd_class, line_code_class, n_any_class, opens_class, size_unit}
use Rattle.rules.specs.Fields.{is_digit, is_date, comma}
use Rattle.rules.specs.Rules.{byte_limit}
use Rattle.field.specs.declared.bytes.Field.{Field}
use Rattle.field.specs.Digits.{cnpj_right, cpf_right}

-- a value is kept up to just above that of 14 digits, the most that are looked at again; it is above the largest number of
-- bytes too, and so of lines
abbrev pub cap : ℕ
cap = 10 ^ 14

-- what may be asked: the stored numbers' ranges
pub record FieldFit (f : Field) : Type 0 where
  pub length : f.length ≤ byte_limit + 1
  pub wrong : f.wrong ≤ f.length
  pub value : f.value ≤ cap

-- before the first byte; `wrong` is the position of the first wrong byte, 0 while there is none
abbrev pub empty_field : Field
empty_field = record { length = 0; wrong = 0; value = 0 }

-- one more byte: of any field, of a code, of digits, of a fixed text, of a number with decimals
abbrev pub longer : Field → ℕ → ℕ → Field
longer f wrong value = record { length = f.length + 1; wrong = wrong; value = value }

-- the position of the first wrong byte, if the next one is wrong or missing: its own, unless one was wrong before
unfoldable pub wrong_at : Field → ℕ
wrong_at f = pick (eqb f.wrong 0) (f.length + 1) f.wrong

abbrev pub wrong_with : Bool → Field → ℕ
wrong_with right f = pick right f.wrong (wrong_at f)

abbrev pub code_with : Field → ℕ → Field
code_with f b = longer f f.wrong (f.value % 16777216 * 256 + b)

unfoldable pub value_with : ℕ → ℕ → ℕ
value_with v b = min cap (v * 10 + (b - 48))

unfoldable pub digit_with : Field → ℕ → Field
digit_with f b = longer f (wrong_with (is_digit b) f) (value_with f.value b)

unfoldable pub matches : List ℕ → ℕ → ℕ → Bool
matches text at b = eqb (get_or text at 256) b

unfoldable pub text_with : List ℕ → Field → ℕ → Field
text_with text f b = longer f (wrong_with (matches text f.length b) f) f.value

-- Of a number with decimals the value is 0 before the comma, and then one more than the number of decimals still to come.
-- A comma stands once, after one digit or more; a digit unless all decimals have come.
unfoldable pub comma_fits : Field → ℕ → Bool
comma_fits f b = eqb b comma && eqb f.value 0 && ltb 0 f.length

unfoldable pub digit_fits : Field → ℕ → Bool
digit_fits f b = is_digit b && not (eqb f.value 1)

unfoldable pub decimal_with : ℕ → Field → ℕ → Field
decimal_with d f b =
    pick (digit_fits f b) (longer f f.wrong (f.value - 1))
    (pick (comma_fits f b) (longer f f.wrong (d + 1)) (longer f (wrong_at f) f.value))

-- the classes of the fixed texts, and the text of each
abbrev pub is_fixed_class : ℕ → Bool
is_fixed_class class = eqb class lfpd_class || eqb class brasil_class

abbrev pub fixed_text : ℕ → List ℕ
fixed_text class = pick (eqb class lfpd_class) (bytes "LFPD") (bytes "Brasil")

-- of a text only the length is asked; what stands before the texts are codes, and what is no field
unfoldable pub with_byte : ℕ → Field → ℕ → Field
with_byte kind f b =
    let class = kind % size_unit in
    pick (eqb class c_class) (longer f f.wrong f.value)
    (pick (ltb class c_class) (code_with f b)
    (pick (eqb class decimals_class) (decimal_with (kind / size_unit) f b)
    (pick (is_fixed_class class) (text_with (fixed_text class) f b) (digit_with f b))))

-- the field of a kind after the bytes of a word, the latest first
unfoldable pub field_after : ℕ → List ℕ → Field
field_after kind [] = empty_field
field_after kind (b ∷ w) = with_byte kind (field_after kind w) b

-- what the bar finds: the rule's number, 0 where none is broken; `due` is what a count must state
unfoldable pub empty_fault : ℕ → ℕ
empty_fault class = pick (eqb class opens_class) 12 (pick (eqb class count_class) 13 0)

unfoldable pub right_form : ℕ → Field → Bool
right_form class f = eqb f.wrong 0 && (not (eqb class decimals_class) || eqb f.value 1)

-- the numbers whose size is asked
unfoldable pub is_exact : ℕ → Bool
is_exact class = not (eqb class decimals_class || eqb class n_any_class || eqb class count_class)

unfoldable pub right_size : ℕ → ℕ → ℕ → Bool
right_size class size length = not (is_exact class) || eqb length size

-- rule 24 of a CNPJ and of a CPF
unfoldable pub digits_fault : ℕ → ℕ → ℕ
digits_fault class value =
    pick (eqb class cnpj_class) (pick (cnpj_right value) 0 24) (pick (eqb class cpf_class) (pick (cpf_right value) 0 24) 0)

-- of plain numbers, with decimals or without, nothing more is asked; most numbers are plain, so they are told first
unfoldable pub content_fault : ℕ → ℕ → ℕ → ℕ
content_fault class value due =
    pick (leb class decimals_class) 0
    (pick (eqb class date_class) (pick (is_date value) 0 12)
    (pick (eqb class opens_class) (pick (leb value 1) 0 12)
    (pick (eqb class count_class) (pick (eqb value due) 0 13) (digits_fault class value))))

unfoldable pub number_fault : ℕ → ℕ → Field → ℕ → ℕ
number_fault class size f due =
    pick (eqb f.length 0) (empty_fault class)
    (pick (right_form class f) (pick (right_size class size f.length) (content_fault class f.value due) 11) 10)

unfoldable pub is_fixed : Field → ℕ → Bool
is_fixed f size = eqb f.wrong 0 && eqb f.length size

unfoldable pub text_fault : ℕ → ℕ → Field → ℕ
text_fault class size f =
    pick (ltb size f.length) 11 (pick (leb class c_class || is_fixed f size) 0 12)

unfoldable pub is_text_class : ℕ → Bool
is_text_class class = leb class c_class || is_fixed_class class

unfoldable pub fault_of : ℕ → Field → ℕ → ℕ
fault_of kind f due =
    let class = kind % size_unit in
    let size = kind / size_unit in
    pick (ltb class line_code_class) 0
    (pick (is_text_class class) (text_fault class size f) (number_fault class size f due))
