-- What the bar finds in 01's words is what 01 says.
use mathlib.Core.Path.{◌≡◌, refl}
use mathlib.Core.List.{map}
use Rattle.layout.specs.Text.{bytes}
use Rattle.layout.specs.Packed.{kind_number}
use Rattle.rules.specs.Fields.{is_digit, is_leap_year, days_of, is_date}
use Rattle.rules.specs.CheckDigits.{weighed, check_digit, right_after, both_right, is_cnpj, is_cpf}
use Rattle.field.specs.Digits.{last_digits, cnpj_right, cpf_right}
use Rattle.field.specs.Streaming
use Rattle.field.specs.BareCases.{bar_finds, wrong_in, word_cases}

pub word_cases_lem : map (λ c. c.says) word_cases ≡ map (λ c. c.given) word_cases
unfolding word_cases bar_finds wrong_in bytes kind_number is_digit is_leap_year days_of is_date weighed check_digit right_after both_right
    is_cnpj is_cpf last_digits cnpj_right cpf_right Streaming.empty_fault Streaming.digits_fault Streaming.value_with
    Streaming.digit_with Streaming.wrong_at Streaming.comma_fits Streaming.digit_fits Streaming.decimal_with
    Streaming.with_byte Streaming.field_after Streaming.right_form Streaming.is_exact Streaming.right_size
    Streaming.content_fault Streaming.number_fault Streaming.text_fault Streaming.is_text_class Streaming.fault_of
word_cases_lem = refl
