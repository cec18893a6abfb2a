-- 01, "Both sides of each rule", and 02, requests h and e: words, and what the bar after them finds once they have streamed
-- through, with the position of their first wrong byte.
use Rattle.std.specs.Prelude.{List, [], ◌∷◌, reverse, ℕ, replicate}
use Prim.Native.String.{String}
use Rattle.layout.specs.Text.{bytes}
use Rattle.layout.specs.Kind.{Kind, C-, decimals, date, cnpj, cpf, count}
use Rattle.layout.specs.Packed.{kind_number}
use Rattle.rules.specs.BareCases.{Bare, bare}
use Rattle.field.specs.Streaming.{wrong_at, field_after, fault_of}

-- the rule that a word of this kind breaks, where a count must state `due`; 0 where it breaks none
unfoldable pub bar_finds : Kind → ℕ → List ℕ → ℕ
bar_finds k due word = fault_of (kind_number k) (field_after (kind_number k) word) due

abbrev typed : String → List ℕ
typed text = reverse (bytes text)

-- 02, request e: the position of its first wrong byte, where it has one or is too short
unfoldable pub wrong_in : Kind → List ℕ → ℕ
wrong_in k word = wrong_at (field_after (kind_number k) word)

unfoldable pub word_cases : List Bare
word_cases =
    -- a CNPJ of 14 digits stands, of 15: 11; with a letter too the lowest number is given: 10
    bare 0 (bar_finds cnpj 0 (typed "12345678000195")) ∷
    bare 11 (bar_finds cnpj 0 (typed "123456780001955")) ∷
    bare 10 (bar_finds cnpj 0 (typed "12345678000195X")) ∷
    -- 02, request h: its check digits exchanged: 24; a CPF that begins with zeros, and one with another last digit: 24; empty
    bare 24 (bar_finds cnpj 0 (typed "12345678000159")) ∷
    bare 0 (bar_finds cpf 0 (typed "00000000191")) ∷
    bare 24 (bar_finds cpf 0 (typed "00000000192")) ∷
    bare 0 (bar_finds cpf 0 []) ∷
    -- a value of 14 digits is kept whole
    bare 0 (bar_finds cnpj 0 (typed "99999999999962")) ∷
    -- one comma, not two
    bare 0 (bar_finds (decimals 2) 0 (typed "1,50")) ∷
    bare 10 (bar_finds (decimals 2) 0 (typed "1,,50")) ∷
    -- 02, request e: too many decimals, too few, no digit before the comma, a letter, two commas, no comma, two letters; a date;
    -- a count
    bare 6 (wrong_in (decimals 2) (typed "12,555")) ∷
    bare 5 (wrong_in (decimals 2) (typed "12,5")) ∷
    bare 1 (wrong_in (decimals 2) (typed ",50")) ∷
    bare 2 (wrong_in (decimals 2) (typed "1x")) ∷
    bare 3 (wrong_in (decimals 2) (typed "1,,")) ∷
    bare 3 (wrong_in (decimals 2) (typed "12")) ∷
    bare 2 (wrong_in (decimals 2) (typed "1x,5x")) ∷
    bare 2 (wrong_in date (typed "9x012012")) ∷
    bare 2 (wrong_in count (typed "3x")) ∷
    -- 29022012: a date; 29022011: 12
    bare 0 (bar_finds date 0 (typed "29022012")) ∷
    bare 12 (bar_finds date 0 (typed "29022011")) ∷
    -- a count of 3: leading zeros are allowed, and neither 3 + 2^32 nor 3 + 2^64 wraps to it
    bare 0 (bar_finds count 3 (typed "0003")) ∷
    bare 13 (bar_finds count 3 (typed "4294967299")) ∷
    bare 13 (bar_finds count 3 (typed "18446744073709551619")) ∷
    -- a name of 256 bytes: 11; of 255 it stands
    bare 11 (bar_finds C- 0 (replicate 256 65)) ∷
    bare 0 (bar_finds C- 0 (replicate 255 65)) ∷
    []
