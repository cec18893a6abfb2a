-- What the bar finds, kind by kind, is what rules 10 to 13 and 24 say of the word; and the position of rule 10.
use mathlib.Core.Path.{◌≡◌, ◌∙◌, refl, ap}
use mathlib.Core.Bool.{Bool, true, false, not, ◌&&◌, ◌||◌, and-true}
use mathlib.Core.List.{List, [], ◌∷◌, reverse}
use Prim.Native.Nat.{ℕ, suc, ◌+◌, ◌-◌, ◌*◌, ◌/◌, ◌%◌, ◌^◌, ◌<◌, ◌≤◌, min}
use native.Mathlib.Omega.{arith}
use lib.Dec.{eqb, leb, ltb, lit≤}
use lib.ListN.{length}
use borrow.Author.Tests.{ne_eqb, eqb-true, eqb-false, lt-leb, le-ltb, lt-ltb, leb-true, leb-false}
use Rattle.layout.specs.Pick.{pick}
use Rattle.layout.specs.Text.{bytes}
use Rattle.layout.specs.Kind.{Kind, code_field, line_code, C, N, N-, decimals, date, cnpj, cpf, lfpd, brasil, opens, count, no_field}
use Rattle.layout.specs.Packed.{kind_number, size_unit, line_code_class, c_class, n_class, n_any_class, decimals_class}
use Rattle.layout.specs.Packed.{date_class, cnpj_class, cpf_class, lfpd_class, brasil_class, opens_class, count_class}
use Rattle.rules.specs.Bytes.{empty}
use Rattle.rules.specs.Fields.{is_digit, all_digits, value, is_decimal, is_date, same_bytes, is_text, form_of, states}
use Rattle.rules.specs.Position.{position}
use Rattle.rules.specs.CheckDigits.{digits_of, is_cnpj, is_cpf}
use Rattle.field.specs.declared.bytes.Field.{Field}
use Rattle.field.specs.Digits.{last_digits, cnpj_right, cpf_right}
use Rattle.field.specs.Streaming.{cap, wrong_at, digit_with, text_with, decimal_with, with_byte}
use Rattle.field.specs.Streaming.{field_after, empty_fault, right_form, is_exact, right_size, digits_fault, content_fault}
use Rattle.field.specs.Streaming.{number_fault, text_fault, is_text_class, fault_of}
use Rattle.field.specs.Ruled.{ruled}
use Rattle.std.proofs.lemmas.Bool.{and_parts}
use Rattle.rules.proofs.TestLaws.{split, both}
use Rattle.field.proofs.LengthLaws.{length_is}
use Rattle.field.proofs.DigitLaws.{digits_right, digits_position, digits_value, value_below, capped_is}
use Rattle.field.proofs.CheckDigitLaws.{digits_are}
use Rattle.field.proofs.TextLaws.{text_is}
use Rattle.field.proofs.DecimalLaws.{decimals_is, decimals_position}

-- the bar after a word of this kind finds what the rules say
abbrev Agrees : Kind → ℕ → List ℕ → Type 0
Agrees k due w = fault_of (kind_number k) (field_after (kind_number k) w) due ≡ ruled (form_of k) due w

-- a kind's class and size, from the number that holds both
class_of : (c n : ℕ) → c < size_unit → (c + size_unit * n) % size_unit ≡ c
class_of c n h = omega arith

size_of : (c n : ℕ) → c < size_unit → (c + size_unit * n) / size_unit ≡ n
size_of c n h = omega arith

fault_at : (c n : ℕ) (f : Field) (due : ℕ) → c < size_unit
    → fault_of (c + size_unit * n) f due ≡ pick (ltb c line_code_class) 0 (pick (is_text_class c) (text_fault c n f) (number_fault c n f due))
unfolding fault_of
fault_at c n f due h = rw (class_of c n h, size_of c n h)

turned : (t : Bool) (n : ℕ) → pick t 0 n ≡ pick (not t) n 0
turned true n = refl
turned false n = refl

-- the kinds of which nothing is asked
code_bar : (due : ℕ) (w : List ℕ) → Agrees code_field due w
unfolding kind_number fault_of ruled form_of empty
code_bar due [] = refl
code_bar due (b ∷ w) = refl

no_field_bar : (due : ℕ) (w : List ℕ) → Agrees no_field due w
unfolding kind_number fault_of ruled form_of empty
no_field_bar due [] = refl
no_field_bar due (b ∷ w) = refl

-- texts: longer than the size, and then another than the fixed text
over : (s n : ℕ) → ltb s n ≡ not (leb n s)
over s n = split (leb n s) (λ t. rw t (le-ltb s n (leb-true n s t))) (λ t. rw t (lt-ltb s n (leb-false n s t)))

-- of a text, and of the code that a 9900 line speaks of, the size
module _ (c s due : ℕ) (asked : ltb c line_code_class ≡ false) (plain : leb c c_class ≡ true) where
  sized_bar : c < size_unit → (w : List ℕ)
      → fault_of (c + size_unit * s) (field_after (c + size_unit * s) w) due ≡ ruled (form_of (C s)) due w
  unfolding is_text_class text_fault field_after ruled form_of empty
  sized_bar h [] = fault_at c s (field_after (c + size_unit * s) []) due h ∙ rw (asked, plain, le-ltb s 0 (omega arith))
  sized_bar h (b ∷ w) =
      fault_at c s (field_after (c + size_unit * s) (b ∷ w)) due h
      ∙ rw (asked, plain, length_is (c + size_unit * s) (b ∷ w), over s (suc (length w)))

C_bar : (s due : ℕ) (w : List ℕ) → Agrees (C s) due w
unfolding kind_number
C_bar s due w = sized_bar c_class s due refl refl (omega arith) w

line_code_bar : (due : ℕ) (w : List ℕ) → Agrees line_code due w
unfolding kind_number form_of
line_code_bar due w = sized_bar line_code_class 4 due refl refl (omega arith) w

text_bar : (kind c : ℕ) (text : List ℕ) → ((f : Field) (b : ℕ) → with_byte kind f b ≡ text_with text f b) → leb c c_class ≡ false
    → (w : List ℕ) → text_fault c (length text) (field_after kind w)
    ≡ pick (not (leb (length w) (length text))) 11 (pick (not (same_bytes w (reverse text))) 12 0)
unfolding text_fault
text_bar kind c text on other w =
    rw (text_is kind text on w, other, length_is kind w, over (length text) (length w), turned (same_bytes w (reverse text)) 12)

lfpd_bar : (due : ℕ) (w : List ℕ) → Agrees lfpd due w
unfolding kind_number fault_of is_text_class with_byte field_after ruled form_of empty is_text bytes
lfpd_bar due [] = text_bar (kind_number lfpd) lfpd_class (bytes "LFPD") (λ f b. refl) refl []
lfpd_bar due (b ∷ w) = text_bar (kind_number lfpd) lfpd_class (bytes "LFPD") (λ f b. refl) refl (b ∷ w)

brasil_bar : (due : ℕ) (w : List ℕ) → Agrees brasil due w
unfolding kind_number fault_of is_text_class with_byte field_after ruled form_of empty is_text bytes
brasil_bar due [] = text_bar (kind_number brasil) brasil_class (bytes "Brasil") (λ f b. refl) refl []
brasil_bar due (b ∷ w) = text_bar (kind_number brasil) brasil_class (bytes "Brasil") (λ f b. refl) refl (b ∷ w)

-- numbers: the form, the size, and then what the content is asked
in_turn : (form size : Bool) (x y : ℕ) → (form ≡ true → size ≡ true → x ≡ y)
    → pick form (pick size x 11) 10 ≡ pick (not form) 10 (pick (not size) 11 y)
in_turn true true x y h = h refl refl
in_turn true false x y h = refl
in_turn false size x y h = refl

number_bar : (c n : ℕ) (f : Field) (due l v : ℕ) (form : Bool) → right_form c f ≡ form → f.length ≡ suc l → f.value ≡ v
    → number_fault c n f due ≡ pick form (pick (right_size c n (suc l)) (content_fault c v due) 11) 10
unfolding number_fault
number_bar c n f due l v form p q r = rw (p, q, r, ne_eqb (suc l) 0 (λ e. omega arith))

module _ (kind c n : ℕ) (on : (f : Field) (b : ℕ) → with_byte kind f b ≡ digit_with f b) (other : eqb c decimals_class ≡ false) where
  -- (`digits_right` is said of a form; any form of digits will do)
  digits_form : (w : List ℕ) → right_form c (field_after kind w) ≡ all_digits w
  unfolding right_form form_of
  digits_form w =
      let right = eqb (field_after kind w).wrong 0 in
      rw other (and-true right ∙ digits_right kind on (form_of N-) (λ w. refl) w)

  digits_bar : (due b : ℕ) (w : List ℕ) → number_fault c n (field_after kind (b ∷ w)) due
      ≡ pick (all_digits (b ∷ w)) (pick (right_size c n (suc (length w))) (content_fault c (min cap (value (b ∷ w))) due) 11) 10
  digits_bar due b w =
      number_bar c n (field_after kind (b ∷ w)) due (length w) (min cap (value (b ∷ w))) (all_digits (b ∷ w)) (digits_form (b ∷ w))
      (length_is kind (b ∷ w)) (digits_value kind on (b ∷ w))

N_on : (s : ℕ) (f : Field) (b : ℕ) → with_byte (kind_number (N s)) f b ≡ digit_with f b
unfolding kind_number with_byte
N_on s f b = rw (class_of n_class s (omega arith))

N_bar : (s due : ℕ) (w : List ℕ) → Agrees (N s) due w
unfolding kind_number is_text_class field_after number_fault empty_fault right_size is_exact content_fault ruled form_of empty
N_bar s due [] = fault_at n_class s (field_after (kind_number (N s)) []) due (omega arith)
N_bar s due (b ∷ w) =
    fault_at n_class s (field_after (kind_number (N s)) (b ∷ w)) due (omega arith)
    ∙ digits_bar (kind_number (N s)) n_class s (N_on s) refl due b w
    ∙ in_turn (all_digits (b ∷ w)) (eqb (suc (length w)) s) 0 0 (λ p q. refl)

N--bar : (due : ℕ) (w : List ℕ) → Agrees N- due w
unfolding kind_number fault_of is_text_class with_byte field_after
    number_fault empty_fault right_size is_exact content_fault ruled form_of empty
N--bar due [] = refl
N--bar due (b ∷ w) =
    digits_bar (kind_number N-) n_any_class 0 (λ f b. refl) refl due b w ∙ in_turn (all_digits (b ∷ w)) true 0 0 (λ p q. refl)

decimals_on : (d : ℕ) (f : Field) (b : ℕ) → with_byte (kind_number (decimals d)) f b ≡ decimal_with d f b
unfolding kind_number with_byte
decimals_on d f b = rw (class_of decimals_class d (omega arith), size_of decimals_class d (omega arith))

decimals_bar : (d due : ℕ) (w : List ℕ) → Agrees (decimals d) due w
unfolding kind_number is_text_class field_after number_fault empty_fault right_form right_size is_exact content_fault ruled form_of empty
decimals_bar d due [] = fault_at decimals_class d (field_after (kind_number (decimals d)) []) due (omega arith)
decimals_bar d due (b ∷ w) =
    let f = field_after (kind_number (decimals d)) (b ∷ w) in
    fault_at decimals_class d f due (omega arith)
    ∙ number_bar decimals_class d f due (length w) f.value (is_decimal d (b ∷ w))
    (decimals_is (kind_number (decimals d)) d (decimals_on d) (b ∷ w))
    (length_is (kind_number (decimals d)) (b ∷ w)) refl
    ∙ in_turn (is_decimal d (b ∷ w)) true 0 0 (λ p q. refl)

-- the value of so few digits is kept whole
whole : (n : ℕ) (w : List ℕ) → 10 ^ n ≤ cap → all_digits w ≡ true → length w ≡ n → min cap (value w) ≡ value w
whole n w h p e = let below : value w < 10 ^ n = rw e at (value_below w p) in omega arith

date_bar : (due : ℕ) (w : List ℕ) → Agrees date due w
unfolding kind_number fault_of is_text_class with_byte field_after
    number_fault empty_fault right_size is_exact content_fault ruled form_of empty
date_bar due [] = refl
date_bar due (b ∷ w) =
    let v = value (b ∷ w) in
    digits_bar (kind_number date) date_class 8 (λ f b. refl) refl due b w
    ∙ in_turn (all_digits (b ∷ w)) (eqb (suc (length w)) 8) (pick (is_date (min cap v)) 0 12) (pick (not (is_date v)) 12 0)
    (λ p q. rw (whole 8 (b ∷ w) (lit≤ tt) p (eqb-true (suc (length w)) 8 q)) (turned (is_date v) 12))

-- a CNPJ and a CPF, once for both: digits of a size, and then a test of the digits, by the value or by the word
abbrev by_value : (List ℕ → Bool) → ℕ → ℕ → ℕ
by_value right n v = pick (right (last_digits n v)) 0 24

abbrev by_word : (List ℕ → Bool) → List ℕ → ℕ
by_word right w = pick (not (right (digits_of w))) 24 0

checked_turn : (right : List ℕ → Bool) (n : ℕ) → 10 ^ n ≤ cap → (b : ℕ) (w : List ℕ)
    → pick (all_digits (b ∷ w)) (pick (eqb (suc (length w)) n) (by_value right n (min cap (value (b ∷ w)))) 11) 10
    ≡ pick (not (all_digits (b ∷ w))) 10 (pick (not (eqb (suc (length w)) n)) 11 (by_word right (b ∷ w)))
checked_turn right n h b w =
    in_turn (all_digits (b ∷ w)) (eqb (suc (length w)) n) (by_value right n (min cap (value (b ∷ w)))) (by_word right (b ∷ w))
    (λ p q. let e = eqb-true (suc (length w)) n q in
    rw (whole n (b ∷ w) h p e, digits_are (b ∷ w) p, e) (turned (right (last_digits n (value (b ∷ w)))) 24))

cnpj_bar : (due : ℕ) (w : List ℕ) → Agrees cnpj due w
unfolding kind_number fault_of is_text_class with_byte field_after
    number_fault empty_fault right_size is_exact content_fault digits_fault cnpj_right ruled form_of empty
cnpj_bar due [] = refl
cnpj_bar due (b ∷ w) =
    digits_bar (kind_number cnpj) cnpj_class 14 (λ f b. refl) refl due b w ∙ checked_turn is_cnpj 14 (lit≤ tt) b w

cpf_bar : (due : ℕ) (w : List ℕ) → Agrees cpf due w
unfolding kind_number fault_of is_text_class with_byte field_after
    number_fault empty_fault right_size is_exact content_fault digits_fault cpf_right ruled form_of empty
cpf_bar due [] = refl
cpf_bar due (b ∷ w) =
    digits_bar (kind_number cpf) cpf_class 11 (λ f b. refl) refl due b w ∙ checked_turn is_cpf 11 (lit≤ tt) b w

-- one digit is at most 1 where it is 0 or 1
zero_or_one : (b : ℕ) → 48 ≤ b → leb (min cap (0 + (b - 48))) 1 ≡ (eqb b 48 && true || eqb b 49 && true)
zero_or_one b h =
    split (eqb b 48)
    (λ t. rw (eqb-true b 48 t))
    (λ t. split (eqb b 49)
    (λ s. rw (eqb-true b 49 s))
    (λ s. rw (t, s) (lt-leb (min cap (0 + (b - 48))) 1 (omega (arith, eqb-false b 48 t, eqb-false b 49 s)))))

one_digit : (b : ℕ) (w : List ℕ) → all_digits (b ∷ w) ≡ true → eqb (suc (length w)) 1 ≡ true
    → leb (min cap (value (b ∷ w))) 1 ≡ (is_text "0" (b ∷ w) || is_text "1" (b ∷ w))
unfolding is_digit all_digits value is_text same_bytes bytes
one_digit b [] p q = zero_or_one b (leb-true 48 b (and_parts (leb 48 b) (leb b 57) (and_parts (is_digit b) true p).0).0)
one_digit b (c ∷ w) p q = absurd (let e = eqb-true (suc (suc (length w))) 1 q in omega arith)

opens_bar : (due : ℕ) (w : List ℕ) → Agrees opens due w
unfolding kind_number fault_of is_text_class with_byte field_after number_fault
    empty_fault right_size is_exact content_fault ruled form_of empty is_text same_bytes bytes
opens_bar due [] = refl
opens_bar due (b ∷ w) =
    let text = is_text "0" (b ∷ w) || is_text "1" (b ∷ w) in
    digits_bar (kind_number opens) opens_class 1 (λ f b. refl) refl due b w
    ∙ in_turn (all_digits (b ∷ w)) (eqb (suc (length w)) 1) (pick (leb (min cap (value (b ∷ w))) 1) 0 12) (pick (not text) 12 0)
    (λ p q. ap (λ t. pick t 0 12) (one_digit b w p q) ∙ turned text 12)

count_bar : (due : ℕ) (w : List ℕ) → due < cap → Agrees count due w
unfolding kind_number fault_of is_text_class with_byte field_after number_fault
    empty_fault right_size is_exact content_fault ruled form_of states empty
count_bar due [] h = refl
count_bar due (b ∷ w) h =
    let v = value (b ∷ w) in
    digits_bar (kind_number count) count_class 0 (λ f b. refl) refl due b w
    ∙ in_turn (all_digits (b ∷ w)) true (pick (eqb (min cap v) due) 0 13) (pick (not (eqb v due)) 13 0)
    (λ p q. rw (capped_is v due h) (turned (eqb v due) 13))

-- at every kind
pub fault_is : (k : Kind) (due : ℕ) (w : List ℕ) → due < cap
    → fault_of (kind_number k) (field_after (kind_number k) w) due ≡ ruled (form_of k) due w
fault_is code_field due w h = code_bar due w
fault_is (C s) due w h = C_bar s due w
fault_is line_code due w h = line_code_bar due w
fault_is (N s) due w h = N_bar s due w
fault_is N- due w h = N--bar due w
fault_is (decimals d) due w h = decimals_bar d due w
fault_is date due w h = date_bar due w
fault_is cnpj due w h = cnpj_bar due w
fault_is cpf due w h = cpf_bar due w
fault_is lfpd due w h = lfpd_bar due w
fault_is brasil due w h = brasil_bar due w
fault_is opens due w h = opens_bar due w
fault_is count due w h = count_bar due w h
fault_is no_field due w h = no_field_bar due w

-- 02, request e: where rule 10 is broken, the kept position is that of the first byte that no field passing it could have there
pub position_is_lem : (k : Kind) (w : List ℕ) → (form_of k).characters w ≡ false
    → wrong_at (field_after (kind_number k) w) ≡ position (form_of k) w
unfolding form_of with_byte kind_number
position_is_lem code_field w e = both refl e
position_is_lem (C s) w e = both refl e
position_is_lem line_code w e = both refl e
position_is_lem (N s) w e = digits_position (kind_number (N s)) (N_on s) (form_of (N s)) (λ w. refl) w
position_is_lem N- w e = digits_position (kind_number N-) (λ f b. refl) (form_of N-) (λ w. refl) w
position_is_lem (decimals d) w e = decimals_position (kind_number (decimals d)) d (decimals_on d) w
position_is_lem date w e = digits_position (kind_number date) (λ f b. refl) (form_of date) (λ w. refl) w
position_is_lem cnpj w e = digits_position (kind_number cnpj) (λ f b. refl) (form_of cnpj) (λ w. refl) w
position_is_lem cpf w e = digits_position (kind_number cpf) (λ f b. refl) (form_of cpf) (λ w. refl) w
position_is_lem lfpd w e = both refl e
position_is_lem brasil w e = both refl e
position_is_lem opens w e = digits_position (kind_number opens) (λ f b. refl) (form_of opens) (λ w. refl) w
position_is_lem count w e = digits_position (kind_number count) (λ f b. refl) (form_of count) (λ w. refl) w
position_is_lem no_field w e = both refl e

-- what is due is asked of counts alone
pub countless_fault : (kind : ℕ) (f : Field) (m n : ℕ) → eqb (kind % size_unit) count_class ≡ false
    → fault_of kind f m ≡ fault_of kind f n
unfolding fault_of number_fault content_fault
countless_fault kind f m n e = rw e
