-- Whole numbers: the field after so many digits, and that the bar behind them finds nothing.
use Rattle.std.proofs.Common.{◌≡◌, ℕ, zero, suc, ◌+◌, ◌-◌, ◌*◌, ◌/◌, ◌%◌, ◌^◌, ◌<◌, ◌≤◌, min, Bool, true, false, eqb, ltb, List, length, get_or, take, drop, length-take, get_or-take, get_or-drop, refl, ap, ◌∙◌, add-zero, add-one, arith, lt-ltb, eq-eqb, ne_eqb, lit<}
use Rattle.std.proofs.Math.Nat.{sub-zero, pow-le-pow_right}
use Rattle.layout.specs.Packed.{size_unit, line_code_class, n_class, n_any_class, decimals_class, date_class, cnpj_class, cpf_class}
use Rattle.rules.specs.Bytes.{bar}
use Rattle.rules.specs.Fields.{is_digit, is_date, comma}
use Rattle.rules.proofs.TestLaws.{split}
use Rattle.field.specs.declared.bytes.Field.{Field}
use Rattle.field.specs.Streaming.{cap, empty_field, value_with, digit_with, decimal_with, digit_fits, comma_fits, with_byte, fault_of}
use Rattle.field.specs.Streaming.{empty_fault, is_text_class, number_fault, right_form, right_size, is_exact, digits_fault, content_fault}
use Rattle.field.specs.Digits.{cnpj_right, cpf_right}
use Rattle.whole.specs.Whole.{ends, number_at, longest, Whole, CentsPast, DigitsPast, Past}
use Rattle.whole.specs.Word.{leading}
use Rattle.whole.proofs.ByteLaws.{digit_bounds, digit_plain}
use Rattle.whole.proofs.AlikeLaws.{alike_le, alike_pass}
use Rattle.whole.proofs.PastLaws.{at_byte, run, bar_last}

-- n digits from i on
abbrev pub Digits : List ℕ → ℕ → ℕ → Type 0
Digits s i n = (k : ℕ) → k < n → is_digit (get_or s (i + k) 0) ≡ true

-- of the bytes counted as digits each is one
pub leading_le : (n : ℕ) (s : List ℕ) (i : ℕ) → leading n s i ≤ n
leading_le = alike_le is_digit

pub leading_digits : (n : ℕ) (s : List ℕ) (i : ℕ) → Digits s i (leading n s i)
leading_digits = alike_pass is_digit

abbrev holding : ℕ → ℕ → Field
holding length value = record { length = length; wrong = 0; value = value }

digits_run : (kind : ℕ) (s ys : List ℕ) (i : ℕ) (after : ℕ → Field) (n : ℕ) → i + n ≤ length s → Digits s i n
    → ((k : ℕ) → k < n → with_byte kind (after k) (get_or s (i + k) 0) ≡ after (k + 1))
    → Whole kind (after n) (drop (i + n) s) ys → Whole kind (after 0) (drop i s) ys
digits_run kind s ys i after n h d next p = run kind s ys i after n h (λ k l. digit_plain _ (d k l)) next p

past : (kind : ℕ) (s : List ℕ) (i e j : ℕ) → j ≡ e + 1 → i ≤ e → e < i + longest
    → Whole kind empty_field (drop i s) (drop (e + 1) s) → Past kind s i (i + longest) j
past kind s i e j is l h w = record { on = omega arith; near = omega arith; whole = rw is w }

-- a kind of numbers of which an empty one breaks no rule
record Number (kind class size : ℕ) : Type 0 where
  pub class_is : kind % size_unit ≡ class
  pub size_is : kind / size_unit ≡ size
  pub no_code : ltb class line_code_class ≡ false
  pub no_text : is_text_class class ≡ false
  pub no_need : empty_fault class ≡ 0

module _ {kind class size : ℕ} (number : Number kind class size) (s : List ℕ) (i : ℕ) (far : i + longest ≤ length s) where
  fault_is : (f : Field) (due : ℕ) → fault_of kind f due ≡ number_fault class size f due
  unfolding fault_of
  fault_is f due = rw (number.class_is, number.size_is, number.no_code, number.no_text)

  -- digits: how many there were, and their value up to the cap
  abbrev after : ℕ → Field
  after n = holding n (min cap (number_at n s i))

  digits_clear : (n due : ℕ) → eqb class decimals_class ≡ false → right_size class size n ≡ true
      → content_fault class (min cap (number_at n s i)) due ≡ 0 → fault_of kind (after n) due ≡ 0
  unfolding number_fault right_form
  digits_clear n due other right content =
      fault_is (after n) due
      ∙ rw (other, right, content, number.no_need) (split (eqb n 0) (λ t. rw t) (λ t. rw t))

  module _ (on : (f : Field) (b : ℕ) → with_byte kind f b ≡ digit_with f b) (other : eqb class decimals_class ≡ false) where
    digits_past : {n j : ℕ} → DigitsPast s i n j → right_size class size n ≡ true
        → ((due : ℕ) → content_fault class (min cap (number_at n s i)) due ≡ 0) → Past kind s i (i + longest) j
    unfolding digit_with value_with number_at
    digits_past {n} {j} d right content =
        let few : n ≤ 16 = omega (arith, d.all_digits, leading_le 16 s i) in
        let digits : Digits s i n = rw d.all_digits at (leading_digits 16 s i) in
        past kind s i (i + n) j d.on (omega arith) (omega arith)
        (digits_run kind s (drop (i + n + 1) s) i after n (omega arith) digits
        (λ k l. rw (on, digits k l, add-one k) (ap (holding (suc k)) (omega arith)))
        (bar_last kind s (i + n) (omega arith) d.bar_last (λ due. digits_clear n due other right (content due))))

-- n digits stand for a number below 10 ^ n, so the value of 14 or fewer is kept whole
number_below : (n : ℕ) (s : List ℕ) (i : ℕ) → Digits s i n → number_at n s i < 10 ^ n
unfolding number_at
number_below zero s i d = omega arith
number_below (suc n) s i d =
    let h = digit_bounds _ (d n (omega arith)) in
    let r = number_below n s i (λ k l. d k (omega arith)) in
    omega arith

pub number_small : (n : ℕ) (s : List ℕ) (i : ℕ) → n ≤ 14 → Digits s i n → number_at n s i < cap
number_small n s i h d = omega (arith, number_below n s i d, pow-le-pow_right {n = 10} (omega arith) {i = n} {j = 14} h)

-- n digits as a slice, one of which is at hand, behind k that are passed: their number is small, as they are fewer than 14
module _ (s : List ℕ) (i n m k : ℕ) (few : (n ≤ 14) × (i + n ≤ length s) × (n ≤ leading 16 s i)) (is : m ≡ i + n - i)
    (more : k < length (take m (drop i s))) where
  inside : k < n
  inside = omega (arith, length-take m (drop i s))

  pub passed_small : number_at k s i < cap
  passed_small = number_small k s i (omega (arith, few.0, inside)) (λ j l. leading_digits 16 s i j (omega (arith, few.2, inside)))

  pub taken_digit : (48 ≤ get_or (take m (drop i s)) k 0) × (get_or (take m (drop i s)) k 0 ≤ 57)
  taken_digit =
      let taken : k < m = omega (arith, inside, is) in
      digit_bounds _ (rw (get_or-take, get_or-drop) (leading_digits 16 s i k (omega (arith, few.2, inside))))

-- a number with d decimals
module _ {kind d : ℕ} (number : Number kind decimals_class d) (s : List ℕ) (i k : ℕ) (far : i + longest ≤ length s) where
  decimal_on : (f : Field) (b : ℕ) → with_byte kind f b ≡ decimal_with d f b
  unfolding with_byte
  decimal_on f b = rw (number.class_is, number.size_is)

  digit_next : (l v b : ℕ) → is_digit b ≡ true → (v ≡ 1 → ⊥) → with_byte kind (holding l v) b ≡ holding (l + 1) (v - 1)
  unfolding decimal_with digit_fits
  digit_next l v b e n = decimal_on (holding l v) b ∙ rw (e, ne_eqb v 1 n)

  -- after the comma and m decimals
  abbrev decimals : ℕ → Field
  decimals m = holding (k + 1 + m) (d + 1 - m)

  comma_next : (b : ℕ) → b ≡ comma → 1 ≤ k → with_byte kind (holding k 0) b ≡ decimals 0
  unfolding decimal_with digit_fits comma_fits is_digit
  comma_next b e h = decimal_on (holding k 0) b ∙ rw (e, lt-ltb 0 k h, add-zero (k + 1), sub-zero (d + 1))

  decimals_next : (m b : ℕ) → is_digit b ≡ true → m < d → with_byte kind (decimals m) b ≡ decimals (m + 1)
  decimals_next m b e h =
      let longer : k + 1 + m + 1 ≡ k + 1 + (m + 1) = omega arith in
      let fewer : d + 1 - m - 1 ≡ d + 1 - (m + 1) = omega arith in
      digit_next (k + 1 + m) (d + 1 - m) b e (λ e. omega arith) ∙ rw (longer, fewer)

  decimals_clear : (l due : ℕ) → 1 ≤ l → fault_of kind (holding l 1) due ≡ 0
  unfolding number_fault right_form right_size is_exact content_fault
  decimals_clear l due h = fault_is number s i far (holding l 1) due ∙ rw (ne_eqb l 0 (λ e. omega arith))

  decimals_past : {j : ℕ} → Digits s i k → 1 ≤ k → get_or s (i + k) 0 ≡ comma → k + d + 2 ≤ longest → Digits s (i + k + 1) d
      → (j ≡ i + k + 1 + d + 1) × (get_or s (i + k + 1 + d) 0 ≡ bar) → Past kind s i (i + longest) j
  unfolding ends
  decimals_past {j} before h c few behind b =
      let ys = drop (i + k + 1 + d + 1) s in
      let none : d + 1 - d ≡ 1 = omega arith in
      past kind s i (i + k + 1 + d) j b.0 (omega arith) (omega arith)
      (digits_run kind s ys i (λ n. holding n 0) k (omega arith) before (λ n l. digit_next n 0 _ (before n l) (λ e. omega arith))
      (at_byte kind s ys {f = holding k 0} (i + k) (omega arith) (rw c)
      (rw (comma_next _ c h)
      (digits_run kind s ys (i + k + 1) decimals d (omega arith) behind
      (λ n l. decimals_next n _ (behind n l) l)
      (bar_last kind s (i + k + 1 + d) (omega arith) b.1 (rw none (λ due. decimals_clear (k + 1 + d) due (omega arith))))))))

-- the kinds of such a class
number : (class size : ℕ) → class < size_unit → ltb class line_code_class ≡ false → is_text_class class ≡ false → empty_fault class ≡ 0
    → Number (class + size_unit * size) class size
number class size known code text need =
    record { class_is = omega (arith, known); size_is = omega (arith, known); no_code = code; no_text = text; no_need = need }

decimal_number : (size : ℕ) → Number (decimals_class + size_unit * size) decimals_class size
unfolding is_text_class empty_fault
decimal_number size = number decimals_class size (lit< tt) refl refl refl

exact_number : (size : ℕ) → Number (n_class + size_unit * size) n_class size
unfolding is_text_class empty_fault
exact_number size = number n_class size (lit< tt) refl refl refl

any_number : (size : ℕ) → Number (n_any_class + size_unit * size) n_any_class size
unfolding is_text_class empty_fault
any_number size = number n_any_class size (lit< tt) refl refl refl

date_number : (size : ℕ) → Number (date_class + size_unit * size) date_class size
unfolding is_text_class empty_fault
date_number size = number date_class size (lit< tt) refl refl refl

cnpj_number : (size : ℕ) → Number (cnpj_class + size_unit * size) cnpj_class size
unfolding is_text_class empty_fault
cnpj_number size = number cnpj_class size (lit< tt) refl refl refl

cpf_number : (size : ℕ) → Number (cpf_class + size_unit * size) cpf_class size
unfolding is_text_class empty_fault
cpf_number size = number cpf_class size (lit< tt) refl refl refl

module _ (s : List ℕ) (i : ℕ) (far : i + longest ≤ length s) where
  -- k digits, a comma, and l digits, as many as there should be
  pub decimal_past : (size : ℕ) {k l j : ℕ} → k ≡ leading 8 s i → (i + k ≡ i → ⊥) → get_or s (i + k) 0 ≡ comma
      → l ≡ leading 8 s (i + k + 1) → (j ≡ i + k + 1 + l + 1) × (get_or s (i + k + 1 + l) 0 ≡ bar) × (l ≡ size)
      → Past (decimals_class + size_unit * size) s i (i + longest) j
  decimal_past size {k} {l} {j} told some c behind past =
      let few : k + size + 2 ≤ longest = omega (arith, told, leading_le 8 s i, behind, leading_le 8 s (i + k + 1), past.2) in
      decimals_past (decimal_number size) s i k far (rw (← told) at (leading_digits 8 s i)) (omega (arith, some)) c few
      (rw (← behind, past.2) at (leading_digits 8 s (i + k + 1))) (rw past.2 at past.0, rw past.2 at past.1)

  -- an amount, whose digits, 16 at most, stand before its decimals
  pub amount_past : {k j : ℕ} → k ≡ leading 16 s i → (k ≡ 0 → ⊥) → CentsPast s (i + k) j → Past (decimals_class + size_unit * 2) s i (i + longest) j
  amount_past {k} {j} told some cents =
      let few : k ≤ 16 = omega (arith, leading_le 16 s i) in
      let last : i + k + 1 + 2 ≡ i + k + 3 = omega arith in
      decimals_past (decimal_number 2) s i k far (rw (← told) at (leading_digits 16 s i)) (omega arith) cents.comma_first (omega arith)
      (rw cents.two_digits at (leading_digits 2 s (i + k + 1))) (omega (arith, cents.on), rw last cents.bar_last)

  -- of N the value is not asked
  pub exact_past : (n j : ℕ) → DigitsPast s i n j → Past (n_class + size_unit * n) s i (i + longest) j
  unfolding with_byte right_size is_exact content_fault
  exact_past n j d = digits_past (exact_number n) s i far (λ f b. rw (exact_number n).class_is) refl d (eq-eqb n n refl) (λ due. refl)

  pub any_past : (size n j : ℕ) → DigitsPast s i n j → Past (n_any_class + size_unit * size) s i (i + longest) j
  unfolding with_byte right_size is_exact content_fault
  any_past size n j d = digits_past (any_number size) s i far (λ f b. rw (any_number size).class_is) refl d refl (λ due. refl)

-- of dates, CNPJ and CPF it is, and that of so few digits is kept whole
abbrev pub Asked : ℕ → (ℕ → Bool) → Type 0
Asked class right =
    (size : ℕ) → size ≤ 14 → (s : List ℕ) (i : ℕ) → i + longest ≤ length s → (j : ℕ) → DigitsPast s i size j
    → right (number_at size s i) ≡ true → Past (class + size_unit * size) s i (i + longest) j

asked_past : {class : ℕ} → ((size : ℕ) → Number (class + size_unit * size) class size) → (right : ℕ → Bool)
    → ((size : ℕ) (f : Field) (b : ℕ) → with_byte (class + size_unit * size) f b ≡ digit_with f b) → eqb class decimals_class ≡ false
    → ((size : ℕ) → right_size class size size ≡ true) → ((v due : ℕ) → right v ≡ true → content_fault class v due ≡ 0)
    → Asked class right
asked_past {class} number right on other sized content size few s i far j d held =
    let small = number_small size s i few (rw d.all_digits at (leading_digits 16 s i)) in
    let kept : min cap (number_at size s i) ≡ number_at size s i = omega arith in
    digits_past (number size) s i far (on size) other d (sized size) (λ due. rw kept (content (number_at size s i) due held))

pub date_past : Asked date_class is_date
unfolding with_byte right_size is_exact content_fault
date_past =
    asked_past date_number is_date (λ size f b. rw (date_number size).class_is) refl (λ size. eq-eqb size size refl) (λ v due t. rw t)

pub cnpj_past : Asked cnpj_class cnpj_right
unfolding with_byte right_size is_exact content_fault digits_fault
cnpj_past =
    asked_past cnpj_number cnpj_right (λ size f b. rw (cnpj_number size).class_is) refl (λ size. eq-eqb size size refl) (λ v due t. rw t)

pub cpf_past : Asked cpf_class cpf_right
unfolding with_byte right_size is_exact content_fault digits_fault
cpf_past =
    asked_past cpf_number cpf_right (λ size f b. rw (cpf_number size).class_is) refl (λ size. eq-eqb size size refl) (λ v due t. rw t)
