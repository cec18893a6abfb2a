-- An empty field breaks no rule of the kinds that can be passed.
use Rattle.std.proofs.Common.{◌≡◌, ℕ, ◌+◌, ◌/◌, ◌%◌, ◌<◌, ◌≤◌, Bool, true, false, ◌&&◌, ◌||◌, ltb, leb, List, length, get_or, arith, le-ltb}
use Rattle.layout.specs.Pick.{pick}
use Rattle.layout.specs.Lists.{all_below}
use Rattle.layout.specs.Packed.{size_unit, line_code_class, c_class, date_class, cnpj_class, cpf_class}
use Rattle.layout.proofs.Below.{below_equal}
use Rattle.rules.specs.Bytes.{bar}
use Rattle.rules.proofs.TestLaws.{split}
use Rattle.field.specs.Streaming.{empty_field, empty_fault, is_fixed_class, is_text_class, text_fault, number_fault, fault_of}
use Rattle.whole.specs.Whole.{is_quick, Past}
use Rattle.whole.proofs.PastLaws.{bar_last}

abbrev quick_class : ℕ → Bool
quick_class class = leb c_class class && leb class date_class || leb cnpj_class class && leb class cpf_class

-- of such a class no text is fixed, and no number has to be there: computed
not_fixed : (class : ℕ) → class < 16 → quick_class class ≡ true → is_fixed_class class ≡ false
unfolding all_below
not_fixed class h q =
    let told = below_equal 16 (λ c. pick (quick_class c) (pick (is_fixed_class c) 1 0) 0) (λ c. 0) tt class h in
    split (is_fixed_class class) (λ t. absurd (omega (arith, rw (q, t) at told))) (λ t. t)

not_needed : (class : ℕ) → class < 16 → quick_class class ≡ true → empty_fault class ≡ 0
unfolding all_below empty_fault
not_needed class h q =
    let told = below_equal 16 (λ c. pick (quick_class c) (empty_fault c) 0) (λ c. 0) tt class h in
    rw q at told

empty_clear : (kind : ℕ) → is_quick kind ≡ true → (due : ℕ) → fault_of kind empty_field due ≡ 0
unfolding is_quick fault_of is_text_class text_fault number_fault
empty_clear kind q due =
    let class = kind % size_unit in
    let small : class < 16 = omega arith in
    split (ltb class line_code_class)
    (λ code. rw code)
    (λ code. split (leb class c_class)
    (λ t. rw (code, t, le-ltb (kind / size_unit) 0 (omega arith)))
    (λ t. rw (code, t, not_fixed class small q, not_needed class small q)))

pub empty_past : (kind : ℕ) → is_quick kind ≡ true → (s : List ℕ) (i far : ℕ) → i < far → far ≤ length s → get_or s i 0 ≡ bar
    → Past kind s i far (i + 1)
empty_past kind q s i far l within b =
    record { on = omega arith; near = omega arith; whole = bar_last kind s i (omega arith) b (empty_clear kind q) }

-- the same of what the code gives
pub bar_at_once : (kind : ℕ) (s : List ℕ) (i far : ℕ) → i < far → far ≤ length s → get_or s i 0 ≡ bar → (j : ℕ)
    → (j ≡ i + 1) × (is_quick kind ≡ true) → Past kind s i far j × (is_quick kind ≡ true)
bar_at_once kind s i far l within b j (is, q) = (rw is (empty_past kind q s i far l within b), q)
