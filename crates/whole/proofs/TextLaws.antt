-- A text: of it the length alone is kept and asked.
use Rattle.std.proofs.Common.{⊎_elim, ◌≡◌, ℕ, ◌+◌, ◌-◌, ◌*◌, ◌/◌, ◌%◌, ◌<◌, ◌≤◌, List, length, get_or, drop, arith, le-ltb}
use Rattle.std.proofs.lemmas.Bool.{not-true, cases_lt}
use Rattle.layout.specs.Packed.{size_unit, c_class}
use Rattle.rules.specs.Bytes.{bar}
use Rattle.field.specs.Streaming.{longer, with_byte, fault_of, is_text_class, text_fault}
use Rattle.field.specs.declared.bytes.Field.{Field}
use Rattle.whole.specs.Whole.{ends, Plain, Whole, Past}
use Rattle.whole.specs.Word.{alike}
use Rattle.whole.proofs.AlikeLaws.{alike_pass}
use Rattle.whole.proofs.WordLaws.{is_plain}
use Rattle.whole.proofs.PastLaws.{run, bar_last}

-- what is counted as plain, and a part more
pub plain_counted : (n : ℕ) (s : List ℕ) (i e : ℕ) → e ≡ i + alike is_plain n s i → Plain s i e
plain_counted n s i e is k l o =
    let on : i + (k - i) ≡ k = omega arith in
    not-true (ends (get_or s k 0)) (rw on at (alike_pass is_plain n s i (k - i) (omega arith)))

pub plain_join : (s : List ℕ) (i j e : ℕ) → Plain s i j → Plain s j e → Plain s i e
plain_join s i j e p q k l o = ⊎_elim (λ before. p k before o) (λ behind. q k l behind) (cases_lt k j)

module _ (size : ℕ) where
  abbrev kind : ℕ
  kind = c_class + size_unit * size

  class_is : kind % size_unit ≡ c_class
  class_is = omega arith

  size_is : kind / size_unit ≡ size
  size_is = omega arith

  text_with_lem : (f : Field) (b : ℕ) → with_byte kind f b ≡ longer f f.wrong f.value
  unfolding with_byte
  text_with_lem f b = rw class_is

  text_clear : (f : Field) → f.length ≤ size → (due : ℕ) → fault_of kind f due ≡ 0
  unfolding fault_of is_text_class text_fault
  text_clear f l due = rw (class_is, size_is, le-ltb size f.length l)

  pub text_past : (s : List ℕ) (i e : ℕ) {j : ℕ} → (i ≤ e) × (e < length s) × Plain s i e → e - i ≤ size
      → (j ≡ e + 1) × (get_or s e 0 ≡ bar) → Past kind s i (e + 1) j
  text_past s i e {j} (l, h, p) z b =
      let on : i + (e - i) ≡ e = omega arith in
      let after : ℕ → Field = λ n. record { length = n; wrong = 0; value = 0 } in
      let last : Whole kind (after (e - i)) (drop e s) (drop (e + 1) s) = bar_last kind s e h b.1 (text_clear (after (e - i)) z) in
      record {
        on = omega arith;
        near = omega arith;
        whole =
            rw b.0
            (run kind s (drop (e + 1) s) i after (e - i) (omega arith) (λ k a. p (i + k) (omega arith) (omega arith))
            (λ k a. text_with_lem (after k) (get_or s (i + k) 0)) (rw on last));
      }
