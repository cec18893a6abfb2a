-- A field that is passed: byte by byte, up to its bar.
use Rattle.std.proofs.Common.{◌≡◌, ℕ, zero, suc, ◌+◌, ◌<◌, ◌≤◌, false, List, length, get_or, drop, add-zero, add-one, arith, drop-cons}
use Rattle.rules.specs.Bytes.{bar}
use Rattle.field.specs.declared.bytes.Field.{Field}
use Rattle.field.specs.Streaming.{with_byte, fault_of}
use Rattle.whole.specs.Whole.{ends, Whole, Past}
use Rattle.whole.specs.Whole.Whole.{at_bar, one_byte_more}

module _ (kind : ℕ) (s ys : List ℕ) where
  -- one byte in front
  pub at_byte : {f : Field} (i : ℕ) → i < length s → ends (get_or s i 0) ≡ false
      → Whole kind (with_byte kind f (get_or s i 0)) (drop (i + 1) s) ys → Whole kind f (drop i s) ys
  at_byte {f} i h e p =
      rw (drop-cons s i 0 h) (one_byte_more {f = f} {b = get_or s i 0} {xs = drop (suc i) s} {ys = ys} e (rw (add-one i) at p))

  -- n bytes in front, after each of which the field is known
  pub run : (i : ℕ) (after : ℕ → Field) (n : ℕ) → i + n ≤ length s → ((k : ℕ) → k < n → ends (get_or s (i + k) 0) ≡ false)
      → ((k : ℕ) → k < n → with_byte kind (after k) (get_or s (i + k) 0) ≡ after (k + 1))
      → Whole kind (after n) (drop (i + n) s) ys → Whole kind (after 0) (drop i s) ys
  run i after zero h plain next p = rw (add-zero i) at p
  run i after (suc n) h plain next p =
      let on : i + suc n ≡ i + n + 1 = omega arith in
      run i after n (omega arith) (λ k l. plain k (omega arith)) (λ k l. next k (omega arith))
      (at_byte {f = after n} (i + n) (omega arith) (plain n (omega arith)) (rw (next n (omega arith), add-one n) (rw on at p)))

-- a bar that finds nothing
pub bar_last : (kind : ℕ) (s : List ℕ) {f : Field} (e : ℕ) → e < length s → get_or s e 0 ≡ bar
    → ((due : ℕ) → fault_of kind f due ≡ 0) → Whole kind f (drop e s) (drop (e + 1) s)
bar_last kind s {f} e h b clear = rw (drop-cons s e 0 h, b, add-one e) (at_bar {f = f} clear)

-- also if more bytes were to be looked at
pub past_farther : {kind i far j : ℕ} {s : List ℕ} (more : ℕ) → far ≤ more → Past kind s i far j → Past kind s i more j
past_farther more h p = record { on = p.on; near = omega arith; whole = p.whole }
