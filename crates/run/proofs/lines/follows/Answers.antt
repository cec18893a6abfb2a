use mathlib.Core.Path.{◌≡◌, ◌∙◌, sym, ap}
use mathlib.Core.Bool.{true, false, not}
use native.Mathlib.Omega.{arith}
use Prim.Native.Nat.{ℕ}
use Rattle.line.specs.Machine.{hangs_of, stands_of, misplaced_of}
use Rattle.layout.specs.Silent.{is_silent}
use Rattle.std.proofs.lemmas.Bool.{not-true}
use Rattle.rules.proofs.TestLaws.{both}
use Rattle.run.proofs.PlaceLaws.{silent_data, silent_0000, silent_9999, silent_opening, silent_closing}
use Rattle.run.proofs.lines.follows.Goals as goal
use Rattle.run.proofs.lines.follows.Goals.{then-is_silent, else-is_silent, then-not-misplaced, else-not-misplaced}

-- a line of a silent row stands where it hangs
silent_stands : (last r : ℕ) → is_silent r ≡ true → hangs_of last r ≡ true → stands_of last r ≡ true
unfolding stands_of
silent_stands last r e hangs = rw (silent_0000 r e, silent_opening r e, silent_closing r e, silent_9999 r e) hangs

pub hangs-requires : goal.hangs-requires
hangs-requires c =
    let silent : is_silent c.args.r ≡ true =
    elim c.if-is_silent.branch [
      | then-is_silent w ↦ sym c.is_silent.ensures ∙ w.if-is_silent.true
      | else-is_silent w ↦ both c.if-not-misplaced.true (w.value-is ∙ w.if-is_silent.false)
    ] in
    (omega (arith, c.requires.0, c.requires.1), c.requires.1, silent_data c.args.r silent)

pub returns-then-hangs : goal.returns-then-hangs
returns-then-hangs c e =
    let args = c.args in
    let known : (is_silent args.r ≡ true) × (misplaced_of args.p.says args.r ≡ false) × (hangs_of args.p.last args.r ≡ true) =
    elim c.if-not-misplaced.branch [
      | then-not-misplaced w ↦ elim c.if-is_silent.branch [
        | then-is_silent v ↦ (
          sym c.is_silent.ensures ∙ v.if-is_silent.true,
          sym v.misplaced.ensures ∙ not-true _ (sym v.value-is ∙ w.if-not-misplaced.true),
          sym w.hangs.ensures ∙ sym w.value-is ∙ c.if-hangs.true,
        )
        | else-is_silent v ↦ both w.if-not-misplaced.true (v.value-is ∙ v.if-is_silent.false)
      ]
      | else-not-misplaced w ↦ both c.if-hangs.true (w.value-is ∙ w.if-not-misplaced.false)
    ] in
    record {
      silent = known.0;
      stands = silent_stands args.p.last args.r known.0 known.2;
      placed = known.1;
      room = sym c.has_room.ensures ∙ e;
    }
