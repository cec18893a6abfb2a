-- A whole field: its bytes and its bar are steps that all go on, to the start of the next field, and nothing else changes.
use mathlib.Core.Path.{◌≡◌, ◌∙◌, refl}
use mathlib.Core.Bool.{true, false}
use mathlib.Core.List.{List}
use Prim.Native.Nat.{ℕ, zero, suc, ◌+◌, ◌-◌, ◌≤◌, ◌<◌}
use native.Mathlib.Omega.{arith}
use native.Mathlib.Decide.{dec_lt}
use lib.Dec.{eqb, lit≤}
use lib.ListN.{length, get_or, drop, length-drop}
use borrow.Author.Tests.{ne_eqb, eqb-false, le-ltb, lt-leb}
use Rattle.layout.specs.Rows.{row_count, fields, row9999}
use Rattle.layout.specs.Kind.{date, opens}
use Rattle.layout.specs.Kinds.{kind, field_count, row_start}
use Rattle.layout.proofs.RowLaws.{fields_two}
use Rattle.layout.proofs.KindLaws.{fields_within, kind_most}
use Rattle.layout.specs.Packed.{code_class, kind_number, most_kind, packed_kinds}
use Rattle.rules.specs.Bytes.{bar}
use Rattle.rules.specs.Rules.{byte_limit}
use Rattle.rules.proofs.TestLaws.{both}
use Rattle.field.specs.Streaming.{empty_field, fault_of}
use Rattle.layout.proofs.PackedLaws.{kind_entry}
use Rattle.whole.specs.Whole.{ends, is_quick, longest, margin, Whole, Past}
use Rattle.whole.specs.Whole.Whole.{at_bar, one_byte_more}
use Rattle.line.specs.Machine.{Asked, grown_of, says_of, dated_of, due_of, pair_rule_of, asked_rule_of, found_of, field_bar_of, bar_of}
use Rattle.line.specs.Machine.{in_field_of, step_of}
use Rattle.line.proofs.HotOf.{pick_same}
use Rattle.field.specs.declared.bytes.Field.{Field}
use Rattle.line.specs.declared.hot.Hot.{Hot}
use Rattle.line.specs.Machine.{Next}
use Rattle.line.specs.declared.tally.Tally.{Tally}
use Rattle.run.specs.declared.place.Place.{Place}
use Rattle.layout.specs.Silent.{is_silent}
use Rattle.run.specs.Places.{Passes, bars_at, field_start, Placed, PassesTo, Fielded}
use Rattle.run.specs.Places.Passes.{here}
use Rattle.layout.proofs.RowEnds.{code_behind}
use Rattle.run.proofs.PassLaws.{no_control, no_bar, no_end, passes_byte, passes_join}
use Rattle.run.proofs.PlaceLaws.{start_next, silent_later, silent_period, silent_9900, silent_9999, at_field}

-- in a field after the first, in a silent row, of a kind that can be passed, with so many bytes to come before the limit
record InField (h : Hot) (n : ℕ) : Type 0 where
  later : 2 ≤ h.bars
  within : h.bars ≤ h.fields
  room : h.bytes + n ≤ byte_limit
  silent : is_silent h.row ≡ true
  quick : is_quick h.kind ≡ true

-- the state past its bar, n bytes on
abbrev barred_of : Hot → ℕ → Hot
barred_of h n =
    record {
      lines = h.lines;
      bytes = h.bytes + n;
      last = h.last;
      since = h.since;
      says = h.says;
      bars = h.bars + 1;
      row = h.row;
      fields = h.fields;
      kind = kind_number (kind h.row (h.bars + 1));
      field = empty_field;
    }

quick_opens : (k : ℕ) → is_quick k ≡ true → eqb k (kind_number opens) ≡ false
unfolding is_quick kind_number
quick_opens k q = ne_eqb k 26 (λ e. both (rw e at q) refl)

module _ (h : Hot) (ss os : List ℕ) (a : Asked) where
  in_field_lem : (n b : ℕ) → InField h (suc n) → step_of h ss os a b ≡ in_field_of h ss os a b
  unfolding step_of
  in_field_lem n b i =
      rw (
        lt-leb byte_limit h.bytes (omega (arith, i.room)),
        ne_eqb h.bars 0 (λ e. omega (arith, i.later)),
        le-ltb h.fields h.bars i.within,
      )

  byte_step : (n b : ℕ) → InField h (suc n) → ends b ≡ false → step_of h ss os a b ≡ Next (grown_of h b)
  unfolding in_field_of
  byte_step n b i e = in_field_lem n b i ∙ rw (no_bar b e, no_control b e)

  -- the lines before are not asked, and the line says nothing
  asks_none : InField h 1 → asked_rule_of h a ≡ 0
  unfolding asked_rule_of pair_rule_of
  asks_none i =
      rw (
        silent_later h.row i.silent,
        ne_eqb h.bars 0 (λ e. omega (arith, i.later)),
        silent_9999 h.row i.silent,
        pick_same {A = ℕ} (eqb h.kind (kind_number date)) 0,
      )

  says_none : InField h 1 → says_of h ≡ h.says
  unfolding says_of dated_of
  says_none i =
      rw (
        quick_opens h.kind i.quick,
        silent_period h.row i.silent,
        silent_9900 h.row i.silent,
        pick_same (eqb h.kind (kind_number date)) h.says,
      )

  bar_step : InField h 1 → ((due : ℕ) → fault_of h.kind h.field due ≡ 0) → step_of h ss os a bar ≡ Next (barred_of h 1)
  unfolding in_field_of bar_of field_bar_of found_of
  bar_step i clear =
      in_field_lem 0 bar i
      ∙ rw (ne_eqb h.bars 1 (λ e. omega (arith, i.later)), clear (due_of h), asks_none i, says_none i)

longer : {k : ℕ} {f : Field} {xs ys : List ℕ} → Whole k f xs ys → length ys < length xs
longer (at_bar clear) = omega arith
longer (one_byte_more e p) = omega (arith, longer p)

whole_passes : {k : ℕ} {f : Field} {xs ys : List ℕ} → Whole k f xs ys
    → (h : Hot) (n : ℕ) (t : Tally) → h.kind ≡ k → h.field ≡ f → length xs ≡ n + length ys → InField h n
    → Passes h t xs (barred_of h n) t ys
whole_passes {ys = ys} (at_bar clear) h n t k f e i =
    let one : n ≡ 1 = omega arith in
    rw one (passes_byte h (barred_of h 1) t bar refl (bar_step h _ _ _ (rw one at i) (rw (k, f) clear)) here)
whole_passes (one_byte_more a p) h zero t k f e i = absurd (omega (arith, longer p))
whole_passes {ys = ys} (one_byte_more {b = b} {xs = xs} a p) h (suc m) t k f e i =
    let on : InField (grown_of h b) m =
    record { later = i.later; within = i.within; room = omega (arith, i.room); silent = i.silent; quick = i.quick } in
    let bytes : h.bytes + 1 + m ≡ h.bytes + suc m = omega arith in
    let rest : Passes (grown_of h b) t xs (barred_of h (suc m)) t ys =
    rw bytes at (whole_passes p (grown_of h b) m t k (rw (k, f)) (omega arith) on) in
    passes_byte h (grown_of h b) t b (no_end b a) (byte_step h _ _ _ m b i a) rest

-- the place of another field of the same line
abbrev pub place_at : Place → ℕ → ℕ → Place
place_at p at index =
    record {
      at = at;
      lines = p.lines;
      last = p.last;
      since = p.since;
      says = p.says;
      row = p.row;
      index = index;
    }

-- A field of the row at a place, from there to past its bar at j: the place moves on by one field.
module _ (s : List ℕ) (p : Place) (row : p.row < row_count) (silent : is_silent p.row ≡ true) where
  field_passes : row_start p.row < p.index → p.index < row_start p.row + fields p.row
      → (k far j : ℕ) → k ≡ kind_number (kind p.row (bars_at p)) → is_quick k ≡ true → Past k s p.at far j → j ≤ length s
      → (before : ℕ) (t : Tally) → before + j ≤ byte_limit → PassesTo s before p t (place_at p j (p.index + 1)) t
  field_passes from to k far j is quick past within before t room =
      let n = j - p.at in
      let on = past.on in
      let bytes : before + p.at + n ≡ before + j = omega arith in
      let bars : p.index - row_start p.row + 1 + 1 ≡ p.index + 1 - row_start p.row + 1 = omega arith in
      let h = field_start p (before + p.at) in
      let inside : InField h n =
      record { later = omega arith; within = omega arith; room = omega arith; silent = silent; quick = rw (← is) quick } in
      let lengths : length (drop p.at s) ≡ n + length (drop j s) = rw (length-drop, length-drop) (omega arith) in
      let led : Passes h t (drop p.at s) (barred_of h n) t (drop j s) =
      whole_passes past.whole h n t (rw is) refl lengths inside in
      rw (at_field p (before + p.at) row, at_field (place_at p j (p.index + 1)) (before + j) row) (rw (bytes, bars) at led)

-- The loop over fields: from the place p, which is in a row, it stands at field `index` of the table, at i.
quick_code : (k : ℕ) → k ≡ code_class → is_quick k ≡ true → ⊥
unfolding is_quick
quick_code k e q = both (rw e at q) refl

module _ (p : Place) (row : p.row < row_count) (i index : ℕ) (placed : Placed (place_at p i index)) where
  not_last : suc p.row < row_count
  not_last =
      let last : p.row ≡ row9999 → ⊥ = eqb-false _ _ (silent_9999 p.row (placed.silent row)) in
      omega (arith, last)

  -- the kind of a field of the row; behind the last one, of the next row's code
  kind_here : index < row_start p.row + fields p.row
      → get_or packed_kinds index 0 ≡ kind_number (kind p.row (index - row_start p.row + 1))
  kind_here to =
      let from = placed.from row in
      let n = index - row_start p.row + 1 in
      let at : row_start p.row + (n - 1) ≡ index = omega arith in
      rw at at (kind_entry p.row n row (omega arith) (omega arith))

  kind_behind : row_start p.row + fields p.row ≤ index → get_or packed_kinds index 0 ≡ code_class
  kind_behind past =
      let to = placed.to row in
      let at : index ≡ row_start p.row + fields p.row = omega arith in
      rw at (code_behind p.row not_last)

  -- a kind that can be passed is not the next row's code
  in_row : is_quick (get_or packed_kinds index 0) ≡ true → index < row_start p.row + fields p.row
  in_row quick = go (dec_lt index (row_start p.row + fields p.row))
    where
      go : Dec (index < row_start p.row + fields p.row) → index < row_start p.row + fields p.row
      go (yes l) = l
      go (no n) = absurd (quick_code _ (kind_behind (omega arith)) quick)

  -- the index stands within the table, and a kind is a small number
  pub index_within : index < field_count
  index_within =
      let r = suc p.row in
      omega (arith, placed.to row, start_next p.row, fields_within r not_last, fields_two r not_last)

  pub kind_small : get_or packed_kinds index 0 ≤ most_kind
  kind_small = go (dec_lt index (row_start p.row + fields p.row))
    where
      go : Dec (index < row_start p.row + fields p.row) → get_or packed_kinds index 0 ≤ most_kind
      go (yes l) = rw (kind_here l) (kind_most p.row _)
      go (no n) = rw (kind_behind (omega arith)) (lit≤ tt)

module _ (s : List ℕ) (safe : ℕ) (p : Place) (row : p.row < row_count) where
  pub fielded_start : Placed p → p.at < safe + longest → Fielded s safe p p
  fielded_start placed near =
      record { placed = placed; row = refl; on = omega arith; near = near; passes = λ before t room. here }

  pub fielded_next : (i index j : ℕ) → safe ≤ length s - margin → i < safe → Fielded s safe p (place_at p i index)
      → Past (get_or packed_kinds index 0) s i (safe + longest - 1) j → is_quick (get_or packed_kinds index 0) ≡ true
      → Fielded s safe p (place_at p j (index + 1))
  fielded_next i index j fits l f past quick =
      let q = place_at p i index in
      let placed = f.placed in
      let to = in_row p row i index placed quick in
      let from = placed.from row in
      let on = past.on in
      let near = past.near in
      record {
        placed =
            record {
              row = placed.row;
              going = placed.going;
              silent = placed.silent;
              from = λ r. omega arith;
              to = λ r. omega arith;
            };
        row = refl;
        on = omega (arith, f.on);
        near = omega arith;
        passes = λ before t room. passes_join (f.passes before t room)
            (field_passes s q row (placed.silent row) from to _ _ j (kind_here p row i index placed to) quick past (omega arith) before t
            (omega arith));
      }
