-- Which refusal meets a token that is not hot, by its code. Each law is what the order of refusals leaves of it for one kind of token.
-- Assumes nothing.
use Rattle.std.proofs.Common.{◌≡◌, ℕ, ◌+◌, ◌-◌, ◌%◌, ◌^◌, ◌<◌, ◌≤◌, Bool, true, false, eqb, arith, le-ltb, lt-ltb, le-leb}
use borrow.Author.Tests.{lt-leb}
use Rattle.tokens.specs.Table.{ends, lows, highs, doubles, table, row_of}
use Rattle.tokens.specs.Code.{code_of}
use Rattle.tokens.specs.Body.{unknown_of, body_of}
use Rattle.tokens.specs.Decode.{token_of}
use Rattle.tokens.specs.declared.decoding.Operand.{Operand}
use Rattle.tokens.specs.declared.decoding.Operand.TheVariants.{Definition}
use Rattle.tokens.specs.Body.{Ends, Stops}
use Rattle.cells.specs.Choice.{pick}
use Rattle.tree.specs.Property.{bad_name}
use Rattle.tree.specs.Node.{no_room, outermost}
use Rattle.memory.specs.Cells.{uneven, outside_work}
use Rattle.tokens.specs.Definition.{colon, constant, new_number, value, variable}
use Rattle.state.specs.State.{base_of}
use Rattle.state.specs.Numbers.{seek_of, is_held, is_body, kinds_of}
use Rattle.state.specs.declared.state.Numbers.{Numbers}
use Rattle.state.specs.Scene.{Scene, cell_of}
use Rattle.state.specs.Refusals.{refusal_of, bad, bad_text, rounded, title_of, named_here, value_here, titled_here, no_room_for}
use Rattle.acts.specs.Joints.Acts.{of_cell}
use Rattle.rom.specs.Sizes.{data_most, frames_most, numbers_most, work_size}

module _ (s : Scene) (n : ℕ) (o : Operand) (next : ℕ) where
  abbrev height : ℕ
  height = s.state.stack.height

  abbrev place : ℕ
  place = s.state.work_place

  -- ---- end0, end1; offset16: they ask for nothing
  pub finish_good : height ≤ data_most → refusal_of s (token_of n 0x0210_0000 o next) ≡ 0
  unfolding refusal_of
  finish_good h = simp (le-ltb height 0 (omega arith), le-ltb data_most (height - 0 + 0) (omega arith))

  pub widen_good : height ≤ data_most → refusal_of s (token_of n 0x0610_0000 o next) ≡ 0
  unfolding refusal_of
  widen_good h = simp (le-ltb height 0 (omega arith), le-ltb data_most (height - 0 + 0) (omega arith))

  -- ---- b("): 15
  pub text_high : data_most < height + 2 → refusal_of s (token_of n 0x0502_0002 o next) ≡ 15
  unfolding refusal_of
  text_high h = simp (le-ltb height 0 (omega arith), lt-ltb data_most (height - 0 + 2) (omega arith))

  pub text_good : height + 2 ≤ data_most → refusal_of s (token_of n 0x0502_0002 o next) ≡ 0
  unfolding refusal_of
  text_good h = simp (le-ltb height 0 (omega arith), le-ltb data_most (height - 0 + 2) (omega arith))

  -- ---- exit, b(;): 16
  pub leave_unequal : eqb s.state.back.height (base_of s.state.calls) ≡ false → refusal_of s (token_of n 0x0B20_0000 o next) ≡ 16
  unfolding refusal_of
  leave_unequal e = simp (le-ltb height 0 (omega arith), e)

  pub leave_good : height ≤ data_most → eqb s.state.back.height (base_of s.state.calls) ≡ true
      → refusal_of s (token_of n 0x0B20_0000 o next) ≡ 0
  unfolding refusal_of
  leave_good h e = simp (le-ltb height 0 (omega arith), le-ltb data_most (height - 0 + 0) (omega arith), e)

  -- ---- encode+: 14, 25
  pub join_low : height < 4 → refusal_of s (token_of n 0x1400_0042 o next) ≡ 14
  unfolding refusal_of
  join_low h = simp (lt-ltb height 4 h)

  module _ (h : height ≤ data_most) (l : 4 ≤ height) where
    pub join_apart : eqb ((cell_of s 3 + cell_of s 2) % 2 ^ 32) (cell_of s 1) ≡ false → refusal_of s (token_of n 0x1400_0042 o next) ≡ 25
    unfolding refusal_of
    join_apart e = simp (le-ltb height 4 l, le-ltb data_most (height - 4 + 2) (omega arith), e)

    pub join_good : eqb ((cell_of s 3 + cell_of s 2) % 2 ^ 32) (cell_of s 1) ≡ true → refusal_of s (token_of n 0x1400_0042 o next) ≡ 0
    unfolding refusal_of
    join_good e = simp (le-ltb height 4 l, le-ltb data_most (height - 4 + 2) (omega arith), e)

  -- ---- encode-int: 14, 15, 24
  pub int_low : height < 1 → refusal_of s (token_of n 0x1200_0012 o next) ≡ 14
  unfolding refusal_of
  int_low h = simp (lt-ltb height 1 h)

  module _ (l : 1 ≤ height) where
    pub int_high : data_most < height + 1 → refusal_of s (token_of n 0x1200_0012 o next) ≡ 15
    unfolding refusal_of
    int_high h = simp (le-ltb height 1 l, lt-ltb data_most (height - 1 + 2) (omega arith))

    pub int_full : height + 1 ≤ data_most → work_size < place + 4 → refusal_of s (token_of n 0x1200_0012 o next) ≡ 24
    unfolding refusal_of
    int_full h e = simp (le-ltb height 1 l, le-ltb data_most (height - 1 + 2) (omega arith), lt-ltb work_size (place + 4) e)

    pub int_good : height + 1 ≤ data_most → place + 4 ≤ work_size → refusal_of s (token_of n 0x1200_0012 o next) ≡ 0
    unfolding refusal_of
    int_good h e = simp (le-ltb height 1 l, le-ltb data_most (height - 1 + 2) (omega arith), le-ltb work_size (place + 4) e)

  -- ---- encode-string: 14, 22, 24
  pub string_low : height < 2 → refusal_of s (token_of n 0x1300_0022 o next) ≡ 14
  unfolding refusal_of
  string_low h = simp (lt-ltb height 2 h)

  module _ (h : height ≤ data_most) (l : 2 ≤ height) where
    pub string_bad : bad_text s (cell_of s 1) (cell_of s 0) ≡ true → refusal_of s (token_of n 0x1300_0022 o next) ≡ 22
    unfolding refusal_of
    string_bad e = simp (le-ltb height 2 l, le-ltb data_most (height - 2 + 2) (omega arith), e)

    pub string_full : bad_text s (cell_of s 1) (cell_of s 0) ≡ false → work_size < place + (cell_of s 0 + 1)
        → refusal_of s (token_of n 0x1300_0022 o next) ≡ 24
    unfolding refusal_of
    string_full e f =
        simp (le-ltb height 2 l, le-ltb data_most (height - 2 + 2) (omega arith), e, lt-ltb work_size (place + (cell_of s 0 + 1)) f)

    pub string_good : bad_text s (cell_of s 1) (cell_of s 0) ≡ false → place + (cell_of s 0 + 1) ≤ work_size
        → refusal_of s (token_of n 0x1300_0022 o next) ≡ 0
    unfolding refusal_of
    string_good e f =
        simp (le-ltb height 2 l, le-ltb data_most (height - 2 + 2) (omega arith), e, le-ltb work_size (place + (cell_of s 0 + 1)) f)

  -- ---- @, c@: 14, 22, 23
  pub fetch_low : height < 1 → refusal_of s (token_of n 0x0C00_0011 o next) ≡ 14
  unfolding refusal_of
  fetch_low h = simp (lt-ltb height 1 h)

  module _ (h : height ≤ data_most) (l : 1 ≤ height) where
    pub fetch_cell : (b u : Bool) → of_cell n ≡ true → bad s (cell_of s 0) 4 ≡ b → uneven (cell_of s 0) ≡ u
        → refusal_of s (token_of n 0x0C00_0011 o next) ≡ elim b [ true ↦ 22 | false ↦ elim u [ true ↦ 23 | false ↦ 0 ] ]
    unfolding refusal_of
    fetch_cell true u c e f = simp (le-ltb height 1 l, le-ltb data_most (height - 1 + 1) (omega arith), c, e)
    fetch_cell false true c e f = simp (le-ltb height 1 l, le-ltb data_most (height - 1 + 1) (omega arith), c, e, f)
    fetch_cell false false c e f = simp (le-ltb height 1 l, le-ltb data_most (height - 1 + 1) (omega arith), c, e, f)

    pub fetch_byte : (b : Bool) → of_cell n ≡ false → bad s (cell_of s 0) 1 ≡ b
        → refusal_of s (token_of n 0x0C00_0011 o next) ≡ elim b [ true ↦ 22 | false ↦ 0 ]
    unfolding refusal_of
    fetch_byte true c e = simp (le-ltb height 1 l, le-ltb data_most (height - 1 + 1) (omega arith), c, e)
    fetch_byte false c e = simp (le-ltb height 1 l, le-ltb data_most (height - 1 + 1) (omega arith), c, e)

  -- ---- !, c!: 14, 22, 23
  pub store_low : height < 2 → refusal_of s (token_of n 0x0D00_0020 o next) ≡ 14
  unfolding refusal_of
  store_low h = simp (lt-ltb height 2 h)

  module _ (h : height ≤ data_most) (l : 2 ≤ height) where
    pub store_cell : (b u : Bool) → of_cell n ≡ true → outside_work s.work (cell_of s 0) 4 ≡ b → uneven (cell_of s 0) ≡ u
        → refusal_of s (token_of n 0x0D00_0020 o next) ≡ elim b [ true ↦ 22 | false ↦ elim u [ true ↦ 23 | false ↦ 0 ] ]
    unfolding refusal_of
    store_cell true u c e f = simp (le-ltb height 2 l, le-ltb data_most (height - 2 + 0) (omega arith), c, e)
    store_cell false true c e f = simp (le-ltb height 2 l, le-ltb data_most (height - 2 + 0) (omega arith), c, e, f)
    store_cell false false c e f = simp (le-ltb height 2 l, le-ltb data_most (height - 2 + 0) (omega arith), c, e, f)

    pub store_byte : (b : Bool) → of_cell n ≡ false → outside_work s.work (cell_of s 0) 1 ≡ b
        → refusal_of s (token_of n 0x0D00_0020 o next) ≡ elim b [ true ↦ 22 | false ↦ 0 ]
    unfolding refusal_of
    store_byte true c e = simp (le-ltb height 2 l, le-ltb data_most (height - 2 + 0) (omega arith), c, e)
    store_byte false c e = simp (le-ltb height 2 l, le-ltb data_most (height - 2 + 0) (omega arith), c, e)

  -- ---- b(to): 12, 14
  pub assign_unknown : unknown_of (kinds_of s.state.numbers) (token_of n 0x1004_0010 o next) ≡ true
      → refusal_of s (token_of n 0x1004_0010 o next) ≡ 12
  unfolding refusal_of
  assign_unknown e = simp e

  module _ (k : unknown_of (kinds_of s.state.numbers) (token_of n 0x1004_0010 o next) ≡ false) where
    pub assign_low : height < 1 → refusal_of s (token_of n 0x1004_0010 o next) ≡ 14
    unfolding refusal_of
    assign_low h = simp (k, lt-ltb height 1 h)

    pub assign_good : 1 ≤ height → height ≤ data_most → refusal_of s (token_of n 0x1004_0010 o next) ≡ 0
    unfolding refusal_of
    assign_good l h = simp (k, le-ltb height 1 l, le-ltb data_most (height - 1 + 0) (omega arith))

  -- ---- a program number: 12, 15, 17
  pub call_unknown : unknown_of (kinds_of s.state.numbers) (token_of n 0x1100_0000 o next) ≡ true
      → refusal_of s (token_of n 0x1100_0000 o next) ≡ 12
  unfolding refusal_of
  call_unknown e = simp e

  module _ (k : unknown_of (kinds_of s.state.numbers) (token_of n 0x1100_0000 o next) ≡ false) where
    abbrev of_body : Bool
    of_body = is_body s.state.numbers (seek_of s.state.numbers n)

    pub call_high : of_body ≡ false → data_most < height + 1 → refusal_of s (token_of n 0x1100_0000 o next) ≡ 15
    unfolding refusal_of
    call_high b h = simp (k, b, le-ltb height 0 (omega arith), lt-ltb data_most (height - 0 + 1) (omega arith))

    pub call_value : of_body ≡ false → height + 1 ≤ data_most → refusal_of s (token_of n 0x1100_0000 o next) ≡ 0
    unfolding refusal_of
    call_value b h = simp (k, b, le-ltb height 0 (omega arith), le-ltb data_most (height - 0 + 1) (omega arith))

    pub call_deep : of_body ≡ true → height ≤ data_most → 16 ≤ s.state.calls.count → refusal_of s (token_of n 0x1100_0000 o next) ≡ 17
    unfolding refusal_of
    call_deep b h d =
        simp (k, b, le-ltb height 0 (omega arith), le-ltb data_most (height - 0 + 0) (omega arith), le-leb 16 s.state.calls.count d)

    pub call_body : of_body ≡ true → height ≤ data_most → s.state.calls.count < frames_most
        → refusal_of s (token_of n 0x1100_0000 o next) ≡ 0
    unfolding refusal_of
    call_body b h d =
        simp (k, b, le-ltb height 0 (omega arith), le-ltb data_most (height - 0 + 0) (omega arith), lt-leb 16 s.state.calls.count d)

  -- ---- definitions: 13, what the body's reading says, 14, 24
  abbrev numbers : Numbers
  numbers = s.state.numbers

  pub define_held : is_held numbers (new_number o) ≡ true → refusal_of s (token_of n 0x0E15_0000 o next) ≡ 13
  unfolding refusal_of
  define_held e = simp e

  pub define_most : is_held numbers (new_number o) ≡ false → numbers_most ≤ numbers.count
      → refusal_of s (token_of n 0x0E15_0000 o next) ≡ 13
  unfolding refusal_of
  define_most e f = simp (e, le-leb numbers_most numbers.count f)

  module _ (m : ℕ) (e : is_held numbers m ≡ false) (f : numbers.count + 1 ≤ numbers_most) (h : height ≤ data_most) where
    pub colon_stops : (at why : ℕ) → body_of s.rom s.state.length s.state.wide (kinds_of numbers) next ≡ Stops at why
        → eqb why 0 ≡ false
        → refusal_of s (token_of n 0x0E15_0000 (Definition m colon) next) ≡ why
    unfolding refusal_of
    colon_stops at why b z = simp (e, lt-leb numbers_most numbers.count (omega arith), b, z)

    pub colon_good : (at : ℕ) → body_of s.rom s.state.length s.state.wide (kinds_of numbers) next ≡ Ends at
        → refusal_of s (token_of n 0x0E15_0000 (Definition m colon) next) ≡ 0
    unfolding refusal_of code_of row_of table ends lows highs doubles
    colon_good at b =
        simp (
          e,
          lt-leb numbers_most numbers.count (omega arith),
          b,
          le-ltb height 0 (omega arith),
          le-ltb data_most (height - 0 + 0) (omega arith),
        )

    pub variable_full : work_size < rounded place + 4 → refusal_of s (token_of n 0x0E15_0000 (Definition m variable) next) ≡ 24
    unfolding refusal_of code_of row_of table ends lows highs doubles
    variable_full w =
        simp (
          e,
          lt-leb numbers_most numbers.count (omega arith),
          le-ltb height 0 (omega arith),
          le-ltb data_most (height - 0 + 0) (omega arith),
          lt-ltb work_size (rounded place + 4) w,
        )

    pub variable_good : rounded place + 4 ≤ work_size → refusal_of s (token_of n 0x0E15_0000 (Definition m variable) next) ≡ 0
    unfolding refusal_of code_of row_of table ends lows highs doubles
    variable_good w =
        simp (
          e,
          lt-leb numbers_most numbers.count (omega arith),
          le-ltb height 0 (omega arith),
          le-ltb data_most (height - 0 + 0) (omega arith),
          le-ltb work_size (rounded place + 4) w,
        )

    pub value_low : height < 1 → refusal_of s (token_of n 0x0E15_0000 (Definition m value) next) ≡ 14
    unfolding refusal_of code_of row_of table ends lows highs doubles
    value_low l = simp (e, lt-leb numbers_most numbers.count (omega arith), lt-ltb height 1 l)

    pub value_good : 1 ≤ height → refusal_of s (token_of n 0x0E15_0000 (Definition m value) next) ≡ 0
    unfolding refusal_of code_of row_of table ends lows highs doubles
    value_good l =
        simp (e, lt-leb numbers_most numbers.count (omega arith), le-ltb height 1 l, le-ltb data_most (height - 1 + 0) (omega arith))

    pub constant_low : height < 1 → refusal_of s (token_of n 0x0E15_0000 (Definition m constant) next) ≡ 14
    unfolding refusal_of code_of row_of table ends lows highs doubles
    constant_low l = simp (e, lt-leb numbers_most numbers.count (omega arith), lt-ltb height 1 l)

    pub constant_good : 1 ≤ height → refusal_of s (token_of n 0x0E15_0000 (Definition m constant) next) ≡ 0
    unfolding refusal_of code_of row_of table ends lows highs doubles
    constant_good l =
        simp (e, lt-leb numbers_most numbers.count (omega arith), le-ltb height 1 l, le-ltb data_most (height - 1 + 0) (omega arith))

  -- ---- new-device, finish-device: 20
  pub open_full : height ≤ data_most → no_room s.state.tree ≡ true → refusal_of s (token_of n 0x1710_0000 o next) ≡ 20
  unfolding refusal_of
  open_full h e = simp (le-ltb height 0 (omega arith), le-ltb data_most (height - 0 + 0) (omega arith), e)

  pub open_good : height ≤ data_most → no_room s.state.tree ≡ false → refusal_of s (token_of n 0x1710_0000 o next) ≡ 0
  unfolding refusal_of
  open_good h e = simp (le-ltb height 0 (omega arith), le-ltb data_most (height - 0 + 0) (omega arith), e)

  pub close_outermost : height ≤ data_most → outermost s.state.first s.state.active ≡ true
      → refusal_of s (token_of n 0x1810_0000 o next) ≡ 20
  unfolding refusal_of
  close_outermost h e = simp (le-ltb height 0 (omega arith), le-ltb data_most (height - 0 + 0) (omega arith), e)

  pub close_good : height ≤ data_most → outermost s.state.first s.state.active ≡ false
      → refusal_of s (token_of n 0x1810_0000 o next) ≡ 0
  unfolding refusal_of
  close_good h e = simp (le-ltb height 0 (omega arith), le-ltb data_most (height - 0 + 0) (omega arith), e)

  -- ---- property: 14, 22, 26, 27
  pub property_low : height < 4 → refusal_of s (token_of n 0x1500_0040 o next) ≡ 14
  unfolding refusal_of
  property_low h = simp (lt-ltb height 4 h)

  module _ (h : height ≤ data_most) (l : 4 ≤ height) where
    pub property_bad_name : bad_text s (cell_of s 1) (cell_of s 0) ≡ true → refusal_of s (token_of n 0x1500_0040 o next) ≡ 22
    unfolding refusal_of
    property_bad_name e = simp (le-ltb height 4 l, le-ltb data_most (height - 4 + 0) (omega arith), e)

    module _ (e : bad_text s (cell_of s 1) (cell_of s 0) ≡ false) where
      pub property_bad_value : bad_text s (cell_of s 3) (cell_of s 2) ≡ true → refusal_of s (token_of n 0x1500_0040 o next) ≡ 22
      unfolding refusal_of
      property_bad_value f = simp (le-ltb height 4 l, le-ltb data_most (height - 4 + 0) (omega arith), e, f)

      pub property_put : (b w : Bool) → bad_text s (cell_of s 3) (cell_of s 2) ≡ false → bad_name (named_here s) ≡ b
          → no_room_for s (named_here s) (value_here s) ≡ w
          → refusal_of s (token_of n 0x1500_0040 o next) ≡ pick b 26 (pick w 27 0)
      unfolding refusal_of
      property_put true w f g i = simp (le-ltb height 4 l, le-ltb data_most (height - 4 + 0) (omega arith), e, f, g)
      property_put false true f g i = simp (le-ltb height 4 l, le-ltb data_most (height - 4 + 0) (omega arith), e, f, g, i)
      property_put false false f g i = simp (le-ltb height 4 l, le-ltb data_most (height - 4 + 0) (omega arith), e, f, g, i)

  -- ---- device-name, model, device-type: 14, 22, 27
  pub title_low : height < 2 → refusal_of s (token_of n 0x1600_0020 o next) ≡ 14
  unfolding refusal_of
  title_low h = simp (lt-ltb height 2 h)

  module _ (h : height ≤ data_most) (l : 2 ≤ height) where
    pub title_bad : bad_text s (cell_of s 1) (cell_of s 0) ≡ true → refusal_of s (token_of n 0x1600_0020 o next) ≡ 22
    unfolding refusal_of
    title_bad e = simp (le-ltb height 2 l, le-ltb data_most (height - 2 + 0) (omega arith), e)

    pub title_put : (w : Bool) → bad_text s (cell_of s 1) (cell_of s 0) ≡ false → no_room_for s (title_of n) (titled_here s) ≡ w
        → refusal_of s (token_of n 0x1600_0020 o next) ≡ pick w 27 0
    unfolding refusal_of
    title_put true e i = simp (le-ltb height 2 l, le-ltb data_most (height - 2 + 0) (omega arith), e, i)
    title_put false e i = simp (le-ltb height 2 l, le-ltb data_most (height - 2 + 0) (omega arith), e, i)
