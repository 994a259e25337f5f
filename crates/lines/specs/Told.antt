-- What a text leaves in a buffer that is lent for it: the text, one zero behind it, what lies behind that as it was, and the text's length
-- handed back. A buffer of another size is left as it was, and 0 handed back. Assumes nothing.
use Rattle.std.specs.Prelude.{ℕ, ◌+◌, Bool, not, ◌||◌, List, ◌∷◌, ◌++◌, length, drop, eqb}
use Rattle.cells.specs.Choice.{pick}
use Rattle.rom.specs.Sizes.{store_size, text_size}
use Rattle.tree.specs.Whole.{whole_tree}
use Rattle.tree.specs.declared.tree.Tree.{Tree}
use Rattle.lines.specs.Lines.{refused_line, run_text}

pub record Told : Type 0 where
  pub length : ℕ
  pub text : List ℕ

abbrev pub told : ℕ → List ℕ → Told
told n text = record { length = n; text = text }

-- a buffer with words at its start and a zero behind them, and the rest of it as it was
abbrev pub filled : List ℕ → List ℕ → List ℕ
filled text words = words ++ (0 ∷ drop (length words + 1) text)

abbrev pub told_as : List ℕ → List ℕ → Told
told_as text words = told (length words) (filled text words)

abbrev pub wrong_text : List ℕ → Bool
wrong_text text = not (eqb (length text) text_size)

-- the one line of a refusal
unfoldable pub refused_told : List ℕ → ℕ → Told
refused_told text number = pick (wrong_text text) (told 0 text) (told_as text (refused_line number))

-- the listing of a run; a store of another size or a damaged tree has none
unfoldable pub run_told : List ℕ → List ℕ → Tree → ℕ → ℕ → Told
run_told text store t steps number =
    pick (wrong_text text || (not (eqb (length store) store_size) || not (whole_tree t))) (told 0 text)
    (told_as text (run_text t store steps number))
