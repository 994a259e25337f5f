-- Where a range of addresses lies, and what is fetched, as document 01 numbers them: 22, "address range in no window", 23, "cell address
-- not a multiple of 4", or the value. Assumes nothing.
use Rattle.std.specs.Prelude.{◌+◌, [], ◌∷◌, Err, Ok, Result, ℕ}
use Rattle.cells.specs.Numbered.{Numbered, gives, refuses}
use Rattle.memory.specs.Window.{rom_base, work_base}
use Rattle.memory.specs.declared.window.Window.{Window}
use Rattle.memory.specs.declared.window.Window.TheVariants.{Rom, Work, Nowhere}

-- "ROM byte k has address 10000000+k up to the program length, work byte k 20000000+k"
abbrev pub window_says : Window → Numbered
window_says (Rom k) = gives ((rom_base + k) ∷ [])
window_says (Work k) = gives ((work_base + k) ∷ [])
window_says Nowhere = refuses 22

abbrev pub fetched_says : Result ℕ ℕ → Numbered
fetched_says (Ok x) = gives (x ∷ [])
fetched_says (Err why) = refuses why
