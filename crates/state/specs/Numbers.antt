-- The program numbers of a state: "A number or name held twice: the oldest counts." Assumes nothing.
use Rattle.std.specs.Prelude.{ℕ, zero, suc, ◌+◌, Bool, true, false, List, [], ◌∷◌, get_or, set, ltb, eqb}
use Rattle.cells.specs.Choice.{pick, find}
use Rattle.tokens.specs.Definition.{colon, value, constant}
use Rattle.tokens.specs.Table.{programs_most, first_program}
use Rattle.state.specs.declared.state.Numbers.{Numbers}

-- program numbers by their fields, which are listed nowhere else
abbrev pub numbers_on : List ℕ → List ℕ → List ℕ → List Bool → ℕ → Numbers
numbers_on programs kinds values ways held =
    record { programs = programs; kinds = kinds; values = values; wides = ways; count = held }

-- where a number stands, the oldest first, of so many from i on; the end where it is not there
unfoldable pub seek_from : List ℕ → ℕ → ℕ → ℕ → ℕ
seek_from programs n zero i = i
seek_from programs n (suc k) i = elim (eqb (get_or programs i 0) n) [ true ↦ i | false ↦ seek_from programs n k (i + 1) ]

abbrev pub seek_of : Numbers → ℕ → ℕ
seek_of ns n = seek_from ns.programs n ns.count 0

abbrev pub is_held : Numbers → ℕ → Bool
is_held ns n = ltb (seek_of ns n) ns.count

-- an entry's kind: what is neither b(:) nor b(value) gives its value and takes no other, as b(constant) does
abbrev pub kind_of_byte : ℕ → ℕ
kind_of_byte k = find ((colon, colon) ∷ (value, value) ∷ []) constant k

abbrev pub kind_at : Numbers → ℕ → ℕ
kind_at ns i = kind_of_byte (get_or ns.kinds i 0)

abbrev pub is_body : Numbers → ℕ → Bool
is_body ns i = eqb (get_or ns.kinds i 0) colon

-- the kind of a number, 0 where it is not held
unfoldable pub kind_held : Numbers → ℕ → ℕ
kind_held ns n = pick (is_held ns n) (kind_at ns (seek_of ns n)) 0

-- of each number from n on: the kinds that reading a body goes by
unfoldable pub kinds_from : Numbers → ℕ → ℕ → List ℕ
kinds_from ns zero n = []
kinds_from ns (suc k) n = kind_held ns n ∷ kinds_from ns k (n + 1)

abbrev pub kinds_of : Numbers → List ℕ
kinds_of ns = kinds_from ns programs_most first_program

-- one number more
abbrev pub defined_of : Numbers → ℕ → ℕ → ℕ → Bool → Numbers
defined_of ns n kind v wide =
    numbers_on (set ns.programs ns.count n) (set ns.kinds ns.count kind) (set ns.values ns.count v)
    (set ns.wides ns.count wide) (ns.count + 1)

-- another value
abbrev pub assigned_of : Numbers → ℕ → ℕ → Numbers
assigned_of ns i v = numbers_on ns.programs ns.kinds (set ns.values i v) ns.wides ns.count
