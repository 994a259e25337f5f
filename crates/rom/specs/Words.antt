-- A text as the bytes of its letters. Assumes nothing.
use Rattle.std.specs.Prelude.{ℕ, List, [] as none, ◌∷◌ as first}
use Prim.Native.Char.{code}
use Prim.Native.String.{String, [], ◌∷◌}

unfoldable pub letters_of : String → List ℕ
letters_of [] = none
letters_of (c ∷ s) = first (code c) (letters_of s)
