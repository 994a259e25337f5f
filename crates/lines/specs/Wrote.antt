-- What a call leaves that writes bytes into a text from a place on, and how such calls go one behind the other. What lies past the text's
-- end is left out, so that such a call asks nothing of its caller, and a line may be written without a word on how long it is. Assumes
-- nothing.
use Rattle.std.specs.Prelude.{ℕ, ◌+◌, min, max, List, ◌≡◌, length}
use Rattle.memory.specs.Writing.{written_of}

-- the place behind so many bytes from a place on, in a text of a size: the text's end where they pass it, and no step where they begin
-- there. It is shut, since the splits of `max` and `min` would multiply in every proof that has a `Wrote` in reach
unfoldable pub reach_of : ℕ → ℕ → ℕ → ℕ
reach_of size at n = max at (min (at + n) size)

-- the text with the bytes from a place on, and the place behind them
pub record Wrote (before after : List ℕ) (at end : ℕ) (words : List ℕ) : Type 0 where
  pub text : after ≡ written_of before at words
  pub place : end ≡ reach_of (length before) at (length words)
