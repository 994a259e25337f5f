use Rattle.lines.specs.Numbers.{has_words}
use Rattle.lines.proofs.numbers.has_words.Goals as goal

pub returns : goal.returns
unfolding has_words
returns c = rw (c.is_empty.ensures, c.words.ensures)
