-- How a token that is done in place fared, as document 01 numbers it: the refusal, or 0 where it was carried out, and where it is left to
-- another call. Assumes nothing.
use Rattle.std.specs.Prelude.{[]}
use Rattle.cells.specs.Numbered.{Numbered, gives, refuses}
use Rattle.reckon.specs.Joints.Turned.{Fared, On, Cold, Not}

abbrev pub fared_says : Fared → Numbered
fared_says On = gives []
fared_says Cold = gives []
fared_says (Not why) = refuses why
