use mathlib.Core.Bool.{or_assoc, or-false}
use Rattle.rom.specs.Words.{letters_of}
use Rattle.tree.specs.Property.{is_one_of, name_byte}
use Rattle.tree.proofs.property.is_name_byte.Goals as goal

pub returns : goal.returns
unfolding name_byte is_one_of letters_of
returns c = simp (or_assoc, or-false)
