-- What a step or a run answers, as document 01 numbers it: 0 going on or finished, the refusal, or 28, "budget spent", with the count.
-- Assumes nothing.
use Rattle.std.specs.Prelude.{[], ◌∷◌}
use Rattle.cells.specs.Numbered.{Numbered, gives, refuses}
use Rattle.rom.specs.Refusal.{refusal_number}
use Rattle.rom.specs.declared.refusal.Refusal.{Refusal}
use Rattle.state.specs.Answer.{Answer, Going, Finished, Refused, Spent}
use Rattle.state.specs.declared.apart.ToldBy.{ToldBy}
use Rattle.state.specs.declared.apart.ToldBy.TheVariants.{On, Over, Not}

abbrev pub answer_says : Answer → Numbered
answer_says Going = gives []
answer_says Finished = gives []
answer_says (Refused why) = refuses why
answer_says (Spent count) = record { number = 28; values = count ∷ [] }

-- the same of a token alone, which has no budget
abbrev pub told_says : ToldBy Refusal → Numbered
told_says On = gives []
told_says Over = gives []
told_says (Not why) = refuses (refusal_number why)
