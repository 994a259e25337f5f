-- Where the value of a property that is looked up lies, by its first place in the store and its size, or why there is none. Assumes
-- nothing.
use Rattle.std.specs.Prelude.{ℕ, Result, Ok, Err}
use Rattle.rom.specs.Refusal.{refusal_number}
use Rattle.rom.specs.declared.refusal.Refusal.{Refusal}
use Rattle.tree.specs.declared.lookup.ValuePlace.{ValuePlace}

pub data ValueSought : Type 0 where
  Value : (at size : ℕ) → ValueSought
  Unfound : (why : ℕ) → ValueSought

-- what is handed back of one
abbrev pub sought_in : Result ValuePlace Refusal → ValueSought
sought_in (Ok v) = Value v.at v.size
sought_in (Err why) = Unfound (refusal_number why)
