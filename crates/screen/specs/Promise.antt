-- The screen's promise: which answer, and which marks, for every ROM and every mark buffer; it passes a ROM exactly where an assignment
-- exists. Assumes nothing.
use Rattle.std.specs.Prelude.{ℕ, suc, ◌≡◌, List, ◌≢◌, length, get_or, replicate, Err, Ok, Result}
use Rattle.rom.specs.Sizes.{marks_size}
use Rattle.rom.specs.Header.{header_of}
use Rattle.screen.specs.Reach.{Setting, Reach}
use Rattle.screen.specs.Rules.{Assignment}

-- "Afterwards the mark buffer holds height plus one at each reachable token (body heights as if entered at the need), else zero"
pub record Marks (rom : List ℕ) (a : Assignment rom) (marks : List ℕ) : Type 0 where
  pub size : length marks ≡ marks_size
  pub height : {x p : ℕ} {s : Setting} → Reach rom x s p → get_or marks p 0 ≡ suc (a.height x p)
  pub elsewhere : (p : ℕ) → ((x : ℕ) (s : Setting) → Reach rom x s p → ⊥) → get_or marks p 0 ≡ 0

-- the tests in their order: the buffer's size, the header's own, and then the height rules; `before` is what the buffer held
pub data Promised (rom before : List ℕ) : Result (Unit {0}) ℕ → List ℕ → Type 0 where
  -- "6 | a lent buffer has the wrong size"
  wrong_size : length before ≢ marks_size → Promised rom before (Err 6) before
  -- "after header refusals unwritten"
  bad_header : length before ≡ marks_size → header_of rom ≢ 0 → Promised rom before (Err (header_of rom)) before
  -- "31 | no height assignment exists"; "after 31 all zero"
  no_heights : length before ≡ marks_size → header_of rom ≡ 0 → (Assignment rom → ⊥)
      → Promised rom before (Err 31) (replicate marks_size 0)
  passes : {marks : List ℕ} → length before ≡ marks_size → header_of rom ≡ 0 → (a : Assignment rom) → Marks rom a marks
      → Promised rom before (Ok tt) marks

-- 0 for a ROM that passes
abbrev pub verdict_number : Result (Unit {0}) ℕ → ℕ
verdict_number (Ok tt) = 0
verdict_number (Err why) = why
