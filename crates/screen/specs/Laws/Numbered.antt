-- What the enums of this crate say is what the definitions compute. Assumes nothing.
use Rattle.std.specs.Prelude.{ℕ, List, ◌≢◌, ◌≡◌, refl, length, Err, Ok, Result}
use Rattle.rom.specs.Sizes.{marks_size}
use Rattle.rom.specs.Header.{header_of}
use Rattle.screen.specs.Rules.{Assignment}
use Rattle.screen.specs.Promise.{Promised, wrong_size, bad_header, no_heights, passes, verdict_number}
use Rattle.screen.specs.Numbered.{verdict_says}

-- the number that the host is given is that one
pub verdict_number_lem : (v : Result (Unit {0}) ℕ) → (verdict_says v).number ≡ verdict_number v
verdict_number_lem (Ok tt) = refl
verdict_number_lem (Err why) = refl

-- what a verdict that the promise allows says: 6 for a mark buffer of the wrong size, then the header's refusal, and then 31 where no
-- height assignment exists and 0 where one does
abbrev pub Says : List ℕ → List ℕ → ℕ → Type 0
Says rom before number =
    (length before ≢ marks_size → number ≡ 6)
    × (length before ≡ marks_size → header_of rom ≢ 0 → number ≡ header_of rom)
    × (length before ≡ marks_size → header_of rom ≡ 0 → Assignment rom → number ≡ 0)
    × (length before ≡ marks_size → header_of rom ≡ 0 → (Assignment rom → ⊥) → number ≡ 31)

pub promised_says : (rom before : List ℕ) (v : Result (Unit {0}) ℕ) (marks : List ℕ) → Promised rom before v marks
    → Says rom before (verdict_says v).number
promised_says rom before v marks (wrong_size n) =
    (λ m. refl, λ e h. absurd (n e), λ e h a. absurd (n e), λ e h a. absurd (n e))
promised_says rom before v marks (bad_header e h) =
    (λ n. absurd (n e), λ f i. refl, λ f i a. absurd (h i), λ f i a. absurd (h i))
promised_says rom before v marks (no_heights e h lacks) =
    (λ n. absurd (n e), λ f i. absurd (i h), λ f i a. absurd (lacks a), λ f i a. refl)
promised_says rom before v marks (passes e h a m) =
    (λ n. absurd (n e), λ f i. absurd (i h), λ f i b. refl, λ f i lacks. absurd (lacks a))
