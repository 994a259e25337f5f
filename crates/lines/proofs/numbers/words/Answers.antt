use Rattle.std.proofs.Common.{◌≡◌, ◌<◌, ℕ, List, Bor, get_or, sym, ◌∙◌, zero-add, rules}
use Rattle.std.specs.Prelude.{map}
use Rattle.std.specs.List.{range_with_len}
use Rattle.std.proofs.Math.ListN.{get_or-map}
use Rattle.std.proofs.lemmas.List.FromFn.{get_or-map-range_with_len}
use Rattle.rom.specs.Words.{letters_of}
use Rattle.lines.specs.Numbers.{words_of, opening, naming, moving, running, other}
use Rattle.lines.specs.Laws.Numbers.{words_none}
use Rattle.lines.proofs.numbers.words.Goals as goal

-- a table that has the words of 0 to 31 in turn has a number's words at its place
words_at : (t : List (Bor (List ℕ))) (n : ℕ) (d : Bor (List ℕ))
    → map (λ (b : Bor (List ℕ)). b.now) t ≡ map words_of (range_with_len 0 32) → n < 32 → (get_or t n d).now ≡ words_of n
words_at t n d same h =
    sym (get_or-map (λ (b : Bor (List ℕ)). b.now) t n d)
    ∙ rw same (get_or-map-range_with_len words_of 0 32 n n d.now h (zero-add n))

pub returns-then-k-lt32 : goal.returns-then-k-lt32
unfolding words_of opening naming moving running other letters_of
returns-then-k-lt32 c = search (rules, words_at)

pub returns-else-k-lt32 : goal.returns-else-k-lt32
returns-else-k-lt32 c = rw (words_none c.args.number c.if-k-lt32.false)
