-- The token list of document 01, "Tokens, by number (hex)": every token of it is a row here, and nothing else is. Assumes nothing.
use Rattle.std.specs.Prelude.{ℕ, Bool, ◌&&◌, List, [], ◌∷◌, ◌++◌, leb}
use Rattle.cells.specs.Choice.{pick, find}
use Rattle.cells.specs.Arithmetic.{plus_of, minus_of, times_of, and_of, or_of, xor_of, invert_of, lshift_of, rshift_of, ashift_of}
use Rattle.cells.specs.Arithmetic.{remainder_of, quotient_of, negate_of, abs_of, min_of, max_of, half_of, u_half_of, double_of}
use Rattle.cells.specs.Comparison.{zero_equal_of, zero_unequal_of, zero_less_of, zero_at_most_of, zero_greater_of, zero_at_least_of}
use Rattle.cells.specs.Comparison.{less_of, greater_of, equal_of, unequal_of, u_greater_of, u_at_most_of, u_less_of, u_at_least_of}
use Rattle.cells.specs.Comparison.{at_least_of, at_most_of}
use Rattle.cells.specs.Comparison.{between_of, within_of}
use Rattle.tokens.specs.Family.{unlisted, finish, always, choice, text, widen, divide, pick_up, roll_up, maybe, leave, fetch, store}
use Rattle.tokens.specs.Family.{define, kind, assign, call, encode_int, encode_string, join, property, titled, new_device, finish_device}
use Rattle.tokens.specs.Row.{Row, none, literal, string, offset, number, head, named_head}
use Rattle.tokens.specs.Row.{nowhere, inside, outside, everywhere, top, returned, says, operand, one, two, three, reckons, pure}
use Rattle.tokens.specs.Row.{works}

-- "00 end0, FF end1: finish"
unfoldable pub ends : List (ℕ × Row)
ends =
    (0x00, works "end0" finish inside none 0 0 []) ∷
    (0xFF, works "end1" finish inside none 0 0 []) ∷
    []

-- the others of one byte, up to 59 and from there on
unfoldable pub lows : List (ℕ × Row)
lows =
    (0x10, reckons "b(lit)" literal 0 (operand ∷ []) 0 []) ∷
    (0x12, works "b(\")" text nowhere string 0 2 []) ∷
    (0x13, works "bbranch" always nowhere offset 0 0 []) ∷
    (0x14, works "b?branch" choice nowhere offset 1 0 []) ∷
    (0x1E, pure "+" 2 (two plus_of ∷ [])) ∷
    (0x1F, pure "-" 2 (two minus_of ∷ [])) ∷
    (0x20, pure "*" 2 (two times_of ∷ [])) ∷
    (0x23, pure "and" 2 (two and_of ∷ [])) ∷
    (0x24, pure "or" 2 (two or_of ∷ [])) ∷
    (0x25, pure "xor" 2 (two xor_of ∷ [])) ∷
    (0x26, pure "invert" 1 (one invert_of ∷ [])) ∷
    (0x27, pure "lshift" 2 (two lshift_of ∷ [])) ∷
    (0x28, pure "rshift" 2 (two rshift_of ∷ [])) ∷
    (0x29, pure ">>a" 2 (two ashift_of ∷ [])) ∷
    (0x2B, works "u/mod" divide nowhere none 2 2 (two remainder_of ∷ two quotient_of ∷ [])) ∷
    (0x2C, pure "negate" 1 (one negate_of ∷ [])) ∷
    (0x2D, pure "abs" 1 (one abs_of ∷ [])) ∷
    (0x2E, pure "min" 2 (two min_of ∷ [])) ∷
    (0x2F, pure "max" 2 (two max_of ∷ [])) ∷
    (0x30, reckons ">r" none 1 [] 0 (top 0 ∷ [])) ∷
    (0x31, reckons "r>" none 0 (returned ∷ []) 1 []) ∷
    (0x32, reckons "r@" none 0 (returned ∷ []) 1 (returned ∷ [])) ∷
    (0x33, works "exit" leave outside none 0 0 []) ∷
    (0x34, pure "0=" 1 (one zero_equal_of ∷ [])) ∷
    (0x35, pure "0<>" 1 (one zero_unequal_of ∷ [])) ∷
    (0x36, pure "0<" 1 (one zero_less_of ∷ [])) ∷
    (0x37, pure "0<=" 1 (one zero_at_most_of ∷ [])) ∷
    (0x38, pure "0>" 1 (one zero_greater_of ∷ [])) ∷
    (0x39, pure "0>=" 1 (one zero_at_least_of ∷ [])) ∷
    (0x3A, pure "<" 2 (two less_of ∷ [])) ∷
    (0x3B, pure ">" 2 (two greater_of ∷ [])) ∷
    (0x3C, pure "=" 2 (two equal_of ∷ [])) ∷
    (0x3D, pure "<>" 2 (two unequal_of ∷ [])) ∷
    (0x3E, pure "u>" 2 (two u_greater_of ∷ [])) ∷
    (0x3F, pure "u<=" 2 (two u_at_most_of ∷ [])) ∷
    (0x40, pure "u<" 2 (two u_less_of ∷ [])) ∷
    (0x41, pure "u>=" 2 (two u_at_least_of ∷ [])) ∷
    (0x42, pure ">=" 2 (two at_least_of ∷ [])) ∷
    (0x43, pure "<=" 2 (two at_most_of ∷ [])) ∷
    (0x44, pure "between" 3 (three between_of ∷ [])) ∷
    (0x45, pure "within" 3 (three within_of ∷ [])) ∷
    (0x46, pure "drop" 1 []) ∷
    (0x47, pure "dup" 1 (top 0 ∷ top 0 ∷ [])) ∷
    (0x48, pure "over" 2 (top 1 ∷ top 0 ∷ top 1 ∷ [])) ∷
    (0x49, pure "swap" 2 (top 0 ∷ top 1 ∷ [])) ∷
    (0x4A, pure "rot" 3 (top 1 ∷ top 0 ∷ top 2 ∷ [])) ∷
    (0x4B, pure "-rot" 3 (top 0 ∷ top 2 ∷ top 1 ∷ [])) ∷
    (0x4C, pure "tuck" 2 (top 0 ∷ top 1 ∷ top 0 ∷ [])) ∷
    (0x4D, pure "nip" 2 (top 0 ∷ [])) ∷
    -- of these three the count or the flag is taken, and what else they reach hangs on it
    (0x4E, works "pick" pick_up nowhere none 1 1 []) ∷
    (0x4F, works "roll" roll_up nowhere none 1 0 []) ∷
    (0x50, works "?dup" maybe nowhere none 1 1 []) ∷
    (0x51, pure "depth" 0 ((λ s. s.height) ∷ [])) ∷
    (0x52, pure "2drop" 2 []) ∷
    (0x53, pure "2dup" 2 (top 1 ∷ top 0 ∷ top 1 ∷ top 0 ∷ [])) ∷
    (0x54, pure "2over" 4 (top 3 ∷ top 2 ∷ top 1 ∷ top 0 ∷ top 3 ∷ top 2 ∷ [])) ∷
    (0x55, pure "2swap" 4 (top 1 ∷ top 0 ∷ top 3 ∷ top 2 ∷ [])) ∷
    (0x56, pure "2rot" 6 (top 3 ∷ top 2 ∷ top 1 ∷ top 0 ∷ top 5 ∷ top 4 ∷ [])) ∷
    (0x57, pure "2/" 1 (one half_of ∷ [])) ∷
    (0x58, pure "u2/" 1 (one u_half_of ∷ [])) ∷
    (0x59, pure "2*" 1 (one double_of ∷ [])) ∷
    []

unfoldable pub highs : List (ℕ × Row)
highs =
    (0x6D, works "@" fetch nowhere none 1 1 []) ∷
    (0x71, works "c@" fetch nowhere none 1 1 []) ∷
    (0x72, works "!" store nowhere none 2 0 []) ∷
    (0x75, works "c!" store nowhere none 2 0 []) ∷
    (0x7B, pure "noop" 0 []) ∷
    (0xA4, pure "-1" 0 (says 0xFFFF_FFFF ∷ [])) ∷
    (0xA5, pure "0" 0 (says 0 ∷ [])) ∷
    (0xA6, pure "1" 0 (says 1 ∷ [])) ∷
    (0xA7, pure "2" 0 (says 2 ∷ [])) ∷
    (0xA8, pure "3" 0 (says 3 ∷ [])) ∷
    -- "B1, B2: no effect (house: branches go by position)"
    (0xB1, pure "b(<mark)" 0 []) ∷
    (0xB2, pure "b(>resolve)" 0 []) ∷
    (0xB5, works "new-token" define inside head 0 0 []) ∷
    (0xB6, works "named-token" define inside named_head 0 0 []) ∷
    -- the kinds: what they take is taken by the definition whose kind they are
    (0xB7, works "b(:)" kind everywhere none 0 0 []) ∷
    (0xB8, works "b(value)" kind everywhere none 1 0 []) ∷
    (0xB9, works "b(variable)" kind everywhere none 0 0 []) ∷
    (0xBA, works "b(constant)" kind everywhere none 1 0 []) ∷
    (0xC2, works "b(;)" leave outside none 0 0 []) ∷
    (0xC3, works "b(to)" assign nowhere number 1 0 []) ∷
    (0xCA, works "external-token" define inside named_head 0 0 []) ∷
    (0xCC, works "offset16" widen inside none 0 0 []) ∷
    []

-- those of two bytes
unfoldable pub doubles : List (ℕ × Row)
doubles =
    (0x110, works "property" property nowhere none 4 0 []) ∷
    (0x111, works "encode-int" encode_int nowhere none 1 2 []) ∷
    (0x112, works "encode+" join nowhere none 4 2 []) ∷
    (0x114, works "encode-string" encode_string nowhere none 2 2 []) ∷
    (0x119, works "model" titled nowhere none 2 0 []) ∷
    (0x11A, works "device-type" titled nowhere none 2 0 []) ∷
    (0x11F, works "new-device" new_device inside none 0 0 []) ∷
    (0x127, works "finish-device" finish_device inside none 0 0 []) ∷
    (0x201, works "device-name" titled nowhere none 2 0 []) ∷
    []

unfoldable pub table : List (ℕ × Row)
unfolding ends lows highs doubles
table = ends ++ (lows ++ (highs ++ doubles))

-- a program number takes and gives what it was defined to
abbrev pub program : Row
program = works "program number" call nowhere none 0 0 []

abbrev pub not_listed : Row
not_listed = works "" unlisted nowhere none 0 0 []

-- "a new number outside 0x800-0xFFF" is none of a program
abbrev pub first_program : ℕ
first_program = 0x800

abbrev pub last_program : ℕ
last_program = 0xFFF

-- how many there are, each with its place in the tables of numbers
abbrev pub programs_most : ℕ
programs_most = 2048

abbrev pub is_program : ℕ → Bool
is_program n = leb first_program n && leb n last_program

unfoldable pub row_of : ℕ → Row
unfolding table
row_of n = pick (is_program n) program (find table not_listed n)
