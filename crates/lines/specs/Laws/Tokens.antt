-- Laws of the token list: the parts of an operand lie in order; the lines show the bytes of the program, every byte once and in order;
-- written one by one they are the list; and none is longer than `line_most`. Assumes nothing.
use Rattle.std.specs.Prelude.{ℕ, zero, suc, ◌+◌, ◌*◌, ◌-◌, ◌/◌, ◌%◌, ◌≤◌, ◌<◌, Bool, ◌||◌, ◌≡◌, length, drop, ltb, leb, eqb, None, Option}
use Rattle.std.specs.Prelude.{Some}
use Rattle.std.proofs.Math.Decide.{dec_lt}
use native.Mathlib.Omega.{arith}
use mathlib.Core.List.{List, [], ◌∷◌, ◌++◌, append-nil}
use Rattle.std.proofs.Math.Path.{refl}
use Rattle.std.proofs.Common.{sym, ap, ◌∙◌, length-append, length-take, eq-eqb, le-ltb, eqb→eq}
use Rattle.cells.specs.Laws.Tests.{pick_is, tests}
use Rattle.rom.specs.Bytes.{byte_of}
use Rattle.rom.specs.Words.{letters_of}
use Rattle.rom.specs.Header.{header_of, length_of, wide_of}
use Rattle.rom.specs.Laws.Header.{header_facts}
use Rattle.rom.specs.Sizes.{rom_most}
use Rattle.tree.specs.Laws.Layout.{part_join}
use Rattle.tokens.specs.Row.{string, head, named_head}
use Rattle.tokens.specs.Code.{code_of, form_in}
use Rattle.tokens.specs.Decode.{is_double, number_of, behind_number, behind_string, behinds, behind_of, operand_of}
use Rattle.tokens.specs.Decode.{listed, token_of, token_if_whole, decode_of}
use Rattle.tokens.specs.Laws.Tokens.{find_is, number_ahead, behind_ahead}
use Rattle.tokens.specs.Laws.Name.{name_size_lem}
use Rattle.tokens.specs.Reader.{end_of, piece_in, piece_of, walk_from, walk_of}
use Rattle.tokens.specs.Laws.Reader.{Formed, Lies, lies_as, past, walk_at, walk_is, walk_holds, good_end, piece_end}
use Rattle.tokens.specs.declared.decoding.Operand.{Operand}
use Rattle.tokens.specs.declared.decoding.Operand.TheVariants.{Nothing, Literal, Text, Branch, Number, Definition}
use Rattle.tokens.specs.declared.decoding.Token.{Token}
use Rattle.tokens.specs.declared.decoding.Decoded.{Decoded}
use Rattle.tokens.specs.declared.decoding.Decoded.TheVariants.{Cut, Unlisted, Whole}
use Rattle.tokens.specs.declared.reader.Piece.{Piece}
use Rattle.tokens.specs.declared.reader.Piece.TheVariants.{End, Raw, Listed}
use Rattle.lines.specs.Digits.{hex_of}
use Rattle.lines.specs.Lines.{line_end, shown}
use Rattle.lines.specs.Printed.{all_printed, quoted}
use Rattle.lines.specs.Laws.Texts.{length_shown}
use Rattle.lines.specs.TokenLines.{between, high_digits, place_text, cuts, cuts_of, parts_at, token_cuts, all_shown}
use Rattle.lines.specs.TokenLines.{aim_remark, branch_remark, string_remark, raw_remark}
use Rattle.lines.specs.TokenLines.{Line, line_text, parts_joined, line_bytes, raw_line, token_line, piece_lines, token_text, OwnBytes}
use Rattle.lines.specs.TokenLines.{bytes_shown}
use Rattle.lines.specs.TokenLines.{listed_at, text_in, next_in, wide_in, piece_text, next_of, wide_behind, lines_from, line_most}
use Rattle.lines.specs.declared.pieces.Cuts.{Cuts}

-- ---- the parts of an operand lie in order
abbrev pub Ordered : ℕ → Cuts → ℕ → Type 0
Ordered start c next = (start ≤ c.first) × (c.first ≤ c.second) × (c.second ≤ c.third) × (c.third ≤ next)

cuts_ordered : (fcode : List ℕ) (wide : Bool) (start next form : ℕ) → next ≡ behind_of fcode wide start form
    → Ordered start (cuts_of fcode start next form) next
unfolding behind_of
cuts_ordered fcode wide start next form e =
    let b = behind_ahead fcode wide start form in
    pick_is (λ c. Ordered start c next) (eqb form string) _ _ (λ t. text (eqb→eq form string t))
    (λ t. pick_is (λ c. Ordered start c next) (eqb form head) _ _ (λ u. heads (eqb→eq form head u))
    (λ u. pick_is (λ c. Ordered start c next) (eqb form named_head) _ _ (λ v. named (eqb→eq form named_head v))
    (λ v. (omega arith, omega arith, omega arith, omega arith))))
  where
    text : form ≡ string → Ordered start (cuts (start + 1) next next) next
    text f = let g = rw f at e in (omega arith, omega arith, omega arith, omega arith)

    heads : form ≡ head → Ordered start (cuts (next - 1) next next) next
    heads f =
        let g = rw f at e in
        let n = number_ahead fcode start in
        (omega arith, omega arith, omega arith, omega arith)

    named : form ≡ named_head → Ordered start (cuts (start + 1) (behind_string fcode start) (next - 1)) next
    named f =
        let g = rw f at e in
        let n = number_ahead fcode (behind_string fcode start) in
        (omega arith, omega arith, omega arith, omega arith)

-- so the second of them, which a string's bytes are, lies in the ROM where the whole operand does
pub second_inside : (start : ℕ) (c : Cuts) (next size : ℕ) → Ordered start c next → next ≤ size
    → (c.first ≤ c.second) × (c.second ≤ size)
second_inside start c next size o h =
    let a = o.1 in
    let b = o.2 in
    let d = o.3 in
    (a, omega arith)

-- a program's end is no further than the bytes that are lent
pub end_inside : (fcode : List ℕ) → end_of fcode ≤ length fcode
end_inside fcode =
    pick_is (λ n. n ≤ length fcode) (ltb (length fcode) (length_of fcode)) (length fcode) (length_of fcode) (λ t. omega arith)
    (λ t. omega (arith, tests))

-- an operand as it lies in a ROM, and a token of the list with it
abbrev pub OperandLies : List ℕ → ℕ → Token → Type 0
OperandLies fcode start t = (start ≤ rom_most) × (0 < t.next) × (t.next ≤ length fcode) × Ordered start (token_cuts fcode start t) t.next

abbrev pub TokenLies : List ℕ → ℕ → ℕ → Token → Type 0
TokenLies fcode p start t = (p ≤ start) × (start ≤ length fcode) × OperandLies fcode start t

module _ (fcode : List ℕ) (wide : Bool) (p : ℕ) where
  pub raw_lies : (next : ℕ) → piece_of fcode wide p ≡ Raw next → (p ≤ next) × (next ≤ length fcode)
  raw_lies next e =
      let l = lies_as fcode wide p (Raw next) e in
      let a = l.0 in
      let b = l.1 in
      let i = end_inside fcode in
      (omega arith, omega arith)

  pub listed_lies : length fcode ≤ rom_most → (t : Token) (s : ℕ) (w : Bool) → piece_of fcode wide p ≡ Listed t s w → TokenLies fcode p s t
  listed_lies few t s w e =
      let l = lies_as fcode wide p (Listed t s w) e in
      let f = l.1 in
      let n = number_ahead fcode p in
      let b = f.before in
      let i = end_inside fcode in
      let st = f.starts in
      let at = l.0 in (
        omega arith,
        omega arith,
        (omega arith, omega arith, omega arith, cuts_ordered fcode wide s t.next (form_in t.code) (rw at f.ends)),
      )

-- ---- the bytes that are shown
between_join : (fcode : List ℕ) (a b c : ℕ) → a ≤ b → b ≤ c → between fcode a b ++ between fcode b c ≡ between fcode a c
between_join fcode a b c h g =
    let e : a + (b - a) ≡ b = omega arith in
    let f : b - a + (c - b) ≡ c - a = omega arith in
    rw f at (rw e at (part_join fcode a (b - a) (c - b)))

joined_parts : (fcode : List ℕ) (start : ℕ) (c : Cuts) (next : ℕ) → Ordered start c next
    → parts_joined (parts_at fcode start c next) ≡ between fcode start next
unfolding parts_joined
joined_parts fcode start c next o =
    let h = o.0 in
    let i = o.1 in
    let j = o.2 in
    let k = o.3 in
    rw (
      append-nil (between fcode c.third next),
      between_join fcode c.second c.third next j k,
      between_join fcode c.first c.second next i (omega arith),
    )
    (between_join fcode start c.first next h (omega arith))

-- the bytes of a line are those of its stretch
raw_bytes : (fcode : List ℕ) (p next : ℕ) → line_bytes (raw_line fcode p next) ≡ between fcode p next
unfolding parts_joined
raw_bytes fcode p next = append-nil (between fcode p next)

token_bytes : (fcode : List ℕ) (wide : Bool) (p start : ℕ) (t : Token) → start ≡ behind_number fcode p
    → Formed fcode (end_of fcode) wide p t
    → line_bytes (token_line fcode p start t) ≡ between fcode p t.next
unfolding parts_joined
token_bytes fcode wide p start t e f =
    let n = number_ahead fcode p in
    let x = f.starts in
    let o = cuts_ordered fcode wide start t.next (form_in t.code) (rw e f.ends) in
    rw (append-nil (between fcode p start), joined_parts fcode start (token_cuts fcode start t) t.next o)
    (between_join fcode p start t.next (omega arith) (omega arith))

module _ (fcode : List ℕ) where
  -- each line shows the bytes from its place to the next
  own_bytes : (k : ℕ) (wide : Bool) (p : ℕ) → p ≤ end_of fcode → end_of fcode - p ≤ k → OwnBytes fcode (walk_from k fcode wide p)
  own_bytes k wide p =
      walk_holds fcode (λ w q ss. OwnBytes fcode ss) (λ w q e. tt) (λ w q next ss e a b on. (raw_bytes fcode q next, on))
      (λ w v q s t ss e b f on. (token_bytes fcode w q s t b f, on)) k wide p

  -- so they show every byte once and in order, from the first place to the end
  bytes_shown_lem : (k : ℕ) (wide : Bool) (p : ℕ) → p ≤ end_of fcode → end_of fcode - p ≤ k
      → bytes_shown fcode (walk_from k fcode wide p) ≡ between fcode p (end_of fcode)
  unfolding bytes_shown
  bytes_shown_lem k wide p =
      walk_holds fcode (λ w q ss. bytes_shown fcode ss ≡ between fcode q (end_of fcode)) (λ w q e. nothing q e)
      (λ w q next ss e a b on. rw (raw_bytes fcode q next, on) (between_join fcode q next (end_of fcode) (omega arith) b))
      (λ w v q s t ss e b f on.
      let n = number_ahead fcode q in
      let x = f.starts in
      let y = f.before in
      rw (token_bytes fcode w q s t b f, on) (between_join fcode q t.next (end_of fcode) (omega arith) y))
      k wide p
    where
      nothing : (q : ℕ) → q ≡ end_of fcode → [] ≡ between fcode q (end_of fcode)
      nothing q e = let f : end_of fcode - q ≡ 0 = omega arith in rw f

-- ---- a line at a time
module _ (fcode : List ℕ) (few : length fcode ≤ rom_most) (wide : Bool) (p : ℕ) where
  pub listed_is : listed_at fcode wide p ≡ piece_of fcode wide p
  listed_is = rw (le-ltb rom_most (length fcode) few)

  -- the lines of a walk are the line at its place, and those of the walk from the next place on
  pub lines_on : piece_lines fcode (walk_at fcode wide p)
      ≡ piece_text fcode wide p ++ piece_lines fcode (walk_at fcode (wide_behind fcode wide p) (next_of fcode wide p))
  unfolding piece_lines piece_text next_of wide_behind
  lines_on = rw (listed_is) (by (piece_of fcode wide p) refl)
    where
      by : (x : Piece) → piece_of fcode wide p ≡ x
          → piece_lines fcode (walk_at fcode wide p) ≡ text_in fcode p x ++ piece_lines fcode (walk_at fcode (wide_in wide x) (next_in p x))
      by End e = refl
      by (Raw next) e = rw (walk_is fcode wide p, e)
      by (Listed t s w) e = rw (walk_is fcode wide p, e)

  -- the place stays at the program's end, and before it goes on
  pub next_stays : end_of fcode ≤ p → next_of fcode wide p ≡ p
  unfolding next_of
  next_stays h = rw (listed_is, piece_end fcode wide p h)

  pub next_ahead : p < end_of fcode → (p < next_of fcode wide p) × (next_of fcode wide p ≤ end_of fcode)
  unfolding next_of
  next_ahead h = rw (listed_is) (by (piece_of fcode wide p) (lies_as fcode wide p (piece_of fcode wide p) refl))
    where
      by : (x : Piece) → Lies fcode wide p x → (p < next_in p x) × (next_in p x ≤ end_of fcode)
      by End l = absurd (omega arith)
      by (Raw next) l = l
      by (Listed t s w) l = (past fcode wide p t l.1, l.1.before)

-- so many lines from a place on as there are bytes left, or more, are all lines from there on
lines_all : (fcode : List ℕ) → length fcode ≤ rom_most → (k : ℕ) (wide : Bool) (p : ℕ) → end_of fcode - p ≤ k
    → lines_from k fcode wide p ≡ piece_lines fcode (walk_at fcode wide p)
unfolding lines_from walk_from piece_lines
lines_all fcode few zero wide p m = let e : end_of fcode - p ≡ 0 = omega arith in rw e
lines_all fcode few (suc k) wide p m =
    let nearer : end_of fcode - next_of fcode wide p ≤ k =
    elim (dec_lt p (end_of fcode)) [
      | yes l ↦ let n = (next_ahead fcode few wide p l).0 in omega arith
      | no l ↦ let n = next_stays fcode few wide p (omega arith) in omega arith
    ]
    in
    rw (lines_all fcode few k (wide_behind fcode wide p) (next_of fcode wide p) nearer) (sym (lines_on fcode few wide p))

-- ---- a ROM with a good header
module _ (fcode : List ℕ) (good : header_of fcode ≡ 0) where
  starts_inside : 8 ≤ end_of fcode
  starts_inside =
      let l = (header_facts fcode good).least in
      let e = good_end fcode good in
      omega arith

  -- every line of the program shows its own bytes, and all of them together the program's, from place 8 to the length
  pub program_lines_lem : OwnBytes fcode (walk_of fcode)
  program_lines_lem = own_bytes fcode (end_of fcode - 8) (wide_of fcode) 8 starts_inside (omega arith)

  pub program_bytes : bytes_shown fcode (walk_of fcode) ≡ between fcode 8 (length_of fcode)
  program_bytes = bytes_shown_lem fcode (end_of fcode - 8) (wide_of fcode) 8 starts_inside (omega arith) ∙ rw (good_end fcode good)

  -- the list is its lines, written one by one from place 8 on, as many as the program has bytes or more: from its end on there are none
  pub line_by_line : (k : ℕ) → length_of fcode - 8 ≤ k → lines_from k fcode (wide_of fcode) 8 ≡ token_text fcode
  unfolding token_text
  line_by_line k h =
      let e = good_end fcode good in
      rw (eq-eqb (header_of fcode) 0 good) (lines_all fcode (header_facts fcode good).rom_to k (wide_of fcode) 8 (omega arith))

-- ---- how long a line can be
-- a token has a number of at most two bytes and an operand of at most 260
module _ (fcode : List ℕ) (bytes : (i : ℕ) → byte_of fcode i < 256) where
  number_near : (p : ℕ) → behind_number fcode p ≤ p + 2
  number_near p = pick_is (λ n. p + n ≤ p + 2) (is_double (byte_of fcode p)) 2 1 (λ t. omega arith) (λ t. omega arith)

  behind_near : (wide : Bool) (p form : ℕ) → behind_of fcode wide p form ≤ p + 260
  unfolding behind_of
  behind_near wide p form =
      let b = bytes p in
      let n = number_near p in
      let m = number_near (behind_string fcode p) in
      find_is (λ q. q ≤ p + 260) (behinds fcode wide p) p form (
        omega arith,
        (
          omega arith,
          (
            pick_is (λ n. p + n ≤ p + 260) wide 2 1 (λ t. omega arith) (λ t. omega arith),
            (omega arith, (omega arith, (omega arith, tt))),
          ),
        ),
      )
      (omega arith)

  -- so a piece is near its place, also one that is cut off
  abbrev Near : ℕ → Piece → Type 0
  Near p End = Unit {0}
  Near p (Raw next) = next ≤ p + 262
  Near p (Listed t s w) = (s ≤ p + 2) × (t.next ≤ s + 260)

  piece_near : (wide : Bool) (p : ℕ) → Near p (piece_of fcode wide p)
  unfolding piece_of decode_of token_if_whole
  piece_near wide p =
      let end = end_of fcode in
      let start = behind_number fcode p in
      let code = code_of (number_of fcode p) in
      let next = behind_of fcode wide start (form_in code) in
      let o = operand_of fcode end wide start (form_in code) in
      let n = number_near p in
      let b = behind_near wide start (form_in code) in
      let In : Decoded → Type 0 = λ d. Near p (piece_in fcode end wide p d) in
      pick_is (Near p) (leb end p) End _ (λ t. tt)
      (λ t. pick_is In (ltb end next) Cut _ (λ u. omega (arith, tests))
      (λ u. pick_is In (listed code o) (Whole (token_of (number_of fcode p) code o next)) (Unlisted code) (λ v. (n, b)) (λ v. omega arith)))

length_between : (fcode : List ℕ) (from to : ℕ) → length (between fcode from to) ≤ to - from
length_between fcode from to = let a = length-take (to - from) (drop from fcode) in omega arith

shown_between : (fcode : List ℕ) (from to : ℕ) → length (shown (between fcode from to)) ≤ 2 * (to - from) + 1
shown_between fcode from to =
    let a = (length_shown (between fcode from to)).0 in
    let b = length_between fcode from to in
    omega arith

length_one : (x : List ℕ) → length (all_shown (x ∷ [])) ≡ length (shown x)
unfolding all_shown
length_one x = ap length (append-nil (shown x))

length_parts : (fcode : List ℕ) (start : ℕ) (c : Cuts) (next : ℕ) → Ordered start c next
    → length (all_shown (parts_at fcode start c next)) ≤ 2 * (next - start) + 4
unfolding all_shown
length_parts fcode start c next o =
    let x = shown (between fcode start c.first) in
    let y = shown (between fcode c.first c.second) in
    let z = shown (between fcode c.second c.third) in
    let v = shown (between fcode c.third next) in
    let d = length-append v [] in
    let e = length-append z (v ++ []) in
    let f = length-append y (z ++ (v ++ [])) in
    let g = length-append x (y ++ (z ++ (v ++ []))) in
    let h = shown_between fcode start c.first in
    let i = shown_between fcode c.first c.second in
    let j = shown_between fcode c.second c.third in
    let k = shown_between fcode c.third next in
    let l = o.0 in
    let m = o.1 in
    let n = o.2 in
    let q = o.3 in
    omega arith

length_high : (p : ℕ) → length (high_digits p) ≤ 4
unfolding hex_of
length_high p = pick_is (λ z. length z ≤ 4) (ltb p 65536) [] _ (λ t. omega arith) (λ t. omega arith)

length_place : (p : ℕ) → length (place_text p) ≤ 8
unfolding place_text hex_of
length_place p = let a = length-append (high_digits p) (hex_of (p / 256 % 256 ∷ p % 256 ∷ [])) in let b = length_high p in omega arith

-- the remarks
length_aim : (aim : Option ℕ) → length (aim_remark aim) ≤ 27
unfolding letters_of
length_aim (Some to) = let a = length_place to in omega arith
length_aim None = omega arith

length_branch : (o : Operand) → length (branch_remark o) ≤ 27
length_branch Nothing = omega arith
length_branch (Literal n) = omega arith
length_branch (Text start count) = omega arith
length_branch (Branch bits aim) = length_aim aim
length_branch (Number n) = omega arith
length_branch (Definition n k) = omega arith

length_quoted : (bs : List ℕ) → length (quoted bs) ≤ length bs + 3
unfolding quoted letters_of
length_quoted bs =
    let a = length-append bs (letters_of "\"") in
    pick_is (λ z. length z ≤ length bs + 3) (all_printed bs) (letters_of " \"" ++ (bs ++ letters_of "\"")) [] (λ t. omega arith)
    (λ t. omega arith)

length_string : (fcode : List ℕ) (start : ℕ) (c : Cuts) (next form : ℕ) → Ordered start c next
    → length (string_remark fcode c form) ≤ next - start + 3
length_string fcode start c next form o =
    let bs = between fcode c.first c.second in
    let a = length_quoted bs in
    let b = length_between fcode c.first c.second in
    let l = o.0 in
    let m = o.1 in
    let n = o.2 in
    let q = o.3 in
    pick_is (λ z. length z ≤ next - start + 3) (eqb form string || eqb form named_head) (quoted bs) [] (λ t. omega arith) (λ t. omega arith)

length_raw : (fcode : List ℕ) (next : ℕ) → length (raw_remark fcode next) ≤ 58
unfolding letters_of
length_raw fcode next = pick_is (λ z. length z ≤ 58) (ltb next (end_of fcode)) _ [] (λ t. omega arith) (λ t. omega arith)

-- what a line has beside its parts
length_line_lem : (l : Line)
    → length (line_text l) ≤ 10 + length (all_shown l.number) + length l.word + length (all_shown l.rest) + length l.remark
unfolding line_text letters_of
length_line_lem l =
    let number = all_shown l.number in
    let rest = all_shown l.rest in
    let a = length_place l.place in
    let b = length-append rest l.remark in
    let c = length-append (rest ++ l.remark) line_end in
    let d = length-append l.word ((rest ++ l.remark) ++ line_end) in
    let e = length-append number (letters_of " " ++ (l.word ++ ((rest ++ l.remark) ++ line_end))) in
    let f = length-append (place_text l.place) (number ++ (letters_of " " ++ (l.word ++ ((rest ++ l.remark) ++ line_end)))) in
    omega arith

raw_short : (fcode : List ℕ) (p next : ℕ) → next ≤ p + 262 → length (line_text (raw_line fcode p next)) ≤ line_most
unfolding all_shown letters_of
raw_short fcode p next h =
    let a = length_line_lem (raw_line fcode p next) in
    let b = length_one (between fcode p next) in
    let c = shown_between fcode p next in
    let d = length_raw fcode next in
    omega arith

token_short : (fcode : List ℕ) (p start : ℕ) (t : Token) → start ≤ p + 2 → t.next ≤ start + 260
    → Ordered start (token_cuts fcode start t) t.next → length (line_text (token_line fcode p start t)) ≤ line_most
token_short fcode p start t near ends o =
    let branch = branch_remark t.operand in
    let string = string_remark fcode (token_cuts fcode start t) (form_in t.code) in
    let a = length_line_lem (token_line fcode p start t) in
    let b = length_one (between fcode p start) in
    let c = shown_between fcode p start in
    let d = name_size_lem t.number in
    let e = length_parts fcode start (token_cuts fcode start t) t.next o in
    let f = length-append branch string in
    let g = length_branch t.operand in
    let h = length_string fcode start (token_cuts fcode start t) t.next (form_in t.code) o in
    omega arith

-- no line is longer than that, whatever the bytes are
pub line_short : (fcode : List ℕ) (wide : Bool) (p : ℕ) → ((i : ℕ) → byte_of fcode i < 256) → length (piece_text fcode wide p) ≤ line_most
unfolding piece_text
line_short fcode wide p bytes =
    pick_is (λ x. length (text_in fcode p x) ≤ line_most) (ltb rom_most (length fcode)) End (piece_of fcode wide p) (λ t. omega arith)
    (λ t. by (piece_of fcode wide p) refl (piece_near fcode bytes wide p))
  where
    by : (x : Piece) → piece_of fcode wide p ≡ x → Near fcode bytes p x → length (text_in fcode p x) ≤ line_most
    by End e n = omega arith
    by (Raw next) e n = raw_short fcode p next n
    by (Listed t s w) e n =
        let l = lies_as fcode wide p (Listed t s w) e in
        let at = l.0 in
        token_short fcode p s t n.0 n.1 (cuts_ordered fcode wide s t.next (form_in t.code) (rw at l.1.ends))
