-- Laws of the reader: what stands at a place ends behind it and not past the program's end, and so a walk ends, and its stretches are the
-- program, every byte once and in order. Assumes nothing.
use Prim.Native.Nat.{ℕ, zero, suc, ◌-◌, ◌≤◌, ◌<◌}
use Rattle.std.proofs.Common.{arith, ap, subst, ◌∙◌, le-leb, le-ltb}
use Rattle.std.specs.Prelude.{◌≡◌, Bool, List, [], ◌∷◌, length, leb}
use Rattle.std.proofs.Math.Path.{refl, sym}
use Rattle.std.proofs.lemmas.Bool.{lt-leb}
use Rattle.cells.specs.Laws.Tests.{tests, pick_is}
use Rattle.rom.specs.Header.{length_of, wide_of, header_of}
use Rattle.rom.specs.Laws.Header.{header_facts}
use Rattle.tokens.specs.Code.{code_of, form_in}
use Rattle.tokens.specs.Decode.{number_of, behind_number, behind_of, decode_of}
use Rattle.tokens.specs.Laws.Tokens.{number_ahead, behind_ahead, decoded_is}
use Rattle.tokens.specs.Reader.{end_of, piece_in, piece_of, Stretch, then_on, walk_from, walk_of, Partition}
use Rattle.tokens.specs.declared.decoding.Token.{Token}
use Rattle.tokens.specs.declared.decoding.Decoded.{Decoded}
use Rattle.tokens.specs.declared.decoding.Decoded.TheVariants.{Cut, Unlisted, Whole}
use Rattle.tokens.specs.declared.reader.Piece.{Piece}
use Rattle.tokens.specs.declared.reader.Piece.TheVariants.{End, Raw, Listed}

-- ---- what stands at a place, by what was decoded there
module _ (rom : List ℕ) (wide : Bool) (p : ℕ) where
  pub piece_end : end_of rom ≤ p → piece_of rom wide p ≡ End
  unfolding piece_of
  piece_end h = rw (le-leb (end_of rom) p h)

  piece_is : p < end_of rom → piece_of rom wide p ≡ piece_in rom (end_of rom) wide p (decode_of rom (end_of rom) wide p)
  unfolding piece_of
  piece_is h = rw (lt-leb (end_of rom) p h)

  -- by what the code has found: the end, and what was decoded
  pub is_end : (end : ℕ) → end ≡ end_of rom → end ≤ p → End ≡ piece_of rom wide p
  is_end end e h = sym (piece_end (rw (← e) h))

  pub is_piece : (end : ℕ) (d : Decoded) → end ≡ end_of rom → p < end → decode_of rom end wide p ≡ d
      → piece_in rom end wide p d ≡ piece_of rom wide p
  is_piece end d e h g = sym (piece_is (rw (← e) h) ∙ rw (← e, g))

-- ---- what the bytes at a place say of what was decoded there
-- of a token: its number, its code, and where it ends
pub record Formed (rom : List ℕ) (length : ℕ) (wide : Bool) (p : ℕ) (t : Token) : Type 0 where
  pub number : t.number ≡ number_of rom p
  pub code : t.code ≡ code_of t.number
  pub ends : t.next ≡ behind_of rom wide (behind_number rom p) (form_in t.code)
  pub starts : behind_number rom p ≤ t.next
  pub before : t.next ≤ length

-- a number that is not in the list lies before the length
abbrev pub FormedAs : List ℕ → ℕ → Bool → ℕ → Decoded → Type 0
FormedAs rom length wide p Cut = Unit {0}
FormedAs rom length wide p (Unlisted code) = behind_number rom p ≤ length
FormedAs rom length wide p (Whole t) = Formed rom length wide p t

decode_formed : (rom : List ℕ) (length : ℕ) (wide : Bool) (p : ℕ) → FormedAs rom length wide p (decode_of rom length wide p)
decode_formed rom length wide p =
    let b = behind_ahead rom wide (behind_number rom p) (form_in (code_of (number_of rom p))) in
    decoded_is (FormedAs rom length wide p) rom length wide p tt
    (λ h l. record { number = refl; code = refl; ends = refl; starts = b; before = h })
    (λ h. omega arith)

pub formed_as : (rom : List ℕ) (length : ℕ) (wide : Bool) (p : ℕ) (d : Decoded) → decode_of rom length wide p ≡ d
    → FormedAs rom length wide p d
formed_as rom length wide p d e = subst (FormedAs rom length wide p) e (decode_formed rom length wide p)

-- ---- where a piece ends: nowhere at the end, else behind its place and not past the end
abbrev pub Lies : List ℕ → Bool → ℕ → Piece → Type 0
Lies rom wide p End = end_of rom ≤ p
Lies rom wide p (Raw next) = (p < next) × (next ≤ end_of rom)
Lies rom wide p (Listed t s w) = (s ≡ behind_number rom p) × Formed rom (end_of rom) wide p t

in_lies : (rom : List ℕ) (wide : Bool) (p : ℕ) (d : Decoded) → p < end_of rom → FormedAs rom (end_of rom) wide p d
    → Lies rom wide p (piece_in rom (end_of rom) wide p d)
in_lies rom wide p Cut h f = (h, omega arith)
in_lies rom wide p (Unlisted code) h f = (number_ahead rom p, f)
in_lies rom wide p (Whole t) h f = (refl, f)

piece_lies : (rom : List ℕ) (wide : Bool) (p : ℕ) → Lies rom wide p (piece_of rom wide p)
unfolding piece_of
piece_lies rom wide p =
    let end = end_of rom in
    let d = decode_of rom end wide p in
    pick_is (Lies rom wide p) (leb end p) End (piece_in rom end wide p d) (λ t. omega (arith, tests))
    (λ t. in_lies rom wide p d (omega (arith, tests)) (decode_formed rom end wide p))

pub lies_as : (rom : List ℕ) (wide : Bool) (p : ℕ) (x : Piece) → piece_of rom wide p ≡ x → Lies rom wide p x
lies_as rom wide p x e = subst (Lies rom wide p) e (piece_lies rom wide p)

-- ---- a walk from a place on, with as many pieces as there are bytes left or more
module _ (rom : List ℕ) where
  pub past : (wide : Bool) (p : ℕ) (t : Token) → Formed rom (end_of rom) wide p t → p < t.next
  past wide p t f = let n = number_ahead rom p in let s = f.starts in omega arith

  -- more pieces than there are bytes change nothing
  same_then : (wide : Bool) (p : ℕ) (x : Piece) (f g : Bool → ℕ → List Stretch) → Lies rom wide p x
      → ((w : Bool) (q : ℕ) → p < q → f w q ≡ g w q) → then_on wide p x f ≡ then_on wide p x g
  same_then wide p End f g l e = refl
  same_then wide p (Raw next) f g l e = ap (λ (ss : List Stretch). record { place = p; piece = Raw next; next = next } ∷ ss)
      (e wide next l.0)
  same_then wide p (Listed t s w) f g l e =
      ap (λ (ss : List Stretch). record { place = p; piece = Listed t s w; next = t.next } ∷ ss) (e w t.next (past wide p t l.1))

  walk_none : (k : ℕ) (wide : Bool) (p : ℕ) → end_of rom ≤ p → walk_from k rom wide p ≡ []
  unfolding walk_from
  walk_none zero wide p h = refl
  walk_none (suc k) wide p h = rw (piece_end rom wide p h)

  walk_enough : (k j : ℕ) (wide : Bool) (p : ℕ) → end_of rom - p ≤ k → end_of rom - p ≤ j → walk_from k rom wide p ≡ walk_from j rom wide p
  unfolding walk_from
  walk_enough zero j wide p a b = sym (walk_none j wide p (omega arith))
  walk_enough (suc k) zero wide p a b = walk_none (suc k) wide p (omega arith)
  walk_enough (suc k) (suc j) wide p a b =
      same_then wide p (piece_of rom wide p) (λ w q. walk_from k rom w q) (λ w q. walk_from j rom w q) (piece_lies rom wide p)
      (λ w q h. walk_enough k j w q (omega arith) (omega arith))

  -- a walk is its first piece, and then the walk from the next place on
  abbrev pub walk_at : Bool → ℕ → List Stretch
  walk_at wide p = walk_from (end_of rom - p) rom wide p

  pub walk_is : (wide : Bool) (p : ℕ) → walk_at wide p ≡ then_on wide p (piece_of rom wide p) walk_at
  unfolding walk_from
  walk_is wide p =
      walk_enough (end_of rom - p) (suc (end_of rom - p)) wide p (omega arith) (omega arith)
      ∙ same_then wide p (piece_of rom wide p) (λ w q. walk_from (end_of rom - p) rom w q) walk_at (piece_lies rom wide p)
      (λ w q h. walk_enough (end_of rom - p) (end_of rom - q) w q (omega arith) (omega arith))

  -- ---- what holds of every walk by what each piece adds to it
  pub walk_holds : (Q : Bool → ℕ → List Stretch → Type 0) → ((wide : Bool) (p : ℕ) → p ≡ end_of rom → Q wide p [])
      → ((wide : Bool) (p next : ℕ) (ss : List Stretch) → piece_of rom wide p ≡ Raw next → p < next → next ≤ end_of rom → Q wide next ss
      → Q wide p (record { place = p; piece = Raw next; next = next } ∷ ss))
      → ((wide w : Bool) (p s : ℕ) (t : Token) (ss : List Stretch) → piece_of rom wide p ≡ Listed t s w → s ≡ behind_number rom p
      → Formed rom (end_of rom) wide p t → Q w t.next ss → Q wide p (record { place = p; piece = Listed t s w; next = t.next } ∷ ss))
      → (k : ℕ) (wide : Bool) (p : ℕ) → p ≤ end_of rom → end_of rom - p ≤ k → Q wide p (walk_from k rom wide p)
  unfolding walk_from
  walk_holds Q ends raws listeds zero wide p h m = ends wide p (omega arith)
  walk_holds Q ends raws listeds (suc k) wide p h m =
      by (piece_of rom wide p) refl (piece_lies rom wide p) (λ w q. walk_holds Q ends raws listeds k w q)
    where
      by : (x : Piece) → piece_of rom wide p ≡ x → Lies rom wide p x
          → ((w : Bool) (q : ℕ) → q ≤ end_of rom → end_of rom - q ≤ k → Q w q (walk_from k rom w q))
          → Q wide p (then_on wide p x (λ w q. walk_from k rom w q))
      by End e l on = ends wide p (omega arith)
      by (Raw next) e l on = raws wide p next (walk_from k rom wide next) e l.0 l.1 (on wide next l.1 (omega arith))
      by (Listed t s w) e l on =
          let a = past wide p t l.1 in
          let b = l.1.before in
          listeds wide w p s t (walk_from k rom w t.next) e l.0 l.1 (on w t.next b (omega arith))

  -- the stretches lie one behind the other, from the place to the end
  pub walk_partition : (k : ℕ) (wide : Bool) (p : ℕ) → p ≤ end_of rom → end_of rom - p ≤ k
      → Partition p (end_of rom) (walk_from k rom wide p)
  walk_partition k wide p =
      walk_holds (λ w q ss. Partition q (end_of rom) ss) (λ w q e. e) (λ w q next ss e a b on. (refl, a, on))
      (λ w v q s t ss e b f on. (refl, past w q t f, on)) k wide p

-- with a good header: the program from place 8 to its length
pub good_end : (rom : List ℕ) → header_of rom ≡ 0 → end_of rom ≡ length_of rom
good_end rom g = rw (le-ltb (length rom) (length_of rom) (header_facts rom g).most)

pub program_partition : (rom : List ℕ) → header_of rom ≡ 0 → Partition 8 (length_of rom) (walk_of rom)
program_partition rom g =
    let l = (header_facts rom g).least in
    subst (λ n. Partition 8 n (walk_of rom)) (good_end rom g)
    (walk_partition rom (end_of rom - 8) (wide_of rom) 8 (rw (good_end rom g) (omega arith)) (omega arith))
