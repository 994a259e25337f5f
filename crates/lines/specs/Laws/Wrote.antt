-- How writes into a text go one behind the other. Assumes nothing.
use Rattle.std.specs.Prelude.{ℕ, ◌+◌, ◌≤◌, ◌<◌, List, [], ◌∷◌, ◌++◌, ◌≡◌, refl, length, set}
use Rattle.std.proofs.Math.Decide.{dec_lt}
use Rattle.std.proofs.Common.{arith, sym, ap, ◌∙◌, length-append}
use Rattle.memory.specs.Writing.{written_of}
use Rattle.memory.specs.Laws.Memory.{written_append, written_more, written_none, written_out, length_written}
use Rattle.lines.specs.Wrote.{reach_of, Wrote}

-- what is written behind bytes that passed the end is written nowhere
written_reach : (m : List ℕ) (at n : ℕ) (ys : List ℕ) → written_of m (reach_of (length m) at n) ys ≡ written_of m (at + n) ys
unfolding reach_of
written_reach m at n ys =
    elim (dec_lt (at + n) (length m)) [
      | yes l ↦ let e : reach_of (length m) at n ≡ at + n = omega arith in rw e
      | no l ↦ written_out m (reach_of (length m) at n) ys (omega arith) ∙ sym (written_out m (at + n) ys (omega arith))
    ]

-- two such steps are one
reach_more : (size at m n : ℕ) → reach_of size (reach_of size at m) n ≡ reach_of size at (m + n)
unfolding reach_of
reach_more size at m n = omega arith

-- nothing, and one part behind the other
pub wrote_none : {m : List ℕ} {at : ℕ} → Wrote m m at at []
unfolding reach_of
wrote_none {m} {at} = record { text = sym (written_none m at); place = omega arith }

pub length_wrote : {m n : List ℕ} {p q : ℕ} {xs : List ℕ} → Wrote m n p q xs → length n ≡ length m
length_wrote {m} {p = p} {xs = xs} w = ap length w.text ∙ length_written m p xs

written_then : (m : List ℕ) (p : ℕ) (xs ys : List ℕ)
    → written_of (written_of m p xs) (reach_of (length m) p (length xs)) ys ≡ written_of m p (xs ++ ys)
written_then m p xs ys =
    let r = written_reach (written_of m p xs) p (length xs) ys in
    (rw (length_written m p xs) at r) ∙ sym (written_append m p xs ys)

pub wrote_then : {m₀ m₁ m₂ : List ℕ} {p₀ p₁ p₂ : ℕ} {xs ys : List ℕ} → Wrote m₀ m₁ p₀ p₁ xs → Wrote m₁ m₂ p₁ p₂ ys
    → Wrote m₀ m₂ p₀ p₂ (xs ++ ys)
wrote_then {m₀} {p₀ = p₀} {xs = xs} {ys = ys} w v =
    record {
      text = v.text ∙ rw (w.text, w.place) (written_then m₀ p₀ xs ys);
      place = v.place ∙ rw (length_wrote w, w.place, length-append xs ys) (reach_more (length m₀) p₀ (length xs) (length ys));
    }

pub wrote_one : {m n : List ℕ} {at : ℕ} (b : ℕ) → at < length m → n ≡ set m at b → Wrote m n at (at + 1) (b ∷ [])
unfolding reach_of
wrote_one {m} {n} {at} b h e =
    record { text = e ∙ sym (written_more m at b [] ∙ written_none (set m at b) (at + 1)); place = omega arith }

-- at the text's end and past it
pub wrote_out : {m : List ℕ} {at : ℕ} (words : List ℕ) → length m ≤ at → Wrote m m at at words
unfolding reach_of
wrote_out {m} {at} words h = record { text = sym (written_out m at words h); place = omega arith }

-- a walk that has come so far: what is ahead of it leaves what the whole leaves
pub record Ahead (m₀ : List ℕ) (p₀ : ℕ) (all : List ℕ) (m : List ℕ) (p : ℕ) (rest : List ℕ) : Type 0 where
  pub text : written_of m p rest ≡ written_of m₀ p₀ all
  pub place : reach_of (length m₀) p (length rest) ≡ reach_of (length m₀) p₀ (length all)
  pub size : length m ≡ length m₀

pub ahead_all : {m : List ℕ} {p : ℕ} {all : List ℕ} → Ahead m p all m p all
ahead_all = record { text = refl; place = refl; size = refl }

pub ahead_on : {m₀ m n : List ℕ} {p₀ p q : ℕ} {all : List ℕ} (xs ys : List ℕ) → Ahead m₀ p₀ all m p (xs ++ ys) → Wrote m n p q xs
    → Ahead m₀ p₀ all n q ys
ahead_on {m₀} {m = m} {p = p} xs ys a w =
    record {
      text = rw (w.text, w.place) (written_then m p xs ys) ∙ a.text;
      place = rw (w.place, a.size) (reach_more (length m₀) p (length xs) (length ys)) ∙ rw (length-append xs ys) at a.place;
      size = length_wrote w ∙ a.size;
    }

pub ahead_none : {m₀ m : List ℕ} {p₀ p : ℕ} {all : List ℕ} → Ahead m₀ p₀ all m p [] → Wrote m₀ m p₀ p all
unfolding reach_of
ahead_none {m = m} {p = p} a = record { text = sym (written_none m p) ∙ a.text; place = let e = a.place in omega arith }

-- a text that has room for all of it from its start on ends where its words do
pub wrote_whole : {m n : List ℕ} {end : ℕ} {words : List ℕ} → length words ≤ length m → Wrote m n 0 end words → end ≡ length words
unfolding reach_of
wrote_whole {m} {words = words} h w = let e = w.place in omega arith
