-- A test of every number below a count, as the code makes it: one after the other, until one fails. Assumes nothing.
use Prim.Native.Nat.{ℕ, zero, suc, ◌+◌}
use mathlib.Core.Path.{◌≡◌, refl, sym, ◌∙◌, ap}
use mathlib.Core.Bool.{Bool, ◌&&◌}
use native.Mathlib.Nat.{sub-zero}
use denote.Param.Members.{Mut}
use Rattle.std.proofs.Common.{zero-add, add-zero, arith}
use Rattle.std.proofs.Math.Bool.{and_assoc, and-true}
use Rattle.std.specs.declared.ops.Range.{Range}
use Rattle.std.specs.Fn.{Called}
use Rattle.std.specs.Iterator.{ChecksAll}
use Rattle.std.specs.List.{list_all, range_with_len}
use Rattle.std.proofs.iter.Yields.{nat_range_steps}
use Rattle.std.proofs.lemmas.Iterator.{YieldsList-from_range}
use Rattle.std.proofs.lemmas.Iterator.Search.{all_from_yields_List}
use Rattle.tree.specs.Whole.{every_below}

-- one number more at the end
one_more : (f : ℕ → Bool) (a n : ℕ) → list_all f (range_with_len a (suc n)) ≡ list_all f (range_with_len a n) && f (a + n)
one_more f a zero = rw (add-zero a) (and-true (f a))
one_more f a (suc n) =
    let e : a + 1 + n ≡ a + suc n = omega arith in
    ap (λ b. f a && b) (rw e at (one_more f (a + 1) n)) ∙ sym (and_assoc (f a) (list_all f (range_with_len (a + 1) n)) (f (a + suc n)))

every_listed : (n : ℕ) (f : ℕ → Bool) → list_all f (range_with_len 0 n) ≡ every_below n f
unfolding every_below
every_listed zero f = refl
every_listed (suc n) f = one_more f 0 n ∙ rw (zero-add n, every_listed n f)

pub every_told : {F : Type 0} {g : Mut F (ℕ × Unit {0}) Bool} (n : ℕ) (f : ℕ → Bool) (u : Range ℕ) (q : F) (r : Bool)
    → ChecksAll nat_range_steps g (record { start = 0; end = n }) q r u
    → ((i : ℕ) (b : Bool) (p : F) → Called g q (i, tt) b p → (p ≡ q) × (b ≡ f i)) → r ≡ every_below n f
every_told n f u q r a h =
    all_from_yields_List f u q r a (YieldsList-from_range 0 n n refl (sub-zero n)) h ∙ every_listed n f
