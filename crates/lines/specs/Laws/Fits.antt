-- Every listing fits its buffer, with a zero behind it: at most 32 lines of nodes, a line for each property that is held, and three lines
-- more. A property is printed under one node at most, so that the lines of properties have at most twice the store's bytes and two for each
-- property. Assumes nothing.
use Rattle.std.specs.Prelude.{ℕ, zero, suc, ◌+◌, ◌*◌, ◌≤◌, ◌<◌, true, false, List, [], ◌∷◌, ◌++◌, ◌≡◌, refl, length, drop, eqb}
use Rattle.std.proofs.Common.{arith, length-append, length-take, ne_eqb}
use Rattle.cells.specs.Laws.Tests.{pick_is, tests}
use Rattle.rom.specs.Sizes.{text_size}
use Rattle.rom.specs.Words.{letters_of}
use Rattle.memory.specs.Window.{part_of}
use Rattle.tree.specs.Held.{Property, held_from, held_of, live_among, live_from, name_size, value_size}
use Rattle.tree.specs.Whole.{whole_tree, parent_of}
use Rattle.tree.specs.Laws.Trees.{whole_facts}
use Rattle.tree.specs.declared.tree.Tree.{Tree}
use Rattle.lines.specs.Digits.{decimal_of}
use Rattle.lines.specs.Lines.{line_end, shown, node_line, property_line, own_lines, node_lines, steps_line, refused_line, done_line}
use Rattle.lines.specs.Lines.{closing_line, run_text}
use Rattle.lines.specs.Laws.Texts.{length_decimal, length_shown}

-- the lines that are made of words and numbers
pub length_node_line : (k parent : ℕ) → length (node_line k parent) ≡ 14 + length (decimal_of k) + length (decimal_of parent)
unfolding node_line letters_of
length_node_line k parent =
    let a = length-append (decimal_of k) (letters_of " parent " ++ (decimal_of parent ++ line_end)) in
    let b = length-append (decimal_of parent) line_end in
    omega arith

pub length_steps_line : (n : ℕ) → length (steps_line n) ≡ 7 + length (decimal_of n)
unfolding steps_line letters_of
length_steps_line n = let a = length-append (decimal_of n) line_end in omega arith

pub length_refused_line : (n : ℕ) → length (refused_line n) ≡ 9 + length (decimal_of n)
unfolding refused_line letters_of
length_refused_line n = let a = length-append (decimal_of n) line_end in omega arith

pub refused_fits : (number : ℕ) → length (refused_line number) < text_size
refused_fits number =
    let a = length_refused_line number in
    let d = length_decimal 10 number in
    omega arith

closing_fits : (number : ℕ) → length (closing_line number) ≤ 19
unfolding letters_of
closing_fits number =
    let a = length_refused_line number in
    let d = length_decimal 10 number in
    pick_is (λ z. length z ≤ 19) (eqb number 0) done_line (refused_line number) (λ t. omega arith) (λ t. omega arith)

-- a property's line
pub length_property_line : (name value : List ℕ) → length (property_line name value) ≡ length name + length (shown value) + 1
unfolding property_line
length_property_line name value =
    let a = length-append name (shown value ++ line_end) in
    let b = length-append (shown value) line_end in
    omega arith

-- all lines of these properties, each once
abbrev line_sizes : List Property → ℕ
line_sizes [] = 0
line_sizes (p ∷ ps) = length (property_line p.name p.value) + line_sizes ps

held_sizes : (t : Tree) (store : List ℕ) (k i at : ℕ) → line_sizes (held_from t store k i at) ≤ 2 * live_from t k i + 2 * k
unfolding held_from live_among
held_sizes t store zero i at = omega arith
held_sizes t store (suc k) i at =
    let n = name_size t i in
    let v = value_size t i in
    let r = held_sizes t store k (i + 1) (at + n + v) in
    let name = part_of store at n in
    let value = part_of store (at + n) v in
    let a = length-take n (drop at store) in
    let b = length-take v (drop (at + n) store) in
    let l = length_property_line name value in
    let s = (length_shown value).0 in
    omega arith

-- the lines under so many nodes from node k on
abbrev own_sizes : List Property → ℕ → ℕ → ℕ
own_sizes ps zero k = 0
own_sizes ps (suc n) k = length (own_lines false ps k) + own_sizes ps n (k + 1)

-- a property adds nothing under the nodes behind its own, and its line once at most
own_behind : (p : Property) (ps : List Property) (n k : ℕ) → p.node < k → own_sizes (p ∷ ps) n k ≡ own_sizes ps n k
unfolding own_lines
own_behind p ps zero k h = refl
own_behind p ps (suc n) k h = rw (ne_eqb p.node k (λ e. omega arith), own_behind p ps n (k + 1) (omega arith))

own_once : (p : Property) (ps : List Property) (n k : ℕ)
    → own_sizes (p ∷ ps) n k ≤ length (property_line p.name p.value) + own_sizes ps n k
unfolding own_lines
own_once p ps zero k = omega arith
own_once p ps (suc n) k =
    let line = property_line p.name p.value in
    let l = length-append line (own_lines false ps k) in
    let i = own_once p ps n (k + 1) in
    pick_is (λ z. length (z ++ own_lines false ps k) + own_sizes (p ∷ ps) n (k + 1) ≤ length line +
    (length (own_lines false ps k) + own_sizes ps n (k + 1)))
    (eqb p.node k) line []
    (λ t. let b = own_behind p ps n (k + 1) (omega (arith, tests)) in omega arith)
    (λ t. omega arith)

own_fits : (ps : List Property) (n k : ℕ) → own_sizes ps n k ≤ line_sizes ps
unfolding own_lines
own_fits [] zero k = omega arith
own_fits [] (suc n) k = let i = own_fits [] n (k + 1) in omega arith
own_fits (p ∷ ps) n k =
    let a = own_once p ps n k in
    let i = own_fits ps n k in
    omega arith

-- all nodes, each with its properties
nodes_fit : (t : Tree) (ps : List Property) (n k : ℕ) → length (node_lines t ps n k) ≤ 34 * n + own_sizes ps n k
unfolding node_lines
nodes_fit t ps zero k = omega arith
nodes_fit t ps (suc n) k =
    let parent = parent_of t k in
    let a = length-append (node_line k parent) (own_lines false ps k ++ node_lines t ps n (k + 1)) in
    let b = length-append (own_lines false ps k) (node_lines t ps n (k + 1)) in
    let c = length_node_line k parent in
    let d = length_decimal 10 k in
    let e = length_decimal 10 parent in
    let i = nodes_fit t ps n (k + 1) in
    omega arith

pub length_run_text : (t : Tree) (store : List ℕ) (steps number : ℕ)
    → length (run_text t store steps number)
    ≡ 12 + length (node_lines t (held_of t store) t.nodes 0) + length (steps_line steps) + length (closing_line number)
unfolding run_text letters_of
length_run_text t store steps number =
    let a = length-append (node_lines t (held_of t store) t.nodes 0) (steps_line steps ++ closing_line number) in
    let b = length-append (steps_line steps) (closing_line number) in
    omega arith

pub text_most : (t : Tree) (store : List ℕ) (steps number : ℕ) → whole_tree t ≡ true → length (run_text t store steps number) ≤ 34160
text_most t store steps number w =
    let f = whole_facts t w in
    let ps = held_of t store in
    let a = length_run_text t store steps number in
    let b = nodes_fit t ps t.nodes 0 in
    let c = own_fits ps t.nodes 0 in
    let d = held_sizes t store t.held 0 0 in
    let e = length_steps_line steps in
    let g = length_decimal 10 steps in
    let h = closing_fits number in
    omega (arith, f.nodes_most_lem, f.held_most, f.live_most)

pub fits : (t : Tree) (store : List ℕ) (steps number : ℕ) → whole_tree t ≡ true → length (run_text t store steps number) < text_size
fits t store steps number w = let m = text_most t store steps number w in omega arith
