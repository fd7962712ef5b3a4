-- What the tests of a tree promise, over the arrays that they are lent.
use Rattle.std.specs.Prelude.{ℕ, ◌<◌, ◌≡◌, Bool, false, ◌&&◌, ◌||◌, List, eqb, get_or, take}
use Rattle.input.specs.Limits.{most_rows}
use Rattle.input.specs.Classes.{Tree, sends}
use Rattle.arrays.specs.declared.TreeArrays.{TreeArrays}
use Rattle.arrays.specs.Arrays.{tree_in}
use Rattle.live_rules.specs.Soundness.{all, named, root_sound, class_sound, children_sum, tree_sound}

-- every row below n has a parent that is a row that there can be
abbrev pub Inside : ℕ → List ℕ → Type 0
Inside n parents = (r : ℕ) → r < n → get_or parents r 0 < most_rows

-- the sending classes among the rows below n
abbrev pub Senders : ℕ → List ℕ → List Bool → Type 0
Senders n parents marks = (tree : Tree) → tree.rows ≡ n → tree.parents ≡ parents → (r : ℕ) → r < n → sends tree r ≡ get_or marks r false

-- what the children of each row have in a list, added up
abbrev pub Sums : ℕ → List ℕ → List ℕ → List ℕ → Type 0
Sums n parents xs sums =
    (tree : Tree) → tree.parents ≡ parents → (p : ℕ) → p < most_rows → get_or sums p 0 ≡ children_sum tree xs p n

abbrev pub Named : ℕ → List ℕ → Bool → Type 0
Named n identifiers b = (tree : Tree) → tree.rows ≡ n → tree.identifiers ≡ take n identifiers → b ≡ all n (named tree)

-- the tests of a tree but what children have together
abbrev pub RowsSound : ℕ → List ℕ → TreeArrays → Bool → Type 0
RowsSound n identifiers tree b =
    let whole_tree = tree_in n (take n identifiers) tree in
    b ≡ (root_sound whole_tree && (all n (named whole_tree) && all n (λ r. eqb r 0 || class_sound whole_tree r)))

abbrev pub TreeSound : ℕ → List ℕ → TreeArrays → Bool → Type 0
TreeSound n identifiers tree b = b ≡ tree_sound (tree_in n (take n identifiers) tree)
