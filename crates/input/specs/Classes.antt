-- The class table and how it is read: parents as rows, children, depth, sending classes. The root, row 0, is the line.
use Rattle.std.specs.Prelude.{ℕ, zero, suc, ◌+◌, ◌%◌, ◌≡◌, Bool, false, cond, not, ◌&&◌, ◌||◌, List, [], ◌∷◌, ltb, eqb, length, get_or, take, set, replicate}
use Rattle.input.specs.Limits.{most_rows, on_air_identifiers}

-- the table as it is lent: for each row its identifier, its parent's identifier and its share
pub record Table : Type 0 where
  pub identifiers : List ℕ
  pub parent_identifiers : List ℕ
  pub shares : List ℕ

-- the table as it is read: an identifier for each row of the table; a parent, which is a row, a depth and a share for each row that there can be
pub record Tree : Type 0 where
  pub rows : ℕ
  pub identifiers : List ℕ
  pub parents : List ℕ
  pub depths : List ℕ
  pub shares : List ℕ

-- the place of the first x in a list; the list's length where it has none
unfoldable pub place_of : ℕ → List ℕ → ℕ
place_of x [] = 0
place_of x (y ∷ ys) = cond (eqb x y) 0 (suc (place_of x ys))

-- the earlier row whose identifier is x; r itself where there is none
unfoldable pub earlier : Table → ℕ → ℕ → ℕ
earlier table r x = place_of x (take r table.identifiers)

unfoldable pub parent_of : Table → ℕ → ℕ
parent_of table r = earlier table r (get_or table.parent_identifiers r 0)

unfoldable pub zeros : List ℕ
zeros = replicate most_rows 0

-- one row more is read: the root has depth 0, any other row one more than its parent
unfoldable pub with_row : Table → ℕ → Tree → Tree
with_row table r tree =
    record {
      rows = suc r;
      identifiers = tree.identifiers;
      parents = set tree.parents r (parent_of table r);
      depths = set tree.depths r (cond (eqb r 0) 0 (suc (get_or tree.depths (parent_of table r) 0)));
      shares = set tree.shares r (get_or table.shares r 0);
    }

-- the first rows of a table, read
unfoldable pub read : Table → ℕ → Tree
read table zero = record { rows = 0; identifiers = table.identifiers; parents = zeros; depths = zeros; shares = zeros }
read table (suc r) = with_row table r (read table r)

unfoldable pub tree_of : Table → Tree
tree_of table = read table (length table.identifiers)

abbrev pub parent : Tree → ℕ → ℕ
parent tree r = get_or tree.parents r 0

abbrev pub depth : Tree → ℕ → ℕ
depth tree r = get_or tree.depths r 0

abbrev pub share : Tree → ℕ → ℕ
share tree r = get_or tree.shares r 0

-- the row of the class with this identifier; the number of rows where there is none
unfoldable pub row_of : Tree → ℕ → ℕ
row_of tree class = place_of class tree.identifiers

-- an identifier as the modem sends it: its low bits
unfoldable pub on_air : ℕ → ℕ
on_air identifier = identifier % on_air_identifiers

-- what `on_air` states of its result, which is all of it
abbrev pub Cuts : ℕ → ℕ → Type 0
Cuts identifier r = r ≡ on_air identifier

-- r is a child of p; the root is nobody's
unfoldable pub child : Tree → ℕ → ℕ → Bool
child tree p r = ltb 0 r && eqb (parent tree r) p

-- some row below n is a child of p
unfoldable pub has_child : Tree → ℕ → ℕ → Bool
has_child tree p zero = false
has_child tree p (suc r) = has_child tree p r || child tree p r

-- a sending class: no child, and not the root
unfoldable pub sends : Tree → ℕ → Bool
sends tree r = ltb 0 r && not (has_child tree r tree.rows)

-- the shares of p's children among the rows below n, added up
unfoldable pub children_share : Tree → ℕ → ℕ → ℕ
children_share tree p zero = 0
children_share tree p (suc r) = children_share tree p r + cond (child tree p r) (share tree r) 0
