-- The parts of a class: of its parent and of the line, in hundredths of a per cent, cut.
use Rattle.std.specs.Prelude.{ℕ, zero, suc, ◌*◌, ◌/◌, ◌^◌, min}
use Rattle.input.specs.Limits.{whole, most_depth}
use Rattle.input.specs.Classes.{Tree, parent, depth, share}

-- hundredths of a per cent in all of it
abbrev pub hundredths : ℕ
hundredths = 10000

unfoldable pub of_parent : ℕ → ℕ
of_parent share = hundredths * share / whole

-- a row's share, which is never more than all
unfoldable pub part : Tree → ℕ → ℕ
part tree r = min (share tree r) whole

-- the parts on the way up from a row, so many steps, multiplied
unfoldable pub product : Tree → ℕ → ℕ → ℕ
product tree zero r = 1
product tree (suc steps) r = part tree r * product tree steps (parent tree r)

-- the steps to the line, which are never more than the deepest row has
unfoldable pub steps : Tree → ℕ → ℕ
steps tree r = min (depth tree r) most_depth

unfoldable pub of_line : Tree → ℕ → ℕ
of_line tree r = hundredths * product tree (steps tree r) r / whole ^ steps tree r

-- the shares on the way up from a row, so many steps, multiplied
unfoldable pub shares_up : Tree → ℕ → ℕ → ℕ
shares_up tree zero r = 1
shares_up tree (suc steps) r = share tree r * shares_up tree steps (parent tree r)
