-- `Looking::find` meets its contract: a look through all children tells the child that the rules pick.
-- Assumes nothing.
use Rattle.choosing.proofs.Taking.{looked}
use Rattle.choosing.proofs.finding.LookingFindingByTags.find.Goals as goal

pub returns : goal.returns
returns c tree class_of old = looked tree class_of _ c.args.self.now old.filed (c.choose.ensures _ _ old.filed)
