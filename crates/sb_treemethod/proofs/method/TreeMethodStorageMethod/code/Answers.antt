use Rattle.sb_treemethod.proofs.PutLaws.{IsMethod-tree_method}
use Rattle.sb_treemethod.proofs.method.TreeMethodStorageMethod.code.Goals as goal

pub returns-clause-law : goal.returns-clause-law
returns-clause-law c = IsMethod-tree_method
